-- The code of receivers stores the value on the stack where the tree does.
use Rattle.std.specs.Prelude.{◌≡◌, ℕ, suc, Bool, true, false, List, [], ◌∷◌, pos, Some, None, Result, Ok, Err}
use Rattle.std.proofs.Common.{refl, sym, ap, subst}
use Rattle.hal_grammar.specs.Leaves.{Naming}
use Rattle.hal_grammar.specs.Expressions.{Reference, Refers, Subscript, Unsubscripted, ByName, ByInteger, ByParts, Subscripts, NoSubscripts, MoreSubscripts}
use Rattle.hal_operations.specs.declared.part.Part.{Part}
use Rattle.hal_operations.specs.declared.part.Part.TheVariants as part
use Rattle.hal_operations.specs.Parts.{patched, mended_patch, place_count}
use Rattle.hal_values.specs.declared.environment.ErrNo.{ErrNo}
use Rattle.hal_values.specs.declared.value.Kind.{Kind}
use Rattle.hal_values.specs.declared.value.Value.{Value}
use Rattle.hal_values.specs.declared.value.Value.TheVariants as value
use Rattle.hal_values.specs.Answers.{Answered}
use Rattle.hal_states.specs.Numbers.{integer_of}
use Rattle.hal_states.specs.Spots.{Spot, Held, further}
use Rattle.hal_meaning.specs.Elements.{chosen, offset}
use Rattle.hal_meaning.specs.States.{State, Evaluated, bind}
use Rattle.hal_meaning.specs.Access.{Here, raise, read, store}
use Rattle.hal_meaning.specs.Variables.{Meant, MeantData, MeantConstant, MeantEvent, MeantBlock, MeantBuiltin, MeantNothing, name_meant, spot_meant, spot_named, kind_of_first, is_arrayed}
use Rattle.hal_meaning.specs.Expressions.{Located, named_value, part_chosen, sizes_named, data_chosen, meant_chosen}
use Rattle.hal_meaning.specs.Statements.{replaced, components_in, component_received, received_by, is_array_named, received}
use Rattle.hal_meaning.specs.Tasks.{Meaning}
use Rattle.hal_code.specs.declared.instr.Instr.TheVariants as instr
use Rattle.hal_code.specs.declared.operand.Places.{Places}
use Rattle.hal_code.specs.declared.operand.Places.TheVariants as places
use Rattle.hal_code.specs.declared.row.Target.TheVariants as target
use Rattle.hal_code.specs.Cores.{Operand, Val, At, Goes, Step, Moves}
use Rattle.hal_code.specs.Raising.{stuck}
use Rattle.hal_code.specs.Computing as machine
use Rattle.hal_code.specs.Computing.{part_taken, part_patched}
use Rattle.hal_agreement.specs.Codes.{Code}
use Rattle.hal_agreement.specs.Sites.{site_of, here_at}
use Rattle.hal_agreement.specs.PlacedExpressions.{Has, One, ChosenAt, places_of}
use Rattle.hal_agreement.specs.PlacedStatements.{patches, KeptAt, StoredAt, ReceivedAt, AddressedAt, ReceiverAt}
use Rattle.hal_agreement.proofs.Expressing.{name_same, spot_same, OfNothing, named_reaches, chosen_reaches, part_reaches}
use Rattle.hal_agreement.proofs.Knowing.{Sound}
use Rattle.hal_agreement.proofs.Raising.{Standing, read_reaches, raised_reaches, store_reaches}
use Rattle.hal_agreement.proofs.Reaching.{Nest, setting, core_at, Reaches, bind_reaches, acts}
use Rattle.hal_agreement.proofs.Viewing.{address_reaches}

module _ (code : Code) (begin : ℕ) (rec : Meaning) (sound : Sound code begin rec) (h : Here) (n : Nest) (standing : Standing code h n) where
  -- a value is stored, and control goes on there with these operands
  abbrev Done : ℕ → List Operand → Step → List Answered → Evaluated (Unit {0}) → Type 0
  Done to under step left r = Reaches (setting code begin h) n (λ (done : Unit {0}) st. Some (Moves (core_at to under [] n st))) step left r

  abbrev From : ℕ → List Operand → State → Step
  From at stack st = Moves (core_at at stack [] n st)

  -- KEEP
  pub keep_reaches : (k : Kind) (spot : Spot) (v : Value) (from to : ℕ) (under : List Operand) (st : State) → One code from instr.Keep to → Done to under (From from (At spot k ∷ Val v ∷ under) st) st.left (store h k spot v st)
  keep_reaches k spot v from to under st one =
      subst (λ end. Done end under (From from (At spot k ∷ Val v ∷ under) st) st.left (store h k spot v st)) one.1
      (acts (setting code begin h) n (λ (done : Unit {0}) after. Some (Moves (core_at (suc from) under [] n after))) (core_at from (At spot k ∷ Val v ∷ under) [] n st) st.left instr.Keep (store h k spot v st) one.0
      (store_reaches code begin h n standing (suc from) under [] k spot v st))

  -- the value with its component replaced, or the nearest one after an error, is kept
  patched_reaches : (k : Kind) (spot : Spot) (old new : Value) (p : Part) (r : Result Value ErrNo) (at to : ℕ) (before under : List Operand) (st : State) → One code (suc at) instr.Keep to
      → Done to under (machine.replaced (setting code begin h) r (mended_patch old p new) (At spot k) under (core_at at before [] n st)) st.left
      (elim r [ Ok v ↦ store h k spot v st | Err e ↦ bind (raise h e st) (λ ignored after. store h k spot (mended_patch old p new) after) ])
  patched_reaches k spot old new p (Ok v) at to before under st one = keep_reaches k spot v (suc at) to under st one
  patched_reaches k spot old new p (Err e) at to before under st one =
      raised_reaches code begin h n standing _ e Goes (suc at) (At spot k ∷ Val (mended_patch old p new) ∷ under) [] st (λ ignored after. store h k spot (mended_patch old p new) after)
      (λ after. keep_reaches k spot (mended_patch old p new) (suc at) to under after one)

  -- PATCH and KEEP, behind the old value and the places of its component
  replaced_reaches : (taken : Places) (chosen : List Operand) (k : Kind) (spot : Spot) (old new : Value) (p : Part) (at to : ℕ) (under : List Operand) (st : State) → part_taken taken chosen ≡ Some (p, Val old ∷ At spot k ∷ Val new ∷ under)
      → Has code at (patches taken) → One code (suc at) instr.Keep to → Done to under (From at chosen st) st.left (replaced h k spot old new p st)
  replaced_reaches taken chosen k spot old new p at to under st is has one =
      acts (setting code begin h) n _ (core_at at chosen [] n st) st.left (patches taken) _ has
      (subst (λ step. Done to under step st.left (replaced h k spot old new p st))
      (sym (ap (λ o. elim o [ None ↦ stuck (core_at at chosen [] n st) | Some got ↦ part_patched (setting code begin h) got.0 got.1 (core_at at chosen [] n st) ]) is))
      (patched_reaches k spot old new p (patched old p new) at to chosen under st one))

  -- PEEK, and what is done with the old value
  peeked : (k : Kind) (spot : Spot) (v : Value) (from to : ℕ) (under : List Operand) (st : State) (go : Value → State → Evaluated (Unit {0})) → Has code from instr.Peek
      → ((old : Value) (after : State) → Done to under (From (suc from) (Val old ∷ At spot k ∷ Val v ∷ under) after) after.left (go old after))
      → Done to under (From from (At spot k ∷ Val v ∷ under) st) st.left (bind (read h k spot st) go)
  peeked k spot v from to under st go has each =
      acts (setting code begin h) n _ (core_at from (At spot k ∷ Val v ∷ under) [] n st) st.left instr.Peek _ has
      (bind_reaches (setting code begin h) n (λ old after. From (suc from) (Val old ∷ At spot k ∷ Val v ∷ under) after) _ _ st.left (read h k spot st) go
      (read_reaches code begin h n standing from (At spot k ∷ Val v ∷ under) (At spot k ∷ Val v ∷ under) [] k spot st) each)

  stored_reaches : (l : Located) (list : Subscripts) (v : Value) (from to : ℕ) (under : List Operand) (st : State) → StoredAt code (site_of h) list from to
      → Done to under (From from (At l.at l.kind ∷ Val v ∷ under) st) st.left (component_received rec h l list v st)
  stored_reaches l NoSubscripts v from to under st one = keep_reaches l.kind l.at v from to under st one
  stored_reaches l (MoreSubscripts first others) v from to under st here =
      peeked l.kind l.at v from to under st (λ old after. bind (part_chosen rec h (place_count old) first after) (λ p later. replaced h l.kind l.at old v p later)) here.1
      (λ old after. part_reaches code begin rec sound h n standing OfNothing _ first (suc from) here.0 old (At l.at l.kind ∷ Val v ∷ under) [] after (λ p later. replaced h l.kind l.at old v p later) here.2
      (λ chosen p later is. replaced_reaches (places_of first) chosen l.kind l.at old v p here.0 to under later is here.3 here.4))

  received_reaches_by : (l : Located) (arrayed : Bool) (subscript : Subscript) (v : Value) (from to : ℕ) (under : List Operand) (st : State) → ReceivedAt code (site_of h) arrayed subscript from to
      → Done to under (From from (At l.at l.kind ∷ Val v ∷ under) st) st.left (received_by rec h l arrayed subscript v st)
  received_reaches_by l true Unsubscripted v from to under st here = stored_reaches l NoSubscripts v from to under st here
  received_reaches_by l false Unsubscripted v from to under st here = stored_reaches l NoSubscripts v from to under st here
  received_reaches_by l true (ByName place name) v from to under st here = stored_reaches l NoSubscripts v from to under st here
  received_reaches_by l true (ByInteger place mark number) v from to under st here = stored_reaches l NoSubscripts v from to under st here
  received_reaches_by l true (ByParts place copies arrays components) v from to under st here = stored_reaches l (components_in true (ByParts place copies arrays components)) v from to under st here
  received_reaches_by l false (ByParts place copies arrays components) v from to under st here = stored_reaches l components v from to under st here
  received_reaches_by l false (ByName place name) v from to under st here =
      peeked l.kind l.at v from to under st (λ old after. bind (named_value rec h name after) (λ i later. replaced h l.kind l.at old v (part.One (integer_of i)) later)) here.1
      (λ old after. bind_reaches (setting code begin h) n (λ i later. From here.0 (Val i ∷ Val old ∷ At l.at l.kind ∷ Val v ∷ under) later) _ _ after.left (named_value rec h name after)
      (λ i later. replaced h l.kind l.at old v (part.One (integer_of i)) later) (named_reaches code begin rec sound h n standing name.name [] (suc from) here.0 (Val old ∷ At l.at l.kind ∷ Val v ∷ under) [] after here.2)
      (λ i later. replaced_reaches places.One (Val i ∷ Val old ∷ At l.at l.kind ∷ Val v ∷ under) l.kind l.at old v (part.One (integer_of i)) here.0 to under later refl here.3 here.4))
  received_reaches_by l false (ByInteger place mark number) v from to under st here =
      peeked l.kind l.at v from to under st (λ old after. replaced h l.kind l.at old v (part.One (pos number)) after) here.0
      (λ old after. acts (setting code begin h) n _ (core_at (suc from) (Val old ∷ At l.at l.kind ∷ Val v ∷ under) [] n after) after.left (instr.Int (pos number)) _ here.1
      (replaced_reaches places.One (Val (value.Int (pos number)) ∷ Val old ∷ At l.at l.kind ∷ Val v ∷ under) l.kind l.at old v (part.One (pos number)) (suc (suc from)) to under after refl here.2 here.3))

  -- a name without subscripts
  plain_received : (spot : List Held → Spot) (path : List Naming) (m : Meant) (v : Value) (from to : ℕ) (under : List Operand) (st : State) → spot st.kept.places ≡ spot_meant m → KeptAt code path st.kept.places m from to
      → Done to under (From from (Val v ∷ under) st) st.left
      (bind (meant_chosen (λ shape before. data_chosen rec h path Unsubscripted spot shape before) m st) (λ l after. received_by rec h l (is_array_named path m) Unsubscripted v after))
  plain_received spot path (MeantData at shape) v from to under st same here =
      subst (λ place. Done to under (From from (Val v ∷ under) st) st.left
      (received_by rec h (record { at = further (offset path shape.components) place; kind = kind_of_first (chosen path shape.components) }) (is_arrayed (sizes_named path shape)) Unsubscripted v st)) (sym same)
      (address_reaches code begin h n _ (kind_of_first (chosen path shape.components)) (further (offset path shape.components) at) from (Val v ∷ under) [] st _ here.0
      (received_reaches_by (record { at = further (offset path shape.components) at; kind = kind_of_first (chosen path shape.components) }) (is_arrayed (sizes_named path shape)) Unsubscripted v (suc from) to under st
      (unmarked (is_arrayed (sizes_named path shape)) (suc from) to here.1)))
    where
      unmarked : (arrayed : Bool) (from to : ℕ) → One code from instr.Keep to → ReceivedAt code (site_of h) arrayed Unsubscripted from to
      unmarked true from to one = one
      unmarked false from to one = one
  plain_received spot path (MeantConstant w) v from to under st same here = absurd here
  plain_received spot path (MeantEvent e) v from to under st same here = absurd here
  plain_received spot path (MeantBlock unit) v from to under st same here = absurd here
  plain_received spot path (MeantBuiltin b) v from to under st same here = absurd here
  plain_received spot path MeantNothing v from to under st same here = absurd here

  -- and with a subscript
  marked_received : (spot : List Held → Spot) (path : List Naming) (subscript : Subscript) (m : Meant) (v : Value) (from to : ℕ) (under : List Operand) (st : State)
      → AddressedAt code (site_of h) path subscript (λ shape begins ends. ChosenAt code (site_of h) (target.Cell (kind_of_first (chosen path shape.components))) path subscript spot shape begins ends) m from to
      → Done to under (From from (Val v ∷ under) st) st.left
      (bind (meant_chosen (λ shape before. data_chosen rec h path subscript spot shape before) m st) (λ l after. received_by rec h l (is_array_named path m) subscript v after))
  marked_received spot path subscript (MeantData at shape) v from to under st here =
      chosen_reaches code begin rec sound h n standing OfNothing _ (target.Cell (kind_of_first (chosen path shape.components))) path subscript spot shape from here.0 (Val v ∷ under) [] st (λ l after. received_by rec h l (is_arrayed (sizes_named path shape)) subscript v after) here.1
      (λ place after. received_reaches_by (record { at = place; kind = kind_of_first (chosen path shape.components) }) (is_arrayed (sizes_named path shape)) subscript v here.0 to under after here.2)
  marked_received spot path subscript (MeantConstant w) v from to under st here = absurd here
  marked_received spot path subscript (MeantEvent e) v from to under st here = absurd here
  marked_received spot path subscript (MeantBlock unit) v from to under st here = absurd here
  marked_received spot path subscript (MeantBuiltin b) v from to under st here = absurd here
  marked_received spot path subscript MeantNothing v from to under st here = absurd here

  -- data that a receiver with a subscript means go by the site alone
  marked_same : (name : List ℕ) (path : List Naming) (subscript : Subscript) (held : List Held) (from to : ℕ)
      → AddressedAt code (site_of h) path subscript (λ shape begins ends. ChosenAt code (site_of h) (target.Cell (kind_of_first (chosen path shape.components))) path subscript (spot_named (here_at (site_of h)) name) shape begins ends) (name_meant (here_at (site_of h)) name held) from to
      → AddressedAt code (site_of h) path subscript (λ shape begins ends. ChosenAt code (site_of h) (target.Cell (kind_of_first (chosen path shape.components))) path subscript (spot_named h name) shape begins ends) (name_meant h name held) from to
  marked_same name path subscript held from to here =
      subst (λ spot. AddressedAt code (site_of h) path subscript (λ shape begins ends. ChosenAt code (site_of h) (target.Cell (kind_of_first (chosen path shape.components))) path subscript spot shape begins ends) (name_meant h name held) from to) (spot_same h name)
      (subst (λ m. AddressedAt code (site_of h) path subscript (λ shape begins ends. ChosenAt code (site_of h) (target.Cell (kind_of_first (chosen path shape.components))) path subscript (spot_named (here_at (site_of h)) name) shape begins ends) m from to) (name_same h name held) here)

  -- a receiver
  pub received_reaches : (reference : Reference) (v : Value) (from to : ℕ) (under : List Operand) (st : State) → ReceiverAt code (site_of h) reference from to → Done to under (From from (Val v ∷ under) st) st.left (received rec h v reference st)
  received_reaches (Refers place name path Unsubscripted) v from to under st here =
      plain_received (spot_named h name) path (name_meant h name st.kept.places) v from to under st refl (subst (λ m. KeptAt code path st.kept.places m from to) (name_same h name st.kept.places) (here st.kept.places))
  received_reaches (Refers place name path (ByName at one)) v from to under st here =
      marked_received (spot_named h name) path (ByName at one) (name_meant h name st.kept.places) v from to under st (marked_same name path (ByName at one) st.kept.places from to (here st.kept.places))
  received_reaches (Refers place name path (ByInteger at mark number)) v from to under st here =
      marked_received (spot_named h name) path (ByInteger at mark number) (name_meant h name st.kept.places) v from to under st (marked_same name path (ByInteger at mark number) st.kept.places from to (here st.kept.places))
  received_reaches (Refers place name path (ByParts at copies arrays components)) v from to under st here =
      marked_received (spot_named h name) path (ByParts at copies arrays components) (name_meant h name st.kept.places) v from to under st (marked_same name path (ByParts at copies arrays components) st.kept.places from to (here st.kept.places))
