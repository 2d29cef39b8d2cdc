-- The code of a DO FOR's variable, of its tests, and of its list of values does what the tree says.
use Rattle.std.specs.Prelude.{◌≡◌, ℕ, suc, Bool, true, false, List, [], ◌∷◌, pos, Option, Some, None, slice_get, if◌then◌else◌}
use Rattle.std.proofs.Common.{refl, sym, ap, subst, ◌∙◌}
use Rattle.hal_grammar.specs.Leaves.{Naming}
use Rattle.hal_grammar.specs.Expressions.{Expression, Expressions, NoExpressions, MoreExpressions}
use Rattle.hal_grammar.specs.Statements.{Guard}
use Rattle.hal_values.specs.declared.value.Value.{Value}
use Rattle.hal_values.specs.declared.value.Value.TheVariants as value
use Rattle.hal_states.specs.Spots.{Spot, further}
use Rattle.hal_meaning.specs.Access.{Here, within, read, store}
use Rattle.hal_meaning.specs.Elements.{Component, chosen, offset}
use Rattle.hal_meaning.specs.Expressions.{expression}
use Rattle.hal_meaning.specs.States.{State, Evaluated, bind, Flow}
use Rattle.hal_meaning.specs.Statements.{turn_if, span_holds, kept_at, held_at, is_number, kind_meant, variable_stored, variable_read, group_here, listed, next_listed}
use Rattle.hal_meaning.specs.Tasks.{Meaning}
use Rattle.hal_meaning.specs.Variables.{Meant, MeantData, MeantConstant, MeantEvent, MeantBlock, MeantBuiltin, MeantNothing, name_meant, spot_meant, kind_of_first}
use Rattle.hal_code.specs.Cores.{Val, At, Step, Moves}
use Rattle.hal_code.specs.declared.instr.Instr.TheVariants as instr
use Rattle.hal_agreement.specs.Codes.{Code}
use Rattle.hal_agreement.specs.Sites.{Site, site_of, group_site}
use Rattle.hal_agreement.specs.PlacedExpressions.{Has, AddressAt}
use Rattle.hal_agreement.specs.PlacedStatements.{opened, Exits, within_group, KeptAt, VariableAt, FetchedAt, VariableValueAt, FirstSpanAt, LaterSpanAt, ValueKeptAt, NextValueAt, ListingAt}
use Rattle.hal_agreement.proofs.Expressing.{name_same}
use Rattle.hal_agreement.proofs.Keeping.{onward, keeps_reaches, case_reaches}
use Rattle.hal_agreement.proofs.Knowing.{flow_to, Out, Sound}
use Rattle.hal_agreement.proofs.Raising.{Standing, bind_bind, read_reaches}
use Rattle.hal_agreement.proofs.Reaching.{Nest, setting, core_at, Reaches, bind_reaches}
use Rattle.hal_agreement.proofs.Receiving.{keep_reaches}
use Rattle.hal_agreement.proofs.Stating.{FlowsAt, Begins, DoneAt, normal, final, valued, first_test_reaches, test_reaches, turn_reaches}
use Rattle.hal_agreement.proofs.Viewing.{further_none, address_reaches}

-- what holds within a DO FOR, where its names are looked up
pub in_group_of : (h : Here) (temporary : Bool) (m : ℕ) (P : Here → Site → Type 0) → P h (site_of h) → ((k : ℕ) → P (within k h) (site_of (within k h))) → P (group_here h temporary m) (group_site (site_of h) temporary m)
in_group_of h false m P is each = is
in_group_of h true m P is each = by (slice_get h.marks m)
  where
    by : (o : Option ℕ) → P (elim o [ None ↦ h | Some k ↦ within k h ]) (elim o [ None ↦ site_of h | Some k ↦ site_of (within k h) ])
    by None = is
    by (Some k) = each k

-- data begin with their first component
none_before : (components : List Component) → offset [] components ≡ 0
none_before [] = refl
none_before (c ∷ cs) = refl

none_further : (at : Spot) (components : List Component) → further (offset [] components) at ≡ at
none_further at components = ap (λ k. further k at) (none_before components) ∙ further_none at

pub stands_within : (code : Code) (h : Here) (n : Nest) (k : ℕ) → Standing code h n → Standing code (within k h) n
stands_within code h n k standing = record { units = standing.units; process = standing.process; entered = standing.entered; unleft = standing.unleft }

module _ (code : Code) (begin : ℕ) (rec : Meaning) (sound : Sound code begin rec) (h : Here) (n : Nest) (standing : Standing code h n) (out : Out) where
  -- control goes on there
  abbrev pub At_step : ℕ → State → Step
  At_step at st = Begins code begin rec sound h n standing out at st

  kept_reaches : (m : Meant) (v : Value) (from to : ℕ) (st : State) → KeptAt code [] st.kept.places m from to
      → DoneAt code begin rec sound h n standing out to [] [] (Moves (core_at from (Val v ∷ []) [] n st)) st.left (store h (kind_meant [] m) (spot_meant m) v st)
  kept_reaches (MeantData at shape) v from to st here =
      address_reaches code begin h n _ (kind_of_first (chosen [] shape.components)) at from (Val v ∷ []) [] st _
      (subst (λ spot. AddressAt code st.kept.places (kind_of_first (chosen [] shape.components)) spot from) (none_further at shape.components) here.0)
      (keep_reaches code begin rec sound h n standing (kind_of_first (chosen [] shape.components)) at v (suc from) to [] st here.1)
  kept_reaches (MeantConstant w) v from to st here = absurd here
  kept_reaches (MeantEvent e) v from to st here = absurd here
  kept_reaches (MeantBlock unit) v from to st here = absurd here
  kept_reaches (MeantBuiltin b) v from to st here = absurd here
  kept_reaches MeantNothing v from to st here = absurd here

  pub variable_reaches : (name : List ℕ) (v : Value) (from to : ℕ) (st : State) → VariableAt code (site_of h) name from to
      → DoneAt code begin rec sound h n standing out to [] [] (Moves (core_at from (Val v ∷ []) [] n st)) st.left (variable_stored h name v st)
  variable_reaches name v from to st here =
      kept_reaches (name_meant h name st.kept.places) v from to st (subst (λ m. KeptAt code [] st.kept.places m from to) (name_same h name st.kept.places) (here st.kept.places))

  -- a value, behind which control goes on
  abbrev ValueAt : ℕ → Step → State → Evaluated Value → Type 0
  ValueAt to step st r = Reaches (setting code begin h) n (λ v after. Some (Moves (core_at to (Val v ∷ []) [] n after))) step st.left r

  fetched_reaches : (m : Meant) (from to : ℕ) (st : State) → FetchedAt code st.kept.places m from to → ValueAt to (At_step from st) st (read h (kind_meant [] m) (spot_meant m) st)
  fetched_reaches (MeantData at shape) from to st here =
      address_reaches code begin h n _ (kind_of_first (chosen [] shape.components)) at from [] [] st _
      (subst (λ spot. AddressAt code st.kept.places (kind_of_first (chosen [] shape.components)) spot from) (none_further at shape.components) here.0)
      (final code begin rec sound h n standing out (λ end v after. Some (Moves (core_at end (Val v ∷ []) [] n after))) instr.Fetch (suc from) to (At at (kind_of_first (chosen [] shape.components)) ∷ []) [] st _ here.1
      (read_reaches code begin h n standing (suc from) (At at (kind_of_first (chosen [] shape.components)) ∷ []) [] [] (kind_of_first (chosen [] shape.components)) at st))
  fetched_reaches (MeantConstant w) from to st here = absurd here
  fetched_reaches (MeantEvent e) from to st here = absurd here
  fetched_reaches (MeantBlock unit) from to st here = absurd here
  fetched_reaches (MeantBuiltin b) from to st here = absurd here
  fetched_reaches MeantNothing from to st here = absurd here

  pub variable_value : (name : List ℕ) (from to : ℕ) (st : State) → VariableValueAt code (site_of h) name from to → ValueAt to (At_step from st) st (variable_read h name st)
  variable_value name from to st here =
      fetched_reaches (name_meant h name st.kept.places) from to st (subst (λ m. FetchedAt code st.kept.places m from to) (name_same h name st.kept.places) (here st.kept.places))

  -- what follows wherever a test leads
  abbrev pub Each : {A : Type 0} → (A → State → Option Step) → ℕ → ℕ → (Bool → State → Evaluated A) → Type 0
  Each fine to exit go = (b : Bool) (after : State) → Reaches (setting code begin h) n fine (At_step (if b then to else exit) after) after.left (go b after)

  -- the test before the first turn
  pub first_span_reaches : {A : Type 0} (fine : A → State → Option Step) (o : Option Guard) (from exit to : ℕ) (st : State) (go : Bool → State → Evaluated A) → FirstSpanAt code (site_of h) o from exit to → Each fine to exit go
      → Reaches (setting code begin h) n fine (At_step from st) st.left (bind (span_holds rec h true o st) go)
  first_span_reaches fine None from exit to st go here each = subst (λ at. Reaches (setting code begin h) n fine (At_step at st) st.left (go true st)) (sym here) (each true st)
  first_span_reaches fine (Some g) from exit to st go here each = first_test_reaches code begin rec sound h n standing out fine g from exit to st go here each

  -- before a later one
  pub later_span_reaches : {A : Type 0} (fine : A → State → Option Step) (o : Option Guard) (from turn to : ℕ) (st : State) (go : Bool → State → Evaluated A) → LaterSpanAt code (site_of h) o from turn to → Each fine turn to go
      → Reaches (setting code begin h) n fine (At_step from st) st.left (bind (span_holds rec h false o st) go)
  later_span_reaches fine None from turn to st go here each = onward code begin h n fine (instr.Jump turn) from [] turn [] st st (go true st) here.0 refl (each true st)
  later_span_reaches fine (Some g) from turn to st go here each = test_reaches code begin rec sound h n standing out fine g from turn to st go here each

  -- a value of the list, and the test for it
  pub value_kept_reaches : {A : Type 0} (fine : A → State → Option Step) (name : List ℕ) (place k : ℕ) (first : Bool) (tree : Expression) (g : Option Guard) (from to : ℕ) (st : State) (go : Bool → State → Evaluated A)
      → ValueKeptAt code (site_of h) name place k tree from to → ((after : State) → Reaches (setting code begin h) n fine (At_step to after) after.left (bind (span_holds rec h first g after) go))
      → Reaches (setting code begin h) n fine (At_step from st) st.left (bind (listed rec h name place k first tree g st) go)
  value_kept_reaches fine name place k first tree g from to st go here each =
      subst (λ r. Reaches (setting code begin h) n fine (At_step from st) st.left r) (sym (bind_bind (expression rec h tree st) (λ v st1. bind (variable_stored h name v st1) (λ done st2. span_holds rec h first g (kept_at place (value.Int (pos k)) st2))) go))
      (valued code begin rec sound h n standing out fine tree from here.0 [] st (λ v st1. bind (bind (variable_stored h name v st1) (λ done st2. span_holds rec h first g (kept_at place (value.Int (pos k)) st2))) go) here.2
      (λ v st1. subst (λ r. Reaches (setting code begin h) n fine (Moves (core_at here.0 (Val v ∷ []) [] n st1)) st1.left r)
      (sym (bind_bind (variable_stored h name v st1) (λ done st2. span_holds rec h first g (kept_at place (value.Int (pos k)) st2)) go))
      (bind_reaches (setting code begin h) n (λ done after. At_step here.1 after) fine _ st1.left (variable_stored h name v st1) (λ done st2. bind (span_holds rec h first g (kept_at place (value.Int (pos k)) st2)) go)
      (variable_reaches name v here.0 here.1 st1 here.3)
      (λ done st2. onward code begin h n fine (instr.Int (pos k)) here.1 [] (suc here.1) (Val (value.Int (pos k)) ∷ []) st2 st2 (bind (span_holds rec h first g (kept_at place (value.Int (pos k)) st2)) go) here.4 refl
      (keeps_reaches code begin h n fine place (value.Int (pos k)) (suc here.1) to [] st2 (bind (span_holds rec h first g (kept_at place (value.Int (pos k)) st2)) go) here.5 (each (kept_at place (value.Int (pos k)) st2)))))))

  -- one of two ways on
  chosen_by : {A B : Type 0} (fine : A → State → Option Step) (b : Bool) (to other : ℕ) (st : State) (held failed : Evaluated B) (go : B → State → Evaluated A) → Reaches (setting code begin h) n fine (At_step to st) st.left (bind held go)
      → Reaches (setting code begin h) n fine (At_step other st) st.left (bind failed go) → Reaches (setting code begin h) n fine (At_step (if b then to else other) st) st.left (bind (if b then held else failed) go)
  chosen_by fine true to other st held failed go is are = is
  chosen_by fine false to other st held failed go is are = are

  -- the value behind as many as were stored
  next_value_reaches : {A : Type 0} (fine : A → State → Option Step) (name : List ℕ) (place k : ℕ) (values : Expressions) (g : Option Guard) (from exit test to : ℕ) (st : State) (go : Bool → State → Evaluated A)
      → NextValueAt code (site_of h) name place k values from exit test to → ((after : State) → Reaches (setting code begin h) n fine (At_step test after) after.left (bind (span_holds rec h false g after) go))
      → ((after : State) → Reaches (setting code begin h) n fine (At_step exit after) after.left (go false after))
      → Reaches (setting code begin h) n fine (At_step from st) st.left (bind (next_listed rec h name place k values g st) go)
  next_value_reaches fine name place k NoExpressions g from exit test to st go here tests ends = onward code begin h n fine (instr.Jump exit) from [] exit [] st st (go false st) here.0 refl (ends st)
  next_value_reaches fine name place k (MoreExpressions tree others) g from exit test to st go here tests ends =
      case_reaches code begin h n fine place k from (suc here.1) here.0 st (bind (next_listed rec h name place k (MoreExpressions tree others) g st) go) here.2
      (chosen_by fine (is_number (held_at place st) k) here.0 (suc here.1) st (listed rec h name place (suc k) false tree g st) (next_listed rec h name place (suc k) others g st) go
      (value_kept_reaches fine name place (suc k) false tree g here.0 here.1 st go here.3
      (λ after. onward code begin h n fine (instr.Jump test) here.1 [] test [] after after (bind (span_holds rec h false g after) go) here.4 refl (tests after)))
      (next_value_reaches fine name place (suc k) others g (suc here.1) exit test to st go here.5 tests ends))

  -- what stands behind a turn of a DO FOR with a list
  pub listing_reaches : (exits : Exits) (labels : List Naming) (name : List ℕ) (place : ℕ) (values : Expressions) (g : Option Guard) (run next : State → Evaluated Flow) (turn again to : ℕ) → Has code turn (instr.Turn to)
      → ListingAt code (site_of h) name place values g again turn to
      → ((st : State) → FlowsAt code begin rec sound h n standing out (within_group (opened labels to (Some again)) exits) again (At_step (suc turn) st) st.left (run st))
      → ((st : State) → FlowsAt code begin rec sound h n standing out exits to (At_step again st) st.left (next st))
      → (st : State) → FlowsAt code begin rec sound h n standing out exits to (At_step again st) st.left (bind (next_listed rec h name place 1 values g st) (λ held after. turn_if h labels run next held after))
  listing_reaches exits labels name place values g run next turn again to has here bodies nexts st =
      next_value_reaches (flow_to exits out n to) name place 1 values g again to here.0 here.0 st (λ held after. turn_if h labels run next held after) here.1
      (λ after. later_span_reaches (flow_to exits out n to) g here.0 turn to after (λ held later. turn_if h labels run next held later) here.2
      (λ b later. turn_reaches code begin rec sound h n standing out exits labels run next turn again to has bodies nexts b later))
      (λ after. normal code begin rec sound h n standing out exits to after)

  -- its beginning, with the first turn
  pub listed_reaches : (exits : Exits) (labels : List Naming) (name : List ℕ) (place : ℕ) (tree : Expression) (g : Option Guard) (run next : State → Evaluated Flow) (from test turn again to : ℕ)
      → ValueKeptAt code (site_of h) name place 1 tree from test → FirstSpanAt code (site_of h) g test to turn → Has code turn (instr.Turn to)
      → ((st : State) → FlowsAt code begin rec sound h n standing out (within_group (opened labels to (Some again)) exits) again (At_step (suc turn) st) st.left (run st))
      → ((st : State) → FlowsAt code begin rec sound h n standing out exits to (At_step again st) st.left (next st))
      → (st : State) → FlowsAt code begin rec sound h n standing out exits to (At_step from st) st.left (bind (listed rec h name place 1 true tree g st) (λ held after. turn_if h labels run next held after))
  listed_reaches exits labels name place tree g run next from test turn again to kept guard has bodies nexts st =
      value_kept_reaches (flow_to exits out n to) name place 1 true tree g from test st (λ held after. turn_if h labels run next held after) kept
      (λ after. first_span_reaches (flow_to exits out n to) g test to turn after (λ held later. turn_if h labels run next held later) guard
      (λ b later. turn_reaches code begin rec sound h n standing out exits labels run next turn again to has bodies nexts b later))
