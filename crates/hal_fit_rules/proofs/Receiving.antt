-- Receivers that agree take what is assigned to them, where no rule of types is broken.
use Rattle.std.proofs.Common.{◌≡◌, ℕ, suc, nat_lt, Bool, true, false, ◌&&◌, List, [], ◌∷◌, length, Option, Some, None, slice_get, inl, inr, if◌then◌else◌, refl, sym, ap, ◌∙◌, arith}
use Rattle.std.specs.Option.{option_and_then}
use Rattle.std.proofs.lemmas.Bool.{and_from, and_parts, lt-ltb}
use Rattle.hal_base.specs.declared.refusal.Place.{Place}
use Rattle.hal_grammar.specs.Leaves.{Naming}
use Rattle.hal_grammar.specs.Expressions.{Reference, Refers, Subscript, Unsubscripted, ByName, ByInteger, ByParts, Subscripts, NoSubscripts, MoreSubscripts, place_of_reference}
use Rattle.hal_phrases.specs.declared.around.Around.{Around}
use Rattle.hal_phrases.specs.declared.role.Role.TheVariants as role
use Rattle.hal_phrases.specs.Phrases.{Node, Phrase, phrase, add, gathered_each, OfTemplate, OfUnit, OfReference}
use Rattle.hal_phrases.specs.GatheredExpressions.{below, gathered_reference}
use Rattle.hal_phrases.specs.GatheredStatements.{gathered_receiver}
use Rattle.hal_names.specs.Means.{means}
use Rattle.hal_scope.specs.Builtins.{builtin_named}
use Rattle.hal_scope.specs.Rules.{IsSound}
use Rattle.hal_scope.specs.Uses.{is_nil}
use Rattle.hal_kinds.specs.declared.class.Class.{Class}
use Rattle.hal_kinds.specs.declared.data.Data.{Data}
use Rattle.hal_kinds.specs.Classes.{class_of_builtin, class_at, class_of_reference}
use Rattle.hal_kinds.specs.Data.{data_at}
use Rattle.hal_kinds.specs.Subscripts as kinds
use Rattle.hal_kinds.specs.Subscripts.{subscript_count, choice_of, parts_chosen, class_in, class_left}
use Rattle.hal_operands.specs.declared.want.Want.TheVariants as want
use Rattle.hal_operands.specs.Taken.{takes as class_takes, all_take}
use Rattle.hal_operands.specs.Wants.{misfit, misfit_of_receiver, receiver_misfit, unfit}
use Rattle.hal_uses.specs.Subscripts.{is_event_name, data_fault, fault_at, builtin_fault, named_fault, reference_fault}
use Rattle.hal_types.specs.Rules.{operand_rows, type_rows}
use Rattle.hal_values.specs.declared.value.Kind as values
use Rattle.hal_meaning.specs.Elements.{Shape, chosen}
use Rattle.hal_meaning.specs.Expressions.{sizes_named}
use Rattle.hal_meaning.specs.Variables.{Meant, MeantData, MeantConstant, MeantEvent, MeantBlock, MeantBuiltin, MeantNothing, name_meant, kind_of_first, is_arrayed}
use Rattle.hal_states.specs.Spots.{Spot}
use Rattle.hal_code.specs.Effects.{has_places, is_value}
use Rattle.hal_code.specs.Sorts.{Sort, sort_of, takes, takes_part}
use Rattle.hal_agreement.specs.Sites.{Site, here_at}
use Rattle.hal_fit_expr.specs.Uses.{Uses}
use Rattle.hal_fit_expr.specs.Sorted.{is_integer, sort_of_name, places_fit, part_fits}
use Rattle.hal_fit.specs.Received.{kept_fits, stored_fits, received_fits, addressed_fits, receiver_fits, receivers_fit}
use Rattle.hal_fit_classes.specs.Kinded.{sort_of_class}
use Rattle.hal_fit_rules.specs.Begun.{AreFirst}
use Rattle.hal_fit_rules.specs.Agreeing.{AreAlike}
use Rattle.hal_fit_rules.specs.Received.{AreCells, CellsAgree, ReceiverAgrees, ReceiversAgree}
use Rattle.hal_fit_rules.proofs.Beginning.{then_, among}
use Rattle.hal_fit_rules.proofs.BegunExpressions.{subscript_first}
use Rattle.hal_fit_rules.proofs.BegunStatements.{receivers_first}
use Rattle.hal_fit_rules.proofs.Unbroken.{no_rule, unbroken, of_operands}
use Rattle.hal_fit_rules.proofs.Choosing.{string_places, AreRight, SubscriptRight, marked, same_none, places_right}
use Rattle.hal_fit_rules.proofs.Referring.{data_right, class_of_chosen}
use Rattle.hal_fit_rules.proofs.Agreeing.{subscripted_right, subscript_known}
use Rattle.hal_fit_rules.proofs.Cells.{data_plain, structureless, single_received, class_received, goes, class_goes, kind_takes, part_taken}

-- a receiver by what its name means
abbrev pub fits_meant : Uses → Site → List Naming → Subscript → Sort → Meant → Bool
fits_meant u site path Unsubscripted s m = kept_fits path s m
fits_meant u site path x s m = addressed_fits u site path x s m

pub receiver_meant : (u : Uses) (site : Site) (s : Sort) (place : Place) (name : List ℕ) (path : List Naming) (x : Subscript)
    → receiver_fits u site s (Refers place name path x) ≡ fits_meant u site path x s (name_meant (here_at site) name [])
receiver_meant u site s place name path Unsubscripted = refl
receiver_meant u site s place name path (ByName p n) = refl
receiver_meant u site s place name path (ByInteger p spot number) = refl
receiver_meant u site s place name path (ByParts p copies arrays components) = refl

-- data that a phrase declares are of the class of what is chosen of them
pub cells_class : (ps : List Phrase) (p : Phrase) (path : List Naming) (x : Subscript) (n : Node) (shape : Shape) → AreAlike (data_at ps p path n) path shape
    → class_at ps p path x n ≡ option_and_then (λ (e : Data). class_left e (kinds.chosen e x)) (data_at ps p path n)
unfolding class_at data_at
cells_class ps p path x (OfTemplate name head declarations) shape alike = absurd (let is = alike.known in cc)
cells_class ps p path x (OfUnit name head declarations) shape alike = absurd (let is = alike.known in cc)
cells_class ps p path x other shape alike = refl

pub cells_fault : (ps : List Phrase) (p : Phrase) (path : List Naming) (x : Subscript) (n : Node) (shape : Shape) → AreAlike (data_at ps p path n) path shape → fault_at ps p path x n ≡ None
    → (eventful : Bool) × (data_fault eventful x (data_at ps p path n) ≡ None)
unfolding fault_at data_at
cells_fault ps p path x (OfTemplate name head declarations) shape alike none = absurd (let is = alike.known in cc)
cells_fault ps p path x (OfUnit name head declarations) shape alike none = absurd (let is = alike.known in cc)
cells_fault ps p path x other shape alike none = (is_event_name path other, none)

module _ (u : Uses) (site : Site) where
  stored_right : (k : values.Kind) (s : Sort) (list : Subscripts) → takes k s ≡ true → (nat_lt 0 (subscript_count list) ≡ true → takes_part k (sort_of k) s ≡ true) → AreRight u site list → stored_fits u site k s list ≡ true
  unfolding subscript_count
  stored_right k s NoSubscripts whole part are = whole
  stored_right k s (MoreSubscripts first others) whole part are =
      and_from (takes_part k (sort_of k) s) (part_fits u site first) (part (lt-ltb 0 (suc (subscript_count others)) (omega arith))) are.0

  by_missing : (k : values.Kind) (s : Sort) (copies arrays components : Subscripts) (b : Bool) → takes k s ≡ true → (nat_lt 0 (marked b copies arrays components).components ≡ true → takes_part k (sort_of k) s ≡ true)
      → AreRight u site components → stored_fits u site k s (if b then NoSubscripts else components) ≡ true
  by_missing k s copies arrays components true whole part are = whole
  by_missing k s copies arrays components false whole part are = stored_right k s components whole part are

  received_right : (k : values.Kind) (s : Sort) (arrayed : Bool) (x : Subscript) → takes k s ≡ true → (nat_lt 0 (choice_of arrayed x).components ≡ true → takes_part k (sort_of k) s ≡ true) → SubscriptRight u site x
      → received_fits u site k s arrayed x ≡ true
  unfolding choice_of parts_chosen
  received_right k s true Unsubscripted whole part right = whole
  received_right k s false Unsubscripted whole part right = whole
  received_right k s true (ByName p name) whole part right = whole
  received_right k s true (ByInteger p spot number) whole part right = whole
  received_right k s false (ByName p name) whole part right = and_from (takes_part k (sort_of k) s) (is_integer (sort_of_name u site name.name [])) (part refl) right
  received_right k s false (ByInteger p spot number) whole part right = part refl
  received_right k s true (ByParts p copies arrays components) whole part right =
      ap (λ b. stored_fits u site k s (if b then NoSubscripts else components)) (same_none arrays) ∙ by_missing k s copies arrays components (kinds.is_none arrays) whole part right.2
  received_right k s false (ByParts p copies arrays components) whole part right = stored_right k s components whole part right.2

  module _ (path : List Naming) where
    addressed_right : (x : Subscript) (at : Spot) (shape : Shape) (s : Sort) → takes (kind_of_first (chosen path shape.components)) s ≡ true
        → (nat_lt 0 (choice_of (is_arrayed (sizes_named path shape)) x).components ≡ true → takes_part (kind_of_first (chosen path shape.components)) (sort_of (kind_of_first (chosen path shape.components))) s ≡ true)
        → SubscriptRight u site x → addressed_fits u site path x s (MeantData at shape) ≡ true
    addressed_right x at shape s whole part right =
        and_from (places_fit u site (is_arrayed (sizes_named path shape)) x) (received_fits u site (kind_of_first (chosen path shape.components)) s (is_arrayed (sizes_named path shape)) x)
        (places_right u site (is_arrayed (sizes_named path shape)) x right) (received_right (kind_of_first (chosen path shape.components)) s (is_arrayed (sizes_named path shape)) x whole part right)

    pub meant_right : (x : Subscript) (at : Spot) (shape : Shape) (s : Sort) → takes (kind_of_first (chosen path shape.components)) s ≡ true
        → (nat_lt 0 (choice_of (is_arrayed (sizes_named path shape)) x).components ≡ true → takes_part (kind_of_first (chosen path shape.components)) (sort_of (kind_of_first (chosen path shape.components))) s ≡ true)
        → SubscriptRight u site x → fits_meant u site path x s (MeantData at shape) ≡ true
    meant_right Unsubscripted at shape s whole part right = whole
    meant_right (ByName p name) at shape s whole part right = addressed_right (ByName p name) at shape s whole part right
    meant_right (ByInteger p spot number) at shape s whole part right = addressed_right (ByInteger p spot number) at shape s whole part right
    meant_right (ByParts p copies arrays components) at shape s whole part right = addressed_right (ByParts p copies arrays components) at shape s whole part right

    -- of data that a phrase declares
    cells_right : (ps : List Phrase) (p : Phrase) (x : Subscript) (n : Node) (at : Spot) (shape : Shape) (v : Class) (s : Sort) → AreAlike (data_at ps p path n) path shape → fault_at ps p path x n ≡ None
        → option_and_then misfit_of_receiver (class_at ps p path x n) ≡ None → class_takes (class_at ps p path x n) (Some v) ≡ true → misfit want.Value v ≡ None → sort_of_class v ≡ Some s → SubscriptRight u site x
        → fits_meant u site path x s (MeantData at shape) ≡ true
    cells_right ps p x n at shape v s alike none misfits taken fits worth right =
        let d : Data = alike.declared in
        let fault = cells_fault ps p path x n shape alike none in
        let is_right = data_right u site path d (data_at ps p path n) fault.0 x alike.known fault.1 in
        let class_is : class_at ps p path x n ≡ Some (class_in d (kinds.chosen d x)) =
        cells_class ps p path x n shape alike ∙ class_of_chosen u site path d (data_at ps p path n) x alike.known is_right.counted in
        let single : misfit_of_receiver (class_in d (kinds.chosen d x)) ≡ None = ap (option_and_then misfit_of_receiver) (sym class_is) ∙ misfits in
        let class_takes_it : class_takes (Some d.class) (Some v) ≡ true =
        ap (λ c. class_takes (Some c) (Some v)) (sym (class_received d (kinds.chosen d x) single)) ∙ (ap (λ o. class_takes o (Some v)) (sym class_is) ∙ taken) in
        let into = class_goes d.class v s (single_received d (kinds.chosen d x) single) (data_plain ps p path n d alike.known) fits class_takes_it worth in
        let kind_is : sort_of (kind_of_first (chosen path shape.components)) ≡ into.sort = alike.sorted into.sort into.is in
        let kind_into : goes (sort_of (kind_of_first (chosen path shape.components))) s ≡ true = ap (λ t. goes t s) kind_is ∙ into.into in
        meant_right x at shape s (kind_takes (kind_of_first (chosen path shape.components)) s kind_into)
        (λ some. part_taken (kind_of_first (chosen path shape.components)) s
        (ap has_places kind_is ∙ string_places d.class fault.0 into.sort (is_right.parts.components (ap (λ b. nat_lt 0 (choice_of b x).components) (alike.arrayed (structureless d.class (single_received d (kinds.chosen d x) single))) ∙ some)) into.is) kind_into) right

    phrase_right : (ps : List Phrase) (x : Subscript) (o : Option Phrase) (m : Meant) (v : Class) (s : Sort) → AreCells ps path o m → option_and_then (λ (p : Phrase). fault_at ps p path x p.node) o ≡ None
        → option_and_then misfit_of_receiver (option_and_then (λ (p : Phrase). class_at ps p path x p.node) o) ≡ None → class_takes (option_and_then (λ (p : Phrase). class_at ps p path x p.node) o) (Some v) ≡ true
        → misfit want.Value v ≡ None → sort_of_class v ≡ Some s → SubscriptRight u site x → fits_meant u site path x s m ≡ true
    phrase_right ps x None m v s cells none misfits taken fits worth right = absurd cells
    phrase_right ps x (Some p) (MeantData at shape) v s cells none misfits taken fits worth right = cells_right ps p x p.node at shape v s cells none misfits taken fits worth right
    phrase_right ps x (Some p) (MeantConstant c) v s cells none misfits taken fits worth right = absurd cells
    phrase_right ps x (Some p) (MeantEvent e) v s cells none misfits taken fits worth right = absurd cells
    phrase_right ps x (Some p) (MeantBlock unit) v s cells none misfits taken fits worth right = absurd cells
    phrase_right ps x (Some p) (MeantBuiltin b) v s cells none misfits taken fits worth right = absurd cells
    phrase_right ps x (Some p) MeantNothing v s cells none misfits taken fits worth right = absurd cells

    declared_right : (ps : List Phrase) (x : Subscript) (name : List ℕ) (o : Option ℕ) (m : Meant) (v : Class) (s : Sort) → CellsAgree ps path o m
        → ◌≡◌ {A = Option ℕ} (elim o [ None ↦ builtin_fault name x | Some k ↦ option_and_then (λ (p : Phrase). fault_at ps p path x p.node) (slice_get ps k) ]) None
        → ◌≡◌ {A = Option ℕ} (option_and_then misfit_of_receiver (elim o [ None ↦ if is_nil path then class_of_builtin (builtin_named name) else None | Some k ↦ option_and_then (λ (p : Phrase). class_at ps p path x p.node) (slice_get ps k) ])) None
        → class_takes (elim o [ None ↦ if is_nil path then class_of_builtin (builtin_named name) else None | Some k ↦ option_and_then (λ (p : Phrase). class_at ps p path x p.node) (slice_get ps k) ]) (Some v) ≡ true
        → misfit want.Value v ≡ None → sort_of_class v ≡ Some s → SubscriptRight u site x → fits_meant u site path x s m ≡ true
    declared_right ps x name None m v s cells none misfits taken fits worth right = absurd cells
    declared_right ps x name (Some k) m v s cells none misfits taken fits worth right = phrase_right ps x (slice_get ps k) m v s cells none misfits taken fits worth right

module _ (u : Uses) (site : Site) (ps : List Phrase) (sound : IsSound type_rows ps) where
  pub receiver_fit : (d : List Phrase) (a : Around) (t : Reference) → AreFirst (add d a (OfReference role.Receiver t)) ps → option_and_then misfit_of_receiver (class_of_reference ps a.block t) ≡ None
  unfolding operand_rows unfit receiver_misfit
  receiver_fit d a t first =
      no_rule (place_of_reference t) (option_and_then misfit_of_receiver (class_of_reference ps a.block t))
      (unbroken type_rows ps sound (phrase (length d) a (OfReference role.Receiver t)) (among ps d a (OfReference role.Receiver t) first) (λ qs q. unfit qs q q.node) (of_operands (λ qs q. unfit qs q q.node) (inr (inr (inl refl)))))

  -- a receiver of a value
  receiver_right : (d : List Phrase) (a : Around) (t : Reference) (v : Class) (s : Sort) → AreFirst (gathered_reference d a role.Receiver t) ps → ReceiverAgrees u site ps a.block t
      → class_takes (class_of_reference ps a.block t) (Some v) ≡ true → misfit want.Value v ≡ None → sort_of_class v ≡ Some s → receiver_fits u site s t ≡ true
  unfolding gathered_reference class_of_reference reference_fault
  receiver_right d a (Refers place name path x) v s begun agree taken fits worth =
      let e : List Phrase = add d a (OfReference role.Receiver (Refers place name path x)) in
      let own : AreFirst e ps = then_ (subscript_first e (below d a) x) begun in
      receiver_meant u site s place name path x
      ∙ declared_right u site path ps x name (means ps a.block name) (name_meant (here_at site) name []) v s agree.0
      (no_rule place (named_fault ps a.block name path x) (subscripted_right u site ps sound d a role.Receiver (Refers place name path x) own)) (receiver_fit d a (Refers place name path x) own) taken fits worth
      (subscript_known u site ps sound e (below d a) x begun agree.1)

  -- receivers of a value
  pub receivers_right : (d : List Phrase) (a : Around) (ts : List Reference) (v : Class) (s : Sort) → AreFirst (gathered_each (gathered_receiver a role.Receiver) d ts) ps → ReceiversAgree u site ps a.block ts
      → all_take ps a.block (Some v) ts ≡ true → misfit want.Value v ≡ None → sort_of_class v ≡ Some s → is_value s ≡ true → receivers_fit u site s ts ≡ true
  unfolding all_take
  receivers_right d a [] v s begun agree taken fits worth value = absurd agree
  receivers_right d a (t ∷ []) v s begun agree taken fits worth value =
      receiver_right d a t v s begun agree (and_parts (class_takes (class_of_reference ps a.block t) (Some v)) true taken).0 fits worth
  receivers_right d a (t ∷ next ∷ others) v s begun agree taken fits worth value =
      let parts = and_parts (class_takes (class_of_reference ps a.block t) (Some v)) (all_take ps a.block (Some v) (next ∷ others)) taken in
      let e : List Phrase = gathered_reference d a role.Receiver t in
      and_from (is_value s) (receiver_fits u site s t && receivers_fit u site s (next ∷ others)) value
      (and_from (receiver_fits u site s t) (receivers_fit u site s (next ∷ others))
      (receiver_right d a t v s (then_ (receivers_first a role.Receiver e (next ∷ others)) begun) agree.0 parts.0 fits worth) (receivers_right e a (next ∷ others) v s begun agree.1 parts.1 fits worth value))
