-- Receivers of READ that agree take what is read for them, where no rule of types is broken.
use Rattle.std.proofs.Common.{◌≡◌, ℕ, nat_lt, true, false, List, [], ◌∷◌, Option, Some, None, slice_get, if◌then◌else◌, refl, sym, ap, ◌∙◌}
use Rattle.std.specs.Option.{option_and_then}
use Rattle.std.proofs.lemmas.Bool.{and_from}
use Rattle.hal_grammar.specs.Leaves.{Naming}
use Rattle.hal_grammar.specs.Expressions.{Reference, Refers, Subscript}
use Rattle.hal_phrases.specs.declared.around.Around.{Around}
use Rattle.hal_phrases.specs.declared.role.Role.TheVariants as role
use Rattle.hal_phrases.specs.Phrases.{Node, Phrase, add, gathered_each, OfReference}
use Rattle.hal_phrases.specs.GatheredExpressions.{below, gathered_reference}
use Rattle.hal_phrases.specs.GatheredStatements.{gathered_receiver}
use Rattle.hal_names.specs.Means.{means}
use Rattle.hal_scope.specs.Builtins.{builtin_named}
use Rattle.hal_scope.specs.Rules.{IsSound}
use Rattle.hal_scope.specs.Uses.{is_nil}
use Rattle.hal_kinds.specs.declared.class.Class.{Class}
use Rattle.hal_kinds.specs.declared.class.Class.TheVariants as class
use Rattle.hal_kinds.specs.declared.data.Data.{Data}
use Rattle.hal_kinds.specs.Classes.{class_of_builtin, class_at, class_of_reference}
use Rattle.hal_kinds.specs.Data.{data_at}
use Rattle.hal_kinds.specs.Subscripts as kinds
use Rattle.hal_kinds.specs.Subscripts.{choice_of, class_in}
use Rattle.hal_operands.specs.Wants.{misfit_of_receiver}
use Rattle.hal_uses.specs.Subscripts.{fault_at, builtin_fault, named_fault, reference_fault}
use Rattle.hal_types.specs.Rules.{type_rows}
use Rattle.hal_values.specs.declared.value.Kind as values
use Rattle.hal_values.specs.declared.value.Kind.TheVariants as kind
use Rattle.hal_states.specs.Spots.{Spot}
use Rattle.hal_meaning.specs.Elements.{Shape, chosen}
use Rattle.hal_meaning.specs.Statements.{kind_meant, kind_named}
use Rattle.hal_meaning.specs.Variables.{Meant, MeantData, MeantConstant, MeantEvent, MeantBlock, MeantBuiltin, MeantNothing, name_meant, kind_of_first}
use Rattle.hal_code.specs.Effects.{has_places}
use Rattle.hal_code.specs.Sorts.{Sort, I, B, T, sort_of, is_kind}
use Rattle.hal_agreement.specs.Sites.{Site, here_at}
use Rattle.hal_fit_expr.specs.Uses.{Uses}
use Rattle.hal_fit.specs.Received.{receiver_fits}
use Rattle.hal_fit.specs.Stating.{reads_fit}
use Rattle.hal_fit_classes.specs.Kinded.{sort_of_class}
use Rattle.hal_fit_rules.specs.Begun.{AreFirst}
use Rattle.hal_fit_rules.specs.Agreeing.{AreAlike}
use Rattle.hal_fit_rules.specs.Received.{AreCells, CellsAgree, ReceiverAgrees, ReadsAgree}
use Rattle.hal_fit_rules.proofs.Beginning.{then_}
use Rattle.hal_fit_rules.proofs.BegunExpressions.{subscript_first}
use Rattle.hal_fit_rules.proofs.BegunStatements.{receivers_first}
use Rattle.hal_fit_rules.proofs.Unbroken.{no_rule}
use Rattle.hal_fit_rules.proofs.Choosing.{string_places, SubscriptRight}
use Rattle.hal_fit_rules.proofs.Referring.{data_right, class_of_chosen}
use Rattle.hal_fit_rules.proofs.Agreeing.{subscripted_right, subscript_known}
use Rattle.hal_fit_rules.proofs.Cells.{is_condition, data_plain, structureless, single_received, goes, kind_takes, part_taken}
use Rattle.hal_fit_rules.proofs.Receiving.{fits_meant, receiver_meant, cells_class, cells_fault, meant_right, receiver_fit}

-- cells of a kind take values of it
goes_itself : (k : values.Kind) → goes (sort_of k) (sort_of k) ≡ true
goes_itself kind.Single = refl
goes_itself kind.Double = refl
goes_itself (kind.Bits n) = refl
goes_itself (kind.Text n) = refl

-- what takes values has a sort
received_sort : (c : Class) → misfit_of_receiver c ≡ None → is_condition c ≡ false → (s : Sort) × (sort_of_class c ≡ Some s)
unfolding misfit_of_receiver
received_sort class.Integer one plain = (I, refl)
received_sort class.Bits one plain = (B, refl)
received_sort class.Text one plain = (T, refl)
received_sort class.Condition one plain = absurd (cc)
received_sort class.Structure one plain = absurd (cc)
received_sort class.Array one plain = absurd (cc)

module _ (u : Uses) (site : Site) (path : List Naming) where
  -- data that a phrase declares take what is read for them
  cells_read : (ps : List Phrase) (p : Phrase) (x : Subscript) (n : Node) (at : Spot) (shape : Shape) → AreAlike (data_at ps p path n) path shape → fault_at ps p path x n ≡ None
      → option_and_then misfit_of_receiver (class_at ps p path x n) ≡ None → SubscriptRight u site x → fits_meant u site path x (sort_of (kind_of_first (chosen path shape.components))) (MeantData at shape) ≡ true
  cells_read ps p x n at shape alike none misfits right =
      let d : Data = alike.declared in
      let k : values.Kind = kind_of_first (chosen path shape.components) in
      let fault = cells_fault ps p path x n shape alike none in
      let is_right = data_right u site path d (data_at ps p path n) fault.0 x alike.known fault.1 in
      let class_is : class_at ps p path x n ≡ Some (class_in d (kinds.chosen d x)) =
      cells_class ps p path x n shape alike ∙ class_of_chosen u site path d (data_at ps p path n) x alike.known is_right.counted in
      let single : misfit_of_receiver (class_in d (kinds.chosen d x)) ≡ None = ap (option_and_then misfit_of_receiver) (sym class_is) ∙ misfits in
      let one : misfit_of_receiver d.class ≡ None = single_received d (kinds.chosen d x) single in
      let worth = received_sort d.class one (data_plain ps p path n d alike.known) in
      meant_right u site path x at shape (sort_of k) (kind_takes k (sort_of k) (goes_itself k))
      (λ some. part_taken k (sort_of k)
      (ap has_places (alike.sorted worth.0 worth.1) ∙ string_places d.class fault.0 worth.0 (is_right.parts.components (ap (λ b. nat_lt 0 (choice_of b x).components) (alike.arrayed (structureless d.class one)) ∙ some)) worth.1)
      (goes_itself k)) right

  phrase_read : (ps : List Phrase) (x : Subscript) (o : Option Phrase) (m : Meant) → AreCells ps path o m → option_and_then (λ (p : Phrase). fault_at ps p path x p.node) o ≡ None
      → option_and_then misfit_of_receiver (option_and_then (λ (p : Phrase). class_at ps p path x p.node) o) ≡ None → SubscriptRight u site x → fits_meant u site path x (sort_of (kind_meant path m)) m ≡ true
  phrase_read ps x None m cells none misfits right = absurd cells
  phrase_read ps x (Some p) (MeantData at shape) cells none misfits right = cells_read ps p x p.node at shape cells none misfits right
  phrase_read ps x (Some p) (MeantConstant c) cells none misfits right = absurd cells
  phrase_read ps x (Some p) (MeantEvent e) cells none misfits right = absurd cells
  phrase_read ps x (Some p) (MeantBlock unit) cells none misfits right = absurd cells
  phrase_read ps x (Some p) (MeantBuiltin b) cells none misfits right = absurd cells
  phrase_read ps x (Some p) MeantNothing cells none misfits right = absurd cells

  declared_read : (ps : List Phrase) (x : Subscript) (name : List ℕ) (o : Option ℕ) (m : Meant) → CellsAgree ps path o m
      → ◌≡◌ {A = Option ℕ} (elim o [ None ↦ builtin_fault name x | Some k ↦ option_and_then (λ (p : Phrase). fault_at ps p path x p.node) (slice_get ps k) ]) None
      → ◌≡◌ {A = Option ℕ} (option_and_then misfit_of_receiver (elim o [ None ↦ if is_nil path then class_of_builtin (builtin_named name) else None | Some k ↦ option_and_then (λ (p : Phrase). class_at ps p path x p.node) (slice_get ps k) ])) None
      → SubscriptRight u site x → fits_meant u site path x (sort_of (kind_meant path m)) m ≡ true
  declared_read ps x name None m cells none misfits right = absurd cells
  declared_read ps x name (Some k) m cells none misfits right = phrase_read ps x (slice_get ps k) m cells none misfits right

module _ (u : Uses) (site : Site) (ps : List Phrase) (sound : IsSound type_rows ps) where
  receiver_read : (d : List Phrase) (a : Around) (t : Reference) → AreFirst (gathered_reference d a role.Receiver t) ps → ReceiverAgrees u site ps a.block t
      → receiver_fits u site (sort_of (kind_named (here_at site) t [])) t ≡ true
  unfolding gathered_reference class_of_reference reference_fault
  receiver_read d a (Refers place name path x) begun agree =
      let e : List Phrase = add d a (OfReference role.Receiver (Refers place name path x)) in
      let own : AreFirst e ps = then_ (subscript_first e (below d a) x) begun in
      receiver_meant u site (sort_of (kind_meant path (name_meant (here_at site) name []))) place name path x
      ∙ declared_read u site path ps x name (means ps a.block name) (name_meant (here_at site) name []) agree.0
      (no_rule place (named_fault ps a.block name path x) (subscripted_right u site ps sound d a role.Receiver (Refers place name path x) own)) (receiver_fit u site ps sound d a (Refers place name path x) own)
      (subscript_known u site ps sound e (below d a) x begun agree.1)

  pub reads_right : (d : List Phrase) (a : Around) (ts : List Reference) → AreFirst (gathered_each (gathered_receiver a role.Receiver) d ts) ps → ReadsAgree u site ps a.block ts → reads_fit u site ts ≡ true
  reads_right d a [] begun agree = refl
  reads_right d a (t ∷ ts) begun agree =
      let e : List Phrase = gathered_reference d a role.Receiver t in
      and_from _ (reads_fit u site ts) (and_from (is_kind (kind_named (here_at site) t [])) _ agree.1 (receiver_read d a t (then_ (receivers_first a role.Receiver e ts) begun) agree.0)) (reads_right e a ts begun agree.2)
