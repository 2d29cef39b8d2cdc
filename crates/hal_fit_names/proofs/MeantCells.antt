-- Names of cells that take values agree in such a set: of receivers, of ASSIGN arguments and of the variables of DO FOR.
use Rattle.std.proofs.Common.{◌≡◌, ℕ, Bool, true, false, not, ◌&&◌, ◌||◌, List, [], Option, Some, None, slice_get, refl, sym, ap, ◌∙◌, inl, inr}
use Rattle.std.specs.Prelude.{nat_lt, if◌then◌else◌}
use Rattle.std.specs.Option.{option_and_then, is_some}
use Rattle.hal_base.specs.declared.refusal.Place.{Place}
use Rattle.hal_grammar.specs.Expressions.{Refers, Subscript}
use Rattle.hal_grammar.specs.Leaves.{Naming}
use Rattle.hal_phrases.specs.declared.role.Role.TheVariants as role
use Rattle.hal_grammar.specs.Declarations.{Kind, IntegerKind, BooleanKind, EventKind, BitKind, CharacterKind, StructureKind, Attribute, Declared, Initials}
use Rattle.hal_phrases.specs.Phrases.{Node, Phrase, OfTemplate, OfItem, OfStructure, OfTemporaryGroup, OfReference, OfVariable}
use Rattle.hal_names.specs.Laws.{IsCounted}
use Rattle.hal_names.specs.Means.{means}
use Rattle.hal_scope.specs.declared.usage.Usage.TheVariants as usage
use Rattle.hal_scope.specs.declared.used.Use.{Use}
use Rattle.hal_scope.specs.Builtins.{builtin_named}
use Rattle.hal_scope.specs.Rules.{IsAmong, IsSound, rows, ruled}
use Rattle.hal_scope.specs.Sorts.{type_of, sort_of, usage_of, use_of_reference, used}
use Rattle.hal_scope.specs.Uses.{is_nil, unless, sort_at, is_known_builtin, is_known_use, unknown, fits_declared, fits_named, fits_use, misused}
use Rattle.hal_kinds.specs.declared.data.Data.{Data}
use Rattle.hal_kinds.specs.Attributes as attributes
use Rattle.hal_kinds.specs.Attributes.{sizes_of}
use Rattle.hal_kinds.specs.Data.{class_of_type, has_copies, dimensions_of, data_with, data_of, data_at, is_event_type, is_structure_type}
use Rattle.hal_operands.specs.Wants.{at}
use Rattle.hal_uses.specs.Receivers.{is_input_parameter, is_component, put_fault, put, is_integer, counted_fault, variable_fault, varied, may_receive, received_by, received, reference_receives, misreceived}
use Rattle.hal_types.specs.Rules.{use_rows, type_rows}
use Rattle.hal_meaning.specs.Variables.{name_meant}
use Rattle.hal_agreement.specs.Sites.{Site, here_at}
use Rattle.hal_fit_expr.specs.Uses.{Uses}
use Rattle.hal_fit_rules.specs.Owned.{IsOwn}
use Rattle.hal_fit_rules.specs.Received.{CellsAgree}
use Rattle.hal_fit_rules.specs.Valued.{HasConstants}
use Rattle.hal_fit_rules.proofs.Declaring.{plain_cells_agree, temporary_cells_agree}
use Rattle.hal_fit_rules.proofs.Structuring.{structure_cells}
use Rattle.hal_fit_rules.proofs.Unbroken.{unbroken, ruled_none, no_rule, of_uses}
use Rattle.hal_fit_names.specs.Named.{AreLeft}
use Rattle.hal_fit_names.specs.Suited.{HasFitLiterals, AreDeclared}
use Rattle.hal_fit_names.proofs.Declaring.{plain_data}
use Rattle.hal_fit_names.proofs.MeantItems.{IsPlainName, ForData, ForItself, ForStructure, item_typed, plainly, structure_data}
use Rattle.hal_fit_names.proofs.Owning.{IsShown, Plain, Pooled, PooledConstant, PooledEvent, Written, own_number, shown_so}
use Rattle.hal_fit_names.proofs.Placing.{NodePlaced, at_among}
use Rattle.hal_fit_names.proofs.Pooled.{pooled_cells}
use Rattle.hal_fit_names.proofs.Suiting.{unless_true}
use Rattle.hal_fit_names.proofs.Usages.{no_builtin, no_output, no_variable}

-- what is fixed or an event takes no value
neither_true : (a b c : Bool) → not ((a || b) || c) ≡ true → (a ≡ false) × (c ≡ false)
neither_true false false false is = (refl, refl)
neither_true true b c is = absurd (cc)
neither_true false true c is = absurd (cc)
neither_true false false true is = absurd (cc)

-- a receiver that is no fault may be one
may_be_received : (b : Bool) (fault : ℕ × Place) → (if b then None else Some fault) ≡ None → b ≡ true
may_be_received true fault is = refl
may_be_received false fault is = absurd (cc)

-- what may be an ASSIGN argument is no event and isn't fixed
unfixed : (event constant_ input component : Bool) → ◌≡◌ {A = Option ℕ} (if event then Some 722 else if constant_ || input then Some 709 else if component then Some 722 else None) None → (event ≡ false) × (constant_ ≡ false)
unfixed true constant_ input component is = absurd (cc)
unfixed false true input component is = absurd (cc)
unfixed false false true component is = absurd (cc)
unfixed false false false component is = (refl, refl)

-- a constant that is its value is a constant
valued_constant : (o : Option Initials) (rest : Bool) → is_some o && rest ≡ true → is_some o ≡ true
valued_constant (Some list) rest is = refl
valued_constant None rest is = absurd (cc)

-- a single integer that isn't fixed
single_free : (integer alone constant_ input : Bool) → ◌≡◌ {A = Option ℕ} (if integer && alone then (if constant_ || input then Some 709 else None) else Some 712) None → (integer ≡ true) × (constant_ ≡ false)
single_free true true false false is = (refl, refl)
single_free true true true input is = absurd (cc)
single_free true true false true is = absurd (cc)
single_free true false constant_ input is = absurd (cc)
single_free false alone constant_ input is = absurd (cc)

-- an integer is no event and no structure
integer_type : (t : Kind) → is_integer (class_of_type t) ≡ true → (is_event_type (Some t) ≡ false) × (is_structure_type (Some t) ≡ false)
unfolding is_integer class_of_type is_event_type is_structure_type
integer_type (IntegerKind place) is = (refl, refl)
integer_type (BooleanKind place) is = absurd (cc)
integer_type (EventKind place) is = absurd (cc)
integer_type (BitKind place size) is = absurd (cc)
integer_type (CharacterKind place size) is = absurd (cc)
integer_type (StructureKind place template copies) is = absurd (cc)

module _ (u : Uses) (site : Site) (named : IsSound rows site.set.phrases) (sound : IsSound type_rows site.set.phrases) (counted : IsCounted site.set.phrases) (declared : AreDeclared site.set.phrases) (literals : HasFitLiterals site.set.phrases)
    (has : HasConstants site) (placed : (p : Phrase) → IsAmong p site.set.phrases → NodePlaced site.set.phrases p p.node) where
  -- cells of plain data agree, whatever they stand for
  plain_cells : (name : List ℕ) (k : ℕ) (p : Phrase) (common : List Attribute) (item : Declared) → means site.set.phrases site.block name ≡ Some k → slice_get site.set.phrases k ≡ Some p → p.node ≡ OfItem common item → IsPlainName site name k p common item
      → CellsAgree site.set.phrases [] (means site.set.phrases site.block name) (name_meant (here_at site) name [])
  plain_cells name k p common item meant there is (ForData t typed eventless stored stands) = pooled_cells u site named sound counted declared literals has placed k p name common item t meant there is typed eventless stored stands
  plain_cells name k p common item meant there is (ForItself own data_) = plain_cells_agree u site name own data_
  plain_cells name k p common item meant there is (ForStructure t own declares typed eventless structured stored) = structure_cells u site name [] own (structure_data site own.phrase common item t declares typed structured)

  -- data that may take a value
  cells_by : (name : List ℕ) (own : IsOwn site name) (common : List Attribute) (item : Declared) (t : Kind) (structured : Bool) → own.phrase.node ≡ OfItem common item → IsAmong own.phrase site.set.phrases → type_of common item ≡ Some t
      → is_event_type (Some t) ≡ false → is_some (attributes.constant_of common item) ≡ false → is_structure_type (Some t) ≡ structured → CellsAgree site.set.phrases [] (means site.set.phrases site.block name) (name_meant (here_at site) name [])
  cells_by name own common item t true is within typed eventless free structured = structure_cells u site name [] own (structure_data site own.phrase common item t is typed structured)
  cells_by name own common item t false is within typed eventless free structured =
      plain_cells_agree u site name own
      (plain_data site.set.phrases named sound counted declared literals site refl has own.phrase (placed own.phrase within) common item t is typed (ap (λ b. b && (not (is_some (sizes_of common item)) && not (is_structure_type (type_of common item)))) free) eventless structured)

  -- cells of data agree that are no event and no constant
  cells_typed : (name : List ℕ) (own : IsOwn site name) (common : List Attribute) (item : Declared) (o : Option Kind) → own.phrase.node ≡ OfItem common item → IsAmong own.phrase site.set.phrases → type_of common item ≡ o
      → is_event_type (type_of common item) ≡ false → is_some (attributes.constant_of common item) ≡ false → CellsAgree site.set.phrases [] (means site.set.phrases site.block name) (name_meant (here_at site) name [])
  cells_typed name own common item None is within typed eventless free = let other : false ≡ true = ap (λ (o : Option Kind). is_some o) (sym typed) ∙ item_typed site sound own.phrase common item within is in absurd (cc)
  cells_typed name own common item (Some t) is within typed eventless free = cells_by name own common item t (is_structure_type (Some t)) is within typed (ap is_event_type (sym typed) ∙ eventless) free refl

  -- what may be received by a phrase
  node_receives : (name : List ℕ) (own : IsOwn site name) (q : Phrase) (n : Node) → own.phrase.node ≡ n → IsAmong own.phrase site.set.phrases → fits_declared site.set.phrases q usage.Receiver (sort_of n) ≡ true
      → may_receive site.set.phrases own.phrase n ≡ true → CellsAgree site.set.phrases [] (means site.set.phrases site.block name) (name_meant (here_at site) name [])
  unfolding sort_of may_receive
  node_receives name own q (OfItem common item) is within fits may =
      let both = neither_true (is_some (attributes.constant_of common item)) (is_input_parameter site.set.phrases own.phrase item.name.name) (is_event_type (type_of common item)) may in
      cells_typed name own common item (type_of common item) is within refl both.1 both.0
  node_receives name own q (OfTemporaryGroup labels variable) is within fits may = temporary_cells_agree u site name own (record { labels = labels; variable = variable; declares = is })
  node_receives name own q (OfStructure structure parts) is within fits may = absurd (cc)
  node_receives name own q other is within fits may = absurd (cc)

  -- cells of what is declared agree that may be a receiver
  received_as : (name : List ℕ) (left : AreLeft site name) (k : ℕ) (q p : Phrase) → means site.set.phrases site.block name ≡ Some k → slice_get site.set.phrases k ≡ Some p → IsShown site.set.phrases k p → fits_declared site.set.phrases q usage.Receiver (sort_of p.node) ≡ true
      → may_receive site.set.phrases p p.node ≡ true → CellsAgree site.set.phrases [] (means site.set.phrases site.block name) (name_meant (here_at site) name [])
  unfolding may_receive
  received_as name left k q p meant there (Plain plain) fits may = node_receives name (record { number = k; meant = meant; phrase = p; there = there; own = own_number site.set.phrases k p there plain }) q p.node refl (at_among site.set.phrases k p there) fits may
  received_as name left k q p meant there (Written template head declarations is) fits may =
      let other : may_receive site.set.phrases p (OfTemplate template head declarations) ≡ true = ap (may_receive site.set.phrases p) (sym is) ∙ may in absurd (cc)
  received_as name left k q p meant there (Pooled common item is plain) fits may = plain_cells name k p common item meant there is (plainly site named sound counted declared literals has placed name left k p common item meant there is plain)
  received_as name left k q p meant there (PooledEvent common item is eventful stands) fits may =
      absurd (let other : true ≡ false =
      sym eventful ∙ (neither_true (is_some (attributes.constant_of common item)) (is_input_parameter site.set.phrases p item.name.name) (is_event_type (type_of common item)) (ap (may_receive site.set.phrases p) (sym is) ∙ may)).1 in cc)
  received_as name left k q p meant there (PooledConstant common item is eventless constant stands) fits may =
      absurd (let other : true ≡ false =
      sym (valued_constant (attributes.constant_of common item) _ constant)
      ∙ (neither_true (is_some (attributes.constant_of common item)) (is_input_parameter site.set.phrases p item.name.name) (is_event_type (type_of common item)) (ap (may_receive site.set.phrases p) (sym is) ∙ may)).0 in cc)

  -- so do those of what a receiver's name means
  received_by_name : (name : List ℕ) (left : AreLeft site name) (q : Phrase) (place : Place) (o : Option ℕ) → means site.set.phrases site.block name ≡ o → (is_some o || is_known_builtin name usage.Receiver) ≡ true
      → elim o [ None ↦ fits_named name usage.Receiver | Some k ↦ fits_declared site.set.phrases q usage.Receiver (sort_at site.set.phrases k) ] ≡ true
      → option_and_then (λ k. option_and_then (received_by site.set.phrases place) (slice_get site.set.phrases k)) o ≡ None → CellsAgree site.set.phrases [] (means site.set.phrases site.block name) (name_meant (here_at site) name [])
  received_by_name name left q place None meant known_ fits none = no_builtin (builtin_named name) known_ fits
  received_by_name name left q place (Some k) meant known_ fits none =
      let first = (declared site.block name k meant).1 in
      let p : Phrase = first.declaring in
      received_as name left k q p meant first.there (shown_so site.set.phrases k p p.node refl (λ common item is_item. left.pooled k p common item meant first.there is_item))
      (ap (λ o. fits_declared site.set.phrases q usage.Receiver (option_and_then (λ (x : Phrase). sort_of x.node) o)) (sym first.there) ∙ fits)
      (may_be_received (may_receive site.set.phrases p p.node) (709, place) (ap (option_and_then (received_by site.set.phrases place)) (sym first.there) ∙ none))

  -- the name of a receiver
  pub receiver_agrees : (q : Phrase) (place : Place) (name : List ℕ) (x : Subscript) → AreLeft site name → IsAmong q site.set.phrases → q.node ≡ OfReference role.Receiver (Refers place name [] x) → q.around.block ≡ site.block
      → CellsAgree site.set.phrases [] (means site.set.phrases site.block name) (name_meant (here_at site) name [])
  unfolding unknown misused used use_of_reference usage_of use_rows misreceived reference_receives
  receiver_agrees q place name x left within is here =
      let ps : List Phrase = site.set.phrases in
      let block : ℕ = q.around.block in
      let no_unknown = ruled_none 601 (unknown ps q) (unbroken rows ps named q within (λ qs o. ruled 601 (unknown qs o)) (inl refl)) in
      let no_misuse = ruled_none 603 (misused ps q) (unbroken rows ps named q within (λ qs o. ruled 603 (misused qs o)) (inr (inr (inl refl)))) in
      let no_fault = unbroken type_rows ps sound q within (λ qs o. misreceived qs o o.node) (of_uses (λ qs o. misreceived qs o o.node) (inr (inr (inr (inr (inr (inl refl))))))) in
      let known_ : (is_some (means ps block name) || is_known_builtin name usage.Receiver) ≡ true = unless_true (is_some (means ps block name) || is_known_builtin name usage.Receiver) place
      (ap (λ n. option_and_then (λ (v : Use). unless (is_known_use ps block v) v.place) (used n)) (sym is) ∙ no_unknown) in
      let fits : elim (means ps block name) [ None ↦ fits_named name usage.Receiver | Some k ↦ fits_declared ps q usage.Receiver (sort_at ps k) ] ≡ true = unless_true (elim (means ps block name) [ None ↦ fits_named name usage.Receiver | Some k ↦ fits_declared ps q usage.Receiver (sort_at ps k) ]) place
      (ap (λ n. option_and_then (λ (v : Use). unless (fits_use ps q v) v.place) (used n)) (sym is) ∙ no_misuse) in
      received_by_name name left q place (means ps site.block name) refl (ap (λ b. is_some (means ps b name) || is_known_builtin name usage.Receiver) (sym here) ∙ known_)
      (ap (λ b. elim (means ps b name) [ None ↦ fits_named name usage.Receiver | Some k ↦ fits_declared ps q usage.Receiver (sort_at ps k) ]) (sym here) ∙ fits)
      (ap (λ b. received ps b place name) (sym here) ∙ (ap (misreceived ps q) (sym is) ∙ no_fault))

  -- what may be an ASSIGN argument
  node_puts : (name : List ℕ) (own : IsOwn site name) (x : Subscript) (n : Node) → own.phrase.node ≡ n → IsAmong own.phrase site.set.phrases → put_fault site.set.phrases own.phrase [] x n ≡ None
      → CellsAgree site.set.phrases [] (means site.set.phrases site.block name) (name_meant (here_at site) name [])
  unfolding put_fault
  node_puts name own x (OfItem common item) is within none =
      let both = unfixed (is_event_type (type_of common item)) (is_some (attributes.constant_of common item)) (is_input_parameter site.set.phrases own.phrase item.name.name) (is_component (data_at site.set.phrases own.phrase [] (OfItem common item)) x) none in
      cells_typed name own common item (type_of common item) is within refl both.0 both.1
  node_puts name own x (OfTemporaryGroup labels variable) is within none = temporary_cells_agree u site name own (record { labels = labels; variable = variable; declares = is })
  node_puts name own x other is within none = absurd (cc)

  -- cells of what is declared agree that may be an ASSIGN argument
  put_as : (name : List ℕ) (left : AreLeft site name) (x : Subscript) (k : ℕ) (p : Phrase) → means site.set.phrases site.block name ≡ Some k → slice_get site.set.phrases k ≡ Some p → IsShown site.set.phrases k p → put_fault site.set.phrases p [] x p.node ≡ None
      → CellsAgree site.set.phrases [] (means site.set.phrases site.block name) (name_meant (here_at site) name [])
  unfolding put_fault
  put_as name left x k p meant there (Plain plain) none = node_puts name (record { number = k; meant = meant; phrase = p; there = there; own = own_number site.set.phrases k p there plain }) x p.node refl (at_among site.set.phrases k p there) none
  put_as name left x k p meant there (Written template head declarations is) none =
      let other : put_fault site.set.phrases p [] x (OfTemplate template head declarations) ≡ None = ap (put_fault site.set.phrases p [] x) (sym is) ∙ none in absurd (cc)
  put_as name left x k p meant there (Pooled common item is plain) none = plain_cells name k p common item meant there is (plainly site named sound counted declared literals has placed name left k p common item meant there is plain)
  put_as name left x k p meant there (PooledEvent common item is eventful stands) none =
      absurd (let other : true ≡ false =
      sym eventful
      ∙ (unfixed (is_event_type (type_of common item)) (is_some (attributes.constant_of common item)) (is_input_parameter site.set.phrases p item.name.name) (is_component (data_at site.set.phrases p [] (OfItem common item)) x)
      (ap (put_fault site.set.phrases p [] x) (sym is) ∙ none)).0 in cc)
  put_as name left x k p meant there (PooledConstant common item is eventless constant stands) none =
      absurd (let other : true ≡ false =
      sym (valued_constant (attributes.constant_of common item) _ constant)
      ∙ (unfixed (is_event_type (type_of common item)) (is_some (attributes.constant_of common item)) (is_input_parameter site.set.phrases p item.name.name) (is_component (data_at site.set.phrases p [] (OfItem common item)) x)
      (ap (put_fault site.set.phrases p [] x) (sym is) ∙ none)).1 in cc)

  -- so do those of what the name of an ASSIGN argument means
  put_by_name : (name : List ℕ) (left : AreLeft site name) (x : Subscript) (place : Place) (o : Option ℕ) → means site.set.phrases site.block name ≡ o → (is_some o || is_known_builtin name usage.Output) ≡ true
      → ◌≡◌ {A = Option (ℕ × Place)} (elim o [ None ↦ if is_some (builtin_named name) then Some (722, place) else None | Some k ↦ elim (slice_get site.set.phrases k) [ None ↦ None | Some r ↦ at place (put_fault site.set.phrases r [] x r.node) ] ]) None
      → CellsAgree site.set.phrases [] (means site.set.phrases site.block name) (name_meant (here_at site) name [])
  put_by_name name left x place None meant known_ none = no_output (builtin_named name) place known_ none
  put_by_name name left x place (Some k) meant known_ none =
      let first = (declared site.block name k meant).1 in
      let p : Phrase = first.declaring in
      put_as name left x k p meant first.there (shown_so site.set.phrases k p p.node refl (λ common item is_item. left.pooled k p common item meant first.there is_item))
      (no_rule place (put_fault site.set.phrases p [] x p.node)
      (ap (λ (o : Option Phrase). elim o [ None ↦ None | Some r ↦ at place (put_fault site.set.phrases r [] x r.node) ]) (sym first.there) ∙ none))

  -- the name of an ASSIGN argument
  pub output_agrees : (q : Phrase) (place : Place) (name : List ℕ) (x : Subscript) → AreLeft site name → IsAmong q site.set.phrases → q.node ≡ OfReference role.Output (Refers place name [] x) → q.around.block ≡ site.block
      → CellsAgree site.set.phrases [] (means site.set.phrases site.block name) (name_meant (here_at site) name [])
  unfolding unknown used use_of_reference usage_of use_rows misreceived reference_receives put
  output_agrees q place name x left within is here =
      let ps : List Phrase = site.set.phrases in
      let block : ℕ = q.around.block in
      let no_unknown = ruled_none 601 (unknown ps q) (unbroken rows ps named q within (λ qs o. ruled 601 (unknown qs o)) (inl refl)) in
      let no_fault = unbroken type_rows ps sound q within (λ qs o. misreceived qs o o.node) (of_uses (λ qs o. misreceived qs o o.node) (inr (inr (inr (inr (inr (inl refl))))))) in
      let known_ : (is_some (means ps block name) || is_known_builtin name usage.Output) ≡ true = unless_true (is_some (means ps block name) || is_known_builtin name usage.Output) place
      (ap (λ n. option_and_then (λ (v : Use). unless (is_known_use ps block v) v.place) (used n)) (sym is) ∙ no_unknown) in
      put_by_name name left x place (means ps site.block name) refl (ap (λ b. is_some (means ps b name) || is_known_builtin name usage.Output) (sym here) ∙ known_)
      (ap (λ b. put ps b (Refers place name [] x)) (sym here) ∙ (ap (misreceived ps q) (sym is) ∙ no_fault))

  -- the variable of DO FOR
  item_varies : (name : List ℕ) (own : IsOwn site name) (common : List Attribute) (item : Declared) (o : Option Kind) → own.phrase.node ≡ OfItem common item → IsAmong own.phrase site.set.phrases → type_of common item ≡ o
      → counted_fault site.set.phrases own.phrase common item (data_of o (sizes_of common item)) ≡ None → CellsAgree site.set.phrases [] (means site.set.phrases site.block name) (name_meant (here_at site) name [])
  unfolding counted_fault data_of
  item_varies name own common item None is within typed none = let other : false ≡ true = ap (λ (o : Option Kind). is_some o) (sym typed) ∙ item_typed site sound own.phrase common item within is in absurd (cc)
  item_varies name own common item (Some t) is within typed none =
      let d : Data = data_with (class_of_type t) (dimensions_of (sizes_of common item)) (has_copies t) in
      let both = single_free (is_integer (class_of_type t)) (not (nat_lt 0 d.dimensions || d.copies)) (is_some (attributes.constant_of common item)) (is_input_parameter site.set.phrases own.phrase item.name.name) none in
      let type_ = integer_type t both.0 in
      cells_by name own common item t false is within typed type_.0 both.1 type_.1

  -- no event counts
  no_event_varies : (p : Phrase) (common : List Attribute) (item : Declared) (o : Option Kind) → type_of common item ≡ o → counted_fault site.set.phrases p common item (data_of o (sizes_of common item)) ≡ None → is_event_type (type_of common item) ≡ false
  unfolding counted_fault data_of is_event_type
  no_event_varies p common item None typed none = ap is_event_type typed
  no_event_varies p common item (Some t) typed none =
      let d : Data = data_with (class_of_type t) (dimensions_of (sizes_of common item)) (has_copies t) in
      let both = single_free (is_integer (class_of_type t)) (not (nat_lt 0 d.dimensions || d.copies)) (is_some (attributes.constant_of common item)) (is_input_parameter site.set.phrases p item.name.name) none in
      ap is_event_type typed ∙ (integer_type t both.0).0

  -- and no constant
  no_constant_varies : (p : Phrase) (common : List Attribute) (item : Declared) (o : Option Kind) → is_some o ≡ true → counted_fault site.set.phrases p common item (data_of o (sizes_of common item)) ≡ None → is_some (attributes.constant_of common item) ≡ false
  unfolding counted_fault data_of
  no_constant_varies p common item None some none = absurd (cc)
  no_constant_varies p common item (Some t) some none =
      let d : Data = data_with (class_of_type t) (dimensions_of (sizes_of common item)) (has_copies t) in
      (single_free (is_integer (class_of_type t)) (not (nat_lt 0 d.dimensions || d.copies)) (is_some (attributes.constant_of common item)) (is_input_parameter site.set.phrases p item.name.name) none).1

  -- what may be a variable of DO FOR
  node_varies : (name : List ℕ) (own : IsOwn site name) (n : Node) → own.phrase.node ≡ n → IsAmong own.phrase site.set.phrases → variable_fault site.set.phrases own.phrase n ≡ None
      → CellsAgree site.set.phrases [] (means site.set.phrases site.block name) (name_meant (here_at site) name [])
  unfolding variable_fault data_at is_nil
  node_varies name own (OfItem common item) is within none = item_varies name own common item (type_of common item) is within refl none
  node_varies name own (OfTemporaryGroup labels variable) is within none = temporary_cells_agree u site name own (record { labels = labels; variable = variable; declares = is })
  node_varies name own other is within none = absurd (cc)

  -- cells of what is declared agree that may be a variable of DO FOR
  varied_as : (name : List ℕ) (left : AreLeft site name) (k : ℕ) (p : Phrase) → means site.set.phrases site.block name ≡ Some k → slice_get site.set.phrases k ≡ Some p → IsShown site.set.phrases k p → variable_fault site.set.phrases p p.node ≡ None
      → CellsAgree site.set.phrases [] (means site.set.phrases site.block name) (name_meant (here_at site) name [])
  unfolding variable_fault data_at is_nil
  varied_as name left k p meant there (Plain plain) none = node_varies name (record { number = k; meant = meant; phrase = p; there = there; own = own_number site.set.phrases k p there plain }) p.node refl (at_among site.set.phrases k p there) none
  varied_as name left k p meant there (Written template head declarations is) none =
      let other : variable_fault site.set.phrases p (OfTemplate template head declarations) ≡ None = ap (variable_fault site.set.phrases p) (sym is) ∙ none in absurd (cc)
  varied_as name left k p meant there (Pooled common item is plain) none = plain_cells name k p common item meant there is (plainly site named sound counted declared literals has placed name left k p common item meant there is plain)
  varied_as name left k p meant there (PooledEvent common item is eventful stands) none =
      absurd (let other : true ≡ false = sym eventful ∙ no_event_varies p common item (type_of common item) refl (ap (variable_fault site.set.phrases p) (sym is) ∙ none) in cc)
  varied_as name left k p meant there (PooledConstant common item is eventless constant stands) none =
      absurd (let other : true ≡ false =
      sym (valued_constant (attributes.constant_of common item) _ constant)
      ∙ no_constant_varies p common item (type_of common item) (item_typed site sound p common item (at_among site.set.phrases k p there) is) (ap (variable_fault site.set.phrases p) (sym is) ∙ none) in cc)

  -- so do those of what the name of a variable of DO FOR means
  varied_by_name : (name : List ℕ) (left : AreLeft site name) (place : Place) (o : Option ℕ) → means site.set.phrases site.block name ≡ o → (is_some o || is_known_builtin name usage.Variable) ≡ true
      → ◌≡◌ {A = Option (ℕ × Place)} (elim o [ None ↦ if is_some (builtin_named name) then Some (712, place) else None | Some k ↦ elim (slice_get site.set.phrases k) [ None ↦ None | Some r ↦ at place (variable_fault site.set.phrases r r.node) ] ]) None
      → CellsAgree site.set.phrases [] (means site.set.phrases site.block name) (name_meant (here_at site) name [])
  varied_by_name name left place None meant known_ none = no_variable (builtin_named name) place known_ none
  varied_by_name name left place (Some k) meant known_ none =
      let first = (declared site.block name k meant).1 in
      let p : Phrase = first.declaring in
      varied_as name left k p meant first.there (shown_so site.set.phrases k p p.node refl (λ common item is_item. left.pooled k p common item meant first.there is_item))
      (no_rule place (variable_fault site.set.phrases p p.node) (ap (λ (o : Option Phrase). elim o [ None ↦ None | Some r ↦ at place (variable_fault site.set.phrases r r.node) ]) (sym first.there) ∙ none))

  -- the name of a variable of DO FOR
  pub variable_agrees : (q : Phrase) (name : Naming) → AreLeft site name.name → IsAmong q site.set.phrases → q.node ≡ OfVariable name → q.around.block ≡ site.block
      → CellsAgree site.set.phrases [] (means site.set.phrases site.block name.name) (name_meant (here_at site) name.name [])
  unfolding unknown used use_rows misreceived
  variable_agrees q name left within is here =
      let ps : List Phrase = site.set.phrases in
      let block : ℕ = q.around.block in
      let no_unknown = ruled_none 601 (unknown ps q) (unbroken rows ps named q within (λ qs o. ruled 601 (unknown qs o)) (inl refl)) in
      let no_fault = unbroken type_rows ps sound q within (λ qs o. misreceived qs o o.node) (of_uses (λ qs o. misreceived qs o o.node) (inr (inr (inr (inr (inr (inl refl))))))) in
      let known_ : (is_some (means ps block name.name) || is_known_builtin name.name usage.Variable) ≡ true = unless_true (is_some (means ps block name.name) || is_known_builtin name.name usage.Variable) name.place
      (ap (λ n. option_and_then (λ (v : Use). unless (is_known_use ps block v) v.place) (used n)) (sym is) ∙ no_unknown) in
      varied_by_name name.name left name.place (means ps site.block name.name) refl (ap (λ b. is_some (means ps b name.name) || is_known_builtin name.name usage.Variable) (sym here) ∙ known_)
      (ap (λ b. varied ps b name.place name.name) (sym here) ∙ (ap (misreceived ps q) (sym is) ∙ no_fault))
