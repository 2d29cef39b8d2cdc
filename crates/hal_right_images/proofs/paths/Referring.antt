-- The name of a reference with a path means data of a structure that has such a part.
use Rattle.std.proofs.Common.{◌≡◌, ℕ, Bool, true, false, not, ◌||◌, List, ◌∷◌, Option, Some, None, slice_get, refl, sym, ap, ◌∙◌, inl, inr, if◌then◌else◌}
use Rattle.std.specs.Option.{option_and_then, is_some}
use Rattle.hal_base.specs.declared.refusal.Place.{Place}
use Rattle.hal_grammar.specs.Leaves.{Naming}
use Rattle.hal_grammar.specs.Expressions.{Refers, Subscript}
use Rattle.hal_grammar.specs.Declarations.{Attribute, Declared, Kind, IntegerKind, BooleanKind, EventKind, BitKind, CharacterKind, StructureKind}
use Rattle.hal_phrases.specs.declared.around.Around.{Around}
use Rattle.hal_phrases.specs.declared.role.Role.{Role}
use Rattle.hal_phrases.specs.declared.role.Role.TheVariants as role
use Rattle.hal_phrases.specs.Phrases.{Node, Phrase, OfFile, OfTemplate, OfUnit, OfParameter, OfItem, OfStructure, OfPart, OfLabel, OfTemporaryGroup, OfReference}
use Rattle.hal_names.specs.declared.key.Key.{Key}
use Rattle.hal_names.specs.declared.key.Space.{Space}
use Rattle.hal_names.specs.declared.key.Space.TheVariants as space
use Rattle.hal_names.specs.Keys.{key, declared_at}
use Rattle.hal_names.specs.Means.{means}
use Rattle.hal_scope.specs.declared.builtin.Builtin.{Builtin}
use Rattle.hal_scope.specs.declared.sort.Sort.{Sort}
use Rattle.hal_scope.specs.declared.usage.Usage.{Usage}
use Rattle.hal_scope.specs.declared.usage.Usage.TheVariants as usage
use Rattle.hal_scope.specs.declared.used.Use.{Use}
use Rattle.hal_scope.specs.Builtins.{builtin_named, form_of}
use Rattle.hal_scope.specs.Components.{declares_operand, has_component, lacks, lacks_in, meaning_has, type_has}
use Rattle.hal_scope.specs.Rules.{IsAmong, IsSound, rows, ruled}
use Rattle.hal_scope.specs.Sorts.{is_known, is_operand, sort_of, sort_of_type, type_of, usage_of, use_of_reference, used}
use Rattle.hal_scope.specs.Uses.{fits_declared, fits_named, fits_use, is_in_event, is_known_builtin, is_known_use, is_nil, misused, sort_at, unknown, unless}
use Rattle.hal_operands.specs.Wants.{at}
use Rattle.hal_uses.specs.Receivers.{may_receive, misreceived, put, put_fault, received, received_by, reference_receives}
use Rattle.hal_types.specs.Rules.{type_rows, use_rows}
use Rattle.hal_fit_rules.proofs.Unbroken.{no_rule, of_uses, ruled_none, unbroken}
use Rattle.hal_fit_names.specs.Suited.{AreDeclared}
use Rattle.hal_right_images.proofs.rows.Templates.{unless_true}

-- a name means data of a type that has parts to which this path leads
pub record LeadsIn (ps : List Phrase) (block : ℕ) (name : List ℕ) (path : List Naming) : Type 0 where
  pub number : ℕ
  pub meant : means ps block name ≡ Some number
  pub phrase : Phrase
  pub there : slice_get ps number ≡ Some phrase
  pub common : List Attribute
  pub item : Declared
  pub is : phrase.node ≡ OfItem common item
  pub has : type_has ps phrase.around.block path (type_of common item) ≡ true

-- the space of a key
abbrev space_of : Option Key → Option Space
space_of None = None
space_of (Some k) = Some k.space

-- data may be operands
item_operand : (o : Option Kind) → is_operand (sort_of_type o) ≡ true
unfolding sort_of_type
item_operand None = refl
item_operand (Some (IntegerKind place)) = refl
item_operand (Some (BooleanKind place)) = refl
item_operand (Some (EventKind place)) = refl
item_operand (Some (BitKind place size)) = refl
item_operand (Some (CharacterKind place size)) = refl
item_operand (Some (StructureKind place template copies)) = refl

-- or nothing
or_none : (b : Bool) → (b || false) ≡ b
or_none true = refl
or_none false = refl

-- a truth and its contrary
contrary : {X : Type 0} (b : Bool) → b ≡ true → not b ≡ true → X
contrary true is other = absurd (cc)
contrary false is other = absurd (cc)

-- no rule is broken by what may be received
may_be : (b : Bool) (fault : ℕ × Place) → (if b then None else Some fault) ≡ None → b ≡ true
may_be true fault is = refl
may_be false fault is = absurd (cc)

-- behind UNTIL of SCHEDULE, where no event stands, it fits as a value does
limit_same : (ps : List Phrase) (q : Phrase) (o : Option Sort) → is_in_event ps q ≡ false → fits_declared ps q usage.EventOrTime o ≡ fits_declared ps q usage.Value o
limit_same ps q None calm = refl
limit_same ps q (Some s) calm = ap (λ b. is_operand s || b) calm ∙ or_none (is_operand s)

-- what fits as a value may be an operand
value_operand : (ps : List Phrase) (q : Phrase) (k : ℕ) (a : Around) (owner : ℕ) (name : List ℕ) (n : Node) → declared_at k a n ≡ Some (key space.Declared owner name) → fits_declared ps q usage.Value (sort_of n) ≡ true → declares_operand n ≡ true
unfolding sort_of declared_at
value_operand ps q k a owner name (OfTemplate unit head declarations) declares fits = fits
value_operand ps q k a owner name (OfUnit unit head declarations) declares fits = fits
value_operand ps q k a owner name (OfItem common item) declares fits = fits
value_operand ps q k a owner name (OfStructure structure parts) declares fits = fits
value_operand ps q k a owner name (OfLabel label) declares fits = fits
value_operand ps q k a owner name (OfTemporaryGroup labels variable) declares fits = fits
value_operand ps q k a owner name (OfFile prefaces unit) declares fits = let other : Some space.Unit ≡ Some space.Declared = ap space_of declares in absurd (cc)
value_operand ps q k a owner name (OfParameter parameter output) declares fits = let other : Some space.Parameter ≡ Some space.Declared = ap space_of declares in absurd (cc)
value_operand ps q k a owner name (OfPart bottom part) declares fits = let other : Some space.Part ≡ Some space.Declared = ap space_of declares in absurd (cc)
value_operand ps q k a owner name other declares fits = absurd (cc)

-- so may what receives values
receiver_operand : (ps : List Phrase) (q p : Phrase) (n : Node) → fits_declared ps q usage.Receiver (sort_of n) ≡ true → may_receive ps p n ≡ true → declares_operand n ≡ true
unfolding sort_of may_receive
receiver_operand ps q p (OfItem common item) fits may = item_operand (type_of common item)
receiver_operand ps q p (OfTemporaryGroup labels variable) fits may = refl
receiver_operand ps q p (OfStructure name parts) fits may = absurd (cc)
receiver_operand ps q p other fits may = absurd (cc)

-- and what is put by a unit
output_operand : (ps : List Phrase) (p : Phrase) (path : List Naming) (x : Subscript) (n : Node) → put_fault ps p path x n ≡ None → declares_operand n ≡ true
unfolding sort_of put_fault
output_operand ps p path x (OfItem common item) none = item_operand (type_of common item)
output_operand ps p path x (OfTemporaryGroup labels variable) none = refl
output_operand ps p path x other none = absurd (cc)

-- an operand with a component is data
operand_leads : (ps : List Phrase) (block : ℕ) (name : List ℕ) (path : List Naming) (k : ℕ) (p : Phrase) (n : Node) → means ps block name ≡ Some k → slice_get ps k ≡ Some p → p.node ≡ n → declares_operand n ≡ true → has_component ps p path n ≡ true
    → LeadsIn ps block name path
unfolding has_component
operand_leads ps block name path k p (OfItem common item) meant there is operand has = record { number = k; meant = meant; phrase = p; there = there; common = common; item = item; is = is; has = has }
operand_leads ps block name path k p other meant there is operand has = contrary (declares_operand other) operand has

-- no built-in function has components
no_builtin : {X : Type 0} (u : Usage) (o : Option Builtin) → not (is_some o) ≡ true → elim o [ None ↦ false | Some b ↦ is_known u (form_of b) ] ≡ true → X
no_builtin u None none known_ = absurd (cc)
no_builtin u (Some b) none known_ = absurd (cc)

module _ (ps : List Phrase) (named : IsSound rows ps) (sound : IsSound type_rows ps) (declared : AreDeclared ps) where
  module _ (q : Phrase) (within : IsAmong q ps) (r : Role) (place : Place) (name : List ℕ) (n : Naming) (ns : List Naming) (x : Subscript) (is : q.node ≡ OfReference r (Refers place name (n ∷ ns) x)) where
    abbrev block : ℕ
    block = q.around.block

    -- rule 608
    has_so : meaning_has ps block name (n ∷ ns) ≡ true
    unfolding lacks lacks_in is_nil
    has_so =
        unless_true (meaning_has ps block name (n ∷ ns)) place
        (ap (lacks ps q) (sym is) ∙ ruled_none 608 (lacks ps q q.node) (unbroken rows ps named q within (λ qs p. ruled 608 (lacks qs p p.node)) (inr (inr (inr (inr (inr (inr (inr (inl refl))))))))))

    -- rule 601
    known_so : is_some (means ps block name) || is_known_builtin name (usage_of r) ≡ true
    unfolding unknown used use_of_reference
    known_so =
        unless_true (is_some (means ps block name) || is_known_builtin name (usage_of r)) place
        (ap (λ m. option_and_then (λ (v : Use). unless (is_known_use ps block v) v.place) (used m)) (sym is) ∙ ruled_none 601 (unknown ps q) (unbroken rows ps named q within (λ qs o. ruled 601 (unknown qs o)) (inl refl)))

    -- rule 603
    fits_so : elim (means ps block name) [ None ↦ fits_named name (usage_of r) | Some k ↦ fits_declared ps q (usage_of r) (sort_at ps k) ] ≡ true
    unfolding misused used use_of_reference
    fits_so =
        unless_true (elim (means ps block name) [ None ↦ fits_named name (usage_of r) | Some k ↦ fits_declared ps q (usage_of r) (sort_at ps k) ]) place
        (ap (λ m. option_and_then (λ (v : Use). unless (fits_use ps q v) v.place) (used m)) (sym is) ∙ ruled_none 603 (misused ps q) (unbroken rows ps named q within (λ qs o. ruled 603 (misused qs o)) (inr (inr (inl refl)))))

    -- what may be an operand leads
    leads_by : ((k : ℕ) (p : Phrase) (owner : ℕ) → means ps block name ≡ Some k → slice_get ps k ≡ Some p → declared_at p.number p.around p.node ≡ Some (key space.Declared owner name) → fits_declared ps q (usage_of r) (sort_of p.node) ≡ true
        → declares_operand p.node ≡ true) → LeadsIn ps block name (n ∷ ns)
    leads_by operand = by (means ps block name) refl where
      by : (o : Option ℕ) → means ps block name ≡ o → LeadsIn ps block name (n ∷ ns)
      by None none =
          no_builtin (usage_of r) (builtin_named name)
          (ap (λ (o : Option ℕ). elim o [ None ↦ not (is_some (builtin_named name)) | Some m ↦ elim (slice_get ps m) [ None ↦ true | Some y ↦ has_component ps y (n ∷ ns) y.node ] ]) (sym none) ∙ has_so)
          (ap (λ (o : Option ℕ). is_some o || is_known_builtin name (usage_of r)) (sym none) ∙ known_so)
      by (Some k) meant =
          let declaration = declared block name k meant in
          let first = declaration.1 in
          let p : Phrase = first.declaring in
          let fits : fits_declared ps q (usage_of r) (sort_of p.node) ≡ true =
          ap (λ (o : Option Phrase). fits_declared ps q (usage_of r) (option_and_then (λ (y : Phrase). sort_of y.node) o)) (sym first.there)
          ∙ (ap (λ (o : Option ℕ). elim o [ None ↦ fits_named name (usage_of r) | Some m ↦ fits_declared ps q (usage_of r) (sort_at ps m) ]) (sym meant) ∙ fits_so) in
          let has : has_component ps p (n ∷ ns) p.node ≡ true =
          ap (λ (o : Option Phrase). elim o [ None ↦ true | Some y ↦ has_component ps y (n ∷ ns) y.node ]) (sym first.there)
          ∙ (ap (λ (o : Option ℕ). elim o [ None ↦ not (is_some (builtin_named name)) | Some m ↦ elim (slice_get ps m) [ None ↦ true | Some y ↦ has_component ps y (n ∷ ns) y.node ] ]) (sym meant) ∙ has_so) in
          operand_leads ps block name (n ∷ ns) k p p.node meant first.there refl (operand k p declaration.0 meant first.there first.declares fits) has

    -- a value
    pub value_leads : usage_of r ≡ usage.Value → LeadsIn ps block name (n ∷ ns)
    value_leads for_ = leads_by (λ k p owner meant there declares fits. value_operand ps q p.number p.around owner name p.node declares (ap (λ w. fits_declared ps q w (sort_of p.node)) (sym for_) ∙ fits))

    -- one behind UNTIL of SCHEDULE where no event stands
    pub limit_leads : usage_of r ≡ usage.EventOrTime → is_in_event ps q ≡ false → LeadsIn ps block name (n ∷ ns)
    limit_leads for_ calm =
        leads_by (λ k p owner meant there declares fits.
        value_operand ps q p.number p.around owner name p.node declares (sym (limit_same ps q (sort_of p.node) calm) ∙ (ap (λ w. fits_declared ps q w (sort_of p.node)) (sym for_) ∙ fits)))

    -- what receives values
    pub receiver_leads : r ≡ role.Receiver → LeadsIn ps block name (n ∷ ns)
    unfolding use_rows misreceived reference_receives usage_of
    receiver_leads receiver =
        leads_by (λ k p owner meant there declares fits.
        receiver_operand ps q p p.node (ap (λ w. fits_declared ps q (usage_of w) (sort_of p.node)) (sym receiver) ∙ fits)
        (may_be (may_receive ps p p.node) (709, place) (ap (option_and_then (received_by ps place)) (sym there) ∙ (ap (option_and_then (λ m. option_and_then (received_by ps place) (slice_get ps m))) (sym meant) ∙ none)))) where
          none : received ps block place name ≡ None
          none =
              ap (λ w. reference_receives ps block w (Refers place name (n ∷ ns) x)) (sym receiver)
              ∙ (ap (misreceived ps q) (sym is) ∙ unbroken type_rows ps sound q within (λ qs o. misreceived qs o o.node) (of_uses (λ qs o. misreceived qs o o.node) (inr (inr (inr (inr (inr (inl refl))))))))

    -- an ASSIGN argument
    pub output_leads : r ≡ role.Output → LeadsIn ps block name (n ∷ ns)
    unfolding use_rows misreceived reference_receives put
    output_leads output =
        leads_by (λ k p owner meant there declares fits.
        output_operand ps p (n ∷ ns) x p.node
        (no_rule place (put_fault ps p (n ∷ ns) x p.node) (ap (λ (o : Option Phrase). elim o [ None ↦ None | Some y ↦ at place (put_fault ps y (n ∷ ns) x y.node) ]) (sym there)
        ∙ (ap (λ (o : Option ℕ). elim o [ None ↦ if is_some (builtin_named name) then Some (722, place) else None | Some m ↦ elim (slice_get ps m) [ None ↦ None | Some y ↦ at place (put_fault ps y (n ∷ ns) x y.node) ] ]) (sym meant) ∙ none)))) where
          none : put ps block (Refers place name (n ∷ ns) x) ≡ None
          none =
              ap (λ w. reference_receives ps block w (Refers place name (n ∷ ns) x)) (sym output)
              ∙ (ap (misreceived ps q) (sym is) ∙ unbroken type_rows ps sound q within (λ qs o. misreceived qs o o.node) (of_uses (λ qs o. misreceived qs o o.node) (inr (inr (inr (inr (inr (inl refl))))))))
