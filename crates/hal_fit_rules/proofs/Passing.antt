-- Arguments that are known are taken by their parameters, where no rule of types is broken.
use Rattle.std.proofs.Common.{◌≡◌, ℕ, suc, ◌==◌, Bool, true, false, ◌&&◌, ◌||◌, List, [], ◌∷◌, length, Option, Some, None, if◌then◌else◌, refl, sym, ap, ◌∙◌, arith}
use Rattle.std.specs.Option.{is_some}
use Rattle.std.proofs.lemmas.Bool.{and_from, and_parts, eqb-true, eq-eqb}
use Rattle.hal_base.specs.declared.refusal.Place.{Place}
use Rattle.hal_grammar.specs.Leaves.{Naming}
use Rattle.hal_grammar.specs.Declarations.{Kind, IntegerKind, BooleanKind, EventKind, BitKind, CharacterKind, StructureKind, Attribute, Declared}
use Rattle.hal_grammar.specs.Expressions.{Expression, Referred, Expressions, NoExpressions, MoreExpressions, Reference, place_of}
use Rattle.hal_phrases.specs.declared.around.Around.{Around}
use Rattle.hal_phrases.specs.declared.role.Role.{Role}
use Rattle.hal_phrases.specs.Phrases.{Phrase, phrase}
use Rattle.hal_phrases.specs.GatheredExpressions.{gathered, gathered_all}
use Rattle.hal_scope.specs.Rules.{IsSound}
use Rattle.hal_kinds.specs.declared.class.Class.{Class}
use Rattle.hal_kinds.specs.declared.class.Class.TheVariants as class
use Rattle.hal_kinds.specs.Attributes.{count_of}
use Rattle.hal_kinds.specs.Classes.{class_of, class_of_reference}
use Rattle.hal_kinds.specs.Data.{class_of_type, is_structure_type}
use Rattle.hal_operands.specs.Taken.{takes}
use Rattle.hal_operands.specs.Wants.{wanted}
use Rattle.hal_uses.specs.Calls.{condition_fault}
use Rattle.hal_uses.specs.Calls as uses
use Rattle.hal_constants.specs.Known.{Known, known}
use Rattle.hal_kinds.specs.Attributes.{sizes_of}
use Rattle.hal_shapes.specs.Arguments as arguments
use Rattle.hal_shapes.specs.Arguments.{input_as, input_fits, input_named, inputs_fit, fits_whole}
use Rattle.hal_shapes.specs.Selections.{reference_in}
use Rattle.hal_shapes.specs.Shapes.{fits_single, is_excused, is_whole_array, is_whole_structure, array_argument, structure_argument}
use Rattle.hal_types.specs.Rules.{type_rows}
use Rattle.hal_meaning.specs.Calls.{parameter_named}
use Rattle.hal_meaning.specs.Variables.{kind_of_first, is_whole}
use Rattle.hal_code.specs.Sorts.{Sort, I, B, T, sort_of}
use Rattle.hal_agreement.specs.Sites.{Site}
use Rattle.hal_fit_expr.specs.Uses.{Uses}
use Rattle.hal_fit_expr.specs.Sorted.{sort_of_expression, is_taken, passed_fits, arguments_fit, whole_fits, area_fits}
use Rattle.hal_fit_classes.specs.Kinded.{sort_of_class}
use Rattle.hal_fit_classes.proofs.Sorting as sorting
use Rattle.hal_fit_rules.specs.Begun.{AreFirst}
use Rattle.hal_fit_rules.specs.Leaves.{is_value_role, HasKnownLeaves, HaveKnownLeaves}
use Rattle.hal_fit_rules.proofs.Beginning.{then_}
use Rattle.hal_fit_rules.proofs.BegunExpressions.{expressions_first}
use Rattle.hal_fit_rules.specs.Parameters.{ParametersAgree, spelled}
use Rattle.hal_fit_rules.proofs.Unbroken.{value_eventless}
use Rattle.hal_fit_rules.proofs.Kinding.{kinded, wanted_of}
use Rattle.hal_fit_rules.proofs.Cells.{goes, kind_takes}

-- a class that is no condition
abbrev no_condition : Class → Bool
no_condition class.Condition = false
no_condition other = true

-- a value of a class that a single parameter of another one takes
record Enters (wanted given : Class) : Type 0 where
  sort : Sort
  sorted : sort_of_class wanted ≡ Some sort
  value : Sort
  worth : sort_of_class given ≡ Some value
  into : goes sort value ≡ true

integer_enters : (v : Class) → fits_single class.Integer (Some v) ≡ true → no_condition v ≡ true → Enters class.Integer v
unfolding fits_single takes
integer_enters class.Integer fits plain = record { sort = I; sorted = refl; value = I; worth = refl; into = refl }
integer_enters class.Bits fits plain = absurd (cc)
integer_enters class.Text fits plain = absurd (cc)
integer_enters class.Structure fits plain = absurd (cc)
integer_enters class.Array fits plain = absurd (cc)
integer_enters class.Condition fits plain = absurd (cc)

bits_enter : (v : Class) → fits_single class.Bits (Some v) ≡ true → no_condition v ≡ true → Enters class.Bits v
unfolding fits_single takes
bits_enter class.Bits fits plain = record { sort = B; sorted = refl; value = B; worth = refl; into = refl }
bits_enter class.Integer fits plain = absurd (cc)
bits_enter class.Text fits plain = absurd (cc)
bits_enter class.Structure fits plain = absurd (cc)
bits_enter class.Array fits plain = absurd (cc)
bits_enter class.Condition fits plain = absurd (cc)

text_enters : (v : Class) → fits_single class.Text (Some v) ≡ true → no_condition v ≡ true → Enters class.Text v
unfolding fits_single takes
text_enters class.Text fits plain = record { sort = T; sorted = refl; value = T; worth = refl; into = refl }
text_enters class.Integer fits plain = record { sort = T; sorted = refl; value = I; worth = refl; into = refl }
text_enters class.Bits fits plain = absurd (cc)
text_enters class.Structure fits plain = absurd (cc)
text_enters class.Array fits plain = absurd (cc)
text_enters class.Condition fits plain = absurd (cc)

kind_enters : (kind : Kind) (v : Class) → is_structure_type (Some kind) ≡ false → fits_single (class_of_type kind) (Some v) ≡ true → no_condition v ≡ true → Enters (class_of_type kind) v
unfolding class_of_type is_structure_type
kind_enters (IntegerKind place) v plain fits single = integer_enters v fits single
kind_enters (BooleanKind place) v plain fits single = bits_enter v fits single
kind_enters (EventKind place) v plain fits single = bits_enter v fits single
kind_enters (BitKind place size) v plain fits single = bits_enter v fits single
kind_enters (CharacterKind place size) v plain fits single = text_enters v fits single
kind_enters (StructureKind place template copies) v plain fits single = absurd (cc)

either_false : (b c : Bool) → b || c ≡ false → (b ≡ false) × (c ≡ false)
either_false false false none = (refl, refl)
either_false true c none = absurd (cc)
either_false false true none = absurd (cc)

neither_true : (b c : Bool) → b ≡ false → c ≡ false → b || c ≡ true → ⊥
neither_true false false first second is = absurd (cc)
neither_true true c first second is = absurd (cc)
neither_true false true first second is = absurd (cc)

none_more : (n : ℕ) → (0 == suc n) ≡ true → ⊥
none_more n is = let same = eqb-true 0 (suc n) is in cc

none_less : (n : ℕ) → (suc n == 0) ≡ true → ⊥
none_less n is = let same = eqb-true (suc n) 0 is in cc

one_less : (m n : ℕ) → (suc m == suc n) ≡ true → (m == n) ≡ true
one_less m n is = eq-eqb m n (omega (arith, eqb-true (suc m) (suc n) is))

-- no argument is a condition
conditionless : (o : Option Class) (c : Class) → o ≡ Some c → uses.is_condition o ≡ false → no_condition c ≡ true
unfolding uses.is_condition
conditionless o class.Condition is none = absurd (let some : uses.is_condition (Some class.Condition) ≡ false = ap uses.is_condition (sym is) ∙ none in cc)
conditionless o class.Integer is none = refl
conditionless o class.Bits is none = refl
conditionless o class.Text is none = refl
conditionless o class.Structure is none = refl
conditionless o class.Array is none = refl

unexcused : (c : Class) → no_condition c ≡ true → is_excused (Some c) ≡ false
unfolding is_excused
unexcused class.Condition plain = absurd (cc)
unexcused class.Integer plain = refl
unexcused class.Bits plain = refl
unexcused class.Text plain = refl
unexcused class.Structure plain = refl
unexcused class.Array plain = refl

first_plain : (b : Bool) (fault : ℕ × Place) (rest : Option (ℕ × Place)) → (if b then Some fault else rest) ≡ None → (b ≡ false) × (rest ≡ None)
first_plain true fault rest none = absurd (cc)
first_plain false fault rest none = (refl, none)

-- whether an expression is a reference alone
abbrev is_reference : Expression → Bool
is_reference (Referred reference) = true
is_reference other = false

unreferred : (tree : Expression) → is_reference tree ≡ false → reference_in tree ≡ None
unfolding reference_in
unreferred (Referred reference) is = absurd (cc)
unreferred other is = refl

-- what is no reference is no array and no structure
no_whole : (ps : List Phrase) (vs : Known) (p r : Phrase) (common : List Attribute) (item : Declared) (c : Option Class) (reference : Option Reference) (kind : Kind) → reference ≡ None
    → fits_whole ps vs p r common item c reference kind ≡ false
unfolding array_argument structure_argument
no_whole ps vs p r common item c reference kind is =
    ap (λ o. fits_whole ps vs p r common item c o kind) is ∙ by (is_structure_type (Some kind)) (is_whole_structure c) (is_whole_array c) where
      by : (structure parts places : Bool) → (if structure then parts && false else places && false) ≡ false
      by true true places = refl
      by true false places = refl
      by false parts true = refl
      by false parts false = refl

-- a structure or several elements
abbrev pub is_several : Class → Bool
is_several class.Structure = true
is_several class.Array = true
is_several other = false

-- an argument that is a reference to several elements has places that fit
abbrev pub IsArea : Uses → Site → List Phrase → ℕ → Expression → Type 0
IsArea u site ps block (Referred reference) = (c : Class) → class_of_reference ps block reference ≡ Some c → is_several c ≡ true → area_fits u site reference ≡ true
IsArea u site ps block other = Unit {0}

abbrev pub AreAreas : Uses → Site → List Phrase → ℕ → Expressions → Type 0
AreAreas u site ps block NoExpressions = Unit {0}
AreAreas u site ps block (MoreExpressions first others) = IsArea u site ps block first × AreAreas u site ps block others

both_true : (b c : Bool) → b && c ≡ true → b ≡ true
both_true b c is = (and_parts b c is).0

array_several : (c : Class) → is_whole_array (Some c) ≡ true → is_several c ≡ true
unfolding is_whole_array
array_several class.Array is = refl
array_several class.Structure is = refl
array_several class.Integer is = absurd (cc)
array_several class.Bits is = absurd (cc)
array_several class.Text is = absurd (cc)
array_several class.Condition is = absurd (cc)

structure_several : (c : Class) → is_whole_structure (Some c) ≡ true → is_several c ≡ true
unfolding is_whole_structure
structure_several class.Structure is = refl
structure_several class.Array is = refl
structure_several class.Integer is = absurd (cc)
structure_several class.Bits is = absurd (cc)
structure_several class.Text is = absurd (cc)
structure_several class.Condition is = absurd (cc)

-- what is taken whole is several elements
whole_several : (structure : Bool) (c : Class) (parts places : Bool) → (if structure then is_whole_structure (Some c) && parts else is_whole_array (Some c) && places) ≡ true → is_several c ≡ true
whole_several true c parts places is = structure_several c (both_true (is_whole_structure (Some c)) parts is)
whole_several false c parts places is = array_several c (both_true (is_whole_array (Some c)) places is)

is_second : (b c : Bool) → b ≡ false → b || c ≡ true → c ≡ true
is_second false c first is = is
is_second true c first is = absurd (cc)

module _ (u : Uses) (site : Site) (ps : List Phrase) (sound : IsSound type_rows ps) where
  -- the class of an argument, and its sort
  pub argument_known : (d : List Phrase) (a : Around) (r : Role) (t : Expression) → is_value_role r ≡ true → AreFirst (gathered d a r t) ps → HasKnownLeaves u site ps a.block t
      → (c : Class) × (class_of ps a.block t ≡ Some c) × ((s : Sort) → sort_of_class c ≡ Some s → sort_of_expression u site t ≡ Some s)
  argument_known d a r t value begun leaves =
      let is = kinded u site ps sound d a r t (value_eventless r value) begun leaves in
      let of = wanted_of u site ps sound d a r (wanted r) t value refl begun leaves is in
      (of.found, of.known, λ s worth. sorting.kinded u site ps a.block t is of.found s of.known worth)

  module _ (p : Phrase) where
    -- an argument of a single parameter of this type, in this phrase
    single_right : (block : ℕ) (q : Phrase) (common : List Attribute) (item : Declared) (kind : Kind) (t : Expression) (unit : ℕ) (name : Naming) (v : Class) → p.around.block ≡ block → class_of ps block t ≡ Some v
        → ((s : Sort) → sort_of_class v ≡ Some s → sort_of_expression u site t ≡ Some s) → uses.is_condition (class_of ps block t) ≡ false → arguments.is_whole common item kind ≡ false
        → input_as ps (known ps) p q common item t kind ≡ true → ((s : Sort) → sort_of_class (class_of_type kind) ≡ Some s → sort_of (kind_of_first (parameter_named site.set unit name).shape.components) ≡ s)
        → is_taken (kind_of_first (parameter_named site.set unit name).shape.components) (sort_of_expression u site t) ≡ true
    single_right block q common item kind t unit name v same is worth plain single fits sorted =
        let k = kind_of_first (parameter_named site.set unit name).shape.components in
        let excused : Bool = is_excused (class_of ps p.around.block t) in
        let enters = kind_enters kind v (either_false (is_structure_type (Some kind)) (is_some (sizes_of common item)) single).0
        (ap (λ c. fits_single (class_of_type kind) c) (sym is) ∙ (ap (λ b. fits_single (class_of_type kind) (class_of ps b t)) (sym same)
        ∙ (ap (λ b. if b then excused || fits_whole ps (known ps) p q common item (class_of ps p.around.block t) (reference_in t) kind else fits_single (class_of_type kind) (class_of ps p.around.block t)) (sym single) ∙ fits)))
        (conditionless (class_of ps block t) v is plain) in
        ap (is_taken k) (worth enters.value enters.worth) ∙ kind_takes k enters.value (ap (λ s. goes s enters.value) (sorted enters.sort enters.sorted) ∙ enters.into)

    -- one of an array or a structure
    whole_fitting : (block : ℕ) (q : Phrase) (common : List Attribute) (item : Declared) (kind : Kind) (t : Expression) (v : Class) → p.around.block ≡ block → class_of ps block t ≡ Some v
        → uses.is_condition (class_of ps block t) ≡ false → arguments.is_whole common item kind ≡ true → input_as ps (known ps) p q common item t kind ≡ true
        → fits_whole ps (known ps) p q common item (Some v) (reference_in t) kind ≡ true
    whole_fitting block q common item kind t v same is plain whole fits =
        let here : class_of ps p.around.block t ≡ Some v = ap (λ b. class_of ps b t) same ∙ is in
        let both : (is_excused (Some v) || fits_whole ps (known ps) p q common item (Some v) (reference_in t) kind) ≡ true =
        ap (λ c. is_excused c || fits_whole ps (known ps) p q common item c (reference_in t) kind) (sym here)
        ∙ (ap (λ b. if b then is_excused (class_of ps p.around.block t) || fits_whole ps (known ps) p q common item (class_of ps p.around.block t) (reference_in t) kind else fits_single (class_of_type kind) (class_of ps p.around.block t)) (sym whole) ∙ fits) in
        is_second (is_excused (Some v)) (fits_whole ps (known ps) p q common item (Some v) (reference_in t) kind) (unexcused v (conditionless (class_of ps block t) v is plain)) both

    whole_right : (block : ℕ) (q : Phrase) (common : List Attribute) (item : Declared) (kind : Kind) (t : Expression) (v : Class) → p.around.block ≡ block → class_of ps block t ≡ Some v
        → uses.is_condition (class_of ps block t) ≡ false → arguments.is_whole common item kind ≡ true → input_as ps (known ps) p q common item t kind ≡ true → IsArea u site ps block t → whole_fits u site t ≡ true
    unfolding class_of
    whole_right block q common item kind (Referred reference) v same is plain whole fits area =
        area v is (whole_several (is_structure_type (Some kind)) v _ _ (whole_fitting block q common item kind (Referred reference) v same is plain whole fits))
    whole_right block q common item kind other v same is plain whole fits area =
        absurd (neither_true false (fits_whole ps (known ps) p q common item (Some v) (reference_in other) kind) refl (no_whole ps (known ps) p q common item (Some v) (reference_in other) kind (unreferred other refl))
        (whole_fitting block q common item kind other v same is plain whole fits))

    -- an argument of the parameter of this name, as a whole or as one value
    argument_right : (block : ℕ) (q : Phrase) (common : List Attribute) (item : Declared) (kind : Kind) (t : Expression) (unit : ℕ) (name : Naming) (v : Class) (whole : Bool) → p.around.block ≡ block
        → class_of ps block t ≡ Some v → ((s : Sort) → sort_of_class v ≡ Some s → sort_of_expression u site t ≡ Some s) → uses.is_condition (class_of ps block t) ≡ false → arguments.is_whole common item kind ≡ whole
        → input_as ps (known ps) p q common item t kind ≡ true → ((s : Sort) → sort_of_class (class_of_type kind) ≡ Some s → sort_of (kind_of_first (parameter_named site.set unit name).shape.components) ≡ s)
        → IsArea u site ps block t → passed_fits whole (whole_fits u site t) (is_taken (kind_of_first (parameter_named site.set unit name).shape.components) (sort_of_expression u site t)) ≡ true
    argument_right block q common item kind t unit name v true same is worth plain whole fits sorted area = whole_right block q common item kind t v same is plain whole fits area
    argument_right block q common item kind t unit name v false same is worth plain whole fits sorted area = single_right block q common item kind t unit name v same is worth plain whole fits sorted

    -- arguments of parameters with these names
    pub arguments_right : (d : List Phrase) (a : Around) (r : Role) (k unit : ℕ) (names : List Naming) (ts : Expressions) → p.around.block ≡ a.block → is_value_role r ≡ true → AreFirst (gathered_all d a r ts) ps
        → ParametersAgree site ps k unit names → HaveKnownLeaves u site ps a.block ts → AreAreas u site ps a.block ts → condition_fault ps a.block ts ≡ None → (length names == count_of ts) ≡ true
        → inputs_fit ps (known ps) p k names ts ≡ true → arguments_fit u site unit names ts ≡ true
    unfolding gathered_all condition_fault inputs_fit input_fits count_of
    arguments_right d a r k unit [] NoExpressions same value begun agree leaves areas plain counted fit = refl
    arguments_right d a r k unit [] (MoreExpressions first others) same value begun agree leaves areas plain counted fit = absurd (none_more (count_of others) counted)
    arguments_right d a r k unit (name ∷ names) NoExpressions same value begun agree leaves areas plain counted fit = absurd (none_less (length names) counted)
    arguments_right d a r k unit (name ∷ names) (MoreExpressions first others) same value begun agree leaves areas plain counted fit =
        let par = agree.0 in
        let split = first_plain (uses.is_condition (class_of ps a.block first)) (703, place_of first) (condition_fault ps a.block others) plain in
        let fits = and_parts (input_named ps (known ps) p k name first) (inputs_fit ps (known ps) p k names others) fit in
        let typed : input_as ps (known ps) p par.phrase par.common par.item first par.kind ≡ true =
        ap (λ o. elim o [ None ↦ true | Some kind ↦ input_as ps (known ps) p par.phrase par.common par.item first kind ]) (sym par.typed)
        ∙ (ap (input_fits ps (known ps) p par.phrase first) (sym par.declares)
        ∙ (ap (λ (o : Option Phrase). elim o [ None ↦ true | Some q ↦ input_fits ps (known ps) p q first q.node ]) (sym par.found) ∙ fits.0)) in
        let has = argument_known d a r first value (then_ (expressions_first (gathered d a r first) a r others) begun) leaves.0 in
        and_from _ (arguments_fit u site unit names others)
        (argument_right a.block par.phrase par.common par.item par.kind first unit name has.0 (is_whole (parameter_named site.set unit name).shape) same has.1 has.2 split.0 (sym par.whole) typed par.sorted areas.0)
        (arguments_right (gathered d a r first) a r k unit names others same value begun agree.1 leaves.1 areas.1 split.1 (one_less (length names) (count_of others) counted) fits.1)

-- arguments fit parameters by their names, wherever these stand
pub arguments_spelled : (u : Uses) (site : Site) (unit : ℕ) (names others : List Naming) (ts : Expressions) → spelled names ≡ spelled others → arguments_fit u site unit names ts ≡ arguments_fit u site unit others ts
arguments_spelled u site unit [] [] ts same = refl
arguments_spelled u site unit [] (m ∷ ms) ts same = absurd (cc)
arguments_spelled u site unit (n ∷ ns) [] ts same = absurd (cc)
arguments_spelled u site unit (n ∷ ns) (m ∷ ms) NoExpressions same = refl
arguments_spelled u site unit (n ∷ ns) (m ∷ ms) (MoreExpressions first more) same =
    let one : n.name ≡ m.name = cc in
    let rest : spelled ns ≡ spelled ms = cc in
    ap (λ (a : List ℕ). passed_fits (is_whole (parameter_named site.set unit (record { place = n.place; name = a })).shape) (whole_fits u site first)
    (is_taken (kind_of_first (parameter_named site.set unit (record { place = n.place; name = a })).shape.components) (sort_of_expression u site first)) && arguments_fit u site unit ns more) one
    ∙ ap (λ b. passed_fits (is_whole (parameter_named site.set unit m).shape) (whole_fits u site first) (is_taken (kind_of_first (parameter_named site.set unit m).shape.components) (sort_of_expression u site first)) && b)
    (arguments_spelled u site unit ns ms more rest)
