-- Whole structures that are passed for one with the same parts have its cells.
use Rattle.std.specs.Prelude.{◌≡◌, ◌≤◌, ◌<◌, ◌+◌, ◌*◌, ◌&&◌, ◌||◌, not, ℕ, Bool, true, false, List, [], ◌∷◌, ◌++◌, flat_map, length, map, Option, Some, None, slice_get, unwrap_or}
use Rattle.std.proofs.lemmas.List.{map-append}
use Rattle.std.specs.Option.{option_and_then, option_map, is_some}
use Rattle.std.proofs.Common.{refl, sym, ap, subst, ◌∙◌, inl, arith}
use Rattle.std.proofs.lemmas.Bool.{and_parts, eqb-true}
use Rattle.hal_base.specs.declared.refusal.Place.{Place}
use Rattle.hal_grammar.specs.Leaves.{Naming}
use Rattle.hal_grammar.specs.Expressions.{Expression, Refers, Subscript, Unsubscripted, ByParts, NoSubscripts, MoreSubscripts, One as OnePlace, place_of}
use Rattle.hal_grammar.specs.Declarations.{Kind, IntegerKind, BooleanKind, EventKind, BitKind, CharacterKind, StructureKind, Attribute, Declared, Typed}
use Rattle.hal_phrases.specs.declared.around.Around.{Around}
use Rattle.hal_phrases.specs.declared.role.Role.TheVariants as role
use Rattle.hal_phrases.specs.Phrases.{Phrase, phrase, add, OfExpression, OfItem, OfStructureType}
use Rattle.hal_phrases.specs.GatheredExpressions.{gathered}
use Rattle.hal_phrases.specs.GatheredDeclarations.{gathered_attribute, gathered_kind}
use Rattle.hal_names.specs.Laws.{IsCounted}
use Rattle.hal_names.specs.Means.{means}
use Rattle.hal_scope.specs.Rules.{IsSound, rows}
use Rattle.hal_scope.specs.Sorts.{type_among, type_of}
use Rattle.hal_kinds.specs.declared.class.Class.TheVariants as class
use Rattle.hal_kinds.specs.Attributes.{sizes_of}
use Rattle.hal_kinds.specs.Attributes as attributes
use Rattle.hal_kinds.specs.Data.{is_structure_type}
use Rattle.hal_operands.specs.declared.want.Want.TheVariants as want
use Rattle.hal_operands.specs.Wants.{wanted}
use Rattle.hal_sizes.specs.Constancy.{inconstant_as, inconstant, missized}
use Rattle.hal_sizes.specs.Sizes.{copies_by, copies_in, copies_of, size_in}
use Rattle.hal_types.specs.Rules.{size_rows, type_rows}
use Rattle.hal_constants.specs.Constants as constants
use Rattle.hal_constants.specs.Constants.{constant_of}
use Rattle.hal_constants.specs.Known.{Known, known}
use Rattle.hal_constants.specs.Naming.{is_value_item}
use Rattle.hal_shapes.specs.Arguments.{fits_parts}
use Rattle.hal_shapes.specs.Reaches.{reach_of}
use Rattle.hal_shapes.specs.Selections as selections
use Rattle.hal_shapes.specs.Selections.{copies_at, copies_chosen, copies_left, copy_subs, declared_for, structure_in, structure_of}
use Rattle.hal_shapes.specs.Shapes.{all_parts, fills, fits_structure, is_one_copy, is_whole_structure, matches, matches_any, may_count, parts_reached, same_structures, structure_argument, structure_at}
use Rattle.hal_scope.specs.Rules.{IsAmong}
use Rattle.hal_code.specs.Memory.{offsets}
use Rattle.hal_meaning.specs.Elements.{Component, Shape, components_at, components_named, copy_size, kinds_of, kinds_of_component, offset, shape_of, shape_of_type, size_given, times}
use Rattle.hal_meaning.specs.Expressions as meaning
use Rattle.hal_meaning.specs.Variables.{Dimension, dimensions_of}
use Rattle.hal_agreement.specs.PlacedExpressions.{single_dimensions}
use Rattle.hal_agreement.specs.Sites.{Site}
use Rattle.hal_gen_expr.specs.Led.{Led, skips_led, sizes_led}
use Rattle.hal_gen_expr.specs.Numbering.{most, row_of}
use Rattle.hal_gen_expr.specs.Spans.{skips}
use Rattle.hal_fit_rules.specs.Begun.{AreFirst}
use Rattle.hal_fit_rules.proofs.Beginning.{then_, among}
use Rattle.hal_fit_rules.proofs.BegunExpressions.{own_first}
use Rattle.hal_fit_rules.proofs.Declaring.{types_joined}
use Rattle.hal_fit_rules.proofs.Unbroken.{unbroken, of_sizes}
use Rattle.hal_fit_names.specs.Suited.{HasFitLiterals, AreDeclared}
use Rattle.hal_fit_names.proofs.Keeping.{constant_keeps}
use Rattle.hal_fit_names.proofs.Placing.{IsPlaced, NodePlaced, longer, one_longer}
use Rattle.hal_fit_names.proofs.Sizing.{is_valued, placed_precedes, size_known, typed_by}
use Rattle.hal_fit_names.proofs.Suiting.{suits, holds}
use Rattle.hal_right_images.proofs.rows.Filled.{size_some}
use Rattle.hal_right_images.proofs.views.Choosing.{copy_long, in_copies, in_copy, only_first}
use Rattle.hal_right_images.proofs.rows.Formed.{IsFormed}
use Rattle.hal_right_images.proofs.areas.Sizes.{given_is}
use Rattle.hal_right_images.proofs.areas.Standing.{Stands}

copies_wanted : wanted role.Copies ≡ want.Integer
unfolding wanted
copies_wanted = refl

-- structures are no constants that are their values
structured_item : (common : List Attribute) (item : Declared) → is_structure_type (type_of common item) ≡ true → is_value_item common item ≡ false
structured_item common item is = none (is_some (attributes.constant_of common item)) (is_some (sizes_of common item)) (is_structure_type (type_of common item)) is where
  none : (a b c : Bool) → c ≡ true → (a && (not b && not c)) ≡ false
  none true true true so = refl
  none true false true so = refl
  none false b true so = refl
  none a b false so = absurd (cc)

module _ (ps : List Phrase) (named : IsSound rows ps) (sound : IsSound type_rows ps) (counted : IsCounted ps) (declared : AreDeclared ps) (literals : HasFitLiterals ps) where
  -- a number of copies breaks no rule
  copies_right : (d : List Phrase) (a : Around) (t : Expression) → AreFirst (gathered d a role.Copies t) ps → missized 32767 (place_of t) (constant_of ps (known ps) (phrase (length d) a (OfExpression role.Copies t)) t) ≡ None
  unfolding size_rows inconstant inconstant_as
  copies_right d a t begun =
      unbroken type_rows ps sound (phrase (length d) a (OfExpression role.Copies t)) (among ps d a (OfExpression role.Copies t) (then_ (own_first d a role.Copies t) begun)) (λ qs o. inconstant qs (known qs) o o.node)
      (of_sizes (λ qs o. inconstant qs (known qs) o o.node) (inl refl))

  -- so it is known where data are declared
  pub copies_known : (p : Phrase) (common : List Attribute) (item : Declared) (place : Place) (template : List ℕ) (t : Expression) → p.node ≡ OfItem common item → type_of common item ≡ Some (StructureKind place template (Some t)) → NodePlaced ps p p.node
      → size_in ps (known ps) p t ≡ Some (size_given ps (known ps) p t)
  unfolding gathered_attribute gathered_kind is_structure_type
  copies_known p common item place template t is typed placed =
      let both = subst (λ n. NodePlaced ps p n) is placed in
      let k = StructureKind place template (Some t) in
      let spot : IsPlaced ps p (Typed k) = typed_by ps p item.attributes common (type_among item.attributes) k refl typed both.0 both.1 in
      let stored = structured_item common item (ap is_structure_type typed) in
      let a : Around = spot.around in
      let d : List Phrase = add spot.before a (OfStructureType place template) in
      let q : Phrase = phrase (length d) a (OfExpression role.Copies t) in
      let first : AreFirst (gathered d a role.Copies t) ps = spot.begun in
      let suited = suits ps named sound counted declared literals q d a role.Copies t refl refl first in
      let less : length d < length (gathered d a role.Copies t) = omega (arith, longer (own_first d a role.Copies t), one_longer d a (OfExpression role.Copies t)) in
      let size = size_known 32767 (place_of t) (constant_of ps (known ps) q t) (constant_of ps (known ps) p t) (holds ps named sound counted declared literals q d a role.Copies want.Integer t copies_wanted first suited)
      (copies_right d a t first)
      (constant_keeps ps (known ps) (known ps) q p spot.block
      (placed_precedes ps (known ps) p q (Typed k) spot (λ valued. absurd (let other = sym stored ∙ (ap is_valued (sym is) ∙ valued) in cc)) less spot.home) t) in
      given_is ps (known ps) p t size.0 size.1

-- the same components
named_is : (ps : List Phrase) (vs : Known) (block : ℕ) (template : List ℕ) (n : ℕ) (q : Phrase) → means ps block template ≡ Some n → slice_get ps n ≡ Some q → components_named ps vs block template ≡ components_at ps vs q q.node
named_is ps vs block template n q meant there =
    ap (λ (o : Option ℕ). elim (option_and_then (slice_get ps) o) [ None ↦ [] | Some x ↦ components_at ps vs x x.node ]) meant ∙ ap (λ (o : Option Phrase). elim o [ None ↦ [] | Some x ↦ components_at ps vs x x.node ]) there

-- nothing lies before the first component
pub none_before : (cs : List Component) → offset [] cs ≡ 0
none_before [] = refl
none_before (c ∷ cs) = refl

-- what is all of it stands there
pub all_stands : (site : Site) (l : Led) (shape : Shape) → l.path ≡ [] → kinds_of l.shape ≡ kinds_of shape → Stands site l Unsubscripted (kinds_of shape)
all_stands site l shape path same o among j k at =
    let none = only_first o among in
    let first : offset l.path l.shape.components ≡ 0 = ap (λ p. offset p l.shape.components) path ∙ none_before l.shape.components in
    let place : j ≡ ((0 + offset l.path l.shape.components) + o) + j = omega (arith, none, first) in
    subst (λ m. slice_get (kinds_of l.shape) m ≡ Some k) place (ap (λ ks. slice_get ks j) same ∙ at)

-- copies of an item
module _ (ps : List Phrase) (vs : Known) (p r : Phrase) (cs : List Component) where
  abbrev pub shape_with : Option Expression → Phrase → Shape
  shape_with copies x = record { copies = option_map (size_given ps vs x) copies; components = cs }

  -- as many for both
  pub copies_same : (one other : Option Expression) → ((t : Expression) → one ≡ Some t → size_in ps vs p t ≡ Some (size_given ps vs p t)) → ((t : Expression) → other ≡ Some t → size_in ps vs r t ≡ Some (size_given ps vs r t))
      → may_count (copies_by ps vs p one) (copies_by ps vs r other) ≡ true → kinds_of (shape_with one p) ≡ kinds_of (shape_with other r)
  unfolding may_count copies_by
  copies_same None None first second equal = refl
  copies_same None (Some t) first second equal =
      let so = sym (ap (may_count (Some 0)) (second t refl)) ∙ equal in
      let none = eqb-true 0 (size_given ps vs r t) so in
      let some = size_some ps vs r t in
      absurd (omega (arith, none, some))
  copies_same (Some t) None first second equal =
      let so = sym (ap (λ o. may_count o (Some 0)) (first t refl)) ∙ equal in
      let none = eqb-true (size_given ps vs p t) 0 so in
      let some = size_some ps vs p t in
      absurd (omega (arith, none, some))
  copies_same (Some t) (Some u) first second equal =
      let so = sym (ap (λ o. may_count o (size_in ps vs r u)) (first t refl) ∙ ap (may_count (Some (size_given ps vs p t))) (second u refl)) ∙ equal in
      ap (λ n. times n (flat_map kinds_of_component cs)) (eqb-true (size_given ps vs p t) (size_given ps vs r u) so)

-- an item that is a structure of the STRUCTURE with this number
pub record IsOf (ps : List Phrase) (p : Phrase) (common : List Attribute) (item : Declared) (n : ℕ) : Type 0 where
  pub place : Place
  pub template : List ℕ
  pub copies : Option Expression
  pub typed : type_of common item ≡ Some (StructureKind place template copies)
  pub meant : means ps p.around.block template ≡ Some n

-- the STRUCTURE that the type of data means
abbrev pub template_of_type : List Phrase → ℕ → Option Kind → Option ℕ
template_of_type ps block (Some (StructureKind place template copies)) = means ps block template
template_of_type ps block other = None

pub of_type : (ps : List Phrase) (p : Phrase) (common : List Attribute) (item : Declared) (n : ℕ) (t : Option Kind) → type_of common item ≡ t → template_of_type ps p.around.block t ≡ Some n → IsOf ps p common item n
of_type ps p common item n (Some (StructureKind place template copies)) typed is = record { place = place; template = template; copies = copies; typed = typed; meant = is }
of_type ps p common item n None typed is = absurd (cc)
of_type ps p common item n (Some (IntegerKind place)) typed is = absurd (cc)
of_type ps p common item n (Some (BooleanKind place)) typed is = absurd (cc)
of_type ps p common item n (Some (EventKind place)) typed is = absurd (cc)
of_type ps p common item n (Some (BitKind place size)) typed is = absurd (cc)
of_type ps p common item n (Some (CharacterKind place size)) typed is = absurd (cc)

module _ (ps : List Phrase) (vs : Known) (p : Phrase) (common : List Attribute) (item : Declared) (n : ℕ) (of : IsOf ps p common item n) (q : Phrase) (there : slice_get ps n ≡ Some q) where
  pub structured : is_structure_type (type_of common item) ≡ true
  unfolding is_structure_type
  structured = ap is_structure_type of.typed

  pub structured_shape : shape_of ps vs p common item ≡ record { copies = option_map (size_given ps vs p) of.copies; components = components_at ps vs q q.node }
  structured_shape =
      ap (shape_of_type ps vs p (item.attributes ++ common)) (types_joined item.attributes common ∙ of.typed)
      ∙ ap (λ cs. record { copies = option_map (size_given ps vs p) of.copies; components = cs }) (named_is ps vs p.around.block of.template n q of.meant there)

  pub template_there : structure_of ps p.around.block (type_of common item) ≡ Some q
  unfolding structure_in
  template_there = ap (structure_of ps p.around.block) of.typed ∙ (ap (option_and_then (λ k. slice_get ps k)) of.meant ∙ there)

  pub copies_there : copies_of ps vs p (type_of common item) ≡ copies_by ps vs p of.copies
  unfolding copies_of copies_in
  copies_there = ap (copies_of ps vs p) of.typed

-- an argument that fits a structure has as many copies, and the same parts
module _ (ps : List Phrase) (vs : Known) (q p r : Phrase) (place : Place) (name : List ℕ) (path : List Naming) (declared_so : declared_for ps q name ≡ Some p) (common other_common : List Attribute) (item other : Declared) (node : p.node ≡ OfItem other_common other)
    (n m : ℕ) (of : IsOf ps r common item n) (other_of : IsOf ps p other_common other m) (template : Phrase) (there : slice_get ps n ≡ Some template) (other_template : Phrase) (other_there : slice_get ps m ≡ Some other_template) where
  structure_there : structure_at ps p p.node ≡ Some other_template
  unfolding structure_at
  structure_there = ap (structure_at ps p) node ∙ template_there ps vs p other_common other m other_of other_template other_there

  pub chosen_there : (x : Subscript) → copies_chosen ps vs q x p ≡ option_and_then (λ size. copies_left ps vs q size (copy_subs x)) (copies_by ps vs p other_of.copies)
  unfolding copies_at
  chosen_there x = ap (option_and_then (λ size. copies_left ps vs q size (copy_subs x))) (ap (copies_at ps vs p) node ∙ copies_there ps vs p other_common other m other_of other_template other_there)

  matched : (x : Subscript) → fits_parts ps vs q r common item (Some class.Structure) (Some (Refers place name path x)) ≡ true → matches ps vs other_template (copies_chosen ps vs q x p) path template (copies_of ps vs r (type_of common item)) ≡ true
  unfolding is_whole_structure structure_argument fits_structure matches_any
  matched x fits =
      let wanted = copies_of ps vs r (type_of common item) in
      let template_of = structure_of ps r.around.block (type_of common item) in
      let found = ap (λ (o : Option Phrase). elim o [ None ↦ true | Some y ↦ matches_any ps vs (structure_at ps y y.node) (copies_chosen ps vs q x y) path template_of wanted ]) (sym declared_so) ∙ fits in
      sym (ap (λ o. matches_any ps vs o (copies_chosen ps vs q x p) path template_of wanted) structure_there
      ∙ ap (λ o. matches_any ps vs (Some other_template) (copies_chosen ps vs q x p) path o wanted) (template_there ps vs r common item n of template there)) ∙ found

  pub counts : (x : Subscript) → fits_parts ps vs q r common item (Some class.Structure) (Some (Refers place name path x)) ≡ true
      → may_count (option_and_then (λ size. copies_left ps vs q size (copy_subs x)) (copies_by ps vs p other_of.copies)) (copies_by ps vs r of.copies) ≡ true
  counts x fits =
      let wanted = copies_of ps vs r (type_of common item) in
      let count = and_parts (may_count (copies_chosen ps vs q x p) wanted) _ (matched x fits) in
      sym (ap (λ o. may_count o wanted) (chosen_there x) ∙ ap (may_count (option_and_then (λ size. copies_left ps vs q size (copy_subs x)) (copies_by ps vs p other_of.copies))) (copies_there ps vs r common item n of template there)) ∙ count.0

  pub alike : (x : Subscript) → fits_parts ps vs q r common item (Some class.Structure) (Some (Refers place name path x)) ≡ true → same_structures ps vs other_template (parts_reached other_template path) template (all_parts template) ≡ true
  alike x fits =
      let all = and_parts (may_count (copies_chosen ps vs q x p) (copies_of ps vs r (type_of common item))) _ (matched x fits) in
      (and_parts (same_structures ps vs other_template (parts_reached other_template path) template (all_parts template)) _ all.1).0

  -- it is one copy, or holds all cells of its copies
  pub follow_each_other : (x : Subscript) → fits_parts ps vs q r common item (Some class.Structure) (Some (Refers place name path x)) ≡ true
      → (is_one_copy (option_and_then (λ size. copies_left ps vs q size (copy_subs x)) (copies_by ps vs p other_of.copies)) || fills ps vs other_template path) ≡ true
  follow_each_other x fits =
      let all = and_parts (may_count (copies_chosen ps vs q x p) (copies_of ps vs r (type_of common item))) _ (matched x fits) in
      let last = (and_parts (same_structures ps vs other_template (parts_reached other_template path) template (all_parts template)) _ all.1).1 in
      sym (ap (λ o. is_one_copy o || fills ps vs other_template path) (chosen_there x)) ∙ last

-- without a subscript all copies are left
pub all_left : (ps : List Phrase) (vs : Known) (q : Phrase) (o : Option ℕ) → option_and_then (λ size. copies_left ps vs q size (copy_subs Unsubscripted)) o ≡ o
unfolding copy_subs copies_left
all_left ps vs q None = refl
all_left ps vs q (Some size) = refl

-- one copy is left alone
pub one_left : (ps : List Phrase) (vs : Known) (q : Phrase) (there : Place) (one : _) (o : Option ℕ) (size : ℕ) → o ≡ Some size
    → option_and_then (λ n. copies_left ps vs q n (copy_subs (ByParts there (MoreSubscripts (OnePlace one) NoSubscripts) NoSubscripts NoSubscripts))) o ≡ Some 0
unfolding copy_subs copies_left selections.copies_by reach_of
one_left ps vs q there one o size is = ap (option_and_then (λ n. copies_left ps vs q n (copy_subs (ByParts there (MoreSubscripts (OnePlace one) NoSubscripts) NoSubscripts NoSubscripts)))) is

-- a parameter for one copy has none
pub none_for : (ps : List Phrase) (vs : Known) (r : Phrase) (other : Option Expression) → ((t : Expression) → other ≡ Some t → size_in ps vs r t ≡ Some (size_given ps vs r t)) → may_count (Some 0) (copies_by ps vs r other) ≡ true → other ≡ None
unfolding may_count copies_by
none_for ps vs r None second equal = refl
none_for ps vs r (Some t) second equal =
    let so = sym (ap (may_count (Some 0)) (second t refl)) ∙ equal in
    let none = eqb-true 0 (size_given ps vs r t) so in
    let some = size_some ps vs r t in
    absurd (omega (arith, none, some))

-- the number of copies is known
pub counted_copies : (ps : List Phrase) (vs : Known) (p : Phrase) (one : Option Expression) → ((t : Expression) → one ≡ Some t → size_in ps vs p t ≡ Some (size_given ps vs p t)) → (n : ℕ) × (copies_by ps vs p one ≡ Some n)
unfolding copies_by
counted_copies ps vs p None first = (0, refl)
counted_copies ps vs p (Some t) first = (size_given ps vs p t, first t refl)

-- one copy stands among all
pub single_none : (ds : List Dimension) → single_dimensions ds NoSubscripts ≡ []
single_none [] = refl
single_none (d ∷ ds) = refl

pub copy_stands : (site : Site) (l : Led) (formed : IsFormed l.shape) (few : copy_size l.shape.components ≤ most) (there : Place) (one : _) (shape : Shape) → l.path ≡ []
    → kinds_of shape ≡ flat_map kinds_of_component l.shape.components → Stands site l (ByParts there (MoreSubscripts (OnePlace one) NoSubscripts) NoSubscripts NoSubscripts) (kinds_of shape)
unfolding constants.is_none
copy_stands site l formed few there one shape path same o among j k at =
    let cs = l.shape.components in
    let size = copy_size cs in
    let ks = flat_map kinds_of_component cs in
    let copies = MoreSubscripts (OnePlace one) NoSubscripts in
    let rows = map row_of (single_dimensions (dimensions_of (sizes_led l)) NoSubscripts) in
    let no_rows : rows ≡ [] = ap (map row_of) (single_none (dimensions_of (sizes_led l))) in
    let here : IsAmong o (offsets (map row_of (single_dimensions (meaning.copies_of l.shape) copies) ++ [])) =
    subst (λ ds. IsAmong o (offsets (map row_of (single_dimensions (meaning.copies_of l.shape) copies) ++ ds))) no_rows
    (subst (λ ds. IsAmong o (offsets ds)) (map-append row_of (single_dimensions (meaning.copies_of l.shape) copies) (single_dimensions (dimensions_of (sizes_led l)) NoSubscripts)) among) in
    let at_copy = in_copies site size 1 0 [] few (λ r is. let none = only_first r is in omega (arith, none)) l.shape.copies formed.copies copies o here in
    let long = copy_long cs in
    let found = in_copy (unwrap_or l.shape.copies 1) at_copy.copy j ks k at_copy.copy_low (ap (λ zs. slice_get zs j) (sym same) ∙ at) in
    let first : offset l.path cs ≡ 0 = ap (λ p. offset p cs) path ∙ none_before cs in
    let no_element : at_copy.element ≡ 0 = (let low = at_copy.element_low in omega (arith, low)) in
    let place = at_copy.is in
    let lengths = ap (λ m. at_copy.copy * m) long in
    let no_skip : skips site NoSubscripts (dimensions_of (sizes_led l)) ≡ 0 = refl in
    let so : at_copy.copy * length ks + j ≡ ((skips_led site (ByParts there copies NoSubscripts NoSubscripts) l + offset l.path cs) + o) + j = omega (arith, first, no_element, place, lengths, no_skip) in
    subst (λ m. slice_get (kinds_of l.shape) m ≡ Some k) so found
