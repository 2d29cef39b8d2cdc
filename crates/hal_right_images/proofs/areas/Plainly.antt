-- The shape of data that are no structure: one component with the kind and the sizes that the checks know.
use Rattle.std.specs.Prelude.{◌≡◌, ℕ, suc, Bool, true, false, ◌||◌, List, [], ◌∷◌, ◌++◌, length, Option, Some, None, unwrap_or}
use Rattle.std.proofs.Common.{refl, sym, ap, ◌∙◌}
use Rattle.hal_grammar.specs.Expressions.{Expressions, NoExpressions, MoreExpressions}
use Rattle.hal_grammar.specs.Declarations as declarations
use Rattle.hal_grammar.specs.Declarations.{IntegerKind, BooleanKind, EventKind, BitKind, CharacterKind, StructureKind, Mark, Double, Attribute, Declared}
use Rattle.hal_phrases.specs.Phrases.{Phrase}
use Rattle.hal_scope.specs.Sorts.{type_among, type_of}
use Rattle.hal_kinds.specs.Attributes.{count_of, has_mark, is_mark, is_marked, sizes_among, sizes_of}
use Rattle.hal_kinds.specs.Data.{is_structure_type}
use Rattle.hal_values.specs.declared.value.Kind.{Kind}
use Rattle.hal_values.specs.declared.value.Kind.TheVariants as kind
use Rattle.hal_constants.specs.Known.{Known, kind_of_item, kind_of_type}
use Rattle.hal_meaning.specs.Elements.{Shape, all_sizes, component, shape_of, shape_of_type, sizes_given}
use Rattle.hal_fit_rules.proofs.Declaring.{types_joined, sizes_joined}

or_or : (a b c : Bool) → ((a || b) || c) ≡ (a || (b || c))
or_or true b c = refl
or_or false b c = refl

marks_joined : (m : Mark) (xs ys : List Attribute) → has_mark m (xs ++ ys) ≡ (has_mark m xs || has_mark m ys)
marks_joined m [] ys = refl
marks_joined m (x ∷ xs) ys = ap (λ b. is_mark m x || b) (marks_joined m xs ys) ∙ sym (or_or (is_mark m x) (has_mark m xs) (has_mark m ys))

-- as many sizes as are written
pub sizes_long : (ps : List Phrase) (vs : Known) (p : Phrase) (sizes : Expressions) → length (all_sizes ps vs p sizes) ≡ count_of sizes
unfolding count_of
sizes_long ps vs p NoExpressions = refl
sizes_long ps vs p (MoreExpressions first others) = ap suc (sizes_long ps vs p others)

plain_shape : (ps : List Phrase) (vs : Known) (p : Phrase) (attributes : List Attribute) (type : Option declarations.Kind) → is_structure_type type ≡ false
    → shape_of_type ps vs p attributes type ≡ record { copies = None; components = component ps vs p [] attributes ∷ [] }
unfolding is_structure_type
plain_shape ps vs p attributes None plain = refl
plain_shape ps vs p attributes (Some (IntegerKind place)) plain = refl
plain_shape ps vs p attributes (Some (BooleanKind place)) plain = refl
plain_shape ps vs p attributes (Some (EventKind place)) plain = refl
plain_shape ps vs p attributes (Some (BitKind place size)) plain = refl
plain_shape ps vs p attributes (Some (CharacterKind place size)) plain = refl
plain_shape ps vs p attributes (Some (StructureKind place template copies)) plain = absurd (cc)

-- one component
abbrev pub plain_with : Kind → List ℕ → Shape
plain_with k ns = record { copies = None; components = record { path = []; kind = k; sizes = ns } ∷ [] }

pub item_shape : (ps : List Phrase) (vs : Known) (p : Phrase) (common : List Attribute) (item : Declared) (k : Kind) → is_structure_type (type_of common item) ≡ false → kind_of_item ps vs p common item ≡ Some k
    → shape_of ps vs p common item ≡ plain_with k (sizes_given ps vs p (sizes_of common item))
item_shape ps vs p common item k plain known_ =
    let attributes = item.attributes ++ common in
    let typed : type_among attributes ≡ type_of common item = types_joined item.attributes common in
    let sized : sizes_among attributes ≡ sizes_of common item = sizes_joined item.attributes common in
    let shape = plain_shape ps vs p attributes (type_among attributes) (ap is_structure_type typed ∙ plain) in
    let kinds : unwrap_or (kind_of_type ps vs p (has_mark Double attributes) (type_among attributes)) kind.Single ≡ k =
    ap (λ b. unwrap_or (kind_of_type ps vs p b (type_among attributes)) kind.Single) (marks_joined Double item.attributes common)
    ∙ (ap (λ t. unwrap_or (kind_of_type ps vs p (is_marked Double common item) t) kind.Single) typed ∙ ap (λ o. unwrap_or o kind.Single) known_) in
    shape ∙ (ap (λ c. plain_with c (sizes_given ps vs p (sizes_among attributes))) kinds ∙ ap (λ o. plain_with k (sizes_given ps vs p o)) sized)
