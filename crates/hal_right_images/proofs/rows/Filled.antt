-- Data have elements: all sizes are at least 1.
use Rattle.std.specs.Prelude.{◌≡◌, ◌<◌, ℕ, zero, suc, nat_le, Bool, true, false, List, [], ◌∷◌, ◌++◌, length, replicate, flat_map, Option, Some, None, unwrap_or, if◌then◌else◌}
use Rattle.std.specs.Option.{option_map}
use Rattle.std.proofs.Common.{refl, arith}
use Rattle.std.proofs.lemmas.Bool.{and_parts, leb-true}
use Rattle.std.proofs.lemmas.Nat.{mul-lt}
use Rattle.hal_base.specs.declared.refusal.Place.{Place}
use Rattle.hal_grammar.specs.Expressions.{Expression, Expressions, NoExpressions, MoreExpressions}
use Rattle.hal_grammar.specs.Declarations as declarations
use Rattle.hal_grammar.specs.Declarations.{IntegerKind, BooleanKind, EventKind, BitKind, CharacterKind, StructureKind, Attribute, Part}
use Rattle.hal_phrases.specs.Phrases.{Phrase}
use Rattle.hal_phrases.specs.GatheredDeclarations.{is_bottom}
use Rattle.hal_constants.specs.Constants.{constant_of}
use Rattle.hal_constants.specs.Known.{Known, size_of}
use Rattle.hal_values.specs.declared.value.Kind.{Kind}
use Rattle.hal_meaning.specs.Elements.{Component, Above, product, times, kinds_of_component, kinds_of, size_given, all_sizes, sizes_given, component, lower, path_to, components_from, components_named, shape_of_type}
use Rattle.hal_kinds.specs.Attributes.{sizes_among}
use Rattle.hal_fit_calls.specs.Each.{Each}
use Rattle.hal_fit_layout.specs.Owned.{has_one}
use Rattle.hal_fit_layout.proofs.Ranges.{IsSize, size_is}

-- a number that isn't 0
abbrev pub IsSome : ℕ → Type 0
IsSome n = 0 < n

pub size_some : (ps : List Phrase) (vs : Known) (p : Phrase) (size : Expression) → IsSome (size_given ps vs p size)
size_some ps vs p size = by (size_of 32767 (constant_of ps vs p size)) (size_is 32767 (constant_of ps vs p size)) where
  by : (o : Option ℕ) → IsSize 32767 o → IsSome (unwrap_or o 1)
  by None is = omega arith
  by (Some n) is = let low = leb-true 1 n (and_parts (nat_le 1 n) (nat_le n 32767) is).0 in omega (arith, low)

all_some : (ps : List Phrase) (vs : Known) (p : Phrase) (es : Expressions) → Each IsSome (all_sizes ps vs p es)
all_some ps vs p NoExpressions = tt
all_some ps vs p (MoreExpressions first others) = (size_some ps vs p first, all_some ps vs p others)

pub sizes_some : (ps : List Phrase) (vs : Known) (p : Phrase) (sizes : Option Expressions) → Each IsSome (sizes_given ps vs p sizes)
sizes_some ps vs p None = tt
sizes_some ps vs p (Some es) = all_some ps vs p es

pub product_some : (ns : List ℕ) → Each IsSome ns → IsSome (product ns)
product_some [] each = omega arith
product_some (n ∷ ns) each = mul-lt 0 0 n (product ns) each.0 (product_some ns each.1)

one_behind : (xs ys : List Kind) → has_one xs ≡ true → has_one (xs ++ ys) ≡ true
one_behind [] ys is = absurd (cc)
one_behind (x ∷ xs) ys is = refl

one_repeated : (n : ℕ) (k : Kind) → IsSome n → has_one (replicate n k) ≡ true
one_repeated zero k some = absurd (omega (arith, some))
one_repeated (suc n) k some = refl

times_one : (n : ℕ) (ks : List Kind) → IsSome n → has_one ks ≡ true → has_one (times n ks) ≡ true
times_one zero ks some is = absurd (omega (arith, some))
times_one (suc n) ks some is = one_behind ks (times n ks) is

component_one : (ps : List Phrase) (vs : Known) (p : Phrase) (path : List (List ℕ)) (attributes : List Attribute) → has_one (kinds_of_component (component ps vs p path attributes)) ≡ true
component_one ps vs p path attributes =
    let sizes = sizes_given ps vs p (sizes_among attributes) in
    one_repeated (product sizes) (component ps vs p path attributes).kind (product_some sizes (sizes_some ps vs p (sizes_among attributes)))

-- components of a structure with parts: the last part has none of its own
abbrev have_one : List Component → Bool
have_one cs = has_one (flat_map kinds_of_component cs)

bottom_one : (ps : List Phrase) (vs : Known) (p : Phrase) (above : List Above) (part : Part) (parts : List Part) (b : Bool) → is_bottom part.level parts ≡ b
    → ((more : List Above) → 0 < length parts → have_one (components_from ps vs p more parts) ≡ true)
    → have_one (if b then component ps vs p (path_to (lower part.level above) part) part.attributes ∷ components_from ps vs p (lower part.level above) parts
    else components_from ps vs p (lower part.level above ++ ((part.level, part.name.name) ∷ [])) parts) ≡ true
unfolding is_bottom
bottom_one ps vs p above part parts true is later =
    one_behind (kinds_of_component (component ps vs p (path_to (lower part.level above) part) part.attributes)) (flat_map kinds_of_component (components_from ps vs p (lower part.level above) parts))
    (component_one ps vs p (path_to (lower part.level above) part) part.attributes)
bottom_one ps vs p above part [] false is later = absurd (cc)
bottom_one ps vs p above part (next ∷ parts) false is later = later (lower part.level above ++ ((part.level, part.name.name) ∷ [])) (omega arith)

pub parts_one : (ps : List Phrase) (vs : Known) (p : Phrase) (above : List Above) (parts : List Part) → 0 < length parts → have_one (components_from ps vs p above parts) ≡ true
parts_one ps vs p above [] some = absurd (omega (arith, some))
parts_one ps vs p above (part ∷ parts) some = bottom_one ps vs p above part parts (is_bottom part.level parts) refl (λ more left. parts_one ps vs p more parts left)

-- data that are no structure, and structures whose template has components
abbrev pub HasComponents : List Phrase → Known → Phrase → Option declarations.Kind → Type 0
HasComponents ps vs p type =
    (place : Place) (template : List ℕ) (copies : Option Expression) → type ≡ Some (StructureKind place template copies) → has_one (flat_map kinds_of_component (components_named ps vs p.around.block template)) ≡ true

copies_some : (ps : List Phrase) (vs : Known) (p : Phrase) (copies : Option Expression) → IsSome (unwrap_or (option_map (size_given ps vs p) copies) 1)
copies_some ps vs p None = omega arith
copies_some ps vs p (Some size) = size_some ps vs p size

single_one : (ps : List Phrase) (vs : Known) (p : Phrase) (attributes : List Attribute) → have_one (component ps vs p [] attributes ∷ []) ≡ true
single_one ps vs p attributes = one_behind (kinds_of_component (component ps vs p [] attributes)) [] (component_one ps vs p [] attributes)

pub shape_one : (ps : List Phrase) (vs : Known) (p : Phrase) (attributes : List Attribute) (type : Option declarations.Kind) → HasComponents ps vs p type → has_one (kinds_of (shape_of_type ps vs p attributes type)) ≡ true
shape_one ps vs p attributes (Some (StructureKind place template copies)) has =
    times_one (unwrap_or (option_map (size_given ps vs p) copies) 1) (flat_map kinds_of_component (components_named ps vs p.around.block template)) (copies_some ps vs p copies) (has place template copies refl)
shape_one ps vs p attributes None has = times_one 1 (flat_map kinds_of_component (component ps vs p [] attributes ∷ [])) (omega arith) (single_one ps vs p attributes)
shape_one ps vs p attributes (Some (IntegerKind place)) has = times_one 1 (flat_map kinds_of_component (component ps vs p [] attributes ∷ [])) (omega arith) (single_one ps vs p attributes)
shape_one ps vs p attributes (Some (BooleanKind place)) has = times_one 1 (flat_map kinds_of_component (component ps vs p [] attributes ∷ [])) (omega arith) (single_one ps vs p attributes)
shape_one ps vs p attributes (Some (EventKind place)) has = times_one 1 (flat_map kinds_of_component (component ps vs p [] attributes ∷ [])) (omega arith) (single_one ps vs p attributes)
shape_one ps vs p attributes (Some (BitKind place size)) has = times_one 1 (flat_map kinds_of_component (component ps vs p [] attributes ∷ [])) (omega arith) (single_one ps vs p attributes)
shape_one ps vs p attributes (Some (CharacterKind place size)) has = times_one 1 (flat_map kinds_of_component (component ps vs p [] attributes ∷ [])) (omega arith) (single_one ps vs p attributes)
