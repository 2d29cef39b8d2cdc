-- The kinds of data are in their ranges, and what data hold at first is of them.
use Rattle.std.specs.Prelude.{◌≡◌, ℕ, zero, suc, ◌^◌, ◌==◌, nat_le, nat_lt, map, replicate, flat_map, pos, negsuc, Bool, true, false, ◌&&◌, List, [], ◌∷◌, ◌++◌, Option, Some, None, slice_get, unwrap_or, if◌then◌else◌}
use Rattle.std.specs.Option.{option_and_then}
use Rattle.std.proofs.Common.{refl, arith}
use Rattle.std.proofs.lemmas.Bool.{and_from, eq-eqb, lt-ltb, le-leb}
use Rattle.std.proofs.lemmas.Nat.{pow_pos}
use Rattle.hal_grammar.specs.Declarations as declarations
use Rattle.hal_grammar.specs.Declarations.{IntegerKind, BooleanKind, EventKind, BitKind, CharacterKind, StructureKind, Attribute, Declared, Part, Initials}
use Rattle.hal_phrases.specs.Phrases.{Node, Phrase, OfStructure}
use Rattle.hal_phrases.specs.GatheredDeclarations.{is_bottom}
use Rattle.hal_names.specs.Means.{means}
use Rattle.hal_operations.specs.Stores.{mended_store}
use Rattle.hal_constants.specs.declared.constant.Constant.{Constant}
use Rattle.hal_constants.specs.declared.constant.Constant.TheVariants as constant
use Rattle.hal_constants.specs.Constants.{constant_of}
use Rattle.hal_constants.specs.Known.{Known, size_of_integer, size_of_value, size_of, bits_kind, text_kind, kind_of, kind_of_type}
use Rattle.hal_scope.specs.Sorts.{type_among}
use Rattle.hal_states.specs.OfKinds.{nothing, is_of}
use Rattle.hal_values.specs.declared.value.Kind.{Kind}
use Rattle.hal_values.specs.declared.value.Kind.TheVariants as kind
use Rattle.hal_values.specs.declared.value.Value.{Value}
use Rattle.hal_values.specs.declared.value.Value.TheVariants as value
use Rattle.hal_code.specs.Sorts.{is_kind, is_initial}
use Rattle.hal_meaning.specs.Elements.{Component, Above, count, times, kinds_of_component, kinds_of, component, lower, path_to, components_from, components_at, shape_of_type, shape_of}
use Rattle.hal_meaning.specs.InitialValues.{held, one_each, filled, given, all_values, first_values}
use Rattle.hal_fit_calls.specs.Each.{Each}
use Rattle.hal_fit_calls.proofs.Each.{each_append, each_flat}

-- a size within its limit
abbrev pub IsSize : ℕ → Option ℕ → Type 0
IsSize most None = Unit {0}
IsSize most (Some n) = (nat_le 1 n && nat_le n most) ≡ true

sized : (most n : ℕ) (b : Bool) → (nat_le 1 n && nat_le n most) ≡ b → IsSize most (if b then Some n else None)
sized most n true is = is
sized most n false is = tt

pub size_is : (most : ℕ) (c : Constant) → IsSize most (size_of most c)
unfolding size_of size_of_value size_of_integer
size_is most (constant.Worth (value.Int (pos n))) = sized most n (nat_le 1 n && nat_le n most) refl
size_is most (constant.Worth (value.Int (negsuc n))) = tt
size_is most (constant.Worth (value.Bits len word)) = tt
size_is most (constant.Worth (value.Text text)) = tt
size_is most constant.Failed = tt
size_is most constant.Open = tt
size_is most constant.Unfit = tt

-- a kind that may be there is in its range
abbrev IsAny : Option Kind → Type 0
IsAny None = Unit {0}
IsAny (Some k) = is_kind k ≡ true

bits_any : (size : Option ℕ) → IsSize 32 size → IsAny (bits_kind size)
unfolding bits_kind
bits_any None is = tt
bits_any (Some n) is = is

text_any : (size : Option ℕ) → IsSize 255 size → IsAny (text_kind size)
unfolding text_kind
text_any None is = tt
text_any (Some n) is = is

integer_any : (double : Bool) → IsAny (Some (if double then kind.Double else kind.Single))
integer_any true = refl
integer_any false = refl

type_any : (ps : List Phrase) (vs : Known) (p : Phrase) (double : Bool) (type : declarations.Kind) → IsAny (kind_of ps vs p double type)
unfolding kind_of
type_any ps vs p double (IntegerKind place) = integer_any double
type_any ps vs p double (BooleanKind place) = refl
type_any ps vs p double (EventKind place) = refl
type_any ps vs p double (BitKind place size) = bits_any (size_of 32 (constant_of ps vs p size)) (size_is 32 (constant_of ps vs p size))
type_any ps vs p double (CharacterKind place size) = text_any (size_of 255 (constant_of ps vs p size)) (size_is 255 (constant_of ps vs p size))
type_any ps vs p double (StructureKind place template copies) = tt

declared_any : (ps : List Phrase) (vs : Known) (p : Phrase) (double : Bool) (type : Option declarations.Kind) → IsAny (kind_of_type ps vs p double type)
unfolding kind_of_type
declared_any ps vs p double None = tt
declared_any ps vs p double (Some type) = type_any ps vs p double type

or_single : (k : Option Kind) → IsAny k → is_kind (unwrap_or k kind.Single) ≡ true
or_single None is = refl
or_single (Some k) is = is

-- a kind in its range
abbrev pub IsRanged : Kind → Type 0
IsRanged k = is_kind k ≡ true

abbrev pub HasKind : Component → Type 0
HasKind c = is_kind c.kind ≡ true

component_is : (ps : List Phrase) (vs : Known) (p : Phrase) (path : List (List ℕ)) (attributes : List Attribute) → HasKind (component ps vs p path attributes)
component_is ps vs p path attributes = or_single (kind_of_type ps vs p _ _) (declared_any ps vs p _ _)

bottom_or : (ps : List Phrase) (vs : Known) (p : Phrase) (above : List Above) (part : Part) (parts : List Part) (b : Bool)
    → Each HasKind (components_from ps vs p (lower part.level above) parts) → Each HasKind (components_from ps vs p (lower part.level above ++ ((part.level, part.name.name) ∷ [])) parts)
    → Each HasKind (if b then component ps vs p (path_to (lower part.level above) part) part.attributes ∷ components_from ps vs p (lower part.level above) parts
    else components_from ps vs p (lower part.level above ++ ((part.level, part.name.name) ∷ [])) parts)
bottom_or ps vs p above part parts true one other = (component_is ps vs p (path_to (lower part.level above) part) part.attributes, one)
bottom_or ps vs p above part parts false one other = other

components_are : (ps : List Phrase) (vs : Known) (p : Phrase) (above : List Above) (parts : List Part) → Each HasKind (components_from ps vs p above parts)
components_are ps vs p above [] = tt
components_are ps vs p above (part ∷ parts) =
    bottom_or ps vs p above part parts (is_bottom part.level parts) (components_are ps vs p (lower part.level above) parts) (components_are ps vs p (lower part.level above ++ ((part.level, part.name.name) ∷ [])) parts)

at_phrase : (ps : List Phrase) (vs : Known) (p : Phrase) (node : Node) → Each HasKind (components_at ps vs p node)
at_phrase ps vs p (OfStructure name parts) = components_are ps vs p [] parts
at_phrase ps vs p other = tt

found_components : (ps : List Phrase) (vs : Known) (found : Option Phrase) → Each HasKind (elim found [ None ↦ [] | Some p ↦ components_at ps vs p p.node ])
found_components ps vs None = tt
found_components ps vs (Some p) = at_phrase ps vs p p.node

pub shape_is : (ps : List Phrase) (vs : Known) (p : Phrase) (attributes : List Attribute) (type : Option declarations.Kind) → Each HasKind (shape_of_type ps vs p attributes type).components
shape_is ps vs p attributes (Some (StructureKind place template copies)) = found_components ps vs (option_and_then (slice_get ps) (means ps p.around.block template))
shape_is ps vs p attributes None = (component_is ps vs p [] attributes, tt)
shape_is ps vs p attributes (Some (IntegerKind place)) = (component_is ps vs p [] attributes, tt)
shape_is ps vs p attributes (Some (BooleanKind place)) = (component_is ps vs p [] attributes, tt)
shape_is ps vs p attributes (Some (EventKind place)) = (component_is ps vs p [] attributes, tt)
shape_is ps vs p attributes (Some (BitKind place size)) = (component_is ps vs p [] attributes, tt)
shape_is ps vs p attributes (Some (CharacterKind place size)) = (component_is ps vs p [] attributes, tt)

each_replicate : (n : ℕ) (k : Kind) → IsRanged k → Each IsRanged (replicate n k)
each_replicate zero k is = tt
each_replicate (suc n) k is = (is, each_replicate n k is)

each_times : (n : ℕ) (ks : List Kind) → Each IsRanged ks → Each IsRanged (times n ks)
each_times zero ks is = tt
each_times (suc n) ks is = each_append IsRanged ks (times n ks) is (each_times n ks is)

-- those of all elements of data
pub kinds_ranged : (ps : List Phrase) (vs : Known) (p : Phrase) (common : List Attribute) (item : Declared) → Each IsRanged (kinds_of (shape_of ps vs p common item))
kinds_ranged ps vs p common item =
    let shape = shape_of ps vs p common item in
    each_times (unwrap_or shape.copies 1) (flat_map kinds_of_component shape.components)
    (each_flat HasKind IsRanged kinds_of_component shape.components (shape_is ps vs p (item.attributes ++ common) (type_among (item.attributes ++ common))) (λ c is. each_replicate (count c) c.kind is))

-- values beside their kinds
abbrev pub Beside : List Kind → List Value → Type 0
Beside (k ∷ ks) (v ∷ vs) = (is_of k v ≡ true) × Beside ks vs
Beside ks vs = Unit {0}

pub nothing_is : (k : Kind) → is_of k (nothing k) ≡ true
unfolding is_of
nothing_is kind.Single = refl
nothing_is kind.Double = refl
nothing_is (kind.Bits n) = and_from (n == n) (nat_lt 0 (2 ^ n)) (eq-eqb n n refl) (lt-ltb 0 (2 ^ n) (pow_pos n))
nothing_is (kind.Text n) = le-leb 0 n (omega arith)

made_of : (k : Kind) (v : Value) (b : Bool) → is_of k v ≡ b → is_of k (if b then v else nothing k) ≡ true
made_of k v true is = is
made_of k v false is = nothing_is k

held_is : (k : Kind) (v : Value) → is_of k (held k v) ≡ true
held_is k v = made_of k (mended_store k v) (is_of k (mended_store k v)) refl

all_held : (ks : List Kind) (v : Value) → Beside ks (map (λ k. held k v) ks)
all_held [] v = tt
all_held (k ∷ ks) v = (held_is k v, all_held ks v)

all_nothing : (ks : List Kind) → Beside ks (map nothing ks)
all_nothing [] = tt
all_nothing (k ∷ ks) = (nothing_is k, all_nothing ks)

one_beside : (ks : List Kind) (vs : List Value) → Beside ks (one_each ks vs)
one_beside [] vs = tt
one_beside (k ∷ ks) [] = (nothing_is k, one_beside ks [])
one_beside (k ∷ ks) (v ∷ vs) = (held_is k v, one_beside ks vs)

filled_beside : (ks : List Kind) (vs : List Value) → Beside ks (filled ks vs)
filled_beside ks [] = one_beside ks []
filled_beside ks (v ∷ []) = all_held ks v
filled_beside ks (v ∷ w ∷ more) = one_beside ks (v ∷ w ∷ more)

abbrev by_list : List Phrase → Known → Phrase → List Kind → Option Initials → List Value
by_list ps vs p ks list = elim list [ None ↦ map nothing ks | Some one ↦ filled ks (all_values ps vs p one) ]

list_beside : (ps : List Phrase) (vs : Known) (p : Phrase) (ks : List Kind) (list : Option Initials) → Beside ks (by_list ps vs p ks list)
list_beside ps vs p ks None = all_nothing ks
list_beside ps vs p ks (Some one) = filled_beside ks (all_values ps vs p one)

pub first_beside : (ps : List Phrase) (vs : Known) (p : Phrase) (attributes : List Attribute) (ks : List Kind) → Beside ks (first_values ps vs p attributes ks)
first_beside ps vs p attributes ks = list_beside ps vs p ks (given attributes)

pub initial_is : (k : Kind) (v : Value) → IsRanged k → is_of k v ≡ true → is_initial k v ≡ true
initial_is k v ranged is = and_from (is_kind k) (is_of k v) ranged is
