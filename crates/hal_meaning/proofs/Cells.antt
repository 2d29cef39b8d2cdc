-- The shared cells of a set are right.
use Rattle.std.specs.Prelude.{ℕ, zero, suc, ◌≤◌, ◌≡◌, ◌++◌, ◌&&◌, nat_le, map, List, [], ◌∷◌, pos, negsuc, Bool, true, false, Option, Some, None, All, replicate, flat_map, unwrap_or, slice_get, if◌then◌else◌}
use Rattle.std.specs.Option.{option_and_then}
use Rattle.std.proofs.Common.{refl, arith}
use Rattle.std.proofs.lemmas.Bool.{leb-true}
use Rattle.std.proofs.lemmas.List.Elements.{All-nil, All-cons, All-append}
use Rattle.hal_grammar.specs.Declarations as declarations
use Rattle.hal_grammar.specs.Declarations.{IntegerKind, BooleanKind, EventKind, BitKind, CharacterKind, StructureKind, Attribute, Declared, Part, Initials}
use Rattle.hal_phrases.specs.Phrases.{Node, Phrase, OfFile, OfInclude, OfTemplate, OfUnit, OfParameter, OfClose, OfDeclare, OfItem, OfStructure, OfPart, OfStructureType, OfInitial, OfInitialName, OfLabel, OfExpression, OfDecimal, OfCallForm, OfReference, OfSubscriptName, OfAssignment, OfGroup, OfTemporaryGroup, OfVariable, OfExit, OfRepeat, OfReturn, OfCall, OfRead, OfWrite, OfUpdate, OfRealTime, OfProcess, OfEvent, OfHandler, OfResponse, OfOffError, OfSendError}
use Rattle.hal_phrases.specs.GatheredDeclarations.{is_bottom}
use Rattle.hal_names.specs.Means.{means}
use Rattle.hal_constants.specs.declared.constant.Constant.{Constant}
use Rattle.hal_constants.specs.declared.constant.Constant.TheVariants as constant
use Rattle.hal_constants.specs.Constants.{constant_of}
use Rattle.hal_constants.specs.Known.{Known, size_of_integer, size_of_value, size_of, bits_kind, text_kind, kind_of, kind_of_type}
use Rattle.hal_scope.specs.Sorts.{type_among}
use Rattle.hal_values.specs.declared.value.Kind.{Kind}
use Rattle.hal_values.specs.declared.value.Kind.TheVariants as kind
use Rattle.hal_values.specs.declared.value.Value.{Value}
use Rattle.hal_values.specs.declared.value.Value.TheVariants as value
use Rattle.hal_values.specs.Kinds.{IsKind, IsOfKind}
use Rattle.hal_values.specs.Tables.{IsCell}
use Rattle.hal_operations.specs.Stores.{mended_store}
use Rattle.hal_states.specs.OfKinds.{nothing}
use Rattle.hal_meaning.specs.Elements.{Component, Shape, count, times, kinds_of_component, kinds_of, component, Above, lower, path_to, components_from, components_at, shape_of_type, shape_of}
use Rattle.hal_meaning.specs.InitialValues.{held, one_each, filled, given, all_values, first_values}
use Rattle.hal_meaning.specs.Places.{Storing, InCells, InPlaces, ByReference, Unstored, storing, cells_from, cells_of_item, cells_at}
use Rattle.hal_meaning.specs.Sets.{cells_of}
use Rattle.hal_states.proofs.OfKind.{of_kind_is, nothing_is}

-- a size within its limit
abbrev IsSize : ℕ → Option ℕ → Type 0
IsSize most None = Unit {0}
IsSize most (Some n) = (1 ≤ n) × (n ≤ most)

both : (a b : Bool) → (a && b) ≡ true → (a ≡ true) × (b ≡ true)
both true b e = (refl, e)
both false b e = absurd (cc)

sized : (most n : ℕ) (b : Bool) → (nat_le 1 n && nat_le n most) ≡ b → IsSize most (if b then Some n else None)
sized most n true e = (leb-true 1 n (both _ _ e).0, leb-true n most (both _ _ e).1)
sized most n false e = tt

size_is : (most : ℕ) (c : Constant) → IsSize most (size_of most c)
unfolding size_of size_of_value size_of_integer
size_is most (constant.Worth (value.Int (pos n))) = sized most n (nat_le 1 n && nat_le n most) refl
size_is most (constant.Worth (value.Int (negsuc n))) = tt
size_is most (constant.Worth (value.Bits len word)) = tt
size_is most (constant.Worth (value.Text text)) = tt
size_is most constant.Failed = tt
size_is most constant.Open = tt
size_is most constant.Unfit = tt

-- a kind that may be there is in its range
abbrev IsAny : Option Kind → Type 0
IsAny None = Unit {0}
IsAny (Some k) = IsKind k

bits_any : (size : Option ℕ) → IsSize 32 size → IsAny (bits_kind size)
unfolding bits_kind
bits_any None is = tt
bits_any (Some n) is = is

text_any : (size : Option ℕ) → IsSize 255 size → IsAny (text_kind size)
unfolding text_kind
text_any None is = tt
text_any (Some n) is = is

integer_any : (double : Bool) → IsAny (Some (if double then kind.Double else kind.Single))
integer_any true = tt
integer_any false = tt

one_bit_kind : IsKind (kind.Bits 1)
one_bit_kind = (omega arith, omega arith)

type_any : (ps : List Phrase) (vs : Known) (p : Phrase) (double : Bool) (type : declarations.Kind) → IsAny (kind_of ps vs p double type)
unfolding kind_of
type_any ps vs p double (IntegerKind place) = integer_any double
type_any ps vs p double (BooleanKind place) = one_bit_kind
type_any ps vs p double (EventKind place) = one_bit_kind
type_any ps vs p double (BitKind place size) = bits_any (size_of 32 (constant_of ps vs p size)) (size_is 32 (constant_of ps vs p size))
type_any ps vs p double (CharacterKind place size) = text_any (size_of 255 (constant_of ps vs p size)) (size_is 255 (constant_of ps vs p size))
type_any ps vs p double (StructureKind place template copies) = tt

declared_any : (ps : List Phrase) (vs : Known) (p : Phrase) (double : Bool) (type : Option declarations.Kind) → IsAny (kind_of_type ps vs p double type)
unfolding kind_of_type
declared_any ps vs p double None = tt
declared_any ps vs p double (Some type) = type_any ps vs p double type

or_single : (k : Option Kind) → IsAny k → IsKind (unwrap_or k kind.Single)
or_single None is = tt
or_single (Some k) is = is

-- each kind is in its range
abbrev pub EachKind : List Kind → Type 0
EachKind [] = Unit {0}
EachKind (k ∷ ks) = IsKind k × EachKind ks

-- each component's kind is
abbrev EachComponent : List Component → Type 0
EachComponent [] = Unit {0}
EachComponent (c ∷ cs) = IsKind c.kind × EachComponent cs

component_is : (ps : List Phrase) (vs : Known) (p : Phrase) (path : List (List ℕ)) (attributes : List Attribute) → IsKind (component ps vs p path attributes).kind
component_is ps vs p path attributes = or_single (kind_of_type ps vs p _ _) (declared_any ps vs p _ _)

bottom_or : (ps : List Phrase) (vs : Known) (p : Phrase) (above : List Above) (part : Part) (parts : List Part) (b : Bool)
    → EachComponent (components_from ps vs p (lower part.level above) parts) → EachComponent (components_from ps vs p (lower part.level above ++ ((part.level, part.name.name) ∷ [])) parts)
    → EachComponent (if b then component ps vs p (path_to (lower part.level above) part) part.attributes ∷ components_from ps vs p (lower part.level above) parts
    else components_from ps vs p (lower part.level above ++ ((part.level, part.name.name) ∷ [])) parts)
bottom_or ps vs p above part parts true one other = (component_is ps vs p (path_to (lower part.level above) part) part.attributes, one)
bottom_or ps vs p above part parts false one other = other

components_are : (ps : List Phrase) (vs : Known) (p : Phrase) (above : List Above) (parts : List Part) → EachComponent (components_from ps vs p above parts)
components_are ps vs p above [] = tt
components_are ps vs p above (part ∷ parts) =
    bottom_or ps vs p above part parts (is_bottom part.level parts) (components_are ps vs p (lower part.level above) parts) (components_are ps vs p (lower part.level above ++ ((part.level, part.name.name) ∷ [])) parts)

at_phrase : (ps : List Phrase) (vs : Known) (p : Phrase) (node : Node) → EachComponent (components_at ps vs p node)
at_phrase ps vs p (OfStructure name parts) = components_are ps vs p [] parts
at_phrase ps vs p (OfFile prefaces name) = tt
at_phrase ps vs p (OfInclude name) = tt
at_phrase ps vs p (OfTemplate name head list) = tt
at_phrase ps vs p (OfUnit name head list) = tt
at_phrase ps vs p (OfParameter name output) = tt
at_phrase ps vs p (OfClose name) = tt
at_phrase ps vs p (OfDeclare common) = tt
at_phrase ps vs p (OfItem common item) = tt
at_phrase ps vs p (OfPart bottom part) = tt
at_phrase ps vs p (OfStructureType place template) = tt
at_phrase ps vs p (OfInitial initial) = tt
at_phrase ps vs p (OfInitialName name) = tt
at_phrase ps vs p (OfLabel name) = tt
at_phrase ps vs p (OfExpression role tree) = tt
at_phrase ps vs p (OfDecimal role place) = tt
at_phrase ps vs p (OfCallForm place name arguments) = tt
at_phrase ps vs p (OfReference role reference) = tt
at_phrase ps vs p (OfSubscriptName name) = tt
at_phrase ps vs p (OfAssignment receivers tree) = tt
at_phrase ps vs p (OfGroup labels looping) = tt
at_phrase ps vs p (OfTemporaryGroup labels variable) = tt
at_phrase ps vs p (OfVariable name) = tt
at_phrase ps vs p (OfExit place label) = tt
at_phrase ps vs p (OfRepeat place label) = tt
at_phrase ps vs p (OfReturn place tree) = tt
at_phrase ps vs p (OfCall name arguments receivers) = tt
at_phrase ps vs p (OfRead place) = tt
at_phrase ps vs p (OfWrite place) = tt
at_phrase ps vs p (OfUpdate place labels) = tt
at_phrase ps vs p (OfRealTime place) = tt
at_phrase ps vs p (OfProcess name) = tt
at_phrase ps vs p (OfEvent event) = tt
at_phrase ps vs p (OfHandler place selector) = tt
at_phrase ps vs p (OfResponse place selector) = tt
at_phrase ps vs p (OfOffError place selector) = tt
at_phrase ps vs p (OfSendError group_at group number_at number) = tt

found_components : (ps : List Phrase) (vs : Known) (found : Option Phrase) → EachComponent (elim found [ None ↦ [] | Some p ↦ components_at ps vs p p.node ])
found_components ps vs None = tt
found_components ps vs (Some p) = at_phrase ps vs p p.node

shape_is : (ps : List Phrase) (vs : Known) (p : Phrase) (attributes : List Attribute) (type : Option declarations.Kind) → EachComponent (shape_of_type ps vs p attributes type).components
shape_is ps vs p attributes None = (component_is ps vs p [] attributes, tt)
shape_is ps vs p attributes (Some (IntegerKind place)) = (component_is ps vs p [] attributes, tt)
shape_is ps vs p attributes (Some (BooleanKind place)) = (component_is ps vs p [] attributes, tt)
shape_is ps vs p attributes (Some (EventKind place)) = (component_is ps vs p [] attributes, tt)
shape_is ps vs p attributes (Some (BitKind place size)) = (component_is ps vs p [] attributes, tt)
shape_is ps vs p attributes (Some (CharacterKind place size)) = (component_is ps vs p [] attributes, tt)
shape_is ps vs p attributes (Some (StructureKind place template copies)) = found_components ps vs (option_and_then (slice_get ps) (means ps p.around.block template))

each_append : (xs ys : List Kind) → EachKind xs → EachKind ys → EachKind (xs ++ ys)
each_append [] ys one other = other
each_append (x ∷ xs) ys one other = (one.0, each_append xs ys one.1 other)

each_replicate : (n : ℕ) (k : Kind) → IsKind k → EachKind (replicate n k)
each_replicate zero k is = tt
each_replicate (suc n) k is = (is, each_replicate n k is)

each_times : (n : ℕ) (ks : List Kind) → EachKind ks → EachKind (times n ks)
each_times zero ks is = tt
each_times (suc n) ks is = each_append ks (times n ks) is (each_times n ks is)

each_component : (cs : List Component) → EachComponent cs → EachKind (flat_map kinds_of_component cs)
each_component [] is = tt
each_component (c ∷ cs) is = each_append (kinds_of_component c) (flat_map kinds_of_component cs) (each_replicate (count c) c.kind is.0) (each_component cs is.1)

-- the kinds of all elements are in their ranges
pub kinds_are : (shape : Shape) → EachComponent shape.components → EachKind (kinds_of shape)
kinds_are shape is = each_times (unwrap_or shape.copies 1) (flat_map kinds_of_component shape.components) (each_component shape.components is)

-- values beside their kinds
abbrev pub Beside : List Kind → List Value → Type 0
Beside [] [] = Unit {0}
Beside [] (v ∷ vs) = ⊥
Beside (k ∷ ks) [] = ⊥
Beside (k ∷ ks) (v ∷ vs) = IsOfKind k v × Beside ks vs

held_is : (k : Kind) (v : Value) → IsOfKind k (held k v)
held_is k v = of_kind_is k (mended_store k v)

all_held : (ks : List Kind) (v : Value) → Beside ks (map (λ k. held k v) ks)
all_held [] v = tt
all_held (k ∷ ks) v = (held_is k v, all_held ks v)

all_nothing : (ks : List Kind) → Beside ks (map nothing ks)
all_nothing [] = tt
all_nothing (k ∷ ks) = (nothing_is k, all_nothing ks)

one_beside : (ks : List Kind) (vs : List Value) → Beside ks (one_each ks vs)
one_beside [] vs = tt
one_beside (k ∷ ks) [] = (nothing_is k, one_beside ks [])
one_beside (k ∷ ks) (v ∷ vs) = (held_is k v, one_beside ks vs)

filled_beside : (ks : List Kind) (vs : List Value) → Beside ks (filled ks vs)
filled_beside ks [] = one_beside ks []
filled_beside ks (v ∷ []) = all_held ks v
filled_beside ks (v ∷ w ∷ more) = one_beside ks (v ∷ w ∷ more)

list_beside : (ps : List Phrase) (vs : Known) (p : Phrase) (ks : List Kind) (list : Option Initials) → Beside ks (elim list [ None ↦ map nothing ks | Some one ↦ filled ks (all_values ps vs p one) ])
list_beside ps vs p ks None = all_nothing ks
list_beside ps vs p ks (Some one) = filled_beside ks (all_values ps vs p one)

first_beside : (ps : List Phrase) (vs : Known) (p : Phrase) (attributes : List Attribute) (ks : List Kind) → Beside ks (first_values ps vs p attributes ks)
first_beside ps vs p attributes ks = list_beside ps vs p ks (given attributes)

cells_right : (group : ℕ) (ks : List Kind) (vs : List Value) → EachKind ks → Beside ks vs → All IsCell (cells_from group ks vs)
cells_right group [] [] kinds values = All-nil IsCell
cells_right group [] (v ∷ vs) kinds values = absurd values
cells_right group (k ∷ ks) [] kinds values = absurd values
cells_right group (k ∷ ks) (v ∷ vs) kinds values = All-cons IsCell (record { kind = k; group = group; initial = v }) (cells_from group ks vs) (kinds.0, values.0) (cells_right group ks vs kinds.1 values.1)

item_right : (ps : List Phrase) (vs : Known) (p : Phrase) (common : List Attribute) (item : Declared) (how : Storing) → All IsCell (cells_of_item ps vs p common item how)
item_right ps vs p common item (InCells group) =
    cells_right group (kinds_of (shape_of ps vs p common item)) (first_values ps vs p (item.attributes ++ common) (kinds_of (shape_of ps vs p common item)))
    (kinds_are (shape_of ps vs p common item) (shape_is ps vs p (item.attributes ++ common) (type_among (item.attributes ++ common))))
    (first_beside ps vs p (item.attributes ++ common) (kinds_of (shape_of ps vs p common item)))
item_right ps vs p common item InPlaces = All-nil IsCell
item_right ps vs p common item ByReference = All-nil IsCell
item_right ps vs p common item Unstored = All-nil IsCell

node_right : (ps : List Phrase) (vs : Known) (p : Phrase) (node : Node) → All IsCell (cells_at ps vs p node)
node_right ps vs p (OfItem common item) = item_right ps vs p common item (storing ps vs p (OfItem common item))
node_right ps vs p (OfStructure name parts) = All-nil IsCell
node_right ps vs p (OfFile prefaces name) = All-nil IsCell
node_right ps vs p (OfInclude name) = All-nil IsCell
node_right ps vs p (OfTemplate name head list) = All-nil IsCell
node_right ps vs p (OfUnit name head list) = All-nil IsCell
node_right ps vs p (OfParameter name output) = All-nil IsCell
node_right ps vs p (OfClose name) = All-nil IsCell
node_right ps vs p (OfDeclare common) = All-nil IsCell
node_right ps vs p (OfPart bottom part) = All-nil IsCell
node_right ps vs p (OfStructureType place template) = All-nil IsCell
node_right ps vs p (OfInitial initial) = All-nil IsCell
node_right ps vs p (OfInitialName name) = All-nil IsCell
node_right ps vs p (OfLabel name) = All-nil IsCell
node_right ps vs p (OfExpression role tree) = All-nil IsCell
node_right ps vs p (OfDecimal role place) = All-nil IsCell
node_right ps vs p (OfCallForm place name arguments) = All-nil IsCell
node_right ps vs p (OfReference role reference) = All-nil IsCell
node_right ps vs p (OfSubscriptName name) = All-nil IsCell
node_right ps vs p (OfAssignment receivers tree) = All-nil IsCell
node_right ps vs p (OfGroup labels looping) = All-nil IsCell
node_right ps vs p (OfTemporaryGroup labels variable) = All-nil IsCell
node_right ps vs p (OfVariable name) = All-nil IsCell
node_right ps vs p (OfExit place label) = All-nil IsCell
node_right ps vs p (OfRepeat place label) = All-nil IsCell
node_right ps vs p (OfReturn place tree) = All-nil IsCell
node_right ps vs p (OfCall name arguments receivers) = All-nil IsCell
node_right ps vs p (OfRead place) = All-nil IsCell
node_right ps vs p (OfWrite place) = All-nil IsCell
node_right ps vs p (OfUpdate place labels) = All-nil IsCell
node_right ps vs p (OfRealTime place) = All-nil IsCell
node_right ps vs p (OfProcess name) = All-nil IsCell
node_right ps vs p (OfEvent event) = All-nil IsCell
node_right ps vs p (OfHandler place selector) = All-nil IsCell
node_right ps vs p (OfResponse place selector) = All-nil IsCell
node_right ps vs p (OfOffError place selector) = All-nil IsCell
node_right ps vs p (OfSendError group_at group number_at number) = All-nil IsCell

cells_of_all : (ps : List Phrase) (vs : Known) (list : List Phrase) → All IsCell (flat_map (λ (p : Phrase). cells_at ps vs p p.node) list)
cells_of_all ps vs [] = All-nil IsCell
cells_of_all ps vs (p ∷ list) = All-append IsCell (cells_at ps vs p p.node) (flat_map (λ (q : Phrase). cells_at ps vs q q.node) list) (node_right ps vs p p.node) (cells_of_all ps vs list)

-- each shared cell is right
pub cells_are : (ps : List Phrase) (vs : Known) → All IsCell (cells_of ps vs)
cells_are ps vs = cells_of_all ps vs ps
