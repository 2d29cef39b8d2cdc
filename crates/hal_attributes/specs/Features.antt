-- What an attribute says, without its numbers, and which of these exclude each other.
use Rattle.std.specs.Prelude.{ℕ, ◌==◌, Bool, true, false, ◌||◌}
use Rattle.hal_base.specs.declared.refusal.Place.{Place}
use Rattle.hal_grammar.specs.Declarations.{Mark, Single, Double, Latched, Static, Automatic, Dense, Aligned, Kind, IntegerKind, BooleanKind, EventKind, BitKind, CharacterKind, StructureKind, Attribute, Dimensions, Typed, Marked, LockGroup, LockAny, InitialValues, ConstantValues}
use Rattle.hal_attributes.specs.declared.feature.Feature.{Feature}
use Rattle.hal_attributes.specs.declared.feature.Feature.TheVariants as feature

-- where a type stands
unfoldable pub place_of_kind : Kind → Place
place_of_kind (IntegerKind place) = place
place_of_kind (BooleanKind place) = place
place_of_kind (EventKind place) = place
place_of_kind (BitKind place size) = place
place_of_kind (CharacterKind place size) = place
place_of_kind (StructureKind place template copies) = place

-- where an attribute stands
unfoldable pub place_of_attribute : Attribute → Place
place_of_attribute (Dimensions place sizes) = place
place_of_attribute (Typed kind) = place_of_kind kind
place_of_attribute (Marked place mark) = place
place_of_attribute (LockGroup place group) = place
place_of_attribute (LockAny place) = place
place_of_attribute (InitialValues place values) = place
place_of_attribute (ConstantValues place values) = place

unfoldable pub feature_of_kind : Kind → Feature
feature_of_kind (IntegerKind place) = feature.Integer
feature_of_kind (BooleanKind place) = feature.Bits
feature_of_kind (EventKind place) = feature.Event
feature_of_kind (BitKind place size) = feature.Bits
feature_of_kind (CharacterKind place size) = feature.Text
feature_of_kind (StructureKind place template copies) = feature.Structure

unfoldable pub feature_of_mark : Mark → Feature
feature_of_mark Single = feature.Single
feature_of_mark Double = feature.Double
feature_of_mark Latched = feature.Latched
feature_of_mark Static = feature.Static
feature_of_mark Automatic = feature.Automatic
feature_of_mark Dense = feature.Dense
feature_of_mark Aligned = feature.Aligned

-- what an attribute says
unfoldable pub feature_of : Attribute → Feature
feature_of (Dimensions place sizes) = feature.Array
feature_of (Typed kind) = feature_of_kind kind
feature_of (Marked place mark) = feature_of_mark mark
feature_of (LockGroup place group) = feature.Lock
feature_of (LockAny place) = feature.Lock
feature_of (InitialValues place values) = feature.Initial
feature_of (ConstantValues place values) = feature.Constant

-- of each sort a name has one at most
unfoldable pub sort_of : Feature → ℕ
sort_of feature.Array = 0
sort_of feature.Integer = 1
sort_of feature.Bits = 1
sort_of feature.Text = 1
sort_of feature.Event = 1
sort_of feature.Structure = 1
sort_of feature.Single = 2
sort_of feature.Double = 2
sort_of feature.Latched = 3
sort_of feature.Static = 4
sort_of feature.Automatic = 4
sort_of feature.Dense = 5
sort_of feature.Aligned = 5
sort_of feature.Lock = 6
sort_of feature.Initial = 7
sort_of feature.Constant = 7

-- a precision is an integer's, LATCHED an event's; a constant has no storage of a block and no lock; an event is no constant; an array has no structures
unfoldable pub excludes : Feature → Feature → Bool
excludes feature.Single feature.Bits = true
excludes feature.Single feature.Text = true
excludes feature.Single feature.Event = true
excludes feature.Single feature.Structure = true
excludes feature.Double feature.Bits = true
excludes feature.Double feature.Text = true
excludes feature.Double feature.Event = true
excludes feature.Double feature.Structure = true
excludes feature.Latched feature.Integer = true
excludes feature.Latched feature.Bits = true
excludes feature.Latched feature.Text = true
excludes feature.Latched feature.Structure = true
excludes feature.Constant feature.Automatic = true
excludes feature.Constant feature.Lock = true
excludes feature.Constant feature.Event = true
excludes feature.Array feature.Structure = true
excludes one other = false

-- whether two of these don't go together
abbrev pub clash : Feature → Feature → Bool
clash one other = (sort_of one == sort_of other) || (excludes one other || excludes other one)
