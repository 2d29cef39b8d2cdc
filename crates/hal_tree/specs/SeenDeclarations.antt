-- Which declaration of the grammar each declaration of the program is.
use Rattle.std.specs.Prelude.{map}
use Rattle.std.specs.Option.{option_map}
use Rattle.hal_tree.specs.declared.declaration.Mark as rust-mark
use Rattle.hal_tree.specs.declared.declaration.Mark.TheVariants as mark
use Rattle.hal_tree.specs.declared.declaration.Type as rust-type
use Rattle.hal_tree.specs.declared.declaration.Type.TheVariants as type
use Rattle.hal_tree.specs.declared.declaration.Initial.{fold-Initial}
use Rattle.hal_tree.specs.declared.declaration.Initial as rust-initial
use Rattle.hal_tree.specs.declared.declaration.Initial.TheOpen.{Initial-F}
use Rattle.hal_tree.specs.declared.declaration.Attribute as rust-attribute
use Rattle.hal_tree.specs.declared.declaration.Attribute.TheVariants as attribute
use Rattle.hal_tree.specs.declared.declaration.Declared as rust-declared
use Rattle.hal_tree.specs.declared.declaration.Part as rust-part
use Rattle.hal_tree.specs.declared.declaration.Declaration as rust-declaration
use Rattle.hal_tree.specs.declared.declaration.Declaration.TheVariants as declaration
use Rattle.hal_grammar.specs.Declarations.{Mark, Single, Double, Latched, Static, Automatic, Dense, Aligned, Kind, IntegerKind, BooleanKind, EventKind, BitKind, CharacterKind, StructureKind, Initial, Value, LiteralTimes, NameTimes, ListTimes, Attribute, Dimensions, Typed, Marked, LockGroup, LockAny, InitialValues, ConstantValues, Declared, declared_of, Part, part_of, Declaration, Declare, Structure}
use Rattle.hal_tree.specs.Rows.{expressions, initials}
use Rattle.hal_tree.specs.SeenLeaves.{seen_name, seen_sign, seen_literal}
use Rattle.hal_tree.specs.SeenExpressions.{seen_expression}

-- an attribute of one word
abbrev pub seen_mark : rust-mark.Mark → Mark
seen_mark mark.Single = Single
seen_mark mark.Double = Double
seen_mark mark.Latched = Latched
seen_mark mark.Static = Static
seen_mark mark.Automatic = Automatic
seen_mark mark.Dense = Dense
seen_mark mark.Aligned = Aligned

-- a type
unfoldable pub seen_type : rust-type.Type → Kind
seen_type (type.Integer place) = IntegerKind place
seen_type (type.Boolean place) = BooleanKind place
seen_type (type.Event place) = EventKind place
seen_type (type.Bit place size) = BitKind place (seen_expression size)
seen_type (type.Character place size) = CharacterKind place (seen_expression size)
seen_type (type.Structure place template copies) = StructureKind place template (option_map seen_expression copies)

-- an initial value, where those in its list are seen already
abbrev pub initial_step : Initial-F Initial → Initial
initial_step (Initial-F.Value value) = Value (seen_expression value)
initial_step (Initial-F.LiteralTimes place count sign at literal) = LiteralTimes place count (option_map seen_sign sign) at (seen_literal literal)
initial_step (Initial-F.NameTimes place count sign name) = NameTimes place count (option_map seen_sign sign) (seen_name name)
initial_step (Initial-F.ListTimes place count values) = ListTimes place count (initials values.items)

-- an initial value
unfoldable pub seen_initial : rust-initial.Initial → Initial
seen_initial = fold-Initial Initial initial_step

-- an attribute
unfoldable pub seen_attribute : rust-attribute.Attribute → Attribute
seen_attribute (attribute.Dimensions place sizes) = Dimensions place (expressions (map seen_expression sizes.items))
seen_attribute (attribute.Typed kind) = Typed (seen_type kind)
seen_attribute (attribute.Marked place mark) = Marked place (seen_mark mark)
seen_attribute (attribute.LockGroup place group) = LockGroup place (seen_expression group)
seen_attribute (attribute.LockAny place) = LockAny place
seen_attribute (attribute.Initial place values) = InitialValues place (initials (map seen_initial values.items))
seen_attribute (attribute.Constant place values) = ConstantValues place (initials (map seen_initial values.items))

-- a name and its attributes
unfoldable pub seen_declared : rust-declared.Declared → Declared
seen_declared declared = declared_of (seen_name declared.name) (map seen_attribute declared.attributes.items)

-- a part of a structure
unfoldable pub seen_part : rust-part.Part → Part
seen_part part = part_of part.place part.level (seen_name part.name) (map seen_attribute part.attributes.items)

-- a declaration
unfoldable pub seen_declaration : rust-declaration.Declaration → Declaration
seen_declaration (declaration.Declare place common items) = Declare place (map seen_attribute common.items) (map seen_declared items.items)
seen_declaration (declaration.Structure place name parts) = Structure place (seen_name name) (map seen_part parts.items)
