-- How the nodes of declarations are seen, as code makes them.
use Rattle.std.proofs.Common.{rules, ◌≡◌, ℕ, List, map, Option, Vec, refl}
use Rattle.std.specs.Option.{option_map}
use Rattle.std.specs.declared.alloc.Global.{Global}
use Rattle.hal_base.specs.declared.refusal.Place.{Place}
use Rattle.hal_tree.specs.declared.leaf.Identifier.{Identifier}
use Rattle.hal_tree.specs.declared.leaf.Sign.{Sign}
use Rattle.hal_tree.specs.declared.leaf.LiteralValue.{LiteralValue}
use Rattle.hal_tree.specs.declared.expression.Expr.{Expr}
use Rattle.hal_tree.specs.declared.declaration.Mark.{Mark}
use Rattle.hal_tree.specs.declared.declaration.Type as rust-type
use Rattle.hal_tree.specs.declared.declaration.Type.TheVariants as type
use Rattle.hal_tree.specs.declared.declaration.Initial.{Initial, the_lemmas}
use Rattle.hal_tree.specs.declared.declaration.Initial.TheVariants as initial
use Rattle.hal_tree.specs.declared.declaration.Attribute.{Attribute}
use Rattle.hal_tree.specs.declared.declaration.Attribute.TheVariants as attribute
use Rattle.hal_tree.specs.declared.declaration.Declared.{Declared}
use Rattle.hal_tree.specs.declared.declaration.Part.{Part}
use Rattle.hal_tree.specs.declared.declaration.Declaration.TheVariants as declaration
use Rattle.hal_grammar.specs.Declarations as plain
use Rattle.hal_tree.specs.Rows.{expressions, initials}
use Rattle.hal_tree.specs.SeenLeaves.{seen_name, seen_sign, seen_literal}
use Rattle.hal_tree.specs.SeenExpressions.{seen_expression}
use Rattle.hal_tree.specs.SeenDeclarations.{seen_mark, seen_type, seen_initial, seen_attribute, seen_declared, seen_part, seen_declaration}

pub made_integer_type : (place : Place) → seen_type (type.Integer place) ≡ plain.IntegerKind place
unfolding seen_type
made_integer_type place = refl

pub made_boolean_type : (place : Place) → seen_type (type.Boolean place) ≡ plain.BooleanKind place
unfolding seen_type
made_boolean_type place = refl

pub made_event_type : (place : Place) → seen_type (type.Event place) ≡ plain.EventKind place
unfolding seen_type
made_event_type place = refl

pub made_bit_type : (place : Place) (size : Expr) → seen_type (type.Bit place size) ≡ plain.BitKind place (seen_expression size)
unfolding seen_type
made_bit_type place size = refl

pub made_character_type : (place : Place) (size : Expr) → seen_type (type.Character place size) ≡ plain.CharacterKind place (seen_expression size)
unfolding seen_type
made_character_type place size = refl

pub made_structure_type : (place : Place) (template : List ℕ) (copies : Option Expr) → seen_type (type.Structure place template copies) ≡ plain.StructureKind place template (option_map seen_expression copies)
unfolding seen_type
made_structure_type place template copies = refl

pub made_value : (value : Expr) → seen_initial (initial.Value value) ≡ plain.Value (seen_expression value)
unfolding seen_initial
made_value value = search (rules, the_lemmas)

pub made_literal_times : (place : Place) (count : ℕ) (sign : Option Sign) (at : Place) (literal : LiteralValue) → seen_initial (initial.LiteralTimes place count sign at literal) ≡ plain.LiteralTimes place count (option_map seen_sign sign) at (seen_literal literal)
unfolding seen_initial
made_literal_times place count sign at literal = search (rules, the_lemmas)

pub made_name_times : (place : Place) (count : ℕ) (sign : Option Sign) (name : Identifier) → seen_initial (initial.NameTimes place count sign name) ≡ plain.NameTimes place count (option_map seen_sign sign) (seen_name name)
unfolding seen_initial
made_name_times place count sign name = search (rules, the_lemmas)

pub made_list_times : (place : Place) (count : ℕ) (values : Vec Initial Global) → seen_initial (initial.ListTimes place count values) ≡ plain.ListTimes place count (initials (map seen_initial values.items))
unfolding seen_initial
made_list_times place count values = search (rules, the_lemmas)

pub made_dimensions : (place : Place) (sizes : Vec Expr Global) → seen_attribute (attribute.Dimensions place sizes) ≡ plain.Dimensions place (expressions (map seen_expression sizes.items))
unfolding seen_attribute
made_dimensions place sizes = refl

pub made_typed : (kind : rust-type.Type) → seen_attribute (attribute.Typed kind) ≡ plain.Typed (seen_type kind)
unfolding seen_attribute
made_typed kind = refl

pub made_marked : (place : Place) (mark : Mark) → seen_attribute (attribute.Marked place mark) ≡ plain.Marked place (seen_mark mark)
unfolding seen_attribute
made_marked place mark = refl

pub made_lock_group : (place : Place) (group : Expr) → seen_attribute (attribute.LockGroup place group) ≡ plain.LockGroup place (seen_expression group)
unfolding seen_attribute
made_lock_group place group = refl

pub made_lock_any : (place : Place) → seen_attribute (attribute.LockAny place) ≡ plain.LockAny place
unfolding seen_attribute
made_lock_any place = refl

pub made_initial : (place : Place) (values : Vec Initial Global) → seen_attribute (attribute.Initial place values) ≡ plain.InitialValues place (initials (map seen_initial values.items))
unfolding seen_attribute
made_initial place values = refl

pub made_constant : (place : Place) (values : Vec Initial Global) → seen_attribute (attribute.Constant place values) ≡ plain.ConstantValues place (initials (map seen_initial values.items))
unfolding seen_attribute
made_constant place values = refl

pub made_declared : (item : Declared) → seen_declared item ≡ plain.declared_of (seen_name item.name) (map seen_attribute item.attributes.items)
unfolding seen_declared
made_declared item = refl

pub made_part : (item : Part) → seen_part item ≡ plain.part_of item.place item.level (seen_name item.name) (map seen_attribute item.attributes.items)
unfolding seen_part
made_part item = refl

pub made_declare : (place : Place) (common : Vec Attribute Global) (items : Vec Declared Global) → seen_declaration (declaration.Declare place common items) ≡ plain.Declare place (map seen_attribute common.items) (map seen_declared items.items)
unfolding seen_declaration
made_declare place common items = refl

pub made_structure : (place : Place) (name : Identifier) (parts : Vec Part Global) → seen_declaration (declaration.Structure place name parts) ≡ plain.Structure place (seen_name name) (map seen_part parts.items)
unfolding seen_declaration
made_structure place name parts = refl
