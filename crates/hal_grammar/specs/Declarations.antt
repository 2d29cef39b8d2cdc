-- The trees of declarations, and how deep they are nested.
use Rattle.std.specs.Prelude.{ℕ, ◌+◌, List, max, Option}
use Rattle.hal_base.specs.declared.refusal.Place.{Place}
use Rattle.hal_grammar.specs.Leaves.{Naming, Sign, LiteralValue, most, if_any}
use Rattle.hal_grammar.specs.Expressions.{Expression, Expressions, nesting, nesting_of_all}

-- an attribute of one word
pub data Mark : Type 0 where
  Single Double Latched Static Automatic Dense Aligned : Mark

-- a type
pub data Kind : Type 0 where
  IntegerKind BooleanKind EventKind : (place : Place) → Kind
  BitKind CharacterKind : (place : Place) (size : Expression) → Kind
  StructureKind : (place : Place) (template : List ℕ) (copies : Option Expression) → Kind

mutual
  -- an initial value; `count` times a literal, a name or a list, with the place of the integer
  pub data Initial : Type 0 where
    Value : (value : Expression) → Initial
    LiteralTimes : (place : Place) (count : ℕ) (sign : Option Sign) (at : Place) (literal : LiteralValue) → Initial
    NameTimes : (place : Place) (count : ℕ) (sign : Option Sign) (name : Naming) → Initial
    ListTimes : (place : Place) (count : ℕ) (values : Initials) → Initial

  -- initial values one after another
  pub data Initials : Type 0 where
    NoInitials : Initials
    MoreInitials : (first : Initial) (others : Initials) → Initials

-- an attribute
pub data Attribute : Type 0 where
  Dimensions : (place : Place) (sizes : Expressions) → Attribute
  Typed : (kind : Kind) → Attribute
  Marked : (place : Place) (mark : Mark) → Attribute
  LockGroup : (place : Place) (group : Expression) → Attribute
  LockAny : (place : Place) → Attribute
  InitialValues : (place : Place) (values : Initials) → Attribute
  ConstantValues : (place : Place) (values : Initials) → Attribute

-- a name that is declared, and its attributes
pub record Declared : Type 0 where
  pub name : Naming
  pub attributes : List Attribute

-- a part of a structure
pub record Part : Type 0 where
  pub place : Place
  pub level : ℕ
  pub name : Naming
  pub attributes : List Attribute

-- a name with these attributes
abbrev pub declared_of : Naming → List Attribute → Declared
declared_of name attributes = record { name = name; attributes = attributes }

-- a part at this place, of this level, name and attributes
abbrev pub part_of : Place → ℕ → Naming → List Attribute → Part
part_of place level name attributes = record { place = place; level = level; name = name; attributes = attributes }

-- DECLARE with the attributes before the comma, or STRUCTURE
pub data Declaration : Type 0 where
  Declare : (place : Place) (common : List Attribute) (items : List Declared) → Declaration
  Structure : (place : Place) (name : Naming) (parts : List Part) → Declaration

-- a type's parentheses don't count
abbrev pub nesting_of_kind : Kind → ℕ
nesting_of_kind (IntegerKind place) = 0
nesting_of_kind (BooleanKind place) = 0
nesting_of_kind (EventKind place) = 0
nesting_of_kind (BitKind place size) = nesting size
nesting_of_kind (CharacterKind place size) = nesting size
nesting_of_kind (StructureKind place template copies) = if_any nesting copies

-- a list behind `#` is one deeper than what it stands in
abbrev mutual
  -- a value is as deep as its expression or list
  pub nesting_of_initial : Initial → ℕ
  nesting_of_initial (Value value) = nesting value
  nesting_of_initial (LiteralTimes place count sign at literal) = 0
  nesting_of_initial (NameTimes place count sign name) = 0
  nesting_of_initial (ListTimes place count values) = nesting_of_initials values + 1

  -- the deepest of initial values
  pub nesting_of_initials : Initials → ℕ
  nesting_of_initials NoInitials = 0
  nesting_of_initials (MoreInitials first others) = max (nesting_of_initial first) (nesting_of_initials others)

-- an attribute's parentheses don't count
abbrev pub nesting_of_attribute : Attribute → ℕ
nesting_of_attribute (Dimensions place sizes) = nesting_of_all sizes
nesting_of_attribute (Typed kind) = nesting_of_kind kind
nesting_of_attribute (Marked place mark) = 0
nesting_of_attribute (LockGroup place group) = nesting group
nesting_of_attribute (LockAny place) = 0
nesting_of_attribute (InitialValues place values) = nesting_of_initials values
nesting_of_attribute (ConstantValues place values) = nesting_of_initials values

-- a name that is declared is as deep as its attributes
abbrev pub nesting_of_declared : Declared → ℕ
nesting_of_declared declared = most nesting_of_attribute declared.attributes

-- a part is as deep as its attributes
abbrev pub nesting_of_part : Part → ℕ
nesting_of_part part = most nesting_of_attribute part.attributes

-- a declaration is as deep as its attributes
abbrev pub nesting_of_declaration : Declaration → ℕ
nesting_of_declaration (Declare place common items) = max (most nesting_of_attribute common) (most nesting_of_declared items)
nesting_of_declaration (Structure place name parts) = most nesting_of_part parts
