-- The phrases of declarations, behind those so far.
use Rattle.std.specs.Prelude.{ℕ, Bool, true, if◌then◌else◌, nat_lt, nat_le, List, [], ◌∷◌, ◌++◌, length, Option}
use Rattle.hal_grammar.specs.Expressions.{Expression}
use Rattle.hal_grammar.specs.Declarations.{Kind, IntegerKind, BooleanKind, EventKind, BitKind, CharacterKind, StructureKind, Initial, Value, LiteralTimes, NameTimes, ListTimes, Initials, NoInitials, MoreInitials, Attribute, Dimensions, Typed, Marked, LockGroup, LockAny, InitialValues, ConstantValues, Declared, Part, Declaration, Declare, Structure}
use Rattle.hal_phrases.specs.declared.around.Around.{Around}
use Rattle.hal_phrases.specs.declared.role.Role.{Role}
use Rattle.hal_phrases.specs.declared.role.Role.TheVariants as role
use Rattle.hal_phrases.specs.Surroundings.{under}
use Rattle.hal_phrases.specs.Phrases.{Phrase, add, gathered_each, gathered_any, OfDeclare, OfItem, OfStructure, OfPart, OfStructureType, OfInitial, OfInitialName}
use Rattle.hal_phrases.specs.GatheredExpressions.{below, gathered, gathered_all}

-- an expression that may be there
abbrev pub gathered_optional : List Phrase → Around → Role → Option Expression → List Phrase
gathered_optional d a r tree = gathered_any (λ e t. gathered e a r t) d tree

-- a type
unfoldable pub gathered_kind : List Phrase → Around → Kind → List Phrase
gathered_kind d a (IntegerKind p) = d
gathered_kind d a (BooleanKind p) = d
gathered_kind d a (EventKind p) = d
gathered_kind d a (BitKind p size) = gathered d a role.BitLength size
gathered_kind d a (CharacterKind p size) = gathered d a role.TextLength size
gathered_kind d a (StructureKind p template copies) = gathered_optional (add d a (OfStructureType p template)) a role.Copies copies

unfoldable mutual
  -- an initial value
  pub gathered_initial : List Phrase → Around → Initial → List Phrase
  gathered_initial d a (Value value) = gathered (add d a (OfInitial (Value value))) (below d a) role.Initial value
  gathered_initial d a (LiteralTimes p count sign at literal) = add d a (OfInitial (LiteralTimes p count sign at literal))
  gathered_initial d a (NameTimes p count sign name) = add (add d a (OfInitial (NameTimes p count sign name))) (below d a) (OfInitialName name)
  gathered_initial d a (ListTimes p count values) = gathered_initials (add d a (OfInitial (ListTimes p count values))) (below d a) values

  -- initial values
  pub gathered_initials : List Phrase → Around → Initials → List Phrase
  gathered_initials d a NoInitials = d
  gathered_initials d a (MoreInitials first others) = gathered_initials (gathered_initial d a first) a others

-- an attribute
unfoldable pub gathered_attribute : Around → List Phrase → Attribute → List Phrase
gathered_attribute a d (Dimensions p sizes) = gathered_all d a role.Dimension sizes
gathered_attribute a d (Typed kind) = gathered_kind d a kind
gathered_attribute a d (Marked p mark) = d
gathered_attribute a d (LockGroup p group) = gathered d a role.LockGroup group
gathered_attribute a d (LockAny p) = d
gathered_attribute a d (InitialValues p values) = gathered_initials d a values
gathered_attribute a d (ConstantValues p values) = gathered_initials d a values

-- a name that is declared, behind these common attributes
unfoldable pub gathered_item : Around → List Attribute → List Phrase → Declared → List Phrase
gathered_item a common d item = gathered_each (gathered_attribute (below d a)) (add d a (OfItem common item)) item.attributes

-- a part of a structure that is open: its level and its number
abbrev pub OpenPart : Type 0
OpenPart = ℕ × ℕ

-- those of the open parts that have a lower level than this one: they stay open beside a part of this level
unfoldable pub still_open : ℕ → List OpenPart → List OpenPart
still_open level [] = []
still_open level (o ∷ os) = if nat_lt o.0 level then o ∷ still_open level os else still_open level os

-- the number of the last one, or this one where there is none
unfoldable pub innermost : ℕ → List OpenPart → ℕ
innermost k [] = k
innermost k (o ∷ os) = innermost o.1 os

-- no part of a deeper level follows
unfoldable pub is_bottom : ℕ → List Part → Bool
is_bottom level [] = true
is_bottom level (x ∷ xs) = nat_le x.level level

-- a part
unfoldable pub gathered_part : Around → Bool → List Phrase → Part → List Phrase
gathered_part a bottom d part = gathered_each (gathered_attribute (below d a)) (add d a (OfPart bottom part)) part.attributes

-- the parts of a structure: a part belongs to the last open one of a lower level before it, or to the structure
unfoldable pub gathered_parts : Around → List OpenPart → List Phrase → List Part → List Phrase
gathered_parts a unclosed d [] = d
gathered_parts a unclosed d (x ∷ xs) =
    gathered_parts a (still_open x.level unclosed ++ ((x.level, length d) ∷ [])) (gathered_part (under (innermost a.parent (still_open x.level unclosed)) a) (is_bottom x.level xs) d x) xs

-- a declaration
unfoldable pub gathered_declaration : Around → List Phrase → Declaration → List Phrase
gathered_declaration a d (Declare p common items) =
    gathered_each (gathered_item (below d a) common) (gathered_each (gathered_attribute (below d a)) (add d a (OfDeclare common)) common) items
gathered_declaration a d (Structure p name parts) = gathered_parts (below d a) [] (add d a (OfStructure name parts)) parts
