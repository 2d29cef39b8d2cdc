-- The phrases of attributes and of the parts of structures are no files, units, templates, parameters, items or structures.
use Rattle.std.proofs.Common.{Bool, List, [], ◌∷◌, ◌++◌, length, Option, None, Some, refl}
use Rattle.hal_grammar.specs.Expressions.{Expression}
use Rattle.hal_grammar.specs.Declarations.{Kind, IntegerKind, BooleanKind, EventKind, BitKind, CharacterKind, StructureKind, Initial, Value, LiteralTimes, NameTimes, ListTimes, Initials, NoInitials, MoreInitials, Attribute, Dimensions, Typed, Marked, LockGroup, LockAny, InitialValues, ConstantValues, Part}
use Rattle.hal_phrases.specs.declared.around.Around.{Around}
use Rattle.hal_phrases.specs.declared.role.Role.{Role}
use Rattle.hal_phrases.specs.Phrases.{Phrase, gathered_each}
use Rattle.hal_phrases.specs.GatheredExpressions.{below}
use Rattle.hal_phrases.specs.GatheredDeclarations.{OpenPart, still_open, gathered_optional, gathered_kind, gathered_initial, gathered_initials, gathered_attribute, gathered_part, gathered_parts}
use Rattle.hal_right_images.proofs.rows.Plain.{Adds, no_step, then_, one, each}
use Rattle.hal_right_images.proofs.rows.PlainExpressions.{expression_step, expressions_step}

pub optional_step : (d : List Phrase) (a : Around) (r : Role) (o : Option Expression) → Adds d (gathered_optional d a r o)
optional_step d a r None = no_step d
optional_step d a r (Some t) = expression_step d a r t

pub kind_step : (d : List Phrase) (a : Around) (k : Kind) → Adds d (gathered_kind d a k)
unfolding gathered_kind
kind_step d a (IntegerKind p) = no_step d
kind_step d a (BooleanKind p) = no_step d
kind_step d a (EventKind p) = no_step d
kind_step d a (BitKind p size) = expression_step d a _ size
kind_step d a (CharacterKind p size) = expression_step d a _ size
kind_step d a (StructureKind p template copies) = then_ (one d a _ refl) (optional_step _ a _ copies)

mutual
  unfolding gathered_initial gathered_initials

  initial_step : (d : List Phrase) (a : Around) (i : Initial) → Adds d (gathered_initial d a i)
  initial_step d a (Value value) = then_ (one d a _ refl) (expression_step _ (below d a) _ value)
  initial_step d a (LiteralTimes p count sign at literal) = one d a _ refl
  initial_step d a (NameTimes p count sign name) = then_ (one d a _ refl) (one _ (below d a) _ refl)
  initial_step d a (ListTimes p count values) = then_ (one d a _ refl) (initials_step _ (below d a) values)

  initials_step : (d : List Phrase) (a : Around) (is : Initials) → Adds d (gathered_initials d a is)
  initials_step d a NoInitials = no_step d
  initials_step d a (MoreInitials first others) = then_ (initial_step d a first) (initials_step _ a others)

pub attribute_step : (a : Around) (d : List Phrase) (x : Attribute) → Adds d (gathered_attribute a d x)
unfolding gathered_attribute
attribute_step a d (Dimensions p sizes) = expressions_step d a _ sizes
attribute_step a d (Typed kind) = kind_step d a kind
attribute_step a d (Marked p mark) = no_step d
attribute_step a d (LockGroup p group) = expression_step d a _ group
attribute_step a d (LockAny p) = no_step d
attribute_step a d (InitialValues p values) = initials_step d a values
attribute_step a d (ConstantValues p values) = initials_step d a values

pub attributes_step : (a : Around) (d : List Phrase) (xs : List Attribute) → Adds d (gathered_each (gathered_attribute a) d xs)
attributes_step a d xs = each (gathered_attribute a) (attribute_step a) d xs

part_step : (a : Around) (bottom : Bool) (d : List Phrase) (part : Part) → Adds d (gathered_part a bottom d part)
unfolding gathered_part
part_step a bottom d part = then_ (one d a _ refl) (attributes_step (below d a) _ part.attributes)

pub parts_step : (a : Around) (unclosed : List OpenPart) (d : List Phrase) (parts : List Part) → Adds d (gathered_parts a unclosed d parts)
unfolding gathered_parts
parts_step a unclosed d [] = no_step d
parts_step a unclosed d (x ∷ xs) = then_ (part_step _ _ d x) (parts_step a (still_open x.level unclosed ++ ((x.level, length d) ∷ [])) _ xs)
