-- The phrases of attributes, of parts and of heads have no sizes.
use Rattle.std.proofs.Common.{Bool, List, [], ◌∷◌, ◌++◌, length, refl}
use Rattle.hal_grammar.specs.Leaves.{Naming}
use Rattle.hal_grammar.specs.Declarations.{Kind, IntegerKind, BooleanKind, EventKind, BitKind, CharacterKind, StructureKind, Initial, Value, LiteralTimes, NameTimes, ListTimes, Initials, NoInitials, MoreInitials, Attribute, Dimensions, Typed, Marked, LockGroup, LockAny, InitialValues, ConstantValues, Part}
use Rattle.hal_grammar.specs.Units.{Head, Program, Compool, Task, Procedure, Function, Returns, NoKind, HasKind}
use Rattle.hal_phrases.specs.declared.around.Around.{Around}
use Rattle.hal_phrases.specs.Surroundings.{under}
use Rattle.hal_phrases.specs.Phrases.{Phrase, OfParameter, OfPart, OfStructureType, OfInitial, OfInitialName, gathered_each}
use Rattle.hal_phrases.specs.GatheredExpressions.{below}
use Rattle.hal_phrases.specs.GatheredDeclarations.{OpenPart, still_open, innermost, is_bottom, gathered_kind, gathered_initial, gathered_initials, gathered_attribute, gathered_part, gathered_parts}
use Rattle.hal_phrases.specs.GatheredUnits.{gathered_parameter, gathered_returns, gathered_head}
use Rattle.hal_fit_names.proofs.Plain.{IsPlain, no_step, then_, one, each}
use Rattle.hal_fit_names.proofs.PlainExpressions.{expression_plain, expressions_plain}
use Rattle.hal_fit_names.proofs.PlainStatements.{optional_plain}

kind_plain : (d : List Phrase) (a : Around) (k : Kind) → IsPlain a.home d (gathered_kind d a k)
unfolding gathered_kind
kind_plain d a (IntegerKind p) = no_step d
kind_plain d a (BooleanKind p) = no_step d
kind_plain d a (EventKind p) = no_step d
kind_plain d a (BitKind p size) = expression_plain d a _ size
kind_plain d a (CharacterKind p size) = expression_plain d a _ size
kind_plain d a (StructureKind p template copies) = then_ (one d a (OfStructureType p template) refl) (optional_plain _ a _ copies)

mutual
  unfolding gathered_initial gathered_initials

  initial_plain : (d : List Phrase) (a : Around) (x : Initial) → IsPlain a.home d (gathered_initial d a x)
  initial_plain d a (Value v) = then_ (one d a (OfInitial (Value v)) refl) (expression_plain _ (below d a) _ v)
  initial_plain d a (LiteralTimes p count sign at literal) = one d a (OfInitial (LiteralTimes p count sign at literal)) refl
  initial_plain d a (NameTimes p count sign name) = then_ (one d a (OfInitial (NameTimes p count sign name)) refl) (one _ (below d a) (OfInitialName name) refl)
  initial_plain d a (ListTimes p count values) = then_ (one d a (OfInitial (ListTimes p count values)) refl) (initials_plain _ (below d a) values)

  initials_plain : (d : List Phrase) (a : Around) (xs : Initials) → IsPlain a.home d (gathered_initials d a xs)
  initials_plain d a NoInitials = no_step d
  initials_plain d a (MoreInitials first others) = then_ (initial_plain d a first) (initials_plain _ a others)

pub attribute_plain : (a : Around) (d : List Phrase) (x : Attribute) → IsPlain a.home d (gathered_attribute a d x)
unfolding gathered_attribute
attribute_plain a d (Dimensions p sizes) = expressions_plain d a _ sizes
attribute_plain a d (Typed kind) = kind_plain d a kind
attribute_plain a d (Marked p mark) = no_step d
attribute_plain a d (LockGroup p group) = expression_plain d a _ group
attribute_plain a d (LockAny p) = no_step d
attribute_plain a d (InitialValues p values) = initials_plain d a values
attribute_plain a d (ConstantValues p values) = initials_plain d a values

pub attributes_plain : (a : Around) (d : List Phrase) (xs : List Attribute) → IsPlain a.home d (gathered_each (gathered_attribute a) d xs)
attributes_plain a d xs = each (gathered_attribute a) (attribute_plain a) d xs

part_plain : (a : Around) (bottom : Bool) (d : List Phrase) (part : Part) → IsPlain a.home d (gathered_part a bottom d part)
unfolding gathered_part
part_plain a bottom d part = then_ (one d a (OfPart bottom part) refl) (attributes_plain (below d a) _ part.attributes)

pub parts_plain : (a : Around) (unclosed : List OpenPart) (d : List Phrase) (parts : List Part) → IsPlain a.home d (gathered_parts a unclosed d parts)
unfolding gathered_parts
parts_plain a unclosed d [] = no_step d
parts_plain a unclosed d (x ∷ xs) =
    then_ (part_plain (under (innermost a.parent (still_open x.level unclosed)) a) (is_bottom x.level xs) d x) (parts_plain a (still_open x.level unclosed ++ ((x.level, length d) ∷ [])) _ xs)

parameters_plain : (a : Around) (output : Bool) (d : List Phrase) (xs : List Naming) → IsPlain a.home d (gathered_each (gathered_parameter a output) d xs)
parameters_plain a output d xs = each (gathered_parameter a output) (λ e x. one e a (OfParameter x output) refl) d xs

returns_plain : (d : List Phrase) (a : Around) (x : Returns) → IsPlain a.home d (gathered_returns d a x)
unfolding gathered_returns
returns_plain d a NoKind = no_step d
returns_plain d a (HasKind kind precision) = kind_plain d a kind

pub head_plain : (d : List Phrase) (a : Around) (x : Head) → IsPlain a.home d (gathered_head d a x)
unfolding gathered_head
head_plain d a (Program p) = no_step d
head_plain d a (Compool p) = no_step d
head_plain d a (Task p) = no_step d
head_plain d a (Procedure p inputs outputs mode) = then_ (parameters_plain a _ d inputs) (parameters_plain a _ _ outputs)
head_plain d a (Function p inputs returns mode) = then_ (parameters_plain a _ d inputs) (returns_plain _ a returns)
