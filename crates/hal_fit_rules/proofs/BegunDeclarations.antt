-- The phrases of declarations are added behind those before them.
use Rattle.std.proofs.Common.{Bool, List, [], ◌∷◌, ◌++◌, length}
use Rattle.hal_grammar.specs.Leaves.{Naming}
use Rattle.hal_grammar.specs.Declarations.{Kind, IntegerKind, BooleanKind, EventKind, BitKind, CharacterKind, StructureKind, Initial, Value, LiteralTimes, NameTimes, ListTimes, Initials, NoInitials, MoreInitials, Attribute, Dimensions, Typed, Marked, LockGroup, LockAny, InitialValues, ConstantValues, Declared, Part, Declaration, Declare, Structure}
use Rattle.hal_grammar.specs.Units.{Head, Program, Compool, Task, Procedure, Function, Returns, NoKind, HasKind}
use Rattle.hal_phrases.specs.declared.around.Around.{Around}
use Rattle.hal_phrases.specs.Surroundings.{under}
use Rattle.hal_phrases.specs.Phrases.{Phrase, OfStructure, add, gathered_each}
use Rattle.hal_phrases.specs.GatheredExpressions.{below}
use Rattle.hal_phrases.specs.GatheredDeclarations.{OpenPart, still_open, innermost, is_bottom, gathered_kind, gathered_initial, gathered_initials, gathered_attribute, gathered_item, gathered_part, gathered_parts, gathered_declaration}
use Rattle.hal_phrases.specs.GatheredUnits.{gathered_parameter, gathered_returns, gathered_head}
use Rattle.hal_fit_rules.specs.Begun.{AreFirst}
use Rattle.hal_fit_rules.proofs.Beginning.{no_step, then_, one, each}
use Rattle.hal_fit_rules.proofs.BegunExpressions.{expression_first, expressions_first}
use Rattle.hal_fit_rules.proofs.BegunStatements.{optional_first}

kind_first : (d : List Phrase) (a : Around) (k : Kind) → AreFirst d (gathered_kind d a k)
unfolding gathered_kind
kind_first d a (IntegerKind p) = no_step d
kind_first d a (BooleanKind p) = no_step d
kind_first d a (EventKind p) = no_step d
kind_first d a (BitKind p size) = expression_first d a _ size
kind_first d a (CharacterKind p size) = expression_first d a _ size
kind_first d a (StructureKind p template copies) = then_ (one d a _) (optional_first _ a _ copies)

mutual
  unfolding gathered_initial gathered_initials

  pub initial_first : (d : List Phrase) (a : Around) (x : Initial) → AreFirst d (gathered_initial d a x)
  initial_first d a (Value v) = then_ (one d a _) (expression_first _ (below d a) _ v)
  initial_first d a (LiteralTimes p count sign at literal) = one d a _
  initial_first d a (NameTimes p count sign name) = then_ (one d a _) (one _ (below d a) _)
  initial_first d a (ListTimes p count values) = then_ (one d a _) (initials_first _ (below d a) values)

  pub initials_first : (d : List Phrase) (a : Around) (xs : Initials) → AreFirst d (gathered_initials d a xs)
  initials_first d a NoInitials = no_step d
  initials_first d a (MoreInitials first others) = then_ (initial_first d a first) (initials_first _ a others)

pub attribute_first : (a : Around) (d : List Phrase) (x : Attribute) → AreFirst d (gathered_attribute a d x)
unfolding gathered_attribute
attribute_first a d (Dimensions p sizes) = expressions_first d a _ sizes
attribute_first a d (Typed kind) = kind_first d a kind
attribute_first a d (Marked p mark) = no_step d
attribute_first a d (LockGroup p group) = expression_first d a _ group
attribute_first a d (LockAny p) = no_step d
attribute_first a d (InitialValues p values) = initials_first d a values
attribute_first a d (ConstantValues p values) = initials_first d a values

pub attributes_first : (a : Around) (d : List Phrase) (xs : List Attribute) → AreFirst d (gathered_each (gathered_attribute a) d xs)
attributes_first a d xs = each (gathered_attribute a) (attribute_first a) d xs

item_first : (a : Around) (common : List Attribute) (d : List Phrase) (item : Declared) → AreFirst d (gathered_item a common d item)
unfolding gathered_item
item_first a common d item = then_ (one d a _) (attributes_first (below d a) _ item.attributes)

part_first : (a : Around) (bottom : Bool) (d : List Phrase) (part : Part) → AreFirst d (gathered_part a bottom d part)
unfolding gathered_part
part_first a bottom d part = then_ (one d a _) (attributes_first (below d a) _ part.attributes)

pub parts_first : (a : Around) (unclosed : List OpenPart) (d : List Phrase) (parts : List Part) → AreFirst d (gathered_parts a unclosed d parts)
unfolding gathered_parts
parts_first a unclosed d [] = no_step d
parts_first a unclosed d (x ∷ xs) =
    then_ (part_first (under (innermost a.parent (still_open x.level unclosed)) a) (is_bottom x.level xs) d x) (parts_first a (still_open x.level unclosed ++ ((x.level, length d) ∷ [])) _ xs)

declaration_first : (a : Around) (d : List Phrase) (x : Declaration) → AreFirst d (gathered_declaration a d x)
unfolding gathered_declaration
declaration_first a d (Declare p common items) = then_ (one d a _) (then_ (attributes_first (below d a) _ common) (each (gathered_item (below d a) common) (item_first (below d a) common) _ items))
declaration_first a d (Structure p name parts) = then_ (one d a (OfStructure name parts)) (parts_first (below d a) [] (add d a (OfStructure name parts)) parts)

pub declarations_first : (a : Around) (d : List Phrase) (xs : List Declaration) → AreFirst d (gathered_each (gathered_declaration a) d xs)
declarations_first a d xs = each (gathered_declaration a) (declaration_first a) d xs

parameters_first : (a : Around) (output : Bool) (d : List Phrase) (xs : List Naming) → AreFirst d (gathered_each (gathered_parameter a output) d xs)
parameters_first a output d xs = each (gathered_parameter a output) (λ e x. one e a _) d xs

returns_first : (d : List Phrase) (a : Around) (x : Returns) → AreFirst d (gathered_returns d a x)
unfolding gathered_returns
returns_first d a NoKind = no_step d
returns_first d a (HasKind kind precision) = kind_first d a kind

pub head_first : (d : List Phrase) (a : Around) (x : Head) → AreFirst d (gathered_head d a x)
unfolding gathered_head
head_first d a (Program p) = no_step d
head_first d a (Compool p) = no_step d
head_first d a (Task p) = no_step d
head_first d a (Procedure p inputs outputs mode) = then_ (parameters_first a _ d inputs) (parameters_first a _ _ outputs)
head_first d a (Function p inputs returns mode) = then_ (parameters_first a _ d inputs) (returns_first _ a returns)
