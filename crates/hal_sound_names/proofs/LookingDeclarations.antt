-- The phrases of declarations look up some names, and are no marks.
use Rattle.std.proofs.Common.{◌≡◌, ℕ, ◌==◌, Bool, false, List, [], ◌∷◌, ◌++◌, length, Option, refl}
use Rattle.hal_grammar.specs.Leaves.{Naming}
use Rattle.hal_grammar.specs.Expressions.{Expression, Expressions}
use Rattle.hal_grammar.specs.Declarations.{Kind, IntegerKind, BooleanKind, EventKind, BitKind, CharacterKind, StructureKind, Initial, Value, LiteralTimes, NameTimes, ListTimes, Initials, NoInitials, MoreInitials, Attribute, Dimensions, Typed, Marked, LockGroup, LockAny, InitialValues, ConstantValues, Declared, Part, Declaration, Declare, Structure}
use Rattle.hal_grammar.specs.Units.{Head, Program, Compool, Task, Procedure, Function, Returns, NoKind, HasKind}
use Rattle.hal_phrases.specs.declared.around.Around.{Around}
use Rattle.hal_phrases.specs.declared.role.Role.{Role}
use Rattle.hal_phrases.specs.Surroundings.{under}
use Rattle.hal_phrases.specs.Phrases.{Node, Phrase, OfParameter, OfDeclare, OfItem, OfStructure, OfPart, OfStructureType, OfInitial, OfInitialName, add, gathered_each}
use Rattle.hal_phrases.specs.GatheredExpressions.{below, gathered, gathered_all}
use Rattle.hal_phrases.specs.GatheredDeclarations.{OpenPart, still_open, innermost, is_bottom, gathered_optional, gathered_kind, gathered_initial, gathered_initials, gathered_attribute, gathered_item, gathered_part, gathered_parts, gathered_declaration}
use Rattle.hal_phrases.specs.GatheredUnits.{gathered_parameter, gathered_returns, gathered_head}
use Rattle.hal_scope.specs.Sorts.{used}
use Rattle.hal_meaning.specs.Bodies.{is_mark, is_unit}
use Rattle.hal_sound_names.specs.LookedUp.{Looked, looked, all_looked, any_looked}
use Rattle.hal_sound_names.proofs.LookingUp.{Goes, no_step, then_, one, name_of}
use Rattle.hal_sound_names.proofs.LookingExpressions.{expression_goes, expressions_goes, optional_goes}

-- phrases are added that are no marks and look up some names
pub record Names (unit : ℕ) (inside : Bool) (d e : List Phrase) : Type 0 where
  pub names : List Looked
  pub goes : (m : ℕ) → Goes unit inside m m (λ all. names) d e

none : (unit : ℕ) (inside : Bool) (d : List Phrase) → Names unit inside d d
none unit inside d = record { names = []; goes = λ m. no_step unit inside m d }

pub both : {unit : ℕ} {inside : Bool} {d e h : List Phrase} → Names unit inside d e → Names unit inside e h → Names unit inside d h
both first second = record { names = first.names ++ second.names; goes = λ m. then_ (first.goes m) (second.goes m) }

single : (unit : ℕ) (d : List Phrase) (a : Around) (n : Node) → is_mark n ≡ false → is_unit n ≡ false → Names unit (a.home == unit) d (add d a n)
single unit d a n plain alone = record { names = name_of a (used n); goes = λ m. one unit m d a n (name_of a (used n)) plain alone refl }

expression_names : (unit : ℕ) (d : List Phrase) (a : Around) (r : Role) (t : Expression) → Names unit (a.home == unit) d (gathered d a r t)
expression_names unit d a r t = record { names = looked a.block t; goes = λ m. expression_goes unit m d a r t }

expressions_names : (unit : ℕ) (d : List Phrase) (a : Around) (r : Role) (ts : Expressions) → Names unit (a.home == unit) d (gathered_all d a r ts)
expressions_names unit d a r ts = record { names = all_looked a.block ts; goes = λ m. expressions_goes unit m d a r ts }

optional_names : (unit : ℕ) (d : List Phrase) (a : Around) (r : Role) (o : Option Expression) → Names unit (a.home == unit) d (gathered_optional d a r o)
optional_names unit d a r o = record { names = any_looked (looked a.block) o; goes = λ m. optional_goes unit m d a r o }

each_names : {X : Type 0} (unit : ℕ) (inside : Bool) (step : List Phrase → X → List Phrase) → ((d : List Phrase) (x : X) → Names unit inside d (step d x)) → (d : List Phrase) (xs : List X) → Names unit inside d (gathered_each step d xs)
each_names unit inside step steps d [] = none unit inside d
each_names unit inside step steps d (x ∷ xs) = both (steps d x) (each_names unit inside step steps (step d x) xs)

kind_names : (unit : ℕ) (d : List Phrase) (a : Around) (k : Kind) → Names unit (a.home == unit) d (gathered_kind d a k)
unfolding gathered_kind
kind_names unit d a (IntegerKind p) = none unit (a.home == unit) d
kind_names unit d a (BooleanKind p) = none unit (a.home == unit) d
kind_names unit d a (EventKind p) = none unit (a.home == unit) d
kind_names unit d a (BitKind p size) = expression_names unit d a _ size
kind_names unit d a (CharacterKind p size) = expression_names unit d a _ size
kind_names unit d a (StructureKind p template copies) = both (single unit d a (OfStructureType p template) refl refl) (optional_names unit _ a _ copies)

mutual
  unfolding gathered_initial gathered_initials

  initial_names : (unit : ℕ) (d : List Phrase) (a : Around) (i : Initial) → Names unit (a.home == unit) d (gathered_initial d a i)
  initial_names unit d a (Value v) = both (single unit d a (OfInitial (Value v)) refl refl) (expression_names unit _ (below d a) _ v)
  initial_names unit d a (LiteralTimes p count sign at literal) = single unit d a (OfInitial (LiteralTimes p count sign at literal)) refl refl
  initial_names unit d a (NameTimes p count sign name) = both (single unit d a (OfInitial (NameTimes p count sign name)) refl refl) (single unit _ (below d a) (OfInitialName name) refl refl)
  initial_names unit d a (ListTimes p count values) = both (single unit d a (OfInitial (ListTimes p count values)) refl refl) (initials_names unit _ (below d a) values)

  initials_names : (unit : ℕ) (d : List Phrase) (a : Around) (is : Initials) → Names unit (a.home == unit) d (gathered_initials d a is)
  initials_names unit d a NoInitials = none unit (a.home == unit) d
  initials_names unit d a (MoreInitials first others) = both (initial_names unit d a first) (initials_names unit _ a others)

attribute_names : (unit : ℕ) (a : Around) (d : List Phrase) (x : Attribute) → Names unit (a.home == unit) d (gathered_attribute a d x)
unfolding gathered_attribute
attribute_names unit a d (Dimensions p sizes) = expressions_names unit d a _ sizes
attribute_names unit a d (Typed kind) = kind_names unit d a kind
attribute_names unit a d (Marked p mark) = none unit (a.home == unit) d
attribute_names unit a d (LockGroup p group) = expression_names unit d a _ group
attribute_names unit a d (LockAny p) = none unit (a.home == unit) d
attribute_names unit a d (InitialValues p values) = initials_names unit d a values
attribute_names unit a d (ConstantValues p values) = initials_names unit d a values

attributes_names : (unit : ℕ) (a : Around) (d : List Phrase) (xs : List Attribute) → Names unit (a.home == unit) d (gathered_each (gathered_attribute a) d xs)
attributes_names unit a d xs = each_names unit (a.home == unit) (gathered_attribute a) (attribute_names unit a) d xs

item_names : (unit : ℕ) (a : Around) (common : List Attribute) (d : List Phrase) (item : Declared) → Names unit (a.home == unit) d (gathered_item a common d item)
unfolding gathered_item
item_names unit a common d item = both (single unit d a (OfItem common item) refl refl) (attributes_names unit (below d a) _ item.attributes)

part_names : (unit : ℕ) (a : Around) (bottom : Bool) (d : List Phrase) (part : Part) → Names unit (a.home == unit) d (gathered_part a bottom d part)
unfolding gathered_part
part_names unit a bottom d part = both (single unit d a (OfPart bottom part) refl refl) (attributes_names unit (below d a) _ part.attributes)

parts_names : (unit : ℕ) (a : Around) (unclosed : List OpenPart) (d : List Phrase) (parts : List Part) → Names unit (a.home == unit) d (gathered_parts a unclosed d parts)
unfolding gathered_parts
parts_names unit a unclosed d [] = none unit (a.home == unit) d
parts_names unit a unclosed d (x ∷ xs) =
    both (part_names unit (under (innermost a.parent (still_open x.level unclosed)) a) (is_bottom x.level xs) d x) (parts_names unit a (still_open x.level unclosed ++ ((x.level, length d) ∷ [])) _ xs)

declaration_names : (unit : ℕ) (a : Around) (d : List Phrase) (x : Declaration) → Names unit (a.home == unit) d (gathered_declaration a d x)
unfolding gathered_declaration
declaration_names unit a d (Declare p common items) =
    both (single unit d a (OfDeclare common) refl refl) (both (attributes_names unit (below d a) _ common) (each_names unit (a.home == unit) (gathered_item (below d a) common) (item_names unit (below d a) common) _ items))
declaration_names unit a d (Structure p name parts) = both (single unit d a (OfStructure name parts) refl refl) (parts_names unit (below d a) [] _ parts)

pub declarations_names : (unit : ℕ) (a : Around) (d : List Phrase) (xs : List Declaration) → Names unit (a.home == unit) d (gathered_each (gathered_declaration a) d xs)
declarations_names unit a d xs = each_names unit (a.home == unit) (gathered_declaration a) (declaration_names unit a) d xs

parameters_names : (unit : ℕ) (a : Around) (output : Bool) (d : List Phrase) (xs : List Naming) → Names unit (a.home == unit) d (gathered_each (gathered_parameter a output) d xs)
parameters_names unit a output d xs = each_names unit (a.home == unit) (gathered_parameter a output) (λ e x. single unit e a (OfParameter x output) refl refl) d xs

returns_names : (unit : ℕ) (d : List Phrase) (a : Around) (x : Returns) → Names unit (a.home == unit) d (gathered_returns d a x)
unfolding gathered_returns
returns_names unit d a NoKind = none unit (a.home == unit) d
returns_names unit d a (HasKind kind precision) = kind_names unit d a kind

pub head_names : (unit : ℕ) (d : List Phrase) (a : Around) (x : Head) → Names unit (a.home == unit) d (gathered_head d a x)
unfolding gathered_head
head_names unit d a (Program p) = none unit (a.home == unit) d
head_names unit d a (Compool p) = none unit (a.home == unit) d
head_names unit d a (Task p) = none unit (a.home == unit) d
head_names unit d a (Procedure p inputs outputs mode) = both (parameters_names unit a _ d inputs) (parameters_names unit a _ _ outputs)
head_names unit d a (Function p inputs returns mode) = both (parameters_names unit a _ d inputs) (returns_names unit _ a returns)
