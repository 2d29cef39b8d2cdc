-- The phrases of declarations and heads that right words spell.
use Rattle.std.proofs.Common.{◌≡◌, ◌<◌, Bool, true, false, List, [], ◌∷◌, length, Option, Some, None, arith}
use Rattle.std.specs.Option.{option_or}
use Rattle.hal_base.specs.declared.refusal.Place.{Place}
use Rattle.hal_grammar.specs.Leaves.{Naming, naming, Sign}
use Rattle.hal_grammar.specs.Expressions.{Expression, Expressions, NoExpressions}
use Rattle.hal_grammar.specs.Declarations.{Mark, Kind, Initial, Value, LiteralTimes, NameTimes, ListTimes, Initials, Attribute, Declared, declared_of, Part, part_of, Declaration}
use Rattle.hal_grammar.specs.Units.{Mode, Precision, Returns, Head}
use Rattle.hal_grammar.specs.Words.{Words}
use Rattle.hal_grammar.specs.SpellsExpressions.{last_expression, more_expressions}
use Rattle.hal_grammar.specs.SpellsDeclarations.{Parted, last, more, SpellsNames, last_name, more_names, SpellsNameEnd, no_name_end, name_end, SpellsCopyCount, no_copy_count, copy_count, SpellsKind, integer_kind, bit_kind, boolean_kind, character_kind, event_kind, structure_kind, SpellsOpening, no_opening, opening, SpellsInitial, valued, literal_times, name_times, list_times, SpellsInitials, last_initial, more_initials, SpellsMark, single_mark, double_mark, latched_mark, static_mark, automatic_mark, dense_mark, aligned_mark, SpellsAttribute, dimensions, typed, marked, lock_group, lock_any, initial_values, constant_values, SpellsAttributes, attributes_comma, attributes_semicolon, attributes_more, SpellsDeclared, declared, SpellsPart, part, SpellsDeclaration, declares, declares_all, structures, SpellsDeclarations, no_declarations, more_declarations}
use Rattle.hal_grammar.specs.SpellsFiles.{SpellsInputs, no_inputs, input_names, SpellsOutputs, no_outputs, output_names, SpellsModeEnd, no_mode_end, reenters_end, excludes_end, SpellsPrecisionEnd, no_precision, single_precision, double_precision, SpellsReturnsEnd, no_kind, has_kind, SpellsHead, program_head, compool_head, task_head, procedure_head, function_head}
use Rattle.hal_phrases.specs.declared.around.Around.{Around}
use Rattle.hal_phrases.specs.declared.role.Role.TheVariants as role
use Rattle.hal_phrases.specs.Phrases.{Phrase, OfDeclare, OfInitial, OfInitialName, OfItem, OfParameter, OfPart, OfStructure, OfStructureType, gathered_each}
use Rattle.hal_phrases.specs.GatheredExpressions.{below}
use Rattle.hal_phrases.specs.GatheredDeclarations.{OpenPart, gathered_attribute, gathered_declaration, gathered_initial, gathered_initials, gathered_item, gathered_kind, gathered_optional, gathered_part, gathered_parts}
use Rattle.hal_phrases.specs.GatheredUnits.{gathered_head, gathered_parameter, gathered_returns}
use Rattle.hal_kinds.specs.Attributes.{sizes_among, sizes_in}
use Rattle.hal_right_images.specs.spelled.Words.{AreRightWords}
use Rattle.hal_right_images.proofs.spelled.Adding.{Adds, Gives, and_more, behind_one, gives, no_step, one, past, then_}
use Rattle.hal_right_images.proofs.spelled.SpelledExpressions.{expression_fit, expressions_fit, literal_right, sign_right}

pub names_right : {ns : List Naming} {b a : Words} → SpellsNames ns b a → AreRightWords b → AreRightWords a
names_right last_name right = right.1
names_right (more_names x) right = names_right x right.1.1

pub name_end_right : {n : Option Naming} {b a : Words} → SpellsNameEnd n b a → AreRightWords b → AreRightWords a
name_end_right no_name_end right = right.1
name_end_right name_end right = right.1.1

-- phrases that are parted by commas
pub parted_fit : {X : Type 0} {R : X → Words → Words → Type 0} {xs : List X} {b a : Words} (step : List Phrase → X → List Phrase)
    → ((x : X) (b a : Words) (d : List Phrase) → R x b a → AreRightWords b → Gives d (step d x) a) → Parted R xs b a → AreRightWords b → (d : List Phrase) → Gives d (gathered_each step d xs) a
parted_fit step each (last x) right d = each _ _ _ d x right
parted_fit step each (more x xs) right d = and_more (each _ _ _ d x right) (λ next. parted_fit step each xs next.1 _)

copy_fit : {copies : Option Expression} {b a : Words} → SpellsCopyCount copies b a → AreRightWords b → (d : List Phrase) (o : Around) → Gives d (gathered_optional d o role.Copies copies) a
copy_fit (no_copy_count h) right d o = gives _ (no_step d) right
copy_fit (copy_count x) right d o = past (expression_fit x right.1 d o role.Copies)

kind_fit : {k : Kind} {b a : Words} → SpellsKind k b a → AreRightWords b → (d : List Phrase) (o : Around) → Gives d (gathered_kind d o k) a
unfolding gathered_kind
kind_fit integer_kind right d o = gives _ (no_step d) right.1
kind_fit (bit_kind x) right d o = past (expression_fit x right.1.1 d o role.BitLength)
kind_fit boolean_kind right d o = gives _ (no_step d) right.1
kind_fit (character_kind x) right d o = past (expression_fit x right.1.1 d o role.TextLength)
kind_fit event_kind right d o = gives _ (no_step d) right.1
kind_fit (structure_kind {p = p} {n = n} x) right d o = behind_one d o (OfStructureType p n) tt (copy_fit x right.1.1.1 _ o)

opening_right : {s : Option Sign} {b a : Words} → SpellsOpening s b a → AreRightWords b → AreRightWords a
opening_right (no_opening h k) right = right
opening_right (opening g) right = sign_right g right

mutual
  unfolding gathered_initial gathered_initials

  initial_fit : {i : Initial} {b a : Words} → SpellsInitial i b a → AreRightWords b → (d : List Phrase) (o : Around) → Gives d (gathered_initial d o i) a
  initial_fit (valued {t = t} x) right d o = behind_one d o (OfInitial (Value t)) tt (expression_fit x right _ (below d o) role.Initial)
  initial_fit (literal_times {p = p} {r = r} {n = n} {s = s} {l = l} g x) right d o =
      let found = literal_right x (opening_right g right.1.1) in gives _ (one d o (OfInitial (LiteralTimes p n s r l)) found.0) found.1
  initial_fit (name_times {p = p} {r = r} {n = n} {s = s} {x = x} g) right d o =
      behind_one d o (OfInitial (NameTimes p n s (naming r x))) tt (gives _ (one _ (below d o) (OfInitialName (naming r x)) tt) ((opening_right g right.1.1).1))
  initial_fit (list_times {p = p} {n = n} {ts = ts} xs) right d o =
      behind_one d o (OfInitial (ListTimes p n ts)) tt (past (initials_fit xs right.1.1.1 _ (below d o)))

  initials_fit : {is : Initials} {b a : Words} → SpellsInitials is b a → AreRightWords b → (d : List Phrase) (o : Around) → Gives d (gathered_initials d o is) a
  initials_fit (last_initial x) right d o = initial_fit x right d o
  initials_fit (more_initials x xs) right d o = and_more (initial_fit x right d o) (λ next. initials_fit xs next.1 _ o)

mark_right : {m : Mark} {p : Place} {b a : Words} → SpellsMark m p b a → AreRightWords b → AreRightWords a
mark_right single_mark right = right.1
mark_right double_mark right = right.1
mark_right latched_mark right = right.1
mark_right static_mark right = right.1
mark_right automatic_mark right = right.1
mark_right dense_mark right = right.1
mark_right aligned_mark right = right.1

attribute_fit : {x : Attribute} {b a : Words} → SpellsAttribute x b a → AreRightWords b → (o : Around) (d : List Phrase) → Gives d (gathered_attribute o d x) a
unfolding gathered_attribute
attribute_fit (dimensions x) right o d = past (expressions_fit x right.1.1 d o role.Dimension)
attribute_fit (typed x) right o d = kind_fit x right d o
attribute_fit (marked x) right o d = gives _ (no_step d) (mark_right x right)
attribute_fit (lock_group x) right o d = past (expression_fit x right.1.1 d o role.LockGroup)
attribute_fit lock_any right o d = gives _ (no_step d) right.1.1.1.1
attribute_fit (initial_values x) right o d = past (initials_fit x right.1.1 d o)
attribute_fit (constant_values x) right o d = past (initials_fit x right.1.1 d o)

attributes_fit : {xs : List Attribute} {b a : Words} → SpellsAttributes xs b a → AreRightWords b → (o : Around) (d : List Phrase) → Gives d (gathered_each (gathered_attribute o) d xs) a
attributes_fit attributes_comma right o d = gives _ (no_step d) right
attributes_fit attributes_semicolon right o d = gives _ (no_step d) right
attributes_fit (attributes_more x xs) right o d = and_more (attribute_fit x right o d) (λ next. attributes_fit xs next o _)

-- no list of sizes is empty
none_empty : {xs : List Attribute} {b a : Words} → SpellsAttributes xs b a → sizes_among xs ≡ Some NoExpressions → ⊥
unfolding sizes_among sizes_in
none_empty attributes_comma is = cc
none_empty attributes_semicolon is = cc
none_empty (attributes_more (dimensions (last_expression x)) xs) is = cc
none_empty (attributes_more (dimensions (more_expressions x ys)) xs) is = cc
none_empty (attributes_more (typed x) xs) is = none_empty xs is
none_empty (attributes_more (marked x) xs) is = none_empty xs is
none_empty (attributes_more (lock_group x) xs) is = none_empty xs is
none_empty (attributes_more lock_any xs) is = none_empty xs is
none_empty (attributes_more (initial_values x) xs) is = none_empty xs is
none_empty (attributes_more (constant_values x) xs) is = none_empty xs is

neither_empty : (o p : Option Expressions) → (o ≡ Some NoExpressions → ⊥) → (p ≡ Some NoExpressions → ⊥) → option_or o p ≡ Some NoExpressions → ⊥
neither_empty None p first second is = second is
neither_empty (Some x) p first second is = first is

no_attributes : sizes_among [] ≡ Some NoExpressions → ⊥
unfolding sizes_among
no_attributes is = cc

item_fit : (common : List Attribute) → (sizes_among common ≡ Some NoExpressions → ⊥) → (o : Around) (x : Declared) (b a : Words) (d : List Phrase) → SpellsDeclared x b a → AreRightWords b → Gives d (gathered_item o common d x) a
unfolding gathered_item
item_fit common sized o x b a d (declared {p = p} {n = n} {xs = xs} ys) right =
    behind_one d o (OfItem common (declared_of (naming p n) xs)) (neither_empty (sizes_among xs) (sizes_among common) (none_empty ys) sized) (attributes_fit ys right.1 (below d o) _)

part_fit : {x : Part} {b a : Words} → SpellsPart x b a → AreRightWords b → (o : Around) (bottom : Bool) (d : List Phrase) → Gives d (gathered_part o bottom d x) a
unfolding gathered_part
part_fit (part {p = p} {q = q} {level = level} {n = n} {xs = xs} ys) right o bottom d = behind_one d o (OfPart bottom (part_of p level (naming q n) xs)) tt (attributes_fit ys right.1.1 (below d o) _)

parts_fit : {xs : List Part} {b a : Words} → Parted SpellsPart xs b a → AreRightWords b → (o : Around) (unclosed : List OpenPart) (d : List Phrase) → Gives d (gathered_parts o unclosed d xs) a
unfolding gathered_parts
parts_fit (last x) right o unclosed d = part_fit x right _ _ d
parts_fit (more x xs) right o unclosed d = and_more (part_fit x right _ _ d) (λ next. parts_fit xs next.1 o _ _)

some_part : {xs : List Part} {b a : Words} → Parted SpellsPart xs b a → 0 < length xs
some_part (last x) = omega arith
some_part (more x xs) = omega arith

declaration_fit : {x : Declaration} {b a : Words} → SpellsDeclaration x b a → AreRightWords b → (o : Around) (d : List Phrase) → Gives d (gathered_declaration o d x) a
unfolding gathered_declaration
declaration_fit (declares items) right o d =
    behind_one d o (OfDeclare []) tt (past (parted_fit (gathered_item (below d o) []) (item_fit [] no_attributes (below d o)) items right.1 _))
declaration_fit (declares_all {x = x} {xs = xs} ys items) right o d =
    behind_one d o (OfDeclare (x ∷ xs)) tt (and_more (attributes_fit ys right.1 (below d o) _)
    (λ next. past (parted_fit (gathered_item (below d o) (x ∷ xs)) (item_fit (x ∷ xs) (none_empty ys) (below d o)) items next.1 _)))
declaration_fit (structures {q = q} {n = n} {parts = parts} xs) right o d =
    behind_one d o (OfStructure (naming q n) parts) (some_part xs) (past (parts_fit xs right.1.1.1 (below d o) [] _))

pub declarations_fit : {xs : List Declaration} {b a : Words} → SpellsDeclarations xs b a → AreRightWords b → (o : Around) (d : List Phrase) → Gives d (gathered_each (gathered_declaration o) d xs) a
declarations_fit (no_declarations h k) right o d = gives _ (no_step d) right
declarations_fit (more_declarations x xs) right o d = and_more (declaration_fit x right o d) (λ next. declarations_fit xs next o _)

-- heads
inputs_right : {ns : List Naming} {b a : Words} → SpellsInputs ns b a → AreRightWords b → AreRightWords a
inputs_right (no_inputs h) right = right
inputs_right (input_names x) right = (names_right x right.1).1

outputs_right : {ns : List Naming} {b a : Words} → SpellsOutputs ns b a → AreRightWords b → AreRightWords a
outputs_right (no_outputs h) right = right
outputs_right (output_names x) right = (names_right x right.1.1).1

mode_right : {m : Option Mode} {b a : Words} → SpellsModeEnd m b a → AreRightWords b → AreRightWords a
mode_right no_mode_end right = right.1
mode_right reenters_end right = right.1.1
mode_right excludes_end right = right.1.1

precision_right : {x : Option Precision} {m : Option Mode} {b a : Words} → SpellsPrecisionEnd x m b a → AreRightWords b → AreRightWords a
precision_right (no_precision y) right = mode_right y right
precision_right (single_precision y) right = mode_right y right.1
precision_right (double_precision y) right = mode_right y right.1

returns_fit : {r : Returns} {m : Option Mode} {b a : Words} → SpellsReturnsEnd r m b a → AreRightWords b → (d : List Phrase) (o : Around) → Gives d (gathered_returns d o r) a
unfolding gathered_returns
returns_fit (no_kind y) right d o = gives _ (no_step d) (mode_right y right)
returns_fit (has_kind x y) right d o = let first = kind_fit x right d o in gives _ first.added (precision_right y first.right)

parameters_added : (o : Around) (output : Bool) (d : List Phrase) (ns : List Naming) → Adds d (gathered_each (gathered_parameter o output) d ns)
parameters_added o output d [] = no_step d
parameters_added o output d (n ∷ ns) = then_ (one d o (OfParameter n output) tt) (parameters_added o output _ ns)

pub head_fit : {h : Head} {b a : Words} → SpellsHead h b a → AreRightWords b → (d : List Phrase) (o : Around) → Gives d (gathered_head d o h) a
unfolding gathered_head
head_fit program_head right d o = gives _ (no_step d) right.1.1
head_fit compool_head right d o = gives _ (no_step d) right.1.1
head_fit task_head right d o = gives _ (no_step d) right.1.1
head_fit (procedure_head {ins = ins} {outs = outs} x y z) right d o =
    (gives _ (then_ (parameters_added o false d ins) (parameters_added o true _ outs)) (mode_right z (outputs_right y (inputs_right x right.1))))
head_fit (function_head {ins = ins} x y) right d o = and_more (gives _ (parameters_added o false d ins) (inputs_right x right.1)) (λ next. returns_fit y next _ o)
