-- Each phrase of a declaration takes a word at least, and each list none at least.
use Rattle.std.proofs.Common.{◌<◌, ◌≤◌, List, length, arith, Option}
use Rattle.hal_base.specs.declared.refusal.Place.{Place}
use Rattle.hal_grammar.specs.Leaves.{Naming, Sign}
use Rattle.hal_grammar.specs.Expressions.{Expression}
use Rattle.hal_grammar.specs.Words.{Words}
use Rattle.hal_grammar.specs.Declarations.{Mark, Kind, Initial, Initials, Attribute, Declared, Part, Declaration}
use Rattle.hal_grammar.specs.SpellsDeclarations.{SpellsNames, last_name, more_names, SpellsNameEnd, no_name_end, name_end, SpellsCopyCount, no_copy_count, copy_count, SpellsKind, integer_kind, bit_kind, boolean_kind, character_kind, event_kind, structure_kind, SpellsOpening, no_opening, opening, SpellsInitial, valued, literal_times, name_times, list_times, SpellsInitials, last_initial, more_initials, SpellsMark, single_mark, double_mark, latched_mark, static_mark, automatic_mark, dense_mark, aligned_mark, SpellsAttribute, dimensions, typed, marked, lock_group, lock_any, initial_values, constant_values, SpellsAttributes, attributes_comma, attributes_semicolon, attributes_more, SpellsDeclared, declared, SpellsPart, part, SpellsDeclaration, declares, declares_all, structures, SpellsDeclarations, no_declarations, more_declarations}
use Rattle.hal_grammar.proofs.Shorter.{expression_shorter, expressions_shorter, sign_shorter, literal_shorter}
use Rattle.hal_grammar.proofs.Lists.{parted_shorter}

pub names_shorter : {ns : List Naming} {b a : Words} → SpellsNames ns b a → length a < length b
names_shorter last_name = omega arith
names_shorter (more_names d) = omega (arith, names_shorter d)

pub name_end_shorter : {n : Option Naming} {b a : Words} → SpellsNameEnd n b a → length a < length b
name_end_shorter no_name_end = omega arith
name_end_shorter name_end = omega arith

pub copy_count_shorter : {t : Option Expression} {b a : Words} → SpellsCopyCount t b a → length a ≤ length b
copy_count_shorter (no_copy_count n) = omega arith
copy_count_shorter (copy_count d) = omega (arith, expression_shorter d)

pub kind_shorter : {k : Kind} {b a : Words} → SpellsKind k b a → length a < length b
kind_shorter integer_kind = omega arith
kind_shorter (bit_kind d) = omega (arith, expression_shorter d)
kind_shorter boolean_kind = omega arith
kind_shorter (character_kind d) = omega (arith, expression_shorter d)
kind_shorter event_kind = omega arith
kind_shorter (structure_kind d) = omega (arith, copy_count_shorter d)

pub opening_shorter : {s : Option Sign} {b a : Words} → SpellsOpening s b a → length a ≤ length b
opening_shorter (no_opening n m) = omega arith
opening_shorter (opening s) = omega (arith, sign_shorter s)

mutual
  pub initial_shorter : {t : Initial} {b a : Words} → SpellsInitial t b a → length a < length b
  initial_shorter (valued d) = expression_shorter d
  initial_shorter (literal_times o l) = omega (arith, opening_shorter o, literal_shorter l)
  initial_shorter (name_times o) = omega (arith, opening_shorter o)
  initial_shorter (list_times d) = omega (arith, initials_shorter d)

  pub initials_shorter : {ts : Initials} {b a : Words} → SpellsInitials ts b a → length a < length b
  initials_shorter (last_initial d) = initial_shorter d
  initials_shorter (more_initials d ds) = omega (arith, initial_shorter d, initials_shorter ds)

pub mark_shorter : {m : Mark} {p : Place} {b a : Words} → SpellsMark m p b a → length a < length b
mark_shorter single_mark = omega arith
mark_shorter double_mark = omega arith
mark_shorter latched_mark = omega arith
mark_shorter static_mark = omega arith
mark_shorter automatic_mark = omega arith
mark_shorter dense_mark = omega arith
mark_shorter aligned_mark = omega arith

pub attribute_shorter : {x : Attribute} {b a : Words} → SpellsAttribute x b a → length a < length b
attribute_shorter (dimensions d) = omega (arith, expressions_shorter d)
attribute_shorter (typed k) = kind_shorter k
attribute_shorter (marked m) = mark_shorter m
attribute_shorter (lock_group d) = omega (arith, expression_shorter d)
attribute_shorter lock_any = omega arith
attribute_shorter (initial_values d) = omega (arith, initials_shorter d)
attribute_shorter (constant_values d) = omega (arith, initials_shorter d)

pub attributes_shorter : {xs : List Attribute} {b a : Words} → SpellsAttributes xs b a → length a ≤ length b
attributes_shorter attributes_comma = omega arith
attributes_shorter attributes_semicolon = omega arith
attributes_shorter (attributes_more d ds) = omega (arith, attribute_shorter d, attributes_shorter ds)

pub declared_shorter : {x : Declared} {b a : Words} → SpellsDeclared x b a → length a < length b
declared_shorter (declared d) = omega (arith, attributes_shorter d)

pub part_shorter : {x : Part} {b a : Words} → SpellsPart x b a → length a < length b
part_shorter (part d) = omega (arith, attributes_shorter d)

pub declaration_shorter : {d : Declaration} {b a : Words} → SpellsDeclaration d b a → length a < length b
declaration_shorter (declares d) = omega (arith, parted_shorter (λ x b a d. declared_shorter d) d)
declaration_shorter (declares_all ds d) = omega (arith, attributes_shorter ds, parted_shorter (λ x b a d. declared_shorter d) d)
declaration_shorter (structures d) = omega (arith, parted_shorter (λ x b a d. part_shorter d) d)

pub declarations_shorter : {ds : List Declaration} {b a : Words} → SpellsDeclarations ds b a → length a ≤ length b
declarations_shorter (no_declarations n m) = omega arith
declarations_shorter (more_declarations d ds) = omega (arith, declaration_shorter d, declarations_shorter ds)
