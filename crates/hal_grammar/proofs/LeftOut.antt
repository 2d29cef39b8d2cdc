-- With which words the phrases begin that may follow a part of a declaration, a statement or a unit that is left out, by their codes.
use Rattle.std.proofs.Common.{◌≡◌, ℕ, ◌≤◌, List, refl, ◌∙◌, arith, Option, Bool}
use Rattle.hal_base.specs.declared.refusal.Place.{Place}
use Rattle.hal_words.specs.declared.reserved.Reserved.TheVariants as reserved
use Rattle.hal_words.specs.declared.word.Symbol.TheVariants as symbol
use Rattle.hal_words.specs.declared.word.Word.TheVariants as word
use Rattle.hal_grammar.specs.Leaves.{Naming, LiteralValue}
use Rattle.hal_grammar.specs.Expressions.{Expression, Reference}
use Rattle.hal_grammar.specs.Declarations.{Attribute, Kind, Mark}
use Rattle.hal_grammar.specs.Statements.{Guard, Cycle, Response, Eventful, Statement, Basic, Group}
use Rattle.hal_grammar.specs.Units.{Mode, Precision, Returns, Elements}
use Rattle.hal_grammar.specs.Words.{Words, symbol_then, name_then, reserved_then, begins, BeginsReserved}
use Rattle.hal_grammar.specs.SpellsExpressions.{SpellsLiteral, integer, text, bits, true_bit, false_bit, on_bit, off_bit, SpellsReference, refers, no_further, unsubscripted}
use Rattle.hal_grammar.specs.SpellsDeclarations.{Parted, last, more, SpellsKind, integer_kind, bit_kind, boolean_kind, character_kind, event_kind, structure_kind, SpellsMark, single_mark, double_mark, latched_mark, static_mark, automatic_mark, dense_mark, aligned_mark, SpellsAttribute, dimensions, typed, marked, lock_group, lock_any, initial_values, constant_values, SpellsAttributes, attributes_comma, attributes_semicolon, attributes_more}
use Rattle.hal_grammar.specs.SpellsStatements.{SpellsReceivers, no_receivers, receivers, SpellsGuard, no_guard, as_long, unless, SpellsPriority, no_priority, priority, SpellsDependent, not_dependent, dependent, SpellsComma, no_comma, comma, SpellsCycle, no_cycle, cyclic, cyclic_every, cyclic_after, SpellsResponse, by_system, ignored, SpellsEvent, pulses, raises, lowers, SpellsStatement, labelled, no_labels, more_labels, SpellsBasic, assigned, acts, SpellsGroup, groups, statements_end, statements_more, BeginsLabel, begins_label}
use Rattle.hal_grammar.specs.SpellsFiles.{SpellsOutputs, no_outputs, output_names, SpellsModeEnd, no_mode_end, reenters_end, excludes_end, SpellsPrecisionEnd, no_precision, single_precision, double_precision, SpellsReturnsEnd, no_kind, has_kind, block, SpellsElements, closed, statement_first, block_first}
use Rattle.hal_grammar.proofs.Codes.{code}
use Rattle.hal_grammar.proofs.Leaves.{word_same}
use Rattle.hal_grammar.proofs.OneStatement.{starts, statement_starts}

kind_code : {k : Kind} {b a : Words} → SpellsKind k b a → code b ≡ 0
kind_code integer_kind = refl
kind_code (bit_kind d) = refl
kind_code boolean_kind = refl
kind_code (character_kind d) = refl
kind_code event_kind = refl
kind_code (structure_kind d) = refl

mark_code : {m : Mark} {p : Place} {b a : Words} → SpellsMark m p b a → code b ≡ 0
mark_code single_mark = refl
mark_code double_mark = refl
mark_code latched_mark = refl
mark_code static_mark = refl
mark_code automatic_mark = refl
mark_code dense_mark = refl
mark_code aligned_mark = refl

attribute_code : {x : Attribute} {b a : Words} → SpellsAttribute x b a → code b ≡ 0
attribute_code (dimensions d) = refl
attribute_code (typed k) = kind_code k
attribute_code (marked m) = mark_code m
attribute_code (lock_group d) = refl
attribute_code lock_any = refl
attribute_code (initial_values d) = refl
attribute_code (constant_values d) = refl

-- a comma, or none of these words
pub attributes_code : {xs : List Attribute} {b a : Words} → SpellsAttributes xs b a → code b ≡ 21 → ⊥
attributes_code attributes_comma h = absurd (omega arith)
attributes_code attributes_semicolon h = absurd (omega arith)
attributes_code (attributes_more d ds) h = absurd (omega (arith, attribute_code d))

pub literal_code : {l : LiteralValue} {p : Place} {b a : Words} → SpellsLiteral l p b a → (code b ≡ 22 → ⊥) × (code b ≡ 23 → ⊥)
literal_code integer = (omega arith, omega arith)
literal_code text = (omega arith, omega arith)
literal_code bits = (omega arith, omega arith)
literal_code true_bit = (omega arith, omega arith)
literal_code false_bit = (omega arith, omega arith)
literal_code on_bit = (omega arith, omega arith)
literal_code off_bit = (omega arith, omega arith)

pub mode_code : {m : Option Mode} {b a : Words} → SpellsModeEnd m b a → code b ≡ 0
mode_code no_mode_end = refl
mode_code reenters_end = refl
mode_code excludes_end = refl

pub precision_code : {x : Option Precision} {m : Option Mode} {b a : Words} → SpellsPrecisionEnd x m b a → code b ≡ 0
precision_code (no_precision d) = mode_code d
precision_code (single_precision d) = refl
precision_code (double_precision d) = refl

pub returns_code : {r : Returns} {m : Option Mode} {b a : Words} → SpellsReturnsEnd r m b a → code b ≡ 0
returns_code (no_kind d) = mode_code d
returns_code (has_kind k d) = kind_code k

pub outputs_code : {ns : List Naming} {b m : Words} → SpellsOutputs ns b m → code m ≡ 0 → code b ≤ 1
outputs_code (no_outputs n) h = omega arith
outputs_code (output_names d) h = omega arith

pub receivers_code : {xs : List Reference} {b m : Words} → SpellsReceivers xs b m → code m ≡ 0 → code b ≤ 1
receivers_code (no_receivers n) h = omega arith
receivers_code (receivers d) h = omega arith

pub guard_code : {g : Option Guard} {b m : Words} → SpellsGuard g b m → code m ≡ 0 → code b ≤ 3
guard_code (no_guard n m) h = omega arith
guard_code (as_long d) h = omega arith
guard_code (unless d) h = omega arith

-- REPEAT, a comma, WHILE, UNTIL, or none of these words
abbrev pub IsCycleCode : ℕ → Type 0
IsCycleCode n = (n ≡ 6 → ⊥) × (n ≡ 7 → ⊥) × (n ≡ 8 → ⊥) × (n ≡ 9 → ⊥) × (n ≡ 10 → ⊥)

repeat_code : {p : Place} {b m : Words} → SpellsComma b (reserved_then reserved.Repeat p m) → IsCycleCode (code b)
repeat_code (no_comma n) = (omega arith, omega arith, omega arith, omega arith, omega arith)
repeat_code comma = (omega arith, omega arith, omega arith, omega arith, omega arith)

pub cycle_code : {c : Option Cycle} {b m : Words} → SpellsCycle c b m → code m ≤ 3 → IsCycleCode (code b)
cycle_code (no_cycle n o) h = (omega arith, omega arith, omega arith, omega arith, omega arith)
cycle_code (cyclic d n o) h = repeat_code d
cycle_code (cyclic_every d e) h = repeat_code d
cycle_code (cyclic_after d e) h = repeat_code d

-- what stands behind the start
abbrev pub IsRankCode : ℕ → Type 0
IsRankCode n = (n ≡ 6 → ⊥) × (n ≡ 7 → ⊥) × (n ≡ 8 → ⊥)

abbrev pub IsDependsCode : ℕ → Type 0
IsDependsCode n = (n ≡ 6 → ⊥) × (n ≡ 7 → ⊥) × (n ≡ 8 → ⊥) × (n ≡ 9 → ⊥)

pub dependent_code : {d : Bool} {b m : Words} → SpellsDependent d b m → IsCycleCode (code m) → IsDependsCode (code b)
dependent_code (not_dependent n) h = (h.0, h.1, h.2, h.3)
dependent_code dependent h = (omega arith, omega arith, omega arith, omega arith)

pub priority_code : {t : Option Expression} {b m : Words} → SpellsPriority t b m → IsDependsCode (code m) → IsRankCode (code b)
priority_code (no_priority n) h = (h.0, h.1, h.2)
priority_code (priority d) h = (omega arith, omega arith, omega arith)

pub response_code : {r : Response} {b a : Words} → SpellsResponse r b a → code b ≡ 0
response_code by_system = refl
response_code ignored = refl

event_code : {e : Eventful} {b a : Words} → SpellsEvent e b a → code b ≡ 0
event_code pulses = refl
event_code raises = refl
event_code lowers = refl

-- a statement begins with none of `$`, DECLARE and STRUCTURE
abbrev pub IsStatementCode : ℕ → Type 0
IsStatementCode n = (n ≡ 24 → ⊥) × (n ≡ 14 → ⊥) × (n ≡ 15 → ⊥)

basic_code : {x : Basic} {b a : Words} → SpellsBasic x b a → IsStatementCode (code b)
basic_code (acts e) = (λ h. absurd (omega (arith, event_code e)), λ h. absurd (omega (arith, event_code e)), λ h. absurd (omega (arith, event_code e)))
basic_code d = (omega arith, omega arith, omega arith)

pub statement_code : {s : Statement} {b a : Words} → SpellsStatement s b a → IsStatementCode (code b)
statement_code (labelled (no_labels n) d) = basic_code d
statement_code (labelled (more_labels ls) d) = (omega arith, omega arith, omega arith)

pub elements_code : {es : Elements} {c : Option Naming} {b a : Words} → SpellsElements es c b a → IsStatementCode (code b)
elements_code (closed d) = (omega arith, omega arith, omega arith)
elements_code (statement_first d ds) = statement_code d
elements_code (block_first (block h ds es q) s fs) = (omega arith, omega arith, omega arith)

-- a reference that begins with a name and a colon is that name alone
reference_label : {r : Reference} {n : List ℕ} {p q : Place} {b a : Words} → SpellsReference r (name_then n p (symbol_then symbol.Colon q b)) a → symbol_then symbol.Colon q b ≡ a
reference_label (refers no_further unsubscripted) = refl

-- and begins no list of references before `=`
references_label : {xs : List Reference} {n : List ℕ} {p q : Place} {e : Place} {b m a : Words} → Parted SpellsReference xs (name_then n p (symbol_then symbol.Colon q b)) m →
    m ≡ symbol_then symbol.Equals e a → ⊥
references_label (last d) h = let w : word.Symbol symbol.Colon ≡ word.Symbol symbol.Equals = word_same (reference_label d ∙ h) in cc
references_label (more d ds) h = let w : word.Symbol symbol.Colon ≡ word.Symbol symbol.Comma = word_same (reference_label d) in absurd cc

pub basic_no_label : {x : Basic} {b a : Words} → SpellsBasic x b a → BeginsLabel b → ⊥
basic_no_label (assigned d e) begins_label = references_label d refl
basic_no_label (acts d) begins_label = elim d [ ]
basic_no_label d h = elim h [ ]

else_starts : {b : Words} → BeginsReserved reserved.Else b → starts b ≡ 0
else_starts begins = refl

pub group_no_else : {g : Group} {b a : Words} → SpellsGroup g b a → BeginsReserved reserved.Else b → ⊥
group_no_else (groups statements_end n) h = elim h [ ]
group_no_else (groups (statements_more d ds) n) h = (statement_starts d).0 (else_starts h)
