-- A statement's place is that of its first word.
use Rattle.std.proofs.Common.{refl}
use Rattle.hal_grammar.specs.Words.{Words, At}
use Rattle.hal_grammar.specs.Statements.{place_of_basic, place_of_statement, Eventful, Statement, Basic}
use Rattle.hal_grammar.specs.SpellsStatements.{SpellsEvent, pulses, raises, lowers, no_labels, more_labels, SpellsStatement, labelled, SpellsBasic, empty, acts}

event_placed : {e : Eventful} {b a : Words} → SpellsEvent e b a → At e.place b
event_placed pulses = refl
event_placed raises = refl
event_placed lowers = refl

basic_placed : {x : Basic} {b a : Words} → SpellsBasic x b a → At (place_of_basic x) b
basic_placed (acts e) = event_placed e
basic_placed empty = refl
basic_placed d = refl

pub statement_placed : {s : Statement} {b a : Words} → SpellsStatement s b a → At (place_of_statement s) b
statement_placed (labelled (no_labels n) d) = basic_placed d
statement_placed (labelled (more_labels ls) d) = refl
