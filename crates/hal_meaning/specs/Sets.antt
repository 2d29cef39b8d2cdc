-- A set of files, with what its meaning looks up.
use Rattle.std.specs.Prelude.{ℕ, ◌==◌, List, Option, Some, None, slice_get, flat_map, map, find, position, unwrap_or, Bool, true, false}
use Rattle.hal_base.specs.declared.refusal.Place.{Place}
use Rattle.hal_grammar.specs.Units.{File, Program}
use Rattle.hal_phrases.specs.Phrases.{Node, Phrase, OfUnit}
use Rattle.hal_phrases.specs.GatheredUnits.{phrases_of}
use Rattle.hal_constants.specs.Known.{Known, known}
use Rattle.hal_values.specs.declared.tables.Cell.{Cell}
use Rattle.hal_values.specs.declared.tables.Tables.{Tables}
use Rattle.hal_meaning.specs.Bodies.{Body, bodies_of, processes_of}
use Rattle.hal_meaning.specs.Places.{cells_at}
use Rattle.hal_meaning.specs.Events.{declared_events, start_of, Stated, stated}
use Rattle.hal_meaning.specs.ReportNames.{path_of, rows_of}

-- the phrases of the set, the values of its constants, its units, its event expressions, the tables that the executive reads, and how many turns an UPDATE block has
pub record Set : Type 0 where
  pub phrases : List Phrase
  pub constants : Known
  pub bodies : List Body
  pub stated : List Stated
  pub tables : Tables
  pub turns : ℕ

-- the shared cells, in order
abbrev pub cells_of : List Phrase → Known → List Cell
cells_of ps vs = flat_map (λ (p : Phrase). cells_at ps vs p p.node) ps

-- whether the phrase with this number is a PROGRAM's
abbrev pub is_program : Node → Bool
is_program (OfUnit name (Program place) declarations) = true
is_program other = false

abbrev pub is_program_at : List Phrase → ℕ → Bool
is_program_at ps k = elim (slice_get ps k) [ None ↦ false | Some p ↦ is_program p.node ]

-- the process that starts at the opening: the first PROGRAM
abbrev pub first_of : List Phrase → ℕ
first_of ps = unwrap_or (position (is_program_at ps) (processes_of ps)) 0

-- what the executive knows of a set
abbrev pub tables_of : List Phrase → Known → Tables
tables_of ps vs = record {
  cells = cells_of ps vs;
  processes = map (path_of ps) (processes_of ps);
  first = first_of ps;
  events = map (start_of ps vs) (declared_events ps);
  expressions = map (λ (one : Stated). one.items) (stated ps);
  names = rows_of ps vs;
}

abbrev pub set_with : ℕ → List File → List Phrase → Known → Set
set_with turns files ps vs = record { phrases = ps; constants = vs; bodies = bodies_of files ps; stated = stated ps; tables = tables_of ps vs; turns = turns }

-- the set of these files, where an UPDATE block has so many turns
abbrev pub set_of : ℕ → List File → Set
set_of turns files = let ps = phrases_of files in set_with turns files ps (known ps)

-- the unit whose phrase has this number
abbrev pub body_at : Set → ℕ → Option Body
body_at s k = find (λ (b : Body). b.number == k) s.bodies

-- the beginning of the first unit, where rules of the whole set are broken
abbrev pub beginning : Place
beginning = record { unit = 0; line = 1; column = 1 }
