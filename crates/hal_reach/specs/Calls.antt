-- The calls of a set of files, its units, and the processes that reach each of them.
use Rattle.std.specs.Prelude.{ℕ, Bool, ◌&&◌, List, [], ◌∷◌, length, map, Option, Some, None, slice_get, bytes_eq, filter, filter_map, if◌then◌else◌}
use Rattle.std.specs.Option.{option_and_then, option_map}
use Rattle.std.specs.List.{list_any}
use Rattle.hal_grammar.specs.Expressions.{Reference, Refers}
use Rattle.hal_grammar.specs.Declarations.{Declared}
use Rattle.hal_grammar.specs.Units.{Preface, Include, Templates}
use Rattle.hal_phrases.specs.Phrases.{Phrase}
use Rattle.hal_meaning.specs.Bodies.{declares, is_compool_head, pooled_at, meant, called_block, callee, callees, is_process, is_unit, processes_reaching, reaches}
use Rattle.hal_meaning.specs.Places.{unit_numbers}
use Rattle.hal_reach.specs.declared.call.Call.{Call}
use Rattle.hal_reach.specs.Marks as marks
use Rattle.hal_reach.specs.Places.{places_called}

-- whether an item has this name
abbrev pub is_named : List ℕ → Declared → Bool
is_named name item = bytes_eq item.name.name name

-- the COMPOOL, where this is its template and declares this name
abbrev pub pool_in : List ℕ → Preface → Option (List ℕ)
pool_in name (Include place unit) = None
pool_in name (Templates t) = if is_compool_head t.head && list_any (declares name) t.declarations then Some t.name.name else None

-- the data that an item of this name stands for, in what this phrase stands in
abbrev pub pooled_in : List Phrase → Phrase → List ℕ → Option ℕ
pooled_in ps p name = option_and_then (λ (home : Phrase). pooled_at ps name home.node) (slice_get ps p.around.home)

-- the block that this name calls in a block
abbrev pub called_by_name : List Phrase → ℕ → List ℕ → Option ℕ
called_by_name ps block name = called_block ps (meant ps block name)

-- the same of a reference's name
abbrev pub called_by_reference : List Phrase → ℕ → Reference → Option ℕ
called_by_reference ps block (Refers place name further subscript) = called_by_name ps block name

-- the call that a phrase is
abbrev pub call_from : ℕ → ℕ → Call
call_from from to = record { from = from; to = to }

abbrev pub call_of : List Phrase → Phrase → Option Call
call_of ps p = option_map (call_from p.around.home) (callee ps p)

-- the calls of a set
abbrev pub calls_of : List Phrase → List Call
calls_of ps = filter_map (call_of ps) ps

-- the unit that a phrase is, among units with these numbers and calls
abbrev pub unit_with : List ℕ → List Call → Phrase → marks.Unit
unit_with ns calls p = record { number = p.number; process = is_process p.node; callees = places_called ns p.number calls }

abbrev pub unit_among : List ℕ → List Call → Phrase → Option marks.Unit
unit_among ns calls p = if is_unit p.node then Some (unit_with ns calls p) else None

abbrev pub units_among : List ℕ → List Call → List Phrase → List marks.Unit
units_among ns calls ps = filter_map (unit_among ns calls) ps

-- the units of a set
unfoldable pub units_of : List Phrase → List marks.Unit
units_of ps = units_among (unit_numbers ps) (calls_of ps) ps

-- whether a block reaches one of these by calls, or is one of them
abbrev pub reaches_any : List Phrase → List ℕ → ℕ → Bool
reaches_any ps blocks from = list_any (reaches ps from) blocks

-- the units that do
unfoldable pub reaching : List Phrase → List ℕ → List ℕ
reaching ps blocks = filter (reaches_any ps blocks) (unit_numbers ps)

-- how many units reach a block
abbrev pub caller_count : List Phrase → ℕ → ℕ
caller_count ps q = length (reaching ps (q ∷ []))

-- how many reach each unit of a set
unfoldable pub callers_of : List Phrase → List ℕ
callers_of ps = map (caller_count ps) (unit_numbers ps)

-- a unit of a set and the processes that reach it
abbrev pub reached : List Phrase → ℕ → marks.Reached
reached ps q = record { unit = q; processes = processes_reaching ps q }

-- each unit of a set with the processes that reach it
unfoldable pub reached_of : List Phrase → List marks.Reached
reached_of ps = map (reached ps) (unit_numbers ps)

-- whether a block reaches itself by one call or more
abbrev pub calls_itself : List Phrase → ℕ → Bool
calls_itself ps q = list_any (λ k. reaches ps k q) (callees ps q)

-- the units that do
unfoldable pub recursive : List Phrase → List ℕ
recursive ps = filter (calls_itself ps) (unit_numbers ps)
