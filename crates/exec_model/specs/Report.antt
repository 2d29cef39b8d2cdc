-- The report of a moment, byte by byte.
use Rattle.std.specs.Prelude.{ℕ, ◌+◌, ◌*◌, ◌/◌, ◌%◌, ◌^◌, ◌==◌, nat_le, nat_lt, zero, suc, Bool, true, false, ◌&&◌, List, [], ◌∷◌, ◌++◌, length, map, take, drop, take_while, codes, Option, Some, None, slice_index_or, slice_set, flat_map, if◌then◌else◌}
use Rattle.std.specs.Fmt.{decimal, signed_decimal}
use Rattle.std.specs.List.{range_with_len}
use Rattle.hal_values.specs.declared.tables.ReportBase.{ReportBase}
use Rattle.hal_values.specs.declared.tables.ReportBase.TheVariants as base
use Rattle.hal_values.specs.declared.tables.ReportName.{ReportName}
use Rattle.hal_values.specs.declared.tables.Tables.{Tables}
use Rattle.hal_values.specs.declared.value.Value.{Value}
use Rattle.hal_values.specs.declared.value.Value.TheVariants as value
use Rattle.hal_values.specs.BitTexts.{bits_text}
use Rattle.hal_values.specs.Loads.{Meaning}
use Rattle.hal_values.specs.ReportElements.{Element, elements}
use Rattle.hal_values.specs.Tables.{process_count}
use Rattle.exec_model.specs.declared.status.End.{End}
use Rattle.exec_model.specs.declared.status.How.{How}
use Rattle.exec_model.specs.declared.status.How.TheVariants as how
use Rattle.exec_model.specs.Effects.{bit_value, no_value}
use Rattle.exec_model.specs.Moments.{Moment, row_of, answers_of, event_of}
use Rattle.exec_model.specs.Rows.{is_active}

-- the name of a process
abbrev pub process_name : Tables → ℕ → List ℕ
process_name tables p = slice_index_or tables.processes p []

abbrev pub how_text : How → List ℕ
how_text how.Closed = codes "closed"
how_text how.Cancelled = codes "cancelled"
how_text how.Terminated = codes "terminated"
how_text (how.Error e) = codes "error " ++ (decimal e.group ++ (codes ":" ++ decimal e.number))

-- `end NAME CLOCK HOW CYCLES`
abbrev pub end_line : Tables → End → List ℕ
end_line tables ended =
    codes "end " ++ (process_name tables ended.process ++ (codes " " ++ (decimal ended.clock ++ (codes " " ++ (how_text ended.how ++ (codes " " ++ (decimal ended.cycles ++ codes "\n")))))))

-- `live NAME` where the process is active
abbrev pub live_line : Tables → Moment → ℕ → List ℕ
live_line tables m p = if is_active (row_of m p) then codes "live " ++ (process_name tables p ++ codes "\n") else []

-- a quote is doubled
abbrev pub quoted : List ℕ → List ℕ
quoted bytes = flat_map (λ byte. if byte == 39 then 39 ∷ 39 ∷ [] else byte ∷ []) bytes

-- an integer is decimal, bits are 0 and 1, a text stands in quotes
abbrev pub value_text : Value → List ℕ
value_text (value.Int number) = signed_decimal number
value_text (value.Bits len word) = bits_text len word
value_text (value.Text bytes) = codes "'" ++ (quoted bytes ++ codes "'")

-- the first of the values, or a value of no use
abbrev pub head_value : List Value → Value
head_value [] = no_value
head_value (v ∷ values) = v

-- the value at a number of a base, where these own values of the processes are still to be shown
abbrev pub base_value : Tables → Moment → List (List Value) → ReportBase → ℕ → Value
base_value tables m owns base.Shared number = slice_index_or m.store number no_value
base_value tables m owns (base.Own p) number = head_value (slice_index_or owns p [])
base_value tables m owns base.Event number = bit_value (event_of tables m number)

-- the own values that are still to be shown after an element of this base
abbrev pub owns_after : List (List Value) → ReportBase → List (List Value)
owns_after owns base.Shared = owns
owns_after owns (base.Own p) = slice_set owns p (drop 1 (slice_index_or owns p []))
owns_after owns base.Event = owns

-- `NAME = VALUE` for each element
abbrev pub value_lines : Tables → Moment → List (List Value) → List Element → List ℕ
value_lines tables m owns [] = []
value_lines tables m owns (shown ∷ others) =
    shown.label ++ (codes " = " ++ (value_text (base_value tables m owns shown.base shown.number) ++ (codes "\n" ++ value_lines tables m (owns_after owns shown.base) others)))

-- the own values of each process
abbrev pub own_values : Meaning → Moment → List (List Value)
own_values q m = map (λ p. q.own p (answers_of m p)) (range_with_len 0 (process_count q.tables))

-- the channel lines, the ends in order, the live processes in order, and the values
abbrev pub report : Meaning → Moment → List ℕ
report q m =
    m.output
    ++ (flat_map (end_line q.tables) m.ends
    ++ (flat_map (live_line q.tables m) (range_with_len 0 (process_count q.tables)) ++ value_lines q.tables m (own_values q m) (elements q.tables)))
