-- What is told of a course: UPDATE blocks, and the own elements that the report shows.
use Rattle.std.specs.Prelude.{ℕ, ◌==◌, Bool, true, false, List, filter_map, Option, Some, None, slice_get, if◌then◌else◌}
use Rattle.hal_values.specs.declared.request.Request.{Request}
use Rattle.hal_values.specs.declared.request.Request.TheVariants as request
use Rattle.hal_values.specs.declared.tables.ReportBase.{ReportBase}
use Rattle.hal_values.specs.declared.tables.ReportBase.TheVariants as base
use Rattle.hal_values.specs.declared.tables.Tables.{Tables}
use Rattle.hal_values.specs.declared.value.Value.{Value}
use Rattle.hal_values.specs.ReportElements.{Element, elements}
use Rattle.hal_states.specs.Spots.{Held, held_in}
use Rattle.hal_states.specs.Modes.{Mode, writes_in}

-- whether an UPDATE block is asked for
abbrev pub is_update : Request → Bool
is_update (request.Update groups) = true
is_update other = false

-- the writes of an UPDATE block that is asked for, which ends in this mode, where of so many turns it has made just these
abbrev pub writes_asked : ℕ → Request → Mode → ℕ → Option (List (ℕ × Value))
writes_asked all r m turns = if is_update r then writes_in all m turns else None

-- whether elements are own ones of a process
abbrev pub is_own_of : ℕ → ReportBase → Bool
is_own_of p (base.Own q) = p == q
is_own_of p other = false

-- the values of the own elements that the report names of a process give, while its own places hold this
abbrev pub own_values : Tables → ℕ → List Held → List Value
own_values tables p places =
    filter_map (λ (e : Element). if is_own_of p e.base then Some (held_in (slice_get places e.number)) else None) (elements tables)
