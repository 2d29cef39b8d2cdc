-- Own values of a process.
use Rattle.std.specs.Prelude.{ℕ, List, [], ◌∷◌, ◌++◌, option_to_list, Option, Some, None, slice_get, if◌then◌else◌}
use Rattle.hal_values.specs.declared.value.Value.{Value}
use Rattle.hal_values.specs.ReportElements.{Element}
use Rattle.hal_states.specs.Spots.{Held, held_in}
use Rattle.hal_states.specs.Telling.{is_own_of}
use Rattle.hal_machine.specs.Seen.{core_seen}
use Rattle.hal_runner.specs.declared.runner.Runner.{Runner}

-- what the own places of a runner hold
abbrev pub places_seen : Runner → List Held
places_seen r = (core_seen r.machine).kept.places

-- the value that an element shows, where it is an own one of the process
abbrev pub own_shown : ℕ → List Held → Element → Option Value
own_shown p places e = if is_own_of p e.base then Some (held_in (slice_get places e.number)) else None

-- some values and then those that elements show
abbrev pub with_owns : ℕ → List Held → List Value → List Element → List Value
with_owns p places values [] = values
with_owns p places values (e ∷ es) = with_owns p places (values ++ option_to_list (own_shown p places e)) es
