-- The values that are known, as the program has them.
use Rattle.std.specs.Prelude.{List, map, Option, Box}
use Rattle.std.specs.Option.{option_map}
use Rattle.std.specs.declared.alloc.Global.{Global}
use Rattle.hal_values.specs.declared.value.Value.{Value}
use Rattle.hal_constants.specs.declared.known.Known.{Known}

-- of each phrase its value, if it has one
abbrev pub seen_value : Option (Box Value Global) → Option Value
seen_value slot = option_map (λ (b : Box Value Global). b.value) slot

abbrev pub seen_known : Known → List (Option Value)
seen_known known = map seen_value known.values.items
