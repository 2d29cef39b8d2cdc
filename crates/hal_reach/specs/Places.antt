-- The places of numbers in a list.
use Rattle.std.specs.Prelude.{ℕ, suc, ◌==◌, Bool, List, [], ◌∷◌, Option, Some, None, filter_map, if◌then◌else◌}
use Rattle.std.specs.Option.{option_map}
use Rattle.std.specs.List.{list_any}
use Rattle.hal_reach.specs.declared.call.Call.{Call}

-- whether one of them is this number
abbrev pub is_among : List ℕ → ℕ → Bool
is_among ns k = list_any (λ n. n == k) ns

-- the place of the first that is this number
unfoldable pub place_among : List ℕ → ℕ → Option ℕ
place_among [] k = None
place_among (n ∷ ns) k = if n == k then Some 0 else option_map suc (place_among ns k)

-- the places of numbers, without those that the list hasn't
abbrev pub places : List ℕ → List ℕ → List ℕ
places ns ks = filter_map (place_among ns) ks

-- the place of the block that a call calls, where the block with this number has the call
abbrev pub place_called : List ℕ → ℕ → Call → Option ℕ
place_called ns from c = if c.from == from then place_among ns c.to else None

-- the places of those that the block with this number calls
abbrev pub places_called : List ℕ → ℕ → List Call → List ℕ
places_called ns from calls = filter_map (place_called ns from) calls
