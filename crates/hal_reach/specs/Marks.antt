-- Marks of units: which of them reach a block by so many calls.
use Rattle.std.specs.Prelude.{ℕ, zero, suc, Bool, true, false, ◌&&◌, ◌||◌, List, [], ◌∷◌, length, map, slice_get, unwrap_or, if◌then◌else◌}
use Rattle.std.specs.List.{list_any}
use Rattle.hal_reach.specs.Places.{is_among}

-- a unit: the number of its phrase, whether it is a process, and the places of those that it calls among the units
pub record Unit : Type 0 where
  pub number : ℕ
  pub process : Bool
  pub callees : List ℕ

-- a unit, and the processes that reach it
pub record Reached : Type 0 where
  pub unit : ℕ
  pub processes : List ℕ

-- whether the unit at this place is marked
abbrev pub is_marked : List Bool → ℕ → Bool
is_marked marked place = unwrap_or (slice_get marked place) false

-- the units that are one of these blocks
abbrev pub themselves : List Unit → List ℕ → List Bool
themselves units blocks = map (λ (u : Unit). is_among blocks u.number) units

-- the same, and the units that call one of those that are marked
abbrev pub callers : List Unit → List ℕ → List Bool → List Bool
callers units blocks marked = map (λ (u : Unit). is_among blocks u.number || list_any (is_marked marked) u.callees) units

-- that so many times
unfoldable pub rounds : ℕ → List Unit → List ℕ → List Bool → List Bool
rounds zero units blocks marked = marked
rounds (suc n) units blocks marked = rounds n units blocks (callers units blocks marked)

-- as many times as there are units
abbrev pub reaching : List Unit → List ℕ → List Bool
reaching units blocks = rounds (length units) units blocks (themselves units blocks)

-- the units that are marked
unfoldable pub numbers_marked : List Unit → List Bool → List ℕ
numbers_marked [] marked = []
numbers_marked (u ∷ us) [] = []
numbers_marked (u ∷ us) (m ∷ ms) = if m then u.number ∷ numbers_marked us ms else numbers_marked us ms

-- the processes among the units that are marked
unfoldable pub processes_marked : List Unit → List Bool → List ℕ
processes_marked [] marked = []
processes_marked (u ∷ us) [] = []
processes_marked (u ∷ us) (m ∷ ms) = if u.process && m then u.number ∷ processes_marked us ms else processes_marked us ms

-- each unit with the processes that reach it
abbrev pub row : List Unit → Unit → Reached
row units u = record { unit = u.number; processes = processes_marked units (reaching units (u.number ∷ [])) }

unfoldable pub rows : List Unit → List Reached
rows units = map (row units) units

-- how many units reach a unit
abbrev pub count_of : List Unit → Unit → ℕ
count_of units u = length (numbers_marked units (reaching units (u.number ∷ [])))

unfoldable pub counts : List Unit → List ℕ
counts units = map (count_of units) units

-- whether a unit calls one that reaches it
unfoldable pub calls_itself : List Unit → Unit → Bool
calls_itself units u = list_any (is_marked (reaching units (u.number ∷ []))) u.callees

-- the units that do, among some of these
unfoldable pub recursive_among : List Unit → List Unit → List ℕ
recursive_among units [] = []
recursive_among units (u ∷ us) = if calls_itself units u then u.number ∷ recursive_among units us else recursive_among units us

unfoldable pub recursive : List Unit → List ℕ
recursive units = recursive_among units units
