-- Initial values of a structure: to which part each of them falls.
use Rattle.std.specs.Prelude.{ℕ, zero, suc, ◌==◌, ◌%◌, List, [], ◌∷◌, length, Option, Some, None, slice_get, if◌then◌else◌}
use Rattle.std.specs.Option.{option_and_then, option_or}
use Rattle.hal_base.specs.declared.refusal.Place.{Place}
use Rattle.hal_grammar.specs.Declarations.{Kind, Initial, Value, LiteralTimes, NameTimes, ListTimes, Initials, NoInitials, MoreInitials, Part}
use Rattle.hal_phrases.specs.Phrases.{Phrase}
use Rattle.hal_scope.specs.Sorts.{type_among}
use Rattle.hal_kinds.specs.declared.class.Class.{Class}
use Rattle.hal_kinds.specs.Data.{class_of_type}
use Rattle.hal_constants.specs.Known.{Known}
use Rattle.hal_sizes.specs.declared.extent.Extent.{Extent}
use Rattle.hal_sizes.specs.Counts.{add}
use Rattle.hal_sizes.specs.Sizes.{places_in}
use Rattle.hal_sizes.specs.Parts.{extent_of_part, kind_of_part}
use Rattle.hal_initials.specs.Repetition.{count_of, count_of_all}
use Rattle.hal_initials.specs.Suiting.{initials_fault, single_fault}

-- so many times the same, before a list
unfoldable pub repeated : {X : Type 0} → ℕ → X → List X → List X
repeated zero x xs = xs
repeated (suc n) x xs = x ∷ repeated n x xs

-- how many places a part has, none where that isn't known
unfoldable pub known_places : Option Extent → ℕ
known_places None = 0
known_places (Some e) = places_in e

-- the parts to which the cells of one copy belong, cell by cell, for these bottom parts
unfoldable pub laid : List Phrase → Known → Phrase → List Part → List Part
laid ps vs q [] = []
laid ps vs q (x ∷ xs) = repeated (known_places (extent_of_part ps vs q x)) x (laid ps vs q xs)

-- the class of a type's cells
unfoldable pub class_of_kind : Option Kind → Option Class
class_of_kind None = None
class_of_kind (Some kind) = Some (class_of_type kind)

-- an initial value in a phrase that falls to this part of the structure template q
abbrev pub part_fault : List Phrase → Known → Phrase → Phrase → Initial → Part → Option (ℕ × Place)
part_fault ps vs p q initial x = single_fault ps vs p (class_of_kind (type_among x.attributes)) (kind_of_part ps vs q x) initial

-- an initial value that falls to the k-th cell of a variable whose copies have these cells
abbrev pub fault_at : List Phrase → Known → Phrase → Phrase → List Part → Initial → ℕ → Option (ℕ × Place)
fault_at ps vs p q cells initial k = option_and_then (λ (x : Part). part_fault ps vs p q initial x) (slice_get cells (k % length cells))

-- the same so many times, from the k-th cell on
unfoldable pub fault_from : List Phrase → Known → Phrase → Phrase → List Part → Initial → ℕ → ℕ → Option (ℕ × Place)
fault_from ps vs p q cells initial zero k = None
fault_from ps vs p q cells initial (suc n) k = option_or (fault_at ps vs p q cells initial k) (fault_from ps vs p q cells initial n (add k 1))

-- what is found so many times, at the k-th cell and after steps of so many cells
unfoldable pub again : (ℕ → Option (ℕ × Place)) → ℕ → ℕ → ℕ → Option (ℕ × Place)
again find step zero k = None
again find step (suc n) k = option_or (find k) (again find step n (add k step))

unfoldable mutual
  -- an initial value from the k-th cell on
  pub fallen : List Phrase → Known → Phrase → Phrase → List Part → Initial → ℕ → Option (ℕ × Place)
  fallen ps vs p q cells (Value tree) k = fault_at ps vs p q cells (Value tree) k
  fallen ps vs p q cells (LiteralTimes place count sign at literal) k = fault_from ps vs p q cells (LiteralTimes place count sign at literal) count k
  fallen ps vs p q cells (NameTimes place count sign name) k = fault_from ps vs p q cells (NameTimes place count sign name) count k
  fallen ps vs p q cells (ListTimes place count values) k =
      if count_of_all values == 0 then None else again (fallen_all ps vs p q cells values) (count_of_all values) count k

  -- initial values from the k-th cell on
  pub fallen_all : List Phrase → Known → Phrase → Phrase → List Part → Initials → ℕ → Option (ℕ × Place)
  fallen_all ps vs p q cells NoInitials k = None
  fallen_all ps vs p q cells (MoreInitials first others) k = option_or (fallen ps vs p q cells first k) (fallen_all ps vs p q cells others (add k (count_of first)))

-- a list of initial values so many times, from the k-th cell on
abbrev pub repeated_from : List Phrase → Known → Phrase → Phrase → List Part → Initials → ℕ → ℕ → Option (ℕ × Place)
repeated_from ps vs p q cells values count k = if count_of_all values == 0 then None else again (fallen_all ps vs p q cells values) (count_of_all values) count k

-- one value that fills all cells: it has to suit each bottom part
unfoldable pub filled : List Phrase → Known → Phrase → Phrase → Initials → List Part → Option (ℕ × Place)
filled ps vs p q values [] = None
filled ps vs p q values (x ∷ xs) =
    option_or (initials_fault ps vs p (class_of_kind (type_among x.attributes)) (kind_of_part ps vs q x) values) (filled ps vs p q values xs)
