-- How far a file's items are read: what stands in the vector, and what the cells from here on give.
use Rattle.std.specs.Prelude.{◌≡◌, ℕ, suc, ◌==◌, Bool, false, ◌&&◌, List, [], ◌∷◌, ◌++◌, length, Contains, Option, Some, None, option_map, if◌then◌else◌}
use Rattle.hal_base.specs.declared.refusal.Place.{Place}
use Rattle.hal_base.specs.declared.refusal.Fault.{Fault}
use Rattle.hal_base.specs.declared.refusal.Fault.TheVariants as fault
use Rattle.hal_base.specs.declared.refusal.Refusal.{Refusal}
use Rattle.hal_words.specs.Lines.{Item, Cell}
use Rattle.hal_words.specs.Items.{comment_rest, fault_if_open, items}
use Rattle.hal_pieces.specs.Faults.{HasNoFault, HasFault}

-- how many bytes of a line a comment takes, to the end of its last two; None where it goes on behind the line. `after` tells that the byte before was `*`
abbrev pub closing : Bool → List ℕ → Option ℕ
closing after [] = None
closing after (b ∷ text) = if after && b == 47 then Some 1 else option_map suc (closing (b == 42) text)

abbrev pub size_within : Option ℕ → ℕ → ℕ
size_within None all = all
size_within (Some size) all = size

-- what cells inside a comment give that began at this place behind the items that are done. `after` tells that the byte before was `*`
abbrev pub inside : Bool → Place → List Item → List Cell → List Item
inside after place done cells =
    fault_if_open (comment_rest after cells) place
    ++ items (done ++ fault_if_open (comment_rest after cells) place) (size_within (comment_rest after cells) (length cells)) cells

-- what the cells from here on give behind the items that are done: between words, or in a comment that began at this place
abbrev pub left : Option Place → List Item → List Cell → List Item
left None done cells = items done 0 cells
left (Some place) done cells = inside false place done cells

-- items that are read to these, of which none is a fault: what follows gives the rest, or a fault
pub record Follows (whole done rest : List Item) : Type 0 where
  pub clean : HasNoFault done
  pub faults : (one : Item) → Contains rest one → Contains whole one
  pub same : HasNoFault rest → whole ≡ done ++ rest

-- the items of the cells up to the later ones are put after the old ones, whatever follows
pub record Reads (cells later : List Cell) (before after : Option Place) (old new : List Item) : Type 0 where
  pub here : List Item
  pub put : new ≡ old ++ here
  pub follows : (more : List Cell) → Follows (left before old (cells ++ more)) here (left after new (later ++ more))

-- the cells have this fault behind the old items, whatever follows
abbrev pub IsBrokenBy : List Cell → Option Place → List Item → Refusal → Type 0
IsBrokenBy cells before old refusal = (more : List Cell) → HasFault (left before old (cells ++ more)) refusal

-- an error tells a fault of the cells
abbrev pub TellsOf : List Cell → Option Place → List Item → Fault → Type 0
TellsOf cells before old (fault.Broken refusal) = IsBrokenBy cells before old refusal
TellsOf cells before old (fault.Memory error) = Unit {0}
