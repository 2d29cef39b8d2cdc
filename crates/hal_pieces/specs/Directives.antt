-- The cells of a directive as the code reads it.
use Rattle.std.specs.Prelude.{ℕ, nat_le, length, List, [], ◌∷◌, if◌then◌else◌}
use Rattle.hal_base.specs.declared.refusal.Place.{Place}
use Rattle.hal_words.specs.declared.reserved.Reserved.TheVariants as reserved
use Rattle.hal_words.specs.declared.word.Word.TheVariants as word
use Rattle.hal_words.specs.Pieces.{Is, Wrong}
use Rattle.hal_words.specs.Lines.{item, Cell, Given}
use Rattle.hal_pieces.specs.declared.directives.Directive.{Directive}
use Rattle.hal_pieces.specs.declared.directives.Directive.TheVariants as directive

abbrev pub cells_of : Directive → List Cell
cells_of directive.Other = []
cells_of (directive.Include begin at name) = Given (item (Is (word.Reserved reserved.Include)) begin) ∷ Given (item (Is (word.Name name)) at) ∷ []
cells_of (directive.LongName begin at) = Given (item (Is (word.Reserved reserved.Include)) begin) ∷ Given (item (Wrong 203) at) ∷ []
cells_of (directive.Wrong begin) = Given (item (Wrong 103) begin) ∷ []

-- an INCLUDE directive with a run that can be a name, where the two stand
abbrev pub included_cells : Place → Place → List ℕ → List Cell
included_cells begin at run = Given (item (Is (word.Reserved reserved.Include)) begin) ∷ Given (item (if nat_le (length run) 32 then Is (word.Name run) else Wrong 203) at) ∷ []
