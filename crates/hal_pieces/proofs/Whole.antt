-- What is read when a file is read to its end.
use Rattle.std.proofs.Common.{◌≡◌, List, [], ◌∷◌, Contains, refl, ◌∙◌, sym, subst, arith, Some, None}
use Rattle.std.proofs.lemmas.List.{append-nil}
use Rattle.std.proofs.lemmas.List.Elements.{All-nil}
use Rattle.hal_base.specs.declared.refusal.Place.{Place}
use Rattle.hal_base.specs.declared.refusal.Fault.{Fault}
use Rattle.hal_base.specs.declared.refusal.Fault.TheVariants as fault
use Rattle.hal_words.specs.Pieces.{Wrong}
use Rattle.hal_words.specs.Lines.{Item, item, Cell}
use Rattle.hal_words.specs.Items.{items}
use Rattle.hal_pieces.specs.Faults.{IsRight, HasNoFault, HasFault, Tells}
use Rattle.hal_pieces.specs.Reading.{Follows, Reads, TellsOf}

-- between words: all items, and none of them is a fault
pub Reads-whole : (cells : List Cell) (new : List Item) → Reads cells [] None None [] new → (new ≡ items [] 0 cells) × HasNoFault (items [] 0 cells)
Reads-whole cells new reads =
    let ended : Follows (items [] 0 cells) reads.here [] = subst (λ (l : List Cell). Follows (items [] 0 l) reads.here []) (append-nil cells) (reads.follows []) in
    let same : items [] 0 cells ≡ reads.here = ended.same (All-nil (λ one. IsRight one.piece)) ∙ append-nil reads.here in
    (reads.put ∙ sym same, subst HasNoFault (sym same) ended.clean)

-- in a comment that began at this place: it breaks 202
pub Reads-open_end : (cells : List Cell) (new : List Item) (place : Place) → Reads cells [] None (Some place) [] new → Contains (items [] 0 cells) (item (Wrong 202) place)
Reads-open_end cells new place reads =
    let ended : Follows (items [] 0 cells) reads.here (item (Wrong 202) place ∷ []) = subst (λ (l : List Cell). Follows (items [] 0 l) reads.here (item (Wrong 202) place ∷ [])) (append-nil cells) (reads.follows []) in
    ended.faults (item (Wrong 202) place) (0, omega arith, refl)

pub Tells-whole : (cells : List Cell) (told : Fault) → TellsOf cells None [] told → Tells (items [] 0 cells) told
Tells-whole cells (fault.Broken refusal) breaks = subst (λ (l : List Cell). HasFault (items [] 0 l) refusal) (append-nil cells) (breaks [])
Tells-whole cells (fault.Memory error) breaks = tt
