-- A text is cut into its words.
use Rattle.std.proofs.Common.{◌≡◌, ℕ, List, [], ◌∷◌, ◌++◌, refl, sym, ap, ◌∙◌, append_assoc, append-nil}
use Rattle.hal_base.specs.declared.refusal.Place.{Place}
use Rattle.hal_words.specs.Pieces.{Is}
use Rattle.hal_words.specs.Lines.{Item, item}
use Rattle.hal_words.specs.Replacing.{text_items}
use Rattle.hal_words.specs.declared.word.Word.{Word}
use Rattle.hal_lexer.specs.Parts.{part_item, AreParts, GoOn}

pub go_on_start : (text : List ℕ) (parts : List Word) → GoOn text parts text parts
go_on_start text parts = λ more is. (more, refl, is)

pub go_on_word : (text rest : List ℕ) (before parts : List Word) (one : Word) → ((at : Place) → text_items at text ≡ item (Is one) at ∷ text_items at rest) → parts ≡ before ++ one ∷ [] → GoOn text before rest parts
go_on_word text rest before parts one front added = λ more is.
    (one ∷ more, rw added (append_assoc before (one ∷ []) more), λ place. front place ∙ ap (λ (items : List Item). part_item place one ∷ items) (is place))

pub go_on_more : (text rest behind : List ℕ) (before middle parts : List Word) → GoOn text before rest middle → GoOn rest middle behind parts → GoOn text before behind parts
go_on_more text rest behind before middle parts first second = λ more is.
    let inner = second more is in
    let outer = first inner.0 inner.2 in
    (outer.0, inner.1 ∙ outer.1, outer.2)

-- the text ends
pub go_on_end : (text rest : List ℕ) (before parts more : List Word) → before ≡ [] → GoOn text before rest parts → ((at : Place) → text_items at rest ≡ []) → more ≡ parts → AreParts text more
go_on_end text rest before parts more none goes_on ends same =
    let whole = goes_on [] ends in
    let here : more ≡ whole.0 = same ∙ sym (append-nil parts) ∙ whole.1 ∙ ap (λ (list : List Word). list ++ whole.0) none in
    rw here whole.2
