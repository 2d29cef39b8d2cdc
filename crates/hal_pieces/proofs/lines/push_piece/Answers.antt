use Rattle.std.proofs.Common.{◌≡◌, ℕ, List, [], ◌∷◌, ◌++◌, map, refl, sym, ap, ◌∙◌, subst, rules}
use Rattle.std.proofs.lemmas.List.{map_push}
use Rattle.std.proofs.lemmas.Result.{err_from_is_err_and}
use Rattle.hal_words.specs.Items.{main_item, opens_text}
use Rattle.hal_words.specs.Lines as shape
use Rattle.hal_words.specs.Pieces.{Piece, piece_or_text}
use Rattle.hal_pieces.specs.declared.item.Item.{Item}
use Rattle.hal_pieces.specs.Seen.{seen}
use Rattle.hal_pieces.specs.Faults.{IsFaultItem, seen_item}
use Rattle.hal_pieces.proofs.Sizes.{text-within}
use Rattle.hal_pieces.proofs.Words.{IsRight-seen, Reads-word, TellsOf-word}
use Rattle.hal_pieces.proofs.lines.push_piece.Goals as goal

-- what stands there behind these items of the code
abbrev stands : List Item → List ℕ → Piece × ℕ
stands items text = piece_or_text (opens_text (map seen_item items)) text

pub returns-in_err-piece-clause-broken : goal.returns-in_err-piece-clause-broken
returns-in_err-piece-clause-broken c =
    let place = c.args.place in
    let text = c.args.text.now in
    let told = c.in_err-piece.field-0.0 in
    let same : c.as_slice.result.now ≡ c.args.items.now.items = search rules in
    let stood : main_item (seen c.piece_behind-piece.result.0) place ≡ main_item (stands c.args.items.now.items text).0 place = ap (λ p. main_item p place) c.piece_behind-piece.ensures.what ∙ ap (λ (items : List Item). main_item (stands items text).0 place) same in
    let p = err_from_is_err_and c.from_residual.result c.from_residual.ensures.1 in
    rw (p.1, p.2)
    (TellsOf-word place.unit place.line place.column text (stands c.args.items.now.items text) (map seen_item c.args.items.now.items) told refl c.requires.some c.requires.plain c.requires.no_blank c.requires.no_comment
    (subst (λ (one : shape.Item). IsFaultItem one told) stood c.in_err-piece.ensures.broken))

pub returns-clause-within : goal.returns-clause-within
returns-clause-within c = rw c.piece_behind-piece.ensures.size (text-within (opens_text (map seen_item c.as_slice.result.now)) c.args.text.now c.requires.some)

pub returns-clause-read : goal.returns-clause-read
returns-clause-read c =
    let place = c.args.place in
    let text = c.args.text.now in
    let old = map seen_item c.args.items.now.items in
    let sized = stands c.args.items.now.items text in
    let same : c.as_slice.result.now ≡ c.args.items.now.items = search rules in
    let one : Item = record { piece = c.in_ok-piece.piece; place = place } in
    let new : c.push.new.self.items ≡ c.args.items.now.items ++ one ∷ [] = search rules in
    let size : c.piece_behind-piece.result.1 ≡ sized.1 = c.piece_behind-piece.ensures.size ∙ ap (λ (items : List Item). (stands items text).1) same in
    let found : main_item sized.0 place ≡ seen_item one = ap (λ (items : List Item). main_item (stands items text).0 place) (sym same) ∙ ap (λ p. main_item p place) (sym c.piece_behind-piece.ensures.what) ∙ c.in_ok-piece.ensures.found place in
    rw (new, map_push seen_item c.args.items.now.items one, size)
    (Reads-word place.unit place.line place.column text sized (seen_item one) old refl c.requires.some c.requires.plain c.requires.no_blank c.requires.no_comment found (IsRight-seen c.in_ok-piece.piece))
