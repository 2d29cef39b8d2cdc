use Rattle.std.proofs.Common.{◌≡◌, ◌∙◌, ap, sym, rules}
use Rattle.std.proofs.lemmas.Result.{IfOk-weaker}
use Rattle.hal_base.specs.declared.refusal.Place.{Place}
use Rattle.hal_words.specs.Lines.{item}
use Rattle.hal_words.specs.Items.{main_item}
use Rattle.hal_pieces.specs.Seen.{seen}
use Rattle.hal_pieces.proofs.item.right_piece.Goals as goal

pub returns-clause-found : goal.returns-clause-found
returns-clause-found c =
    let same : (at : Place) → main_item (seen c.args.piece.now) at ≡ item (seen c.args.piece.now) at = search rules in
    IfOk-weaker c.kept.result _ _ (λ right is at. same at ∙ ap (λ p. item p at) (sym is)) c.kept.ensures.same

pub returns-clause-broken : goal.returns-clause-broken
returns-clause-broken c =
    let same : (at : Place) → main_item (seen c.args.piece.now) at ≡ item (seen c.args.piece.now) at = search rules in
    rw (same c.args.place) c.kept.ensures.broken
