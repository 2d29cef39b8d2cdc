use Rattle.std.proofs.Common.{◌≡◌, ◌∷◌, [], slice_get, Some, sym, ap, ◌∙◌, append-nil}
use Rattle.std.proofs.lemmas.Result.{IfOk-weaker}
use Rattle.hal_lexer.specs.declared.comes.Comes.{Comes}
use Rattle.hal_lexer.specs.Summary.{given_of}
use Rattle.hal_lexer.proofs.summary.take.Goals as goal

pub returns-in-Nothing : goal.returns-in-Nothing
returns-in-Nothing c =
    let at : given_of (slice_get c.args.comes.now c.args.number) ≡ Some [] = sym c.known_at.ensures ∙ ap (λ (k : Comes). given_of (Some k)) c.in-Nothing.is in
    λ known. ([], at, sym (append-nil c.args.parts.now.items))

pub returns-in-One : goal.returns-in-One
returns-in-One c =
    let one = c.in-One.one in
    let at : given_of (slice_get c.args.comes.now c.args.number) ≡ Some (one ∷ []) = sym c.known_at.ensures ∙ ap (λ (k : Comes). given_of (Some k)) c.in-One.is in
    IfOk-weaker c.add.result _ _ (λ _ added known. (one ∷ [], at, added)) c.add.ensures.added
