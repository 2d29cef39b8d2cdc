use Rattle.std.proofs.Common.{IfErr, ◌∙◌, ap, subst}
use Rattle.std.proofs.lemmas.Result.{IfOk-weaker}
use Rattle.hal_words.specs.Lines.{Item, item}
use Rattle.hal_pieces.specs.Faults.{IsFaultItem}
use Rattle.hal_pieces.specs.Seen.{seen, seen_right}
use Rattle.hal_lexer.proofs.Marks.{as_word_of_text}
use Rattle.hal_lexer.proofs.text_words.word_of_text.Goals as goal

pub returns-clause-word : goal.returns-clause-word
returns-clause-word c = IfOk-weaker c.word_of.result _ _ (λ word is at. c.in_ok-right.ensures.found at ∙ ap (λ p. item p at) is) c.word_of.ensures.word

pub returns-clause-broken : goal.returns-clause-broken
returns-clause-broken c =
    let same = as_word_of_text (seen c.args.piece.now) (seen_right c.in_ok-right.right) c.args.place c.requires (c.in_ok-right.ensures.found c.args.place) in
    subst (λ (one : Item). IfErr c.word_of.result (λ fault. IsFaultItem one fault)) same c.word_of.ensures.broken
