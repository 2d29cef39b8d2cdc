use Rattle.std.proofs.Common.{List, All, map, ap, sym, subst, ◌∙◌}
use Rattle.std.proofs.lemmas.Result.{err_from_is_err_and}
use Rattle.hal_words.specs.Lines.{Item}
use Rattle.hal_pieces.specs.Faults.{seen_item}
use Rattle.hal_lexer.specs.Texts.{HoldsText}
use Rattle.hal_lexer.proofs.WrongItems.{told}
use Rattle.hal_lexer.proofs.FileTexts.{file_texts}
use Rattle.hal_lexer.proofs.file.tokens.Goals as goal

pub returns-in_err-items-clause-broken : goal.returns-in_err-items-clause-broken
returns-in_err-items-clause-broken c =
    let p = err_from_is_err_and c.from_residual.result c.from_residual.ensures.1 in
    rw (p.1, p.2) (told c.args.unit c.args.text.now c.in_err-items.field-0.0 c.in_err-items.ensures.broken)

pub words-requires : goal.words-requires
words-requires c =
    subst (λ (items : List Item). All HoldsText items) (sym (ap (map seen_item) c.as_slice.ensures.value ∙ c.in_ok-items.ensures.found)) (file_texts c.args.unit c.args.text.now)
