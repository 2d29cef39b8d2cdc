-- What a reader gives, from what the readers below it give.
use Rattle.std.proofs.Common.{◌≡◌, List, Some, None, ap, ap₂, ◌∙◌}
use Rattle.hal_base.specs.declared.refusal.Place.{Place}
use Rattle.hal_grammar.specs.Expressions.{Expression, Expressions}
use Rattle.hal_grammar.specs.Words.{Words}
use Rattle.hal_parse_expr.specs.Reading.{Reader, followed, all}
use Rattle.hal_parse_expr.specs.ReadingExpressions.{row_at, row_of}

pub no_row : (make : Place → Expression → Expressions → Expression) (first more : Reader Expression) (words : Words) → None ≡ first words → None ≡ row_at make first more words
unfolding row_at followed
no_row make first more words e = ap (λ o. followed o (λ t rest. Some (row_of make t (all more rest).0, (all more rest).1))) e

pub row_read : (make : Place → Expression → Expressions → Expression) (first more : Reader Expression) {words rest after : Words} {t whole : Expression} {us : List Expression} →
    Some (t, rest) ≡ first words → (us, after) ≡ all more rest → whole ≡ row_of make t us → Some (whole, after) ≡ row_at make first more words
unfolding row_at followed
row_read make first more {t = t} e h g =
    ap₂ (λ w r. Some (w, r)) (g ∙ ap (λ l. row_of make t l.0) h) (ap (λ l. l.1) h) ∙ ap (λ o. followed o (λ t rest. Some (row_of make t (all more rest).0, (all more rest).1))) e
