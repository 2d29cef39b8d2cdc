-- Lists parted by commas.
use Rattle.std.proofs.Common.{◌≡◌, List, [], ◌∷◌, Some, None, ap, ◌∙◌}
use Rattle.hal_grammar.specs.Expressions.{Expression, MoreExpressions, Sub, MoreSubscripts}
use Rattle.hal_grammar.specs.Words.{Words}
use Rattle.hal_parse_expr.specs.Reading.{Reader, followed, made_of, all, after_comma, parted}
use Rattle.hal_parse_expr.specs.ReadingExpressions.{expression_of, expressions, expressions_of, sub_of, subs_of, subscripts}
use Rattle.hal_parse_expr.proofs.Loops.{with_front}

none_parted : {X : Type 0} (read : Reader X) (words : Words) → None ≡ read words → None ≡ parted read words
unfolding parted followed
none_parted read words e = ap (λ o. followed o (λ x rest. Some ((x, (all (after_comma read) rest).0), (all (after_comma read) rest).1))) e

some_parted : {X : Type 0} (read : Reader X) {words rest : Words} {x : X} → Some (x, rest) ≡ read words → Some ((x, (all (after_comma read) rest).0), (all (after_comma read) rest).1) ≡ parted read words
unfolding parted followed
some_parted read e = ap (λ o. followed o (λ x rest. Some ((x, (all (after_comma read) rest).0), (all (after_comma read) rest).1))) e

pub no_expressions : (primary : Reader Expression) (words : Words) → None ≡ expression_of primary words → None ≡ expressions_of primary words
unfolding expressions_of made_of
no_expressions primary words e = ap (λ o. made_of (λ f. MoreExpressions f.0 (expressions f.1)) o) (none_parted (expression_of primary) words e)

pub expressions_read : (primary : Reader Expression) (words : Words) {rest after : Words} {t : Expression} {ts : List Expression} → Some (t, rest) ≡ expression_of primary words →
    (ts, after) ≡ with_front (t ∷ []) (all (after_comma (expression_of primary)) rest) → Some (expressions ts, after) ≡ expressions_of primary words
unfolding expressions_of made_of expressions
expressions_read primary words e h =
    ap (λ l. Some (expressions l.0, l.1)) h ∙ ap (λ o. made_of (λ f. MoreExpressions f.0 (expressions f.1)) o) (some_parted (expression_of primary) e)

pub no_subs : (primary : Reader Expression) (words : Words) → None ≡ sub_of primary words → None ≡ subs_of primary words
unfolding subs_of made_of
no_subs primary words e = ap (λ o. made_of (λ f. MoreSubscripts f.0 (subscripts f.1)) o) (none_parted (sub_of primary) words e)

pub subs_read : (primary : Reader Expression) (words : Words) {rest after : Words} {x : Sub} {xs : List Sub} → Some (x, rest) ≡ sub_of primary words →
    (xs, after) ≡ with_front (x ∷ []) (all (after_comma (sub_of primary)) rest) → Some (subscripts xs, after) ≡ subs_of primary words
unfolding subs_of made_of subscripts
subs_read primary words e h =
    ap (λ l. Some (subscripts l.0, l.1)) h ∙ ap (λ o. made_of (λ f. MoreSubscripts f.0 (subscripts f.1)) o) (some_parted (sub_of primary) e)
