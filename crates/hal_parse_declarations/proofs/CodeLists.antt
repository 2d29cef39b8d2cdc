-- Lists parted by commas, as the code gathers them.
use Rattle.std.proofs.Common.{◌≡◌, List, [], ◌∷◌, Some, None, ap, ◌∙◌}
use Rattle.hal_grammar.specs.Words.{Words}
use Rattle.hal_parse_expr.specs.Reading.{Read, Reader, followed, made_of, all, after_comma, parted}
use Rattle.hal_parse_expr.proofs.Loops.{with_front}
use Rattle.hal_parse_declarations.specs.ReadingDeclarations.{first_and_others}

-- the list that begins with what is read
gathered : {X : Type 0} (read : Reader X) → Read X → Read (List X)
gathered read o = made_of first_and_others (followed o (λ x rest. Some ((x, (all (after_comma read) rest).0), (all (after_comma read) rest).1)))

pub no_list : {X : Type 0} (read : Reader X) (words : Words) → None ≡ read words → None ≡ made_of first_and_others (parted read words)
unfolding gathered parted followed made_of
no_list read words e = ap (λ o. gathered read o) e

pub list_read : {X : Type 0} (read : Reader X) {words rest after : Words} {x : X} {xs : List X} → Some (x, rest) ≡ read words → (xs, after) ≡ with_front (x ∷ []) (all (after_comma read) rest) →
    Some (xs, after) ≡ made_of first_and_others (parted read words)
unfolding gathered parted followed made_of
list_read read e h = ap (λ l. Some (l.0, l.1)) h ∙ ap (λ o. gathered read o) e
