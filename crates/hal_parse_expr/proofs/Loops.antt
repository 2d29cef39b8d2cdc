-- Loops that gather what a reader gives.
use Rattle.std.proofs.Common.{◌≡◌, ◌<◌, List, [], ◌∷◌, ◌++◌, length, map, Some, None, ap, sym, ◌∙◌, subst}
use Rattle.std.proofs.lemmas.List.{map-append, append_assoc, append-nil}
use Rattle.hal_grammar.specs.Words.{Words}
use Rattle.hal_parse_expr.specs.Reading.{Reader, all}
use Rattle.hal_parse_expr.proofs.Shortening.{Below, Shortens, all_none, all_more}

-- what a loop has gathered, and what is still read
abbrev pub with_front : {Y : Type 0} → List Y → List Y × Words → List Y × Words
with_front ys r = (ys ++ r.0, r.1)

pub loop_smaller : {Y : Type 0} (read : Reader Y) → Shortens read → {words rest : Words} {y : Y} → Some (y, rest) ≡ read words → length rest < length words
loop_smaller read short {words = words} {rest = rest} e = subst (λ o. Below (length words) o) (sym e) (short words)

-- one more is gathered
pub loop_step : {X Y : Type 0} (view : X → Y) (read : Reader Y) → Shortens read → (xs : List X) (x : X) {words rest : Words} {whole : List Y × Words} →
    Some (view x, rest) ≡ read words → with_front (map view xs) (all read words) ≡ whole → with_front (map view (xs ++ x ∷ [])) (all read rest) ≡ whole
loop_step view read short xs x {words = words} {rest = rest} e h =
    ap (λ ys. (ys ++ (all read rest).0, (all read rest).1)) (map-append view xs (x ∷ []))
    ∙ ap (λ ys. (ys, (all read rest).1)) (append_assoc (map view xs) (view x ∷ []) (all read rest).0)
    ∙ ap (λ r. with_front (map view xs) r) (sym (all_more read short words (view x) rest (sym e)))
    ∙ h

-- nothing more is read
pub loop_end : {X Y : Type 0} (view : X → Y) (read : Reader Y) (xs : List X) {words : Words} {whole : List Y × Words} →
    None ≡ read words → with_front (map view xs) (all read words) ≡ whole → (map view xs, words) ≡ whole
loop_end view read xs {words = words} e h =
    ap (λ ys. (ys, words)) (sym (append-nil (map view xs))) ∙ ap (λ r. with_front (map view xs) r) (sym (all_none read words (sym e))) ∙ h
