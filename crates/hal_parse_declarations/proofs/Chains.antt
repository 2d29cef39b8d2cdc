-- Lists of phrases, as they are read one after another.
use Rattle.std.proofs.Common.{◌≡◌, ℕ, zero, suc, ◌<◌, List, [], ◌∷◌, length, Some, ap, ◌∙◌, ◌≤◌, arith}
use Rattle.hal_grammar.specs.Words.{Words}
use Rattle.hal_parse_expr.specs.Reading.{Read, Reader, many, all, listed}
use Rattle.hal_parse_expr.proofs.Shortening.{Below, Shortens, all_more}
use Rattle.hal_parse_expr.proofs.Readings.{Holds, holds_none, holds}

-- phrases one after another
pub data Chain {X : Type 0} (P : X → Words → Words → Type 0) : List X → Words → Words → Type 0 where
  chain_end : {after : Words} → Chain P [] after after
  chain_more : {x : X} {xs : List X} {before middle after : Words} → P x before middle → Chain P xs middle after → Chain P (x ∷ xs) before after

listed_chain : {X : Type 0} {P : X → Words → Words → Type 0} {others : Words → List X × Words} {words : Words} {o : Read X} → Holds (λ x rest. P x words rest) o →
    ((rest : Words) → Chain P (others rest).0 rest (others rest).1) → Chain P (listed others words o).0 words (listed others words o).1
unfolding listed
listed_chain holds_none f = chain_end
listed_chain (holds h) f = chain_more h (f _)

many_chain : {X : Type 0} {P : X → Words → Words → Type 0} (read : Reader X) → ((words : Words) → Holds (λ x rest. P x words rest) (read words)) → (k : ℕ) (words : Words) →
    Chain P (many read k words).0 words (many read k words).1
unfolding many
many_chain read g zero words = chain_end
many_chain read g (suc k) words = listed_chain (g words) (λ rest. many_chain read g k rest)

-- what is read as long as it can be
pub all_chain : {X : Type 0} {P : X → Words → Words → Type 0} (read : Reader X) → ((words : Words) → Holds (λ x rest. P x words rest) (read words)) → (words : Words) →
    Chain P (all read words).0 words (all read words).1
unfolding all
all_chain read g words = many_chain read g (length words) words

below_given : {X : Type 0} {P : X → Words → Type 0} {k : ℕ} {o : Read X} → Holds P o → ((x : X) (rest : Words) → P x rest → length rest < k) → Below k o
below_given holds_none f = tt
below_given (holds h) f = f _ _ h

-- a reader of phrases that take a word leaves fewer words
pub shortens : {X : Type 0} {P : X → Words → Words → Type 0} {read : Reader X} → ((words : Words) → Holds (λ x rest. P x words rest) (read words)) →
    ((x : X) (words rest : Words) → P x words rest → length rest < length words) → Shortens read
shortens g f words = below_given (g words) (λ x rest h. f x words rest h)

pub chain_shorter : {X : Type 0} {P : X → Words → Words → Type 0} → ((x : X) (words rest : Words) → P x words rest → length rest < length words) → {xs : List X} {before after : Words} →
    Chain P xs before after → length after ≤ length before
chain_shorter f chain_end = omega arith
chain_shorter f (chain_more {x = x} {before = before} {middle = middle} h c) = omega (arith, f x before middle h, chain_shorter f c)

-- a list that begins with this phrase
pub all_first : {X : Type 0} (read : Reader X) → Shortens read → {words : Words} {x : X} {rest : Words} {xs : List X} {after : Words} → read words ≡ Some (x, rest) → all read rest ≡ (xs, after) →
    all read words ≡ (x ∷ xs, after)
all_first read short {words = words} {x = x} {rest = rest} e f = all_more read short words x rest e ∙ ap (λ l. (x ∷ l.0, l.1)) f
