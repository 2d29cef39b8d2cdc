-- The number that digits write, digit by digit.
use Rattle.std.proofs.Common.{◌≡◌, ℕ, ◌+◌, ◌-◌, ◌*◌, ◌<◌, List, length, get_or, take, map, ap, ◌∙◌}
use Rattle.std.proofs.lemmas.List.{map_more}
use Rattle.std.proofs.lemmas.List.Sums.{fold_push}
use Rattle.hal_words.specs.Numbers.{written}
use Rattle.hal_pieces.specs.NumberParts.{values}

-- one more byte of the digits
pub written_one_more : (base : ℕ) (value : ℕ → ℕ) (digits : List ℕ) (i : ℕ) → i < length digits → written base (map value (take (i + 1) digits)) ≡ written base (map value (take i digits)) * base + value (get_or digits i 0)
written_one_more base value digits i within =
    ap (written base) (map_more value digits i 0 within) ∙ fold_push (λ front digit. front * base + digit) 0 (map value (take i digits)) (value (get_or digits i 0))

pub written_more : (digits : List ℕ) (i : ℕ) → i < length digits → written 10 (values (take (i + 1) digits)) ≡ written 10 (values (take i digits)) * 10 + (get_or digits i 0 - 48)
written_more digits i within = written_one_more 10 (λ b. b - 48) digits i within
