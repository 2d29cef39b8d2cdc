-- The text of a string of bits.
use Rattle.std.specs.Prelude.{ℕ, ◌+◌, ◌/◌, ◌%◌, ◌^◌, zero, suc, List, [], ◌∷◌}

-- the last bits of a word as 0 and 1, the leftmost first
abbrev pub bits_text : ℕ → ℕ → List ℕ
bits_text zero word = []
bits_text (suc len) word = (48 + (word / 2 ^ len) % 2) ∷ bits_text len word
