-- The words of a line, parted by blanks.
use Rattle.std.specs.Prelude.{ℕ, Bool, List, [], ◌∷◌, not, filter, length, nat_le, ◌==◌, ◌||◌, ◌&&◌, if◌then◌else◌}
use Rattle.std.specs.List.{slice_split, list_all, after_first}

-- a space or a tab
abbrev pub is_blank : ℕ → Bool
is_blank byte = byte == 32 || byte == 9

-- what stands between blanks, but for the empty parts
abbrev pub words : List ℕ → List (List ℕ)
words line = filter (λ part. not (length part == 0)) (slice_split is_blank line)

-- what stands behind a line's first word, without the blank that ends it
abbrev pub behind_word : List ℕ → List ℕ
behind_word [] = []
behind_word (byte ∷ text) = if is_blank byte then behind_word text else after_first is_blank text

-- each byte is one from the space to the tilde, 32 to 126
abbrev pub is_printable : List ℕ → Bool
is_printable line = list_all (λ byte. nat_le 32 byte && nat_le byte 126) line
