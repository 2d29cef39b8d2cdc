-- A text literal by the bytes that were read and those that follow.
use Rattle.std.specs.Prelude.{ℕ, ◌+◌, nat_le, Bool, not, ◌&&◌, List, [], ◌∷◌, ◌++◌, length, map, Option, Some, None, if◌then◌else◌}
use Rattle.std.specs.List.{list_all}
use Rattle.hal_words.specs.declared.word.Word.TheVariants as word
use Rattle.hal_words.specs.Letters.{is_plain}
use Rattle.hal_words.specs.Literals.{blank_for_tab}
use Rattle.hal_words.specs.Pieces.{Piece, Is, Wrong, Sized}

-- what is found where no byte of a literal follows
abbrev pub at_end : List ℕ → Option (List ℕ × ℕ)
at_end [] = None
at_end (b ∷ text) = Some ([], 1)

-- the literal of so many bytes
abbrev pub text_or_wrong : Bool → ℕ → List ℕ → Piece
text_or_wrong plain count bytes = if not plain then Wrong 201 else if nat_le count 255 then Is (word.Text bytes) else Wrong 204

-- the literal whose first bytes were read, `size` of the line, by what follows
abbrev pub continued : ℕ → Bool → ℕ → List ℕ → ℕ → Option (List ℕ × ℕ) → Sized
continued left plain count bytes size None = (Wrong 202, left + 1)
continued left plain count bytes size (Some rest) = (text_or_wrong (plain && list_all is_plain rest.0) (count + length rest.0) (bytes ++ map blank_for_tab rest.0), size + rest.1 + 1)

-- how many bytes of the line a literal takes, both quotes with it, of which `size` were read behind the first one, by what follows
abbrev pub taken : ℕ → ℕ → Option (List ℕ × ℕ) → ℕ
taken left size None = left + 1
taken left size (Some rest) = size + rest.1 + 1
