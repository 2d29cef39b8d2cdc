-- The lines of a file by their first byte, and the bytes in which words are looked for.
use Rattle.std.specs.Prelude.{ℕ, ◌+◌, nat_le, ◌==◌, Bool, true, false, ◌&&◌, ◌||◌, List, [], ◌∷◌, ◌++◌, length, drop, take_while, Option, Some, None, codes, bytes_eq, if◌then◌else◌}
use Rattle.std.specs.Str.Lines.{lines}
use Rattle.hal_base.specs.declared.refusal.Place.{Place}
use Rattle.hal_words.specs.declared.reserved.Reserved.TheVariants as reserved
use Rattle.hal_words.specs.declared.word.Word.TheVariants as word
use Rattle.hal_words.specs.Letters.{is_blank, is_letter, capital}
use Rattle.hal_words.specs.Numbers.{begins}
use Rattle.hal_words.specs.Pieces.{Piece, Is, Wrong, run_of, after_blanks}
use Rattle.hal_words.specs.Reserved.{reserved_words, left_out_words, look_up}

abbrev pub place_at : ℕ → ℕ → ℕ → Place
place_at unit line column = record { unit = unit; line = line; column = column }

-- a piece and the place of its first byte
pub record Item : Type 0 where
  pub piece : Piece
  pub place : Place

abbrev pub item : Piece → Place → Item
item piece place = record { piece = piece; place = place }

-- a byte in which words are looked for, where it stands; or an item that a line gives as a whole
pub data Cell : Type 0 where
  Byte : ℕ → Place → Cell
  Given : Item → Cell

-- the bytes of a main line from this column on, and the end of the line
abbrev pub main_cells : ℕ → ℕ → ℕ → List ℕ → List Cell
main_cells unit line column [] = Byte 10 (place_at unit line column) ∷ []
main_cells unit line column (b ∷ bytes) = Byte b (place_at unit line column) ∷ main_cells unit line (column + 1) bytes

abbrev pub is_unknown : {X Y : Type 0} → Option X → Option Y → Bool
is_unknown None None = true
is_unknown (Some one) other = false
is_unknown None (Some other) = false

-- the run can be a name: it begins with a letter, is no reserved word, and none that is left out
abbrev pub can_be_name : List ℕ → Bool
can_be_name run = begins is_letter run && is_unknown (look_up reserved_words run) (look_up left_out_words run)

-- the name that an INCLUDE directive names; a name above 32 bytes breaks 203
abbrev pub included : ℕ → ℕ → ℕ → ℕ → List ℕ → List Cell
included unit line column at run =
    Given (item (Is (word.Reserved reserved.Include)) (place_at unit line column))
    ∷ Given (item (if nat_le (length run) 32 then Is (word.Name run) else Wrong 203) (place_at unit line at))
    ∷ []

-- how many blanks a text begins with
abbrev pub gap : List ℕ → ℕ
gap text = length (take_while is_blank text)

-- an INCLUDE directive, from behind its first word, which stands in this column: TEMPLATE, a name, and nothing else
abbrev pub include_cells : ℕ → ℕ → ℕ → List ℕ → List Cell
include_cells unit line column text =
    let template = run_of (after_blanks text) in
    let behind = drop (length template) (after_blanks text) in
    let name = run_of (after_blanks behind) in
    let rest = drop (length name) (after_blanks behind) in
    if (bytes_eq template (codes "TEMPLATE") && can_be_name name) && length (after_blanks rest) == 0
    then included unit line column (column + (7 + (gap text + (8 + gap behind)))) name
    else Given (item (Wrong 103) (place_at unit line 1)) ∷ []

-- a directive, from column 2 on: only INCLUDE gives something
abbrev pub directive_cells : ℕ → ℕ → List ℕ → List Cell
directive_cells unit line text =
    if bytes_eq (run_of (after_blanks text)) (codes "INCLUDE") then include_cells unit line (2 + gap text) (drop 7 (after_blanks text)) else []

-- a line by its first byte: comment, directive, main line, and lines that aren't there
abbrev pub line_cells : ℕ → ℕ → List ℕ → List Cell
line_cells unit line [] = main_cells unit line 1 []
line_cells unit line (b ∷ bytes) =
    if capital b == 67 then []
    else if capital b == 68 then directive_cells unit line bytes
    else if is_blank b || capital b == 77 then main_cells unit line 2 bytes
    else if capital b == 69 || capital b == 83 then Given (item (Wrong 101) (place_at unit line 1)) ∷ []
    else Given (item (Wrong 102) (place_at unit line 1)) ∷ []

-- lines that are numbered from this one on
abbrev pub lines_cells : ℕ → ℕ → List (List ℕ) → List Cell
lines_cells unit line [] = []
lines_cells unit line (text ∷ more) = line_cells unit line text ++ lines_cells unit (line + 1) more

-- the cells of a file
abbrev pub file_cells : ℕ → List ℕ → List Cell
file_cells unit text = lines_cells unit 1 (lines text)
