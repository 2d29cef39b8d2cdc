-- A text literal is not the word INCLUDE.
use Rattle.std.proofs.Common.{◌≡◌, ℕ, Bool, true, false, not, nat_le, List, length, map, Option, Some, None, if◌then◌else◌, refl}
use Rattle.std.specs.List.{list_all}
use Rattle.hal_base.specs.declared.refusal.Place.{Place}
use Rattle.hal_words.specs.declared.word.Word.TheVariants as word
use Rattle.hal_words.specs.Letters.{is_plain}
use Rattle.hal_words.specs.Literals.{inside, blank_for_tab}
use Rattle.hal_words.specs.Pieces.{Piece, Is, Wrong, literal, literal_piece, text_piece}
use Rattle.hal_words.specs.Lines.{item}
use Rattle.hal_words.specs.Items.{main_item}

by_bytes : (plain short : Bool) (text : List ℕ) (at : Place)
    → main_item (if not plain then Wrong 201 else if short then Is (word.Text text) else Wrong 204) at ≡ item (if not plain then Wrong 201 else if short then Is (word.Text text) else Wrong 204) at
by_bytes false short text at = refl
by_bytes true true text at = refl
by_bytes true false text at = refl

by_text : (left : ℕ) (found : Option (List ℕ × ℕ)) (at : Place) → main_item (literal_piece left found).0 at ≡ item (literal_piece left found).0 at
by_text left None at = refl
by_text left (Some found) at = by_bytes (list_all is_plain found.0) (nat_le (length found.0) 255) (map blank_for_tab found.0) at

pub never_include : (text : List ℕ) (at : Place) → main_item (literal text).0 at ≡ item (literal text).0 at
never_include text at = by_text (length text) (inside text) at
