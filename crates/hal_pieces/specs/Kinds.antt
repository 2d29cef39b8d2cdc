-- The kinds of lines.
use Rattle.std.specs.Prelude.{ℕ, ◌==◌, ◌||◌, List, [], ◌∷◌, if◌then◌else◌}
use Rattle.hal_words.specs.Letters.{is_blank, capital}
use Rattle.hal_pieces.specs.declared.kinds.Kind.{Kind}
use Rattle.hal_pieces.specs.declared.kinds.Kind.TheVariants as kind

-- the kind of a line, by its first byte
abbrev pub kind_of : List ℕ → Kind
kind_of [] = kind.Main
kind_of (b ∷ bytes) =
    if capital b == 67 then kind.Comment
    else if capital b == 68 then kind.Directive
    else if is_blank b || capital b == 77 then kind.Main
    else if capital b == 69 || capital b == 83 then kind.Script
    else kind.Other
