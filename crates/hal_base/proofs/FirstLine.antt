-- What the first newline byte says of a text's lines.
use Rattle.std.proofs.Common.{◌≡◌, ℕ, ◌+◌, ◌<◌, Bool, List, [], ◌∷◌, length, take, drop, refl, ap, ◌∙◌, arith, nat_eq, Some, None}
use Rattle.std.specs.List.{position, slice_split}
use Rattle.std.specs.Str.Lines.{lines, lines_of_parts, strip_carriage_return}
use Rattle.std.proofs.lemmas.Bool.Decides.{nat_tests}
use Rattle.hal_base.proofs.Parts.{slice_split-none, slice_split-some, slice_split-some_part}

abbrev ends_line : ℕ → Bool
ends_line b = nat_eq b 10

pub lines-none : (text : List ℕ) → position ends_line text ≡ None → 0 < length text → lines text ≡ text ∷ []
lines-none [] e l = absurd (omega (arith, l))
lines-none (b ∷ text) e l = ap lines_of_parts (slice_split-none ends_line (b ∷ text) e) ∙ grind (arith, nat_tests)

-- a first part, before others
lines_of_parts-cons : (line : List ℕ) (parts : List (List ℕ)) → 0 < length parts → lines_of_parts (line ∷ parts) ≡ strip_carriage_return line ∷ lines_of_parts parts
lines_of_parts-cons line [] l = absurd (omega (arith, l))
lines_of_parts-cons line (part ∷ parts) l = refl

pub lines-some : (text : List ℕ) (end : ℕ) → position ends_line text ≡ Some end → lines text ≡ strip_carriage_return (take end text) ∷ lines (drop (end + 1) text)
lines-some text end e =
    ap lines_of_parts (slice_split-some ends_line text end e)
    ∙ lines_of_parts-cons (take end text) (slice_split ends_line (drop (end + 1) text)) (slice_split-some_part ends_line (drop (end + 1) text))
