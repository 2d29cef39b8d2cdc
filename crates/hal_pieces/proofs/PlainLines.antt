-- A text's lines have no newline byte.
use Rattle.std.proofs.Common.{◌≡◌, ℕ, ◌-◌, List, [], ◌∷◌, length, All, ◌≢◌, eqb, subst}
use Rattle.std.proofs.lemmas.Bool.{eqb-false, cond_both}
use Rattle.std.proofs.lemmas.List.Elements.{All-nil, All-cons, All-head, All-tail, All-take}
use Rattle.std.specs.List.{slice_split, onto_first}
use Rattle.std.specs.Str.Lines.{lines, lines_of_parts, strip_carriage_return}

abbrev pub IsPlain : List ℕ → Type 0
IsPlain text = All (λ b. b ≢ 10) text

abbrev ArePlain : List (List ℕ) → Type 0
ArePlain texts = All IsPlain texts

onto_first-plain : (b : ℕ) (parts : List (List ℕ)) → b ≢ 10 → ArePlain parts → ArePlain (onto_first b parts)
onto_first-plain b [] other plain = All-cons IsPlain (b ∷ []) [] (All-cons (λ b. b ≢ 10) b [] other (All-nil (λ b. b ≢ 10))) (All-nil IsPlain)
onto_first-plain b (part ∷ parts) other plain = All-cons IsPlain (b ∷ part) parts (All-cons (λ b. b ≢ 10) b part other (All-head IsPlain part parts plain)) (All-tail IsPlain part parts plain)

slice_split-plain : (text : List ℕ) → ArePlain (slice_split (λ b. eqb b 10) text)
slice_split-plain [] = All-cons IsPlain [] [] (All-nil (λ b. b ≢ 10)) (All-nil IsPlain)
slice_split-plain (b ∷ text) =
    let rest = slice_split-plain text in
    cond_both (eqb b 10) _ _ ArePlain (λ e. All-cons IsPlain [] _ (All-nil (λ b. b ≢ 10)) rest) (λ e. onto_first-plain b _ (eqb-false b 10 e) rest)

strip-plain : (line : List ℕ) → IsPlain line → IsPlain (strip_carriage_return line)
strip-plain line plain = cond_both _ _ line IsPlain (λ e. All-take (λ b. b ≢ 10) (length line - 1) line plain) (λ e. plain)

lines_of_parts-plain : (parts : List (List ℕ)) → ArePlain parts → ArePlain (lines_of_parts parts)
lines_of_parts-plain [] plain = All-nil IsPlain
lines_of_parts-plain (part ∷ []) plain = cond_both _ [] (part ∷ []) ArePlain (λ e. All-nil IsPlain) (λ e. plain)
lines_of_parts-plain (part ∷ next ∷ parts) plain = All-cons IsPlain _ _ (strip-plain part (All-head IsPlain part (next ∷ parts) plain)) (lines_of_parts-plain (next ∷ parts) (All-tail IsPlain part (next ∷ parts) plain))

-- the first line of a text
pub lines-plain : (text line : List ℕ) (more : List (List ℕ)) → lines text ≡ line ∷ more → IsPlain line
lines-plain text line more first = All-head IsPlain line more (subst ArePlain first (lines_of_parts-plain _ (slice_split-plain text)))
