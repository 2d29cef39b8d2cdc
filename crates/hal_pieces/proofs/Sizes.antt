-- How many bytes a piece takes: at least one, and none behind the line.
use Rattle.std.proofs.Common.{◌≡◌, ◌==◌, ℕ, suc, ◌+◌, ◌-◌, ◌≤◌, ◌<◌, ◌||◌, ◌&&◌, not, Bool, true, false, List, [], ◌∷◌, length, map, drop, take_while, Option, Some, None, refl, ap, ◌∙◌, subst, arith, eqb}
use Rattle.std.proofs.lemmas.Bool.{cond_both, or_left, and_parts}
use Rattle.std.proofs.lemmas.List.{length-take, length-drop, length-map}
use Rattle.std.proofs.lemmas.List.Sums.{take_while-cons}
use Rattle.std.specs.List.{prefix_len}
use Rattle.hal_base.specs.Digits.{is_digit}
use Rattle.hal_words.specs.Letters.{is_blank, is_letter, is_name_byte, capital}
use Rattle.hal_words.specs.Numbers.{begins, front_digits, after_digits, has_point, number_size, begins_number}
use Rattle.hal_words.specs.Literals.{Base, base_of, with_byte, inside, closing}
use Rattle.hal_words.specs.declared.word.Word.{Word}
use Rattle.hal_words.specs.Pieces.{Sized, run_of, after_blanks, up_to_quote, bits, with_base, letters, number, literal_piece, replacement, longer, pair, signs, piece, piece_or_text}

-- the piece has at least one byte, and at most so many
abbrev Fits : ℕ → Sized → Type 0
Fits most sized = (1 ≤ sized.1) × (sized.1 ≤ most)

begins-some : (test : ℕ → Bool) (text : List ℕ) → begins test text ≡ true → 1 ≤ length text
begins-some test [] passes = absurd cc
begins-some test (b ∷ text) passes = omega arith

length-take_while : (test : ℕ → Bool) (text : List ℕ) → length (take_while test text) ≤ length text
length-take_while test text = omega (arith, length-take (prefix_len test text) text)

take_while-some : (test : ℕ → Bool) (b : ℕ) (text : List ℕ) → test b ≡ true → 1 ≤ length (take_while test (b ∷ text))
take_while-some test b text passes =
    let front : take_while test (b ∷ text) ≡ b ∷ take_while test text = take_while-cons test b text ∙ rw passes refl in
    omega (arith, ap length front)

take_while-none : (test : ℕ → Bool) (b : ℕ) (text : List ℕ) → test b ≡ false → take_while test (b ∷ text) ≡ []
take_while-none test b text fails = take_while-cons test b text ∙ rw fails refl

-- bit literals
bits-fits : (base : Base) (before most : ℕ) (text : List ℕ) → before + (length text + 1) ≡ most → Fits most (bits base before text)
bits-fits base before most text whole =
    let bytes = up_to_quote text in
    cond_both (begins (λ b. b == 39) (drop (length bytes) text)) _ _ (Fits most)
    (λ closed.
    let behind = begins-some (λ b. b == 39) (drop (length bytes) text) closed in
    let rest = length-drop (length bytes) text in
    (omega arith, omega arith))
    (λ left. (omega arith, omega arith))

with_base-fits : (base : Option Base) (run after : List ℕ) (most : ℕ) → 1 ≤ length run → length run + length after ≡ most → Fits most (with_base base run after)
with_base-fits None run after most some whole = (some, omega arith)
with_base-fits (Some base) run after most some whole =
    cond_both (begins (λ b. b == 39) (after_blanks after)) _ _ (Fits most)
    (λ quote.
    let blanks = length (take_while is_blank after) in
    let within = length-take_while is_blank after in
    let behind = begins-some (λ b. b == 39) (after_blanks after) quote in
    let rest = length-drop blanks after in
    let text = length-drop 1 (after_blanks after) in
    bits-fits base (length run + blanks) most (drop 1 (after_blanks after)) (omega arith))
    (λ other. (some, omega arith))

letters-fits : (b : ℕ) (text : List ℕ) → is_letter b ≡ true → Fits (length (b ∷ text)) (letters (b ∷ text))
letters-fits b text letter =
    let whole : List ℕ = b ∷ text in
    let front : is_name_byte b ≡ true = or_left (is_letter b || is_digit b) (b == 95) (or_left (is_letter b) (is_digit b) letter) in
    let run = length-map (take_while is_name_byte whole) capital in
    let within = length-take_while is_name_byte whole in
    let some = take_while-some is_name_byte b text front in
    let rest = length-drop (length (run_of whole)) whole in
    with_base-fits (base_of (run_of whole)) (run_of whole) (drop (length (run_of whole)) whole) (length whole) (omega arith) (omega arith)

-- numbers
front_digits-within : (text : List ℕ) → length (front_digits text) ≤ length text
front_digits-within text = omega (arith, length-map (take_while is_digit text) (λ b. b - 48), length-take_while is_digit text)

front_digits-some : (b : ℕ) (text : List ℕ) → is_digit b ≡ true → 1 ≤ length (front_digits (b ∷ text))
front_digits-some b text digit = omega (arith, length-map (take_while is_digit (b ∷ text)) (λ d. d - 48), take_while-some is_digit b text digit)

front_digits-none : (b : ℕ) (text : List ℕ) → is_digit b ≡ false → front_digits (b ∷ text) ≡ []
front_digits-none b text other = ap (map (λ d. d - 48)) (take_while-none is_digit b text other)

number_size-within : (text : List ℕ) → number_size text ≤ length text
number_size-within text =
    let digits = front_digits-within text in
    let rest = length-drop (length (front_digits text)) text in
    let behind = length-drop 1 (after_digits text) in
    let decimals = front_digits-within (drop 1 (after_digits text)) in
    cond_both (has_point text) _ _ (λ size. size ≤ length text)
    (λ point.
    let some = begins-some (λ b. b == 46) (after_digits text) point in
    omega arith)
    (λ none. digits)

number_size-some : (b : ℕ) (text : List ℕ) → begins_number (b ∷ text) ≡ true → 1 ≤ number_size (b ∷ text)
number_size-some b text number = elim (is_digit b) as (λ t. is_digit b ≡ t → 1 ≤ number_size (b ∷ text)) [
  | true ↦ λ digit.
      let some = front_digits-some b text digit in
      cond_both (has_point (b ∷ text)) _ _ (λ size. 1 ≤ size) (λ point. omega arith) (λ none. some)
  | false ↦ λ other.
      let none : front_digits (b ∷ text) ≡ [] = front_digits-none b text other in
      let rest : after_digits (b ∷ text) ≡ b ∷ text = ap (λ (d : List ℕ). drop (length d) (b ∷ text)) none in
      let point : eqb b 46 ≡ true = (and_parts (eqb b 46) (begins is_digit text) (rw other at number)).0 in
      cond_both (has_point (b ∷ text)) _ _ (λ size. 1 ≤ size) (λ point. omega arith)
      (λ lacks. absurd (cc (ap (begins (λ c. c == 46)) rest)))
] refl

-- literals
abbrev OptionFits : Option (List ℕ × ℕ) → ℕ → Type 0
OptionFits None most = Unit {0}
OptionFits (Some found) most = found.1 ≤ most

with_byte-fits : (byte size most : ℕ) (found : Option (List ℕ × ℕ)) → OptionFits found most → OptionFits (with_byte byte size found) (size + most)
with_byte-fits byte size most None fits = tt
with_byte-fits byte size most (Some found) fits = omega (arith, fits)

inside-fits : (text : List ℕ) → OptionFits (inside text) (length text) × OptionFits (closing text) (suc (length text))
inside-fits [] = (tt, omega arith)
inside-fits (b ∷ text) =
    let rest = inside-fits text in
    let one : 1 + length text ≡ suc (length text) = omega arith in
    let two : 2 + length text ≡ suc (suc (length text)) = omega arith in (
      cond_both (eqb b 39) _ _ (λ found. OptionFits found (suc (length text))) (λ quote. rest.1) (λ other. subst (OptionFits (with_byte b 1 (inside text))) one (with_byte-fits b 1 (length text) (inside text) rest.0)),
      cond_both (eqb b 39) _ _ (λ found. OptionFits found (suc (suc (length text)))) (λ quote. subst (OptionFits (with_byte 39 2 (inside text))) two (with_byte-fits 39 2 (length text) (inside text) rest.0)) (λ other. omega arith),
    )

literal_piece-fits : (most : ℕ) (found : Option (List ℕ × ℕ)) → OptionFits found most → Fits (suc most) (literal_piece most found)
literal_piece-fits most None fits = (omega arith, omega arith)
literal_piece-fits most (Some found) fits = (omega arith, omega (arith, fits))

-- replacements
replacement-fits : (text : List ℕ) → Fits (suc (length text)) (replacement text)
replacement-fits text =
    let bytes = take_while (λ b. not (b == 34)) text in
    cond_both (begins (λ b. b == 34) (drop (length bytes) text)) _ _ (Fits (suc (length text)))
    (λ closed.
    let behind = begins-some (λ b. b == 34) (drop (length bytes) text) closed in
    let rest = length-drop (length bytes) text in
    (omega arith, omega arith))
    (λ left. (omega arith, omega arith))

-- symbols
longer-fits : (word : Option Word) (b most : ℕ) → Fits (suc (suc most)) (longer word b)
longer-fits None b most = (omega arith, omega arith)
longer-fits (Some word) b most = (omega arith, omega arith)

signs-fits : (b : ℕ) (text : List ℕ) → Fits (suc (length text)) (signs b text)
signs-fits b [] = (omega arith, omega arith)
signs-fits b (c ∷ text) = longer-fits (pair b c) b (length text)

-- any piece
pub piece-within : (text : List ℕ) → 0 < length text → (1 ≤ (piece text).1) × ((piece text).1 ≤ length text)
piece-within [] some = absurd (omega (arith, some))
piece-within (b ∷ text) some =
    cond_both (is_letter b) _ _ (Fits (suc (length text))) (λ letter. letters-fits b text letter) (λ other.
    cond_both (begins_number (b ∷ text)) _ _ (Fits (suc (length text))) (λ digit. (number_size-some b text digit, number_size-within (b ∷ text))) (λ none.
    cond_both (eqb b 39) _ _ (Fits (suc (length text))) (λ quote. literal_piece-fits (length text) (inside text) (inside-fits text).0) (λ sign. signs-fits b text)))

-- the same where a text may be opened
pub text-within : (opens : Bool) (text : List ℕ) → 0 < length text → (1 ≤ (piece_or_text opens text).1) × ((piece_or_text opens text).1 ≤ length text)
text-within opens [] some = absurd (omega (arith, some))
text-within opens (b ∷ text) some =
    cond_both (eqb b 34 && opens) _ _ (Fits (suc (length text))) (λ double. replacement-fits text) (λ other. piece-within (b ∷ text) some)
