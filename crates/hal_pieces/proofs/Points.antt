-- Numbers by their parts.
use Rattle.std.proofs.Common.{◌≡◌, ℕ, ◌+◌, ◌-◌, ◌*◌, ◌^◌, ◌==◌, inl, inr, Bool, true, false, not, nat_lt, nat_le, ◌&&◌, List, length, drop, take, Some, None, refl, sym, ap, ◌∙◌, arith}
use Rattle.std.specs.Prelude.{if◌then◌else◌}
use Rattle.std.proofs.lemmas.Bool.{cases_Bool}
use Rattle.std.proofs.lemmas.List.{drop-drop, take_rest}
use Rattle.hal_words.specs.declared.word.Word.TheVariants as word
use Rattle.hal_words.specs.Numbers.{written, begins, front_digits, after_digits, has_point, fraction, number_size}
use Rattle.hal_words.specs.Pieces.{Is, Wrong, number_piece}
use Rattle.hal_pieces.specs.NumberParts.{values, is_followed, decimal_or_wrong, decimal_piece}

-- the tests one by one and joined
tests_joined : (followed short : Bool) (whole part : ℕ) → (if followed then Wrong 208 else decimal_or_wrong whole (if short then Some part else None)) ≡ (if followed then Wrong 208 else if not (nat_lt whole (2 ^ 31) && short) then Wrong 204 else Is (word.Decimal (whole * 1000 + part)))
tests_joined true short whole part = refl
tests_joined false true whole part = elim (cases_Bool (nat_lt whole (2 ^ 31))) [ inl h ↦ rw h refl | inr h ↦ rw h refl ]
tests_joined false false whole part = elim (cases_Bool (nat_lt whole (2 ^ 31))) [ inl h ↦ rw h refl | inr h ↦ rw h refl ]

-- what follows a number with a point
after_fraction : (text : List ℕ) → has_point text ≡ true → drop (number_size text) text ≡ after_digits (drop 1 (after_digits text))
after_fraction text pointed =
    rw pointed (sym (drop-drop (length (fraction text)) 1 (after_digits text) ∙ drop-drop (1 + length (fraction text)) (length (front_digits text)) text ∙ ap (λ n. drop n text) (omega arith)))

-- a number with a point
number_with_point : (text : List ℕ) → has_point text ≡ true → number_piece text ≡ (if is_followed (after_digits (drop 1 (after_digits text))) then Wrong 208 else decimal_or_wrong (written 10 (front_digits text)) (if nat_le (length (fraction text)) 3 then Some (written 10 (fraction text) * 10 ^ (3 - length (fraction text))) else None))
number_with_point text pointed =
    rw (after_fraction text pointed, pointed) (sym (tests_joined (is_followed (after_digits (drop 1 (after_digits text)))) (nat_le (length (fraction text)) 3) (written 10 (front_digits text)) (written 10 (fraction text) * 10 ^ (3 - length (fraction text)))))

pub decimal_is : (text whole after part rest : List ℕ) → after ≡ after_digits text → begins (λ b. b == 46) after ≡ true → values whole ≡ front_digits text → values part ≡ front_digits (take (length after - 1) (drop 1 after)) → length part ≡ length (front_digits (take (length after - 1) (drop 1 after))) → rest ≡ after_digits (take (length after - 1) (drop 1 after)) → decimal_piece whole part rest ≡ number_piece text
decimal_is text whole after part rest cut pointed front digits count left =
    let tail : take (length after - 1) (drop 1 after) ≡ drop 1 (after_digits text) = take_rest after 1 ∙ ap (drop 1) cut in
    let here : has_point text ≡ true = ap (begins (λ b. b == 46)) (sym cut) ∙ pointed in
    let digits' : values part ≡ fraction text = digits ∙ ap front_digits tail in
    let count' : length part ≡ length (fraction text) = count ∙ ap (λ t. length (front_digits t)) tail in
    let left' : rest ≡ after_digits (drop 1 (after_digits text)) = left ∙ ap after_digits tail in
    rw (left', front, digits', count') (sym (number_with_point text here))
