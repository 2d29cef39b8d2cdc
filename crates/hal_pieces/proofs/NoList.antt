-- A run that is too long for a name is in none of the two lists.
use Rattle.std.proofs.Common.{◌≡◌, ℕ, ◌<◌, ◌≤◌, Bool, true, false, List, [], ◌∷◌, length, nat_le, refl, ap, arith, Some, None, bytes_eq, cond}
use Rattle.std.proofs.lemmas.Bool.{and_parts, leb-true, false_from_ne_true}
use Rattle.std.proofs.lemmas.Slice.Eq.{bytes_eq-Decides}
use Rattle.std.proofs.lemmas.Bool.Decides.{nat_tests}
use Rattle.std.specs.List.{list_all}
use Rattle.hal_words.specs.Letters.{is_letter}
use Rattle.hal_words.specs.Numbers.{begins}
use Rattle.hal_words.specs.Reserved.{reserved_words, left_out_words, look_up}
use Rattle.hal_words.specs.Lines.{can_be_name}
use Rattle.hal_pieces.specs.Names.{short}

module _ {X : Type 0} where
  look_up-long : (entries : List (List ℕ × X)) (text : List ℕ) → list_all (λ (e : List ℕ × X). nat_le (length e.0) 32) entries ≡ true → 32 < length text → look_up entries text ≡ None
  look_up-long [] text short long = refl
  look_up-long (entry ∷ entries) text short long =
      let parts = and_parts (nat_le (length entry.0) 32) (list_all (λ (e : List ℕ × X). nat_le (length e.0) 32) entries) short in
      let within : length entry.0 ≤ 32 = leb-true (length entry.0) 32 parts.0 in
      let other : bytes_eq entry.0 text ≡ false = false_from_ne_true (bytes_eq entry.0 text) (λ same. absurd (omega (arith, ap length ((bytes_eq-Decides entry.0 text).0 same)))) in
      rw other (look_up-long entries text parts.1 long)

reserved-long : (text : List ℕ) → 32 < length text → look_up reserved_words text ≡ None
unfolding reserved_words
reserved-long text long = look_up-long reserved_words text refl long

left_out-long : (text : List ℕ) → 32 < length text → look_up left_out_words text ≡ None
unfolding left_out_words
left_out-long text long = look_up-long left_out_words text refl long

short-none : (run : List ℕ) → short run ≡ None → 32 < length run
short-none run none = by (nat_le (length run) 32) refl none
  where
    by : (test : Bool) → nat_le (length run) 32 ≡ test → cond test (Some run) None ≡ None → 32 < length run
    by true e none = absurd cc
    by false e none = grind (arith, nat_tests)

pub can_be_name-long : (run : List ℕ) → begins is_letter run ≡ true → short run ≡ None → can_be_name run ≡ true
can_be_name-long run letter none =
    let long = short-none run none in
    rw (letter, reserved-long run long, left_out-long run long) refl
