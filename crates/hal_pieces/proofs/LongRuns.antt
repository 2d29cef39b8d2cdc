-- Runs of letters that are longer than each listed word.
use Rattle.std.proofs.Common.{◌≡◌, ℕ, ◌<◌, inl, inr, Bool, true, false, nat_le, List, [], ◌∷◌, length, map, drop, codes, None, refl, sym, ap, ◌∙◌, arith}
use Rattle.std.specs.Prelude.{bytes_eq, take_while}
use Rattle.std.specs.List.{list_all}
use Rattle.std.proofs.lemmas.Bool.{cases_Bool, cases_lt, false≢true}
use Rattle.std.proofs.lemmas.Bool.Decides.{nat_tests}
use Rattle.std.proofs.lemmas.List.{length-map}
use Rattle.std.proofs.lemmas.Slice.Eq.{bytes_eq-Decides}
use Rattle.hal_words.specs.Letters.{is_name_byte, capital}
use Rattle.hal_words.specs.Literals.{base_of}
use Rattle.hal_words.specs.Pieces.{Wrong, run_of, letters, with_base}
use Rattle.hal_words.specs.Reserved.{reserved_words, left_out_words, look_up}

-- texts of different lengths differ
different : (xs ys : List ℕ) → (length xs ≡ length ys → ⊥) → bytes_eq xs ys ≡ false
different xs ys lengths = elim (cases_Bool (bytes_eq xs ys)) [
  | inl same ↦ absurd (lengths (ap length ((bytes_eq-Decides xs ys).0 same)))
  | inr differ ↦ differ
]

-- no word of a list is longer than a name
abbrev words_short : {X : Type 0} → List (List ℕ × X) → Bool
words_short entries = list_all (λ entry. nat_le (length entry.0) 32) entries

look_up_long : {X : Type 0} (entries : List (List ℕ × X)) (text : List ℕ) → 32 < length text → words_short entries ≡ true → look_up entries text ≡ None
look_up_long [] text long short = refl
look_up_long (entry ∷ entries) text long short = elim (cases_lt 32 (length entry.0)) [
  | inl above ↦
      let fails : nat_le (length entry.0) 32 ≡ false = grind (arith, nat_tests) in
      let no : false ≡ true = rw fails at short in
      absurd (false≢true no)
  | inr below ↦
      let holds : nat_le (length entry.0) 32 ≡ true = grind (arith, nat_tests) in
      let rest : words_short entries ≡ true = rw holds at short in
      let differ : bytes_eq entry.0 text ≡ false = different entry.0 text (λ same. omega (arith, same)) in
      rw differ (look_up_long entries text long rest)
]

reserved_short : words_short reserved_words ≡ true
unfolding reserved_words
reserved_short = refl

left_out_short : words_short left_out_words ≡ true
unfolding left_out_words
left_out_short = refl

base_of_long : (run : List ℕ) → 32 < length run → base_of run ≡ None
base_of_long run long =
    let bin : bytes_eq run (codes "BIN") ≡ false = different run (codes "BIN") (λ same. omega (arith, same)) in
    let oct : bytes_eq run (codes "OCT") ≡ false = different run (codes "OCT") (λ same. omega (arith, same)) in
    let hex : bytes_eq run (codes "HEX") ≡ false = different run (codes "HEX") (λ same. omega (arith, same)) in
    let dec : bytes_eq run (codes "DEC") ≡ false = different run (codes "DEC") (λ same. omega (arith, same)) in
    rw (bin, oct, hex, dec) refl

-- a run that is longer than a name is nothing else
long_run : (run after : List ℕ) → 32 < length run → with_base (base_of run) run after ≡ (Wrong 203, length run)
long_run run after long =
    let above : nat_le (length run) 32 ≡ false = grind (arith, nat_tests) in
    rw (base_of_long run long, look_up_long reserved_words run long reserved_short, look_up_long left_out_words run long left_out_short, above) refl

pub letters_long : (text run : List ℕ) → run ≡ take_while is_name_byte text → 32 < length run → letters text ≡ (Wrong 203, length run)
letters_long text run front long =
    let count : length (run_of text) ≡ length run = length-map (take_while is_name_byte text) capital ∙ ap length (sym front) in
    let above : 32 < length (run_of text) = omega arith in
    rw (long_run (run_of text) (drop (length (run_of text)) text) above, count) refl

-- letters by the run and what follows it
pub letters_are : (text run after : List ℕ) → run ≡ take_while is_name_byte text → after ≡ drop (length (take_while is_name_byte text)) text → letters text ≡ with_base (base_of (map capital run)) (map capital run) after
letters_are text run after front rest =
    let count : length (run_of text) ≡ length (take_while is_name_byte text) = length-map (take_while is_name_byte text) capital in
    rw (front, rest, count) refl
