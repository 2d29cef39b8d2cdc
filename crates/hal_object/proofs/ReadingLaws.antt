-- A reader reads what a spelling says, and nothing else.
use Rattle.std.proofs.Common.{◌≡◌, ℕ, zero, suc, ◌+◌, ◌^◌, ◌<◌, ◌≤◌, Bool, true, false, cond, eqb, ltb, List, [], ◌∷◌, ◌++◌, length, get_or, take, drop, Option, Some, None, refl, sym, ap, subst, ◌∙◌, append_assoc, arith, inl, inr}
use Rattle.std.specs.Int.{Width, w16, w32, w64, byte_len, cast_signed, cast_unsigned, from_le_bytes, to_le_bytes}
use Rattle.std.specs.Prelude.{FitsSigned}
use Rattle.std.specs.List.{flat_map, AllByRecursion}
use Rattle.std.proofs.lemmas.Bool.{cases_lt, eqb-true, ltb-false, le-ltb}
use Rattle.std.proofs.lemmas.Int.{of_z-to_z, to_z-of_z}
use Rattle.std.proofs.Math.Facts.{sfits_to_z, Fits-of_z}
use Rattle.std.proofs.lemmas.List.{take_at, drop_at, take-append-drop, length-append, length-take, get_or-drop, get_or-take, get_or_past}
use Rattle.std.proofs.lemmas.List.Concat.{flat_map-cons}
use Rattle.std.proofs.lemmas.Nat.{le_bytes_2, le_bytes_4, le_bytes_8, from_le_bytes-to_le_bytes_2, from_le_bytes-to_le_bytes_4, from_le_bytes-to_le_bytes_8}
use Rattle.hal_object.specs.Numbers.{in_two, in_four, in_eight, integer_bytes, text_bytes, list_bytes, AreFew}
use Rattle.hal_object.specs.Fields.{Reader, onwards, made, behind, both, plain, choose, byte_at, number_at, two_at, four_at, eight_at, integer_at, front_at, text_at, rows_at, list_at}

abbrev pub IsBytes : List ℕ → Type 0
IsBytes bytes = (i : ℕ) → get_or bytes i 0 < 256

pub IsBytes-drop : (n : ℕ) (bytes : List ℕ) → IsBytes bytes → IsBytes (drop n bytes)
IsBytes-drop n bytes h i = rw get_or-drop (h (n + i))

pub IsBytes-take : (n : ℕ) (bytes : List ℕ) → IsBytes bytes → IsBytes (take n bytes)
IsBytes-take n bytes h i =
    elim (cases_lt i n) [
      | inl lt ↦ rw (get_or-take n bytes i 0 lt) (h i)
      | inr le ↦ rw (get_or_past (take n bytes) i 0 (omega (arith, length-take n bytes))) (omega arith)
    ]

IsBytes-rest : (b : ℕ) (bytes : List ℕ) → IsBytes (b ∷ bytes) → IsBytes bytes
IsBytes-rest b bytes h i = h (suc i)

-- what a reader took from the front
pub record Takes (bytes text rest : List ℕ) (Fits : Type 0) : Type 0 where
  pub parts : bytes ≡ text ++ rest
  pub rest_fits : IsBytes rest
  pub fits : Fits

-- a reader, a spelling, and what has one
pub record Reads {A : Type 0} (read : Reader A) (spelling : A → List ℕ) (Fits : A → Type 0) : Type 0 where
  pub takes : (bytes : List ℕ) (a : A) (rest : List ℕ) → IsBytes bytes → read bytes ≡ Some (a, rest) → Takes bytes (spelling a) rest (Fits a)
  pub again : (a : A) (rest : List ℕ) → Fits a → read (spelling a ++ rest) ≡ Some (a, rest)

-- a step that gave something
pub onwards_some : {A B : Type 0} (o : Option (A × List ℕ)) (next : A → List ℕ → Option B) (y : B) → onwards o next ≡ Some y → (a : A) × (rest : List ℕ) × (o ≡ Some (a, rest)) × (next a rest ≡ Some y)
onwards_some None next y e = absurd cc
onwards_some (Some x) next y e = (x.0, x.1, refl, e)

-- a test that didn't fail
pub guard_some : {A : Type 0} (b : Bool) (x y : A) → cond b None (Some x) ≡ Some y → (b ≡ false) × (x ≡ y)
guard_some true x y e = absurd cc
guard_some false x y e = (refl, cc)

abbrev pub answered : {A : Type 0} → A → List ℕ → Option (A × List ℕ)
answered a rest = Some (a, rest)

pub some_is : {A : Type 0} (a b : A) (r s : List ℕ) → answered a r ≡ answered b s → (a ≡ b) × (r ≡ s)
some_is {A} a b r s e =
    let same : ◌≡◌ {A = A × List ℕ} (a, r) (b, s) = cc in
    (ap (λ (p : A × List ℕ). p.0) same, ap (λ (p : A × List ℕ). p.1) same)

-- ---- numbers

pub byte_reads : Reads byte_at (λ b. b ∷ []) (λ b. b < 2 ^ 8)
unfolding byte_at
byte_reads = record { takes = taken; again = λ a rest fits. refl }
  where
    taken : (bytes : List ℕ) (a : ℕ) (rest : List ℕ) → IsBytes bytes → byte_at bytes ≡ Some (a, rest) → Takes bytes (a ∷ []) rest (a < 2 ^ 8)
    taken [] a rest h e = absurd cc
    taken (b ∷ bytes) a rest h e = let p = some_is b a bytes rest e in rw (← p.0, ← p.1) (record { parts = refl; rest_fits = IsBytes-rest b bytes h; fits = h 0 })

record IsWide (w : Width) (limit : ℕ) : Type 0 where
  len : (n : ℕ) → length (to_le_bytes w n) ≡ byte_len w
  back : (bytes : List ℕ) → length bytes ≡ byte_len w → IsBytes bytes → to_le_bytes w (from_le_bytes w bytes) ≡ bytes
  once_more : (n : ℕ) → n < limit → from_le_bytes w (to_le_bytes w n) ≡ n
  below : (bytes : List ℕ) → IsBytes bytes → from_le_bytes w bytes < limit

wide16 : IsWide w16 (2 ^ 16)
wide16 = record { len = λ n. refl; back = λ bytes len fits. le_bytes_2 bytes _ len fits refl; once_more = λ n lt. from_le_bytes-to_le_bytes_2 n lt; below = λ bytes fits. omega (arith, fits 0, fits 1) }

wide32 : IsWide w32 (2 ^ 32)
wide32 = record { len = λ n. refl; back = λ bytes len fits. le_bytes_4 bytes _ len fits refl; once_more = λ n lt. from_le_bytes-to_le_bytes_4 n lt; below = λ bytes fits. omega (arith, fits 0, fits 1, fits 2, fits 3) }

wide64 : IsWide w64 (2 ^ 64)
wide64 = record {
  len = λ n. refl;
  back = λ bytes len fits. le_bytes_8 bytes _ len fits refl;
  once_more = λ n lt. from_le_bytes-to_le_bytes_8 n lt;
  below = λ bytes fits. omega (arith, fits 0, fits 1, fits 2, fits 3, fits 4, fits 5, fits 6, fits 7);
}

number_takes : (w : Width) (limit : ℕ) (wide : IsWide w limit) (bytes : List ℕ) (n : ℕ) (rest : List ℕ) → IsBytes bytes → number_at w bytes ≡ Some (n, rest) → Takes bytes (to_le_bytes w n) rest (n < limit)
number_takes w limit wide bytes n rest fits e =
    let g = guard_some (ltb (length bytes) (byte_len w)) (from_le_bytes w (take (byte_len w) bytes), drop (byte_len w) bytes) (n, rest) e in
    let long : byte_len w ≤ length bytes = ltb-false _ _ g.0 in
    let n-is : from_le_bytes w (take (byte_len w) bytes) ≡ n = ap (λ (p : ℕ × List ℕ). p.0) g.1 in
    let rest-is : drop (byte_len w) bytes ≡ rest = ap (λ (p : ℕ × List ℕ). p.1) g.1 in
    let front : to_le_bytes w n ≡ take (byte_len w) bytes = rw (← n-is) (wide.back (take (byte_len w) bytes) (omega (arith, length-take (byte_len w) bytes)) (IsBytes-take (byte_len w) bytes fits)) in
    record {
      parts = rw (front, ← rest-is) (sym (take-append-drop (byte_len w) bytes));
      rest_fits = rw (← rest-is) (IsBytes-drop (byte_len w) bytes fits);
      fits = rw (← n-is) (wide.below (take (byte_len w) bytes) (IsBytes-take (byte_len w) bytes fits));
    }

number_again : (w : Width) (limit : ℕ) (wide : IsWide w limit) (n : ℕ) (rest : List ℕ) → n < limit → number_at w (to_le_bytes w n ++ rest) ≡ Some (n, rest)
number_again w limit wide n rest lt =
    let len = wide.len n in
    let long : ltb (length (to_le_bytes w n ++ rest)) (byte_len w) ≡ false = le-ltb _ _ (omega (arith, length-append (to_le_bytes w n) rest)) in
    rw (long, take_at (to_le_bytes w n) rest (byte_len w) len, drop_at (to_le_bytes w n) rest (byte_len w) len, wide.once_more n lt) refl

pub two_reads : Reads two_at in_two (λ n. n < 2 ^ 16)
unfolding two_at in_two
two_reads = record { takes = number_takes w16 (2 ^ 16) wide16; again = number_again w16 (2 ^ 16) wide16 }

pub four_reads : Reads four_at in_four (λ n. n < 2 ^ 32)
unfolding four_at in_four
four_reads = record { takes = number_takes w32 (2 ^ 32) wide32; again = number_again w32 (2 ^ 32) wide32 }

pub eight_reads : Reads eight_at in_eight (λ n. n < 2 ^ 64)
unfolding eight_at in_eight
eight_reads = record { takes = number_takes w64 (2 ^ 64) wide64; again = number_again w64 (2 ^ 64) wide64 }

-- ---- readers of readers

pub plain_reads : {A : Type 0} (x : A) → Reads (plain x) (λ a. []) (λ a. a ≡ x)
plain_reads x = record {
  takes = λ bytes a rest h e. let p = some_is x a bytes rest e in record { parts = p.1; rest_fits = subst IsBytes p.1 h; fits = sym p.0 };
  again = λ a rest e. ap (λ b. answered b rest) (sym e);
}

pub made_takes : {A B : Type 0} (make : A → B) (read : Reader A) (spelling : A → List ℕ) (spelled : B → List ℕ) (Fits : A → Type 0) (FitsB : B → Type 0)
    → ((a : A) → Fits a → spelled (make a) ≡ spelling a) → ((a : A) → Fits a → FitsB (make a)) → Reads read spelling Fits
    → (bytes : List ℕ) (b : B) (rest : List ℕ) → IsBytes bytes → made make read bytes ≡ Some (b, rest) → Takes bytes (spelled b) rest (FitsB b)
made_takes make read spelling spelled Fits FitsB same fit reads bytes b rest h e =
    let s = onwards_some (read bytes) (λ a r. Some (make a, r)) (b, rest) e in
    let p = some_is (make s.0) b s.1 rest s.3 in
    let t = reads.takes bytes s.0 s.1 h s.2 in
    subst (λ c. Takes bytes (spelled c) rest (FitsB c)) p.0 (record {
      parts = t.parts ∙ ap (λ (x : List ℕ). x ++ s.1) (sym (same s.0 t.fits)) ∙ ap (λ (r : List ℕ). spelled (make s.0) ++ r) p.1;
      rest_fits = subst IsBytes p.1 t.rest_fits;
      fits = fit s.0 t.fits;
    })

pub made_again : {A B : Type 0} (make : A → B) (read : Reader A) (bytes : List ℕ) (a : A) (rest : List ℕ) → read bytes ≡ Some (a, rest) → made make read bytes ≡ Some (make a, rest)
made_again make read bytes a rest e = rw e refl

-- what is made of a value by a way that leads back
pub made_reads : {A B : Type 0} (make : A → B) (back : B → A) (read : Reader A) (spelling : A → List ℕ) (Fits : A → Type 0)
    → ((a : A) → back (make a) ≡ a) → ((b : B) → make (back b) ≡ b) → Reads read spelling Fits → Reads (made make read) (λ b. spelling (back b)) (λ b. Fits (back b))
made_reads make back read spelling Fits there here reads = record {
  takes = made_takes make read spelling (λ b. spelling (back b)) Fits (λ b. Fits (back b)) (λ a f. ap spelling (there a)) (λ a f. subst Fits (sym (there a)) f) reads;
  again = λ b rest f. made_again make read (spelling (back b) ++ rest) (back b) rest (reads.again (back b) rest f) ∙ ap (λ c. answered c rest) (here b);
}

pub behind_reads : {A B : Type 0} (read : Reader A) (next : A → Reader B) (spelling : A → List ℕ) (spelled : B → List ℕ) (Fits : A → Type 0) (FitsB : A → B → Type 0)
    → Reads read spelling Fits → ((a : A) → Reads (next a) spelled (FitsB a)) → Reads (behind read next) (λ p. spelling p.0 ++ spelled p.1) (λ p. Fits p.0 × FitsB p.0 p.1)
behind_reads {A} {B} read next spelling spelled Fits FitsB first second = record { takes = taken; again = read_again }
  where
    taken : (bytes : List ℕ) (p : A × B) (rest : List ℕ) → IsBytes bytes → behind read next bytes ≡ Some (p, rest) → Takes bytes (spelling p.0 ++ spelled p.1) rest (Fits p.0 × FitsB p.0 p.1)
    taken bytes p rest h e =
        let s = onwards_some (read bytes) (λ a r. onwards (next a r) (λ b last. Some ((a, b), last))) (p, rest) e in
        let t = onwards_some (next s.0 s.1) (λ b last. Some ((s.0, b), last)) (p, rest) s.3 in
        let is = some_is (s.0, t.0) p t.1 rest t.3 in
        let x = first.takes bytes s.0 s.1 h s.2 in
        let y = (second s.0).takes s.1 t.0 t.1 x.rest_fits t.2 in
        subst (λ (q : A × B). Takes bytes (spelling q.0 ++ spelled q.1) rest (Fits q.0 × FitsB q.0 q.1)) is.0 (record {
          parts = x.parts ∙ ap (λ (r : List ℕ). spelling s.0 ++ r) y.parts ∙ sym (append_assoc (spelling s.0) (spelled t.0) t.1) ∙ ap (λ (r : List ℕ). (spelling s.0 ++ spelled t.0) ++ r) is.1;
          rest_fits = subst IsBytes is.1 y.rest_fits;
          fits = (x.fits, y.fits);
        })

    read_again : (p : A × B) (rest : List ℕ) → Fits p.0 × FitsB p.0 p.1 → behind read next ((spelling p.0 ++ spelled p.1) ++ rest) ≡ Some (p, rest)
    read_again p rest f =
        ap (behind read next) (append_assoc (spelling p.0) (spelled p.1) rest) ∙ rw (first.again p.0 (spelled p.1 ++ rest) f.0, (second p.0).again p.1 rest f.1) refl

pub both_reads : {A B : Type 0} (read : Reader A) (next : Reader B) (spelling : A → List ℕ) (spelled : B → List ℕ) (Fits : A → Type 0) (FitsB : B → Type 0)
    → Reads read spelling Fits → Reads next spelled FitsB → Reads (both read next) (λ p. spelling p.0 ++ spelled p.1) (λ p. Fits p.0 × FitsB p.1)
both_reads read next spelling spelled Fits FitsB first second = behind_reads read (λ a. next) spelling spelled Fits (λ a. FitsB) first (λ a. second)

-- ---- integers and texts

pub integer_reads : Reads integer_at integer_bytes (λ z. FitsSigned w32 z)
unfolding integer_at
integer_reads = record {
  takes = made_takes (cast_signed w32) four_at in_four integer_bytes (λ n. n < 2 ^ 32) (λ z. FitsSigned w32 z) (λ n lt. ap in_four (of_z-to_z w32 n lt)) (λ n lt. sfits_to_z (record { fits = lt })) four_reads;
  again = λ z rest f. made_again (cast_signed w32) four_at (integer_bytes z ++ rest) (cast_unsigned w32 z) rest (four_reads.again (cast_unsigned w32 z) rest (Fits-of_z f).fits) ∙ ap (λ y. answered y rest) (to_z-of_z w32 z f);
}

pub front_takes : (count : ℕ) (bytes text rest : List ℕ) → IsBytes bytes → front_at count bytes ≡ Some (text, rest) → Takes bytes text rest (length text ≡ count)
unfolding front_at
front_takes count bytes text rest h e =
    let g = guard_some (ltb (length bytes) count) (take count bytes, drop count bytes) (text, rest) e in
    let long : count ≤ length bytes = ltb-false _ _ g.0 in
    subst (λ (p : List ℕ × List ℕ). Takes bytes p.0 p.1 (length p.0 ≡ count)) g.1 (record {
      parts = sym (take-append-drop count bytes);
      rest_fits = IsBytes-drop count bytes h;
      fits = omega (arith, length-take count bytes);
    })

pub front_again : (count : ℕ) (text rest : List ℕ) → length text ≡ count → front_at count (text ++ rest) ≡ Some (text, rest)
unfolding front_at
front_again count text rest e =
    let long : ltb (length (text ++ rest)) count ≡ false = le-ltb _ _ (omega (arith, length-append text rest)) in
    rw (long, take_at text rest count e, drop_at text rest count e) refl

pub front_reads : (count : ℕ) → Reads (front_at count) (λ text. text) (λ text. length text ≡ count)
front_reads count = record { takes = front_takes count; again = front_again count }

-- a count, and behind it something of so many parts
pub counted_reads : {A : Type 0} (read : Reader ℕ) (next : ℕ → Reader A) (count : A → ℕ) (spelling : ℕ → List ℕ) (spelled : A → List ℕ) (Fits : ℕ → Type 0) (FitsA : A → Type 0)
    → Reads read spelling Fits → ((n : ℕ) → Reads (next n) spelled (λ a. (count a ≡ n) × FitsA a)) → Reads (λ bytes. onwards (read bytes) next) (λ a. spelling (count a) ++ spelled a) (λ a. Fits (count a) × FitsA a)
counted_reads {A} read next count spelling spelled Fits FitsA first second = record { takes = taken; again = read_again }
  where
    taken : (bytes : List ℕ) (a : A) (rest : List ℕ) → IsBytes bytes → onwards (read bytes) next ≡ Some (a, rest) → Takes bytes (spelling (count a) ++ spelled a) rest (Fits (count a) × FitsA a)
    taken bytes a rest h e =
        let s = onwards_some (read bytes) next (a, rest) e in
        let x = first.takes bytes s.0 s.1 h s.2 in
        let y = (second s.0).takes s.1 a rest x.rest_fits s.3 in
        record {
          parts = x.parts ∙ ap (λ (r : List ℕ). spelling s.0 ++ r) y.parts ∙ sym (append_assoc (spelling s.0) (spelled a) rest) ∙ ap (λ (n : ℕ). (spelling n ++ spelled a) ++ rest) (sym y.fits.0);
          rest_fits = y.rest_fits;
          fits = (subst Fits (sym y.fits.0) x.fits, y.fits.1);
        }

    read_again : (a : A) (rest : List ℕ) → Fits (count a) × FitsA a → onwards (read ((spelling (count a) ++ spelled a) ++ rest)) next ≡ Some (a, rest)
    read_again a rest f =
        ap (λ (bytes : List ℕ). onwards (read bytes) next) (append_assoc (spelling (count a)) (spelled a) rest) ∙ rw (first.again (count a) (spelled a ++ rest) f.0) ((second (count a)).again a rest (refl, f.1))

-- a text behind a count of any width
pub fronts_read : (read : Reader ℕ) (counted : ℕ → List ℕ) (Fits : ℕ → Type 0) → Reads read counted Fits → Reads (λ bytes. onwards (read bytes) front_at) (λ text. counted (length text) ++ text) (λ text. Fits (length text))
fronts_read read counted Fits counts = record {
  takes = λ bytes a rest h e. let t = both_parts.takes bytes a rest h e in record { parts = t.parts; rest_fits = t.rest_fits; fits = t.fits.0 };
  again = λ a rest f. both_parts.again a rest (f, tt);
}
  where
    one : (n : ℕ) → Reads (front_at n) (λ text. text) (λ text. (length text ≡ n) × Unit {0})
    one n = record { takes = λ bytes a rest h e. let t = front_takes n bytes a rest h e in record { parts = t.parts; rest_fits = t.rest_fits; fits = (t.fits, tt) }; again = λ a rest f. front_again n a rest f.0 }

    both_parts : Reads (λ bytes. onwards (read bytes) front_at) (λ text. counted (length text) ++ text) (λ text. Fits (length text) × Unit {0})
    both_parts = counted_reads read front_at length counted (λ text. text) Fits (λ text. Unit {0}) counts one

pub text_reads : Reads text_at text_bytes (λ text. length text < 2 ^ 8)
unfolding text_at
text_reads = fronts_read byte_at (λ n. n ∷ []) (λ n. n < 2 ^ 8) byte_reads

-- ---- rows

rows_take : {A : Type 0} (read : Reader A) (spelling : A → List ℕ) (Fits : A → Type 0) → Reads read spelling Fits
    → (count : ℕ) (bytes : List ℕ) (rows : List A) (rest : List ℕ) → IsBytes bytes → rows_at read count bytes ≡ Some (rows, rest) → Takes bytes (flat_map spelling rows) rest ((length rows ≡ count) × AllByRecursion Fits rows)
unfolding rows_at
rows_take read spelling Fits reads zero bytes rows rest h e =
    let p = some_is [] rows bytes rest e in
    subst (λ xs. Takes bytes (flat_map spelling xs) rest ((length xs ≡ 0) × AllByRecursion Fits xs)) p.0 (record { parts = p.1; rest_fits = subst IsBytes p.1 h; fits = (refl, tt) })
rows_take {A} read spelling Fits reads (suc count) bytes rows rest h e =
    let s = onwards_some (read bytes) (λ a r. onwards (rows_at read count r) (λ others last. Some (a ∷ others, last))) (rows, rest) e in
    let t = onwards_some (rows_at read count s.1) (λ others last. Some (s.0 ∷ others, last)) (rows, rest) s.3 in
    let is = some_is (s.0 ∷ t.0) rows t.1 rest t.3 in
    let x = reads.takes bytes s.0 s.1 h s.2 in
    let y = rows_take read spelling Fits reads count s.1 t.0 t.1 x.rest_fits t.2 in
    subst (λ (xs : List A). Takes bytes (flat_map spelling xs) rest ((length xs ≡ suc count) × AllByRecursion Fits xs)) is.0 (record {
      parts = x.parts ∙ ap (λ (r : List ℕ). spelling s.0 ++ r) y.parts ∙ sym (append_assoc (spelling s.0) (flat_map spelling t.0) t.1) ∙ ap (λ (r : List ℕ). (spelling s.0 ++ flat_map spelling t.0) ++ r) is.1 ∙ ap (λ (front : List ℕ). front ++ rest) (sym (flat_map-cons spelling s.0 t.0));
      rest_fits = subst IsBytes is.1 y.rest_fits;
      fits = (ap suc y.fits.0, (x.fits, y.fits.1));
    })

rows_again : {A : Type 0} (read : Reader A) (spelling : A → List ℕ) (Fits : A → Type 0) → Reads read spelling Fits
    → (rows : List A) (rest : List ℕ) → AllByRecursion Fits rows → rows_at read (length rows) (flat_map spelling rows ++ rest) ≡ Some (rows, rest)
unfolding rows_at
rows_again read spelling Fits reads [] rest f = refl
rows_again read spelling Fits reads (a ∷ others) rest f =
    let regrouped : flat_map spelling (a ∷ others) ++ rest ≡ spelling a ++ (flat_map spelling others ++ rest) = ap (λ (x : List ℕ). x ++ rest) (flat_map-cons spelling a others) ∙ append_assoc (spelling a) (flat_map spelling others) rest in
    ap (rows_at read (suc (length others))) regrouped ∙ rw (reads.again a (flat_map spelling others ++ rest) f.0, rows_again read spelling Fits reads others rest f.1) refl

pub rows_read : {A : Type 0} (read : Reader A) (spelling : A → List ℕ) (Fits : A → Type 0) → Reads read spelling Fits
    → (count : ℕ) → Reads (rows_at read count) (flat_map spelling) (λ rows. (length rows ≡ count) × AllByRecursion Fits rows)
rows_read read spelling Fits reads count = record {
  takes = rows_take read spelling Fits reads count;
  again = λ rows rest f. subst (λ n. rows_at read n (flat_map spelling rows ++ rest) ≡ Some (rows, rest)) f.0 (rows_again read spelling Fits reads rows rest f.1);
}

-- rows behind a count of any width
pub rows_counted : {A : Type 0} (count_at : Reader ℕ) (counted : ℕ → List ℕ) (FitsCount : ℕ → Type 0) (read : Reader A) (spelling : A → List ℕ) (Fits : A → Type 0)
    → Reads count_at counted FitsCount → Reads read spelling Fits
    → Reads (λ bytes. onwards (count_at bytes) (rows_at read)) (λ rows. counted (length rows) ++ flat_map spelling rows) (λ rows. FitsCount (length rows) × AllByRecursion Fits rows)
rows_counted count_at counted FitsCount read spelling Fits counts reads =
    counted_reads count_at (rows_at read) length counted (flat_map spelling) FitsCount (AllByRecursion Fits) counts (rows_read read spelling Fits reads)

pub list_reads : {A : Type 0} (read : Reader A) (spelling : A → List ℕ) (Fits : A → Type 0) → Reads read spelling Fits → Reads (list_at read) (list_bytes spelling) (AreFew (2 ^ 32) Fits)
list_reads read spelling Fits reads = rows_counted four_at in_four (λ n. n < 2 ^ 32) read spelling Fits four_reads reads

-- ---- choices

-- a row of a choice: its byte with what stands behind it is a spelling
abbrev pub RowTakes : {A : Type 0} → (A → List ℕ) → (A → Type 0) → ℕ × Reader A → Type 0
RowTakes {A} spelling Fits row = (bytes : List ℕ) (a : A) (rest : List ℕ) → IsBytes bytes → row.1 bytes ≡ Some (a, rest) → Takes (row.0 ∷ bytes) (spelling a) rest (Fits a)

pub choose_takes : {A : Type 0} (spelling : A → List ℕ) (Fits : A → Type 0) (rows : List (ℕ × Reader A)) → AllByRecursion (RowTakes spelling Fits) rows
    → (byte : ℕ) (bytes : List ℕ) (a : A) (rest : List ℕ) → IsBytes bytes → choose rows byte bytes ≡ Some (a, rest) → Takes (byte ∷ bytes) (spelling a) rest (Fits a)
choose_takes spelling Fits [] all byte bytes a rest h e = absurd cc
choose_takes {A} spelling Fits (row ∷ rows) all byte bytes a rest h e = by_test (choose_takes spelling Fits rows all.1 byte bytes a rest h) (eqb row.0 byte) refl e
  where
    by_test : (choose rows byte bytes ≡ Some (a, rest) → Takes (byte ∷ bytes) (spelling a) rest (Fits a)) → (b : Bool) → eqb row.0 byte ≡ b → cond b (row.1 bytes) (choose rows byte bytes) ≡ Some (a, rest) → Takes (byte ∷ bytes) (spelling a) rest (Fits a)
    by_test later true same f = subst (λ (n : ℕ). Takes (n ∷ bytes) (spelling a) rest (Fits a)) (eqb-true row.0 byte same) (all.0 bytes a rest h f)
    by_test later false other f = later f

-- a row that makes something of what it reads
pub row_made : {A B : Type 0} (byte : ℕ) (make : B → A) (read : Reader B) (spelled : B → List ℕ) (FitsB : B → Type 0) (spelling : A → List ℕ) (Fits : A → Type 0)
    → ((b : B) → FitsB b → spelling (make b) ≡ byte ∷ spelled b) → ((b : B) → FitsB b → Fits (make b)) → Reads read spelled FitsB → RowTakes spelling Fits (byte, made make read)
row_made {A} byte make read spelled FitsB spelling Fits same fit reads bytes a rest h e =
    let s = onwards_some (read bytes) (λ b r. Some (make b, r)) (a, rest) e in
    let p = some_is (make s.0) a s.1 rest s.3 in
    let t = reads.takes bytes s.0 s.1 h s.2 in
    subst (λ (c : A). Takes (byte ∷ bytes) (spelling c) rest (Fits c)) p.0 (record {
      parts = ap (λ (r : List ℕ). byte ∷ r) t.parts ∙ ap (λ (r : List ℕ). r ++ s.1) (sym (same s.0 t.fits)) ∙ ap (λ (r : List ℕ). spelling (make s.0) ++ r) p.1;
      rest_fits = subst IsBytes p.1 t.rest_fits;
      fits = fit s.0 t.fits;
    })

-- a byte that decides what stands behind it
pub choice_takes : {A : Type 0} (rows : List (ℕ × Reader A)) (spelling : A → List ℕ) (Fits : A → Type 0) → AllByRecursion (RowTakes spelling Fits) rows
    → (bytes : List ℕ) (a : A) (rest : List ℕ) → IsBytes bytes → onwards (byte_at bytes) (choose rows) ≡ Some (a, rest) → Takes bytes (spelling a) rest (Fits a)
choice_takes rows spelling Fits all bytes a rest h e =
    let s = onwards_some (byte_at bytes) (choose rows) (a, rest) e in
    let t = byte_reads.takes bytes s.0 s.1 h s.2 in
    let u = choose_takes spelling Fits rows all s.0 s.1 a rest t.rest_fits s.3 in
    record { parts = t.parts ∙ u.parts; rest_fits = u.rest_fits; fits = u.fits }

-- a row whose reader has a spelling of its own
pub row_read : {A : Type 0} (byte : ℕ) (read : Reader A) (spelled : A → List ℕ) (FitsA : A → Type 0) (spelling : A → List ℕ) (Fits : A → Type 0)
    → ((a : A) → FitsA a → spelling a ≡ byte ∷ spelled a) → ((a : A) → FitsA a → Fits a) → Reads read spelled FitsA → RowTakes spelling Fits (byte, read)
row_read {A} byte read spelled FitsA spelling Fits same fit reads bytes a rest h e =
    let t = reads.takes bytes a rest h e in
    record { parts = ap (λ (r : List ℕ). byte ∷ r) t.parts ∙ ap (λ (r : List ℕ). r ++ rest) (sym (same a t.fits)); rest_fits = t.rest_fits; fits = fit a t.fits }

-- a row that gives one value alone
pub row_fixed : {A : Type 0} (byte : ℕ) (read : Reader A) (x : A) (tail : List ℕ) (spelling : A → List ℕ) (Fits : A → Type 0)
    → spelling x ≡ byte ∷ tail → Fits x → Reads read (λ a. tail) (λ a. a ≡ x) → RowTakes spelling Fits (byte, read)
row_fixed {A} byte read x tail spelling Fits same fit reads =
    row_read byte read (λ a. tail) (λ a. a ≡ x) spelling Fits (λ a e. subst (λ (y : A). spelling y ≡ byte ∷ tail) (sym e) same) (λ a e. subst Fits (sym e) fit) reads

pub row_plain : {A : Type 0} (byte : ℕ) (x : A) (spelling : A → List ℕ) (Fits : A → Type 0) → spelling x ≡ byte ∷ [] → Fits x → RowTakes spelling Fits (byte, plain x)
row_plain byte x spelling Fits same fit = row_fixed byte (plain x) x [] spelling Fits same fit (plain_reads x)

-- the same with other words for what fits
pub fit_reads : {A : Type 0} {read : Reader A} {spelling : A → List ℕ} {F G : A → Type 0} → ((a : A) → F a → G a) → ((a : A) → G a → F a) → Reads read spelling F → Reads read spelling G
fit_reads there back reads = record {
  takes = λ bytes a rest h e. let t = reads.takes bytes a rest h e in record { parts = t.parts; rest_fits = t.rest_fits; fits = there a t.fits };
  again = λ a rest f. reads.again a rest (back a f);
}

-- readers, one behind the other, and what is made of them
pub pair : {A B : Type 0} {read : Reader A} {next : Reader B} {spelling : A → List ℕ} {spelled : B → List ℕ} {Fits : A → Type 0} {FitsB : B → Type 0}
    → Reads read spelling Fits → Reads next spelled FitsB → Reads (both read next) (λ p. spelling p.0 ++ spelled p.1) (λ p. Fits p.0 × FitsB p.1)
pair {read = read} {next = next} {spelling = spelling} {spelled = spelled} {Fits = Fits} {FitsB = FitsB} first second = both_reads read next spelling spelled Fits FitsB first second

pub turned : {A B : Type 0} {read : Reader A} {spelling : A → List ℕ} {Fits : A → Type 0} (make : A → B) (back : B → A)
    → ((a : A) → back (make a) ≡ a) → ((b : B) → make (back b) ≡ b) → Reads read spelling Fits → Reads (made make read) (λ b. spelling (back b)) (λ b. Fits (back b))
turned {read = read} {spelling = spelling} {Fits = Fits} make back there here reads = made_reads make back read spelling Fits there here reads

-- what is read as it is spelled has one spelling, which begins no other one
pub one_spelling : {A : Type 0} {read : Reader A} {spelling : A → List ℕ} {Fits : A → Type 0} → Reads read spelling Fits
    → (one other : A) (x y : List ℕ) → Fits one → Fits other → spelling one ++ x ≡ spelling other ++ y → (one ≡ other) × (x ≡ y)
one_spelling {read = read} reads one other x y f g e = some_is one other x y (sym (reads.again one x f) ∙ ap read e ∙ reads.again other y g)
