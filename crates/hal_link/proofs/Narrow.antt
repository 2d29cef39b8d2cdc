-- The rows of processes.
use Rattle.std.specs.Prelude.{ℕ, suc, nat_le, ◌+◌, Bool, true, false, List, [], ◌∷◌, ◌++◌, length, Some, None, if◌then◌else◌}
use Rattle.std.proofs.Common.{◌≡◌, refl, sym, ap, ◌∙◌, append-nil, append_assoc, arith, le-leb, subst}
use Rattle.hal_code.specs.declared.row.Process.{Process}
use Rattle.hal_storage.specs.layout.Layouts.{AreShort}
use Rattle.hal_meaning.specs.Sets.{Set}
use Rattle.hal_link.specs.Linking.{processes_from}
use Rattle.hal_link.specs.Outlines.{Outline}
use Rattle.hal_link.specs.SeenLinking.{process_row, rows_from, rows_if}

next_number : (p : ℕ) → p + 1 ≡ suc p
next_number p = omega arith

pub rows_given : (s : Set) (os : List Outline) (p : ℕ) (names : List (List ℕ)) → rows_from s os p names ≡ processes_from s os p names
unfolding rows_from
rows_given s os p [] = refl
rows_given s os p (name ∷ names) = ap (λ rows. process_row s os p name ∷ rows) (ap (λ q. rows_from s os q names) (next_number p) ∙ rows_given s os (suc p) names)

-- rows behind rows so far
one_more : (s : Set) (os : List Outline) (p : ℕ) (rows : List Process) (name : List ℕ) (names : List (List ℕ)) (found : List Process) (b : Bool)
    → (rows_if s os (p + 1) (rows ++ (process_row s os p name ∷ [])) names ≡ Some found → (rows ++ (process_row s os p name ∷ [])) ++ rows_from s os (p + 1) names ≡ found)
    → (if b then rows_if s os (p + 1) (rows ++ (process_row s os p name ∷ [])) names else None) ≡ Some found → rows ++ rows_from s os p (name ∷ names) ≡ found
unfolding rows_from
one_more s os p rows name names found true later is = sym (append_assoc rows (process_row s os p name ∷ []) (rows_from s os (p + 1) names)) ∙ later is
one_more s os p rows name names found false later is = absurd (cc)

rows_by : (s : Set) (os : List Outline) (p : ℕ) (rows : List Process) (names : List (List ℕ)) (found : List Process) → rows_if s os p rows names ≡ Some found → rows ++ rows_from s os p names ≡ found
unfolding rows_if rows_from
rows_by s os p rows [] found is = append-nil rows ∙ (let same : rows ≡ found = cc in same)
rows_by s os p rows (name ∷ names) found is =
    one_more s os p rows name names found (nat_le (length name) 255) (λ there. rows_by s os (p + 1) (rows ++ (process_row s os p name ∷ [])) names found there) is

pub rows_narrow : (s : Set) (os : List Outline) (names : List (List ℕ)) (found : List Process) → rows_if s os 0 [] names ≡ Some found → processes_from s os 0 names ≡ found
rows_narrow s os names found is = sym (rows_given s os 0 names) ∙ rows_by s os 0 [] names found is

pub rows_wide : (s : Set) (os : List Outline) (p : ℕ) (rows : List Process) (names : List (List ℕ)) → rows_if s os p rows names ≡ None → AreShort names → ⊥
unfolding rows_if
rows_wide s os p rows [] is short = absurd (cc)
rows_wide s os p rows (name ∷ names) is short =
    rows_wide s os (p + 1) (rows ++ (process_row s os p name ∷ [])) names
    (subst (λ (b : Bool). (if b then rows_if s os (p + 1) (rows ++ (process_row s os p name ∷ [])) names else None) ≡ None) (le-leb (length name) 255 short.0) is) short.1
