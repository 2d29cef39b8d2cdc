-- Images are read as they are spelled.
use Rattle.std.proofs.Common.{◌≡◌, ℕ, suc, ◌^◌, ◌<◌, Bool, true, false, cond, eqb, List, [], ◌∷◌, ◌++◌, length, Option, Some, None, refl, sym, ap, subst, ◌∙◌}
use Rattle.std.specs.declared.alloc.AllocError.{AllocError}
use Rattle.std.specs.Prelude.{Result, Err, IsTrue, IsErrOf, ◌↔◌}
use Rattle.std.specs.List.{flat_map, AllByRecursion}
use Rattle.std.proofs.lemmas.Bool.{eqb-true, eq-eqb}
use Rattle.std.proofs.lemmas.List.{append-nil, nil_from_length}
use Rattle.hal_code.specs.declared.image.ImageParts.{ImageParts}
use Rattle.hal_object.specs.Numbers.{in_eight}
use Rattle.hal_object.specs.Instructions.{instr_bytes, FitsInstr}
use Rattle.hal_object.specs.Images.{mark, parts_bytes, image_bytes, FitsBytes, HasRuns, IsSpelled}
use Rattle.hal_object.specs.declared.fault.ReadFault.{ReadFault}
use Rattle.hal_object.specs.declared.fault.ReadFault.TheVariants as fault
use Rattle.hal_object.specs.Fields.{Reader, Fails}
use Rattle.hal_object.specs.Reading.{code_at, marked, parts_at, whole, image_at}
use Rattle.hal_object.proofs.ReadingLaws.{IsBytes, Takes, Reads, byte_reads, eight_reads, pair, turned, rows_counted, list_reads, one_spelling}
use Rattle.hal_object.proofs.ChoiceLaws.{starts_read}
use Rattle.hal_object.proofs.KindLaws.{kind_reads, cell_reads, place_reads}
use Rattle.hal_object.proofs.RowLaws.{run_reads, process_reads, view_reads, item_reads, block_reads, name_reads}
use Rattle.hal_object.proofs.InstrLaws.{instr_reads}

code_reads : Reads code_at (λ code. in_eight (length code) ++ flat_map instr_bytes code) (λ code. (length code < 2 ^ 64) × AllByRecursion FitsInstr code)
unfolding code_at
code_reads = rows_counted _ _ _ _ _ _ eight_reads instr_reads

parts_read : Reads parts_at parts_bytes FitsBytes
unfolding parts_at
parts_read =
    turned (λ p. record {
      cells = p.0;
      events = p.1.0;
      common = p.1.1.0;
      processes = p.1.1.1.0;
      first = p.1.1.1.1.0;
      shapes = p.1.1.1.1.1.0;
      views = p.1.1.1.1.1.1.0;
      expressions = p.1.1.1.1.1.1.1.0;
      blocks = p.1.1.1.1.1.1.1.1.0;
      names = p.1.1.1.1.1.1.1.1.1.0;
      code = p.1.1.1.1.1.1.1.1.1.1;
    })
    (λ (x : ImageParts). (x.cells, (x.events, (x.common, (x.processes, (x.first, (x.shapes, (x.views, (x.expressions, (x.blocks, (x.names, x.code))))))))))) (λ a. refl) (λ b. refl)
    (pair (list_reads _ _ _ (run_reads cell_reads)) (pair (list_reads _ _ _ starts_read) (pair (list_reads _ _ _ (run_reads place_reads)) (pair (list_reads _ _ _ process_reads) (pair byte_reads
    (pair (list_reads _ _ _ (list_reads _ _ _ (run_reads kind_reads))) (pair (list_reads _ _ _ view_reads) (pair (list_reads _ _ _ (list_reads _ _ _ item_reads)) (pair (list_reads _ _ _ block_reads) (pair (list_reads _ _ _ name_reads) code_reads))))))))))

-- ---- behind the mark, and all of the bytes

tested_some : {A : Type 0} (b : Bool) (o : Option A) (y : A) → cond b o None ≡ Some y → (b ≡ true) × (o ≡ Some y)
tested_some true o y e = (refl, e)
tested_some false o y e = absurd cc

marked_takes : {A : Type 0} (read : Reader A) (spelling : A → List ℕ) (Fits : A → Type 0) → Reads read spelling Fits
    → (ms bytes : List ℕ) (a : A) (rest : List ℕ) → IsBytes bytes → marked ms read bytes ≡ Some (a, rest) → Takes bytes (ms ++ spelling a) rest (Fits a)
unfolding marked
marked_takes read spelling Fits reads [] bytes a rest h e = reads.takes bytes a rest h e
marked_takes read spelling Fits reads (m ∷ ms) [] a rest h e = absurd cc
marked_takes read spelling Fits reads (m ∷ ms) (byte ∷ bytes) a rest h e =
    let g = tested_some (eqb m byte) (marked ms read bytes) (a, rest) e in
    let t = marked_takes read spelling Fits reads ms bytes a rest (λ i. h (suc i)) g.1 in
    let same : m ≡ byte = eqb-true m byte g.0 in
    record { parts = ap (λ (n : ℕ). n ∷ bytes) (sym same) ∙ ap (λ (r : List ℕ). m ∷ r) t.parts; rest_fits = t.rest_fits; fits = t.fits }

marked_again : {A : Type 0} (read : Reader A) (spelling : A → List ℕ) (Fits : A → Type 0) → Reads read spelling Fits
    → (ms : List ℕ) (a : A) (rest : List ℕ) → Fits a → marked ms read ((ms ++ spelling a) ++ rest) ≡ Some (a, rest)
unfolding marked
marked_again read spelling Fits reads [] a rest f = reads.again a rest f
marked_again read spelling Fits reads (m ∷ ms) a rest f = rw (eq-eqb m m refl) (marked_again read spelling Fits reads ms a rest f)

-- what is read has these bytes
pub image_takes : (bytes : List ℕ) (image : ImageParts) → IsBytes bytes → image_at bytes ≡ Some image → (bytes ≡ image_bytes image) × FitsBytes image
unfolding image_at whole
image_takes bytes image h e = by_answer (marked mark parts_at bytes) refl e
  where
    by_answer : (o : Option (ImageParts × List ℕ)) → marked mark parts_at bytes ≡ o → whole o ≡ Some image → (bytes ≡ image_bytes image) × FitsBytes image
    by_answer None same f = absurd cc
    by_answer (Some found) same f =
        let g = tested_some (eqb (length found.1) 0) (Some found.0) image f in
        let is : found.0 ≡ image = let same_some : Some found.0 ≡ Some image = g.1 in cc in
        let nothing : found.1 ≡ [] = nil_from_length found.1 (eqb-true _ _ g.0) in
        let t = marked_takes parts_at parts_bytes FitsBytes parts_read mark bytes found.0 found.1 h same in
        subst (λ (x : ImageParts). (bytes ≡ image_bytes x) × FitsBytes x) is (t.parts ∙ ap (λ (r : List ℕ). image_bytes found.0 ++ r) nothing ∙ append-nil (image_bytes found.0), t.fits)

-- what has these bytes is read
pub image_again : (image : ImageParts) → FitsBytes image → image_at (image_bytes image) ≡ Some image
unfolding image_at whole
image_again image f =
    let read : marked mark parts_at (image_bytes image) ≡ Some (image, []) = ap (marked mark parts_at) (sym (append-nil (image_bytes image))) ∙ marked_again parts_at parts_bytes FitsBytes parts_read mark image [] f in
    rw read refl

-- two images with the same bytes are one
pub one_image : (one other : ImageParts) → FitsBytes one → FitsBytes other → image_bytes one ≡ image_bytes other → one ≡ other
one_image one other f g e =
    let both : Some one ≡ Some other = sym (image_again one f) ∙ ap image_at e ∙ image_again other g in
    cc

-- what is read, and has its runs, is an image with bytes
pub read_is_spelled : (bytes : List ℕ) (image : ImageParts) → IsBytes bytes → image_at bytes ≡ Some image → HasRuns image → IsSpelled image
read_is_spelled bytes image h e runs = record { fits = (image_takes bytes image h e).1; runs = runs }

-- no other one has them
pub only_image : (bytes : List ℕ) (found : ImageParts) → image_at bytes ≡ Some found → (other : ImageParts) → IsSpelled other → bytes ≡ image_bytes other → found ≡ other
only_image bytes found e other spelled same =
    let both : Some found ≡ Some other = sym e ∙ ap image_at same ∙ image_again other spelled.fits in
    cc

-- where nothing is read, no image has the bytes
pub no_image : (bytes : List ℕ) → image_at bytes ≡ None → (image : ImageParts) → IsSpelled image → bytes ≡ image_bytes image → ⊥
no_image bytes e image spelled same =
    let both : None ≡ Some image = sym e ∙ ap image_at same ∙ image_again image spelled.fits in
    absurd cc

-- nor where what is read hasn't its runs
pub other_runs : (bytes : List ℕ) (found : ImageParts) → image_at bytes ≡ Some found → (HasRuns found → ⊥) → (image : ImageParts) → IsSpelled image → bytes ≡ image_bytes image → ⊥
other_runs bytes found e wrong image spelled same = wrong (subst HasRuns (sym (only_image bytes found e image spelled same)) spelled.runs)

-- the bytes of what is read
pub read_bytes : (bytes : List ℕ) (image : ImageParts) → IsBytes bytes → image_at bytes ≡ Some image → bytes ≡ image_bytes image
read_bytes bytes image h e = (image_takes bytes image h e).0

-- the fault of a reader
pub faulty : (bytes : List ℕ) (r : Result ImageParts ReadFault) (y e : ReadFault) → r ≡ Err y → y ≡ e → Fails e (image_at bytes)
    → IsErrOf r fault.NotImage → (image : ImageParts) → IsSpelled image → bytes ≡ image_bytes image → ⊥
faulty bytes r y fault.NotImage p q failed is = no_image bytes failed
faulty bytes r y (fault.Memory error) p q failed is = λ image spelled same. absurd (other_fault r y error p q is)
  where
    other_fault : (s : Result ImageParts ReadFault) (z : ReadFault) (a : AllocError) → s ≡ Err z → z ≡ fault.Memory a → s ≡ Err fault.NotImage → ⊥
    other_fault s z a f g i = let bad : Err (fault.Memory a) ≡ Err fault.NotImage = ap Err (sym g) ∙ sym f ∙ i in absurd cc

-- what isn't true isn't so
pub not_so : (P : Type 0) (b : Bool) → IsTrue b ↔ P → b ≡ false → P → ⊥
not_so P true both e p = absurd cc
not_so P false both e p = let t = both.1 p in absurd cc

-- images have one spelling, which begins no other one
pub image_spelling : (one other : ImageParts) (x y : List ℕ) → IsSpelled one → IsSpelled other → image_bytes one ++ x ≡ image_bytes other ++ y → (one ≡ other) × (x ≡ y)
image_spelling one other x y f g e = one_spelling images_read one other x y f.fits g.fits e
  where
    images_read : Reads (marked mark parts_at) image_bytes FitsBytes
    images_read = record { takes = marked_takes parts_at parts_bytes FitsBytes parts_read mark; again = marked_again parts_at parts_bytes FitsBytes parts_read mark }
