-- A copy of data that lie in memory has few elements.
use Rattle.std.specs.Prelude.{◌≡◌, ◌≤◌, ◌<◌, ◌+◌, ◌*◌, ◌&&◌, ℕ, zero, suc, Bool, true, false, List, [], ◌∷◌, ◌++◌, length, Option, Some, None, slice_get, unwrap_or}
use Rattle.std.specs.List.{sum_by}
use Rattle.std.proofs.Common.{refl, ap, arith}
use Rattle.std.proofs.lemmas.List.{length-append, length-map}
use Rattle.std.proofs.lemmas.List.Sums.{sum_by-cons}
use Rattle.std.proofs.lemmas.Nat.{mul-le}
use Rattle.hal_base.specs.declared.limits.TheConstants.{CELL_LIMIT}
use Rattle.hal_values.specs.declared.tables.Cell.{Cell}
use Rattle.hal_values.specs.declared.value.Kind.{Kind}
use Rattle.hal_code.specs.declared.image.ImageParts.{ImageParts}
use Rattle.hal_code.specs.declared.row.Base.{Base}
use Rattle.hal_code.specs.declared.row.Process.{Process}
use Rattle.hal_code.specs.declared.row.Run.{Run}
use Rattle.hal_code.specs.Images as images
use Rattle.hal_code.specs.Images.{expanded, row_count}
use Rattle.hal_code.specs.Memory.{lies_from, kind_of_place, own_memory, shared_memory}
use Rattle.hal_code.specs.Right.{cell_count}
use Rattle.hal_code.specs.Sorts.{same_kind}
use Rattle.hal_meaning.specs.Elements.{Shape, copy_size, kinds_of}
use Rattle.hal_meaning.specs.Places.{Storing, InCells, InPlaces, ByReference, Unstored}
use Rattle.hal_meaning.specs.ReportNames.{first_cell, first_place}
use Rattle.hal_agreement.specs.Sites.{Site}
use Rattle.hal_gen_expr.specs.Numbering.{base_of, most}
use Rattle.hal_fit_layout.proofs.Counting.{rows_counted}
use Rattle.hal_right_images.proofs.rows.Formed.{AreCopies}
use Rattle.hal_right_images.proofs.rows.Lines.{kinds_long}
use Rattle.hal_right_images.specs.views.Holding.{Holds}

-- what lies in memory is no longer than it
there_low : {X : Type 0} (xs : List X) (k : ℕ) (x : X) → slice_get xs k ≡ Some x → k < length xs
there_low [] k x is = absurd (cc)
there_low (y ∷ xs) zero x is = omega arith
there_low (y ∷ xs) (suc k) x is = let low = there_low xs k x is in omega (arith, low)

first_lies : (memory : List (Option Kind)) (at : ℕ) (k : Kind) (later : Bool) → elim (slice_get memory at) [ None ↦ false | Some there ↦ elim there [ None ↦ false | Some found ↦ same_kind found k && later ] ] ≡ true → (at < length memory) × (later ≡ true)
first_lies memory at k later lies = by (slice_get memory at) refl lies where
  both : (b c : Bool) → (b && c) ≡ true → c ≡ true
  both true c is = is
  both false c is = absurd (cc)

  by_kind : (there : Option Kind) → elim there [ None ↦ false | Some found ↦ same_kind found k && later ] ≡ true → later ≡ true
  by_kind None is = absurd (cc)
  by_kind (Some found) is = both (same_kind found k) later is

  by : (o : Option (Option Kind)) → slice_get memory at ≡ o → elim o [ None ↦ false | Some there ↦ elim there [ None ↦ false | Some found ↦ same_kind found k && later ] ] ≡ true → (at < length memory) × (later ≡ true)
  by None is so = absurd (cc)
  by (Some there) is so = (there_low memory at there is, by_kind there so)

lies_long : (memory : List (Option Kind)) (at : ℕ) (k : Kind) (ks : List Kind) → lies_from memory at (k ∷ ks) ≡ true → at + length (k ∷ ks) ≤ length memory
lies_long memory at k [] lies = let low = (first_lies memory at k true lies).0 in omega (arith, low)
lies_long memory at k (l ∷ ks) lies = let rest = lies_long memory (suc at) l ks (first_lies memory at k (lies_from memory (suc at) (l ∷ ks)) lies).1 in omega (arith, rest)

lies_few : (memory : List (Option Kind)) (at limit : ℕ) (ks : List Kind) → lies_from memory at ks ≡ true → length memory ≤ limit → length ks ≤ limit
lies_few memory at limit [] lies few = omega arith
lies_few memory at limit (k ∷ ks) lies few = let long = lies_long memory at k ks lies in omega (arith, long, few)

-- a member of a sum
in_sum : {X : Type 0} (f : X → ℕ) (xs : List X) (k : ℕ) (x : X) → slice_get xs k ≡ Some x → f x ≤ sum_by f xs
in_sum f [] k x is = absurd (cc)
in_sum f (y ∷ xs) zero x is =
    let sum = sum_by-cons f y xs in
    let same : f y ≡ f x = ap f (let here : y ≡ x = cc in here) in
    omega (arith, sum, same)
in_sum f (y ∷ xs) (suc k) x is =
    let sum = sum_by-cons f y xs in
    let rest = in_sum f xs k x is in
    omega (arith, sum, rest)

module _ (image : ImageParts) (cells : cell_count image ≤ CELL_LIMIT) (rows : sum_by (λ (runs : List (Run Kind)). row_count runs) image.shapes ≤ 1048576) where
  shared_few : length (shared_memory image) ≤ 1048576
  shared_few = let long = length-map (expanded image.cells) (λ (cell : Cell). Some cell.kind) in let counted = rows_counted image.cells in omega (arith, long, counted, cells)

  own_few : (process : ℕ) → length (own_memory (images.places_of image process)) ≤ 1048576
  own_few process = by (slice_get image.processes process) refl where
    by : (o : Option Process) → slice_get image.processes process ≡ o → length (own_memory (elim o [ None ↦ [] | Some p ↦ expanded image.common ++ expanded p.places ])) ≤ 1048576
    by None is = omega arith
    by (Some p) is =
        let long = length-map (expanded image.common ++ expanded p.places) kind_of_place in
        let both = length-append (expanded image.common) (expanded p.places) in
        let common = rows_counted image.common in
        let own = rows_counted p.places in
        let sum = in_sum (λ (q : Process). row_count image.common + row_count q.places) image.processes process p is in
        omega (arith, long, both, common, own, sum, cells)

  shape_few : (shape : ℕ) → length (images.kinds_of image shape) ≤ 1048576
  shape_few shape = by (slice_get image.shapes shape) refl where
    by : (o : Option (List (Run Kind))) → slice_get image.shapes shape ≡ o → length {A = Kind} (elim o [ None ↦ [] | Some runs ↦ expanded runs ]) ≤ 1048576
    by None is = omega arith
    by (Some runs) is = let one = in_sum (λ (rs : List (Run Kind)). row_count rs) image.shapes shape runs is in let long = rows_counted runs in omega (arith, one, long, rows)

  kinds_few : (process : ℕ) (site : Site) (declared : ℕ) (way : Storing) (shape : Shape) (before : ℕ) (from : Base) → Holds image process site declared way shape → base_of site declared before way ≡ Some from
      → length (kinds_of shape) ≤ 1048576
  kinds_few process site declared (InCells group) shape before from holds begins =
      lies_few (shared_memory image) (first_cell site.set.phrases site.set.constants declared) 1048576 (kinds_of shape) holds shared_few
  kinds_few process site declared InPlaces shape before from holds begins =
      lies_few (own_memory (images.places_of image process)) (first_place site.places declared) 1048576 (kinds_of shape) holds (own_few process)
  kinds_few process site declared ByReference shape before from holds begins = let low = shape_few holds.shape in let same = ap length holds.is in omega (arith, low, same)
  kinds_few process site declared Unstored shape before from holds begins = absurd (cc)

  -- so has one of its copies
  pub copy_few : (process : ℕ) (site : Site) (declared : ℕ) (way : Storing) (shape : Shape) (before : ℕ) (from : Base) → AreCopies shape.copies → Holds image process site declared way shape
      → base_of site declared before way ≡ Some from → copy_size shape.components ≤ most
  copy_few process site declared way shape before from some holds begins =
      let low = kinds_few process site declared way shape before from holds begins in
      let long = kinds_long shape in
      let one = mul-le 1 (copy_size shape.components) (unwrap_or shape.copies 1) (copy_size shape.components) (copies_some shape.copies some) (omega arith) in
      let itself : 1 * copy_size shape.components ≡ copy_size shape.components = omega arith in
      omega (arith, low, long, one, itself)
    where
      copies_some : (c : Option ℕ) → AreCopies c → 1 ≤ unwrap_or c 1
      copies_some None is = omega arith
      copies_some (Some n) is = omega (arith, is)
