-- The elements that the names of the report show are there.
use Rattle.std.specs.Prelude.{◌≡◌, ◌<◌, ◌≤◌, ℕ, zero, suc, ◌+◌, ◌*◌, Bool, true, List, [], ◌∷◌, length, unwrap_or}
use Rattle.std.specs.List.{list_all, range_with_len}
use Rattle.std.proofs.Common.{refl, sym, ap, subst, ◌∙◌, arith}
use Rattle.std.proofs.lemmas.Bool.{and_from}
use Rattle.std.proofs.lemmas.Nat.{mul-le}
use Rattle.std.proofs.Math.Nat.{suc-mul}
use Rattle.hal_values.specs.declared.tables.ReportBase.{ReportBase}
use Rattle.hal_values.specs.declared.tables.ReportName.{ReportName}
use Rattle.hal_values.specs.ReportElements.{size_of}
use Rattle.hal_code.specs.declared.image.ImageParts.{ImageParts}
use Rattle.hal_code.specs.Right.{copies_of, elements_there, name_right}
use Rattle.hal_meaning.specs.Elements.{Component, Shape, count, copy_size, kinds_of}
use Rattle.hal_meaning.specs.ReportNames.{rows_from, rows_of_shape}
use Rattle.hal_fit_calls.specs.Each.{Each}
use Rattle.hal_right_images.proofs.rows.Filled.{product_some}
use Rattle.hal_right_images.proofs.rows.Formed.{AreCopies, HasSizes}
use Rattle.hal_right_images.proofs.rows.Lines.{counted_first, kinds_long, shown_copies, shown_times, size_product}

-- a row of elements that lie among so many from a number on
pub record LiesAmong (from : ReportBase) (first many : ℕ) (name : ReportName) : Type 0 where
  pub its : name.base ≡ from
  pub low : first ≤ name.first
  pub some : 0 < size_of name.dimensions
  pub fits : (copy : ℕ) → copy < copies_of name → (name.first + copy * name.stride) + size_of name.dimensions ≤ first + many

rows_among : (name : List ℕ) (from : ReportBase) (first before copies stride : ℕ) (cs : List Component) → Each HasSizes cs → before + copy_size cs ≤ stride
    → Each (LiesAmong from first (shown_times copies * stride)) (rows_from name from (first + before) copies stride cs)
rows_among name from first before copies stride [] sizes fits = tt
rows_among name from first before copies stride (c ∷ cs) sizes fits =
    let size = counted_first c cs in
    let next : copy_size (c ∷ []) + (first + before) ≡ first + (before + count c) = (let one = counted_first c [] in omega (arith, one)) in (
      record {
        its = refl;
        low = omega arith;
        some = (let one = product_some c.sizes sizes.0 in let same = size_product c.sizes in omega (arith, one, same));
        fits = λ copy less.
            let most = mul-le (suc copy) stride (shown_times copies) stride (omega (arith, less)) (omega arith) in
            let steps = suc-mul copy stride in
            let elements = size_product c.sizes in
            omega (arith, most, steps, elements, size, fits);
      },
      subst (λ n. Each (LiesAmong from first (shown_times copies * stride)) (rows_from name from n copies stride cs)) (sym next)
          (rows_among name from first (before + count c) copies stride cs sizes.1 (omega (arith, fits, size))),
    )

pub shape_among : (name : List ℕ) (from : ReportBase) (first : ℕ) (shape : Shape) → AreCopies shape.copies → Each HasSizes shape.components → Each (LiesAmong from first (length (kinds_of shape))) (rows_of_shape name from first shape)
shape_among name from first shape are sizes =
    let many : shown_times (unwrap_or shape.copies 0) * copy_size shape.components ≡ length (kinds_of shape) = ap (λ n. n * copy_size shape.components) (shown_copies shape.copies are) ∙ sym (kinds_long shape) in
    subst (λ n. Each (LiesAmong from first n) (rows_of_shape name from first shape)) many
    (let same : first + 0 ≡ first = omega arith in
    subst (λ n. Each (LiesAmong from first (shown_times (unwrap_or shape.copies 0) * copy_size shape.components)) (rows_from name from n (unwrap_or shape.copies 0) (copy_size shape.components) shape.components)) same
    (rows_among name from first 0 (unwrap_or shape.copies 0) (copy_size shape.components) shape.components sizes (omega arith)))

-- a test of all numbers from one on
all_numbers : (test : ℕ → Bool) (first many limit : ℕ) → first + many ≤ limit → ((n : ℕ) → n < limit → test n ≡ true) → list_all test (range_with_len first many) ≡ true
all_numbers test first zero limit low all = refl
all_numbers test first (suc many) limit low all =
    and_from (test first) (list_all test (range_with_len (first + 1) many)) (all first (omega (arith, low))) (all_numbers test (first + 1) many limit (omega (arith, low)) all)

-- a row is right where so many elements are there from each number on
pub row_right : (image : ImageParts) (from : ReportBase) (first many : ℕ) (name : ReportName) → LiesAmong from first many name
    → ((at size : ℕ) → first ≤ at → at + size ≤ first + many → 0 < size → elements_there image name at size ≡ true) → name_right image name ≡ true
row_right image from first many name lies there =
    all_numbers (λ copy. elements_there image name (name.first + copy * name.stride) (size_of name.dimensions)) 0 (copies_of name) (copies_of name) (omega arith)
    (λ copy less. let fits = lies.fits copy less in let low = lies.low in there (name.first + copy * name.stride) (size_of name.dimensions) (omega (arith, low)) fits lies.some)
