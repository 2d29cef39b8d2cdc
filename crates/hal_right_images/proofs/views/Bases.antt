-- Where the bases of views begin, and how many elements lie before them.
use Rattle.std.specs.Prelude.{◌≡◌, ◌<◌, ◌+◌, ℕ, nat_lt, Bool, true, false, Some, None, if◌then◌else◌}
use Rattle.std.specs.Option.{option_map}
use Rattle.std.proofs.Common.{refl, sym, ap, ◌∙◌, arith}
use Rattle.std.proofs.lemmas.Bool.{ltb-true}
use Rattle.hal_code.specs.declared.row.Base.{Base}
use Rattle.hal_code.specs.declared.row.Base.TheVariants as base
use Rattle.hal_meaning.specs.Places.{Storing, InCells, InPlaces, ByReference, Unstored}
use Rattle.hal_meaning.specs.ReportNames.{first_cell, first_place}
use Rattle.hal_agreement.specs.Sites.{Site}
use Rattle.hal_gen_expr.specs.Numbering.{below, most, base_of}
use Rattle.hal_gen_expr.proofs.Numbered.{below_is, mapped_is, then_is}

below_low : (limit k m : ℕ) → below limit k ≡ Some m → k < limit
below_low limit k m = by (nat_lt k limit) refl where
  by : (b : Bool) → nat_lt k limit ≡ b → (if b then Some k else None) ≡ Some m → k < limit
  by true low is = ltb-true k limit low
  by false low is = absurd (cc)

module _ (site : Site) where
  -- fewer elements lie before than are counted
  pub base_low : (k at : ℕ) (way : Storing) (from : Base) → base_of site k at way ≡ Some from → at < most
  base_low k at (InCells group) from is =
      let low = mapped_is base.Shared (below most (first_cell site.set.phrases site.set.constants k + at)) from is in
      let less = below_low most (first_cell site.set.phrases site.set.constants k + at) low.0 low.1 in
      omega (arith, less)
  base_low k at InPlaces from is =
      let low = mapped_is base.Own (below most (first_place site.places k + at)) from is in
      let less = below_low most (first_place site.places k + at) low.0 low.1 in
      omega (arith, less)
  base_low k at ByReference from is =
      let place = then_is (λ p. option_map (base.Through p) (below most at)) (below most (first_place site.places k)) from is in
      let low = mapped_is (base.Through place.0) (below most at) from place.2 in
      below_low most at low.0 low.1
  base_low k at Unstored from is = absurd (cc)

  -- where it begins
  pub base_shared : (group k at : ℕ) (from : Base) → base_of site k at (InCells group) ≡ Some from → from ≡ base.Shared (first_cell site.set.phrases site.set.constants k + at)
  base_shared group k at from is =
      let low = mapped_is base.Shared (below most (first_cell site.set.phrases site.set.constants k + at)) from is in
      sym low.2 ∙ ap base.Shared (sym (below_is most (first_cell site.set.phrases site.set.constants k + at) low.0 low.1))

  pub base_own : (k at : ℕ) (from : Base) → base_of site k at InPlaces ≡ Some from → from ≡ base.Own (first_place site.places k + at)
  base_own k at from is =
      let low = mapped_is base.Own (below most (first_place site.places k + at)) from is in
      sym low.2 ∙ ap base.Own (sym (below_is most (first_place site.places k + at) low.0 low.1))

  pub base_through : (k at : ℕ) (from : Base) → base_of site k at ByReference ≡ Some from → from ≡ base.Through (first_place site.places k) at
  base_through k at from is =
      let place = then_is (λ p. option_map (base.Through p) (below most at)) (below most (first_place site.places k)) from is in
      let low = mapped_is (base.Through place.0) (below most at) from place.2 in
      sym low.2 ∙ (ap (base.Through place.0) (sym (below_is most at low.0 low.1)) ∙ ap (λ p. base.Through p at) (sym (below_is most (first_place site.places k) place.0 place.1)))
