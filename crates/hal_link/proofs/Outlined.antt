-- The outlines of a set: one for each process, with the blocks one after another.
use Rattle.std.specs.Prelude.{◌≡◌, ℕ, zero, suc, ◌+◌, List, [], ◌∷◌, Some, slice_get}
use Rattle.std.proofs.Common.{refl, subst, arith}
use Rattle.hal_link.specs.Outlines.{Rank, Outline, own_block, outlined, outlines_from}

-- processes whose blocks follow each other from this number on
abbrev pub Laid : ℕ → List Outline → Type 0
Laid first [] = Unit {0}
Laid first (o ∷ os) = (o.first ≡ first) × Laid (own_block o + 1) os

pub outlines_laid : (ranks : List Rank) (p first : ℕ) (ks : List ℕ) → Laid first (outlines_from ranks p first ks)
unfolding outlines_from
outlines_laid ranks p first [] = tt
outlines_laid ranks p first (k ∷ ks) = (refl, outlines_laid ranks (p + 1) (own_block (outlined ranks p first k) + 1) ks)

-- the outline of a process
pub record Found (os : List Outline) (q p k : ℕ) : Type 0 where
  pub outline : Outline
  pub there : slice_get os q ≡ Some outline
  pub process : outline.process ≡ p
  pub unit : outline.unit ≡ k

pub outline_found : (ranks : List Rank) (ks : List ℕ) (p first q k : ℕ) → slice_get ks q ≡ Some k → Found (outlines_from ranks p first ks) q (p + q) k
unfolding outlines_from
outline_found ranks [] p first q k is = absurd (cc)
outline_found ranks (one ∷ ks) p first zero k is =
    record { outline = outlined ranks p first one; there = refl; process = omega arith; unit = let same : one ≡ k = cc in same }
outline_found ranks (one ∷ ks) p first (suc q) k is =
    let later = outline_found ranks ks (p + 1) (own_block (outlined ranks p first one) + 1) q k is in
    record { outline = later.outline; there = later.there; process = let number = later.process in omega (arith, number); unit = later.unit }

-- an outline is of the process with its place, and of the unit of this
pub outlined_at : (ranks : List Rank) (ks : List ℕ) (p first q : ℕ) (o : Outline) → slice_get (outlines_from ranks p first ks) q ≡ Some o → (o.process ≡ p + q) × (slice_get ks q ≡ Some o.unit)
unfolding outlines_from
outlined_at ranks [] p first q o is = absurd (cc)
outlined_at ranks (one ∷ ks) p first zero o is =
    let same : outlined ranks p first one ≡ o = cc in
    subst (λ (x : Outline). (x.process ≡ p + zero) × (slice_get (one ∷ ks) zero ≡ Some x.unit)) same (omega arith, refl)
outlined_at ranks (one ∷ ks) p first (suc q) o is =
    let later = outlined_at ranks ks (p + 1) (own_block (outlined ranks p first one) + 1) q o is in
    let number = later.0 in
    (omega (arith, number), later.1)
