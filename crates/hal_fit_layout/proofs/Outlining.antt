-- What the outline of a process says: its unit, and the units that it calls.
use Rattle.std.specs.Prelude.{◌≡◌, ℕ, zero, suc, ◌+◌, List, [], ◌∷◌, length, Some, slice_get}
use Rattle.std.proofs.Common.{refl, subst}
use Rattle.hal_code.specs.declared.row.View.{View}
use Rattle.hal_meaning.specs.Bodies.{processes_of}
use Rattle.hal_meaning.specs.Sets.{Set}
use Rattle.hal_link.specs.KnownBlocks.{numbers}
use Rattle.hal_link.specs.Outlines.{Rank, Outline, own_block, outlined, ranks_of, called_from, outlines_from, outlines_of}
use Rattle.hal_link.proofs.Outlined.{outlined_at}
use Rattle.hal_fit_layout.proofs.Called.{Reaches, from_called, called_reaches}
use Rattle.hal_link.specs.Shapes.{shapes_of}
use Rattle.hal_fit_layout.proofs.Ordered.{numbered}

-- its unit is that of the process
pub unit_is : (s : Set) (process : ℕ) (o : Outline) → slice_get (outlines_of s) process ≡ Some o → slice_get (processes_of s.phrases) process ≡ Some o.unit
unit_is s process o there = (outlined_at (ranks_of s.phrases) (processes_of s.phrases) 0 0 process o there).1

-- the units that it calls are in the order of their ranks
pub called_in_order : (ranks : List Rank) (ks : List ℕ) (p first q : ℕ) (o : Outline) → slice_get (outlines_from ranks p first ks) q ≡ Some o → o.called ≡ called_from o.unit (length ranks) ranks
unfolding outlines_from
called_in_order ranks [] p first q o is = absurd (cc)
called_in_order ranks (k ∷ ks) p first zero o is =
    subst (λ (x : Outline). x.called ≡ called_from x.unit (length ranks) ranks) (let same : outlined ranks p first k ≡ o = cc in same) refl
called_in_order ranks (k ∷ ks) p first (suc q) o is = called_in_order ranks ks (p + 1) (own_block (outlined ranks p first k) + 1) q o is

pub called_are : (s : Set) (process : ℕ) (o : Outline) → slice_get (outlines_of s) process ≡ Some o → o.called ≡ called_from o.unit (length (ranks_of s.phrases)) (ranks_of s.phrases)
called_are s process o there = called_in_order (ranks_of s.phrases) (processes_of s.phrases) 0 0 process o there

-- a unit with a block is one that the process reaches
pub numbered_reaches : (s : Set) (views : List View) (process : ℕ) (o : Outline) (unit callee : ℕ) → slice_get (outlines_of s) process ≡ Some o → numbers s views o unit ≡ Some callee → Reaches s.phrases o.unit unit
numbered_reaches s views process o unit callee there is =
    let found = numbered o (shapes_of s) views unit callee is in
    called_reaches s.phrases o.unit unit
    (from_called o.unit (length (ranks_of s.phrases)) (ranks_of s.phrases) found.place unit (subst (λ l. slice_get l found.place ≡ Some unit) (called_are s process o there) found.there))
