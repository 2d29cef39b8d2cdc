-- Blocks one after another.
use Rattle.std.specs.Prelude.{ℕ, List, ◌∷◌, Result, Err}
use Rattle.std.proofs.Common.{◌≡◌, sym, ap, subst, ◌∙◌}
use Rattle.hal_code.specs.declared.instr.Instr.{Instr}
use Rattle.hal_code.specs.declared.row.Block.{Block}
use Rattle.hal_code.specs.declared.row.View.{View}
use Rattle.hal_meaning.specs.Sets.{Set, body_at}
use Rattle.hal_gen_expr.specs.Numbering.{Numbering}
use Rattle.hal_link.specs.declared.unlinked.Unlinked.{Unlinked}
use Rattle.hal_link.specs.declared.unlinked.Unlinked.TheVariants as unlinked
use Rattle.hal_link.specs.Links.{Links}
use Rattle.hal_link.specs.Linking.{Linked, Linking, and_then, with_unit, with_units, with_outline, with_outlines}
use Rattle.hal_link.specs.Outlines.{Outline}
use Rattle.hal_link.specs.Shapes.{Shapes}

-- what stops those behind it
stopped_by : (T U : Type 0) (e : Linking) (next : Linked → Linking) (u : Unlinked) (code after : List Instr) (blocks later : List Block) → Links {T = T} e (Err u) code blocks → Links {T = U} (and_then e next) (Err u) after later
stopped_by T U e next (unlinked.At place) code after blocks later there = ap (λ given. and_then given next) there
stopped_by T U e next unlinked.Lost code after blocks later there = ap (λ given. and_then given next) there
stopped_by T U e next unlinked.Wide code after blocks later there = absurd there
stopped_by T U e next (unlinked.Memory error) code after blocks later there = tt

pub stopped : (T U : Type 0) (e all : Linking) (next : Linked → Linking) (u : Unlinked) (q : Result T Unlinked) (r : Result U Unlinked) (code after : List Instr) (blocks later : List Block)
    → and_then e next ≡ all → q ≡ Err u → r ≡ Err u → Links e q code blocks → Links all r after later
stopped T U e all next u q r code after blocks later whole failed is there =
    subst (λ (one : Result U Unlinked). Links all one after later) (sym is)
    (subst (λ x. Links {T = U} x (Err u) after later) whole
    (stopped_by T U e next u code after blocks later (subst (λ (one : Result T Unlinked). Links e one code blocks) failed there)))

-- a unit that stops those behind it
pub units_stopped : (T U : Type 0) (s : Set) (n : Numbering) (p k : ℕ) (ks units : List ℕ) (so_far : Linked) (all : Linking) (u : Unlinked) (q : Result T Unlinked) (r : Result U Unlinked) (code after : List Instr) (blocks later : List Block)
    → units ≡ k ∷ ks → with_units s n p units so_far ≡ all → q ≡ Err u → r ≡ Err u → Links (with_unit s n p so_far (body_at s k)) q code blocks → Links all r after later
unfolding with_units
units_stopped T U s n p k ks units so_far all u q r code after blocks later split kept failed is there =
    let here : and_then (with_unit s n p so_far (body_at s k)) (with_units s n p ks) ≡ all = ap (λ list. with_units s n p list so_far) (sym split) ∙ kept in
    stopped T U (with_unit s n p so_far (body_at s k)) all (with_units s n p ks) u q r code after blocks later here failed is there

-- a process that does
pub outlines_stopped : (T U : Type 0) (s : Set) (shapes : Shapes) (views : List View) (o : Outline) (os outlines : List Outline) (so_far : Linked) (all : Linking) (u : Unlinked) (q : Result T Unlinked) (r : Result U Unlinked) (code after : List Instr) (blocks later : List Block)
    → outlines ≡ o ∷ os → with_outlines s shapes views outlines so_far ≡ all → q ≡ Err u → r ≡ Err u → Links (with_outline s shapes views o so_far) q code blocks → Links all r after later
unfolding with_outlines
outlines_stopped T U s shapes views o os outlines so_far all u q r code after blocks later split kept failed is there =
    let here : and_then (with_outline s shapes views o so_far) (with_outlines s shapes views os) ≡ all = ap (λ list. with_outlines s shapes views list so_far) (sym split) ∙ kept in
    stopped T U (with_outline s shapes views o so_far) all (with_outlines s shapes views os) u q r code after blocks later here failed is there
