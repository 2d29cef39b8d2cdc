-- Code that asks nothing, put together.
use Rattle.std.specs.Prelude.{◌≡◌, ◌≤◌, ◌<◌, ℕ, suc, nat_lt, Bool, true, false, not, ◌&&◌, List, [], ◌∷◌, Some, slice_get, unwrap_or}
use Rattle.std.proofs.Common.{refl, ap, sym, subst, ◌∙◌, arith}
use Rattle.std.proofs.lemmas.Bool.{and_parts}
use Rattle.hal_code.specs.declared.image.ImageParts.{ImageParts}
use Rattle.hal_code.specs.declared.instr.Instr.{Instr}
use Rattle.hal_code.specs.declared.instr.Instr.TheVariants as instr
use Rattle.hal_code.specs.Blocks.{leads_out}
use Rattle.hal_code.specs.Effects.{Sorts}
use Rattle.hal_code.specs.Operands.{operands_right}
use Rattle.hal_fitting.specs.Fitting.{Ground, goes_on, stands_there, suits, FitsBy, Fits}
use Rattle.hal_fit.specs.Quiet.{IsQuiet}
use Rattle.hal_fit.proofs.Updating.{before_or_behind}

not_true : (b : Bool) → not b ≡ true → b ≡ false
not_true true is = absurd (cc)
not_true false is = refl

-- an instruction that stands inside of an UPDATE block and goes on asks nothing
inside_quiet : (out : List Bool) (i : Instr) → stands_there out true i ≡ true → goes_on i ≡ true → leads_out out i ≡ false
inside_quiet out (instr.Call callee) stands onward = not_true (unwrap_or (slice_get out callee) false) stands
inside_quiet out (instr.Event e) stands onward = absurd (cc)
inside_quiet out instr.Begin stands onward = absurd (cc)
inside_quiet out instr.Finish stands onward = absurd (cc)
inside_quiet out (instr.Schedule process start priority dependent round limit) stands onward = absurd (cc)
inside_quiet out (instr.Cancel process) stands onward = absurd (cc)
inside_quiet out (instr.Terminate process) stands onward = absurd (cc)
inside_quiet out (instr.Wait delay) stands onward = absurd (cc)
inside_quiet out (instr.Signal e) stands onward = absurd (cc)
inside_quiet out (instr.Set e) stands onward = absurd (cc)
inside_quiet out (instr.Reset e) stands onward = absurd (cc)
inside_quiet out (instr.Priority process) stands onward = absurd (cc)
inside_quiet out instr.Item stands onward = absurd (cc)
inside_quiet out (instr.Print channel) stands onward = absurd (cc)
inside_quiet out (instr.Input channel kind target) stands onward = absurd (cc)
inside_quiet out instr.Now stands onward = absurd (cc)
inside_quiet out (instr.Open groups) stands onward = absurd (cc)
inside_quiet out instr.Close stands onward = absurd (cc)
inside_quiet out other stands onward = refl

suited_quiet : (image : ImageParts) (g : Ground) (i : Instr) → g.inside ≡ true → suits image g i ≡ true → leads_out g.out i ≡ false
suited_quiet image g i inside suit =
    let parts = and_parts (operands_right image g.block g.number i && stands_there g.out g.inside i) (goes_on i) suit in
    let stands = and_parts (operands_right image g.block g.number i) (stands_there g.out g.inside i) parts.0 in
    inside_quiet g.out i (ap (λ b. stands_there g.out b i) (sym inside) ∙ stands.1) parts.1

module _ (image : ImageParts) (out : List Bool) where
  pub nothing_quiet : {from to : ℕ} → from ≡ to → IsQuiet image out from to
  nothing_quiet {from} {to} same = record { onward = omega (arith, same); each = λ n i low high has. absurd (omega (arith, same, low, high)) }

  -- one instruction
  pub one_quiet : {from to : ℕ} (i : Instr) → slice_get image.code from ≡ Some i → leads_out out i ≡ false → suc from ≡ to → IsQuiet image out from to
  one_quiet {from} {to} i there quiet behind = record {
    onward = omega (arith, behind);
    each = λ n j low high has.
        let here : n ≡ from = omega (arith, behind, low, high) in
        let twice : Some i ≡ Some j = sym there ∙ (ap (slice_get image.code) (sym here) ∙ has) in
        let same : i ≡ j = cc in
        ap (leads_out out) (sym same) ∙ quiet;
  }

  -- one part behind the other
  pub both_quiet : {from middle to : ℕ} → IsQuiet image out from middle → IsQuiet image out middle to → IsQuiet image out from to
  both_quiet {from} {middle} {to} first second = record {
    onward = let one = first.onward in let other = second.onward in omega (arith, one, other);
    each = λ n i low high has.
        before_or_behind n middle (nat_lt n middle) refl (leads_out out i ≡ false) (λ before. first.each n i low before has) (λ behind. second.each n i behind high has);
  }

-- code that fits inside of an UPDATE block
fits_by : (image : ImageParts) (g : Ground) (is : List Instr) (from to : ℕ) (stack after : Sorts) → g.inside ≡ true → FitsBy image g is from stack to after → IsQuiet image g.out from to
fits_by image g [] from to stack after inside fits = nothing_quiet image g.out fits.0
fits_by image g (i ∷ is) from to stack after inside fits =
    both_quiet image g.out (one_quiet image g.out i fits.0 (suited_quiet image g i inside fits.1) refl) (fits_by image g is (suc from) to fits.2.0 after inside fits.2.2)

pub fits_quiet : (image : ImageParts) (g : Ground) {from to : ℕ} {stack after : Sorts} → g.inside ≡ true → Fits image g from stack to after → IsQuiet image g.out from to
fits_quiet image g {from} {to} {stack} {after} inside fits = fits_by image g fits.is from to stack after inside fits.each
