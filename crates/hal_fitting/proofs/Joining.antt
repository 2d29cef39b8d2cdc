-- Code that fits, put together.
use Rattle.std.specs.Prelude.{◌≡◌, ℕ, suc, Bool, true, false, not, ◌&&◌, List, [], ◌∷◌, ◌++◌, Some, slice_get}
use Rattle.std.proofs.Common.{refl, subst, ap, ◌∙◌}
use Rattle.hal_code.specs.declared.image.ImageParts.{ImageParts}
use Rattle.hal_code.specs.declared.instr.Instr.{Instr}
use Rattle.hal_code.specs.declared.instr.Instr.TheVariants as instr
use Rattle.hal_code.specs.Effects.{Sorts, sorts_after}
use Rattle.hal_code.specs.Operands.{operands_right}
use Rattle.hal_code.specs.Right.{stands_right, stands_outside}
use Rattle.hal_fitting.specs.Fitting.{Ground, goes_on, adds_item, stands_there, suits, FitsBy, Fits}

-- an instruction that may stand in any place between a block's ends
abbrev pub is_modest : Instr → Bool
is_modest (instr.Int n) = true
is_modest (instr.Bits len word) = true
is_modest (instr.Text text) = true
is_modest (instr.Cell view) = true
is_modest (instr.Whole view) = true
is_modest instr.Fetch = true
is_modest instr.Peek = true
is_modest instr.Keep = true
is_modest instr.Dup = true
is_modest instr.Drop = true
is_modest (instr.Op1 op) = true
is_modest (instr.Op2 op) = true
is_modest (instr.Len depth) = true
is_modest (instr.Pick places) = true
is_modest (instr.Patch places) = true
is_modest instr.ErrGrp = true
is_modest instr.ErrNum = true
is_modest (instr.Bind place) = true
is_modest (instr.Copy place) = true
is_modest (instr.Clear place count) = true
is_modest (instr.Raise group number) = true
is_modest (instr.Off group number) = true
is_modest instr.Next = true
is_modest other = false

modest_outside : (i : Instr) → is_modest i ≡ true → stands_outside i ≡ true
modest_outside instr.Close is = absurd (cc)
modest_outside other is = refl

-- outside of UPDATE blocks, ITEM stands too
pub outside_there : (out : List Bool) (i : Instr) → stands_outside i ≡ true → stands_there out false i ≡ true
outside_there out instr.Item stands = refl
outside_there out other stands = stands

modest_stands : (out : List Bool) (inside : Bool) (i : Instr) → is_modest i ≡ true → stands_there out inside i ≡ true
modest_stands out false i is = outside_there out i (modest_outside i is)
modest_stands out true (instr.Int n) is = refl
modest_stands out true (instr.Bits len word) is = refl
modest_stands out true (instr.Text text) is = refl
modest_stands out true (instr.Cell view) is = refl
modest_stands out true (instr.Whole view) is = refl
modest_stands out true instr.Fetch is = refl
modest_stands out true instr.Peek is = refl
modest_stands out true instr.Keep is = refl
modest_stands out true instr.Dup is = refl
modest_stands out true instr.Drop is = refl
modest_stands out true (instr.Op1 op) is = refl
modest_stands out true (instr.Op2 op) is = refl
modest_stands out true (instr.Len depth) is = refl
modest_stands out true (instr.Pick places) is = refl
modest_stands out true (instr.Patch places) is = refl
modest_stands out true instr.ErrGrp is = refl
modest_stands out true instr.ErrNum is = refl
modest_stands out true (instr.Bind place) is = refl
modest_stands out true (instr.Copy place) is = refl
modest_stands out true (instr.Clear place count) is = refl
modest_stands out true (instr.Raise group number) is = refl
modest_stands out true (instr.Off group number) is = refl
modest_stands out true instr.Next is = refl
modest_stands out true other is = absurd (cc)

modest_goes_on : (i : Instr) → is_modest i ≡ true → goes_on i ≡ true
modest_goes_on (instr.Jump target) is = absurd (cc)
modest_goes_on (instr.JumpNot target) is = absurd (cc)
modest_goes_on (instr.Turn target) is = absurd (cc)
modest_goes_on instr.Return is = absurd (cc)
modest_goes_on (instr.On group number response change event target) is = absurd (cc)
modest_goes_on instr.Begin is = absurd (cc)
modest_goes_on instr.Finish is = absurd (cc)
modest_goes_on (instr.Input channel kind target) is = absurd (cc)
modest_goes_on (instr.Open groups) is = absurd (cc)
modest_goes_on instr.Close is = absurd (cc)
modest_goes_on other is = refl

-- an instruction that is no ITEM
pub no_item : (out : List Bool) (inside : Bool) (i : Instr) → adds_item i ≡ false → stands_right out inside i ≡ true → stands_there out inside i ≡ true
no_item out inside i is stands = ap (λ b. not (b && inside) && stands_right out inside i) is ∙ stands

all_three : (a b c : Bool) → a ≡ true → b ≡ true → c ≡ true → ((a && b) && c) ≡ true
all_three true true true ia ib ic = refl
all_three a b c ia ib ic = absurd (cc)

module _ (image : ImageParts) (g : Ground) where
  -- no instruction
  pub nothing_fits : (from to : ℕ) (stack : Sorts) → from ≡ to → Fits image g from stack to stack
  nothing_fits from to stack same = record { is = []; each = (same, refl) }

  -- one
  pub one_fits : (i : Instr) (from : ℕ) (stack next : Sorts) → slice_get image.code from ≡ Some i → suits image g i ≡ true → sorts_after image g.block i stack ≡ Some next → Fits image g from stack (suc from) next
  one_fits i from stack next has suit effect = record { is = i ∷ []; each = (has, suit, (next, effect, (refl, refl))) }

  pub modest_suits : (i : Instr) → is_modest i ≡ true → operands_right image g.block g.number i ≡ true → suits image g i ≡ true
  modest_suits i modest operands =
      all_three (operands_right image g.block g.number i) (stands_there g.out g.inside i) (goes_on i) operands (modest_stands g.out g.inside i modest) (modest_goes_on i modest)

  pub suits_there : (i : Instr) → operands_right image g.block g.number i ≡ true → stands_there g.out g.inside i ≡ true → goes_on i ≡ true → suits image g i ≡ true
  suits_there i operands stands onward = all_three (operands_right image g.block g.number i) (stands_there g.out g.inside i) (goes_on i) operands stands onward

  pub modest_fits : (i : Instr) (from : ℕ) (stack next : Sorts) → slice_get image.code from ≡ Some i → is_modest i ≡ true → operands_right image g.block g.number i ≡ true → sorts_after image g.block i stack ≡ Some next
      → Fits image g from stack (suc from) next
  modest_fits i from stack next has modest operands effect = one_fits i from stack next has (modest_suits i modest operands) effect

  -- one behind the other
  both_by : (is js : List Instr) (from middle to : ℕ) (stack next after : Sorts) → FitsBy image g is from stack middle next → FitsBy image g js middle next to after → FitsBy image g (is ++ js) from stack to after
  both_by [] js from middle to stack next after first second =
      subst (λ m. FitsBy image g js m stack to after) (let same : middle ≡ from = cc in same) (subst (λ s. FitsBy image g js middle s to after) (let same : next ≡ stack = cc in same) second)
  both_by (i ∷ is) js from middle to stack next after first second = (first.0, first.1, (first.2.0, first.2.1, both_by is js (suc from) middle to first.2.0 next after first.2.2 second))

  pub both_fit : {from middle to : ℕ} {stack next after : Sorts} → Fits image g from stack middle next → Fits image g middle next to after → Fits image g from stack to after
  both_fit {from} {middle} {to} {stack} {next} {after} first second = record { is = first.is ++ second.is; each = both_by first.is second.is from middle to stack next after first.each second.each }

  -- up to an instruction that is the same
  pub fits_to : {from middle to : ℕ} {stack after : Sorts} → middle ≡ to → Fits image g from stack middle after → Fits image g from stack to after
  fits_to {from} {middle} {to} {stack} {after} same fits = subst (λ m. Fits image g from stack m after) same fits
