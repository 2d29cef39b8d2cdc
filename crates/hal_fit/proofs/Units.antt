-- The code of a unit that is called is right, from its CLEAR instructions to its last RETURN.
use Rattle.std.specs.Prelude.{◌≡◌, ◌<◌, ℕ, suc, pos, ◌+◌, ◌==◌, nat_lt, length, Bool, true, false, not, ◌&&◌, List, [], ◌∷◌, Some, None, slice_get}
use Rattle.std.proofs.Common.{refl, sym, ap, subst, ◌∙◌, arith}
use Rattle.std.proofs.lemmas.Option.{slice_get_within}
use Rattle.hal_values.specs.declared.value.Value.{Value}
use Rattle.hal_values.specs.declared.value.Value.TheVariants as value
use Rattle.hal_meaning.specs.Bodies.{Body}
use Rattle.hal_meaning.specs.Calls.{zero_of, is_function}
use Rattle.hal_meaning.specs.Places.{Place}
use Rattle.hal_meaning.specs.Sets.{Set}
use Rattle.hal_code.specs.declared.choice.Choice.{Choice}
use Rattle.hal_code.specs.declared.choice.Choice.TheVariants as choice
use Rattle.hal_code.specs.declared.instr.Instr.TheVariants as instr
use Rattle.hal_code.specs.declared.row.ResultKind.{ResultKind}
use Rattle.hal_code.specs.declared.row.ResultKind.TheVariants as result
use Rattle.hal_code.specs.Blocks.{is_of_process}
use Rattle.hal_code.specs.Controlling as machine
use Rattle.hal_code.specs.Effects.{Sorts, returned_sorts}
use Rattle.hal_code.specs.Flow.{part_at, is_inside}
use Rattle.hal_code.specs.Operands.{is_known}
use Rattle.hal_code.specs.Right.{is_last}
use Rattle.hal_code.specs.Sorts.{Sort, I, B, T}
use Rattle.hal_sound_code.proofs.Flows.{part_onward}
use Rattle.hal_agreement.specs.Codes.{Code}
use Rattle.hal_agreement.specs.PlacedStatements.{of_block}
use Rattle.hal_agreement.specs.PlacedBlocks.{ClearsAt, leaving_by, EndAt, unit_site, UnitAt}
use Rattle.hal_fitting.specs.Fitting.{Ground, Fits, ground_flow, IsRightAt}
use Rattle.hal_fitting.specs.Leading.{Comes, end_of, standing, Leads}
use Rattle.hal_fitting.proofs.Joining.{nothing_fits, modest_fits, both_fit}
use Rattle.hal_fitting.proofs.Passing.{part_read}
use Rattle.hal_fitting.proofs.Stepping.{right_step}
use Rattle.hal_fitting.proofs.Leading.{fits_lead, both_lead}
use Rattle.hal_fit_expr.specs.Uses.{Uses}
use Rattle.hal_fit_expr.specs.Sorted.{sort_of_value}
use Rattle.hal_fit_expr.proofs.Leaves.{value_fits}
use Rattle.hal_fit.specs.Ending.{ClearsFit, end_behind}
use Rattle.hal_fit.specs.Jumping.{Asked, MayLeave}
use Rattle.hal_fit.specs.Stating.{StatementsFit}
use Rattle.hal_fit.specs.Supporting.{Supports}
use Rattle.hal_fit.proofs.Combining.{found_there}
use Rattle.hal_fit.proofs.Processes.{block_long, first_stack, first_part, is_so}
use Rattle.hal_fit.proofs.Stating.{statements_lead}
use Rattle.hal_fit.proofs.Updating.{before_or_behind}

-- what a block gives is what its RETURN finds
nothing_given : (r : Choice ResultKind) → machine.zero_of r ≡ None → is_known r ≡ true → returned_sorts r [] ≡ Some []
nothing_given (choice.Known result.Nothing) none known = refl
nothing_given (choice.Known result.Integer) none known = absurd (cc)
nothing_given (choice.Known result.Bits) none known = absurd (cc)
nothing_given (choice.Known result.Text) none known = absurd (cc)
nothing_given (choice.Other byte) none known = absurd (cc)

record Given (r : Choice ResultKind) (v : Value) : Type 0 where
  sort : Sort
  sorted : sort_of_value v ≡ Some sort
  taken : returned_sorts r (sort ∷ []) ≡ Some []

zero_given : (r : Choice ResultKind) (v : Value) → machine.zero_of r ≡ Some v → Given r v
zero_given (choice.Known result.Nothing) v is = absurd (cc)
zero_given (choice.Known result.Integer) v is = record { sort = I; sorted = ap sort_of_value (let same : v ≡ value.Int (pos 0) = cc in same); taken = refl }
zero_given (choice.Known result.Bits) v is = record { sort = B; sorted = ap sort_of_value (let same : v ≡ value.Bits 1 0 = cc in same); taken = refl }
zero_given (choice.Known result.Text) v is = record { sort = T; sorted = ap sort_of_value (let same : v ≡ value.Text [] = cc in same); taken = refl }
zero_given (choice.Other byte) v is = absurd (cc)

not_both : (b : Bool) → b ≡ false → b ≡ true → 0 < 0
not_both b no_so yes_so = absurd (cc)

-- a block that no process has, whose code leads from its first instruction to a RETURN, which is its last one
module _ (code : Code) (g : Ground) (called : is_of_process code.image g.number ≡ false) (Asking : Type 0) (given : Asking) (last : ℕ) (stack left : Sorts) (leads : Leads code.image g Asking None g.block.first [] last stack)
    (returns : slice_get code.image.code last ≡ Some instr.Return) (gives : returned_sorts g.block.result stack ≡ Some left) (ends : g.block.end ≡ suc last) where
  long : g.block.first + length (ground_flow code.image g).code ≡ suc last
  long =
      let onward = leads.onward in
      let within = slice_get_within code.image.code last instr.Return returns in
      block_long code.image g.block (omega (arith, onward, ends)) (omega (arith, within, ends)) ∙ ends

  some : 0 < length (ground_flow code.image g).code
  some = let counted = long in let onward = leads.onward in omega (arith, counted, onward)

  comes : Comes code.image g g.block.first [] None
  comes = record {
    place = 0;
    there = omega arith;
    late = λ own. not_both (is_of_process code.image g.number) called own;
    within = some;
    reached = record { sorts = first_stack code.image g.block g.number (ground_flow code.image g).code some; stands = first_part (ground_flow code.image g).code };
  }

  low : last < end_of code.image g
  low = let counted = long in omega (arith, counted)

  last_comes : Comes code.image g last stack None
  last_comes = leads.comes comes low

  last_found : slice_get (ground_flow code.image g).code last_comes.place ≡ Some instr.Return
  last_found = found_there code.image g None instr.Return last last_comes.place returns last_comes.there last_comes.within

  outside_behind : part_at (ground_flow code.image g) (suc last_comes.place) ≡ None
  outside_behind =
      let next = part_onward 0 (ground_flow code.image g).code None last_comes.place instr.Return last_found in
      sym (part_read (slice_get (ground_flow code.image g).parts (suc last_comes.place)))
      ∙ (next.1 ∙ (part_read (slice_get (ground_flow code.image g).parts last_comes.place) ∙ last_comes.reached.stands))

  last_right : IsRightAt code.image g.out (ground_flow code.image g) last_comes.place
  last_right =
      right_step code.image g last_comes.place instr.Return stack left None last_found last_comes.reached refl gives refl
      (ap (λ b. not b) called) refl
      (is_so (suc last_comes.place == length (ground_flow code.image g).code) (is_last instr.Return && not (is_inside (part_at (ground_flow code.image g) (suc last_comes.place))))
      (ap (λ part. not (is_inside part)) outside_behind))

  one_right : (n : ℕ) → n < length (ground_flow code.image g).code → IsRightAt code.image g.out (ground_flow code.image g) n
  one_right n within =
      before_or_behind (g.block.first + n) last (nat_lt (g.block.first + n) last) refl (IsRightAt code.image g.out (ground_flow code.image g) n)
      (λ inside. leads.right comes low given n (omega arith) inside)
      (λ over. subst (λ k. IsRightAt code.image g.out (ground_flow code.image g) k)
      (let same : last_comes.place ≡ n = let there = last_comes.there in let counted = long in omega (arith, there, counted, over, within) in same) last_right)

  block_right : (n : ℕ) → IsRightAt code.image g.out (ground_flow code.image g) n
  block_right n i st found sorts = one_right n (slice_get_within (ground_flow code.image g).code n i found) i st found sorts

clears_fit : (code : Code) (g : Ground) (clears : List (ℕ × ℕ)) (from to : ℕ) → ClearsFit code.image g.block clears → ClearsAt code clears from to → Fits code.image g from [] to []
clears_fit code g [] from to fits at = nothing_fits code.image g from to [] at
clears_fit code g (one ∷ others) from to fits at =
    both_fit code.image g (modest_fits code.image g (instr.Clear one.0 one.1) from [] [] at.0 refl fits.0 refl) (clears_fit code g others (suc from) to fits.1 at.1)

module _ (code : Code) (g : Ground) (u : Bool → Uses) (s : Set) (places : List Place) (b : Body) (at : UnitAt code s places b g.block) (supports : Supports code g s places u) (called : is_of_process code.image g.number ≡ false)
    (there : slice_get code.image.blocks g.number ≡ Some g.block) (clears : ClearsFit code.image g.block at.clears) (fits : StatementsFit code.image g u false (unit_site s places b) 0 b.statements) where
  -- nothing is asked of a block that goes back
  nothing_asked : (f : Bool) → Asked code.image g None (of_block (leaving_by f) at.handler) at.finish
  nothing_asked true = record { leaves = λ label target is. absurd (cc); repeats = λ label target is. absurd (cc); finishes = λ target is. absurd (cc) }
  nothing_asked false = record { leaves = λ label target is. absurd (cc); repeats = λ label target is. absurd (cc); finishes = λ target is. absurd (cc) }

  may_leave : (f : Bool) → EndAt code f b.head g.block at.finish → MayLeave code.image (standing None g) (leaving_by f)
  may_leave true ends = (refl, called)
  may_leave false ends = (refl, called, [], nothing_given g.block.result ends.1 (supports.results g.number g.block there))

  -- CLEAR instructions, and the statements
  body_leads : Leads code.image g (Asked code.image g None (of_block (leaving_by (is_function b.head)) at.handler) at.finish) None g.block.first [] at.finish []
  body_leads =
      both_lead code.image g (Asked code.image g None (of_block (leaving_by (is_function b.head)) at.handler) at.finish) None
      (fits_lead code.image g (Asked code.image g None (of_block (leaving_by (is_function b.head)) at.handler) at.finish) None g.block.first at.start [] []
      (clears_fit code (standing None g) at.clears g.block.first at.start clears at.begins))
      (statements_lead code g u b.statements None (unit_site s places b) (of_block (leaving_by (is_function b.head)) at.handler) 0 at.start at.finish
      (record { supports = supports; may = may_leave (is_function b.head) at.ends }) fits at.statements)

  -- and the end
  ended : (Asking : Type 0) (f : Bool) → Asking → Leads code.image g Asking None g.block.first [] at.finish [] → EndAt code f b.head g.block at.finish → g.block.end ≡ end_behind f at.finish → (n : ℕ)
      → IsRightAt code.image g.out (ground_flow code.image g) n
  ended Asking false given leads ends behind n =
      block_right code g called Asking given at.finish [] [] leads ends.0 (nothing_given g.block.result ends.1 (supports.results g.number g.block there)) behind n
  ended Asking true given leads ends behind n =
      let zero_value = zero_given g.block.result (zero_of b.head) ends.3 in
      block_right code g called Asking given (suc (suc at.finish)) (zero_value.sort ∷ []) []
      (both_lead code.image g Asking None leads
      (fits_lead code.image g Asking None at.finish (suc (suc at.finish)) [] (zero_value.sort ∷ [])
      (both_fit code.image (standing None g) (modest_fits code.image (standing None g) (instr.Raise 1 7) at.finish [] [] ends.0 refl refl refl)
      (value_fits code (standing None g) (zero_of b.head) zero_value.sort (suc at.finish) (suc (suc at.finish)) [] zero_value.sorted (ends.1, refl)))))
      ends.2 zero_value.taken behind n

  pub unit_right : g.block.end ≡ end_behind (is_function b.head) at.finish → (n : ℕ) → IsRightAt code.image g.out (ground_flow code.image g) n
  unit_right behind n =
      ended (Asked code.image g None (of_block (leaving_by (is_function b.head)) at.handler) at.finish) (is_function b.head) (nothing_asked (is_function b.head)) body_leads at.ends behind n
