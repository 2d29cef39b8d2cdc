-- The code of a process is right, from BEGIN to FINISH.
use Rattle.std.specs.Prelude.{◌≡◌, ◌≤◌, ◌<◌, ℕ, zero, suc, ◌+◌, ◌-◌, ◌==◌, nat_lt, length, take, drop, Bool, true, false, not, ◌&&◌, List, [], ◌∷◌, Option, Some, None, slice_get, if◌then◌else◌}
use Rattle.std.proofs.Common.{refl, sym, ap, subst, ◌∙◌, arith}
use Rattle.std.proofs.lemmas.Bool.{ne_eqb}
use Rattle.std.proofs.lemmas.Option.{slice_get_within}
use Rattle.hal_grammar.specs.Statements.{Statements}
use Rattle.hal_code.specs.declared.image.ImageParts.{ImageParts}
use Rattle.hal_code.specs.declared.instr.Instr.{Instr}
use Rattle.hal_code.specs.declared.instr.Instr.TheVariants as instr
use Rattle.hal_code.specs.declared.row.Block.{Block}
use Rattle.hal_code.specs.Blocks.{code_of, is_of_process}
use Rattle.hal_code.specs.Flow.{stacks, parts, part_at, is_inside}
use Rattle.hal_code.specs.Right.{frames_right, is_last}
use Rattle.hal_sound_code.proofs.Flows.{part_onward}
use Rattle.hal_agreement.specs.Codes.{Code}
use Rattle.hal_agreement.specs.Sites.{Site}
use Rattle.hal_agreement.specs.PlacedStatements.{ToFinish, of_block}
use Rattle.hal_agreement.specs.PlacedBlocks.{ProcessAt}
use Rattle.hal_fitting.specs.Fitting.{Ground, ground_flow, IsRightAt}
use Rattle.hal_fitting.specs.Reaching.{IsReached}
use Rattle.hal_fitting.specs.Leading.{Comes, end_of, Leads}
use Rattle.hal_fitting.proofs.Passing.{part_read, not_last, framed_there}
use Rattle.hal_fitting.proofs.Stepping.{right_step, next_reached}
use Rattle.hal_fit_expr.specs.Uses.{Uses}
use Rattle.hal_fit.specs.Jumping.{Asked}
use Rattle.hal_fit.specs.Stating.{StatementsFit}
use Rattle.hal_fit.specs.Supporting.{Supports}
use Rattle.hal_fit.proofs.Combining.{found_there}
use Rattle.hal_fit.proofs.Updating.{before_or_behind}
use Rattle.hal_fit.proofs.Stating.{statements_lead}

taken_long : {X : Type 0} (n : ℕ) (xs : List X) → n ≤ length xs → length (take n xs) ≡ n
taken_long zero xs low = refl
taken_long (suc n) [] low = absurd (omega (arith, low))
taken_long (suc n) (x ∷ xs) low = ap suc (taken_long n xs (omega (arith, low)))

dropped_long : {X : Type 0} (n : ℕ) (xs : List X) → n ≤ length xs → length (drop n xs) + n ≡ length xs
dropped_long zero xs low = omega arith
dropped_long (suc n) [] low = absurd (omega (arith, low))
dropped_long (suc n) (x ∷ xs) low = let rest = dropped_long n xs (omega (arith, low)) in omega (arith, rest)

-- a block that lies within the code has as many instructions as its row says
pub block_long : (image : ImageParts) (block : Block) → block.first ≤ block.end → block.end ≤ length image.code → block.first + length (code_of image block) ≡ block.end
block_long image block onward within =
    let whole = dropped_long block.first image.code (omega (arith, onward, within)) in
    let long = taken_long (block.end - block.first) (drop block.first image.code) (omega (arith, onward, within, whole)) in
    omega (arith, long, onward)

-- the first instruction of a block is reached with an empty stack, outside of UPDATE blocks
pub first_stack : (image : ImageParts) (block : Block) (b : ℕ) (is : List Instr) → 0 < length is → slice_get (stacks image block b is []) 0 ≡ Some []
first_stack image block b [] some = absurd (omega (arith, some))
first_stack image block b (j ∷ js) some = refl

pub first_part : (is : List Instr) → ◌≡◌ {A = Option ℕ} (elim (slice_get (parts 0 is None) 0) [ None ↦ None | Some part ↦ part ]) None
first_part [] = refl
first_part (j ∷ js) = refl

pub is_so : (b c : Bool) → c ≡ true → (if b then c else true) ≡ true
is_so true c is = is
is_so false c is = refl

module _ (code : Code) (g : Ground) (u : Bool → Uses) (site : Site) (m : ℕ) (body : Statements) (spot : ℕ → ℕ) (at : ProcessAt code g.block.first site m body spot) (ends : g.block.end ≡ suc at.finish)
    (begins : slice_get code.image.code g.block.first ≡ Some instr.Begin) (own : is_of_process code.image g.number ≡ true) (supports : Supports code g site.set site.places u) (fits : StatementsFit code.image g u false site m body) where
  leads : Leads code.image g (Asked code.image g None (of_block (ToFinish at.finish) spot) at.finish) None (suc g.block.first) [] at.finish []
  leads = statements_lead code g u body None site (of_block (ToFinish at.finish) spot) m (suc g.block.first) at.finish (record { supports = supports; may = tt }) fits at.statements

  long : g.block.first + length (ground_flow code.image g).code ≡ suc at.finish
  long =
      let onward = leads.onward in
      let within = slice_get_within code.image.code at.finish instr.Finish at.last in
      block_long code.image g.block (omega (arith, onward, ends)) (omega (arith, within, ends)) ∙ ends

  more : 1 < length (ground_flow code.image g).code
  more = let counted = long in let onward = leads.onward in omega (arith, counted, onward)

  -- BEGIN
  begin_found : slice_get (ground_flow code.image g).code 0 ≡ Some instr.Begin
  begin_found =
      found_there code.image g None instr.Begin g.block.first 0 begins (omega arith)
      (let counted = long in let onward = leads.onward in omega (arith, counted, onward))

  begin_reached : IsReached (ground_flow code.image g) 0 [] None
  begin_reached = record { sorts = first_stack code.image g.block g.number (ground_flow code.image g).code (let further = more in omega (arith, further)); stands = first_part (ground_flow code.image g).code }

  begin_right : IsRightAt code.image g.out (ground_flow code.image g) 0
  begin_right =
      right_step code.image g 0 instr.Begin [] [] None begin_found begin_reached refl refl refl (ap (λ b. frames_right b true instr.Begin) own) refl
      (not_last (1 == length (ground_flow code.image g).code) (is_last instr.Begin && not (is_inside (part_at (ground_flow code.image g) 1)))
      (ne_eqb 1 (length (ground_flow code.image g).code) (λ e. let further = more in omega (arith, e, further))))

  comes : Comes code.image g (suc g.block.first) [] None
  comes =
      let reached = next_reached code.image g 0 instr.Begin [] [] None begin_found begin_reached refl refl refl more in
      record { place = 1; there = omega arith; late = λ process. omega arith; within = more; reached = record { sorts = reached.sorts; stands = reached.stands } }

  -- FINISH
  low : at.finish < end_of code.image g
  low = let counted = long in omega (arith, counted)

  last_comes : Comes code.image g at.finish [] None
  last_comes = leads.comes comes low

  last_found : slice_get (ground_flow code.image g).code last_comes.place ≡ Some instr.Finish
  last_found = found_there code.image g None instr.Finish at.finish last_comes.place at.last last_comes.there last_comes.within

  outside_behind : part_at (ground_flow code.image g) (suc last_comes.place) ≡ None
  outside_behind =
      let next = part_onward 0 (ground_flow code.image g).code None last_comes.place instr.Finish last_found in
      sym (part_read (slice_get (ground_flow code.image g).parts (suc last_comes.place)))
      ∙ (next.1 ∙ (part_read (slice_get (ground_flow code.image g).parts last_comes.place) ∙ last_comes.reached.stands))

  last_right : IsRightAt code.image g.out (ground_flow code.image g) last_comes.place
  last_right =
      right_step code.image g last_comes.place instr.Finish [] [] None last_found last_comes.reached refl refl refl
      (framed_there (is_of_process code.image g.number) last_comes.place instr.Finish last_comes.late (ap (λ b. frames_right b false instr.Finish) own)) refl
      (is_so (suc last_comes.place == length (ground_flow code.image g).code) (is_last instr.Finish && not (is_inside (part_at (ground_flow code.image g) (suc last_comes.place))))
      (ap (λ part. not (is_inside part)) outside_behind))

  -- RETURN leads to FINISH
  asked : Asked code.image g None (of_block (ToFinish at.finish) spot) at.finish
  asked = record {
    leaves = λ label target is. absurd (cc);
    repeats = λ label target is. absurd (cc);
    finishes = λ target is. record { ahead = let same : at.finish ≡ target = cc in omega (arith, same); comes = subst (λ n. Comes code.image g n [] None) (let same : at.finish ≡ target = cc in same) last_comes };
  }

  -- BEGIN, the statements, and FINISH
  one_right : (n : ℕ) → n < length (ground_flow code.image g).code → IsRightAt code.image g.out (ground_flow code.image g) n
  one_right n within =
      before_or_behind n 1 (nat_lt n 1) refl (IsRightAt code.image g.out (ground_flow code.image g) n)
      (λ early. subst (λ k. IsRightAt code.image g.out (ground_flow code.image g) k) (let same : 0 ≡ n = omega (arith, early) in same) begin_right)
      (λ late. before_or_behind (g.block.first + n) at.finish (nat_lt (g.block.first + n) at.finish) refl (IsRightAt code.image g.out (ground_flow code.image g) n)
      (λ inside. leads.right comes low asked n (omega (arith, late)) inside)
      (λ over. subst (λ k. IsRightAt code.image g.out (ground_flow code.image g) k)
      (let same : last_comes.place ≡ n = let there = last_comes.there in let counted = long in omega (arith, there, counted, over, within) in same) last_right))

  pub process_right : (n : ℕ) → IsRightAt code.image g.out (ground_flow code.image g) n
  process_right n i stack found sorts = one_right n (slice_get_within (ground_flow code.image g).code n i found) i stack found sorts
