-- The code of a process stands where it was put, and goes on.
use Rattle.std.specs.Prelude.{◌≡◌, ℕ, suc, List, [], ◌∷◌, ◌++◌, length, Ok, Err}
use Rattle.std.proofs.Common.{refl, sym, ap, subst, ◌∙◌, arith}
use Rattle.hal_grammar.specs.Statements.{Statements}
use Rattle.hal_code.specs.declared.instr.Instr.{Instr}
use Rattle.hal_code.specs.declared.instr.Instr.TheVariants as instr
use Rattle.hal_agreement.specs.Codes.{Code}
use Rattle.hal_agreement.specs.PlacedExpressions.{Has}
use Rattle.hal_agreement.specs.PlacedStatements.{ToFinish, of_block, StatementsAt}
use Rattle.hal_agreement.specs.PlacedBlocks.{ProcessAt}
use Rattle.hal_agreement.specs.Sites.{Site}
use Rattle.hal_gen_expr.specs.Emitting.{Emitted, onwards}
use Rattle.hal_gen_expr.specs.Numbering.{Numbering}
use Rattle.hal_gen_expr.specs.Standing.{Begins, IsNumbered}
use Rattle.hal_gen_expr.proofs.Expressed.{ok_is}
use Rattle.hal_gen_expr.proofs.Forwarding.{Goes, one_goes, joined_goes, first_goes}
use Rattle.hal_gen_expr.proofs.Growing.{length_of_one_more, has_there, begins_before, one_placed}
use Rattle.hal_gen.specs.StatementCode.{block_code}
use Rattle.hal_gen.proofs.Forwarding.{Ahead, block_goes}
use Rattle.hal_gen.proofs.Measured.{block_longer}
use Rattle.hal_gen.proofs.Stated.{block_stands}
use Rattle.hal_link.specs.ProcessCode.{to_finish, finish_of, process_code}

-- RETURN leads to FINISH, and no group is open
to_the_end : (finish to : ℕ) → finish ≡ to → Ahead (to_finish finish) to
to_the_end finish to is =
    record {
      exit = λ label target there. absurd (cc);
      again = λ label target there. absurd (cc);
      finish = λ at there. let same : finish ≡ at = cc in omega (arith, is, same);
    }

module _ (code : Code) (n : Numbering) (site : Site) (numbered : IsNumbered code n) where
  -- what is known of the code of a process
  pub record Processed (before after : List Instr) (body : Statements) : Type 0 where
    pub spot : ℕ → ℕ
    pub stands : ProcessAt code (length before) site 0 body spot
    pub begin : Has code (length before) instr.Begin
    pub long : length after ≡ suc stands.finish
    pub goes : Goes code (length before) (length after)
    pub begins : Begins before code.image.code

  -- of its statements, which end in this code
  processed_by : (body : Statements) (before middle after : List Instr) → block_code n site (before ++ (instr.Begin ∷ [])) (to_finish (finish_of n site before body)) 0 body ≡ Ok middle
      → middle ++ (instr.Finish ∷ []) ≡ after → Begins after code.image.code → Processed before after body
  processed_by body before middle after there is begins =
      let exits = to_finish (finish_of n site before body) in
      let start = before ++ (instr.Begin ∷ []) in
      let last = one_placed code middle after instr.Finish is begins in
      let inner = block_stands code n site numbered body exits 0 start middle there last.begins in
      let longer = block_longer n site body exits 0 start middle there in
      let one = length_of_one_more before instr.Begin in
      let ends : finish_of n site before body ≡ length middle = omega (arith, longer, one) in
      let forward = block_goes code n site numbered body exits 0 start middle there (to_the_end (finish_of n site before body) (length middle) ends) last.begins in
      record {
        spot = inner.at.0;
        stands = record {
          finish = length middle;
          statements = subst (λ f. StatementsAt code site (of_block (ToFinish f) inner.at.0) 0 body (suc (length before)) (length middle)) ends
              (subst (λ from. StatementsAt code site (of_block (ToFinish (finish_of n site before body)) inner.at.0) 0 body from (length middle)) one inner.at.1);
          leads_out = inner.at.2;
          last = last.at.0;
        };
        begin = has_there code before instr.Begin inner.begins;
        long = ap (λ (all : List Instr). length all) (sym is) ∙ length_of_one_more middle instr.Finish;
        goes = joined_goes code (length before) (length middle) (length after)
            (first_goes code (length before) (length middle) instr.Begin (has_there code before instr.Begin inner.begins) tt (subst (λ from. Goes code from (length middle)) one forward.at))
            (one_goes code (length middle) (length after) instr.Finish last.at tt);
        begins = begins_before code before (instr.Begin ∷ []) inner.begins;
      }

  processed_with : (body : Statements) (before after : List Instr) (r : Emitted) → block_code n site (before ++ (instr.Begin ∷ [])) (to_finish (finish_of n site before body)) 0 body ≡ r
      → onwards r (λ middle. Ok (middle ++ (instr.Finish ∷ []))) ≡ Ok after → Begins after code.image.code → Processed before after body
  processed_with body before after (Ok middle) there is begins = processed_by body before middle after there (ok_is (middle ++ (instr.Finish ∷ [])) after is) begins
  processed_with body before after (Err place) there is begins = absurd (cc)

  pub process_at : (body : Statements) (before after : List Instr) → process_code n site before body ≡ Ok after → Begins after code.image.code → Processed before after body
  process_at body before after is begins =
      processed_with body before after (block_code n site (before ++ (instr.Begin ∷ [])) (to_finish (finish_of n site before body)) 0 body) refl is begins
