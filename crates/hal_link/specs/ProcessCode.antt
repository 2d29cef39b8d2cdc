-- The code of a process: BEGIN, its statements, and FINISH, to which RETURN leads.
use Rattle.std.specs.Prelude.{ℕ, suc, ◌+◌, List, [], ◌∷◌, ◌++◌, length, Ok}
use Rattle.hal_grammar.specs.Statements.{Statements}
use Rattle.hal_code.specs.declared.instr.Instr.{Instr}
use Rattle.hal_code.specs.declared.instr.Instr.TheVariants as instr
use Rattle.hal_agreement.specs.PlacedStatements.{ToFinish, Exits}
use Rattle.hal_agreement.specs.Sites.{Site}
use Rattle.hal_gen_expr.specs.Emitting.{Emitted, onwards}
use Rattle.hal_gen_expr.specs.Numbering.{Numbering}
use Rattle.hal_gen.specs.BlockExits.{of_body}
use Rattle.hal_gen.specs.Sizes.{statements_size}
use Rattle.hal_gen.specs.StatementCode.{block_code}

-- where RETURN leads
abbrev pub to_finish : ℕ → Exits
to_finish finish = of_body (ToFinish finish)

-- where FINISH stands behind BEGIN and these statements
abbrev pub finish_of : Numbering → Site → List Instr → Statements → ℕ
finish_of n site before body = suc (length before) + statements_size n site 0 body

abbrev pub process_code : Numbering → Site → List Instr → Statements → Emitted
process_code n site before body =
    onwards (block_code n site (before ++ (instr.Begin ∷ [])) (to_finish (finish_of n site before body)) 0 body) (λ middle. Ok (middle ++ (instr.Finish ∷ [])))
