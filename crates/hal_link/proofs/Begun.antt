-- The code of a process and of a unit, as the program emits it.
use Rattle.std.specs.Prelude.{ℕ, List, [], ◌∷◌, ◌++◌, Ok}
use Rattle.std.proofs.Common.{◌≡◌, sym, ap, ◌∙◌}
use Rattle.hal_grammar.specs.Statements.{Statements}
use Rattle.hal_code.specs.declared.instr.Instr.{Instr}
use Rattle.hal_code.specs.declared.instr.Instr.TheVariants as instr
use Rattle.hal_agreement.specs.PlacedStatements.{Exits}
use Rattle.hal_agreement.specs.Sites.{Site}
use Rattle.hal_gen_expr.specs.Emitting.{Emitted, onwards}
use Rattle.hal_gen_expr.specs.Numbering.{Numbering}
use Rattle.hal_gen.specs.StatementCode.{block_code}
use Rattle.hal_grammar.specs.Units.{Head}
use Rattle.hal_meaning.specs.Calls.{is_function}
use Rattle.hal_link.specs.ProcessCode.{to_finish, finish_of, process_code}
use Rattle.hal_link.specs.UnitCode.{end_code, to_caller, body_code}

abbrev pub with_finish : List Instr → Emitted
with_finish middle = Ok (middle ++ (instr.Finish ∷ []))

-- its statements behind BEGIN
pub process_begun : (n : Numbering) (site : Site) (before begun : List Instr) (exits : Exits) (finish : ℕ) (body list : Statements) → begun ≡ before ++ (instr.Begin ∷ []) → exits ≡ to_finish finish
    → finish ≡ finish_of n site before body → body ≡ list → process_code n site before body ≡ onwards (block_code n site begun exits 0 list) with_finish
process_begun n site before begun exits finish body list begins leads ends same =
    ap (λ one. onwards (block_code n site (before ++ (instr.Begin ∷ [])) (to_finish (finish_of n site before body)) 0 one) with_finish) same
    ∙ ap (λ f. onwards (block_code n site (before ++ (instr.Begin ∷ [])) (to_finish f) 0 list) with_finish) (sym ends)
    ∙ ap (λ one. onwards (block_code n site (before ++ (instr.Begin ∷ [])) one 0 list) with_finish) (sym leads)
    ∙ ap (λ start. onwards (block_code n site start exits 0 list) with_finish) (sym begins)

abbrev pub with_end : Head → List Instr → Emitted
with_end head middle = Ok (middle ++ end_code (is_function head) head)

-- the statements of a unit that is called
pub body_begun : (n : Numbering) (site : Site) (before : List Instr) (exits : Exits) (head one : Head) (body list : Statements) → head ≡ one → exits ≡ to_caller one → body ≡ list
    → body_code n site before head body ≡ onwards (block_code n site before exits 0 list) (with_end one)
body_begun n site before exits head one body list same leads listed =
    ap (λ h. body_code n site before h body) same
    ∙ ap (λ b. onwards (block_code n site before (to_caller one) 0 b) (with_end one)) listed
    ∙ ap (λ x. onwards (block_code n site before x 0 list) (with_end one)) (sym leads)
