-- The end of a unit, as the program emits it.
use Rattle.std.specs.Prelude.{List, [], ◌∷◌, ◌++◌, true, pos}
use Rattle.std.proofs.Common.{◌≡◌, refl, ◌∙◌}
use Rattle.hal_grammar.specs.Declarations as declarations
use Rattle.hal_grammar.specs.Declarations.{BooleanKind, BitKind, CharacterKind}
use Rattle.hal_grammar.specs.Units.{Head, Program, Compool, Task, Procedure, Function, Returns, NoKind, HasKind}
use Rattle.hal_meaning.specs.Calls.{zero_of, zero_of_type, zero_of_returns}
use Rattle.hal_code.specs.declared.instr.Instr.{Instr}
use Rattle.hal_code.specs.declared.instr.Instr.TheVariants as instr
use Rattle.hal_code.specs.declared.row.ResultKind.{ResultKind}
use Rattle.hal_code.specs.declared.row.ResultKind.TheVariants as result
use Rattle.hal_agreement.specs.PlacedExpressions.{pushes}
use Rattle.hal_gen_expr.proofs.Growing.{append_append}
use Rattle.hal_link.specs.UnitCode.{end_code, kind_of_type, kind_of_returns, kind_of_result}

abbrev pub zero_instr : ResultKind → Instr
zero_instr result.Bits = instr.Bits 1 0
zero_instr result.Text = instr.Text []
zero_instr result.Integer = instr.Int (pos 0)
zero_instr result.Nothing = instr.Int (pos 0)

of_type : (kind : declarations.Kind) → pushes (zero_of_type kind) ≡ zero_instr (kind_of_type kind)
of_type (BooleanKind place) = refl
of_type (BitKind place size) = refl
of_type (CharacterKind place size) = refl
of_type other = refl

of_returns : (returns : Returns) → pushes (zero_of_returns returns) ≡ zero_instr (kind_of_returns returns)
of_returns NoKind = refl
of_returns (HasKind kind precision) = of_type kind

pub zero_pushed : (head : Head) → pushes (zero_of head) ≡ zero_instr (kind_of_result head)
zero_pushed (Function place inputs returns mode) = of_returns returns
zero_pushed (Program place) = refl
zero_pushed (Compool place) = refl
zero_pushed (Task place) = refl
zero_pushed (Procedure place inputs outputs mode) = refl

pub end_behind : (code : List Instr) (head : Head) → ((code ++ (instr.Raise 1 7 ∷ [])) ++ (pushes (zero_of head) ∷ [])) ++ (instr.Return ∷ []) ≡ code ++ end_code true head
end_behind code head =
    append_append (code ++ (instr.Raise 1 7 ∷ [])) (pushes (zero_of head) ∷ []) (instr.Return ∷ []) ∙ append_append code (instr.Raise 1 7 ∷ []) (pushes (zero_of head) ∷ instr.Return ∷ [])
