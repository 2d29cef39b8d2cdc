-- IF, whose parts have code.
use Rattle.std.specs.Prelude.{ℕ, suc, ◌+◌, List, [], ◌∷◌, ◌++◌, length, Result, Ok}
use Rattle.std.proofs.Common.{◌≡◌}
use Rattle.hal_base.specs.declared.refusal.Place.{Place}
use Rattle.hal_grammar.specs.Leaves.{Naming}
use Rattle.hal_grammar.specs.Expressions.{Expression}
use Rattle.hal_grammar.specs.Statements.{Statement, If, Alternative}
use Rattle.hal_code.specs.declared.instr.Instr.{Instr}
use Rattle.hal_code.specs.declared.instr.Instr.TheVariants as instr
use Rattle.hal_meaning.specs.Marks.{after_statement}
use Rattle.hal_agreement.specs.PlacedStatements.{Exits}
use Rattle.hal_agreement.specs.Sites.{Site}
use Rattle.hal_gen_expr.specs.declared.uncoded.Uncoded.{Uncoded}
use Rattle.hal_gen_expr.specs.Emits.{Emits}
use Rattle.hal_gen_expr.specs.ExpressionCode.{expression_code}
use Rattle.hal_gen_expr.specs.Numbering.{Numbering}
use Rattle.hal_gen.specs.Sizes.{statement_size, jump_size}
use Rattle.hal_gen.specs.StatementCode.{statement_code, basic_code, alternative_code}

module _ {T : Type 0} (n : Numbering) (site : Site) (before tested middle code : List Instr) (exits : Exits) (m : ℕ) (labels : List Naming) (r : Result T Uncoded) where
  pub branched : (place : Place) (condition : Expression) (consequence : Statement) (alternative : Alternative)
      → expression_code n site before condition ≡ Ok tested
      → statement_code n site (tested ++ (instr.JumpNot (suc (length tested) + (statement_size n site m consequence + jump_size alternative)) ∷ [])) exits m consequence ≡ Ok middle
      → Emits (alternative_code n site middle exits (after_statement m consequence) alternative) r code
      → Emits (basic_code n site before exits m labels (If place condition consequence alternative)) r code
  branched place condition consequence alternative first second third = rw first (rw second third)
