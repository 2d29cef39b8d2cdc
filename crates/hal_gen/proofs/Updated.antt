-- UPDATE blocks, whose statements have code or not.
use Rattle.std.specs.Prelude.{ℕ, suc, List, [], ◌∷◌, Option, Result, Ok, Err}
use Rattle.std.specs.Option.{option_map}
use Rattle.std.proofs.Common.{◌≡◌, sym, ap, subst}
use Rattle.hal_base.specs.declared.refusal.Place.{Place}
use Rattle.hal_grammar.specs.Leaves.{Naming}
use Rattle.hal_grammar.specs.Statements.{Statements, Update}
use Rattle.hal_code.specs.declared.instr.Instr.{Instr}
use Rattle.hal_code.specs.declared.instr.Instr.TheVariants as instr
use Rattle.hal_meaning.specs.Statements.{update_groups}
use Rattle.hal_agreement.specs.PlacedStatements.{Exits, NoReturn}
use Rattle.hal_agreement.specs.Sites.{Site, here_at}
use Rattle.hal_gen_expr.specs.declared.uncoded.Uncoded.{Uncoded}
use Rattle.hal_gen_expr.specs.declared.uncoded.Uncoded.TheVariants as uncoded
use Rattle.hal_gen_expr.specs.Emits.{Emits}
use Rattle.hal_gen_expr.specs.Emitting.{Emitted, onwards, emit}
use Rattle.hal_gen_expr.specs.ExpressionCode.{emit_one}
use Rattle.hal_gen_expr.specs.Numbering.{Numbering, below}
use Rattle.hal_gen.specs.BlockExits.{of_body}
use Rattle.hal_gen.specs.StatementCode.{basic_code, block_code}

-- an error before what follows
stopped : {T U : Type 0} (e : Emitted) (next : List Instr → Emitted) (u : Uncoded) (q : Result T Uncoded) (r : Result U Uncoded) (code : List Instr) → q ≡ Err u → r ≡ Err u → Emits e q code → Emits (onwards e next) r code
stopped {T} {U} e next (uncoded.At place) q r code failed same there =
    let none : e ≡ Err place = subst (λ (one : Result T Uncoded). Emits e one code) failed there in
    subst (λ (one : Result U Uncoded). Emits (onwards e next) one code) (sym same) (ap (λ given. onwards given next) none)
stopped {T} {U} e next (uncoded.Memory error) q r code failed same there = subst (λ (one : Result U Uncoded). Emits (onwards e next) one code) (sym same) tt

module _ (n : Numbering) (site : Site) (before begun : List Instr) (exits : Exits) (m : ℕ) (labels : List Naming) (place : Place) (body : Statements) (close : Option Naming)
    (opened : emit before place (option_map (λ groups. instr.Open groups ∷ []) (below 65536 (update_groups (here_at site) m))) ≡ Ok begun) where
  pub updated : {T : Type 0} (middle code : List Instr) (r : Result T Uncoded)
      → block_code n site begun (of_body NoReturn) (suc m) body ≡ Ok middle
      → Emits (emit_one middle place instr.Close) r code → Emits (basic_code n site before exits m labels (Update place body close)) r code
  updated middle code r there closed = rw opened (rw there closed)

  pub update_stopped : {T U : Type 0} (code : List Instr) (u : Uncoded) (q : Result T Uncoded) (r : Result U Uncoded) → q ≡ Err u → r ≡ Err u
      → Emits (block_code n site begun (of_body NoReturn) (suc m) body) q code
      → Emits (basic_code n site before exits m labels (Update place body close)) r code
  update_stopped code u q r failed same there =
      rw opened (stopped (block_code n site begun (of_body NoReturn) (suc m) body) (λ middle. emit_one middle place instr.Close) u q r code failed same there)
