-- What is emitted in parts, one behind the other.
use Rattle.std.specs.Prelude.{List, Result, Ok, Err}
use Rattle.std.proofs.Common.{◌≡◌, sym, ap, subst, ◌∙◌}
use Rattle.hal_code.specs.declared.instr.Instr.{Instr}
use Rattle.hal_gen_expr.specs.declared.uncoded.Uncoded.{Uncoded}
use Rattle.hal_gen_expr.specs.declared.uncoded.Uncoded.TheVariants as uncoded
use Rattle.hal_gen_expr.specs.Emits.{Emits}
use Rattle.hal_gen_expr.specs.Emitting.{Emitted, onwards}

-- the first part is there
pub after : (wanted e : Emitted) (next : List Instr → Emitted) (middle : List Instr) → wanted ≡ onwards e next → e ≡ Ok middle → wanted ≡ next middle
after wanted e next middle is there = is ∙ ap (λ given. onwards given next) there

pub went_on : {T : Type 0} (wanted e : Emitted) (next : List Instr → Emitted) (middle code : List Instr) (r : Result T Uncoded) → wanted ≡ onwards e next → e ≡ Ok middle
    → Emits (next middle) r code → Emits wanted r code
went_on {T} wanted e next middle code r is there rest = subst (λ (one : Emitted). Emits one r code) (sym (after wanted e next middle is there)) rest

-- it isn't
pub stopped : {T U : Type 0} (wanted e : Emitted) (next : List Instr → Emitted) (u : Uncoded) (q : Result T Uncoded) (r : Result U Uncoded) (code : List Instr) → wanted ≡ onwards e next
    → q ≡ Err u → r ≡ Err u → Emits e q code → Emits wanted r code
stopped {T} {U} wanted e next (uncoded.At place) q r code is failed same there =
    let none : e ≡ Err place = subst (λ (one : Result T Uncoded). Emits e one code) failed there in
    subst (λ (one : Result U Uncoded). Emits wanted one code) (sym same) (is ∙ ap (λ given. onwards given next) none)
stopped {T} {U} wanted e next (uncoded.Memory error) q r code is failed same there = subst (λ (one : Result U Uncoded). Emits wanted one code) (sym same) tt
