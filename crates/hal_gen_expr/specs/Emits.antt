-- What the program emits is what is to be emitted.
use Rattle.std.specs.Prelude.{◌≡◌, List, Result, Ok, Err}
use Rattle.hal_code.specs.declared.instr.Instr.{Instr}
use Rattle.hal_gen_expr.specs.declared.uncoded.Uncoded.{Uncoded}
use Rattle.hal_gen_expr.specs.declared.uncoded.Uncoded.TheVariants as uncoded
use Rattle.hal_gen_expr.specs.Emitting.{Emitted}

-- the code is there, or the place of the phrase that has none is told; nothing is said where memory is wanting
abbrev pub Emits : {T : Type 0} → Emitted → Result T Uncoded → List Instr → Type 0
Emits wanted (Ok done) code = wanted ≡ Ok code
Emits wanted (Err (uncoded.At place)) code = wanted ≡ Err place
Emits wanted (Err (uncoded.Memory error)) code = Unit {0}
