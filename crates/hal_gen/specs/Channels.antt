-- A receiver of READ.
use Rattle.std.specs.Prelude.{ℕ, ◌+◌, List, [], ◌∷◌, ◌++◌, length}
use Rattle.hal_grammar.specs.Expressions.{Reference}
use Rattle.hal_code.specs.declared.instr.Instr.{Instr}
use Rattle.hal_code.specs.declared.instr.Instr.TheVariants as instr
use Rattle.hal_agreement.specs.Sites.{Site}
use Rattle.hal_gen_expr.specs.Emitting.{Emitted}
use Rattle.hal_gen_expr.specs.Numbering.{Numbering}
use Rattle.hal_gen.specs.Leaves.{kind_of_receiver}
use Rattle.hal_gen.specs.Receiving.{receiver_code, receiver_size}

abbrev pub read_code : Numbering → Site → List Instr → ℕ → Reference → Emitted
read_code n site before channel receiver = receiver_code n site (before ++ (instr.Input channel (kind_of_receiver site receiver) (length before + (1 + receiver_size n site receiver)) ∷ [])) receiver
