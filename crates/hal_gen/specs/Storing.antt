-- The stores of receivers one by one.
use Rattle.std.specs.Prelude.{Bool, not, List, [], ◌∷◌, ◌++◌, Ok, if◌then◌else◌}
use Rattle.hal_grammar.specs.Expressions.{Reference}
use Rattle.hal_code.specs.declared.instr.Instr.{Instr}
use Rattle.hal_code.specs.declared.instr.Instr.TheVariants as instr
use Rattle.hal_agreement.specs.Sites.{Site}
use Rattle.hal_gen_expr.specs.Emitting.{Emitted, onwards}
use Rattle.hal_gen_expr.specs.Leaves.{is_nil}
use Rattle.hal_gen_expr.specs.Numbering.{Numbering}
use Rattle.hal_gen.specs.Receiving.{receiver_code}

-- one receiver, from a copy where there are others
abbrev pub next_code : Numbering → Site → List Instr → Bool → Reference → Emitted
next_code n site before others receiver = receiver_code n site (if others then before ++ (instr.Dup ∷ []) else before) receiver

unfoldable pub stores_code : Numbering → Site → List Instr → List Reference → Emitted
stores_code n site before [] = Ok before
stores_code n site before (receiver ∷ others) = onwards (next_code n site before (not (is_nil others)) receiver) (λ middle. stores_code n site middle others)
