use Rattle.std.proofs.Common.{◌≡◌, ◌∙◌, List, drop, length, subst, sym}
use Rattle.hal_code.specs.declared.row.Dimension.{Dimension}
use Rattle.hal_right_values.specs.Spreading.{spread}
use Rattle.hal_machine.specs.Spreading.{saturated, spread_seen}
use Rattle.hal_machine.specs.Stacks.{stack_seen}
use Rattle.hal_machine.proofs.Spreads.{one_dimension}
use Rattle.hal_machine.proofs.operands.Operands.spread_of.Goals as goal

pub returns-in-len1 : goal.returns-in-len1
returns-in-len1 c =
    subst (λ (ds : List Dimension). spread_seen (drop (length ds) (stack_seen c.args.self.now)) c.spread_once.result ≡ saturated (spread ds (stack_seen c.args.self.now)))
    (sym (one_dimension c.as_slice.result.now c.in-len1.len_at_least c.in-len1.len_below) ∙ c.as_slice.ensures) c.spread_once.ensures
