use Rattle.std.proofs.Common.{drop, Option, sym, subst, ap, ◌∙◌}
use Rattle.hal_values.specs.declared.value.Value.{Value}
use Rattle.hal_right_values.specs.Fitting.{AreTaken, value_on}
use Rattle.hal_machine.specs.Seen.{stack_seen}
use Rattle.hal_machine.proofs.TakenTops.{drop_drop}
use Rattle.hal_machine.proofs.machine.Machine.patch_at.Goals as goal

pub patch_with-requires-clause-takes : goal.patch_with-requires-clause-takes
patch_with-requires-clause-takes c =
    subst (λ (old : Option Value). AreTaken old c.value_at-new.result) (sym c.value_at-old.ensures)
    (subst (λ (new : Option Value). AreTaken (value_on (drop c.args.depth (stack_seen c.args.self.now.operands))) new)
    (ap value_on (drop_drop c.args.depth 2 (stack_seen c.args.self.now.operands)) ∙ sym c.value_at-new.ensures) c.requires.takes)
