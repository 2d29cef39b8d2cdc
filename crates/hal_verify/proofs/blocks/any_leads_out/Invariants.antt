use Rattle.std.proofs.Common.{◌≡◌, drop}
use Rattle.std.specs.List.{list_any}
use Rattle.hal_code.specs.Blocks.{leads_out}
use Rattle.hal_verify.proofs.blocks.any_leads_out.Given as goal

abbrev pub invariant-loop-instr : goal.invariant-loop-instr
invariant-loop-instr l = list_any (leads_out l.known) (drop l.instr-index l.code) ≡ list_any (leads_out l.known) l.code
