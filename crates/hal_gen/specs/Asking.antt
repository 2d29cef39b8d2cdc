-- What is asked of processes that are named.
use Rattle.std.specs.Prelude.{ℕ}
use Rattle.hal_code.specs.declared.instr.Instr.{Instr}
use Rattle.hal_code.specs.declared.instr.Instr.TheVariants as instr
use Rattle.hal_gen.specs.declared.real_time.Ask.{Ask}
use Rattle.hal_gen.specs.declared.real_time.Ask.TheVariants as ask

abbrev pub asks_of : Ask → ℕ → Instr
asks_of ask.Cancel process = instr.Cancel process
asks_of ask.Terminate process = instr.Terminate process
