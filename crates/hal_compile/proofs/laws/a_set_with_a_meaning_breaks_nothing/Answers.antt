use Rattle.hal_compile.proofs.Meanings.{meaning_breaks_nothing}
use Rattle.hal_compile.proofs.laws.a_set_with_a_meaning_breaks_nothing.Goals as goal

pub returns : goal.returns
returns c = meaning_breaks_nothing
