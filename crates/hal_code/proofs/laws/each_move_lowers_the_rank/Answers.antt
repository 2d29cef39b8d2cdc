use Rattle.std.proofs.Common.{sym, subst}
use Rattle.std.specs.Prelude.{◌<◌}
use Rattle.std.proofs.lemmas.List.{length-map}
use Rattle.hal_code.specs.declared.row.Process.{Process}
use Rattle.hal_code.specs.Courses.{setting_of}
use Rattle.hal_code.proofs.Falling.{moves_lower}
use Rattle.hal_code.proofs.Forwards.{right_is_forward}
use Rattle.hal_code.proofs.laws.each_move_lowers_the_rank.Goals as goal

pub returns : goal.returns
returns c = λ turns image p one after right own writes e.
    moves_lower (setting_of turns image p) (right_is_forward image right) (subst (λ n. p < n) (sym (length-map image.processes (λ (q : Process). q.name))) own) one after writes e
