use Rattle.std.proofs.Common.{◌≡◌, drop}
use Rattle.std.specs.List.{list_all}
use Rattle.hal_code.specs.Images.{expanded}
use Rattle.hal_verify.specs.Marking.{shared_lies}
use Rattle.hal_verify.proofs.views.all_shared.Given as goal

abbrev pub invariant-loop-view : goal.invariant-loop-view
invariant-loop-view l = list_all (shared_lies l.image (expanded l.rooms.runs.items)) (drop l.view-index l.views) ≡ list_all (shared_lies l.image (expanded l.rooms.runs.items)) l.views
