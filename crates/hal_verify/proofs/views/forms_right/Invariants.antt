use Rattle.std.proofs.Common.{◌≡◌, drop}
use Rattle.std.specs.List.{list_all}
use Rattle.hal_code.specs.Right.{form_right}
use Rattle.hal_verify.proofs.views.forms_right.Given as goal

abbrev pub invariant-loop-view : goal.invariant-loop-view
invariant-loop-view l = list_all (form_right l.image) (drop l.view-index l.views) ≡ list_all (form_right l.image) l.views
