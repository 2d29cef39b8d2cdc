use Rattle.std.proofs.Common.{◌≡◌, map, drop}
use Rattle.std.specs.List.{list_any}
use Rattle.hal_tree.specs.SeenDeclarations.{seen_declared}
use Rattle.hal_reach.specs.Calls.{is_named}
use Rattle.hal_reach.proofs.meanings.is_any_named.Given as goal

abbrev pub invariant-loop-item : goal.invariant-loop-item
invariant-loop-item l =
    list_any (is_named l.name) (map seen_declared (drop l.item-index l.items)) ≡ list_any (is_named l.name) (map seen_declared l.items)
