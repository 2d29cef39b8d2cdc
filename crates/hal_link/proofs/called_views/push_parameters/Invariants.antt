use Rattle.std.proofs.Common.{◌≡◌, map, drop}
use Rattle.hal_tree.specs.SeenLeaves.{seen_name}
use Rattle.hal_gen_expr.specs.SeenSites.{seen_site}
use Rattle.hal_link.specs.CalledViews.{with_parameters}
use Rattle.hal_link.proofs.called_views.push_parameters.Given as goal

abbrev pub invariant-loop-name : goal.invariant-loop-name
invariant-loop-name l =
    with_parameters (seen_site l.site) l.into.list.items (map seen_name (drop l.name-index l.names)) ≡ with_parameters (seen_site l.site) l.fn.into.list.items (map seen_name l.names)
