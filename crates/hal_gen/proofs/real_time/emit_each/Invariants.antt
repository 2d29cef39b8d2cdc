use Rattle.std.proofs.Common.{◌≡◌, map, drop}
use Rattle.hal_tree.specs.SeenLeaves.{seen_name}
use Rattle.hal_gen_expr.specs.SeenSites.{seen_site}
use Rattle.hal_gen.specs.Asking.{asks_of}
use Rattle.hal_gen.specs.Pausing as pausing
use Rattle.hal_gen.proofs.real_time.emit_each.Given as goal

abbrev pub invariant-loop-name : goal.invariant-loop-name
invariant-loop-name l =
    pausing.each_code (seen_site l.site) l.code.items l.place (asks_of l.ask) (map seen_name (drop l.name-index l.names)) ≡ pausing.each_code (seen_site l.site) l.fn.code.items l.place (asks_of l.ask) (map seen_name l.names)
