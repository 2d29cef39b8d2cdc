use Rattle.std.proofs.Common.{◌≡◌, map, drop}
use Rattle.hal_tree.specs.SeenUnits.{seen_element}
use Rattle.hal_gen.specs.SeenExits.{seen_exits}
use Rattle.hal_gen_expr.specs.SeenSites.{seen_site, seen_numbering}
use Rattle.hal_link.specs.Members.{members_code}
use Rattle.hal_link.proofs.members.emit_all.Given as goal

abbrev pub invariant-loop-element : goal.invariant-loop-element
invariant-loop-element l =
    members_code (seen_numbering l.site) (seen_site l.site) l.code.items (seen_exits l.exits) l.mark (map seen_element (drop l.element-index l.list))
    ≡ members_code (seen_numbering l.site) (seen_site l.site) l.fn.code.items (seen_exits l.exits) 0 (map seen_element l.list)
