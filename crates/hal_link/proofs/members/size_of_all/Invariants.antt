use Rattle.std.proofs.Common.{◌≡◌, map, drop}
use Rattle.hal_tree.specs.SeenUnits.{seen_element}
use Rattle.hal_gen_expr.specs.SeenSites.{seen_site, seen_numbering}
use Rattle.hal_link.specs.Members.{with_members}
use Rattle.hal_link.proofs.members.size_of_all.Given as goal

abbrev pub invariant-loop-element : goal.invariant-loop-element
invariant-loop-element l =
    with_members (seen_numbering l.site) (seen_site l.site) l.mark l.size (map seen_element (drop l.element-index l.list)) ≡ with_members (seen_numbering l.site) (seen_site l.site) 0 0 (map seen_element l.list)
