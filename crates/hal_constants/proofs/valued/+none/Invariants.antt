use Rattle.std.proofs.Common.{◌≡◌, map, drop}
use Rattle.hal_tree.specs.Rows.{initials}
use Rattle.hal_tree.specs.SeenDeclarations.{seen_initial}
use Rattle.hal_constants.specs.Known.{give_none}
use Rattle.hal_constants.proofs.valued.+none.Given as goal

abbrev pub invariant-give_none-loop-initial : goal.invariant-give_none-loop-initial
invariant-give_none-loop-initial l = give_none (initials (map seen_initial (drop l.initial-index l.values))) ≡ give_none (initials (map seen_initial l.values))
