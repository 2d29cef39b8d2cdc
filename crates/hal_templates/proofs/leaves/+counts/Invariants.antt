use Rattle.std.proofs.Common.{◌≡◌, map, drop}
use Rattle.hal_tree.specs.Rows.{initials}
use Rattle.hal_tree.specs.SeenDeclarations.{seen_initial}
use Rattle.hal_templates.specs.Leaves.{count_with}
use Rattle.hal_templates.proofs.leaves.+counts.Given as goal

abbrev pub invariant-count_of_all-loop-initial : goal.invariant-count_of_all-loop-initial
invariant-count_of_all-loop-initial l = count_with l.total (initials (map seen_initial (drop l.initial-index l.values))) ≡ count_with 0 (initials (map seen_initial l.values))
