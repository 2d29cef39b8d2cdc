use Rattle.std.proofs.Common.{◌≡◌, map, drop}
use Rattle.hal_tree.specs.SeenUnits.{seen_preface}
use Rattle.hal_meaning.specs.Bodies.{pool_of}
use Rattle.hal_reach.proofs.meanings.pool_of.Given as goal

abbrev pub invariant-loop-preface : goal.invariant-loop-preface
invariant-loop-preface l =
    pool_of (map seen_preface (drop l.preface-index l.prefaces)) l.name ≡ pool_of (map seen_preface l.prefaces) l.name
