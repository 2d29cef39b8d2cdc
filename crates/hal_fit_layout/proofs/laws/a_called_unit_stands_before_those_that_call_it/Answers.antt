use Rattle.hal_link.specs.Shapes.{shapes_of}
use Rattle.hal_fit_layout.proofs.Ordered.{stands_before}
use Rattle.hal_fit_layout.proofs.Outlining.{called_are}
use Rattle.hal_fit_layout.proofs.laws.a_called_unit_stands_before_those_that_call_it.Goals as goal

pub returns : goal.returns
returns c s views process place o caller callee number acyclic there at unit called is =
    stands_before s o (shapes_of s) views place caller callee number acyclic (called_are s process o there) at unit called is
