-- The parameters of units, as the program finds them.
use Rattle.std.specs.Prelude.{ℕ, [], Option, None, Some}
use Rattle.std.proofs.Common.{◌≡◌, refl}
use Rattle.hal_grammar.specs.Leaves.{Naming}
use Rattle.hal_phrases.specs.Phrases.{Phrase}
use Rattle.hal_meaning.specs.Calls.{Parameter, parameter_named, parameter_shape}
use Rattle.hal_meaning.specs.Elements.{Shape}
use Rattle.hal_meaning.specs.Sets.{Set}
use Rattle.hal_runs.specs.Joined.{with_runs}
use Rattle.hal_gen_expr.specs.Parameters.{parameter_with, as_parameter, parameter_at, runs_at, declaration}
use Rattle.hal_gen_expr.specs.Shapes.{runs_of}

-- the parameter of a declaration that was found or not
pub parameter_found : (s : Set) (unit : ℕ) (name : Naming)
    → as_parameter (parameter_named s unit name)
    ≡ (elim (declaration s unit name) [ None ↦ parameter_with 0 (record { copies = None; components = [] }) | Some p ↦ parameter_at s p ])
parameter_found s unit name = by (declaration s unit name) where
  by : (o : Option Phrase) → as_parameter (elim o [ None ↦ record { number = 0; shape = record { copies = None; components = [] } } | Some p ↦ record { number = p.number; shape = parameter_shape s p p.node } ])
      ≡ (elim o [ None ↦ parameter_with 0 (record { copies = None; components = [] }) | Some p ↦ parameter_at s p ])
  by None = refl
  by (Some p) = refl

abbrev shape_in : Parameter → Shape
shape_in p = p.shape

-- data without elements have no cells
none_run : runs_of (record { copies = None; components = [] }) ≡ []
unfolding with_runs
none_run = refl

-- the kinds of its cells
pub runs_found : (s : Set) (unit : ℕ) (name : Naming) → runs_of (parameter_named s unit name).shape ≡ (elim (declaration s unit name) [ None ↦ [] | Some p ↦ runs_at s p ])
runs_found s unit name = by (declaration s unit name) where
  by : (o : Option Phrase) → runs_of (shape_in (elim o [ None ↦ record { number = 0; shape = record { copies = None; components = [] } } | Some p ↦ record { number = p.number; shape = parameter_shape s p p.node } ]))
      ≡ (elim o [ None ↦ [] | Some p ↦ runs_at s p ])
  by None = none_run
  by (Some p) = refl
