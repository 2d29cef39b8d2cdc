-- Where REPEAT leads, group by group.
use Rattle.std.specs.Prelude.{ℕ, Bool, true, false, List, ◌∷◌, Option, Some, None, if◌then◌else◌}
use Rattle.std.specs.Option.{option_or}
use Rattle.std.proofs.Common.{◌≡◌, refl}
use Rattle.hal_meaning.specs.Statements.{is_meant}
use Rattle.hal_agreement.specs.PlacedStatements.{Opened, again_of}
use Rattle.hal_gen.specs.Leading.{turn_of}

chosen : (b : Bool) (at : ℕ) (others : Option ℕ) → (if b then Some at else others) ≡ option_or (if b then Some at else None) others
chosen true at others = refl
chosen false at others = refl

turn_by : (again : Option ℕ) (b : Bool) (others : Option ℕ)
    → (elim again [ None ↦ others | Some at ↦ if b then Some at else others ]) ≡ option_or (elim again [ None ↦ None | Some at ↦ if b then Some at else None ]) others
turn_by None b others = refl
turn_by (Some at) b others = chosen b at others

pub turn_first : (g : Opened) (gs : List Opened) (label : Option (List ℕ)) → again_of (g ∷ gs) label ≡ option_or (turn_of g label) (again_of gs label)
turn_first g gs label = turn_by g.again (is_meant g.labels label) (again_of gs label)
