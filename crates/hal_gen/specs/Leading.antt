-- Where REPEAT leads, group by group.
use Rattle.std.specs.Prelude.{ℕ, List, Option, Some, None, if◌then◌else◌}
use Rattle.hal_meaning.specs.Statements.{is_meant}
use Rattle.hal_agreement.specs.PlacedStatements.{Opened}

-- of one group, where it is a loop for which it is meant
abbrev pub turn_of : Opened → Option (List ℕ) → Option ℕ
turn_of g label = elim g.again [ None ↦ None | Some at ↦ if is_meant g.labels label then Some at else None ]
