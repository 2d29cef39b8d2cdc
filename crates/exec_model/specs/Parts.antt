-- What a step changes.
use Rattle.std.specs.Prelude.{◌≡◌, ◌++◌}
use Rattle.exec_model.specs.declared.draft.Parts.{Parts}
use Rattle.exec_model.specs.Drafts.{Drafted, told_all, closed_first, data_taken}
use Rattle.exec_model.specs.Moments.{Moment}
use Rattle.exec_model.specs.Steps.{written}

-- the moment to which the step leads
abbrev pub parts_moment : Moment → Parts → Moment
parts_moment base parts = record {
  store = written base.store parts.writes.items;
  clock = parts.clock;
  rows = parts.rows.items;
  answers = told_all (closed_first base.store parts.closes base.answers) parts.told.items;
  events = parts.events.items;
  output = base.output ++ parts.line.items;
  ends = base.ends ++ parts.ends.items;
  input = data_taken base.input parts.taken.items;
  stamp = parts.stamp;
}

-- these parts are those of a step in the making
pub record IsMadeOf (draft : Drafted) (parts : Parts) : Type 0 where
  pub now : draft.now ≡ parts_moment draft.base parts
  pub closes : draft.closes ≡ parts.closes
