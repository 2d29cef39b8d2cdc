-- What the rules of limits say of a set of files: 951 of cells and of what views reach, 952 of processes, 954 of declared events.
use Rattle.std.specs.Prelude.{◌≡◌, ◌≤◌, ◌<◌, ◌⊎◌, ⊤, ℕ, List, Option, Some, None, length}
use Rattle.hal_base.specs.declared.limits.TheConstants.{CELL_LIMIT, EVENT_LIMIT, PROCESS_LIMIT}
use Rattle.hal_base.specs.declared.refusal.Fault.{Fault}
use Rattle.hal_base.specs.declared.refusal.Fault.TheVariants as fault
use Rattle.hal_phrases.specs.Phrases.{Phrase}
use Rattle.hal_constants.specs.Known.{Known}
use Rattle.hal_meaning.specs.Bodies.{processes_of}
use Rattle.hal_meaning.specs.Events.{declared_events}
use Rattle.hal_meaning.specs.Places.{cell_count}
use Rattle.hal_meaning.specs.Sets.{beginning}
use Rattle.hal_views.specs.Views.{view_cells, view_limit}

-- no limit is passed
pub record IsWithin (ps : List Phrase) (vs : Known) : Type 0 where
  pub cells : cell_count ps vs ≤ CELL_LIMIT
  pub views : view_cells ps vs ≤ view_limit
  pub processes : length (processes_of ps) ≤ PROCESS_LIMIT
  pub events : length (declared_events ps) ≤ EVENT_LIMIT

-- a limit is passed: the rule with this number is broken
abbrev pub BreaksLimit : List Phrase → Known → ℕ → Type 0
BreaksLimit ps vs rule =
    ((rule ≡ 951) × ((CELL_LIMIT < cell_count ps vs) ⊎ (view_limit < view_cells ps vs)))
    ⊎ (((rule ≡ 952) × (PROCESS_LIMIT < length (processes_of ps)))
    ⊎ ((rule ≡ 954) × (EVENT_LIMIT < length (declared_events ps))))

-- no rule is broken, or this one
abbrev pub Tells : List Phrase → Known → Option ℕ → Type 0
Tells ps vs None = IsWithin ps vs
Tells ps vs (Some rule) = BreaksLimit ps vs rule

-- a rule that is broken, at the beginning of the set; want of memory says nothing of the set
abbrev pub IsBeyondBy : List Phrase → Known → Fault → Type 0
IsBeyondBy ps vs (fault.Broken refusal) = BreaksLimit ps vs refusal.rule.0 × (refusal.place ≡ beginning)
IsBeyondBy ps vs (fault.Memory e) = ⊤
