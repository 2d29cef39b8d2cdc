-- The step that an event is, in the making.
use Rattle.std.specs.Prelude.{◌≡◌, ℕ, Option, Some, None}
use Rattle.hal_values.specs.Loads.{Meaning}
use Rattle.exec_model.specs.declared.event.Event.{Event}
use Rattle.exec_model.specs.Drafts.{Drafted}
use Rattle.exec_model.specs.Moments.{Moment}
use Rattle.exec_model.specs.Steps.{IsAllowed, stepped}

-- the event may come, and this is its step
pub record IsDraftOf (q : Meaning) (lanes : ℕ) (m : Moment) (happens : Event) (draft : Drafted) : Type 0 where
  pub allowed : IsAllowed q lanes m happens
  pub base : draft.base ≡ m
  pub now : draft.now ≡ stepped q m happens

-- the step of the event, or it may not come
abbrev pub IsDrafted : Meaning → ℕ → Moment → Event → Option Drafted → Type 0
IsDrafted q lanes m happens (Some draft) = IsDraftOf q lanes m happens draft
IsDrafted q lanes m happens None = IsAllowed q lanes m happens → ⊥
