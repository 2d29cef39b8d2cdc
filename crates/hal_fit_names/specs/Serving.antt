-- What serves a unit: what its statements may use in UPDATE blocks and outside.
use Rattle.std.specs.Prelude.{◌≡◌, ◌⊎◌, ◌≤◌, ◌+◌, ℕ, Bool, true, false, List, length, Some}
use Rattle.std.specs.Option.{is_some}
use Rattle.hal_phrases.specs.Phrases.{Phrase}
use Rattle.hal_scope.specs.Rules.{IsAmong}
use Rattle.hal_meaning.specs.Bodies.{callee, processes_of}
use Rattle.hal_meaning.specs.Events.{declared_events}
use Rattle.hal_meaning.specs.Sets.{Set}
use Rattle.hal_locks.specs.Barred.{is_asked}
use Rattle.hal_locks.specs.Callees.{is_barred}
use Rattle.hal_code.specs.declared.image.ImageParts.{ImageParts}
use Rattle.hal_code.specs.Operands.{events_of}
use Rattle.hal_agreement.specs.Sites.{Site}
use Rattle.hal_fit_expr.specs.Uses.{Uses}

-- no phrase of a unit does what an UPDATE block may not do, among those inside of UPDATE blocks or those outside
abbrev pub AsksNothing : List Phrase → ℕ → Bool → Type 0
AsksNothing ps unit inside = (p : Phrase) → IsAmong p ps → p.around.home ≡ unit → is_some p.around.update ≡ inside → is_barred ps p ≡ false

-- what is used serves a unit: what the unit calls may be called, it may be asked what events and the clock are where the unit does that, and all events of the image are there
pub record ServesUnit (s : Set) (image : ImageParts) (u : Bool → Uses) (unit : ℕ) : Type 0 where
  pub calls : (p : Phrase) (q : ℕ) → IsAmong p s.phrases → p.around.home ≡ unit → callee s.phrases p ≡ Some q → (u (is_some p.around.update)).calls q ≡ true
  pub asks : (inside : Bool) → ((u inside).asks ≡ true) ⊎ AsksNothing s.phrases unit inside
  pub events : (inside : Bool) → (u inside).events ≡ events_of image

-- what is used has all events and processes of the set, and they and the clock may be asked for, or a name means none of them
pub record MayAsk (u : Uses) (site : Site) (name : List ℕ) : Type 0 where
  pub all : length (processes_of site.set.phrases) + length (declared_events site.set.phrases) ≤ u.events
  pub asks : (u.asks ≡ true) ⊎ (is_asked site.set.phrases site.block true name ≡ false)
