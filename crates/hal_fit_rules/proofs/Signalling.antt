-- Events that agree can be changed as is stated, and errors that are raised are errors, where no rule of types is broken.
use Rattle.std.proofs.Common.{◌≡◌, ℕ, nat_le, Bool, true, false, not, ◌&&◌, List, length, Some, None, inl, inr, if◌then◌else◌, refl, ap, ◌∙◌}
use Rattle.std.proofs.lemmas.Bool.{and_from, and_parts}
use Rattle.hal_base.specs.declared.refusal.Place.{Place}
use Rattle.hal_grammar.specs.Statements.{EventAction, Signal, Set, Reset, Eventful}
use Rattle.hal_phrases.specs.declared.around.Around.{Around}
use Rattle.hal_phrases.specs.Phrases.{Phrase, phrase, add, OfEvent, OfSendError}
use Rattle.hal_scope.specs.Rules.{IsSound, ruled}
use Rattle.hal_scope.specs.Uses.{unless}
use Rattle.hal_uses.specs.Forms.{is_error_number, no_error}
use Rattle.hal_uses.specs.Real.{is_kept, means_unlatched, unlatched}
use Rattle.hal_types.specs.Rules.{use_rows, type_rows}
use Rattle.hal_values.specs.declared.tables.EventStart.{EventStart}
use Rattle.hal_meaning.specs.Events.{event_named}
use Rattle.hal_code.specs.declared.image.ImageParts.{ImageParts}
use Rattle.hal_code.specs.declared.instr.Instr.TheVariants as instr
use Rattle.hal_code.specs.declared.row.Block.{Block}
use Rattle.hal_code.specs.Operands.{declared_event, holds_of, is_latched, operands_right}
use Rattle.hal_agreement.specs.PlacedStatements.{changes}
use Rattle.hal_agreement.specs.Sites.{Site}
use Rattle.hal_fitting.specs.Fitting.{Ground}
use Rattle.hal_fit.specs.Stating.{EventFits}
use Rattle.hal_fit_rules.specs.Begun.{AreFirst}
use Rattle.hal_fit_rules.specs.Signalled.{EventAgrees}
use Rattle.hal_fit_rules.proofs.Beginning.{among}
use Rattle.hal_fit_rules.proofs.Unbroken.{ruled_none, unbroken, of_uses}

pub kept_unless : (b : Bool) (place : Place) → unless b place ≡ None → b ≡ true
kept_unless true place none = refl
kept_unless false place none = absurd (cc)

latched_by : (kept unlatched_ : Bool) → kept ≡ true → not (kept && unlatched_) ≡ true → unlatched_ ≡ false
latched_by true false keeps is = refl
latched_by true true keeps is = absurd (cc)
latched_by false unlatched_ keeps is = absurd (cc)

action_fits : (image : ImageParts) (block : Block) (number event : ℕ) (action : EventAction) (free : Bool) (start : EventStart) → declared_event image event ≡ Some start → (free ≡ false → is_latched start ≡ true)
    → not (is_kept action && free) ≡ true → operands_right image block number (changes action event) ≡ true
unfolding is_kept
action_fits image block number event Signal free start declared latched is = ap (holds_of (λ (one : EventStart). true)) declared
action_fits image block number event Set free start declared latched is = ap (holds_of is_latched) declared ∙ latched (latched_by true free refl is)
action_fits image block number event Reset free start declared latched is = ap (holds_of is_latched) declared ∙ latched (latched_by true free refl is)

both_numbers : (group_at number_at : Place) (first second : Bool) → (if first then unless second number_at else Some group_at) ≡ None → (first ≡ true) × (second ≡ true)
both_numbers group_at number_at true true none = (refl, refl)
both_numbers group_at number_at true false none = absurd (cc)
both_numbers group_at number_at false second none = absurd (cc)

module _ (ps : List Phrase) (sound : IsSound type_rows ps) where
  pub event_fits : (image : ImageParts) (g : Ground) (site : Site) (d : List Phrase) (a : Around) (e : Eventful) → AreFirst (add d a (OfEvent e)) ps → EventAgrees image site ps a.block e → EventFits image g site e
  unfolding use_rows unlatched
  event_fits image g site d a e first agree =
      let p : Phrase = phrase (length d) a (OfEvent e) in
      let none = ruled_none 715 (unlatched ps p (OfEvent e))
      (unbroken type_rows ps sound p (among ps d a (OfEvent e) first) (λ qs q. ruled 715 (unlatched qs q q.node)) (of_uses (λ qs q. ruled 715 (unlatched qs q q.node)) (inr (inr (inr (inl refl)))))) in
      action_fits image g.block g.number (event_named site.set.phrases site.block e.name.name) e.action (means_unlatched ps a.block e.name.name) agree.start agree.declared agree.latched
      (kept_unless (not (is_kept e.action && means_unlatched ps a.block e.name.name)) e.place none)

  -- SEND ERROR
  pub error_fits : (image : ImageParts) (g : Ground) (d : List Phrase) (a : Around) (group_at number_at : Place) (group number : ℕ) → AreFirst (add d a (OfSendError group_at group number_at number)) ps
      → operands_right image g.block g.number (instr.Raise group number) ≡ true
  unfolding use_rows no_error
  error_fits image g d a group_at number_at group number first =
      let p : Phrase = phrase (length d) a (OfSendError group_at group number_at number) in
      let none = ruled_none 719 (no_error (OfSendError group_at group number_at number))
      (unbroken type_rows ps sound p (among ps d a (OfSendError group_at group number_at number) first) (λ qs q. ruled 719 (no_error q.node)) (of_uses (λ qs q. ruled 719 (no_error q.node)) (inr (inr (inl refl))))) in
      let both = both_numbers group_at number_at (is_error_number group) (is_error_number number) none in
      and_from (nat_le 1 group) (nat_le 1 number) (and_parts (nat_le 1 group) (nat_le group 255) both.0).0 (and_parts (nat_le 1 number) (nat_le number 255) both.1).0
