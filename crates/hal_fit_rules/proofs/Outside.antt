-- What no UPDATE block may do stands in none, where no rule of locks is broken, nor in a unit that does none of it.
use Rattle.std.proofs.Common.{◌≡◌, Bool, true, false, ◌||◌, List, length, Some, None, inl, inr, if◌then◌else◌, refl, sym, ap, ◌∙◌}
use Rattle.std.specs.Option.{is_some}
use Rattle.hal_base.specs.declared.refusal.Place.{Place}
use Rattle.hal_grammar.specs.Leaves.{Naming}
use Rattle.hal_grammar.specs.Statements.{Eventful}
use Rattle.hal_phrases.specs.declared.around.Around.{Around}
use Rattle.hal_phrases.specs.Phrases.{Node, Phrase, phrase, add, OfRead, OfWrite, OfRealTime, OfEvent, OfUpdate}
use Rattle.hal_scope.specs.Rules.{IsSound, ruled}
use Rattle.hal_locks.specs.Barred.{barred, barred_within}
use Rattle.hal_locks.specs.Callees.{is_barred}
use Rattle.hal_locks.specs.Rules.{lock_rows}
use Rattle.hal_locks.specs.Updates.{nested, updating}
use Rattle.hal_fit_rules.specs.Begun.{AreFirst}
use Rattle.hal_fit_rules.specs.Looked.{AreLooked}
use Rattle.hal_fit_rules.proofs.Beginning.{among}
use Rattle.hal_fit_rules.proofs.Unbroken.{ruled_none, unbroken}

none_within : (inside : Bool) (place : Place) → (if inside then Some place else None) ≡ None → inside ≡ false
none_within true place none = absurd (cc)
none_within false place none = refl

one_true : (a b : Bool) → b ≡ true → (a || b) ≡ true
one_true true b is = refl
one_true false b is = is

module _ (ps : List Phrase) (sound : IsSound lock_rows ps) where
  -- a phrase that does what no UPDATE block may do is looked at as outside
  outside : (within : Bool) (d : List Phrase) (a : Around) (n : Node) (place : Place) → AreLooked ps within a → AreFirst (add d a n) ps → barred ps a.block n ≡ Some place → within ≡ false
  unfolding lock_rows
  outside within d a n place (inl stands) first bars =
      let p : Phrase = phrase (length d) a n in
      stands
      ∙ none_within (is_some a.update) place
      (ap (λ o. if is_some a.update then o else None) (sym bars)
      ∙ ruled_none 803 (barred_within ps p) (unbroken lock_rows ps sound p (among ps d a n first) (λ qs q. ruled 803 (barred_within qs q)) (inr (inr (inl refl)))))
  outside within d a n place (inr looked) first bars =
      let p : Phrase = phrase (length d) a n in
      let harmless : (is_some (updating n) || is_some (barred ps a.block n)) ≡ false = looked.1 p (among ps d a n first) refl in
      let no : (is_some (updating n) || is_some (barred ps a.block n)) ≡ true = one_true (is_some (updating n)) (is_some (barred ps a.block n)) (ap is_some bars) in
      absurd (cc)

  pub read_outside : (within : Bool) (d : List Phrase) (a : Around) (place : Place) → AreLooked ps within a → AreFirst (add d a (OfRead place)) ps → within ≡ false
  unfolding barred
  read_outside within d a place looked first = outside within d a (OfRead place) place looked first refl

  pub write_outside : (within : Bool) (d : List Phrase) (a : Around) (place : Place) → AreLooked ps within a → AreFirst (add d a (OfWrite place)) ps → within ≡ false
  unfolding barred
  write_outside within d a place looked first = outside within d a (OfWrite place) place looked first refl

  pub real_time_outside : (within : Bool) (d : List Phrase) (a : Around) (place : Place) → AreLooked ps within a → AreFirst (add d a (OfRealTime place)) ps → within ≡ false
  unfolding barred
  real_time_outside within d a place looked first = outside within d a (OfRealTime place) place looked first refl

  pub event_outside : (within : Bool) (d : List Phrase) (a : Around) (e : Eventful) → AreLooked ps within a → AreFirst (add d a (OfEvent e)) ps → within ≡ false
  unfolding barred
  event_outside within d a e looked first = outside within d a (OfEvent e) e.place looked first refl

  pub update_outside : (within : Bool) (d : List Phrase) (a : Around) (place : Place) (labels : List Naming) → AreLooked ps within a → AreFirst (add d a (OfUpdate place labels)) ps → within ≡ false
  unfolding lock_rows updating
  update_outside within d a place labels (inl stands) first =
      let p : Phrase = phrase (length d) a (OfUpdate place labels) in
      stands
      ∙ none_within (is_some a.update) place
      (ruled_none 802 (nested p) (unbroken lock_rows ps sound p (among ps d a (OfUpdate place labels) first) (λ qs q. ruled 802 (nested q)) (inr (inl refl))))
  update_outside within d a place labels (inr looked) first =
      let harmless : is_barred ps (phrase (length d) a (OfUpdate place labels)) ≡ false = looked.1 (phrase (length d) a (OfUpdate place labels)) (among ps d a (OfUpdate place labels) first) refl in
      absurd (cc)
