-- An expression behind UNTIL of SCHEDULE that isn't one of events: its operands are what they are elsewhere.
use Rattle.std.proofs.Common.{◌≡◌, ℕ, zero, suc, Bool, true, false, not, List, length, Option, Some, None, slice_get, if◌then◌else◌, inl, inr, refl, sym, ap, ◌∙◌}
use Rattle.std.specs.Option.{option_or, is_some}
use Rattle.hal_base.specs.declared.refusal.Place.{Place}
use Rattle.hal_grammar.specs.Expressions.{Expression, Decimal}
use Rattle.hal_phrases.specs.declared.around.Around.{Around}
use Rattle.hal_phrases.specs.declared.role.Role.{Role}
use Rattle.hal_phrases.specs.declared.role.Role.TheVariants as role
use Rattle.hal_phrases.specs.Roles as roles
use Rattle.hal_phrases.specs.Phrases.{Phrase, phrase, add, OfExpression, OfRealTime}
use Rattle.hal_phrases.specs.GatheredExpressions.{below, gathered}
use Rattle.hal_scope.specs.Rules.{IsSound}
use Rattle.hal_scope.specs.Uses.{holds_event, limit_around, limit_of}
use Rattle.hal_operands.specs.declared.want.Want.{Want}
use Rattle.hal_operands.specs.declared.want.Want.TheVariants as want
use Rattle.hal_operands.specs.Pairs.{is_eventual, pair_fault}
use Rattle.hal_operands.specs.Times.{is_limit_at, is_whole_time, mistimed, timed, time_fault, event_fault, eventless_fault, limit_fault, wanted_at, wanted_within}
use Rattle.hal_operands.specs.Wants.{misfit_at, wanted}
use Rattle.hal_types.specs.Rules.{operand_rows, type_rows}
use Rattle.hal_fit_rules.specs.Begun.{AreFirst}
use Rattle.hal_fit_rules.specs.Leaves.{is_value_role}
use Rattle.hal_fit_rules.proofs.Beginning.{then_, there, among}
use Rattle.hal_fit_rules.proofs.BegunExpressions.{own_first}
use Rattle.hal_fit_rules.proofs.Unbroken.{unbroken, of_operands, value_eventless, value_timeless, fit, matched, no_decimal}
use Rattle.hal_fit_rules.proofs.Classes.{is_decimal}

-- whether what stands around is one of events
abbrev holding : List Phrase → ℕ → Option Expression → Bool
holding ps block o = elim o [ None ↦ false | Some tree ↦ holds_event ps block tree ]

abbrev outermost : Expression → Option Expression → Option Expression
outermost t o = elim o [ None ↦ Some t | Some outer ↦ Some outer ]

-- the outermost expression behind UNTIL of SCHEDULE around what this is, and around this phrase
abbrev limit_in : List Phrase → ℕ → ℕ → Option Expression → Option Expression
limit_in ps n parent o = elim o [ None ↦ None | Some tree ↦ outermost tree (limit_around ps n parent) ]

abbrev limit_by : List Phrase → ℕ → Option Phrase → Option Expression
limit_by ps n o = elim o [ None ↦ None | Some p ↦ limit_in ps n p.around.parent (limit_of p.node) ]

-- the phrase with this number is no part of an event expression behind UNTIL of SCHEDULE
abbrev pub IsCalm : List Phrase → ℕ → ℕ → Type 0
IsCalm ps block k = (n : ℕ) → holding ps block (limit_around ps n k) ≡ false

-- an expression of this role whose operands break rules where they don't go together: none of events
abbrev pub IsRuled : List Phrase → Around → Role → Expression → Type 0
IsRuled ps a role.Event t = ⊥
IsRuled ps a role.EventOrTime t = (holds_event ps a.block t ≡ false) × IsCalm ps a.block a.parent
IsRuled ps a other t = Unit {0}

pub plain_ruled : (ps : List Phrase) (a : Around) (r : Role) (t : Expression) → is_eventual r ≡ false → IsRuled ps a r t
unfolding is_eventual
plain_ruled ps a role.Event t plain = absurd (cc)
plain_ruled ps a role.EventOrTime t plain = absurd (cc)
plain_ruled ps a other t plain = tt

first_none : {X : Type 0} (o p : Option X) → option_or o p ≡ None → o ≡ None
first_none None p none = refl
first_none (Some x) p none = absurd (cc)

second_none : {X : Type 0} (o p : Option X) → option_or o p ≡ None → p ≡ None
second_none None p none = none
second_none (Some x) p none = absurd (cc)

both_false : (b x y : Bool) → x ≡ false → y ≡ false → (if b then x else y) ≡ false
both_false true x y of_x of_y = of_x
both_false false x y of_x of_y = of_y

limit_itself : (t : Expression) → limit_of (OfExpression role.EventOrTime t) ≡ Some t
unfolding limit_of
limit_itself t = refl

no_limit : (place : Place) → limit_of (OfRealTime place) ≡ None
unfolding limit_of
no_limit place = refl

-- what is known of an operand of this role, of which this is wanted
pub record IsOperand (ps : List Phrase) (a : Around) (r : Role) (w : Want) (t : Expression) : Type 0 where
  pub ruled : IsRuled ps a r t
  pub fits : misfit_at ps a.block w t ≡ None
  pub timeless : is_decimal t ≡ false

module _ (ps : List Phrase) where
  limit_there : (k : ℕ) (a : Around) (t : Expression) → slice_get ps k ≡ Some (phrase k a (OfExpression role.EventOrTime t)) → is_limit_at ps k ≡ true
  limit_there k a t there =
      ap (λ (o : Option Phrase). elim o [ None ↦ false | Some p ↦ is_some (limit_of p.node) ]) there ∙ ap is_some (limit_itself t)

  want_there : (k : ℕ) (a : Around) (t : Expression) → slice_get ps k ≡ Some (phrase k a (OfExpression role.EventOrTime t)) → wanted_at ps k ≡ wanted_within t
  want_there k a t there =
      ap (λ (o : Option Phrase). elim o [ None ↦ want.Anything | Some p ↦ elim (limit_of p.node) [ None ↦ want.Anything | Some around ↦ wanted_within around ] ]) there
      ∙ ap (λ (o : Option Expression). elim o [ None ↦ want.Anything | Some around ↦ wanted_within around ]) (limit_itself t)

  calm_by : (block : ℕ) (t : Expression) (o : Option Expression) → holds_event ps block t ≡ false → holding ps block o ≡ false → holding ps block (outermost t o) ≡ false
  calm_by block t None eventless calm = eventless
  calm_by block t (Some outer) eventless calm = calm

  -- below an expression that is none of events there is none
  pub calm_below : (k : ℕ) (a : Around) (t : Expression) → slice_get ps k ≡ Some (phrase k a (OfExpression role.EventOrTime t)) → holds_event ps a.block t ≡ false → IsCalm ps a.block a.parent → IsCalm ps a.block k
  unfolding limit_around
  calm_below k a t there eventless calm zero = refl
  calm_below k a t there eventless calm (suc n) =
      ap (λ (o : Option Phrase). holding ps a.block (limit_by ps n o)) there
      ∙ (ap (λ (o : Option Expression). holding ps a.block (limit_in ps n a.parent o)) (limit_itself t) ∙ calm_by a.block t (limit_around ps n a.parent) eventless (calm n))

  -- nor below SCHEDULE
  pub calm_there : (k block : ℕ) (a : Around) (place : Place) → slice_get ps k ≡ Some (phrase k a (OfRealTime place)) → IsCalm ps block k
  unfolding limit_around
  calm_there k block a place there zero = refl
  calm_there k block a place there (suc n) =
      ap (λ (o : Option Phrase). holding ps block (limit_by ps n o)) there ∙ ap (λ (o : Option Expression). holding ps block (limit_in ps n a.parent o)) (no_limit place)

  pub unlimited_there : (k : ℕ) (a : Around) (place : Place) → slice_get ps k ≡ Some (phrase k a (OfRealTime place)) → is_limit_at ps k ≡ false
  unlimited_there k a place there = ap (λ (o : Option Phrase). elim o [ None ↦ false | Some p ↦ is_some (limit_of p.node) ]) there ∙ ap is_some (no_limit place)

module _ (ps : List Phrase) (sound : IsSound type_rows ps) where
  -- such an expression breaks no rule of operands
  quiet : (d : List Phrase) (a : Around) (t : Expression) → IsRuled ps a role.EventOrTime t → AreFirst (add d a (OfExpression role.EventOrTime t)) ps
      → eventless_fault ps (phrase (length d) a (OfExpression role.EventOrTime t)) t ≡ None
  unfolding operand_rows mistimed timed
  quiet d a t ruled first =
      let p : Phrase = phrase (length d) a (OfExpression role.EventOrTime t) in
      let none : limit_fault ps p t ≡ None = unbroken type_rows ps sound p (among ps d a (OfExpression role.EventOrTime t) first) (λ qs q. mistimed qs q q.node) (of_operands (λ qs q. mistimed qs q q.node) (inr (inl refl))) in
      ap (λ b. if b then event_fault ps a.block t else eventless_fault ps p t)
      (sym (both_false (is_limit_at ps a.parent) (holding ps a.block (limit_around ps (length ps) a.parent)) (holds_event ps a.block t) (ruled.1 (length ps)) ruled.0)) ∙ none

  pub ruled_matched : (d : List Phrase) (a : Around) (r : Role) (t : Expression) → IsRuled ps a r t → AreFirst (add d a (OfExpression r t)) ps → pair_fault ps a.block t ≡ None
  unfolding is_eventual
  ruled_matched d a role.Event t ruled first = absurd ruled
  ruled_matched d a role.EventOrTime t ruled first =
      first_none (pair_fault ps a.block t) (if is_limit_at ps a.parent then misfit_at ps a.block (wanted_at ps a.parent) t else time_fault ps a.block t) (quiet d a t ruled first)
  ruled_matched d a other t ruled first = matched ps sound d a other t refl first

  -- a whole one is a time
  pub limit_timed : (d : List Phrase) (a : Around) (t : Expression) → IsRuled ps a role.EventOrTime t → is_limit_at ps a.parent ≡ false → AreFirst (add d a (OfExpression role.EventOrTime t)) ps
      → time_fault ps a.block t ≡ None
  limit_timed d a t ruled whole first =
      ap (λ b. if b then misfit_at ps a.block (wanted_at ps a.parent) t else time_fault ps a.block t) (sym whole)
      ∙ second_none (pair_fault ps a.block t) (if is_limit_at ps a.parent then misfit_at ps a.block (wanted_at ps a.parent) t else time_fault ps a.block t) (quiet d a t ruled first)

  no_time : (d : List Phrase) (a : Around) (r : Role) (t : Expression) → is_whole_time ps a.parent r ≡ false → AreFirst (gathered d a r t) ps → is_decimal t ≡ false
  unfolding gathered
  no_time d a r (Decimal place number) timeless begun = no_decimal ps sound d a r place number timeless begun
  no_time d a r other timeless begun = refl

  -- an operand of a role of values
  pub plain_operand : (d : List Phrase) (a : Around) (r : Role) (w : Want) (t : Expression) → is_value_role r ≡ true → wanted r ≡ w → AreFirst (gathered d a r t) ps → IsOperand ps a r w t
  plain_operand d a r w t value wants begun = record {
    ruled = plain_ruled ps a r t (value_eventless r value);
    fits = ap (λ x. misfit_at ps a.block x t) (sym wants) ∙ fit ps sound d a r t (then_ (own_first d a r t) begun);
    timeless = no_time d a r t (value_timeless ps a.parent r value) begun;
  }

  -- an operand behind UNTIL of SCHEDULE
  limit_operand : (d e : List Phrase) (a : Around) (w : Want) (t one : Expression) → IsRuled ps a role.EventOrTime t → AreFirst (add d a (OfExpression role.EventOrTime t)) ps → wanted_within t ≡ w
      → holds_event ps a.block one ≡ false → AreFirst (gathered e (below d a) role.EventOrTime one) ps → IsOperand ps (below d a) role.EventOrTime w one
  unfolding is_whole_time
  limit_operand d e a w t one ruled first wants eventless begun =
      let at_parent = there ps d a (OfExpression role.EventOrTime t) first in
      let limit : is_limit_at ps (length d) ≡ true = limit_there ps (length d) a t at_parent in
      let is_ruled : IsRuled ps (below d a) role.EventOrTime one = (eventless, calm_below ps (length d) a t at_parent ruled.0 ruled.1) in
      record {
        ruled = is_ruled;
        fits = ap (λ x. misfit_at ps a.block x one) (sym wants) ∙ (ap (λ x. misfit_at ps a.block x one) (sym (want_there ps (length d) a t at_parent))
            ∙ (ap (λ b. if b then misfit_at ps a.block (wanted_at ps (length d)) one else time_fault ps a.block one) (sym limit)
            ∙ second_none (pair_fault ps a.block one) (if is_limit_at ps (length d) then misfit_at ps a.block (wanted_at ps (length d)) one else time_fault ps a.block one)
            (quiet e (below d a) one is_ruled (then_ (own_first e (below d a) role.EventOrTime one) begun))));
        timeless = no_time e (below d a) role.EventOrTime one (ap not limit) begun;
      }

  -- an operand of an expression under which the role of event expressions goes on
  pub operand_below : (d e : List Phrase) (a : Around) (r own : Role) (w : Want) (t one : Expression) → IsRuled ps a r t → AreFirst (add d a (OfExpression r t)) ps → is_value_role own ≡ true → wanted own ≡ w
      → wanted_within t ≡ w → (holds_event ps a.block t ≡ false → holds_event ps a.block one ≡ false) → AreFirst (gathered e (below d a) (roles.under r own) one) ps
      → IsOperand ps (below d a) (roles.under r own) w one
  operand_below d e a role.Event own w t one ruled first value wants wants_within eventless begun = absurd ruled
  operand_below d e a role.EventOrTime own w t one ruled first value wants wants_within eventless begun =
      limit_operand d e a w t one ruled first wants_within (eventless ruled.0) begun
  operand_below d e a other own w t one ruled first value wants wants_within eventless begun = plain_operand e (below d a) own w one value wants begun
