-- What stands below an expression behind UNTIL of SCHEDULE that is none of events is none either.
use Rattle.std.proofs.Common.{◌≡◌, Bool, true, false, ◌||◌, List, length, refl}
use Rattle.hal_grammar.specs.Leaves.{Conversion, ToInteger, ToBits, ToText}
use Rattle.hal_grammar.specs.Expressions.{Expression, Expressions, MoreExpressions}
use Rattle.hal_phrases.specs.declared.around.Around.{Around}
use Rattle.hal_phrases.specs.declared.role.Role.{Role}
use Rattle.hal_phrases.specs.declared.role.Role.TheVariants as role
use Rattle.hal_phrases.specs.Roles as roles
use Rattle.hal_phrases.specs.Phrases.{Phrase, add, OfExpression}
use Rattle.hal_phrases.specs.GatheredExpressions.{below}
use Rattle.hal_scope.specs.Uses.{holds_event, hold_event}
use Rattle.hal_operands.specs.Pairs.{is_eventual}
use Rattle.hal_fit_rules.specs.Begun.{AreFirst}
use Rattle.hal_fit_rules.proofs.Beginning.{there}
use Rattle.hal_fit_rules.proofs.Limiting.{IsCalm, IsRuled, calm_below, plain_ruled}

neither : (a b : Bool) → (a || b) ≡ false → (a ≡ false) × (b ≡ false)
neither false false is = (refl, refl)
neither true b is = absurd (cc)
neither false true is = absurd (cc)

-- the same of operands
abbrev pub AreRuled : List Phrase → Around → Role → Expressions → Type 0
AreRuled ps a role.Event ts = ⊥
AreRuled ps a role.EventOrTime ts = (hold_event ps a.block ts ≡ false) × IsCalm ps a.block a.parent
AreRuled ps a other ts = Unit {0}

-- in a conversion nothing is wanted of events
pub converted_ruled : (ps : List Phrase) (a : Around) (conversion : Conversion) (t : Expression) → IsRuled ps a (roles.of_conversion conversion) t
converted_ruled ps a ToInteger t = tt
converted_ruled ps a ToBits t = tt
converted_ruled ps a ToText t = tt

-- the first operand and the others
pub first_ruled : (ps : List Phrase) (a : Around) (r : Role) (first : Expression) (others : Expressions) → AreRuled ps a r (MoreExpressions first others) → IsRuled ps a r first
unfolding hold_event
first_ruled ps a role.Event first others ruled = ruled
first_ruled ps a role.EventOrTime first others ruled = ((neither (holds_event ps a.block first) (hold_event ps a.block others) ruled.0).0, ruled.1)
first_ruled ps a other first others ruled = tt

pub others_ruled : (ps : List Phrase) (a : Around) (r : Role) (first : Expression) (others : Expressions) → AreRuled ps a r (MoreExpressions first others) → AreRuled ps a r others
unfolding hold_event
others_ruled ps a role.Event first others ruled = ruled
others_ruled ps a role.EventOrTime first others ruled = ((neither (holds_event ps a.block first) (hold_event ps a.block others) ruled.0).1, ruled.1)
others_ruled ps a other first others ruled = tt

module _ (ps : List Phrase) (d : List Phrase) (a : Around) (r : Role) (t : Expression) (ruled : IsRuled ps a r t) (begun : AreFirst (add d a (OfExpression r t)) ps) where
  -- the phrase of the expression itself
  itself_by : (one : Role) → IsRuled ps a one t → AreFirst (add d a (OfExpression one t)) ps → IsRuled ps (below d a) one t
  itself_by role.Event is first = is
  itself_by role.EventOrTime is first = (is.0, calm_below ps (length d) a t (there ps d a (OfExpression role.EventOrTime t) first) is.0 is.1)
  itself_by other is first = tt

  pub itself_ruled : IsRuled ps (below d a) r t
  itself_ruled = itself_by r ruled begun

  -- an operand, under which the role of event expressions goes on
  below_by : (own : Role) (x : Expression) → is_eventual own ≡ false → (holds_event ps a.block t ≡ false → holds_event ps a.block x ≡ false) → (one : Role) → IsRuled ps a one t → AreFirst (add d a (OfExpression one t)) ps
      → IsRuled ps (below d a) (roles.under one own) x
  below_by own x plain eventless role.Event is first = absurd is
  below_by own x plain eventless role.EventOrTime is first = (eventless is.0, calm_below ps (length d) a t (there ps d a (OfExpression role.EventOrTime t) first) is.0 is.1)
  below_by own x plain eventless other is first = plain_ruled ps (below d a) own x plain

  pub ruled_below : (own : Role) (x : Expression) → is_eventual own ≡ false → (holds_event ps a.block t ≡ false → holds_event ps a.block x ≡ false) → IsRuled ps (below d a) (roles.under r own) x
  ruled_below own x plain eventless = below_by own x plain eventless r ruled begun

  -- operands
  plain_all : (own : Role) (xs : Expressions) → is_eventual own ≡ false → AreRuled ps (below d a) own xs
  unfolding is_eventual
  plain_all role.Event xs plain = absurd (cc)
  plain_all role.EventOrTime xs plain = absurd (cc)
  plain_all other xs plain = tt

  all_by : (own : Role) (xs : Expressions) → is_eventual own ≡ false → (holds_event ps a.block t ≡ false → hold_event ps a.block xs ≡ false) → (one : Role) → IsRuled ps a one t → AreFirst (add d a (OfExpression one t)) ps
      → AreRuled ps (below d a) (roles.under one own) xs
  all_by own xs plain eventless role.Event is first = absurd is
  all_by own xs plain eventless role.EventOrTime is first = (eventless is.0, calm_below ps (length d) a t (there ps d a (OfExpression role.EventOrTime t) first) is.0 is.1)
  all_by own xs plain eventless other is first = plain_all own xs plain

  pub all_ruled_below : (own : Role) (xs : Expressions) → is_eventual own ≡ false → (holds_event ps a.block t ≡ false → hold_event ps a.block xs ≡ false) → AreRuled ps (below d a) (roles.under r own) xs
  all_ruled_below own xs plain eventless = all_by own xs plain eventless r ruled begun

-- the operands of OR and AND, of NOT and of parentheses are none of events where the whole is none
pub first_eventless : (a b : Bool) → (a || b) ≡ false → a ≡ false
first_eventless a b is = (neither a b is).0

pub others_eventless : (a b : Bool) → (a || b) ≡ false → b ≡ false
others_eventless a b is = (neither a b is).1
