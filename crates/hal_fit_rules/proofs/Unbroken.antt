-- What the phrases of a set that breaks no rule of types say of each expression.
use Rattle.std.proofs.Common.{◌≡◌, inl, inr, ℕ, Bool, true, false, List, [], ◌∷◌, ◌++◌, length, Option, Some, None, if◌then◌else◌, refl, sym, ap, ◌∙◌}
use Rattle.hal_base.specs.declared.refusal.Place.{Place}
use Rattle.hal_grammar.specs.Expressions.{Expression, Decimal}
use Rattle.hal_phrases.specs.declared.around.Around.{Around}
use Rattle.hal_phrases.specs.declared.role.Role.{Role}
use Rattle.hal_phrases.specs.declared.role.Role.TheVariants as role
use Rattle.hal_phrases.specs.Roles as roles
use Rattle.hal_phrases.specs.Phrases.{Phrase, phrase, add, OfExpression, OfDecimal}
use Rattle.hal_phrases.specs.GatheredExpressions.{below}
use Rattle.hal_scope.specs.Rules.{Row, IsAmong, IsSound, ruled}
use Rattle.hal_scope.specs.Uses.{unless}
use Rattle.hal_operands.specs.Pairs.{is_eventual, mismatched, pair_fault}
use Rattle.hal_operands.specs.Times.{is_timely, is_whole_time, untimely}
use Rattle.hal_operands.specs.Wants.{at, misfit_at, unfit, wanted}
use Rattle.hal_types.specs.Rules.{attribute_rows, operand_rows, use_rows, size_rows, type_rows}
use Rattle.hal_fit_rules.specs.Begun.{AreFirst}
use Rattle.hal_fit_rules.specs.Leaves.{is_value_role}
use Rattle.hal_fit_rules.proofs.Beginning.{then_, one, there, among}

none_of : (table : List Row) (ps : List Phrase) → IsSound table ps → (p : Phrase) → IsAmong p ps → (row : Row) → IsAmong row table → (o : Option (ℕ × Place)) → row ps p ≡ o → row ps p ≡ None
none_of table ps sound p within row listed None is = is
none_of table ps sound p within row listed (Some fault) is = absurd (sound fault.0 fault.1 (record { row = row; listed = listed; phrase = p; there = within; broken = is }))

-- no phrase of a sound set breaks a row
pub unbroken : (table : List Row) (ps : List Phrase) → IsSound table ps → (p : Phrase) → IsAmong p ps → (row : Row) → IsAmong row table → row ps p ≡ None
unbroken table ps sound p within row listed = none_of table ps sound p within row listed (row ps p) refl

pub among_first : {X : Type 0} (x : X) (xs ys : List X) → IsAmong x xs → IsAmong x (xs ++ ys)
among_first x [] ys within = absurd within
among_first x (y ∷ xs) ys (inl same) = inl same
among_first x (y ∷ xs) ys (inr later) = inr (among_first x xs ys later)

pub among_second : {X : Type 0} (x : X) (xs ys : List X) → IsAmong x ys → IsAmong x (xs ++ ys)
among_second x [] ys within = within
among_second x (y ∷ xs) ys within = inr (among_second x xs ys within)

-- a row of operands is one of types
pub of_operands : (row : Row) → IsAmong row operand_rows → IsAmong row type_rows
unfolding type_rows
of_operands row listed = among_second row attribute_rows (operand_rows ++ (use_rows ++ size_rows)) (among_first row operand_rows (use_rows ++ size_rows) listed)

-- and so is one of uses
pub of_uses : (row : Row) → IsAmong row use_rows → IsAmong row type_rows
unfolding type_rows
of_uses row listed = among_second row attribute_rows (operand_rows ++ (use_rows ++ size_rows)) (among_second row operand_rows (use_rows ++ size_rows) (among_first row use_rows size_rows listed))

-- and one of sizes
pub of_sizes : (row : Row) → IsAmong row size_rows → IsAmong row type_rows
unfolding type_rows
of_sizes row listed = among_second row attribute_rows (operand_rows ++ (use_rows ++ size_rows)) (among_second row operand_rows (use_rows ++ size_rows) (among_second row use_rows size_rows listed))

pub ruled_none : (rule : ℕ) (o : Option Place) → ruled rule o ≡ None → o ≡ None
ruled_none rule None is = refl
ruled_none rule (Some place) is = absurd (cc)

-- no rule is broken at a place where none is broken
pub no_rule : (place : Place) (o : Option ℕ) → at place o ≡ None → o ≡ None
no_rule place None is = refl
no_rule place (Some rule) is = absurd (cc)

-- a role of values is none of events
pub value_eventless : (r : Role) → is_value_role r ≡ true → is_eventual r ≡ false
unfolding is_eventual
value_eventless role.Time is = absurd (cc)
value_eventless role.Event is = absurd (cc)
value_eventless role.EventOrTime is = absurd (cc)
value_eventless other is = refl

-- and none of times
pub value_timeless : (ps : List Phrase) (k : ℕ) (r : Role) → is_value_role r ≡ true → is_whole_time ps k r ≡ false
unfolding is_whole_time
value_timeless ps k role.Time is = absurd (cc)
value_timeless ps k role.Event is = absurd (cc)
value_timeless ps k role.EventOrTime is = absurd (cc)
value_timeless ps k other is = refl

-- what stands below what is no event expression has a role of its own
pub own_role : (r own : Role) → is_eventual r ≡ false → roles.under r own ≡ own
unfolding is_eventual
own_role role.Event own is = absurd (cc)
own_role role.EventOrTime own is = absurd (cc)
own_role other own is = refl

module _ (ps : List Phrase) (sound : IsSound type_rows ps) where
  -- an expression is what its role wants
  pub fit : (d : List Phrase) (a : Around) (r : Role) (t : Expression) → AreFirst (add d a (OfExpression r t)) ps → misfit_at ps a.block (wanted r) t ≡ None
  unfolding operand_rows unfit
  fit d a r t first =
      unbroken type_rows ps sound (phrase (length d) a (OfExpression r t)) (among ps d a (OfExpression r t) first) (λ qs q. unfit qs q q.node) (of_operands (λ qs q. unfit qs q q.node) (inr (inr (inl refl))))

  -- and its operands go together
  pub matched : (d : List Phrase) (a : Around) (r : Role) (t : Expression) → is_eventual r ≡ false → AreFirst (add d a (OfExpression r t)) ps → pair_fault ps a.block t ≡ None
  unfolding operand_rows mismatched
  matched d a r t plain first =
      let none : mismatched ps (phrase (length d) a (OfExpression r t)) (OfExpression r t) ≡ None =
      unbroken type_rows ps sound (phrase (length d) a (OfExpression r t)) (among ps d a (OfExpression r t) first) (λ qs q. mismatched qs q q.node) (of_operands (λ qs q. mismatched qs q q.node) (inr (inr (inr (inl refl))))) in
      ap (λ b. if b then None else pair_fault ps a.block t) (sym plain) ∙ none

  no_place : {X : Type 0} (b : Bool) (place : Place) → b ≡ false → unless b place ≡ None → X
  no_place true place is none = absurd (cc)
  no_place false place is none = absurd (cc)

  -- a decimal is a whole time
  pub no_decimal : {X : Type 0} (d : List Phrase) (a : Around) (r : Role) (place : Place) (number : ℕ) → is_whole_time ps a.parent r ≡ false
      → AreFirst (add (add d a (OfExpression r (Decimal place number))) (below d a) (OfDecimal r place)) ps → X
  unfolding operand_rows untimely is_timely
  no_decimal d a r place number timeless first =
      let before = there ps d a (OfExpression r (Decimal place number)) (then_ (one (add d a (OfExpression r (Decimal place number))) (below d a) (OfDecimal r place)) first) in
      let e : List Phrase = add d a (OfExpression r (Decimal place number)) in
      let none = ruled_none 322 (untimely ps (phrase (length e) (below d a) (OfDecimal r place)) (OfDecimal r place))
      (unbroken type_rows ps sound (phrase (length e) (below d a) (OfDecimal r place)) (among ps e (below d a) (OfDecimal r place) first) (λ qs q. ruled 322 (untimely qs q q.node))
      (of_operands (λ qs q. ruled 322 (untimely qs q q.node)) (inl refl))) in
      no_place (is_timely ps (length d) r) place
      (ap (λ (o : Option Phrase). elim o [ None ↦ true | Some q ↦ is_whole_time ps q.around.parent r ]) before ∙ timeless) none
