-- Statements whose expressions agree fit, where the set that they stand in breaks no rule of types.
use Rattle.std.proofs.Common.{◌≡◌, ℕ, suc, Bool, true, false, List, [], length, Option, Some, None, inl, inr, refl, sym, ap, ◌∙◌}
use Rattle.std.specs.Option.{option_and_then}
use Rattle.std.proofs.lemmas.Bool.{and_from}
use Rattle.hal_base.specs.declared.refusal.Place.{Place}
use Rattle.hal_grammar.specs.Leaves.{Naming}
use Rattle.hal_grammar.specs.Expressions.{Expression, Decimal, Expressions, NoExpressions, MoreExpressions, Reference, place_of}
use Rattle.hal_grammar.specs.Statements.{Guard, While, Until, Span, Stepped, Listed, Start, StartAt, StartIn, StartOn, Cycle, Cyclic, CyclicEvery, CyclicAfter, Schedule, Statement, Labelled, Basic, Assignment, Null, If, Do, DoCase, DoLoop, DoFor, Exit, Repeat, Return, Call, Read, Write, Update, Eventful, Event, Scheduled, Cancel, Terminate, Wait, WaitUntil, WaitForDependent, WaitFor, UpdatePriority, OnErrorStatement, OnErrorResponse, OffError, SendError, Alternative, NoAlternative, Otherwise, Group, Groups, Statements, NoStatements, MoreStatements}
use Rattle.hal_phrases.specs.declared.around.Around.{Around}
use Rattle.hal_phrases.specs.declared.role.Role.{Role}
use Rattle.hal_phrases.specs.declared.role.Role.TheVariants as role
use Rattle.hal_phrases.specs.Surroundings.{inside, grouped, updated}
use Rattle.hal_phrases.specs.Phrases.{Phrase, phrase, add, gathered_each, gathered_any, OfExpression, OfAssignment, OfGroup, OfUpdate, OfHandler, OfResponse, OfRead, OfWrite, OfRealTime}
use Rattle.hal_phrases.specs.GatheredDeclarations.{gathered_optional}
use Rattle.hal_phrases.specs.GatheredExpressions.{below, gathered, gathered_all}
use Rattle.hal_phrases.specs.GatheredStatements.{gathered_label, gathered_receiver, gathered_process, gathered_event, gathered_guard, gathered_span, gathered_start, gathered_cycle, gathered_limit, gathered_schedule, begun_for, around_for, gathered_statement, gathered_basic, gathered_alternative, gathered_group, gathered_statements}
use Rattle.hal_scope.specs.Rules.{IsSound, ruled}
use Rattle.hal_scope.specs.Uses.{holds_event}
use Rattle.hal_kinds.specs.declared.class.Class.{Class}
use Rattle.hal_kinds.specs.declared.class.Class.TheVariants as class
use Rattle.hal_kinds.specs.Classes.{class_of}
use Rattle.hal_operands.specs.declared.want.Want.TheVariants as want
use Rattle.hal_operands.specs.Taken.{all_take, assigned_taken, is_taken, untaken}
use Rattle.hal_operands.specs.Times.{is_limit_at, misfit_of_time, mistimed, timed, time_fault}
use Rattle.hal_operands.specs.Wants.{misfit, misfit_of_value, misfit_of_condition, misfit_of_whole, wanted}
use Rattle.hal_types.specs.Rules.{operand_rows, type_rows}
use Rattle.hal_locks.specs.Rules.{lock_rows}
use Rattle.hal_meaning.specs.Marks.{after_statement, after_alternative}
use Rattle.hal_code.specs.declared.image.ImageParts.{ImageParts}
use Rattle.hal_code.specs.Effects.{is_value}
use Rattle.hal_code.specs.Sorts.{Sort, I, B, T}
use Rattle.hal_agreement.specs.Sites.{Site, group_site}
use Rattle.hal_fitting.specs.Fitting.{Ground}
use Rattle.hal_fit_expr.specs.Uses.{Uses}
use Rattle.hal_fit_expr.specs.Sorted.{sort_of_name, sort_of_expression}
use Rattle.hal_fit.specs.Received.{is_assigned, is_item, items_fit}
use Rattle.hal_fit.specs.Spanned.{GuardFits, GuardsFit, StepFits, AreIntegers, SpanFits}
use Rattle.hal_fit.specs.Stating.{ChangeFits, StatementFits, BasicFits, AlternativeFits, GroupFits, StatementsFit}
use Rattle.hal_fit.specs.Timed.{TimeFits, StartFits, PriorityFits, CycleFits, EndFits, LimitFits, ScheduleFits}
use Rattle.hal_fit_classes.specs.Kinded.{sort_of_class}
use Rattle.hal_fit_classes.proofs.Pairing.{truth_sort, integer_sort, value_sort}
use Rattle.hal_fit_classes.proofs.Sorting as sorting
use Rattle.hal_fit_rules.specs.Begun.{AreFirst}
use Rattle.hal_fit_rules.specs.Leaves.{is_value_role}
use Rattle.hal_fit_rules.specs.Agreeing.{Agrees, AllAgree}
use Rattle.hal_fit_rules.specs.Received.{ReceiversAgree}
use Rattle.hal_fit_rules.specs.Signalled.{AnyEventAgrees}
use Rattle.hal_fit_rules.specs.Looked.{AreLooked}
use Rattle.hal_fit_rules.specs.Stated.{AnyAgrees, GuardAgrees, AnyGuardAgrees, SpanAgrees, TimeAgrees, StartAgrees, CycleAgrees, EndAgrees, LimitAgrees, ScheduleAgrees, VariableAgrees, StatementAgrees, BasicAgrees, AlternativeAgrees, GroupAgrees, StatementsAgree}
use Rattle.hal_fit_rules.proofs.Beginning.{then_, one, there, among}
use Rattle.hal_fit_rules.proofs.BegunExpressions.{own_first, expression_first, expressions_first}
use Rattle.hal_fit_rules.proofs.BegunStatements.{close_first, receivers_first, span_first, optional_first, any_guard_first, any_cycle_first, any_limit_first, schedule_first, process_first, processes_first, statement_first, alternative_first, group_first, statements_first}
use Rattle.hal_fit_rules.proofs.Unbroken.{no_rule, ruled_none, unbroken, of_operands}
use Rattle.hal_fit_rules.proofs.Kinding.{ruled_kinded}
use Rattle.hal_fit_rules.proofs.Classes.{is_decimal, class_known}
use Rattle.hal_fit_rules.proofs.Limiting.{IsRuled, IsCalm, ruled_matched, limit_timed, calm_there, unlimited_there}
use Rattle.hal_fit_rules.proofs.Agreeing.{known_leaves, of_role, sorted_of}
use Rattle.hal_fit_rules.proofs.Cells.{same_sort}
use Rattle.hal_fit_rules.proofs.Receiving.{receivers_right}
use Rattle.hal_fit_rules.proofs.Reading.{reads_right}
use Rattle.hal_fit_rules.proofs.Channeling.{channel_fits}
use Rattle.hal_fit_rules.proofs.Signalling.{kept_unless, event_fits, error_fits}
use Rattle.hal_fit_rules.proofs.Counting.{variable_counts}
use Rattle.hal_fit_rules.proofs.Leaving.{return_fits}
use Rattle.hal_fit_rules.proofs.Procedures.{call_agrees}
use Rattle.hal_fit_rules.proofs.Outside.{read_outside, write_outside, real_time_outside, event_outside, update_outside}

condition_wanted : wanted role.Condition ≡ want.Truth
unfolding wanted
condition_wanted = refl

case_wanted : wanted role.Case ≡ want.Integer
unfolding wanted
case_wanted = refl

bound_wanted : wanted role.Bound ≡ want.Integer
unfolding wanted
bound_wanted = refl

priority_wanted : wanted role.Priority ≡ want.Integer
unfolding wanted
priority_wanted = refl

item_wanted : wanted role.Item ≡ want.Value
unfolding wanted
item_wanted = refl

assigned_wanted : wanted role.Assigned ≡ want.Value
unfolding wanted
assigned_wanted = refl

-- a value is an item
item_of : (c : Class) (sort : Option Sort) → misfit want.Value c ≡ None → ((s : Sort) → sort_of_class c ≡ Some s → sort ≡ Some s) → is_item sort ≡ true
unfolding misfit misfit_of_value misfit_of_condition misfit_of_whole
item_of class.Integer sort fits sorted = ap is_item (sorted I refl)
item_of class.Bits sort fits sorted = ap is_item (sorted B refl)
item_of class.Text sort fits sorted = ap is_item (sorted T refl)
item_of class.Condition sort fits sorted = absurd (cc)
item_of class.Structure sort fits sorted = absurd (cc)
item_of class.Array sort fits sorted = absurd (cc)

-- and its sort is that of one
sort_value : (c : Class) (s : Sort) → misfit want.Value c ≡ None → sort_of_class c ≡ Some s → is_value s ≡ true
unfolding misfit misfit_of_value misfit_of_condition misfit_of_whole
sort_value class.Integer s fits worth = ap is_value (sym (same_sort I s worth))
sort_value class.Bits s fits worth = ap is_value (sym (same_sort B s worth))
sort_value class.Text s fits worth = ap is_value (sym (same_sort T s worth))
sort_value class.Condition s fits worth = absurd (cc)
sort_value class.Structure s fits worth = absurd (cc)
sort_value class.Array s fits worth = absurd (cc)

-- a time of a known class is an integer
time_of : (c : Class) (sort : Option Sort) → misfit_of_time c ≡ None → ((s : Sort) → sort_of_class c ≡ Some s → sort ≡ Some s) → sort ≡ Some I
unfolding misfit_of_time
time_of class.Integer sort fits sorted = sorted I refl
time_of class.Bits sort fits sorted = absurd (cc)
time_of class.Text sort fits sorted = absurd (cc)
time_of class.Condition sort fits sorted = absurd (cc)
time_of class.Structure sort fits sorted = absurd (cc)
time_of class.Array sort fits sorted = absurd (cc)

module _ (u : Uses) (site : Site) (ps : List Phrase) (sound : IsSound type_rows ps) where
  -- where a truth value is wanted it is bits
  bits_of : (d : List Phrase) (a : Around) (r : Role) (t : Expression) → is_value_role r ≡ true → wanted r ≡ want.Truth → AreFirst (gathered d a r t) ps → Agrees u site ps a.block t → sort_of_expression u site t ≡ Some B
  bits_of d a r t value wants begun agree =
      let of = of_role u site ps sound d a r t value begun agree in
      (sorted_of u site ps sound d a r t value begun agree).sorted of.found B of.known (truth_sort of.found (ap (λ w. misfit w of.found) (sym wants) ∙ of.fits))

  -- where an integer is wanted it is one
  integer_of : (d : List Phrase) (a : Around) (r : Role) (t : Expression) → is_value_role r ≡ true → wanted r ≡ want.Integer → AreFirst (gathered d a r t) ps → Agrees u site ps a.block t → sort_of_expression u site t ≡ Some I
  integer_of d a r t value wants begun agree =
      let of = of_role u site ps sound d a r t value begun agree in
      (sorted_of u site ps sound d a r t value begun agree).sorted of.found I of.known (integer_sort of.found (ap (λ w. misfit w of.found) (sym wants) ∙ of.fits))

  any_integer : (d : List Phrase) (a : Around) (r : Role) (o : Option Expression) → is_value_role r ≡ true → wanted r ≡ want.Integer → AreFirst (gathered_optional d a r o) ps → AnyAgrees u site ps a.block o → StepFits u site o
  any_integer d a r None value wants begun agree = tt
  any_integer d a r (Some t) value wants begun agree = integer_of d a r t value wants begun agree

  priority_of : (d : List Phrase) (a : Around) (o : Option Expression) → AreFirst (gathered_optional d a role.Priority o) ps → AnyAgrees u site ps a.block o → PriorityFits u site o
  priority_of d a None begun agree = tt
  priority_of d a (Some t) begun agree = integer_of d a role.Priority t refl priority_wanted begun agree

  integers_of : (d : List Phrase) (a : Around) (ts : Expressions) → AreFirst (gathered_all d a role.Bound ts) ps → AllAgree u site ps a.block ts → AreIntegers u site ts
  unfolding gathered_all
  integers_of d a NoExpressions begun agree = tt
  integers_of d a (MoreExpressions first others) begun agree =
      (integer_of d a role.Bound first refl bound_wanted (then_ (expressions_first (gathered d a role.Bound first) a role.Bound others) begun) agree.0, integers_of (gathered d a role.Bound first) a others begun agree.1)

  items_of : (d : List Phrase) (a : Around) (ts : Expressions) → AreFirst (gathered_all d a role.Item ts) ps → AllAgree u site ps a.block ts → items_fit u site ts ≡ true
  unfolding gathered_all
  items_of d a NoExpressions begun agree = refl
  items_of d a (MoreExpressions first others) begun agree =
      let first_begun = then_ (expressions_first (gathered d a role.Item first) a role.Item others) begun in
      let of = of_role u site ps sound d a role.Item first refl first_begun agree.0 in
      let known = sorted_of u site ps sound d a role.Item first refl first_begun agree.0 in
      and_from (is_item (sort_of_expression u site first)) (items_fit u site others)
      (item_of of.found (sort_of_expression u site first) (ap (λ w. misfit w of.found) (sym item_wanted) ∙ of.fits) (λ s worth. known.sorted of.found s of.known worth))
      (items_of (gathered d a role.Item first) a others begun agree.1)

  guard_of : (d : List Phrase) (a : Around) (x : Guard) → AreFirst (gathered_guard a d x) ps → GuardAgrees u site ps a.block x → GuardFits u site x
  unfolding gathered_guard
  guard_of d a (While p condition) begun agree = bits_of d a role.Condition condition refl condition_wanted begun agree
  guard_of d a (Until p condition) begun agree = bits_of d a role.Condition condition refl condition_wanted begun agree

  any_guard_of : (d : List Phrase) (a : Around) (o : Option Guard) → AreFirst (gathered_any (gathered_guard a) d o) ps → AnyGuardAgrees u site ps a.block o → GuardsFit u site o
  any_guard_of d a None begun agree = tt
  any_guard_of d a (Some x) begun agree = guard_of d a x begun agree

  span_of : (d : List Phrase) (a : Around) (x : Span) → AreFirst (gathered_span d a x) ps → SpanAgrees u site ps a.block x → SpanFits u site x
  unfolding gathered_span
  span_of d a (Stepped first last step) begun agree =
      let e : List Phrase = gathered d a role.Bound first in
      let f : List Phrase = gathered e a role.Bound last in
      let last_begun = then_ (optional_first f a role.Bound step) begun in (
        integer_of d a role.Bound first refl bound_wanted (then_ (expression_first e a role.Bound last) last_begun) agree.0,
        integer_of e a role.Bound last refl bound_wanted last_begun agree.1,
        any_integer f a role.Bound step refl bound_wanted begun agree.2,
      )
  span_of d a (Listed values) begun agree = integers_of d a values begun agree

  -- a time that is no decimal
  time_sorted : (d : List Phrase) (a : Around) (r : Role) (t : Expression) → IsRuled ps a r t → time_fault ps a.block t ≡ None → is_decimal t ≡ false → AreFirst (gathered d a r t) ps → Agrees u site ps a.block t
      → sort_of_expression u site t ≡ Some I
  time_sorted d a r t ruled none other begun agree =
      let leaves = known_leaves u site ps sound d a r t begun agree in
      let is = ruled_kinded u site ps sound d a r t ruled begun leaves in
      let has = class_known u site ps a.block t leaves is (ruled_matched ps sound d a r t ruled (then_ (own_first d a r t) begun)) other in
      time_of has.0 (sort_of_expression u site t) (ap (option_and_then misfit_of_time) (sym has.1) ∙ no_rule (place_of t) (option_and_then misfit_of_time (class_of ps a.block t)) none)
      (λ s worth. sorting.kinded u site ps a.block t is has.0 s has.1 worth)

  number_of : (d : List Phrase) (a : Around) (t : Expression) → is_decimal t ≡ false → AreFirst (gathered d a role.Time t) ps → Agrees u site ps a.block t
      → sort_of_expression u site t ≡ Some I
  unfolding operand_rows mistimed timed
  number_of d a t other begun agree =
      time_sorted d a role.Time t tt
      (unbroken type_rows ps sound (phrase (length d) a (OfExpression role.Time t)) (among ps d a (OfExpression role.Time t) (then_ (own_first d a role.Time t) begun)) (λ qs q. mistimed qs q q.node)
      (of_operands (λ qs q. mistimed qs q q.node) (inr (inl refl)))) other begun agree

  time_fits : (d : List Phrase) (a : Around) (t : Expression) → AreFirst (gathered d a role.Time t) ps → TimeAgrees u site ps a.block t → TimeFits u site t
  time_fits d a (Decimal place number) begun agree = agree
  time_fits d a other begun agree = number_of d a other refl begun agree

  start_of : (d : List Phrase) (a : Around) (o : Option Start) → AreFirst (gathered_any (gathered_start a) d o) ps → StartAgrees u site ps a.block o → StartFits u site o
  unfolding gathered_start
  start_of d a None begun agree = tt
  start_of d a (Some (StartAt p t)) begun agree = time_fits d a t begun agree
  start_of d a (Some (StartIn p t)) begun agree = time_fits d a t begun agree
  start_of d a (Some (StartOn p t)) begun agree = tt

  cycle_of : (d : List Phrase) (a : Around) (o : Option Cycle) → AreFirst (gathered_any (gathered_cycle a) d o) ps → CycleAgrees u site ps a.block o → CycleFits u site o
  unfolding gathered_cycle
  cycle_of d a None begun agree = tt
  cycle_of d a (Some (Cyclic p)) begun agree = tt
  cycle_of d a (Some (CyclicEvery p t)) begun agree = time_fits d a t begun agree
  cycle_of d a (Some (CyclicAfter p t)) begun agree = time_fits d a t begun agree

  -- a time that ends cycles
  end_of : (d : List Phrase) (a : Around) (t : Expression) → is_decimal t ≡ false → IsRuled ps a role.EventOrTime t → is_limit_at ps a.parent ≡ false → AreFirst (gathered d a role.EventOrTime t) ps
      → Agrees u site ps a.block t → sort_of_expression u site t ≡ Some I
  end_of d a t other ruled whole begun agree =
      time_sorted d a role.EventOrTime t ruled (limit_timed ps sound d a t ruled whole (then_ (own_first d a role.EventOrTime t) begun)) other begun agree

  end_fits : (d : List Phrase) (a : Around) (t : Expression) → IsRuled ps a role.EventOrTime t → is_limit_at ps a.parent ≡ false → AreFirst (gathered d a role.EventOrTime t) ps → TimeAgrees u site ps a.block t
      → TimeFits u site t
  end_fits d a (Decimal place number) ruled whole begun agree = agree
  end_fits d a other ruled whole begun agree = end_of d a other refl ruled whole begun agree

  ended : (d : List Phrase) (a : Around) (eventful : Bool) (t : Expression) → IsCalm ps a.block a.parent → is_limit_at ps a.parent ≡ false → AreFirst (gathered d a role.EventOrTime t) ps
      → EndAgrees u site ps a.block eventful t → EndFits u site eventful t
  ended d a true t calm whole begun agree = tt
  ended d a false t calm whole begun agree = end_fits d a t (agree.0, calm) whole begun agree.1

  limit_fits : (d : List Phrase) (a : Around) (o : Option Guard) → IsCalm ps a.block a.parent → is_limit_at ps a.parent ≡ false → AreFirst (gathered_any (gathered_limit a) d o) ps → LimitAgrees u site ps a.block o
      → LimitFits u site o
  unfolding gathered_limit
  limit_fits d a None calm whole begun agree = tt
  limit_fits d a (Some (While p t)) calm whole begun agree = tt
  limit_fits d a (Some (Until p t)) calm whole begun agree = ended d a (holds_event site.set.phrases site.block t) t calm whole begun agree

  schedule_of : (d : List Phrase) (a : Around) (p : Place) (s : Schedule) → AreFirst (gathered_schedule (add d a (OfRealTime p)) (below d a) s) ps → ScheduleAgrees u site ps a.block s → ScheduleFits u site s
  unfolding gathered_schedule
  schedule_of d a p s begun agree =
      let b : Around = below d a in
      let e : List Phrase = gathered_process b (add d a (OfRealTime p)) s.name in
      let f : List Phrase = gathered_any (gathered_start b) e s.start in
      let h : List Phrase = gathered_optional f b role.Priority s.priority in
      let k : List Phrase = gathered_any (gathered_cycle b) h s.cycle in
      let stated = there ps d a (OfRealTime p) (then_ (schedule_first (add d a (OfRealTime p)) b s) begun) in
      let cycle_begun : AreFirst k ps = then_ (any_limit_first b k s.guard) begun in
      let priority_begun : AreFirst h ps = then_ (any_cycle_first b h s.cycle) cycle_begun in
      record {
        first = start_of e b s.start (then_ (optional_first f b role.Priority s.priority) priority_begun) agree.first;
        second = priority_of f b s.priority priority_begun agree.second;
        third = cycle_of h b s.cycle cycle_begun agree.third;
        fourth = limit_fits k b s.guard (calm_there ps (length d) a.block a p stated) (unlimited_there ps (length d) a p stated) begun agree.fourth;
      }

  -- receivers take what is assigned
  taken_of : (d : List Phrase) (a : Around) (ts : List Reference) (t : Expression) → AreFirst (gathered (gathered_each (gathered_receiver (below d a) role.Receiver) (add d a (OfAssignment ts t)) ts) (below d a) role.Assigned t) ps
      → all_take ps a.block (class_of ps a.block t) ts ≡ true
  unfolding operand_rows untaken is_taken assigned_taken
  taken_of d a ts t begun =
      let e : List Phrase = add d a (OfAssignment ts t) in
      let f : List Phrase = gathered_each (gathered_receiver (below d a) role.Receiver) e ts in
      let own : AreFirst (add f (below d a) (OfExpression role.Assigned t)) ps = then_ (own_first f (below d a) role.Assigned t) begun in
      let stated = there ps d a (OfAssignment ts t) (then_ (receivers_first (below d a) role.Receiver e ts) (then_ (expression_first f (below d a) role.Assigned t) begun)) in
      let none = ruled_none 702 (untaken ps (phrase (length f) (below d a) (OfExpression role.Assigned t)) (OfExpression role.Assigned t))
      (unbroken type_rows ps sound (phrase (length f) (below d a) (OfExpression role.Assigned t)) (among ps f (below d a) (OfExpression role.Assigned t) own) (λ qs q. ruled 702 (untaken qs q q.node))
      (of_operands (λ qs q. ruled 702 (untaken qs q q.node)) (inr (inr (inr (inr (inl refl))))))) in
      let taken = kept_unless (is_taken ps (phrase (length f) (below d a) (OfExpression role.Assigned t)) role.Assigned t) (place_of t) none in
      ap (λ (o : Option Phrase). elim o [ None ↦ true | Some q ↦ assigned_taken ps a.block (class_of ps a.block t) q.node ]) (sym stated) ∙ taken

  assigned_of : (d : List Phrase) (a : Around) (ts : List Reference) (t : Expression) → AreFirst (gathered (gathered_each (gathered_receiver (below d a) role.Receiver) (add d a (OfAssignment ts t)) ts) (below d a) role.Assigned t) ps
      → ReceiversAgree u site ps a.block ts → Agrees u site ps a.block t → is_assigned u site ts (sort_of_expression u site t) ≡ true
  assigned_of d a ts t begun receivers agree =
      let e : List Phrase = add d a (OfAssignment ts t) in
      let f : List Phrase = gathered_each (gathered_receiver (below d a) role.Receiver) e ts in
      let of = of_role u site ps sound f (below d a) role.Assigned t refl begun agree in
      let fits : misfit want.Value of.found ≡ None = ap (λ w. misfit w of.found) (sym assigned_wanted) ∙ of.fits in
      let worth = value_sort of.found fits in
      let sorted : sort_of_expression u site t ≡ Some worth.0 = (sorted_of u site ps sound f (below d a) role.Assigned t refl begun agree).sorted of.found worth.0 of.known worth.1 in
      ap (is_assigned u site ts) sorted
      ∙ receivers_right u site ps sound e (below d a) ts of.found worth.0 (then_ (expression_first f (below d a) role.Assigned t) begun) receivers
      (ap (λ c. all_take ps a.block c ts) (sym of.known) ∙ taken_of d a ts t begun) fits worth.1 (sort_value of.found worth.0 fits worth.1)

-- a DO FOR stands in the same unit and UPDATE block as its statements
for_looked : (ps : List Phrase) (within : Bool) (d : List Phrase) (a : Around) (temporary : Bool) → AreLooked ps within a → AreLooked ps within (around_for d a temporary)
unfolding around_for
for_looked ps within d a true looked = looked
for_looked ps within d a false looked = looked

-- an event that ON ERROR changes
change_fits : (image : ImageParts) (g : Ground) (ps : List Phrase) → IsSound type_rows ps → (site : Site) (d : List Phrase) (a : Around) (o : Option Eventful) → AreFirst (gathered_any (gathered_event a) d o) ps
    → AnyEventAgrees image site ps a.block o → ChangeFits image g site o
change_fits image g ps sound site d a None begun agree = tt
change_fits image g ps sound site d a (Some e) begun agree = event_fits ps sound image g site d a e begun agree

-- the variable of a DO FOR
variable_of : (u : Uses) (site : Site) (ps : List Phrase) → IsSound type_rows ps → (d : List Phrase) (a : Around) (labels : List Naming) (temporary : Bool) (variable : Naming) → AreFirst (begun_for d a labels temporary variable) ps
    → VariableAgrees u site ps (around_for d a temporary).block temporary variable.name → sort_of_name u site variable.name [] ≡ Some I
unfolding begun_for around_for
variable_of u site ps sound d a labels true variable begun agree = agree
variable_of u site ps sound d a labels false variable begun agree = variable_counts u site ps sound (add d a (OfGroup labels true)) (below d a) variable begun agree

module _ (image : ImageParts) (g : Ground) (u : Bool → Uses) (ps : List Phrase) (sound : IsSound type_rows ps) (locks : IsSound lock_rows ps) where
  mutual
    unfolding gathered_statement gathered_basic gathered_alternative gathered_group gathered_statements

    statement_fits : (within : Bool) (site : Site) (m : ℕ) (d : List Phrase) (a : Around) (x : Statement) → AreLooked ps within a → AreFirst (gathered_statement d a x) ps → StatementAgrees image g u ps within site m d a x
        → StatementFits image g u within site m x
    statement_fits within site m d a (Labelled labels basic) stands begun agree = basic_fits within site m (gathered_each (gathered_label a) d labels) a labels basic stands begun agree

    basic_fits : (within : Bool) (site : Site) (m : ℕ) (d : List Phrase) (a : Around) (labels : List Naming) (x : Basic) → AreLooked ps within a → AreFirst (gathered_basic d a labels x) ps → BasicAgrees image g u ps within site m d a labels x
        → BasicFits image g u within site m x
    basic_fits within site m d a labels (Assignment p receivers tree) stands begun agree = assigned_of (u within) site ps sound d a receivers tree begun agree.0 agree.1
    basic_fits within site m d a labels (If p condition consequence alternative) stands begun agree =
        let e : List Phrase = gathered d a role.Condition condition in
        let f : List Phrase = gathered_statement e (inside a) consequence in
        let consequence_begun : AreFirst f ps = then_ (alternative_first f (inside a) alternative) begun in (
          bits_of (u within) site ps sound d a role.Condition condition refl condition_wanted (then_ (statement_first e (inside a) consequence) consequence_begun) agree.0,
          statement_fits within site m e (inside a) consequence stands consequence_begun agree.1,
          alternative_fits within site (after_statement m consequence) f (inside a) alternative stands begun agree.2,
        )
    basic_fits within site m d a labels (Do p group) stands begun agree = group_fits within site (suc m) (add d a (OfGroup labels false)) (grouped (length d) a) group stands begun agree
    basic_fits within site m d a labels (DoCase p number alternative group) stands begun agree =
        let e : List Phrase = add d a (OfGroup labels false) in
        let f : List Phrase = gathered e (below d a) role.Case number in
        let h : List Phrase = gathered_alternative f (grouped (length d) a) alternative in
        let alternative_begun : AreFirst h ps = then_ (group_first h (grouped (length d) a) group) begun in (
          integer_of (u within) site ps sound e (below d a) role.Case number refl case_wanted (then_ (alternative_first f (grouped (length d) a) alternative) alternative_begun) agree.0,
          group_fits within site (after_alternative (suc m) alternative) h (grouped (length d) a) group stands begun agree.1,
          alternative_fits within site (suc m) f (grouped (length d) a) alternative stands alternative_begun agree.2,
        )
    basic_fits within site m d a labels (DoLoop p guard group) stands begun agree =
        let e : List Phrase = add d a (OfGroup labels true) in
        let f : List Phrase = gathered_guard (below d a) e guard in (
          guard_of (u within) site ps sound e (below d a) guard (then_ (group_first f (grouped (length d) a) group) begun) agree.0,
          group_fits within site (suc m) f (grouped (length d) a) group stands begun agree.1,
        )
    basic_fits within site m d a labels (DoFor p temporary variable span guard group) stands begun agree =
        let o : Around = around_for d a temporary in
        let e : List Phrase = begun_for d a labels temporary variable in
        let f : List Phrase = gathered_span e o span in
        let h : List Phrase = gathered_any (gathered_guard o) f guard in
        let guard_begun : AreFirst h ps = then_ (group_first h o group) begun in (
          record {
            variable = variable_of (u within) (group_site site temporary m) ps sound d a labels temporary variable (then_ (span_first e o span) (then_ (any_guard_first o f guard) guard_begun)) agree.0.variable;
            spanned = span_of (u within) (group_site site temporary m) ps sound e o span (then_ (any_guard_first o f guard) guard_begun) agree.0.spanned;
            guarded = any_guard_of (u within) (group_site site temporary m) ps sound f o guard guard_begun agree.0.guarded;
          },
          group_fits within (group_site site temporary m) (suc m) h o group (for_looked ps within d a temporary stands) begun agree.1,
        )
    basic_fits within site m d a labels (Read p channel receivers) stands begun agree =
        let e : List Phrase = add d a (OfRead p) in
        let f : List Phrase = gathered e (below d a) role.Channel channel in
        let channel_begun = then_ (own_first e (below d a) role.Channel channel) (then_ (receivers_first (below d a) role.Receiver f receivers) begun) in (
          read_outside ps locks within d a p stands (then_ (one e (below d a) (OfExpression role.Channel channel)) channel_begun),
          channel_fits ps sound site e (below d a) channel channel_begun agree.0,
          reads_right (u within) site ps sound f (below d a) receivers begun agree.1,
        )
    basic_fits within site m d a labels (Write p channel items) stands begun agree =
        let e : List Phrase = add d a (OfWrite p) in
        let f : List Phrase = gathered e (below d a) role.Channel channel in
        let channel_begun = then_ (own_first e (below d a) role.Channel channel) (then_ (expressions_first f (below d a) role.Item items) begun) in (
          write_outside ps locks within d a p stands (then_ (one e (below d a) (OfExpression role.Channel channel)) channel_begun),
          channel_fits ps sound site e (below d a) channel channel_begun agree.0,
          items_of (u within) site ps sound f (below d a) items begun agree.1,
        )
    basic_fits within site m d a labels (Update p body close) stands begun agree =
        let e : List Phrase = add d a (OfUpdate p labels) in
        let body_begun = then_ (close_first (updated (length d) a) (gathered_statements e (updated (length d) a) body) close) begun in (
          update_outside ps locks within d a p labels stands (then_ (statements_first e (updated (length d) a) body) body_begun),
          statements_fit true site (suc m) e (updated (length d) a) body (inl refl) body_begun agree,
        )
    basic_fits within site m d a labels (Scheduled p s) stands begun agree =
        (real_time_outside ps locks within d a p stands (then_ (schedule_first (add d a (OfRealTime p)) (below d a) s) begun), schedule_of (u within) site ps sound d a p s begun agree)
    basic_fits within site m d a labels (Cancel p names) stands begun agree = real_time_outside ps locks within d a p stands (then_ (processes_first (below d a) (add d a (OfRealTime p)) names) begun)
    basic_fits within site m d a labels (Terminate p names) stands begun agree = real_time_outside ps locks within d a p stands (then_ (processes_first (below d a) (add d a (OfRealTime p)) names) begun)
    basic_fits within site m d a labels (Wait p tree) stands begun agree =
        let e : List Phrase = add d a (OfRealTime p) in
        (real_time_outside ps locks within d a p stands (then_ (expression_first e (below d a) role.Time tree) begun), time_fits (u within) site ps sound e (below d a) tree begun agree)
    basic_fits within site m d a labels (WaitUntil p tree) stands begun agree =
        let e : List Phrase = add d a (OfRealTime p) in
        (real_time_outside ps locks within d a p stands (then_ (expression_first e (below d a) role.Time tree) begun), time_fits (u within) site ps sound e (below d a) tree begun agree)
    basic_fits within site m d a labels (WaitForDependent p) stands begun agree = real_time_outside ps locks within d a p stands begun
    basic_fits within site m d a labels (WaitFor p tree) stands begun agree = real_time_outside ps locks within d a p stands (then_ (expression_first (add d a (OfRealTime p)) (below d a) role.Event tree) begun)
    basic_fits within site m d a labels (UpdatePriority p name tree) stands begun agree =
        let e : List Phrase = add d a (OfRealTime p) in
        let f : List Phrase = gathered_any (gathered_process (below d a)) e name in (
          real_time_outside ps locks within d a p stands (then_ (process_first (below d a) e name) (then_ (expression_first f (below d a) role.Priority tree) begun)),
          integer_of (u within) site ps sound f (below d a) role.Priority tree refl priority_wanted begun agree,
        )
    basic_fits within site m d a labels (Event e) stands begun agree = (event_outside ps locks within d a e stands begun, event_fits ps sound image g site d a e begun agree)
    basic_fits within site m d a labels (SendError p group_at group number_at number) stands begun agree = error_fits ps sound image g d a group_at number_at group number begun
    basic_fits within site m d a labels (OnErrorResponse p s response e) stands begun agree = change_fits image g ps sound site (add d a (OfResponse p s)) (below d a) e begun agree
    basic_fits within site m d a labels (OnErrorStatement p s handler) stands begun agree = statement_fits within site (suc m) (add d a (OfHandler p s)) (inside a) handler stands begun agree
    basic_fits within site m d a labels (Return p None) stands begun agree = tt
    basic_fits within site m d a labels (Return p (Some tree)) stands begun agree = return_fits (u within) site ps sound g.block d a p tree begun agree.0 agree.1
    basic_fits within site m d a labels (Call p name arguments receivers) stands begun agree = call_agrees (u within) site ps sound d a name arguments receivers begun agree
    basic_fits within site m d a labels (Null p) stands begun agree = tt
    basic_fits within site m d a labels (Exit p label) stands begun agree = tt
    basic_fits within site m d a labels (Repeat p label) stands begun agree = tt
    basic_fits within site m d a labels (OffError p s) stands begun agree = tt

    alternative_fits : (within : Bool) (site : Site) (m : ℕ) (d : List Phrase) (a : Around) (x : Alternative) → AreLooked ps within a → AreFirst (gathered_alternative d a x) ps → AlternativeAgrees image g u ps within site m d a x
        → AlternativeFits image g u within site m x
    alternative_fits within site m d a NoAlternative stands begun agree = tt
    alternative_fits within site m d a (Otherwise statement) stands begun agree = statement_fits within site m d a statement stands begun agree

    group_fits : (within : Bool) (site : Site) (m : ℕ) (d : List Phrase) (a : Around) (x : Group) → AreLooked ps within a → AreFirst (gathered_group d a x) ps → GroupAgrees image g u ps within site m d a x → GroupFits image g u within site m x
    group_fits within site m d a (Groups list close) stands begun agree = statements_fit within site m d a list stands (then_ (close_first a (gathered_statements d a list) close) begun) agree

    pub statements_fit : (within : Bool) (site : Site) (m : ℕ) (d : List Phrase) (a : Around) (x : Statements) → AreLooked ps within a → AreFirst (gathered_statements d a x) ps → StatementsAgree image g u ps within site m d a x
        → StatementsFit image g u within site m x
    statements_fit within site m d a NoStatements stands begun agree = tt
    statements_fit within site m d a (MoreStatements first others) stands begun agree = (
      statement_fits within site m d a first stands (then_ (statements_first (gathered_statement d a first) a others) begun) agree.0,
      statements_fit within site (after_statement m first) (gathered_statement d a first) a others stands begun agree.1,
    )
