-- Statements of a unit agree where what their phrases name is known.
use Rattle.std.proofs.Common.{◌≡◌, ℕ, suc, Bool, true, false, List, [], ◌∷◌, length, Option, Some, None, slice_get, refl, sym, ap, ◌∙◌, subst}
use Rattle.std.specs.Option.{is_some}
use Rattle.hal_grammar.specs.Leaves.{Naming}
use Rattle.hal_grammar.specs.Expressions.{Expression, Decimal, Reference, Refers}
use Rattle.hal_grammar.specs.Statements.{Guard, While, Until, Span, Stepped, Listed, Start, StartAt, StartIn, StartOn, Cycle, Cyclic, CyclicEvery, CyclicAfter, Schedule, Statement, Labelled, Basic, Null, Assignment, If, Do, DoCase, DoLoop, DoFor, Exit, Repeat, Return, Call, Read, Write, Update, Eventful, Event, Scheduled, Cancel, Terminate, Wait, WaitUntil, WaitForDependent, WaitFor, UpdatePriority, OnErrorStatement, OnErrorResponse, OffError, SendError, Alternative, NoAlternative, Otherwise, Group, Groups, Statements, NoStatements, MoreStatements}
use Rattle.hal_phrases.specs.declared.around.Around.{Around}
use Rattle.hal_phrases.specs.declared.role.Role.{Role}
use Rattle.hal_phrases.specs.declared.role.Role.TheVariants as role
use Rattle.hal_phrases.specs.Surroundings.{inside, grouped, updated}
use Rattle.hal_phrases.specs.Phrases.{Phrase, phrase, add, gathered_each, gathered_any, OfExpression, OfReference, OfAssignment, OfGroup, OfTemporaryGroup, OfVariable, OfUpdate, OfHandler, OfResponse, OfReturn, OfCall, OfRead, OfWrite, OfRealTime, OfEvent}
use Rattle.hal_phrases.specs.GatheredDeclarations.{gathered_optional}
use Rattle.hal_phrases.specs.GatheredExpressions.{below, gathered, gathered_all, gathered_reference}
use Rattle.hal_phrases.specs.GatheredStatements.{gathered_label, gathered_receiver, gathered_process, gathered_event, gathered_guard, gathered_span, gathered_start, gathered_cycle, gathered_limit, gathered_schedule, begun_for, around_for, gathered_statement, gathered_basic, gathered_alternative, gathered_group, gathered_statements}
use Rattle.hal_names.specs.Means.{means}
use Rattle.hal_scope.specs.Uses.{holds_event}
use Rattle.hal_operands.specs.Pairs.{is_eventual}
use Rattle.hal_meaning.specs.Bodies.{marks_of}
use Rattle.hal_meaning.specs.Marks.{after_statement, after_alternative}
use Rattle.hal_meaning.specs.Statements.{kind_named}
use Rattle.hal_meaning.specs.Variables.{name_meant}
use Rattle.hal_code.specs.Sorts.{is_kind}
use Rattle.hal_code.specs.declared.image.ImageParts.{ImageParts}
use Rattle.hal_agreement.specs.Sites.{Site, here_at, group_site, within_block}
use Rattle.hal_fitting.specs.Fitting.{Ground}
use Rattle.hal_fit_expr.specs.Uses.{Uses}
use Rattle.hal_fit_rules.specs.Begun.{AreFirst}
use Rattle.hal_fit_rules.specs.Received.{CellsAgree, ReceiverAgrees, ReceiversAgree, ReadsAgree}
use Rattle.hal_fit_rules.specs.Passed.{AreasAgree}
use Rattle.hal_fit_rules.specs.Signalled.{AnyEventAgrees}
use Rattle.hal_fit_rules.specs.Stated.{AnyAgrees, GuardAgrees, AnyGuardAgrees, SpanAgrees, TimeAgrees, StartAgrees, CycleAgrees, EndAgrees, LimitAgrees, ScheduleAgrees, ForAgrees, StatementAgrees, BasicAgrees, AlternativeAgrees, GroupAgrees, StatementsAgree}
use Rattle.hal_fit_rules.specs.Used.{is_taking, NameKnown, HasReceiver, UnitKnown}
use Rattle.hal_fit_rules.proofs.Beginning.{then_, there}
use Rattle.hal_fit_rules.proofs.Limiting.{IsCalm, IsRuled, calm_there, plain_ruled}
use Rattle.hal_fit_rules.proofs.BegunExpressions.{own_first, expression_first, expressions_first, subscript_first}
use Rattle.hal_fit_rules.proofs.BegunStatements.{close_first, receivers_first, optional_first, any_guard_first, span_first, any_cycle_first, any_limit_first, schedule_first, statement_first, alternative_first, group_first, statements_first}
use Rattle.hal_fit_rules.proofs.Marking.{Counts, mark_more, mark_there, expression_counts, statement_counts, alternative_counts, labels_count, guard_counts, any_guard_counts, span_counts, for_counts}
use Rattle.hal_fit_rules.proofs.Using.{node_known, tree_agrees, trees_agree, subscript_agrees}

-- a name that takes a value
name_taken : (u : Uses) (site : Site) (ps : List Phrase) (p : Phrase) (r : Role) (name : List ℕ) (path : List Naming) → is_taking r ≡ true → NameKnown u site ps p r name path
    → CellsAgree ps path (means ps p.around.block name) (name_meant (here_at site) name [])
name_taken u site ps p role.Receiver name path takes is = is.0
name_taken u site ps p role.Output name path takes is = is
name_taken u site ps p other name path takes is = absurd (cc)

module _ (image : ImageParts) (g : Ground) (u : Bool → Uses) (site : Site) (home : ℕ) (known : UnitKnown image g u site home) where
  receiver_agrees : (d : List Phrase) (a : Around) (r : Role) (t : Reference) → is_taking r ≡ true → a.home ≡ home → AreFirst (gathered_reference d a r t) site.set.phrases
      → ReceiverAgrees (u (is_some a.update)) (within_block a.block site) site.set.phrases a.block t
  unfolding gathered_reference
  receiver_agrees d a r (Refers place name path x) takes here begun =
      let e : List Phrase = add d a (OfReference r (Refers place name path x)) in (
        name_taken (u (is_some a.update)) (within_block a.block site) site.set.phrases (phrase (length d) a (OfReference r (Refers place name path x))) r name path takes
            (node_known image g u site home known d a (OfReference r (Refers place name path x)) here (then_ (subscript_first e (below d a) x) begun)),
        subscript_agrees image g u site home known e (below d a) x here begun,
      )

  receivers_agree : (d : List Phrase) (a : Around) (ts : List Reference) → HasReceiver ts → a.home ≡ home → AreFirst (gathered_each (gathered_receiver a role.Receiver) d ts) site.set.phrases
      → ReceiversAgree (u (is_some a.update)) (within_block a.block site) site.set.phrases a.block ts
  receivers_agree d a [] has here begun = absurd has
  receivers_agree d a (t ∷ []) has here begun = receiver_agrees d a role.Receiver t refl here begun
  receivers_agree d a (t ∷ next ∷ others) has here begun =
      let e : List Phrase = gathered_reference d a role.Receiver t in
      (receiver_agrees d a role.Receiver t refl here (then_ (receivers_first a role.Receiver e (next ∷ others)) begun), receivers_agree e a (next ∷ others) tt here begun)

  read_kind : (d : List Phrase) (a : Around) (t : Reference) → a.home ≡ home → AreFirst (gathered_reference d a role.Receiver t) site.set.phrases → is_kind (kind_named (here_at (within_block a.block site)) t []) ≡ true
  unfolding gathered_reference
  read_kind d a (Refers place name path x) here begun =
      (node_known image g u site home known d a (OfReference role.Receiver (Refers place name path x)) here
      (then_ (subscript_first (add d a (OfReference role.Receiver (Refers place name path x))) (below d a) x) begun)).1

  reads_agree : (d : List Phrase) (a : Around) (ts : List Reference) → a.home ≡ home → AreFirst (gathered_each (gathered_receiver a role.Receiver) d ts) site.set.phrases
      → ReadsAgree (u (is_some a.update)) (within_block a.block site) site.set.phrases a.block ts
  reads_agree d a [] here begun = tt
  reads_agree d a (t ∷ ts) here begun =
      let e : List Phrase = gathered_reference d a role.Receiver t in
      let first = then_ (receivers_first a role.Receiver e ts) begun in
      (receiver_agrees d a role.Receiver t refl here first, read_kind d a t here first, reads_agree e a ts here begun)

  areas_agree : (d : List Phrase) (a : Around) (ts : List Reference) → a.home ≡ home → AreFirst (gathered_each (gathered_receiver a role.Output) d ts) site.set.phrases
      → AreasAgree (u (is_some a.update)) (within_block a.block site) site.set.phrases a.block ts
  areas_agree d a [] here begun = tt
  areas_agree d a (t ∷ ts) here begun =
      let e : List Phrase = gathered_reference d a role.Output t in
      (receiver_agrees d a role.Output t refl here (then_ (receivers_first a role.Output e ts) begun), areas_agree e a ts here begun)

  any_agrees : (d : List Phrase) (a : Around) (r : Role) (o : Option Expression) → is_taking r ≡ false → is_eventual r ≡ false → a.home ≡ home → AreFirst (gathered_optional d a r o) site.set.phrases
      → AnyAgrees (u (is_some a.update)) (within_block a.block site) site.set.phrases a.block o
  any_agrees d a r None plain eventless here begun = tt
  any_agrees d a r (Some t) plain eventless here begun = tree_agrees image g u site home known d a r t plain (plain_ruled site.set.phrases a r t eventless) here begun

  guard_agrees : (d : List Phrase) (a : Around) (x : Guard) → a.home ≡ home → AreFirst (gathered_guard a d x) site.set.phrases → GuardAgrees (u (is_some a.update)) (within_block a.block site) site.set.phrases a.block x
  unfolding gathered_guard
  guard_agrees d a (While p t) here begun = tree_agrees image g u site home known d a role.Condition t refl tt here begun
  guard_agrees d a (Until p t) here begun = tree_agrees image g u site home known d a role.Condition t refl tt here begun

  any_guard_agrees : (d : List Phrase) (a : Around) (o : Option Guard) → a.home ≡ home → AreFirst (gathered_any (gathered_guard a) d o) site.set.phrases
      → AnyGuardAgrees (u (is_some a.update)) (within_block a.block site) site.set.phrases a.block o
  any_guard_agrees d a None here begun = tt
  any_guard_agrees d a (Some x) here begun = guard_agrees d a x here begun

  span_agrees : (d : List Phrase) (a : Around) (x : Span) → a.home ≡ home → AreFirst (gathered_span d a x) site.set.phrases → SpanAgrees (u (is_some a.update)) (within_block a.block site) site.set.phrases a.block x
  unfolding gathered_span is_eventual
  span_agrees d a (Stepped first last step) here begun =
      let e : List Phrase = gathered d a role.Bound first in
      let f : List Phrase = gathered e a role.Bound last in
      let last_begun = then_ (optional_first f a role.Bound step) begun in (
        tree_agrees image g u site home known d a role.Bound first refl tt here (then_ (expression_first e a role.Bound last) last_begun),
        tree_agrees image g u site home known e a role.Bound last refl tt here last_begun,
        any_agrees f a role.Bound step refl refl here begun,
      )
  span_agrees d a (Listed values) here begun = trees_agree image g u site home known d a role.Bound values refl tt here begun

  time_agrees : (d : List Phrase) (a : Around) (r : Role) (t : Expression) → is_taking r ≡ false → IsRuled site.set.phrases a r t → a.home ≡ home → AreFirst (gathered d a r t) site.set.phrases
      → TimeAgrees (u (is_some a.update)) (within_block a.block site) site.set.phrases a.block t
  time_agrees d a r (Decimal place number) plain ruled here begun = (node_known image g u site home known d a (OfExpression r (Decimal place number)) here (then_ (own_first d a r (Decimal place number)) begun)).0
  time_agrees d a r other plain ruled here begun = tree_agrees image g u site home known d a r other plain ruled here begun

  start_agrees : (d : List Phrase) (a : Around) (o : Option Start) → a.home ≡ home → AreFirst (gathered_any (gathered_start a) d o) site.set.phrases
      → StartAgrees (u (is_some a.update)) (within_block a.block site) site.set.phrases a.block o
  unfolding gathered_start
  start_agrees d a None here begun = tt
  start_agrees d a (Some (StartAt p t)) here begun = time_agrees d a role.Time t refl tt here begun
  start_agrees d a (Some (StartIn p t)) here begun = time_agrees d a role.Time t refl tt here begun
  start_agrees d a (Some (StartOn p t)) here begun = tt

  cycle_agrees : (d : List Phrase) (a : Around) (o : Option Cycle) → a.home ≡ home → AreFirst (gathered_any (gathered_cycle a) d o) site.set.phrases
      → CycleAgrees (u (is_some a.update)) (within_block a.block site) site.set.phrases a.block o
  unfolding gathered_cycle
  cycle_agrees d a None here begun = tt
  cycle_agrees d a (Some (Cyclic p)) here begun = tt
  cycle_agrees d a (Some (CyclicEvery p t)) here begun = time_agrees d a role.Time t refl tt here begun
  cycle_agrees d a (Some (CyclicAfter p t)) here begun = time_agrees d a role.Time t refl tt here begun

  end_agrees : (d : List Phrase) (a : Around) (t : Expression) (eventful : Bool) → IsCalm site.set.phrases a.block a.parent → holds_event site.set.phrases a.block t ≡ eventful → a.home ≡ home → AreFirst (gathered d a role.EventOrTime t) site.set.phrases
      → EndAgrees (u (is_some a.update)) (within_block a.block site) site.set.phrases a.block eventful t
  end_agrees d a t true calm is here begun = tt
  end_agrees d a t false calm is here begun = (is, time_agrees d a role.EventOrTime t refl (is, calm) here begun)

  limit_agrees : (d : List Phrase) (a : Around) (o : Option Guard) → IsCalm site.set.phrases a.block a.parent → a.home ≡ home → AreFirst (gathered_any (gathered_limit a) d o) site.set.phrases
      → LimitAgrees (u (is_some a.update)) (within_block a.block site) site.set.phrases a.block o
  unfolding gathered_limit
  limit_agrees d a None calm here begun = tt
  limit_agrees d a (Some (While p t)) calm here begun = tt
  limit_agrees d a (Some (Until p t)) calm here begun = end_agrees d a t (holds_event site.set.phrases a.block t) calm refl here begun

  schedule_agrees : (d : List Phrase) (a : Around) (s : Schedule) → IsCalm site.set.phrases a.block a.parent → a.home ≡ home → AreFirst (gathered_schedule d a s) site.set.phrases
      → ScheduleAgrees (u (is_some a.update)) (within_block a.block site) site.set.phrases a.block s
  unfolding gathered_schedule is_eventual
  schedule_agrees d a s calm here begun =
      let e : List Phrase = gathered_process a d s.name in
      let f : List Phrase = gathered_any (gathered_start a) e s.start in
      let h : List Phrase = gathered_optional f a role.Priority s.priority in
      let k : List Phrase = gathered_any (gathered_cycle a) h s.cycle in
      let cycle_begun = then_ (any_limit_first a k s.guard) begun in
      let priority_begun = then_ (any_cycle_first a h s.cycle) cycle_begun in
      record {
        first = start_agrees e a s.start here (then_ (optional_first f a role.Priority s.priority) priority_begun);
        second = any_agrees f a role.Priority s.priority refl refl here priority_begun;
        third = cycle_agrees h a s.cycle here cycle_begun;
        fourth = limit_agrees k a s.guard calm here begun;
      }

  any_event_agrees : (d : List Phrase) (a : Around) (o : Option Eventful) → a.home ≡ home → AreFirst (gathered_any (gathered_event a) d o) site.set.phrases
      → AnyEventAgrees image (within_block a.block site) site.set.phrases a.block o
  any_event_agrees d a None here begun = tt
  any_event_agrees d a (Some e) here begun = node_known image g u site home known d a (OfEvent e) here begun

  module _ (marked : site.marks ≡ marks_of site.set.phrases home) where
    -- a DO FOR with a TEMPORARY variable opens the block of its phrase
    opened_block : (m : ℕ) (d : List Phrase) (a : Around) (labels : List Naming) (variable : Naming) → a.home ≡ home → Counts a.home m d → AreFirst (add d a (OfTemporaryGroup labels variable)) site.set.phrases
        → group_site (within_block a.block site) true m ≡ within_block (length d) site
    opened_block m d a labels variable here counts first =
        ap (λ (o : Option ℕ). elim o [ None ↦ within_block a.block site | Some k ↦ within_block k site ])
        (ap (λ xs. slice_get xs m) marked ∙ (ap (λ k. slice_get (marks_of site.set.phrases k) m) (sym here) ∙ mark_there site.set.phrases m d a (OfTemporaryGroup labels variable) refl counts first))

    mutual
      unfolding gathered_statement gathered_basic gathered_alternative gathered_group gathered_statements begun_for around_for

      statement_agrees : (m : ℕ) (d : List Phrase) (a : Around) (x : Statement) → a.home ≡ home → Counts a.home m d → AreFirst (gathered_statement d a x) site.set.phrases
          → StatementAgrees image g u site.set.phrases (is_some a.update) (within_block a.block site) m d a x
      statement_agrees m d a (Labelled labels basic) here counts begun = basic_agrees m (gathered_each (gathered_label a) d labels) a labels basic here (labels_count m a d labels counts) begun

      basic_agrees : (m : ℕ) (d : List Phrase) (a : Around) (labels : List Naming) (x : Basic) → a.home ≡ home → Counts a.home m d → AreFirst (gathered_basic d a labels x) site.set.phrases
          → BasicAgrees image g u site.set.phrases (is_some a.update) (within_block a.block site) m d a labels x
      basic_agrees m d a labels (Null p) here counts begun = tt
      basic_agrees m d a labels (Assignment p receivers tree) here counts begun =
          let e : List Phrase = add d a (OfAssignment receivers tree) in
          let f : List Phrase = gathered_each (gathered_receiver (below d a) role.Receiver) e receivers in
          let receivers_begun = then_ (expression_first f (below d a) role.Assigned tree) begun in (
            receivers_agree e (below d a) receivers (node_known image g u site home known d a (OfAssignment receivers tree) here (then_ (receivers_first (below d a) role.Receiver e receivers) receivers_begun)) here receivers_begun,
            tree_agrees image g u site home known f (below d a) role.Assigned tree refl tt here begun,
          )
      basic_agrees m d a labels (If p condition consequence alternative) here counts begun =
          let e : List Phrase = gathered d a role.Condition condition in
          let f : List Phrase = gathered_statement e (inside a) consequence in
          let consequence_begun = then_ (alternative_first f (inside a) alternative) begun in
          let counted = expression_counts m d a role.Condition condition counts in (
            tree_agrees image g u site home known d a role.Condition condition refl tt here (then_ (statement_first e (inside a) consequence) consequence_begun),
            statement_agrees m e (inside a) consequence here counted consequence_begun,
            alternative_agrees (after_statement m consequence) f (inside a) alternative here (statement_counts m e (inside a) consequence counted) begun,
          )
      basic_agrees m d a labels (Do p group) here counts begun = group_agrees (suc m) (add d a (OfGroup labels false)) (grouped (length d) a) group here (mark_more m d a (OfGroup labels false) refl counts) begun
      basic_agrees m d a labels (DoCase p number alternative group) here counts begun =
          let e : List Phrase = add d a (OfGroup labels false) in
          let f : List Phrase = gathered e (below d a) role.Case number in
          let h : List Phrase = gathered_alternative f (grouped (length d) a) alternative in
          let alternative_begun = then_ (group_first h (grouped (length d) a) group) begun in
          let counted = expression_counts (suc m) e (below d a) role.Case number (mark_more m d a (OfGroup labels false) refl counts) in (
            tree_agrees image g u site home known e (below d a) role.Case number refl tt here (then_ (alternative_first f (grouped (length d) a) alternative) alternative_begun),
            group_agrees (after_alternative (suc m) alternative) h (grouped (length d) a) group here (alternative_counts (suc m) f (grouped (length d) a) alternative counted) begun,
            alternative_agrees (suc m) f (grouped (length d) a) alternative here counted alternative_begun,
          )
      basic_agrees m d a labels (DoLoop p guard group) here counts begun =
          let e : List Phrase = add d a (OfGroup labels true) in
          let f : List Phrase = gathered_guard (below d a) e guard in (
            guard_agrees e (below d a) guard here (then_ (group_first f (grouped (length d) a) group) begun),
            group_agrees (suc m) f (grouped (length d) a) group here (guard_counts (suc m) (below d a) e guard (mark_more m d a (OfGroup labels true) refl counts)) begun,
          )
      basic_agrees m d a labels (DoFor p true variable span guard group) here counts begun =
          let o : Around = around_for d a true in
          let e : List Phrase = add d a (OfTemporaryGroup labels variable) in
          let f : List Phrase = gathered_span e o span in
          let h : List Phrase = gathered_any (gathered_guard o) f guard in
          let guard_begun = then_ (group_first h o group) begun in
          let span_begun = then_ (any_guard_first o f guard) guard_begun in
          let first = then_ (span_first e o span) span_begun in
          let counted = any_guard_counts (suc m) o f guard (span_counts (suc m) e o span (mark_more m d a (OfTemporaryGroup labels variable) refl counts)) in
          subst (λ (s : Site). ForAgrees (u (is_some a.update)) s site.set.phrases (length d) true variable.name span guard × GroupAgrees image g u site.set.phrases (is_some a.update) s (suc m) h o group)
          (sym (opened_block m d a labels variable here counts first)) (
            record {
              variable = node_known image g u site home known d a (OfTemporaryGroup labels variable) here first;
              spanned = span_agrees e o span here span_begun;
              guarded = any_guard_agrees f o guard here guard_begun;
            },
            group_agrees (suc m) h o group here counted begun,
          )
      basic_agrees m d a labels (DoFor p false variable span guard group) here counts begun =
          let o : Around = around_for d a false in
          let e : List Phrase = begun_for d a labels false variable in
          let f : List Phrase = gathered_span e o span in
          let h : List Phrase = gathered_any (gathered_guard o) f guard in
          let guard_begun = then_ (group_first h o group) begun in
          let span_begun = then_ (any_guard_first o f guard) guard_begun in
          let counted = any_guard_counts (suc m) o f guard (span_counts (suc m) e o span (for_counts m d a labels false variable counts)) in (
            record {
              variable = node_known image g u site home known (add d a (OfGroup labels true)) (below d a) (OfVariable variable) here (then_ (span_first e o span) span_begun);
              spanned = span_agrees e o span here span_begun;
              guarded = any_guard_agrees f o guard here guard_begun;
            },
            group_agrees (suc m) h o group here counted begun,
          )
      basic_agrees m d a labels (Exit p label) here counts begun = tt
      basic_agrees m d a labels (Repeat p label) here counts begun = tt
      basic_agrees m d a labels (Return p None) here counts begun = tt
      basic_agrees m d a labels (Return p (Some tree)) here counts begun =
          let e : List Phrase = add d a (OfReturn p (Some tree)) in
          (node_known image g u site home known d a (OfReturn p (Some tree)) here (then_ (expression_first e (below d a) role.Returned tree) begun), tree_agrees image g u site home known e (below d a) role.Returned tree refl tt here begun)
      basic_agrees m d a labels (Call p name arguments receivers) here counts begun =
          let e : List Phrase = add d a (OfCall name arguments receivers) in
          let f : List Phrase = gathered_all e (below d a) role.Input arguments in
          let arguments_begun = then_ (receivers_first (below d a) role.Output f receivers) begun in
          record {
            procedure = node_known image g u site home known d a (OfCall name arguments receivers) here (then_ (expressions_first e (below d a) role.Input arguments) arguments_begun);
            arguments = trees_agree image g u site home known e (below d a) role.Input arguments refl tt here arguments_begun;
            areas = areas_agree f (below d a) receivers here begun;
          }
      basic_agrees m d a labels (Read p channel receivers) here counts begun =
          let e : List Phrase = add d a (OfRead p) in
          let f : List Phrase = gathered e (below d a) role.Channel channel in
          let channel_begun = then_ (receivers_first (below d a) role.Receiver f receivers) begun in (
            (node_known image g u site home known e (below d a) (OfExpression role.Channel channel) here (then_ (own_first e (below d a) role.Channel channel) channel_begun)).1 e channel_begun,
            reads_agree f (below d a) receivers here begun,
          )
      basic_agrees m d a labels (Write p channel items) here counts begun =
          let e : List Phrase = add d a (OfWrite p) in
          let f : List Phrase = gathered e (below d a) role.Channel channel in
          let channel_begun = then_ (expressions_first f (below d a) role.Item items) begun in (
            (node_known image g u site home known e (below d a) (OfExpression role.Channel channel) here (then_ (own_first e (below d a) role.Channel channel) channel_begun)).1 e channel_begun,
            trees_agree image g u site home known f (below d a) role.Item items refl tt here begun,
          )
      basic_agrees m d a labels (Update p body close) here counts begun =
          let e : List Phrase = add d a (OfUpdate p labels) in
          statements_agree (suc m) e (updated (length d) a) body here (mark_more m d a (OfUpdate p labels) refl counts)
          (then_ (close_first (updated (length d) a) (gathered_statements e (updated (length d) a) body) close) begun)
      basic_agrees m d a labels (Scheduled p s) here counts begun =
          schedule_agrees (add d a (OfRealTime p)) (below d a) s
          (calm_there site.set.phrases (length d) a.block a p (there site.set.phrases d a (OfRealTime p) (then_ (schedule_first (add d a (OfRealTime p)) (below d a) s) begun))) here begun
      basic_agrees m d a labels (Cancel p names) here counts begun = tt
      basic_agrees m d a labels (Terminate p names) here counts begun = tt
      basic_agrees m d a labels (Wait p tree) here counts begun = time_agrees (add d a (OfRealTime p)) (below d a) role.Time tree refl tt here begun
      basic_agrees m d a labels (WaitUntil p tree) here counts begun = time_agrees (add d a (OfRealTime p)) (below d a) role.Time tree refl tt here begun
      basic_agrees m d a labels (WaitForDependent p) here counts begun = tt
      basic_agrees m d a labels (WaitFor p tree) here counts begun = tt
      basic_agrees m d a labels (Event e) here counts begun = node_known image g u site home known d a (OfEvent e) here begun
      basic_agrees m d a labels (UpdatePriority p name tree) here counts begun =
          tree_agrees image g u site home known (gathered_any (gathered_process (below d a)) (add d a (OfRealTime p)) name) (below d a) role.Priority tree refl tt here begun
      basic_agrees m d a labels (OnErrorStatement p s handler) here counts begun = statement_agrees (suc m) (add d a (OfHandler p s)) (inside a) handler here (mark_more m d a (OfHandler p s) refl counts) begun
      basic_agrees m d a labels (OnErrorResponse p s response e) here counts begun = any_event_agrees (add d a (OfResponse p s)) (below d a) e here begun
      basic_agrees m d a labels (OffError p s) here counts begun = tt
      basic_agrees m d a labels (SendError p group_at group number_at number) here counts begun = tt

      alternative_agrees : (m : ℕ) (d : List Phrase) (a : Around) (x : Alternative) → a.home ≡ home → Counts a.home m d → AreFirst (gathered_alternative d a x) site.set.phrases
          → AlternativeAgrees image g u site.set.phrases (is_some a.update) (within_block a.block site) m d a x
      alternative_agrees m d a NoAlternative here counts begun = tt
      alternative_agrees m d a (Otherwise x) here counts begun = statement_agrees m d a x here counts begun

      group_agrees : (m : ℕ) (d : List Phrase) (a : Around) (x : Group) → a.home ≡ home → Counts a.home m d → AreFirst (gathered_group d a x) site.set.phrases
          → GroupAgrees image g u site.set.phrases (is_some a.update) (within_block a.block site) m d a x
      group_agrees m d a (Groups list close) here counts begun = statements_agree m d a list here counts (then_ (close_first a (gathered_statements d a list) close) begun)

      pub statements_agree : (m : ℕ) (d : List Phrase) (a : Around) (x : Statements) → a.home ≡ home → Counts a.home m d → AreFirst (gathered_statements d a x) site.set.phrases
          → StatementsAgree image g u site.set.phrases (is_some a.update) (within_block a.block site) m d a x
      statements_agree m d a NoStatements here counts begun = tt
      statements_agree m d a (MoreStatements first others) here counts begun = (
        statement_agrees m d a first here counts (then_ (statements_first (gathered_statement d a first) a others) begun),
        statements_agree (after_statement m first) (gathered_statement d a first) a others here (statement_counts m d a first counts) begun,
      )
