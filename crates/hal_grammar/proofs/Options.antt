-- The parts of statements that may be left out: the same words spell one at most.
use Rattle.std.proofs.Common.{◌≡◌, ◌≢◌, ◌≤◌, List, [], ◌∷◌, refl, ap, ap₂, sym, subst, arith, Option, Some, Bool}
use Rattle.hal_base.specs.declared.refusal.Place.{Place}
use Rattle.hal_words.specs.declared.reserved.Reserved.TheVariants as reserved
use Rattle.hal_words.specs.declared.word.Symbol.TheVariants as symbol
use Rattle.hal_words.specs.declared.word.Word.{Word}
use Rattle.hal_words.specs.declared.word.Word.TheVariants as word
use Rattle.hal_grammar.specs.Leaves.{Naming, naming}
use Rattle.hal_grammar.specs.Expressions.{Expression, Expressions, Reference}
use Rattle.hal_grammar.specs.Words.{Words, token, reserved_then, BeginsWith, begins}
use Rattle.hal_grammar.specs.Statements.{Guard, While, Until, Span, Stepped, Listed, Selector, Eventful, Response, Start, StartAt, StartIn, StartOn, Cycle, Cyclic, CyclicEvery, CyclicAfter, Schedule, scheduling}
use Rattle.hal_grammar.specs.SpellsExpressions.{SpellsExpression, SpellsExpressions, last_expression, more_expressions, SpellsReference}
use Rattle.hal_grammar.specs.SpellsDeclarations.{Parted, last, more}
use Rattle.hal_grammar.specs.SpellsStatements.{SpellsArguments, no_arguments, arguments, SpellsReceivers, no_receivers, receivers, SpellsGuard, no_guard, as_long, unless, SpellsStep, no_step, step, SpellsSpan, stepped, listed, SpellsSelector, every_error, group_alone, group_enclosed, group_colon, group_star, one_error, SpellsEvent, pulses, raises, lowers, SpellsResponse, by_system, ignored, SpellsEventEnd, no_event_end, event_end, SpellsStart, no_start, start_at, start_in, start_on, SpellsPriority, no_priority, priority, SpellsDependent, not_dependent, dependent, SpellsComma, no_comma, comma, SpellsCycle, no_cycle, cyclic, cyclic_every, cyclic_after, SpellsSchedule, scheduled_so, SpellsTemporary, not_temporary, temporary, SpellsNameOption, no_name, one_name, begins_label, SpellsLabels, no_labels, more_labels}
use Rattle.hal_grammar.specs.GoesOn.{strength}
use Rattle.hal_grammar.proofs.Outcomes.{back, until, tail_same}
use Rattle.hal_grammar.proofs.Leaves.{word_same}
use Rattle.hal_grammar.proofs.OneExpression.{one_expressions, one_reference}
use Rattle.hal_grammar.proofs.OneDeclaration.{exact}

-- words with which no reference and no list goes on
abbrev pub Stops : Words → Type 0
Stops a = (strength a ≤ 9) × (strength a ≢ 1)

pub one_references : {xs ys : List Reference} {b a c : Words} → Parted SpellsReference xs b a → Parted SpellsReference ys b c → Stops a → Stops c → (xs ≡ ys) × (a ≡ c)
one_references (last d) (last e) h i = let r = until (one_reference d e) h.0 i.0 in (ap (λ x. x ∷ []) r.0, r.1)
one_references (last d) (more e es) h i = let r = until (one_reference d e) h.0 (omega arith) in absurd (h.1 (ap strength r.1))
one_references (more d ds) (last e) h i = let r = until (one_reference d e) (omega arith) i.0 in absurd (i.1 (ap strength (sym r.1)))
one_references (more d ds) (more e es) h i =
    let r = until (one_reference d e) (omega arith) (omega arith) in
    let s = one_references ds (back (Parted SpellsReference) (tail_same r.1) es) h i in (ap₂ ◌∷◌ r.0 s.0, s.1)

pub one_arguments : {ts us : Expressions} {b a c : Words} → SpellsArguments ts b a → SpellsArguments us b c → (ts ≡ us) × (a ≡ c)
one_arguments (no_arguments n) (no_arguments m) = (refl, refl)
one_arguments (no_arguments n) (arguments e) = absurd (n begins)
one_arguments (arguments d) (no_arguments n) = absurd (n begins)
one_arguments (arguments d) (arguments e) = let r = until (one_expressions d e) (omega arith) (omega arith) in (r.0, tail_same r.1)

pub one_receivers : {xs ys : List Reference} {b a c : Words} → SpellsReceivers xs b a → SpellsReceivers ys b c → (xs ≡ ys) × (a ≡ c)
one_receivers (no_receivers n) (no_receivers m) = (refl, refl)
one_receivers (no_receivers n) (receivers e) = absurd (n begins)
one_receivers (receivers d) (no_receivers n) = absurd (n begins)
one_receivers (receivers d) (receivers e) = let r = one_references d e (omega arith, omega arith) (omega arith, omega arith) in (r.0, tail_same r.1)

pub one_guard : {g h : Option Guard} {b a c : Words} → SpellsGuard g b a → SpellsGuard h b c → strength a ≤ 2 → strength c ≤ 2 → (g ≡ h) × (a ≡ c)
one_guard (no_guard n m) (no_guard o p) h i = (refl, refl)
one_guard (no_guard n m) (as_long e) h i = absurd (n begins)
one_guard (no_guard n m) (unless e) h i = absurd (m begins)
one_guard (as_long d) (no_guard n m) h i = absurd (n begins)
one_guard (unless d) (no_guard n m) h i = absurd (m begins)
one_guard (as_long {p = p} d) (as_long e) h i = let r = exact d e h i in (ap (λ t. Some (While p t)) r.0, r.1)
one_guard (unless {p = p} d) (unless e) h i = let r = exact d e h i in (ap (λ t. Some (Until p t)) r.0, r.1)

pub one_step : {t u : Option Expression} {b a c : Words} → SpellsStep t b a → SpellsStep u b c → strength a ≤ 2 → strength c ≤ 2 → (t ≡ u) × (a ≡ c)
one_step (no_step n) (no_step m) h i = (refl, refl)
one_step (no_step n) (step e) h i = absurd (n begins)
one_step (step d) (no_step n) h i = absurd (n begins)
one_step (step d) (step e) h i = let r = exact d e h i in (ap Some r.0, r.1)

-- before a step or none no expression goes on
pub step_weak : {t : Option Expression} {b a : Words} → SpellsStep t b a → strength a ≤ 0 → strength b ≤ 0
step_weak (no_step n) h = h
step_weak (step d) h = omega arith

-- and so before a condition or none
pub guard_weak : {g : Option Guard} {b a : Words} → SpellsGuard g b a → strength a ≤ 0 → strength b ≤ 0
guard_weak (no_guard n m) h = h
guard_weak (as_long d) h = omega arith
guard_weak (unless d) h = omega arith

-- `TO` and no word of a list
not_listed : {t : Expression} {ts : Expressions} {p : Place} {b m c : Words} → SpellsExpression t b (reserved_then reserved.To p m) → SpellsExpressions ts b c → strength c ≤ 0 → ⊥
not_listed d (last_expression e) h = let r = exact d e (omega arith) (omega arith) in omega (arith, ap strength r.1)
not_listed d (more_expressions e es) h = let r = exact d e (omega arith) (omega arith) in omega (arith, ap strength r.1)

stepped_same : {t u v w : Expression} {s z : Option Expression} → t ≡ u → v ≡ w → s ≡ z → Stepped t v s ≡ Stepped u w z
stepped_same e f g = cc

pub one_span : {x y : Span} {b a c : Words} → SpellsSpan x b a → SpellsSpan y b c → strength a ≤ 0 → strength c ≤ 0 → (x ≡ y) × (a ≡ c)
one_span (stepped d f s) (stepped e g z) h i =
    let r = exact d e (omega arith) (omega arith) in
    let v = exact f (back SpellsExpression (tail_same r.1) g) (omega (arith, step_weak s h)) (omega (arith, step_weak z i)) in
    let w = one_step s (back SpellsStep v.1 z) (omega arith) (omega arith) in
    (stepped_same r.0 v.0 w.0, w.1)
one_span (stepped d f s) (listed e) h i = absurd (not_listed d e i)
one_span (listed d) (stepped e g z) h i = absurd (not_listed e d h)
one_span (listed d) (listed e) h i = let r = until (one_expressions d e) h i in (ap Listed r.0, r.1)

pub one_selector : {x y : Selector} {b a c : Words} → SpellsSelector x b a → SpellsSelector y b c → (x ≡ y) × (a ≡ c)
one_selector (every_error n) (every_error m) = (refl, refl)
one_selector (every_error n) group_alone = absurd (n begins)
one_selector (every_error n) group_enclosed = absurd (n begins)
one_selector (every_error n) group_colon = absurd (n begins)
one_selector (every_error n) group_star = absurd (n begins)
one_selector (every_error n) one_error = absurd (n begins)
one_selector group_alone (every_error n) = absurd (n begins)
one_selector group_enclosed (every_error n) = absurd (n begins)
one_selector group_colon (every_error n) = absurd (n begins)
one_selector group_star (every_error n) = absurd (n begins)
one_selector one_error (every_error n) = absurd (n begins)
one_selector group_alone group_alone = (refl, refl)
one_selector group_enclosed group_enclosed = (refl, refl)
one_selector group_colon group_colon = (refl, refl)
one_selector group_star group_star = (refl, refl)
one_selector one_error one_error = (refl, refl)

pub one_event : {x y : Eventful} {b a c : Words} → SpellsEvent x b a → SpellsEvent y b c → (x ≡ y) × (a ≡ c)
one_event pulses pulses = (refl, refl)
one_event raises raises = (refl, refl)
one_event lowers lowers = (refl, refl)

pub one_response : {x y : Response} {b a c : Words} → SpellsResponse x b a → SpellsResponse y b c → (x ≡ y) × (a ≡ c)
one_response by_system by_system = (refl, refl)
one_response ignored ignored = (refl, refl)

pub one_event_end : {x y : Option Eventful} {b a c : Words} → SpellsEventEnd x b a → SpellsEventEnd y b c → (x ≡ y) × (a ≡ c)
one_event_end no_event_end no_event_end = (refl, refl)
one_event_end (event_end d) (event_end e) = let r = one_event d e in (ap Some r.0, tail_same r.1)

pub one_start : {x y : Option Start} {b a c : Words} → SpellsStart x b a → SpellsStart y b c → strength a ≤ 2 → strength c ≤ 2 → (x ≡ y) × (a ≡ c)
one_start (no_start n m o) (no_start p q r) h i = (refl, refl)
one_start (no_start n m o) (start_at e) h i = absurd (n begins)
one_start (no_start n m o) (start_in e) h i = absurd (m begins)
one_start (no_start n m o) (start_on e) h i = absurd (o begins)
one_start (start_at d) (no_start n m o) h i = absurd (n begins)
one_start (start_in d) (no_start n m o) h i = absurd (m begins)
one_start (start_on d) (no_start n m o) h i = absurd (o begins)
one_start (start_at {p = p} d) (start_at e) h i = let r = exact d e h i in (ap (λ t. Some (StartAt p t)) r.0, r.1)
one_start (start_in {p = p} d) (start_in e) h i = let r = exact d e h i in (ap (λ t. Some (StartIn p t)) r.0, r.1)
one_start (start_on {p = p} d) (start_on e) h i = let r = exact d e h i in (ap (λ t. Some (StartOn p t)) r.0, r.1)

pub one_priority : {x y : Option Expression} {b a c : Words} → SpellsPriority x b a → SpellsPriority y b c → (x ≡ y) × (a ≡ c)
one_priority (no_priority n) (no_priority m) = (refl, refl)
one_priority (no_priority n) (priority e) = absurd (n begins)
one_priority (priority d) (no_priority n) = absurd (n begins)
one_priority (priority d) (priority e) = let r = exact d e (omega arith) (omega arith) in (ap Some r.0, tail_same r.1)

pub one_dependent : {x y : Bool} {b a c : Words} → SpellsDependent x b a → SpellsDependent y b c → (x ≡ y) × (a ≡ c)
one_dependent (not_dependent n) (not_dependent m) = (refl, refl)
one_dependent (not_dependent n) dependent = absurd (n begins)
one_dependent dependent (not_dependent n) = absurd (n begins)
one_dependent dependent dependent = (refl, refl)

pub one_comma : {b a c : Words} → SpellsComma b a → SpellsComma b c → a ≡ c
one_comma (no_comma n) (no_comma m) = refl
one_comma (no_comma n) comma = absurd (n begins)
one_comma comma (no_comma n) = absurd (n begins)
one_comma comma comma = refl

pub one_temporary : {x y : Bool} {b a c : Words} → SpellsTemporary x b a → SpellsTemporary y b c → (x ≡ y) × (a ≡ c)
one_temporary (not_temporary n) (not_temporary m) = (refl, refl)
one_temporary (not_temporary n) temporary = absurd (n begins)
one_temporary temporary (not_temporary n) = absurd (n begins)
one_temporary temporary temporary = (refl, refl)

pub one_name_option : {x y : Option Naming} {b a c : Words} → SpellsNameOption x b a → SpellsNameOption y b c → (x ≡ y) × (a ≡ c)
one_name_option no_name no_name = (refl, refl)
one_name_option one_name one_name = (refl, refl)

pub one_labels : {ns ms : List Naming} {b a c : Words} → SpellsLabels ns b a → SpellsLabels ms b c → (ns ≡ ms) × (a ≡ c)
one_labels (no_labels n) (no_labels m) = (refl, refl)
one_labels (no_labels n) (more_labels e) = absurd (n begins_label)
one_labels (more_labels d) (no_labels n) = absurd (n begins_label)
one_labels (more_labels {p = p} {n = n} d) (more_labels e) = let r = one_labels d e in (ap (λ l. naming p n ∷ l) r.0, r.1)

-- REPEAT behind a comma or none
repeat_same : {p q : Place} {b m n : Words} → SpellsComma b (reserved_then reserved.Repeat p m) → SpellsComma b (reserved_then reserved.Repeat q n) → (p ≡ q) × (m ≡ n)
repeat_same {p = p} {q = q} d e =
    let r = one_comma d e in
    let h : token (word.Reserved reserved.Repeat) p ≡ token (word.Reserved reserved.Repeat) q = cc in
    (ap (λ t. t.place) h, tail_same r)

-- no cycle, where a comma or REPEAT follows
no_comma_apart : {p : Place} {b m : Words} → ¬ BeginsWith (word.Symbol symbol.Comma) b → ¬ BeginsWith (word.Reserved reserved.Repeat) b →
    SpellsComma b (reserved_then reserved.Repeat p m) → ⊥
no_comma_apart n o (no_comma m) = o begins
no_comma_apart n o comma = n begins

after_word : {v : Word} {p : Place} {m n : Words} → n ≡ token v p ∷ m → ¬ BeginsWith v n → ⊥
after_word {v = v} e h = subst (λ w. BeginsWith v w → ⊥) e h begins

every_not_after : {p q : Place} {m n : Words} → reserved_then reserved.Every p m ≡ reserved_then reserved.After q n → ⊥
every_not_after e = let h : word.Reserved reserved.Every ≡ word.Reserved reserved.After = word_same e in cc

place_same : {v : Word} {p q : Place} {m n : Words} → token v p ∷ m ≡ token v q ∷ n → p ≡ q
place_same {v = v} {p = p} {q = q} e = let h : token v p ≡ token v q = cc in ap (λ t. t.place) h

pub one_cycle : {x y : Option Cycle} {b a c : Words} → SpellsCycle x b a → SpellsCycle y b c → strength a ≤ 2 → strength c ≤ 2 → (x ≡ y) × (a ≡ c)
one_cycle (no_cycle n m) (no_cycle o p) h i = (refl, refl)
one_cycle (no_cycle n m) (cyclic e o p) h i = absurd (no_comma_apart n m e)
one_cycle (no_cycle n m) (cyclic_every e f) h i = absurd (no_comma_apart n m e)
one_cycle (no_cycle n m) (cyclic_after e f) h i = absurd (no_comma_apart n m e)
one_cycle (cyclic d o p) (no_cycle n m) h i = absurd (no_comma_apart n m d)
one_cycle (cyclic_every d f) (no_cycle n m) h i = absurd (no_comma_apart n m d)
one_cycle (cyclic_after d f) (no_cycle n m) h i = absurd (no_comma_apart n m d)
one_cycle (cyclic d n m) (cyclic e o p) h i = let r = repeat_same d e in (ap (λ p. Some (Cyclic p)) r.0, r.1)
one_cycle (cyclic d n m) (cyclic_every e f) h i = let r = repeat_same d e in absurd (after_word r.1 n)
one_cycle (cyclic d n m) (cyclic_after e f) h i = let r = repeat_same d e in absurd (after_word r.1 m)
one_cycle (cyclic_every d f) (cyclic e n m) h i = let r = repeat_same d e in absurd (after_word (sym r.1) n)
one_cycle (cyclic_after d f) (cyclic e n m) h i = let r = repeat_same d e in absurd (after_word (sym r.1) m)
one_cycle (cyclic_every d f) (cyclic_every e g) h i =
    let r = repeat_same d e in
    let s = exact f (back SpellsExpression (tail_same r.1) g) h i in (ap₂ (λ p t. Some (CyclicEvery p t)) r.0 s.0, s.1)
one_cycle (cyclic_every d f) (cyclic_after e g) h i = let r = repeat_same d e in absurd (every_not_after r.1)
one_cycle (cyclic_after d f) (cyclic_every e g) h i = let r = repeat_same d e in absurd (every_not_after (sym r.1))
one_cycle (cyclic_after d f) (cyclic_after e g) h i =
    let r = repeat_same d e in
    let s = exact f (back SpellsExpression (tail_same r.1) g) h i in (ap₂ (λ p t. Some (CyclicAfter p t)) r.0 s.0, s.1)

-- before REPEAT, with a comma or without, or none
comma_weak : {p : Place} {b m : Words} → SpellsComma b (reserved_then reserved.Repeat p m) → strength b ≤ 1
comma_weak (no_comma n) = omega arith
comma_weak comma = omega arith

pub cycle_weak : {x : Option Cycle} {b a : Words} → SpellsCycle x b a → strength a ≤ 0 → strength b ≤ 1
cycle_weak (no_cycle n m) h = omega arith
cycle_weak (cyclic d n m) h = comma_weak d
cycle_weak (cyclic_every d e) h = comma_weak d
cycle_weak (cyclic_after d e) h = comma_weak d

pub dependent_weak : {x : Bool} {b a : Words} → SpellsDependent x b a → strength a ≤ 1 → strength b ≤ 1
dependent_weak (not_dependent n) h = h
dependent_weak dependent h = omega arith

pub priority_weak : {x : Option Expression} {b a : Words} → SpellsPriority x b a → strength a ≤ 1 → strength b ≤ 1
priority_weak (no_priority n) h = h
priority_weak (priority d) h = omega arith

scheduling_same : {n : Naming} {s s' : Option Start} {t t' : Option Expression} {d d' : Bool} {c c' : Option Cycle} {g g' : Option Guard} → s ≡ s' → t ≡ t' → d ≡ d' → c ≡ c' →
    g ≡ g' → scheduling n s t d c g ≡ scheduling n s' t' d' c' g'
scheduling_same {n = n} {s = s} {t' = t'} {d = d} {c = c} {g = g} e f h i j = cc

pub one_schedule : {x y : Schedule} {b a c : Words} → SpellsSchedule x b a → SpellsSchedule y b c → (x ≡ y) × (a ≡ c)
one_schedule (scheduled_so {p = p} {n = n} s t d c g) (scheduled_so s' t' d' c' g') =
    let cw = cycle_weak c (guard_weak g (omega arith)) in
    let cw' = cycle_weak c' (guard_weak g' (omega arith)) in
    let r1 = one_start s s' (omega (arith, priority_weak t (dependent_weak d cw))) (omega (arith, priority_weak t' (dependent_weak d' cw'))) in
    let r2 = one_priority t (back SpellsPriority r1.1 t') in
    let r3 = one_dependent d (back SpellsDependent r2.1 d') in
    let r4 = one_cycle c (back SpellsCycle r3.1 c') (omega (arith, guard_weak g (omega arith))) (omega (arith, guard_weak g' (omega arith))) in
    let r5 = one_guard g (back SpellsGuard r4.1 g') (omega arith) (omega arith) in
    (scheduling_same r1.0 r2.0 r3.0 r4.0 r5.0, tail_same r5.1)
