-- The units of a set, and which processes reach them.
use Rattle.std.proofs.Common.{rules, ◌⊎◌, inl, inr, ◌≡◌, ◌∙◌, ◌==◌, ℕ, Bool, true, false, List, [], ◌∷◌, Option, Some, None, map, filter, filter_map, length, if◌then◌else◌, refl, sym, ap, ap₂, subst}
use Rattle.std.specs.Option.{option_map}
use Rattle.std.specs.List.{cons_option}
use Rattle.hal_phrases.specs.Phrases.{Phrase}
use Rattle.hal_scope.proofs.Lists.{or_false}
use Rattle.hal_meaning.specs.Bodies.{is_unit, is_process, callee, processes_of, processes_reaching, reaches, unit_count}
use Rattle.hal_meaning.specs.Places.{unit_numbers}
use Rattle.hal_reach.specs.declared.call.Call.{Call}
use Rattle.hal_reach.specs.Marks as marks
use Rattle.hal_reach.specs.Marks.{counts, numbers_marked, processes_marked, rows}
use Rattle.hal_reach.specs.Places.{place_among, places, places_called}
use Rattle.hal_reach.specs.Calls.{call_of, call_from, calls_of, unit_with, units_among, units_of, reaches_any, reaching, caller_count, callers_of, reached, reached_of}
use Rattle.hal_reach.proofs.Within.{AreRight, numbers, row, reaching_within}
use Rattle.hal_reach.proofs.Callees.{IsOther, sort_of, has_callees}

-- the places of those that a block calls, phrase by phrase
some_placed : (ns : List ℕ) (to : ℕ) (b : Bool) (calls : List ℕ) (ks : List ℕ) → calls ≡ places ns ks
    → cons_option (if b then place_among ns to else None) calls ≡ places ns (cons_option (if b then Some to else None) ks)
some_placed ns to true calls ks is = ap (cons_option (place_among ns to)) is
some_placed ns to false calls ks is = is

none_placed : (ns : List ℕ) (b : Bool) (calls : List ℕ) (ks : List ℕ) → calls ≡ places ns ks → calls ≡ places ns (cons_option (if b then None else None) ks)
none_placed ns true calls ks is = is
none_placed ns false calls ks is = is

call_placed : (ns : List ℕ) (q home : ℕ) (to : Option ℕ) (calls : List Call) (ks : List ℕ) → places_called ns q calls ≡ places ns ks
    → places_called ns q (cons_option (option_map (call_from home) to) calls) ≡ places ns (cons_option (if home == q then to else None) ks)
call_placed ns q home None calls ks is = none_placed ns (home == q) (places_called ns q calls) ks is
call_placed ns q home (Some to) calls ks is = some_placed ns to (home == q) (places_called ns q calls) ks is

calls_placed : (ns : List ℕ) (q : ℕ) (ps qs : List Phrase) → places_called ns q (filter_map (call_of ps) qs) ≡ places ns (filter_map (λ (p : Phrase). if p.around.home == q then callee ps p else None) qs)
calls_placed ns q ps [] = refl
calls_placed ns q ps (p ∷ qs) =
    call_placed ns q p.around.home (callee ps p) (filter_map (call_of ps) qs) (filter_map (λ (p : Phrase). if p.around.home == q then callee ps p else None) qs) (calls_placed ns q ps qs)

-- the numbers of the units among phrases
numbered_one : (ns : List ℕ) (calls : List Call) (p : Phrase) (b : Bool) (us : List marks.Unit) (ks : List ℕ) → numbers us ≡ ks
    → numbers (cons_option (if b then Some (unit_with ns calls p) else None) us) ≡ cons_option (if b then Some p.number else None) ks
numbered_one ns calls p true us ks is = ap (λ (list : List ℕ). p.number ∷ list) is
numbered_one ns calls p false us ks is = is

pub numbered : (ns : List ℕ) (calls : List Call) (qs : List Phrase) → numbers (units_among ns calls qs) ≡ unit_numbers qs
numbered ns calls [] = refl
numbered ns calls (p ∷ qs) = numbered_one ns calls p (is_unit p.node) (units_among ns calls qs) (unit_numbers qs) (numbered ns calls qs)

-- how many there are
counted_one : (ns : List ℕ) (calls : List Call) (p : Phrase) (b : Bool) (us : List marks.Unit) (qs : List Phrase) → length us ≡ length qs
    → length (cons_option (if b then Some (unit_with ns calls p) else None) us) ≡ length (if b then p ∷ qs else qs)
counted_one ns calls p true us qs is = search (rules, is)
counted_one ns calls p false us qs is = is

counted : (ns : List ℕ) (calls : List Call) (qs : List Phrase) → length (units_among ns calls qs) ≡ unit_count qs
counted ns calls [] = refl
counted ns calls (p ∷ qs) = counted_one ns calls p (is_unit p.node) (units_among ns calls qs) (filter (λ (q : Phrase). is_unit q.node) qs) (counted ns calls qs)

-- each has the places of those that it calls
right_one : (ps : List Phrase) (p : Phrase) (b : Bool) (us : List marks.Unit) → AreRight ps (unit_numbers ps) us
    → AreRight ps (unit_numbers ps) (cons_option (if b then Some (unit_with (unit_numbers ps) (calls_of ps) p) else None) us)
right_one ps p true us are = ((calls_placed (unit_numbers ps) p.number ps ps, has_callees ps p.number), are)
right_one ps p false us are = are

right : (ps qs : List Phrase) → AreRight ps (unit_numbers ps) (units_among (unit_numbers ps) (calls_of ps) qs)
right ps [] = tt
right ps (p ∷ qs) = right_one ps p (is_unit p.node) (units_among (unit_numbers ps) (calls_of ps) qs) (right ps qs)

-- the processes among them that are marked
chosen_one : (f : ℕ → Bool) (n : ℕ) (cs : List ℕ) (b m : Bool) (us : List marks.Unit) (ms : List Bool) (ks : List ℕ) → f n ≡ m → processes_marked us ms ≡ filter f ks
    → processes_marked (record { number = n; process = b; callees = cs } ∷ us) (m ∷ ms) ≡ filter f (cons_option (if b then Some n else None) ks)
unfolding processes_marked
chosen_one f n cs true true us ms ks same is = search (rules, same, is)
chosen_one f n cs true false us ms ks same is = search (rules, same, is)
chosen_one f n cs false m us ms ks same is = is

chosen_if : (ns : List ℕ) (calls : List Call) (f : ℕ → Bool) (p : Phrase) (b : Bool) (us : List marks.Unit) (ks : List ℕ) → (b ≡ true) ⊎ IsOther p.node
    → processes_marked us (map f (numbers us)) ≡ filter f ks
    → processes_marked (cons_option (if b then Some (unit_with ns calls p) else None) us) (map f (numbers (cons_option (if b then Some (unit_with ns calls p) else None) us)))
    ≡ filter f (cons_option (if is_process p.node then Some p.number else None) ks)
chosen_if ns calls f p true us ks sort is = chosen_one f p.number (places_called ns p.number calls) (is_process p.node) (f p.number) us (map f (numbers us)) ks refl is
chosen_if ns calls f p false us ks (inl unit) is = search (rules, unit)
chosen_if ns calls f p false us ks (inr other) is = search (rules, other.process, is)

chosen : (ns : List ℕ) (calls : List Call) (f : ℕ → Bool) (qs : List Phrase)
    → processes_marked (units_among ns calls qs) (map f (numbers (units_among ns calls qs))) ≡ filter f (processes_of qs)
unfolding processes_marked
chosen ns calls f [] = refl
chosen ns calls f (p ∷ qs) = chosen_if ns calls f p (is_unit p.node) (units_among ns calls qs) (processes_of qs) (sort_of p.node) (chosen ns calls f qs)

-- those that reach a block
pub right_units : (ps : List Phrase) → AreRight ps (numbers (units_of ps)) (units_of ps)
unfolding units_of
right_units ps = subst (λ ns. AreRight ps ns (units_of ps)) (sym (numbered (unit_numbers ps) (calls_of ps) ps)) (right ps ps)

pub marked : (ps : List Phrase) (blocks : List ℕ) → marks.reaching (units_of ps) blocks ≡ map (reaches_any ps blocks) (numbers (units_of ps))
unfolding units_of
marked ps blocks =
    reaching_within ps blocks (units_of ps) (right_units ps)
    ∙ ap (λ n. row ps n blocks (numbers (units_of ps))) (counted (unit_numbers ps) (calls_of ps) ps)

-- a list of one block
one_reached : (ps : List Phrase) (to : ℕ) (ns : List ℕ) → map (reaches_any ps (to ∷ [])) ns ≡ map (λ k. reaches ps k to) ns
one_reached ps to [] = refl
one_reached ps to (n ∷ ns) = ap₂ (λ (x : Bool) (xs : List Bool). x ∷ xs) (or_false (reaches ps n to)) (one_reached ps to ns)

processes : (ps : List Phrase) (to : ℕ) → processes_marked (units_of ps) (marks.reaching (units_of ps) (to ∷ [])) ≡ processes_reaching ps to
unfolding units_of
processes ps to =
    ap (processes_marked (units_of ps)) (marked ps (to ∷ []) ∙ one_reached ps to (numbers (units_of ps)))
    ∙ chosen (unit_numbers ps) (calls_of ps) (λ k. reaches ps k to) ps

-- the units themselves
units_marked : (f : ℕ → Bool) (us : List marks.Unit) → numbers_marked us (map f (numbers us)) ≡ filter f (numbers us)
unfolding numbers_marked
units_marked f [] = refl
units_marked f (u ∷ us) = ap (λ (ks : List ℕ). if f u.number then u.number ∷ ks else ks) (units_marked f us)

pub all_reaching : (ps : List Phrase) (blocks : List ℕ) → numbers_marked (units_of ps) (marks.reaching (units_of ps) blocks) ≡ reaching ps blocks
unfolding units_of reaching
all_reaching ps blocks =
    ap (numbers_marked (units_of ps)) (marked ps blocks)
    ∙ units_marked (reaches_any ps blocks) (units_of ps)
    ∙ ap (filter (reaches_any ps blocks)) (numbered (unit_numbers ps) (calls_of ps) ps)

reached_with : ℕ → List ℕ → marks.Reached
reached_with n ks = record { unit = n; processes = ks }

some_rows : (ps : List Phrase) (us : List marks.Unit) → map (marks.row (units_of ps)) us ≡ map (reached ps) (numbers us)
unfolding reached_with
some_rows ps [] = refl
some_rows ps (u ∷ us) =
    let one : marks.row (units_of ps) u ≡ reached ps u.number = ap (reached_with u.number) (processes ps u.number) in
    search (rules, one, some_rows ps us)

pub all_rows : (ps : List Phrase) → rows (units_of ps) ≡ reached_of ps
unfolding units_of rows reached_of
all_rows ps = some_rows ps (units_of ps) ∙ ap (map (reached ps)) (numbered (unit_numbers ps) (calls_of ps) ps)

some_counts : (ps : List Phrase) (us : List marks.Unit) → map (marks.count_of (units_of ps)) us ≡ map (caller_count ps) (numbers us)
some_counts ps [] = refl
some_counts ps (u ∷ us) = ap₂ (λ (n : ℕ) (ns : List ℕ). n ∷ ns) (ap (λ (ks : List ℕ). length ks) (all_reaching ps (u.number ∷ []))) (some_counts ps us)

pub all_counts : (ps : List Phrase) → marks.counts (units_of ps) ≡ callers_of ps
unfolding units_of counts callers_of
all_counts ps = some_counts ps (units_of ps) ∙ ap (map (caller_count ps)) (numbered (unit_numbers ps) (calls_of ps) ps)
