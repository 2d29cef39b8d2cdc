-- What statements come to.
use Rattle.std.specs.Prelude.{ℕ, zero, suc, nat_lt, Bool, true, false, not, List, [], ◌∷◌, length, take, ℤ, pos, ◌+ℤ◌, bytes_eq, Option, Some, None, slice_get, slice_set, Ok, Err, if◌then◌else◌}
use Rattle.std.specs.List.{list_any}
use Rattle.hal_base.specs.declared.limits.TheConstants.{LINE_LIMIT}
use Rattle.hal_grammar.specs.Leaves.{Naming}
use Rattle.hal_grammar.specs.Expressions.{Expression, Expressions, NoExpressions, MoreExpressions, Reference, Refers, Subscript, ByName, ByInteger, ByParts, Subscripts, NoSubscripts, MoreSubscripts}
use Rattle.hal_grammar.specs.Statements.{Guard, While, Until, Span, Stepped, Listed, Selector, EveryError, GroupErrors, OneError, Response, System, Ignore, Statement, Labelled, Basic, Null, Assignment, If, Do, DoCase, DoLoop, DoFor, Exit, Repeat, Return, Call, Read, Write, Update, Scheduled, Cancel, Terminate, Wait, WaitUntil, WaitForDependent, WaitFor, Event, UpdatePriority, OnErrorStatement, OnErrorResponse, OffError, SendError, Alternative, NoAlternative, Otherwise, Group, Groups, Statements, NoStatements, MoreStatements}
use Rattle.hal_operations.specs.declared.operation.Op2.{Op2}
use Rattle.hal_operations.specs.declared.operation.Op2.TheVariants as op2
use Rattle.hal_operations.specs.declared.part.Part.{Part}
use Rattle.hal_operations.specs.declared.part.Part.TheVariants as part
use Rattle.hal_operations.specs.Mended.{mended_of_two}
use Rattle.hal_operations.specs.Parts.{patched, mended_patch, place_count}
use Rattle.hal_constants.specs.Constants.{is_none}
use Rattle.hal_values.specs.declared.environment.Act.{Act}
use Rattle.hal_values.specs.declared.environment.Act.TheVariants as act
use Rattle.hal_values.specs.declared.environment.Entry.{Entry}
use Rattle.hal_values.specs.declared.environment.Selector as selectors
use Rattle.hal_values.specs.declared.environment.Selector.TheVariants as selector
use Rattle.hal_values.specs.declared.environment.Side.{Side}
use Rattle.hal_values.specs.declared.plan.Pause.TheVariants as pause
use Rattle.hal_values.specs.declared.request.Request.TheVariants as request
use Rattle.hal_values.specs.declared.value.Kind.{Kind}
use Rattle.hal_values.specs.declared.value.Kind.TheVariants as kind
use Rattle.hal_values.specs.declared.value.Value.{Value}
use Rattle.hal_values.specs.declared.value.Value.TheVariants as value
use Rattle.hal_values.specs.Answers.{Answered, error}
use Rattle.hal_values.specs.Answers as answered
use Rattle.hal_values.specs.Searching.{with_entry, without}
use Rattle.hal_states.specs.Spots.{Spot, Held, Holds, Refers, held_in}
use Rattle.hal_states.specs.Modes.{closed, opened}
use Rattle.hal_states.specs.Lines.{line_of}
use Rattle.hal_states.specs.Numbers.{integer_of, holds, is_past}
use Rattle.hal_meaning.specs.Elements.{chosen}
use Rattle.hal_meaning.specs.LockGroups.{groups_of}
use Rattle.hal_meaning.specs.Marks.{after_statement, after_alternative}
use Rattle.hal_meaning.specs.ReportNames.{first_place}
use Rattle.hal_meaning.specs.Sets.{body_at}
use Rattle.hal_meaning.specs.States.{State, with_entries, with_mode, with_places, Evaluated, Gives, Asks, Caught, Restarts, Lost, bind, Flow, Normal, Leaves, Repeats, Returned}
use Rattle.hal_meaning.specs.Access.{Here, within, updating, ask, request_made, raise, turn, read, store}
use Rattle.hal_meaning.specs.Variables.{Meant, MeantData, MeantBlock, name_meant, spot_named, kind_of_first, is_arrayed}
use Rattle.hal_meaning.specs.Calls.{call, returned_by}
use Rattle.hal_meaning.specs.Expressions.{expression, values, passed, inputs_at, chosen_data, Located, part_chosen, named_value, sizes_named}
use Rattle.hal_meaning.specs.RealTime.{time, stated_at_mark, scheduled, named_or_own, priority_changed, eventful, side_of}
use Rattle.hal_meaning.specs.Tasks.{Looping, Meaning, Tested, Stepping, Listing, Resuming}

-- after something is done, control goes on
abbrev pub goes_on : Evaluated (Unit {0}) → Evaluated Flow
goes_on done = bind done (λ nothing after. Gives Normal after)

-- a component of a variable of this kind is replaced: the part of the old value, which is stored whole then
abbrev pub replaced : Here → Kind → Spot → Value → Value → Part → State → Evaluated (Unit {0})
replaced h k at old new p st =
    elim (patched old p new) [
      | Ok v ↦ store h k at v st
      | Err e ↦ bind (raise h e st) (λ ignored after. store h k at (mended_patch old p new) after)
    ]

-- the subscripts of a component that a receiver has
abbrev pub components_in : Bool → Subscript → Subscripts
components_in true (ByParts place copies arrays components) = if is_none arrays then NoSubscripts else components
components_in false (ByParts place copies arrays components) = components
components_in arrayed other = NoSubscripts

-- a receiver with the subscripts of its component: it is read before they are evaluated, and then written whole
abbrev pub component_received : Meaning → Here → Located → Subscripts → Value → State → Evaluated (Unit {0})
component_received rec h l NoSubscripts v st = store h l.kind l.at v st
component_received rec h l (MoreSubscripts first others) v st =
    bind (read h l.kind l.at st) (λ old after. bind (part_chosen rec h (place_count old) first after) (λ p later. replaced h l.kind l.at old v p later))

-- a receiver without a mark in its subscript: of an array its place was evaluated, else it is a component's
abbrev pub received_by : Meaning → Here → Located → Bool → Subscript → Value → State → Evaluated (Unit {0})
received_by rec h l false (ByName place name) v st =
    bind (read h l.kind l.at st) (λ old after. bind (named_value rec h name after) (λ i later. replaced h l.kind l.at old v (part.One (integer_of i)) later))
received_by rec h l false (ByInteger place mark number) v st = bind (read h l.kind l.at st) (λ old after. replaced h l.kind l.at old v (part.One (pos number)) after)
received_by rec h l arrayed subscript v st = component_received rec h l (components_in arrayed subscript) v st

-- whether a name with a path is an array
abbrev pub is_array_named : List Naming → Meant → Bool
is_array_named path (MeantData at shape) = is_arrayed (sizes_named path shape)
is_array_named path other = false

-- a receiver gets a value: its subscripts are evaluated, the value is converted, and stored
abbrev pub received : Meaning → Here → Value → Reference → State → Evaluated (Unit {0})
received rec h v (Refers place name path subscript) st =
    bind (chosen_data rec h (Refers place name path subscript) st) (λ l after. received_by rec h l (is_array_named path (name_meant h name st.kept.places)) subscript v after)

-- receivers get a value, from left to right
abbrev pub all_received : Meaning → Here → Value → List Reference → State → Evaluated (Unit {0})
all_received rec h v [] st = Gives tt st
all_received rec h v (receiver ∷ receivers) st = bind (received rec h v receiver st) (λ done after. all_received rec h v receivers after)

-- the kind of what a name means
abbrev pub kind_meant : List Naming → Meant → Kind
kind_meant path (MeantData at shape) = kind_of_first (chosen path shape.components)
kind_meant path other = kind.Double

abbrev pub kind_named : Here → Reference → List Held → Kind
kind_named h (Refers place name path subscript) places = kind_meant path (name_meant h name places)

-- what an answer to Input comes to: a datum, or after an ignored error none
abbrev pub datum_of : Here → Answered → State → Evaluated (Option Value)
datum_of h (answered.Told v) st = Gives (Some v) st
datum_of h (answered.Wrong e) st = bind (raise h e st) (λ ignored after. Gives None after)
datum_of h other st = Gives None st

-- a receiver of READ; it is skipped where there is no datum
abbrev pub datum_received : Meaning → Here → Reference → Option Value → State → Evaluated (Unit {0})
datum_received rec h receiver None st = Gives tt st
datum_received rec h receiver (Some v) st = received rec h v receiver st

-- READ: for each receiver the next datum, then its subscripts, and then the store
abbrev pub all_read : Meaning → Here → ℕ → List Reference → State → Evaluated (Unit {0})
all_read rec h channel [] st = Gives tt st
all_read rec h channel (receiver ∷ receivers) st =
    bind (ask (request.Input channel (kind_named h receiver st.kept.places)) st)
    (λ answer st1. bind (datum_of h answer st1) (λ datum st2. bind (datum_received rec h receiver datum st2) (λ done st3. all_read rec h channel receivers st3)))

-- a line has at most 1,000 bytes
abbrev pub line_fitting : Here → List ℕ → State → Evaluated (List ℕ)
line_fitting h line st = if nat_lt LINE_LIMIT (length line) then bind (raise h (error 3 3) st) (λ ignored after. Gives (take LINE_LIMIT line) after) else Gives line st

-- the number that a channel is
abbrev pub channel_of : Value → ℕ
channel_of (value.Int (pos n)) = n
channel_of v = 0

-- WRITE: its items are evaluated, and then their line is printed
abbrev pub written : Meaning → Here → Expression → Expressions → State → Evaluated (Unit {0})
written rec h channel items st =
    bind (expression rec h channel st)
    (λ c st1. bind (values rec h items st1) (λ vs st2. bind (line_fitting h (line_of vs) st2) (λ line st3. request_made (request.Print (channel_of c) line) st3)))

-- the spots of ASSIGN arguments, from left to right
abbrev pub spots : Meaning → Here → List Reference → State → Evaluated (List Spot)
spots rec h [] st = Gives [] st
spots rec h (receiver ∷ receivers) st = bind (chosen_data rec h receiver st) (λ l after. bind (spots rec h receivers after) (λ more later. Gives (l.at ∷ more) later))

abbrev pub called : Meaning → Here → Meant → Expressions → List Reference → State → Evaluated (Unit {0})
called rec h (MeantBlock unit) arguments receivers st =
    bind (passed rec h unit (inputs_at h.set unit) arguments st)
    (λ ps st1. bind (spots rec h receivers st1) (λ at st2. bind (call rec h unit ps at st2) (λ result st3. Gives tt st3)))
called rec h other arguments receivers st = Gives tt st

-- what ON ERROR and OFF ERROR select
abbrev pub selector_of : Selector → selectors.Selector
selector_of EveryError = selector.All
selector_of (GroupErrors place group_at group) = selector.Group group
selector_of (OneError place group_at group number_at number) = selector.One (error group number)

abbrev pub act_of : Response → Side → Act
act_of System s = act.System s
act_of Ignore s = act.Ignore s

abbrev pub entry : selectors.Selector → Act → Entry
entry s a = record { selector = s; act = a }

-- an entry of the block
abbrev pub entry_set : selectors.Selector → Act → State → Evaluated Flow
entry_set s a st = Gives Normal (with_entries (with_entry (entry s a) st.entries) st)

-- whether a label is one of a group's
abbrev pub is_label : List Naming → List ℕ → Bool
is_label labels name = list_any (λ (l : Naming). bytes_eq l.name name) labels

-- whether EXIT or REPEAT with this label or without one is meant for a group with these labels
abbrev pub is_meant : List Naming → Option (List ℕ) → Bool
is_meant labels None = true
is_meant labels (Some name) = is_label labels name

-- a group that is no loop ends
abbrev pub group_left : List Naming → Flow → Flow
group_left labels (Leaves label) = if is_meant labels label then Normal else Leaves label
group_left labels flow = flow

-- how a loop goes on after a turn: with the next turn, or it ends so
pub data After : Type 0 where
  NextTurn : After
  Ended : (flow : Flow) → After

abbrev pub after_turn : List Naming → Flow → After
after_turn labels Normal = NextTurn
after_turn labels (Repeats label) = if is_meant labels label then NextTurn else Ended (Repeats label)
after_turn labels (Leaves label) = Ended (if is_meant labels label then Normal else Leaves label)
after_turn labels (Returned v) = Ended (Returned v)

abbrev pub goes_round : (State → Evaluated Flow) → After → State → Evaluated Flow
goes_round next NextTurn st = next st
goes_round next (Ended flow) st = Gives flow st

-- a turn that began: the statements, and what follows
abbrev pub turn_made : List Naming → (State → Evaluated Flow) → (State → Evaluated Flow) → Bool → State → Evaluated Flow
turn_made labels body next false st = Gives Normal st
turn_made labels body next true st = bind (body st) (λ flow after. goes_round next (after_turn labels flow) after)

-- a turn, where the loop's condition lets it begin
abbrev pub turn_if : Here → List Naming → (State → Evaluated Flow) → (State → Evaluated Flow) → Bool → State → Evaluated Flow
turn_if h labels body next false st = Gives Normal st
turn_if h labels body next true st = bind (turn h st) (λ made after. turn_made labels body next made after)

-- whether WHILE or UNTIL lets a turn begin
abbrev pub guard_holds : Meaning → Here → Guard → State → Evaluated Bool
guard_holds rec h (While place condition) st = bind (expression rec h condition st) (λ v after. Gives (holds v) after)
guard_holds rec h (Until place condition) st = bind (expression rec h condition st) (λ v after. Gives (not (holds v)) after)

-- UNTIL isn't tested before the first turn
abbrev pub first_holds : Meaning → Here → Guard → State → Evaluated Bool
first_holds rec h (While place condition) st = bind (expression rec h condition st) (λ v after. Gives (holds v) after)
first_holds rec h (Until place condition) st = Gives true st

-- the same of a guard that may be there, before the first turn or a later one
abbrev pub span_holds : Meaning → Here → Bool → Option Guard → State → Evaluated Bool
span_holds rec h first None st = Gives true st
span_holds rec h true (Some g) st = first_holds rec h g st
span_holds rec h false (Some g) st = guard_holds rec h g st

-- where the own places of a DO FOR or a DO CASE group begin, of which there are four; a TEMPORARY stands before them
abbrev pub loop_place : Here → ℕ → ℕ
loop_place h m = elim (slice_get h.marks m) [ None ↦ 0 | Some k ↦ first_place h.places k ]

abbrev pub kept_at : ℕ → Value → State → State
kept_at n v st = with_places (slice_set st.kept.places n (Holds v)) st

abbrev pub held_at : ℕ → State → Value
held_at n st = held_in (slice_get st.kept.places n)

-- whether a comparison of two values holds
abbrev pub compares : Op2 → Value → Value → Bool
compares op v w = holds (mended_of_two op v w)

abbrev pub is_number : Value → ℕ → Bool
is_number v k = compares op2.Equal v (value.Int (pos k))

-- a DO FOR group's variable
abbrev pub variable_stored : Here → List ℕ → Value → State → Evaluated (Unit {0})
variable_stored h name v st = store h (kind_meant [] (name_meant h name st.kept.places)) (spot_named h name st.kept.places) v st

abbrev pub variable_read : Here → List ℕ → State → Evaluated Value
variable_read h name st = read h (kind_meant [] (name_meant h name st.kept.places)) (spot_named h name st.kept.places) st

-- where names are looked up in a group with this mark: a TEMPORARY is known there alone
abbrev pub group_here : Here → Bool → ℕ → Here
group_here h false m = h
group_here h true m = elim (slice_get h.marks m) [ None ↦ h | Some k ↦ within k h ]

-- the first place of a DO FOR group that is no TEMPORARY
abbrev pub end_place : Here → Bool → ℕ → ℕ
end_place h false m = loop_place h m
end_place h true m = suc (loop_place h m)

abbrev pub update_left : List Entry → Evaluated Flow → Evaluated Flow
update_left entries (Gives flow after) = Gives flow (with_entries entries (with_mode (closed after.mode) after))
update_left entries (Asks request keeps in_mode) = Asks request keeps in_mode
update_left entries (Caught zero place after) = Gives Normal (with_entries entries (with_mode (closed after.mode) after))
update_left entries (Caught (suc level) place after) = Caught level place (with_entries entries (with_mode (closed after.mode) after))
update_left entries (Restarts keeps left) = Restarts keeps left
update_left entries Lost = Lost

-- a statement of ON ERROR in this block is entered, which is a turn; all else is the end of the block
abbrev pub resumed : Meaning → Here → ℕ → Bool → State → Evaluated Flow
resumed rec h place false st = Gives Normal st
resumed rec h place true st = rec (Resuming h place) st

abbrev pub settled : Meaning → Here → Evaluated Flow → Evaluated Flow
settled rec h (Gives flow after) = Gives flow after
settled rec h (Asks request keeps in_mode) = Asks request keeps in_mode
settled rec h (Caught zero place after) = bind (turn h after) (λ made begins. resumed rec h place made begins)
settled rec h (Caught (suc level) place after) = Caught (suc level) place after
settled rec h (Restarts keeps left) = Restarts keeps left
settled rec h Lost = Lost

-- the groups of the UPDATE block with this mark
abbrev pub update_groups : Here → ℕ → ℕ
update_groups h m = elim (slice_get h.marks m) [ None ↦ 0 | Some u ↦ groups_of h.set.phrases h.set.constants u ]

abbrev pub entered_update : Here → ℕ → Answered → State → State
entered_update h m answer st = with_entries [] (with_mode (opened h.set.turns (update_groups h m) answer) st)

-- the value that RETURN gives, as the unit's type has it
abbrev pub returned_in : Here → Value → Value
returned_in h v = elim (body_at h.set h.unit) [ None ↦ v | Some b ↦ returned_by b.head v ]

abbrev pub returned : Meaning → Here → Option Expression → State → Evaluated Flow
returned rec h None st = Gives (Returned None) st
returned rec h (Some tree) st = bind (expression rec h tree st) (λ v after. Gives (Returned (Some (returned_in h v))) after)

abbrev pub label_name : Option Naming → Option (List ℕ)
label_name None = None
label_name (Some l) = Some l.name

-- the step of a DO FOR group with TO
abbrev pub step_of : Meaning → Here → Option Expression → State → Evaluated Value
step_of rec h None st = Gives (value.Int (pos 1)) st
step_of rec h (Some tree) st = expression rec h tree st

-- its end is kept in its first place, its step in the second one, and in the third one the value that its variable gets
abbrev pub bounds_kept : ℕ → Value → Value → Value → State → State
bounds_kept n from to by st = kept_at (suc (suc n)) from (kept_at n to (kept_at (suc n) by st))

abbrev pub variable_kept : Here → List ℕ → ℕ → State → Evaluated (Unit {0})
variable_kept h name n st = variable_stored h name (held_at (suc (suc n)) st) st

-- whether a value is past the end, by the sign of the step
abbrev pub has_passed : Value → Value → Value → Bool
has_passed by to v = if compares op2.Less by (value.Int (pos 0)) then compares op2.Less v to else compares op2.Less to v

abbrev pub is_over : ℕ → State → Bool
is_over n st = has_passed (held_at (suc n) st) (held_at n st) (held_at (suc (suc n)) st)

-- where the group begins: its bounds are kept, its start is stored, and a turn begins unless the start is past the end
abbrev pub begun_stepping : Meaning → Here → List ℕ → ℕ → Expression → Expression → Option Expression → State → Evaluated Bool
begun_stepping rec h name n first last step st =
    bind (expression rec h first st)
    (λ from st1. bind (expression rec h last st1)
    (λ to st2. bind (step_of rec h step st2)
    (λ by st3. bind (variable_kept h name n (bounds_kept n from to by st3))
    (λ done st4. Gives (not (is_over n st4)) st4))))

-- whether a turn begins: the bounds let it, and the guard does
abbrev pub span_begins : Meaning → Here → Bool → Option Guard → Bool → State → Evaluated Bool
span_begins rec h first g false st = Gives false st
span_begins rec h first g true st = span_holds rec h first g st

-- the next value of a DO FOR group with TO is kept, and in the last place whether it isn't past the end
abbrev pub next_kept : ℕ → Bool → ℤ → ℤ → State → State
next_kept n true before next st = kept_at (suc (suc n)) (value.Int before) (kept_at (suc (suc (suc n))) (value.Int (pos 0)) st)
next_kept n false before next st = kept_at (suc (suc n)) (value.Int next) (kept_at (suc (suc (suc n))) (value.Int (pos 1)) st)

abbrev pub counted : ℕ → ℤ → ℤ → ℤ → State → State
counted n before by to st = next_kept n (is_past by to (before +ℤ by)) before (before +ℤ by) st

-- it is stored, unless it is past the end
abbrev pub next_stored : Here → List ℕ → ℕ → Bool → State → Evaluated Bool
next_stored h name n false st = Gives false st
next_stored h name n true st = bind (variable_kept h name n st) (λ done after. Gives true after)

abbrev pub next_begun : Here → List ℕ → ℕ → State → Evaluated Bool
next_begun h name n st = next_stored h name n (is_number (held_at (suc (suc (suc n))) st) 1) st

abbrev pub next_stepping : Here → List ℕ → ℕ → State → Evaluated Bool
next_stepping h name n st =
    bind (variable_read h name st) (λ v after. next_begun h name n (counted n (integer_of v) (integer_of (held_at (suc n) after)) (integer_of (held_at n after)) after))

abbrev pub looping : List Naming → ℕ → Group → Looping
looping labels m group = record { labels = labels; mark = m; group = group }

-- a value of a list is stored, the group's first place keeps how many were, and the guard lets a turn begin
abbrev pub listed : Meaning → Here → List ℕ → ℕ → ℕ → Bool → Expression → Option Guard → State → Evaluated Bool
listed rec h name n k first tree g st =
    bind (expression rec h tree st) (λ v st1. bind (variable_stored h name v st1) (λ done st2. span_holds rec h first g (kept_at n (value.Int (pos k)) st2)))

-- the same of the value behind as many as this place says, among those that stand behind so many; behind the last one no turn begins
abbrev pub next_listed : Meaning → Here → List ℕ → ℕ → ℕ → Expressions → Option Guard → State → Evaluated Bool
next_listed rec h name n k NoExpressions g st = Gives false st
next_listed rec h name n k (MoreExpressions tree others) g st =
    if is_number (held_at n st) k then listed rec h name n (suc k) false tree g st else next_listed rec h name n (suc k) others g st

-- WAIT FOR an event expression
abbrev pub waited : List ℕ → State → Evaluated (Unit {0})
waited [] st = Gives tt st
waited (x ∷ xs) st = request_made (request.Wait (pause.Event x)) st

-- what stands behind a statement is done where control goes on there
abbrev pub goes_behind : Flow → (State → Evaluated Flow) → State → Evaluated Flow
goes_behind Normal next st = next st
goes_behind (Leaves label) next st = Gives (Leaves label) st
goes_behind (Repeats label) next st = Gives (Repeats label) st
goes_behind (Returned v) next st = Gives (Returned v) st

-- one of two ways on
abbrev pub one_of : Bool → (State → Evaluated Flow) → (State → Evaluated Flow) → State → Evaluated Flow
one_of true held failed st = held st
one_of false held failed st = failed st

-- a DO FOR group with these statements and this first place; names are looked up within it
abbrev pub spanned : Meaning → Here → ℕ → Looping → List ℕ → Span → Option Guard → (State → Evaluated Flow) → State → Evaluated Flow
spanned rec h n loop name (Stepped first last step) g body st =
    bind (begun_stepping rec h name n first last step st)
    (λ begins st1. bind (span_begins rec h true g begins st1) (λ held st2. turn_if h loop.labels body (rec (Stepping h n loop name g)) held st2))
spanned rec h n loop name (Listed NoExpressions) g body st = Gives Normal st
spanned rec h n loop name (Listed (MoreExpressions first others)) g body st =
    bind (listed rec h name n 1 true first g st) (λ held st1. turn_if h loop.labels body (rec (Listing h n loop name g others)) held st1)

abbrev mutual
  pub statement : Meaning → Here → ℕ → Statement → State → Evaluated Flow
  statement rec h m (Labelled labels basic) st = basic_statement rec h m labels basic st

  -- a statement with these labels, before which the next mark has this number
  pub basic_statement : Meaning → Here → ℕ → List Naming → Basic → State → Evaluated Flow
  basic_statement rec h m labels (Null place) st = Gives Normal st
  basic_statement rec h m labels (Assignment place receivers tree) st = bind (expression rec h tree st) (λ v after. goes_on (all_received rec h v receivers after))
  basic_statement rec h m labels (If place condition consequence alternative) st =
      bind (expression rec h condition st)
      (λ v after. one_of (holds v) (λ begun. statement rec h m consequence begun) (λ begun. otherwise rec h (after_statement m consequence) alternative begun) after)
  basic_statement rec h m labels (Do place group) st = bind (grouped rec h (suc m) group st) (λ flow after. Gives (group_left labels flow) after)
  basic_statement rec h m labels (DoCase place selects alternative group) st =
      bind (expression rec h selects st)
      (λ v after. bind (case_of rec h (after_alternative (suc m) alternative) (loop_place h m) (λ before. without_case rec h (suc m) alternative before) group (kept_at (loop_place h m) v after))
      (λ flow later. Gives (group_left labels flow) later))
  basic_statement rec h m labels (DoLoop place g group) st =
      bind (first_holds rec h g st)
      (λ held after. turn_if h labels (λ begun. grouped rec h (suc m) group begun) (rec (Tested h (looping labels m group) g)) held after)
  basic_statement rec h m labels (DoFor place temporary variable span g group) st =
      spanned rec (group_here h temporary m) (end_place h temporary m) (looping labels m group) variable.name span g (λ begun. grouped rec (group_here h temporary m) (suc m) group begun) st
  basic_statement rec h m labels (Exit place label) st = Gives (Leaves (label_name label)) st
  basic_statement rec h m labels (Repeat place label) st = Gives (Repeats (label_name label)) st
  basic_statement rec h m labels (Return place tree) st = returned rec h tree st
  basic_statement rec h m labels (Call place name arguments receivers) st = goes_on (called rec h (name_meant h name.name st.kept.places) arguments receivers st)
  basic_statement rec h m labels (Read place channel receivers) st =
      bind (expression rec h channel st) (λ c after. goes_on (all_read rec h (channel_of c) receivers after))
  basic_statement rec h m labels (Write place channel items) st = goes_on (written rec h channel items st)
  basic_statement rec h m labels (Update place body close) st =
      bind (ask (request.Update (update_groups h m)) st)
      (λ answer after. update_left after.entries (settled rec (updating body (suc m) after.entries h) (statements rec (updating body (suc m) after.entries h) (suc m) body (entered_update h m answer after))))
  basic_statement rec h m labels (Scheduled place s) st = goes_on (scheduled rec h m s st)
  basic_statement rec h m labels (Cancel place names) st = goes_on (named_or_own h request.Cancel names st)
  basic_statement rec h m labels (Terminate place names) st = goes_on (named_or_own h request.Terminate names st)
  basic_statement rec h m labels (Wait place tree) st = bind (time rec h tree st) (λ t after. goes_on (request_made (request.Wait (pause.For t)) after))
  basic_statement rec h m labels (WaitUntil place tree) st = bind (time rec h tree st) (λ t after. goes_on (request_made (request.Wait (pause.Till t)) after))
  basic_statement rec h m labels (WaitForDependent place) st = goes_on (request_made (request.Wait pause.Dependents) st)
  basic_statement rec h m labels (WaitFor place tree) st = goes_on (waited (stated_at_mark h m) st)
  basic_statement rec h m labels (Event e) st = goes_on (eventful h e st)
  basic_statement rec h m labels (UpdatePriority place name tree) st = goes_on (priority_changed rec h name tree st)
  basic_statement rec h m labels (OnErrorStatement place s handler) st = entry_set (selector_of s) (act.Statement m) st
  basic_statement rec h m labels (OnErrorResponse place s response e) st = entry_set (selector_of s) (act_of response (side_of h e)) st
  basic_statement rec h m labels (OffError place s) st = Gives Normal (with_entries (without (selector_of s) st.entries) st)
  basic_statement rec h m labels (SendError place group_at group number_at number) st = goes_on (raise h (error group number) st)

  -- what stands after ELSE
  pub otherwise : Meaning → Here → ℕ → Alternative → State → Evaluated Flow
  otherwise rec h m NoAlternative st = Gives Normal st
  otherwise rec h m (Otherwise one) st = statement rec h m one st

  -- what DO CASE does where its number selects no statement
  pub without_case : Meaning → Here → ℕ → Alternative → State → Evaluated Flow
  without_case rec h m NoAlternative st = bind (raise h (error 1 6) st) (λ ignored after. Gives Normal after)
  without_case rec h m (Otherwise one) st = statement rec h m one st

  -- the statement of a DO CASE group that the number selects which this place keeps
  pub case_of : Meaning → Here → ℕ → ℕ → (State → Evaluated Flow) → Group → State → Evaluated Flow
  case_of rec h m n none (Groups list close) st = selected rec h m 1 (held_at n st) none list st

  -- among statements of which the first one has this number
  pub selected : Meaning → Here → ℕ → ℕ → Value → (State → Evaluated Flow) → Statements → State → Evaluated Flow
  selected rec h m k v none NoStatements st = none st
  selected rec h m k v none (MoreStatements first others) st =
      if is_number v k then statement rec h m first st else selected rec h (after_statement m first) (suc k) v none others st

  -- the statements of a group
  pub grouped : Meaning → Here → ℕ → Group → State → Evaluated Flow
  grouped rec h m (Groups list close) st = statements rec h m list st

  -- statements one after another
  pub statements : Meaning → Here → ℕ → Statements → State → Evaluated Flow
  statements rec h m NoStatements st = Gives Normal st
  statements rec h m (MoreStatements first others) st =
      bind (statement rec h m first st) (λ flow after. goes_behind flow (λ begun. statements rec h (after_statement m first) others begun) after)
