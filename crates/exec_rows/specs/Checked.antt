-- A scripted load that checks is what a load is said to be.
use Rattle.std.proofs.Common.{◌≡◌, ℕ, zero, suc, ◌+◌, ◌-◌, ◌≤◌, ◌==◌, nat_le, nat_lt, Bool, true, false, ◌&&◌, List, [], ◌∷◌, ◌++◌, length, All, Option, Some, None, IsSome, slice_get, slice_index_or, ℤ, pos, negsuc, ◌≤ℤ◌, refl, sym, ap, subst, ◌∙◌, unwrap_or, is_some, ◌^◌, eqb-true, leb-true, ltb-true, eq-eqb, true≢false}
use Rattle.std.specs.Int.Signed.{le_z, le_z_yes}
use Rattle.std.specs.Cmp.Derive.{both_true}
use Rattle.std.specs.List.{list_all}
use Rattle.std.proofs.lemmas.Bool.{and_parts}
use Rattle.std.proofs.lemmas.Float.{T_from_true}
use Rattle.std.proofs.lemmas.List.Elements.{All-nil, All-cons}
use Rattle.hal_values.specs.declared.plan.Cycle.{Cycle}
use Rattle.hal_values.specs.declared.plan.Cycle.TheVariants as cycle
use Rattle.hal_values.specs.declared.plan.Guard.{Guard}
use Rattle.hal_values.specs.declared.plan.Guard.TheVariants as guard
use Rattle.hal_values.specs.declared.plan.Pause.{Pause}
use Rattle.hal_values.specs.declared.plan.Pause.TheVariants as pause
use Rattle.hal_values.specs.declared.plan.Plan.{Plan}
use Rattle.hal_values.specs.declared.plan.When.{When}
use Rattle.hal_values.specs.declared.plan.When.TheVariants as when
use Rattle.hal_values.specs.declared.request.Request.{Request}
use Rattle.hal_values.specs.declared.request.Request.TheVariants as request
use Rattle.hal_values.specs.declared.request.Spot.{Spot}
use Rattle.hal_values.specs.declared.request.Spot.TheVariants as spot
use Rattle.hal_values.specs.declared.tables.Cell.{Cell}
use Rattle.hal_values.specs.declared.tables.Item.{Item}
use Rattle.hal_values.specs.declared.tables.Item.TheVariants as item
use Rattle.hal_values.specs.declared.tables.Tables.{Tables}
use Rattle.hal_values.specs.declared.value.Kind.{Kind}
use Rattle.hal_values.specs.declared.value.Kind.TheVariants as kind
use Rattle.hal_values.specs.declared.value.Value.{Value}
use Rattle.hal_values.specs.declared.value.Value.TheVariants as value
use Rattle.hal_values.specs.Answers.{Answered, Done, Killed}
use Rattle.hal_values.specs.Kinds.{IsKind, IsOfKind}
use Rattle.hal_values.specs.Loads.{IsWritten, IsUpdate, IsLoad, turn_limit}
use Rattle.hal_values.specs.Requests.{IsTime, IsForCell, HasSpot, IsWhenInOrder, IsCycleInOrder, IsGuardInOrder, IsPlanInOrder, IsPauseInOrder, IsInOrder}
use Rattle.hal_values.specs.Smallest.{smallest_is_load}
use Rattle.hal_values.specs.Tables.{process_count, event_count, IsPostfix, IsCell, IsTables}
use Rattle.exec_rows.specs.declared.scripted.Ask.{Ask}
use Rattle.exec_rows.specs.declared.scripted.Ask.TheVariants.{Plain, Update}
use Rattle.exec_rows.specs.declared.scripted.Scripted.{Scripted}
use Rattle.exec_rows.specs.Checks.{is_between, is_kind, is_of_kind, is_cell, is_postfix, are_tables, is_time, has_process, is_for_cell, has_spot, is_when, is_cycle, is_guard, is_plan, is_pause, is_plain, is_written, is_ask, are_cycles, checks, meaning_if, scripted}
use Rattle.exec_rows.specs.Scripting.{Point, Before, Within, first_cycle, later_cycles, cycles_left, following, point_then, point_after, ask_request, asked_at, writes_if, ask_block, block_at, point_of, as_scripted}

-- nothing follows of false
false_is : {A : Type 0} → false ≡ true → A
false_is e = absurd (true≢false (sym e))

-- a comparison that comes out true holds
le_z-le : (a b : ℤ) → le_z a b ≡ true → a ≤ℤ b
le_z-le a b e = le_z_yes (T_from_true (le_z a b) e)

-- a number that is found between two others lies there
is_between-between : (low n high : ℤ) → is_between low n high ≡ true → (low ≤ℤ n) × (n ≤ℤ high)
is_between-between low n high e = let parts = and_parts (le_z low n) _ e in (le_z-le low n parts.0, le_z-le n high parts.1)

-- a kind that passes is one
is_kind-kind : (k : Kind) → is_kind k ≡ true → IsKind k
is_kind-kind kind.Single e = tt
is_kind-kind kind.Double e = tt
is_kind-kind (kind.Bits n) e = let parts = and_parts (nat_le 1 n) _ e in (leb-true 1 n parts.0, leb-true n 32 parts.1)
is_kind-kind (kind.Text n) e = let parts = and_parts (nat_le 1 n) _ e in (leb-true 1 n parts.0, leb-true n 255 parts.1)

-- a value that passes is of the kind
is_of_kind-of : (k : Kind) (v : Value) → is_of_kind k v ≡ true → IsOfKind k v
is_of_kind-of kind.Single (value.Int n) e = is_between-between (negsuc 32767) n (pos 32767) e
is_of_kind-of kind.Double (value.Int n) e = is_between-between (negsuc 2147483647) n (pos 2147483647) e
is_of_kind-of (kind.Bits n) (value.Bits len word) e = let parts = and_parts (len == n) _ e in (eqb-true len n parts.0, ltb-true word (2 ^ n) parts.1)
is_of_kind-of (kind.Text n) (value.Text bytes) e = leb-true (length bytes) n e
is_of_kind-of k v e = false_is e

-- a cell that passes is one
is_cell-cell : (cell : Cell) → is_cell cell ≡ true → IsCell cell
is_cell-cell cell e = let parts = and_parts (is_kind cell.kind) _ e in (is_kind-kind cell.kind parts.0, is_of_kind-of cell.kind cell.initial parts.1)

-- items that pass are well formed
is_postfix-postfix : (events operands : ℕ) (items : List Item) → is_postfix events operands items ≡ true → IsPostfix events operands items
is_postfix-postfix events operands [] e = eqb-true operands 1 e
is_postfix-postfix events operands (item.Event x ∷ items) e = let parts = and_parts (nat_lt x events) _ e in (ltb-true x events parts.0, is_postfix-postfix events (operands + 1) items parts.1)
is_postfix-postfix events operands (item.Not ∷ items) e = let parts = and_parts (nat_le 1 operands) _ e in (leb-true 1 operands parts.0, is_postfix-postfix events operands items parts.1)
is_postfix-postfix events operands (item.And ∷ items) e = let parts = and_parts (nat_le 2 operands) _ e in (leb-true 2 operands parts.0, is_postfix-postfix events (operands - 1) items parts.1)
is_postfix-postfix events operands (item.Or ∷ items) e = let parts = and_parts (nat_le 2 operands) _ e in (leb-true 2 operands parts.0, is_postfix-postfix events (operands - 1) items parts.1)

-- what a test tells of each item holds of each
all_from : {A : Type 0} (test : A → Bool) (P : A → Type 0) → ((x : A) → test x ≡ true → P x) → (xs : List A) → list_all test xs ≡ true → All P xs
all_from test P tells [] e = All-nil P
all_from test P tells (x ∷ xs) e = let parts = and_parts (test x) _ e in All-cons P x xs (tells x parts.0) (all_from test P tells xs parts.1)

-- tables that pass are right
are_tables-tables : (tables : Tables) → are_tables tables ≡ true → IsTables tables
are_tables-tables tables e =
    let a = and_parts (nat_le (length tables.cells) _ && (nat_le (process_count tables) _ && nat_le (length tables.events) _)) _ e in
    let b = and_parts (nat_le (length tables.cells) _) _ a.0 in
    let c = and_parts (nat_le (process_count tables) _) _ b.1 in
    let d = and_parts (list_all is_cell tables.cells) _ a.1 in
    let f = and_parts (list_all (is_postfix (event_count tables) 0) tables.expressions) _ d.1 in
    record {
      few_cells = leb-true (length tables.cells) _ b.0;
      few_processes = leb-true (process_count tables) _ c.0;
      few_events = leb-true (length tables.events) _ c.1;
      cells = all_from is_cell IsCell is_cell-cell tables.cells d.0;
      expressions = all_from (is_postfix (event_count tables) 0) (IsPostfix (event_count tables) 0) (is_postfix-postfix (event_count tables) 0) tables.expressions f.0;
      first = ltb-true tables.first (process_count tables) f.1;
    }

-- a time that passes is within its limit
is_time-time : (t : ℤ) → is_time t ≡ true → IsTime t
is_time-time t e = is_between-between (negsuc 2147483647999) t _ e

-- a value that passes is for the cell
is_for_cell-for : (cell : Option Cell) (v : Value) → is_for_cell cell v ≡ true → IsForCell cell v
is_for_cell-for None v e = true≢false (sym e)
is_for_cell-for (Some cell) v e = is_of_kind-of cell.kind v e

-- what is found to be read exists
has_spot-spot : (tables : Tables) (s : Spot) → has_spot tables s ≡ true → HasSpot tables s
has_spot-spot tables (spot.Cell cell) e = ltb-true cell (length tables.cells) e
has_spot-spot tables (spot.Event x) e = ltb-true x (event_count tables) e

-- a start that passes is in order
is_when-when : (tables : Tables) (w : When) → is_when tables w ≡ true → IsWhenInOrder tables w
is_when-when tables when.Now e = tt
is_when-when tables (when.At t) e = is_time-time t e
is_when-when tables (when.After t) e = is_time-time t e
is_when-when tables (when.On x) e = ltb-true x (length tables.expressions) e

-- a cycle that passes is in order
is_cycle-cycle : (c : Cycle) → is_cycle c ≡ true → IsCycleInOrder c
is_cycle-cycle cycle.Once e = tt
is_cycle-cycle cycle.Again e = tt
is_cycle-cycle (cycle.Every t) e = leb-true t _ e
is_cycle-cycle (cycle.After t) e = leb-true t _ e

-- a guard that passes is in order
is_guard-guard : (tables : Tables) (g : Guard) → is_guard tables g ≡ true → IsGuardInOrder tables g
is_guard-guard tables guard.Free e = tt
is_guard-guard tables (guard.While x) e = ltb-true x (length tables.expressions) e
is_guard-guard tables (guard.Until x) e = ltb-true x (length tables.expressions) e
is_guard-guard tables (guard.UntilTime t) e = is_time-time t e

-- a plan that passes is in order
is_plan-plan : (tables : Tables) (plan : Plan) → is_plan tables plan ≡ true → IsPlanInOrder tables plan
is_plan-plan tables plan e =
    let a = and_parts (has_process tables plan.process && is_when tables plan.when) _ e in
    let b = and_parts (has_process tables plan.process) _ a.0 in
    let c = and_parts (is_cycle plan.cycle) _ a.1 in
    record { process = ltb-true plan.process (process_count tables) b.0; starts = is_when-when tables plan.when b.1; cycle = is_cycle-cycle plan.cycle c.0; guard = is_guard-guard tables plan.guard c.1 }

-- a wait that passes is in order
is_pause-pause : (tables : Tables) (p : Pause) → is_pause tables p ≡ true → IsPauseInOrder tables p
is_pause-pause tables (pause.For t) e = is_time-time t e
is_pause-pause tables (pause.Till t) e = is_time-time t e
is_pause-pause tables (pause.Event x) e = ltb-true x (length tables.expressions) e
is_pause-pause tables pause.Dependents e = tt

-- a request that may stand in a body is in order
is_plain-in_order : (tables : Tables) (asked : Request) → is_plain tables asked ≡ true → IsInOrder tables asked
is_plain-in_order tables request.Begin e = tt
is_plain-in_order tables (request.Read s) e = has_spot-spot tables s e
is_plain-in_order tables (request.Write cell v) e = is_for_cell-for (slice_get tables.cells cell) v e
is_plain-in_order tables request.Pass e = tt
is_plain-in_order tables (request.Update groups) e = tt
is_plain-in_order tables (request.Schedule plan) e = is_plan-plan tables plan e
is_plain-in_order tables (request.Cancel p) e = ltb-true p (process_count tables) e
is_plain-in_order tables (request.Terminate p) e = ltb-true p (process_count tables) e
is_plain-in_order tables (request.Wait p) e = is_pause-pause tables p e
is_plain-in_order tables (request.Signal x) e = ltb-true x (event_count tables) e
is_plain-in_order tables (request.Set x) e = ltb-true x (event_count tables) e
is_plain-in_order tables (request.Reset x) e = ltb-true x (event_count tables) e
is_plain-in_order tables (request.Priority p priority) e = ltb-true p (process_count tables) e
is_plain-in_order tables (request.Print channel line) e = tt
is_plain-in_order tables (request.Input channel k) e = tt
is_plain-in_order tables request.Now e = tt
is_plain-in_order tables (request.Stop error) e = tt
is_plain-in_order tables request.Finish e = tt
is_plain-in_order tables (request.Look cell) e = true≢false (sym e)
is_plain-in_order tables (request.Close turns) e = true≢false (sym e)

-- what stands in bodies is in order from this point on
abbrev is_right : Tables → Point → Bool
is_right tables (Before cycles) = are_cycles tables cycles
is_right tables (Within asks cycles) = list_all (is_ask tables) asks && are_cycles tables cycles

-- the first of cycles in order is in order
first_cycle-right : (tables : Tables) (cycles : List (List Ask)) → are_cycles tables cycles ≡ true → list_all (is_ask tables) (first_cycle cycles) ≡ true
first_cycle-right tables [] e = refl
first_cycle-right tables (asks ∷ cycles) e = (and_parts (list_all (is_ask tables) asks) _ e).0

-- the cycles after the first are in order
later_cycles-right : (tables : Tables) (cycles : List (List Ask)) → are_cycles tables cycles ≡ true → are_cycles tables (later_cycles cycles) ≡ true
later_cycles-right tables [] e = refl
later_cycles-right tables (asks ∷ cycles) e = (and_parts (list_all (is_ask tables) asks) _ e).1

-- the cycles that are left are in order
cycles_left-right : (tables : Tables) (point : Point) → is_right tables point ≡ true → are_cycles tables (cycles_left point) ≡ true
cycles_left-right tables (Before cycles) e = later_cycles-right tables cycles e
cycles_left-right tables (Within asks cycles) e = (and_parts (list_all (is_ask tables) asks) _ e).1

-- where a process goes on all is in order
following-right : (tables : Tables) (point : Point) → is_right tables point ≡ true → is_right tables (following point) ≡ true
following-right tables (Before cycles) e = both_true (first_cycle-right tables cycles e) (later_cycles-right tables cycles e)
following-right tables (Within [] cycles) e = e
following-right tables (Within (ask ∷ asks) cycles) e =
    let parts = and_parts (is_ask tables ask && list_all (is_ask tables) asks) _ e in both_true (and_parts (is_ask tables ask) _ parts.0).1 parts.1

-- the same after any answer
point_then-right : (tables : Tables) (given : Answered) (point : Point) → is_right tables point ≡ true → is_right tables (point_then given point) ≡ true
point_then-right tables Killed point e = cycles_left-right tables point e
point_then-right tables given point e = following-right tables point e

-- the same after any answers
point_after-right : (tables : Tables) (answers : List Answered) (point : Point) → is_right tables point ≡ true → is_right tables (point_after answers point) ≡ true
point_after-right tables [] point e = e
point_after-right tables (given ∷ later) point e = point_after-right tables later (point_then given point) (point_then-right tables given point e)

-- the cycles of each process are in order
body-right : (tables : Tables) (bodies : List (List (List Ask))) (p : ℕ) → list_all (are_cycles tables) bodies ≡ true → are_cycles tables (slice_index_or bodies p []) ≡ true
body-right tables [] p e = refl
body-right tables (cycles ∷ bodies) zero e = (and_parts (are_cycles tables cycles) _ e).0
body-right tables (cycles ∷ bodies) (suc p) e = body-right tables bodies p (and_parts (are_cycles tables cycles) _ e).1

-- so all that a process asks is in order
point_of-right : (tables : Tables) (bodies : List (List (List Ask))) (p : ℕ) (answers : List Answered) → list_all (are_cycles tables) bodies ≡ true → is_right tables (point_of bodies p answers) ≡ true
point_of-right tables bodies p answers e = point_after-right tables answers (Before (slice_index_or bodies p [])) (body-right tables bodies p e)

-- one more answer
pub point_after-push : (answers : List Answered) (given : Answered) (point : Point) → point_after (answers ++ given ∷ []) point ≡ point_then given (point_after answers point)
point_after-push [] given point = refl
point_after-push (first ∷ later) given point = point_after-push later given (point_then first point)

-- what passes asks for a request in order
ask-in_order : (tables : Tables) (ask : Ask) → is_ask tables ask ≡ true → IsInOrder tables (ask_request ask)
ask-in_order tables (Plain asked) e = is_plain-in_order tables asked e
ask-in_order tables (Update groups writes turns) e = tt

-- at a point that is right the request is in order
asked_at-in_order : (tables : Tables) (point : Point) → is_right tables point ≡ true → IsInOrder tables (asked_at point)
asked_at-in_order tables (Before cycles) e = tt
asked_at-in_order tables (Within [] cycles) e = tt
asked_at-in_order tables (Within (ask ∷ asks) cycles) e = ask-in_order tables ask (and_parts (is_ask tables ask) _ (and_parts (is_ask tables ask && list_all (is_ask tables) asks) _ e).0).0

-- what is said of a block that ends after these turns with these writes
abbrev IsBlock : Tables → ℕ → List (ℕ × Value) → Type 0
IsBlock tables turns writes = All (IsWritten tables) writes × (turns ≤ turn_limit)

-- nothing isn't something
none_some : {A B : Type 0} {v : A} → None ≡ Some v → B
none_some {A} {B} {v} e = absurd (true≢false (sym (ap is_some e)))

-- the writes of a block that passes are right, and so are its turns
writes_if-block : (tables : Tables) (turns last : ℕ) (b : Bool) (writes found : List (ℕ × Value)) → turns == last ≡ b → list_all (is_written tables) writes ≡ true → nat_le last turn_limit ≡ true → writes_if b writes ≡ Some found → IsBlock tables turns found
writes_if-block tables turns last true writes found is right few e = (
  subst (λ w. All (IsWritten tables) w) (ap (λ o. unwrap_or o []) e) (all_from (is_written tables) (IsWritten tables) (λ w. is_for_cell-for (slice_get tables.cells w.0) w.1) writes right),
  subst (λ n. n ≤ turn_limit) (sym (eqb-true turns last is)) (leb-true last turn_limit few),
)
writes_if-block tables turns last false writes found is right few e = none_some e

-- the same of what stands in a body
ask_block-block : (tables : Tables) (ask : Ask) (turns : ℕ) (writes : List (ℕ × Value)) → is_ask tables ask ≡ true → ask_block ask turns ≡ Some writes → IsBlock tables turns writes
ask_block-block tables (Plain asked) turns writes right e = none_some e
ask_block-block tables (Update groups made last) turns writes right e =
    let parts = and_parts (list_all (is_written tables) made) _ right in writes_if-block tables turns last (turns == last) made writes refl parts.0 parts.1 e

-- the same of the block at a point
block_at-block : (tables : Tables) (point : Point) (turns : ℕ) (writes : List (ℕ × Value)) → is_right tables point ≡ true → block_at point turns ≡ Some writes → IsBlock tables turns writes
block_at-block tables (Before cycles) turns writes right e = none_some e
block_at-block tables (Within [] cycles) turns writes right e = none_some e
block_at-block tables (Within (ask ∷ asks) cycles) turns writes right e =
    ask_block-block tables ask turns writes (and_parts (is_ask tables ask) _ (and_parts (is_ask tables ask && list_all (is_ask tables) asks) _ right).0).0 e

-- writes that are found are found after the turns of the block
writes_if-turns : (turns last : ℕ) (b : Bool) (writes found : List (ℕ × Value)) → turns == last ≡ b → writes_if b writes ≡ Some found → turns ≡ last
writes_if-turns turns last true writes found is e = eqb-true turns last is
writes_if-turns turns last false writes found is e = none_some e

-- what stands in a body ends after one number of turns
ask_block-one : (ask : Ask) (turns other : ℕ) (writes others : List (ℕ × Value)) → ask_block ask turns ≡ Some writes → ask_block ask other ≡ Some others → turns ≡ other
ask_block-one (Plain asked) turns other writes others e f = none_some e
ask_block-one (Update groups made last) turns other writes others e f =
    writes_if-turns turns last (turns == last) made writes refl e ∙ sym (writes_if-turns other last (other == last) made others refl f)

-- the block at a point ends after one number of turns
block_at-one : (point : Point) (turns other : ℕ) (writes others : List (ℕ × Value)) → block_at point turns ≡ Some writes → block_at point other ≡ Some others → turns ≡ other
block_at-one (Before cycles) turns other writes others e f = none_some e
block_at-one (Within [] cycles) turns other writes others e f = none_some e
block_at-one (Within (ask ∷ asks) cycles) turns other writes others e f = ask_block-one ask turns other writes others e f

-- a request that stands for itself is no UPDATE block
plain_no_update : (tables : Tables) (asked : Request) → is_plain tables asked ≡ true → IsUpdate asked → ⊥
plain_no_update tables (request.Update groups) e asks = true≢false (sym e)
plain_no_update tables asked e asks = asks

-- an UPDATE block that stands in a body ends
ask_block-ends : (tables : Tables) (ask : Ask) → is_ask tables ask ≡ true → IsUpdate (ask_request ask) → (turns : ℕ) × IsSome (ask_block ask turns)
ask_block-ends tables (Plain asked) e asks = absurd (plain_no_update tables asked e asks)
ask_block-ends tables (Update groups writes turns) e asks = (turns, ap (λ b. is_some (writes_if b writes)) (eq-eqb turns turns refl))

-- an UPDATE block that is asked for at a point ends
block_at-ends : (tables : Tables) (point : Point) → is_right tables point ≡ true → IsUpdate (asked_at point) → (turns : ℕ) × IsSome (block_at point turns)
block_at-ends tables (Before cycles) e asks = absurd asks
block_at-ends tables (Within [] cycles) e asks = absurd asks
block_at-ends tables (Within (ask ∷ asked) cycles) e asks =
    ask_block-ends tables ask (and_parts (is_ask tables ask) _ (and_parts (is_ask tables ask && list_all (is_ask tables) asked) _ e).0).0 asks

-- the request is Finish
abbrev IsFinish : Request → Type 0
IsFinish request.Finish = Unit {0}
IsFinish asked = ⊥

-- a request that stands for itself isn't Finish
plain_no_finish : (tables : Tables) (asked : Request) → is_plain tables asked ≡ true → IsFinish asked → ⊥
plain_no_finish tables request.Finish e is = true≢false (sym e)
plain_no_finish tables asked e is = is

-- nothing in a body asks for Finish
ask_no_finish : (tables : Tables) (ask : Ask) → is_ask tables ask ≡ true → IsFinish (ask_request ask) → ⊥
ask_no_finish tables (Plain asked) e is = plain_no_finish tables asked e is
ask_no_finish tables (Update groups writes turns) e is = is

-- where Finish is asked for, Begin follows
finish-begin : (tables : Tables) (point : Point) → is_right tables point ≡ true → IsFinish (asked_at point) → asked_at (following point) ≡ request.Begin
finish-begin tables (Before cycles) e is = absurd is
finish-begin tables (Within [] cycles) e is = refl
finish-begin tables (Within (ask ∷ asks) cycles) e is =
    absurd (ask_no_finish tables ask (and_parts (is_ask tables ask) _ (and_parts (is_ask tables ask && list_all (is_ask tables) asks) _ e).0).0 is)

-- after a finished cycle a process begins anew
pub cycles-begin : (load : Scripted) → checks load ≡ true → (p : ℕ) (answers : List Answered) → asked_at (point_of load.bodies p answers) ≡ request.Finish → asked_at (point_of load.bodies p (answers ++ Done ∷ [])) ≡ request.Begin
cycles-begin load e p answers is =
    ap asked_at (point_after-push answers Done (Before (slice_index_or load.bodies p [])))
    ∙ finish-begin load.tables (point_of load.bodies p answers) (point_of-right load.tables load.bodies p answers (and_parts (are_tables load.tables) _ e).1) (subst IsFinish (sym is) tt)

-- a scripted load that checks is what a load is said to be
pub checks-load : (load : Scripted) → checks load ≡ true → IsLoad (as_scripted load)
checks-load load e =
    let parts = and_parts (are_tables load.tables) _ e in
    let right : (p : ℕ) (answers : List Answered) → is_right load.tables (point_of load.bodies p answers) ≡ true
    = λ p answers. point_of-right load.tables load.bodies p answers parts.1 in
    record {
      right = are_tables-tables load.tables parts.0;
      begins = λ p exists. refl;
      cycles = λ p answers exists fit asked. cycles-begin load e p answers asked;
      restarts = λ p answers exists fit. ap asked_at (point_after-push answers Killed (Before (slice_index_or load.bodies p [])));
      in_order = λ p answers exists fit. asked_at-in_order load.tables (point_of load.bodies p answers) (right p answers);
      writes_right = λ p answers snapshot turns writes exists fit full found. (block_at-block load.tables (point_of load.bodies p answers) turns writes (right p answers) found).0;
      few_turns = λ p answers snapshot turns writes exists fit full found. (block_at-block load.tables (point_of load.bodies p answers) turns writes (right p answers) found).1;
      one_end = λ p answers snapshot turns other writes others exists fit full found also. block_at-one (point_of load.bodies p answers) turns other writes others found also;
      ends = λ p answers snapshot exists fit full asks. block_at-ends load.tables (point_of load.bodies p answers) (right p answers) asks;
    }

-- a scripted load that checks says what stands in it
pub scripted-checked : (load : Scripted) → checks load ≡ true → scripted load ≡ as_scripted load
scripted-checked load e = ap (λ b. meaning_if b load) e

-- each of the two is what a load is said to be
meaning_if-load : (load : Scripted) (b : Bool) → checks load ≡ b → IsLoad (meaning_if b load)
meaning_if-load load true e = checks-load load e
meaning_if-load load false e = smallest_is_load

-- each scripted load is what a load is said to be
pub scripted-load : (load : Scripted) → IsLoad (scripted load)
scripted-load load = meaning_if-load load (checks load) refl
