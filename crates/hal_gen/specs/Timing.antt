-- The code of WAIT, SCHEDULE and UPDATE PRIORITY: what is evaluated for them, and the instruction that takes it.
use Rattle.std.specs.Prelude.{ℕ, ◌+◌, Bool, true, false, List, [], ◌∷◌, Option, Some, None, Ok}
use Rattle.std.specs.Option.{option_map, option_and_then}
use Rattle.hal_base.specs.declared.refusal.Place.{Place}
use Rattle.hal_grammar.specs.Leaves.{Naming}
use Rattle.hal_grammar.specs.Expressions.{Expression}
use Rattle.hal_grammar.specs.Statements.{Guard, While, Until, Start, StartAt, StartIn, StartOn, Cycle, Cyclic, CyclicEvery, CyclicAfter, Schedule}
use Rattle.hal_scope.specs.Uses.{holds_event}
use Rattle.hal_code.specs.declared.choice.Choice.TheVariants as choice
use Rattle.hal_code.specs.declared.instr.Instr.{Instr}
use Rattle.hal_code.specs.declared.instr.Instr.TheVariants as instr
use Rattle.hal_code.specs.declared.operand.Delay.{Delay}
use Rattle.hal_code.specs.declared.operand.Limit as limits
use Rattle.hal_code.specs.declared.operand.Limit.TheVariants as limit
use Rattle.hal_code.specs.declared.operand.Round as rounds
use Rattle.hal_code.specs.declared.operand.Round.TheVariants as round
use Rattle.hal_code.specs.declared.operand.Start as starts
use Rattle.hal_code.specs.declared.operand.Start.TheVariants as start
use Rattle.hal_code.specs.declared.operand.Time.{Time}
use Rattle.hal_code.specs.declared.operand.Time.TheVariants as time
use Rattle.hal_agreement.specs.Sites.{Site}
use Rattle.hal_gen_expr.specs.Emitting.{Emitted, onwards, emit, length_of}
use Rattle.hal_gen_expr.specs.ExpressionCode.{emit_one, expression_code}
use Rattle.hal_gen_expr.specs.Numbering.{Numbering}
use Rattle.hal_gen.specs.Leaves.{decimal_of, named_process, first_event, last_event}

-- a time as an operand: one that is written as a decimal stands in the instruction, all others are on the stack
abbrev pub operand_by : Option ℕ → Time
operand_by None = time.Seconds
operand_by (Some number) = time.Milliseconds number

abbrev pub time_operand : Expression → Time
time_operand tree = operand_by (decimal_of tree)

abbrev pub time_by : Numbering → Site → List Instr → Expression → Option ℕ → Emitted
time_by n site before tree None = expression_code n site before tree
time_by n site before tree (Some number) = Ok before

abbrev pub time_code : Numbering → Site → List Instr → Expression → Emitted
time_code n site before tree = time_by n site before tree (decimal_of tree)

abbrev pub size_by : Numbering → Site → Expression → Option ℕ → ℕ
size_by n site tree None = length_of (expression_code n site [] tree)
size_by n site tree (Some number) = 0

abbrev pub time_size : Numbering → Site → Expression → ℕ
time_size n site tree = size_by n site tree (decimal_of tree)

-- WAIT and WAIT UNTIL
abbrev pub pause_code : Numbering → Site → List Instr → Place → (Time → Delay) → Expression → Emitted
pause_code n site before place delays tree = onwards (time_code n site before tree) (λ middle. emit_one middle place (instr.Wait (delays (time_operand tree))))

-- when a process starts; the event expression is the statement's first one
abbrev pub start_code : Numbering → Site → List Instr → Option Start → Emitted
start_code n site before None = Ok before
start_code n site before (Some (StartAt place tree)) = time_code n site before tree
start_code n site before (Some (StartIn place tree)) = time_code n site before tree
start_code n site before (Some (StartOn place tree)) = Ok before

abbrev pub start_size : Numbering → Site → Option Start → ℕ
start_size n site None = 0
start_size n site (Some (StartAt place tree)) = time_size n site tree
start_size n site (Some (StartIn place tree)) = time_size n site tree
start_size n site (Some (StartOn place tree)) = 0

abbrev pub start_operand : Option ℕ → Option Start → Option starts.Start
start_operand first None = Some start.Now
start_operand first (Some (StartAt place tree)) = Some (start.At (time_operand tree))
start_operand first (Some (StartIn place tree)) = Some (start.In (time_operand tree))
start_operand first (Some (StartOn place tree)) = option_map start.On first

-- a priority that may be given
abbrev pub priority_code : Numbering → Site → List Instr → Option Expression → Emitted
priority_code n site before None = Ok before
priority_code n site before (Some tree) = expression_code n site before tree

abbrev pub priority_size : Numbering → Site → Option Expression → ℕ
priority_size n site None = 0
priority_size n site (Some tree) = length_of (expression_code n site [] tree)

abbrev pub is_given : Option Expression → Bool
is_given None = false
is_given (Some tree) = true

-- a cycle
abbrev pub round_code : Numbering → Site → List Instr → Option Cycle → Emitted
round_code n site before None = Ok before
round_code n site before (Some (Cyclic place)) = Ok before
round_code n site before (Some (CyclicEvery place tree)) = time_code n site before tree
round_code n site before (Some (CyclicAfter place tree)) = time_code n site before tree

abbrev pub round_size : Numbering → Site → Option Cycle → ℕ
round_size n site None = 0
round_size n site (Some (Cyclic place)) = 0
round_size n site (Some (CyclicEvery place tree)) = time_size n site tree
round_size n site (Some (CyclicAfter place tree)) = time_size n site tree

abbrev pub round_operand : Option Cycle → rounds.Round
round_operand None = round.Once
round_operand (Some (Cyclic place)) = round.Repeat
round_operand (Some (CyclicEvery place tree)) = round.Every (time_operand tree)
round_operand (Some (CyclicAfter place tree)) = round.After (time_operand tree)

-- what ends its cycles: an event expression, the statement's last one, or a time
abbrev pub until_code : Numbering → Site → List Instr → Bool → Expression → Emitted
until_code n site before true tree = Ok before
until_code n site before false tree = time_code n site before tree

abbrev pub limit_code : Numbering → Site → List Instr → Option Guard → Emitted
limit_code n site before None = Ok before
limit_code n site before (Some (While place tree)) = Ok before
limit_code n site before (Some (Until place tree)) = until_code n site before (holds_event site.set.phrases site.block tree) tree

abbrev pub until_size : Numbering → Site → Bool → Expression → ℕ
until_size n site true tree = 0
until_size n site false tree = time_size n site tree

abbrev pub limit_size : Numbering → Site → Option Guard → ℕ
limit_size n site None = 0
limit_size n site (Some (While place tree)) = 0
limit_size n site (Some (Until place tree)) = until_size n site (holds_event site.set.phrases site.block tree) tree

abbrev pub until_operand : Option ℕ → Bool → Expression → Option limits.Limit
until_operand last true tree = option_map limit.Until last
until_operand last false tree = Some (limit.UntilTime (time_operand tree))

abbrev pub limit_operand : Site → Option ℕ → Option Guard → Option limits.Limit
limit_operand site last None = Some limit.Free
limit_operand site last (Some (While place tree)) = option_map limit.While last
limit_operand site last (Some (Until place tree)) = until_operand last (holds_event site.set.phrases site.block tree) tree

-- the instruction of SCHEDULE, whose statement has these event expressions
abbrev pub schedule_by : Schedule → ℕ → starts.Start → limits.Limit → List Instr
schedule_by s process begins until = instr.Schedule process begins (choice.Known (is_given s.priority)) (choice.Known s.dependent) (round_operand s.cycle) until ∷ []

abbrev pub schedule_of : Site → List ℕ → Schedule → Option (List Instr)
schedule_of site xs s =
    option_and_then (λ process. option_and_then (λ begins. option_map (schedule_by s process begins) (limit_operand site (last_event site xs) s.guard)) (start_operand (first_event site xs) s.start))
    (named_process site s.name)

-- SCHEDULE
abbrev pub schedule_code : Numbering → Site → List Instr → Place → List ℕ → Schedule → Emitted
schedule_code n site before place xs s =
    onwards (start_code n site before s.start)
    (λ first. onwards (priority_code n site first s.priority)
    (λ second. onwards (round_code n site second s.cycle)
    (λ third. onwards (limit_code n site third s.guard) (λ fourth. emit fourth place (schedule_of site xs s)))))

abbrev pub schedule_size : Numbering → Site → Schedule → ℕ
schedule_size n site s = start_size n site s.start + (priority_size n site s.priority + (round_size n site s.cycle + (limit_size n site s.guard + 1)))

-- the process that UPDATE PRIORITY speaks of: one that is named, or the process itself
abbrev pub named_or_self : Site → Option Naming → Option ℕ
named_or_self site None = Some 255
named_or_self site (Some name) = named_process site name

-- UPDATE PRIORITY
abbrev pub update_priority_code : Numbering → Site → List Instr → Place → Option Naming → Expression → Emitted
update_priority_code n site before place name tree =
    onwards (expression_code n site before tree) (λ middle. emit middle place (option_map (λ process. instr.Priority process ∷ []) (named_or_self site name)))
