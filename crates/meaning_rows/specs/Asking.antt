-- What a process asks after each of a list of answers, as text.
use Rattle.std.specs.Prelude.{ℕ, ℤ, Bool, true, false, List, [], ◌∷◌, ◌++◌, Option, None, Some, flat_map, codes}
use Rattle.std.specs.Fmt.{decimal, signed_decimal}
use Rattle.hal_values.specs.declared.environment.ErrNo.{ErrNo}
use Rattle.hal_values.specs.declared.plan.When.{When}
use Rattle.hal_values.specs.declared.plan.When.TheVariants as when
use Rattle.hal_values.specs.declared.plan.Cycle.{Cycle}
use Rattle.hal_values.specs.declared.plan.Cycle.TheVariants as cycle
use Rattle.hal_values.specs.declared.plan.Guard.{Guard}
use Rattle.hal_values.specs.declared.plan.Guard.TheVariants as guard
use Rattle.hal_values.specs.declared.plan.Plan.{Plan}
use Rattle.hal_values.specs.declared.plan.Pause.{Pause}
use Rattle.hal_values.specs.declared.plan.Pause.TheVariants as pause
use Rattle.hal_values.specs.declared.request.Spot.{Spot}
use Rattle.hal_values.specs.declared.request.Spot.TheVariants as spot
use Rattle.hal_values.specs.declared.request.Request.{Request}
use Rattle.hal_values.specs.declared.request.Request.TheVariants as request
use Rattle.hal_values.specs.declared.value.Value.{Value}
use Rattle.hal_values.specs.Answers.{Answered}
use Rattle.hal_values.specs.Answers as answered
use Rattle.exec_model.specs.Report.{value_text}
use Rattle.hal_grammar.specs.Units.{File}
use Rattle.hal_meaning.specs.Sets.{Set, set_of}
use Rattle.hal_meaning.specs.Runs.{next, block}
use Rattle.hal_meaning.specs.SetLoad.{own}
use Rattle.meaning_rows.specs.Listing.{line}

-- a word and a number
abbrev pub with_number : List ℕ → ℕ → List ℕ
with_number word n = word ++ (32 ∷ decimal n)

abbrev pub with_time : List ℕ → ℤ → List ℕ
with_time word t = word ++ (32 ∷ signed_decimal t)

abbrev pub error_text : ErrNo → List ℕ
error_text e = decimal e.group ++ (58 ∷ decimal e.number)

abbrev pub spot_text : Spot → List ℕ
spot_text (spot.Cell c) = with_number (codes "Read cell") c
spot_text (spot.Event e) = with_number (codes "Read event") e

abbrev pub when_text : When → List ℕ
when_text when.Now = codes " now"
when_text (when.At t) = with_time (codes " at") t
when_text (when.After t) = with_time (codes " after") t
when_text (when.On x) = with_number (codes " on") x

abbrev pub cycle_text : Cycle → List ℕ
cycle_text cycle.Once = codes " once"
cycle_text cycle.Again = codes " again"
cycle_text (cycle.Every t) = with_number (codes " every") t
cycle_text (cycle.After t) = with_number (codes " each after") t

abbrev pub guard_text : Guard → List ℕ
guard_text guard.Free = []
guard_text (guard.While x) = with_number (codes " while") x
guard_text (guard.Until x) = with_number (codes " until") x
guard_text (guard.UntilTime t) = with_time (codes " until time") t

abbrev pub dependent_text : Bool → List ℕ
dependent_text true = codes " dependent"
dependent_text false = []

abbrev pub plan_text : Plan → List ℕ
plan_text plan =
    with_number (codes "Schedule") plan.process ++ (when_text plan.when ++ (with_number (codes " priority") plan.priority ++ (dependent_text plan.dependent ++ (cycle_text plan.cycle ++ guard_text plan.guard))))

abbrev pub pause_text : Pause → List ℕ
pause_text (pause.For t) = with_time (codes "Wait for") t
pause_text (pause.Till t) = with_time (codes "Wait till") t
pause_text (pause.Event x) = with_number (codes "Wait on") x
pause_text pause.Dependents = codes "Wait for dependents"

-- a request
abbrev pub request_text : Request → List ℕ
request_text request.Begin = codes "Begin"
request_text (request.Read at) = spot_text at
request_text (request.Write c v) = with_number (codes "Write cell") c ++ (32 ∷ value_text v)
request_text request.Pass = codes "Pass"
request_text (request.Update groups) = with_number (codes "Update") groups
request_text (request.Schedule plan) = plan_text plan
request_text (request.Cancel p) = with_number (codes "Cancel") p
request_text (request.Terminate p) = with_number (codes "Terminate") p
request_text (request.Wait p) = pause_text p
request_text (request.Signal e) = with_number (codes "Signal") e
request_text (request.Set e) = with_number (codes "Set") e
request_text (request.Reset e) = with_number (codes "Reset") e
request_text (request.Priority p n) = with_number (with_number (codes "Priority") p) n
request_text (request.Print c text) = with_number (codes "Print") c ++ (58 ∷ text)
request_text (request.Input c k) = with_number (codes "Input") c
request_text request.Now = codes "Now"
request_text (request.Stop e) = codes "Stop " ++ error_text e
request_text request.Finish = codes "Finish"
request_text (request.Look c) = with_number (codes "Look") c
request_text (request.Close turns) = with_number (codes "Close") turns

-- the own values that the report shows, as they are when the request is asked
abbrev pub own_text : List Value → List ℕ
own_text vs = flat_map (λ v. 32 ∷ value_text v) vs

-- the writes of an UPDATE block, where it ends after so many turns
abbrev pub writes_text : Option (List (ℕ × Value)) → List ℕ
writes_text None = codes "no end"
writes_text (Some writes) = codes "writes" ++ flat_map (λ (w : ℕ × Value). 32 ∷ (decimal w.0 ++ (61 ∷ value_text w.1))) writes

-- how the UPDATE block ends that is answered so
abbrev pub block_line : Set → ℕ → List Answered → Answered → List ℕ
block_line s p before (answered.Block snapshot turns) = line (writes_text (block s p before snapshot turns))
block_line s p before other = []

abbrev pub asked_line : Set → ℕ → List Answered → List ℕ
asked_line s p answers = line (request_text (next s p answers) ++ (codes " |" ++ own_text (own s p answers)))

abbrev pub asks_after : Set → ℕ → List Answered → List Answered → List ℕ
asks_after s p before [] = asked_line s p before
asks_after s p before (a ∷ later) = asked_line s p before ++ (block_line s p before a ++ asks_after s p (before ++ (a ∷ [])) later)

-- what a process of the set of these files asks after each of the answers, with its own values behind it, where an UPDATE block has so many turns
abbrev pub asks : ℕ → List File → ℕ → List Answered → List ℕ
asks turns files p answers = asks_after (set_of turns files) p [] answers
