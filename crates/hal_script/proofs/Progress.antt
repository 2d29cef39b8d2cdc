-- How far a script was read.
use Rattle.std.proofs.Common.{◌≡◌, ℕ, ◌+◌, ◌≤◌, Bool, true, false, List, [], ◌∷◌, ◌++◌, length, sum, sum_by, map, Option, Some, None, not, ◌||◌, refl, sym, subst, arith, append_assoc, append-nil, length-append, inl, inr}
use Rattle.std.specs.Option.{option_to_list}
use Rattle.std.specs.Str.Lines.{lines as lines_of}
use Rattle.std.proofs.lemmas.List.Sums.{sum-map, sum_by-append}
use Rattle.hal_base.specs.declared.limits.TheConstants.{SCRIPT_LINE_LIMIT, RUN_SUM_LIMIT, TICK_SUM_LIMIT}
use Rattle.exec_model.specs.declared.script.ScriptLine.{ScriptLine}
use Rattle.exec_model.specs.declared.script.ScriptLine.TheVariants.{Run, Tick, Preempt, Input}
use Rattle.exec_model.specs.Scripts.{IsScript, AreLines, HasNoInput, IsInputFirst, asked_events, asked_time, is_input}
use Rattle.hal_script.specs.declared.fault.ScriptFault.{ScriptFault}
use Rattle.hal_script.specs.declared.reading.Reading.TheVariants.{Good, Faults}
use Rattle.hal_script.specs.declared.reading.SoFar.{SoFar}
use Rattle.hal_script.specs.Fits.{Fits}
use Rattle.hal_script.specs.Readings.{reading, past, events_of, time_of, begun_after}
use Rattle.hal_script.specs.ScriptTexts.{IsScriptFrom, IsFaultFrom, opening}
use Rattle.hal_script.proofs.Limits.{IsKept}

-- each line gives data to a channel
abbrev pub AreInput : List ScriptLine → Type 0
AreInput [] = Unit {0}
AreInput (line ∷ lines) = (is_input line ≡ true) × AreInput lines

-- the lines read so far keep the limits
pub record IsWithin (so_far : SoFar) (script : List ScriptLine) : Type 0 where
  pub few : length script ≤ so_far.line_count
  pub counted : so_far.line_count ≤ SCRIPT_LINE_LIMIT
  pub ranges : AreLines script
  pub events : sum (map asked_events script) ≡ so_far.events
  pub events_few : so_far.events ≤ RUN_SUM_LIMIT
  pub time : sum (map asked_time script) ≡ so_far.time
  pub time_short : so_far.time ≤ TICK_SUM_LIMIT
  pub order : IsInputFirst script
  pub only_input : so_far.begun ≡ false → AreInput script

-- what the rest gives, all lines give
pub record IsRead (all : List (List ℕ)) (rest : List ℕ) (so_far : SoFar) (script : List ScriptLine) : Type 0 where
  pub good : (others : List ScriptLine) → IsScriptFrom so_far (lines_of rest) others → IsScriptFrom opening all (script ++ others)
  pub faulty : (fault : ScriptFault) → IsFaultFrom so_far (lines_of rest) fault → IsFaultFrom opening all fault
  pub within : IsWithin so_far script

AreLines-push : (script : List ScriptLine) (begun : Bool) (asked : Option ScriptLine) → AreLines script → IsKept begun asked → AreLines (script ++ option_to_list asked)
AreLines-push [] begun None all kept = tt
AreLines-push [] begun (Some line) all kept = (kept.0, tt)
AreLines-push (first ∷ script) begun asked all kept = (all.0, AreLines-push script begun asked all.1 kept)

AreInput-push : (script : List ScriptLine) (line : ScriptLine) → AreInput script → is_input line ≡ true → AreInput (script ++ line ∷ [])
AreInput-push [] line all is = (is, tt)
AreInput-push (first ∷ script) line all is = (all.0, AreInput-push script line all.1 is)

IsInputFirst-all : (script : List ScriptLine) → AreInput script → IsInputFirst script
IsInputFirst-all [] all = tt
IsInputFirst-all (Run count ∷ script) all = absurd (cc (all.0))
IsInputFirst-all (Tick time ∷ script) all = absurd (cc (all.0))
IsInputFirst-all (Preempt name ∷ script) all = absurd (cc (all.0))
IsInputFirst-all (Input channel data_ ∷ script) all = IsInputFirst-all script all.1

HasNoInput-one : (line : ScriptLine) → is_input line ≡ false → HasNoInput (line ∷ [])
HasNoInput-one (Run count) e = tt
HasNoInput-one (Tick time) e = tt
HasNoInput-one (Preempt name) e = tt
HasNoInput-one (Input channel data_) e = cc

HasNoInput-push : (script : List ScriptLine) (line : ScriptLine) → HasNoInput script → is_input line ≡ false → HasNoInput (script ++ line ∷ [])
HasNoInput-push [] line all other = HasNoInput-one line other
HasNoInput-push (Run count ∷ script) line all other = HasNoInput-push script line all other
HasNoInput-push (Tick time ∷ script) line all other = HasNoInput-push script line all other
HasNoInput-push (Preempt name ∷ script) line all other = HasNoInput-push script line all other
HasNoInput-push (Input channel data_ ∷ script) line all other = absurd all

IsInputFirst-one : (line : ScriptLine) → IsInputFirst (line ∷ [])
IsInputFirst-one (Run count) = tt
IsInputFirst-one (Tick time) = tt
IsInputFirst-one (Preempt name) = tt
IsInputFirst-one (Input channel data_) = tt

IsInputFirst-push : (script : List ScriptLine) (line : ScriptLine) → IsInputFirst script → is_input line ≡ false → IsInputFirst (script ++ line ∷ [])
IsInputFirst-push [] line all other = IsInputFirst-one line
IsInputFirst-push (Run count ∷ script) line all other = HasNoInput-push script line all other
IsInputFirst-push (Tick time ∷ script) line all other = HasNoInput-push script line all other
IsInputFirst-push (Preempt name ∷ script) line all other = HasNoInput-push script line all other
IsInputFirst-push (Input channel data_ ∷ script) line all other = IsInputFirst-push script line all other

-- the order after a good line
order-step : (script : List ScriptLine) (begun : Bool) (asked : Option ScriptLine) → IsInputFirst script → (begun ≡ false → AreInput script) → IsKept begun asked
    → IsInputFirst (script ++ option_to_list asked) × (begun_after begun asked ≡ false → AreInput (script ++ option_to_list asked))
order-step script begun None order only kept =
    (subst IsInputFirst (sym (append-nil script)) order, λ first. subst AreInput (sym (append-nil script)) (only first))
order-step script begun (Some line) order only kept = by (is_input line) refl where
  by : (b : Bool) → is_input line ≡ b → IsInputFirst (script ++ line ∷ []) × (begun_after begun (Some line) ≡ false → AreInput (script ++ line ∷ []))
  by true is =
      let all = AreInput-push script line (only (kept.1 is)) is in
      (IsInputFirst-all (script ++ line ∷ []) all, λ first. all)
  by false other = (IsInputFirst-push script line order other, λ first. absurd (not_first begun (is_input line) other first)) where
    not_first : (before is : Bool) → is ≡ false → (before || not is) ≡ false → ⊥
    not_first true is other first = cc
    not_first false true other first = cc
    not_first false false other first = cc

length-push : (script : List ScriptLine) (asked : Option ScriptLine) → length (script ++ option_to_list asked) ≤ length script + 1
length-push script None = omega (arith, length-append script [])
length-push script (Some line) = omega (arith, length-append script (line ∷ []))

sum-push : (count : ScriptLine → ℕ) (script : List ScriptLine) (asked : Option ScriptLine) (more : ℕ) → sum_by count (option_to_list asked) ≡ more
    → sum (map count (script ++ option_to_list asked)) ≡ sum (map count script) + more
sum-push count script asked more e =
    omega (arith, e, sum-map count (script ++ option_to_list asked), sum_by-append count script (option_to_list asked), sum-map count script)

events_of-list : (asked : Option ScriptLine) → sum_by asked_events (option_to_list asked) ≡ events_of asked
events_of-list None = refl
events_of-list (Some line) = omega arith

time_of-list : (asked : Option ScriptLine) → sum_by asked_time (option_to_list asked) ≡ time_of asked
time_of-list None = refl
time_of-list (Some line) = omega arith

IsWithin-step : (so_far : SoFar) (script : List ScriptLine) (asked : Option ScriptLine) → IsWithin so_far script → Fits so_far asked → IsKept so_far.begun asked
    → IsWithin (past so_far asked) (script ++ option_to_list asked)
IsWithin-step so_far script asked within fits kept = let order = order-step script so_far.begun asked within.order within.only_input kept in record {
  few = omega (arith, within.few, length-push script asked);
  counted = omega (arith, fits.few);
  ranges = AreLines-push script so_far.begun asked within.ranges kept;
  events = omega (arith, within.events, sum-push asked_events script asked (events_of asked) (events_of-list asked));
  events_few = fits.events;
  time = omega (arith, within.time, sum-push asked_time script asked (time_of asked) (time_of-list asked));
  time_short = fits.time;
  order = order.0;
  only_input = order.1;
}

-- before the first line
pub IsRead-start : (bytes : List ℕ) → IsRead (lines_of bytes) bytes opening []
IsRead-start bytes = record {
  good = λ others more. more;
  faulty = λ fault more. more;
  within = record { few = omega arith; counted = omega arith; ranges = tt; events = refl; events_few = omega arith; time = refl; time_short = omega arith; order = tt; only_input = λ first. tt };
}

-- after a good line
pub IsRead-step : (all : List (List ℕ)) (rest after line : List ℕ) (so_far : SoFar) (script : List ScriptLine) (asked : Option ScriptLine)
    → IsRead all rest so_far script → lines_of rest ≡ line ∷ lines_of after → reading so_far line ≡ Good asked → Fits so_far asked → IsKept so_far.begun asked
    → IsRead all after (past so_far asked) (script ++ option_to_list asked)
IsRead-step all rest after line so_far script asked read cut good fits kept = record {
  good = λ others more. subst (λ (xs : List ScriptLine). IsScriptFrom opening all xs) (sym (append_assoc script (option_to_list asked) others))
      (read.good (option_to_list asked ++ others) (subst (λ (ls : List (List ℕ)). IsScriptFrom so_far ls (option_to_list asked ++ others)) (sym cut) (asked, others, good, refl, more)));
  faulty = λ fault later. read.faulty fault (subst (λ (ls : List (List ℕ)). IsFaultFrom so_far ls fault) (sym cut) (inr (asked, good, later)));
  within = IsWithin-step so_far script asked read.within fits kept;
}

-- at a line that is faulty
pub IsRead-fault : (all : List (List ℕ)) (rest after line : List ℕ) (so_far : SoFar) (script : List ScriptLine) (fault : ScriptFault)
    → IsRead all rest so_far script → lines_of rest ≡ line ∷ lines_of after → reading so_far line ≡ Faults fault.reason → fault.line ≡ so_far.line_count + 1 → IsFaultFrom opening all fault
IsRead-fault all rest after line so_far script fault read cut here number =
    read.faulty fault (subst (λ (ls : List (List ℕ)). IsFaultFrom so_far ls fault) (sym cut) (inl (here, number)))

-- where no line is left
pub IsRead-end : (all : List (List ℕ)) (rest : List ℕ) (so_far : SoFar) (script : List ScriptLine) → IsRead all rest so_far script → lines_of rest ≡ [] → IsScriptFrom opening all script
IsRead-end all rest so_far script read none =
    subst (λ (xs : List ScriptLine). IsScriptFrom opening all xs) (append-nil script) (read.good [] (subst (λ (ls : List (List ℕ)). IsScriptFrom so_far ls []) (sym none) refl))

pub IsScript-within : (so_far : SoFar) (script : List ScriptLine) → IsWithin so_far script → IsScript script
IsScript-within so_far script within = record {
  few = omega (arith, within.few, within.counted);
  ranges = within.ranges;
  events = omega (arith, within.events, within.events_few);
  time = omega (arith, within.time, within.time_short);
  order = within.order;
}
