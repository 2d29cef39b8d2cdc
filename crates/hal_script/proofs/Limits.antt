-- A good line keeps the limits of scripts.
use Rattle.std.proofs.Common.{◌≡◌, ℕ, ◌+◌, ◌<◌, ◌≤◌, Bool, true, false, cond, nat_le, nat_lt, List, [], ◌∷◌, Option, Some, None, Result, Ok, Err, refl, subst, arith}
use Rattle.std.proofs.lemmas.Bool.Decides.{nat_tests}
use Rattle.hal_base.specs.declared.limits.TheConstants.{SCRIPT_LINE_LIMIT, RUN_LIMIT, RUN_SUM_LIMIT, TICK_LIMIT, TICK_SUM_LIMIT, CHANNEL_COUNT}
use Rattle.exec_model.specs.declared.script.ScriptLine.{ScriptLine}
use Rattle.exec_model.specs.declared.script.ScriptLine.TheVariants.{Run, Tick, Preempt, Input}
use Rattle.exec_model.specs.Scripts.{IsLine, is_input}
use Rattle.hal_script.specs.declared.reading.Keyword.{Keyword}
use Rattle.hal_script.specs.declared.reading.Keyword.TheVariants.{Runs, Ticks, Preempts, Inputs}
use Rattle.hal_script.specs.declared.given.Given.{Given}
use Rattle.hal_script.specs.declared.given.Given.TheVariants.{Data, Malformed, Open}
use Rattle.hal_script.specs.declared.reading.Reading.{Reading}
use Rattle.hal_script.specs.declared.reading.Reading.TheVariants.{Good, Faults}
use Rattle.hal_script.specs.declared.reading.SoFar.{SoFar}
use Rattle.hal_script.specs.Words.{words, behind_word, is_printable}
use Rattle.hal_script.specs.Numbers.{number_of}
use Rattle.hal_script.specs.DataTexts.{given}
use Rattle.hal_script.specs.Fits.{Fits}
use Rattle.hal_script.specs.Readings.{alone, is_in_range, of_number, of_operand, counted, run_of, tick_of, preempt_of, given_to, given_to_operand, input_of, keyword_of, of_keyword, of_words, of_bytes, reading, events_of, time_of}

-- its numbers are in range, and it gives data to a channel only where no line of another kind stood before
abbrev pub IsKept : (begun : Bool) → Option ScriptLine → Type 0
IsKept begun None = Unit {0}
IsKept begun (Some line) = IsLine line × (is_input line ≡ true → begun ≡ false)

-- what a number is known to be
pub record Bounded (limit sum_limit sum number : ℕ) : Type 0 where
  pub some : 1 ≤ number
  pub small : number ≤ limit
  pub together : sum + number ≤ sum_limit

alone-Ok : (n number : ℕ) (more : List (List ℕ)) → alone (Ok number) more ≡ Ok n → number ≡ n
alone-Ok n number [] e = cc
alone-Ok n number (word ∷ more) e = absurd (cc)

alone-Err : (n reason : ℕ) (more : List (List ℕ)) → alone (Err reason) more ≡ Ok n → ⊥
alone-Err n reason [] e = cc
alone-Err n reason (word ∷ more) e = cc

bounded : (limit sum_limit sum number n : ℕ) → is_in_range limit number ≡ true → nat_lt sum_limit (sum + number) ≡ false → number ≡ n → Bounded limit sum_limit sum n
bounded limit sum_limit sum number n ranged below same = record {
  some = grind (arith, nat_tests);
  small = grind (arith, nat_tests);
  together = grind (arith, nat_tests);
}

of_number-Ok : (limit sum_limit sum number n : ℕ) (more : List (List ℕ)) → of_number limit sum_limit sum number more ≡ Ok n → Bounded limit sum_limit sum n
of_number-Ok limit sum_limit sum number n more e = ranged (is_in_range limit number) refl e where
  ranged : (b : Bool) → is_in_range limit number ≡ b → cond b (cond (nat_lt sum_limit (sum + number)) (Err 6) (alone (Ok number) more)) (alone (Err 3) more) ≡ Ok n → Bounded limit sum_limit sum n
  ranged true is e = below (nat_lt sum_limit (sum + number)) refl e where
    below : (b : Bool) → nat_lt sum_limit (sum + number) ≡ b → cond b (Err 6) (alone (Ok number) more) ≡ Ok n → Bounded limit sum_limit sum n
    below true at e = absurd (cc)
    below false at e = bounded limit sum_limit sum number n is at (alone-Ok n number more e)
  ranged false is e = absurd (alone-Err n 3 more e)

of_operand-Ok : (limit sum_limit sum n : ℕ) (number : Option ℕ) (more : List (List ℕ)) → of_operand limit sum_limit sum number more ≡ Ok n → Bounded limit sum_limit sum n
of_operand-Ok limit sum_limit sum n None more e = absurd (cc)
of_operand-Ok limit sum_limit sum n (Some number) more e = of_number-Ok limit sum_limit sum number n more e

counted-Ok : (limit sum_limit sum n : ℕ) (operands : List (List ℕ)) → counted limit sum_limit sum operands ≡ Ok n → Bounded limit sum_limit sum n
counted-Ok limit sum_limit sum n [] e = absurd (cc)
counted-Ok limit sum_limit sum n (word ∷ more) e = of_operand-Ok limit sum_limit sum n (number_of word) more e

-- a line keeps the sums within their limits, and is one that scripts have
pub record Kept (so_far : SoFar) (asked : Option ScriptLine) : Type 0 where
  pub events : so_far.events + events_of asked ≤ RUN_SUM_LIMIT
  pub time : so_far.time + time_of asked ≤ TICK_SUM_LIMIT
  pub line : IsKept so_far.begun asked

run_of-Good : (so_far : SoFar) (asked : Option ScriptLine) (r : Result ℕ ℕ) → ((n : ℕ) → r ≡ Ok n → Bounded RUN_LIMIT RUN_SUM_LIMIT so_far.events n) → so_far.time ≤ TICK_SUM_LIMIT
    → run_of r ≡ Good asked → Kept so_far asked
run_of-Good so_far None (Ok n) bound time e = absurd (cc)
run_of-Good so_far (Some (Run m)) (Ok n) bound time e =
    let same : n ≡ m = cc in
    let known = bound n refl in
    record { events = omega (arith, known.together); time = omega arith; line = ((omega (arith, known.some), omega (arith, known.small)), λ e. absurd (cc)) }
run_of-Good so_far (Some (Tick m)) (Ok n) bound time e = absurd (cc)
run_of-Good so_far (Some (Preempt m)) (Ok n) bound time e = absurd (cc)
run_of-Good so_far (Some (Input c m)) (Ok n) bound time e = absurd (cc)
run_of-Good so_far asked (Err reason) bound time e = absurd (cc)

tick_of-Good : (so_far : SoFar) (asked : Option ScriptLine) (r : Result ℕ ℕ) → ((n : ℕ) → r ≡ Ok n → Bounded TICK_LIMIT TICK_SUM_LIMIT so_far.time n) → so_far.events ≤ RUN_SUM_LIMIT
    → tick_of r ≡ Good asked → Kept so_far asked
tick_of-Good so_far None (Ok n) bound events e = absurd (cc)
tick_of-Good so_far (Some (Tick m)) (Ok n) bound events e =
    let same : n ≡ m = cc in
    let known = bound n refl in
    record { events = omega arith; time = omega (arith, known.together); line = ((omega (arith, known.some), omega (arith, known.small)), λ e. absurd (cc)) }
tick_of-Good so_far (Some (Run m)) (Ok n) bound events e = absurd (cc)
tick_of-Good so_far (Some (Preempt m)) (Ok n) bound events e = absurd (cc)
tick_of-Good so_far (Some (Input c m)) (Ok n) bound events e = absurd (cc)
tick_of-Good so_far asked (Err reason) bound events e = absurd (cc)

preempt_of-Good : (so_far : SoFar) (asked : Option ScriptLine) (operands : List (List ℕ)) → so_far.events ≤ RUN_SUM_LIMIT → so_far.time ≤ TICK_SUM_LIMIT
    → preempt_of operands ≡ Good asked → Kept so_far asked
preempt_of-Good so_far asked [] events time e = absurd (cc)
preempt_of-Good so_far None (name ∷ []) events time e = absurd (cc)
preempt_of-Good so_far (Some (Preempt m)) (name ∷ []) events time e = record { events = omega arith; time = omega arith; line = (tt, λ e. absurd (cc)) }
preempt_of-Good so_far (Some (Tick m)) (name ∷ []) events time e = absurd (cc)
preempt_of-Good so_far (Some (Run m)) (name ∷ []) events time e = absurd (cc)
preempt_of-Good so_far (Some (Input c m)) (name ∷ []) events time e = absurd (cc)
preempt_of-Good so_far asked (name ∷ other ∷ more) events time e = absurd (cc)

given_to-Good : (so_far : SoFar) (asked : Option ScriptLine) (channel : ℕ) (gift : Given) → so_far.begun ≡ false → so_far.events ≤ RUN_SUM_LIMIT → so_far.time ≤ TICK_SUM_LIMIT
    → given_to channel gift ≡ Good asked → Kept so_far asked
given_to-Good so_far asked channel Malformed first events time e = absurd (cc)
given_to-Good so_far asked channel Open first events time e = ranged (nat_lt channel CHANNEL_COUNT) e where
  ranged : (b : Bool) → cond b (Faults 5) (Faults 3) ≡ Good asked → Kept so_far asked
  ranged true e = absurd (cc)
  ranged false e = absurd (cc)
given_to-Good so_far asked channel (Data data_) first events time e = ranged (nat_lt channel CHANNEL_COUNT) refl e where
  ranged : (b : Bool) → nat_lt channel CHANNEL_COUNT ≡ b → cond b (Good (Some (Input channel data_))) (Faults 3) ≡ Good asked → Kept so_far asked
  ranged true is e =
      let known : channel ≤ 31 = grind (arith, nat_tests) in
      let same : Some (Input channel data_) ≡ asked = cc in
      subst (λ (o : Option ScriptLine). Kept so_far o) same (record { events = omega arith; time = omega arith; line = (known, λ x. first) })
  ranged false is e = absurd (cc)

given_to_operand-Good : (so_far : SoFar) (asked : Option ScriptLine) (channel : Option ℕ) (gift : Given) → so_far.begun ≡ false → so_far.events ≤ RUN_SUM_LIMIT → so_far.time ≤ TICK_SUM_LIMIT
    → given_to_operand channel gift ≡ Good asked → Kept so_far asked
given_to_operand-Good so_far asked None gift first events time e = absurd (cc)
given_to_operand-Good so_far asked (Some channel) gift first events time e = given_to-Good so_far asked channel gift first events time e

input_of-Good : (so_far : SoFar) (asked : Option ScriptLine) (begun : Bool) (operands : List (List ℕ)) (text : List ℕ) → so_far.begun ≡ begun → so_far.events ≤ RUN_SUM_LIMIT
    → so_far.time ≤ TICK_SUM_LIMIT → input_of begun operands text ≡ Good asked → Kept so_far asked
input_of-Good so_far asked true operands text first events time e = absurd (cc)
input_of-Good so_far asked false [] text first events time e = absurd (cc)
input_of-Good so_far asked false (channel ∷ []) text first events time e = absurd (cc)
input_of-Good so_far asked false (channel ∷ one ∷ more) text first events time e =
    given_to_operand-Good so_far asked (number_of channel) (given text) first events time e

of_keyword-Good : (so_far : SoFar) (asked : Option ScriptLine) (keyword : Option Keyword) (operands : List (List ℕ)) (text : List ℕ) → so_far.events ≤ RUN_SUM_LIMIT
    → so_far.time ≤ TICK_SUM_LIMIT → of_keyword so_far keyword operands text ≡ Good asked → Kept so_far asked
of_keyword-Good so_far asked None operands text events time e = absurd (cc)
of_keyword-Good so_far asked (Some Runs) operands text events time e =
    run_of-Good so_far asked (counted RUN_LIMIT RUN_SUM_LIMIT so_far.events operands) (λ n is. counted-Ok RUN_LIMIT RUN_SUM_LIMIT so_far.events n operands is) time e
of_keyword-Good so_far asked (Some Ticks) operands text events time e =
    tick_of-Good so_far asked (counted TICK_LIMIT TICK_SUM_LIMIT so_far.time operands) (λ n is. counted-Ok TICK_LIMIT TICK_SUM_LIMIT so_far.time n operands is) events e
of_keyword-Good so_far asked (Some Preempts) operands text events time e = preempt_of-Good so_far asked operands events time e
of_keyword-Good so_far asked (Some Inputs) operands text events time e = input_of-Good so_far asked so_far.begun operands text refl events time e

of_words-Good : (so_far : SoFar) (asked : Option ScriptLine) (said : List (List ℕ)) (text : List ℕ) → so_far.events ≤ RUN_SUM_LIMIT → so_far.time ≤ TICK_SUM_LIMIT
    → of_words so_far said text ≡ Good asked → Kept so_far asked
of_words-Good so_far None [] text events time e = record { events = omega arith; time = omega arith; line = tt }
of_words-Good so_far (Some line) [] text events time e = absurd (cc)
of_words-Good so_far asked (first ∷ operands) text events time e = of_keyword-Good so_far asked (keyword_of first) operands text events time e

of_bytes-Good : (asked : Option ScriptLine) (printable : Bool) (r : Reading) → of_bytes printable r ≡ Good asked → r ≡ Good asked
of_bytes-Good asked true (Good other) e = e
of_bytes-Good asked false (Good other) e = absurd (cc)
of_bytes-Good asked printable (Faults reason) e = e

few : (so_far : SoFar) (asked : Option ScriptLine) (b : Bool) (r : Reading) → nat_le SCRIPT_LINE_LIMIT so_far.line_count ≡ b → cond b (Faults 6) r ≡ Good asked → (so_far.line_count < SCRIPT_LINE_LIMIT) × (r ≡ Good asked)
few so_far asked true r is e = absurd (cc)
few so_far asked false r is e = (grind (arith, nat_tests), e)

-- a good line fits, and is one that scripts have
pub reading-Good : (so_far : SoFar) (line : List ℕ) (asked : Option ScriptLine) → so_far.events ≤ RUN_SUM_LIMIT → so_far.time ≤ TICK_SUM_LIMIT → reading so_far line ≡ Good asked → Fits so_far asked × IsKept so_far.begun asked
reading-Good so_far line asked events time e =
    let text = behind_word (behind_word line) in
    let said = of_words so_far (words line) text in
    let parts = few so_far asked (nat_le SCRIPT_LINE_LIMIT so_far.line_count) (of_bytes (is_printable line) said) refl e in
    let kept = of_words-Good so_far asked (words line) text events time (of_bytes-Good asked (is_printable line) said parts.1) in
    (record { few = parts.0; events = kept.events; time = kept.time }, kept.line)
