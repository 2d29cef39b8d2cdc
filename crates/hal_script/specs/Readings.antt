-- What one line of a script is, after the lines before it.
use Rattle.std.specs.Prelude.{ℕ, ◌+◌, Bool, true, false, List, [], ◌∷◌, Option, Some, None, Result, Ok, Err, codes, bytes_eq, nat_le, nat_lt, not, ◌&&◌, ◌||◌, if◌then◌else◌}
use Rattle.hal_base.specs.declared.limits.TheConstants.{SCRIPT_LINE_LIMIT, RUN_LIMIT, RUN_SUM_LIMIT, TICK_LIMIT, TICK_SUM_LIMIT, CHANNEL_COUNT}
use Rattle.exec_model.specs.declared.script.ScriptLine.{ScriptLine}
use Rattle.exec_model.specs.declared.script.ScriptLine.TheVariants.{Run, Tick, Preempt, Input}
use Rattle.exec_model.specs.Scripts.{asked_events, asked_time, is_input}
use Rattle.hal_script.specs.declared.reading.Keyword.{Keyword}
use Rattle.hal_script.specs.declared.reading.Keyword.TheVariants.{Runs, Ticks, Preempts, Inputs}
use Rattle.hal_script.specs.declared.given.Given.{Given}
use Rattle.hal_script.specs.declared.given.Given.TheVariants.{Data, Malformed, Open}
use Rattle.hal_script.specs.declared.reading.Reading.{Reading}
use Rattle.hal_script.specs.declared.reading.Reading.TheVariants.{Good, Faults}
use Rattle.hal_script.specs.declared.reading.SoFar.{SoFar}
use Rattle.hal_script.specs.Words.{words, behind_word, is_printable}
use Rattle.hal_script.specs.Numbers.{number_of}
use Rattle.hal_script.specs.DataTexts.{given}

-- the number is from 1 to the limit
abbrev pub is_in_range : ℕ → ℕ → Bool
is_in_range limit number = nat_le 1 number && nat_le number limit

-- this answer where no further word follows, and else reason 2
abbrev pub alone : Result ℕ ℕ → List (List ℕ) → Result ℕ ℕ
alone answer [] = answer
alone answer (word ∷ more) = Err 2

-- what the number and the words after it give: reason 6 where it brings the sum above its limit, though more follows; reason 2 where more follows; reason
-- 3 where it is out of range
abbrev pub of_number : (limit sum_limit sum : ℕ) → ℕ → List (List ℕ) → Result ℕ ℕ
of_number limit sum_limit sum number more =
    if is_in_range limit number then (if nat_lt sum_limit (sum + number) then Err 6 else alone (Ok number) more) else alone (Err 3) more

-- the same of the first operand as it was read: reason 2 where it writes no number
abbrev pub of_operand : (limit sum_limit sum : ℕ) → Option ℕ → List (List ℕ) → Result ℕ ℕ
of_operand limit sum_limit sum None more = Err 2
of_operand limit sum_limit sum (Some number) more = of_number limit sum_limit sum number more

-- the one number that the operands are, or a reason; reason 2 where there is no operand
abbrev pub counted : (limit sum_limit sum : ℕ) → List (List ℕ) → Result ℕ ℕ
counted limit sum_limit sum [] = Err 2
counted limit sum_limit sum (word ∷ more) = of_operand limit sum_limit sum (number_of word) more

-- a RUN of that number
abbrev pub run_of : Result ℕ ℕ → Reading
run_of (Ok number) = Good (Some (Run number))
run_of (Err reason) = Faults reason

-- a TICK of that number
abbrev pub tick_of : Result ℕ ℕ → Reading
tick_of (Ok number) = Good (Some (Tick number))
tick_of (Err reason) = Faults reason

-- a PREEMPT of the one word that the operands are
abbrev pub preempt_of : List (List ℕ) → Reading
preempt_of [] = Faults 2
preempt_of (name ∷ []) = Good (Some (Preempt name))
preempt_of (name ∷ other ∷ more) = Faults 2

-- this where there is a channel of the number, and else reason 3
abbrev pub for_channel : ℕ → Reading → Reading
for_channel channel line = if nat_lt channel CHANNEL_COUNT then line else Faults 3

-- an INPUT of what a text gives to the channel of this number; reason 2 comes before reason 3, and reason 5 behind it
abbrev pub given_to : ℕ → Given → Reading
given_to channel (Data data_) = for_channel channel (Good (Some (Input channel data_)))
given_to channel Malformed = Faults 2
given_to channel Open = for_channel channel (Faults 5)

-- the same of the first operand as it was read: reason 2 where it writes no number
abbrev pub given_to_operand : Option ℕ → Given → Reading
given_to_operand None gift = Faults 2
given_to_operand (Some channel) gift = given_to channel gift

-- an INPUT with these operands, and the text that stands behind the first one: reason 4 where a line of another kind stood before, reason 2 where the
-- channel or the text is wanting
abbrev pub input_of : (begun : Bool) → List (List ℕ) → List ℕ → Reading
input_of true operands text = Faults 4
input_of false [] text = Faults 2
input_of false (channel ∷ []) text = Faults 2
input_of false (channel ∷ first ∷ more) text = given_to_operand (number_of channel) (given text)

-- which kind of line a first word begins
abbrev pub keyword_of : List ℕ → Option Keyword
keyword_of word =
    if bytes_eq word (codes "RUN") then Some Runs
    else (if bytes_eq word (codes "TICK") then Some Ticks
    else (if bytes_eq word (codes "PREEMPT") then Some Preempts else (if bytes_eq word (codes "INPUT") then Some Inputs else None)))

-- a line of that kind with these operands, and the text behind the first one; reason 1 where the first word is unknown
abbrev pub of_keyword : SoFar → Option Keyword → List (List ℕ) → List ℕ → Reading
of_keyword so_far None operands text = Faults 1
of_keyword so_far (Some Runs) operands text = run_of (counted RUN_LIMIT RUN_SUM_LIMIT so_far.events operands)
of_keyword so_far (Some Ticks) operands text = tick_of (counted TICK_LIMIT TICK_SUM_LIMIT so_far.time operands)
of_keyword so_far (Some Preempts) operands text = preempt_of operands
of_keyword so_far (Some Inputs) operands text = input_of so_far.begun operands text

-- what the words say, and the text behind the second one; a line without words asks for nothing
abbrev pub of_words : SoFar → List (List ℕ) → List ℕ → Reading
of_words so_far [] text = Good None
of_words so_far (first ∷ operands) text = of_keyword so_far (keyword_of first) operands text

-- reason 5 comes after those that the words give: there is a byte outside 32 to 126
abbrev pub of_bytes : Bool → Reading → Reading
of_bytes printable (Good asked) = if printable then Good asked else Faults 5
of_bytes printable (Faults reason) = Faults reason

-- what the line is; the one after the last that a script may have is refused for reason 6, whatever it says
abbrev pub reading : SoFar → List ℕ → Reading
reading so_far line =
    if nat_le SCRIPT_LINE_LIMIT so_far.line_count then Faults 6
    else of_bytes (is_printable line) (of_words so_far (words line) (behind_word (behind_word line)))

-- how many events a line that may be empty asks for
abbrev pub events_of : Option ScriptLine → ℕ
events_of None = 0
events_of (Some line) = asked_events line

-- how far a line that may be empty moves the clock
abbrev pub time_of : Option ScriptLine → ℕ
time_of None = 0
time_of (Some line) = asked_time line

-- whether a line of another kind than INPUT has stood, after a line that may be empty; whether one stood before that line is told
abbrev pub begun_after : Bool → Option ScriptLine → Bool
begun_after begun None = begun
begun_after begun (Some line) = begun || not (is_input line)

-- how far the script has come after a good line
abbrev pub past : SoFar → Option ScriptLine → SoFar
past so_far asked = record {
  line_count = so_far.line_count + 1;
  begun = begun_after so_far.begun asked;
  events = so_far.events + events_of asked;
  time = so_far.time + time_of asked;
}
