-- The limits of scripts.
use Rattle.std.specs.Prelude.{ℕ, ◌≤◌, Bool, false, true, List, [], ◌∷◌, length, sum, map}
use Rattle.hal_base.specs.declared.limits.TheConstants.{SCRIPT_LINE_LIMIT, RUN_LIMIT, RUN_SUM_LIMIT, TICK_LIMIT, TICK_SUM_LIMIT}
use Rattle.exec_model.specs.declared.script.ScriptLine.{ScriptLine}
use Rattle.exec_model.specs.declared.script.ScriptLine.TheVariants.{Run, Tick, Preempt, Input}

-- how many events a line asks for
abbrev pub asked_events : ScriptLine → ℕ
asked_events (Run count) = count
asked_events (Tick time) = 0
asked_events (Preempt name) = 0
asked_events (Input channel data_) = 0

-- how far a line moves the clock
abbrev pub asked_time : ScriptLine → ℕ
asked_time (Run count) = 0
asked_time (Tick time) = time
asked_time (Preempt name) = 0
asked_time (Input channel data_) = 0

-- the line gives data to a channel
abbrev pub is_input : ScriptLine → Bool
is_input (Run count) = false
is_input (Tick time) = false
is_input (Preempt name) = false
is_input (Input channel data_) = true

-- the last channel
abbrev pub last_channel : ℕ
last_channel = 31

-- the line's numbers are in their ranges
abbrev pub IsLine : ScriptLine → Type 0
IsLine (Run count) = (1 ≤ count) × (count ≤ RUN_LIMIT)
IsLine (Tick time) = (1 ≤ time) × (time ≤ TICK_LIMIT)
IsLine (Preempt name) = Unit {0}
IsLine (Input channel data_) = channel ≤ last_channel

-- each line's numbers are in their ranges
abbrev pub AreLines : List ScriptLine → Type 0
AreLines [] = Unit {0}
AreLines (line ∷ lines) = IsLine line × AreLines lines

-- no line gives data to a channel
abbrev pub HasNoInput : List ScriptLine → Type 0
HasNoInput [] = Unit {0}
HasNoInput (Run count ∷ lines) = HasNoInput lines
HasNoInput (Tick time ∷ lines) = HasNoInput lines
HasNoInput (Preempt name ∷ lines) = HasNoInput lines
HasNoInput (Input channel data_ ∷ lines) = ⊥

-- lines that give data stand before all others
abbrev pub IsInputFirst : List ScriptLine → Type 0
IsInputFirst [] = Unit {0}
IsInputFirst (Run count ∷ lines) = HasNoInput lines
IsInputFirst (Tick time ∷ lines) = HasNoInput lines
IsInputFirst (Preempt name ∷ lines) = HasNoInput lines
IsInputFirst (Input channel data_ ∷ lines) = IsInputFirst lines

-- the lines keep the limits of scripts
pub record IsScript (lines : List ScriptLine) : Type 0 where
  pub few : length lines ≤ SCRIPT_LINE_LIMIT
  pub ranges : AreLines lines
  pub events : sum (map asked_events lines) ≤ RUN_SUM_LIMIT
  pub time : sum (map asked_time lines) ≤ TICK_SUM_LIMIT
  pub order : IsInputFirst lines
