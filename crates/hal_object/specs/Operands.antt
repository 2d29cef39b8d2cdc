-- The operands of instructions that are no plain numbers, as bytes.
use Rattle.std.specs.Prelude.{ℕ, ◌<◌, ◌^◌, List, [], ◌∷◌}
use Rattle.hal_code.specs.declared.operand.Delay.{Delay}
use Rattle.hal_code.specs.declared.operand.Delay.TheVariants as delay
use Rattle.hal_code.specs.declared.operand.Limit.{Limit}
use Rattle.hal_code.specs.declared.operand.Limit.TheVariants as limit
use Rattle.hal_code.specs.declared.operand.Round.{Round}
use Rattle.hal_code.specs.declared.operand.Round.TheVariants as round
use Rattle.hal_code.specs.declared.operand.Start.{Start}
use Rattle.hal_code.specs.declared.operand.Start.TheVariants as start
use Rattle.hal_code.specs.declared.operand.Time.{Time}
use Rattle.hal_code.specs.declared.operand.Time.TheVariants as time
use Rattle.hal_object.specs.Numbers.{in_four, in_eight}

abbrev pub time_bytes : Time → List ℕ
time_bytes time.Absent = 0 ∷ []
time_bytes time.Seconds = 1 ∷ []
time_bytes (time.Milliseconds n) = 2 ∷ in_eight n

abbrev pub FitsTime : Time → Type 0
FitsTime time.Absent = Unit {0}
FitsTime time.Seconds = Unit {0}
FitsTime (time.Milliseconds n) = n < 2 ^ 64

abbrev pub when_bytes : Start → List ℕ
when_bytes start.Now = 0 ∷ []
when_bytes (start.At t) = 1 ∷ time_bytes t
when_bytes (start.In t) = 2 ∷ time_bytes t
when_bytes (start.On x) = 3 ∷ in_four x

abbrev pub FitsWhen : Start → Type 0
FitsWhen start.Now = Unit {0}
FitsWhen (start.At t) = FitsTime t
FitsWhen (start.In t) = FitsTime t
FitsWhen (start.On x) = x < 2 ^ 32

abbrev pub round_bytes : Round → List ℕ
round_bytes round.Once = 0 ∷ []
round_bytes round.Repeat = 1 ∷ []
round_bytes (round.Every t) = 2 ∷ time_bytes t
round_bytes (round.After t) = 3 ∷ time_bytes t

abbrev pub FitsRound : Round → Type 0
FitsRound round.Once = Unit {0}
FitsRound round.Repeat = Unit {0}
FitsRound (round.Every t) = FitsTime t
FitsRound (round.After t) = FitsTime t

abbrev pub limit_bytes : Limit → List ℕ
limit_bytes limit.Free = 0 ∷ []
limit_bytes (limit.While x) = 1 ∷ in_four x
limit_bytes (limit.Until x) = 2 ∷ in_four x
limit_bytes (limit.UntilTime t) = 3 ∷ time_bytes t

abbrev pub FitsLimit : Limit → Type 0
FitsLimit limit.Free = Unit {0}
FitsLimit (limit.While x) = x < 2 ^ 32
FitsLimit (limit.Until x) = x < 2 ^ 32
FitsLimit (limit.UntilTime t) = FitsTime t

abbrev pub delay_bytes : Delay → List ℕ
delay_bytes (delay.For t) = 0 ∷ time_bytes t
delay_bytes (delay.Until t) = 1 ∷ time_bytes t
delay_bytes (delay.Event x) = 2 ∷ in_four x
delay_bytes delay.Dependents = 3 ∷ []

abbrev pub FitsDelay : Delay → Type 0
FitsDelay (delay.For t) = FitsTime t
FitsDelay (delay.Until t) = FitsTime t
FitsDelay (delay.Event x) = x < 2 ^ 32
FitsDelay delay.Dependents = Unit {0}
