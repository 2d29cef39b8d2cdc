-- Operands of instructions are read as they are spelled.
use Rattle.std.proofs.Common.{◌≡◌, ℕ, ◌^◌, ◌<◌, List, ◌++◌, Some, refl}
use Rattle.hal_code.specs.declared.operand.Delay.{Delay}
use Rattle.hal_code.specs.declared.operand.Delay.TheVariants as delay
use Rattle.hal_code.specs.declared.operand.Limit.{Limit}
use Rattle.hal_code.specs.declared.operand.Limit.TheVariants as limit
use Rattle.hal_code.specs.declared.operand.Round.{Round}
use Rattle.hal_code.specs.declared.operand.Round.TheVariants as round
use Rattle.hal_code.specs.declared.operand.Start.{Start}
use Rattle.hal_code.specs.declared.operand.Start.TheVariants as start
use Rattle.hal_code.specs.declared.operand.Time.{Time}
use Rattle.hal_code.specs.declared.operand.Time.TheVariants as time
use Rattle.hal_object.specs.Numbers.{in_four, in_eight}
use Rattle.hal_object.specs.Operands.{time_bytes, FitsTime, when_bytes, FitsWhen, round_bytes, FitsRound, limit_bytes, FitsLimit, delay_bytes, FitsDelay}
use Rattle.hal_object.specs.Fields.{byte_at, four_at, eight_at}
use Rattle.hal_object.specs.Reading.{time_rows, time_at, when_rows, when_at, round_rows, round_at, limit_rows, limit_at, delay_rows, delay_at}
use Rattle.hal_object.proofs.ReadingLaws.{Reads, four_reads, eight_reads, made_again, choice_takes, row_made, row_plain}

time_again : (a : Time) (rest : List ℕ) → FitsTime a → time_at (time_bytes a ++ rest) ≡ Some (a, rest)
unfolding time_at byte_at
time_again time.Absent rest f = refl
time_again time.Seconds rest f = refl
time_again (time.Milliseconds x) rest f = made_again time.Milliseconds eight_at (in_eight x ++ rest) x rest (eight_reads.again x rest f)

pub time_reads : Reads time_at time_bytes FitsTime
unfolding time_at
time_reads = record {
  takes = choice_takes time_rows time_bytes FitsTime (
    row_plain 0 time.Absent time_bytes FitsTime refl tt,
    (
      row_plain 1 time.Seconds time_bytes FitsTime refl tt,
      (
        row_made 2 time.Milliseconds eight_at in_eight (λ n. n < 2 ^ 64) time_bytes FitsTime (λ b f. refl) (λ b f. f) eight_reads,
        tt,
      ),
    ),
  );
  again = time_again;
}

when_again : (a : Start) (rest : List ℕ) → FitsWhen a → when_at (when_bytes a ++ rest) ≡ Some (a, rest)
unfolding when_at byte_at
when_again start.Now rest f = refl
when_again (start.At x) rest f = made_again start.At time_at (time_bytes x ++ rest) x rest (time_reads.again x rest f)
when_again (start.In x) rest f = made_again start.In time_at (time_bytes x ++ rest) x rest (time_reads.again x rest f)
when_again (start.On x) rest f = made_again start.On four_at (in_four x ++ rest) x rest (four_reads.again x rest f)

pub when_reads : Reads when_at when_bytes FitsWhen
unfolding when_at
when_reads = record {
  takes = choice_takes when_rows when_bytes FitsWhen (
    row_plain 0 start.Now when_bytes FitsWhen refl tt,
    (
      row_made 1 start.At time_at time_bytes FitsTime when_bytes FitsWhen (λ b f. refl) (λ b f. f) time_reads,
      (
        row_made 2 start.In time_at time_bytes FitsTime when_bytes FitsWhen (λ b f. refl) (λ b f. f) time_reads,
        (
          row_made 3 start.On four_at in_four (λ n. n < 2 ^ 32) when_bytes FitsWhen (λ b f. refl) (λ b f. f) four_reads,
          tt,
        ),
      ),
    ),
  );
  again = when_again;
}

round_again : (a : Round) (rest : List ℕ) → FitsRound a → round_at (round_bytes a ++ rest) ≡ Some (a, rest)
unfolding round_at byte_at
round_again round.Once rest f = refl
round_again round.Repeat rest f = refl
round_again (round.Every x) rest f = made_again round.Every time_at (time_bytes x ++ rest) x rest (time_reads.again x rest f)
round_again (round.After x) rest f = made_again round.After time_at (time_bytes x ++ rest) x rest (time_reads.again x rest f)

pub round_reads : Reads round_at round_bytes FitsRound
unfolding round_at
round_reads = record {
  takes = choice_takes round_rows round_bytes FitsRound (
    row_plain 0 round.Once round_bytes FitsRound refl tt,
    (
      row_plain 1 round.Repeat round_bytes FitsRound refl tt,
      (
        row_made 2 round.Every time_at time_bytes FitsTime round_bytes FitsRound (λ b f. refl) (λ b f. f) time_reads,
        (
          row_made 3 round.After time_at time_bytes FitsTime round_bytes FitsRound (λ b f. refl) (λ b f. f) time_reads,
          tt,
        ),
      ),
    ),
  );
  again = round_again;
}

limit_again : (a : Limit) (rest : List ℕ) → FitsLimit a → limit_at (limit_bytes a ++ rest) ≡ Some (a, rest)
unfolding limit_at byte_at
limit_again limit.Free rest f = refl
limit_again (limit.While x) rest f = made_again limit.While four_at (in_four x ++ rest) x rest (four_reads.again x rest f)
limit_again (limit.Until x) rest f = made_again limit.Until four_at (in_four x ++ rest) x rest (four_reads.again x rest f)
limit_again (limit.UntilTime x) rest f = made_again limit.UntilTime time_at (time_bytes x ++ rest) x rest (time_reads.again x rest f)

pub limit_reads : Reads limit_at limit_bytes FitsLimit
unfolding limit_at
limit_reads = record {
  takes = choice_takes limit_rows limit_bytes FitsLimit (
    row_plain 0 limit.Free limit_bytes FitsLimit refl tt,
    (
      row_made 1 limit.While four_at in_four (λ n. n < 2 ^ 32) limit_bytes FitsLimit (λ b f. refl) (λ b f. f) four_reads,
      (
        row_made 2 limit.Until four_at in_four (λ n. n < 2 ^ 32) limit_bytes FitsLimit (λ b f. refl) (λ b f. f) four_reads,
        (
          row_made 3 limit.UntilTime time_at time_bytes FitsTime limit_bytes FitsLimit (λ b f. refl) (λ b f. f) time_reads,
          tt,
        ),
      ),
    ),
  );
  again = limit_again;
}

delay_again : (a : Delay) (rest : List ℕ) → FitsDelay a → delay_at (delay_bytes a ++ rest) ≡ Some (a, rest)
unfolding delay_at byte_at
delay_again (delay.For x) rest f = made_again delay.For time_at (time_bytes x ++ rest) x rest (time_reads.again x rest f)
delay_again (delay.Until x) rest f = made_again delay.Until time_at (time_bytes x ++ rest) x rest (time_reads.again x rest f)
delay_again (delay.Event x) rest f = made_again delay.Event four_at (in_four x ++ rest) x rest (four_reads.again x rest f)
delay_again delay.Dependents rest f = refl

pub delay_reads : Reads delay_at delay_bytes FitsDelay
unfolding delay_at
delay_reads = record {
  takes = choice_takes delay_rows delay_bytes FitsDelay (
    row_made 0 delay.For time_at time_bytes FitsTime delay_bytes FitsDelay (λ b f. refl) (λ b f. f) time_reads,
    (
      row_made 1 delay.Until time_at time_bytes FitsTime delay_bytes FitsDelay (λ b f. refl) (λ b f. f) time_reads,
      (
        row_made 2 delay.Event four_at in_four (λ n. n < 2 ^ 32) delay_bytes FitsDelay (λ b f. refl) (λ b f. f) four_reads,
        (
          row_plain 3 delay.Dependents delay_bytes FitsDelay refl tt,
          tt,
        ),
      ),
    ),
  );
  again = delay_again;
}
