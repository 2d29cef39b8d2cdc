-- What expressions use where they stand.
use Rattle.std.specs.Prelude.{ℕ, Bool}

-- which units may be called; whether it may be asked what events and the clock are; and how many events there are
pub record Uses : Type 0 where
  pub calls : ℕ → Bool
  pub asks : Bool
  pub events : ℕ
