-- How many values initial values give.
use Rattle.std.specs.Prelude.{ℕ}
use Rattle.hal_grammar.specs.Declarations.{Initial, Value, LiteralTimes, NameTimes, ListTimes, Initials, NoInitials, MoreInitials}
use Rattle.hal_sizes.specs.Counts.{add, times}

unfoldable mutual
  -- an initial value with its repetition
  pub count_of : Initial → ℕ
  count_of (Value value) = 1
  count_of (LiteralTimes place count sign at literal) = count
  count_of (NameTimes place count sign name) = count
  count_of (ListTimes place count values) = times count (count_with 0 values)

  -- so many values, and those of initial values
  pub count_with : ℕ → Initials → ℕ
  count_with total NoInitials = total
  count_with total (MoreInitials first others) = count_with (add total (count_of first)) others

-- initial values
abbrev pub count_of_all : Initials → ℕ
count_of_all values = count_with 0 values
