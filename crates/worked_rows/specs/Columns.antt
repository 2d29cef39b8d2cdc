-- The columns of the worked units.
use Rattle.std.specs.Prelude.{ℕ}
use Rattle.hal_base.specs.declared.refusal.Place.{Place}
use Rattle.hal_words.specs.Lines.{place_at}

-- a column of the one line of the one unit
abbrev pub column : ℕ → Place
column number = place_at 0 1 number
