-- What one subscript chooses among the copies, or the places of a dimension.
use Rattle.std.specs.Prelude.{ℕ, suc, ◌+◌, ◌-◌, nat_le, ℤ, ◌&&◌, List, Option, Some, None, if◌then◌else◌}
use Rattle.hal_base.specs.declared.refusal.Place.{Place}
use Rattle.hal_grammar.specs.Expressions.{Expression, Sub, Every, One, Range, Portion, Position, FromBeginning, FromEnd, place_of}
use Rattle.hal_phrases.specs.Phrases.{Phrase}
use Rattle.hal_values.specs.declared.value.Value.{Value}
use Rattle.hal_values.specs.declared.value.Value.TheVariants as value
use Rattle.hal_constants.specs.declared.constant.Constant.{Constant}
use Rattle.hal_constants.specs.declared.constant.Constant.TheVariants as constant
use Rattle.hal_constants.specs.Constants.{constant_of, summed}
use Rattle.hal_constants.specs.Results.{whole, worse}
use Rattle.hal_constants.specs.Known.{Known, size_of_integer}
use Rattle.hal_shapes.specs.declared.reach.Reach.{Reach}
use Rattle.hal_shapes.specs.declared.reach.Reach.TheVariants as reach

-- a bound that is no value
unfoldable pub unreached : Constant → Reach
unreached constant.Open = reach.Outside
unreached constant.Failed = reach.Outside
unreached other = reach.Unfit

-- from one place to another, where both are inside
unfoldable pub between_places : Option ℕ → Option ℕ → Reach
between_places (Some a) (Some b) = if nat_le 1 a && nat_le a b then reach.Many (suc b - a) else reach.Outside
between_places a b = reach.Outside

-- from one place to another, of so many
abbrev pub between : ℕ → ℤ → ℤ → Reach
between size i j = between_places (size_of_integer size i) (size_of_integer size j)

unfoldable pub between_values : ℕ → Value → Value → Reach
between_values size (value.Int i) (value.Int j) = between size i j
between_values size v w = reach.Unfit

unfoldable pub reach_to : ℕ → Constant → Constant → Reach
reach_to size (constant.Worth v) (constant.Worth w) = between_values size v w
reach_to size c d = unreached (worse c d)

-- so many places from one on, where both are inside
unfoldable pub starting_places : ℕ → Option ℕ → Option ℕ → Reach
starting_places size (Some n) (Some i) = if nat_le (n + i) (suc size) then reach.Many n else reach.Outside
starting_places size n i = reach.Outside

-- so many places from one on, of so many
abbrev pub starting : ℕ → ℤ → ℤ → Reach
starting size n i = starting_places size (size_of_integer size n) (size_of_integer size i)

unfoldable pub starting_values : ℕ → Value → Value → Reach
starting_values size (value.Int n) (value.Int i) = starting size n i
starting_values size v w = reach.Unfit

unfoldable pub reach_from : ℕ → Constant → Constant → Reach
reach_from size (constant.Worth v) (constant.Worth w) = starting_values size v w
reach_from size c d = unreached (worse c d)

-- a place among so many; `#` is the last one
unfoldable pub position_in : List Phrase → Known → Phrase → ℕ → Position → Constant
position_in ps vs p size (FromBeginning tree) = constant_of ps vs p tree
position_in ps vs p size (FromEnd place terms) = summed ps vs p (whole size) terms

-- one subscript among so many places, in a phrase
unfoldable pub reach_of : List Phrase → Known → Phrase → ℕ → Sub → Reach
reach_of ps vs p size (Every place) = reach.Many size
reach_of ps vs p size (One position) = reach.One
reach_of ps vs p size (Range first last) = reach_to size (position_in ps vs p size first) (position_in ps vs p size last)
reach_of ps vs p size (Portion count first) = reach_from size (constant_of ps vs p count) (position_in ps vs p size first)

-- where a subscript stands
unfoldable pub place_of_position : Position → Place
place_of_position (FromBeginning tree) = place_of tree
place_of_position (FromEnd place terms) = place

unfoldable pub place_of_sub : Sub → Place
place_of_sub (Every place) = place
place_of_sub (One position) = place_of_position position
place_of_sub (Range first last) = place_of_position first
place_of_sub (Portion count first) = place_of count
