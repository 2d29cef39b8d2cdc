-- The place of a process in its lists, as the code goes along them.
use Rattle.exec_rows.specs.declared.place.Place.{Place}
use Rattle.exec_rows.specs.declared.place.Place.TheVariants as place
use Rattle.exec_rows.specs.Scripting.{Point, Before, Within}

-- the place, as the definitions see it
abbrev pub place_point : Place → Point
place_point (place.Before cycles) = Before cycles.now
place_point (place.Within asks cycles) = Within asks.now cycles.now
