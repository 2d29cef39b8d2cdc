-- What an error meets, as the definitions see it.
use Rattle.hal_values.specs.Searching as searching
use Rattle.hal_errors.specs.declared.found.Found.{Found}
use Rattle.hal_errors.specs.declared.found.Found.TheVariants as found

abbrev pub found_seen : Found → searching.Found
found_seen (found.BySystem side) = searching.BySystem side
found_seen (found.Ignored side) = searching.Ignored side
found_seen (found.ByStatement level target) = searching.ByStatement level target
