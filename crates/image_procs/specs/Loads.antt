-- An image as a load.
use Rattle.hal_values.specs.Loads.{Meaning, IsLoad}
use Rattle.hal_code.specs.Courses.{load_of}
use Rattle.hal_code.proofs.Loading.{image_is_load}
use Rattle.hal_code.proofs.RightTables.{right_tables}
use Rattle.image_procs.specs.declared.load.ImageLoad.{ImageLoad}

-- what the load means
abbrev pub meaning : ImageLoad → Meaning
meaning load = load_of load.turns load.image

pub load_is_load : (load : ImageLoad) → IsLoad (meaning load)
load_is_load load = image_is_load load.turns load.image (right_tables load.image load.right) load.few
