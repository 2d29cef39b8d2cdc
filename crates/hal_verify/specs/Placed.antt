-- The own places that blocks may name, by their process.
use Rattle.std.specs.Prelude.{ℕ, ◌==◌, List, if◌then◌else◌}
use Rattle.hal_code.specs.declared.image.ImageParts.{ImageParts}
use Rattle.hal_code.specs.declared.row.OwnPlace.{OwnPlace}
use Rattle.hal_code.specs.Images.{expanded, places_of}

-- those of a process, and for common blocks, whose process is 255, the common ones
abbrev pub places_for : ImageParts → ℕ → List OwnPlace
places_for image p = if p == 255 then expanded image.common else places_of image p
