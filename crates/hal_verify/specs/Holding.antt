-- What is kept from one block to the next.
use Rattle.std.specs.Prelude.{◌≡◌, map}
use Rattle.hal_code.specs.declared.image.ImageParts.{ImageParts}
use Rattle.hal_code.specs.Images.{expanded}
use Rattle.hal_verify.specs.declared.held.Held.{Held}
use Rattle.hal_verify.specs.Placed.{places_for}
use Rattle.hal_verify.specs.Rooms.{room_of_place}

-- it is what stands at the own places of its process
abbrev pub IsHeld : ImageParts → Held → Type 0
IsHeld image held = expanded held.memory.runs.items ≡ map room_of_place (places_for image held.process)
