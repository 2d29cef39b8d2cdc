-- When an image stands for a set: its tables are those of the set, and the code of each process stands there.
use Rattle.std.specs.Prelude.{◌≡◌, ℕ, ◌<◌, map, false, Option, Some}
use Rattle.hal_values.specs.Tables.{process_count}
use Rattle.hal_meaning.specs.Bodies.{Body}
use Rattle.hal_meaning.specs.Sets.{Set}
use Rattle.hal_meaning.specs.Runs as tree
use Rattle.hal_meaning.specs.Runs.{here_in, process_body, places_of_process, in_function}
use Rattle.hal_code.specs.declared.image.ImageParts.{ImageParts}
use Rattle.hal_code.specs.Images as machine
use Rattle.hal_code.specs.Images.{tables_of, places_of, first_of}
use Rattle.hal_code.specs.Forward.{IsForward}
use Rattle.hal_agreement.specs.Sites.{site_of}
use Rattle.hal_agreement.specs.PlacedBlocks.{UnitsAt, ProcessAt}

-- the process with this number, whose unit is this one: its own places begin as the image says, its code stands there, and so does that of the units that it
-- calls, each in the block with this number
pub record IsPlacedProcess (s : Set) (image : ImageParts) (p : ℕ) : Type 0 where
  pub body : Body
  pub found : process_body s p ≡ Some body
  pub plain : in_function (here_in s p (places_of_process s p) body) ≡ false
  pub places : map machine.held_first (places_of image p) ≡ map tree.held_first (places_of_process s p)
  pub block : ℕ → Option ℕ
  pub units : UnitsAt (record { image = image; block = block }) s (places_of_process s p)
  pub spot : ℕ → ℕ
  pub code : ProcessAt (record { image = image; block = block }) (first_of image p) (site_of (here_in s p (places_of_process s p) body)) 0 body.statements spot

-- the image
pub record IsPlaced (s : Set) (image : ImageParts) : Type 0 where
  pub tables : tables_of image ≡ s.tables
  pub forward : IsForward image.code
  pub processes : (p : ℕ) → p < process_count s.tables → IsPlacedProcess s image p
