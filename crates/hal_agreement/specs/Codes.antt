-- Code that units were compiled to.
use Rattle.std.specs.Prelude.{ℕ, Option}
use Rattle.hal_code.specs.declared.image.ImageParts.{ImageParts}

-- an image, and the number of the block of each unit that is called in it
pub record Code : Type 0 where
  pub image : ImageParts
  pub block : ℕ → Option ℕ
