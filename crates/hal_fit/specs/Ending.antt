-- What is known of the beginning and the end of a unit that is called.
use Rattle.std.specs.Prelude.{◌≡◌, ℕ, suc, Bool, true, false, List, [], ◌∷◌}
use Rattle.hal_code.specs.declared.image.ImageParts.{ImageParts}
use Rattle.hal_code.specs.declared.row.Block.{Block}
use Rattle.hal_code.specs.Blocks.{block_places}
use Rattle.hal_code.specs.Memory.{are_data}

-- places that CLEAR instructions name are data
abbrev pub ClearsFit : ImageParts → Block → List (ℕ × ℕ) → Type 0
ClearsFit image block [] = Unit {0}
ClearsFit image block (one ∷ others) = (are_data (block_places image block) one.0 one.1 ≡ true) × ClearsFit image block others

-- where the row of a unit ends, of a FUNCTION or not, whose statements end at an address
abbrev pub end_behind : Bool → ℕ → ℕ
end_behind true finish = suc (suc (suc finish))
end_behind false finish = suc finish
