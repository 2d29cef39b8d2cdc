-- What the jumps of a statement ask for: that statements begin where they lead to, and that RETURN may stand where it does.
use Rattle.std.specs.Prelude.{◌≡◌, ℕ, false, List, [], Option, Some}
use Rattle.hal_code.specs.declared.image.ImageParts.{ImageParts}
use Rattle.hal_code.specs.Blocks.{is_of_process}
use Rattle.hal_code.specs.Effects.{Sorts, returned_sorts}
use Rattle.hal_agreement.specs.PlacedStatements.{Exits, Leaving, ToFinish, ByReturn, ByResult, NoReturn, exit_of, again_of}
use Rattle.hal_fitting.specs.Fitting.{Ground}
use Rattle.hal_fitting.specs.Leading.{IsAhead}

-- statements in the same UPDATE block begin where EXIT and REPEAT lead to from before an address, and RETURN of a process, which is there or further on
pub record Asked (image : ImageParts) (g : Ground) (part : Option ℕ) (exits : Exits) (behind : ℕ) : Type 0 where
  pub leaves : (label : Option (List ℕ)) (target : ℕ) → exit_of exits.groups label ≡ Some target → IsAhead image g part behind target
  pub repeats : (label : Option (List ℕ)) (target : ℕ) → again_of exits.groups label ≡ Some target → IsAhead image g part behind target
  pub finishes : (target : ℕ) → exits.leaving ≡ ToFinish target → IsAhead image g part behind target

-- RETURN may stand in a block that is left so: it is no process's, no UPDATE block is open, and without a value there is none to give
abbrev pub MayLeave : ImageParts → Ground → Leaving → Type 0
MayLeave image g (ToFinish at) = Unit {0}
MayLeave image g ByReturn = (g.inside ≡ false) × (is_of_process image g.number ≡ false) × (left : Sorts) × (returned_sorts g.block.result [] ≡ Some left)
MayLeave image g ByResult = (g.inside ≡ false) × (is_of_process image g.number ≡ false)
MayLeave image g NoReturn = Unit {0}
