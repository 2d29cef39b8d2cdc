-- PICK and PATCH take right values of the sorts that they take.
use Rattle.std.specs.Prelude.{◌≡◌, true, drop, List, [], ◌∷◌, Option, Some, None}
use Rattle.std.specs.Option.{option_and_then}
use Rattle.std.proofs.Common.{ap, ◌∙◌}
use Rattle.hal_values.specs.declared.value.Kind.{Kind}
use Rattle.hal_values.specs.declared.value.Kind.TheVariants as kind
use Rattle.hal_values.specs.declared.value.Value.{Value}
use Rattle.hal_values.specs.declared.value.Value.TheVariants as value
use Rattle.hal_operations.specs.declared.part.Part.{Part}
use Rattle.hal_operations.specs.Operands.{TakesPart}
use Rattle.hal_code.specs.declared.choice.Choice.{Choice}
use Rattle.hal_code.specs.declared.choice.Choice.TheVariants as choice
use Rattle.hal_code.specs.declared.operand.Places.{Places}
use Rattle.hal_code.specs.declared.operand.Places.TheVariants as places
use Rattle.hal_code.specs.Computing.{part_taken}
use Rattle.hal_code.specs.Cores.{Operand, Val, At, Area}
use Rattle.hal_code.specs.Effects.{Sorts, places_taken, picked_sorts, patched_sorts}
use Rattle.hal_code.specs.Sorts.{A, sort_of, takes_part}
use Rattle.hal_sound_code.specs.Lying.{sort_of_value, sorts_of}
use Rattle.hal_sound_code.proofs.Taking.{some_is, if_taken, then_taken}
use Rattle.hal_sound_values.specs.Right.{IsRight}
use Rattle.hal_right_values.specs.Fitting.{PlacesOn, HasPlaces, PickFits, value_on, AreTaken, AllTaken, PatchFits, ChosenFits}
use Rattle.hal_right_values.specs.Holding.{AreRightOperands}
use Rattle.hal_right_values.proofs.Computing.{LeavesPart, part_leaves}

-- the sorts of what lies below the places of a part
abbrev LeavesSorts : Sorts → Option (Part × List Operand) → Type 0
LeavesSorts left None = Unit {0}
LeavesSorts left (Some got) = sorts_of got.1 ≡ left

part_sorts : (chosen : Places) (stack : List Operand) (left : Sorts) → places_taken (choice.Known chosen) (sorts_of stack) ≡ Some left → LeavesSorts left (part_taken chosen stack)
part_sorts places.One [] left e = tt
part_sorts places.One (Val (value.Int a) ∷ stack) left e = some_is (sorts_of stack) left e
part_sorts places.One (Val (value.Bits len word) ∷ stack) left e = absurd (cc)
part_sorts places.One (Val (value.Text text) ∷ stack) left e = absurd (cc)
part_sorts places.One (At at k ∷ stack) left e = tt
part_sorts places.One (Area at shape ∷ stack) left e = tt
part_sorts places.To [] left e = tt
part_sorts places.To (Val v ∷ []) left e = tt
part_sorts places.To (Val (value.Int a) ∷ Val (value.Int b) ∷ stack) left e = some_is (sorts_of stack) left e
part_sorts places.To (Val (value.Int a) ∷ Val (value.Bits len word) ∷ stack) left e = absurd (cc)
part_sorts places.To (Val (value.Int a) ∷ Val (value.Text text) ∷ stack) left e = absurd (cc)
part_sorts places.To (Val (value.Bits len word) ∷ Val w ∷ stack) left e = absurd (cc)
part_sorts places.To (Val (value.Text text) ∷ Val w ∷ stack) left e = absurd (cc)
part_sorts places.To (Val v ∷ At at k ∷ stack) left e = tt
part_sorts places.To (Val v ∷ Area at shape ∷ stack) left e = tt
part_sorts places.To (At at k ∷ stack) left e = tt
part_sorts places.To (Area at shape ∷ stack) left e = tt
part_sorts places.At [] left e = tt
part_sorts places.At (Val v ∷ []) left e = tt
part_sorts places.At (Val (value.Int a) ∷ Val (value.Int b) ∷ stack) left e = some_is (sorts_of stack) left e
part_sorts places.At (Val (value.Int a) ∷ Val (value.Bits len word) ∷ stack) left e = absurd (cc)
part_sorts places.At (Val (value.Int a) ∷ Val (value.Text text) ∷ stack) left e = absurd (cc)
part_sorts places.At (Val (value.Bits len word) ∷ Val w ∷ stack) left e = absurd (cc)
part_sorts places.At (Val (value.Text text) ∷ Val w ∷ stack) left e = absurd (cc)
part_sorts places.At (Val v ∷ At at k ∷ stack) left e = tt
part_sorts places.At (Val v ∷ Area at shape ∷ stack) left e = tt
part_sorts places.At (At at k ∷ stack) left e = tt
part_sorts places.At (Area at shape ∷ stack) left e = tt

-- a part is picked of a string of bits or a text
places_on : (stack : List Operand) (after : Sorts) → AreRightOperands stack → picked_sorts (sorts_of stack) ≡ Some after → PlacesOn stack
places_on [] after right e = tt
places_on (Val (value.Int a) ∷ stack) after right e = absurd (cc)
places_on (Val (value.Bits len word) ∷ stack) after right e = right.0
places_on (Val (value.Text text) ∷ stack) after right e = tt
places_on (At at k ∷ stack) after right e = tt
places_on (Area at shape ∷ stack) after right e = tt

has_places : (o : Option (Part × List Operand)) (left after : Sorts) → LeavesPart o → LeavesSorts left o → picked_sorts left ≡ Some after → HasPlaces o
has_places None left after right is e = tt
has_places (Some got) left after right is e = places_on got.1 after right (ap picked_sorts is ∙ e)

pub pick_fits : (chosen : Choice Places) (stack : List Operand) (after : Sorts) → AreRightOperands stack → option_and_then picked_sorts (places_taken chosen (sorts_of stack)) ≡ Some after → ChosenFits PickFits chosen stack
pick_fits (choice.Known chosen) stack after right e = of_left (then_taken picked_sorts (places_taken (choice.Known chosen) (sorts_of stack)) after e)
  where
    of_left : (left : Sorts) × (places_taken (choice.Known chosen) (sorts_of stack) ≡ Some left) × (picked_sorts left ≡ Some after) → HasPlaces (part_taken chosen stack)
    of_left known = has_places (part_taken chosen stack) known.0 after (part_leaves chosen stack right) (part_sorts chosen stack known.0 known.1) known.2
pick_fits (choice.Other byte) stack after right e = tt

-- a part is replaced by a value that it takes
part_takes : (k : Kind) (old new : Value) → IsRight old → IsRight new → takes_part k (sort_of_value old) (sort_of_value new) ≡ true → TakesPart old new
part_takes (kind.Bits n) (value.Bits len word) (value.Bits m x) h g e = (h, g)
part_takes (kind.Text n) (value.Text text) (value.Int a) h g e = tt
part_takes (kind.Text n) (value.Text text) (value.Text other) h g e = tt
part_takes kind.Single old new h g e = absurd (cc)
part_takes kind.Double old new h g e = absurd (cc)
part_takes (kind.Bits n) (value.Int a) new h g e = absurd (cc)
part_takes (kind.Bits n) (value.Text text) new h g e = absurd (cc)
part_takes (kind.Bits n) (value.Bits len word) (value.Int a) h g e = absurd (cc)
part_takes (kind.Bits n) (value.Bits len word) (value.Text text) h g e = absurd (cc)
part_takes (kind.Text n) (value.Int a) new h g e = absurd (cc)
part_takes (kind.Text n) (value.Bits len word) new h g e = absurd (cc)
part_takes (kind.Text n) (value.Text text) (value.Bits len word) h g e = absurd (cc)

patch_takes : (stack : List Operand) (after : Sorts) → AreRightOperands stack → patched_sorts (sorts_of stack) ≡ Some after → AreTaken (value_on stack) (value_on (drop 2 stack))
patch_takes [] after right e = tt
patch_takes (Val old ∷ []) after right e = tt
patch_takes (Val old ∷ one ∷ []) after right e = tt
patch_takes (Val old ∷ At at k ∷ Val new ∷ stack) after right e = part_takes k old new right.0 right.1.1.0 (if_taken (takes_part k (sort_of_value old) (sort_of_value new)) (A k ∷ sort_of k ∷ sorts_of stack) after e).0
patch_takes (Val old ∷ Val (value.Int a) ∷ Val new ∷ stack) after right e = absurd (cc)
patch_takes (Val old ∷ Val (value.Bits len word) ∷ Val new ∷ stack) after right e = absurd (cc)
patch_takes (Val old ∷ Val (value.Text text) ∷ Val new ∷ stack) after right e = absurd (cc)
patch_takes (Val old ∷ Area at shape ∷ Val new ∷ stack) after right e = absurd (cc)
patch_takes (Val old ∷ one ∷ At at k ∷ stack) after right e = tt
patch_takes (Val old ∷ one ∷ Area at shape ∷ stack) after right e = tt
patch_takes (At at k ∷ stack) after right e = tt
patch_takes (Area at shape ∷ stack) after right e = tt

all_taken : (o : Option (Part × List Operand)) (left after : Sorts) → LeavesPart o → LeavesSorts left o → patched_sorts left ≡ Some after → AllTaken o
all_taken None left after right is e = tt
all_taken (Some got) left after right is e = patch_takes got.1 after right (ap patched_sorts is ∙ e)

pub patch_fits : (chosen : Choice Places) (stack : List Operand) (after : Sorts) → AreRightOperands stack → option_and_then patched_sorts (places_taken chosen (sorts_of stack)) ≡ Some after → ChosenFits PatchFits chosen stack
patch_fits (choice.Known chosen) stack after right e = of_left (then_taken patched_sorts (places_taken (choice.Known chosen) (sorts_of stack)) after e)
  where
    of_left : (left : Sorts) × (places_taken (choice.Known chosen) (sorts_of stack) ≡ Some left) × (patched_sorts left ≡ Some after) → AllTaken (part_taken chosen stack)
    of_left known = all_taken (part_taken chosen stack) known.0 after (part_leaves chosen stack right) (part_sorts chosen stack known.0 known.1) known.2
patch_fits (choice.Other byte) stack after right e = tt
