-- Control stands within the code, and shapes have few cells.
use Rattle.std.specs.Prelude.{◌≡◌, ℕ, ◌<◌, ◌≤◌, ◌==◌, ◌||◌, nat_le, length, Bool, true, false, List, [], Option, Some, None, slice_get}
use Rattle.std.specs.List.{list_all, sum_by}
use Rattle.std.proofs.Common.{refl, sym, subst, arith}
use Rattle.std.proofs.lemmas.Bool.{leb-true, and_parts}
use Rattle.std.proofs.lemmas.Option.{slice_get_within}
use Rattle.hal_values.specs.declared.value.Kind.{Kind}
use Rattle.hal_code.specs.declared.image.ImageParts.{ImageParts}
use Rattle.hal_code.specs.declared.instr.Instr.{Instr}
use Rattle.hal_code.specs.declared.row.Run.{Run}
use Rattle.hal_code.specs.Blocks.{is_common}
use Rattle.hal_code.specs.Cores.{Setting, Core}
use Rattle.hal_code.specs.Effects.{Sorts}
use Rattle.hal_code.specs.Images.{expanded, row_count, first_of, kinds_of}
use Rattle.hal_code.specs.Memory.{spread_limit}
use Rattle.hal_code.specs.Right.{shape_right}
use Rattle.hal_sound_code.specs.Lying.{sorts_of}
use Rattle.hal_sound_code.specs.Standing.{Stands}
use Rattle.hal_sound_code.specs.Typed.{IsTyped}
use Rattle.hal_sound_code.proofs.Points.{Faces, faces}
use Rattle.hal_sound_code.proofs.Rights.{Whole}
use Rattle.hal_sound_code.proofs.Rows.{Runs, runs, begins}
use Rattle.hal_right_values.proofs.Grounds.{shapes_whole}
use Rattle.hal_right_values.proofs.Rooms.{expanded_length, sum_at}

-- where control may stand there is an instruction
stands_within : (s : Setting) → Whole s.image → (number : ℕ) (inside : Bool) (at : ℕ) (sorts : Sorts) → Stands s number inside at sorts → at < length s.image.code
stands_within s all number inside at sorts stands = facing (faces s all number inside at sorts stands)
  where
    facing : (i : Instr) × Faces s number inside at sorts i → at < length s.image.code
    facing known = slice_get_within s.image.code at known.0 known.1.in_code

pub at_within : (s : Setting) → Whole s.image → (c : Core) → IsTyped s c → c.at < length s.image.code
at_within s all c typed = stands_within s all typed.number typed.inside c.at (sorts_of c.stack) typed.stands

pub begin_within : (s : Setting) → Whole s.image → s.process < length s.image.processes → first_of s.image s.process < length s.image.code
begin_within s all exists = of_block (runs s all exists)
  where
    one_own : (a b : Bool) → b ≡ true → (a || b) ≡ true
    one_own true b e = refl
    one_own false b e = e

    of_block : Runs s → first_of s.image s.process < length s.image.code
    of_block r = subst (λ n. n < length s.image.code) (sym r.first) (stands_within s all r.number false r.block.first [] (begins s all r.number r.block r.row (one_own (is_common r.block) (r.block.process == s.process) r.own)))

-- the cells of a shape
pub shape_few : (image : ImageParts) → Whole image → (shape : ℕ) → length (kinds_of image shape) ≤ spread_limit
shape_few image all shape = of_shape (slice_get image.shapes shape) refl
  where
    few : sum_by (λ (runs : List (Run Kind)). row_count runs) image.shapes ≤ spread_limit
    few = leb-true (sum_by (λ (runs : List (Run Kind)). row_count runs) image.shapes) spread_limit (and_parts (list_all shape_right image.shapes) (nat_le (sum_by (λ (runs : List (Run Kind)). row_count runs) image.shapes) spread_limit) (shapes_whole image all)).1

    of_shape : (o : Option (List (Run Kind))) → slice_get image.shapes shape ≡ o → length {A = Kind} (elim o [ None ↦ [] | Some runs ↦ expanded runs ]) ≤ spread_limit
    of_shape None e = omega arith
    of_shape (Some runs) e = chain (length (expanded runs)) (row_count runs) (sum_by (λ (rows : List (Run Kind)). row_count rows) image.shapes) (expanded_length runs) (sum_at (λ (rows : List (Run Kind)). row_count rows) 0 image.shapes shape runs e) few
      where
        chain : (a b c : ℕ) → a ≡ b → b ≤ c → c ≤ spread_limit → a ≤ spread_limit
        chain a b c is low least = omega (arith, is, low, least)
