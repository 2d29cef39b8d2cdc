-- Each instruction of a right image takes the right values that it meets.
use Rattle.std.specs.Prelude.{◌≡◌, ℕ, ◌<◌, ◌==◌, length, true, false, not, ◌&&◌, [], Some, slice_get, List, ◌∷◌, Option, None}
use Rattle.std.specs.List.{list_any}
use Rattle.std.proofs.Common.{refl, sym, subst, ◌∙◌}
use Rattle.std.proofs.lemmas.Bool.{eq-eqb, and_parts}
use Rattle.hal_values.specs.declared.value.Kind.{Kind}
use Rattle.hal_code.specs.declared.image.ImageParts.{ImageParts}
use Rattle.hal_code.specs.declared.instr.Instr.{Instr}
use Rattle.hal_code.specs.declared.instr.Instr.TheVariants as instr
use Rattle.hal_code.specs.declared.row.Block.{Block}
use Rattle.hal_code.specs.declared.row.Target.{Target}
use Rattle.hal_code.specs.declared.row.Target.TheVariants as target
use Rattle.hal_code.specs.declared.row.View.{View}
use Rattle.hal_code.specs.Addressing.{is_of_cell}
use Rattle.hal_code.specs.Blocks.{code_of}
use Rattle.hal_code.specs.Cores.{Operand, Val, At, Area, Setting, Core}
use Rattle.hal_code.specs.Images.{places_of, kinds_of}
use Rattle.hal_code.specs.Memory.{target_kinds}
use Rattle.hal_code.specs.Operands.{is_view_for}
use Rattle.hal_code.specs.Right.{names_view, process_names}
use Rattle.hal_sound_code.specs.Lying.{sorts_of, AreHeld}
use Rattle.hal_sound_code.specs.Typed.{IsTyped}
use Rattle.hal_sound_code.proofs.Controlling.{of_option}
use Rattle.hal_sound_code.proofs.Memory.{both_true}
use Rattle.hal_sound_code.proofs.Points.{Faces, faces}
use Rattle.hal_sound_code.proofs.Rights.{Whole}
use Rattle.hal_sound_code.proofs.Rows.{view_forms, view_at}
use Rattle.hal_sound_code.proofs.Taking.{some_is}
use Rattle.hal_sound_code.proofs.Views.{any_at, view_lies_at}
use Rattle.hal_right_values.specs.Finding.{ViewFits, CopiesFit, CopyFits, Fits, HaveCells}
use Rattle.hal_right_values.specs.Fitting.{OperandsFit}
use Rattle.hal_right_values.specs.Holding.{AreRightOperands, Holding}
use Rattle.hal_right_values.specs.Spreading.{CellFits}
use Rattle.hal_right_values.proofs.Addressing.{AreLow, AreLowOn}
use Rattle.hal_right_values.proofs.Copying.{low_at, clear_fits}
use Rattle.hal_right_values.proofs.Parting.{pick_fits, patch_fits}
use Rattle.hal_right_values.proofs.Rooms.{room_at, cell_fits}
use Rattle.hal_right_values.proofs.Taking.{one_fits, item_fits, two_fits, keep_fits}

-- a view that gives a cell gives one
cell_given : (image : ImageParts) (view : View) → is_of_cell view ≡ true → target_kinds image view.target ≡ [] → ⊥
cell_given image view e none = of_target view.target e none
  where
    of_target : (t : Target) → elim t [ target.Cell kind ↦ true | target.Shape shape ↦ false ] ≡ true → target_kinds image t ≡ [] → ⊥
    of_target (target.Cell k) is h = cc
    of_target (target.Shape shape) is h = cc

module _ (s : Setting) (all : Whole s.image) (exists : s.process < length s.image.processes) (c : Core) (typed : IsTyped s c) where
  -- what is known of the instruction that is next
  abbrev Is : Instr → Type 0
  Is i = Faces s typed.number typed.inside c.at (sorts_of c.stack) i

  is_next : (i : Instr) → slice_get s.image.code c.at ≡ Some i → Is i
  is_next i e = facing (faces s all typed.number typed.inside c.at (sorts_of c.stack) typed.stands)
    where
      facing : (one : Instr) × Is one → Is i
      facing known = subst Is (some_is known.0 i (sym known.1.in_code ∙ e)) known.1

  -- the operands
  fits : AreRightOperands c.stack → (i : Instr) → Is i → OperandsFit i c.stack
  fits right instr.Keep f = keep_fits c.stack f.after right f.stack
  fits right (instr.Op1 op) f = one_fits op c.stack f.after right f.stack
  fits right (instr.Op2 op) f = two_fits op c.stack f.after right f.stack
  fits right (instr.Pick chosen) f = pick_fits chosen c.stack f.after right f.stack
  fits right (instr.Patch chosen) f = patch_fits chosen c.stack f.after right f.stack
  fits right instr.Item f = item_fits c.stack right
  fits right other f = tt

  pub operands_fit : Holding c → (i : Instr) → slice_get s.image.code c.at ≡ Some i → OperandsFit i c.stack
  operands_fit h i e = fits h.operands i (is_next i e)

  -- a block that names a view
  names : (i : Instr) (f : Is i) (v : ℕ) → names_view v i ≡ true → (f.block.process == s.process) ≡ true → process_names s.image v s.process ≡ true
  names i f v is own =
      any_at (λ (block : Block). (block.process == s.process) && list_any (names_view v) (code_of s.image block)) s.image.blocks typed.number f.block f.row
      (both_true (f.block.process == s.process) (list_any (names_view v) (code_of s.image f.block)) own (any_at (names_view v) (code_of s.image f.block) f.place i f.found is))

  -- the view that an instruction names leads to small numbers
  view_fits : (i : Instr) (f : Is i) (v : ℕ) (view : View) → names_view v i ≡ true → slice_get s.image.views v ≡ Some view → is_view_for s.image f.block view ≡ true → (target_kinds s.image view.target ≡ [] → ⊥) → CellFits view c
  view_fits i f v view is there for some =
      cell_fits view c
      (λ ints. room_at s all _ (target_kinds s.image view.target) some
      (view_lies_at s view ints c.kept.places v f.block exists (view_forms s.image all v view there) (view_at s.image all v view there) for f.own (names i f v is) typed.kept))

  pub of_cell_fits : (v : ℕ) (view : View) → slice_get s.image.code c.at ≡ Some (instr.Cell v) → slice_get s.image.views v ≡ Some view → CellFits view c
  of_cell_fits v view e there = facing (is_next (instr.Cell v) e)
    where
      facing : Is (instr.Cell v) → CellFits view c
      facing f = of_view (of_option (λ (one : View). is_of_cell one && is_view_for s.image f.block one) (slice_get s.image.views v) f.operands)
        where
          of_view : (one : View) × (slice_get s.image.views v ≡ Some one) × ((is_of_cell one && is_view_for s.image f.block one) ≡ true) → CellFits view c
          of_view known = with_view (subst (λ one. (is_of_cell one && is_view_for s.image f.block one) ≡ true) (some_is known.0 view (sym known.1 ∙ there)) known.2)
            where
              with_view : (is_of_cell view && is_view_for s.image f.block view) ≡ true → CellFits view c
              with_view both =
                  view_fits (instr.Cell v) f v view (eq-eqb v v refl) there (and_parts (is_of_cell view) (is_view_for s.image f.block view) both).1 (cell_given s.image view (and_parts (is_of_cell view) (is_view_for s.image f.block view) both).0)

  pub of_shape_fits : (v : ℕ) (view : View) → slice_get s.image.code c.at ≡ Some (instr.Whole v) → slice_get s.image.views v ≡ Some view → (target_kinds s.image view.target ≡ [] → ⊥) → CellFits view c
  of_shape_fits v view e there some = facing (is_next (instr.Whole v) e)
    where
      facing : Is (instr.Whole v) → CellFits view c
      facing f = of_view (of_option (λ (one : View). not (is_of_cell one) && is_view_for s.image f.block one) (slice_get s.image.views v) f.operands)
        where
          of_view : (one : View) × (slice_get s.image.views v ≡ Some one) × ((not (is_of_cell one) && is_view_for s.image f.block one) ≡ true) → CellFits view c
          of_view known = with_view (subst (λ one. (not (is_of_cell one) && is_view_for s.image f.block one) ≡ true) (some_is known.0 view (sym known.1 ∙ there)) known.2)
            where
              with_view : (not (is_of_cell view) && is_view_for s.image f.block view) ≡ true → CellFits view c
              with_view both = view_fits (instr.Whole v) f v view (eq-eqb v v refl) there (and_parts (not (is_of_cell view)) (is_view_for s.image f.block view) both).1 some

  -- an instruction finds what it takes
  copy_fits : (place : ℕ) (stack : List Operand) → AreLowOn s place stack → CopyFits s place stack
  copy_fits place [] low = tt
  copy_fits place (Val v ∷ stack) low = tt
  copy_fits place (At at k ∷ stack) low = tt
  copy_fits place (Area at shape ∷ stack) low = of_kinds (kinds_of s.image shape) low
    where
      of_kinds : (ks : List Kind) → AreLow ks at place → CopiesFit (length ks) at place
      of_kinds [] lies = tt
      of_kinds (k ∷ ks) lies = lies

  cell_found : (v : ℕ) → slice_get s.image.code c.at ≡ Some (instr.Cell v) → (o : Option View) → slice_get s.image.views v ≡ o → ViewFits o c
  cell_found v e None there = tt
  cell_found v e (Some view) there = of_cell_fits v view e there

  shape_found : HaveCells s.image → (v : ℕ) → slice_get s.image.code c.at ≡ Some (instr.Whole v) → (o : Option View) → slice_get s.image.views v ≡ o → ViewFits o c
  shape_found have v e None there = tt
  shape_found have v e (Some view) there = of_shape_fits v view e there (have v view there)

  pub finds : HaveCells s.image → AreHeld s (places_of s.image s.process) s.firsts → Holding c → (i : Instr) → slice_get s.image.code c.at ≡ Some i → Fits s i c
  finds have firsts h (instr.Cell v) e = cell_found v e (slice_get s.image.views v) refl
  finds have firsts h (instr.Whole v) e = shape_found have v e (slice_get s.image.views v) refl
  finds have firsts h instr.Keep e = operands_fit h instr.Keep e
  finds have firsts h (instr.Op1 op) e = operands_fit h (instr.Op1 op) e
  finds have firsts h (instr.Op2 op) e = operands_fit h (instr.Op2 op) e
  finds have firsts h (instr.Pick chosen) e = operands_fit h (instr.Pick chosen) e
  finds have firsts h (instr.Patch chosen) e = operands_fit h (instr.Patch chosen) e
  finds have firsts h (instr.Copy place) e = copy_fits place c.stack (low_at s all exists c typed (instr.Copy place) (is_next (instr.Copy place) e))
  finds have firsts h (instr.Clear place count) e = clear_fits s exists (is_next (instr.Clear place count) e).block (is_next (instr.Clear place count) e).own place count c firsts typed.kept (is_next (instr.Clear place count) e).operands
  finds have firsts h instr.Item e = operands_fit h instr.Item e
  finds have firsts h other e = tt
