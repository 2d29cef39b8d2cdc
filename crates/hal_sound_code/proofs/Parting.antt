-- Parts of values are taken and replaced with operands that fit.
use Rattle.std.specs.Prelude.{ℕ, suc, ◌≡◌, true, false, List, [], ◌∷◌, ℤ, Some, None, Result, Ok, Err}
use Rattle.std.specs.Option.{option_and_then}
use Rattle.std.proofs.Common.{refl, sym, ap, subst, ◌∙◌}
use Rattle.hal_values.specs.declared.environment.ErrNo.{ErrNo}
use Rattle.hal_values.specs.declared.value.Kind.{Kind}
use Rattle.hal_values.specs.declared.value.Value.{Value}
use Rattle.hal_values.specs.declared.value.Value.TheVariants as value
use Rattle.hal_operations.specs.declared.part.Part.{Part}
use Rattle.hal_operations.specs.declared.part.Part.TheVariants as part
use Rattle.hal_operations.specs.Parts.{picked, mended_pick, patched, mended_patch}
use Rattle.hal_states.specs.Spots.{Spot}
use Rattle.hal_code.specs.declared.choice.Choice.{Choice}
use Rattle.hal_code.specs.declared.choice.Choice.TheVariants as choice
use Rattle.hal_code.specs.declared.operand.Places.{Places}
use Rattle.hal_code.specs.declared.operand.Places.TheVariants as places
use Rattle.hal_code.specs.Cores.{Operand, Val, At, Area, Setting, Core, going, Step}
use Rattle.hal_code.specs.Raising.{stuck}
use Rattle.hal_code.specs.Computing.{part_taken, part_picked, act_pick, replaced, part_patched, act_patch}
use Rattle.hal_code.specs.Sorts.{Sort, A, R, sort_of, takes_part}
use Rattle.hal_code.specs.Effects.{Sorts, integers_taken, is_value, has_places, places_taken, picked_sorts, patched_sorts}
use Rattle.hal_sound_code.specs.Lying.{LieAt, sort_of_value, sort_of_operand, sorts_of, AllLead}
use Rattle.hal_sound_code.proofs.Stepping.{Typed, moves}
use Rattle.hal_sound_code.proofs.Raising.{Typed-raised}
use Rattle.hal_sound_code.proofs.Taking.{some_is, if_taken, then_taken, takes_part_of, Top, top_of}
use Rattle.hal_sound_code.proofs.Values.{Gives, picked_sort, patched_sort}
use Rattle.hal_sound_code.proofs.Computing.{Onward, Typed-tested}

module _ (s : Setting) (most : ℕ) where
  -- the part that integers choose, and what lies below them
  pub record Parted (chosen : Places) (stack : List Operand) (left : Sorts) : Type 0 where
    pub part : Part
    pub rest : List Operand
    pub is : part_taken chosen stack ≡ Some (part, rest)
    pub sorts : sorts_of rest ≡ left
    pub lead : AllLead s rest

  parted_two : (chosen : Places) (made : ℤ → ℤ → Part) → ((a b : ℤ) (rest : List Operand) → part_taken chosen (Val (value.Int a) ∷ Val (value.Int b) ∷ rest) ≡ Some (made a b, rest)) → (stack : List Operand) (left : Sorts) → AllLead s stack
      → integers_taken 2 (sorts_of stack) ≡ Some left → Parted chosen stack left
  parted_two chosen made computes stack left lead e = first (top_of s stack 1 left lead e)
    where
      second : (one : Top s stack 1 left) → Top s one.rest 0 left → Parted chosen stack left
      second one two = record {
        part = made one.int two.int;
        rest = two.rest;
        is = ap (part_taken chosen) (one.is ∙ ap (λ st. Val (value.Int one.int) ∷ st) two.is) ∙ computes one.int two.int two.rest;
        sorts = some_is (sorts_of two.rest) left two.taken;
        lead = two.lead;
      }

      first : Top s stack 1 left → Parted chosen stack left
      first one = second one (top_of s one.rest 0 left one.lead one.taken)

  parted : (chosen : Places) (stack : List Operand) (left : Sorts) → AllLead s stack → places_taken (choice.Known chosen) (sorts_of stack) ≡ Some left → Parted chosen stack left
  parted places.One stack left lead e = first (top_of s stack 0 left lead e)
    where
      first : Top s stack 0 left → Parted places.One stack left
      first one = record { part = part.One one.int; rest = one.rest; is = ap (part_taken places.One) one.is; sorts = some_is (sorts_of one.rest) left one.taken; lead = one.lead }
  parted places.To stack left lead e = parted_two places.To (λ last first. part.To first last) (λ a b rest. refl) stack left lead e
  parted places.At stack left lead e = parted_two places.At (λ first count. part.At count first) (λ a b rest. refl) stack left lead e

  Typed-picked : (chosen : Part) (stack : List Operand) (c : Core) (after : Sorts) → Onward s most c after → AllLead s stack → picked_sorts (sorts_of stack) ≡ Some after → Typed s most (part_picked s chosen stack c)
  Typed-picked chosen [] c after on lead e = absurd (cc)
  Typed-picked chosen (Val v ∷ stack) c after on lead e = given (if_taken (has_places (sort_of_value v)) (sort_of_value v ∷ sorts_of stack) after e)
    where
      given : (has_places (sort_of_value v) ≡ true) × ((sort_of_value v ∷ sorts_of stack) ≡ after) → Typed s most (part_picked s chosen (Val v ∷ stack) c)
      given known = Typed-tested s most (picked v chosen) (mended_pick v chosen) (sort_of_value v) stack c after on lead.1 (picked_sort v chosen known.0) known.1
  Typed-picked chosen (At at k ∷ stack) c after on lead e = absurd (cc)
  Typed-picked chosen (Area at shape ∷ stack) c after on lead e = absurd (cc)

  -- what is done with a part, where the stack has one
  with_part : (chosen : Places) (does : Part → List Operand → Step) (stack : List Operand) (c : Core) (left : Sorts) → ((p : Part) (rest : List Operand) → AllLead s rest → sorts_of rest ≡ left → Typed s most (does p rest)) → Parted chosen stack left
      → Typed s most (elim (part_taken chosen stack) [ None ↦ stuck c | Some got ↦ does got.0 got.1 ])
  with_part chosen does stack c left each p = subst (λ o. Typed s most (elim o [ None ↦ stuck c | Some got ↦ does got.0 got.1 ])) (sym p.is) (each p.part p.rest p.lead p.sorts)

  pub Typed-pick : (chosen : Choice Places) (c : Core) (after : Sorts) → Onward s most c after → AllLead s c.stack → option_and_then picked_sorts (places_taken chosen (sorts_of c.stack)) ≡ Some after → Typed s most (act_pick s chosen c)
  Typed-pick (choice.Known chosen) c after on lead e = given (then_taken picked_sorts (places_taken (choice.Known chosen) (sorts_of c.stack)) after e)
    where
      given : (left : Sorts) × (places_taken (choice.Known chosen) (sorts_of c.stack) ≡ Some left) × (picked_sorts left ≡ Some after) → Typed s most (act_pick s (choice.Known chosen) c)
      given known = with_part chosen (λ p rest. part_picked s p rest c) c.stack c known.0 (λ p rest leads is. Typed-picked p rest c after on leads (ap picked_sorts is ∙ known.2)) (parted chosen c.stack known.0 lead known.1)
  Typed-pick (choice.Other byte) c after on lead e = absurd (cc)

  Typed-replaced : (r : Result Value ErrNo) (mended : Value) (at : Spot) (k : Kind) (stack : List Operand) (c : Core) (after : Sorts) → Onward s most c after → LieAt s at (k ∷ []) → AllLead s stack → Gives r mended (sort_of k) → (A k ∷ sort_of k ∷ sorts_of stack) ≡ after
      → Typed s most (replaced s r mended (At at k) stack c)
  Typed-replaced (Ok v) mended at k stack c after on lies lead g e = moves s most _ (on (At at k ∷ Val v ∷ stack) (lies, (tt, lead)) (ap (λ x. A k ∷ x ∷ sorts_of stack) g.gives ∙ e))
  Typed-replaced (Err wrong) mended at k stack c after on lies lead g e =
      Typed-raised s most wrong (going (suc c.at) (At at k ∷ Val mended ∷ stack) c) g.errs (on (At at k ∷ Val mended ∷ stack) (lies, (tt, lead)) (ap (λ x. A k ∷ x ∷ sorts_of stack) g.stands ∙ e))

  no_part : (k : Kind) (old new : Sort) (stack after : Sorts) → patched_sorts (old ∷ A k ∷ new ∷ stack) ≡ Some after → (is_value old ≡ true) × (is_value new ≡ true)
  no_part k old new stack after e = takes_part_of k old new (if_taken (takes_part k old new) (A k ∷ sort_of k ∷ stack) after e).0

  Typed-patched : (chosen : Part) (stack : List Operand) (c : Core) (after : Sorts) → Onward s most c after → AllLead s stack → patched_sorts (sorts_of stack) ≡ Some after → Typed s most (part_patched s chosen stack c)
  Typed-patched chosen [] c after on lead e = absurd (cc)
  Typed-patched chosen (one ∷ []) c after on lead e = absurd (cc)
  Typed-patched chosen (one ∷ Val (value.Int a) ∷ stack) c after on lead e = absurd (cc)
  Typed-patched chosen (one ∷ Val (value.Bits len word) ∷ stack) c after on lead e = absurd (cc)
  Typed-patched chosen (one ∷ Val (value.Text text) ∷ stack) c after on lead e = absurd (cc)
  Typed-patched chosen (one ∷ Area at shape ∷ stack) c after on lead e = absurd (cc)
  Typed-patched chosen (one ∷ At at k ∷ []) c after on lead e = absurd (cc)
  Typed-patched chosen (Val old ∷ At at k ∷ Val new ∷ stack) c after on lead e = given (if_taken (takes_part k (sort_of_value old) (sort_of_value new)) (A k ∷ sort_of k ∷ sorts_of stack) after e)
    where
      given : (takes_part k (sort_of_value old) (sort_of_value new) ≡ true) × ((A k ∷ sort_of k ∷ sorts_of stack) ≡ after) → Typed s most (part_patched s chosen (Val old ∷ At at k ∷ Val new ∷ stack) c)
      given known = Typed-replaced (patched old chosen new) (mended_patch old chosen new) at k stack c after on lead.1.0 lead.1.1.1 (patched_sort k old new chosen known.0) known.1
  Typed-patched chosen (At there l ∷ At at k ∷ new ∷ stack) c after on lead e = absurd (let no : false ≡ true = (no_part k (A l) (sort_of_operand new) (sorts_of stack) after e).0 in cc)
  Typed-patched chosen (Area there shape ∷ At at k ∷ new ∷ stack) c after on lead e = absurd (let no : false ≡ true = (no_part k (R shape) (sort_of_operand new) (sorts_of stack) after e).0 in cc)
  Typed-patched chosen (Val old ∷ At at k ∷ At there l ∷ stack) c after on lead e = absurd (let no : false ≡ true = (no_part k (sort_of_value old) (A l) (sorts_of stack) after e).1 in cc)
  Typed-patched chosen (Val old ∷ At at k ∷ Area there shape ∷ stack) c after on lead e = absurd (let no : false ≡ true = (no_part k (sort_of_value old) (R shape) (sorts_of stack) after e).1 in cc)

  pub Typed-patch : (chosen : Choice Places) (c : Core) (after : Sorts) → Onward s most c after → AllLead s c.stack → option_and_then patched_sorts (places_taken chosen (sorts_of c.stack)) ≡ Some after → Typed s most (act_patch s chosen c)
  Typed-patch (choice.Known chosen) c after on lead e = given (then_taken patched_sorts (places_taken (choice.Known chosen) (sorts_of c.stack)) after e)
    where
      given : (left : Sorts) × (places_taken (choice.Known chosen) (sorts_of c.stack) ≡ Some left) × (patched_sorts left ≡ Some after) → Typed s most (act_patch s (choice.Known chosen) c)
      given known = with_part chosen (λ p rest. part_patched s p rest c) c.stack c known.0 (λ p rest leads is. Typed-patched p rest c after on leads (ap patched_sorts is ∙ known.2)) (parted chosen c.stack known.0 lead known.1)
  Typed-patch (choice.Other byte) c after on lead e = absurd (cc)
