-- References to cells, copies of them, and first values fit.
use Rattle.std.specs.Prelude.{ℕ, suc, ◌+◌, ◌<◌, ◌==◌, ◌≡◌, length, true, ◌||◌, List, [], ◌∷◌, pos, Option, Some, None, slice_get, slice_set, if◌then◌else◌}
use Rattle.std.proofs.Common.{refl, sym, ap, subst, ◌∙◌, arith}
use Rattle.std.proofs.lemmas.Bool.{eqb-true}
use Rattle.hal_values.specs.declared.request.Request.TheVariants as request
use Rattle.hal_values.specs.declared.request.Spot.TheVariants as asked
use Rattle.hal_values.specs.declared.tables.Cell.{Cell}
use Rattle.hal_values.specs.declared.value.Kind.{Kind}
use Rattle.hal_values.specs.declared.value.Value.{Value}
use Rattle.hal_values.specs.declared.value.Value.TheVariants as value
use Rattle.hal_states.specs.Spots.{Holds, Spot, Shared, Own, Nowhere, Refers, kept, held_in}
use Rattle.hal_states.specs.OfKinds.{nothing}
use Rattle.hal_states.specs.Modes.{seen_cell}
use Rattle.hal_states.proofs.OfKind.{nothing_is}
use Rattle.hal_code.specs.declared.row.Block.{Block}
use Rattle.hal_code.specs.declared.row.OwnPlace.{OwnPlace}
use Rattle.hal_code.specs.Addressing.{cleared, placed, copied_cell, copied, act_bind, act_copy, act_clear}
use Rattle.hal_code.specs.Blocks.{is_common, block_places}
use Rattle.hal_code.specs.Cores.{Operand, Val, At, Area, Setting, Core, going, with_kept, Copies, Step}
use Rattle.hal_code.specs.Effects.{Sorts, bound_sorts, copied_sorts}
use Rattle.hal_code.specs.Images.{tables_of, places_of, kinds_of}
use Rattle.hal_code.specs.Memory.{lies_from, own_memory, shared_memory, referred_shape, shape_of_place}
use Rattle.hal_code.specs.Sorts.{sort_of}
use Rattle.hal_sound_code.specs.Lying.{LieAt, sort_of_value, sorts_of, AllLead, AreHeld}
use Rattle.hal_sound_code.proofs.Computing.{Onward}
use Rattle.hal_sound_code.proofs.Places.{First, first_lies, held_value, held_set, held_bound, held_cleared}
use Rattle.hal_sound_code.proofs.Memory.{lies_own}
use Rattle.hal_sound_code.proofs.Rows.{sort_of_kind}
use Rattle.hal_sound_code.proofs.Stepping.{well_kept, Well, Typed, moves, awaits}
use Rattle.hal_sound_code.proofs.Taking.{if_taken}
use Rattle.hal_sound_code.proofs.Views.{places_there}
use Rattle.hal_sound_code.proofs.Addressing.{Found, cell_there, seen_sort}

-- a place of the process refers to a shape
referred_there : (some all : List OwnPlace) → ((n : ℕ) (one : OwnPlace) → slice_get some n ≡ Some one → slice_get all n ≡ Some one) → (number shape : ℕ) → referred_shape some number ≡ Some shape → referred_shape all number ≡ Some shape
referred_there some all each number shape e = of_place (slice_get some number) refl e
  where
    of_place : (o : Option OwnPlace) → slice_get some number ≡ o → ◌≡◌ {A = Option ℕ} (elim o [ None ↦ None | Some one ↦ shape_of_place one ]) (Some shape) → referred_shape all number ≡ Some shape
    of_place None is h = absurd (cc)
    of_place (Some one) is h = ap (λ o. elim o [ None ↦ None | Some x ↦ shape_of_place x ]) (each number one is) ∙ h

-- a core with a value at an own place
pub well_placed : (s : Setting) (most : ℕ) (place : ℕ) (k : Kind) (v : Value) (c : Core) → Well s most c → slice_get (own_memory (places_of s.image s.process)) place ≡ Some (Some k) → sort_of_value v ≡ sort_of k → Well s most (placed place v c)
well_placed s most place k v c well lies is = well_kept s most c (slice_set c.kept.places place (Holds v)) well (held_set s (places_of s.image s.process) c.kept.places place k v well.typed.kept lies is)

module _ (s : Setting) (most : ℕ) (same : s.tables ≡ tables_of s.image) where
  -- the cells of a copy that are left
  abbrev Lies : ℕ → List Kind → Type 0
  Lies place kinds = lies_from (own_memory (places_of s.image s.process)) place kinds ≡ true

  one_on : (number : ℕ) (ks : List Kind) → LieAt s (Shared (suc number)) ks → LieAt s (Shared (number + 1)) ks
  one_on number ks lies = subst (λ n. LieAt s (Shared n) ks) (let one : suc number ≡ number + 1 = omega arith in one) lies

  own_on : (number : ℕ) (ks : List Kind) → LieAt s (Own (suc number)) ks → LieAt s (Own (number + 1)) ks
  own_on number ks lies = subst (λ n. LieAt s (Own n) ks) (let one : suc number ≡ number + 1 = omega arith in one) lies

  Typed-copied_cell : (number : ℕ) (cell : Cell) (k : Kind) (ks : List Kind) (groups : Option ℕ) (place : ℕ) (c : Core) (follows : Value → Step) → cell.kind ≡ k → Well s most c → LieAt s (Shared (number + 1)) ks → Lies place (k ∷ ks)
      → ((v : Value) → sort_of_value v ≡ sort_of k → Typed s most (follows v)) → Typed s most (copied_cell number cell groups ks place follows c)
  Typed-copied_cell number cell k ks None place c follows is well from lies each =
      awaits s most (request.Read (asked.Cell number)) (Copies cell.kind ks (Shared (number + 1)) place) c (λ h. cc) well.typed.kept (well.typed, subst (λ one. Lies place (one ∷ ks)) (sym is) lies, from)
  Typed-copied_cell number cell k ks (Some groups) place c follows is well from lies each =
      each (seen_cell groups cell (slice_get c.mode.store number)) (seen_sort groups cell (slice_get c.mode.store number) ∙ ap sort_of is)

  pub Typed-copied : (ks : List Kind) (from : Spot) (place : ℕ) (c : Core) → Well s most c → LieAt s from ks → Lies place ks → Typed s most (copied s ks from place c)
  Typed-copied [] from place c well lie lies = moves s most c well
  Typed-copied (k ∷ ks) (Shared number) place c well lie lies =
      of_cell (λ v is. Typed-copied ks (Shared (number + 1)) (suc place) (placed place v c) (well_placed s most place k v c well there.there is) (one_on number ks source.others) there.others) (cell_there s same number k source.there)
    where
      there : First (own_memory (places_of s.image s.process)) place k ks
      there = first_lies (own_memory (places_of s.image s.process)) place k ks lies

      source : First (shared_memory s.image) number k ks
      source = first_lies (shared_memory s.image) number k ks lie

      of_cell : ((v : Value) → sort_of_value v ≡ sort_of k → Typed s most (copied s ks (Shared (number + 1)) (suc place) (placed place v c))) → Found s number k → Typed s most (copied s (k ∷ ks) (Shared number) place c)
      of_cell later f =
          subst (λ o. Typed s most (elim o [
            | None ↦ copied s ks (Shared (number + 1)) (suc place) (placed place (value.Int (pos 0)) c)
            | Some cell ↦ copied_cell number cell c.mode.groups ks place (λ v. copied s ks (Shared (number + 1)) (suc place) (placed place v c)) c
          ])) (sym f.there)
          (Typed-copied_cell number f.cell k ks c.mode.groups place c (λ v. copied s ks (Shared (number + 1)) (suc place) (placed place v c)) f.kind well (one_on number ks source.others) lies later)
  Typed-copied (k ∷ ks) (Own number) place c well lie lies =
      Typed-copied ks (Own (number + 1)) (suc place) (placed place (held_in (slice_get c.kept.places number)) c)
      (well_placed s most place k (held_in (slice_get c.kept.places number)) c well there.there (held_value s (places_of s.image s.process) c.kept.places number k well.typed.kept source.there)) (own_on number ks source.others) there.others
    where
      there : First (own_memory (places_of s.image s.process)) place k ks
      there = first_lies (own_memory (places_of s.image s.process)) place k ks lies

      source : First (own_memory (places_of s.image s.process)) number k ks
      source = first_lies (own_memory (places_of s.image s.process)) number k ks lie
  Typed-copied (k ∷ ks) Nowhere place c well lie lies =
      Typed-copied ks Nowhere (suc place) (placed place (nothing k) c) (well_placed s most place k (nothing k) c well there.there (sort_of_kind k (nothing k) (nothing_is k))) tt there.others
    where
      there : First (own_memory (places_of s.image s.process)) place k ks
      there = first_lies (own_memory (places_of s.image s.process)) place k ks lies

  module _ (block : Block) (exists : s.process < length s.image.processes) (own : (is_common block || (block.process == s.process)) ≡ true) where
    pub Typed-copy : (place : ℕ) (stack : List Operand) (c : Core) (after : Sorts) → Onward s most c after → AllLead s stack → copied_sorts s.image block place (sorts_of stack) ≡ Some after → Typed s most (act_copy s place stack c)
    Typed-copy place [] c after on lead e = absurd (cc)
    Typed-copy place (Area at shape ∷ stack) c after on lead e = given (if_taken (lies_from (own_memory (block_places s.image block)) place (kinds_of s.image shape)) (sorts_of stack) after e)
      where
        given : (lies_from (own_memory (block_places s.image block)) place (kinds_of s.image shape) ≡ true) × (sorts_of stack ≡ after) → Typed s most (act_copy s place (Area at shape ∷ stack) c)
        given known = Typed-copied (kinds_of s.image shape) at place (going (suc c.at) stack c) (on stack lead.1 known.1) lead.0 (lies_own (block_places s.image block) (places_of s.image s.process) (places_there s block exists own) place (kinds_of s.image shape) known.0)
    Typed-copy place (Val (value.Int a) ∷ stack) c after on lead e = absurd (cc)
    Typed-copy place (Val (value.Bits len word) ∷ stack) c after on lead e = absurd (cc)
    Typed-copy place (Val (value.Text text) ∷ stack) c after on lead e = absurd (cc)
    Typed-copy place (At at k ∷ stack) c after on lead e = absurd (cc)

    well_bound : (place shape : ℕ) (at : Spot) (c : Core) → Well s most c → referred_shape (places_of s.image s.process) place ≡ Some shape → LieAt s at (kinds_of s.image shape) → Well s most (with_kept (kept (slice_set c.kept.places place (Refers at)) c.kept.last) c)
    well_bound place shape at c well refers lies = well_kept s most c (slice_set c.kept.places place (Refers at)) well (held_bound s (places_of s.image s.process) c.kept.places place shape at well.typed.kept refers lies)

    pub Typed-bind : (place : ℕ) (stack : List Operand) (c : Core) (after : Sorts) → Onward s most c after → AllLead s stack → bound_sorts s.image block place (sorts_of stack) ≡ Some after → Typed s most (act_bind place stack c)
    Typed-bind place [] c after on lead e = absurd (cc)
    Typed-bind place (Area at shape ∷ stack) c after on lead e = of_shape (referred_shape (block_places s.image block) place) refl e
      where
        bound : (wanted : ℕ) → referred_shape (block_places s.image block) place ≡ Some wanted → ((wanted == shape) ≡ true) × (sorts_of stack ≡ after) → Typed s most (act_bind place (Area at shape ∷ stack) c)
        bound wanted is known =
            moves s most _ (well_bound place shape at (going (suc c.at) stack c) (on stack lead.1 known.1)
            (referred_there (block_places s.image block) (places_of s.image s.process) (places_there s block exists own) place shape (is ∙ ap Some (eqb-true wanted shape known.0))) lead.0)

        of_shape : (o : Option ℕ) → referred_shape (block_places s.image block) place ≡ o → ◌≡◌ {A = Option Sorts} (elim o [ None ↦ None | Some wanted ↦ if wanted == shape then Some (sorts_of stack) else None ]) (Some after)
            → Typed s most (act_bind place (Area at shape ∷ stack) c)
        of_shape None is h = absurd (cc)
        of_shape (Some wanted) is h = bound wanted is (if_taken (wanted == shape) (sorts_of stack) after h)
    Typed-bind place (Val (value.Int a) ∷ stack) c after on lead e = absurd (cc)
    Typed-bind place (Val (value.Bits len word) ∷ stack) c after on lead e = absurd (cc)
    Typed-bind place (Val (value.Text text) ∷ stack) c after on lead e = absurd (cc)
    Typed-bind place (At at k ∷ stack) c after on lead e = absurd (cc)

  -- CLEAR
  pub Typed-clear : (place count : ℕ) (c : Core) → AreHeld s (places_of s.image s.process) s.firsts → Well s most (going (suc c.at) c.stack c) → Typed s most (act_clear s place count c)
  Typed-clear place count c first well = moves s most _ (well_kept s most (going (suc c.at) c.stack c) (cleared s.firsts place count c.kept.places) well (held_cleared s (places_of s.image s.process) c.kept.places place count first well.typed.kept))
