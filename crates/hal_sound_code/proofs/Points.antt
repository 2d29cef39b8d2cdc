-- What is known of the instruction at which control stands.
use Rattle.std.specs.Prelude.{ℕ, zero, suc, ◌+◌, ◌-◌, ◌<◌, ◌≤◌, ◌==◌, ◌≡◌, take, drop, length, Bool, true, false, ◌&&◌, ◌||◌, List, [], ◌∷◌, Option, Some, None, slice_get, if◌then◌else◌}
use Rattle.std.proofs.Common.{refl, sym, ap, subst, ◌∙◌, arith}
use Rattle.std.proofs.lemmas.Bool.{leb-true, eq-eqb, and_parts}
use Rattle.std.proofs.lemmas.Option.{slice_get_within}
use Rattle.hal_code.specs.declared.image.ImageParts.{ImageParts}
use Rattle.hal_code.specs.declared.instr.Instr.{Instr}
use Rattle.hal_code.specs.declared.instr.Instr.TheVariants as instr
use Rattle.hal_code.specs.declared.row.Block.{Block}
use Rattle.hal_code.specs.Cores.{Setting}
use Rattle.hal_code.specs.Blocks.{is_common, code_of, is_of_process, outward}
use Rattle.hal_code.specs.Effects.{Sorts, sorts_after}
use Rattle.hal_code.specs.Flow.{Flow, flow_of, goes_away, sorts_next, part_at, same_part, is_inside, is_empty, is_entry, jumps}
use Rattle.hal_code.specs.Operands.{holds_of, operands_right}
use Rattle.hal_code.specs.Right.{stack_right, stands_right, frames_right, is_last, ends_right}
use Rattle.hal_sound_code.specs.Standing.{Stands}
use Rattle.hal_sound_code.proofs.Flows.{instr_there, stack_next, inside_next, inside_onward}
use Rattle.hal_sound_code.proofs.Rights.{Whole, right_at}

-- what stands in the front of a list
of_taken : {T : Type 0} (n : ℕ) (xs : List T) (k : ℕ) (x : T) → slice_get (take n xs) k ≡ Some x → slice_get xs k ≡ Some x
of_taken zero xs k x e = absurd (cc)
of_taken (suc n) [] k x e = absurd (cc)
of_taken (suc n) (y ∷ ys) zero x e = e
of_taken (suc n) (y ∷ ys) (suc k) x e = of_taken n ys k x e

-- what stands behind the first ones
nth_drop : {T : Type 0} (n : ℕ) (xs : List T) (k : ℕ) → slice_get (drop n xs) k ≡ slice_get xs (n + k)
nth_drop zero xs k =
    let same : k ≡ zero + k = omega arith in
    ap (slice_get xs) same
nth_drop (suc n) [] k = refl
nth_drop (suc n) (y ∷ ys) k = nth_drop n ys k ∙ (let same : suc (n + k) ≡ suc n + k = omega arith in ap (slice_get (y ∷ ys)) same)

-- an instruction of a block, in the code
of_block : (image : ImageParts) (block : Block) (k : ℕ) (i : Instr) → slice_get (code_of image block) k ≡ Some i → slice_get image.code (block.first + k) ≡ Some i
of_block image block k i e = sym (nth_drop block.first image.code k) ∙ of_taken (block.end - block.first) (drop block.first image.code) k i e

-- what holds of an instruction that is right
record Parts (operands stack jumps stands frames ends : Bool) : Type 0 where
  operands_are : operands ≡ true
  stack_is : stack ≡ true
  jumps_are : jumps ≡ true
  stands_is : stands ≡ true
  frames_are : frames ≡ true
  ends_is : ends ≡ true

parts_of : (operands stack jumps stands frames ends : Bool) → (((operands && stack) && (jumps && stands)) && (frames && ends)) ≡ true → Parts operands stack jumps stands frames ends
parts_of operands stack jump stands frames ends e = record {
  operands_are = (and_parts operands stack (and_parts (operands && stack) (jump && stands) (and_parts _ (frames && ends) e).0).0).0;
  stack_is = (and_parts operands stack (and_parts (operands && stack) (jump && stands) (and_parts _ (frames && ends) e).0).0).1;
  jumps_are = (and_parts jump stands (and_parts (operands && stack) (jump && stands) (and_parts _ (frames && ends) e).0).1).0;
  stands_is = (and_parts jump stands (and_parts (operands && stack) (jump && stands) (and_parts _ (frames && ends) e).0).1).1;
  frames_are = (and_parts frames ends (and_parts ((operands && stack) && (jump && stands)) (frames && ends) e).1).0;
  ends_is = (and_parts frames ends (and_parts ((operands && stack) && (jump && stands)) (frames && ends) e).1).1;
}

-- the flow of the block with this number
abbrev pub flow : Setting → ℕ → Block → Flow
flow s number block = flow_of s.image block number (code_of s.image block)

-- the instruction at which control stands, and what is known of it
pub record Faces (s : Setting) (number : ℕ) (inside : Bool) (at : ℕ) (sorts : Sorts) (i : Instr) : Type 0 where
  pub block : Block
  pub place : ℕ
  pub row : slice_get s.image.blocks number ≡ Some block
  pub there : at ≡ block.first + place
  pub own : (is_common block || (block.process == s.process)) ≡ true
  pub part : is_inside (part_at (flow s number block) place) ≡ inside
  pub found : slice_get (code_of s.image block) place ≡ Some i
  pub in_code : slice_get s.image.code at ≡ Some i
  pub operands : operands_right s.image block number i ≡ true
  pub after : Sorts
  pub stack : sorts_after s.image block i sorts ≡ Some after
  pub jumped : jumps (flow s number block) place sorts i ≡ true
  pub placed : stands_right (outward s.image) inside i ≡ true
  pub framed : frames_right (is_of_process s.image number) (place == 0) i ≡ true
  -- control goes on behind it
  pub onward : goes_away i ≡ false → Stands s number (inside_next i inside) (suc at) after

after_of : (o : Option Sorts) → elim o [ None ↦ false | Some after ↦ true ] ≡ true → (after : Sorts) × (o ≡ Some after)
after_of None e = absurd (cc)
after_of (Some after) e = (after, refl)

last_away : (i : Instr) → goes_away i ≡ false → is_last i ≡ false
last_away (instr.Jump target) e = e
last_away instr.Return e = e
last_away instr.Finish e = e
last_away other e = refl

no_and : (last rest : Bool) → last ≡ false → (last && rest) ≡ true → ⊥
no_and true rest e is = cc
no_and false rest e is = cc

pub not_both : (b : Bool) → b ≡ true → b ≡ false → ⊥
not_both true one other = cc
not_both false one other = cc

one_behind : (at first place : ℕ) → at ≡ first + place → suc at ≡ first + suc place
one_behind at first place e = omega (arith, e)

not_last : (size k : ℕ) (b last rest : Bool) → (suc k == size) ≡ b → (if b then last && rest else true) ≡ true → last ≡ false → k < size → suc k < size
not_last size k true last rest e is away within = absurd (no_and last rest away is)
not_last size k false last rest e is away within = omega (arith, within, differ)
  where
    differ : suc k ≡ size → ⊥
    differ same = not_both (suc k == size) (eq-eqb (suc k) size same) e

next_sorts : (image : ImageParts) (block : Block) (b : ℕ) (i : Instr) (sorts after : Sorts) → goes_away i ≡ false → operands_right image block b i ≡ true → sorts_after image block i sorts ≡ Some after → sorts_next image block b i sorts ≡ after
next_sorts image block b i sorts after away right e = step (goes_away i) (operands_right image block b i) (sorts_after image block i sorts) away right e
  where
    step : (a r : Bool) (o : Option Sorts) → a ≡ false → r ≡ true → o ≡ Some after → ◌≡◌ {A = Sorts} (if a then [] else (if r then elim o [ None ↦ [] | Some one ↦ one ] else [])) after
    step true r o e f g = absurd (cc)
    step false false o e f g = absurd (cc)
    step false true None e f g = absurd (cc)
    step false true (Some one) e f g = let same : one ≡ after = cc in same

module _ (s : Setting) (all : Whole s.image) where
  pub faces : (number : ℕ) (inside : Bool) (at : ℕ) (sorts : Sorts) → Stands s number inside at sorts → (i : Instr) × Faces s number inside at sorts i
  faces number inside at sorts st = of_instr (instr_there s.image st.block number (code_of s.image st.block) [] st.place sorts st.stack)
    where
      of_instr : (i : Instr) × (slice_get (code_of s.image st.block) st.place ≡ Some i) → (i : Instr) × Faces s number inside at sorts i
      of_instr found = (found.0, facing found.0 found.1 (parts_of _ _ _ _ _ _ (right_at s.image all number st.block st.place found.0 sorts st.row found.1 st.stack)))
        where
          facing : (i : Instr) → slice_get (code_of s.image st.block) st.place ≡ Some i
              → Parts (operands_right s.image st.block number i) (stack_right s.image st.block i sorts) (jumps (flow s number st.block) st.place sorts i) (stands_right (outward s.image) (is_inside (part_at (flow s number st.block) st.place)) i) (frames_right (is_of_process s.image number) (st.place == 0) i) (ends_right (flow s number st.block) st.place i)
              → Faces s number inside at sorts i
          facing i e are = with_after (after_of (sorts_after s.image st.block i sorts) are.stack_is)
            where
              with_after : (after : Sorts) × (sorts_after s.image st.block i sorts ≡ Some after) → Faces s number inside at sorts i
              with_after known = record {
                block = st.block;
                place = st.place;
                row = st.row;
                there = st.there;
                own = st.own;
                part = st.part;
                found = e;
                in_code = ap (slice_get s.image.code) st.there ∙ of_block s.image st.block st.place i e;
                operands = are.operands_are;
                after = known.0;
                stack = known.1;
                jumped = are.jumps_are;
                placed = subst (λ b. stands_right (outward s.image) b i ≡ true) st.part are.stands_is;
                framed = are.frames_are;
                onward = λ away. record {
                  block = st.block;
                  place = suc st.place;
                  row = st.row;
                  there = one_behind at st.block.first st.place st.there;
                  own = st.own;
                  stack = stack_next s.image st.block number (code_of s.image st.block) [] st.place i sorts e st.stack (not_last (length (code_of s.image st.block)) st.place _ (is_last i) _ refl are.ends_is (last_away i away) (slice_get_within _ st.place i e))
                      ∙ ap Some (next_sorts s.image st.block number i sorts known.0 away are.operands_are known.1);
                  part = inside_onward (code_of s.image st.block) st.place i e ∙ ap (inside_next i) st.part;
                };
              }

-- whether two instructions stand alike
same_inside : (a b : Option ℕ) → same_part a b ≡ true → is_inside a ≡ is_inside b
same_inside None None e = refl
same_inside (Some m) (Some n) e = refl
same_inside None (Some n) e = absurd (cc)
same_inside (Some m) None e = absurd (cc)

empty_there : (o : Option Sorts) → holds_of is_empty o ≡ true → o ≡ Some []
empty_there None e = absurd (cc)
empty_there (Some []) e = refl
empty_there (Some (one ∷ others)) e = absurd (cc)

-- control may stand where the instruction leads
pub entry_stands : (s : Setting) (number : ℕ) (inside : Bool) (at : ℕ) (sorts : Sorts) (i : Instr) (f : Faces s number inside at sorts i) (target : ℕ) → is_entry (flow s number f.block) f.place target ≡ true → Stands s number inside target []
entry_stands s number inside at sorts i f target e = record {
  block = f.block;
  place = target - f.block.first;
  row = f.row;
  there = whole_of f.block.first (leb-true f.block.first target (and_parts _ _ (and_parts _ _ e).0).0);
  own = f.own;
  stack = empty_there _ (and_parts _ _ (and_parts _ _ e).1).0;
  part = sym (same_inside _ _ (and_parts _ _ (and_parts _ _ e).1).1) ∙ f.part;
}
  where
    whole_of : (first : ℕ) → first ≤ target → target ≡ first + (target - first)
    whole_of first low = omega (arith, low)
