-- What is known of a process of a right image, and how its cycles begin.
use Rattle.std.specs.Prelude.{ℕ, suc, ◌+◌, ◌<◌, ◌==◌, ◌||◌, ◌≡◌, length, Bool, true, false, []}
use Rattle.std.proofs.Common.{refl, sym, ap, subst, ◌∙◌, arith}
use Rattle.std.proofs.lemmas.Bool.{eq-eqb}
use Rattle.hal_values.specs.declared.request.Request.TheVariants as request
use Rattle.hal_states.specs.Spots.{Kept}
use Rattle.hal_states.specs.Modes.{asking}
use Rattle.hal_code.specs.declared.image.ImageParts.{ImageParts}
use Rattle.hal_code.specs.declared.instr.Instr.{Instr}
use Rattle.hal_code.specs.declared.instr.Instr.TheVariants as instr
use Rattle.hal_code.specs.declared.row.Block.{Block}
use Rattle.hal_code.specs.Blocks.{is_common, is_of_process}
use Rattle.hal_code.specs.Cores.{Setting, core}
use Rattle.hal_code.specs.Courses.{setting_of}
use Rattle.hal_code.specs.Images.{tables_of, places_of, first_of}
use Rattle.hal_code.specs.Machine.{begun}
use Rattle.hal_code.specs.Right.{frames_right, IsRight}
use Rattle.hal_sound_code.specs.Lying.{AreHeld}
use Rattle.hal_sound_code.specs.Standing.{Stands}
use Rattle.hal_sound_code.specs.Typed.{IsTyped}
use Rattle.hal_sound_code.proofs.Points.{Faces, faces}
use Rattle.hal_sound_code.proofs.Rights.{Whole, whole}
use Rattle.hal_sound_code.proofs.Rows.{Runs, runs, begins}
use Rattle.hal_sound_code.proofs.Stepping.{Typed, goes_on}
use Rattle.hal_sound_code.proofs.Taking.{some_is}

-- a process of a right image
pub record Ground (s : Setting) : Type 0 where
  pub whole : Whole s.image
  pub same : s.tables ≡ tables_of s.image
  pub exists : s.process < length s.image.processes
  pub firsts : AreHeld s (places_of s.image s.process) s.firsts
  pub begin : s.begin ≡ first_of s.image s.process

pub ground_of : (turns : ℕ) (image : ImageParts) (p : ℕ) → IsRight image → p < length image.processes → Ground (setting_of turns image p)
ground_of turns image p right exists = record {
  whole = whole image right;
  same = refl;
  exists = exists;
  firsts = (runs (setting_of turns image p) (whole image right) exists).held;
  begin = refl;
}

-- the first instruction of a process is BEGIN
begin_of : (i : Instr) → frames_right true true i ≡ true → i ≡ instr.Begin
begin_of instr.Begin e = refl
begin_of instr.Finish e = absurd (cc)
begin_of instr.Return e = absurd (cc)
begin_of other e = absurd (cc)

module _ (s : Setting) (ground : Ground s) where
  one_own : (a b : Bool) → b ≡ true → (a || b) ≡ true
  one_own true b e = refl
  one_own false b e = e

  -- control stands behind it
  behind : (r : Runs s) → Stands s r.number false (suc s.begin) []
  behind r = facing (faces s ground.whole r.number false r.block.first [] (begins s ground.whole r.number r.block r.row (one_own (is_common r.block) (r.block.process == s.process) r.own)))
    where
      facing : (i : Instr) × Faces s r.number false r.block.first [] i → Stands s r.number false (suc s.begin) []
      facing known = of_begin known.0 known.1 (begin_of known.0 (subst (λ b. frames_right b true known.0 ≡ true) r.of_process (subst (λ b. frames_right (is_of_process s.image r.number) b known.0 ≡ true) first known.1.framed)))
        where
          same_block : known.1.block ≡ r.block
          same_block = some_is known.1.block r.block (sym known.1.row ∙ r.row)

          none_before : (a b n : ℕ) → a ≡ b → b ≡ a + n → n ≡ 0
          none_before a b n e f = omega (arith, e, f)

          first : (known.1.place == 0) ≡ true
          first = eq-eqb known.1.place 0 (none_before known.1.block.first r.block.first known.1.place (ap (λ (x : Block). x.first) same_block) known.1.there)

          of_begin : (i : Instr) → Faces s r.number false r.block.first [] i → i ≡ instr.Begin → Stands s r.number false (suc s.begin) []
          of_begin i f is = at_begin (subst (λ x. Faces s r.number false r.block.first [] x) is f)
            where
              at_begin : Faces s r.number false r.block.first [] instr.Begin → Stands s r.number false (suc s.begin) []
              at_begin g =
                  subst (λ n. Stands s r.number false (suc n) []) (sym r.first ∙ sym ground.begin) (subst (λ sorts. Stands s r.number false (suc r.block.first) sorts) (let same : g.after ≡ [] = sym (some_is [] g.after g.stack) in same) (g.onward refl))

  -- a cycle begins
  pub Typed-begun : (most : ℕ) (kept : Kept) → AreHeld s (places_of s.image s.process) kept.places → Typed s most (begun s kept)
  Typed-begun most kept are = goes_on s most request.Begin (core (suc s.begin) [] [] [] [] kept asking) (λ h. cc) (typed (runs s ground.whole ground.exists))
    where
      typed : Runs s → IsTyped s (core (suc s.begin) [] [] [] [] kept asking)
      typed r = record { number = r.number; inside = false; stands = behind r; lead = tt; enter = tt; below = (refl, r.of_process); kept = are }
