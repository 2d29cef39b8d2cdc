-- An image whose tables are right is a load.
use Rattle.std.specs.Prelude.{ℕ, ◌-◌, ◌≤◌, ◌==◌, ◌++◌, [], ◌∷◌, All}
use Rattle.std.proofs.Common.{refl, sym, subst, ◌∙◌}
use Rattle.std.proofs.lemmas.Bool.{eq-eqb}
use Rattle.hal_values.specs.Answers as answered
use Rattle.hal_values.specs.Loads.{IsLoad, IsWritten, turn_limit}
use Rattle.hal_values.specs.Tables.{IsTables}
use Rattle.hal_states.specs.Telling.{is_update}
use Rattle.hal_states.proofs.Telling.{few_made, is_same, writes_at, made_at, update_of, some_at}
use Rattle.hal_code.specs.declared.image.ImageParts.{ImageParts}
use Rattle.hal_code.specs.Images.{tables_of}
use Rattle.hal_code.specs.Courses.{setting_of, next, block_mode, load_of}
use Rattle.hal_code.proofs.Coursing.{course_good, restarts, cycles}

pub image_is_load : (turns : ℕ) (image : ImageParts) → IsTables (tables_of image) → turns ≤ turn_limit → IsLoad (load_of turns image)
image_is_load turns image right few = record {
  right = right;
  begins = λ p exists. refl;
  restarts = λ p answers exists fit. restarts (setting_of turns image p) exists answers;
  cycles = λ p answers exists fit finish. cycles (setting_of turns image p) exists answers finish;
  in_order = λ p answers exists fit. (course_good (setting_of turns image p) exists answers).order;
  writes_right = λ p answers snapshot made writes exists fit full e.
      subst (All (IsWritten (tables_of image))) (writes_at (is_update (next (setting_of turns image p) answers)) ((turns - (block_mode (setting_of turns image p) answers snapshot).turns) == made) (block_mode (setting_of turns image p) answers snapshot) writes (is_same _ writes e))
      (course_good (setting_of turns image p) exists (answers ++ (answered.Block snapshot 0 ∷ []))).writes;
  few_turns = λ p answers snapshot made writes exists fit full e.
      subst (λ n. n ≤ turn_limit) (made_at (is_update (next (setting_of turns image p) answers)) (turns - (block_mode (setting_of turns image p) answers snapshot).turns) made (block_mode (setting_of turns image p) answers snapshot) writes (is_same _ writes e))
      (few_made turns (block_mode (setting_of turns image p) answers snapshot).turns few);
  one_end = λ p answers snapshot made other writes others exists fit full e f.
      sym (made_at (is_update (next (setting_of turns image p) answers)) (turns - (block_mode (setting_of turns image p) answers snapshot).turns) made (block_mode (setting_of turns image p) answers snapshot) writes (is_same _ writes e))
      ∙ made_at (is_update (next (setting_of turns image p) answers)) (turns - (block_mode (setting_of turns image p) answers snapshot).turns) other (block_mode (setting_of turns image p) answers snapshot) others (is_same _ others f);
  ends = λ p answers snapshot exists fit full asks. (
    turns - (block_mode (setting_of turns image p) answers snapshot).turns,
    some_at (is_update (next (setting_of turns image p) answers)) ((turns - (block_mode (setting_of turns image p) answers snapshot).turns) == (turns - (block_mode (setting_of turns image p) answers snapshot).turns)) (block_mode (setting_of turns image p) answers snapshot) (update_of (next (setting_of turns image p) answers) asks) (eq-eqb _ _ refl),
  );
}
