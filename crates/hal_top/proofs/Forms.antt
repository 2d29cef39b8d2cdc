-- The forms of the command line exclude each other.
use Rattle.std.specs.Prelude.{codes}
use Rattle.std.proofs.Common.{◌≡◌, ◌∙◌, ℕ, List, [], ◌∷◌, length, ap, sym, arith}
use Rattle.hal_top.specs.CommandLine.{Command, Runs, Builds, Executes, IsCommand, IsRunLine, IsBuildLine, IsExecLine, HasNoForm}

pub no_form : (words : List (List ℕ)) → ((script : List ℕ) (units : List (List ℕ)) → IsRunLine words script units → ⊥) → ((units : List (List ℕ)) → IsBuildLine words units → ⊥)
    → ((script image : List ℕ) → IsExecLine words script image → ⊥) → HasNoForm words
no_form words run build exec = λ command is. none command is
  where
    none : (command : Command) → IsCommand words command → ⊥
    none (Runs script units) is = run script units is
    none (Builds units) is = build units is
    none (Executes script image) is = exec script image is

first_word : (word other : List ℕ) (words others : List (List ℕ)) → word ∷ words ≡ other ∷ others → word ≡ other
first_word word other words others same = cc

run_build : codes "run" ≡ codes "build" → ⊥
run_build same = let sizes : 3 ≡ 5 = ap length same in omega (arith, sizes)

run_exec : codes "run" ≡ codes "exec" → ⊥
run_exec same = let sizes : 3 ≡ 4 = ap length same in omega (arith, sizes)

build_exec : codes "build" ≡ codes "exec" → ⊥
build_exec same = let sizes : 5 ≡ 4 = ap length same in omega (arith, sizes)

-- words are those of one command
pub one_command : (words : List (List ℕ)) (c d : Command) → IsCommand words c → IsCommand words d → c ≡ d
one_command words (Runs s us) (Runs t vs) x y =
    let same : codes "run" ∷ codes "1" ∷ s ∷ us ≡ codes "run" ∷ codes "1" ∷ t ∷ vs = sym x.spelled ∙ y.spelled in
    let script : s ≡ t = cc in
    let units : us ≡ vs = cc in
    ap (λ one. Runs one us) script ∙ ap (λ list. Runs t list) units
one_command words (Builds us) (Builds vs) x y =
    let same : codes "build" ∷ us ≡ codes "build" ∷ vs = sym x.spelled ∙ y.spelled in
    let units : us ≡ vs = cc in
    ap Builds units
one_command words (Executes s i) (Executes t j) x y =
    let same : codes "exec" ∷ codes "1" ∷ s ∷ i ∷ [] ≡ codes "exec" ∷ codes "1" ∷ t ∷ j ∷ [] = sym x.spelled ∙ y.spelled in
    let script : s ≡ t = cc in
    let image : i ≡ j = cc in
    ap (λ one. Executes one i) script ∙ ap (λ one. Executes t one) image
one_command words (Runs s us) (Builds vs) x y = absurd (run_build (first_word _ _ _ _ (sym x.spelled ∙ y.spelled)))
one_command words (Runs s us) (Executes t j) x y = absurd (run_exec (first_word _ _ _ _ (sym x.spelled ∙ y.spelled)))
one_command words (Builds us) (Runs t vs) x y = absurd (run_build (sym (first_word _ _ _ _ (sym x.spelled ∙ y.spelled))))
one_command words (Builds us) (Executes t j) x y = absurd (build_exec (first_word _ _ _ _ (sym x.spelled ∙ y.spelled)))
one_command words (Executes s i) (Runs t vs) x y = absurd (run_exec (sym (first_word _ _ _ _ (sym x.spelled ∙ y.spelled))))
one_command words (Executes s i) (Builds vs) x y = absurd (build_exec (sym (first_word _ _ _ _ (sym x.spelled ∙ y.spelled))))
