-- The units of TASKs are all that have one.
use Rattle.std.specs.Prelude.{◌≡◌, ℕ, ◌==◌, Bool, true, false, ◌&&◌, ◌||◌, List, [], ◌∷◌, ◌++◌, if◌then◌else◌}
use Rattle.std.specs.List.{list_any}
use Rattle.std.proofs.Common.{refl, sym, ap, ◌∙◌}
use Rattle.std.proofs.lemmas.List.Folds.{list_any-append}
use Rattle.hal_phrases.specs.Phrases.{Phrase}
use Rattle.hal_names.specs.Tasks.{is_task, is_task_in, with_home, with_homes}

or_assoc : (a b c : Bool) → ((a || b) || c) ≡ (a || (b || c))
or_assoc true b c = refl
or_assoc false b c = refl

or_false : (a : Bool) → (a || false) ≡ a
or_false true = refl
or_false false = refl

-- whether this is one of them
abbrev among : ℕ → List ℕ → Bool
among unit homes = list_any (λ (home : ℕ). home == unit) homes

with_one : (unit : ℕ) (homes : List ℕ) (p : Phrase) (task : Bool)
    → among unit (if task then homes ++ (p.around.home ∷ []) else homes) ≡ (among unit homes || (task && (p.around.home == unit)))
with_one unit homes p true = list_any-append (λ (home : ℕ). home == unit) homes (p.around.home ∷ []) ∙ ap (λ (b : Bool). among unit homes || b) (or_false (p.around.home == unit))
with_one unit homes p false = sym (or_false (among unit homes))

all_of : (unit : ℕ) (homes : List ℕ) (ps : List Phrase) → among unit (with_homes homes ps) ≡ (among unit homes || list_any (is_task_in unit) ps)
unfolding with_homes
all_of unit homes [] = sym (or_false (among unit homes))
all_of unit homes (p ∷ ps) =
    all_of unit (with_home homes p) ps
    ∙ ap (λ (b : Bool). b || list_any (is_task_in unit) ps) (with_one unit homes p (is_task p.node))
    ∙ or_assoc (among unit homes) (is_task_in unit p) (list_any (is_task_in unit) ps)

pub tasks_found : (unit : ℕ) (ps : List Phrase) → list_any (λ (home : ℕ). home == unit) (with_homes [] ps) ≡ list_any (is_task_in unit) ps
tasks_found unit ps = all_of unit [] ps
