-- The homes that are gathered, each once, are those of the phrases that name plain shared data.
use Rattle.std.proofs.Common.{rules, ◌≡◌, ◌∙◌, ◌==◌, ℕ, Bool, true, false, ◌&&◌, ◌||◌, List, [], ◌∷◌, ◌++◌, if◌then◌else◌, refl, sym, ap}
use Rattle.std.specs.List.{list_any}
use Rattle.std.proofs.lemmas.List.Folds.{list_any-append}
use Rattle.std.proofs.Math.Bool.{or-false, or_assoc}
use Rattle.hal_phrases.specs.Phrases.{Phrase}
use Rattle.hal_reach.specs.Places.{is_among}
use Rattle.hal_reach.proofs.Within.{same_number}
use Rattle.hal_meaning.specs.Places.{Storing}
use Rattle.hal_meaning.specs.LockGroups.{is_plain}
use Rattle.hal_lock_groups.specs.Naming.{storing_named}
use Rattle.hal_lock_groups.specs.Shared.{with_number, with_home, with_homes}

absorbed : (a b : Bool) → (a || b) ≡ ((a || b) || a)
absorbed true b = refl
absorbed false b = sym (or-false b)

-- a number that is there already adds nothing to a test
there_at : (f : ℕ → Bool) (n : ℕ) (ks : List ℕ) (k : ℕ) → (is_among ks k ≡ true → list_any f ks ≡ (list_any f ks || f k)) → (b : Bool) → (n == k) ≡ b → (b || is_among ks k) ≡ true
    → (f n || list_any f ks) ≡ ((f n || list_any f ks) || f k)
there_at f n ks k rest true same is = absorbed (f n) (list_any f ks) ∙ ap (λ i. (f n || list_any f ks) || f i) (same_number n k same)
there_at f n ks k rest false other is = ap (λ b. f n || b) (rest is) ∙ sym (or_assoc (f n) (list_any f ks) (f k))

there : (f : ℕ → Bool) (ks : List ℕ) (k : ℕ) → is_among ks k ≡ true → list_any f ks ≡ (list_any f ks || f k)
there f [] k is = search rules
there f (n ∷ ks) k is = there_at f n ks k (there f ks k) (n == k) refl is

number_any : (f : ℕ → Bool) (ks : List ℕ) (k : ℕ) (b : Bool) → is_among ks k ≡ b → list_any f (if b then ks else ks ++ (k ∷ [])) ≡ (list_any f ks || f k)
number_any f ks k true is = there f ks k is
number_any f ks k false is = list_any-append f ks (k ∷ []) ∙ ap (λ b. list_any f ks || b) (or-false (f k))

home_any : (f : ℕ → Bool) (homes : List ℕ) (home : ℕ) (b : Bool) → list_any f (if b then with_number homes home else homes) ≡ (list_any f homes || (b && f home))
home_any f homes home true = number_any f homes home (is_among homes home) refl
home_any f homes home false = sym (or-false (list_any f homes))

pub homes_any : (f : ℕ → Bool) (ps : List Phrase) (list : List Storing) (homes : List ℕ) (qs : List Phrase)
    → list_any f (with_homes ps list homes qs) ≡ (list_any f homes || list_any (λ (p : Phrase). is_plain (storing_named ps list p) && f p.around.home) qs)
unfolding with_homes
homes_any f ps list homes [] = sym (or-false (list_any f homes))
homes_any f ps list homes (p ∷ qs) =
    homes_any f ps list (with_home ps list homes p) qs
    ∙ ap (λ b. b || list_any (λ (q : Phrase). is_plain (storing_named ps list q) && f q.around.home) qs) (home_any f homes p.around.home (is_plain (storing_named ps list p)))
    ∙ or_assoc (list_any f homes) (is_plain (storing_named ps list p) && f p.around.home) (list_any (λ (q : Phrase). is_plain (storing_named ps list q) && f q.around.home) qs)
