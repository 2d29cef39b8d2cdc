-- The blocks that are gathered, each once, are those of the phrases that do what an UPDATE block may not do.
use Rattle.std.proofs.Common.{rules, ◌≡◌, ◌∙◌, ◌==◌, ℕ, Bool, true, false, ◌&&◌, ◌||◌, List, [], ◌∷◌, ◌++◌, Option, Some, None, filter, if◌then◌else◌, refl, sym, ap}
use Rattle.std.specs.List.{list_any}
use Rattle.std.proofs.lemmas.List.Folds.{list_any-append}
use Rattle.std.proofs.lemmas.Map.Views.{any-filter_same}
use Rattle.std.proofs.Math.Bool.{and-true, or-false, or_assoc}
use Rattle.hal_phrases.specs.Phrases.{Phrase}
use Rattle.hal_reach.specs.Places.{is_among}
use Rattle.hal_reach.specs.Calls.{reaches_any, reaching}
use Rattle.hal_reach.proofs.Within.{Has, same_number}
use Rattle.hal_reach.proofs.Callees.{IsCalled, callee_is}
use Rattle.hal_meaning.specs.Bodies.{callee, reaches}
use Rattle.hal_meaning.specs.Places.{unit_numbers}
use Rattle.hal_locks.specs.Callees.{is_barred, reaches_barred, calls_barred, with_home, with_homes, barred_homes, barred_units, calls_one}

absorbed : (a b : Bool) → (a || b) ≡ ((a || b) || a)
absorbed true b = refl
absorbed false b = sym (or-false b)

-- a number that is there already adds nothing to a test
there_at : (f : ℕ → Bool) (n : ℕ) (ks : List ℕ) (k : ℕ) → (is_among ks k ≡ true → list_any f ks ≡ (list_any f ks || f k)) → (b : Bool) → (n == k) ≡ b → (b || is_among ks k) ≡ true
    → (f n || list_any f ks) ≡ ((f n || list_any f ks) || f k)
there_at f n ks k rest true same is = absorbed (f n) (list_any f ks) ∙ ap (λ i. (f n || list_any f ks) || f i) (same_number n k same)
there_at f n ks k rest false other is = ap (λ b. f n || b) (rest is) ∙ sym (or_assoc (f n) (list_any f ks) (f k))

there : (f : ℕ → Bool) (ks : List ℕ) (k : ℕ) → is_among ks k ≡ true → list_any f ks ≡ (list_any f ks || f k)
there f [] k is = search rules
there f (n ∷ ks) k is = there_at f n ks k (there f ks k) (n == k) refl is

there_if : (f : ℕ → Bool) (ks : List ℕ) (k : ℕ) (does : Bool) → is_among ks k ≡ true → list_any f ks ≡ (list_any f ks || (does && f k))
there_if f ks k true is = there f ks k is
there_if f ks k false is = sym (or-false (list_any f ks))

-- one more number, where it passes
added : (f : ℕ → Bool) (ks : List ℕ) (k : ℕ) (does : Bool) → list_any f (if does then ks ++ (k ∷ []) else ks) ≡ (list_any f ks || (does && f k))
added f ks k true = list_any-append f ks (k ∷ []) ∙ ap (λ b. list_any f ks || b) (or-false (f k))
added f ks k false = sym (or-false (list_any f ks))

home_any : (f : ℕ → Bool) (ks : List ℕ) (k : ℕ) (does b : Bool) → is_among ks k ≡ b
    → list_any f (if b then ks else if does then ks ++ (k ∷ []) else ks) ≡ (list_any f ks || (does && f k))
home_any f ks k does true is = there_if f ks k does is
home_any f ks k does false is = added f ks k does

homes_any : (f : ℕ → Bool) (ps : List Phrase) (homes : List ℕ) (qs : List Phrase)
    → list_any f (with_homes ps homes qs) ≡ (list_any f homes || list_any (λ (p : Phrase). is_barred ps p && f p.around.home) qs)
unfolding with_homes
homes_any f ps homes [] = sym (or-false (list_any f homes))
homes_any f ps homes (p ∷ qs) =
    homes_any f ps (with_home ps homes p) qs
    ∙ ap (λ b. b || list_any (λ (q : Phrase). is_barred ps q && f q.around.home) qs) (home_any f homes p.around.home (is_barred ps p) (is_among homes p.around.home) refl)
    ∙ or_assoc (list_any f homes) (is_barred ps p && f p.around.home) (list_any (λ (q : Phrase). is_barred ps q && f q.around.home) qs)

-- a number of a list, among those of it that pass a test
filtered : (f : ℕ → Bool) (ns : List ℕ) (k : ℕ) → Has ns k → is_among (filter f ns) k ≡ f k
filtered f ns k has = any-filter_same (λ n. n == k) f (f k) (λ n is. ap f (same_number n k is)) ns ∙ ap (λ b. f k && b) has ∙ and-true (f k)

called_unit : (ps : List Phrase) (o : Option ℕ) → IsCalled ps o
    → ◌≡◌ {A = Bool} (elim o [ None ↦ false | Some q ↦ is_among (barred_units ps) q ]) (elim o [ None ↦ false | Some q ↦ reaches_barred ps q ])
unfolding reaching barred_units
called_unit ps None is = refl
called_unit ps (Some q) is = filtered (reaches_any ps (barred_homes ps)) (unit_numbers ps) q is ∙ homes_any (reaches ps q) ps [] ps

-- a call of one of the units that are found is a call of one that does such a thing, directly or through others
pub called : (ps : List Phrase) (p : Phrase) → calls_one ps (barred_units ps) p ≡ calls_barred ps p
called ps p = called_unit ps (callee ps p) (callee_is ps p)
