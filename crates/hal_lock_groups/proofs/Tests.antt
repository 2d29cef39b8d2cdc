-- Laws of tests of the elements of lists.
use Rattle.std.proofs.Common.{◌≡◌, ◌∙◌, Bool, true, false, ◌&&◌, ◌||◌, List, [], ◌∷◌, refl, sym, ap, ap₂}
use Rattle.std.specs.List.{list_any}
use Rattle.std.proofs.Math.Bool.{and-false, and-true, and-or_distrib_left, and-or_distrib_right}
use Rattle.hal_reach.proofs.Within.{either_any}

-- tests that agree
pub same_any : {X : Type 0} (f g : X → Bool) → ((x : X) → f x ≡ g x) → (xs : List X) → list_any f xs ≡ list_any g xs
same_any f g same [] = refl
same_any f g same (x ∷ xs) = ap₂ (λ a b. a || b) (same x) (same_any f g same xs)

-- a test that no element passes
pub never : {X : Type 0} (f : X → Bool) (xs : List X) → list_any (λ x. f x && false) xs ≡ false
never f [] = refl
never f (x ∷ xs) = ap₂ (λ a b. a || b) (and-false (f x)) (never f xs)

-- a fact that is the same at each element
same_at_each : {X : Type 0} (f d : X → Bool) (n : Bool) (xs : List X) → list_any (λ x. f x && (n && d x)) xs ≡ (list_any (λ x. f x && d x) xs && n)
same_at_each f d true xs = sym (and-true (list_any (λ x. f x && d x) xs))
same_at_each f d false xs = never f xs ∙ sym (and-false (list_any (λ x. f x && d x) xs))

-- one of some elements with one of others, in either order
swapped : {X Y : Type 0} (f : X → Bool) (n : Y → Bool) (d : X → Y → Bool) (xs : List X) (ys : List Y)
    → list_any (λ y. list_any (λ x. f x && d x y) xs && n y) ys ≡ list_any (λ x. f x && list_any (λ y. n y && d x y) ys) xs
swapped f n d xs [] = sym (never f xs)
swapped f n d xs (y ∷ ys) =
    ap₂ (λ a b. a || b) (sym (same_at_each f (λ x. d x y) (n y) xs)) (swapped f n d xs ys)
    ∙ sym (either_any (λ x. f x && (n y && d x y)) (λ x. f x && list_any (λ z. n z && d x z) ys) xs)
    ∙ same_any (λ x. (f x && (n y && d x y)) || (f x && list_any (λ z. n z && d x z) ys)) (λ x. f x && ((n y && d x y) || list_any (λ z. n z && d x z) ys))
    (λ x. sym (and-or_distrib_left (f x) (n y && d x y) (list_any (λ z. n z && d x z) ys))) xs

-- an element that passes f, or to which one that does leads, and that passes n: an element that passes f, and passes n or leads to one that does
pub led_to : {X : Type 0} (f n : X → Bool) (d : X → X → Bool) (xs : List X)
    → list_any (λ y. (f y || list_any (λ x. f x && d x y) xs) && n y) xs ≡ list_any (λ x. f x && (n x || list_any (λ y. n y && d x y) xs)) xs
led_to f n d xs =
    same_any (λ y. (f y || list_any (λ x. f x && d x y) xs) && n y) (λ y. (f y && n y) || (list_any (λ x. f x && d x y) xs && n y))
    (λ y. and-or_distrib_right (f y) (list_any (λ x. f x && d x y) xs) (n y)) xs
    ∙ either_any (λ y. f y && n y) (λ y. list_any (λ x. f x && d x y) xs && n y) xs
    ∙ ap (λ b. list_any (λ y. f y && n y) xs || b) (swapped f n d xs xs)
    ∙ sym (either_any (λ x. f x && n x) (λ x. f x && list_any (λ y. n y && d x y) xs) xs)
    ∙ same_any (λ x. (f x && n x) || (f x && list_any (λ y. n y && d x y) xs)) (λ x. f x && (n x || list_any (λ y. n y && d x y) xs))
    (λ x. sym (and-or_distrib_left (f x) (n x) (list_any (λ y. n y && d x y) xs))) xs
