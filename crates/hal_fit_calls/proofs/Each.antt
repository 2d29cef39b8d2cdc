-- Members of lists that are joined.
use Rattle.std.specs.Prelude.{Bool, true, false, List, [], ◌∷◌, ◌++◌, flat_map, if◌then◌else◌}
use Rattle.hal_fit_calls.specs.Each.{Each}

pub each_append : {X : Type 0} (P : X → Type 0) (xs ys : List X) → Each P xs → Each P ys → Each P (xs ++ ys)
each_append P [] ys first second = second
each_append P (x ∷ xs) ys first second = (first.0, each_append P xs ys first.1 second)

pub each_one : {X : Type 0} (P : X → Type 0) (xs : List X) → ((x : X) → P x) → Each P xs
each_one P [] all = tt
each_one P (x ∷ xs) all = (all x, each_one P xs all)

pub each_weaker : {X : Type 0} (P Q : X → Type 0) (xs : List X) → Each P xs → ((x : X) → P x → Q x) → Each Q xs
each_weaker P Q [] each so = tt
each_weaker P Q (x ∷ xs) each so = (so x each.0, each_weaker P Q xs each.1 so)

-- of lists one after another, where each is so that comes of such a member
pub each_flat : {X Y : Type 0} (Q : X → Type 0) (P : Y → Type 0) (f : X → List Y) (xs : List X) → Each Q xs → ((x : X) → Q x → Each P (f x)) → Each P (flat_map f xs)
each_flat Q P f [] each so = tt
each_flat Q P f (x ∷ xs) each so = each_append P (f x) (flat_map f xs) (so x each.0) (each_flat Q P f xs each.1 so)

pub each_if : {X : Type 0} (P : X → Type 0) (b : Bool) (xs : List X) → Each P xs → Each P (if b then xs else [])
each_if P true xs each = each
each_if P false xs each = tt
