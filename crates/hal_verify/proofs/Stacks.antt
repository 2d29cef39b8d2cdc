-- Stacks by rows whose last item is the top.
use Rattle.std.specs.Prelude.{◌≡◌, ℕ, ◌-◌, ◌<◌, ◌≤◌, List, length, map, reverse, Some, None, slice_get}
use Rattle.std.specs.Option.{option_map}
use Rattle.std.proofs.Common.{sym, subst, ap, ◌∙◌, get_or}
use Rattle.std.proofs.lemmas.List.{get_or-reverse, length-reverse, length-map}
use Rattle.std.proofs.lemmas.Option.{slice_get-get_or, slice_get_past, slice_get-map}

pub same_length : {X Y : Type 0} (f : X → Y) (xs : List X) → length (map f (reverse xs)) ≡ length xs
same_length f xs = length-map (reverse xs) f ∙ length-reverse xs

pub from_end : {X Y : Type 0} (f : X → Y) (xs : List X) (k : ℕ) (one : X) → k < length xs → one ≡ get_or xs (length xs - 1 - k) one → slice_get (map f (reverse xs)) k ≡ Some (f one)
from_end f xs k one within is =
    slice_get-map f (reverse xs) k
    ∙ ap (option_map f) (slice_get-get_or (reverse xs) k one (subst (λ n. k < n) (sym (length-reverse xs)) within) ∙ ap Some (get_or-reverse xs k one within ∙ sym is))

pub past_end : {X Y : Type 0} (f : X → Y) (xs : List X) (k : ℕ) → length xs ≤ k → slice_get (map f (reverse xs)) k ≡ None
past_end f xs k past = slice_get-map f (reverse xs) k ∙ ap (option_map f) (slice_get_past (reverse xs) k (subst (λ n. n ≤ k) (sym (length-reverse xs)) past))
