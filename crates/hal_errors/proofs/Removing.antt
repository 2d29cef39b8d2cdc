-- Lists without the entries of a selector, from a place on.
use Rattle.std.specs.Prelude.{◌≡◌, ◌<◌, ◌≤◌, ◌+◌, ℕ, true, false, not, List, [], ◌∷◌, ◌++◌, length, take, drop, slice_index_or, if◌then◌else◌}
use Rattle.std.proofs.Common.{ap, sym, ◌∙◌, arith, append-nil, append_assoc}
use Rattle.std.specs.List.{insert}
use Rattle.std.proofs.lemmas.List.{drop_more, take_more, take_at, drop_at, length-take-le, take_all, drop_all}
use Rattle.hal_values.specs.declared.environment.Entry.{Entry}
use Rattle.hal_values.specs.declared.environment.Selector.{Selector}
use Rattle.hal_values.specs.Searching.{same_selector, without, with_entry}

-- what is before a place, and what is left of the rest
abbrev pub cleared : Selector → ℕ → List Entry → List Entry
cleared s at xs = take at xs ++ without s (drop at xs)

-- one that has another selector stays
pub one_kept : (s : Selector) (xs : List Entry) (at : ℕ) (e : Entry) → at < length xs → e ≡ slice_index_or xs at e → same_selector s e.selector ≡ false → cleared s (at + 1) xs ≡ cleared s at xs
one_kept s xs at e low here other =
    ap (λ front. front ++ without s (drop (at + 1) xs)) (take_more xs at e low ∙ ap (λ x. take at xs ++ x ∷ []) (sym here))
    ∙ append_assoc (take at xs) (e ∷ []) (without s (drop (at + 1) xs))
    ∙ ap (λ rest. take at xs ++ rest) (sym (stays ∙ ap (λ b. if not b then e ∷ without s (drop (at + 1) xs) else without s (drop (at + 1) xs)) other))
  where
    stays : without s (drop at xs) ≡ (if not (same_selector s e.selector) then e ∷ without s (drop (at + 1) xs) else without s (drop (at + 1) xs))
    stays = ap (without s) (drop_more xs at e low ∙ ap (λ x. x ∷ drop (at + 1) xs) (sym here))

-- one that has this selector goes
pub one_removed : (s : Selector) (xs : List Entry) (at : ℕ) (e : Entry) → at < length xs → e ≡ slice_index_or xs at e → same_selector s e.selector ≡ true → cleared s at (take at xs ++ drop (at + 1) xs) ≡ cleared s at xs
one_removed s xs at e low here same =
    ap (λ front. front ++ without s (drop at (take at xs ++ drop (at + 1) xs))) (take_at (take at xs) (drop (at + 1) xs) at long)
    ∙ ap (λ rest. take at xs ++ without s rest) (drop_at (take at xs) (drop (at + 1) xs) at long)
    ∙ ap (λ rest. take at xs ++ rest) (sym (goes ∙ ap (λ b. if not b then e ∷ without s (drop (at + 1) xs) else without s (drop (at + 1) xs)) same))
  where
    long : length (take at xs) ≡ at
    long = length-take-le at xs (omega (arith, low))

    goes : without s (drop at xs) ≡ (if not (same_selector s e.selector) then e ∷ without s (drop (at + 1) xs) else without s (drop (at + 1) xs))
    goes = ap (without s) (drop_more xs at e low ∙ ap (λ x. x ∷ drop (at + 1) xs) (sym here))

-- nothing is left to look at
pub all_looked : (s : Selector) (xs : List Entry) (at : ℕ) → length xs ≤ at → cleared s at xs ≡ xs
all_looked s xs at past = ap (λ front. front ++ without s (drop at xs)) (take_all at xs past) ∙ ap (λ rest. xs ++ without s rest) (drop_all at xs past) ∙ append-nil xs

-- an entry before what is left of the rest
pub one_put : (e : Entry) (xs : List Entry) (at : ℕ) → at ≤ length xs → insert (cleared e.selector at xs) at e ≡ take at xs ++ with_entry e (drop at xs)
one_put e xs at low =
    ap (λ front. front ++ e ∷ drop at (cleared e.selector at xs)) (take_at (take at xs) (without e.selector (drop at xs)) at long)
    ∙ ap (λ rest. take at xs ++ e ∷ rest) (drop_at (take at xs) (without e.selector (drop at xs)) at long)
  where
    long : length (take at xs) ≡ at
    long = length-take-le at xs low
