-- Slices of which one loses its first value.
use Rattle.std.proofs.Common.{◌≡◌, ◌∙◌, sym, ap, subst, ℕ, ◌<◌, List, [], length, drop, get_or, set}
use Rattle.std.specs.Borrow.{Bor}
use Rattle.std.proofs.lemmas.List.{map-set, get_or-map}
use Rattle.hal_values.specs.declared.value.Value.{Value}
use Rattle.hal_report.specs.Rests.{lists}

-- the list of the lists loses it
pub lists-passed : (rests : List (Bor (List Value))) (place p : ℕ) (x r : Bor (List Value)) → place ≡ p → place < length rests → x ≡ get_or rests place x → r.now ≡ drop 1 x.now
    → lists (set rests place r) ≡ set (lists rests) p (drop 1 (get_or (lists rests) p []))
lists-passed rests place p x r same within is behind =
    let first : get_or (lists rests) place [] ≡ x.now = get_or-map (λ (slice : Bor (List Value)). slice.now) rests place x [] within ∙ ap (λ (slice : Bor (List Value)). slice.now) (sym is) in
    subst (λ (k : ℕ). lists (set rests place r) ≡ set (lists rests) k (drop 1 (get_or (lists rests) k []))) same
    (map-set (λ (slice : Bor (List Value)). slice.now) rests place r ∙ ap (set (lists rests) place) (behind ∙ ap (drop 1) (sym first)))
