-- The groups that are marked are those that are DO FOR or DO CASE.
use Rattle.std.proofs.Common.{◌≡◌, ◌∙◌, ◌==◌, ◌<◌, ◌≤◌, ◌-◌, ℕ, zero, suc, Bool, true, false, ◌&&◌, ◌||◌, List, [], ◌∷◌, ◌++◌, length, replicate, slice_set, slice_index_or, if◌then◌else◌, refl, sym, ap, subst, arith, eqb-true, append-nil}
use Rattle.std.specs.List.{list_any}
use Rattle.std.proofs.lemmas.Bool.{eqb-false}
use Rattle.std.proofs.lemmas.List.{get_or-set_same, get_or-set_other, length-append, length-replicate}
use Rattle.std.proofs.lemmas.Option.{unwrap_or-slice_get}
use Rattle.std.proofs.Math.Bool.{or-false, or_assoc}
use Rattle.hal_phrases.specs.Phrases.{Phrase}
use Rattle.hal_meaning.specs.Places.{hidden, is_for_or_case, says_for_or_case}
use Rattle.hal_storage.specs.declared.own_places.groups.PlacedGroups as rust-groups
use Rattle.hal_storage.specs.own_places.Owned.{group}
use Rattle.hal_storage.specs.own_places.PlacedGroups.{ArePlaced, held, is_marked_in, places_by, with_parent, with_parents}

-- marks that reach a number already
pub long_enough : (marks : List Bool) (k : ℕ) → suc k ≤ length marks → marks ≡ held marks k
long_enough marks k h =
    let none : suc k - length marks ≡ 0 = omega arith in
    sym (ap (λ (n : ℕ). marks ++ replicate n false) none ∙ append-nil marks)

held_length : (marks : List Bool) (k : ℕ) → k < length (held marks k)
held_length marks k = omega (arith, length-append marks (replicate (suc k - length marks) false), length-replicate (suc k - length marks) false)

none_marked : (n k : ℕ) → is_marked_in (replicate n false) k ≡ false
none_marked zero k = refl
none_marked (suc n) zero = refl
none_marked (suc n) (suc k) = none_marked n k

none_more : (marks : List Bool) (n k : ℕ) → is_marked_in (marks ++ replicate n false) k ≡ is_marked_in marks k
none_more [] n k = none_marked n k
none_more (mark ∷ marks) n zero = refl
none_more (mark ∷ marks) n (suc k) = none_more marks n k

either : (b : Bool) → true ≡ (b || true)
either true = refl
either false = refl

-- one more mark
set_at : (marks : List Bool) (q k : ℕ) → q < length marks → (b : Bool) → (q == k) ≡ b → is_marked_in (slice_set marks q true) k ≡ (is_marked_in marks k || b)
set_at marks q k h true is =
    unwrap_or-slice_get (slice_set marks q true) k false ∙ subst (λ (i : ℕ). slice_index_or (slice_set marks q true) i false ≡ true) (eqb-true q k is) (get_or-set_same marks q true false h) ∙ either (is_marked_in marks k)
set_at marks q k h false is =
    unwrap_or-slice_get (slice_set marks q true) k false ∙ get_or-set_other marks q k true false (λ same. eqb-false q k is (sym same)) ∙ sym (unwrap_or-slice_get marks k false) ∙ sym (or-false (is_marked_in marks k))

parent_at : (marks : List Bool) (q k : ℕ) (says : Bool) → is_marked_in (if says then slice_set (held marks q) q true else marks) k ≡ (is_marked_in marks k || (says && (q == k)))
parent_at marks q k true = set_at (held marks q) q k (held_length marks q) (q == k) refl ∙ ap (λ b. b || (q == k)) (none_more marks (suc q - length marks) k)
parent_at marks q k false = sym (or-false (is_marked_in marks k))

parents_at : (marks : List Bool) (ps : List Phrase) (k : ℕ) → is_marked_in (with_parents marks ps) k ≡ (is_marked_in marks k || list_any (λ (p : Phrase). says_for_or_case p.node && (p.around.parent == k)) ps)
unfolding with_parents
parents_at marks [] k = sym (or-false (is_marked_in marks k))
parents_at marks (p ∷ ps) k =
    parents_at (with_parent marks p) ps k
    ∙ ap (λ b. b || list_any (λ (q : Phrase). says_for_or_case q.node && (q.around.parent == k)) ps) (parent_at marks p.around.parent k (says_for_or_case p.node))
    ∙ or_assoc (is_marked_in marks k) (says_for_or_case p.node && (p.around.parent == k)) (list_any (λ (q : Phrase). says_for_or_case q.node && (q.around.parent == k)) ps)

pub all_marked : (ps : List Phrase) (k : ℕ) → is_marked_in (with_parents [] ps) k ≡ is_for_or_case ps k
all_marked ps k = parents_at [] ps k

-- their places
pub group_placed : (ps : List Phrase) (g : rust-groups.PlacedGroups) → ArePlaced ps g → (k : ℕ) → places_by g k ≡ group ps k
group_placed ps g are k = ap (λ b. if b then hidden k 4 else []) (are k)
