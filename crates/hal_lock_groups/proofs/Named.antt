-- How the data are stored that a phrase names, by how what each phrase declares is stored.
use Rattle.std.proofs.Common.{◌≡◌, ◌∙◌, ℕ, zero, suc, List, [], ◌∷◌, map, Option, Some, None, slice_get, unwrap_or, refl, ap}
use Rattle.std.specs.Option.{option_and_then, option_map}
use Rattle.hal_phrases.specs.Phrases.{Phrase}
use Rattle.hal_scope.specs.declared.used.Use.{Use}
use Rattle.hal_scope.specs.Sorts.{used}
use Rattle.hal_constants.specs.Known.{Known}
use Rattle.hal_meaning.specs.Bodies.{meant}
use Rattle.hal_meaning.specs.Places.{Storing, Unstored, storing}
use Rattle.hal_meaning.specs.LockGroups.{named_storing}
use Rattle.hal_lock_groups.specs.Naming.{named, stored, all_storings, stored_at, storing_named}

get_stored : (f : Phrase → Storing) (ps : List Phrase) (k : ℕ) → unwrap_or (slice_get (map f ps) k) Unstored ≡ (elim (slice_get ps k) [ None ↦ Unstored | Some d ↦ f d ])
get_stored f [] k = refl
get_stored f (p ∷ ps) zero = refl
get_stored f (p ∷ ps) (suc k) = get_stored f ps k

at_number : (ps : List Phrase) (vs : Known) (o : Option ℕ)
    → ◌≡◌ {A = Storing} (elim o [ None ↦ Unstored | Some k ↦ stored_at (all_storings ps vs) k ]) (elim (option_and_then (slice_get ps) o) [ None ↦ Unstored | Some d ↦ storing ps vs d d.node ])
unfolding all_storings
at_number ps vs None = refl
at_number ps vs (Some k) = get_stored (stored ps vs) ps k

by_use : (ps : List Phrase) (block : ℕ) (o : Option Use) → option_and_then (meant ps block) (option_map (λ (u : Use). u.name) o) ≡ option_and_then (λ (u : Use). meant ps block u.name) o
by_use ps block None = refl
by_use ps block (Some u) = refl

pub named_stored : (ps : List Phrase) (vs : Known) (p : Phrase) → storing_named ps (all_storings ps vs) p ≡ named_storing ps vs p
named_stored ps vs p =
    at_number ps vs (named ps p)
    ∙ ap (λ (o : Option ℕ). elim (option_and_then (slice_get ps) o) [ None ↦ Unstored | Some d ↦ storing ps vs d d.node ]) (by_use ps p.around.block (used p.node))
