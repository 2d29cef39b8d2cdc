-- In a set without data of a known lock group no name means such data.
use Rattle.std.proofs.Common.{◌≡◌, ℕ, zero, suc, Bool, true, false, not, List, [], ◌∷◌, Option, Some, None, slice_get, if◌then◌else◌, refl, sym, ap}
use Rattle.std.specs.Option.{option_and_then, is_some}
use Rattle.std.proofs.lemmas.Bool.{or_parts}
use Rattle.hal_base.specs.declared.refusal.Place.{Place}
use Rattle.hal_grammar.specs.Leaves.{Naming}
use Rattle.hal_phrases.specs.Phrases.{Phrase}
use Rattle.hal_names.specs.Means.{means}
use Rattle.hal_scope.specs.Uses.{unless}
use Rattle.hal_locks.specs.Locked.{declares_grouped, has_grouped, is_grouped, means_grouped}
use Rattle.hal_locks.specs.Updates.{named_in, naming_grouped, outside, unheld}

-- no phrase of the set declares such data
none_at : (ps : List Phrase) (k : ℕ) → has_grouped ps ≡ false → ◌≡◌ {A = Bool} (elim (slice_get ps k) [ None ↦ false | Some q ↦ is_grouped q.node ]) false
unfolding declares_grouped
none_at [] k none = refl
none_at (p ∷ ps) zero none = (or_parts (is_grouped p.node) (has_grouped ps) none).0
none_at (p ∷ ps) (suc k) none = none_at ps k (or_parts (is_grouped p.node) (has_grouped ps) none).1

none_where : (ps : List Phrase) (o : Option ℕ) → has_grouped ps ≡ false
    → ◌≡◌ {A = Bool} (elim (option_and_then (λ (k : ℕ). slice_get ps k) o) [ None ↦ false | Some q ↦ is_grouped q.node ]) false
none_where ps None none = refl
none_where ps (Some k) none = none_at ps k none

none_meant : (ps : List Phrase) (block : ℕ) (name : List ℕ) → has_grouped ps ≡ false → means_grouped ps block name ≡ false
none_meant ps block name none = none_where ps (means ps block name) none

none_named : (ps : List Phrase) (block : ℕ) (o : Option Naming) → has_grouped ps ≡ false
    → option_and_then (λ (n : Naming). unless (not (means_grouped ps block n.name)) n.place) o ≡ None
none_named ps block None none = refl
none_named ps block (Some n) none = ap (λ (b : Bool). unless (not b) n.place) (none_meant ps block n.name none)

neither : (b : Bool) (o : Option Place) → o ≡ None → None ≡ (if b then None else o)
neither true o none = refl
neither false o none = sym none

pub none_unheld : (ps : List Phrase) (p : Phrase) → false ≡ has_grouped ps → None ≡ unheld ps p
none_unheld ps p none = neither (is_some p.around.update) (naming_grouped ps p) (none_named ps p.around.block (named_in p.node) (sym none))
