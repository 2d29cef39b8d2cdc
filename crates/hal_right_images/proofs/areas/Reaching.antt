-- All places of a dimension are reached behind none that code skips.
use Rattle.std.specs.Prelude.{◌≡◌, ◌≤◌, ◌<◌, ◌+◌, ◌&&◌, ℕ, pos, Bool, true, false, List, Some, None, unwrap_or, if◌then◌else◌}
use Rattle.std.proofs.Common.{refl, arith}
use Rattle.std.proofs.lemmas.Int.{ints}
use Rattle.hal_base.specs.declared.refusal.Place.{Place}
use Rattle.hal_grammar.specs.Expressions.{Every}
use Rattle.hal_phrases.specs.Phrases.{Phrase}
use Rattle.hal_constants.specs.Known.{Known}
use Rattle.hal_shapes.specs.Reaches.{reach_of}
use Rattle.hal_states.specs.Numbers.{before_nearest, is_inside}
use Rattle.hal_agreement.specs.Sites.{Site}
use Rattle.hal_right_images.specs.areas.Reached.{IsReached}

first_nearest : (n : ℕ) → 1 ≤ n → before_nearest n (pos 1) ≡ 0
first_nearest n some = grind (arith, ints)

-- all places of a dimension
pub all_reached : (ps : List Phrase) (vs : Known) (q : Phrase) (site : Site) (n : ℕ) (there : Place) → 0 < n → IsReached ps vs q site n (Every there)
unfolding reach_of
all_reached ps vs q site n there some = record { left = n; reach = refl; some = some; low = by (is_inside n (pos 1) && is_inside n (pos n)) } where
  by : (b : Bool) → unwrap_or {T = ℕ} (if b then Some (before_nearest n (pos 1)) else None) 0 + n ≤ n
  by true = let none = first_nearest n (omega (arith, some)) in omega (arith, none)
  by false = omega arith
