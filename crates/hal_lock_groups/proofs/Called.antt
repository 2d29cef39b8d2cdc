-- Calls of units that name plain shared data or reach one that does.
use Rattle.std.proofs.Common.{◌≡◌, ◌∙◌, ◌==◌, ℕ, Bool, false, ◌&&◌, List, [], Option, Some, None, filter, sym, ap}
use Rattle.std.specs.List.{list_any}
use Rattle.std.proofs.lemmas.Map.Views.{any-filter_same}
use Rattle.std.proofs.Math.Bool.{and-true}
use Rattle.hal_phrases.specs.Phrases.{Phrase}
use Rattle.hal_reach.specs.Places.{is_among}
use Rattle.hal_reach.specs.Calls.{reaches_any, reaching}
use Rattle.hal_reach.proofs.Within.{Has, same_number}
use Rattle.hal_reach.proofs.Callees.{IsCalled, callee_is}
use Rattle.hal_meaning.specs.Bodies.{callee, reaches}
use Rattle.hal_meaning.specs.Places.{Storing, unit_numbers}
use Rattle.hal_meaning.specs.LockGroups.{is_plain}
use Rattle.hal_lock_groups.specs.Naming.{storing_named}
use Rattle.hal_lock_groups.specs.Shared.{plain_homes, calls_one}
use Rattle.hal_lock_groups.proofs.Tests.{never}
use Rattle.hal_lock_groups.proofs.Homes.{homes_any}

-- a number of a list, among those of it that pass a test
filtered : (f : ℕ → Bool) (ns : List ℕ) (k : ℕ) → Has ns k → is_among (filter f ns) k ≡ f k
filtered f ns k has = any-filter_same (λ n. n == k) f (f k) (λ n is. ap f (same_number n k is)) ns ∙ ap (λ b. f k && b) has ∙ and-true (f k)

called_unit : (ps : List Phrase) (list : List Storing) (o : Option ℕ) → IsCalled ps o
    → (elim o [ None ↦ false | Some q ↦ is_among (reaching ps (plain_homes ps list)) q ])
    ≡ list_any (λ (p : Phrase). is_plain (storing_named ps list p) && (elim o [ None ↦ false | Some q ↦ reaches ps q p.around.home ])) ps
unfolding reaching
called_unit ps list None is = sym (never (λ (p : Phrase). is_plain (storing_named ps list p)) ps)
called_unit ps list (Some q) is = filtered (reaches_any ps (plain_homes ps list)) (unit_numbers ps) q is ∙ homes_any (reaches ps q) ps list [] ps

pub called : (ps : List Phrase) (list : List Storing) (p : Phrase)
    → calls_one ps (reaching ps (plain_homes ps list)) p
    ≡ list_any (λ (q : Phrase). is_plain (storing_named ps list q) && (elim (callee ps p) [ None ↦ false | Some k ↦ reaches ps k q.around.home ])) ps
called ps list p = called_unit ps list (callee ps p) (callee_is ps p)
