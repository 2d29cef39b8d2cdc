-- Declared events, which follow the processes.
use Rattle.std.specs.Prelude.{◌≡◌, ℕ, zero, suc, ◌-◌, ◌<◌, ◌≤◌, List, Option, Some, None, slice_get}
use Rattle.std.specs.Option.{option_map}
use Rattle.std.proofs.Common.{refl, ap, ◌∙◌, arith}
use Rattle.hal_values.specs.declared.tables.EventStart.{EventStart}
use Rattle.hal_code.specs.declared.choice.Choice.{Choice}
use Rattle.hal_code.specs.Images.{start_of}
use Rattle.hal_code.specs.Operands.{declared_in}

pub declared_below : (n : ℕ) (events : List (Choice EventStart)) (e : ℕ) → e < n → declared_in n events e ≡ None
declared_below zero events e below = absurd (omega (arith, below))
declared_below (suc n) events zero below = refl
declared_below (suc n) events (suc e) below = declared_below n events e (omega (arith, below))

started : (found : Option (Choice EventStart)) → elim found [ None ↦ None | Some one ↦ Some (start_of one) ] ≡ option_map start_of found
started None = refl
started (Some one) = refl

same_get : (events : List (Choice EventStart)) (m n : ℕ) → m ≡ n → option_map start_of (slice_get events m) ≡ option_map start_of (slice_get events n)
same_get events m n is = ap (λ k. option_map start_of (slice_get events k)) is

pub declared_there : (n : ℕ) (events : List (Choice EventStart)) (e : ℕ) → n ≤ e → declared_in n events e ≡ option_map start_of (slice_get events (e - n))
declared_there zero events e there = started (slice_get events e) ∙ same_get events e (e - 0) (omega arith)
declared_there (suc n) events zero there = absurd (omega (arith, there))
declared_there (suc n) events (suc e) there = declared_there n events e (omega (arith, there)) ∙ same_get events (e - n) (suc e - suc n) (omega arith)
