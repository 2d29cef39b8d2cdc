-- What is read holds of the words: where a phrase decides, and what follows of it.
use Rattle.std.proofs.Common.{◌≡◌, Some, None, refl}
use Rattle.hal_grammar.specs.Words.{Words}
use Rattle.hal_parse_expr.specs.Reading.{Read, decided}
use Rattle.hal_parse_expr.proofs.Readings.{Holds, holds_none, holds}

-- what is read has the property
pub given : {X : Type 0} {P : X → Words → Type 0} {o : Read X} {x : X} {after : Words} → Holds P o → o ≡ Some (x, after) → P x after
given {X = X} {P = P} {x = x} {after = after} g e = go (rw e at g)
  where
    go : Holds P (Some (x, after)) → P x after
    go (holds h) = h

-- nothing is read where nothing has the property
pub nothing_read : {X : Type 0} {P : X → Words → Type 0} {o : Read X} → Holds P o → ((x : X) (rest : Words) → P x rest → ⊥) → o ≡ None
nothing_read holds_none f = refl
nothing_read (holds h) f = absurd (f _ _ h)

-- where a phrase decides what is read behind it, or else
pub decided_holds : {X Y : Type 0} {P : X → Words → Type 0} {Q : Y → Words → Type 0} {o : Read X} {next : X → Words → Read Y} {other : Read Y} → Holds P o →
    ((x : X) (rest : Words) → P x rest → Holds Q (next x rest)) → (o ≡ None → Holds Q other) → Holds Q (decided o next other)
unfolding decided
decided_holds holds_none f g = g refl
decided_holds (holds h) f g = f _ _ h
