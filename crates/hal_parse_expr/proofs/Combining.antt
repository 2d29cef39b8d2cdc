-- What readings that follow one another find, and how far they reach.
use Rattle.std.proofs.Common.{◌≡◌, ℕ, suc, ◌≤◌, length, Some, None, sym, subst, arith}
use Rattle.hal_grammar.specs.Words.{Words}
use Rattle.hal_parse_expr.specs.Reading.{Read, followed, made_of, with_tail, or_else}
use Rattle.hal_parse_expr.proofs.Shortening.{Below}
use Rattle.hal_parse_expr.proofs.Readings.{Holds, Reaches, holds_none, holds, reaches}

pub followed_holds : {X Y : Type 0} {P : X → Words → Type 0} {Q : Y → Words → Type 0} {o : Read X} {next : X → Words → Read Y} → Holds P o →
    ((x : X) (rest : Words) → P x rest → Holds Q (next x rest)) → Holds Q (followed o next)
unfolding followed
followed_holds holds_none g = holds_none
followed_holds (holds p) g = g _ _ p

pub made_holds : {X Y : Type 0} {P : X → Words → Type 0} {Q : Y → Words → Type 0} {o : Read X} (make : X → Y) → Holds P o →
    ((x : X) (rest : Words) → P x rest → Q (make x) rest) → Holds Q (made_of make o)
unfolding made_of
made_holds make holds_none g = holds_none
made_holds make (holds p) g = holds (g _ _ p)

pub tail_holds : {X Y : Type 0} {P : Y → Words → Type 0} {Q : X → Words → Type 0} {o : Read Y} (join : X → Y → X) (x : X) (rest : Words) → Q x rest → Holds P o →
    ((y : Y) (after : Words) → P y after → Q (join x y) after) → Holds Q (with_tail join x rest o)
unfolding with_tail
tail_holds join x rest q holds_none g = holds q
tail_holds join x rest q (holds p) g = holds (g _ _ p)

pub or_holds : {X : Type 0} {P : X → Words → Type 0} {o other : Read X} → Holds P o → Holds P other → Holds P (or_else o other)
unfolding or_else
or_holds holds_none h = h
or_holds (holds p) h = holds p

pub followed_reaches : {X Y : Type 0} {k m : ℕ} {o : Read X} {next : X → Words → Read Y} → Reaches k o →
    ((x : X) (rest : Words) → length rest ≤ k → Reaches m (next x rest)) → Reaches m (followed o next)
unfolding followed
followed_reaches (reaches l) g = g _ _ l

-- the same where it is known what was found
pub followed_at : {X Y : Type 0} {k : ℕ} {o : Read X} (next : X → Words → Read Y) {x : X} {rest : Words} → o ≡ Some (x, rest) → Reaches k (next x rest) → Reaches k (followed o next)
unfolding followed
followed_at {k = k} next e r = subst (λ o. Reaches k (followed o next)) (sym e) r

pub made_reaches : {X Y : Type 0} {k : ℕ} {o : Read X} (make : X → Y) → Reaches k o → Reaches k (made_of make o)
unfolding made_of
made_reaches make (reaches l) = reaches l

pub or_reaches : {X : Type 0} {k : ℕ} {o : Read X} (other : Read X) → Reaches k o → Reaches k (or_else o other)
unfolding or_else
or_reaches other (reaches l) = reaches l

pub or_other : {X : Type 0} {k : ℕ} {o other : Read X} → o ≡ None → Reaches k other → Reaches k (or_else o other)
unfolding or_else
or_other {k = k} {other = other} e r = subst (λ o. Reaches k (or_else o other)) (sym e) r

-- either of both leaves few enough words
pub or_either : {X : Type 0} {k : ℕ} (o : Read X) {other : Read X} → Below (suc k) o → Reaches k other → Reaches k (or_else o other)
unfolding or_else
or_either None h r = r
or_either (Some f) h r = reaches (omega arith)

pub tail_reaches : {X Y : Type 0} {k : ℕ} {o : Read Y} (join : X → Y → X) (x : X) (rest : Words) → Reaches k o → Reaches k (with_tail join x rest o)
unfolding with_tail
tail_reaches join x rest (reaches l) = reaches l

pub tail_keeps : {X Y : Type 0} {k : ℕ} (join : X → Y → X) (x : X) (rest : Words) (o : Read Y) → length rest ≤ k → Below (suc k) o → Reaches k (with_tail join x rest o)
unfolding with_tail
tail_keeps join x rest None l h = reaches l
tail_keeps join x rest (Some f) l h = reaches (omega arith)
