-- Readings that follow one another, where it is known what is found.
use Rattle.std.proofs.Common.{◌≡◌, Some, None, ap, ◌∙◌}
use Rattle.hal_grammar.specs.Words.{Words}
use Rattle.hal_parse_expr.specs.Reading.{Read, followed, made_of, or_else, decided}

pub followed_equals : {X Y : Type 0} {o : Read X} (next : X → Words → Read Y) {x : X} {m : Words} {r : Read Y} → o ≡ Some (x, m) → next x m ≡ r → followed o next ≡ r
unfolding followed
followed_equals next e f = ap (λ o. followed o next) e ∙ f

pub followed_none : {X Y : Type 0} {o : Read X} (next : X → Words → Read Y) → o ≡ None → followed o next ≡ None
unfolding followed
followed_none next e = ap (λ o. followed o next) e

pub made_equals : {X Y : Type 0} {o : Read X} (make : X → Y) {x : X} {a : Words} → o ≡ Some (x, a) → made_of make o ≡ Some (make x, a)
unfolding made_of
made_equals make e = ap (λ o. made_of make o) e

pub made_none : {X Y : Type 0} {o : Read X} (make : X → Y) → o ≡ None → made_of make o ≡ None
unfolding made_of
made_none make e = ap (λ o. made_of make o) e

pub or_equals : {X : Type 0} {o : Read X} (other : Read X) {f : X × Words} → o ≡ Some f → or_else o other ≡ Some f
unfolding or_else
or_equals other e = ap (λ o. or_else o other) e

pub or_next : {X : Type 0} {o other r : Read X} → o ≡ None → other ≡ r → or_else o other ≡ r
unfolding or_else
or_next {other = other} e f = ap (λ o. or_else o other) e ∙ f

pub decided_equals : {X Y : Type 0} {o : Read X} (next : X → Words → Read Y) (other : Read Y) {x : X} {m : Words} {r : Read Y} → o ≡ Some (x, m) → next x m ≡ r → decided o next other ≡ r
unfolding decided
decided_equals next other e f = ap (λ o. decided o next other) e ∙ f

pub decided_other : {X Y : Type 0} {o : Read X} (next : X → Words → Read Y) {other r : Read Y} → o ≡ None → other ≡ r → decided o next other ≡ r
unfolding decided
decided_other next {other = other} e f = ap (λ o. decided o next other) e ∙ f
