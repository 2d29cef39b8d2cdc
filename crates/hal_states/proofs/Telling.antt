-- What is known of the writes of an UPDATE block that are there.
use Rattle.std.specs.Prelude.{ℕ, ◌-◌, ◌≤◌, ◌≡◌, ◌==◌, List, Bool, true, false, Option, Some, None, IsSome, if◌then◌else◌}
use Rattle.std.proofs.Common.{refl, sym, subst, arith}
use Rattle.std.proofs.lemmas.Bool.{eqb-true}
use Rattle.hal_values.specs.declared.request.Request.{Request}
use Rattle.hal_values.specs.declared.request.Request.TheVariants as request
use Rattle.hal_values.specs.declared.value.Value.{Value}
use Rattle.hal_values.specs.Loads.{IsUpdate, turn_limit}
use Rattle.hal_states.specs.Modes.{Mode}
use Rattle.hal_states.specs.Telling.{is_update}

pub few_made : (all left : ℕ) → all ≤ turn_limit → all - left ≤ turn_limit
few_made all left few = omega arith

-- an option that is Some
abbrev IsSame : {A : Type 0} → Option A → A → Type 0
IsSame None v = ⊥
IsSame (Some w) v = w ≡ v

pub is_same : {A : Type 0} (o : Option A) (v : A) → o ≡ Some v → IsSame o v
is_same o v e = subst (λ one. IsSame one v) (sym e) refl

written_in : (b : Bool) (m : Mode) (writes : List (ℕ × Value)) → IsSame (if b then Some m.writes else None) writes → m.writes ≡ writes
written_in true m writes is = is
written_in false m writes is = absurd is

pub writes_at : (update b : Bool) (m : Mode) (writes : List (ℕ × Value)) → IsSame (if update then (if b then Some m.writes else None) else None) writes → m.writes ≡ writes
writes_at true b m writes is = written_in b m writes is
writes_at false b m writes is = absurd is

made_in : (made turns : ℕ) (b : Bool) (m : Mode) (writes : List (ℕ × Value)) → (made == turns) ≡ b → IsSame (if b then Some m.writes else None) writes → made ≡ turns
made_in made turns true m writes e is = eqb-true made turns e
made_in made turns false m writes e is = absurd is

pub made_at : (update : Bool) (made turns : ℕ) (m : Mode) (writes : List (ℕ × Value)) → IsSame (if update then (if made == turns then Some m.writes else None) else None) writes → made ≡ turns
made_at true made turns m writes is = made_in made turns (made == turns) m writes refl is
made_at false made turns m writes is = absurd is

pub update_of : (r : Request) → IsUpdate r → is_update r ≡ true
update_of (request.Update groups) is = refl
update_of request.Begin is = absurd is
update_of (request.Read at) is = absurd is
update_of (request.Write c v) is = absurd is
update_of request.Pass is = absurd is
update_of (request.Schedule plan) is = absurd is
update_of (request.Cancel q) is = absurd is
update_of (request.Terminate q) is = absurd is
update_of (request.Wait pause) is = absurd is
update_of (request.Signal e) is = absurd is
update_of (request.Set e) is = absurd is
update_of (request.Reset e) is = absurd is
update_of (request.Priority q n) is = absurd is
update_of (request.Print channel line) is = absurd is
update_of (request.Input channel kind) is = absurd is
update_of request.Now is = absurd is
update_of (request.Stop e) is = absurd is
update_of request.Finish is = absurd is
update_of (request.Look c) is = absurd is
update_of (request.Close n) is = absurd is

pub some_at : (update b : Bool) (m : Mode) → update ≡ true → b ≡ true → IsSome (if update then (if b then Some m.writes else None) else None)
some_at true true m is made = refl
some_at true false m is made = absurd (cc)
some_at false b m is made = absurd (cc)
