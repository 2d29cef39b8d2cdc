-- What is called in UPDATE blocks does nothing that they may not do, where no rule of locks is broken.
use Rattle.std.specs.Prelude.{◌≡◌, ℕ, Bool, true, false, not, ◌&&◌, ◌||◌, List, [], ◌∷◌, Option, Some, None, if◌then◌else◌}
use Rattle.std.specs.List.{list_any}
use Rattle.std.specs.Option.{option_and_then, is_some}
use Rattle.std.proofs.Common.{refl, sym, ap, subst, ◌∙◌, inl, inr}
use Rattle.std.proofs.lemmas.Bool.{and_parts}
use Rattle.hal_base.specs.declared.refusal.Place.{Place}
use Rattle.hal_grammar.specs.Leaves.{Naming, naming}
use Rattle.hal_phrases.specs.Phrases.{Node, Phrase, OfCall, OfCallForm, OfReference, OfSubscriptName}
use Rattle.hal_scope.specs.Rules.{Row, IsAmong, Breaks, IsSound, ruled}
use Rattle.hal_scope.specs.Sorts.{used, use_of_reference}
use Rattle.hal_scope.specs.Uses.{unless}
use Rattle.hal_meaning.specs.Bodies.{callee_at, callee, callees, reaches}
use Rattle.hal_meaning.specs.Places.{unit_numbers}
use Rattle.hal_reach.proofs.Within.{Has}
use Rattle.hal_locks.specs.Callees.{is_barred, reaches_barred, calls_barred, calling, misled}
use Rattle.hal_locks.specs.Rules.{lock_rows}
use Rattle.hal_locks.specs.Updates.{named_in, within}
use Rattle.hal_fit_calls.specs.Harmless.{IsHarmless, AllHarmless}
use Rattle.hal_fit_calls.proofs.Reached.{reaches_on, reaches_itself, reaches_callee}

either_false : (a b : Bool) → (a || b) ≡ false → (a ≡ false) × (b ≡ false)
either_false true b is = absurd (cc)
either_false false b is = (refl, is)

-- what isn't so of any member isn't of one
none_among : {X : Type 0} (f : X → Bool) (xs : List X) (x : X) → IsAmong x xs → list_any f xs ≡ false → f x ≡ false
none_among f [] x among none = absurd among
none_among f (y ∷ ys) x (inl same) none = ap f same ∙ (either_false (f y) (list_any f ys) none).0
none_among f (y ∷ ys) x (inr later) none = none_among f ys x later (either_false (f y) (list_any f ys) none).1

-- nor is what would make it so
one_fewer : (a b : Bool) → (b ≡ true → a ≡ true) → a ≡ false → b ≡ false
one_fewer a true so none = let no = so refl in absurd (cc)
one_fewer a false so none = refl

none_fewer : {X : Type 0} (f g : X → Bool) (xs : List X) → ((x : X) → g x ≡ true → f x ≡ true) → list_any f xs ≡ false → list_any g xs ≡ false
none_fewer f g [] so none = refl
none_fewer f g (x ∷ xs) so none =
    let both = either_false (f x) (list_any f xs) none in
    ap (λ b. b || list_any g xs) (one_fewer (f x) (g x) (so x) both.0) ∙ none_fewer f g xs so both.1

both_false : (a b : Bool) → (a && b) ≡ false → b ≡ true → a ≡ false
both_false true b is so = absurd (cc)
both_false false b is so = refl

both_true : (a b : Bool) → a ≡ true → b ≡ true → (a && b) ≡ true
both_true true true ia ib = refl
both_true a b ia ib = absurd (cc)

-- a unit that reaches nothing barred has no such phrase
pub harmless : (ps : List Phrase) (q : ℕ) → AllHarmless ps q → IsHarmless ps q
harmless ps q none p among its =
    both_false (is_barred ps p) (reaches ps q p.around.home) (none_among (λ (x : Phrase). is_barred ps x && reaches ps q x.around.home) ps p among none)
    (subst (λ h. reaches ps q h ≡ true) (sym its) (reaches_itself ps q))

-- and so is it with what it calls
pub harmless_on : (ps : List Phrase) (q r : ℕ) → Has (unit_numbers ps) q → Has (callees ps q) r → AllHarmless ps q → AllHarmless ps r
harmless_on ps q r unit called none =
    none_fewer (λ (x : Phrase). is_barred ps x && reaches ps q x.around.home) (λ (x : Phrase). is_barred ps x && reaches ps r x.around.home) ps
    (λ x so.
    let both = and_parts (is_barred ps x) (reaches ps r x.around.home) so in
    both_true (is_barred ps x) (reaches ps q x.around.home) both.0 (reaches_on ps q r x.around.home unit (reaches_callee ps q r unit called) both.1)) none

-- a phrase that calls names what it calls
named : (ps : List Phrase) (block : ℕ) (node : Node) (q : ℕ) → callee_at ps block node ≡ Some q → (n : Naming) × (named_in node ≡ Some n)
unfolding used
named ps block (OfCall name arguments receivers) q is = (naming name.place name.name, refl)
named ps block (OfCallForm place name arguments) q is = (naming place name, refl)
named ps block (OfReference role reference) q is = let u = use_of_reference role reference in (naming u.place u.name, refl)
named ps block (OfSubscriptName name) q is = (naming name.place name.name, refl)
named ps block other q is = absurd (cc)

-- a rule that isn't broken
ruled_none : (rule : ℕ) (o : Option Place) → ruled rule o ≡ None → o ≡ None
ruled_none rule None is = refl
ruled_none rule (Some place) is = absurd (cc)

unbroken_by : (rule : ℕ) (o : Option Place) → ((place : Place) → ruled rule o ≡ Some (rule, place) → ⊥) → o ≡ None
unbroken_by rule None none = refl
unbroken_by rule (Some place) none = absurd (none place refl)

unless_so : (sort : Bool) (place : Place) → unless (not sort) place ≡ None → sort ≡ false
unless_so true place is = absurd (cc)
unless_so false place is = refl

-- what a phrase in an UPDATE block calls is harmless
pub called_harmless : (ps : List Phrase) → IsSound lock_rows ps → (p : Phrase) (q : ℕ) → IsAmong p ps → is_some p.around.update ≡ true → callee ps p ≡ Some q → AllHarmless ps q
unfolding lock_rows
called_harmless ps sound p q among inside is =
    let none : misled ps p ≡ None =
    unbroken_by 804 (misled ps p)
    (λ place broken. sound 804 place (record { row = λ qs r. ruled 804 (misled qs r); listed = inr (inr (inr (inl refl))); phrase = p; there = among; broken = broken })) in
    let its = named ps p.around.block p.node q is in
    let calls : calling (calls_barred ps p) p ≡ None = ap (λ b. if b then calling (calls_barred ps p) p else None) (sym inside) ∙ none in
    let told : unless (not (calls_barred ps p)) its.0.place ≡ None = ap (λ o. option_and_then (λ (n : Naming). unless (not (calls_barred ps p)) n.place) o) (sym its.1) ∙ calls in
    ap (λ o. elim o [ None ↦ false | Some k ↦ reaches_barred ps k ]) (sym is) ∙ unless_so (calls_barred ps p) its.0.place told
