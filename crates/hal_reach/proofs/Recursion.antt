-- The units that reach themselves.
use Rattle.std.proofs.Common.{◌≡◌, ◌∙◌, ℕ, Bool, ◌||◌, List, [], ◌∷◌, map, filter, if◌then◌else◌, refl, ap, ap₂}
use Rattle.std.specs.List.{list_any}
use Rattle.hal_phrases.specs.Phrases.{Phrase}
use Rattle.hal_scope.proofs.Lists.{or_false}
use Rattle.hal_meaning.specs.Bodies.{callees, reaches}
use Rattle.hal_reach.specs.Marks as marks
use Rattle.hal_reach.specs.Marks.{is_marked, recursive_among}
use Rattle.hal_reach.specs.Calls.{units_of, calls_of, calls_itself, recursive, reaches_any}
use Rattle.hal_meaning.specs.Places.{unit_numbers}
use Rattle.hal_reach.proofs.Within.{IsRight, AreRight, numbers, any_marked}
use Rattle.hal_reach.proofs.Reaching.{marked, numbered, right_units}

-- a list of one block
one_of : (ps : List Phrase) (to : ℕ) (ks : List ℕ) → list_any (reaches_any ps (to ∷ [])) ks ≡ list_any (λ k. reaches ps k to) ks
one_of ps to [] = refl
one_of ps to (k ∷ ks) = ap₂ (λ x y. x || y) (or_false (reaches ps k to)) (one_of ps to ks)

-- a unit that calls one that reaches it
calls_one : (ps : List Phrase) (u : marks.Unit) → IsRight ps (numbers (units_of ps)) u → marks.calls_itself (units_of ps) u ≡ calls_itself ps u.number
unfolding marks.calls_itself
calls_one ps u right =
    ap (λ ms. list_any (is_marked ms) u.callees) (marked ps (u.number ∷ []))
    ∙ ap (list_any (is_marked (map (reaches_any ps (u.number ∷ [])) (numbers (units_of ps))))) right.0
    ∙ any_marked (reaches_any ps (u.number ∷ [])) (numbers (units_of ps)) (callees ps u.number) right.1
    ∙ one_of ps u.number (callees ps u.number)

some_recursive : (ps : List Phrase) (us : List marks.Unit) → AreRight ps (numbers (units_of ps)) us → recursive_among (units_of ps) us ≡ filter (calls_itself ps) (numbers us)
unfolding recursive_among
some_recursive ps [] right = refl
some_recursive ps (u ∷ us) right = ap₂ (λ (b : Bool) (ks : List ℕ). if b then u.number ∷ ks else ks) (calls_one ps u right.0) (some_recursive ps us right.1)

pub all_recursive : (ps : List Phrase) → marks.recursive (units_of ps) ≡ recursive ps
unfolding units_of marks.recursive recursive
all_recursive ps = some_recursive ps (units_of ps) (right_units ps) ∙ ap (filter (calls_itself ps)) (numbered (unit_numbers ps) (calls_of ps) ps)
