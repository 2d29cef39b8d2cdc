-- Rule 804: calls in UPDATE blocks of blocks that do what an UPDATE block may not do.
use Rattle.std.specs.Prelude.{ℕ, Bool, false, ◌&&◌, ◌||◌, not, List, [], ◌∷◌, ◌++◌, Option, Some, None, if◌then◌else◌}
use Rattle.std.specs.Option.{option_and_then, is_some}
use Rattle.std.specs.List.{list_any}
use Rattle.hal_base.specs.declared.refusal.Place.{Place}
use Rattle.hal_grammar.specs.Leaves.{Naming}
use Rattle.hal_phrases.specs.Phrases.{Phrase}
use Rattle.hal_scope.specs.Uses.{unless}
use Rattle.hal_meaning.specs.Bodies.{callee, reaches}
use Rattle.hal_reach.specs.Places.{is_among}
use Rattle.hal_reach.specs.Calls.{reaching}
use Rattle.hal_locks.specs.Updates.{named_in, updating, within}
use Rattle.hal_locks.specs.Barred.{barred}

-- whether a phrase is UPDATE, or does what an UPDATE block may not do
abbrev pub is_barred : List Phrase → Phrase → Bool
is_barred ps p = is_some (updating p.node) || is_some (barred ps p.around.block p.node)

-- whether a block has such a phrase, or calls one that has, directly or through others
abbrev pub reaches_barred : List Phrase → ℕ → Bool
reaches_barred ps q = list_any (λ (p : Phrase). is_barred ps p && reaches ps q p.around.home) ps

-- whether a phrase calls such a block
abbrev pub calls_barred : List Phrase → Phrase → Bool
calls_barred ps p = elim (callee ps p) [ None ↦ false | Some q ↦ reaches_barred ps q ]

-- where a phrase calls, if that is a call of this sort
abbrev pub calling : Bool → Phrase → Option Place
calling sort p = option_and_then (λ (n : Naming). unless (not sort) n.place) (named_in p.node)

-- rule 804
abbrev pub misled : List Phrase → Phrase → Option Place
misled ps p = within p (calling (calls_barred ps p) p)

-- blocks that have such a phrase, and that of one more phrase where it is one
abbrev pub with_home : List Phrase → List ℕ → Phrase → List ℕ
with_home ps homes p = if is_among homes p.around.home then homes else if is_barred ps p then homes ++ (p.around.home ∷ []) else homes

-- those of more phrases
unfoldable pub with_homes : List Phrase → List ℕ → List Phrase → List ℕ
with_homes ps homes [] = homes
with_homes ps homes (p ∷ qs) = with_homes ps (with_home ps homes p) qs

-- those of a set
abbrev pub barred_homes : List Phrase → List ℕ
barred_homes ps = with_homes ps [] ps

-- the units of a set that have such a phrase, or reach one by calls that has
unfoldable pub barred_units : List Phrase → List ℕ
barred_units ps = reaching ps (barred_homes ps)

-- whether a phrase calls one of these units
abbrev pub calls_one : List Phrase → List ℕ → Phrase → Bool
calls_one ps units p = elim (callee ps p) [ None ↦ false | Some q ↦ is_among units q ]

-- rule 804, by these units
abbrev pub misled_by : List Phrase → List ℕ → Phrase → Option Place
misled_by ps units p = within p (calling (calls_one ps units p) p)
