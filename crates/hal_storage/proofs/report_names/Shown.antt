-- Which process shows the data of a unit.
use Rattle.std.proofs.Common.{rules, ◌≡◌, ◌∙◌, ◌<◌, ◌==◌, ℕ, zero, suc, Bool, true, false, List, [], ◌∷◌, ◌++◌, Option, Some, None, length, map, slice_get, unwrap_or, if◌then◌else◌, refl, sym, ap, subst, arith}
use Rattle.hal_phrases.specs.Phrases.{Phrase}
use Rattle.hal_names.specs.Laws.{IsCounted}
use Rattle.hal_constants.specs.Known.{Known}
use Rattle.hal_meaning.specs.Bodies.{is_unit, processes_of, processes_reaching}
use Rattle.hal_meaning.specs.Places.{is_in_unit, is_sole, unit_numbers, common_places, sole_places, places_of}
use Rattle.hal_meaning.specs.ReportNames.{first_place, showing}
use Rattle.hal_reach.specs.Calls.{reached, reached_of}
use Rattle.hal_reach.proofs.Callees.{has_unit}
use Rattle.hal_reach.proofs.Within.{Has}
use Rattle.hal_storage.specs.own_places.Owned.{own_places}
use Rattle.hal_storage.specs.report_names.Rows.{lookups_of, showing_among, showing_in, place_of}
use Rattle.hal_storage.proofs.report_names.Lists.{below}
use Rattle.hal_storage.proofs.report_names.Placed.{place_behind}

-- what stands in a unit stands in one of the units
found_unit : (ps : List Phrase) → IsCounted ps → (home : ℕ) (found : Option Phrase) → slice_get ps home ≡ found → elim found [ None ↦ false | Some p ↦ is_unit p.node ] ≡ true → Has (unit_numbers ps) home
found_unit ps counted home None at is = absurd (cc)
found_unit ps counted home (Some p) at is = subst (Has (unit_numbers ps)) (counted home p at) (has_unit ps home p at is)

pub has_home : (ps : List Phrase) → IsCounted ps → (home : ℕ) → is_in_unit ps home ≡ true → Has (unit_numbers ps) home
has_home ps counted home is = found_unit ps counted home (slice_get ps home) refl is

-- the process that shows the data of one of them
same_number : (n k : ℕ) → (n == k) ≡ true → n ≡ k
same_number n k is = search rules

has_later : (n : ℕ) (ns : List ℕ) (k : ℕ) → (n == k) ≡ false → Has (n ∷ ns) k → Has ns k
has_later n ns k is has = search (rules, is, has)

chosen : List Phrase → ℕ → List ℕ → ℕ → Bool → Option ℕ
chosen ps n ns home b = if b then showing ps n else showing_among (processes_of ps) (map (reached ps) ns) home

one_unit : (ps : List Phrase) (n : ℕ) (ns : List ℕ) (home : ℕ) → (Has ns home → showing_among (processes_of ps) (map (reached ps) ns) home ≡ showing ps home) → Has (n ∷ ns) home
    → (b : Bool) → (n == home) ≡ b → chosen ps n ns home b ≡ showing ps home
unfolding chosen
one_unit ps n ns home rest has true is = ap (showing ps) (same_number n home is)
one_unit ps n ns home rest has false is = rest (has_later n ns home is has)

among_units : (ps : List Phrase) (ns : List ℕ) (home : ℕ) → Has ns home → showing_among (processes_of ps) (map (reached ps) ns) home ≡ showing ps home
unfolding chosen
among_units ps [] home has = absurd (cc)
among_units ps (n ∷ ns) home has = one_unit ps n ns home (among_units ps ns home) has (n == home) refl

pub showing_is : (ps : List Phrase) (vs : Known) → (home : ℕ) → Has (unit_numbers ps) home → showing_in (lookups_of ps vs) home ≡ showing ps home
unfolding reached_of
showing_is ps vs home has = among_units ps (unit_numbers ps) home has

pub showing_below : (ps : List Phrase) (home process : ℕ) → showing ps home ≡ Some process → process < length (processes_of ps)
showing_below ps home process found = below (λ one. is_sole (processes_of ps) one (processes_reaching ps home)) (processes_of ps) process found

-- the other places of a process
others_at : (ps : List Phrase) (vs : Known) (ks : List ℕ) (process : ℕ) → process < length ks → unwrap_or (slice_get (map (sole_places ps vs) ks) process) [] ≡ sole_places ps vs (unwrap_or (slice_get ks process) 0)
others_at ps vs [] process below = absurd (omega (arith, below))
others_at ps vs (k ∷ ks) zero below = refl
others_at ps vs (k ∷ ks) (suc process) below = others_at ps vs ks process (omega (arith, below))

pub place_is : (ps : List Phrase) (vs : Known) (process owner : ℕ) → process < length (processes_of ps) → place_of (own_places ps vs) process owner ≡ first_place (places_of ps vs (unwrap_or (slice_get (processes_of ps) process) 0)) owner
place_is ps vs process owner below =
    sym (place_behind (common_places ps vs) (unwrap_or (slice_get (map (sole_places ps vs) (processes_of ps)) process) []) owner)
    ∙ ap (λ others. first_place (common_places ps vs ++ others) owner) (others_at ps vs (processes_of ps) process below)
