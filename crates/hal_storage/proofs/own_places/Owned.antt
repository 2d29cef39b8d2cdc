-- The own places of processes, by the processes that reach units.
use Rattle.std.proofs.Common.{rules, ◌≡◌, ℕ, Bool, List, [], ◌∷◌, ◌++◌, map, filter, flat_map, refl, ap}
use Rattle.hal_phrases.specs.Phrases.{Phrase}
use Rattle.hal_names.specs.Spans.{is_of}
use Rattle.hal_names.proofs.Spanned.{given_by_those}
use Rattle.hal_constants.specs.Known.{Known}
use Rattle.hal_meaning.specs.Bodies.{processes_of}
use Rattle.hal_values.specs.declared.value.Kind.{Kind}
use Rattle.hal_meaning.specs.Places.{places_at, places_from, places_in, common_places, sole_places, unit_numbers}
use Rattle.hal_reach.specs.Calls.{reached, reached_of}
use Rattle.hal_storage.specs.own_places.Owned.{places_among, common_of, common_among, sole_of, sole_among}

-- the places of a block are those of the phrases of its home
pub of_home : (ps rs : List Phrase) (vs : Known) (q : ℕ) → filter (is_of q) rs ≡ filter (is_of q) ps → places_among ps vs q rs ≡ places_in ps vs q
of_home ps rs vs q same = given_by_those (λ (p : Phrase). places_at ps vs p p.node) q rs ps same

-- places without values
pub none_left : (owner : ℕ) (automatic : Bool) (ks : List Kind) → places_from owner automatic ks [] ≡ []
none_left owner automatic [] = refl
none_left owner automatic (k ∷ ks) = refl

pub one_more : {X Y : Type 0} (f : X → Y) (xs : List X) (y : X) (zs : List Y) → map f (xs ++ (y ∷ [])) ++ zs ≡ map f xs ++ (f y ∷ zs)
one_more f [] y zs = refl
one_more f (x ∷ xs) y zs = ap (λ list. f x ∷ list) (one_more f xs y zs)

flat_mapped : {X Y Z : Type 0} (f : Y → List Z) (g : X → Y) (xs : List X) → flat_map f (map g xs) ≡ flat_map (λ x. f (g x)) xs
flat_mapped f g [] = refl
flat_mapped f g (x ∷ xs) = ap (λ list. f (g x) ++ list) (flat_mapped f g xs)

pub common_seen : (ps : List Phrase) (vs : Known) → common_among ps vs (reached_of ps) ≡ common_places ps vs
unfolding common_among reached_of
common_seen ps vs = flat_mapped (common_of ps vs) (reached ps) (unit_numbers ps)

sole_one : (ps : List Phrase) (vs : Known) (process : ℕ) → sole_among ps vs (reached_of ps) (processes_of ps) process ≡ sole_places ps vs process
unfolding sole_among reached_of
sole_one ps vs process = flat_mapped (sole_of ps vs (processes_of ps) process) (reached ps) (unit_numbers ps)

all_mapped : {X Y : Type 0} (f g : X → Y) → ((x : X) → f x ≡ g x) → (xs : List X) → map f xs ≡ map g xs
all_mapped f g same [] = refl
all_mapped f g same (x ∷ xs) = search (rules, same x, all_mapped f g same xs)

pub sole_seen : (ps : List Phrase) (vs : Known) → map (sole_among ps vs (reached_of ps) (processes_of ps)) (processes_of ps) ≡ map (sole_places ps vs) (processes_of ps)
sole_seen ps vs = all_mapped (sole_among ps vs (reached_of ps) (processes_of ps)) (sole_places ps vs) (sole_one ps vs) (processes_of ps)
