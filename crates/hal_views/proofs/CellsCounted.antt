-- The shared cells are among the cells that a set has.
use Rattle.std.proofs.Common.{◌≡◌, ◌≤◌, ◌+◌, ◌∙◌, ap, sym, List, [], ◌∷◌, length, refl, arith, length-append}
use Rattle.std.specs.Prelude.{flat_map, sum_by}
use Rattle.std.proofs.lemmas.List.Sums.{sum_by-cons}
use Rattle.hal_base.specs.declared.limits.TheConstants.{CELL_LIMIT}
use Rattle.hal_grammar.specs.Units.{File}
use Rattle.hal_phrases.specs.Phrases.{Phrase}
use Rattle.hal_phrases.specs.GatheredUnits.{phrases_of}
use Rattle.hal_constants.specs.Known.{Known, known}
use Rattle.hal_meaning.specs.Places.{cells_at, cell_count}
use Rattle.hal_meaning.specs.Sets.{cells_of}
use Rattle.hal_views.specs.Views.{HasRoom}

-- the length of lists that are put together
length-flat_map : {X Y : Type 0} (f : X → List Y) (xs : List X) → length (flat_map f xs) ≡ sum_by (λ x. length (f x)) xs
length-flat_map f [] = refl
length-flat_map f (x ∷ xs) = length-append (f x) (flat_map f xs) ∙ (ap (λ n. length (f x) + n) (length-flat_map f xs) ∙ sym (sum_by-cons (λ y. length (f y)) x xs))

some_of : (ps : List Phrase) (vs : Known) → length (cells_of ps vs) ≤ cell_count ps vs
some_of ps vs = omega (arith, length-flat_map (λ (p : Phrase). cells_at ps vs p p.node) ps)

pub few : (files : List File) → HasRoom files → length (cells_of (phrases_of files) (known (phrases_of files))) ≤ CELL_LIMIT
few files room = omega (arith, room.cells, some_of (phrases_of files) (known (phrases_of files)))
