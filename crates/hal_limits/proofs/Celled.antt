-- The cells of a set are counted.
use Rattle.std.proofs.Common.{◌≡◌, ◌∙◌, ◌*◌, ◌==◌, ℕ, Bool, true, false, cond, List, [], ◌∷◌, length, filter, flat_map, if◌then◌else◌, refl, sym, ap, arith, length-append}
use Rattle.std.specs.Prelude.{sum_by}
use Rattle.std.proofs.lemmas.List.Sums.{sum_by-cons}
use Rattle.hal_phrases.specs.Phrases.{Phrase}
use Rattle.hal_names.specs.Declarations.{is_declaration}
use Rattle.hal_names.specs.Spans.{is_of}
use Rattle.hal_names.proofs.Spanned.{given_by_those}
use Rattle.hal_constants.specs.Known.{Known}
use Rattle.hal_meaning.specs.Bodies.{processes_of}
use Rattle.hal_meaning.specs.Places.{Place, cell_count, is_reentrant_at, places_at, places_in, unit_numbers}
use Rattle.hal_storage.proofs.elements.Found.{no_cells}
use Rattle.hal_limits.specs.Counts.{capped, counted}
use Rattle.hal_limits.specs.Sizes.{cells_of_phrase, cells_of_unit, places_of_phrase}
use Rattle.hal_limits.proofs.Counted.{counted_same, counted_sum, first_capped, from_nothing}

length_if : {Y : Type 0} (b : Bool) (ys : List Y) → length (if b then ys else []) ≡ (if b then length ys else 0)
length_if true ys = refl
length_if false ys = refl

module _ (ps : List Phrase) (vs : Known) where
  abbrev placed : ℕ → Phrase → List Place
  placed q p = if p.around.home == q then places_at ps vs p p.node else []

  length_placed : (q : ℕ) (rest : List Phrase) → length (flat_map (placed q) rest) ≡ sum_by (places_of_phrase ps vs q) rest
  length_placed q [] = refl
  length_placed q (p ∷ rest) =
      omega (arith, length-append (placed q p) (flat_map (placed q) rest), length_if (p.around.home == q) (places_at ps vs p p.node), length_placed q rest, sum_by-cons (places_of_phrase ps vs q) p rest)

  -- the own places of a block
  places_counted : (q : ℕ) → counted (places_of_phrase ps vs q) 0 ps ≡ capped (length (places_in ps vs q))
  places_counted q = from_nothing (places_of_phrase ps vs q) ps ∙ ap capped (sym (length_placed q ps))

  -- and as many are those of the phrases of its home
  pub places_of_home : (q : ℕ) (rs : List Phrase) → filter (is_of q) rs ≡ filter (is_of q) ps → counted (places_of_phrase ps vs q) 0 rs ≡ capped (length (places_in ps vs q))
  places_of_home q rs same =
      from_nothing (places_of_phrase ps vs q) rs ∙ ap capped (sym (length_placed q rs))
      ∙ ap (λ (list : List Place). capped (length list)) (given_by_those (λ (p : Phrase). places_at ps vs p p.node) q rs ps same)

  -- the shared cells of a set are those of its declarations
  summed : (rest : List Phrase) → sum_by (cells_of_phrase ps vs) (filter is_declaration rest) ≡ sum_by (cells_of_phrase ps vs) rest
  summed [] = refl
  summed (p ∷ rest) = by (is_declaration p) refl (summed rest)
    where
      by : (b : Bool) → is_declaration p ≡ b → sum_by (cells_of_phrase ps vs) (filter is_declaration rest) ≡ sum_by (cells_of_phrase ps vs) rest
          → sum_by (cells_of_phrase ps vs) (cond b (p ∷ filter is_declaration rest) (filter is_declaration rest)) ≡ sum_by (cells_of_phrase ps vs) (p ∷ rest)
      by true is same = omega (arith, sum_by-cons (cells_of_phrase ps vs) p (filter is_declaration rest), sum_by-cons (cells_of_phrase ps vs) p rest, same)
      by false is same = omega (arith, sum_by-cons (cells_of_phrase ps vs) p rest, same, ap length (no_cells ps vs p p.node is))

  pub cells_declared : (ds : List Phrase) → ds ≡ filter is_declaration ps → counted (cells_of_phrase ps vs) 0 ds ≡ counted (cells_of_phrase ps vs) 0 ps
  cells_declared ds same =
      ap (counted (cells_of_phrase ps vs) 0) same ∙ from_nothing (cells_of_phrase ps vs) (filter is_declaration ps) ∙ ap capped (summed ps) ∙ sym (from_nothing (cells_of_phrase ps vs) ps)

  by_sort : (b : Bool) (n m : ℕ) → capped (if b then capped n * m else m) ≡ capped (if b then n * m else m)
  by_sort true n m = first_capped n m
  by_sort false n m = refl

  unit_counted : (n q : ℕ) → capped (cells_of_unit ps vs (capped n) q) ≡ capped (cells_of_unit ps vs n q)
  unit_counted n q = by_sort (is_reentrant_at ps q) n (length (places_in ps vs q))

  -- all cells
  pub all_cells : counted (cells_of_unit ps vs (capped (length (processes_of ps)))) (counted (cells_of_phrase ps vs) 0 ps) (unit_numbers ps) ≡ capped (cell_count ps vs)
  all_cells =
      counted_same (cells_of_unit ps vs (capped (length (processes_of ps)))) (cells_of_unit ps vs (length (processes_of ps))) (unit_counted (length (processes_of ps)))
      (counted (cells_of_phrase ps vs) 0 ps) (unit_numbers ps)
      ∙ ap (λ n. counted (cells_of_unit ps vs (length (processes_of ps))) n (unit_numbers ps)) (from_nothing (cells_of_phrase ps vs) ps)
      ∙ counted_sum (cells_of_unit ps vs (length (processes_of ps))) (sum_by (cells_of_phrase ps vs) ps) (unit_numbers ps)
