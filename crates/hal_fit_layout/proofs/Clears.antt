-- CLEAR instructions of AUTOMATIC data name places that hold values.
use Rattle.std.specs.Prelude.{◌≡◌, ℕ, suc, ◌==◌, nat_le, Bool, true, false, List, [], ◌∷◌, ◌++◌, length, map, Option, Some, None, slice_get, if◌then◌else◌}
use Rattle.std.proofs.Common.{refl, sym, ap, subst, ◌∙◌, arith, append_assoc}
use Rattle.std.proofs.lemmas.Bool.{and_parts, le-leb}
use Rattle.std.proofs.lemmas.List.{length-append}
use Rattle.hal_values.specs.declared.value.Kind.{Kind}
use Rattle.hal_phrases.specs.Phrases.{Phrase}
use Rattle.hal_code.specs.declared.image.ImageParts.{ImageParts}
use Rattle.hal_code.specs.declared.row.Block.{Block}
use Rattle.hal_code.specs.declared.row.OwnPlace.{OwnPlace}
use Rattle.hal_code.specs.Blocks.{block_places}
use Rattle.hal_code.specs.Memory.{kind_of_place, are_data}
use Rattle.hal_meaning.specs.Calls.{is_automatic_in}
use Rattle.hal_meaning.specs.Places.{Place}
use Rattle.hal_meaning.specs.Runs.{places_of_process}
use Rattle.hal_meaning.specs.Sets.{Set}
use Rattle.hal_fit.specs.Ending.{ClearsFit}
use Rattle.hal_link.specs.Linking.{own_row}
use Rattle.hal_link.specs.Shapes.{Shapes}
use Rattle.hal_link.specs.UnitCode.{clears_from}
use Rattle.hal_fit_calls.specs.Each.{Each}
use Rattle.hal_fit_layout.proofs.Laid.{kind_of_row}
use Rattle.hal_fit_layout.proofs.Placing.{HoldsIfAutomatic, process_each, at_holds}

pub at_end : {X : Type 0} (xs : List X) (x : X) (more : List X) → slice_get (xs ++ (x ∷ more)) (length xs) ≡ Some x
at_end [] x more = refl
at_end (y ∷ xs) x more = at_end xs x more

-- one place that holds a value
one_is_data : (before : List OwnPlace) (one : OwnPlace) (more : List OwnPlace) (k : Kind) → kind_of_place one ≡ Some k → are_data (before ++ (one ∷ more)) (length before) 1 ≡ true
one_is_data before one more k is =
    let long = length-append before (one ∷ more) in
    ap (λ (o : Option OwnPlace). elim o [ None ↦ false | Some x ↦ elim (kind_of_place x) [ None ↦ false | Some y ↦ nat_le (suc (length before)) (length (before ++ (one ∷ more))) ] ]) (at_end before one more)
    ∙ (ap (λ (o : Option Kind). elim o [ None ↦ false | Some y ↦ nat_le (suc (length before)) (length (before ++ (one ∷ more))) ]) is
    ∙ le-leb (suc (length before)) (length (before ++ (one ∷ more))) (omega (arith, long)))

module _ (s : Set) (shapes : Shapes) (image : ImageParts) (row : Block) (unit : ℕ) where
  step : (before : List OwnPlace) (one : Place) (places : List Place) (b : Bool) → is_automatic_in s unit one ≡ b → HoldsIfAutomatic one → block_places image row ≡ before ++ (own_row s shapes one ∷ map (own_row s shapes) places)
      → ClearsFit image row (clears_from s unit (suc (length before)) places)
      → ClearsFit image row (if b then (length before, 1) ∷ clears_from s unit (suc (length before)) places else clears_from s unit (suc (length before)) places)
  step before one places true is holds laid later =
      let kind = holds (and_parts one.automatic (elim (slice_get s.phrases one.owner) [ None ↦ false | Some p ↦ p.around.home == unit ]) is).0 in (
        ap (λ all. are_data all (length before) 1) laid ∙ one_is_data before (own_row s shapes one) (map (own_row s shapes) places) kind.0 (kind_of_row s shapes one ∙ kind.1),
        later,
      )
  step before one places false is holds laid later = later

  longer : (before : List OwnPlace) (one : OwnPlace) → length (before ++ (one ∷ [])) ≡ suc (length before)
  longer before one = let long = length-append before (one ∷ []) in omega (arith, long)

  clears_behind : (before : List OwnPlace) (places : List Place) → Each HoldsIfAutomatic places → block_places image row ≡ before ++ map (own_row s shapes) places → ClearsFit image row (clears_from s unit (length before) places)
  clears_behind before [] each laid = tt
  clears_behind before (one ∷ places) each laid =
      step before one places (is_automatic_in s unit one) refl each.0 laid
      (subst (λ i. ClearsFit image row (clears_from s unit i places)) (longer before (own_row s shapes one))
      (clears_behind (before ++ (own_row s shapes one ∷ [])) places each.1 (laid ∙ sym (append_assoc before (own_row s shapes one ∷ []) (map (own_row s shapes) places)))))

-- those of a unit in a process
pub clears_fit : (s : Set) (shapes : Shapes) (image : ImageParts) (row : Block) (unit : ℕ) → block_places image row ≡ map (own_row s shapes) (places_of_process s row.process)
    → ClearsFit image row (clears_from s unit 0 (places_of_process s row.process))
clears_fit s shapes image row unit laid =
    clears_behind s shapes image row unit [] (places_of_process s row.process) (process_each s HoldsIfAutomatic (λ (p : Phrase). at_holds s.phrases s.constants p p.node) row.process) laid
