-- All units that are called stand in the code, where one is called.
use Rattle.std.specs.Prelude.{◌≡◌, ℕ, ◌==◌, Bool, true, false, not, ◌&&◌, List, [], ◌∷◌, ◌++◌, take, drop, Option, Some, None, slice_get, if◌then◌else◌}
use Rattle.std.proofs.Common.{refl, sym, ap, subst, ◌∙◌}
use Rattle.std.proofs.lemmas.Bool.{eqb-true}
use Rattle.hal_states.specs.Spots.{Held, Holds}
use Rattle.hal_meaning.specs.Bodies.{Body}
use Rattle.hal_meaning.specs.Calls.{is_automatic_in, begun}
use Rattle.hal_meaning.specs.Places.{Place}
use Rattle.hal_meaning.specs.Sets.{Set, body_at}
use Rattle.hal_code.specs.declared.image.ImageParts.{ImageParts}
use Rattle.hal_code.specs.declared.row.Block.{Block}
use Rattle.hal_agreement.specs.PlacedBlocks.{UnitAt, UnitsAt}

-- the block of one unit alone
abbrev pub only : ℕ → ℕ → ℕ → Option ℕ
only called number unit = if unit == called then Some number else None

-- what an option has is one thing
unwrapped : {A : Type 0} (fallback : A) (a b : A) (o : Option A) → o ≡ Some a → o ≡ Some b → a ≡ b
unwrapped fallback a b o is are = ap (λ one. elim one [ None ↦ fallback | Some x ↦ x ]) (sym is ∙ are)

module _ (image : ImageParts) (s : Set) (places : List Place) (called number : ℕ) (b : Body) (row : Block) (found : body_at s called ≡ Some b) (block : slice_get image.blocks number ≡ Some row)
    (at : UnitAt (record { image = image; block = only called number }) s places b row) where
  stands : (unit n : ℕ) (one : Body) (r : Block) (same : Bool) → (unit == called) ≡ same → (if same then Some number else None) ≡ Some n → body_at s unit ≡ Some one → slice_get image.blocks n ≡ Some r
      → UnitAt (record { image = image; block = only called number }) s places one r
  stands unit n one r false is named it its = absurd (cc)
  stands unit n one r true is named it its =
      subst (λ x. UnitAt (record { image = image; block = only called number }) s places x r)
      (unwrapped b b one (body_at s called) found (subst (λ k. body_at s k ≡ Some one) (eqb-true unit called is) it))
      (subst (λ x. UnitAt (record { image = image; block = only called number }) s places b x)
      (unwrapped row row r (slice_get image.blocks number) block (subst (λ k. slice_get image.blocks k ≡ Some r) (sym (unwrapped n number n (Some number) refl named)) its)) at)

  -- where one unit is called
  pub one_unit : UnitsAt (record { image = image; block = only called number }) s places
  one_unit unit n one r named it its = stands unit n one r (unit == called) refl named it its

-- whether none of these places belongs to AUTOMATIC data of a unit
abbrev pub none_automatic : Set → ℕ → List Place → Bool
none_automatic s unit [] = true
none_automatic s unit (place ∷ places) = not (is_automatic_in s unit place) && none_automatic s unit places

both_first : (a b : Bool) → (a && b) ≡ true → a ≡ true
both_first true b is = refl
both_first false b is = is

both_second : (a b : Bool) → (a && b) ≡ true → b ≡ true
both_second true b is = is
both_second false b is = absurd (cc)

-- one place that is none of AUTOMATIC data
as_it_was : (b : Bool) (p : Place) (held : List Held) → not b ≡ true → held ≡ (if b then Holds p.initial ∷ [] else take 1 held) ++ drop 1 held
as_it_was true p held is = absurd (cc)
as_it_was false p [] is = refl
as_it_was false p (one ∷ others) is = refl

-- a unit without AUTOMATIC data leaves own places as they are
pub begun_plain : (s : Set) (unit : ℕ) (places : List Place) (held : List Held) → none_automatic s unit places ≡ true → held ≡ begun s unit places held
begun_plain s unit [] held is = refl
begun_plain s unit (place ∷ places) held is =
    as_it_was (is_automatic_in s unit place) place held (both_first _ _ is)
    ∙ ap (λ rest. (if is_automatic_in s unit place then Holds place.initial ∷ [] else take 1 held) ++ rest) (begun_plain s unit places (drop 1 held) (both_second _ _ is))
