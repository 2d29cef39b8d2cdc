-- A text that has words breaks no rule.
use Rattle.std.proofs.Common.{◌≡◌, ◌<◌, ℕ, inl, inr, subst, List, [], length, map, Some, All, Contains, arith}
use Rattle.std.specs.Prelude.{slice_get}
use Rattle.std.proofs.lemmas.List.{length-map}
use Rattle.std.proofs.lemmas.Option.{slice_get_within}
use Rattle.std.proofs.lemmas.List.Elements.{All-map, All-contains}
use Rattle.hal_base.specs.declared.refusal.Place.{Place}
use Rattle.hal_base.specs.declared.limits.TheConstants.{TOKEN_LIMIT}
use Rattle.hal_words.specs.declared.word.Token.{Token}
use Rattle.hal_words.specs.Pieces.{Wrong}
use Rattle.hal_words.specs.Lines.{Item, item}
use Rattle.hal_words.specs.Words.{word_item, IsCut, BreaksWordRule}
use Rattle.hal_pieces.specs.Faults.{IsRight}

abbrev Right : Item → Type 0
Right one = IsRight one.piece

words-right : (tokens : List Token) → All Right (map word_item tokens)
words-right tokens = All-map Right word_item tokens (λ k d below. tt)

no_fault : (tokens : List Token) (rule : ℕ) (place : Place) → Contains (map word_item tokens) (item (Wrong rule) place) → ⊥
no_fault tokens rule place found = All-contains Right (map word_item tokens) (item (Wrong rule) place) (words-right tokens) found

none_there : (place : Place) → Contains [] place → ⊥
none_there place found = omega (arith, found.1)

-- no rule is broken
pub no_breach : (unit : ℕ) (text : List ℕ) (tokens : List Token) (rule : ℕ) (place : Place) → IsCut unit text tokens → BreaksWordRule unit text rule place → ⊥
no_breach unit text tokens rule place cut (inl fault) = no_fault tokens rule place (subst (λ (items : List Item). Contains items (item (Wrong rule) place)) cut.words fault)
no_breach unit text tokens rule place cut (inr (inl late)) =
    let there : TOKEN_LIMIT < length (map word_item tokens) =
    slice_get_within (map word_item tokens) TOKEN_LIMIT late.0 (subst (λ (items : List Item). slice_get items TOKEN_LIMIT ≡ Some late.0) cut.words late.1) in
    let few = cut.few in
    omega (arith, there, few, length-map tokens word_item)
no_breach unit text tokens rule place cut (inr (inr astray)) = none_there place (subst (λ (places : List Place). Contains places place) cut.temporaries astray.0)
