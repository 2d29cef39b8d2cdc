-- What is wrong among the items of a file is wrong among its words.
use Rattle.std.proofs.Common.{◌≡◌, ℕ, zero, suc, inl, inr, ◌⊎◌, true, false, List, [], ◌∷◌, length, refl, sym, subst, Contains, arith}
use Rattle.std.specs.Prelude.{⊤}
use Rattle.std.proofs.lemmas.Bool.{cases_Bool}
use Rattle.std.proofs.lemmas.List.Elements.{Contains-append_left, Contains-append_right}
use Rattle.hal_base.specs.declared.refusal.Place.{Place}
use Rattle.hal_words.specs.declared.reserved.Reserved.TheVariants as reserved
use Rattle.hal_words.specs.declared.word.Symbol.TheVariants as symbol
use Rattle.hal_words.specs.declared.word.Word.TheVariants as word
use Rattle.hal_words.specs.Pieces.{Piece, Is, Replacement, Wrong}
use Rattle.hal_words.specs.Lines.{Item, item}
use Rattle.hal_words.specs.Items.{file_items}
use Rattle.hal_words.specs.Replacing.{Definitions, defined, definition, definition_size, with_definition, fault_of, formless, is_replace, as_word, replaced_word, replaced}
use Rattle.hal_base.specs.declared.refusal.Fault.{Fault}
use Rattle.hal_base.specs.declared.refusal.Fault.TheVariants as fault
use Rattle.hal_words.specs.Words.{file_words}
use Rattle.hal_pieces.specs.Faults.{IsRight, Tells}
use Rattle.hal_lexer.specs.Faults.{BreaksBy}
use Rattle.hal_lexer.proofs.Within.{within_alone}

-- none of the first items is wrong
abbrev AreRight : ℕ → List Item → Type 0
AreRight zero items = ⊤
AreRight (suc n) [] = ⊤
AreRight (suc n) (one ∷ items) = IsRight one.piece × AreRight n items

defined_right : (a b c d : Item) (rest : List Item) (p q r s : Piece) → a.piece ≡ p → b.piece ≡ q → c.piece ≡ r → d.piece ≡ s
    → AreRight (definition_size (defined p q r s)) (a ∷ b ∷ c ∷ d ∷ rest)
defined_right a b c d rest (Is (word.Name name)) (Is (word.Reserved reserved.By)) (Replacement text) (Is (word.Symbol symbol.Semicolon)) first second third fourth =
    (subst IsRight (sym first) tt, (subst IsRight (sym second) tt, (subst IsRight (sym third) tt, (subst IsRight (sym fourth) tt, tt))))
defined_right a b c d rest p q r s first second third fourth = tt

definition_right : (items : List Item) → AreRight (definition_size (definition items)) items
definition_right [] = tt
definition_right (a ∷ []) = tt
definition_right (a ∷ b ∷ []) = tt
definition_right (a ∷ b ∷ c ∷ []) = tt
definition_right (a ∷ b ∷ c ∷ d ∷ rest) = defined_right a b c d rest a.piece b.piece c.piece d.piece refl refl refl refl

front_or_rest : (one : Item) (items : List Item) (wrong : Item) → Contains (one ∷ items) wrong → (one ≡ wrong) ⊎ Contains items wrong
front_or_rest one items wrong (zero, below, is) = inl is
front_or_rest one items wrong (suc k, below, is) = inr (k, omega arith, is)

not_right : (one : Item) (rule : ℕ) (place : Place) → one ≡ item (Wrong rule) place → IsRight one.piece → ⊥
not_right one rule place is right = subst (λ (i : Item). IsRight i.piece) is right

no_replace : (one : Item) (rule : ℕ) (place : Place) → one ≡ item (Wrong rule) place → is_replace one.piece ≡ true → ⊥
no_replace one rule place is replace = let no : false ≡ true = subst (λ (i : Item). is_replace i.piece ≡ true) is replace in absurd (cc)

stays : (definitions : Definitions) (one : Item) (rule : ℕ) (place : Place) → one ≡ item (Wrong rule) place → Contains (replaced_word definitions (as_word one.piece one.place)) (item (Wrong rule) place)
stays definitions one rule place is =
    subst (λ (i : Item). Contains (replaced_word definitions (as_word i.piece i.place)) (item (Wrong rule) place)) (sym is)
    (rw (within_alone (length definitions) definitions [] (Wrong rule) place refl) (0, omega arith, refl))

pub wrong_stays : (n : ℕ) (definitions : Definitions) (items : List Item) (rule : ℕ) (place : Place) → AreRight n items → Contains items (item (Wrong rule) place)
    → Contains (replaced n definitions items) (item (Wrong rule) place)
wrong_stays n definitions [] rule place right has = absurd (omega (arith, has.1))
wrong_stays (suc n) definitions (one ∷ items) rule place right has = elim (front_or_rest one items (item (Wrong rule) place) has) [
  | inl is ↦ absurd (not_right one rule place is right.0)
  | inr there ↦ wrong_stays n definitions items rule place right.1 there
]
wrong_stays zero definitions (one ∷ items) rule place right has = elim (cases_Bool (is_replace one.piece)) [
  | inl replace ↦ elim (front_or_rest one items (item (Wrong rule) place) has) [
    | inl is ↦ absurd (no_replace one rule place is replace)
    | inr there ↦ rw replace (Contains-append_right (fault_of (definition items) (formless items) one.place) (replaced (definition_size (definition items)) (with_definition (definition items) definitions) items) (item (Wrong rule) place)
        (wrong_stays (definition_size (definition items)) (with_definition (definition items) definitions) items rule place (definition_right items) there))
  ]
  | inr word' ↦ elim (front_or_rest one items (item (Wrong rule) place) has) [
    | inl is ↦ rw word' (Contains-append_left (replaced_word definitions (as_word one.piece one.place)) (replaced zero definitions items) (item (Wrong rule) place) (stays definitions one rule place is))
    | inr there ↦ rw word' (Contains-append_right (replaced_word definitions (as_word one.piece one.place)) (replaced zero definitions items) (item (Wrong rule) place) (wrong_stays zero definitions items rule place tt there))
  ]
]

pub file_wrong : (unit : ℕ) (text : List ℕ) (rule : ℕ) (place : Place) → Contains (file_items unit text) (item (Wrong rule) place) → Contains (file_words unit text) (item (Wrong rule) place)
file_wrong unit text rule place has = wrong_stays 0 [] (file_items unit text) rule place tt has

-- what an error tells of the items it tells of the text
pub told : (unit : ℕ) (text : List ℕ) (found : Fault) → Tells (file_items unit text) found → BreaksBy unit text found
told unit text (fault.Broken refusal) here = inl (file_wrong unit text refusal.rule.0 refusal.place here)
told unit text (fault.Memory error) here = tt
