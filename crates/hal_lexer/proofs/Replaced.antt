-- What stands in place of a name of the file.
use Rattle.std.proofs.Common.{◌≡◌, ℕ, inl, inr, ◌⊎◌, true, false, Option, is_none, List, [], ◌∷◌, ◌++◌, length, Some, None, refl, sym, ap, ◌∙◌}
use Rattle.std.specs.Prelude.{bytes_eq}
use Rattle.std.proofs.lemmas.Bool.{cases_Bool}
use Rattle.std.proofs.lemmas.List.Elements.{Contains-append_left, Contains-append_right}
use Rattle.hal_base.specs.declared.refusal.Place.{Place}
use Rattle.hal_base.specs.declared.refusal.Fault.{Fault}
use Rattle.hal_base.specs.declared.refusal.Fault.TheVariants as fault
use Rattle.hal_words.specs.declared.word.Word.TheVariants as word
use Rattle.hal_words.specs.Pieces.{Is, Wrong}
use Rattle.hal_words.specs.Lines.{Item, item}
use Rattle.hal_words.specs.Replacing.{Definitions, replaced_word}
use Rattle.hal_words.specs.Reserved.{look_up}
use Rattle.hal_pieces.specs.Faults.{Tells}
use Rattle.hal_lexer.specs.Compiled.{Table, number_of, children_at, gives, IsNamed, AreNamed, IsCompiled}
use Rattle.hal_lexer.specs.Faults.{Explains}
use Rattle.hal_lexer.proofs.Tables.{same_name, other_name}
use Rattle.hal_lexer.proofs.Gives.{table_gives}
use Rattle.hal_lexer.proofs.Rooms.{levels_within}
use Rattle.hal_lexer.proofs.Within.{within_undefined}

pub name_replaced : (definitions : Definitions) (table : Table) (name : List ℕ) (n : ℕ) (place : Place) → IsCompiled definitions table → number_of table name ≡ Some n
    → replaced_word definitions (item (Is (word.Name name)) place) ≡ gives table place (children_at table n)
name_replaced definitions table name n place compiled is =
    table_gives definitions table compiled.0 compiled.1 name n (length definitions) [] place is (λ other m found. refl) (levels_within definitions table compiled.0)

pub name_stays : (definitions : Definitions) (name : List ℕ) (place : Place) → look_up definitions name ≡ None → replaced_word definitions (item (Is (word.Name name)) place) ≡ item (Is (word.Name name)) place ∷ []
name_stays definitions name place none = within_undefined (length definitions) definitions [] name place refl (λ some. none)

-- a name for which there is no text stays
no_text_there : (text : Option (List ℕ)) → is_none text ≡ true → text ≡ None
no_text_there None is = refl
no_text_there (Some one) is = let no : false ≡ true = is in absurd (cc)

pub lacking_stays : (definitions : Definitions) (name : List ℕ) (place : Place) → is_none (look_up definitions name) ≡ true → replaced_word definitions (item (Is (word.Name name)) place) ≡ item (Is (word.Name name)) place ∷ []
lacking_stays definitions name place is = name_stays definitions name place (no_text_there (look_up definitions name) is)

-- a fault that stands in place of a word
pub explains_told : (before given : List Item) (found : Fault) → Tells given found → (rest : List Item) → Explains (before ++ (given ++ rest)) found
explains_told before given (fault.Broken refusal) told rest =
    let wrong = item (Wrong refusal.rule.0) refusal.place in
    inl (Contains-append_right before (given ++ rest) wrong (Contains-append_left given rest wrong told))
explains_told before given (fault.Memory error) told rest = tt

-- a new definition of a name that isn't compiled
defined_named : (definitions : Definitions) (table : Table) (name text : List ℕ) → number_of table name ≡ None → AreNamed definitions table → AreNamed ((name, text) ∷ definitions) table
defined_named definitions [] name text new named = tt
defined_named definitions (entry ∷ older) name text new named = elim (cases_Bool (bytes_eq entry.0 name)) [
  | inl same ↦ let no : Some (length older) ≡ None = rw same at new in absurd (cc)
  | inr other ↦
      let flipped : bytes_eq name entry.0 ≡ false = other_name entry.0 name other in
      let there : number_of older name ≡ None = rw other at new in
      (rw flipped named.0, defined_named definitions older name text there named.1)
]

-- a new definition with the text that the name has
same_named : (definitions : Definitions) (table : Table) (name text : List ℕ) → look_up definitions name ≡ Some text → AreNamed definitions table → AreNamed ((name, text) ∷ definitions) table
same_named definitions [] name text defined named = tt
same_named definitions (entry ∷ older) name text defined named = elim (cases_Bool (bytes_eq name entry.0)) [
  | inl same ↦
      let here : look_up definitions entry.0 ≡ Some text = ap (look_up definitions) (sym (same_name name entry.0 same)) ∙ defined in
      let own : IsNamed older entry (Some text) = rw here at named.0 in
      (rw same own, same_named definitions older name text defined named.1)
  | inr other ↦ (rw other named.0, same_named definitions older name text defined named.1)
]

pub defined_compiled : (definitions more : Definitions) (old table : Table) (name text : List ℕ) → more ≡ (name, text) ∷ definitions → IsCompiled definitions old
    → ((number_of old name ≡ None) × (table ≡ old)) ⊎ ((look_up definitions name ≡ Some text) × (table ≡ old)) ⊎ (table ≡ []) → IsCompiled more table
defined_compiled definitions more old table name text added compiled (inl kept) =
    rw (added, kept.1) (compiled.0, defined_named definitions old name text kept.0 compiled.1)
defined_compiled definitions more old table name text added compiled (inr (inl same)) =
    rw (added, same.1) (compiled.0, same_named definitions old name text same.0 compiled.1)
defined_compiled definitions more old table name text added compiled (inr (inr none)) = rw none (tt, tt)
