-- The texts that are being compiled, as names are added and texts are opened.
use Rattle.std.proofs.Common.{◌≡◌, ◌<◌, ◌≤◌, ◌+◌, ℕ, inl, inr, Bool, true, false, ◌||◌, List, [], ◌∷◌, length, Some, None, refl, sym, ap, ◌∙◌, arith}
use Rattle.std.specs.Prelude.{bytes_eq}
use Rattle.std.proofs.lemmas.Bool.{cases_Bool}
use Rattle.std.proofs.Math.Bool.{or-true}
use Rattle.hal_words.specs.Replacing.{Definitions, is_among}
use Rattle.hal_words.specs.Reserved.{look_up}
use Rattle.hal_lexer.specs.declared.child.Child.{Child}
use Rattle.hal_lexer.specs.Compiled.{Table, number_of}
use Rattle.hal_lexer.specs.Opened.{Opened, opened, names_of, AreOpened, is_seen, unseen}
use Rattle.hal_lexer.proofs.Tables.{same_name, own_name, other_name}
use Rattle.hal_lexer.proofs.Readings.{kept_reading}
use Rattle.hal_lexer.proofs.Rooms.{SeesMore, one_each, unseen_first, all_unseen}

or_false : (a b : Bool) → (a || b) ≡ false → (a ≡ false) × (b ≡ false)
or_false false b is = (refl, is)
or_false true b is = let no : true ≡ false = is in absurd (cc)

-- a name that is added is none of those whose texts are read
pub opened_kept : (definitions : Definitions) (table : Table) (entry : List ℕ × List Child) (frames : List Opened) → number_of table entry.0 ≡ None → is_among (names_of frames) entry.0 ≡ false
    → AreOpened definitions table frames → AreOpened definitions (entry ∷ table) frames
opened_kept definitions table entry [] new apart is = tt
opened_kept definitions table entry (one ∷ frames) new apart is =
    let parts = or_false (bytes_eq one.name entry.0) (is_among (names_of frames) entry.0) apart in
    let other : bytes_eq entry.0 one.name ≡ false = other_name one.name entry.0 parts.0 in (
      record {
        text = is.0.text;
        defined = is.0.defined;
        uncompiled = rw other is.0.uncompiled;
        read = kept_reading table entry is.0.text one.rest one.children new is.0.read;
      },
      is.1,
      opened_kept definitions table entry frames new parts.1 is.2,
    )

pub undefined_apart : (definitions : Definitions) (table : Table) (frames : List Opened) (name : List ℕ) → look_up definitions name ≡ None → AreOpened definitions table frames → is_among (names_of frames) name ≡ false
undefined_apart definitions table [] name none is = refl
undefined_apart definitions table (one ∷ frames) name none is = elim (cases_Bool (bytes_eq one.name name)) [
  | inl same ↦
      let no : None ≡ Some is.0.text = sym none ∙ ap (look_up definitions) (sym (same_name one.name name same)) ∙ is.0.defined in
      absurd (cc)
  | inr other ↦ rw other (undefined_apart definitions table frames name none is.2)
]

-- what is seen stays so
pub seen_closed : (table : Table) (one : Opened) (below : List Opened) (children : List Child) → SeesMore (is_seen table (one ∷ below)) (is_seen ((one.name, children) ∷ table) below)
seen_closed table one below children = λ name is. elim (cases_Bool (bytes_eq one.name name)) [
  | inl same ↦ rw same (or-true (is_among (names_of below) name))
  | inr other ↦ rw other (rw other at is)
]

pub seen_added : (table : Table) (entry : List ℕ × List Child) (frames : List Opened) → SeesMore (is_seen table frames) (is_seen (entry ∷ table) frames)
seen_added table entry frames = λ name is. elim (cases_Bool (bytes_eq entry.0 name)) [
  | inl same ↦ rw same (or-true (is_among (names_of frames) name))
  | inr other ↦ rw other is
]

pub seen_opened : (table : Table) (one : Opened) (frames : List Opened) → SeesMore (is_seen table frames) (is_seen table (one ∷ frames))
seen_opened table one frames = λ name is. elim (cases_Bool (bytes_eq one.name name)) [
  | inl same ↦ rw same refl
  | inr other ↦ rw other is
]

-- there is a definition for each text
abbrev among : List Opened → List ℕ → Bool
among frames name = is_among (names_of frames) name

among_more : (one : Opened) (frames : List Opened) → SeesMore (among frames) (among (one ∷ frames))
among_more one frames = λ name is. elim (cases_Bool (bytes_eq one.name name)) [
  | inl same ↦ rw same refl
  | inr other ↦ rw other is
]

first_among : (definitions : Definitions) (one : Opened) (text : List ℕ) (frames : List Opened) → look_up definitions one.name ≡ Some text → is_among (names_of frames) one.name ≡ false
    → unseen one_each (among (one ∷ frames)) definitions + 1 ≤ unseen one_each (among frames) definitions
first_among definitions one text frames defined new =
    let now : among (one ∷ frames) one.name ≡ true = rw (own_name one.name) refl in
    unseen_first one_each (among frames) (among (one ∷ frames)) definitions one.name text (among_more one frames) defined new now

frames_room : (definitions : Definitions) (table : Table) (frames : List Opened) → AreOpened definitions table frames → length frames + unseen one_each (among frames) definitions ≤ length definitions
frames_room definitions table [] is = let all = all_unseen definitions in omega (arith, all)
frames_room definitions table (one ∷ frames) is =
    omega (arith, first_among definitions one is.0.text frames is.0.defined is.1, frames_room definitions table frames is.2)

pub one_deeper : (definitions : Definitions) (table : Table) (frames : List Opened) (name text : List ℕ) → AreOpened definitions table frames → look_up definitions name ≡ Some text → is_among (names_of frames) name ≡ false
    → length frames < length definitions
one_deeper definitions table frames name text is defined new =
    omega (arith, first_among definitions (opened name [] []) text frames defined new, frames_room definitions table frames is)
