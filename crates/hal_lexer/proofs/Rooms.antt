-- Each name that is seen takes its texts from those that are left, so there are no more of them than definitions.
use Rattle.std.proofs.Common.{◌≡◌, ◌≤◌, ◌+◌, ℕ, inl, inr, Bool, true, false, List, [], ◌∷◌, length, Option, Some, None, refl, ap, arith, is_some}
use Rattle.std.specs.Prelude.{bytes_eq, if◌then◌else◌}
use Rattle.std.proofs.lemmas.Bool.{cases_Bool}
use Rattle.hal_words.specs.Replacing.{Definitions}
use Rattle.hal_words.specs.Reserved.{look_up}
use Rattle.hal_lexer.specs.declared.child.Child.{Child}
use Rattle.hal_lexer.specs.Compiled.{Table, number_of, IsOrdered}
use Rattle.hal_lexer.specs.Opened.{unseen}
use Rattle.hal_lexer.proofs.Tables.{same_name, number_last}
use Rattle.hal_lexer.proofs.Gives.{counts, levels}

-- each name that is seen before is seen after
abbrev pub SeesMore : (List ℕ → Bool) → (List ℕ → Bool) → Type 0
SeesMore before after = (name : List ℕ) → before name ≡ true → after name ≡ true

either_less : (cost : ℕ) (a b : Bool) → (a ≡ true → b ≡ true) → (if b then 0 else cost) ≤ (if a then 0 else cost)
either_less cost true true more = omega arith
either_less cost true false more = let no : false ≡ true = more refl in absurd (cc)
either_less cost false true more = omega arith
either_less cost false false more = omega arith

pub unseen_less : (cost : List ℕ → ℕ) (before after : List ℕ → Bool) (definitions : Definitions) → SeesMore before after → unseen cost after definitions ≤ unseen cost before definitions
unseen_less cost before after [] more = omega arith
unseen_less cost before after (one ∷ definitions) more =
    omega (arith, either_less (cost one.1) (before one.0) (after one.0) (more one.0), unseen_less cost before after definitions more)

-- a name that is seen for the first time
pub unseen_first : (cost : List ℕ → ℕ) (before after : List ℕ → Bool) (definitions : Definitions) (name text : List ℕ) → SeesMore before after → look_up definitions name ≡ Some text
    → before name ≡ false → after name ≡ true → unseen cost after definitions + cost text ≤ unseen cost before definitions
unseen_first cost before after [] name text more is not_yet now = let no : None ≡ Some text = is in absurd (cc)
unseen_first cost before after (one ∷ definitions) name text more is not_yet now = elim (cases_Bool (bytes_eq one.0 name)) [
  | inl same ↦
      let own : one.0 ≡ name = same_name one.0 name same in
      let here : Some one.1 ≡ Some text = rw same at is in
      let its : one.1 ≡ text = cc in
      let was : before one.0 ≡ false = rw own not_yet in
      let seen : after one.0 ≡ true = rw own now in
      let less = unseen_less cost before after definitions more in
      rw (was, seen, its) (omega (arith, less))
  | inr other ↦
      let there : look_up definitions name ≡ Some text = rw other at is in
      omega (arith, either_less (cost one.1) (before one.0) (after one.0) (more one.0), unseen_first cost before after definitions name text more there not_yet now)
]

-- one for each definition
abbrev pub one_each : List ℕ → ℕ
one_each text = 1

abbrev pub none_seen : List ℕ → Bool
none_seen name = false

pub all_unseen : (definitions : Definitions) → unseen one_each none_seen definitions ≡ length definitions
all_unseen [] = refl
all_unseen (one ∷ definitions) = let rest = all_unseen definitions in omega (arith, rest)

abbrev pub numbered : Table → List ℕ → Bool
numbered table name = is_some (number_of table name)

pub more_numbered : (older : Table) (entry : List ℕ × List Child) → SeesMore (numbered older) (numbered (entry ∷ older))
more_numbered older entry = λ name is. elim (cases_Bool (bytes_eq entry.0 name)) [
  | inl same ↦ rw same refl
  | inr other ↦ rw other is
]

counted : (definitions : Definitions) (older : Table) (entry : List ℕ × List Child) (text : Option (List ℕ)) → number_of older entry.0 ≡ None → look_up definitions entry.0 ≡ text
    → counts text + unseen one_each (numbered (entry ∷ older)) definitions ≤ unseen one_each (numbered older) definitions
counted definitions older entry None new is =
    let less = unseen_less one_each (numbered older) (numbered (entry ∷ older)) definitions (more_numbered older entry) in
    omega (arith, less)
counted definitions older entry (Some text) new is =
    let before : numbered older entry.0 ≡ false = ap is_some new in
    let now : numbered (entry ∷ older) entry.0 ≡ true = ap is_some (number_last older entry.0 entry.1) in
    let less = unseen_first one_each (numbered older) (numbered (entry ∷ older)) definitions entry.0 text (more_numbered older entry) is before now in
    omega (arith, less)

levels_left : (definitions : Definitions) (table : Table) → IsOrdered table → levels definitions table + unseen one_each (numbered table) definitions ≤ length definitions
levels_left definitions [] ordered = let all = all_unseen definitions in omega (arith, all)
levels_left definitions (entry ∷ older) ordered =
    omega (arith, counted definitions older entry (look_up definitions entry.0) ordered.1 refl, levels_left definitions older ordered.2)

-- a name of a table is within as many levels as there are definitions
pub levels_within : (definitions : Definitions) (table : Table) → IsOrdered table → levels definitions table ≤ length definitions
levels_within definitions table ordered = omega (arith, levels_left definitions table ordered)
