-- Names, their numbers and their children in a table.
use Rattle.std.proofs.Common.{◌≡◌, ◌<◌, ℕ, suc, inl, inr, true, false, List, [], ◌∷◌, ◌++◌, length, get_or, Option, Some, None, All, refl, sym, ap, ◌∙◌, arith}
use Rattle.std.specs.Prelude.{bytes_eq, ◌==◌}
use Rattle.std.proofs.lemmas.Bool.{cases_Bool, false_from_ne_true}
use Rattle.std.proofs.lemmas.Bool.Decides.{nat_tests}
use Rattle.std.proofs.lemmas.List.Elements.{All-nil, All-drop}
use Rattle.std.proofs.lemmas.Slice.Eq.{bytes_eq-Decides}
use Rattle.hal_words.specs.declared.word.Word.{Word}
use Rattle.hal_lexer.specs.declared.child.Child.{Child}
use Rattle.hal_lexer.specs.declared.child.Child.TheVariants as child
use Rattle.hal_lexer.specs.Compiled.{Table, number_of, children_at, child_steps, steps_at, steps, IsBelow, IsOrdered}

pub same_name : (a b : List ℕ) → bytes_eq a b ≡ true → a ≡ b
same_name a b is = (bytes_eq-Decides a b).0 is

pub own_name : (a : List ℕ) → bytes_eq a a ≡ true
own_name a = (bytes_eq-Decides a a).1 refl

pub other_name : (a b : List ℕ) → bytes_eq a b ≡ false → bytes_eq b a ≡ false
other_name a b is = false_from_ne_true (bytes_eq b a) (λ same. let no : true ≡ false = sym ((bytes_eq-Decides a b).1 (sym (same_name b a same))) ∙ is in absurd (cc))

pub number_within : (table : Table) (name : List ℕ) (n : ℕ) → number_of table name ≡ Some n → n < length table
number_within [] name n is = let no : None ≡ Some n = is in absurd (cc)
number_within (entry ∷ older) name n is = elim (cases_Bool (bytes_eq entry.0 name)) [
  | inl same ↦
      let here : Some (length older) ≡ Some n = rw same at is in
      let last : length older ≡ n = cc in
      omega arith
  | inr other ↦ let there : number_of older name ≡ Some n = rw other at is in omega (arith, number_within older name n there)
]

pub number_before : (older : Table) (entry : List ℕ × List Child) (name : List ℕ) (n : ℕ) → number_of older entry.0 ≡ None → number_of older name ≡ Some n → number_of (entry ∷ older) name ≡ Some n
number_before older entry name n new is = elim (cases_Bool (bytes_eq entry.0 name)) [
  | inl same ↦
      let no : None ≡ Some n = sym new ∙ ap (number_of older) (same_name entry.0 name same) ∙ is in
      absurd (cc)
  | inr other ↦ rw other is
]

pub number_last : (older : Table) (name : List ℕ) (children : List Child) → number_of ((name, children) ∷ older) name ≡ Some (length older)
number_last older name children = rw (own_name name) refl

pub children_before : (older : Table) (entry : List ℕ × List Child) (n : ℕ) → n < length older → children_at (entry ∷ older) n ≡ children_at older n
children_before older entry n below = let other : (n == length older) ≡ false = grind (arith, nat_tests) in rw other refl

pub children_last : (older : Table) (entry : List ℕ × List Child) → children_at (entry ∷ older) (length older) ≡ entry.1
children_last older entry = let here : (length older == length older) ≡ true = grind (arith, nat_tests) in rw here refl

-- children of names before
child_more : (n : ℕ) (one : Child) → IsBelow n one → IsBelow (suc n) one
child_more n (child.Word one) below = tt
child_more n (child.Name m) below = omega (arith, below)

pub below_more : (n : ℕ) (children : List Child) → All (IsBelow n) children → All (IsBelow (suc n)) children
below_more n children all = λ k d within. child_more n (get_or children k d) (all k d within)

pub children_below : (table : Table) → IsOrdered table → (n : ℕ) → All (IsBelow (length table)) (children_at table n)
children_below [] ordered n = All-nil (IsBelow 0)
children_below (entry ∷ older) ordered n = elim (cases_Bool (n == length older)) [
  | inl here ↦ rw here (below_more (length older) entry.1 ordered.0)
  | inr there ↦ rw there (below_more (length older) (children_at older n) (children_below older ordered.2 n))
]

child_before : (older : Table) (entry : List ℕ × List Child) (one : Child) → IsBelow (length older) one → child_steps (steps_at older) one ≡ child_steps (steps_at (entry ∷ older)) one
child_before older entry (child.Word one) below = refl
child_before older entry (child.Name n) below = let other : (n == length older) ≡ false = grind (arith, nat_tests) in rw other refl

pub steps_before : (older : Table) (entry : List ℕ × List Child) (children : List Child) → All (IsBelow (length older)) children → steps older children ≡ steps (entry ∷ older) children
steps_before older entry [] below = refl
steps_before older entry (one ∷ children) below =
    ap (λ (list : List (Option Word)). list ++ steps older children) (child_before older entry one (below 0 one (omega arith)))
    ∙ ap (λ (list : List (Option Word)). child_steps (steps_at (entry ∷ older)) one ++ list) (steps_before older entry children (All-drop (IsBelow (length older)) 1 (one ∷ children) below))

-- a walk within a name is one over its children
pub steps_open : (table : Table) → IsOrdered table → (n : ℕ) → steps_at table n ≡ steps table (children_at table n)
steps_open [] ordered n = refl
steps_open (entry ∷ older) ordered n = elim (cases_Bool (n == length older)) [
  | inl here ↦ rw here (steps_before older entry entry.1 ordered.0)
  | inr there ↦ rw there (steps_open older ordered.2 n ∙ steps_before older entry (children_at older n) (children_below older ordered.2 n))
]
