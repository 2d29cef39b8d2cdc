-- Children that stand for the words of a text.
use Rattle.std.proofs.Common.{◌≡◌, ◌<◌, ℕ, List, [], ◌∷◌, ◌++◌, length, Option, Some, None, All, refl, sym, ap, ◌∙◌, append_assoc, append-nil}
use Rattle.std.proofs.lemmas.List.Elements.{All-append, All-cons, All-nil}
use Rattle.hal_base.specs.declared.refusal.Place.{Place}
use Rattle.hal_words.specs.declared.reserved.Reserved.TheVariants as reserved
use Rattle.hal_words.specs.declared.word.Word.{Word}
use Rattle.hal_words.specs.declared.word.Word.TheVariants as word
use Rattle.hal_words.specs.Pieces.{Is}
use Rattle.hal_words.specs.Lines.{Item, item}
use Rattle.hal_words.specs.Replacing.{text_items}
use Rattle.hal_lexer.specs.declared.child.Child.{Child}
use Rattle.hal_lexer.specs.declared.child.Child.TheVariants as child
use Rattle.hal_lexer.specs.Compiled.{Table, number_of, children_at, IsBelow, IsOrdered, as_child, name_children, word_children, IsReadAs, IsRead}
use Rattle.hal_lexer.proofs.Tables.{number_within, number_before, children_before, children_below}

-- one more name
name_before : (older : Table) (entry : List ℕ × List Child) (name : List ℕ) (found : Option ℕ) (first : List Child) → number_of older entry.0 ≡ None → number_of older name ≡ found
    → name_children older found ≡ Some first → word_children (entry ∷ older) (word.Name name) ≡ Some first
name_before older entry name None first new at is = let no : None ≡ Some first = is in absurd (cc)
name_before older entry name (Some n) first new at is =
    rw (number_before older entry name n new at, children_before older entry n (number_within older name n at)) is

word_before : (older : Table) (entry : List ℕ × List Child) (one : Word) (first : List Child) → number_of older entry.0 ≡ None
    → word_children older one ≡ Some first → word_children (entry ∷ older) one ≡ Some first
word_before older entry (word.Name name) first new is = name_before older entry name (number_of older name) first new refl is
word_before older entry (word.Reserved reserved.Replace) first new is = is
word_before older entry one first new is = is

pub read_before : (older : Table) (entry : List ℕ × List Child) (place : Place) (items : List Item) (children : List Child) → number_of older entry.0 ≡ None
    → IsReadAs older place items children → IsReadAs (entry ∷ older) place items children
read_before older entry place [] children new is = is
read_before older entry place (one ∷ items) children new is =
    (is.0, is.1, is.2, is.3, word_before older entry is.0 is.1 new is.4, read_before older entry place items is.2 new is.5, is.6)

pub kept_reading : (older : Table) (entry : List ℕ × List Child) (text rest : List ℕ) (children : List Child) → number_of older entry.0 ≡ None
    → IsRead older text rest children → IsRead (entry ∷ older) text rest children
kept_reading older entry text rest children new is = λ place. let at = is place in (at.0, at.1, read_before older entry place at.0 children new at.2)

-- one more word
read_more : (table : Table) (place : Place) (items : List Item) (children : List Child) (one : Word) (first : List Child) → IsReadAs table place items children → word_children table one ≡ Some first
    → IsReadAs table place (items ++ item (Is one) place ∷ []) (children ++ first)
read_more table place [] children one first is found = rw is (one, first, [], refl, found, refl, sym (append-nil first))
read_more table place (before ∷ items) children one first is found =
    (is.0, is.1, is.2 ++ first, is.3, is.4, read_more table place items is.2 one first is.5 found, ap (λ (list : List Child). list ++ first) is.6 ∙ append_assoc is.1 is.2 first)

pub read_next : (table : Table) (text rest behind : List ℕ) (children : List Child) (one : Word) (first : List Child) → IsRead table text rest children
    → ((at : Place) → text_items at rest ≡ item (Is one) at ∷ text_items at behind) → word_children table one ≡ Some first → IsRead table text behind (children ++ first)
read_next table text rest behind children one first is front found = λ place.
    let at = is place in (
      at.0 ++ item (Is one) place ∷ [],
      at.1 ∙ ap (λ (list : List Item). at.0 ++ list) (front place) ∙ sym (append_assoc at.0 (item (Is one) place ∷ []) (text_items place behind)),
      read_more table place at.0 children one first at.2 found,
    )

pub read_start : (table : Table) (text : List ℕ) → IsRead table text text []
read_start table text = λ place. ([], refl, refl)

pub read_end : (table : Table) (text rest : List ℕ) (children : List Child) → IsRead table text rest children → ((at : Place) → text_items at rest ≡ [])
    → (place : Place) → IsReadAs table place (text_items place text) children
read_end table text rest children is none place =
    let at = is place in
    let whole : text_items place text ≡ at.0 = at.1 ∙ ap (λ (list : List Item). at.0 ++ list) (none place) ∙ append-nil at.0 in
    rw whole at.2

-- children of names before
as_child_below : (n : ℕ) (m : ℕ) (children : List Child) → m < n → All (IsBelow n) children → All (IsBelow n) (as_child m children)
as_child_below n m [] below all = all
as_child_below n m (one ∷ []) below all = all
as_child_below n m (one ∷ more ∷ rest) below all = All-cons (IsBelow n) (child.Name m) [] below (All-nil (IsBelow n))

name_below : (table : Table) (name : List ℕ) (found : Option ℕ) (first : List Child) → IsOrdered table → number_of table name ≡ found → name_children table found ≡ Some first → All (IsBelow (length table)) first
name_below table name None first ordered at is = let no : None ≡ Some first = is in absurd (cc)
name_below table name (Some n) first ordered at is =
    let here : as_child n (children_at table n) ≡ first = cc in
    rw (← here) (as_child_below (length table) n (children_at table n) (number_within table name n at) (children_below table ordered n))

alone_below : (n : ℕ) (one : Word) (first : List Child) → Some (child.Word one ∷ []) ≡ Some first → All (IsBelow n) first
alone_below n one first is =
    let here : child.Word one ∷ [] ≡ first = cc in
    rw (← here) (All-cons (IsBelow n) (child.Word one) [] tt (All-nil (IsBelow n)))

word_below : (table : Table) (one : Word) (first : List Child) → IsOrdered table → word_children table one ≡ Some first → All (IsBelow (length table)) first
word_below table (word.Name name) first ordered is = name_below table name (number_of table name) first ordered refl is
word_below table (word.Reserved reserved.Replace) first ordered is = let no : None ≡ Some first = is in absurd (cc)
word_below table one first ordered is = alone_below (length table) one first is

pub read_below : (table : Table) (place : Place) (items : List Item) (children : List Child) → IsOrdered table → IsReadAs table place items children → All (IsBelow (length table)) children
read_below table place [] children ordered is = rw is (All-nil (IsBelow (length table)))
read_below table place (one ∷ items) children ordered is =
    rw is.6 (All-append (IsBelow (length table)) is.1 is.2 (word_below table is.0 is.1 ordered is.4) (read_below table place items is.2 ordered is.5))
