-- What a compiled name gives is what stands in its place.
use Rattle.std.proofs.Common.{◌≡◌, ◌≤◌, ◌+◌, ℕ, zero, suc, inl, inr, false, List, [], ◌∷◌, ◌++◌, length, Option, Some, None, All, refl, sym, ap, ◌∙◌, append-nil, arith}
use Rattle.std.specs.Prelude.{bytes_eq, flat_map}
use Rattle.std.proofs.lemmas.Bool.{cases_Bool, false_from_ne_true}
use Rattle.std.proofs.lemmas.Grind.{flat_map-append}
use Rattle.hal_base.specs.declared.refusal.Place.{Place}
use Rattle.hal_words.specs.declared.reserved.Reserved.TheVariants as reserved
use Rattle.hal_words.specs.declared.word.Word.{Word}
use Rattle.hal_words.specs.declared.word.Word.TheVariants as word
use Rattle.hal_words.specs.Pieces.{Is}
use Rattle.hal_words.specs.Lines.{Item, item}
use Rattle.hal_words.specs.Replacing.{Definitions, is_among, text_items, within}
use Rattle.hal_words.specs.Reserved.{look_up}
use Rattle.hal_lexer.specs.declared.child.Child.{Child}
use Rattle.hal_lexer.specs.declared.child.Child.TheVariants as child
use Rattle.hal_lexer.specs.Compiled.{Table, number_of, children_at, steps, step_items, gives, IsBelow, IsOrdered, as_child, name_children, word_children, IsReadAs, IsNamed, AreNamed}
use Rattle.hal_lexer.proofs.Tables.{same_name, number_within, number_before, children_before, children_last, children_below, steps_before, steps_open}
use Rattle.hal_lexer.proofs.Within.{within_word, within_undefined, within_defined}

gives_append : (table : Table) (place : Place) (xs ys : List Child) → gives table place (xs ++ ys) ≡ gives table place xs ++ gives table place ys
gives_append table place xs ys =
    ap (flat_map (step_items place)) (flat_map-append _ xs ys) ∙ flat_map-append (step_items place) (steps table xs) (steps table ys)

pub gives_child : (table : Table) (place : Place) (n : ℕ) (children : List Child) → IsOrdered table → children_at table n ≡ children → gives table place (as_child n children) ≡ gives table place children
gives_child table place n [] ordered is = refl
gives_child table place n (one ∷ []) ordered is = refl
gives_child table place n (one ∷ more ∷ rest) ordered is =
    ap (flat_map (step_items place)) (append-nil _ ∙ steps_open table ordered n ∙ ap (steps table) is)

gives_before : (older : Table) (entry : List ℕ × List Child) (place : Place) (children : List Child) → All (IsBelow (length older)) children → gives older place children ≡ gives (entry ∷ older) place children
gives_before older entry place children below = ap (flat_map (step_items place)) (steps_before older entry children below)

-- the names that have a text
abbrev pub counts : Option (List ℕ) → ℕ
counts None = 0
counts (Some text) = 1

abbrev pub levels : Definitions → Table → ℕ
levels definitions [] = 0
levels definitions (entry ∷ older) = counts (look_up definitions entry.0) + levels definitions older

-- none of the names is opened
abbrev pub IsApart : Table → List (List ℕ) → Type 0
IsApart table opened = (name : List ℕ) (n : ℕ) → number_of table name ≡ Some n → is_among opened name ≡ false

abbrev GivesAll : Definitions → Table → Type 0
GivesAll definitions table =
    (name : List ℕ) (n deep : ℕ) (opened : List (List ℕ)) (place : Place) → number_of table name ≡ Some n → IsApart table opened → levels definitions table ≤ deep
    → within deep definitions opened (item (Is (word.Name name)) place) ≡ gives table place (children_at table n)

-- words of a text
name_gives : (definitions : Definitions) (table : Table) (deep : ℕ) (opened : List (List ℕ)) (place : Place) (name : List ℕ) (found : Option ℕ) (first : List Child) → IsOrdered table → GivesAll definitions table
    → IsApart table opened → levels definitions table ≤ deep → number_of table name ≡ found → name_children table found ≡ Some first → within deep definitions opened (item (Is (word.Name name)) place) ≡ gives table place first
name_gives definitions table deep opened place name None first ordered all apart enough at is = let no : None ≡ Some first = is in absurd (cc)
name_gives definitions table deep opened place name (Some n) first ordered all apart enough at is =
    let here : as_child n (children_at table n) ≡ first = cc in
    all name n deep opened place at apart enough ∙ sym (gives_child table place n (children_at table n) ordered refl) ∙ ap (gives table place) here

alone_gives : (table : Table) (place : Place) (one : Word) (first : List Child) → Some (child.Word one ∷ []) ≡ Some first → item (Is one) place ∷ [] ≡ gives table place first
alone_gives table place one first is = let here : child.Word one ∷ [] ≡ first = cc in ap (gives table place) here

word_gives : (definitions : Definitions) (table : Table) (deep : ℕ) (opened : List (List ℕ)) (place : Place) (one : Word) (first : List Child) → IsOrdered table → GivesAll definitions table
    → IsApart table opened → levels definitions table ≤ deep → word_children table one ≡ Some first → within deep definitions opened (item (Is one) place) ≡ gives table place first
word_gives definitions table deep opened place (word.Name name) first ordered all apart enough is = name_gives definitions table deep opened place name (number_of table name) first ordered all apart enough refl is
word_gives definitions table deep opened place (word.Reserved reserved.Replace) first ordered all apart enough is = let no : None ≡ Some first = is in absurd (cc)
word_gives definitions table deep opened place one first ordered all apart enough is = within_word deep definitions opened one place refl refl ∙ alone_gives table place one first is

items_give : (definitions : Definitions) (table : Table) (deep : ℕ) (opened : List (List ℕ)) (place : Place) (items : List Item) (children : List Child) → IsOrdered table → GivesAll definitions table
    → IsApart table opened → levels definitions table ≤ deep → IsReadAs table place items children → flat_map (within deep definitions opened) items ≡ gives table place children
items_give definitions table deep opened place [] children ordered all apart enough is = rw is refl
items_give definitions table deep opened place (one ∷ items) children ordered all apart enough is =
    let first : within deep definitions opened one ≡ gives table place is.1 = rw is.3 (word_gives definitions table deep opened place is.0 is.1 ordered all apart enough is.4) in
    let rest = items_give definitions table deep opened place items is.2 ordered all apart enough is.5 in
    rw (is.6, gives_append table place is.1 is.2) (ap (λ (list : List Item). list ++ flat_map (within deep definitions opened) items) first ∙ ap (λ (list : List Item). gives table place is.1 ++ list) rest)

-- the latest name
apart_older : (older : Table) (entry : List ℕ × List Child) (opened : List (List ℕ)) → number_of older entry.0 ≡ None → IsApart (entry ∷ older) opened → IsApart older opened
apart_older older entry opened new apart = λ name n is. apart name n (number_before older entry name n new is)

pub apart_opened : (table : Table) (opened : List (List ℕ)) (one : List ℕ) → number_of table one ≡ None → IsApart table opened → IsApart table (one ∷ opened)
apart_opened table opened one new apart = λ name n is.
    let other : bytes_eq one name ≡ false = false_from_ne_true (bytes_eq one name) (λ same. let no : None ≡ Some n = sym new ∙ ap (number_of table) (same_name one name same) ∙ is in absurd (cc)) in
    rw other (apart name n is)

latest_gives : (definitions : Definitions) (older : Table) (name : List ℕ) (children : List Child) (text : Option (List ℕ)) (deep : ℕ) (opened : List (List ℕ)) (place : Place)
    → IsOrdered older → GivesAll definitions older → number_of older name ≡ None → IsApart older opened → is_among opened name ≡ false → look_up definitions name ≡ text → IsNamed older (name, children) text
    → counts text + levels definitions older ≤ deep → within deep definitions opened (item (Is (word.Name name)) place) ≡ gives older place children
latest_gives definitions older name children None deep opened place ordered all new apart closed at is enough =
    within_undefined deep definitions opened name place closed (λ some. at) ∙ ap (gives older place) (sym is)
latest_gives definitions older name children (Some text) zero opened place ordered all new apart closed at is enough = absurd (omega (arith, enough))
latest_gives definitions older name children (Some text) (suc deep) opened place ordered all new apart closed at is enough =
    within_defined deep definitions opened name text place closed at
    ∙ items_give definitions older deep (name ∷ opened) place (text_items place text) children ordered all (apart_opened older opened name new apart) (omega (arith, enough)) (is place)

pub table_gives : (definitions : Definitions) (table : Table) → IsOrdered table → AreNamed definitions table → GivesAll definitions table
table_gives definitions [] ordered named = λ name n deep opened place is apart enough. let no : None ≡ Some n = is in absurd (cc)
table_gives definitions (entry ∷ older) ordered named = λ name n deep opened place is apart enough.
    let all = table_gives definitions older ordered.2 named.1 in
    let before = apart_older older entry opened ordered.1 apart in
    elim (cases_Bool (bytes_eq entry.0 name)) [
      | inl same ↦
          let here : Some (length older) ≡ Some n = rw same at is in
          let last : length older ≡ n = cc in
          let own : entry.0 ≡ name = same_name entry.0 name same in
          let closed : is_among opened entry.0 ≡ false = rw own (apart name n is) in
          rw (← last, children_last older entry, ← own)
          (latest_gives definitions older entry.0 entry.1 (look_up definitions entry.0) deep opened place ordered.2 all ordered.1 before closed refl named.0 enough ∙ gives_before older entry place entry.1 ordered.0)
      | inr other ↦
          let there : number_of older name ≡ Some n = rw other at is in
          rw (children_before older entry n (number_within older name n there))
          (all name n deep opened place there before (omega (arith, enough)) ∙ gives_before older entry place (children_at older n) (children_below older ordered.2 n))
    ]
