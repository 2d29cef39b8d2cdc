-- What stands in place of the names that were looked up, each with the parts that give words.
use Rattle.std.specs.Prelude.{◌≡◌, ◌≤◌, ℕ, ◌<◌, ◌==◌, ◌⊎◌, List, [], ◌∷◌, ◌++◌, All, length, flat_map, Option, Some, None, bytes_eq, ⊤, if◌then◌else◌}
use Rattle.hal_base.specs.declared.refusal.Place.{Place}
use Rattle.hal_words.specs.declared.reserved.Reserved.TheVariants as reserved
use Rattle.hal_words.specs.declared.word.Word.{Word}
use Rattle.hal_words.specs.declared.word.Word.TheVariants as word
use Rattle.hal_words.specs.Pieces.{Is}
use Rattle.hal_words.specs.Lines.{Item, item}
use Rattle.hal_words.specs.Replacing.{Definitions, text_items}
use Rattle.hal_words.specs.Reserved.{look_up}
use Rattle.hal_lexer.specs.declared.child.Child.{Child}
use Rattle.hal_lexer.specs.declared.child.Child.TheVariants as child
use Rattle.hal_lexer.specs.declared.compiled.Entry.{Entry}

-- names and their children, the latest first; the number of a name is how many stand behind it
abbrev pub Table : Type 0
Table = List (List ℕ × List Child)

-- the same in the list of the code
abbrev pub entry_of : Entry → List ℕ × List Child
entry_of entry = (entry.name, entry.children.items)

-- the number of a name, if it was looked up
abbrev pub number_of : Table → List ℕ → Option ℕ
number_of [] name = None
number_of (entry ∷ older) name = if bytes_eq entry.0 name then Some (length older) else number_of older name

-- the children of the name with this number
abbrev pub children_at : Table → ℕ → List Child
children_at [] n = []
children_at (entry ∷ older) n = if n == length older then entry.1 else children_at older n

-- what a walk over a child meets: a word, or a name that it goes into
abbrev pub child_steps : (ℕ → List (Option Word)) → Child → List (Option Word)
child_steps inner (child.Word one) = Some one ∷ []
child_steps inner (child.Name n) = None ∷ inner n

-- what a walk meets within a name
abbrev pub steps_at : Table → ℕ → List (Option Word)
steps_at [] n = []
steps_at (entry ∷ older) n = if n == length older then flat_map (child_steps (steps_at older)) entry.1 else steps_at older n

-- what a walk over children meets
abbrev pub steps : Table → List Child → List (Option Word)
steps table children = flat_map (child_steps (steps_at table)) children

-- a word is written, and going into a name writes nothing
abbrev pub step_items : Place → Option Word → List Item
step_items place None = []
step_items place (Some one) = item (Is one) place ∷ []

-- the words that children give at a place
abbrev pub gives : Table → Place → List Child → List Item
gives table place children = flat_map (step_items place) (steps table children)

-- a child is a word, or one of the first n names
abbrev pub IsBelow : ℕ → Child → Type 0
IsBelow n (child.Word one) = ⊤
IsBelow n (child.Name m) = m < n

-- each name has one number, and its children are words or names before it
abbrev pub IsOrdered : Table → Type 0
IsOrdered [] = ⊤
IsOrdered (entry ∷ older) = All (IsBelow (length older)) entry.1 × (number_of older entry.0 ≡ None) × IsOrdered older

-- a name with no child is no child, and one with one child is that child
abbrev pub as_child : ℕ → List Child → List Child
as_child n [] = []
as_child n (one ∷ []) = one ∷ []
as_child n (one ∷ more ∷ rest) = child.Name n ∷ []

-- the children that stand for the name with this number, if it has one
abbrev pub name_children : Table → Option ℕ → Option (List Child)
name_children table None = None
name_children table (Some n) = Some (as_child n (children_at table n))

-- the children that stand for a word of a text; none for REPLACE, and for a name that isn't looked up yet
abbrev pub word_children : Table → Word → Option (List Child)
word_children table (word.Name name) = name_children table (number_of table name)
word_children table (word.Reserved reserved.Replace) = None
word_children table one = Some (child.Word one ∷ [])

-- the items are words, and the children stand for them
abbrev pub IsReadAs : Table → Place → List Item → List Child → Type 0
IsReadAs table place [] children = children ≡ []
IsReadAs table place (one ∷ items) children =
    (w : Word) × (first rest : List Child) × (one ≡ item (Is w) place) × (word_children table w ≡ Some first) × IsReadAs table place items rest × (children ≡ first ++ rest)

-- the children stand for the text up to what is left of it
abbrev pub IsRead : Table → List ℕ → List ℕ → List Child → Type 0
IsRead table text rest children =
    (place : Place) → (done : List Item) × (text_items place text ≡ done ++ text_items place rest) × IsReadAs table place done children

-- a text is read on: the children stand for what was read of it too, and what is left follows that
pub record GoesOn (table : Table) (rest : List ℕ) (children : List Child) (behind : List ℕ) (more : List Child) : Type 0 where
  pub read : (text : List ℕ) → IsRead table text rest children → IsRead table text behind more
  pub follows : (place : Place) → (done : List Item) × (text_items place rest ≡ done ++ text_items place behind)
  pub shorter : length behind ≤ length rest

-- a name without a text is a word, and else its children stand for the text
abbrev pub IsNamed : Table → List ℕ × List Child → Option (List ℕ) → Type 0
IsNamed older entry None = entry.1 ≡ child.Word (word.Name entry.0) ∷ []
IsNamed older entry (Some text) = (place : Place) → IsReadAs older place (text_items place text) entry.1

-- each name has its children by these definitions
abbrev pub AreNamed : Definitions → Table → Type 0
AreNamed definitions [] = ⊤
AreNamed definitions (entry ∷ older) = IsNamed older entry (look_up definitions entry.0) × AreNamed definitions older

-- what was looked up of these definitions
abbrev pub IsCompiled : Definitions → Table → Type 0
IsCompiled definitions table = IsOrdered table × AreNamed definitions table

-- a word adds no name, or is a name without a text that is added
abbrev pub Stays : Word → Table → Table → Type 0
Stays one old new =
    (new ≡ old) ⊎ ((name : List ℕ) × (one ≡ word.Name name) × (number_of old name ≡ None) × (new ≡ (name, child.Word (word.Name name) ∷ []) ∷ old))
