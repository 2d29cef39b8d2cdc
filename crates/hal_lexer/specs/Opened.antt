-- The texts that are being compiled, the innermost first.
use Rattle.std.specs.Prelude.{◌≡◌, ℕ, suc, ◌+◌, ◌-◌, Bool, false, ◌||◌, is_some, All, Contains, List, [], ◌∷◌, length, map, flat_map, None, Some, ⊤, if◌then◌else◌}
use Rattle.hal_base.specs.declared.refusal.Fault.{Fault}
use Rattle.hal_base.specs.declared.refusal.Place.{Place}
use Rattle.hal_words.specs.Lines.{Item}
use Rattle.hal_words.specs.Replacing.{Definitions, is_among, text_items, within}
use Rattle.hal_words.specs.Reserved.{look_up}
use Rattle.hal_pieces.specs.Faults.{Tells}
use Rattle.hal_lexer.specs.declared.child.Child.{Child}
use Rattle.hal_lexer.specs.declared.frames.Part.{Part}
use Rattle.hal_lexer.specs.Texts.{IsText}
use Rattle.hal_lexer.specs.Compiled.{Table, number_of, IsRead}

-- a name, what is left of its text, and the children that stand for what was read
pub record Opened : Type 0 where
  pub name : List ℕ
  pub rest : List ℕ
  pub children : List Child

-- a name with the rest and the children, in the map of the code
abbrev pub Entry : Type 0
Entry = List ℕ × Part

-- the three of them
abbrev pub opened : List ℕ → List ℕ → List Child → Opened
opened name rest children = record { name = name; rest = rest; children = children }

-- what stands in the map
abbrev pub opened_of : Entry → Opened
opened_of entry = opened entry.0 entry.1.rest.now entry.1.children.items

-- of the text nothing was read
abbrev pub begun : List ℕ → List ℕ → Opened
begun name text = opened name text []

-- each of them is a text that may stand between two `"`
abbrev pub AreTexts : List Entry → Type 0
AreTexts entries = All (λ (entry : Entry). IsText entry.1.rest.now) entries

-- the names whose texts are being read
abbrev pub names_of : List Opened → List (List ℕ)
names_of frames = map (λ (one : Opened). one.name) frames

-- the name has a text, isn't compiled yet, and the children stand for what was read
pub record IsOpened (definitions : Definitions) (table : Table) (one : Opened) : Type 0 where
  pub text : List ℕ
  pub defined : look_up definitions one.name ≡ Some text
  pub uncompiled : number_of table one.name ≡ None
  pub read : IsRead table text one.rest one.children

-- each of them, and no name twice
abbrev pub AreOpened : Definitions → Table → List Opened → Type 0
AreOpened definitions table [] = ⊤
AreOpened definitions table (one ∷ below) = IsOpened definitions table one × (is_among (names_of below) one.name ≡ false) × AreOpened definitions table below

-- what is left of the text of a name gives, where it stands in the texts below
abbrev pub left_items : Definitions → Place → Opened → List Opened → List Item
left_items definitions place one below =
    flat_map (within (length definitions - suc (length below)) definitions (one.name ∷ names_of below)) (text_items place one.rest)

-- what is left of each text gives items of the whole
abbrev pub Leads : Definitions → Place → List Item → List Opened → Type 0
Leads definitions place whole [] = ⊤
Leads definitions place whole (one ∷ below) =
    ((some : Item) → Contains (left_items definitions place one below) some → Contains whole some) × Leads definitions place whole below

-- the text has a fault wherever it stands at this place
abbrev pub IsSpoilt : Place → List ℕ → Fault → Type 0
IsSpoilt place text fault =
    (deep : ℕ) (definitions : Definitions) (opened : List (List ℕ)) → Tells (flat_map (within deep definitions opened) (text_items place text)) fault

-- the cost of the texts whose names aren't seen
abbrev pub unseen : (List ℕ → ℕ) → (List ℕ → Bool) → Definitions → ℕ
unseen cost seen [] = 0
unseen cost seen (one ∷ definitions) = (if seen one.0 then 0 else cost one.1) + unseen cost seen definitions

-- a name is seen where its text is being read, or it is compiled
abbrev pub is_seen : Table → List Opened → List ℕ → Bool
is_seen table frames name = is_among (names_of frames) name || is_some (number_of table name)

-- a byte of a text is work, and so are the opening and the end of a text
abbrev pub rests : List Opened → ℕ
rests [] = 0
rests (one ∷ below) = (length one.rest + 1) + rests below

-- what is left to do at most, where a text that isn't seen costs a step for each byte and two more
abbrev pub work : Definitions → Table → List Opened → ℕ
work definitions table frames = unseen (λ text. length text + 2) (is_seen table frames) definitions + rests frames
