-- The blocks in which phrases of a unit stand: the unit itself, or groups with a TEMPORARY variable in it; and what stands around a block.
use Rattle.std.specs.Prelude.{◌≡◌, ℕ, Bool, true, false, List, Some, None, slice_get}
use Rattle.hal_grammar.specs.Leaves.{Naming}
use Rattle.hal_grammar.specs.Declarations.{Attribute, Declared}
use Rattle.hal_grammar.specs.Units.{Preface}
use Rattle.hal_phrases.specs.Phrases.{Phrase, OfGroup, OfItem, OfTemporaryGroup}
use Rattle.hal_names.specs.Means.{is_compool_unit, prefaces_of}
use Rattle.hal_meaning.specs.Bodies.{is_called, is_unit, standing_for}
use Rattle.hal_meaning.specs.Places.{says_for_or_case}

-- a block is this unit, or a group of it that stands in such a block
pub data LeadsHome (ps : List Phrase) (home : ℕ) : ℕ → Type 0 where
  AtHome : LeadsHome ps home home
  InGroup : (k : ℕ) (p : Phrase) (labels : List Naming) (variable : Naming) → slice_get ps k ≡ Some p → p.node ≡ OfTemporaryGroup labels variable → p.around.home ≡ home → LeadsHome ps home p.around.block → LeadsHome ps home k

-- the block around a phrase is one of those of its unit
abbrev pub StandsHome : List Phrase → Phrase → Type 0
StandsHome ps p = LeadsHome ps p.around.home p.around.block

-- a block stands around another one, or is it
pub data Encloses (ps : List Phrase) (outer : ℕ) : ℕ → Type 0 where
  Itself : Encloses ps outer outer
  Beyond : (k : ℕ) (p : Phrase) → slice_get ps k ≡ Some p → prefaces_of p.node ≡ None → Encloses ps outer p.around.block → Encloses ps outer k

-- a unit that is no COMPOOL
pub record IsOpenUnit (ps : List Phrase) (unit : ℕ) : Type 0 where
  pub phrase : Phrase
  pub there : slice_get ps unit ≡ Some phrase
  pub is : is_unit phrase.node ≡ true
  pub no_pool : is_compool_unit phrase.node ≡ false

-- an item of a template stands for no block that is called
abbrev pub ItemsStandForData : List Phrase → Type 0
ItemsStandForData ps = (m : ℕ) (p : Phrase) (common : List Attribute) (item : Declared) (c : Phrase) → slice_get ps m ≡ Some p → p.node ≡ OfItem common item → slice_get ps (standing_for ps m) ≡ Some c → is_called c.node ≡ true → ⊥

-- a phrase stands right in a group of its unit
pub record StandsInGroup (ps : List Phrase) (p : Phrase) : Type 0 where
  pub group : Phrase
  pub there : slice_get ps p.around.parent ≡ Some group
  pub labels : List Naming
  pub looping : Bool
  pub is : group.node ≡ OfGroup labels looping
  pub home : group.around.home ≡ p.around.home

-- the variable of a DO FOR and the number of a DO CASE do
abbrev pub InItsGroup : List Phrase → Phrase → Type 0
InItsGroup ps p = says_for_or_case p.node ≡ true → StandsInGroup ps p

-- a unit, or a file
pub data IsOuter (ps : List Phrase) (k : ℕ) : Type 0 where
  IsUnit : (p : Phrase) → slice_get ps k ≡ Some p → is_unit p.node ≡ true → IsOuter ps k
  IsFile : (p : Phrase) (prefaces : List Preface) → slice_get ps k ≡ Some p → prefaces_of p.node ≡ Some prefaces → IsOuter ps k

-- a phrase stands directly in its home, which is a unit or a file
pub record StandsDirect (ps : List Phrase) (p : Phrase) : Type 0 where
  pub direct : p.around.block ≡ p.around.home
  pub outer : IsOuter ps p.around.home

-- units do, and phrases that say of a group that it has own places stand in it
abbrev pub StandsPlaced : List Phrase → Phrase → Type 0
StandsPlaced ps p = InItsGroup ps p × (is_unit p.node ≡ true → StandsDirect ps p)
