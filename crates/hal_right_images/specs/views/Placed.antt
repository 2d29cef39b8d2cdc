-- Where data stand that have own places in a process.
use Rattle.std.specs.Prelude.{◌≡◌, ◌||◌, ℕ, Bool, true, false, List, Some, slice_get}
use Rattle.hal_grammar.specs.Leaves.{Naming}
use Rattle.hal_grammar.specs.Units.{Preface}
use Rattle.hal_phrases.specs.Phrases.{Node, Phrase, OfFile, OfTemporaryGroup}
use Rattle.hal_names.specs.Means.{is_compool_unit, unit_named}
use Rattle.hal_constants.specs.Known.{Known}
use Rattle.hal_meaning.specs.Bodies.{is_unit, pool_of, processes_of, standing_for}
use Rattle.hal_meaning.specs.Places.{Storing, InCells, InPlaces, ByReference, Unstored, storing}
use Rattle.hal_meaning.specs.Sets.{is_program}
use Rattle.hal_reach.specs.Places.{is_among}
use Rattle.hal_right_images.specs.rows.Homes.{Encloses, IsOpenUnit, ItemsStandForData}

-- whether data that are stored so have own places, or a reference there
abbrev pub keeps_own : Storing → Bool
keeps_own (InCells group) = false
keeps_own InPlaces = true
keeps_own ByReference = true
keeps_own Unstored = false

abbrev pub is_temporary : Node → Bool
is_temporary (OfTemporaryGroup labels variable) = true
is_temporary other = false

-- whether what a phrase declares has own places
abbrev pub has_own : List Phrase → Known → Phrase → Bool
has_own ps vs p = is_temporary p.node || keeps_own (storing ps vs p p.node)

-- PROGRAMs stand in files
abbrev pub ProgramsStandAlone : List Phrase → Type 0
ProgramsStandAlone ps = (k : ℕ) (p : Phrase) → slice_get ps k ≡ Some p → is_program p.node ≡ true → (q : Phrase) → slice_get ps p.around.home ≡ Some q → is_unit q.node ≡ true → ⊥

-- the unit that a written template of a COMPOOL names is one
abbrev pub PoolsMatch : List Phrase → Type 0
PoolsMatch ps =
    (f : ℕ) (p : Phrase) (prefaces : List Preface) (unit : Naming) (name pool : List ℕ) (u : ℕ) (q : Phrase) → slice_get ps f ≡ Some p → p.node ≡ OfFile prefaces unit → pool_of prefaces name ≡ Some pool
    → unit_named ps pool ≡ Some u → slice_get ps u ≡ Some q → is_compool_unit q.node ≡ true

-- no unit stands right in a COMPOOL
abbrev pub PoolsHoldNoUnits : List Phrase → Type 0
PoolsHoldNoUnits ps = (k : ℕ) (p : Phrase) → slice_get ps k ≡ Some p → is_unit p.node ≡ true → (q : Phrase) → slice_get ps p.around.home ≡ Some q → is_compool_unit q.node ≡ true → ⊥

-- no declaration of a template stands for data with own places
pub record StandForThemselves (ps : List Phrase) (vs : Known) : Type 0 where
  pub items : ItemsStandForData ps
  pub alone : (d m : ℕ) (p : Phrase) → standing_for ps d ≡ m → slice_get ps m ≡ Some p → has_own ps vs p ≡ true → d ≡ m

-- and they stand in units that are no COMPOOLs, and that stand around no process but their own
pub record AreWellPlaced (ps : List Phrase) (vs : Known) : Type 0 where
  pub stand : StandForThemselves ps vs
  pub outside : (m : ℕ) (p : Phrase) → slice_get ps m ≡ Some p → keeps_own (storing ps vs p p.node) ≡ true → IsOpenUnit ps p.around.home
  pub inner : (m : ℕ) (p : Phrase) (k : ℕ) → slice_get ps m ≡ Some p → keeps_own (storing ps vs p p.node) ≡ true → is_among (processes_of ps) k ≡ true → Encloses ps p.around.home k → p.around.home ≡ k
