-- Events and processes that the unit itself declares.
use Rattle.std.specs.Prelude.{◌≡◌, ◌≤◌, ◌+◌, ℕ, true, List, length, Some, None, slice_get}
use Rattle.hal_grammar.specs.Leaves.{Naming}
use Rattle.hal_grammar.specs.Declarations.{Attribute, Declared, Declaration}
use Rattle.hal_grammar.specs.Units.{Head}
use Rattle.hal_phrases.specs.Phrases.{Phrase, OfItem, OfTemplate, OfUnit}
use Rattle.hal_names.specs.Means.{means}
use Rattle.hal_scope.specs.Sorts.{type_of}
use Rattle.hal_kinds.specs.Attributes.{sizes_of}
use Rattle.hal_kinds.specs.Data.{is_event_type}
use Rattle.hal_meaning.specs.Bodies.{is_process_head, processes_of, standing_for}
use Rattle.hal_meaning.specs.Events.{declared_events}
use Rattle.hal_meaning.specs.Places.{is_in_unit}
use Rattle.hal_agreement.specs.Sites.{Site}
use Rattle.hal_fit_expr.specs.Uses.{Uses}

-- a phrase of the set declares an event, in a unit
pub record IsEvent (site : Site) (phrase : Phrase) : Type 0 where
  pub common : List Attribute
  pub item : Declared
  pub declares : phrase.node ≡ OfItem common item
  pub eventful : is_event_type (type_of common item) ≡ true
  pub sized : sizes_of common item ≡ None
  pub within : is_in_unit site.set.phrases phrase.around.home ≡ true

-- it declares a process
pub record IsProcess (phrase : Phrase) : Type 0 where
  pub name : Naming
  pub head : Head
  pub declarations : List Declaration
  pub declares : phrase.node ≡ OfUnit name head declarations
  pub process : is_process_head head ≡ true

-- the declaration with this number stands for a process
pub record StandsForProcess (ps : List Phrase) (number : ℕ) : Type 0 where
  pub unit : ℕ
  pub stands : standing_for ps number ≡ unit
  pub phrase : Phrase
  pub there : slice_get ps unit ≡ Some phrase
  pub is : IsProcess phrase

-- a written template of a process declares what this name means here, and stands for the process
pub record IsWrittenProcess (site : Site) (name : List ℕ) : Type 0 where
  pub number : ℕ
  pub meant : means site.set.phrases site.block name ≡ Some number
  pub phrase : Phrase
  pub there : slice_get site.set.phrases number ≡ Some phrase
  pub template : Naming
  pub head : Head
  pub declarations : List Declaration
  pub declares : phrase.node ≡ OfTemplate template head declarations
  pub process : is_process_head head ≡ true
  pub standing : StandsForProcess site.set.phrases number

-- what is used has all events and processes of the set, and they may be asked for
pub record AsksAll (u : Uses) (site : Site) : Type 0 where
  pub asks : u.asks ≡ true
  pub all : length (processes_of site.set.phrases) + length (declared_events site.set.phrases) ≤ u.events
