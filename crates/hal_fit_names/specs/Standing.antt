-- What data of a written template stand for.
use Rattle.std.specs.Prelude.{◌≡◌, ◌⊎◌, ℕ, true, false, List, Some, slice_get}
use Rattle.hal_grammar.specs.Declarations.{Attribute, Declared}
use Rattle.hal_phrases.specs.Phrases.{Phrase, OfItem}
use Rattle.hal_constants.specs.Known.{known}
use Rattle.hal_templates.specs.Agreeing.{IsSameData}
use Rattle.hal_meaning.specs.Bodies.{standing_for}
use Rattle.hal_meaning.specs.Places.{is_in_unit}
use Rattle.hal_fit_names.specs.Suited.{is_in_file, is_plain}

-- data that a template declares, as this phrase with this number, stand for data of a unit with the same name, whose attributes mean the same
pub record StandsForData (ps : List Phrase) (number : ℕ) (p : Phrase) (common : List Attribute) (item : Declared) : Type 0 where
  pub phrase : Phrase
  pub stands : standing_for ps number ≡ phrase.number
  pub there : slice_get ps phrase.number ≡ Some phrase
  pub other_common : List Attribute
  pub other : Declared
  pub declares : phrase.node ≡ OfItem other_common other
  pub named : other.name.name ≡ item.name.name
  pub within : is_in_unit ps phrase.around.home ≡ true
  pub same : IsSameData ps (known ps) p common item.attributes phrase other_common other.attributes

-- data that stand for themselves: those of a unit, and those of a template of a unit that is called, which are its parameters, so they are plain
abbrev pub StandsForItself : List Phrase → ℕ → Phrase → List Attribute → Declared → Type 0
StandsForItself ps number p common item =
    (standing_for ps number ≡ number) × (is_in_file ps p.around.home ≡ false) × ((is_in_unit ps p.around.home ≡ true) ⊎ (is_plain common item ≡ true))
