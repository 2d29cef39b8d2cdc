-- What a written template of a unit that is called stands for.
use Rattle.std.specs.Prelude.{◌≡◌, ℕ, true, List, Some, slice_get}
use Rattle.hal_grammar.specs.Leaves.{Naming}
use Rattle.hal_grammar.specs.Declarations.{Declaration}
use Rattle.hal_grammar.specs.Units.{Head, Returns}
use Rattle.hal_phrases.specs.Phrases.{Phrase, OfUnit}
use Rattle.hal_kinds.specs.Classes.{class_of_called_head, class_of_returns}
use Rattle.hal_meaning.specs.Bodies.{is_called_head, standing_for}
use Rattle.hal_meaning.specs.Calls.{inputs_of, is_function}
use Rattle.hal_meaning.specs.Expressions.{inputs_at}
use Rattle.hal_agreement.specs.Sites.{Site}
use Rattle.hal_fit_expr.specs.Sorted.{sort_of_call}
use Rattle.hal_fit_expr.specs.Uses.{Uses}
use Rattle.hal_fit_rules.specs.Leaves.{IsKnown}
use Rattle.hal_fit_rules.specs.Parameters.{ParametersAgree, spelled}

-- the template with this number and head stands for a unit that is called, with the same names of input parameters and a result of the same class where it is a FUNCTION, as the template says; and each that the template declares is for the
-- unit what it is for the checks
pub record StandsForCalled (site : Site) (number : ℕ) (head : Head) : Type 0 where
  pub unit : Phrase
  pub stands : standing_for site.set.phrases number ≡ unit.number
  pub there : slice_get site.set.phrases unit.number ≡ Some unit
  pub name : Naming
  pub unit_head : Head
  pub declarations : List Declaration
  pub declares : unit.node ≡ OfUnit name unit_head declarations
  pub called : is_called_head unit_head ≡ true
  pub function : is_function unit_head ≡ is_function head
  pub gives : class_of_called_head unit_head ≡ class_of_called_head head
  pub named : spelled (inputs_of unit_head) ≡ spelled (inputs_of head)
  pub parameters : ParametersAgree site site.set.phrases number unit.number (inputs_of head)

-- the template with this number and these input parameters stands for a unit that may be called and takes the same
pub record StandsForUsed (u : Uses) (site : Site) (number : ℕ) (inputs : List Naming) : Type 0 where
  pub unit : Phrase
  pub stands : standing_for site.set.phrases number ≡ unit.number
  pub there : slice_get site.set.phrases unit.number ≡ Some unit
  pub name : Naming
  pub head : Head
  pub declarations : List Declaration
  pub declares : unit.node ≡ OfUnit name head declarations
  pub called : is_called_head head ≡ true
  pub taken : spelled (inputs_at site.set unit.number) ≡ spelled inputs
  pub calls : u.calls unit.number ≡ true
  pub parameters : ParametersAgree site site.set.phrases number unit.number inputs

-- so does one with this result, of a FUNCTION that gives a value of the same class
pub record StandsForFunction (u : Uses) (site : Site) (number : ℕ) (inputs : List Naming) (returns : Returns) : Type 0 where
  pub used : StandsForUsed u site number inputs
  pub gives : IsKnown (class_of_returns returns) (sort_of_call u site used.unit.number)
