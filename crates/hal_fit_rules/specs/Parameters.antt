-- Parameters that are for the meaning what they are for the checks.
use Rattle.std.specs.Prelude.{◌≡◌, ℕ, List, [], ◌∷◌, map, Some}
use Rattle.hal_grammar.specs.Leaves.{Naming}
use Rattle.hal_grammar.specs.Declarations.{Kind, Attribute, Declared}
use Rattle.hal_phrases.specs.Phrases.{Phrase, OfItem}
use Rattle.hal_scope.specs.Sorts.{type_of}
use Rattle.hal_kinds.specs.Data.{class_of_type}
use Rattle.hal_shapes.specs.Arguments.{parameter_of}
use Rattle.hal_shapes.specs.Arguments as arguments
use Rattle.hal_meaning.specs.Calls.{parameter_named}
use Rattle.hal_meaning.specs.Variables.{kind_of_first, is_whole}
use Rattle.hal_code.specs.Sorts.{Sort, sort_of}
use Rattle.hal_agreement.specs.Sites.{Site}
use Rattle.hal_fit_classes.specs.Kinded.{sort_of_class}

-- names in order, wherever they stand
abbrev pub spelled : List Naming → List (List ℕ)
spelled names = map (λ (n : Naming). n.name) names

-- an input parameter of this name that the block with the first number declares, and the unit with the second one has: it is an array or a structure for both, or a
-- single value of the same sort
pub record ParameterAgrees (site : Site) (ps : List Phrase) (block unit : ℕ) (name : Naming) : Type 0 where
  pub phrase : Phrase
  pub found : parameter_of ps block name ≡ Some phrase
  pub common : List Attribute
  pub item : Declared
  pub declares : phrase.node ≡ OfItem common item
  pub kind : Kind
  pub typed : type_of common item ≡ Some kind
  pub whole : is_whole (parameter_named site.set unit name).shape ≡ arguments.is_whole common item kind
  pub sorted : (s : Sort) → sort_of_class (class_of_type kind) ≡ Some s → sort_of (kind_of_first (parameter_named site.set unit name).shape.components) ≡ s

-- those with these names
abbrev pub ParametersAgree : Site → List Phrase → ℕ → ℕ → List Naming → Type 0
ParametersAgree site ps block unit [] = Unit {0}
ParametersAgree site ps block unit (name ∷ names) = ParameterAgrees site ps block unit name × ParametersAgree site ps block unit names
