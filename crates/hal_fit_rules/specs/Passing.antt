-- Parameters and blocks that a set declares, as far as calls of them go.
use Rattle.std.specs.Prelude.{◌≡◌, ℕ, true, false, List, [], ◌∷◌, ◌++◌, Option, Some}
use Rattle.hal_base.specs.declared.refusal.Place.{Place}
use Rattle.hal_grammar.specs.Leaves.{Naming}
use Rattle.hal_grammar.specs.Declarations.{Kind, Double, Attribute, Declared, Declaration}
use Rattle.hal_grammar.specs.Expressions.{NoExpressions}
use Rattle.hal_grammar.specs.Units.{Procedure, Mode}
use Rattle.hal_phrases.specs.Phrases.{Phrase, OfItem, OfUnit}
use Rattle.hal_scope.specs.Sorts.{type_of}
use Rattle.hal_kinds.specs.Attributes.{has_mark, sizes_of}
use Rattle.hal_kinds.specs.Data.{is_structure_type}
use Rattle.hal_values.specs.declared.value.Kind as values
use Rattle.hal_constants.specs.Known.{kind_of_type}
use Rattle.hal_shapes.specs.Arguments.{parameter_of}
use Rattle.hal_meaning.specs.Bodies.{Body}
use Rattle.hal_meaning.specs.Sets.{body_at}
use Rattle.hal_agreement.specs.Sites.{Site}
use Rattle.hal_fit_expr.specs.Uses.{Uses}

-- the unit with this number declares a parameter of this name: a structure, or data of which the length of the type is known; an array has a size
pub record IsParameter (site : Site) (unit : ℕ) (name : Naming) : Type 0 where
  pub phrase : Phrase
  pub found : parameter_of site.set.phrases unit name ≡ Some phrase
  pub common : List Attribute
  pub item : Declared
  pub declares : phrase.node ≡ OfItem common item
  pub kind : Kind
  pub typed : type_of common item ≡ Some kind
  pub dimensioned : sizes_of common item ≡ Some NoExpressions → ⊥
  pub cells : is_structure_type (Some kind) ≡ false
      → (one : values.Kind) × (kind_of_type site.set.phrases site.set.constants phrase (has_mark Double (item.attributes ++ common)) (Some kind) ≡ Some one)

-- parameters of these names
abbrev pub AreParameters : Site → ℕ → List Naming → Type 0
AreParameters site unit [] = Unit {0}
AreParameters site unit (name ∷ names) = IsParameter site unit name × AreParameters site unit names

-- a phrase declares a PROCEDURE of the set that may be called here
pub record IsProcedure (u : Uses) (site : Site) (phrase : Phrase) : Type 0 where
  pub name : Naming
  pub place : Place
  pub inputs : List Naming
  pub outputs : List Naming
  pub mode : Option Mode
  pub declarations : List Declaration
  pub declares : phrase.node ≡ OfUnit name (Procedure place inputs outputs mode) declarations
  pub body : Body
  pub unit : body_at site.set phrase.number ≡ Some body
  pub head : body.head ≡ Procedure place inputs outputs mode
  pub calls : u.calls phrase.number ≡ true
  pub parameters : AreParameters site phrase.number inputs
