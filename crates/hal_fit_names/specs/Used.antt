-- What is left to be known of the names of a set, and of a unit.
use Rattle.std.specs.Prelude.{◌≡◌, ℕ, true, false, List, [], ◌∷◌, Some}
use Rattle.hal_grammar.specs.Leaves.{Naming}
use Rattle.hal_grammar.specs.Declarations.{Attribute, Declared}
use Rattle.hal_grammar.specs.Expressions.{NoExpressions}
use Rattle.hal_phrases.specs.Phrases.{Phrase, OfItem}
use Rattle.hal_scope.specs.Rules.{IsAmong}
use Rattle.hal_kinds.specs.Attributes.{sizes_of}
use Rattle.hal_values.specs.declared.value.Value.{Value}
use Rattle.hal_constants.specs.Naming.{is_value_item, value_at}
use Rattle.hal_shapes.specs.Arguments.{parameter_of}
use Rattle.hal_meaning.specs.Bodies.{Body}
use Rattle.hal_meaning.specs.Calls.{is_function, zero_of}
use Rattle.hal_meaning.specs.Sets.{Set, body_at}
use Rattle.hal_code.specs.Controlling as machine
use Rattle.hal_agreement.specs.Sites.{Site}
use Rattle.hal_fitting.specs.Fitting.{Ground}

-- the unit with this number declares a parameter of this name as data, not as a constant; an array has a size
pub record IsDeclaredParameter (ps : List Phrase) (unit : ℕ) (name : Naming) : Type 0 where
  pub phrase : Phrase
  pub found : parameter_of ps unit name ≡ Some phrase
  pub common : List Attribute
  pub item : Declared
  pub declares : phrase.node ≡ OfItem common item
  pub dimensioned : sizes_of common item ≡ Some NoExpressions → ⊥
  pub stored : is_value_item common item ≡ false

-- no list of sizes is empty, as it is with what words spell
abbrev pub HaveSizes : List Phrase → Type 0
HaveSizes ps = (p : Phrase) (common : List Attribute) (item : Declared) → IsAmong p ps → p.node ≡ OfItem common item → sizes_of common item ≡ Some NoExpressions → ⊥

-- parameters of these names
abbrev pub AreDeclaredParameters : List Phrase → ℕ → List Naming → Type 0
AreDeclaredParameters ps unit [] = Unit {0}
AreDeclaredParameters ps unit (name ∷ names) = IsDeclaredParameter ps unit name × AreDeclaredParameters ps unit names

-- constants of a set that are their values have values
abbrev pub HaveValues : Set → Type 0
HaveValues s =
    (p : Phrase) (common : List Attribute) (item : Declared) → IsAmong p s.phrases → p.node ≡ OfItem common item → is_value_item common item ≡ true → (one : Value) × (value_at s.constants p.number ≡ Some one)

-- the site is that of the unit with this number, which gives back what its code does
pub record IsHome (g : Ground) (site : Site) (home : ℕ) : Type 0 where
  pub body : Body
  pub found : body_at site.set home ≡ Some body
  pub unit : site.unit ≡ home
  pub gives : is_function body.head ≡ true → machine.zero_of g.block.result ≡ Some (zero_of body.head)
