-- Units of a set that have bodies.
use Rattle.std.specs.Prelude.{◌≡◌, ℕ, ◌==◌, List, Some, find, slice_get}
use Rattle.hal_grammar.specs.Leaves.{Naming}
use Rattle.hal_grammar.specs.Declarations.{Declaration}
use Rattle.hal_grammar.specs.Units.{Head}
use Rattle.hal_phrases.specs.Phrases.{Phrase, OfUnit}
use Rattle.hal_meaning.specs.Bodies.{Body}

-- the first of these bodies with this number has this head
pub record HasBody (bodies : List Body) (k : ℕ) (head : Head) : Type 0 where
  pub body : Body
  pub found : find (λ (b : Body). b.number == k) bodies ≡ Some body
  pub same : body.head ≡ head
  pub number : body.number ≡ k

-- the phrase with this number is that of the unit that has this body
pub record IsUnitOf (ps : List Phrase) (k : ℕ) (b : Body) : Type 0 where
  pub phrase : Phrase
  pub there : slice_get ps k ≡ Some phrase
  pub name : Naming
  pub declarations : List Declaration
  pub declares : phrase.node ≡ OfUnit name b.head declarations
  pub number : b.number ≡ k
