-- RETURN with a value, which is for the meaning what it is for the checks.
use Rattle.std.specs.Prelude.{◌≡◌, ℕ, true, List, Some, slice_get}
use Rattle.hal_grammar.specs.Leaves.{Naming}
use Rattle.hal_grammar.specs.Declarations.{Declaration}
use Rattle.hal_grammar.specs.Units.{Head}
use Rattle.hal_phrases.specs.Phrases.{Phrase, OfUnit}
use Rattle.hal_meaning.specs.Bodies.{Body}
use Rattle.hal_meaning.specs.Calls.{is_function, zero_of}
use Rattle.hal_meaning.specs.Sets.{body_at}
use Rattle.hal_code.specs.declared.row.Block.{Block}
use Rattle.hal_code.specs.Controlling as machine
use Rattle.hal_agreement.specs.Sites.{Site}

-- the unit with this number has the head of the body that the statement stands in, and where that is a FUNCTION the code's block gives a value of its type
pub record UnitAgrees (block : Block) (site : Site) (ps : List Phrase) (home : ℕ) : Type 0 where
  pub phrase : Phrase
  pub there : slice_get ps home ≡ Some phrase
  pub name : Naming
  pub head : Head
  pub declarations : List Declaration
  pub declares : phrase.node ≡ OfUnit name head declarations
  pub body : Body
  pub found : body_at site.set site.unit ≡ Some body
  pub same : body.head ≡ head
  pub gives : is_function head ≡ true → machine.zero_of block.result ≡ Some (zero_of head)
