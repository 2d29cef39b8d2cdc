-- Where the references stand that are arguments of a call.
use Rattle.std.specs.Prelude.{◌≡◌, List, [], ◌∷◌, length}
use Rattle.hal_grammar.specs.Declarations.{Attribute, Declared}
use Rattle.hal_grammar.specs.Expressions.{Expression, Referred, Expressions, NoExpressions, MoreExpressions, Reference}
use Rattle.hal_phrases.specs.declared.around.Around.{Around}
use Rattle.hal_phrases.specs.declared.role.Role.{Role}
use Rattle.hal_phrases.specs.declared.role.Role.TheVariants as roles
use Rattle.hal_phrases.specs.Phrases.{Node, Phrase, OfReference, OfCallForm, OfCall, OfItem}
use Rattle.hal_phrases.specs.GatheredExpressions.{gathered_reference}
use Rattle.hal_scope.specs.Rules.{IsAmong}
use Rattle.hal_fit_rules.specs.Begun.{AreFirst}

-- each item among phrases stands among the first ones of them
pub record ItemsStand (until d : List Phrase) : Type 0 where
  pub starts : AreFirst until d
  pub items : (r : Phrase) (common : List Attribute) (item : Declared) → IsAmong r d → r.node ≡ OfItem common item → IsAmong r until

-- a reference in this role stands in the block of a phrase, and no item stands between that phrase and the end of the reference
pub record SaysReference (ps : List Phrase) (p : Phrase) (role : Role) (given : Reference) : Type 0 where
  pub phrase : Phrase
  pub among : IsAmong phrase ps
  pub home : phrase.around.home ≡ p.around.home
  pub block : phrase.around.block ≡ p.around.block
  pub is : phrase.node ≡ OfReference role given
  pub before : List Phrase
  pub around : Around
  pub begun : AreFirst (gathered_reference before around role given) ps
  pub number : phrase.number ≡ length before
  pub inside : around.block ≡ p.around.block
  pub until : List Phrase
  pub called : length until ≡ p.number
  pub beside : ItemsStand until (gathered_reference before around role given)

-- an argument that is a reference does
abbrev pub SaysTree : List Phrase → Phrase → Expression → Type 0
SaysTree ps p (Referred given) = (role : Role) × SaysReference ps p role given
SaysTree ps p other = Unit {0}

abbrev pub SaysTrees : List Phrase → Phrase → Expressions → Type 0
SaysTrees ps p NoExpressions = Unit {0}
SaysTrees ps p (MoreExpressions first others) = SaysTree ps p first × SaysTrees ps p others

-- ASSIGN arguments do, as such
abbrev pub SaysOutputs : List Phrase → Phrase → List Reference → Type 0
SaysOutputs ps p [] = Unit {0}
SaysOutputs ps p (first ∷ others) = SaysReference ps p roles.Output first × SaysOutputs ps p others

-- the arguments of a call do
abbrev pub SaysArguments : List Phrase → Phrase → Node → Type 0
SaysArguments ps p (OfCallForm place name arguments) = SaysTrees ps p arguments
SaysArguments ps p (OfCall name arguments receivers) = SaysTrees ps p arguments × SaysOutputs ps p receivers
SaysArguments ps p other = Unit {0}

abbrev pub IsSaid : List Phrase → Phrase → Type 0
IsSaid ps p = SaysArguments ps p p.node
