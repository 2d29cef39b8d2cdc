-- The phrases of a set of files: what each is, its number, and what stands around it.
use Rattle.std.specs.Prelude.{◌++◌, ℕ, Bool, List, [], ◌∷◌, length, Option, None, Some}
use Rattle.hal_base.specs.declared.refusal.Place.{Place}
use Rattle.hal_grammar.specs.Leaves.{Naming}
use Rattle.hal_grammar.specs.Expressions.{Expression, Expressions, Reference}
use Rattle.hal_grammar.specs.Declarations.{Initial, Attribute, Declared, Part, Declaration}
use Rattle.hal_grammar.specs.Statements.{Selector, Eventful}
use Rattle.hal_grammar.specs.Units.{Head, Preface}
use Rattle.hal_phrases.specs.declared.around.Around.{Around}
use Rattle.hal_phrases.specs.declared.role.Role.{Role}

-- what a phrase is
pub data Node : Type 0 where
  OfFile : (prefaces : List Preface) (name : Naming) → Node
  OfInclude : (name : Naming) → Node
  OfTemplate : (name : Naming) (head : Head) (declarations : List Declaration) → Node
  OfUnit : (name : Naming) (head : Head) (declarations : List Declaration) → Node
  OfParameter : (name : Naming) (output : Bool) → Node
  OfClose : (name : Naming) → Node
  OfDeclare : (common : List Attribute) → Node
  OfItem : (common : List Attribute) (item : Declared) → Node
  OfStructure : (name : Naming) (parts : List Part) → Node
  OfPart : (bottom : Bool) (part : Part) → Node
  OfStructureType : (place : Place) (template : List ℕ) → Node
  OfInitial : (initial : Initial) → Node
  OfInitialName : (name : Naming) → Node
  OfLabel : (name : Naming) → Node
  OfExpression : (role : Role) (tree : Expression) → Node
  OfDecimal : (role : Role) (place : Place) → Node
  OfCallForm : (place : Place) (name : List ℕ) (arguments : Expressions) → Node
  OfReference : (role : Role) (reference : Reference) → Node
  OfSubscriptName : (name : Naming) → Node
  OfAssignment : (receivers : List Reference) (value : Expression) → Node
  OfGroup : (labels : List Naming) (looping : Bool) → Node
  OfTemporaryGroup : (labels : List Naming) (variable : Naming) → Node
  OfVariable : (name : Naming) → Node
  OfExit OfRepeat : (place : Place) (label : Option Naming) → Node
  OfReturn : (place : Place) (value : Option Expression) → Node
  OfCall : (name : Naming) (arguments : Expressions) (receivers : List Reference) → Node
  OfRead OfWrite : (place : Place) → Node
  OfUpdate : (place : Place) (labels : List Naming) → Node
  OfRealTime : (place : Place) → Node
  OfProcess : (name : Naming) → Node
  OfEvent : (event : Eventful) → Node
  OfHandler OfResponse OfOffError : (place : Place) (selector : Selector) → Node
  OfSendError : (group_at : Place) (group : ℕ) (number_at : Place) (number : ℕ) → Node

-- a phrase; its number is its place in the list of phrases, from 0
pub record Phrase : Type 0 where
  pub number : ℕ
  pub around : Around
  pub node : Node

-- the phrase with this number, around and node
abbrev pub phrase : ℕ → Around → Node → Phrase
phrase k a n = record { number = k; around = a; node = n }

-- the phrases so far and one more
abbrev pub add : List Phrase → Around → Node → List Phrase
add d a n = d ++ (phrase (length d) a n ∷ [])

-- the phrases so far and those that a step adds for each member of a list
abbrev pub gathered_each : {X : Type 0} → (List Phrase → X → List Phrase) → List Phrase → List X → List Phrase
gathered_each step d [] = d
gathered_each step d (x ∷ xs) = gathered_each step (step d x) xs

-- the same for what may be there
abbrev pub gathered_any : {X : Type 0} → (List Phrase → X → List Phrase) → List Phrase → Option X → List Phrase
gathered_any step d None = d
gathered_any step d (Some x) = step d x
