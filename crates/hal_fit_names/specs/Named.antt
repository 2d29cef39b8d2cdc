-- What is left to be known of what a name means, besides that no rule is broken.
use Rattle.std.specs.Prelude.{◌≡◌, ◌⊎◌, ℕ, true, List, Option, Some, slice_get}
use Rattle.hal_base.specs.declared.refusal.Place.{Place}
use Rattle.hal_grammar.specs.Leaves.{Naming}
use Rattle.hal_grammar.specs.Declarations.{Attribute, Declared, Declaration}
use Rattle.hal_grammar.specs.Units.{Head, Procedure, Function, Returns, Mode}
use Rattle.hal_phrases.specs.Phrases.{Phrase, OfTemplate, OfUnit, OfItem}
use Rattle.hal_names.specs.Means.{means}
use Rattle.hal_values.specs.declared.value.Value.{Value}
use Rattle.hal_constants.specs.Naming.{is_value_item, value_at}
use Rattle.hal_meaning.specs.Bodies.{is_process_head}
use Rattle.hal_agreement.specs.Sites.{Site}
use Rattle.hal_fit_expr.specs.Uses.{Uses}
use Rattle.hal_fit_rules.specs.Happening.{StandsForProcess}
use Rattle.hal_fit_rules.specs.Owned.{IsFunction}
use Rattle.hal_fit_rules.specs.Passing.{AreParameters, IsProcedure}
use Rattle.hal_fit_names.specs.Called.{StandsForFunction, StandsForUsed}
use Rattle.hal_fit_names.specs.Standing.{StandsForData, StandsForItself}

-- a template of a process that it means stands for the process, and data for those of a COMPOOL, or for themselves; and it has a value where it
-- means a constant that is its value, which is that of the COMPOOL's constant
pub record AreLeft (site : Site) (name : List ℕ) : Type 0 where
  pub standing : (k : ℕ) (p : Phrase) (template : Naming) (head : Head) (declarations : List Declaration) → means site.set.phrases site.block name ≡ Some k → slice_get site.set.phrases k ≡ Some p
      → p.node ≡ OfTemplate template head declarations → is_process_head head ≡ true → StandsForProcess site.set.phrases k
  pub pooled : (k : ℕ) (p : Phrase) (common : List Attribute) (item : Declared) → means site.set.phrases site.block name ≡ Some k → slice_get site.set.phrases k ≡ Some p → p.node ≡ OfItem common item
      → StandsForData site.set.phrases k p common item ⊎ StandsForItself site.set.phrases k p common item
  pub valued : (k : ℕ) (p : Phrase) (common : List Attribute) (item : Declared) → means site.set.phrases site.block name ≡ Some k → slice_get site.set.phrases k ≡ Some p → p.node ≡ OfItem common item
      → is_value_item common item ≡ true → (v : Value) × (value_at site.set.constants p.number ≡ Some v)
  pub same : (k : ℕ) (p : Phrase) (common : List Attribute) (item : Declared) → means site.set.phrases site.block name ≡ Some k → slice_get site.set.phrases k ≡ Some p → p.node ≡ OfItem common item
      → is_value_item common item ≡ true → (stands : StandsForData site.set.phrases k p common item) → value_at site.set.constants stands.phrase.number ≡ value_at site.set.constants p.number

-- a FUNCTION that it means may be called, or its written template stands for one
pub record AreFunctions (u : Uses) (site : Site) (name : List ℕ) : Type 0 where
  pub itself : (k : ℕ) (p : Phrase) (unit : Naming) (place : Place) (inputs : List Naming) (returns : Returns) (mode : Option Mode) (declarations : List Declaration) → means site.set.phrases site.block name ≡ Some k
      → slice_get site.set.phrases k ≡ Some p → p.node ≡ OfUnit unit (Function place inputs returns mode) declarations → IsFunction u site p
  pub written : (k : ℕ) (p : Phrase) (template : Naming) (place : Place) (inputs : List Naming) (returns : Returns) (mode : Option Mode) (declarations : List Declaration) → means site.set.phrases site.block name ≡ Some k
      → slice_get site.set.phrases k ≡ Some p → p.node ≡ OfTemplate template (Function place inputs returns mode) declarations → StandsForFunction u site k inputs returns

-- a FUNCTION that it means has parameters that are known
abbrev pub FunctionParameters : Uses → Site → List ℕ → Type 0
FunctionParameters u site name =
    (k : ℕ) (p : Phrase) → means site.set.phrases site.block name ≡ Some k → slice_get site.set.phrases k ≡ Some p → (is : IsFunction u site p) → AreParameters site p.number is.inputs

-- and a PROCEDURE that it means may be called and has such parameters, or its written template stands for one
pub record AreProcedures (u : Uses) (site : Site) (name : List ℕ) : Type 0 where
  pub itself : (k : ℕ) (p : Phrase) (unit : Naming) (place : Place) (inputs outputs : List Naming) (mode : Option Mode) (declarations : List Declaration) → means site.set.phrases site.block name ≡ Some k
      → slice_get site.set.phrases k ≡ Some p → p.node ≡ OfUnit unit (Procedure place inputs outputs mode) declarations → IsProcedure u site p
  pub written : (k : ℕ) (p : Phrase) (template : Naming) (place : Place) (inputs outputs : List Naming) (mode : Option Mode) (declarations : List Declaration) → means site.set.phrases site.block name ≡ Some k
      → slice_get site.set.phrases k ≡ Some p → p.node ≡ OfTemplate template (Procedure place inputs outputs mode) declarations → StandsForUsed u site k inputs
