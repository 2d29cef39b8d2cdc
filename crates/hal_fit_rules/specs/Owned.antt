-- Data that a name means and that are declared in the unit itself, so that they stand for nothing else.
use Rattle.std.specs.Prelude.{◌≡◌, ℕ, false, List, ◌++◌, Some, slice_get, Bool, true, Option, None}
use Rattle.hal_base.specs.declared.refusal.Place.{Place}
use Rattle.hal_grammar.specs.Leaves.{Naming}
use Rattle.hal_grammar.specs.Declarations.{Kind, Double, Attribute, Declared, Declaration}
use Rattle.hal_grammar.specs.Units.{Function, Returns, Mode}
use Rattle.hal_phrases.specs.Phrases.{Phrase, OfUnit, OfItem, OfTemporaryGroup}
use Rattle.hal_names.specs.Means.{means}
use Rattle.hal_scope.specs.declared.builtin.Builtin.{Builtin}
use Rattle.hal_scope.specs.declared.builtin.Builtin.TheVariants as builtin
use Rattle.hal_scope.specs.declared.builtin.Form.TheVariants as form
use Rattle.hal_scope.specs.Builtins.{builtin_named, form_of}
use Rattle.hal_scope.specs.Sorts.{type_of}
use Rattle.hal_kinds.specs.declared.class.Class.{Class}
use Rattle.hal_kinds.specs.declared.class.Class.TheVariants as class
use Rattle.hal_kinds.specs.declared.data.Data.{Data}
use Rattle.hal_kinds.specs.Classes.{class_of_returns}
use Rattle.hal_kinds.specs.Attributes.{has_mark}
use Rattle.hal_kinds.specs.Data.{data_at, is_event_type, is_structure_type}
use Rattle.hal_values.specs.declared.value.Kind as values
use Rattle.hal_constants.specs.Known.{kind_of_type}
use Rattle.hal_constants.specs.Naming.{is_value_item}
use Rattle.hal_meaning.specs.Bodies.{Body, standing_for}
use Rattle.hal_meaning.specs.Sets.{body_at}
use Rattle.hal_agreement.specs.Sites.{Site}
use Rattle.hal_fit_expr.specs.Uses.{Uses}

-- a phrase declares what this name means here, and stands for itself
pub record IsOwn (site : Site) (name : List ℕ) : Type 0 where
  pub number : ℕ
  pub meant : means site.set.phrases site.block name ≡ Some number
  pub phrase : Phrase
  pub there : slice_get site.set.phrases number ≡ Some phrase
  pub own : standing_for site.set.phrases number ≡ number

-- it declares data that are no event, no structure and no constant that is its value, and the length of their type is known
pub record IsPlainData (site : Site) (phrase : Phrase) : Type 0 where
  pub common : List Attribute
  pub item : Declared
  pub declares : phrase.node ≡ OfItem common item
  pub kind : Kind
  pub typed : type_of common item ≡ Some kind
  pub eventless : is_event_type (Some kind) ≡ false
  pub unstructured : is_structure_type (Some kind) ≡ false
  pub stored : is_value_item common item ≡ false
  pub cells : values.Kind
  pub sized : kind_of_type site.set.phrases site.set.constants phrase (has_mark Double (item.attributes ++ common)) (Some kind) ≡ Some cells

-- it declares the variable of a DO FOR
pub record IsTemporary (phrase : Phrase) : Type 0 where
  pub labels : List Naming
  pub variable : Naming
  pub declares : phrase.node ≡ OfTemporaryGroup labels variable

-- whether a built-in function asks what the clock is
abbrev pub is_asking : Builtin → Bool
is_asking builtin.Runtime = true
is_asking other = false

-- no phrase declares this name, which is that of a built-in function without a list, and nothing is asked where that may not be
pub record IsBuiltinName (u : Uses) (site : Site) (name : List ℕ) : Type 0 where
  pub undeclared : means site.set.phrases site.block name ≡ None
  pub function : Builtin
  pub named : builtin_named name ≡ Some function
  pub alone : form_of function ≡ form.Alone
  pub asked : is_asking function ≡ true → u.asks ≡ true

-- it declares a FUNCTION of the set that may be called here, which gives a value
pub record IsFunction (u : Uses) (site : Site) (phrase : Phrase) : Type 0 where
  pub name : Naming
  pub place : Place
  pub inputs : List Naming
  pub returns : Returns
  pub mode : Option Mode
  pub declarations : List Declaration
  pub declares : phrase.node ≡ OfUnit name (Function place inputs returns mode) declarations
  pub result : Class
  pub gives : class_of_returns returns ≡ Some result
  pub body : Body
  pub unit : body_at site.set phrase.number ≡ Some body
  pub head : body.head ≡ Function place inputs returns mode
  pub calls : u.calls phrase.number ≡ true

-- it declares a structure, and what stands at the end of a path is one
pub record IsStructureData (site : Site) (phrase : Phrase) (path : List Naming) : Type 0 where
  pub common : List Attribute
  pub item : Declared
  pub declares : phrase.node ≡ OfItem common item
  pub kind : Kind
  pub typed : type_of common item ≡ Some kind
  pub structured : is_structure_type (Some kind) ≡ true
  pub declared : Data
  pub known : data_at site.set.phrases phrase path (OfItem common item) ≡ Some declared
  pub whole : declared.class ≡ class.Structure
