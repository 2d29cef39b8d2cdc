-- Where the own places of a declaration lie among those of a process, and what is known of the declaration of a parameter.
use Rattle.std.specs.Prelude.{◌≡◌, ℕ, Bool, true, false, List, [], ◌∷◌, ◌++◌, Some, slice_get}
use Rattle.hal_grammar.specs.Leaves.{Naming}
use Rattle.hal_grammar.specs.Declarations.{Attribute, Declared}
use Rattle.hal_phrases.specs.Phrases.{Phrase, OfItem}
use Rattle.hal_names.specs.declared.key.Space.TheVariants as space
use Rattle.hal_names.specs.Keys.{key, own}
use Rattle.hal_values.specs.declared.value.Kind.{Kind}
use Rattle.hal_meaning.specs.Elements.{kinds_of, shape_of}
use Rattle.hal_meaning.specs.Places.{Place, Storing, storing}
use Rattle.hal_meaning.specs.Sets.{Set}
use Rattle.hal_fit_calls.specs.Each.{Each}

-- a place of another phrase
abbrev pub IsOthers : ℕ → Place → Type 0
IsOthers k one = one.owner ≡ k → ⊥

-- these own places lie among others, and none before them is of the phrase with this number
pub record LiesIn (all : List Place) (k : ℕ) (owned : List Place) : Type 0 where
  pub before : List Place
  pub behind : List Place
  pub is : all ≡ before ++ (owned ++ behind)
  pub apart : Each (IsOthers k) before

-- a list of kinds has one
abbrev pub has_one : List Kind → Bool
has_one [] = false
has_one (k ∷ ks) = true

-- a name is declared in a unit as data that have elements and are stored so
pub record IsStored (s : Set) (unit : ℕ) (name : Naming) (how : Storing) : Type 0 where
  pub number : ℕ
  pub phrase : Phrase
  pub common : List Attribute
  pub item : Declared
  pub found : own s.phrases (key space.Declared unit name.name) ≡ Some number
  pub there : slice_get s.phrases number ≡ Some phrase
  pub node : phrase.node ≡ OfItem common item
  pub home : phrase.around.home ≡ unit
  pub stored_so : storing s.phrases s.constants phrase (OfItem common item) ≡ how
  pub some : has_one (kinds_of (shape_of s.phrases s.constants phrase common item)) ≡ true

-- each of these names is
abbrev pub AreStored : Set → ℕ → List Naming → Storing → Type 0
AreStored s unit [] how = Unit {0}
AreStored s unit (name ∷ names) how = IsStored s unit name how × AreStored s unit names how
