-- What a template gives in its file: what the unit of that name shows.
use Rattle.std.specs.Prelude.{◌≡◌, ◌⊎◌, ⊤, ℕ, true, List, [], ◌∷◌, map, Option, Some}
use Rattle.hal_grammar.specs.Leaves.{Naming}
use Rattle.hal_grammar.specs.Declarations.{Kind, Attribute, Declared, Declaration, Part}
use Rattle.hal_grammar.specs.Units.{Head, Program, Compool, Task, Procedure, Function, Mode, Reentrant, Exclusive, Precision, Returns, NoKind, HasKind, Preface}
use Rattle.hal_phrases.specs.Phrases.{Node, Phrase, OfFile, OfItem, OfStructure, OfUnit}
use Rattle.hal_names.specs.declared.key.Space.TheVariants as space
use Rattle.hal_names.specs.Keys.{key, own}
use Rattle.hal_names.specs.Laws.{IsAt}
use Rattle.hal_names.specs.Means.{shown, unit_named}
use Rattle.hal_scope.specs.Rules.{IsAmong}
use Rattle.hal_kinds.specs.Data.{is_event_type}
use Rattle.hal_constants.specs.Known.{Known, kind_of, known}
use Rattle.hal_templates.specs.Entries.{entries}
use Rattle.hal_templates.specs.Own.{own_entries, template_of}
use Rattle.hal_templates.specs.Heads.{is_compool, is_double, within}
use Rattle.hal_templates.specs.Templates.{home_of}
use Rattle.hal_templates.specs.Agreeing.{Agree, BothOrNeither, HaveSameParts, IsSameData}

-- names in order
abbrev pub spelled : List Naming → List (List ℕ)
spelled names = map (λ (n : Naming). n.name) names

-- the name of data or of a structure template
abbrev pub name_of : Node → List ℕ
name_of (OfItem common item) = item.name.name
name_of (OfStructure name parts) = name.name
name_of other = []

-- both REENTRANT, or both EXCLUSIVE
abbrev pub IsSameMode : Mode → Mode → Type 0
IsSameMode (Reentrant p) (Reentrant q) = ⊤
IsSameMode (Exclusive p) (Exclusive q) = ⊤
IsSameMode one other = ⊥

-- the types of the results of two FUNCTIONs
pub record IsSameResult (ps : List Phrase) (vs : Known) (p : Phrase) (k : Kind) (one : Option Precision) (q : Phrase) (l : Kind) (other : Option Precision) : Type 0 where
  pub event : is_event_type (Some k) ≡ is_event_type (Some l)
  pub template : template_of (Some k) ≡ template_of (Some l)
  pub kind : Agree (kind_of ps vs (within p) (is_double one) k) (kind_of ps vs (within q) (is_double other) l)

abbrev pub HaveSameResult : List Phrase → Known → Phrase → Returns → Phrase → Returns → Type 0
HaveSameResult ps vs p NoKind q NoKind = ⊤
HaveSameResult ps vs p (HasKind k one) q (HasKind l other) = IsSameResult ps vs p k one q l other
HaveSameResult ps vs p one q other = ⊥

-- the head of a template, and that of its unit: units of one kind, with the same parameters in order
abbrev pub HaveSameHead : List Phrase → Known → Phrase → Head → Phrase → Head → Type 0
HaveSameHead ps vs p (Program at) q (Program there) = ⊤
HaveSameHead ps vs p (Compool at) q (Compool there) = ⊤
HaveSameHead ps vs p (Task at) q (Task there) = ⊤
HaveSameHead ps vs p (Procedure at inputs outputs mode) q (Procedure there other_inputs other_outputs other_mode) =
    (spelled inputs ≡ spelled other_inputs) × (spelled outputs ≡ spelled other_outputs) × BothOrNeither IsSameMode mode other_mode
HaveSameHead ps vs p (Function at inputs returns mode) q (Function there other_inputs other_returns other_mode) =
    (spelled inputs ≡ spelled other_inputs) × HaveSameResult ps vs p returns q other_returns × BothOrNeither IsSameMode mode other_mode
HaveSameHead ps vs p one q other = ⊥

-- this phrase is where a block declares a name
pub record IsOwn (ps : List Phrase) (block : ℕ) (name : List ℕ) (p : Phrase) : Type 0 where
  pub found : own ps (key space.Declared block name) ≡ Some p.number
  pub there : IsAt ps p.number p

-- what a template declares in one block, and what its unit declares in another one: what the name means in the one block is the same as what it means in the other
pub data IsSameName (ps : List Phrase) (vs : Known) (h u : ℕ) : Node → Node → Type 0 where
  IsData : (common other_common : List Attribute) (x y : Declared) (p q : Phrase) → x.name.name ≡ y.name.name → IsOwn ps h x.name.name p → p.node ≡ OfItem common x
      → IsOwn ps u y.name.name q → q.node ≡ OfItem other_common y → IsSameData ps vs p common x.attributes q other_common y.attributes → IsSameName ps vs h u (OfItem common x) (OfItem other_common y)
  IsStructure : (name other : Naming) (xs ys : List Part) (p q : Phrase) → name.name ≡ other.name → IsOwn ps h name.name p → p.node ≡ OfStructure name xs
      → IsOwn ps u other.name q → q.node ≡ OfStructure other ys → HaveSameParts ps vs p xs q ys → IsSameName ps vs h u (OfStructure name xs) (OfStructure other ys)

-- the same in order
abbrev pub AreSameNames : List Phrase → Known → ℕ → List Node → ℕ → List Node → Type 0
AreSameNames ps vs h [] u [] = ⊤
AreSameNames ps vs h (x ∷ xs) u (y ∷ ys) = IsSameName ps vs h u x y × AreSameNames ps vs h xs u ys
AreSameNames ps vs h xs u ys = ⊥

-- the unit of this name in the set is this phrase, with this head and these declarations: it stands in the one file whose unit is named so
pub record IsUnit (ps : List Phrase) (name : List ℕ) (unit : Phrase) (head : Head) (declarations : List Declaration) : Type 0 where
  pub file : ℕ
  pub in_file : own ps (key space.Unit 0 name) ≡ Some file
  pub alone : (f : Phrase) (prefaces : List Preface) (n : Naming) → IsAmong f ps → f.node ≡ OfFile prefaces n → n.name ≡ name → f.number ≡ file
  pub at : unit.around.home ≡ file
  pub found : unit_named ps name ≡ Some unit.number
  pub there : IsAt ps unit.number unit
  pub naming : Naming
  pub named : naming.name ≡ name
  pub is : unit.node ≡ OfUnit naming head declarations

-- a template that is written out: its unit is in the set, and has the same head; the template's name means the template in its file; and the names that it declares are those of the unit's own
-- template, each meaning the same
pub record GivesItsUnit (ps : List Phrase) (p : Phrase) (name : Naming) (head : Head) (declarations : List Declaration) : Type 0 where
  pub unit : Phrase
  pub unit_head : Head
  pub unit_declarations : List Declaration
  pub is_unit : IsUnit ps name.name unit unit_head unit_declarations
  pub itself : IsOwn ps p.around.home name.name p
  pub heads : HaveSameHead ps (known ps) p head unit unit_head
  pub names : map name_of (entries declarations) ≡ map name_of (own_entries ps unit.number unit_head unit_declarations)
  pub meanings : AreSameNames ps (known ps) (home_of p head) (entries declarations) unit.number (own_entries ps unit.number unit_head unit_declarations)

-- INCLUDE of a template: its unit is in the set; its name means the unit, and each name that a COMPOOL declares means that declaration; no other name means anything by it
pub record IncludesItsUnit (ps : List Phrase) (name : Naming) : Type 0 where
  pub unit : Phrase
  pub head : Head
  pub declarations : List Declaration
  pub is_unit : IsUnit ps name.name unit head declarations
  pub itself : shown ps name.name name.name ≡ Some unit.number
  pub all : (x : Node) → is_compool head ≡ true → IsAmong x (entries declarations) → (r : Phrase) × (shown ps name.name (name_of x) ≡ Some r.number) × IsOwn ps unit.number (name_of x) r × (r.node ≡ x)
  pub only : (other : List ℕ) (k : ℕ) → shown ps name.name other ≡ Some k
      → ((other ≡ name.name) × (k ≡ unit.number)) ⊎ ((is_compool head ≡ true) × (own ps (key space.Declared unit.number other) ≡ Some k))
