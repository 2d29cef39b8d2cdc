-- The unit that a written template of a COMPOOL names is one, where no rule of templates is broken.
use Rattle.std.specs.Prelude.{◌≡◌, ℕ, Bool, true, false, ◌&&◌, List, [], ◌∷◌, Some, slice_get, if◌then◌else◌}
use Rattle.std.specs.List.{list_any}
use Rattle.std.proofs.Common.{refl, sym, ap, subst, ◌∙◌, inl, inr}
use Rattle.std.proofs.lemmas.Bool.{and_parts}
use Rattle.hal_grammar.specs.Leaves.{Naming}
use Rattle.hal_grammar.specs.Declarations.{Declaration}
use Rattle.hal_grammar.specs.Units.{Head, Program, Compool, Task, Procedure, Function, Template, Preface, Include, Templates}
use Rattle.hal_phrases.specs.Phrases.{Phrase, OfFile, OfTemplate, OfUnit}
use Rattle.hal_names.specs.Means.{is_compool_unit, unit_named}
use Rattle.hal_scope.specs.Rules.{IsAmong}
use Rattle.hal_constants.specs.Known.{Known, known}
use Rattle.hal_templates.specs.Giving.{GivesItsUnit, HaveSameHead}
use Rattle.hal_meaning.specs.Bodies.{declares, is_compool_head, pool_of}
use Rattle.hal_right_images.proofs.rows.Told.{HasTemplate, IsTold, IsToldNode}
use Rattle.hal_right_images.specs.views.Placed.{PoolsMatch}

-- the written template of a COMPOOL that gives a name
pub record GivesName (prefaces : List Preface) (name pool : List ℕ) : Type 0 where
  pub template : Template
  pub among : IsAmong (Templates template) prefaces
  pub compool : is_compool_head template.head ≡ true
  pub declares : list_any (declares name) template.declarations ≡ true
  pub named : template.name.name ≡ pool

-- behind another preface
later_gives : (x : Preface) (prefaces : List Preface) (name pool : List ℕ) → GivesName prefaces name pool → GivesName (x ∷ prefaces) name pool
later_gives x prefaces name pool one = record { template = one.template; among = inr one.among; compool = one.compool; declares = one.declares; named = one.named }

-- where one gives the name, it is there
pub name_given : (prefaces : List Preface) (name pool : List ℕ) → pool_of prefaces name ≡ Some pool → GivesName prefaces name pool
name_given [] name pool is = absurd (cc)
name_given (Include place unit ∷ prefaces) name pool is = later_gives (Include place unit) prefaces name pool (name_given prefaces name pool is)
name_given (Templates t ∷ prefaces) name pool is = by (is_compool_head t.head && list_any (declares name) t.declarations) refl is (name_given prefaces name pool) where
  by : (b : Bool) → (is_compool_head t.head && list_any (declares name) t.declarations) ≡ b → (if b then Some t.name.name else pool_of prefaces name) ≡ Some pool
      → (pool_of prefaces name ≡ Some pool → GivesName prefaces name pool) → GivesName (Templates t ∷ prefaces) name pool
  by true found so rest =
      let both = and_parts (is_compool_head t.head) (list_any (declares name) t.declarations) found in
      record { template = t; among = inl refl; compool = both.0; declares = both.1; named = let same : t.name.name ≡ pool = cc in same }
  by false found so rest = later_gives (Templates t) prefaces name pool (rest so)

-- a unit with the head of a COMPOOL's template is one
pub compool_unit : (ps : List Phrase) (vs : Known) (p q : Phrase) (head other : Head) (name : Naming) (declarations : List Declaration) → is_compool_head head ≡ true → HaveSameHead ps vs p head q other
    → is_compool_unit (OfUnit name other declarations) ≡ true
unfolding is_compool_unit
compool_unit ps vs p q (Compool at) (Compool there) name declarations is same = refl
compool_unit ps vs p q (Compool at) (Program there) name declarations is same = absurd same
compool_unit ps vs p q (Compool at) (Task there) name declarations is same = absurd same
compool_unit ps vs p q (Compool at) (Procedure there inputs outputs mode) name declarations is same = absurd same
compool_unit ps vs p q (Compool at) (Function there inputs returns mode) name declarations is same = absurd same
compool_unit ps vs p q (Program at) other name declarations is same = absurd (cc)
compool_unit ps vs p q (Task at) other name declarations is same = absurd (cc)
compool_unit ps vs p q (Procedure at inputs outputs mode) other name declarations is same = absurd (cc)
compool_unit ps vs p q (Function at inputs returns mode) other name declarations is same = absurd (cc)

-- each written template gives what its unit shows
abbrev pub AllGive : List Phrase → Type 0
AllGive ps = (p : Phrase) (name : Naming) (head : Head) (declarations : List Declaration) → IsAmong p ps → p.node ≡ OfTemplate name head declarations → GivesItsUnit ps p name head declarations

module _ (ps : List Phrase) (told : (k : ℕ) (p : Phrase) → slice_get ps k ≡ Some p → IsTold ps p) (gives : AllGive ps) where
  -- a file's written template, which is there
  pub template_held : (f : ℕ) (p : Phrase) (prefaces : List Preface) (unit : Naming) → slice_get ps f ≡ Some p → p.node ≡ OfFile prefaces unit → (template : Template) → IsAmong (Templates template) prefaces → HasTemplate ps p.number template
  template_held f p prefaces unit at is template among = let of_file : IsToldNode ps p (OfFile prefaces unit) = subst (IsToldNode ps p) is (told f p at) in of_file template among

  -- so the unit that it names is a COMPOOL
  pub pools_match : PoolsMatch ps
  pools_match f p prefaces unit name pool u q at is given named there =
      let one = name_given prefaces name pool given in
      let held = template_held f p prefaces unit at is one.template one.among in
      let shown = gives held.phrase one.template.name one.template.head one.template.declarations held.among held.is in
      let number : Some shown.unit.number ≡ Some u = sym shown.is_unit.found ∙ (ap (unit_named ps) one.named ∙ named) in
      let same : shown.unit ≡ q = (let numbers : shown.unit.number ≡ u = cc in let both : Some shown.unit ≡ Some q = sym shown.is_unit.there ∙ (ap (slice_get ps) numbers ∙ there) in cc) in
      ap (λ (x : Phrase). is_compool_unit x.node) (sym same)
      ∙ (ap is_compool_unit shown.is_unit.is ∙ compool_unit ps (known ps) held.phrase shown.unit one.template.head shown.unit_head shown.is_unit.naming shown.unit_declarations one.compool shown.heads)
