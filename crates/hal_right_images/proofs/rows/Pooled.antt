-- A unit that isn't called has no parameters.
use Rattle.std.specs.Prelude.{◌≡◌, ℕ, Bool, true, false, List, Option, Some, None, slice_get}
use Rattle.std.specs.Option.{option_and_then}
use Rattle.std.proofs.Common.{refl, sym, ap, subst, ◌∙◌}
use Rattle.hal_base.specs.declared.refusal.Place.{Place}
use Rattle.hal_grammar.specs.Leaves.{Naming}
use Rattle.hal_grammar.specs.Declarations.{Declaration}
use Rattle.hal_grammar.specs.Units.{Head, Program, Compool, Task, Procedure, Function, File}
use Rattle.hal_phrases.specs.Phrases.{Node, Phrase, OfUnit, OfParameter}
use Rattle.hal_phrases.specs.GatheredUnits.{phrases_of}
use Rattle.hal_names.specs.declared.key.Key.{Key}
use Rattle.hal_names.specs.declared.key.Space.TheVariants as space
use Rattle.hal_names.specs.Keys.{key, declared_at, own}
use Rattle.hal_names.specs.Means.{is_compool_unit}
use Rattle.hal_scope.specs.Rules.{IsAmong, IsSound, rows}
use Rattle.hal_meaning.specs.Bodies.{is_called, is_called_head, is_unit}
use Rattle.hal_meaning.specs.Places.{parameter, parameter_at}
use Rattle.hal_right_images.proofs.rows.LookingUp.{LooksUp}
use Rattle.hal_right_images.proofs.rows.Stored.{told_at}
use Rattle.hal_right_images.proofs.rows.Told.{head_in, names_of, IsToldNode, ListedBy}

-- the unit of a COMPOOL
pub record IsPool (node : Node) : Type 0 where
  pub name : Naming
  pub place : Place
  pub declarations : List Declaration
  pub is : node ≡ OfUnit name (Compool place) declarations

pub pool_of : (node : Node) → is_compool_unit node ≡ true → IsPool node
unfolding is_compool_unit
pool_of (OfUnit name (Compool place) declarations) is = record { name = name; place = place; declarations = declarations; is = refl }
pool_of other is = absurd (cc)

parameter_node : (node : Node) (output : Bool) → parameter_at node ≡ Some output → (name : Naming) × (node ≡ OfParameter name output)
parameter_node (OfParameter name own_output) output is = (name, ap (OfParameter name) (let same : own_output ≡ output = cc in same))
parameter_node other output is = absurd (cc)

-- the head of a unit that isn't called names no parameters
no_names : (head : Head) (output : Bool) (name : Naming) → is_called_head head ≡ false → IsAmong name (names_of head output) → ⊥
no_names (Program place) true name bare within = absurd within
no_names (Program place) false name bare within = absurd within
no_names (Compool place) true name bare within = absurd within
no_names (Compool place) false name bare within = absurd within
no_names (Task place) true name bare within = absurd within
no_names (Task place) false name bare within = absurd within
no_names (Procedure place inputs outputs mode) output name bare within = absurd (cc)
no_names (Function place inputs returns mode) output name bare within = absurd (cc)

bare_head : (node : Node) (head : Head) → is_unit node ≡ true → is_called node ≡ false → head_in node ≡ Some head → is_called_head head ≡ false
bare_head (OfUnit name own_head declarations) head unit bare is = let same : own_head ≡ head = cc in subst (λ (h : Head). is_called_head h ≡ false) same bare
bare_head other head unit bare is = absurd (cc)

module _ (files : List File) (looks : LooksUp (phrases_of files)) (sound : IsSound rows (phrases_of files)) where
  abbrev ps : List Phrase
  ps = phrases_of files

  pub no_parameter : (home : ℕ) (q : Phrase) → slice_get ps home ≡ Some q → is_unit q.node ≡ true → is_called q.node ≡ false → (name : List ℕ) (output : Bool) → parameter ps home name ≡ Some output → ⊥
  unfolding declared_at
  no_parameter home q at_home unit bare name output is = by (own ps (key space.Parameter home name)) refl is where
    listed_there : (r : Phrase) (n : Naming) → r.around.home ≡ home → ListedBy ps r.around.home n output → ⊥
    listed_there r n inner listed =
        let same : listed.phrase ≡ q = (let there = listed.there in let moved = ap (slice_get ps) inner in cc) in
        let its : head_in q.node ≡ Some listed.head = ap (λ (x : Phrase). head_in x.node) (sym same) ∙ listed.is in
        no_names listed.head output n (bare_head q.node listed.head unit bare its) listed.listed

    found_there : (number : ℕ) → own ps (key space.Parameter home name) ≡ Some number → (o : Option Phrase) → slice_get ps number ≡ o → option_and_then (λ (p : Phrase). parameter_at p.node) o ≡ Some output → ⊥
    found_there number found None there so = absurd (cc)
    found_there number found (Some p) there so =
        let node = parameter_node p.node output so in
        let first = looks.found (key space.Parameter home name) number found in
        let here = first.there in
        let one : first.declaring ≡ p = cc in
        let keyed : Some (key space.Parameter p.around.home node.0.name) ≡ Some (key space.Parameter home name) =
        sym (ap (declared_at p.number p.around) node.1) ∙ (sym (ap (λ (x : Phrase). declared_at x.number x.around x.node) one) ∙ first.declares) in
        let inner : key space.Parameter p.around.home node.0.name ≡ key space.Parameter home name = cc in
        listed_there p node.0 (ap (λ (k : Key). k.owner) inner) (subst (IsToldNode ps p) node.1 (told_at files looks sound number p there))

    by : (o : Option ℕ) → own ps (key space.Parameter home name) ≡ o → option_and_then (λ (p : Phrase). parameter_at p.node) (option_and_then (slice_get ps) o) ≡ Some output → ⊥
    by None found so = absurd (cc)
    by (Some number) found so = found_there number found (slice_get ps number) refl so
