-- What a template gives is what its unit shows.
use Rattle.std.proofs.Common.{◌≡◌, ◌∙◌, ◌⊎◌, inl, inr, ℕ, Bool, true, false, not, ◌&&◌, List, [], ◌∷◌, ◌++◌, map, filter, Option, Some, None, slice_get, option_and_then, if◌then◌else◌, refl, sym, ap, ap₂, subst, eqb-true, bytes_eq}
use Rattle.std.proofs.lemmas.Bool.{and_parts, or_parts, false≢true}
use Rattle.std.proofs.lemmas.Slice.Eq.{bytes_eq-Decides}
use Rattle.std.specs.List.{list_any}
use Rattle.std.specs.Option.{is_some}
use Rattle.hal_grammar.specs.Leaves.{Naming}
use Rattle.hal_grammar.specs.Declarations.{Attribute, Declared, Declaration, Declare, Structure, Part}
use Rattle.hal_grammar.specs.Units.{File, Head, Program, Compool, Task, Procedure, Function, Preface}
use Rattle.hal_phrases.specs.Phrases.{Node, Phrase, OfFile, OfInclude, OfItem, OfStructure, OfTemplate, OfUnit}
use Rattle.hal_phrases.specs.GatheredUnits.{phrases_of}
use Rattle.hal_names.specs.declared.key.Space.TheVariants as space
use Rattle.hal_names.specs.Keys.{key, declared_at, own}
use Rattle.hal_names.specs.Means.{given_by, is_compool_unit, shown, unit_named}
use Rattle.hal_names.proofs.CountedFiles.{phrases_counted}
use Rattle.hal_names.proofs.Places.{are_counted, own_first}
use Rattle.hal_scope.specs.Rules.{IsAmong, IsSound, rows, ruled}
use Rattle.hal_scope.specs.Repeated.{compool_repeats, declarations_of, declares_one_there, given, included_twice, is_there_before, repeats}
use Rattle.hal_scope.specs.Uses.{unless}
use Rattle.hal_constants.specs.Known.{Known, known}
use Rattle.hal_templates.specs.Entries.{entries, entries_of}
use Rattle.hal_templates.specs.Heads.{is_compool, same_head}
use Rattle.hal_templates.specs.Items.{declaring, same_as_data, same_as_structure, same_data, same_entries, same_entry, same_item, same_structures}
use Rattle.hal_templates.specs.Own.{is_shown, own_entries}
use Rattle.hal_templates.specs.Structures.{same_parts}
use Rattle.hal_templates.specs.Templates.{declares_same, differing, differing_from, doubled, equals, equals_unit, home_of, is_number, lacking, template_name, unit_name, unit_of}
use Rattle.hal_templates.specs.Rules.{template_rows}
use Rattle.hal_templates.specs.Giving.{AreSameNames, GivesItsUnit, IncludesItsUnit, IsData, IsOwn, IsSameName, IsStructure, IsUnit, name_of}
use Rattle.hal_templates.proofs.Agreeing.{bytes_same, data_same, parts_same}
use Rattle.hal_templates.proofs.SameHeads.{heads_same}
use Rattle.hal_templates.proofs.Shown.{at_among, at_some, include_quiet, is_own, not_true, right, row_quiet, rule_quiet}
use Rattle.hal_templates.proofs.Followed.{Every, HasBody, HasUnit, IsThere, IsUnitThere, body_of, unit_key}
use Rattle.hal_templates.proofs.FollowedFiles.{all_followed}

-- data, or a structure template
data IsEntry : Node → Type 0 where
  IsItem : (common : List Attribute) (item : Declared) → IsEntry (OfItem common item)
  IsTemplate : (name : Naming) (parts : List Part) → IsEntry (OfStructure name parts)

items_are : (common : List Attribute) (items : List Declared) → Every IsEntry (map (OfItem common) items)
items_are common [] = tt
items_are common (x ∷ xs) = (IsItem common x, items_are common xs)

each_of_both : {X : Type 0} (P : X → Type 0) (xs ys : List X) → Every P xs → Every P ys → Every P (xs ++ ys)
each_of_both P [] ys first second = second
each_of_both P (x ∷ xs) ys first second = (first.0, each_of_both P xs ys first.1 second)

entries_are : (declarations : List Declaration) → Every IsEntry (entries declarations)
unfolding entries entries_of
entries_are [] = tt
entries_are (Declare place common items ∷ ds) = each_of_both IsEntry (map (OfItem common) items) (entries ds) (items_are common items) (entries_are ds)
entries_are (Structure place name parts ∷ ds) = (IsTemplate name parts, entries_are ds)

-- some of a list
one_of : {X : Type 0} (P : X → Type 0) (b : Bool) (x : X) (xs : List X) → P x → Every P xs → Every P (if b then x ∷ xs else xs)
one_of P true x xs first others = (first, others)
one_of P false x xs first others = others

some_of : {X : Type 0} (P : X → Type 0) (test : X → Bool) (xs : List X) → Every P xs → Every P (filter test xs)
some_of P test [] every = tt
some_of P test (x ∷ xs) every = one_of P (test x) x (filter test xs) every.0 (some_of P test xs every.1)

own_are : (P : Node → Type 0) (ps : List Phrase) (u : ℕ) (head : Head) (declarations : List Declaration) → Every P (entries declarations) → Every P (own_entries ps u head declarations)
unfolding own_entries
own_are P ps u (Program place) declarations every = tt
own_are P ps u (Task place) declarations every = tt
own_are P ps u (Compool place) declarations every = every
own_are P ps u (Procedure place inputs outputs mode) declarations every = some_of P (is_shown ps u (entries declarations)) (entries declarations) every
own_are P ps u (Function place inputs returns mode) declarations every = some_of P (is_shown ps u (entries declarations)) (entries declarations) every

-- the phrase that declares a name
declared : (ps : List Phrase) (block : ℕ) (name : List ℕ) (p : Phrase) → IsOwn ps block name p → declaring ps block name ≡ Some p
declared ps block name p is = ap (option_and_then (λ k. slice_get ps k)) is.found ∙ is.there

-- two names that are the same
name_same : {ps : List Phrase} {vs : Known} {h u : ℕ} {x y : Node} → IsSameName ps vs h u x y → name_of x ≡ name_of y
name_same (IsData common other_common x y p q same mine this theirs that means) = same
name_same (IsStructure name other xs ys p q same mine this theirs that parts) = same

names_same : (ps : List Phrase) (vs : Known) (h : ℕ) (xs : List Node) (u : ℕ) (ys : List Node) → AreSameNames ps vs h xs u ys → map name_of xs ≡ map name_of ys
names_same ps vs h [] u [] same = refl
names_same ps vs h [] u (y ∷ ys) same = absurd same
names_same ps vs h (x ∷ xs) u [] same = absurd same
names_same ps vs h (x ∷ xs) u (y ∷ ys) same = ap₂ (λ (n : List ℕ) (ns : List (List ℕ)). n ∷ ns) (name_same same.0) (names_same ps vs h xs u ys same.1)

-- the unit of a name in the set, and the phrases of what it declares
record HasItsUnit (ps : List Phrase) (name : List ℕ) : Type 0 where
  unit : Phrase
  head : Head
  declarations : List Declaration
  is_unit : IsUnit ps name unit head declarations
  among : IsAmong unit ps
  all_there : Every (IsThere ps unit.number) (entries declarations)

-- no two files have units of one name
unit_alone : (ps : List Phrase) → IsSound template_rows ps → (name : List ℕ) (file : ℕ) → own ps (key space.Unit 0 name) ≡ Some file
    → (f : Phrase) (prefaces : List Preface) (n : Naming) → IsAmong f ps → f.node ≡ OfFile prefaces n → n.name ≡ name → f.number ≡ file
unfolding template_rows unit_name
unit_alone ps sound name file in_file f prefaces n there is same =
    let quiet : doubled ps f ≡ None = rule_quiet 503 (doubled ps f) (row_quiet template_rows ps sound (λ qs q. ruled 503 (doubled qs q)) (inr (inr (inl refl))) f there) in
    let first : is_number f.number (own ps (key space.Unit 0 n.name)) ≡ true =
    right (is_number f.number (own ps (key space.Unit 0 n.name))) n.place
    (at_some (λ (m : Naming). unless (is_number f.number (own ps (key space.Unit 0 m.name))) m.place) (unit_name f.node) n None (ap unit_name is) quiet) in
    let number : own ps (key space.Unit 0 n.name) ≡ Some file = subst (λ (m : List ℕ). own ps (key space.Unit 0 m) ≡ Some file) (sym same) in_file in
    sym (eqb-true file f.number (sym (ap (is_number f.number) number) ∙ first))

module _ (files : List File) (named : IsSound rows (phrases_of files)) where
  item_is_own : (home : ℕ) (common : List Attribute) (x : Declared) (there : IsThere (phrases_of files) home (OfItem common x)) → IsOwn (phrases_of files) home x.name.name there.it
  unfolding declared_at given
  item_is_own home common x there = is_own files named there.it (OfItem common x) x.name home there.among there.node there.at refl refl

  structure_is_own : (home : ℕ) (name : Naming) (parts : List Part) (there : IsThere (phrases_of files) home (OfStructure name parts)) → IsOwn (phrases_of files) home name.name there.it
  unfolding declared_at given
  structure_is_own home name parts there = is_own files named there.it (OfStructure name parts) name home there.among there.node there.at refl refl

  data_is : (vs : Known) (h u : ℕ) (common other_common : List Attribute) (x y : Declared) → IsThere (phrases_of files) h (OfItem common x) → IsThere (phrases_of files) u (OfItem other_common y)
      → same_as_data (phrases_of files) vs h common x u (OfItem other_common y) ≡ true → IsSameName (phrases_of files) vs h u (OfItem common x) (OfItem other_common y)
  unfolding same_as_data same_data
  data_is vs h u common other_common x y here there is =
      let ps = phrases_of files in
      let parts = and_parts (bytes_eq x.name.name y.name.name) (same_data ps vs (declaring ps h x.name.name) common x.attributes (declaring ps u x.name.name) other_common y.attributes) is in
      let same : x.name.name ≡ y.name.name = bytes_same x.name.name y.name.name parts.0 in
      let mine = item_is_own h common x here in
      let theirs = item_is_own u other_common y there in
      let one : declaring ps h x.name.name ≡ Some here.it = declared ps h x.name.name here.it mine in
      let other : declaring ps u x.name.name ≡ Some there.it = ap (declaring ps u) same ∙ declared ps u y.name.name there.it theirs in
      let equal : same_item ps vs here.it common x.attributes there.it other_common y.attributes ≡ true =
      sym (ap₂ (λ (o t : Option Phrase). same_data ps vs o common x.attributes t other_common y.attributes) one other) ∙ parts.1 in
      IsData common other_common x y here.it there.it same mine here.node theirs there.node (data_same ps vs here.it common x.attributes there.it other_common y.attributes equal)

  structure_is : (vs : Known) (h u : ℕ) (name other : Naming) (xs ys : List Part) → IsThere (phrases_of files) h (OfStructure name xs) → IsThere (phrases_of files) u (OfStructure other ys)
      → same_as_structure (phrases_of files) vs h name xs u (OfStructure other ys) ≡ true → IsSameName (phrases_of files) vs h u (OfStructure name xs) (OfStructure other ys)
  unfolding same_as_structure same_structures
  structure_is vs h u name other xs ys here there is =
      let ps = phrases_of files in
      let parts = and_parts (bytes_eq name.name other.name) (same_structures ps vs (declaring ps h name.name) xs (declaring ps u name.name) ys) is in
      let same : name.name ≡ other.name = bytes_same name.name other.name parts.0 in
      let mine = structure_is_own h name xs here in
      let theirs = structure_is_own u other ys there in
      let one : declaring ps h name.name ≡ Some here.it = declared ps h name.name here.it mine in
      let two : declaring ps u name.name ≡ Some there.it = ap (declaring ps u) same ∙ declared ps u other.name there.it theirs in
      let equal : same_parts ps vs here.it xs there.it ys ≡ true = sym (ap₂ (λ (o t : Option Phrase). same_structures ps vs o xs t ys) one two) ∙ parts.1 in
      IsStructure name other xs ys here.it there.it same mine here.node theirs there.node (parts_same ps vs here.it xs there.it ys equal)

  one_is : {x y : Node} (vs : Known) (h u : ℕ) → IsEntry x → IsEntry y → IsThere (phrases_of files) h x → IsThere (phrases_of files) u y → same_entry (phrases_of files) vs h x u y ≡ true
      → IsSameName (phrases_of files) vs h u x y
  unfolding same_entry same_as_data same_as_structure
  one_is vs h u (IsItem common x) (IsItem other_common y) here there is = data_is vs h u common other_common x y here there is
  one_is vs h u (IsItem common x) (IsTemplate name parts) here there is = absurd (false≢true is)
  one_is vs h u (IsTemplate name parts) (IsItem common x) here there is = absurd (false≢true is)
  one_is vs h u (IsTemplate name xs) (IsTemplate other ys) here there is = structure_is vs h u name other xs ys here there is

  all_are : (vs : Known) (h : ℕ) (xs : List Node) (u : ℕ) (ys : List Node) → Every IsEntry xs → Every IsEntry ys → Every (IsThere (phrases_of files) h) xs → Every (IsThere (phrases_of files) u) ys
      → same_entries (phrases_of files) vs h xs u ys ≡ true → AreSameNames (phrases_of files) vs h xs u ys
  unfolding same_entries
  all_are vs h [] u [] ours theirs here there is = tt
  all_are vs h [] u (y ∷ ys) ours theirs here there is = absurd (false≢true is)
  all_are vs h (x ∷ xs) u [] ours theirs here there is = absurd (false≢true is)
  all_are vs h (x ∷ xs) u (y ∷ ys) ours theirs here there is =
      let parts = and_parts (same_entry (phrases_of files) vs h x u y) (same_entries (phrases_of files) vs h xs u ys) is in
      (one_is vs h u ours.0 theirs.0 here.0 there.0 parts.0, all_are vs h xs u ys ours.1 theirs.1 here.1 there.1 parts.1)

  -- a file in which the name is that of the unit
  unit_in : IsSound template_rows (phrases_of files) → (name : List ℕ) (f : ℕ) → own (phrases_of files) (key space.Unit 0 name) ≡ Some f → IsUnitThere (phrases_of files) f name → HasItsUnit (phrases_of files) name
  unfolding unit_named declared_at given
  unit_in sound name f file has =
      let ps = phrases_of files in
      let unit = has.unit.it in
      let mine = is_own files named unit (OfUnit has.naming has.head has.declarations) has.naming f has.unit.among has.unit.node has.unit.at refl refl in
      record {
        unit = unit;
        head = has.head;
        declarations = has.declarations;
        is_unit = record {
          file = f;
          in_file = file;
          alone = unit_alone ps sound name f file;
          at = has.unit.at;
          found = ap (option_and_then (λ k. own ps (key space.Declared k name))) file ∙ subst (λ (n : List ℕ). own ps (key space.Declared f n) ≡ Some unit.number) has.named mine.found;
          there = mine.there;
          naming = has.naming;
          named = has.named;
          is = has.unit.node;
        };
        among = has.unit.among;
        all_there = subst (HasBody ps) (ap (body_of unit) has.unit.node) (all_followed files unit has.unit.among).body;
      }

  unit_found : IsSound template_rows (phrases_of files) → (name : List ℕ) → is_some (unit_named (phrases_of files) name) ≡ true → HasItsUnit (phrases_of files) name
  unfolding unit_named
  unit_found sound name some = by (own (phrases_of files) (key space.Unit 0 name)) refl some
    where
      by : (o : Option ℕ) → own (phrases_of files) (key space.Unit 0 name) ≡ o → is_some (option_and_then (λ f. own (phrases_of files) (key space.Declared f name)) o) ≡ true
          → HasItsUnit (phrases_of files) name
      by None is some = absurd (false≢true some)
      by (Some f) is some =
          let ps = phrases_of files in
          let first = own_first ps (key space.Unit 0 name) f (phrases_counted files) is in
          let followed = all_followed files first.declaring (at_among ps f first.declaring first.there) in
          let has : IsUnitThere ps first.declaring.number name = subst (HasUnit ps first.declaring.number) (ap unit_key first.declares) followed.unit in
          unit_in sound name f is (subst (λ k. IsUnitThere ps k name) (are_counted ps (phrases_counted files) f first.declaring first.there) has)

  -- the unit of a phrase that gives a template
  unit_of_template : IsSound template_rows (phrases_of files) → (p : Phrase) (name : Naming) → IsAmong p (phrases_of files) → template_name p.node ≡ Some name → HasItsUnit (phrases_of files) name.name
  unfolding template_rows
  unit_of_template sound p name there is =
      let ps = phrases_of files in
      let quiet : lacking ps p ≡ None = rule_quiet 502 (lacking ps p) (row_quiet template_rows ps sound (λ qs q. ruled 502 (lacking qs q)) (inr (inl refl)) p there) in
      unit_found sound name.name (right (is_some (unit_named ps name.name)) name.place (at_some (λ (n : Naming). unless (is_some (unit_named ps n.name)) n.place) (template_name p.node) name None is quiet))

  -- a template that is written out equals its unit
  equal_to_unit : IsSound template_rows (phrases_of files) → (p : Phrase) (name : Naming) (head : Head) (declarations : List Declaration) → IsAmong p (phrases_of files) → p.node ≡ OfTemplate name head declarations
      → (unit : Phrase) (unit_head : Head) (unit_declarations : List Declaration) → IsUnit (phrases_of files) name.name unit unit_head unit_declarations
      → equals (phrases_of files) (known (phrases_of files)) p head declarations unit unit_head unit_declarations ≡ true
  unfolding template_rows differing equals_unit
  equal_to_unit sound p name head declarations there is unit unit_head unit_declarations is_unit =
      let ps = phrases_of files in
      let vs = known ps in
      let quiet : differing ps vs p p.node ≡ None = rule_quiet 501 (differing ps vs p p.node) (row_quiet template_rows ps sound (λ qs q. ruled 501 (differing qs (known qs) q q.node)) (inl refl) p there) in
      let written : differing_from ps vs p name head declarations ≡ None = sym (ap (differing ps vs p) is) ∙ quiet in
      let known_unit : unit_of ps name.name ≡ Some unit = ap (option_and_then (λ k. slice_get ps k)) is_unit.found ∙ is_unit.there in
      let same : equals_unit ps vs p head declarations unit unit.node ≡ true =
      right (equals_unit ps vs p head declarations unit unit.node) name.place
      (at_some (λ (q : Phrase). unless (equals_unit ps vs p head declarations q q.node) name.place) (unit_of ps name.name) unit None known_unit written) in
      sym (ap (equals_unit ps vs p head declarations unit) is_unit.is) ∙ same

  pub written_gives : IsSound template_rows (phrases_of files) → (p : Phrase) (name : Naming) (head : Head) (declarations : List Declaration) → IsAmong p (phrases_of files) → p.node ≡ OfTemplate name head declarations
      → GivesItsUnit (phrases_of files) p name head declarations
  unfolding template_name declared_at given
  written_gives sound p name head declarations there is =
      let ps = phrases_of files in
      let vs = known ps in
      let has = unit_of_template sound p name there (ap template_name is) in
      let same = equal_to_unit sound p name head declarations there is has.unit has.head has.declarations has.is_unit in
      let both = and_parts (same_head ps vs p head has.unit has.head) (declares_same ps vs p head declarations has.unit has.head has.declarations) same in
      let shows = own_entries ps has.unit.number has.head has.declarations in
      let ours : Every (IsThere ps (home_of p head)) (entries declarations) = subst (HasBody ps) (ap (body_of p) is) (all_followed files p there).body in
      let meanings = all_are vs (home_of p head) (entries declarations) has.unit.number shows (entries_are declarations) (own_are IsEntry ps has.unit.number has.head has.declarations (entries_are has.declarations))
      ours (own_are (IsThere ps has.unit.number) ps has.unit.number has.head has.declarations has.all_there) both.1 in
      record {
        unit = has.unit;
        unit_head = has.head;
        unit_declarations = has.declarations;
        is_unit = has.is_unit;
        itself = is_own files named p (OfTemplate name head declarations) name p.around.home there is refl refl refl;
        heads = heads_same ps vs p has.unit head has.head both.0;
        names = names_same ps vs (home_of p head) (entries declarations) has.unit.number shows meanings;
        meanings = meanings;
      }

-- INCLUDE of a template
every_member : {X : Type 0} (P : X → Type 0) (x : X) (xs : List X) → Every P xs → IsAmong x xs → P x
every_member P x [] every there = absurd there
every_member P x (y ∷ ys) every (inl same) = subst P (sym same) every.0
every_member P x (y ∷ ys) every (inr later) = every_member P x ys every.1 later

compool_is : (name : Naming) (head : Head) (declarations : List Declaration) → is_compool_unit (OfUnit name head declarations) ≡ is_compool head
unfolding is_compool_unit is_compool
compool_is name (Program place) declarations = refl
compool_is name (Compool place) declarations = refl
compool_is name (Task place) declarations = refl
compool_is name (Procedure place inputs outputs mode) declarations = refl
compool_is name (Function place inputs returns mode) declarations = refl

-- what a name means by the template of a unit
abbrev shown_of : List Phrase → List ℕ → Phrase → Bool → List ℕ → Option ℕ
shown_of ps name unit compool other = if bytes_eq name other then Some unit.number else (if compool then own ps (key space.Declared unit.number other) else None)

shown_is : (ps : List Phrase) (name : List ℕ) (unit : Phrase) (head : Head) (declarations : List Declaration) → IsUnit ps name unit head declarations → (other : List ℕ)
    → shown ps name other ≡ shown_of ps name unit (is_compool head) other
unfolding shown given_by
shown_is ps name unit head declarations is other =
    ap (option_and_then (λ u. if bytes_eq name other then Some u else given_by ps u other)) is.found
    ∙ ap (λ (o : Option ℕ). if bytes_eq name other then Some unit.number else o)
    (ap (option_and_then (λ (p : Phrase). if is_compool_unit p.node then own ps (key space.Declared unit.number other) else None)) is.there
    ∙ ap (λ b. if b then own ps (key space.Declared unit.number other) else None) (ap is_compool_unit is.is ∙ compool_is is.naming head declarations))

only_these : (ps : List Phrase) (name : List ℕ) (unit : Phrase) (compool : Bool) (other : List ℕ) (k : ℕ) → shown_of ps name unit compool other ≡ Some k
    → ((other ≡ name) × (k ≡ unit.number)) ⊎ ((compool ≡ true) × (own ps (key space.Declared unit.number other) ≡ Some k))
only_these ps name unit compool other k is = by (bytes_eq name other) refl compool is
  where
    some : {m n : ℕ} → Some m ≡ Some n → n ≡ m
    some same = cc

    by : (b : Bool) → bytes_eq name other ≡ b → (c : Bool) → (if b then Some unit.number else (if c then own ps (key space.Declared unit.number other) else None)) ≡ Some k
        → ((other ≡ name) × (k ≡ unit.number)) ⊎ ((c ≡ true) × (own ps (key space.Declared unit.number other) ≡ Some k))
    by true same c is = inl (sym (bytes_same name other same), some is)
    by false same true is = inr (refl, is)
    by false same false is = absurd (cc)

some_or_none : (o : Option ℕ) (k : ℕ) → o ≡ Some k → is_some o ≡ false → ⊥
some_or_none o k some none = false≢true (sym none ∙ ap is_some some)

if_true : (a b : Bool) → a ≡ true → (a && b) ≡ false → b ≡ false
if_true true b is none = none
if_true false b is none = absurd (false≢true is)

module _ (files : List File) (named : IsSound rows (phrases_of files)) where
  entry_is_own : {x : Node} (home : ℕ) → IsEntry x → (there : IsThere (phrases_of files) home x) → IsOwn (phrases_of files) home (name_of x) there.it
  entry_is_own home (IsItem common item) there = item_is_own files named home common item there
  entry_is_own home (IsTemplate name parts) there = structure_is_own files named home name parts there

  -- a COMPOOL that is included doesn't declare its own name
  not_its_own : (p : Phrase) (name : Naming) (unit : Phrase) (head : Head) (declarations : List Declaration) → IsAmong p (phrases_of files) → p.node ≡ OfInclude name
      → IsUnit (phrases_of files) name.name unit head declarations → is_compool head ≡ true → is_some (own (phrases_of files) (key space.Declared unit.number name.name)) ≡ false
  unfolding included_twice
  not_its_own p name unit head declarations there is is_unit compool =
      let ps = phrases_of files in
      let quiet : included_twice ps p (OfInclude name) ≡ None = sym (ap (included_twice ps p) is) ∙ include_quiet files named p there in
      let alone : unless (not (repeats ps p name.name unit.number unit.node)) name.place ≡ None =
      at_some (λ (q : Phrase). unless (not (repeats ps p name.name unit.number q.node)) name.place) (slice_get ps unit.number) unit None is_unit.there
      (at_some (λ u. option_and_then (λ (q : Phrase). unless (not (repeats ps p name.name u q.node)) name.place) (slice_get ps u)) (unit_named ps name.name) unit.number None is_unit.found quiet) in
      let once : repeats ps p name.name unit.number unit.node ≡ false = not_true (repeats ps p name.name unit.number unit.node) (right (not (repeats ps p name.name unit.number unit.node)) name.place alone) in
      let repeated = compool_repeats ps p name.name unit.number (declarations_of unit.node) in
      let beside : (is_compool_unit unit.node && repeated) ≡ false = (or_parts (is_there_before ps p name.name) (is_compool_unit unit.node && repeated) once).1 in
      let none : repeated ≡ false = if_true (is_compool_unit unit.node) repeated (ap is_compool_unit is_unit.is ∙ (compool_is is_unit.naming head declarations ∙ compool)) beside in
      (or_parts (is_some (own ps (key space.Declared unit.number name.name))) (list_any (declares_one_there ps p) (declarations_of unit.node)) none).0

  -- what a COMPOOL declares besides its own name
  means_it : (name : List ℕ) (unit : Phrase) (head : Head) (declarations : List Declaration) → IsUnit (phrases_of files) name unit head declarations → is_compool head ≡ true
      → is_some (own (phrases_of files) (key space.Declared unit.number name)) ≡ false → (other : List ℕ) (r : Phrase) → IsOwn (phrases_of files) unit.number other r → shown (phrases_of files) name other ≡ Some r.number
  means_it name unit head declarations is_unit compool alone other r mine =
      shown_is (phrases_of files) name unit head declarations is_unit other ∙ by (bytes_eq name other) refl (is_compool head) compool
    where
      by : (b : Bool) → bytes_eq name other ≡ b → (c : Bool) → c ≡ true → (if b then Some unit.number else (if c then own (phrases_of files) (key space.Declared unit.number other) else None)) ≡ Some r.number
      by true same c compool =
          absurd (some_or_none (own (phrases_of files) (key space.Declared unit.number name)) r.number (subst (λ (n : List ℕ). own (phrases_of files) (key space.Declared unit.number n) ≡ Some r.number) (sym (bytes_same name other same)) mine.found) alone)
      by false same true compool = mine.found
      by false same false compool = absurd (false≢true compool)

  pub include_gives : IsSound template_rows (phrases_of files) → (p : Phrase) (name : Naming) → IsAmong p (phrases_of files) → p.node ≡ OfInclude name → IncludesItsUnit (phrases_of files) name
  unfolding template_name
  include_gives sound p name there is =
      let ps = phrases_of files in
      let has = unit_of_template files named sound p name there (ap template_name is) in
      record {
        unit = has.unit;
        head = has.head;
        declarations = has.declarations;
        is_unit = has.is_unit;
        itself = shown_is ps name.name has.unit has.head has.declarations has.is_unit name.name
            ∙ ap (λ b. if b then Some has.unit.number else (if is_compool has.head then own ps (key space.Declared has.unit.number name.name) else None)) ((bytes_eq-Decides name.name name.name).1 refl);
        all = λ x compool among.
            let itself : IsThere ps has.unit.number x = every_member (IsThere ps has.unit.number) x (entries has.declarations) has.all_there among in
            let mine = entry_is_own has.unit.number (every_member IsEntry x (entries has.declarations) (entries_are has.declarations) among) itself in
            (itself.it, means_it name.name has.unit has.head has.declarations has.is_unit compool (not_its_own p name has.unit has.head has.declarations there is has.is_unit compool) (name_of x) itself.it mine, mine, itself.node);
        only = λ other k found. only_these ps name.name has.unit (is_compool has.head) other k (sym (shown_is ps name.name has.unit has.head has.declarations has.is_unit other) ∙ found);
      }
