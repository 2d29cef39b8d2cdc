-- Names of parts lead to components of the data for which those of a written template stand: the structures of both have the same parts, where no rule of templates is broken.
use Rattle.std.specs.Prelude.{◌≡◌, ◌<◌, ◌⊎◌, ℕ, zero, suc, true, List, [], ◌∷◌, ◌++◌, flat_map, Option, Some, None, slice_get}
use Rattle.std.specs.Option.{option_and_then, option_or}
use Rattle.std.proofs.Common.{refl, sym, ap, subst, ◌∙◌, inl, inr, arith}
use Rattle.hal_base.specs.declared.refusal.Place.{Place}
use Rattle.hal_grammar.specs.Leaves.{Naming}
use Rattle.hal_grammar.specs.Expressions.{Expression}
use Rattle.hal_grammar.specs.Declarations.{Kind, IntegerKind, BooleanKind, EventKind, BitKind, CharacterKind, StructureKind, Attribute, Declaration, Declared, Part, Structure}
use Rattle.hal_grammar.specs.Units.{Head, Program, Compool, Task, Procedure, Function, Preface}
use Rattle.hal_phrases.specs.Phrases.{Node, Phrase, OfFile, OfItem, OfStructure, OfTemplate, OfTemporaryGroup}
use Rattle.hal_names.specs.declared.key.Key.{Key}
use Rattle.hal_names.specs.declared.key.Space.TheVariants as space
use Rattle.hal_names.specs.Keys.{key, declared_at, declared_by, own}
use Rattle.hal_names.specs.Laws.{IsCounted, IsFirst}
use Rattle.hal_names.specs.Means.{means, nearest, unit_named}
use Rattle.hal_scope.specs.Components.{has_component, type_has}
use Rattle.hal_scope.specs.Rules.{IsAmong}
use Rattle.hal_scope.specs.Sorts.{sort_of, type_of}
use Rattle.hal_constants.specs.Known.{Known, known}
use Rattle.hal_templates.specs.Agreeing.{HaveSameParts, IsSameData}
use Rattle.hal_templates.specs.Entries.{entries, entries_of}
use Rattle.hal_templates.specs.Giving.{AreSameNames, HaveSameHead, IsData, IsOwn, IsSameName, IsStructure}
use Rattle.hal_templates.specs.Heads.{is_compool}
use Rattle.hal_templates.specs.Own.{own_entries, template_of}
use Rattle.hal_templates.specs.Structures.{parts_of}
use Rattle.hal_templates.specs.Templates.{home_of}
use Rattle.hal_meaning.specs.Bodies.{is_compool_head, meant_at, pool_of, pooled, pooled_at, standing_for}
use Rattle.hal_meaning.specs.Elements.{Component, chosen, components_at, shape_of, shape_of_type}
use Rattle.hal_meaning.specs.Sets.{Set}
use Rattle.hal_fit_names.specs.Standing.{StandsForData}
use Rattle.hal_fit_rules.proofs.Declaring.{types_joined}
use Rattle.hal_right_images.proofs.rows.Rules.{among_at}
use Rattle.hal_right_images.proofs.rows.Templates.{NamesStructure, names_structure}
use Rattle.hal_right_images.proofs.rows.Told.{DeclareStructure, IsToldNode, among_second, unit_head}
use Rattle.hal_right_images.specs.views.Left.{LeadSomewhere}
use Rattle.hal_right_images.proofs.views.Laying.{OfAnItem, OfAGroup}
use Rattle.hal_right_images.proofs.views.PathsLeading.{KnowsParts, StandingLead, components_found, found_leads}
use Rattle.hal_right_images.proofs.views.Pools.{AllGive, name_given, template_held}
use Rattle.hal_right_images.proofs.views.SameParts.{lead_alike, paths_of, paths_same}

first_of_two : (k : ℕ) (o x : Option ℕ) → o ≡ Some k → option_or o x ≡ Some k
first_of_two k o x is = ap (λ y. option_or y x) is

-- what a block declares is what the name means in it
own_means : (ps : List Phrase) (block : ℕ) (name : List ℕ) (n : ℕ) → own ps (key space.Declared block name) ≡ Some n → means ps block name ≡ Some n
unfolding nearest own
own_means [] block name n is = absurd (cc)
own_means (p ∷ ps) block name n is = first_of_two n (own (p ∷ ps) (key space.Declared block name)) _ is

-- one place has one phrase
same_phrase : (ps : List Phrase) (m n : ℕ) (p q : Phrase) → slice_get ps m ≡ Some p → slice_get ps n ≡ Some q → m ≡ n → p ≡ q
same_phrase ps m n p q one other same = let both : Some p ≡ Some q = sym one ∙ (ap (slice_get ps) same ∙ other) in cc

-- of two numbers one is less, or they are equal
order : (m n : ℕ) → (m < n) ⊎ ((m ≡ n) ⊎ (n < m))
order zero zero = inr (inl refl)
order zero (suc n) = inl (omega (arith))
order (suc m) zero = inr (inr (omega (arith)))
order (suc m) (suc n) = by (order m n) where
  by : (m < n) ⊎ ((m ≡ n) ⊎ (n < m)) → (suc m < suc n) ⊎ ((suc m ≡ suc n) ⊎ (suc n < suc m))
  by (inl less) = inl (omega (arith, less))
  by (inr (inl same)) = inr (inl (ap suc same))
  by (inr (inr more)) = inr (inr (omega (arith, more)))

-- a key has one first declaration
one_first : (ps : List Phrase) (q : Key) (m n : ℕ) → IsFirst ps q m → IsFirst ps q n → m ≡ n
one_first ps q m n one other = by (order m n) where
  by : (m < n) ⊎ ((m ≡ n) ⊎ (n < m)) → m ≡ n
  by (inl less) = absurd (other.first m one.declaring less one.there one.declares)
  by (inr (inl same)) = same
  by (inr (inr more)) = absurd (one.first n other.declaring more other.there other.declares)

-- the type of data whose structure has this name
structure_typed : (t : Option Kind) (template : List ℕ) → template_of t ≡ Some template → (place : Place) × (copies : Option Expression) × (t ≡ Some (StructureKind place template copies))
unfolding template_of
structure_typed (Some (StructureKind place own_template copies)) template is = (place, copies, ap (λ name. Some (StructureKind place name copies)) (let same : own_template ≡ template = cc in same))
structure_typed (Some (IntegerKind place)) template is = absurd (cc)
structure_typed (Some (BooleanKind place)) template is = absurd (cc)
structure_typed (Some (EventKind place)) template is = absurd (cc)
structure_typed (Some (BitKind place size)) template is = absurd (cc)
structure_typed (Some (CharacterKind place size)) template is = absurd (cc)
structure_typed None template is = absurd (cc)

-- a structure that is declared is an entry
structure_entry : (place : Place) (name : Naming) (parts : List Part) (declarations : List Declaration) → IsAmong (Structure place name parts) declarations → IsAmong (OfStructure name parts) (entries declarations)
unfolding entries entries_of
structure_entry place name parts [] within = absurd within
structure_entry place name parts (d ∷ ds) (inl same) = subst (λ (x : Declaration). IsAmong (OfStructure name parts) (entries_of x ++ flat_map entries_of ds)) same (inl refl)
structure_entry place name parts (d ∷ ds) (inr later) = among_second (OfStructure name parts) (entries_of d) (flat_map entries_of ds) (structure_entry place name parts ds later)

-- an entry that is the same as this one
record HasPartner (ps : List Phrase) (vs : Known) (h u : ℕ) (y : Node) : Type 0 where
  entry : Node
  same : IsSameName ps vs h u entry y

partner : (ps : List Phrase) (vs : Known) (h : ℕ) (xs : List Node) (u : ℕ) (ys : List Node) → AreSameNames ps vs h xs u ys → (y : Node) → IsAmong y ys → HasPartner ps vs h u y
partner ps vs h [] u [] same y within = absurd within
partner ps vs h (x ∷ xs) u [] same y within = absurd within
partner ps vs h [] u (z ∷ ys) same y within = absurd same
partner ps vs h (x ∷ xs) u (z ∷ ys) same y (inl is) = record { entry = x; same = subst (λ (n : Node). IsSameName ps vs h u x n) (sym is) same.0 }
partner ps vs h (x ∷ xs) u (z ∷ ys) same y (inr later) = partner ps vs h xs u ys same.1 y later

-- the structure of the one block that is the same as that of the other
record IsSameStructure (ps : List Phrase) (vs : Known) (h u : ℕ) (name : Naming) (ys : List Part) : Type 0 where
  mine : Phrase
  theirs : Phrase
  own_name : Naming
  parts : List Part
  named : own_name.name ≡ name.name
  owned : IsOwn ps h own_name.name mine
  node : mine.node ≡ OfStructure own_name parts
  shown : IsOwn ps u name.name theirs
  same : HaveSameParts ps vs mine parts theirs ys

structure_same : {ps : List Phrase} {vs : Known} {h u : ℕ} {x y : Node} → IsSameName ps vs h u x y → (name : Naming) (ys : List Part) → y ≡ OfStructure name ys → IsSameStructure ps vs h u name ys
structure_same (IsData common other_common a b p q named mine this theirs that means_) name ys is = absurd (cc)
structure_same {ps = ps} {vs = vs} {h = h} {u = u} (IsStructure own_name other xs zs p q named mine this theirs that same) name ys is =
    let of_name : other ≡ name = cc in
    let of_parts : zs ≡ ys = cc in
    record {
      mine = p;
      theirs = q;
      own_name = own_name;
      parts = xs;
      named = named ∙ ap (λ (n : Naming). n.name) of_name;
      owned = mine;
      node = this;
      shown = subst (λ (n : Naming). IsOwn ps u n.name q) of_name theirs;
      same = subst (λ (l : List Part). HaveSameParts ps vs p xs q l) of_parts same;
    }

-- what the own template of a COMPOOL's unit has
pool_entries : (ps : List Phrase) (vs : Known) (p q : Phrase) (u : ℕ) (head other : Head) (declarations : List Declaration) → is_compool_head head ≡ true → HaveSameHead ps vs p head q other
    → own_entries ps u other declarations ≡ entries declarations
unfolding own_entries
pool_entries ps vs p q u (Compool at) (Compool there) declarations is same = refl
pool_entries ps vs p q u (Compool at) (Program there) declarations is same = absurd same
pool_entries ps vs p q u (Compool at) (Task there) declarations is same = absurd same
pool_entries ps vs p q u (Compool at) (Procedure there inputs outputs mode) declarations is same = absurd same
pool_entries ps vs p q u (Compool at) (Function there inputs returns mode) declarations is same = absurd same
pool_entries ps vs p q u (Program at) other declarations is same = absurd (cc)
pool_entries ps vs p q u (Task at) other declarations is same = absurd (cc)
pool_entries ps vs p q u (Procedure at inputs outputs mode) other declarations is same = absurd (cc)
pool_entries ps vs p q u (Function at inputs returns mode) other declarations is same = absurd (cc)

-- what the template of a COMPOOL declares belongs to the file
pool_home : (p : Phrase) (head : Head) → is_compool_head head ≡ true → home_of p head ≡ p.around.home
unfolding is_compool
pool_home p (Compool place) is = refl
pool_home p (Program place) is = absurd (cc)
pool_home p (Task place) is = absurd (cc)
pool_home p (Procedure place inputs outputs mode) is = absurd (cc)
pool_home p (Function place inputs returns mode) is = absurd (cc)

-- the block to which what a phrase declares belongs
item_owner : (p : Phrase) (common : List Attribute) (item : Declared) (q : Key) → p.node ≡ OfItem common item → declared_by p ≡ Some q → p.around.home ≡ q.owner
unfolding declared_at
item_owner p common item q node declares =
    let so : Some (key space.Declared p.around.home item.name.name) ≡ Some q = sym (ap (declared_at p.number p.around) node) ∙ declares in
    ap (λ (o : Option Key). elim o [ None ↦ 0 | Some w ↦ w.owner ]) so

-- the key of a structure
structure_key : (p : Phrase) (name : Naming) (parts : List Part) → p.node ≡ OfStructure name parts → declared_by p ≡ Some (key space.Declared p.around.home name.name)
unfolding declared_at
structure_key p name parts node = ap (declared_at p.number p.around) node

-- and its parts
structure_parts : (p : Phrase) (name : Naming) (parts : List Part) → p.node ≡ OfStructure name parts → parts_of p.node ≡ Some parts
unfolding parts_of
structure_parts p name parts node = ap parts_of node

-- what is there behind two steps is there behind the first
then_some : {X Y : Type 0} (f : X → Option Y) (o : Option X) (y : Y) → option_and_then f o ≡ Some y → (x : X) × (o ≡ Some x) × (f x ≡ Some y)
then_some f None y is = absurd (cc)
then_some f (Some x) y is = (x, refl, is)

-- what is known of a set for data of written templates
pub record KnowsTemplates (ps : List Phrase) : Type 0 where
  pub knows : KnowsParts ps
  pub counted : IsCounted ps
  pub found : (q : Key) (n : ℕ) → own ps q ≡ Some n → IsFirst ps q n
  pub gives : AllGive ps
  pub stand : (k : ℕ) (p : Phrase) (common : List Attribute) (item : Declared) (f : Phrase) (prefaces : List Preface) (unit : Naming) → slice_get ps k ≡ Some p → p.node ≡ OfItem common item
      → slice_get ps p.around.home ≡ Some f → f.node ≡ OfFile prefaces unit → StandsForData ps k p common item

module _ (ps : List Phrase) (all : KnowsTemplates ps) where
  abbrev vs : Known
  vs = known ps

  abbrev knows : KnowsParts ps
  knows = all.knows

  -- the structure that the type of data names
  item_structure : (k : ℕ) (p : Phrase) (common : List Attribute) (item : Declared) → slice_get ps k ≡ Some p → p.node ≡ OfItem common item → (place : Place) (template : List ℕ) (copies : Option Expression)
      → type_of common item ≡ Some (StructureKind place template copies) → NamesStructure ps p.around.block template
  item_structure k p common item there is place template copies typed =
      let told : IsToldNode ps p (OfItem common item) = subst (IsToldNode ps p) is (knows.told k p there) in
      let type = told.1 place template copies typed in
      subst (λ block. NamesStructure ps block template) type.its (names_structure ps knows.meant knows.sound type.phrase type.among type.place template type.is)

  -- data stand directly in their home
  item_direct : (k : ℕ) (p : Phrase) (common : List Attribute) (item : Declared) → slice_get ps k ≡ Some p → p.node ≡ OfItem common item → p.around.block ≡ p.around.home
  item_direct k p common item there is = let told : IsToldNode ps p (OfItem common item) = subst (IsToldNode ps p) is (knows.told k p there) in told.0

  -- what a declaration stands for, by what its node means
  standing_is : (k : ℕ) (p : Phrase) (node : Node) (o : Option ℕ) → slice_get ps k ≡ Some p → p.node ≡ node → meant_at ps p node ≡ o → standing_for ps k ≡ elim o [ None ↦ k | Some other ↦ other ]
  standing_is k p node o there is meant_so =
      ap (λ (x : Option ℕ). elim x [ None ↦ k | Some other ↦ other ]) (ap (option_and_then (λ (x : Phrase). meant_at ps x x.node)) there ∙ (ap (meant_at ps p) is ∙ meant_so))

  -- data of a written template of a COMPOOL, and what they stand for
  record StandsBy (k : ℕ) (p q : Phrase) : Type 0 where
    common : List Attribute
    item : Declared
    is : p.node ≡ OfItem common item
    file : Phrase
    prefaces : List Preface
    unit : Naming
    home : slice_get ps p.around.home ≡ Some file
    file_is : file.node ≡ OfFile prefaces unit
    pool : List ℕ
    number : ℕ
    given : pool_of prefaces item.name.name ≡ Some pool
    named : unit_named ps pool ≡ Some number
    owned : own ps (key space.Declared number item.name.name) ≡ Some (standing_for ps k)

  -- what stands for data isn't a declaration of a unit
  stands_by : (k : ℕ) (p q : Phrase) → slice_get ps k ≡ Some p → (standing_for ps k ≡ k → ⊥) → slice_get ps (standing_for ps k) ≡ Some q → unit_head q.node ≡ None → StandsBy k p q
  stands_by k p q there other at no_unit = by_node p.node refl where
    pooled_by : (common : List Attribute) (item : Declared) → p.node ≡ OfItem common item → (f : Phrase) → slice_get ps p.around.home ≡ Some f → (m : ℕ) → standing_for ps k ≡ m
        → (node : Node) → f.node ≡ node → pooled_at ps item.name.name node ≡ Some m → StandsBy k p q
    pooled_by common item is f home m stands (OfFile prefaces unit) file found =
        let pool = then_some (λ pool. pooled ps pool item.name.name) (pool_of prefaces item.name.name) m found in
        let named = then_some (λ u. own ps (key space.Declared u item.name.name)) (unit_named ps pool.0) m pool.2 in
        record {
          common = common;
          item = item;
          is = is;
          file = f;
          prefaces = prefaces;
          unit = unit;
          home = home;
          file_is = file;
          pool = pool.0;
          number = named.0;
          given = pool.1;
          named = named.1;
          owned = named.2 ∙ ap Some (sym stands);
        }
    pooled_by common item is f home m stands node file found = absurd (cc)

    by_item : (common : List Attribute) (item : Declared) → p.node ≡ OfItem common item → (o : Option ℕ) → meant_at ps p (OfItem common item) ≡ o → StandsBy k p q
    by_item common item is None meant_so = absurd (other (standing_is k p (OfItem common item) None there is meant_so))
    by_item common item is (Some m) meant_so =
        let one = then_some (λ (h : Phrase). pooled_at ps item.name.name h.node) (slice_get ps p.around.home) m meant_so in
        pooled_by common item is one.0 one.1 m (standing_is k p (OfItem common item) (Some m) there is meant_so) one.0.node refl one.2

    by_template : (name : Naming) (head : Head) (declarations : List Declaration) → p.node ≡ OfTemplate name head declarations → (o : Option ℕ) → unit_named ps name.name ≡ o → StandsBy k p q
    by_template name head declarations is None meant_so = absurd (other (standing_is k p (OfTemplate name head declarations) None there is meant_so))
    by_template name head declarations is (Some m) meant_so =
        let shown = all.gives p name head declarations (among_at ps k p there) is in
        let numbers : Some shown.unit.number ≡ Some m = sym shown.is_unit.found ∙ meant_so in
        let stands : standing_for ps k ≡ m = standing_is k p (OfTemplate name head declarations) (Some m) there is meant_so in
        let same = same_phrase ps (standing_for ps k) shown.unit.number q shown.unit at shown.is_unit.there (stands ∙ sym (let so : shown.unit.number ≡ m = cc in so)) in
        let headless : None ≡ Some shown.unit_head = sym no_unit ∙ (ap (λ (x : Phrase). unit_head x.node) same ∙ ap unit_head shown.is_unit.is) in
        absurd (cc)

    by_node : (node : Node) → p.node ≡ node → StandsBy k p q
    by_node (OfItem common item) is = by_item common item is (meant_at ps p (OfItem common item)) refl
    by_node (OfTemplate name head declarations) is = by_template name head declarations is (unit_named ps name.name) refl
    by_node node is = absurd (other (standing_is k p node None there is refl))

  -- structures that the COMPOOL itself declares are those of its template
  pool_structure : (k : ℕ) (p q : Phrase) → slice_get ps k ≡ Some p → (by_ : StandsBy k p q) → (template : List ℕ) (block : ℕ) (r : NamesStructure ps p.around.block template) (s : NamesStructure ps block template)
      → s.phrase.around.home ≡ by_.number → HaveSameParts ps vs r.phrase r.structure.parts s.phrase s.structure.parts
  pool_structure k p q there by_ template block r s inner =
      let one = name_given by_.prefaces by_.item.name.name by_.pool by_.given in
      let held = template_held ps knows.told all.gives p.around.home by_.file by_.prefaces by_.unit by_.home by_.file_is one.template one.among in
      let shown = all.gives held.phrase one.template.name one.template.head one.template.declarations held.among held.is in
      let numbers : Some shown.unit.number ≡ Some by_.number = sym shown.is_unit.found ∙ (ap (unit_named ps) one.named ∙ by_.named) in
      let number : shown.unit.number ≡ by_.number = cc in
      let told : IsToldNode ps s.phrase (OfStructure s.structure.name s.structure.parts) = subst (IsToldNode ps s.phrase) s.structure.is (knows.told s.number s.phrase s.there) in
      let declared : DeclareStructure shown.unit_declarations s.structure.name s.structure.parts =
      told shown.unit shown.is_unit.naming shown.unit_head shown.unit_declarations (ap (slice_get ps) (inner ∙ sym number) ∙ shown.is_unit.there) shown.is_unit.is in
      let entry : IsAmong (OfStructure s.structure.name s.structure.parts) (own_entries ps shown.unit.number shown.unit_head shown.unit_declarations) =
      subst (IsAmong (OfStructure s.structure.name s.structure.parts))
      (sym (pool_entries ps vs held.phrase shown.unit shown.unit.number one.template.head shown.unit_head shown.unit_declarations one.compool shown.heads))
      (structure_entry declared.place s.structure.name s.structure.parts shown.unit_declarations declared.listed) in
      let has = partner ps vs (home_of held.phrase one.template.head) (entries one.template.declarations) shown.unit.number (own_entries ps shown.unit.number shown.unit_head shown.unit_declarations) shown.meanings
      (OfStructure s.structure.name s.structure.parts) entry in
      joined (home_of held.phrase one.template.head) shown.unit.number (pool_home held.phrase one.template.head one.compool ∙ (held.its ∙ all.counted p.around.home by_.file by_.home)) number
      (structure_same has.same s.structure.name s.structure.parts refl)
    where
      joined : (h u : ℕ) → h ≡ p.around.home → u ≡ by_.number → IsSameStructure ps vs h u s.structure.name s.structure.parts → HaveSameParts ps vs r.phrase r.structure.parts s.phrase s.structure.parts
      joined h u mine number same =
          let declares = knows.meant block template s.number s.meant in
          let its : declares.1.declaring ≡ s.phrase = same_phrase ps s.number s.number declares.1.declaring s.phrase declares.1.there s.there refl in
          let keys : Some (key space.Declared s.phrase.around.home s.structure.name.name) ≡ Some (key space.Declared declares.0 template) =
          sym (structure_key s.phrase s.structure.name s.structure.parts s.structure.is) ∙ (ap declared_by (sym its) ∙ declares.1.declares) in
          let inner_key : key space.Declared s.phrase.around.home s.structure.name.name ≡ key space.Declared declares.0 template = cc in
          let called : s.structure.name.name ≡ template = ap (λ (x : Key). x.name) inner_key in
          let whole : key space.Declared declares.0 template ≡ key space.Declared u s.structure.name.name = sym inner_key ∙ ap (λ home. key space.Declared home s.structure.name.name) (inner ∙ sym number) in
          let theirs = one_first ps (key space.Declared u s.structure.name.name) s.number same.theirs.number (subst (λ (x : Key). IsFirst ps x s.number) whole declares.1)
          (all.found (key space.Declared u s.structure.name.name) same.theirs.number same.shown.found) in
          let s_same : s.phrase ≡ same.theirs = same_phrase ps s.number same.theirs.number s.phrase same.theirs s.there same.shown.there theirs in
          let direct = item_direct k p by_.common by_.item there by_.is in
          let meant_here : means ps p.around.block template ≡ Some same.mine.number =
          ap (means ps p.around.block) (sym called ∙ sym same.named) ∙ (ap (λ b. means ps b same.own_name.name) (direct ∙ sym mine) ∙ own_means ps h same.own_name.name same.mine.number same.owned.found) in
          let number_here : Some r.number ≡ Some same.mine.number = sym r.meant ∙ meant_here in
          let r_same : r.phrase ≡ same.mine = same_phrase ps r.number same.mine.number r.phrase same.mine r.there same.owned.there (let so : r.number ≡ same.mine.number = cc in so) in
          let nodes : OfStructure same.own_name same.parts ≡ OfStructure r.structure.name r.structure.parts = sym same.node ∙ (ap (λ (x : Phrase). x.node) (sym r_same) ∙ r.structure.is) in
          let parts : same.parts ≡ r.structure.parts = cc in
          subst (λ (x : Phrase). HaveSameParts ps vs x r.structure.parts s.phrase s.structure.parts) (sym r_same)
          (subst (λ (l : List Part). HaveSameParts ps vs same.mine l s.phrase s.structure.parts) parts
          (subst (λ (y : Phrase). HaveSameParts ps vs same.mine same.parts y s.structure.parts) (sym s_same) same.same))

  -- what names of parts lead to in the one structure they do in one with the same parts
  parts_lead : (names : List Naming) (b c : ℕ) (template : List ℕ) (r : NamesStructure ps b template) (s : NamesStructure ps c template) → HaveSameParts ps vs r.phrase r.structure.parts s.phrase s.structure.parts
      → LeadSomewhere (chosen names (components_at ps vs r.phrase r.phrase.node)) → LeadSomewhere (chosen names (components_at ps vs s.phrase s.phrase.node))
  parts_lead names b c template r s same some =
      lead_alike names (components_at ps vs r.phrase r.phrase.node) (components_at ps vs s.phrase s.phrase.node)
      (ap (λ (n : Node). paths_of (components_at ps vs r.phrase n)) r.structure.is
      ∙ (paths_same ps vs r.phrase s.phrase [] r.structure.parts s.structure.parts same ∙ sym (ap (λ (n : Node). paths_of (components_at ps vs s.phrase n)) s.structure.is)))
      some

  -- data that stand for others, of which names of parts lead to components
  module _ (k : ℕ) (p q : Phrase) (n : Naming) (ns : List Naming) (there : slice_get ps k ≡ Some p) (at : slice_get ps (standing_for ps k) ≡ Some q) (by_ : StandsBy k p q) where
    -- what data of a template stand for belongs to the COMPOOL
    pooled_home : (common : List Attribute) (item : Declared) → q.node ≡ OfItem common item → q.around.home ≡ by_.number
    pooled_home common item is =
        let first = all.found (key space.Declared by_.number by_.item.name.name) (standing_for ps k) by_.owned in
        let same = same_phrase ps (standing_for ps k) (standing_for ps k) first.declaring q first.there at refl in
        item_owner q common item (key space.Declared by_.number by_.item.name.name) is (ap declared_by (sym same) ∙ first.declares)

    -- names of parts lead to components of its structure, where they do in that of the template
    structures_lead : (other_common : List Attribute) (other : Declared) → q.node ≡ OfItem other_common other → IsSameData ps vs p by_.common by_.item.attributes q other_common other.attributes
        → (template : List ℕ) (r : NamesStructure ps p.around.block template) (s : NamesStructure ps q.around.block template) → template_of (type_of by_.common by_.item) ≡ Some template
        → LeadSomewhere (chosen (n ∷ ns) (components_at ps vs r.phrase r.phrase.node)) → LeadSomewhere (chosen (n ∷ ns) (components_at ps vs s.phrase s.phrase.node))
    structures_lead other_common other node same template r s typed some =
        by (same.structures template typed r.phrase s.phrase r.structure.parts s.structure.parts (ap (option_and_then (λ j. slice_get ps j)) r.meant ∙ r.there) (ap (option_and_then (λ j. slice_get ps j)) s.meant ∙ s.there)
        (structure_parts r.phrase r.structure.name r.structure.parts r.structure.is) (structure_parts s.phrase s.structure.name s.structure.parts s.structure.is))
      where
        by : (s.phrase.around.home ≡ q.around.home) ⊎ ((r.phrase.number ≡ s.phrase.number) ⊎ HaveSameParts ps vs r.phrase r.structure.parts s.phrase s.structure.parts)
            → LeadSomewhere (chosen (n ∷ ns) (components_at ps vs s.phrase s.phrase.node))
        by (inl inner) = parts_lead (n ∷ ns) p.around.block q.around.block template r s (pool_structure k p q there by_ template q.around.block r s (inner ∙ pooled_home other_common other node)) some
        by (inr (inl numbers)) =
            let one : r.phrase ≡ s.phrase = same_phrase ps r.number s.number r.phrase s.phrase r.there s.there (sym (all.counted r.number r.phrase r.there) ∙ (numbers ∙ all.counted s.number s.phrase s.there)) in
            subst (λ (x : Phrase). LeadSomewhere (chosen (n ∷ ns) (components_at ps vs x x.node))) one some
        by (inr (inr parts)) = parts_lead (n ∷ ns) p.around.block q.around.block template r s parts some

    -- and of the data, whose types name structures of one name
    typed_lead : (other_common : List Attribute) (other : Declared) → q.node ≡ OfItem other_common other → slice_get ps q.number ≡ Some q → IsSameData ps vs p by_.common by_.item.attributes q other_common other.attributes
        → (t : Option Kind) → type_of by_.common by_.item ≡ t → type_has ps p.around.block (n ∷ ns) t ≡ true → LeadSomewhere (chosen (n ∷ ns) (shape_of ps vs q other_common other).components)
    unfolding type_has template_of
    typed_lead other_common other node here same (Some (StructureKind place template copies)) typed has =
        let r = item_structure k p by_.common by_.item there by_.is place template copies typed in
        let named : template_of (type_of by_.common by_.item) ≡ Some template = ap template_of typed in
        let type = structure_typed (type_of other_common other) template (sym same.attributes.template ∙ named) in
        let s = item_structure q.number q other_common other here node type.0 template type.1 type.2 in
        let some = structures_lead other_common other node same template r s named (found_leads ps vs knows p.around.block template n ns r has) in
        subst (λ (t : Option Kind). LeadSomewhere (chosen (n ∷ ns) (shape_of_type ps vs q (other.attributes ++ other_common) t).components)) (sym (types_joined other.attributes other_common ∙ type.2))
        (subst (λ (cs : List Component). LeadSomewhere (chosen (n ∷ ns) cs)) (sym (components_found ps vs knows q.around.block template s)) some)
    typed_lead other_common other node here same None typed has = absurd (cc)
    typed_lead other_common other node here same (Some (IntegerKind place)) typed has = absurd (cc)
    typed_lead other_common other node here same (Some (BooleanKind place)) typed has = absurd (cc)
    typed_lead other_common other node here same (Some (EventKind place)) typed has = absurd (cc)
    typed_lead other_common other node here same (Some (BitKind place size)) typed has = absurd (cc)
    typed_lead other_common other node here same (Some (CharacterKind place size)) typed has = absurd (cc)

    -- so they do where rule 608 holds of the template
    item_pooled : (common : List Attribute) (item : Declared) → q.node ≡ OfItem common item → has_component ps p (n ∷ ns) p.node ≡ true → LeadSomewhere (chosen (n ∷ ns) (shape_of ps vs q common item).components)
    unfolding has_component sort_of
    item_pooled common item node has =
        let stands = all.stand k p by_.common by_.item by_.file by_.prefaces by_.unit there by_.is by_.home by_.file_is in
        let same : stands.phrase ≡ q = same_phrase ps stands.phrase.number (standing_for ps k) stands.phrase q stands.there at (sym stands.stands) in
        let nodes : OfItem stands.other_common stands.other ≡ OfItem common item = sym stands.declares ∙ (ap (λ (x : Phrase). x.node) same ∙ node) in
        let of_common : stands.other_common ≡ common = cc in
        let of_item : stands.other ≡ item = cc in
        let here : slice_get ps q.number ≡ Some q = subst (λ (x : Phrase). slice_get ps x.number ≡ Some x) same stands.there in
        let alike : IsSameData ps vs p by_.common by_.item.attributes q common item.attributes =
        subst (λ (x : Phrase). IsSameData ps vs p by_.common by_.item.attributes x common item.attributes) same
        (subst (λ (d : Declared). IsSameData ps vs p by_.common by_.item.attributes stands.phrase common d.attributes) of_item
        (subst (λ (xs : List Attribute). IsSameData ps vs p by_.common by_.item.attributes stands.phrase xs stands.other.attributes) of_common stands.same)) in
        typed_lead common item node here alike (type_of by_.common by_.item) refl (ap (has_component ps p (n ∷ ns)) (sym by_.is) ∙ has)

-- what is led to by a name of data that stand for others
pub pooled_leads : (s : Set) → KnowsTemplates s.phrases → s.constants ≡ known s.phrases → StandingLead s
pooled_leads s all constants k p q n ns there other at has _ _ _ (OfAnItem common item node) =
    let by_ = stands_by s.phrases all k p q there other at (ap unit_head node) in
    subst (λ (vs : Known). LeadSomewhere (chosen (n ∷ ns) (shape_of s.phrases vs q common item).components)) (sym constants) (item_pooled s.phrases all k p q n ns there at by_ common item node has)
pooled_leads s all constants k p q n ns there other at has _ _ _ (OfAGroup labels variable node) =
    let by_ = stands_by s.phrases all k p q there other at (ap unit_head node) in
    let stands = all.stand k p by_.common by_.item by_.file by_.prefaces by_.unit there by_.is by_.home by_.file_is in
    let same : stands.phrase ≡ q = same_phrase s.phrases stands.phrase.number (standing_for s.phrases k) stands.phrase q stands.there at (sym stands.stands) in
    let nodes : OfItem stands.other_common stands.other ≡ OfTemporaryGroup labels variable = sym stands.declares ∙ (ap (λ (x : Phrase). x.node) same ∙ node) in
    absurd (cc)
