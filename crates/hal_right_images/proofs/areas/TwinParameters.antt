-- The parameter that a written template declares of its unit has the same structure, where it is one.
use Rattle.std.specs.Prelude.{◌≡◌, ◌⊎◌, ◌&&◌, ℕ, Bool, true, false, cond, List, [], ◌∷◌, filter, Option, Some, None, slice_get, if◌then◌else◌}
use Rattle.std.specs.List.{list_any}
use Rattle.std.proofs.Common.{refl, sym, ap, subst, ◌∙◌, inl, inr}
use Rattle.std.proofs.lemmas.Slice.Eq.{bytes_eq-Decides}
use Rattle.hal_base.specs.declared.refusal.Place.{Place}
use Rattle.hal_grammar.specs.Leaves.{Naming}
use Rattle.hal_grammar.specs.Expressions.{Expression}
use Rattle.hal_grammar.specs.Declarations.{Kind, IntegerKind, BooleanKind, EventKind, BitKind, CharacterKind, StructureKind, Attribute, Declaration, Declared, Part}
use Rattle.hal_grammar.specs.Units.{Compool, File, Head, Program, Task, Procedure, Function}
use Rattle.hal_phrases.specs.Phrases.{Node, Phrase, OfItem, OfStructure}
use Rattle.hal_phrases.specs.GatheredUnits.{phrases_of}
use Rattle.hal_names.specs.declared.key.Key.{Key}
use Rattle.hal_names.specs.declared.key.Space.TheVariants as space
use Rattle.hal_names.specs.Keys.{declared_at, declared_by, key, own}
use Rattle.hal_names.specs.Laws.{declared_or_around}
use Rattle.hal_names.specs.Means.{means}
use Rattle.hal_scope.specs.Rules.{IsAmong, IsSound, rows}
use Rattle.hal_scope.specs.Sorts.{type_of}
use Rattle.hal_kinds.specs.Data.{is_structure_type}
use Rattle.hal_types.specs.Rules.{type_rows}
use Rattle.hal_constants.specs.Known.{Known, known}
use Rattle.hal_constants.specs.Naming.{is_value_item}
use Rattle.hal_templates.specs.Agreeing.{HaveSameParts}
use Rattle.hal_templates.specs.Entries.{entries}
use Rattle.hal_templates.specs.Giving.{AreSameNames, IsData, IsOwn, IsSameName, IsStructure}
use Rattle.hal_templates.specs.Own.{is_name, is_parameter_of, is_shown, needs, own_entries, template_of}
use Rattle.hal_templates.specs.Heads.{is_compool}
use Rattle.hal_templates.specs.Templates.{home_of}
use Rattle.hal_shapes.specs.Arguments.{parameter_of}
use Rattle.hal_meaning.specs.Bodies.{declares, is_called_head}
use Rattle.hal_meaning.specs.Calls.{Parameter, parameter_named, parameter_shape}
use Rattle.hal_meaning.specs.Elements.{shape_of}
use Rattle.hal_meaning.specs.Sets.{Set, set_of}
use Rattle.hal_fit_names.specs.Suited.{HasFitLiterals}
use Rattle.hal_fit_names.specs.Used.{HaveSizes, IsDeclaredParameter}
use Rattle.hal_fit_names.proofs.Pooling.{AreHeld, HoldsData, data_are_held}
use Rattle.hal_fit_names.proofs.Pooling as pooling
use Rattle.hal_fit_names.proofs.Standing.{IsEntry, declared_entry}
use Rattle.hal_fit_names.proofs.Twins.{IsTwin, parameter_twin}
use Rattle.hal_right_images.proofs.paths.Held.{IsDeclaredBy, NodeHeld, all_held}
use Rattle.hal_right_images.proofs.paths.SameStructures.{own_home, own_same}
use Rattle.hal_right_images.proofs.paths.Shapes.{IsOfStructure, of_template}
use Rattle.hal_right_images.proofs.rows.LookingUp.{LooksUp}
use Rattle.hal_right_images.proofs.rows.Rules.{among_at}
use Rattle.hal_right_images.proofs.rows.Templates.{NamesStructure}
use Rattle.hal_right_images.proofs.rows.Told.{HasParameter}
use Rattle.hal_right_images.specs.areas.Structured.{is_structured, is_structured_node}
use Rattle.hal_right_images.proofs.areas.Callees.{IsCallee}
use Rattle.hal_right_images.proofs.areas.Meaning.{KnowsTemplates, same_at}
use Rattle.hal_right_images.proofs.areas.Parametered.{found_own, parameter_from, parameter_is}
use Rattle.hal_right_images.proofs.areas.Parameters.{KindsKnown, item_stored, there_is}
use Rattle.hal_right_images.proofs.areas.TwinParts.{spelled_so}
use Rattle.hal_right_images.proofs.areas.TwinStructures.{structure_shape}
use Rattle.hal_right_images.proofs.areas.Unarrayed.{any_there}

-- what passes is kept
passing_kept : (test : Node → Bool) (x : Node) (xs : List Node) → test x ≡ true → IsAmong x xs → IsAmong x (filter test xs)
passing_kept test x [] is within = absurd within
passing_kept test x (y ∷ ys) is within = by (test y) refl within (passing_kept test x ys is) where
  by : (b : Bool) → test y ≡ b → (x ≡ y) ⊎ IsAmong x ys → (IsAmong x ys → IsAmong x (filter test ys)) → IsAmong x (cond b (y ∷ filter test ys) (filter test ys))
  by true passes (inl same) rest = inl same
  by true passes (inr later) rest = inr (rest later)
  by false passes (inl same) rest = absurd (let other : true ≡ false = sym is ∙ (ap test same ∙ passes) in cc)
  by false passes (inr later) rest = rest later

-- the own template of a unit that is called shows what it is to
shown_entry : (ps : List Phrase) (u : ℕ) (head : Head) (declarations : List Declaration) → is_called_head head ≡ true → (x : Node) → is_shown ps u (entries declarations) x ≡ true → IsAmong x (entries declarations) → IsAmong x (own_entries ps u head declarations)
unfolding own_entries
shown_entry ps u (Program place) declarations called x shown within = absurd (cc)
shown_entry ps u (Task place) declarations called x shown within = absurd (cc)
shown_entry ps u (Compool place) declarations called x shown within = absurd (cc)
shown_entry ps u (Procedure place inputs outputs mode) declarations called x shown within = passing_kept (is_shown ps u (entries declarations)) x (entries declarations) shown within
shown_entry ps u (Function place inputs returns mode) declarations called x shown within = passing_kept (is_shown ps u (entries declarations)) x (entries declarations) shown within

-- what declares data that are the same as some
record IsShownItem (ps : List Phrase) (u : ℕ) (common : List Attribute) (item : Declared) : Type 0 where
  phrase : Phrase
  owned : IsOwn ps u item.name.name phrase
  node : phrase.node ≡ OfItem common item

item_by : {ps : List Phrase} {h u : ℕ} {x y : Node} → IsSameName ps (known ps) h u x y → (common : List Attribute) (item : Declared) → y ≡ OfItem common item → IsShownItem ps u common item
item_by {ps = ps} {h = h} {u = u} (IsData c other_common a b p q named mine this theirs that means_) common item is =
    let of_item : b ≡ item = cc in
    record { phrase = q; owned = subst (λ (d : Declared). IsOwn ps u d.name.name q) of_item theirs; node = that ∙ is }
item_by (IsStructure name other xs ys p q named mine this theirs that parts) common item is = absurd (cc)

item_shown : (ps : List Phrase) (h : ℕ) (xs : List Node) (u : ℕ) (ys : List Node) → AreSameNames ps (known ps) h xs u ys → (common : List Attribute) (item : Declared) → IsAmong (OfItem common item) ys → IsShownItem ps u common item
item_shown ps h [] u [] same common item within = absurd within
item_shown ps h [] u (y ∷ ys) same common item within = absurd same
item_shown ps h (x ∷ xs) u [] same common item within = absurd within
item_shown ps h (x ∷ xs) u (y ∷ ys) same common item (inl is) = item_by same.0 common item (sym is)
item_shown ps h (x ∷ xs) u (y ∷ ys) same common item (inr later) = item_shown ps h xs u ys same.1 common item later

some_number : {m n : ℕ} → Some m ≡ Some n → m ≡ n
some_number is = cc

both_true : (a b : Bool) → a ≡ true → b ≡ true → (a && b) ≡ true
both_true true b one other = other
both_true false b one other = absurd (cc)

-- no COMPOOL is called
none_pooled : (head : Head) → is_called_head head ≡ true → is_compool head ≡ false
unfolding is_compool
none_pooled (Program place) called = absurd (cc)
none_pooled (Task place) called = absurd (cc)
none_pooled (Compool place) called = absurd (cc)
none_pooled (Procedure place inputs outputs mode) called = refl
none_pooled (Function place inputs returns mode) called = refl

-- the type of what a node declares
abbrev type_in : Node → Option Kind
type_in (OfItem common item) = type_of common item
type_in other = None

-- what declares a parameter that is a structure for the checks, where the declaration of the unit that they see is the one with this number
pub record IsStructureFor (s : Set) (unit declared : ℕ) (name : Naming) : Type 0 where
  pub phrase : Phrase
  pub found : parameter_of s.phrases declared name ≡ Some phrase
  pub common : List Attribute
  pub item : Declared
  pub node : phrase.node ≡ OfItem common item
  pub within : IsAmong phrase s.phrases
  pub structured : is_structure_type (type_of common item) ≡ true
  pub shape : (parameter_named s unit name).shape ≡ shape_of s.phrases s.constants phrase common item

-- the type of a structure
some_structure : (o : Option Kind) → is_structure_type o ≡ true → (place : Place) × (template : List ℕ) × (copies : Option Expression) × (o ≡ Some (StructureKind place template copies))
unfolding is_structure_type
some_structure (Some (StructureKind place template copies)) is = (place, template, copies, refl)
some_structure None is = absurd (cc)
some_structure (Some (IntegerKind place)) is = absurd (cc)
some_structure (Some (BooleanKind place)) is = absurd (cc)
some_structure (Some (EventKind place)) is = absurd (cc)
some_structure (Some (BitKind place size)) is = absurd (cc)
some_structure (Some (CharacterKind place size)) is = absurd (cc)

module _ (files : List File) (turns : ℕ) (looks : LooksUp (phrases_of files)) (named : IsSound rows (phrases_of files)) (typed : IsSound type_rows (phrases_of files)) (literals : HasFitLiterals (phrases_of files)) (kinds : KindsKnown (phrases_of files))
    (dimensioned : HaveSizes (phrases_of files)) (templates : KnowsTemplates (phrases_of files)) (outward : (block : ℕ) (name : List ℕ) → means (phrases_of files) block name ≡ declared_or_around (phrases_of files) block name) where
  abbrev s : Set
  s = set_of turns files

  abbrev ps : List Phrase
  ps = phrases_of files

  abbrev vs : Known
  vs = known (phrases_of files)

  module _ (block : ℕ) (called : List ℕ) (unit : ℕ) (name : Naming) (c : IsCallee ps block called unit) where
    abbrev u : ℕ
    u = c.unit_at.phrase.number

    abbrev shown : List Node
    shown = own_entries ps c.unit_at.phrase.number c.unit_at.head c.unit_at.declarations

    unit_there : slice_get ps u ≡ Some c.unit_at.phrase
    unit_there = ap (slice_get ps) c.unit_at.number ∙ c.unit_at.there

    -- what the template declares of a parameter, and what the unit does
    module _ (meanings : AreSameNames ps vs (home_of c.phrase c.head) (entries c.declarations) u shown) (parameter : is_parameter_of ps u name.name ≡ true) (twin : IsTwin ps c.declared u name.name)
        (place : Place) (template : List ℕ) (copies : Option Expression) (type : type_of twin.other_common twin.other_item ≡ Some (StructureKind place template copies)) where
      same_names : AreSameNames ps vs c.declared (entries c.declarations) u shown
      same_names =
          subst (λ h. AreSameNames ps vs h (entries c.declarations) u shown)
          (ap (λ b. if b then c.phrase.around.home else c.phrase.number) (none_pooled c.head c.called) ∙ looks.counted c.declared c.phrase c.there) meanings

      other_home : twin.other.around.home ≡ u
      other_home = own_home ps looks.found twin.other u name.name twin.other_common twin.other_item twin.declares_other twin.theirs

      mine_home : twin.phrase.around.home ≡ c.declared
      mine_home = own_home ps looks.found twin.phrase c.declared name.name twin.common twin.item twin.declares_it twin.mine

      item_named : twin.other_item.name.name ≡ name.name
      unfolding declared_at
      item_named =
          let first = looks.found (key space.Declared u name.name) twin.other.number twin.theirs.found in
          let one = same_at ps twin.other.number twin.other.number first.declaring twin.other first.there twin.theirs.there refl in
          let keyed : Some (key space.Declared twin.other.around.home twin.other_item.name.name) ≡ Some (key space.Declared u name.name) =
          ap (declared_at twin.other.number twin.other.around) (sym twin.declares_other) ∙ (ap declared_by (sym one) ∙ first.declares) in
          ap (λ (o : Option Key). elim o [ None ↦ [] | Some w ↦ w.name ]) keyed

      -- the unit declares it
      says : list_any (declares twin.other_item.name.name) c.unit_at.declarations ≡ true
      says =
          let held : AreHeld ps twin.other.around.home twin.other_item.name.name =
          subst (pooling.NodeHeld ps twin.other) twin.declares_other (data_are_held files twin.other (among_at ps twin.other.number twin.other twin.theirs.there)) in
          let unit_same : held.phrase ≡ c.unit_at.phrase = same_at ps twin.other.around.home u held.phrase c.unit_at.phrase held.there unit_there other_home in
          subst (λ (n : Node). HoldsData ps twin.other.around.home n twin.other_item.name.name) (ap (λ (p : Phrase). p.node) unit_same ∙ c.unit_at.is) held.holds

      abbrev entry : IsEntry twin.other_item.name.name (entries c.unit_at.declarations)
      entry = declared_entry twin.other_item.name.name c.unit_at.declarations says

      entry_parameter : is_parameter_of ps u entry.item.name.name ≡ true
      entry_parameter = ap (is_parameter_of ps u) (entry.named ∙ item_named) ∙ parameter

      entry_shown : IsAmong (OfItem entry.common entry.item) shown
      unfolding is_shown
      entry_shown = shown_entry ps u c.unit_at.head c.unit_at.declarations c.unit_at.called (OfItem entry.common entry.item) entry_parameter entry.within

      -- so it is of the structure's type
      entry_type : type_of entry.common entry.item ≡ Some (StructureKind place template copies)
      entry_type =
          let it = item_shown ps c.declared (entries c.declarations) u shown same_names entry.common entry.item entry_shown in
          let one = same_at ps it.phrase.number twin.other.number it.phrase twin.other it.owned.there twin.theirs.there
          (some_number (sym it.owned.found ∙ (ap (λ n. own ps (key space.Declared u n)) (entry.named ∙ item_named) ∙ twin.theirs.found))) in
          ap type_in (sym it.node ∙ (ap (λ (x : Phrase). x.node) one ∙ twin.declares_other)) ∙ type

      -- and the structure is one that the template has to declare
      needs_so : (structure : List ℕ) → structure ≡ template → needs ps u structure (OfItem entry.common entry.item) ≡ true
      unfolding needs is_name template_of
      needs_so structure is =
          both_true (is_name structure (template_of (type_of entry.common entry.item))) (is_parameter_of ps u entry.item.name.name)
          (ap (λ (o : Option Kind). is_name structure (template_of o)) entry_type ∙ (bytes_eq-Decides template structure).1 (sym is)) entry_parameter

      structure_shown : (structure : Naming) (parts : List Part) → structure.name ≡ template → IsAmong (OfStructure structure parts) (entries c.unit_at.declarations) → IsAmong (OfStructure structure parts) shown
      unfolding is_shown
      structure_shown structure parts is within =
          shown_entry ps u c.unit_at.head c.unit_at.declarations c.unit_at.called (OfStructure structure parts)
          (any_there (needs ps u structure.name) (entries c.unit_at.declarations) (OfItem entry.common entry.item) entry.within (needs_so structure.name is)) within

      own_parts : (mine : NamesStructure ps twin.phrase.around.block template) (theirs : NamesStructure ps twin.other.around.block template) → theirs.phrase.around.home ≡ twin.other.around.home
          → HaveSameParts ps vs mine.phrase mine.structure.parts theirs.phrase theirs.structure.parts
      own_parts mine theirs home =
          let there = home ∙ other_home in
          let held : IsDeclaredBy ps theirs.phrase.around.home (OfStructure theirs.structure.name theirs.structure.parts) =
          subst (NodeHeld ps theirs.phrase) theirs.structure.is (all_held files theirs.phrase (among_at ps theirs.number theirs.phrase theirs.there)) in
          let within = held c.unit_at.phrase c.unit_at.own c.unit_at.head c.unit_at.declarations (ap (slice_get ps) there ∙ unit_there) c.unit_at.is in
          let spelled = spelled_so files turns looks named typed literals kinds templates outward twin.other.around.block template theirs in
          own_same files named outward c.declared u (entries c.declarations) shown same_names twin.phrase twin.common twin.item (among_at ps twin.phrase.number twin.phrase twin.mine.there) twin.declares_it mine_home template mine.number theirs.number
          mine.phrase theirs.phrase mine.structure.name theirs.structure.name mine.structure.parts theirs.structure.parts mine.meant mine.there mine.structure.is theirs.there theirs.structure.is spelled there
          (structure_shown theirs.structure.name theirs.structure.parts spelled within)

      twin_type : IsOfStructure template (type_of twin.common twin.item)
      unfolding template_of
      twin_type = of_template (type_of twin.common twin.item) template (twin.same.attributes.template ∙ ap template_of type)

      twin_structure : shape_of ps vs twin.other twin.other_common twin.other_item ≡ shape_of ps vs twin.phrase twin.common twin.item
      twin_structure =
          structure_shape files turns looks named typed literals kinds templates outward twin.phrase.number twin.other.number twin.phrase twin.other twin.common twin.other_common twin.item twin.other_item twin.mine.there twin.theirs.there
          twin.declares_it twin.declares_other twin.same twin_type.place template twin_type.copies twin_type.is own_parts

    -- a parameter of the unit that is a structure
    module _ (listed : (output : Bool) × HasParameter ps unit name output) (r : Phrase) (found : parameter_of ps unit name ≡ Some r) (common : List Attribute) (item : Declared) (node : r.node ≡ OfItem common item)
        (structured : is_structure_type (type_of common item) ≡ true) where
      shape_so : (parameter_named s unit name).shape ≡ shape_of ps vs r common item
      shape_so = ap (λ (q : Parameter). q.shape) (parameter_is s unit name ∙ ap (parameter_from s) found) ∙ ap (parameter_shape s r) node

      stored_so : IsAmong r ps × (is_value_item common item ≡ false)
      stored_so = item_stored ps looks typed unit name listed.0 listed.1 r found common item node

      -- its own
      own_for : c.declared ≡ unit → IsStructureFor s unit c.declared name
      own_for same = record { phrase = r; found = ap (λ k. parameter_of ps k name) same ∙ found; common = common; item = item; node = node; within = stored_so.0; structured = structured; shape = shape_so }

      -- that of its template
      written_for : AreSameNames ps vs (home_of c.phrase c.head) (entries c.declarations) u shown → IsStructureFor s unit c.declared name
      unfolding template_of is_structure_type
      written_for meanings =
          let number : unit ≡ u = sym c.unit_at.number in
          let declared_so : IsDeclaredParameter ps u name =
          subst (λ k. IsDeclaredParameter ps k name) number
          (record { phrase = r; found = found; common = common; item = item; declares = node; dimensioned = dimensioned r common item stored_so.0 node; stored = stored_so.1 }) in
          let parameter : is_parameter_of ps u name.name ≡ true = subst (λ k. is_parameter_of ps k name.name ≡ true) number (there_is ps looks typed unit name listed.0 listed.1) in
          let twin : IsTwin ps c.declared u name.name =
          parameter_twin files looks.counted looks.found c.phrase c.unit_at.phrase c.own c.unit_at.own c.head c.unit_at.head c.declarations c.unit_at.declarations c.declared c.there c.called c.unit_at.called unit_there c.unit_at.is meanings name
          declared_so parameter in
          let other_found : parameter_of ps unit name ≡ Some twin.other = subst (λ k. parameter_of ps k name ≡ Some twin.other) c.unit_at.number (found_own ps u name twin.other twin.theirs) in
          let other_is : r ≡ twin.other = (let both : Some r ≡ Some twin.other = sym found ∙ other_found in cc) in
          let nodes : OfItem common item ≡ OfItem twin.other_common twin.other_item = sym node ∙ (ap (λ (x : Phrase). x.node) other_is ∙ twin.declares_other) in
          let other_type = some_structure (type_of twin.other_common twin.other_item) (ap (λ (n : Node). is_structure_type (type_in n)) (sym nodes) ∙ structured) in
          let type = twin_type meanings parameter twin other_type.0 other_type.1 other_type.2 other_type.3 in
          let commons : common ≡ twin.other_common = cc in
          let items : item ≡ twin.other_item = cc in
          record {
            phrase = twin.phrase;
            found = found_own ps c.declared name twin.phrase twin.mine;
            common = twin.common;
            item = twin.item;
            node = twin.declares_it;
            within = among_at ps twin.phrase.number twin.phrase twin.mine.there;
            structured = ap is_structure_type type.is;
            shape = shape_so
                ∙ (ap (λ (x : Phrase). shape_of ps vs x common item) other_is
                ∙ (ap (λ x. shape_of ps vs twin.other x item) commons
                ∙ (ap (shape_of ps vs twin.other twin.other_common) items ∙ twin_structure meanings parameter twin other_type.0 other_type.1 other_type.2 other_type.3)));
          }

      by_kind : (c.declared ≡ unit) ⊎ AreSameNames ps vs (home_of c.phrase c.head) (entries c.declarations) u shown → IsStructureFor s unit c.declared name
      by_kind (inl same) = own_for same
      by_kind (inr meanings) = written_for meanings

    pub structure_for : (output : Bool) × HasParameter ps unit name output → is_structured ps unit name ≡ true → IsStructureFor s unit c.declared name
    structure_for listed = by (parameter_of ps unit name) refl where
      by_node : (r : Phrase) → parameter_of ps unit name ≡ Some r → (node : Node) → r.node ≡ node → is_structured_node node ≡ true → IsStructureFor s unit c.declared name
      by_node r found (OfItem common item) node is = by_kind listed r found common item node is c.same
      by_node r found other node is = absurd (cc)

      by : (o : Option Phrase) → parameter_of ps unit name ≡ o → elim o [ None ↦ false | Some p ↦ is_structured_node p.node ] ≡ true → IsStructureFor s unit c.declared name
      by None none is = absurd (cc)
      by (Some r) found is = by_node r found r.node refl is
