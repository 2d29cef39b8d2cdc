-- What declares the data by which an argument goes has their shape: data of a written template that are structures have that of those for which they stand.
use Rattle.std.specs.Prelude.{◌≡◌, ℕ, false, List, Option, Some, None, slice_get}
use Rattle.std.proofs.Common.{refl, sym, ap, subst, ◌∙◌}
use Rattle.hal_base.specs.declared.refusal.Place.{Place}
use Rattle.hal_grammar.specs.Leaves.{Naming}
use Rattle.hal_grammar.specs.Expressions.{Expression}
use Rattle.hal_grammar.specs.Units.{File, Preface}
use Rattle.hal_phrases.specs.Phrases.{Node, Phrase, OfFile, OfItem, OfTemplate, OfUnit, OfTemporaryGroup}
use Rattle.hal_phrases.specs.GatheredUnits.{phrases_of}
use Rattle.hal_names.specs.Laws.{declared_or_around}
use Rattle.hal_names.specs.Means.{means}
use Rattle.hal_scope.specs.Rules.{IsSound, rows}
use Rattle.hal_scope.specs.Sorts.{type_of}
use Rattle.hal_types.specs.Rules.{type_rows}
use Rattle.hal_constants.specs.Known.{Known, known}
use Rattle.hal_templates.specs.Own.{template_of}
use Rattle.hal_meaning.specs.Bodies.{meant_at, pooled_at, standing_for}
use Rattle.hal_meaning.specs.Places.{Storing}
use Rattle.hal_meaning.specs.Sets.{set_of}
use Rattle.hal_gen_expr.specs.Led.{Led}
use Rattle.hal_fit_names.specs.Standing.{StandsForData}
use Rattle.hal_fit_names.specs.Suited.{HasFitLiterals}
use Rattle.hal_fit_names.proofs.Pooling.{AreHeld, HoldsData, IsPooled, NodeHeld, data_are_held}
use Rattle.hal_fit_names.proofs.Standing.{data_stand}
use Rattle.hal_right_images.proofs.paths.SameStructures.{declared_same}
use Rattle.hal_right_images.proofs.paths.Shapes.{IsOfStructure, of_template}
use Rattle.hal_right_images.proofs.rows.LookingUp.{LooksUp}
use Rattle.hal_right_images.proofs.rows.Rules.{among_at}
use Rattle.hal_right_images.proofs.rows.Templates.{NamesStructure}
use Rattle.hal_right_images.proofs.views.Laying.{IsData, IsDataAt, OfAGroup, OfAnItem}
use Rattle.hal_right_images.proofs.areas.Parameters.{KindsKnown}
use Rattle.hal_right_images.proofs.areas.Parting.{IsParted}
use Rattle.std.specs.Option.{option_and_then, option_map}
use Rattle.hal_grammar.specs.Declarations.{Attribute, Declared, Kind, IntegerKind, BooleanKind, EventKind, BitKind, CharacterKind, StructureKind}
use Rattle.hal_kinds.specs.Data.{is_structure_type}
use Rattle.hal_templates.specs.Agreeing.{Agree, BothOrNeither, HaveSameParts, IsSameData}
use Rattle.hal_templates.specs.Sizes.{copies_in}
use Rattle.hal_sizes.specs.Sizes.{size_in}
use Rattle.hal_meaning.specs.Elements.{Component, Shape, components_at, shape_of, size_given}
use Rattle.hal_fit_names.proofs.Placing.{items_are_placed}
use Rattle.hal_right_images.proofs.areas.Meaning.{IsGiven, IsItemFor, IsOwnItem, KnowsTemplates, same_at}
use Rattle.hal_right_images.proofs.areas.Structures.{copies_known, structured_shape}
use Rattle.hal_right_images.proofs.areas.TwinParts.{named_same, spelled_so, structure_of}
use Rattle.hal_right_images.proofs.areas.Twins.{agree_so}

-- as many copies
copies_shape : (ps : List Phrase) (p q : Phrase) (o r : Option Expression) → BothOrNeither (λ x y. Agree (size_in ps (known ps) p x) (size_in ps (known ps) q y)) o r
    → ((t : Expression) → o ≡ Some t → size_in ps (known ps) p t ≡ Some (size_given ps (known ps) p t)) → ((t : Expression) → r ≡ Some t → size_in ps (known ps) q t ≡ Some (size_given ps (known ps) q t))
    → option_map (size_given ps (known ps) p) o ≡ option_map (size_given ps (known ps) q) r
copies_shape ps p q None None agree one other = refl
copies_shape ps p q None (Some y) agree one other = absurd agree
copies_shape ps p q (Some x) None agree one other = absurd agree
copies_shape ps p q (Some x) (Some y) agree one other =
    ap Some (agree_so (size_in ps (known ps) p x) (size_in ps (known ps) q y) (size_given ps (known ps) p x) (size_given ps (known ps) q y) agree (one x refl) (other y refl))

abbrev formed_of : Option ℕ → List Component → Shape
formed_of copies cs = record { copies = copies; components = cs }

module _ (files : List File) (turns : ℕ) (looks : LooksUp (phrases_of files)) (named : IsSound rows (phrases_of files)) (typed : IsSound type_rows (phrases_of files)) (literals : HasFitLiterals (phrases_of files)) (kinds : KindsKnown (phrases_of files))
    (templates : KnowsTemplates (phrases_of files)) (outward : (block : ℕ) (name : List ℕ) → means (phrases_of files) block name ≡ declared_or_around (phrases_of files) block name) where
  abbrev ps : List Phrase
  ps = phrases_of files

  abbrev vs : Known
  vs = known (phrases_of files)

  -- structures that two phrases declare as the same have one shape
  module _ (k j : ℕ) (p q : Phrase) (common other_common : List Attribute) (item other : Declared) (there : slice_get ps k ≡ Some p) (at : slice_get ps j ≡ Some q) (is : p.node ≡ OfItem common item) (so : q.node ≡ OfItem other_common other)
      (same : IsSameData ps vs p common item.attributes q other_common other.attributes) (place : Place) (template : List ℕ) (copies : Option Expression) (type : type_of common item ≡ Some (StructureKind place template copies))
      (own_ : (mine : NamesStructure ps p.around.block template) (theirs : NamesStructure ps q.around.block template) → theirs.phrase.around.home ≡ q.around.home → HaveSameParts ps vs mine.phrase mine.structure.parts theirs.phrase theirs.structure.parts) where
    other_type : IsOfStructure template (type_of other_common other)
    unfolding template_of
    other_type = of_template (type_of other_common other) template (sym same.attributes.template ∙ ap template_of type)

    known_in : (n : ℕ) (x : Phrase) (c : List Attribute) (i : Declared) (spot : Place) (cs : Option Expression) → slice_get ps n ≡ Some x → x.node ≡ OfItem c i → type_of c i ≡ Some (StructureKind spot template cs)
        → (t : Expression) → cs ≡ Some t → size_in ps vs x t ≡ Some (size_given ps vs x t)
    known_in n x c i spot cs here node typed_ t some =
        copies_known ps named typed looks.counted looks.meant literals x c i spot template t node (typed_ ∙ ap (λ z. Some (StructureKind spot template z)) some) (items_are_placed files looks.counted x (among_at ps n x here))

    copies_so : option_map (size_given ps vs p) copies ≡ option_map (size_given ps vs q) other_type.copies
    unfolding copies_in
    copies_so =
        copies_shape ps p q copies other_type.copies
        (subst (λ o. BothOrNeither (λ x y. Agree (size_in ps vs p x) (size_in ps vs q y)) copies (copies_in o)) other_type.is
        (subst (λ o. BothOrNeither (λ x y. Agree (size_in ps vs p x) (size_in ps vs q y)) (copies_in o) (copies_in (type_of other_common other))) type same.attributes.copies))
        (known_in k p common item place copies there is type) (known_in j q other_common other other_type.place other_type.copies at so other_type.is)

    pub structure_shape : shape_of ps vs q other_common other ≡ shape_of ps vs p common item
    unfolding template_of
    structure_shape =
        let theirs : NamesStructure ps q.around.block template = structure_of files turns looks named typed literals kinds templates outward j q other_common other other_type.place template other_type.copies at so other_type.is in
        let mine : NamesStructure ps p.around.block template = structure_of files turns looks named typed literals kinds templates outward k p common item place template copies there is type in
        let components = named_same files turns looks named typed literals kinds templates outward p q template mine theirs (same.structures template (ap template_of type)) (own_ mine theirs) in
        structured_shape ps vs q other_common other theirs.number (record { place = other_type.place; template = template; copies = other_type.copies; typed = other_type.is; meant = theirs.meant }) theirs.phrase theirs.there
        ∙ (ap (formed_of (option_map (size_given ps vs q) other_type.copies)) (sym components)
        ∙ (ap (λ o. formed_of o (components_at ps vs mine.phrase mine.phrase.node)) (sym copies_so)
        ∙ sym (structured_shape ps vs p common item mine.number (record { place = place; template = template; copies = copies; typed = type; meant = mine.meant }) mine.phrase mine.there)))

  module _ (block : ℕ) (name : List ℕ) (l : Led) (its : IsData (set_of turns files) block name l.declared l.stored l.shape) (k : ℕ) (means_it : means ps block name ≡ Some k) (p : Phrase) (there : slice_get ps k ≡ Some p)
      (common : List Attribute) (item : Declared) (is : p.node ≡ OfItem common item) (place : Place) (template : List ℕ) (copies : Option Expression) (type : type_of common item ≡ Some (StructureKind place template copies)) where
    placed : standing_for ps k ≡ its.place
    placed = let so : Some (standing_for ps k) ≡ Some its.place = ap (λ (o : Option ℕ). elim o [ None ↦ None | Some n ↦ Some (standing_for ps n) ]) (sym means_it) ∙ its.means_it in cc

    -- the components of what stands there
    shape_at : (q : Phrase) (other_common : List Attribute) (other : Declared) → its.phrase ≡ q → q.node ≡ OfItem other_common other → l.shape ≡ shape_of ps vs q other_common other
    shape_at q other_common other same node = by l.declared l.stored l.shape its.is refl where
      by : (declared : ℕ) (way : Storing) (shape : Shape) → IsDataAt (set_of turns files) its.phrase declared way shape → l.shape ≡ shape → l.shape ≡ shape_of ps vs q other_common other
      by _ _ _ (OfAnItem own_common own own_node) shape =
          let nodes : OfItem own_common own ≡ OfItem other_common other = sym own_node ∙ (ap (λ (x : Phrase). x.node) same ∙ node) in
          let commons : own_common ≡ other_common = cc in
          let items : own ≡ other = cc in
          shape ∙ (ap (λ (x : Phrase). shape_of ps vs x own_common own) same ∙ (ap (λ c. shape_of ps vs q c own) commons ∙ ap (shape_of ps vs q other_common) items))
      by _ _ _ (OfAGroup labels variable own_node) shape = absurd (let nodes : OfTemporaryGroup labels variable ≡ OfItem other_common other = sym own_node ∙ (ap (λ (x : Phrase). x.node) same ∙ node) in cc)

    abbrev Owned : Type 0
    Owned = IsOwnItem ps block name l

    made_of : l.shape ≡ shape_of ps vs p common item → Owned
    made_of same = record { number = k; means_it = means_it; phrase = p; there = there; common = common; item = item; node = is; shape = same }

    -- data that stand for themselves
    itself : standing_for ps k ≡ k → Owned
    itself own_ =
        let here : slice_get ps its.place ≡ Some p = ap (slice_get ps) (sym placed ∙ own_) ∙ there in
        made_of (shape_at p common item (let both : Some its.phrase ≡ Some p = sym its.there ∙ here in cc) is)

    -- data of a written template of a COMPOOL
    pooled_so : (f : Phrase) (prefaces : List Preface) (unit : Naming) → slice_get ps p.around.home ≡ Some f → f.node ≡ OfFile prefaces unit → IsPooled ps p.around.home prefaces item.name.name → StandsForData ps k p common item → Owned
    pooled_so f prefaces unit home file pool stands =
        let q : Phrase = stands.phrase in
        let at : its.phrase ≡ q = same_at ps its.place q.number its.phrase q its.there stands.there (sym placed ∙ stands.stands) in
        made_of
        (shape_at q stands.other_common stands.other at stands.declares
        ∙ structure_shape k q.number p q common stands.other_common item stands.other there stands.there is stands.declares stands.same place template copies type
        (λ mine theirs same_home.
        declared_same files named looks.counted templates.gives looks.found outward k p common item there is stands f prefaces unit home file pool template mine.number theirs.number mine.phrase theirs.phrase mine.structure.name
        theirs.structure.name mine.structure.parts theirs.structure.parts mine.meant mine.there mine.structure.is theirs.meant theirs.there theirs.structure.is
        (spelled_so files turns looks named typed literals kinds templates outward q.around.block template theirs) same_home))

    -- either of them
    pub item_is : Owned
    item_is = by held.phrase.node refl held.holds where
      held : AreHeld ps p.around.home item.name.name
      held = subst (NodeHeld ps p) is (data_are_held files p (among_at ps k p there))

      none : (m : Node) → held.phrase.node ≡ m → pooled_at ps item.name.name m ≡ None → standing_for ps k ≡ k
      none m node is_none =
          ap (λ (o : Option ℕ). elim o [ None ↦ k | Some other ↦ other ])
          (ap (option_and_then (λ (r : Phrase). meant_at ps r r.node)) there
          ∙ (ap (meant_at ps p) is ∙ (ap (option_and_then (λ (h : Phrase). pooled_at ps item.name.name h.node)) held.there ∙ (ap (pooled_at ps item.name.name) node ∙ is_none))))

      by : (m : Node) → held.phrase.node ≡ m → HoldsData ps p.around.home m item.name.name → Owned
      by (OfFile prefaces unit) node holds = pooled_so held.phrase prefaces unit held.there node holds (data_stand files named templates.gives k p common item there is held.phrase prefaces unit held.there node)
      by (OfUnit unit head declarations) node holds = itself (none (OfUnit unit head declarations) node refl)
      by (OfTemplate unit head declarations) node holds = itself (none (OfTemplate unit head declarations) node refl)
      by other node holds = absurd holds

    -- so its components are known
    pub parted_is : IsParted ps block name l
    parted_is =
        let own_ = item_is in
        record { number = own_.number; means_it = own_.means_it; phrase = own_.phrase; there = own_.there; common = own_.common; item = own_.item; node = own_.node; components = ap (λ (x : Shape). x.components) own_.shape }

  -- what declares the data by which an argument goes has their shape, whether they are a structure or not
  module _ (block : ℕ) (name : List ℕ) (l : Led) (its : IsData (set_of turns files) block name l.declared l.stored l.shape) (given_ : IsGiven ps block name l) (one : IsItemFor ps given_.phrase l) where
    plainly : (o : Option Kind) → type_of one.common one.item ≡ o → is_structure_type o ≡ false → IsOwnItem ps block name l
    plainly o type plain = record {
      number = given_.number;
      means_it = given_.means_it;
      phrase = given_.phrase;
      there = given_.there;
      common = one.common;
      item = one.item;
      node = one.node;
      shape = one.shape (ap is_structure_type type ∙ plain);
    }

    pub given_item : IsOwnItem ps block name l
    unfolding is_structure_type
    given_item = by (type_of one.common one.item) refl where
      by : (o : Option Kind) → type_of one.common one.item ≡ o → IsOwnItem ps block name l
      by (Some (StructureKind place template copies)) type = item_is block name l its given_.number given_.means_it given_.phrase given_.there one.common one.item one.node place template copies type
      by None type = plainly None type refl
      by (Some (IntegerKind place)) type = plainly (Some (IntegerKind place)) type refl
      by (Some (BooleanKind place)) type = plainly (Some (BooleanKind place)) type refl
      by (Some (EventKind place)) type = plainly (Some (EventKind place)) type refl
      by (Some (BitKind place size)) type = plainly (Some (BitKind place size)) type refl
      by (Some (CharacterKind place size)) type = plainly (Some (CharacterKind place size)) type refl
