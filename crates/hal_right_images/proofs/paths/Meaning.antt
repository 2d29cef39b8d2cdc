-- What a name with a path means in a set that breaks no rule: data of a structure of the unit itself, or those of a COMPOOL that its template's data stand for.
use Rattle.std.proofs.Common.{◌≡◌, ℕ, true, List, [], ◌∷◌, Option, Some, None, slice_get, refl, sym, ap, ◌∙◌, subst}
use Rattle.std.specs.Option.{option_and_then}
use Rattle.hal_base.specs.declared.refusal.Place.{Place}
use Rattle.hal_grammar.specs.Leaves.{Naming}
use Rattle.hal_grammar.specs.Expressions.{Expression}
use Rattle.hal_grammar.specs.Declarations.{Attribute, Declaration, Declared, Kind, IntegerKind, BooleanKind, EventKind, BitKind, CharacterKind, StructureKind}
use Rattle.hal_grammar.specs.Units.{File, Head, Preface}
use Rattle.hal_phrases.specs.Phrases.{Node, Phrase, OfFile, OfItem, OfTemplate, OfUnit}
use Rattle.hal_phrases.specs.GatheredUnits.{phrases_of}
use Rattle.hal_names.specs.declared.key.Key.{Key}
use Rattle.hal_names.specs.declared.key.Space.TheVariants as space
use Rattle.hal_names.specs.Keys.{declared_at, declared_by, key, own}
use Rattle.hal_names.specs.Laws.{declared_or_around, IsCounted, IsFirst, IsUndeclared}
use Rattle.hal_names.specs.Means.{means}
use Rattle.hal_scope.specs.Components.{type_has}
use Rattle.hal_scope.specs.Rules.{IsAmong, IsSound, rows}
use Rattle.hal_scope.specs.Sorts.{type_of}
use Rattle.hal_kinds.specs.Data.{data_at}
use Rattle.hal_types.specs.Rules.{type_rows}
use Rattle.hal_constants.specs.Known.{known}
use Rattle.hal_templates.specs.Giving.{GivesItsUnit}
use Rattle.hal_templates.specs.Own.{template_of}
use Rattle.hal_meaning.specs.Bodies.{meant_at, pooled_at, standing_for}
use Rattle.hal_meaning.specs.Elements.{Component, Shape, components_at, shape_of}
use Rattle.hal_fit_rules.specs.Agreeing.{AreAlike}
use Rattle.hal_fit_names.specs.Standing.{StandsForData}
use Rattle.hal_fit_names.specs.Suited.{AreDeclared, HasFitLiterals}
use Rattle.hal_fit_names.proofs.Placing.{at_among}
use Rattle.hal_fit_names.proofs.Pooling.{AreHeld, HoldsData, IsPooled, NodeHeld, data_are_held}
use Rattle.hal_fit_names.proofs.Standing.{data_stand}
use Rattle.hal_fit_parts.proofs.Alike.{shaped_so}
use Rattle.hal_fit_parts.proofs.Standing.{AreStanding}
use Rattle.hal_right_images.proofs.rows.Templates.{NamesStructure, names_structure}
use Rattle.hal_right_images.proofs.rows.Told.{IsTold, IsToldNode}
use Rattle.hal_right_images.proofs.paths.Ends.{HasEnd, end_alike, has_end}
use Rattle.hal_right_images.proofs.paths.Referring.{LeadsIn}
use Rattle.hal_right_images.proofs.paths.SameStructures.{declared_same}
use Rattle.hal_right_images.proofs.paths.Shapes.{IsOfStructure, named_twins, of_template}
use Rattle.hal_right_images.proofs.paths.Twins.{AreTwins, themselves}

-- data that a phrase declares stand for data of a structure; and what stands at the end of a path of theirs is alike for the checks and for the meaning
pub record MeansAlike (ps : List Phrase) (k : ℕ) (p : Phrase) (common : List Attribute) (item : Declared) (path : List Naming) : Type 0 where
  pub phrase : Phrase
  pub stands : standing_for ps k ≡ phrase.number
  pub there : slice_get ps phrase.number ≡ Some phrase
  pub other_common : List Attribute
  pub other : Declared
  pub declares : phrase.node ≡ OfItem other_common other
  pub place : Place
  pub template : List ℕ
  pub copies : Option Expression
  pub typed : type_of other_common other ≡ Some (StructureKind place template copies)
  pub alike : AreAlike (data_at ps p path (OfItem common item)) path (shape_of ps (known ps) phrase other_common other)

-- a shape has these components
by_components : (cs ds : List Component) (shape : Shape) → shape.components ≡ ds → AreTwins cs ds → AreTwins cs shape.components
by_components cs ds shape is twins = subst (λ (es : List Component). AreTwins cs es) (sym is) twins

-- a type that has parts to which a path leads names a structure
record HasTemplate (ps : List Phrase) (block : ℕ) (path : List Naming) (o : Option Kind) : Type 0 where
  place : Place
  template : List ℕ
  copies : Option Expression
  typed : o ≡ Some (StructureKind place template copies)
  has : type_has ps block path (Some (StructureKind place template copies)) ≡ true

-- such a type is that of a structure
has_template : (ps : List Phrase) (block : ℕ) (path : List Naming) (o : Option Kind) → type_has ps block path o ≡ true → HasTemplate ps block path o
unfolding type_has
has_template ps block path (Some (StructureKind place template copies)) is = record { place = place; template = template; copies = copies; typed = refl; has = is }
has_template ps block path None is = absurd (cc)
has_template ps block path (Some (IntegerKind place)) is = absurd (cc)
has_template ps block path (Some (BooleanKind place)) is = absurd (cc)
has_template ps block path (Some (EventKind place)) is = absurd (cc)
has_template ps block path (Some (BitKind place size)) is = absurd (cc)
has_template ps block path (Some (CharacterKind place size)) is = absurd (cc)

module _ (files : List File) (named : IsSound rows (phrases_of files)) (sound : IsSound type_rows (phrases_of files)) (counted : IsCounted (phrases_of files)) (declared : AreDeclared (phrases_of files)) (literals : HasFitLiterals (phrases_of files))
    (gives : (p : Phrase) (name : Naming) (head : Head) (declarations : List Declaration) → IsAmong p (phrases_of files) → p.node ≡ OfTemplate name head declarations → GivesItsUnit (phrases_of files) p name head declarations)
    (found : (q : Key) (n : ℕ) → own (phrases_of files) q ≡ Some n → IsFirst (phrases_of files) q n) (lacking : (q : Key) → own (phrases_of files) q ≡ None → IsUndeclared (phrases_of files) q)
    (outward : (block : ℕ) (name : List ℕ) → means (phrases_of files) block name ≡ declared_or_around (phrases_of files) block name)
    (standing : AreStanding (phrases_of files)) (told : (p : Phrase) → IsAmong p (phrases_of files) → IsTold (phrases_of files) p) where
  abbrev ps : List Phrase
  ps = phrases_of files

  -- the structure that the type of data names
  structure_of : (x : Phrase) (common : List Attribute) (item : Declared) (place : Place) (template : List ℕ) (copies : Option Expression) → IsAmong x ps → x.node ≡ OfItem common item
      → type_of common item ≡ Some (StructureKind place template copies) → NamesStructure ps x.around.block template
  structure_of x common item place template copies within is typed =
      let of_node : IsToldNode ps x (OfItem common item) = subst (IsToldNode ps x) is (told x within) in
      let type_ = of_node.1 place template copies typed in
      subst (λ block. NamesStructure ps block template) type_.its (names_structure ps declared named type_.phrase type_.among type_.place template type_.is)

  -- structures are spelled as they are meant
  spelled_so : (block : ℕ) (template : List ℕ) (names : NamesStructure ps block template) → names.structure.name.name ≡ template
  unfolding declared_at
  spelled_so block template names =
      let declaration = declared block template names.number names.meant in
      let first = declaration.1 in
      let both : Some first.declaring ≡ Some names.phrase = sym first.there ∙ names.there in
      let one : first.declaring ≡ names.phrase = cc in
      let keyed : Some (key space.Declared names.phrase.around.home names.structure.name.name) ≡ Some (key space.Declared declaration.0 template) =
      ap (declared_at names.phrase.number names.phrase.around) (sym names.structure.is) ∙ (ap declared_by (sym one) ∙ first.declares) in
      ap (λ (o : Option Key). elim o [ None ↦ [] | Some w ↦ w.name ]) keyed

  module _ (k : ℕ) (p : Phrase) (common : List Attribute) (item : Declared) (n : Naming) (ns : List Naming) (there : slice_get ps k ≡ Some p) (is : p.node ≡ OfItem common item)
      (place : Place) (template : List ℕ) (copies : Option Expression) (typed : type_of common item ≡ Some (StructureKind place template copies)) (end : HasEnd ps p.around.block template (n ∷ ns)) where
    -- data that stand for themselves
    itself : standing_for ps k ≡ k → MeansAlike ps k p common item (n ∷ ns)
    itself own_ =
        let number = counted k p there in
        let cs : List Component = components_at ps (known ps) end.names.phrase end.names.phrase.node in
        let twins = by_components cs cs (shape_of ps (known ps) p common item) (shaped_so ps (known ps) end.names.number p end.names.phrase common item place template copies typed end.names.meant end.names.there) (themselves cs) in
        record {
          phrase = p;
          stands = own_ ∙ sym number;
          there = ap (slice_get ps) number ∙ there;
          other_common = common;
          other = item;
          declares = is;
          place = place;
          template = template;
          copies = copies;
          typed = typed;
          alike = end_alike ps named sound counted declared literals found lacking standing p common item place template copies n ns typed end (shape_of ps (known ps) p common item) twins;
        }

    -- data of a written template of a COMPOOL
    pooled_so : (f : Phrase) (prefaces : List Preface) (unit : Naming) → slice_get ps p.around.home ≡ Some f → f.node ≡ OfFile prefaces unit → IsPooled ps p.around.home prefaces item.name.name → StandsForData ps k p common item → MeansAlike ps k p common item (n ∷ ns)
    unfolding template_of
    pooled_so f prefaces unit home file pool stands =
        let q : Phrase = stands.phrase in
        let type_ : IsOfStructure template (type_of stands.other_common stands.other) =
        of_template (type_of stands.other_common stands.other) template (sym stands.same.attributes.template ∙ ap template_of typed) in
        let theirs : NamesStructure ps q.around.block template = structure_of q stands.other_common stands.other type_.place template type_.copies (at_among ps q.number q stands.there) stands.declares type_.is in
        let mine : NamesStructure ps p.around.block template = end.names in
        let twins = by_components (components_at ps (known ps) mine.phrase mine.phrase.node) (components_at ps (known ps) theirs.phrase theirs.phrase.node) (shape_of ps (known ps) q stands.other_common stands.other)
        (shaped_so ps (known ps) theirs.number q theirs.phrase stands.other_common stands.other type_.place template type_.copies type_.is theirs.meant theirs.there)
        (named_twins ps named sound counted declared literals found lacking standing p q template mine theirs (stands.same.structures template (ap template_of typed))
        (λ same_home. declared_same files named counted gives found outward k p common item there is stands f prefaces unit home file pool template mine.number theirs.number mine.phrase theirs.phrase mine.structure.name theirs.structure.name
        mine.structure.parts theirs.structure.parts mine.meant mine.there mine.structure.is theirs.meant theirs.there theirs.structure.is (spelled_so q.around.block template theirs) same_home)) in
        record {
          phrase = q;
          stands = stands.stands;
          there = stands.there;
          other_common = stands.other_common;
          other = stands.other;
          declares = stands.declares;
          place = type_.place;
          template = template;
          copies = type_.copies;
          typed = type_.is;
          alike = end_alike ps named sound counted declared literals found lacking standing p common item place template copies n ns typed end (shape_of ps (known ps) q stands.other_common stands.other) twins;
        }

    -- data that a file has of a COMPOOL's template, or others
    either : MeansAlike ps k p common item (n ∷ ns)
    either = by held.phrase.node refl held.holds where
      held : AreHeld ps p.around.home item.name.name
      held = subst (NodeHeld ps p) is (data_are_held files p (at_among ps k p there))

      none : (m : Node) → held.phrase.node ≡ m → pooled_at ps item.name.name m ≡ None → standing_for ps k ≡ k
      none m node is_none =
          ap (λ (o : Option ℕ). elim o [ None ↦ k | Some other ↦ other ])
          (ap (option_and_then (λ (r : Phrase). meant_at ps r r.node)) there
          ∙ (ap (meant_at ps p) is ∙ (ap (option_and_then (λ (h : Phrase). pooled_at ps item.name.name h.node)) held.there ∙ (ap (pooled_at ps item.name.name) node ∙ is_none))))

      by : (m : Node) → held.phrase.node ≡ m → HoldsData ps p.around.home m item.name.name → MeansAlike ps k p common item (n ∷ ns)
      by (OfFile prefaces unit) node holds = pooled_so held.phrase prefaces unit held.there node holds (data_stand files named gives k p common item there is held.phrase prefaces unit held.there node)
      by (OfUnit unit head declarations) node holds = itself (none (OfUnit unit head declarations) node refl)
      by (OfTemplate unit head declarations) node holds = itself (none (OfTemplate unit head declarations) node refl)
      by other node holds = absurd holds

  -- what a name with a path means
  pub means_alike : (block : ℕ) (name : List ℕ) (n : Naming) (ns : List Naming) (leads : LeadsIn ps block name (n ∷ ns)) → MeansAlike ps leads.number leads.phrase leads.common leads.item (n ∷ ns)
  unfolding type_has
  means_alike block name n ns leads =
      let so : HasTemplate ps leads.phrase.around.block (n ∷ ns) (type_of leads.common leads.item) = has_template ps leads.phrase.around.block (n ∷ ns) (type_of leads.common leads.item) leads.has in
      let names = structure_of leads.phrase leads.common leads.item so.place so.template so.copies (at_among ps leads.number leads.phrase leads.there) leads.is so.typed in
      either leads.number leads.phrase leads.common leads.item n ns leads.there leads.is so.place so.template so.copies so.typed
      (has_end ps named sound counted declared literals found lacking standing leads.phrase.around.block so.template n ns names so.has)
