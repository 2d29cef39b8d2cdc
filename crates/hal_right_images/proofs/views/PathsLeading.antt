-- Names of parts lead to components of the data that a name means, where no rule of names is broken and they do for data that stand for others.
use Rattle.std.specs.Prelude.{◌≡◌, ◌<◌, ◌==◌, ℕ, Bool, true, false, not, ◌||◌, List, [], ◌∷◌, ◌++◌, length, map, Option, Some, None, slice_get}
use Rattle.std.specs.Option.{option_and_then, is_some}
use Rattle.std.proofs.Common.{refl, sym, ap, subst, ◌∙◌, arith, inl, inr}
use Rattle.std.proofs.lemmas.Bool.{eqb-true, eq-eqb}
use Rattle.hal_base.specs.declared.refusal.Place.{Place}
use Rattle.hal_grammar.specs.Leaves.{Naming}
use Rattle.hal_grammar.specs.Expressions.{Refers, Subscript}
use Rattle.hal_grammar.specs.Declarations.{Kind, IntegerKind, BooleanKind, EventKind, BitKind, CharacterKind, StructureKind, Attribute, Declared, Part}
use Rattle.hal_phrases.specs.declared.role.Role.{Role}
use Rattle.hal_phrases.specs.Phrases.{Node, Phrase, OfItem, OfStructure, OfPart, OfReference}
use Rattle.hal_names.specs.declared.key.Space.TheVariants as space
use Rattle.hal_names.specs.Keys.{key, own}
use Rattle.hal_names.specs.Laws.{IsDeclaration}
use Rattle.hal_names.specs.Means.{means}
use Rattle.hal_scope.specs.Builtins.{builtin_named}
use Rattle.hal_scope.specs.Components.{has_path, is_structure, structure_has, template_has, type_has, has_component, lacks, lacks_in, meaning_has}
use Rattle.hal_scope.specs.Rules.{IsAmong, IsSound, rows, ruled}
use Rattle.hal_scope.specs.Sorts.{type_of, sort_of}
use Rattle.hal_scope.specs.Uses.{is_nil}
use Rattle.hal_kinds.specs.Data.{part_under}
use Rattle.hal_constants.specs.Known.{Known}
use Rattle.hal_meaning.specs.Bodies.{standing_for}
use Rattle.hal_meaning.specs.Elements.{Component, Shape, chosen, component, components_at, components_named, shape_of, shape_of_type}
use Rattle.hal_meaning.specs.Places.{Storing}
use Rattle.hal_agreement.specs.Sites.{Site}
use Rattle.hal_gen_expr.specs.Led.{Led, led_by}
use Rattle.hal_gen_expr.specs.Referents.{referent}
use Rattle.hal_fit_rules.proofs.Declaring.{types_joined}
use Rattle.hal_fit_parts.specs.Parts.{IsPartAt}
use Rattle.hal_right_images.specs.rows.Purposes.{Says}
use Rattle.hal_right_images.proofs.rows.Rules.{ruled_none, unbroken}
use Rattle.hal_right_images.proofs.rows.Templates.{names_structure, unless_true, NamesStructure}
use Rattle.hal_right_images.proofs.rows.Told.{IsTold, IsToldNode}
use Rattle.hal_right_images.specs.views.Left.{LeadSomewhere}
use Rattle.hal_right_images.proofs.views.ChosenViews.{led_is}
use Rattle.hal_right_images.proofs.views.Laying.{IsData, IsDataAt, OfAnItem, OfAGroup, data_is}
use Rattle.hal_right_images.proofs.views.Leading.{led_path}
use Rattle.hal_meaning.specs.Sets.{Set}

-- what is known of the phrases of a set, for paths
pub record KnowsParts (ps : List Phrase) : Type 0 where
  pub meant : (block : ℕ) (name : List ℕ) (n : ℕ) → means ps block name ≡ Some n → IsDeclaration ps name n
  pub sound : IsSound rows ps
  pub told : (k : ℕ) (p : Phrase) → slice_get ps k ≡ Some p → IsTold ps p
  pub bottom : (vs : Known) (k j : ℕ) (p q : Phrase) (name : Naming) (parts : List Part) (path : List Naming) (part : Part) → slice_get ps k ≡ Some p → p.node ≡ OfStructure name parts → part_under ps k path ≡ Some j
      → slice_get ps j ≡ Some q → q.node ≡ OfPart true part → chosen path (components_at ps vs p p.node) ≡ component ps vs p (map (λ (n : Naming). n.name) path) part.attributes ∷ []
  pub others : (vs : Known) (k j : ℕ) (p q : Phrase) (name : Naming) (parts : List Part) (path : List Naming) (part : Part) → slice_get ps k ≡ Some p → p.node ≡ OfStructure name parts → part_under ps k path ≡ Some j
      → slice_get ps j ≡ Some q → q.node ≡ OfPart false part → 0 < length (chosen path (components_at ps vs p p.node))
  pub part : (k j : ℕ) (n : Naming) (path : List Naming) → part_under ps k (n ∷ path) ≡ Some j → IsPartAt ps j

some_leads : (cs : List Component) → 0 < length cs → LeadSomewhere cs
some_leads [] some = absurd (omega (arith, some))
some_leads (c ∷ cs) some = tt

-- names of parts, each of the one before it, lead to a part
path_leads : (ps : List Phrase) (k : ℕ) (path : List Naming) → has_path ps k path ≡ true → (j : ℕ) × (part_under ps k path ≡ Some j)
unfolding has_path part_under
path_leads ps k [] has = (k, refl)
path_leads ps k (n ∷ ns) has = by (own ps (key space.Part k n.name)) has (λ c so. path_leads ps c ns so) where
  by : (o : Option ℕ) → elim o [ None ↦ false | Some part ↦ has_path ps part ns ] ≡ true → ((c : ℕ) → has_path ps c ns ≡ true → (j : ℕ) × (part_under ps c ns ≡ Some j))
      → (j : ℕ) × (option_and_then (λ part. part_under ps part ns) o ≡ Some j)
  by None none so = absurd (cc)
  by (Some c) rest so = so c rest

module _ (ps : List Phrase) (vs : Known) (knows : KnowsParts ps) where
  -- of a structure
  structure_leads : (k : ℕ) (p : Phrase) (name : Naming) (parts : List Part) (n : Naming) (ns : List Naming) → slice_get ps k ≡ Some p → p.node ≡ OfStructure name parts → has_path ps k (n ∷ ns) ≡ true
      → LeadSomewhere (chosen (n ∷ ns) (components_at ps vs p p.node))
  structure_leads k p name parts n ns there is has =
      let way = path_leads ps k (n ∷ ns) has in
      let found = knows.part k way.0 n ns way.1 in
      by way.0 way.1 found.phrase found.there found.bottom found.part found.is where
        by : (j : ℕ) → part_under ps k (n ∷ ns) ≡ Some j → (q : Phrase) → slice_get ps j ≡ Some q → (c : Bool) (part : Part) → q.node ≡ OfPart c part → LeadSomewhere (chosen (n ∷ ns) (components_at ps vs p p.node))
        by j leads_ q at true part so = subst LeadSomewhere (sym (knows.bottom vs k j p q name parts (n ∷ ns) part there is leads_ at so)) tt
        by j leads_ q at false part so = some_leads (chosen (n ∷ ns) (components_at ps vs p p.node)) (knows.others vs k j p q name parts (n ∷ ns) part there is leads_ at so)

  path_there : (node : Node) (k : ℕ) (path : List Naming) → is_structure node ≡ true → (not (is_structure node) || has_path ps k path) ≡ true → has_path ps k path ≡ true
  path_there node k path is has = ap (λ b. not b || has_path ps k path) (sym is) ∙ has

  structure_is : (node : Node) (name : Naming) (parts : List Part) → node ≡ OfStructure name parts → is_structure node ≡ true
  unfolding is_structure
  structure_is node name parts is = ap is_structure is

  -- of the structure that a type names
  pub found_leads : (block : ℕ) (template : List ℕ) (n : Naming) (ns : List Naming) (named : NamesStructure ps block template) → template_has ps block template (n ∷ ns) ≡ true
      → LeadSomewhere (chosen (n ∷ ns) (components_at ps vs named.phrase named.phrase.node))
  found_leads block template n ns named has =
      let so : structure_has ps named.number (n ∷ ns) ≡ true = ap (λ (o : Option ℕ). elim o [ None ↦ true | Some k ↦ structure_has ps k (n ∷ ns) ]) (sym named.meant) ∙ has in
      let there = path_there named.phrase.node named.number (n ∷ ns) (structure_is named.phrase.node named.structure.name named.structure.parts named.structure.is)
      (ap (λ (o : Option Phrase). elim o [ None ↦ true | Some q ↦ not (is_structure q.node) || has_path ps named.number (n ∷ ns) ]) (sym named.there) ∙ so) in
      structure_leads named.number named.phrase named.structure.name named.structure.parts n ns named.there named.structure.is there

  -- its components are those of data of the type
  pub components_found : (block : ℕ) (template : List ℕ) (named : NamesStructure ps block template) → components_named ps vs block template ≡ components_at ps vs named.phrase named.phrase.node
  components_found block template named =
      ap (λ (o : Option ℕ). elim (option_and_then (slice_get ps) o) [ None ↦ [] | Some x ↦ components_at ps vs x x.node ]) named.meant
      ∙ ap (λ (o : Option Phrase). elim o [ None ↦ [] | Some x ↦ components_at ps vs x x.node ]) named.there

  -- of data of a structure type
  template_leads : (block : ℕ) (template : List ℕ) (n : Naming) (ns : List Naming) → NamesStructure ps block template → template_has ps block template (n ∷ ns) ≡ true
      → LeadSomewhere (chosen (n ∷ ns) (components_named ps vs block template))
  template_leads block template n ns named has =
      subst (λ (zs : List Component). LeadSomewhere (chosen (n ∷ ns) zs)) (sym (components_found block template named)) (found_leads block template n ns named has)

  -- of an item
  item_leads : (k : ℕ) (p : Phrase) (common : List Attribute) (item : Declared) (n : Naming) (ns : List Naming) → slice_get ps k ≡ Some p → p.node ≡ OfItem common item
      → type_has ps p.around.block (n ∷ ns) (type_of common item) ≡ true → LeadSomewhere (chosen (n ∷ ns) (shape_of ps vs p common item).components)
  unfolding type_has
  item_leads k p common item n ns there is has =
      subst (λ (t : Option Kind). LeadSomewhere (chosen (n ∷ ns) (shape_of_type ps vs p (item.attributes ++ common) t).components)) (sym (types_joined item.attributes common)) (by (type_of common item) refl has) where
        told : IsToldNode ps p (OfItem common item)
        told = subst (IsToldNode ps p) is (knows.told k p there)

        by : (t : Option Kind) → type_of common item ≡ t → type_has ps p.around.block (n ∷ ns) t ≡ true → LeadSomewhere (chosen (n ∷ ns) (shape_of_type ps vs p (item.attributes ++ common) t).components)
        by (Some (StructureKind place template copies)) typed so =
            let type = told.1 place template copies typed in
            let named = names_structure ps knows.meant knows.sound type.phrase type.among type.place template type.is in
            template_leads p.around.block template n ns (subst (λ block. NamesStructure ps block template) type.its named) so
        by None typed so = absurd (cc)
        by (Some (IntegerKind place)) typed so = absurd (cc)
        by (Some (BooleanKind place)) typed so = absurd (cc)
        by (Some (EventKind place)) typed so = absurd (cc)
        by (Some (BitKind place size)) typed so = absurd (cc)
        by (Some (CharacterKind place size)) typed so = absurd (cc)

  -- rule 608
  has_so : (q : Phrase) → IsAmong q ps → (role : Role) (place : Place) (name : List ℕ) (n : Naming) (ns : List Naming) (subscript : Subscript) → q.node ≡ OfReference role (Refers place name (n ∷ ns) subscript)
      → meaning_has ps q.around.block name (n ∷ ns) ≡ true
  unfolding lacks lacks_in is_nil
  has_so q within role place name n ns subscript is =
      unless_true (meaning_has ps q.around.block name (n ∷ ns)) place
      (ap (lacks ps q) (sym is) ∙ ruled_none 608 (lacks ps q q.node) (unbroken rows ps knows.sound q within (λ qs p. ruled 608 (lacks qs p p.node)) (inr (inr (inr (inr (inr (inr (inr (inl refl))))))))))

  component_so : (block k : ℕ) (p : Phrase) (name : List ℕ) (path : List Naming) → means ps block name ≡ Some k → slice_get ps k ≡ Some p → meaning_has ps block name path ≡ true → has_component ps p path p.node ≡ true
  component_so block k p name path meant there has =
      ap (λ (o : Option Phrase). elim o [ None ↦ true | Some x ↦ has_component ps x path x.node ]) (sym there)
      ∙ (ap (λ (o : Option ℕ). elim o [ None ↦ not (is_some (builtin_named name)) | Some m ↦ elim (slice_get ps m) [ None ↦ true | Some x ↦ has_component ps x path x.node ] ]) (sym meant) ∙ has)

-- of the data that a name means
data_leads : (s : Set) → KnowsParts s.phrases → (k : ℕ) (p : Phrase) (n : Naming) (ns : List Naming) → slice_get s.phrases k ≡ Some p → has_component s.phrases p (n ∷ ns) p.node ≡ true
    → (declared : ℕ) (way : Storing) (shape : Shape) → IsDataAt s p declared way shape → LeadSomewhere (chosen (n ∷ ns) shape.components)
unfolding has_component sort_of
data_leads s knows k p n ns there has _ _ _ (OfAnItem common item node) =
    item_leads s.phrases s.constants knows k p common item n ns there node (ap (has_component s.phrases p (n ∷ ns)) (sym node) ∙ has)
data_leads s knows k p n ns there has _ _ _ (OfAGroup labels variable node) = let not_ = ap (has_component s.phrases p (n ∷ ns)) (sym node) ∙ has in absurd (cc)

-- names of parts that a declaration has lead to components of what it stands for, where that is another one
abbrev pub StandingLead : Set → Type 0
StandingLead s =
    (k : ℕ) (p q : Phrase) (n : Naming) (ns : List Naming) → slice_get s.phrases k ≡ Some p → (standing_for s.phrases k ≡ k → ⊥) → slice_get s.phrases (standing_for s.phrases k) ≡ Some q
    → has_component s.phrases p (n ∷ ns) p.node ≡ true → (declared : ℕ) (way : Storing) (shape : Shape) → IsDataAt s q declared way shape → LeadSomewhere (chosen (n ∷ ns) shape.components)

pub name_leads : (s : Set) → KnowsParts s.phrases → StandingLead s → (site : Site) (role : Role) (place : Place) (name : List ℕ) (n : Naming) (ns : List Naming) (subscript : Subscript) (led : Led) → site.set ≡ s
    → Says site (OfReference role (Refers place name (n ∷ ns) subscript)) → led_by (n ∷ ns) (referent site name) ≡ Some led → LeadSomewhere (chosen led.path led.shape.components)
name_leads s knows standing site role place name n ns subscript led same says leads =
    subst (λ path. LeadSomewhere (chosen path led.shape.components)) (sym (led_path (n ∷ ns) (referent site name) led leads)) (by (means s.phrases site.block name) refl meaning.means_it) where
      meaning : IsData s site.block name led.declared led.stored led.shape
      meaning = data_is s site name led.declared led.stored led.shape same (led_is (n ∷ ns) (referent site name) led leads)

      has : meaning_has s.phrases site.block name (n ∷ ns) ≡ true
      has =
          subst (λ block. meaning_has s.phrases block name (n ∷ ns) ≡ true) says.block
          (has_so s.phrases s.constants knows says.phrase (subst (λ (x : Set). IsAmong says.phrase x.phrases) same says.among) role place name n ns subscript says.is)

      -- where the name means this declaration
      declared_leads : (k : ℕ) (p : Phrase) → means s.phrases site.block name ≡ Some k → slice_get s.phrases k ≡ Some p → standing_for s.phrases k ≡ meaning.place → (b : Bool) → (standing_for s.phrases k == k) ≡ b
          → LeadSomewhere (chosen (n ∷ ns) led.shape.components)
      declared_leads k p is there placed true itself =
          let at : slice_get s.phrases k ≡ Some meaning.phrase = ap (slice_get s.phrases) (sym (eqb-true (standing_for s.phrases k) k itself) ∙ placed) ∙ meaning.there in
          data_leads s knows k meaning.phrase n ns at (component_so s.phrases s.constants knows site.block k meaning.phrase name (n ∷ ns) is at has) led.declared led.stored led.shape meaning.is
      declared_leads k p is there placed false other =
          standing k p meaning.phrase n ns there (λ itself. absurd (let so = sym other ∙ eq-eqb (standing_for s.phrases k) k itself in cc)) (ap (slice_get s.phrases) placed ∙ meaning.there)
          (component_so s.phrases s.constants knows site.block k p name (n ∷ ns) is there has) led.declared led.stored led.shape meaning.is

      by : (o : Option ℕ) → means s.phrases site.block name ≡ o → elim o [ None ↦ None | Some k ↦ Some (standing_for s.phrases k) ] ≡ Some meaning.place → LeadSomewhere (chosen (n ∷ ns) led.shape.components)
      by None none so = absurd (cc)
      by (Some k) is so =
          let placed : standing_for s.phrases k ≡ meaning.place = cc in
          let declared = knows.meant site.block name k is in
          declared_leads k declared.1.declaring is declared.1.there placed (standing_for s.phrases k == k) refl
