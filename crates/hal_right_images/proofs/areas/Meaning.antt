-- What is passed by a name: data of its own unit, or those for which data of a written template stand, which have the same shape.
use Rattle.std.specs.Prelude.{◌≡◌, ◌⊎◌, ℕ, Bool, true, false, List, Option, Some, None, slice_get, if◌then◌else◌}
use Rattle.std.specs.Option.{option_and_then}
use Rattle.std.proofs.Common.{refl, sym, ap, subst, ◌∙◌, inl, inr}
use Rattle.hal_grammar.specs.Leaves.{Naming}
use Rattle.hal_grammar.specs.Expressions.{Expressions}
use Rattle.hal_grammar.specs.Declarations as declarations
use Rattle.hal_grammar.specs.Declarations.{Attribute, Declared, Declaration}
use Rattle.hal_grammar.specs.Units.{Head, Preface, File}
use Rattle.hal_phrases.specs.Phrases.{Node, Phrase, OfFile, OfItem, OfTemplate, OfTemporaryGroup, OfUnit}
use Rattle.hal_phrases.specs.GatheredUnits.{phrases_of}
use Rattle.hal_names.specs.Means.{means}
use Rattle.hal_scope.specs.Rules.{IsAmong}
use Rattle.hal_scope.specs.Sorts.{type_of}
use Rattle.hal_kinds.specs.Attributes.{sizes_of}
use Rattle.hal_kinds.specs.Data.{is_event_type, is_structure_type}
use Rattle.hal_constants.specs.Known.{Known, known}
use Rattle.hal_constants.specs.Naming.{is_value_item}
use Rattle.hal_templates.specs.Giving.{GivesItsUnit}
use Rattle.hal_meaning.specs.Bodies.{meant, meant_at, pooled_at, standing_for}
use Rattle.hal_meaning.specs.Elements.{Shape, shape_of}
use Rattle.hal_meaning.specs.Events.{event_of}
use Rattle.hal_meaning.specs.Places.{Storing, storing}
use Rattle.hal_meaning.specs.Sets.{Set, set_of}
use Rattle.hal_meaning.specs.Variables.{temporary_shape}
use Rattle.hal_agreement.specs.Sites.{Site}
use Rattle.hal_storage.specs.referents.Referents.{DataOf, EventOf, Unmeant, builtin_referent, constant_referent, declaration_referent, event_referent, node_referent, phrase_referent}
use Rattle.hal_gen_expr.specs.Led.{Led}
use Rattle.hal_gen_expr.specs.Referents.{referent}
use Rattle.hal_fit_names.specs.Standing.{StandsForData}
use Rattle.hal_right_images.proofs.rows.LookingUp.{LooksUp}
use Rattle.hal_right_images.proofs.rows.Rules.{among_at}
use Rattle.hal_right_images.proofs.views.Laying.{IsData, IsDataAt, OfAnItem, OfAGroup, data_is}
use Rattle.hal_right_images.specs.areas.Sized.{AreKnown}
use Rattle.hal_right_images.proofs.areas.Parameters.{KindsKnown}
use Rattle.hal_right_images.proofs.areas.Twins.{plain_too, twin_shape, valued_too}

-- data are no constants that are their values
module _ (ps : List Phrase) (vs : Known) where
  no_event : (o : Option ℕ) (declared : ℕ) (way : Storing) (shape : Shape) → elim o [ None ↦ Unmeant | Some e ↦ EventOf e ] ≡ DataOf declared way shape → ⊥
  no_event None declared way shape is = absurd (cc)
  no_event (Some e) declared way shape is = absurd (cc)

  item_stored_so : (p : Phrase) (common : List Attribute) (item : Declared) (declared : ℕ) (way : Storing) (shape : Shape) → node_referent ps vs p (OfItem common item) ≡ DataOf declared way shape → is_value_item common item ≡ false
  item_stored_so p common item declared way shape = by (is_event_type (type_of common item)) (is_value_item common item) where
    by : (event constant : Bool) → (if event then event_referent ps p.number else if constant then constant_referent vs p.number else DataOf p.number (storing ps vs p (OfItem common item)) (shape_of ps vs p common item)) ≡ DataOf declared way shape
        → constant ≡ false
    by true constant is = absurd (no_event (event_of ps p.number) declared way shape is)
    by false true is = absurd (cc)
    by false false is = refl

-- what declares the data by which an argument goes: it has their shape where it is no structure
pub record IsItemFor (ps : List Phrase) (p : Phrase) (l : Led) : Type 0 where
  pub common : List Attribute
  pub item : Declared
  pub node : p.node ≡ OfItem common item
  pub shape : is_structure_type (type_of common item) ≡ false → l.shape ≡ shape_of ps (known ps) p common item
  pub stored : is_value_item common item ≡ false

pub record IsGroupFor (p : Phrase) (l : Led) : Type 0 where
  pub labels : List Naming
  pub variable : Naming
  pub node : p.node ≡ OfTemporaryGroup labels variable
  pub shape : l.shape ≡ temporary_shape

pub record IsGiven (ps : List Phrase) (block : ℕ) (name : List ℕ) (l : Led) : Type 0 where
  pub number : ℕ
  pub means_it : means ps block name ≡ Some number
  pub phrase : Phrase
  pub there : slice_get ps number ≡ Some phrase
  pub is : IsItemFor ps phrase l ⊎ IsGroupFor phrase l

-- data whose declaration has their shape
pub record IsOwnItem (ps : List Phrase) (block : ℕ) (name : List ℕ) (l : Led) : Type 0 where
  pub number : ℕ
  pub means_it : means ps block name ≡ Some number
  pub phrase : Phrase
  pub there : slice_get ps number ≡ Some phrase
  pub common : List Attribute
  pub item : Declared
  pub node : phrase.node ≡ OfItem common item
  pub shape : l.shape ≡ shape_of ps (known ps) phrase common item

-- what is known of written templates
pub record KnowsTemplates (ps : List Phrase) : Type 0 where
  pub gives : (p : Phrase) (name : Naming) (head : Head) (declarations : List Declaration) → IsAmong p ps → p.node ≡ OfTemplate name head declarations → GivesItsUnit ps p name head declarations
  pub stand : (k : ℕ) (p : Phrase) (common : List Attribute) (item : Declared) (f : Phrase) (prefaces : List Preface) (unit : Naming) → slice_get ps k ≡ Some p → p.node ≡ OfItem common item
      → slice_get ps p.around.home ≡ Some f → f.node ≡ OfFile prefaces unit → StandsForData ps k p common item

pub then_some : {X Y : Type 0} (f : X → Option Y) (o : Option X) (y : Y) → option_and_then f o ≡ Some y → (x : X) × (o ≡ Some x) × (f x ≡ Some y)
then_some f None y is = absurd (cc)
then_some f (Some x) y is = (x, refl, is)

pub same_at : (ps : List Phrase) (m n : ℕ) (p q : Phrase) → slice_get ps m ≡ Some p → slice_get ps n ≡ Some q → m ≡ n → p ≡ q
same_at ps m n p q one other same = let both : Some p ≡ Some q = sym one ∙ (ap (slice_get ps) same ∙ other) in cc

module _ (files : List File) (turns : ℕ) (looks : LooksUp (phrases_of files)) (templates : KnowsTemplates (phrases_of files)) (kinds : KindsKnown (phrases_of files))
    (types : (x : Phrase) (c : List Attribute) (i : Declared) → IsAmong x (phrases_of files) → x.node ≡ OfItem c i → (t : declarations.Kind) × (type_of c i ≡ Some t))
    (sized : (x : Phrase) (c : List Attribute) (i : Declared) (xs : Expressions) → IsAmong x (phrases_of files) → x.node ≡ OfItem c i → sizes_of c i ≡ Some xs → AreKnown (phrases_of files) (known (phrases_of files)) x xs) where
  abbrev s : Set
  s = set_of turns files

  abbrev ps : List Phrase
  ps = phrases_of files

  abbrev vs : Known
  vs = known (phrases_of files)

  module _ (site : Site) (set : site.set ≡ s) (name : List ℕ) (l : Led) (are_data : referent site name ≡ DataOf l.declared l.stored l.shape) where
    its : IsData s site.block name l.declared l.stored l.shape
    its = data_is s site name l.declared l.stored l.shape set are_data

    still : (o : Option ℕ) → o ≡ Some its.place → elim o [ None ↦ builtin_referent name | Some k ↦ declaration_referent ps vs k ] ≡ DataOf l.declared l.stored l.shape → declaration_referent ps vs its.place ≡ DataOf l.declared l.stored l.shape
    still None none so = absurd (cc)
    still (Some k) is so = ap (declaration_referent ps vs) (let same : its.place ≡ k = cc in same) ∙ so

    refers : node_referent ps vs its.phrase its.phrase.node ≡ DataOf l.declared l.stored l.shape
    refers =
        ap (λ (o : Option Phrase). elim o [ None ↦ Unmeant | Some p ↦ phrase_referent ps vs p ]) (sym its.there)
        ∙ still (meant ps site.block name) its.means_it
        (subst (λ (x : Set). elim (meant x.phrases site.block name) [ None ↦ builtin_referent name | Some k ↦ declaration_referent x.phrases x.constants k ] ≡ DataOf l.declared l.stored l.shape) set are_data)

    -- what the data are
    by_its : IsItemFor ps its.phrase l ⊎ IsGroupFor its.phrase l
    by_its = by l.declared l.stored l.shape its.is refl where
      by : (declared : ℕ) (way : Storing) (shape : Shape) → IsDataAt s its.phrase declared way shape → l.shape ≡ shape → IsItemFor ps its.phrase l ⊎ IsGroupFor its.phrase l
      by _ _ _ (OfAnItem common item node) shape =
          inl (record { common = common; item = item; node = node; shape = λ plain. shape; stored = item_stored_so ps vs its.phrase common item l.declared l.stored l.shape (ap (node_referent ps vs its.phrase) (sym node) ∙ refers) })
      by _ _ _ (OfAGroup labels variable node) shape = inr (record { labels = labels; variable = variable; node = node; shape = shape })

    -- through a template
    module _ (k : ℕ) (p : Phrase) (meant_so : means ps site.block name ≡ Some k) (there : slice_get ps k ≡ Some p) (stands : standing_for ps k ≡ its.place) where
      twin : (common : List Attribute) (item : Declared) → p.node ≡ OfItem common item → (t : StandsForData ps k p common item) → IsGiven ps site.block name l
      twin common item node t = by by_its where
        same : its.phrase ≡ t.phrase
        same = same_at ps its.place t.phrase.number its.phrase t.phrase its.there t.there (sym stands ∙ t.stands)

        of_item : IsItemFor ps its.phrase l → IsGiven ps site.block name l
        of_item one =
            let nodes : OfItem one.common one.item ≡ OfItem t.other_common t.other = sym one.node ∙ (ap (λ (x : Phrase). x.node) same ∙ t.declares) in
            let commons : one.common ≡ t.other_common = cc in
            let items : one.item ≡ t.other = cc in
            let among = among_at ps t.phrase.number t.phrase t.there in
            let within = among_at ps k p there in
            let stored : is_value_item t.other_common t.other ≡ false = ap (λ c. is_value_item c t.other) (sym commons) ∙ (ap (is_value_item one.common) (sym items) ∙ one.stored) in
            let stored_too : is_value_item common item ≡ false = valued_too ps kinds p common item t.phrase t.other_common t.other within among node t.declares t.same types sized ∙ stored in
            record {
              number = k;
              means_it = meant_so;
              phrase = p;
              there = there;
              is = inl (record {
                common = common;
                item = item;
                node = node;
                shape = λ plain.
                    let twins = twin_shape ps kinds p common item t.phrase t.other_common t.other within among node t.declares t.same types sized plain stored_too in
                    let plain_there : is_structure_type (type_of one.common one.item) ≡ false =
                    ap (λ c. is_structure_type (type_of c one.item)) commons ∙ (ap (λ i. is_structure_type (type_of t.other_common i)) items ∙ plain_too ps kinds p common item t.phrase t.other_common t.other within among node t.declares t.same types sized plain) in
                    one.shape plain_there ∙ (ap (λ (x : Phrase). shape_of ps vs x one.common one.item) same ∙ (ap (λ c. shape_of ps vs t.phrase c one.item) commons ∙ (ap (shape_of ps vs t.phrase t.other_common) items ∙ twins)));
                stored = stored_too;
              });
            }

        by : IsItemFor ps its.phrase l ⊎ IsGroupFor its.phrase l → IsGiven ps site.block name l
        by (inl one) = of_item one
        by (inr one) = absurd (let nodes : OfTemporaryGroup one.labels one.variable ≡ OfItem t.other_common t.other = sym one.node ∙ (ap (λ (x : Phrase). x.node) same ∙ t.declares) in cc)

      -- no unit is data
      no_unit : (own : Naming) (head : Head) (declarations_ : List Declaration) → its.phrase.node ≡ OfUnit own head declarations_ → ⊥
      no_unit own head declarations_ node = by by_its where
        by : IsItemFor ps its.phrase l ⊎ IsGroupFor its.phrase l → ⊥
        by (inl one) = let nodes : OfItem one.common one.item ≡ OfUnit own head declarations_ = sym one.node ∙ node in absurd (cc)
        by (inr one) = let nodes : OfTemporaryGroup one.labels one.variable ≡ OfUnit own head declarations_ = sym one.node ∙ node in absurd (cc)

      stands_at : (node : Node) → p.node ≡ node → elim (meant_at ps p node) [ None ↦ k | Some other ↦ other ] ≡ its.place
      stands_at node is = ap (λ n. elim (meant_at ps p n) [ None ↦ k | Some other ↦ other ]) (sym is) ∙ (ap (λ (o : Option Phrase). elim (option_and_then (λ (x : Phrase). meant_at ps x x.node) o) [ None ↦ k | Some other ↦ other ]) (sym there) ∙ stands)

      pooled_so : (common : List Attribute) (item : Declared) → p.node ≡ OfItem common item → (f : Phrase) → slice_get ps p.around.home ≡ Some f → (m : ℕ) → (node : Node) → f.node ≡ node → pooled_at ps item.name.name node ≡ Some m
          → IsGiven ps site.block name l
      pooled_so common item node f home m (OfFile prefaces unit) file found = twin common item node (templates.stand k p common item f prefaces unit there node home file)
      pooled_so common item node f home m other file found = absurd (cc)

      by_itself : k ≡ its.place → IsGiven ps site.block name l
      by_itself same = record { number = its.place; means_it = meant_so ∙ ap Some same; phrase = its.phrase; there = its.there; is = by_its }

      by_node : (node : Node) → p.node ≡ node → IsGiven ps site.block name l
      by_node (OfItem common item) is = by (meant_at ps p (OfItem common item)) refl where
        by : (o : Option ℕ) → meant_at ps p (OfItem common item) ≡ o → IsGiven ps site.block name l
        by None none = by_itself (sym (ap (λ (o : Option ℕ). elim o [ None ↦ k | Some other ↦ other ]) none) ∙ stands_at (OfItem common item) is)
        by (Some m) found =
            let one = then_some (λ (h : Phrase). pooled_at ps item.name.name h.node) (slice_get ps p.around.home) m found in
            pooled_so common item is one.0 one.1 m one.0.node refl one.2
      by_node (OfTemplate own head declared) is =
          let gives = templates.gives p own head declared (among_at ps k p there) is in
          let unit = gives.is_unit in
          let same : gives.unit.number ≡ its.place = sym (ap (λ (o : Option ℕ). elim o [ None ↦ k | Some other ↦ other ]) unit.found) ∙ stands_at (OfTemplate own head declared) is in
          let phrase = same_at ps its.place gives.unit.number its.phrase gives.unit its.there unit.there (sym same) in
          absurd (no_unit unit.naming gives.unit_head gives.unit_declarations (ap (λ (x : Phrase). x.node) phrase ∙ unit.is))
      by_node other is = by_itself (stands_at other is)

    pub given_is : IsGiven ps site.block name l
    given_is = by (means ps site.block name) refl its.means_it where
      at_phrase : (k : ℕ) → means ps site.block name ≡ Some k → standing_for ps k ≡ its.place → (o : Option Phrase) → slice_get ps k ≡ o → IsGiven ps site.block name l
      at_phrase k meant_so stands None none =
          let first = (looks.meant site.block name k meant_so).1 in
          absurd (let at = sym none ∙ first.there in cc)
      at_phrase k meant_so stands (Some p) there = by_node k p meant_so there stands p.node refl

      by : (o : Option ℕ) → means ps site.block name ≡ o → elim o [ None ↦ None | Some k ↦ Some (standing_for ps k) ] ≡ Some its.place → IsGiven ps site.block name l
      by None none so = absurd (cc)
      by (Some k) is so = at_phrase k is (let same : standing_for ps k ≡ its.place = cc in same) (slice_get ps k) refl
