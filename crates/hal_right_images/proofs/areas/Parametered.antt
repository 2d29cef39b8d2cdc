-- The parameter by which the checks go: that of the unit itself, or the one that its written template declares, which has the same shape.
use Rattle.std.specs.Prelude.{◌≡◌, ◌⊎◌, ℕ, Bool, true, false, List, [], Option, Some, None, slice_get}
use Rattle.std.specs.Option.{option_and_then, is_some}
use Rattle.std.proofs.Common.{refl, sym, ap, subst, ◌∙◌, inl, inr}
use Rattle.hal_grammar.specs.Leaves.{Naming}
use Rattle.hal_grammar.specs.Expressions.{Expressions}
use Rattle.hal_grammar.specs.Declarations as declarations
use Rattle.hal_grammar.specs.Declarations.{Attribute, Declared}
use Rattle.hal_grammar.specs.Units.{File}
use Rattle.hal_phrases.specs.Phrases.{Node, Phrase, OfItem}
use Rattle.hal_phrases.specs.GatheredUnits.{phrases_of}
use Rattle.hal_names.specs.declared.key.Space.TheVariants as space
use Rattle.hal_names.specs.Keys.{key, own}
use Rattle.hal_scope.specs.Rules.{IsAmong, IsSound}
use Rattle.hal_scope.specs.Sorts.{type_of}
use Rattle.hal_kinds.specs.Attributes.{sizes_of}
use Rattle.hal_kinds.specs.Data.{is_structure_type}
use Rattle.hal_types.specs.Rules.{type_rows}
use Rattle.hal_constants.specs.Known.{Known, known}
use Rattle.hal_constants.specs.Naming.{is_value_item}
use Rattle.hal_templates.specs.Entries.{entries}
use Rattle.hal_templates.specs.Giving.{AreSameNames, IsOwn}
use Rattle.hal_templates.specs.Own.{own_entries}
use Rattle.hal_templates.specs.Templates.{home_of}
use Rattle.hal_shapes.specs.Arguments.{parameter_of}
use Rattle.hal_meaning.specs.Calls.{Parameter, parameter_named, parameter_shape}
use Rattle.hal_meaning.specs.Elements.{Shape, shape_of}
use Rattle.hal_meaning.specs.Sets.{Set, set_of}
use Rattle.hal_fit_names.specs.Used.{HaveSizes, IsDeclaredParameter}
use Rattle.hal_fit_names.proofs.Twins.{IsTwin, parameter_twin}
use Rattle.hal_right_images.proofs.rows.LookingUp.{LooksUp}
use Rattle.hal_right_images.proofs.rows.Rules.{among_at}
use Rattle.hal_right_images.proofs.rows.Told.{HasParameter}
use Rattle.hal_right_images.specs.areas.Structured.{is_structured, is_structured_node}
use Rattle.hal_right_images.specs.areas.Sized.{AreKnown}
use Rattle.hal_right_images.proofs.areas.Callees.{IsCallee}
use Rattle.hal_right_images.proofs.areas.Parameters.{KindsKnown, item_stored, there_is}
use Rattle.hal_right_images.proofs.areas.Twins.{plain_back, twin_shape, valued_too}

-- the parameter that a name means
abbrev pub parameter_from : Set → Option Phrase → Parameter
parameter_from s o = elim o [ None ↦ record { number = 0; shape = record { copies = None; components = [] } } | Some p ↦ record { number = p.number; shape = parameter_shape s p p.node } ]

pub parameter_is : (s : Set) (unit : ℕ) (name : Naming) → parameter_named s unit name ≡ parameter_from s (parameter_of s.phrases unit name)
unfolding parameter_of
parameter_is s unit name = refl

-- what declares a parameter for the checks, where the declaration of the unit that they see is the one with this number
pub record IsParameterFor (s : Set) (unit declared : ℕ) (name : Naming) : Type 0 where
  pub phrase : Phrase
  pub found : parameter_of s.phrases declared name ≡ Some phrase
  pub common : List Attribute
  pub item : Declared
  pub node : phrase.node ≡ OfItem common item
  pub within : IsAmong phrase s.phrases
  pub stored : is_value_item common item ≡ false
  pub plain : is_structure_type (type_of common item) ≡ false
  pub shape : (parameter_named s unit name).shape ≡ shape_of s.phrases s.constants phrase common item

abbrev pub empty_shape : Shape
empty_shape = record { copies = None; components = [] }

-- what is found by a key
pub found_own : (ps : List Phrase) (block : ℕ) (name : Naming) (p : Phrase) → IsOwn ps block name.name p → parameter_of ps block name ≡ Some p
unfolding parameter_of
found_own ps block name p is = ap (option_and_then (λ j. slice_get ps j)) is.found ∙ is.there

module _ (files : List File) (turns : ℕ) (looks : LooksUp (phrases_of files)) (typed : IsSound type_rows (phrases_of files)) (kinds : KindsKnown (phrases_of files)) (dimensioned : HaveSizes (phrases_of files))
    (types : (x : Phrase) (c : List Attribute) (i : Declared) → IsAmong x (phrases_of files) → x.node ≡ OfItem c i → (t : declarations.Kind) × (type_of c i ≡ Some t))
    (sized : (x : Phrase) (c : List Attribute) (i : Declared) (xs : Expressions) → IsAmong x (phrases_of files) → x.node ≡ OfItem c i → sizes_of c i ≡ Some xs → AreKnown (phrases_of files) (known (phrases_of files)) x xs) where
  abbrev s : Set
  s = set_of turns files

  abbrev ps : List Phrase
  ps = phrases_of files

  abbrev vs : Known
  vs = known (phrases_of files)

  module _ (block : ℕ) (called : List ℕ) (unit : ℕ) (name : Naming) (c : IsCallee ps block called unit) (listed : (output : Bool) × HasParameter ps unit name output) (unstructured : is_structured ps unit name ≡ false) where
    -- a parameter of the unit
    module _ (r : Phrase) (found : parameter_of ps unit name ≡ Some r) (common : List Attribute) (item : Declared) (node : r.node ≡ OfItem common item) where
      shape_so : (parameter_named s unit name).shape ≡ shape_of ps vs r common item
      shape_so = ap (λ (q : Parameter). q.shape) (parameter_is s unit name ∙ ap (parameter_from s) found) ∙ ap (parameter_shape s r) node

      plain_so : is_structure_type (type_of common item) ≡ false
      plain_so = sym (ap (λ (o : Option Phrase). elim o [ None ↦ false | Some p ↦ is_structured_node p.node ]) found ∙ ap is_structured_node node) ∙ unstructured

      stored_so : IsAmong r ps × (is_value_item common item ≡ false)
      stored_so = item_stored ps looks typed unit name listed.0 listed.1 r found common item node

      -- its own
      own_for : c.declared ≡ unit → IsParameterFor s unit c.declared name
      own_for same = record {
        phrase = r;
        found = ap (λ k. parameter_of ps k name) same ∙ found;
        common = common;
        item = item;
        node = node;
        within = stored_so.0;
        stored = stored_so.1;
        plain = plain_so;
        shape = shape_so;
      }

      -- that of its template
      written_for : AreSameNames ps vs (home_of c.phrase c.head) (entries c.declarations) c.unit_at.phrase.number (own_entries ps c.unit_at.phrase.number c.unit_at.head c.unit_at.declarations) → IsParameterFor s unit c.declared name
      written_for meanings =
          let number : unit ≡ c.unit_at.phrase.number = sym c.unit_at.number in
          let declared_so : IsDeclaredParameter ps c.unit_at.phrase.number name =
          subst (λ u. IsDeclaredParameter ps u name) number
          (record {
            phrase = r;
            found = found;
            common = common;
            item = item;
            declares = node;
            dimensioned = dimensioned r common item stored_so.0 node;
            stored = stored_so.1;
          }) in
          let listed_there : is_some (own ps (key space.Parameter c.unit_at.phrase.number name.name)) ≡ true = subst (λ u. is_some (own ps (key space.Parameter u name.name)) ≡ true) number (there_is ps looks typed unit name listed.0 listed.1) in
          let twin : IsTwin ps c.declared c.unit_at.phrase.number name.name =
          parameter_twin files looks.counted looks.found c.phrase c.unit_at.phrase c.own c.unit_at.own c.head c.unit_at.head c.declarations c.unit_at.declarations c.declared c.there c.called c.unit_at.called
          (ap (slice_get ps) c.unit_at.number ∙ c.unit_at.there) c.unit_at.is meanings name declared_so listed_there in
          let other_found : parameter_of ps unit name ≡ Some twin.other = subst (λ u. parameter_of ps u name ≡ Some twin.other) c.unit_at.number (found_own ps c.unit_at.phrase.number name twin.other twin.theirs) in
          let other_is : r ≡ twin.other = (let both : Some r ≡ Some twin.other = sym found ∙ other_found in cc) in
          let nodes : OfItem common item ≡ OfItem twin.other_common twin.other_item = sym node ∙ (ap (λ (x : Phrase). x.node) other_is ∙ twin.declares_other) in
          let commons : common ≡ twin.other_common = cc in
          let items : item ≡ twin.other_item = cc in
          let other_plain : is_structure_type (type_of twin.other_common twin.other_item) ≡ false = ap (λ i. is_structure_type (type_of twin.other_common i)) (sym items) ∙ (ap (λ x. is_structure_type (type_of x item)) (sym commons) ∙ plain_so) in
          let other_stored : is_value_item twin.other_common twin.other_item ≡ false = ap (is_value_item twin.other_common) (sym items) ∙ (ap (λ x. is_value_item x item) (sym commons) ∙ stored_so.1) in
          let within = among_at ps twin.phrase.number twin.phrase twin.mine.there in
          let among = among_at ps twin.other.number twin.other twin.theirs.there in
          let plain = plain_back ps kinds twin.phrase twin.common twin.item twin.other twin.other_common twin.other_item within among twin.declares_it twin.declares_other twin.same types sized other_plain in
          let stored = valued_too ps kinds twin.phrase twin.common twin.item twin.other twin.other_common twin.other_item within among twin.declares_it twin.declares_other twin.same types sized ∙ other_stored in
          record {
            phrase = twin.phrase;
            found = found_own ps c.declared name twin.phrase twin.mine;
            common = twin.common;
            item = twin.item;
            node = twin.declares_it;
            within = within;
            stored = stored;
            plain = plain;
            shape = shape_so
                ∙ (ap (λ (x : Phrase). shape_of ps vs x common item) other_is
                ∙ (ap (λ x. shape_of ps vs twin.other x item) commons
                ∙ (ap (shape_of ps vs twin.other twin.other_common) items
                ∙ twin_shape ps kinds twin.phrase twin.common twin.item twin.other twin.other_common twin.other_item within among twin.declares_it twin.declares_other twin.same types sized plain stored)));
          }

      by_kind : (c.declared ≡ unit) ⊎ AreSameNames ps vs (home_of c.phrase c.head) (entries c.declarations) c.unit_at.phrase.number (own_entries ps c.unit_at.phrase.number c.unit_at.head c.unit_at.declarations) → IsParameterFor s unit c.declared name
      by_kind (inl same) = own_for same
      by_kind (inr meanings) = written_for meanings

    pub parameter_for : IsParameterFor s unit c.declared name ⊎ ((parameter_named s unit name).shape ≡ empty_shape)
    parameter_for = by (parameter_of ps unit name) refl where
      by_node : (r : Phrase) → parameter_of ps unit name ≡ Some r → (node : Node) → r.node ≡ node → IsParameterFor s unit c.declared name ⊎ ((parameter_named s unit name).shape ≡ empty_shape)
      by_node r found (OfItem common item) is = inl (by_kind r found common item is c.same)
      by_node r found other is = inr (ap (λ (q : Parameter). q.shape) (parameter_is s unit name ∙ ap (parameter_from s) found) ∙ ap (parameter_shape s r) is)

      by : (o : Option Phrase) → parameter_of ps unit name ≡ o → IsParameterFor s unit c.declared name ⊎ ((parameter_named s unit name).shape ≡ empty_shape)
      by None none = inr (ap (λ (q : Parameter). q.shape) (parameter_is s unit name ∙ ap (parameter_from s) none))
      by (Some r) found = by_node r found r.node refl
