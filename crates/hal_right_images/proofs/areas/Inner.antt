-- A part with parts of its own is passed to no parameter that is an array or one value.
use Rattle.std.specs.Prelude.{◌≡◌, ◌&&◌, ◌||◌, not, nat_lt, ℕ, Bool, true, false, List, ◌∷◌, Option, Some, None, slice_get, if◌then◌else◌}
use Rattle.std.specs.Option.{option_and_then, is_some}
use Rattle.std.proofs.Common.{refl, sym, ap, ◌∙◌}
use Rattle.std.proofs.lemmas.Bool.{and_parts}
use Rattle.hal_base.specs.declared.refusal.Place.{Place}
use Rattle.hal_grammar.specs.Leaves.{Naming}
use Rattle.hal_grammar.specs.Expressions.{Expressions, Referred, Reference, Refers, Subscript}
use Rattle.hal_grammar.specs.Declarations.{Kind, Attribute, Declared}
use Rattle.hal_phrases.specs.declared.role.Role.{Role}
use Rattle.hal_phrases.specs.Phrases.{Phrase, OfItem, OfReference}
use Rattle.hal_names.specs.Means.{means}
use Rattle.hal_scope.specs.Builtins.{builtin_named}
use Rattle.hal_scope.specs.Rules.{IsAmong, IsSound}
use Rattle.hal_scope.specs.Sorts.{type_of}
use Rattle.hal_scope.specs.Uses.{is_nil}
use Rattle.hal_kinds.specs.declared.class.Class.TheVariants as class
use Rattle.hal_kinds.specs.declared.data.Data.{Data}
use Rattle.hal_kinds.specs.Attributes.{sizes_of}
use Rattle.hal_kinds.specs.Classes.{class_at, class_of, class_of_builtin, class_of_reference}
use Rattle.hal_kinds.specs.Data.{class_of_type, data_at, is_structure_type}
use Rattle.hal_kinds.specs.Subscripts.{chosen, class_in, class_left, has_copies_left, has_places_left, is_miscounted, is_structure_class}
use Rattle.hal_types.specs.Rules.{type_rows}
use Rattle.hal_uses.specs.Subscripts.{component_fault, data_fault, fault_at, is_event_name, is_string}
use Rattle.hal_constants.specs.Known.{Known, kind_of_item}
use Rattle.hal_sizes.specs.Sizes.{extent_of}
use Rattle.hal_shapes.specs.Arguments as arguments
use Rattle.hal_shapes.specs.Arguments.{fits_places, input_fits, kind_of_reference, output_fits}
use Rattle.hal_shapes.specs.Selections.{reference_in}
use Rattle.hal_shapes.specs.Shapes.{array_argument, is_excused, is_whole_array, is_whole_structure, fits_single, may_equal}
use Rattle.hal_right_images.proofs.areas.Classes.{counted_by, fault_none, no_component}

-- the class of a reference with names of parts to data of an item
module _ (ps : List Phrase) (typed : IsSound type_rows ps) (q : Phrase) (block : ℕ) (here : q.around.block ≡ block) (place : Place) (name : List ℕ) (n : Naming) (ns : List Naming) (subscript : Subscript) (k : ℕ) (meant : means ps block name ≡ Some k)
    (p : Phrase) (there : slice_get ps k ≡ Some p) (w : Phrase) (said : IsAmong w ps) (role : Role) (w_is : w.node ≡ OfReference role (Refers place name (n ∷ ns) subscript)) (w_here : w.around.block ≡ block)
    (own_common : List Attribute) (own : Declared) (own_node : p.node ≡ OfItem own_common own) (d : Data) (data_is : data_at ps p (n ∷ ns) (OfItem own_common own) ≡ Some d) where
  abbrev given : Reference
  given = Refers place name (n ∷ ns) subscript

  abbrev eventful : Bool
  eventful = is_event_name (n ∷ ns) (OfItem own_common own)

  -- rules 707 and 721
  path_right : (is_miscounted d (chosen d subscript) ≡ false) × (component_fault (is_string d.class && not eventful) (chosen d subscript) ≡ None)
  unfolding fault_at data_fault
  path_right =
      let fault : data_fault eventful subscript (data_at ps p (n ∷ ns) (OfItem own_common own)) ≡ None =
      ap (fault_at ps p (n ∷ ns) subscript) (sym own_node) ∙ fault_none ps typed w said role place name (n ∷ ns) subscript w_is block k w_here meant p there in
      counted_by (is_miscounted d (chosen d subscript)) (component_fault (is_string d.class && not eventful) (chosen d subscript)) (ap (data_fault eventful subscript) (sym data_is) ∙ fault)

  -- rule 707
  pub path_counted : is_miscounted d (chosen d subscript) ≡ false
  path_counted = path_right.0

  -- rule 721 of what is no string
  pub path_single : is_string d.class ≡ false → nat_lt 0 (chosen d subscript).components ≡ false
  path_single plain = no_component (chosen d subscript) (sym (ap (λ b. component_fault (b && not eventful) (chosen d subscript)) plain) ∙ path_right.1)

  pub path_class : class_of_reference ps q.around.block given ≡ Some (class_in d (chosen d subscript))
  unfolding class_of_reference class_at
  path_class =
      ap (λ (o : Option ℕ). elim o [ None ↦ if is_nil (n ∷ ns) then class_of_builtin (builtin_named name) else None | Some m ↦ option_and_then (λ (x : Phrase). class_at ps x (n ∷ ns) subscript x.node) (slice_get ps m) ]) (ap (λ b. means ps b name) here ∙ meant)
      ∙ (ap (option_and_then (λ (x : Phrase). class_at ps x (n ∷ ns) subscript x.node)) there
      ∙ (ap (class_at ps p (n ∷ ns) subscript) own_node
      ∙ (ap (λ o. option_and_then (λ (e : Data). class_left e (chosen e subscript)) o) data_is ∙ ap (λ b. if b then None else Some (class_in d (chosen d subscript))) path_counted)))

  -- a structure is passed to no parameter that is none
  module _ (vs : Known) (structured : is_structure_class d.class ≡ true) (r : Phrase) (common : List Attribute) (item : Declared) (kind : Kind) (type : type_of common item ≡ Some kind) (plain : is_structure_type (Some kind) ≡ false) where
    class_so : class_of_reference ps q.around.block given ≡ Some class.Structure
    class_so = path_class ∙ ap (λ b. Some (if b then class.Structure else if has_copies_left d (chosen d subscript) || has_places_left d (chosen d subscript) then class.Array else d.class)) structured

    no_places : fits_places ps vs q r common item (class_of_reference ps q.around.block given) (Some given) ≡ true → ⊥
    unfolding is_whole_array
    no_places fits =
        let both = and_parts (is_whole_array (class_of_reference ps q.around.block given)) (array_argument ps vs q (kind_of_item ps vs r common item) (extent_of ps vs r (sizes_of common item)) (Some given)) fits in
        absurd (let other = sym (ap is_whole_array class_so) ∙ both.0 in cc)

    no_whole : (is_excused (class_of_reference ps q.around.block given) || arguments.fits_whole ps vs q r common item (class_of_reference ps q.around.block given) (Some given) kind) ≡ true → ⊥
    unfolding is_excused
    no_whole fits =
        let c = class_of_reference ps q.around.block given in
        no_places
        (sym (ap (λ o. is_excused o || arguments.fits_whole ps vs q r common item c (Some given) kind) class_so
        ∙ ap (λ b. if b then arguments.fits_parts ps vs q r common item c (Some given) else fits_places ps vs q r common item c (Some given)) plain) ∙ fits)

    no_one : (b : Bool) → (arguments.is_single (class_of_reference ps q.around.block given) && b) ≡ true → ⊥
    unfolding is_whole_array is_whole_structure
    no_one b fits =
        let both = and_parts (arguments.is_single (class_of_reference ps q.around.block given)) b fits in
        absurd (let other = sym (ap arguments.is_single class_so) ∙ both.0 in cc)

    -- by an input argument
    pub never_input : input_fits ps vs q r (Referred given) (OfItem common item) ≡ true → (sizes_of common item ≡ None → ⊥) → ⊥
    unfolding input_fits class_of reference_in
    never_input fits some = by (sizes_of common item) refl where
      as_it : arguments.input_as ps vs q r common item (Referred given) kind ≡ true
      as_it = sym (ap (λ (o : Option Kind). elim o [ None ↦ true | Some t ↦ arguments.input_as ps vs q r common item (Referred given) t ]) type) ∙ fits

      by : (o : Option Expressions) → sizes_of common item ≡ o → ⊥
      by None none = some none
      by (Some sizes) sized =
          let whole : arguments.is_whole common item kind ≡ true = ap (λ b. b || is_some (sizes_of common item)) plain ∙ ap is_some sized in
          no_whole
          (sym (ap (λ b. if b
          then is_excused (class_of_reference ps q.around.block given) || arguments.fits_whole ps vs q r common item (class_of_reference ps q.around.block given) (Some given) kind
          else fits_single (class_of_type kind) (class_of_reference ps q.around.block given)) whole) ∙ as_it)

    -- by an ASSIGN argument
    pub never_output : output_fits ps vs q r given (OfItem common item) ≡ true → ⊥
    unfolding output_fits
    never_output fits = by (arguments.is_whole common item kind) as_it where
      as_it : arguments.output_as ps vs q r common item given kind ≡ true
      as_it = sym (ap (λ (o : Option Kind). elim o [ None ↦ true | Some t ↦ arguments.output_as ps vs q r common item given t ]) type) ∙ fits

      by : (b : Bool) → (if b
          then is_excused (class_of_reference ps q.around.block given) || arguments.fits_whole ps vs q r common item (class_of_reference ps q.around.block given) (Some given) kind
          else arguments.is_single (class_of_reference ps q.around.block given) && may_equal (kind_of_reference ps vs q given) (kind_of_item ps vs r common item)) ≡ true → ⊥
      by true so = no_whole so
      by false so = no_one (may_equal (kind_of_reference ps vs q given) (kind_of_item ps vs r common item)) so
