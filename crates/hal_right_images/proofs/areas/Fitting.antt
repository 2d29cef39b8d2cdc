-- What is passed for a structure, with names of parts or without, fits it by rule 705.
use Rattle.std.specs.Prelude.{◌≡◌, ◌⊎◌, ◌||◌, ℕ, Bool, true, false, List, Option, Some, None, slice_get}
use Rattle.std.proofs.Common.{refl, sym, ap, subst, ◌∙◌, inl, inr}
use Rattle.hal_base.specs.declared.refusal.Place.{Place}
use Rattle.hal_grammar.specs.Leaves.{Naming}
use Rattle.hal_grammar.specs.Expressions.{Expression, Referred, Refers, Subscript}
use Rattle.hal_grammar.specs.Declarations.{Kind, IntegerKind, BooleanKind, EventKind, BitKind, CharacterKind, StructureKind, Attribute, Declared, Part}
use Rattle.hal_grammar.specs.Units.{File}
use Rattle.hal_phrases.specs.declared.role.Role.TheVariants as roles
use Rattle.hal_phrases.specs.Phrases.{Phrase, OfItem, OfStructure}
use Rattle.hal_phrases.specs.GatheredUnits.{phrases_of}
use Rattle.hal_scope.specs.Rules.{IsAmong, IsSound, rows}
use Rattle.hal_scope.specs.Sorts.{type_of}
use Rattle.hal_kinds.specs.declared.class.Class.{Class}
use Rattle.hal_kinds.specs.Classes.{class_of, class_of_reference}
use Rattle.hal_kinds.specs.Data.{is_structure_type}
use Rattle.hal_types.specs.Rules.{type_rows}
use Rattle.hal_constants.specs.Known.{Known, known}
use Rattle.hal_shapes.specs.Arguments as arguments
use Rattle.hal_shapes.specs.Arguments.{fits_parts, input_fits, input_named, output_fits, output_named, parameter_of}
use Rattle.hal_shapes.specs.Selections.{reference_in}
use Rattle.hal_shapes.specs.Shapes.{is_excused}
use Rattle.hal_meaning.specs.Calls.{parameter_named}
use Rattle.hal_meaning.specs.Elements.{shape_of}
use Rattle.hal_meaning.specs.Sets.{Set, set_of}
use Rattle.hal_meaning.specs.Variables.{is_whole}
use Rattle.hal_agreement.specs.Sites.{Site}
use Rattle.hal_fit_names.specs.Suited.{HasFitLiterals}
use Rattle.hal_fit_parts.proofs.Standing.{each_among}
use Rattle.hal_right_images.proofs.rows.LookingUp.{LooksUp}
use Rattle.hal_right_images.proofs.rows.Templates.{NamesStructure, names_structure}
use Rattle.hal_right_images.proofs.rows.Told.{IsTold, IsToldNode}
use Rattle.hal_right_images.proofs.rows.ToldUnits.{set_told}
use Rattle.hal_right_images.proofs.areas.Calls.{Passes}
use Rattle.hal_right_images.proofs.areas.Structures.{IsOf}
use Rattle.hal_right_images.proofs.areas.TwinParameters.{IsStructureFor}

calm_fits : (a b : Bool) → a ≡ false → (a || b) ≡ true → b ≡ true
calm_fits false b calm is = is
calm_fits true b calm is = absurd (cc)

-- data that are a structure, and the STRUCTURE that their type names
pub record HasStructure (ps : List Phrase) (x : Phrase) (common : List Attribute) (item : Declared) : Type 0 where
  pub number : ℕ
  pub of : IsOf ps x common item number
  pub template : Phrase
  pub there : slice_get ps number ≡ Some template
  pub name : Naming
  pub parts : List Part
  pub is : template.node ≡ OfStructure name parts

-- a parameter that is one, for the checks where the declaration of the unit that they see is the one with this number
pub record IsStructured (s : Set) (unit declared : ℕ) (name : Naming) : Type 0 where
  pub phrase : Phrase
  pub found : parameter_of s.phrases declared name ≡ Some phrase
  pub common : List Attribute
  pub item : Declared
  pub node : phrase.node ≡ OfItem common item
  pub within : IsAmong phrase s.phrases
  pub has : HasStructure s.phrases phrase common item
  pub shape : (parameter_named s unit name).shape ≡ shape_of s.phrases s.constants phrase common item

module _ (files : List File) (turns : ℕ) (looks : LooksUp (phrases_of files)) (named : IsSound rows (phrases_of files)) (typed : IsSound type_rows (phrases_of files)) (literals : HasFitLiterals (phrases_of files)) where
  abbrev s : Set
  s = set_of turns files

  abbrev ps : List Phrase
  ps = phrases_of files

  abbrev vs : Known
  vs = known (phrases_of files)

  has_structure : (x : Phrase) (common : List Attribute) (item : Declared) → IsAmong x ps → x.node ≡ OfItem common item → (place : Place) (template : List ℕ) (copies : Option Expression)
      → type_of common item ≡ Some (StructureKind place template copies) → HasStructure ps x common item
  has_structure x common item within is place template copies type =
      let of_node : IsToldNode ps x (OfItem common item) = subst (IsToldNode ps x) is (each_among (IsTold ps) ps (set_told files) x within) in
      let given = of_node.1 place template copies type in
      let names : NamesStructure ps x.around.block template = subst (λ block. NamesStructure ps block template) given.its (names_structure ps looks.meant named given.phrase given.among given.place template given.is) in
      record {
        number = names.number;
        of = record { place = place; template = template; copies = copies; typed = type; meant = names.meant };
        template = names.phrase;
        there = names.there;
        name = names.structure.name;
        parts = names.structure.parts;
        is = names.structure.is;
      }

  pub structured_has : (x : Phrase) (common : List Attribute) (item : Declared) → IsAmong x ps → x.node ≡ OfItem common item → is_structure_type (type_of common item) ≡ true → HasStructure ps x common item
  unfolding is_structure_type
  structured_has x common item within node = by (type_of common item) refl where
    by : (o : Option Kind) → type_of common item ≡ o → is_structure_type o ≡ true → HasStructure ps x common item
    by (Some (StructureKind place template copies)) type is = has_structure x common item within node place template copies type
    by None type is = absurd (cc)
    by (Some (IntegerKind place)) type is = absurd (cc)
    by (Some (BooleanKind place)) type is = absurd (cc)
    by (Some (EventKind place)) type is = absurd (cc)
    by (Some (BitKind place size)) type is = absurd (cc)
    by (Some (CharacterKind place size)) type is = absurd (cc)

  pub structured_parameter : (unit declared : ℕ) (name : Naming) → IsStructureFor s unit declared name → IsStructured s unit declared name
  structured_parameter unit declared name one = record {
    phrase = one.phrase;
    found = one.found;
    common = one.common;
    item = one.item;
    node = one.node;
    within = one.within;
    has = structured_has one.phrase one.common one.item one.within one.node one.structured;
    shape = one.shape;
  }

  -- what is passed to a parameter that is a structure
  module _ (site : Site) (place : Place) (name : List ℕ) (unit : ℕ) (parameter : Naming) (path : List Naming) (x : Subscript) (pass : Passes s site unit parameter (Refers place name path x)) (for_it : IsStructureFor s unit pass.callee.declared parameter) where
    abbrev pub its : IsStructured s unit pass.callee.declared parameter
    its = structured_parameter unit pass.callee.declared parameter for_it

    abbrev its_kind : Kind
    its_kind = StructureKind its.has.of.place its.has.of.template its.has.of.copies

    abbrev pub Fits : Option Class → Type 0
    Fits c = fits_parts ps vs pass.phrase its.phrase its.common its.item c (Some (Refers place name path x)) ≡ true

    abbrev pub class_passed : Option Class
    class_passed = class_of_reference ps pass.phrase.around.block (Refers place name path x)

    -- all parts of it fit
    parts_of_it : (c : Option Class) → class_passed ≡ c → is_excused c ≡ false
        → (is_excused class_passed || arguments.fits_whole ps vs pass.phrase its.phrase its.common its.item class_passed (Some (Refers place name path x)) its_kind) ≡ true → Fits c
    unfolding is_structure_type
    parts_of_it c is calm fits =
        calm_fits (is_excused c) (arguments.fits_whole ps vs pass.phrase its.phrase its.common its.item c (Some (Refers place name path x)) its_kind) calm
        (sym (ap (λ (d : Option Class). is_excused d || arguments.fits_whole ps vs pass.phrase its.phrase its.common its.item d (Some (Refers place name path x)) its_kind) is) ∙ fits)

    input_parts : (c : Option Class) → class_passed ≡ c → is_excused c ≡ false → input_fits ps vs pass.phrase its.phrase (Referred (Refers place name path x)) (OfItem its.common its.item) ≡ true → Fits c
    unfolding input_fits class_of reference_in is_structure_type
    input_parts c is calm fits =
        parts_of_it c is calm
        (sym (ap (λ (o : Option Kind). elim o [ None ↦ true | Some t ↦ arguments.input_as ps vs pass.phrase its.phrase its.common its.item (Referred (Refers place name path x)) t ]) its.has.of.typed) ∙ fits)

    output_parts : (c : Option Class) → class_passed ≡ c → is_excused c ≡ false → output_fits ps vs pass.phrase its.phrase (Refers place name path x) (OfItem its.common its.item) ≡ true → Fits c
    unfolding output_fits is_structure_type
    output_parts c is calm fits =
        parts_of_it c is calm
        (sym (ap (λ (o : Option Kind). elim o [ None ↦ true | Some t ↦ arguments.output_as ps vs pass.phrase its.phrase its.common its.item (Refers place name path x) t ]) its.has.of.typed) ∙ fits)

    pub fitting : (c : Option Class) → class_passed ≡ c → is_excused c ≡ false → Fits c
    fitting c is calm = by pass.fits where
      by : ((input_named ps vs pass.phrase pass.callee.declared parameter (Referred (Refers place name path x)) ≡ true) × (is_whole (parameter_named s unit parameter).shape ≡ true))
          ⊎ ((output_named ps vs pass.phrase pass.callee.declared parameter (Refers place name path x) ≡ true) × (pass.role ≡ roles.Output)) → Fits c
      by (inl fit) =
          input_parts c is calm
          (sym (ap (λ (o : Option Phrase). elim o [ None ↦ true | Some y ↦ input_fits ps vs pass.phrase y (Referred (Refers place name path x)) y.node ]) its.found
          ∙ ap (input_fits ps vs pass.phrase its.phrase (Referred (Refers place name path x))) its.node) ∙ fit.0)
      by (inr fit) =
          output_parts c is calm
          (sym (ap (λ (o : Option Phrase). elim o [ None ↦ true | Some y ↦ output_fits ps vs pass.phrase y (Refers place name path x) y.node ]) its.found
          ∙ ap (output_fits ps vs pass.phrase its.phrase (Refers place name path x)) its.node) ∙ fit.0)
