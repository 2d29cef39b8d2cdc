-- Names of parts of data lead to a part of their STRUCTURE, where no rule of names is broken.
use Rattle.std.specs.Prelude.{◌≡◌, not, ℕ, Bool, true, List, ◌∷◌, Option, Some, None, slice_get}
use Rattle.std.specs.Option.{is_some}
use Rattle.std.proofs.Common.{refl, sym, ap, subst, ◌∙◌, inl, inr}
use Rattle.hal_base.specs.declared.refusal.Place.{Place}
use Rattle.hal_grammar.specs.Leaves.{Naming}
use Rattle.hal_grammar.specs.Expressions.{Refers, Subscript}
use Rattle.hal_grammar.specs.Declarations.{Kind, IntegerKind, BooleanKind, EventKind, BitKind, CharacterKind, StructureKind, Attribute, Declared, Part}
use Rattle.hal_grammar.specs.Units.{File}
use Rattle.hal_phrases.specs.declared.role.Role.{Role}
use Rattle.hal_phrases.specs.Phrases.{Phrase, OfItem, OfPart, OfReference, OfStructure, OfTemporaryGroup}
use Rattle.hal_phrases.specs.GatheredUnits.{phrases_of}
use Rattle.hal_names.specs.Means.{means}
use Rattle.hal_scope.specs.Builtins.{builtin_named}
use Rattle.hal_scope.specs.Components.{template_has, type_has, has_component, lacks, lacks_in, meaning_has}
use Rattle.hal_scope.specs.Rules.{IsAmong, IsSound, rows, ruled}
use Rattle.hal_scope.specs.Sorts.{type_of, sort_of}
use Rattle.hal_scope.specs.Uses.{is_nil}
use Rattle.hal_kinds.specs.Data.{part_under}
use Rattle.hal_types.specs.Rules.{type_rows}
use Rattle.hal_fit_rules.proofs.Unbroken.{ruled_none, unbroken}
use Rattle.hal_fit_names.specs.Suited.{HasFitLiterals}
use Rattle.hal_fit_parts.proofs.Standing.{parts_stand}
use Rattle.hal_right_images.proofs.paths.Ends.{has_end}
use Rattle.hal_right_images.proofs.rows.LookingUp.{LooksUp}
use Rattle.hal_right_images.proofs.rows.Stored.{each_at}
use Rattle.hal_right_images.proofs.rows.Templates.{NamesStructure, names_structure, unless_true}
use Rattle.hal_right_images.proofs.rows.Told.{IsTold, IsToldNode}
use Rattle.hal_right_images.proofs.rows.ToldUnits.{set_told}
use Rattle.hal_right_images.proofs.areas.Structures.{template_of_type}

-- the part at the end of names of parts of data, which is at the bottom or not
pub record HasEnd (ps : List Phrase) (o : Option ℕ) (path : List Naming) (bottom : Bool) : Type 0 where
  pub structure : ℕ
  pub is : o ≡ Some structure
  pub phrase : Phrase
  pub there : slice_get ps structure ≡ Some phrase
  pub name : Naming
  pub parts : List Part
  pub declares : phrase.node ≡ OfStructure name parts
  pub number : ℕ
  pub leading : part_under ps structure path ≡ Some number
  pub end : Phrase
  pub at : slice_get ps number ≡ Some end
  pub part : Part
  pub so : end.node ≡ OfPart bottom part

-- rule 608
pub has_so : (ps : List Phrase) → IsSound rows ps → (w : Phrase) → IsAmong w ps → (role : Role) (place : Place) (name : List ℕ) (n : Naming) (ns : List Naming) (subscript : Subscript) → w.node ≡ OfReference role (Refers place name (n ∷ ns) subscript)
    → meaning_has ps w.around.block name (n ∷ ns) ≡ true
unfolding lacks lacks_in is_nil
has_so ps named w within role place name n ns subscript is =
    unless_true (meaning_has ps w.around.block name (n ∷ ns)) place
    (ap (lacks ps w) (sym is) ∙ ruled_none 608 (lacks ps w w.node) (unbroken rows ps named w within (λ qs p. ruled 608 (lacks qs p p.node)) (inr (inr (inr (inr (inr (inr (inr (inl refl))))))))))

pub component_so : (ps : List Phrase) (block k : ℕ) (p : Phrase) (name : List ℕ) (path : List Naming) → means ps block name ≡ Some k → slice_get ps k ≡ Some p → meaning_has ps block name path ≡ true → has_component ps p path p.node ≡ true
component_so ps block k p name path meant there has =
    ap (λ (o : Option Phrase). elim o [ None ↦ true | Some x ↦ has_component ps x path x.node ]) (sym there)
    ∙ (ap (λ (o : Option ℕ). elim o [ None ↦ not (is_some (builtin_named name)) | Some m ↦ elim (slice_get ps m) [ None ↦ true | Some x ↦ has_component ps x path x.node ] ]) (sym meant) ∙ has)

-- a TEMPORARY variable has no parts
pub no_group : (ps : List Phrase) (p : Phrase) (path : List Naming) (labels : List Naming) (variable : Naming) → p.node ≡ OfTemporaryGroup labels variable → has_component ps p path p.node ≡ true → ⊥
unfolding has_component sort_of
no_group ps p path labels variable node has = let not_ = ap (has_component ps p path) (sym node) ∙ has in absurd (cc)

module _ (files : List File) (looks : LooksUp (phrases_of files)) (named : IsSound rows (phrases_of files)) (typed : IsSound type_rows (phrases_of files)) (literals : HasFitLiterals (phrases_of files)) where
  abbrev ps : List Phrase
  ps = phrases_of files

  -- of the STRUCTURE that a type names
  named_ends : (block : ℕ) (template : List ℕ) (n : Naming) (ns : List Naming) (so : NamesStructure ps block template) → template_has ps block template (n ∷ ns) ≡ true → (bottom : Bool) × HasEnd ps (means ps block template) (n ∷ ns) bottom
  named_ends block template n ns so has =
      let end = has_end ps named typed looks.counted looks.meant literals looks.found looks.lacking (parts_stand files) block template n ns so has in (
        end.bottom,
        record {
          structure = end.names.number;
          is = end.names.meant;
          phrase = end.names.phrase;
          there = end.names.there;
          name = end.names.structure.name;
          parts = end.names.structure.parts;
          declares = end.names.structure.is;
          number = end.number;
          leading = end.leading;
          end = end.phrase;
          at = end.there;
          part = end.part;
          so = end.is;
        },
      )

  -- of an item
  pub item_ends : (k : ℕ) (p : Phrase) (common : List Attribute) (item : Declared) (n : Naming) (ns : List Naming) → slice_get ps k ≡ Some p → p.node ≡ OfItem common item → has_component ps p (n ∷ ns) p.node ≡ true
      → (bottom : Bool) × HasEnd ps (template_of_type ps p.around.block (type_of common item)) (n ∷ ns) bottom
  unfolding has_component type_has
  item_ends k p common item n ns there node has = by (type_of common item) refl (ap (has_component ps p (n ∷ ns)) (sym node) ∙ has) where
    told : IsToldNode ps p (OfItem common item)
    told = subst (IsToldNode ps p) node (each_at (IsTold ps) ps k p (set_told files) there)

    by : (t : Option Kind) → type_of common item ≡ t → type_has ps p.around.block (n ∷ ns) t ≡ true → (bottom : Bool) × HasEnd ps (template_of_type ps p.around.block t) (n ∷ ns) bottom
    by (Some (StructureKind place template copies)) type_is so =
        let type = told.1 place template copies type_is in
        let structure = subst (λ block. NamesStructure ps block template) type.its (names_structure ps looks.meant named type.phrase type.among type.place template type.is) in
        named_ends p.around.block template n ns structure so
    by None type_is so = absurd (cc)
    by (Some (IntegerKind place)) type_is so = absurd (cc)
    by (Some (BooleanKind place)) type_is so = absurd (cc)
    by (Some (EventKind place)) type_is so = absurd (cc)
    by (Some (BitKind place size)) type_is so = absurd (cc)
    by (Some (CharacterKind place size)) type_is so = absurd (cc)
