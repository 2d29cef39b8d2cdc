-- What stands at the end of a path of data of a structure is for the checks what the components are that the path chooses, and so it is of a structure with the same parts.
use Rattle.std.proofs.Common.{◌≡◌, ℕ, zero, Bool, true, false, not, ◌||◌, List, [], ◌∷◌, Option, Some, None, slice_get, refl, sym, ap, ◌∙◌, subst}
use Rattle.std.specs.Option.{option_and_then, is_some}
use Rattle.hal_base.specs.declared.refusal.Place.{Place}
use Rattle.hal_grammar.specs.Leaves.{Naming}
use Rattle.hal_grammar.specs.Expressions.{Expression}
use Rattle.hal_grammar.specs.Declarations.{Attribute, Declared, StructureKind, Part}
use Rattle.hal_phrases.specs.Phrases.{Node, Phrase, OfItem, OfPart, OfStructure}
use Rattle.hal_names.specs.declared.key.Key.{Key}
use Rattle.hal_names.specs.declared.key.Space.TheVariants as space
use Rattle.hal_names.specs.Keys.{key, own}
use Rattle.hal_names.specs.Laws.{IsCounted, IsFirst, IsUndeclared}
use Rattle.hal_scope.specs.Components.{has_path, is_structure, structure_has, template_has}
use Rattle.hal_scope.specs.Rules.{IsSound, rows}
use Rattle.hal_scope.specs.Sorts.{type_of}
use Rattle.hal_kinds.specs.declared.class.Class.TheVariants as class
use Rattle.hal_kinds.specs.declared.data.Data.{Data}
use Rattle.hal_kinds.specs.Data.{copied, data_at, data_at_part, data_of_part, data_with, part_data, part_under}
use Rattle.hal_types.specs.Rules.{type_rows}
use Rattle.hal_constants.specs.Known.{known}
use Rattle.hal_meaning.specs.Elements.{Shape, chosen, components_at}
use Rattle.hal_code.specs.Sorts.{sort_of}
use Rattle.hal_fit_rules.specs.Agreeing.{AreAlike}
use Rattle.hal_fit_rules.proofs.Structuring.{structure_alike}
use Rattle.hal_fit_names.specs.Suited.{AreDeclared, HasFitLiterals}
use Rattle.hal_fit_parts.proofs.Alike.{found_so, part_alike}
use Rattle.hal_fit_parts.proofs.Choosing.{choose_bottom}
use Rattle.hal_fit_parts.proofs.Leading.{last_part}
use Rattle.hal_fit_parts.proofs.Standing.{AreStanding}
use Rattle.hal_right_images.proofs.rows.Templates.{NamesStructure}
use Rattle.hal_right_images.proofs.paths.Kinded.{part_known}
use Rattle.hal_right_images.proofs.paths.Twins.{AreTwins, chosen_twins, first_arrayed, first_kind}

-- the part at the end of a path of data of the structure that a name means in a block
pub record HasEnd (ps : List Phrase) (block : ℕ) (template : List ℕ) (path : List Naming) : Type 0 where
  pub names : NamesStructure ps block template
  pub number : ℕ
  pub leading : part_under ps names.number path ≡ Some number
  pub phrase : Phrase
  pub there : slice_get ps number ≡ Some phrase
  pub bottom : Bool
  pub part : Part
  pub is : phrase.node ≡ OfPart bottom part

-- names of parts, each of the one before it, lead to a part
path_leads : (ps : List Phrase) (k : ℕ) (path : List Naming) → has_path ps k path ≡ true → (j : ℕ) × (part_under ps k path ≡ Some j)
unfolding has_path part_under
path_leads ps k [] has = (k, refl)
path_leads ps k (n ∷ ns) has = by (own ps (key space.Part k n.name)) has (λ c so. path_leads ps c ns so) where
  by : (o : Option ℕ) → elim o [ None ↦ false | Some part ↦ has_path ps part ns ] ≡ true → ((c : ℕ) → has_path ps c ns ≡ true → (j : ℕ) × (part_under ps c ns ≡ Some j))
      → (j : ℕ) × (option_and_then (λ part. part_under ps part ns) o ≡ Some j)
  by None none so = absurd (cc)
  by (Some c) rest so = so c rest

-- what declares a structure is one
structure_is : (node : Node) (name : Naming) (parts : List Part) → node ≡ OfStructure name parts → is_structure node ≡ true
unfolding is_structure
structure_is node name parts is = ap is_structure is

-- what is alike with some components is so with their twins
pub alike_twins : (found : Option Data) (path : List Naming) (one other : Shape) → AreTwins one.components other.components → AreAlike found path one → AreAlike found path other
alike_twins found path one other twins alike =
    let both = chosen_twins path one.components other.components twins in
    record {
      declared = alike.declared;
      known = alike.known;
      sorted = λ s worth. ap sort_of (sym (first_kind (chosen path one.components) (chosen path other.components) both)) ∙ alike.sorted s worth;
      arrayed = λ plain. alike.arrayed plain ∙ first_arrayed (chosen path one.components) (chosen path other.components) both;
    }

module _ (ps : List Phrase) (named : IsSound rows ps) (sound : IsSound type_rows ps) (counted : IsCounted ps) (declared : AreDeclared ps) (literals : HasFitLiterals ps)
    (found : (q : Key) (n : ℕ) → own ps q ≡ Some n → IsFirst ps q n) (lacking : (q : Key) → own ps q ≡ None → IsUndeclared ps q) (standing : AreStanding ps) where
  -- rule 608: a path of data of a structure ends
  pub has_end : (block : ℕ) (template : List ℕ) (n : Naming) (ns : List Naming) → NamesStructure ps block template → template_has ps block template (n ∷ ns) ≡ true → HasEnd ps block template (n ∷ ns)
  has_end block template n ns names has =
      let so : structure_has ps names.number (n ∷ ns) ≡ true = ap (λ (o : Option ℕ). elim o [ None ↦ true | Some k ↦ structure_has ps k (n ∷ ns) ]) (sym names.meant) ∙ has in
      let there : has_path ps names.number (n ∷ ns) ≡ true =
      ap (λ b. not b || has_path ps names.number (n ∷ ns)) (sym (structure_is names.phrase.node names.structure.name names.structure.parts names.structure.is))
      ∙ (ap (λ (o : Option Phrase). elim o [ None ↦ true | Some q ↦ not (is_structure q.node) || has_path ps names.number (n ∷ ns) ]) (sym names.there) ∙ so) in
      let way = path_leads ps names.number (n ∷ ns) there in
      let end = last_part ps found names.number way.0 n ns way.1 in
      record { names = names; number = way.0; leading = way.1; phrase = end.phrase; there = end.there; bottom = end.bottom; part = end.part; is = end.is }

  module _ (x : Phrase) (common : List Attribute) (item : Declared) (place : Place) (template : List ℕ) (copies : Option Expression) (n : Naming) (ns : List Naming)
      (typed : type_of common item ≡ Some (StructureKind place template copies)) (end : HasEnd ps x.around.block template (n ∷ ns)) where
    -- the components of the structure
    abbrev pub own_shape : Shape
    own_shape = record { copies = None; components = components_at ps (known ps) end.names.phrase end.names.phrase.node }

    -- what the checks find at the end is what that part is
    found_here : data_at ps x (n ∷ ns) (OfItem common item) ≡ data_of_part ps (is_some copies) (Some end.number)
    found_here = found_so ps end.names.number end.number x n ns common item place template copies typed end.names.meant end.leading

    -- a part at the bottom
    bottom_alike : end.phrase.node ≡ OfPart true end.part → AreAlike (data_of_part ps (is_some copies) (Some end.number)) (n ∷ ns) own_shape
    bottom_alike is =
        let s = end.names.structure in
        let so = part_known ps named sound counted declared literals found lacking standing end.names.number end.number end.names.phrase end.phrase s.name s.parts (n ∷ ns) end.part end.names.there s.is end.leading end.there is in
        part_alike ps (known ps) end.number end.names.phrase end.phrase (n ∷ ns) end.part (is_some copies) so.type_ so.cells own_shape end.there is so.typed so.sized
        (choose_bottom ps counted found lacking named standing (known ps) end.names.number end.number end.names.phrase end.phrase s.name s.parts (n ∷ ns) end.part end.names.there s.is end.leading end.there is)

    -- a part that is a structure
    other_alike : end.phrase.node ≡ OfPart false end.part → AreAlike (data_of_part ps (is_some copies) (Some end.number)) (n ∷ ns) own_shape
    unfolding data_at_part part_data
    other_alike is =
        structure_alike (data_of_part ps (is_some copies) (Some end.number)) (n ∷ ns) own_shape (copied (is_some copies) (data_with class.Structure zero false))
        (ap (λ (o : Option Phrase). option_and_then (λ (q : Phrase). data_at_part (is_some copies) q.node) o) end.there ∙ ap (data_at_part (is_some copies)) is) refl

    -- either of them
    part_alike_by : (b : Bool) → end.bottom ≡ b → AreAlike (data_of_part ps (is_some copies) (Some end.number)) (n ∷ ns) own_shape
    part_alike_by true is = bottom_alike (end.is ∙ ap (λ b. OfPart b end.part) is)
    part_alike_by false is = other_alike (end.is ∙ ap (λ b. OfPart b end.part) is)

    -- what stands at the end is alike with a shape of such components
    pub end_alike : (shape : Shape) → AreTwins (components_at ps (known ps) end.names.phrase end.names.phrase.node) shape.components → AreAlike (data_at ps x (n ∷ ns) (OfItem common item)) (n ∷ ns) shape
    end_alike shape twins =
        subst (λ o. AreAlike o (n ∷ ns) shape) (sym found_here) (alike_twins (data_of_part ps (is_some copies) (Some end.number)) (n ∷ ns) own_shape shape twins (part_alike_by end.bottom refl))
