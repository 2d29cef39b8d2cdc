-- A part at the bottom to which names lead is for the checks what its component is for code.
use Rattle.std.specs.Prelude.{◌≡◌, ◌<◌, ℕ, nat_le, Bool, true, false, List, [], ◌∷◌, map, Option, Some, None, slice_get, unwrap_or}
use Rattle.std.specs.Option.{option_and_then, is_some}
use Rattle.std.proofs.Common.{refl, sym, ap, subst, ◌∙◌, inl, inr, arith}
use Rattle.std.proofs.lemmas.Bool.{leb-true}
use Rattle.hal_grammar.specs.Leaves.{Naming}
use Rattle.hal_grammar.specs.Expressions.{Expression, Expressions}
use Rattle.hal_grammar.specs.Declarations.{Attribute, Declared, Double, StructureKind, Part}
use Rattle.hal_grammar.specs.Units.{File}
use Rattle.hal_phrases.specs.Phrases.{Phrase, OfItem, OfPart, OfStructure}
use Rattle.hal_phrases.specs.GatheredUnits.{phrases_of}
use Rattle.hal_names.specs.Means.{means}
use Rattle.hal_scope.specs.Rules.{IsSound, rows, ruled}
use Rattle.hal_scope.specs.Sorts.{type_of}
use Rattle.hal_scope.specs.Uses.{is_nil}
use Rattle.hal_kinds.specs.Attributes.{count_of, has_mark, sizes_among}
use Rattle.hal_kinds.specs.declared.class.Class.TheVariants as class
use Rattle.hal_kinds.specs.declared.data.Data.{Data}
use Rattle.hal_kinds.specs.Data as kinds
use Rattle.hal_kinds.specs.Data.{copied, data_at, data_at_part, data_of, data_with, part_under}
use Rattle.hal_attributes.specs.Levels.{misleveled}
use Rattle.hal_types.specs.Rules.{attribute_rows, type_rows}
use Rattle.hal_values.specs.declared.value.Kind.TheVariants as value
use Rattle.hal_constants.specs.Known.{Known, known, kind_of_type}
use Rattle.hal_constants.specs.Constants.{constant_of}
use Rattle.hal_sizes.specs.Parts.{extent_of_part, kind_of_part}
use Rattle.hal_sizes.specs.Sizes.{copies_by, extent_of}
use Rattle.hal_shapes.specs.Selections.{copies_at, extent_at, extent_reached, kind_at, kind_reached, part_reached, structure_of}
use Rattle.hal_meaning.specs.Elements.{Shape, all_sizes, chosen, component, shape_of, size_given, sizes_given}
use Rattle.hal_meaning.specs.Variables.{kind_of_first, sizes_of_first}
use Rattle.hal_gen_expr.specs.Led.{Led}
use Rattle.hal_fit_rules.proofs.Unbroken.{ruled_none, unbroken}
use Rattle.hal_fit_names.specs.Suited.{HasFitLiterals}
use Rattle.hal_fit_names.proofs.MeantItems.{of_attributes}
use Rattle.hal_fit_names.proofs.Placing.{ArePlaced, items_are_placed}
use Rattle.hal_fit_names.proofs.Sizing.{is_valued}
use Rattle.hal_fit_parts.proofs.Alike.{found_so}
use Rattle.hal_fit_parts.proofs.Belonging.{Region}
use Rattle.hal_fit_parts.proofs.Choosing.{choose_bottom, inside_structure}
use Rattle.hal_fit_parts.proofs.Standing.{parts_stand}
use Rattle.hal_right_images.specs.paths.Known.{IsKnownPart}
use Rattle.hal_right_images.proofs.paths.Placed.{part_placed}
use Rattle.hal_right_images.proofs.rows.Filled.{size_some}
use Rattle.hal_right_images.proofs.rows.LookingUp.{LooksUp}
use Rattle.hal_right_images.proofs.rows.Rules.{among_at}
use Rattle.hal_right_images.specs.views.Left.{LeadSomewhere}
use Rattle.hal_right_images.specs.areas.Sized.{AreKnown, extent_with}
use Rattle.hal_right_images.proofs.areas.Components.{IsComponent, part_data}
use Rattle.hal_right_images.proofs.areas.Ending.{part_found}
use Rattle.hal_right_images.proofs.areas.Ends.{HasEnd}
use Rattle.hal_right_images.proofs.areas.Parameters.{short_is}
use Rattle.hal_right_images.proofs.areas.Plainly.{sizes_long}
use Rattle.hal_right_images.proofs.areas.Ranges.{IsLow, size_low}
use Rattle.hal_right_images.proofs.areas.Sizes.{extent_is, part_extent}
use Rattle.hal_right_images.proofs.areas.Spans.{IsShort}
use Rattle.hal_right_images.proofs.areas.Standing.{IsPlainLed}
use Rattle.hal_right_images.proofs.areas.Structures.{IsOf, copies_known, copies_there, of_type, structured_shape, template_of_type, template_there}

-- the kinds of parts at the bottom are known where their structure stands
abbrev pub PartsKnown : List Phrase → Type 0
PartsKnown ps =
    (k j : ℕ) (p q : Phrase) (name : Naming) (parts : List Part) (path : List Naming) (part : Part) → slice_get ps k ≡ Some p → p.node ≡ OfStructure name parts → part_under ps k path ≡ Some j → slice_get ps j ≡ Some q → q.node ≡ OfPart true part
    → IsKnownPart ps p part

-- data that a name means, with the components by which an argument goes
pub record IsParted (ps : List Phrase) (block : ℕ) (name : List ℕ) (l : Led) : Type 0 where
  pub number : ℕ
  pub means_it : means ps block name ≡ Some number
  pub phrase : Phrase
  pub there : slice_get ps number ≡ Some phrase
  pub common : List Attribute
  pub item : Declared
  pub node : phrase.node ≡ OfItem common item
  pub components : l.shape.components ≡ (shape_of ps (known ps) phrase common item).components

-- the STRUCTURE of their type
abbrev pub template_meant : {ps : List Phrase} {block : ℕ} {name : List ℕ} {l : Led} → IsParted ps block name l → Option ℕ
template_meant {ps = ps} mine = template_of_type ps mine.phrase.around.block (type_of mine.common mine.item)

module _ (files : List File) (looks : LooksUp (phrases_of files)) (named : IsSound rows (phrases_of files)) (typed : IsSound type_rows (phrases_of files)) (literals : HasFitLiterals (phrases_of files)) (parts_known : PartsKnown (phrases_of files)) where
  abbrev ps : List Phrase
  ps = phrases_of files

  abbrev vs : Known
  vs = known (phrases_of files)

  module _ (block : ℕ) (name : List ℕ) (n : Naming) (ns : List Naming) (l : Led) (path : l.path ≡ n ∷ ns) (mine : IsParted ps block name l) (end : HasEnd ps (template_meant mine) (n ∷ ns) true) where
    abbrev t : Phrase
    t = end.phrase

    abbrev part : Part
    part = end.part

    data_of_it : IsOf ps mine.phrase mine.common mine.item end.structure
    data_of_it = of_type ps mine.phrase mine.common mine.item end.structure (type_of mine.common mine.item) refl end.is

    known_part : IsKnownPart ps t part
    known_part = parts_known end.structure end.number t end.end end.name end.parts (n ∷ ns) part end.there end.declares end.leading end.at end.so

    -- rule 710
    leveled : misleveled t.node ≡ None
    unfolding attribute_rows
    leveled =
        ruled_none 710 (misleveled t.node)
        (unbroken type_rows ps typed t (among_at ps end.structure t end.there) (λ qs o. ruled 710 (misleveled o.node)) (of_attributes (λ qs o. ruled 710 (misleveled o.node)) (inr (inr (inr (inr (inr (inr (inl refl)))))))))

    found_part : (xs : List Part) × (part_reached t (n ∷ ns) ≡ Some (part, xs))
    found_part =
        part_found ps looks.counted looks.found looks.lacking named (parts_stand files) end.structure t end.name end.parts part n ns end.there end.declares leveled
        (record { number = end.number; leading = end.leading; phrase = end.end; there = end.at; bottom = true; is = end.so })

    structure_so : structure_of ps mine.phrase.around.block (type_of mine.common mine.item) ≡ Some t
    structure_so = template_there ps vs mine.phrase mine.common mine.item end.structure data_of_it t end.there

    data_so : data_at ps mine.phrase (n ∷ ns) (OfItem mine.common mine.item) ≡ Some (part_data known_part.type_ (sizes_among part.attributes) (is_some data_of_it.copies))
    unfolding data_at_part kinds.part_data data_of
    data_so =
        found_so ps end.structure end.number mine.phrase n ns mine.common mine.item data_of_it.place data_of_it.template data_of_it.copies data_of_it.typed data_of_it.meant end.leading
        ∙ (ap (λ (o : Option Phrase). option_and_then (λ (p : Phrase). data_at_part (is_some data_of_it.copies) p.node) o) end.at
        ∙ (ap (data_at_part (is_some data_of_it.copies)) end.so ∙ ap (λ o. option_and_then (λ (d : Data). Some (copied (is_some data_of_it.copies) d)) (data_of o (sizes_among part.attributes))) known_part.typed))

    kind_so : kind_of_part ps vs t part ≡ Some known_part.cells
    kind_so = ap (kind_of_type ps vs t (has_mark Double part.attributes)) known_part.typed ∙ known_part.sized

    kind_there : kind_at ps vs mine.phrase (n ∷ ns) mine.phrase.node ≡ Some known_part.cells
    unfolding kind_at is_nil
    kind_there =
        ap (kind_at ps vs mine.phrase (n ∷ ns)) mine.node
        ∙ (ap (option_and_then (λ (q : Phrase). kind_reached ps vs q (n ∷ ns))) structure_so ∙ (ap (option_and_then (λ (f : Part × List Part). kind_of_part ps vs t f.0)) found_part.1 ∙ kind_so))

    extent_there : extent_at ps vs mine.phrase (n ∷ ns) mine.phrase.node ≡ extent_of_part ps vs t part
    unfolding extent_at is_nil
    extent_there =
        ap (extent_at ps vs mine.phrase (n ∷ ns)) mine.node
        ∙ (ap (option_and_then (λ (q : Phrase). extent_reached ps vs q (n ∷ ns))) structure_so ∙ ap (option_and_then (λ (f : Part × List Part). extent_of_part ps vs t f.0)) found_part.1)

    placed : ArePlaced ps t part.attributes
    placed =
        let region : Region ps ps t end.name end.parts = (parts_stand files).regions t end.name end.parts (among_at ps end.structure t end.there) end.declares in
        let inside = inside_structure ps looks.counted looks.found looks.lacking named (parts_stand files) end.structure end.number t end.end end.name end.parts (n ∷ ns) true part region end.there end.leading end.at end.so in
        subst (λ (x : Phrase). ArePlaced ps x part.attributes) (sym region.is)
        (part_placed ps looks.counted region.before region.around end.name end.parts region.begun end.end end.number end.at inside.0 inside.1 true part end.so)

    sizes_so : (given : Expressions) → sizes_among part.attributes ≡ Some given → AreKnown ps vs t given × (nat_le (count_of given) 3 ≡ true)
    sizes_so given sized =
        part_extent ps named typed looks.counted looks.meant literals t end.end part given (among_at ps end.number end.end end.at) end.so (ap is_valued end.declares) sized placed

    extent_so : (given : Expressions) → sizes_among part.attributes ≡ Some given → (extent_at ps vs mine.phrase (n ∷ ns) mine.phrase.node ≡ Some (extent_with (all_sizes ps vs t given))) × IsShort (all_sizes ps vs t given)
    extent_so given sized =
        let both = sizes_so given sized in
        let low = leb-true (count_of given) 3 both.1 in
        let long = sizes_long ps vs t given in (
          extent_there ∙ (ap (extent_of ps vs t) sized ∙ extent_is ps vs t given both.0 both.1),
          short_is (all_sizes ps vs t given) (omega (arith, low, long)),
        )

    copies_so : is_some data_of_it.copies ≡ true → (c : ℕ) × (copies_at ps vs mine.phrase mine.phrase.node ≡ Some c) × (0 < c) × IsLow c
    unfolding copies_at copies_by
    copies_so some = by data_of_it.copies refl some where
      here : copies_at ps vs mine.phrase mine.phrase.node ≡ copies_by ps vs mine.phrase data_of_it.copies
      here = ap (copies_at ps vs mine.phrase) mine.node ∙ copies_there ps vs mine.phrase mine.common mine.item end.structure data_of_it t end.there

      by : (o : Option Expression) → data_of_it.copies ≡ o → is_some o ≡ true → (c : ℕ) × (copies_at ps vs mine.phrase mine.phrase.node ≡ Some c) × (0 < c) × IsLow c
      by None is none = absurd (cc)
      by (Some x) is some_ = (
        size_given ps vs mine.phrase x,
        here
            ∙ (ap (copies_by ps vs mine.phrase) is
            ∙ copies_known ps named typed looks.counted looks.meant literals mine.phrase mine.common mine.item data_of_it.place data_of_it.template x mine.node (data_of_it.typed ∙ ap (λ c. Some (StructureKind data_of_it.place data_of_it.template c)) is)
            (items_are_placed files looks.counted mine.phrase (among_at ps mine.number mine.phrase mine.there))),
        size_some ps vs mine.phrase x,
        size_low (constant_of ps vs mine.phrase x),
      )

    chosen_so : chosen l.path l.shape.components ≡ component ps vs t (map (λ (x : Naming). x.name) (n ∷ ns)) part.attributes ∷ []
    chosen_so =
        ap (λ p. chosen p l.shape.components) path
        ∙ (ap (chosen (n ∷ ns)) (mine.components ∙ ap (λ (x : Shape). x.components) (structured_shape ps vs mine.phrase mine.common mine.item end.structure data_of_it t end.there))
        ∙ choose_bottom ps looks.counted looks.found looks.lacking named (parts_stand files) vs end.structure end.number t end.end end.name end.parts (n ∷ ns) part end.there end.declares end.leading end.at end.so)

    led_so : IsPlainLed l known_part.cells (sizes_given ps vs t (sizes_among part.attributes))
    led_so = record {
      kind_is = ap kind_of_first chosen_so ∙ ap (λ o. unwrap_or o value.Single) kind_so;
      sizes = ap sizes_of_first chosen_so;
      some = subst LeadSomewhere (sym chosen_so) tt;
    }

    part_is_component : IsComponent ps mine.phrase (n ∷ ns) l
    part_is_component = record {
      common = mine.common;
      item = mine.item;
      node = mine.node;
      structure = t;
      type_ = known_part.type_;
      plain = known_part.plain;
      sizes = sizes_among part.attributes;
      copied = is_some data_of_it.copies;
      data_is = data_so;
      cells = known_part.cells;
      kind_is = kind_there;
      extent_is = extent_so;
      copies = copies_so;
      led = led_so;
    }

  pub component_of_it : (block : ℕ) (name : List ℕ) (n : Naming) (ns : List Naming) (l : Led) → l.path ≡ n ∷ ns → (mine : IsParted ps block name l) → HasEnd ps (template_meant mine) (n ∷ ns) true → IsComponent ps mine.phrase (n ∷ ns) l
  component_of_it block name n ns l path mine end = part_is_component block name n ns l path mine end

  -- a part with parts is a structure for the checks, with copies where the data have some
  pub inner_copied : (block : ℕ) (name : List ℕ) (n : Naming) (ns : List Naming) (l : Led) (mine : IsParted ps block name l) (end : HasEnd ps (template_meant mine) (n ∷ ns) false)
      → data_at ps mine.phrase (n ∷ ns) (OfItem mine.common mine.item)
      ≡ Some (data_with class.Structure 0 (is_some (of_type ps mine.phrase mine.common mine.item end.structure (type_of mine.common mine.item) refl end.is).copies))
  unfolding data_at_part kinds.part_data
  inner_copied block name n ns l mine end =
      let of = of_type ps mine.phrase mine.common mine.item end.structure (type_of mine.common mine.item) refl end.is in
      found_so ps end.structure end.number mine.phrase n ns mine.common mine.item of.place of.template of.copies of.typed of.meant end.leading
      ∙ (ap (λ (o : Option Phrase). option_and_then (λ (p : Phrase). data_at_part (is_some of.copies) p.node) o) end.at ∙ ap (data_at_part (is_some of.copies)) end.so)

  pub inner_data : (block : ℕ) (name : List ℕ) (n : Naming) (ns : List Naming) (l : Led) (mine : IsParted ps block name l) → HasEnd ps (template_meant mine) (n ∷ ns) false
      → (copies : Bool) × (data_at ps mine.phrase (n ∷ ns) (OfItem mine.common mine.item) ≡ Some (data_with class.Structure 0 copies))
  inner_data block name n ns l mine end =
      (is_some (of_type ps mine.phrase mine.common mine.item end.structure (type_of mine.common mine.item) refl end.is).copies, inner_copied block name n ns l mine end)
