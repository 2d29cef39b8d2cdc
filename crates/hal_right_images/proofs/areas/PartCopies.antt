-- What stands at the end of names of parts in a copy of a structure stands in the copy that a subscript chooses.
use Rattle.std.specs.Prelude.{◌≡◌, ◌≤◌, ◌+◌, ◌*◌, List, [], ◌++◌, flat_map, length, map, Some, slice_get, unwrap_or}
use Rattle.std.proofs.Common.{refl, ap, subst, arith}
use Rattle.std.proofs.lemmas.List.{map-append}
use Rattle.hal_base.specs.declared.refusal.Place.{Place}
use Rattle.hal_grammar.specs.Expressions.{ByParts, NoSubscripts, MoreSubscripts, One as OnePlace}
use Rattle.hal_scope.specs.Rules.{IsAmong}
use Rattle.hal_values.specs.declared.value.Kind.{Kind}
use Rattle.hal_constants.specs.Constants as constants
use Rattle.hal_code.specs.Memory.{offsets}
use Rattle.hal_meaning.specs.Elements.{copy_size, kinds_of, kinds_of_component, offset}
use Rattle.hal_meaning.specs.Expressions as meaning
use Rattle.hal_meaning.specs.Variables.{dimensions_of}
use Rattle.hal_agreement.specs.PlacedExpressions.{single_dimensions}
use Rattle.hal_agreement.specs.Sites.{Site}
use Rattle.hal_gen_expr.specs.Led.{Led, skips_led, sizes_led}
use Rattle.hal_gen_expr.specs.Numbering.{most, row_of}
use Rattle.hal_gen_expr.specs.Spans.{skips}
use Rattle.hal_right_images.proofs.rows.Formed.{IsFormed}
use Rattle.hal_right_images.proofs.views.Choosing.{copy_long, in_copies, in_copy, only_first}
use Rattle.hal_right_images.specs.areas.InCopies.{StandInCopy}
use Rattle.hal_right_images.proofs.areas.Standing.{Stands}
use Rattle.hal_right_images.proofs.areas.Structures.{single_none}

module _ (site : Site) (l : Led) (kinds : List Kind) (there_are : StandInCopy l kinds) where
  -- of one copy
  pub part_of_copy_stands : (formed : IsFormed l.shape) (few : copy_size l.shape.components ≤ most) (there : Place) (one : _) → Stands site l (ByParts there (MoreSubscripts (OnePlace one) NoSubscripts) NoSubscripts NoSubscripts) kinds
  unfolding constants.is_none
  part_of_copy_stands formed few there one o among j k at =
      let cs = l.shape.components in
      let size = copy_size cs in
      let ks = flat_map kinds_of_component cs in
      let copies = MoreSubscripts (OnePlace one) NoSubscripts in
      let rows = map row_of (single_dimensions (dimensions_of (sizes_led l)) NoSubscripts) in
      let no_rows_ : rows ≡ [] = ap (map row_of) (single_none (dimensions_of (sizes_led l))) in
      let here : IsAmong o (offsets (map row_of (single_dimensions (meaning.copies_of l.shape) copies) ++ [])) =
      subst (λ ds. IsAmong o (offsets (map row_of (single_dimensions (meaning.copies_of l.shape) copies) ++ ds))) no_rows_
      (subst (λ ds. IsAmong o (offsets ds)) (map-append row_of (single_dimensions (meaning.copies_of l.shape) copies) (single_dimensions (dimensions_of (sizes_led l)) NoSubscripts)) among) in
      let at_copy = in_copies site size 1 0 [] few (λ r is. let none = only_first r is in omega (arith, none)) l.shape.copies formed.copies copies o here in
      let long = copy_long cs in
      let found = in_copy (unwrap_or l.shape.copies 1) at_copy.copy (offset l.path l.shape.components + j) ks k at_copy.copy_low (there_are j k at) in
      let no_element : at_copy.element ≡ 0 = (let low = at_copy.element_low in omega (arith, low)) in
      let place = at_copy.is in
      let lengths = ap (λ m. at_copy.copy * m) long in
      let no_skip : skips site NoSubscripts (dimensions_of (sizes_led l)) ≡ 0 = refl in
      let so : at_copy.copy * length ks + (offset l.path l.shape.components + j) ≡ ((skips_led site (ByParts there copies NoSubscripts NoSubscripts) l + offset l.path l.shape.components) + o) + j =
      omega (arith, no_element, place, lengths, no_skip) in
      subst (λ m. slice_get (kinds_of l.shape) m ≡ Some k) so found
