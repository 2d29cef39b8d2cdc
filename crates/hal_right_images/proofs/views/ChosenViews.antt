-- Views of elements among which a subscript chooses lie where their data do.
use Rattle.std.specs.Prelude.{◌≡◌, ◌≤◌, ◌<◌, ◌+◌, ℕ, true, min, map, List, [], ◌∷◌, Some}
use Rattle.std.specs.List.{sum_by}
use Rattle.std.proofs.Common.{sym, ap, subst, arith}
use Rattle.hal_base.specs.declared.limits.TheConstants.{CELL_LIMIT}
use Rattle.hal_grammar.specs.Leaves.{Naming}
use Rattle.hal_values.specs.declared.value.Kind.{Kind}
use Rattle.hal_code.specs.declared.image.ImageParts.{ImageParts}
use Rattle.hal_code.specs.declared.row.Run.{Run}
use Rattle.hal_code.specs.declared.row.Target.TheVariants as target
use Rattle.hal_code.specs.Images.{row_count}
use Rattle.hal_code.specs.Right.{cell_count}
use Rattle.hal_meaning.specs.Elements.{kinds_of, offset}
use Rattle.hal_meaning.specs.Sets.{Set}
use Rattle.hal_storage.specs.referents.Referents.{Referent, DataOf, ConstantOf, EventOf, BlockOf, BuiltinOf, Unmeant}
use Rattle.hal_gen_expr.specs.Elements.{counted}
use Rattle.hal_gen_expr.specs.Led.{Led, led_by, led_to, rows_left, skips_led, first_chosen}
use Rattle.hal_gen_expr.specs.Numbering.{row_of, cell_view}
use Rattle.hal_gen_expr.specs.Referents.{referent}
use Rattle.hal_right_images.proofs.rows.Formed.{referent_formed}
use Rattle.hal_right_images.specs.rows.Purposes.{ForChosen}
use Rattle.hal_right_images.specs.views.Holding.{DataHold}
use Rattle.hal_right_images.specs.views.Left.{AllLead}
use Rattle.hal_right_images.specs.views.Lying.{lies_in, CellsLie}
use Rattle.hal_right_images.proofs.views.Bases.{base_low}
use Rattle.hal_right_images.proofs.views.Choosing.{chosen_there}
use Rattle.hal_right_images.proofs.views.Limits.{copy_few}
use Rattle.hal_right_images.proofs.views.Held.{Chooses, StandFrom, held_lies, one_stands}

-- what is led to is data
pub led_is : (path : List Naming) (r : Referent) (l : Led) → led_by path r ≡ Some l → r ≡ DataOf l.declared l.stored l.shape
led_is path (DataOf k way shape) l is = let same : led_to path k way shape ≡ l = cc in ap (λ (x : Led). DataOf x.declared x.stored x.shape) same
led_is path (ConstantOf v) l is = absurd (cc)
led_is path (EventOf e) l is = absurd (cc)
led_is path (BlockOf unit) l is = absurd (cc)
led_is path (BuiltinOf b) l is = absurd (cc)
led_is path Unmeant l is = absurd (cc)

-- so many elements further on, where fewer are counted
pub moved_is : (skipped first : ℕ) → min (min skipped counted + min first counted) counted < counted → min (min skipped counted + min first counted) counted ≡ skipped + first
moved_is skipped first low = omega (arith, low)

module _ (s : Set) (image : ImageParts) (cells : cell_count image ≤ CELL_LIMIT) (rows_few : sum_by (λ (runs : List (Run Kind)). row_count runs) image.shapes ≤ 1048576) (hold : DataHold s image) (lead : AllLead s) where
  pub chosen_lie : CellsLie s image ForChosen
  chosen_lie process site rows k from at one =
      let l = one.led in
      let are_data = led_is one.path (referent site one.name) l one.leads in
      let formed = referent_formed site.set.phrases site.set.constants site.block one.name l.declared l.stored l.shape are_data in
      let some = lead process site one.role one.place one.name one.path one.subscript l at one.says one.leads in
      let holds = hold process site one.name l.declared l.stored l.shape at are_data in
      let few = copy_few image cells rows_few process site l.declared l.stored l.shape (first_chosen site one.subscript l).before from formed.copies holds one.begins in
      let first = offset l.path l.shape.components in
      let skipped = skips_led site one.subscript l in
      let place = moved_is skipped first (base_low site l.declared (first_chosen site one.subscript l).before l.stored from one.begins) in
      let chooses : Chooses image (kinds_of l.shape) (first_chosen site one.subscript l).before (map row_of (rows_left one.subscript l)) (target.Cell (first_chosen site one.subscript l).kind) =
      (λ o is.
      subst (λ m. StandFrom (kinds_of l.shape) (m + o) ((first_chosen site one.subscript l).kind ∷ [])) (sym place)
      (one_stands (kinds_of l.shape) ((skipped + first) + o) (first_chosen site one.subscript l).kind
      (chosen_there site l formed some few one.subscript o is))) in
      let lies = held_lies image process site l.declared l.stored l.shape (first_chosen site one.subscript l).before from (map row_of (rows_left one.subscript l)) (target.Cell (first_chosen site one.subscript l).kind)
      holds one.begins chooses in
      subst (λ ds. lies_in image process (cell_view from ds k) ≡ true) (sym one.dimensions) (subst (λ x. lies_in image process (cell_view from (map row_of (rows_left one.subscript l)) x) ≡ true) (sym one.kind) lies)
