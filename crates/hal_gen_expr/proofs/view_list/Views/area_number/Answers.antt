use Rattle.std.proofs.Common.{rules, map}
use Rattle.hal_gen_expr.specs.Numbering.{is_area_view}
use Rattle.hal_gen_expr.specs.ViewSlots.{numbers_of, slot_of}
use Rattle.hal_gen_expr.proofs.IndexedViews.{found, area_slot}
use Rattle.hal_gen_expr.proofs.view_list.Views.area_number.Goals as goal

pub returns : goal.returns
returns c =
    let first =
    found (is_area_view c.args.from c.args.rows.now c.args.shape) (slot_of c.args.from) (area_slot c.args.from c.args.rows.now c.args.shape) c.args.self.now.list.items (map numbers_of c.args.self.now.table.items) c.args.self.now.indexed in
    search (rules, first)
