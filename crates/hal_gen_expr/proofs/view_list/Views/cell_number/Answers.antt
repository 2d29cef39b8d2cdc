use Rattle.std.proofs.Common.{rules, map}
use Rattle.hal_gen_expr.specs.Numbering.{is_cell_view}
use Rattle.hal_gen_expr.specs.ViewSlots.{numbers_of, slot_of}
use Rattle.hal_gen_expr.proofs.IndexedViews.{found, cell_slot}
use Rattle.hal_gen_expr.proofs.view_list.Views.cell_number.Goals as goal

pub returns : goal.returns
returns c =
    let first =
    found (is_cell_view c.args.from c.args.rows.now c.args.kind) (slot_of c.args.from) (cell_slot c.args.from c.args.rows.now c.args.kind) c.args.self.now.list.items (map numbers_of c.args.self.now.table.items) c.args.self.now.indexed in
    search (rules, first)
