use Rattle.std.proofs.Common.{◌≤◌, List, length, sym, ap, subst, ◌∙◌}
use Rattle.hal_values.specs.declared.tables.Cell.{Cell}
use Rattle.hal_values.specs.declared.tables.Tables.{Tables}
use Rattle.hal_code.proofs.RightTables.{right_tables}
use Rattle.image_procs.proofs.starting.setting_of.Goals as goal

pub setting-requires-clause-few : goal.setting-requires-clause-few
setting-requires-clause-few c =
    subst (λ (cells : List Cell). length cells ≤ 65536) (sym (c.as_slice.ensures ∙ ap (λ (tables : Tables). tables.cells) c.requires.tables)) (right_tables c.args.load.now.image c.args.load.now.right).few_cells
