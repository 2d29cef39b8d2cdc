use Rattle.std.proofs.Common.{◌≡◌, ◌∙◌, ◌++◌, List, ap, map, filter}
use Rattle.hal_phrases.specs.SeenPhrases.{seen_phrase}
use Rattle.hal_names.specs.Declarations.{is_declaration}
use Rattle.hal_names.specs.SeenNames.{seen_names}
use Rattle.hal_constants.specs.SeenKnown.{seen_known}
use Rattle.hal_storage.specs.report_names.SeenLookups.{seen_lookups}
use Rattle.hal_values.specs.declared.tables.ReportName.{ReportName}
use Rattle.hal_storage.proofs.report_names.RowsFound.{begun_with, rows_declared}
use Rattle.hal_storage.proofs.report_names.names.push_all.Goals as goal

pub loop-phrase-init : goal.loop-phrase-init
loop-phrase-init c =
    let same : map seen_phrase c.deref-phrase-items.result.now ≡ filter is_declaration (seen_names c.args.names.now) = ap (map seen_phrase) c.deref-phrase-items.ensures.value ∙ c.in_ok-phrases.ensures in (
      ap (λ (l : List ReportName). c.args.into.now.items ++ l) (rows_declared (seen_names c.args.names.now) (seen_known c.args.known.now) (map seen_phrase c.deref-phrase-items.result.now) same),
      begun_with (seen_names c.args.names.now) (seen_known c.args.known.now) (seen_lookups c.args.lookups.now) _ _ c.new-cells.ensures.items same c.requires.room,
    )
