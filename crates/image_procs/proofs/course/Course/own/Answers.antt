use Rattle.std.proofs.Common.{◌≡◌, List, length, filter_map, IfOk, ap, sym, subst, ◌∙◌}
use Rattle.hal_values.specs.declared.tables.ReportName.{ReportName}
use Rattle.hal_values.specs.ReportElements.{elements_in}
use Rattle.hal_states.specs.Telling.{own_values}
use Rattle.hal_code.specs.Cores.{Setting}
use Rattle.hal_code.specs.Courses.{Asked}
use Rattle.hal_runner.specs.Prepared.{prepared_seen}
use Rattle.hal_report.specs.Arrays.{AreArrays}
use Rattle.image_procs.specs.Owning.{own_shown, places_seen}
use Rattle.image_procs.proofs.Arrays.{arrays_right}
use Rattle.image_procs.proofs.Standing.{took_all}
use Rattle.image_procs.proofs.course.Course.own.Goals as goal

pub own_values-requires : goal.own_values-requires
own_values-requires c =
    let s = prepared_seen c.args.setting.now in
    subst AreArrays (sym (c.requires.names ∙ ap (λ (t : Setting). t.tables.names) c.requires.run.is)) (arrays_right s.image c.requires.run.right)

pub returns : goal.returns
returns c =
    let s = prepared_seen c.args.setting.now in
    subst (λ (one : Asked). IfOk c.own_values.result (λ values. values.items ≡ own_values s.tables s.process one.core.kept.places)) (took_all s c.in_ok-copy.copy c.args.self.now.told.items c.in_ok-copy.ensures)
    (subst (λ (names : List ReportName). IfOk c.own_values.result (λ values. values.items ≡ filter_map (own_shown s.process (places_seen c.in_ok-copy.copy)) (elements_in (length names) names))) c.requires.names c.own_values.ensures)
