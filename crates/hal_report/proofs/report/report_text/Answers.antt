use Rattle.std.proofs.Common.{◌≡◌, List, [], flat_map, length, ap, ap₂, ◌∙◌}
use Rattle.std.specs.List.{range_with_len}
use Rattle.hal_values.specs.declared.tables.ReportName.{ReportName}
use Rattle.hal_values.specs.declared.tables.Tables.{Tables}
use Rattle.hal_values.specs.declared.value.Value.{Value}
use Rattle.hal_values.specs.Tables.{process_count}
use Rattle.exec_model.specs.declared.state.State.{State}
use Rattle.exec_model.specs.declared.status.End.{End}
use Rattle.exec_model.specs.Moments.{moment_of}
use Rattle.hal_values.specs.ReportElements.{Element, elements, elements_in}
use Rattle.exec_model.specs.Report.{end_line, live_line, value_lines}
use Rattle.hal_report.proofs.Reports.{four_parts, live_lines-same, value_lines-same}
use Rattle.hal_report.proofs.report.report_text.Goals as goal

pub returns : goal.returns
returns g c =
    let tables : Tables = g.P.Of.Load.tables (g.P.Procs.load c.args.plain.now.procs) in
    let state : State = c.args.plain.now.state in
    let tables_are : c.tables-tables.result.now ≡ tables = c.tables-tables.ensures ∙ ap (λ p. g.P.Of.Load.tables (g.P.Procs.load p)) c.procs.ensures in
    let state_is : c.state-state.result.now ≡ state = c.state-state.ensures in
    four_parts c.as_slice-2.result.now (flat_map (end_line c.tables-tables.result.now) c.as_slice-3.result.now) _ _ state.output (flat_map (end_line tables) state.ends) _ _ _ _ _ _ _
    c.new-text.ensures.items c.in_ok-extend_from_slice.ensures.items c.in_ok-add_ends.ensures c.in_ok-add_lives.ensures c.in_ok-add_values.ensures
    (c.as_slice-2.ensures ∙ ap (λ (s : State). s.output) state_is)
    (ap₂ (λ (t : Tables) (es : List End). flat_map (end_line t) es) tables_are (c.as_slice-3.ensures ∙ ap (λ (s : State). s.ends) state_is))
    (ap₂ (λ (t : Tables) (s : State). flat_map (live_line t (moment_of s [])) (range_with_len 0 (process_count t))) tables_are state_is
    ∙ live_lines-same tables state [] (g.P.Procs.answers c.args.plain.now.procs) (range_with_len 0 (process_count tables)))
    (ap₂ (λ (t : Tables) (s : State). value_lines t (moment_of s []) c.as_slice-4.result.now c.as_slice-5.result.now) tables_are state_is
    ∙ (ap₂ (λ (os : List (List Value)) (es : List Element). value_lines tables (moment_of state []) os es) (c.as_slice-4.ensures.value ∙ c.requires.owns)
    (c.as_slice-5.ensures.value ∙ c.in_ok-shown.ensures ∙ ap (λ (ns : List ReportName). elements_in (length ns) ns) (c.as_slice.ensures ∙ ap (λ (t : Tables). t.names) tables_are))
    ∙ value_lines-same tables state [] (g.P.Procs.answers c.args.plain.now.procs) _ (elements tables)))
