use Rattle.std.proofs.Common.{◌≡◌, length, ap, ◌∙◌, arith}
use Rattle.std.proofs.lemmas.List.{length-replicate}
use Rattle.hal_values.specs.Tables.{process_count}
use Rattle.exec_rows.specs.Playing.{nothing_held}
use Rattle.exec_rows.proofs.Desks.{no_answers}
use Rattle.exec_rows.proofs.scripted_procs.ScriptedProcs.start.Goals as goal

-- there is a desk for each process
all_made : (c : goal.After-loop-name) → c.loop-name._name-index ≡ process_count c.args.load.tables
all_made c =
    let all = ap length c.as_slice-name-items.ensures in
    let test = c.loop-name-test.false in
    let auto = c.loop-name.auto in
    omega (arith, all, test, auto._name-index-end)

pub returns-clause-answers : goal.returns-clause-answers
returns-clause-answers c = no_answers c.args.load c.loop-name.desks.items c.loop-name._name-index c.requires c.loop-name.invariant (all_made c)

pub invariant_of-result : goal.invariant_of-result
invariant_of-result c = record { right = c.requires; all = ap length c.loop-name.invariant ∙ (length-replicate c.loop-name._name-index nothing_held ∙ all_made c) }
