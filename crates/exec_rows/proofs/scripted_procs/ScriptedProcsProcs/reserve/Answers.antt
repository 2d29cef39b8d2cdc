use Rattle.std.proofs.Common.{◌<◌, length, arith}
use Rattle.exec_rows.proofs.Desks.{reserved_one, reserved_more}
use Rattle.exec_rows.proofs.scripted_procs.ScriptedProcsProcs.reserve.Goals as goal

pub loop-place-preserved : goal.loop-place-preserved
loop-place-preserved c =
    let was = c.loop-place.invariant in
    let all = was.all in
    let test = c.loop-place-test.true in
    let desks = c.loop-place.self-inside.desks.items in
    let below : c.loop-place.place < length desks = omega (arith, all, test) in
    let now = reserved_one _ c.loop-place.self-inside.load desks c.loop-place.place _ c.index_mut.result.now c.reserve.new.self was below c.index_mut.ensures.value c.reserve.ensures.answers c.reserve.ensures.look c.reserve.ensures.no_lower in
    reserved_more _ c.loop-place.self-inside.load desks c.loop-place.place _ c.reserve.new.self now below c.in_ok-reserve.ensures.room

pub returns-in_err-reserve-clause-same : goal.returns-in_err-reserve-clause-same
returns-in_err-reserve-clause-same c =
    let was = c.loop-place.invariant in
    let all = was.all in
    let test = c.loop-place-test.true in
    let desks = c.loop-place.self-inside.desks.items in
    let below : c.loop-place.place < length desks = omega (arith, all, test) in
    let now = reserved_one _ c.loop-place.self-inside.load desks c.loop-place.place _ c.index_mut.result.now c.reserve.new.self was below c.index_mut.ensures.value c.reserve.ensures.answers c.reserve.ensures.look c.reserve.ensures.no_lower in
    (now.same, now.answers, now.looks)

pub returns-in_err-reserve-clause-no_lower : goal.returns-in_err-reserve-clause-no_lower
returns-in_err-reserve-clause-no_lower c =
    let was = c.loop-place.invariant in
    let all = was.all in
    let test = c.loop-place-test.true in
    let desks = c.loop-place.self-inside.desks.items in
    let below : c.loop-place.place < length desks = omega (arith, all, test) in
    let now = reserved_one _ c.loop-place.self-inside.load desks c.loop-place.place _ c.index_mut.result.now c.reserve.new.self was below c.index_mut.ensures.value c.reserve.ensures.answers c.reserve.ensures.look c.reserve.ensures.no_lower in
    now.rooms
