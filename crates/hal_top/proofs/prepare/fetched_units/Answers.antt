use Rattle.std.proofs.Common.{◌∙◌, ◌+◌, ◌++◌, ◌∷◌, [], ◌≤◌, length, drop, map, sym, subst, suc, Err, IfSome, List, ℕ, arith}
use Rattle.std.specs.String.{string_bytes}
use Rattle.hal_base.specs.declared.limits.TheConstants.{TEXT_LIMIT}
use Rattle.hal_compile.specs.Reading.{seen_text}
use Rattle.hal_top.specs.CommandLine.{Wanted, text_named}
use Rattle.hal_top.specs.Told.{FetchesFile}
use Rattle.hal_top.specs.Works.{IsCauseOfFile}
use Rattle.hal_top.proofs.Fetching.{HasGone, all_present, wanted, next_text, none_left, one_more, unfit}
use Rattle.hal_top.proofs.prepare.fetched_units.Goals as goal

pub returns-in-Err-clause-answer : goal.returns-in-Err-clause-answer
returns-in-Err-clause-answer g c =
    let names = c.args.names.now in
    let first = c.args.first in
    let i = c.loop-name.name-index in
    let done = map seen_text c.loop-name.units.items in
    unfit (g.S.Shelf.files c.args.shelf.now) (g.S.Shelf.files c.loop-name.shelf) first (wanted names) (text_named (string_bytes c.name-item.result)) (wanted (drop (i + 1) names)) i done c.in-Err.fault c.refused_file.result
    c.loop-name.invariant.same
    (subst (λ (rest : List Wanted). HasGone (g.S.Shelf.files c.args.shelf.now) first (wanted names) rest i done) (next_text names i c.name-item.result c.loop-name-test.true c.name-item.is) c.loop-name.invariant.on)
    (subst (λ (name : List ℕ). IfSome (g.S.Shelf.files c.loop-name.shelf) (λ told. FetchesFile told (text_named name) (Err c.in-Err.fault))) c.as_str.ensures.value c.in-Err.ensures.answer)
    (subst (λ (n : ℕ). IsCauseOfFile c.in-Err.fault n c.refused_file.result) c.loop-name.invariant.number c.refused_file.ensures)

pub loop-name-preserved : goal.loop-name-preserved
loop-name-preserved g c =
    let names = c.args.names.now in
    let first = c.args.first in
    let i = c.loop-name.name-index in
    let done = map seen_text c.loop-name.units.items in
    let files = g.S.Shelf.files c.args.shelf.now in
    let gone : HasGone files first (wanted names) (wanted (drop (i + 1) names)) (suc i) (done ++ (seen_text c.in-Ok.text ∷ [])) =
    one_more files (g.S.Shelf.files c.loop-name.shelf) first (wanted names) (text_named (string_bytes c.name-item.result)) (wanted (drop (i + 1) names)) i done (seen_text c.in-Ok.text)
    c.loop-name.invariant.same
    (subst (λ (rest : List Wanted). HasGone files first (wanted names) rest i done) (next_text names i c.name-item.result c.loop-name-test.true c.name-item.is) c.loop-name.invariant.on)
    (rw c.as_str.ensures.value at c.in-Ok.ensures.answer) in
    record {
      on = subst (λ (n : ℕ). HasGone files first (wanted names) (wanted (drop (i + 1) names)) n (map seen_text c.push_text.new.units.items)) (omega arith)
          (subst (λ (list : List (List ℕ)). HasGone files first (wanted names) (wanted (drop (i + 1) names)) (suc i) list) (sym c.in_ok-push_text.ensures.added) gone);
      count = omega (arith, c.in_ok-push_text.ensures.one, c.loop-name.invariant.count);
      same = c.fetched.ensures.same ∙ c.loop-name.invariant.same;
      later = omega (arith, c.loop-name.invariant.later, c.fetched.ensures.later);
      number = omega (arith, c.loop-name.invariant.number);
    }

pub returns-clause-answer : goal.returns-clause-answer
returns-clause-answer g c =
    let names = c.args.names.now in
    let i = c.loop-name.name-index in
    let all : length names ≤ i = omega (arith, c.loop-name-test.false) in
    all_present (g.S.Shelf.files c.args.shelf.now) c.args.first (wanted names) (wanted (drop i names)) i (map seen_text c.loop-name.units.items) (none_left names i all) c.loop-name.invariant.on
