use Rattle.std.proofs.Common.{◌<◌, length, arith, sym, ◌∙◌}
use Rattle.std.proofs.lemmas.Bool.Decides.{nat_tests}
use Rattle.hal_script.proofs.FirstWord.{words-first, words-last, behind_word-first, behind_word-last}
use Rattle.hal_script.proofs.word.first_word.Goals as goal

pub returns-then-not-is_empty-clause-first : goal.returns-then-not-is_empty-clause-first
returns-then-not-is_empty-clause-first c =
    let full : 0 < length c.split_at.result.0.now = grind (arith, nat_tests, c.if-not-is_empty.ensures) in
    c.loop-end.invariant.said ∙ rw (c.split_at.ensures.front, c.split_at-in-Some.ensures.back)
    (words-first c.loop-end.rest.now c.in-Some.end (sym c.blank_at.ensures ∙ c.in-Some.is) (rw c.split_at.ensures.front at full))

pub returns-clause-first : goal.returns-clause-first
returns-clause-first c =
    let full : 0 < length c.loop-end.rest.now = grind (arith, nat_tests, c.if-is_empty.ensures) in
    c.loop-end.invariant.said ∙ words-last c.loop-end.rest.now (sym c.blank_at.ensures ∙ c.in_default.is) full

pub returns-then-not-is_empty-clause-behind : goal.returns-then-not-is_empty-clause-behind
returns-then-not-is_empty-clause-behind c =
    let full : 0 < length c.split_at.result.0.now = grind (arith, nat_tests, c.if-not-is_empty.ensures) in
    rw c.split_at-in-Some.ensures.back
    (sym (c.loop-end.invariant.behind ∙ behind_word-first c.loop-end.rest.now c.in-Some.end (sym c.blank_at.ensures ∙ c.in-Some.is) (rw c.split_at.ensures.front at full)))

pub returns-clause-behind : goal.returns-clause-behind
returns-clause-behind c =
    let full : 0 < length c.loop-end.rest.now = grind (arith, nat_tests, c.if-is_empty.ensures) in
    sym (c.loop-end.invariant.behind ∙ behind_word-last c.loop-end.rest.now (sym c.blank_at.ensures ∙ c.in_default.is) full)
