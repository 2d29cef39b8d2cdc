use Rattle.std.proofs.Common.{◌≡◌, ◌<◌, ◌∙◌, suc, length, drop, true, false, refl, arith}
use borrow.Author.Count.{below_more}
use Rattle.std.proofs.lemmas.Int.{ints, to_z-of_z}
use Rattle.hal_operations.specs.Texts.{begins_with, index}
use Rattle.hal_operations.proofs.TextLists.{begins_with_tested, first_place_found, first_place_none, index_is}
use Rattle.hal_operations.proofs.texts.index.Goals as goal

pub loop-at-preserved : goal.loop-at-preserved
loop-at-preserved c =
    let text = c.args.text.now in
    let bytes = c.args.bytes.now in
    below_more (λ k. begins_with (drop k text) bytes ≡ false) c.loop-at.at c.loop-at.invariant (begins_with_tested text _ bytes c.loop-at.at _ false c.split_at.ensures.back c.starts_with.ensures.value c.if-starts_with.false)

pub returns-then-starts_with : goal.returns-then-starts_with
returns-then-starts_with c =
    let text = c.args.text.now in
    let bytes = c.args.bytes.now in
    let here = begins_with_tested text _ bytes c.loop-at.at _ true c.split_at.ensures.back c.starts_with.ensures.value c.if-starts_with.true in
    let some : 0 < length bytes = grind arith in
    let found : index text bytes ≡ suc c.loop-at.at = index_is text bytes some ∙ first_place_found text bytes c.loop-at.at c.loop-at.invariant (omega arith) here in
    rw found (grind (arith, ints, to_z-of_z))

pub returns : goal.returns
returns c =
    let text = c.args.text.now in
    let bytes = c.args.bytes.now in
    let some : 0 < length bytes = grind arith in
    let none : index text bytes ≡ 0 = index_is text bytes some ∙ first_place_none text bytes (λ k below. c.loop-at.invariant k (omega arith)) in
    rw none refl
