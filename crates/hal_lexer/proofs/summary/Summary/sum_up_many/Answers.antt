use Rattle.std.proofs.Common.{◌≡◌, ◌<◌, List, length, get_or, map, Some, All, rules}
use Rattle.std.proofs.lemmas.Result.{IfOk-weaker}
use Rattle.hal_words.specs.declared.word.Word.{Word}
use Rattle.hal_lexer.specs.Compiled.{as_child}
use Rattle.hal_lexer.specs.Summary.{Amounts, IsHeld, IsKept, child_of, told}
use Rattle.hal_lexer.proofs.Places.{get_known}
use Rattle.hal_lexer.proofs.summary.Summary.sum_up_many.Goals as goal

pub returns-clause-sound : goal.returns-clause-sound
returns-clause-sound c =
    let self = c.args.self.now in
    let number = c.args.number in
    let one = c.in-Some.cut.now in
    let known = c.comes_of-known.result in
    let list = c.gather.new.parts.items in
    let there : number < length self.cuts.items = search rules in
    let got : one ≡ get_or self.cuts.items number one = search rules in
    let at = get_known self.cuts.items number one there got in
    let amounts : Amounts self.comes.items one number list = search rules in
    let count : c.in_ok-count.count ≡ length self.done = search rules in
    let same : c.as_slice-parts.result.now ≡ list = search rules in
    let here : (words : List Word) → told words (Some known) ≡ Some (as_child (length self.done) (map (child_of words) list)) = λ words. rw (← same, ← count) (c.comes_of-known.ensures.told words) in
    let held : (words : List Word) → All (IsHeld words) list → IsKept words known = λ words all. c.comes_of-known.ensures.held words (rw same all) in
    IfOk-weaker c.keep.result _ _ (λ _ kept definitions sound unknown. kept definitions sound unknown (one, at, amounts) (here, held)) c.keep.ensures.sound
