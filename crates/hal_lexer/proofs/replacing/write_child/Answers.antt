use Rattle.std.proofs.Common.{◌≡◌, ◌∷◌, map, rules}
use Rattle.std.proofs.lemmas.Result.{IfOk-weaker, IfErr-weaker}
use Rattle.hal_words.specs.Words.{word_item}
use Rattle.hal_lexer.specs.declared.child.Child.TheVariants as child
use Rattle.hal_lexer.specs.Walks.{kept}
use Rattle.hal_lexer.proofs.Walked.{word_broken, name_moved, name_less}
use Rattle.hal_lexer.proofs.replacing.write_child.Goals as goal

pub returns-in-Word-clause-broken : goal.returns-in-Word-clause-broken
returns-in-Word-clause-broken c =
    let first : c.args.walk.now ≡ (child.Word c.in-Word.word ∷ c.in-Some-split_first.rest.now) ∷ c.pop.new.self = search rules in
    IfErr-weaker c.write_word.result _ _
    (λ fault there. word_broken (map word_item c.args.tokens.now) c.args.compiled.now c.args.place c.args.walk.now c.in-Word.word c.in-Some-split_first.rest.now c.pop.new.self fault first there)
    c.write_word.ensures.broken

pub returns-in-Name-clause-moved : goal.returns-in-Name-clause-moved
returns-in-Name-clause-moved c =
    let first : c.args.walk.now ≡ (child.Name c.in-Name.number ∷ c.in-Some-split_first.rest.now) ∷ c.pop.new.self = search rules in
    let behind : c.keep.new.walk ≡ kept c.in-Some-split_first.rest.now c.pop.new.self = search rules in
    IfOk-weaker c.enter.result _ _
    (λ _ new. name_moved (map word_item c.args.tokens.now) c.args.compiled.now c.args.place c.args.walk.now c.enter.new.walk c.in-Name.number c.children.result.now c.in-Some-split_first.rest.now c.pop.new.self c.keep.new.walk
    first c.requires.ordered c.children.ensures behind new)
    c.enter.ensures.entered

pub returns-in-Name-clause-smaller : goal.returns-in-Name-clause-smaller
returns-in-Name-clause-smaller c =
    let first : c.args.walk.now ≡ (child.Name c.in-Name.number ∷ c.in-Some-split_first.rest.now) ∷ c.pop.new.self = search rules in
    let behind : c.keep.new.walk ≡ kept c.in-Some-split_first.rest.now c.pop.new.self = search rules in
    IfOk-weaker c.enter.result _ _
    (λ _ new. name_less c.args.compiled.now c.args.walk.now c.enter.new.walk c.in-Name.number c.children.result.now c.in-Some-split_first.rest.now c.pop.new.self c.keep.new.walk first c.requires.ordered c.children.ensures behind new)
    c.enter.ensures.entered
