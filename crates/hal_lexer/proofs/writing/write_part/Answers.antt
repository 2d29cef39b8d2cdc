use Rattle.std.proofs.Common.{◌≡◌, ◌∷◌, map, rules}
use Rattle.std.proofs.lemmas.Result.{IfOk-weaker, IfErr-weaker}
use Rattle.hal_words.specs.Words.{word_item}
use Rattle.hal_lexer.specs.declared.comes.Given.TheVariants as given
use Rattle.hal_lexer.specs.Walks.{kept}
use Rattle.hal_lexer.proofs.WrittenParts.{word_told, word_written, word_fewer, part_moved, part_less}
use Rattle.hal_lexer.proofs.writing.write_part.Goals as goal

pub returns-in-Word-clause-broken : goal.returns-in-Word-clause-broken
returns-in-Word-clause-broken c =
    let first : c.args.walk.now ≡ (given.Word c.in-Word.number ∷ c.in-Some-split_first.rest.now) ∷ c.pop.new.self = search rules in
    IfErr-weaker c.write_word.result _ _
    (λ fault there. word_told (map word_item c.args.tokens.now) c.args.words.now c.args.entries.now c.args.place c.args.walk.now c.in-Word.number c.in-Some-split_first.rest.now c.pop.new.self fault first there)
    c.write_word.ensures.broken

pub returns-in-Word-clause-moved : goal.returns-in-Word-clause-moved
returns-in-Word-clause-moved c =
    let first : c.args.walk.now ≡ (given.Word c.in-Word.number ∷ c.in-Some-split_first.rest.now) ∷ c.pop.new.self = search rules in
    let behind : c.keep.new.walk ≡ kept c.in-Some-split_first.rest.now c.pop.new.self = search rules in
    IfOk-weaker c.write_word.result _ _
    (λ _ written. word_written (map word_item c.args.tokens.now) _ c.args.words.now c.args.entries.now c.args.place c.args.walk.now c.keep.new.walk c.in-Word.number c.in-Some-split_first.rest.now c.pop.new.self first behind written)
    c.write_word.ensures.written

pub returns-in-Word-clause-smaller : goal.returns-in-Word-clause-smaller
returns-in-Word-clause-smaller c =
    let first : c.args.walk.now ≡ (given.Word c.in-Word.number ∷ c.in-Some-split_first.rest.now) ∷ c.pop.new.self = search rules in
    let behind : c.keep.new.walk ≡ kept c.in-Some-split_first.rest.now c.pop.new.self = search rules in
    IfOk-weaker c.write_word.result _ _
    (λ _ written. word_fewer c.args.words.now c.args.entries.now c.args.walk.now c.keep.new.walk c.in-Word.number c.in-Some-split_first.rest.now c.pop.new.self first behind)
    c.write_word.ensures.written

pub returns-in-Name-clause-moved : goal.returns-in-Name-clause-moved
returns-in-Name-clause-moved c =
    let first : c.args.walk.now ≡ (given.Name c.in-Name.number ∷ c.in-Some-split_first.rest.now) ∷ c.pop.new.self = search rules in
    let behind : c.keep.new.walk ≡ kept c.in-Some-split_first.rest.now c.pop.new.self = search rules in
    IfOk-weaker c.enter.result _ _
    (λ _ new. part_moved (map word_item c.args.tokens.now) c.args.words.now c.args.entries.now c.args.place c.args.walk.now c.enter.new.walk c.in-Name.number c.parts_at.result.now c.in-Some-split_first.rest.now c.pop.new.self c.keep.new.walk
    first c.requires.ordered (c.parts_at.ensures c.args.words.now) behind new)
    c.enter.ensures.entered

pub returns-in-Name-clause-smaller : goal.returns-in-Name-clause-smaller
returns-in-Name-clause-smaller c =
    let first : c.args.walk.now ≡ (given.Name c.in-Name.number ∷ c.in-Some-split_first.rest.now) ∷ c.pop.new.self = search rules in
    let behind : c.keep.new.walk ≡ kept c.in-Some-split_first.rest.now c.pop.new.self = search rules in
    IfOk-weaker c.enter.result _ _
    (λ _ new. part_less c.args.words.now c.args.entries.now c.args.walk.now c.enter.new.walk c.in-Name.number c.parts_at.result.now c.in-Some-split_first.rest.now c.pop.new.self c.keep.new.walk first c.requires.ordered (c.parts_at.ensures c.args.words.now) behind new)
    c.enter.ensures.entered
