use Rattle.std.proofs.Common.{◌≡◌, Some, None, map, rules}
use Rattle.std.proofs.lemmas.Result.{err_from_is_err_and}
use Rattle.hal_words.specs.declared.word.Word.TheVariants as word
use Rattle.hal_words.specs.Pieces.{Is}
use Rattle.hal_words.specs.Lines.{item}
use Rattle.hal_words.specs.Replacing.{replaced_word}
use Rattle.hal_words.specs.Reserved.{look_up}
use Rattle.hal_words.specs.Words.{word_item}
use Rattle.hal_lexer.specs.Compiled.{number_of}
use Rattle.hal_lexer.proofs.Replaced.{name_replaced, name_stays, explains_told}
use Rattle.hal_lexer.proofs.replacing.put_read.Goals as goal

pub returns-in_err-found-clause-broken : goal.returns-in_err-found-clause-broken
returns-in_err-found-clause-broken c =
    let p = err_from_is_err_and c.from_residual.result c.from_residual.ensures.1 in
    rw (p.1, p.2) (explains_told (map word_item c.args.tokens.now) (replaced_word c.args.definitions.now (item (Is (word.Name c.args.name)) c.args.place)) _ c.in_err-found.ensures.broken)

pub returns-in-Some-clause-replaced : goal.returns-in-Some-clause-replaced
returns-in-Some-clause-replaced c =
    let found : number_of c.number.new.compiled c.args.name ≡ Some c.in-Some.number = search rules in
    let words = name_replaced c.args.definitions.now c.number.new.compiled c.args.name c.in-Some.number c.args.place c.in_ok-found.ensures.compiled found in
    rw words c.write.ensures.written

pub returns-in-Some-clause-broken : goal.returns-in-Some-clause-broken
returns-in-Some-clause-broken c =
    let found : number_of c.number.new.compiled c.args.name ≡ Some c.in-Some.number = search rules in
    let words = name_replaced c.args.definitions.now c.number.new.compiled c.args.name c.in-Some.number c.args.place c.in_ok-found.ensures.compiled found in
    rw words c.write.ensures.broken

pub returns-clause-broken : goal.returns-clause-broken
returns-clause-broken c =
    let none : look_up c.args.definitions.now c.args.name ≡ None = search rules in
    rw (name_stays c.args.definitions.now c.args.name c.args.place none) c.push.ensures.broken
