use Rattle.std.proofs.lemmas.Result.{IfErr-weaker}
use Rattle.hal_lexer.proofs.WrittenParts.{name_given}
use Rattle.hal_lexer.proofs.writing.write_given.Goals as goal

pub returns-in-Word-clause-broken : goal.returns-in-Word-clause-broken
returns-in-Word-clause-broken c =
    IfErr-weaker c.write_word.result _ _ (λ fault there. rw c.in-Word.is there) c.write_word.ensures.broken

pub returns-in-Name-clause-written : goal.returns-in-Name-clause-written
returns-in-Name-clause-written c =
    let same = name_given c.args.words.now c.args.entries.now c.args.place c.args.one c.in-Name.number c.requires c.in-Name.is in
    rw same c.write_name.ensures.written

pub returns-in-Name-clause-broken : goal.returns-in-Name-clause-broken
returns-in-Name-clause-broken c =
    let same = name_given c.args.words.now c.args.entries.now c.args.place c.args.one c.in-Name.number c.requires c.in-Name.is in
    rw same c.write_name.ensures.broken
