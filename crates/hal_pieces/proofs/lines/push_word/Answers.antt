use Rattle.std.proofs.Common.{◌≡◌, map, true, rules}
use Rattle.hal_words.specs.Letters.{is_blank}
use Rattle.hal_words.specs.Numbers.{begins}
use Rattle.hal_words.specs.Items.{begins_comment}
use Rattle.hal_pieces.specs.Faults.{seen_item}
use Rattle.hal_pieces.proofs.Words.{Reads-blank, Reads-begins_comment}
use Rattle.hal_pieces.proofs.lines.push_word.Goals as goal

pub returns-in-47-clause-read : goal.returns-in-47-clause-read
returns-in-47-clause-read c =
    let place = c.args.place in
    let front : begins_comment c.args.text.now ≡ true = search rules in
    Reads-begins_comment place.unit place.line place.column c.args.text.now (map seen_item c.args.items.now.items) front

pub returns-in-32-clause-read : goal.returns-in-32-clause-read
returns-in-32-clause-read c =
    let place = c.args.place in
    let front : begins is_blank c.args.text.now ≡ true = search rules in
    Reads-blank place.unit place.line place.column c.args.text.now (map seen_item c.args.items.now.items) front

pub returns-in-32-2-clause-read : goal.returns-in-32-2-clause-read
returns-in-32-2-clause-read c =
    let place = c.args.place in
    let front : begins is_blank c.args.text.now ≡ true = search rules in
    Reads-blank place.unit place.line place.column c.args.text.now (map seen_item c.args.items.now.items) front
