use Rattle.std.proofs.Common.{◌≡◌, ◌<◌, ◌≤◌, ◌∙◌, length, get_or, map, ap, rules}
use Rattle.hal_lexer.specs.Summary.{child_of}
use Rattle.hal_lexer.proofs.WrittenParts.{parts_found, no_parts}
use Rattle.hal_lexer.proofs.writing.parts_at.Goals as goal

pub returns-in-Some : goal.returns-in-Some
returns-in-Some c = λ words.
    let entries = c.args.entries.now in
    let one = c.in-Some.entry.now in
    let within : c.args.number < length entries = search rules in
    let got : one ≡ get_or entries c.args.number one = search rules in
    ap (map (child_of words)) c.as_slice.ensures ∙ parts_found words entries c.args.number one within got

pub returns-in-None : goal.returns-in-None
returns-in-None c = λ words.
    let past : length c.args.entries.now ≤ c.args.number = search rules in
    no_parts words c.args.entries.now c.args.number past
