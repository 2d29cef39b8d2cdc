use Rattle.std.proofs.Common.{◌≡◌, ◌++◌, ◌∷◌, [], map, ap, ◌∙◌, rules}
use Rattle.std.proofs.lemmas.Result.{err_from_is_err_and}
use Rattle.hal_words.specs.Words.{word_item}
use Rattle.hal_lexer.specs.Compiled.{children_at, gives}
use Rattle.hal_lexer.specs.Summary.{children_of, table_of}
use Rattle.hal_lexer.specs.Walks.{left_words}
use Rattle.hal_lexer.proofs.Walked.{walk_start}
use Rattle.hal_lexer.proofs.Within.{explains_moved}
use Rattle.hal_lexer.proofs.writing.write_name.Goals as goal

pub part-init : goal.part-init
part-init c =
    let table = table_of c.args.words.now c.args.entries.now in
    let first : c.push.new.self ≡ c.parts_at.result.now ∷ [] = search rules in
    record {
      whole = rw first (ap (λ list. map word_item c.args.tokens.now ++ list) (walk_start table c.args.place (map _ c.parts_at.result.now) ∙ ap (gives table c.args.place) (c.parts_at.ensures c.args.words.now)));
    }

pub returns-in_err-write_part-clause-broken : goal.returns-in_err-write_part-clause-broken
returns-in_err-write_part-clause-broken c =
    let table = table_of c.args.words.now c.args.entries.now in
    let p = err_from_is_err_and c.from_residual.result c.from_residual.ensures.1 in
    rw (p.1, p.2) (explains_moved (map word_item c.args.tokens.now) (map word_item c.part.tokens) (gives table c.args.place (children_at table c.args.number))
    (left_words table c.args.place (children_of c.args.words.now c.part.walk)) _ c.part.invariant.whole c.in_err-write_part.ensures.broken)
