use Rattle.std.proofs.Common.{map, ◌≡◌, None, rules}
use Rattle.hal_words.specs.Replacing.{definition, formless}
use Rattle.hal_pieces.specs.Faults.{seen_item}
use Rattle.hal_pieces.specs.Faults.{IsBrokenAt}
use Rattle.hal_lexer.proofs.Explained.{explains_formless}
use Rattle.hal_lexer.proofs.file_words.define.Goals as goal

pub returns-in_default-clause-broken : goal.returns-in_default-clause-broken
returns-in_default-clause-broken c =
    let behind = map seen_item c.args.behind.now in
    let none : definition behind ≡ None = search rules in
    let is : IsBrokenAt (formless behind) c.args.place c.broken.result = rw (← c.formless.ensures) c.broken.ensures in
    λ done rest. explains_formless (definition behind) done (formless behind) c.args.place rest c.broken.result none is
