use Rattle.std.proofs.Common.{sym, ◌∙◌}
use Rattle.hal_tree.specs.SeenUnits.{seen_file}
use Rattle.hal_parse_expr.specs.Seen.{seen_as}
use Rattle.hal_parse.proofs.Answered.{parsed, more_words}
use Rattle.hal_parse.proofs.parsing.whole_file.Goals as goal

-- all words are read
pub returns-then-is_empty-clause-parsed : goal.returns-then-is_empty-clause-parsed
unfolding seen_as
returns-then-is_empty-clause-parsed c =
    parsed c.args.words.now c.in-Some.rest.now (seen_file c.in-Some.file) (rw c.in-Some.is at c.in_ok-file.ensures) (sym c.is_empty.ensures ∙ c.if-is_empty.true)

-- words are left over
pub returns-else-is_empty-clause-none : goal.returns-else-is_empty-clause-none
unfolding seen_as
returns-else-is_empty-clause-none c =
    more_words c.args.words.now c.in-Some.rest.now (seen_file c.in-Some.file) (rw c.in-Some.is at c.in_ok-file.ensures) (sym c.is_empty.ensures ∙ c.if-is_empty.false)
