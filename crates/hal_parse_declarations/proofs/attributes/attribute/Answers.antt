use Rattle.hal_parse_expr.specs.Seen.{seen_as}
use Rattle.hal_parse_declarations.proofs.CodeDeclarations.{no_attribute}
use Rattle.hal_parse_declarations.proofs.attributes.attribute.Goals as goal

pub returns-in_default-attribute_word_of : goal.returns-in_default-attribute_word_of
unfolding seen_as
returns-in_default-attribute_word_of c = no_attribute c.args.depth c.in-Some.ensures.cases.0 c.in_default-attribute_word_of.ensures
