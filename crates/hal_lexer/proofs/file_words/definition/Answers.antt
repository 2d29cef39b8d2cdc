use Rattle.std.proofs.Common.{arith}
use Rattle.hal_lexer.proofs.Marks.{text_at}
use Rattle.hal_lexer.proofs.file_words.definition.Goals as goal

pub defined-requires : goal.defined-requires
defined-requires c = text_at c.args.behind.now 2 c.text-item.result c.requires (omega arith) c.text-item.is
