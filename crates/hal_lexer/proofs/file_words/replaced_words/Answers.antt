use Rattle.hal_lexer.proofs.Within.{texts_dropped}
use Rattle.hal_lexer.proofs.file_words.replaced_words.Goals as goal

pub take-requires-clause-texts : goal.take-requires-clause-texts
take-requires-clause-texts c = rw c.split_at.ensures.back (texts_dropped c.item.«from» c.args.items.now c.requires)
