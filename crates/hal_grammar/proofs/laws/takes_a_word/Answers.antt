use Rattle.hal_grammar.proofs.Shorter.{expression_shorter}
use Rattle.hal_grammar.proofs.ShorterDeclarations.{declaration_shorter}
use Rattle.hal_grammar.proofs.ShorterStatements.{statement_shorter}
use Rattle.hal_grammar.proofs.ShorterFiles.{block_shorter, file_shorter}
use Rattle.hal_grammar.proofs.laws.takes_a_word.Goals as goal

pub returns-clause-expression : goal.returns-clause-expression
returns-clause-expression c x words after d = expression_shorter d

pub returns-clause-declaration : goal.returns-clause-declaration
returns-clause-declaration c x words after d = declaration_shorter d

pub returns-clause-statement : goal.returns-clause-statement
returns-clause-statement c x words after d = statement_shorter d

pub returns-clause-unit : goal.returns-clause-unit
returns-clause-unit c x words after d = block_shorter d

pub returns-clause-file : goal.returns-clause-file
returns-clause-file c x words after d = file_shorter d
