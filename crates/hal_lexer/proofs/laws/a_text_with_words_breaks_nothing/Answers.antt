use Rattle.hal_lexer.proofs.NoBreach.{no_breach}
use Rattle.hal_lexer.proofs.laws.a_text_with_words_breaks_nothing.Goals as goal

pub returns : goal.returns
returns c = λ unit text tokens rule place cut broken. no_breach unit text tokens rule place cut broken
