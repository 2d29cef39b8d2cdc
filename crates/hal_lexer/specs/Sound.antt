-- What is kept of the words of all texts agrees with the definitions.
use Rattle.hal_words.specs.Replacing.{Definitions}
use Rattle.hal_lexer.specs.declared.summary.Summary.{Summary}
use Rattle.hal_lexer.specs.Summary.{IsLexicon, IsSummary}

abbrev pub IsSound : Definitions → Summary → Type 0
IsSound definitions s = IsLexicon s.numbers.entries s.words.items × IsSummary definitions s.words.items s.comes.items s.cuts.items s.done
