-- The reading of names: one or none, those that a semicolon ends, and labels.
use Rattle.std.specs.Prelude.{List, [], Option, Some, None}
use Rattle.hal_words.specs.declared.word.Symbol.TheVariants as symbol
use Rattle.hal_grammar.specs.Leaves.{Naming}
use Rattle.hal_grammar.specs.Words.{Words}
use Rattle.hal_parse_expr.specs.Reading.{Reader, decided, past_symbol, name_at, before_symbol, all}
use Rattle.hal_parse_declarations.specs.ReadingDeclarations.{names_at, label_at}

-- a name or none
unfoldable pub name_option_at : Reader (Option Naming)
name_option_at words = decided (name_at words) (λ x rest. Some (Some x, rest)) (Some (None, words))

-- names and a semicolon, or a semicolon alone
unfoldable pub names_end_at : Reader (List Naming)
names_end_at words = decided (past_symbol symbol.Semicolon words) (λ p rest. Some ([], rest)) (before_symbol symbol.Semicolon (names_at words))

-- as many labels as can be read
unfoldable pub labels_at : Words → List Naming × Words
labels_at words = all label_at words
