-- What the first word of a unit's head says of the unit.
use Rattle.std.specs.Prelude.{ℕ, Option, Some, None}
use Rattle.hal_base.specs.declared.refusal.Place.{Place}
use Rattle.hal_words.specs.declared.reserved.Reserved.TheVariants as reserved
use Rattle.hal_words.specs.declared.word.Symbol.TheVariants as symbol
use Rattle.hal_words.specs.declared.word.Word.{Word}
use Rattle.hal_words.specs.declared.word.Word.TheVariants as word
use Rattle.hal_grammar.specs.Units.{Head, Program, Compool, Task}
use Rattle.hal_parse_expr.specs.Reading.{Reader, made_of, past_symbol}
use Rattle.hal_parse.specs.ReadingFiles.{procedure_behind, function_behind}
use Rattle.hal_parse.specs.declared.heading.Heading.{Heading}
use Rattle.hal_parse.specs.declared.heading.Heading.TheVariants as heading

-- what a word says of a unit
unfoldable pub heads : Word → Option Heading
heads (word.Reserved reserved.Program) = Some heading.Program
heads (word.Reserved reserved.Compool) = Some heading.Compool
heads (word.Reserved reserved.Task) = Some heading.Task
heads (word.Reserved reserved.Procedure) = Some heading.Procedure
heads (word.Reserved reserved.Function) = Some heading.Function
heads other = None

-- the head that it begins
unfoldable pub headed_at : ℕ → Place → Heading → Reader Head
headed_at n p heading.Program rest = made_of (λ q. Program p) (past_symbol symbol.Semicolon rest)
headed_at n p heading.Compool rest = made_of (λ q. Compool p) (past_symbol symbol.Semicolon rest)
headed_at n p heading.Task rest = made_of (λ q. Task p) (past_symbol symbol.Semicolon rest)
headed_at n p heading.Procedure rest = procedure_behind p rest
headed_at n p heading.Function rest = function_behind n p rest
