-- Words that begin an expression are none of those that follow one.
use Rattle.std.proofs.Common.{◌≡◌, ◌<◌, ◌≤◌, None, arith}
use Rattle.hal_words.specs.declared.reserved.Reserved.{Reserved}
use Rattle.hal_words.specs.declared.word.Symbol.{Symbol}
use Rattle.hal_grammar.specs.Words.{Words, BeginsReserved, BeginsSymbol, begins}
use Rattle.hal_grammar.specs.GoesOn.{reserved_strength, symbol_strength, strength}
use Rattle.hal_parse_expr.specs.Reading.{past, past_symbol}
use Rattle.hal_parse_expr.proofs.FirstWords.{past_none, past_symbol_none}

weaker_symbol : (s : Symbol) (words : Words) → symbol_strength s < 5 → 5 ≤ strength words → ¬ BeginsSymbol s words
weaker_symbol s words h l begins = absurd (omega (arith, h, l))

weaker_reserved : (r : Reserved) (words : Words) → reserved_strength r < 5 → 5 ≤ strength words → ¬ BeginsReserved r words
weaker_reserved r words h l begins = absurd (omega (arith, h, l))

pub no_weak_symbol : (s : Symbol) (words : Words) → symbol_strength s < 5 → 5 ≤ strength words → past_symbol s words ≡ None
no_weak_symbol s words h l = past_symbol_none s words (weaker_symbol s words h l)

pub no_weak_reserved : (r : Reserved) (words : Words) → reserved_strength r < 5 → 5 ≤ strength words → past r words ≡ None
no_weak_reserved r words h l = past_none r words (weaker_reserved r words h l)
