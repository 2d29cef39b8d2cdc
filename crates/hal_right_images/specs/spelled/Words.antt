-- Files that right words spell.
use Rattle.std.specs.Prelude.{◌≡◌, nat_le, true, List, [], ◌∷◌, length}
use Rattle.hal_words.specs.declared.word.Word.{Word}
use Rattle.hal_words.specs.declared.word.Word.TheVariants as word
use Rattle.hal_grammar.specs.SpellsFiles.{SpellsFile}
use Rattle.hal_grammar.specs.Units.{File}
use Rattle.hal_grammar.specs.Words.{Words}
use Rattle.hal_code.specs.declared.operand.Time.TheVariants as time
use Rattle.hal_code.specs.Operands.{is_time}
use Rattle.hal_fit_expr.specs.Sorted.{are_bits}

-- a word that the lexer gives: a number within its limit, thousandths that are a time, a text of at most 255 bytes, bits that lie within their length
abbrev pub IsRightWord : Word → Type 0
IsRightWord (word.Integer n) = nat_le n 2147483647 ≡ true
IsRightWord (word.Decimal n) = is_time (time.Milliseconds n) ≡ true
IsRightWord (word.Text t) = nat_le (length t) 255 ≡ true
IsRightWord (word.Bits len bits) = are_bits len bits ≡ true
IsRightWord other = Unit {0}

abbrev pub AreRightWords : Words → Type 0
AreRightWords [] = Unit {0}
AreRightWords (first ∷ words) = IsRightWord first.word × AreRightWords words

-- such words spell a file
pub record IsSpelled (file : File) : Type 0 where
  pub words : Words
  pub spelled : SpellsFile file words []
  pub right : AreRightWords words

-- and all files of a set
abbrev pub AreAllSpelled : List File → Type 0
AreAllSpelled [] = Unit {0}
AreAllSpelled (file ∷ files) = IsSpelled file × AreAllSpelled files
