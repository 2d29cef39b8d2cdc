-- The laws of the reading of files: what is read is spelled by the words and nested so deep at most, and what is so spelled and nested is what is read.
use Rattle.std.proofs.Common.{◌≡◌, ℕ, ◌≤◌, [], Some}
use Rattle.hal_grammar.specs.Units.{File, nesting_of_file}
use Rattle.hal_grammar.specs.Words.{Words}
use Rattle.hal_grammar.specs.SpellsFiles.{SpellsFile}
use Rattle.hal_parse.specs.ReadingFiles.{file_at}
use Rattle.hal_parse_declarations.proofs.Decided.{given}
use Rattle.hal_parse.proofs.FilesRead.{file_gives, file_is}

-- a file is all of the words
pub file_sound : (n : ℕ) (words : Words) (f : File) → file_at n words ≡ Some (f, []) → SpellsFile f words [] × (nesting_of_file f ≤ n)
file_sound n words f e = given (file_gives n words) e

pub file_complete : (n : ℕ) (words : Words) (f : File) → SpellsFile f words [] → nesting_of_file f ≤ n → file_at n words ≡ Some (f, [])
file_complete n words f d l = file_is n d l
