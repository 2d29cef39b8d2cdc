use Rattle.std.specs.Prelude.{ℕ, List, [], ◌∷◌, Option, Some, None, if◌then◌else◌, map, String, Vec}
use Rattle.std.specs.Str.{bytes_eq}
use Rattle.std.specs.String.{string_bytes}
use Rattle.std.specs.declared.alloc.Global.{Global}

-- a file: the bytes of its name, and its own bytes
abbrev pub File : Type 0
File = List ℕ × List ℕ

-- the bytes of the first file of this name, if there is one
abbrev pub file_named : List File → List ℕ → Option (List ℕ)
file_named [] name = None
file_named (file ∷ files) name = if bytes_eq file.0 name then Some file.1 else file_named files name

-- files as code holds them
abbrev pub files_in : List (String Global × Vec ℕ Global) → List File
files_in pairs = map (λ pair. (string_bytes pair.0, pair.1.items)) pairs
