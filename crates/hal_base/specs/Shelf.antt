use Rattle.std.specs.Prelude.{◌≡◌, ℕ, ◌<◌, ◌≤◌, List, [], length, Option, Some, None, Result, Ok, Err}
use Rattle.hal_base.specs.Files.{File, file_named}
use Rattle.hal_base.specs.declared.shelf.Found.{Found}
use Rattle.hal_base.specs.declared.shelf.Found.TheVariants.{All, Absent, TooLong}
use Rattle.hal_base.specs.declared.shelf.ShelfFault.{ShelfFault}

-- the answer is right of these files, each answer in its own case
abbrev pub Says : List File → List ℕ → ℕ → Found → List ℕ → Type 0
Says files name limit All into = (file_named files name ≡ Some into) × (length into ≤ limit)
Says files name limit Absent into = file_named files name ≡ None
Says files name limit TooLong into =
    (bytes : List ℕ) × (file_named files name ≡ Some bytes) × (limit < length bytes)

-- an answer is right where the files are told and it is no error
abbrev pub Fetches : Option (List File) → List ℕ → ℕ → Result Found ShelfFault → List ℕ → Type 0
Fetches (Some files) name limit (Ok found) into = Says files name limit found into
Fetches (Some files) name limit (Err fault) into = Unit {0}
Fetches None name limit result into = Unit {0}

-- nothing is handed out but with the answer All
abbrev pub EmptyButAll : Result Found ShelfFault → List ℕ → Type 0
EmptyButAll (Ok All) into = Unit {0}
EmptyButAll (Ok Absent) into = into ≡ []
EmptyButAll (Ok TooLong) into = into ≡ []
EmptyButAll (Err fault) into = into ≡ []
