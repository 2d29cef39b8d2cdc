use Rattle.std.specs.Prelude.{ℕ, List, Bool, if◌then◌else◌}
use Rattle.hal_base.specs.Files.{File}
use Rattle.hal_base.specs.Faults.{risen, is_numbered}

-- a shelf in memory: its files, the numbers of the calls that are to fail, and how many calls and
-- faults there were
pub record Shelved : Type 0 where
  pub files : List File
  pub fails : List ℕ
  pub calls : ℕ
  pub faults : ℕ

-- the next call is to fail
abbrev pub next_fails : Shelved → Bool
next_fails shelf = is_numbered shelf.fails (risen shelf.calls)

-- the shelf after one more call
abbrev pub after_fetch : Shelved → Shelved
after_fetch shelf = record {
  files = shelf.files;
  fails = shelf.fails;
  calls = risen shelf.calls;
  faults = if next_fails shelf then risen shelf.faults else shelf.faults;
}
