-- The processes of a scripted load.
use Rattle.std.specs.Prelude.{◌≡◌, List, length, true}
use Rattle.hal_values.specs.Tables.{process_count}
use Rattle.exec_rows.specs.declared.scripted.Scripted.{Scripted}
use Rattle.exec_rows.specs.Checks.{checks}
use Rattle.exec_rows.specs.Playing.{Held}

-- the load, and what is kept of each process
pub record Playing : Type 0 where
  pub load : Scripted
  pub desks : List Held

-- the load checks, and something is kept of each of its processes
pub record IsPlaying (load : Scripted) (desks : List Held) : Type 0 where
  pub right : checks load ≡ true
  pub all : length desks ≡ process_count load.tables
