use Rattle.std.specs.Prelude.{ℕ, ◌-◌, List, ◌++◌, length, take, min, Bool, ◌&&◌, ◌||◌, nat_lt, nat_le, Result, Ok, Err}
use Rattle.hal_base.specs.Faults.{risen, faults_after, is_numbered}
use Rattle.hal_base.specs.declared.sink.SinkFault.{SinkFault}

-- a sink in memory: the bytes taken, how many it has room for, the most that one put takes, the
-- numbers of the puts that are to fail, and how many puts and faults there were
pub record Collected : Type 0 where
  pub taken : List ℕ
  pub room : ℕ
  pub most : ℕ
  pub fails : List ℕ
  pub calls : ℕ
  pub faults : ℕ

-- a put of this piece fails: the piece has a byte, and the put is numbered or the room is full
abbrev pub put_fails : Collected → List ℕ → Bool
put_fails sink piece =
    nat_lt 0 (length piece)
    && (is_numbered sink.fails (risen sink.calls) || nat_le sink.room (length sink.taken))

-- how many bytes of the piece a put takes that doesn't fail
abbrev pub put_count : Collected → List ℕ → ℕ
put_count sink piece = min (length piece) (min sink.most (sink.room - length sink.taken))

-- the bytes taken after a put
abbrev pub taken_after : Collected → List ℕ → Result ℕ SinkFault → List ℕ
taken_after sink piece (Ok count) = sink.taken ++ take count piece
taken_after sink piece (Err fault) = sink.taken

-- the sink after a put of this piece with this answer
abbrev pub after_put : Collected → List ℕ → Result ℕ SinkFault → Collected
after_put sink piece result = record {
  taken = taken_after sink piece result;
  room = sink.room;
  most = sink.most;
  fails = sink.fails;
  calls = risen sink.calls;
  faults = faults_after sink.faults result;
}
