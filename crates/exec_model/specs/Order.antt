-- The order in which Ready rows are taken.
use Rattle.std.specs.Prelude.{◌≡◌, ℕ, ◌<◌, ◌==◌, nat_lt, Bool, true, false, ◌&&◌, List, length, Option, count_by, filter_map, find, if◌then◌else◌}
use Rattle.std.specs.List.{range_with_len}
use Rattle.exec_model.specs.declared.row.Row.{Row}
use Rattle.exec_model.specs.Rows.{row_in, is_ready}

-- the process with the smaller stamp goes first. No two Ready rows of a run have one stamp; where two had, the lower process would go first
abbrev pub has_smaller_stamp : ℕ → Row → ℕ → Row → Bool
has_smaller_stamp p row o other = if row.stamp == other.stamp then nat_lt p o else nat_lt row.stamp other.stamp

-- then the greater priority goes first
abbrev pub has_greater_priority : ℕ → Row → ℕ → Row → Bool
has_greater_priority p row o other = if row.priority == other.priority then has_smaller_stamp p row o other else nat_lt other.priority row.priority

-- process p goes before process o: a row that is inside an UPDATE block goes first
abbrev pub goes_before : ℕ → Row → ℕ → Row → Bool
goes_before p row o other =
    if row.inside then (if other.inside then has_greater_priority p row o other else true)
    else (if other.inside then false else has_greater_priority p row o other)

-- the processes that these rows are of
abbrev pub processes : List Row → List ℕ
processes rows = range_with_len 0 (length rows)

-- o is Ready and goes before p
abbrev pub is_ahead : List Row → ℕ → ℕ → Bool
is_ahead rows p o = is_ready (row_in rows o) && goes_before o (row_in rows o) p (row_in rows p)

-- how many Ready rows go before p
abbrev pub place_of : List Row → ℕ → ℕ
place_of rows p = count_by (is_ahead rows p) (processes rows)

-- p is Ready, and is among the first so many that are
pub record IsInFirst (lanes : ℕ) (rows : List Row) (p : ℕ) : Type 0 where
  pub ready : is_ready (row_in rows p) ≡ true
  pub early : place_of rows p < lanes

-- the Ready row before which so many go
abbrev pub ready_at : List Row → ℕ → Option ℕ
ready_at rows place = find (λ p. is_ready (row_in rows p) && (place_of rows p == place)) (processes rows)

-- the Ready rows in their order, cut at the number of lanes
abbrev pub first : ℕ → List Row → List ℕ
first lanes rows = filter_map (ready_at rows) (range_with_len 0 lanes)
