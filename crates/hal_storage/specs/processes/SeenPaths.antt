-- What each path of the program is.
use Rattle.std.specs.Prelude.{ℕ, List, Vec}
use Rattle.std.specs.declared.alloc.Global.{Global}

abbrev pub seen_path : Vec ℕ Global → List ℕ
seen_path path = path.items
