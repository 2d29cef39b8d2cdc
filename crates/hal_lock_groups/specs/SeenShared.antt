-- What the program finds lock groups by.
use Rattle.std.specs.Prelude.{map}
use Rattle.hal_storage.specs.cells.SeenStoring.{seen_storing}
use Rattle.hal_lock_groups.specs.declared.shared.Shared as rust-shared
use Rattle.hal_lock_groups.specs.Shared.{Shared}

abbrev pub seen_shared : rust-shared.Shared → Shared
seen_shared s = record { storings = map seen_storing s.storings.items; plain = s.plain.items }
