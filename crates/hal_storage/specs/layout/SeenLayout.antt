-- What each layout of the program is.
use Rattle.std.specs.Prelude.{ℕ, List, Vec, map}
use Rattle.std.specs.declared.alloc.Global.{Global}
use Rattle.hal_storage.specs.event_expressions.SeenStated.{seen_stated}
use Rattle.hal_storage.specs.own_places.SeenPlaces.{seen_own}
use Rattle.hal_storage.specs.processes.SeenPaths.{seen_path}
use Rattle.hal_storage.specs.declared.layout.layout.Layout as rust-layout
use Rattle.hal_storage.specs.layout.Layouts.{Layout}

abbrev pub seen_layout : rust-layout.Layout → Layout
seen_layout l = record {
  cells = l.cells.items;
  own = seen_own l.own;
  processes = map seen_path l.processes.items;
  first = l.first;
  events = l.events.items;
  expressions = map seen_stated l.expressions.items;
  names = l.names.items;
}

-- texts are seen as their bytes
abbrev pub seen_texts : Vec (List ℕ) Global → List (List ℕ)
seen_texts texts = texts.items
