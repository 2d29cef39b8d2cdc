-- What each set of the program is.
use Rattle.std.specs.Prelude.{map}
use Rattle.hal_names.specs.SeenNames.{seen_names}
use Rattle.hal_constants.specs.SeenKnown.{seen_known}
use Rattle.hal_storage.specs.layout.Layouts.{tables_of}
use Rattle.hal_storage.specs.layout.SeenLayout.{seen_layout}
use Rattle.hal_meaning.specs.Sets.{Set}
use Rattle.hal_storage.specs.sets.SeenBodies.{seen_body}
use Rattle.hal_storage.specs.declared.sets.set.Set as rust-set

abbrev pub seen_set : rust-set.Set → Set
seen_set s = record {
  phrases = seen_names s.names.now;
  constants = seen_known s.known.now;
  bodies = map seen_body s.bodies.items;
  stated = (seen_layout s.layout.now).expressions;
  tables = tables_of (seen_layout s.layout.now);
  turns = s.turns;
}
