-- What each component of the program is.
use Rattle.std.specs.Prelude.{map}
use Rattle.hal_storage.specs.declared.elements.component.Component as rust-component
use Rattle.hal_storage.specs.declared.elements.component.Shape as rust-shape
use Rattle.hal_storage.specs.declared.elements.structures.Above as rust-above
use Rattle.hal_meaning.specs.Elements.{Above, Component, Shape}

abbrev pub seen_component : rust-component.Component → Component
seen_component c = record { path = c.path.items; kind = c.kind; sizes = c.sizes.items }

abbrev pub seen_shape : rust-shape.Shape → Shape
seen_shape s = record { copies = s.copies; components = map seen_component s.components.items }

abbrev pub seen_above : rust-above.Above → Above
seen_above one = (one.level, one.name)
