-- What each of the program's data with names is.
use Rattle.std.specs.Prelude.{map}
use Rattle.hal_tree.specs.SeenLeaves.{seen_name}
use Rattle.hal_storage.specs.cells.SeenStoring.{seen_storing}
use Rattle.hal_storage.specs.elements.SeenComponents.{seen_shape}
use Rattle.hal_gen_expr.specs.Led.{Led, led_to}
use Rattle.hal_gen_expr.specs.declared.led.Led as rust-led

unfoldable pub seen_led : rust-led.Led → Led
seen_led l = led_to (map seen_name l.path.now) l.declared (seen_storing l.stored) (seen_shape l.shape.now)
