-- The shapes of stored data that are kept.
use Rattle.std.specs.Prelude.{◌≡◌, ℕ, List, Option, Some, None, map, option_map, slice_get, if◌then◌else◌}
use Rattle.std.specs.Option.{option_and_then}
use Rattle.hal_phrases.specs.Phrases.{Phrase}
use Rattle.hal_constants.specs.Known.{Known}
use Rattle.hal_meaning.specs.Elements.{Shape}
use Rattle.hal_storage.specs.declared.elements.component.Shape as rust-shape
use Rattle.hal_storage.specs.elements.SeenComponents.{seen_shape}
use Rattle.hal_views.specs.Views.{declares_stored, shape_at}
use Rattle.hal_limits.specs.declared.shapes.Shapes as rust-shapes

-- the shape of what a phrase declares, where that is stored
abbrev pub kept_shape : List Phrase → Known → Phrase → Option Shape
kept_shape ps vs d = if declares_stored ps vs d d.node then Some (shape_at ps vs d d.node) else None

-- these are the shapes of all that phrases declare
abbrev pub AreKept : List Phrase → Known → rust-shapes.Shapes → Type 0
AreKept ps vs shapes = map (λ (o : Option rust-shape.Shape). option_map seen_shape o) shapes.list.items ≡ map (kept_shape ps vs) ps

-- the shape that is kept for a number
abbrev pub shape_in : rust-shapes.Shapes → ℕ → Option Shape
shape_in shapes n = option_and_then (λ (o : Option rust-shape.Shape). option_map seen_shape o) (slice_get shapes.list.items n)
