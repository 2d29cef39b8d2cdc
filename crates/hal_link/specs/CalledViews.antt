-- The views that the code of a set names: those of its processes, and then those of the units that these call, each unit's names and then its input parameters.
use Rattle.std.specs.Prelude.{ℕ, List, [], ◌∷◌, Option, Some, None}
use Rattle.hal_grammar.specs.Leaves.{Naming}
use Rattle.hal_code.specs.declared.row.View.{View}
use Rattle.hal_meaning.specs.Bodies.{Body}
use Rattle.hal_meaning.specs.Calls.{Parameter, parameter_named, inputs_of}
use Rattle.hal_meaning.specs.Places.{InPlaces}
use Rattle.hal_meaning.specs.Sets.{Set, body_at}
use Rattle.hal_meaning.specs.Variables.{kind_of_first}
use Rattle.hal_agreement.specs.Sites.{Site}
use Rattle.hal_gen_expr.specs.Numbering.{base_of}
use Rattle.hal_link.specs.Linking.{process_site}
use Rattle.hal_link.specs.Outlines.{Outline, outlines_of}
use Rattle.hal_link.specs.Shapes.{Shapes, shapes_of}
use Rattle.hal_link.specs.Views as processes
use Rattle.hal_link.specs.Views.{with_cell, with_phrases}

-- that of an input parameter, in which a call stores its argument
abbrev pub with_parameter : Site → List View → Parameter → List View
with_parameter site views p = with_cell [] (kind_of_first p.shape.components) views (base_of site p.number 0 InPlaces)

unfoldable pub with_parameters : Site → List View → List Naming → List View
with_parameters site views [] = views
with_parameters site views (name ∷ names) = with_parameters site (with_parameter site views (parameter_named site.set site.unit name)) names

-- those of a unit that the process with this number calls
abbrev pub with_called : Shapes → Set → ℕ → List View → Option Body → List View
with_called shapes s p views None = views
with_called shapes s p views (Some body) = with_parameters (process_site s p body) (with_phrases shapes (process_site s p body) views s.phrases) (inputs_of body.head)

unfoldable pub with_all_called : Shapes → Set → ℕ → List View → List ℕ → List View
with_all_called shapes s p views [] = views
with_all_called shapes s p views (k ∷ ks) = with_all_called shapes s p (with_called shapes s p views (body_at s k)) ks

-- those of the units that processes call
unfoldable pub with_outlines : Shapes → Set → List View → List Outline → List View
with_outlines shapes s views [] = views
with_outlines shapes s views (o ∷ os) = with_outlines shapes s (with_all_called shapes s o.process views o.called) os

abbrev pub views_of : Set → List View
views_of s = with_outlines (shapes_of s) s (processes.views_of (shapes_of s) s) (outlines_of s)
