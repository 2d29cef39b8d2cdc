-- What the program knows of parameters.
use Rattle.std.specs.Prelude.{ℕ, List, Option, slice_get}
use Rattle.std.specs.Option.{option_and_then}
use Rattle.hal_grammar.specs.Leaves.{Naming}
use Rattle.hal_phrases.specs.Phrases.{Phrase}
use Rattle.hal_names.specs.declared.key.Space.TheVariants as space
use Rattle.hal_names.specs.Keys.{key, own}
use Rattle.hal_meaning.specs.Calls as calls
use Rattle.hal_meaning.specs.Calls.{parameter_shape}
use Rattle.hal_meaning.specs.Elements.{Shape}
use Rattle.hal_meaning.specs.Sets.{Set}
use Rattle.hal_meaning.specs.Variables.{kind_of_first, is_whole}
use Rattle.hal_values.specs.declared.value.Kind.{Kind}
use Rattle.hal_code.specs.declared.row.Run.{Run}
use Rattle.hal_gen_expr.specs.Shapes.{runs_of}
use Rattle.hal_gen_expr.specs.declared.parameters.Parameter.{Parameter}

abbrev pub parameter_with : ℕ → Shape → Parameter
parameter_with number shape = record { declared = number; kind = kind_of_first shape.components; whole = is_whole shape }

abbrev pub as_parameter : calls.Parameter → Parameter
as_parameter p = parameter_with p.number p.shape

-- the parameter that a phrase declares
abbrev pub parameter_at : Set → Phrase → Parameter
parameter_at s p = parameter_with p.number (parameter_shape s p p.node)

-- the kinds of its cells
abbrev pub runs_at : Set → Phrase → List (Run Kind)
runs_at s p = runs_of (parameter_shape s p p.node)

-- the phrase that declares the parameter of this name of a unit
abbrev pub declaration : Set → ℕ → Naming → Option Phrase
declaration s unit name = option_and_then (slice_get s.phrases) (own s.phrases (key space.Declared unit name.name))
