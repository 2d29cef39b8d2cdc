-- Parts of structures of which the kind of the cells is known.
use Rattle.std.specs.Prelude.{◌≡◌, false, List, Some}
use Rattle.hal_grammar.specs.Declarations.{Double, Kind, Part}
use Rattle.hal_phrases.specs.Phrases.{Phrase}
use Rattle.hal_scope.specs.Sorts.{type_among}
use Rattle.hal_kinds.specs.Attributes.{has_mark}
use Rattle.hal_kinds.specs.Data.{is_structure_type}
use Rattle.hal_values.specs.declared.value.Kind as values
use Rattle.hal_constants.specs.Known.{kind_of_type, known}

-- a part has a type that is no structure, and where its structure stands, as this phrase, the kind of its cells is known
pub record IsKnownPart (ps : List Phrase) (p : Phrase) (part : Part) : Type 0 where
  pub type_ : Kind
  pub typed : type_among part.attributes ≡ Some type_
  pub plain : is_structure_type (Some type_) ≡ false
  pub cells : values.Kind
  pub sized : kind_of_type ps (known ps) p (has_mark Double part.attributes) (Some type_) ≡ Some cells
