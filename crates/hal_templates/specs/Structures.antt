-- Whether structure templates are the same.
use Rattle.std.specs.Prelude.{ℕ, ◌==◌, Bool, true, false, ◌&&◌, ◌||◌, List, [], ◌∷◌, Option, Some, None, slice_get, bytes_eq}
use Rattle.std.specs.Option.{option_and_then}
use Rattle.hal_grammar.specs.Declarations.{Part}
use Rattle.hal_phrases.specs.Phrases.{Node, Phrase, OfStructure}
use Rattle.hal_names.specs.Means.{means}
use Rattle.hal_constants.specs.Known.{Known}
use Rattle.hal_templates.specs.Meanings.{same_meaning}

-- the phrase of the structure template that a name means in a block
abbrev pub structure_named : List Phrase → ℕ → List ℕ → Option Phrase
structure_named ps block template = option_and_then (λ k. slice_get ps k) (means ps block template)

-- the parts that a structure template has
unfoldable pub parts_of : Node → Option (List Part)
parts_of (OfStructure name parts) = Some parts
parts_of other = None

-- two parts of the structure templates that these phrases declare: level, name and attributes
abbrev pub same_part : List Phrase → Known → Phrase → Part → Phrase → Part → Bool
same_part ps vs q x r y =
    (x.level == y.level) && (bytes_eq x.name.name y.name.name && same_meaning ps vs q [] x.attributes r [] y.attributes)

-- their parts, in order
unfoldable pub same_parts : List Phrase → Known → Phrase → List Part → Phrase → List Part → Bool
same_parts ps vs q [] r [] = true
same_parts ps vs q (x ∷ xs) r (y ∷ ys) = same_part ps vs q x r y && same_parts ps vs q xs r ys
same_parts ps vs q xs r ys = false

-- the same where both phrases declare structure templates
unfoldable pub same_lists : List Phrase → Known → Phrase → Option (List Part) → Phrase → Option (List Part) → Bool
same_lists ps vs q (Some xs) r (Some ys) = same_parts ps vs q xs r ys
same_lists ps vs q xs r ys = true

-- whether two phrases are one
abbrev pub is_one : Phrase → Phrase → Bool
is_one q r = q.number == r.number

abbrev pub declare_same : List Phrase → Known → Phrase → Phrase → Bool
declare_same ps vs q r = same_lists ps vs q (parts_of q.node) r (parts_of r.node)

abbrev pub same_structure : List Phrase → Known → Phrase → Phrase → Bool
same_structure ps vs q r = is_one q r || declare_same ps vs q r

-- the structure templates that a name means where this phrase of a template and that of its unit stand. One that the unit itself declares is among its own declarations, and is
-- compared there
unfoldable pub means_same : List Phrase → Known → Phrase → Option Phrase → Option Phrase → Bool
means_same ps vs q (Some r) (Some s) = (s.around.home == q.around.home) || same_structure ps vs r s
means_same ps vs q r s = true

-- the same of the name in a type, where there is one
unfoldable pub names_same : List Phrase → Known → Phrase → Phrase → Option (List ℕ) → Bool
names_same ps vs p q None = true
names_same ps vs p q (Some name) = means_same ps vs q (structure_named ps p.around.block name) (structure_named ps q.around.block name)
