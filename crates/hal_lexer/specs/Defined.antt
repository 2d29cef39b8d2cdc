-- The definitions of the code as those of the definition.
use Rattle.std.specs.Prelude.{◌≡◌, ℕ, List, All, reverse, Option, Some, None, bytes_eq, slice_get}
use Rattle.std.specs.Map.{lookup}
use Rattle.hal_words.specs.Replacing.{Definitions}
use Rattle.hal_words.specs.Reserved.{look_up}
use Rattle.hal_lexer.specs.Texts.{IsText}
use Rattle.hal_lexer.specs.declared.definitions.Definition.{Definition}

abbrev pub pair_of : Definition → List ℕ × List ℕ
pair_of one = (one.name, one.text)

-- what the entries of a map have for a name
abbrev pub found : List (List ℕ × ℕ) → List ℕ → Option ℕ
found entries name = lookup (λ key. bytes_eq key name) entries

-- the number that an index has for a name is that of its latest definition, which has this text
abbrev pub Names : Definitions → Option ℕ → Option (List ℕ) → Type 0
Names list None text = text ≡ None
Names list (Some number) text = (one : List ℕ × List ℕ) × (slice_get list number ≡ Some one) × (text ≡ Some one.1)

-- the entries of a map have the latest definition of each name
pub record IsIndex (entries : List (List ℕ × ℕ)) (list : Definitions) : Type 0 where
  pub texts : All (λ (one : List ℕ × List ℕ). IsText one.1) list
  pub finds : (name : List ℕ) → Names list (found entries name) (look_up (reverse list) name)
