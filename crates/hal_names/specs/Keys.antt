-- The key under which the name of a phrase is found.
use Rattle.std.specs.Prelude.{ℕ, ◌==◌, ◌&&◌, Bool, true, false, List, [], ◌∷◌, Option, Some, None, bytes_eq, if◌then◌else◌}
use Rattle.hal_phrases.specs.declared.around.Around.{Around}
use Rattle.hal_phrases.specs.Phrases.{Node, Phrase, OfFile, OfTemplate, OfUnit, OfParameter, OfItem, OfStructure, OfPart, OfLabel, OfTemporaryGroup}
use Rattle.hal_names.specs.declared.key.Space.{Space}
use Rattle.hal_names.specs.declared.key.Space.TheVariants as space
use Rattle.hal_names.specs.declared.key.Key.{Key}

-- this name among those of this kind that the phrase with this number owns
abbrev pub key : Space → ℕ → List ℕ → Key
key s k name = record { space = s; owner = k; name = name }

-- the key of the name that a phrase with this number declares
unfoldable pub declared_at : ℕ → Around → Node → Option Key
declared_at k a (OfFile prefaces name) = Some (key space.Unit 0 name.name)
declared_at k a (OfTemplate name head declarations) = Some (key space.Declared a.home name.name)
declared_at k a (OfUnit name head declarations) = Some (key space.Declared a.home name.name)
declared_at k a (OfParameter name output) = Some (key space.Parameter a.home name.name)
declared_at k a (OfItem common item) = Some (key space.Declared a.home item.name.name)
declared_at k a (OfStructure name parts) = Some (key space.Declared a.home name.name)
declared_at k a (OfPart bottom part) = Some (key space.Part a.parent part.name.name)
declared_at k a (OfLabel name) = Some (key space.Declared a.home name.name)
declared_at k a (OfTemporaryGroup labels variable) = Some (key space.Declared k variable.name)
declared_at k a other = None

-- the key of the name that a phrase declares
abbrev pub declared_by : Phrase → Option Key
declared_by p = declared_at p.number p.around p.node

-- whether two names are names of the same kind
unfoldable pub same_space : Space → Space → Bool
same_space space.Unit space.Unit = true
same_space space.Declared space.Declared = true
same_space space.Parameter space.Parameter = true
same_space space.Part space.Part = true
same_space one other = false

-- whether two keys are the same
unfoldable pub same_key : Key → Key → Bool
same_key p q = same_space p.space q.space && ((p.owner == q.owner) && bytes_eq p.name q.name)

-- whether this key is what may be declared
abbrev pub is_key : Key → Option Key → Bool
is_key q None = false
is_key q (Some p) = same_key p q

-- the number of the first phrase that declares the key
unfoldable pub own : List Phrase → Key → Option ℕ
own [] q = None
own (p ∷ ps) q = if is_key q (declared_by p) then Some p.number else own ps q
