-- What a name means: the number of the phrase that declares it.
use Rattle.std.specs.Prelude.{ℕ, zero, suc, Bool, true, false, List, [], ◌∷◌, length, Option, Some, None, bytes_eq, slice_get, if◌then◌else◌}
use Rattle.std.specs.Option.{option_or, option_and_then}
use Rattle.hal_grammar.specs.Units.{Compool, Preface, Include, Templates}
use Rattle.hal_phrases.specs.Phrases.{Node, Phrase, OfFile, OfUnit}
use Rattle.hal_names.specs.declared.key.Space.TheVariants as space
use Rattle.hal_names.specs.Keys.{key, own}

-- whether a phrase is a COMPOOL's unit
unfoldable pub is_compool_unit : Node → Bool
is_compool_unit (OfUnit name (Compool p) declarations) = true
is_compool_unit other = false

-- the unit of this name in the set: what the name means directly in the file whose unit it is
unfoldable pub unit_named : List Phrase → List ℕ → Option ℕ
unit_named ps unit = option_and_then (λ f. own ps (key space.Declared f unit)) (own ps (key space.Unit 0 unit))

-- what a name means in the unit with this number, where that is a COMPOOL
unfoldable pub given_by : List Phrase → ℕ → List ℕ → Option ℕ
given_by ps u name = option_and_then (λ (p : Phrase). if is_compool_unit p.node then own ps (key space.Declared u name) else None) (slice_get ps u)

-- what a name means by the template of the unit of this name: the unit itself, or what its COMPOOL declares
unfoldable pub shown : List Phrase → List ℕ → List ℕ → Option ℕ
shown ps unit name = option_and_then (λ u. if bytes_eq unit name then Some u else given_by ps u name) (unit_named ps unit)

-- what a name means by what stands before a unit, where that includes a template
unfoldable pub shown_by : List Phrase → Preface → List ℕ → Option ℕ
shown_by ps (Include p unit) name = shown ps unit.name name
shown_by ps (Templates template) name = None

-- what a name means by the templates that these prefaces include
unfoldable pub included : List Phrase → List Preface → List ℕ → Option ℕ
included ps [] name = None
included ps (preface ∷ prefaces) name = option_or (shown_by ps preface name) (included ps prefaces name)

-- the same of so many of the prefaces
unfoldable pub included_before : List Phrase → List Preface → ℕ → List ℕ → Option ℕ
included_before ps [] n name = None
included_before ps (preface ∷ prefaces) zero name = None
included_before ps (preface ∷ prefaces) (suc n) name = option_or (shown_by ps preface name) (included_before ps prefaces n name)

-- the prefaces of a file
unfoldable pub prefaces_of : Node → Option (List Preface)
prefaces_of (OfFile prefaces unit) = Some prefaces
prefaces_of other = None

-- what a name means in the block with this number: what the block declares, else what the block around it does, at last what the file's templates give; at most so many blocks are looked at
unfoldable pub nearest : List Phrase → ℕ → ℕ → List ℕ → Option ℕ
nearest ps zero k name = None
nearest ps (suc n) k name =
    option_or (own ps (key space.Declared k name)) (elim (slice_get ps k) [
      | None ↦ None
      | Some p ↦ elim (prefaces_of p.node) [
        | None ↦ nearest ps n p.around.block name
        | Some prefaces ↦ included ps prefaces name
      ]
    ])

-- the number of the phrase that declares what the name means in this block, where one does; else it may be a built-in function
abbrev pub means : List Phrase → ℕ → List ℕ → Option ℕ
means ps block name = nearest ps (length ps) block name
