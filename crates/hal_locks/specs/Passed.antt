-- Rule 806: LOCK data as arguments of ASSIGN parameters without LOCK(*).
use Rattle.std.specs.Prelude.{ℕ, Bool, true, ◌||◌, not, List, [], ◌∷◌, Option, Some, None, slice_get}
use Rattle.std.specs.Option.{option_and_then, option_or}
use Rattle.hal_base.specs.declared.refusal.Place.{Place}
use Rattle.hal_grammar.specs.Leaves.{Naming}
use Rattle.hal_grammar.specs.Expressions.{Reference, Refers}
use Rattle.hal_grammar.specs.Units.{Head, Procedure}
use Rattle.hal_phrases.specs.Phrases.{Node, Phrase, OfCall, OfItem, OfTemplate, OfUnit}
use Rattle.hal_names.specs.declared.key.Space.TheVariants as space
use Rattle.hal_names.specs.Keys.{key, own}
use Rattle.hal_names.specs.Means.{means}
use Rattle.hal_scope.specs.Uses.{unless}
use Rattle.hal_locks.specs.Locked.{has_star, means_locked}

-- whether what a phrase declares takes LOCK data as an ASSIGN parameter; another rule speaks of what is no data
unfoldable pub is_open : Node → Bool
is_open (OfItem common item) = has_star common item
is_open other = true

-- the phrase that declares this name in the block with this number
abbrev pub declared_in : List Phrase → ℕ → List ℕ → Option Phrase
declared_in ps k name = option_and_then (λ j. slice_get ps j) (own ps (key space.Declared k name))

-- whether the parameter of this name of the block with this number takes LOCK data; another rule speaks of one that isn't declared
abbrev pub admits : List Phrase → ℕ → List ℕ → Bool
admits ps k name = elim (declared_in ps k name) [ None ↦ true | Some r ↦ is_open r.node ]

-- an ASSIGN argument in a block, of the parameter of this name of the block with this number
unfoldable pub passed : List Phrase → ℕ → ℕ → Naming → Reference → Option Place
passed ps block k n (Refers place name path subscript) = unless (admits ps k n.name || not (means_locked ps block name)) place

-- the first of ASSIGN arguments that may not be passed; where there are more of them than parameters, or fewer, the number is wrong
unfoldable pub first_passed : List Phrase → ℕ → ℕ → List Naming → List Reference → Option Place
first_passed ps block k [] references = None
first_passed ps block k (n ∷ ns) [] = None
first_passed ps block k (n ∷ ns) (r ∷ rs) = option_or (passed ps block k n r) (first_passed ps block k ns rs)

-- those of a call of the block with this number and head
unfoldable pub passed_by_head : List Phrase → ℕ → ℕ → List Reference → Head → Option Place
passed_by_head ps block k references (Procedure place inputs outputs mode) = first_passed ps block k outputs references
passed_by_head ps block k references other = None

-- those of a call of what a phrase declares
unfoldable pub passed_to : List Phrase → ℕ → ℕ → List Reference → Node → Option Place
passed_to ps block k references (OfTemplate name head declarations) = passed_by_head ps block k references head
passed_to ps block k references (OfUnit name head declarations) = passed_by_head ps block k references head
passed_to ps block k references other = None

-- the same by the number of that phrase
abbrev pub passed_at : List Phrase → ℕ → List Reference → ℕ → Option Place
passed_at ps block references k = option_and_then (λ (q : Phrase). passed_to ps block k references q.node) (slice_get ps k)

-- rule 806
unfoldable pub mispassed : List Phrase → ℕ → Node → Option Place
mispassed ps block (OfCall name arguments receivers) = option_and_then (passed_at ps block receivers) (means ps block name.name)
mispassed ps block other = None
