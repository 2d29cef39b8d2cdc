-- What a reader would ask of the phrases of a set of files, and of what names mean over them.
use Rattle.std.specs.Prelude.{◌≡◌, ◌≢◌, ◌<◌, ℕ, List, Option, Some, None, slice_get}
use Rattle.std.specs.Option.{option_or}
use Rattle.hal_grammar.specs.Units.{Preface}
use Rattle.hal_phrases.specs.Phrases.{Phrase}
use Rattle.hal_names.specs.declared.key.Key.{Key}
use Rattle.hal_names.specs.declared.key.Space.TheVariants as space
use Rattle.hal_names.specs.Keys.{key, declared_by, own}
use Rattle.hal_names.specs.Means.{prefaces_of, included, means}

-- the phrase at this place
abbrev pub IsAt : List Phrase → ℕ → Phrase → Type 0
IsAt ps k p = slice_get ps k ≡ Some p

-- each phrase has its place as its number
abbrev pub IsCounted : List Phrase → Type 0
IsCounted ps = (k : ℕ) (p : Phrase) → IsAt ps k p → p.number ≡ k

-- the block around a phrase that is no file begins before it
abbrev pub BeginsInABlock : List Phrase → Type 0
BeginsInABlock ps = (k : ℕ) (p : Phrase) → IsAt ps k p → prefaces_of p.node ≡ None → p.around.block < k

-- this block is a file, or the block around it leads to one
pub data LeadsToAFile (ps : List Phrase) : ℕ → Type 0 where
  IsFile : (k : ℕ) (p : Phrase) (prefaces : List Preface) → IsAt ps k p → prefaces_of p.node ≡ Some prefaces → LeadsToAFile ps k
  IsWithin : (k : ℕ) (p : Phrase) → IsAt ps k p → prefaces_of p.node ≡ None → LeadsToAFile ps p.around.block → LeadsToAFile ps k

-- what a name means in a block: what the block declares, else what the name means in the block around it, or for a file what its templates give
abbrev pub declared_or_around : List Phrase → ℕ → List ℕ → Option ℕ
declared_or_around ps k name =
    option_or (own ps (key space.Declared k name)) (elim (slice_get ps k) [
      | None ↦ None
      | Some p ↦ elim (prefaces_of p.node) [
        | None ↦ means ps p.around.block name
        | Some prefaces ↦ included ps prefaces name
      ]
    ])

-- the phrase at this place declares the key, and none before it does
pub record IsFirst (ps : List Phrase) (q : Key) (n : ℕ) : Type 0 where
  pub declaring : Phrase
  pub there : IsAt ps n declaring
  pub declares : declared_by declaring ≡ Some q
  pub first : (k : ℕ) (p : Phrase) → k < n → IsAt ps k p → declared_by p ≢ Some q

-- no phrase declares the key
abbrev pub IsUndeclared : List Phrase → Key → Type 0
IsUndeclared ps q = (k : ℕ) (p : Phrase) → IsAt ps k p → declared_by p ≢ Some q

-- the phrase with this number is the first one that declares this name in some block
abbrev pub IsDeclaration : List Phrase → List ℕ → ℕ → Type 0
IsDeclaration ps name n = (owner : ℕ) × IsFirst ps (key space.Declared owner name) n
