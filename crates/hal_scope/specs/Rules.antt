-- The rules of names, as rows over one phrase.
use Rattle.std.specs.Prelude.{◌≡◌, ◌⊎◌, ℕ, List, [], ◌∷◌, Option, Some, None}
use Rattle.std.specs.Option.{option_or}
use Rattle.hal_base.specs.declared.refusal.Place.{Place}
use Rattle.hal_phrases.specs.Phrases.{Phrase}
use Rattle.hal_scope.specs.Uses.{unknown, misused}
use Rattle.hal_scope.specs.Repeated.{repeated, undeclared}
use Rattle.hal_scope.specs.Labels.{misclosed, misled, astray}
use Rattle.hal_scope.specs.Components.{lacks}

-- the rule and the place, where there is one
abbrev pub ruled : ℕ → Option Place → Option (ℕ × Place)
ruled rule None = None
ruled rule (Some place) = Some (rule, place)

-- which rule a phrase of a set breaks, and where
abbrev pub Row : Type 0
Row = List Phrase → Phrase → Option (ℕ × Place)

-- the rules of names
abbrev pub rows : List Row
rows =
    (λ ps p. ruled 601 (unknown ps p)) ∷ (λ ps p. ruled 602 (repeated ps p)) ∷ (λ ps p. ruled 603 (misused ps p)) ∷ (λ ps p. ruled 604 (misclosed ps p p.node))
    ∷ (λ ps p. ruled 605 (misled ps p p.node)) ∷ (λ ps p. ruled 606 (undeclared ps p p.node)) ∷ (λ ps p. ruled 607 (astray ps p p.node)) ∷ (λ ps p. ruled 608 (lacks ps p p.node)) ∷ []

-- a member of a list
abbrev pub IsAmong : {X : Type 0} → X → List X → Type 0
IsAmong x [] = ⊥
IsAmong x (y ∷ ys) = (x ≡ y) ⊎ IsAmong x ys

-- a set with these phrases breaks a rule of the table at this place
pub record Breaks (table : List Row) (ps : List Phrase) (rule : ℕ) (place : Place) : Type 0 where
  pub row : Row
  pub listed : IsAmong row table
  pub phrase : Phrase
  pub there : IsAmong phrase ps
  pub broken : row ps phrase ≡ Some (rule, place)

-- it breaks none
abbrev pub IsSound : List Row → List Phrase → Type 0
IsSound table ps = (rule : ℕ) (place : Place) → Breaks table ps rule place → ⊥

-- the first rule of a table that a phrase breaks, and where
unfoldable pub fault : List Row → List Phrase → Phrase → Option (ℕ × Place)
fault [] ps p = None
fault (row ∷ table) ps p = option_or (row ps p) (fault table ps p)

-- the first rule that one of the phrases breaks, and where
unfoldable pub first_fault : List Row → List Phrase → List Phrase → Option (ℕ × Place)
first_fault table ps [] = None
first_fault table ps (p ∷ rest) = option_or (fault table ps p) (first_fault table ps rest)
