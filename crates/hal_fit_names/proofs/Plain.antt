-- Phrases that are added and have no sizes, and whose names belong to the same unit.
use Rattle.std.proofs.Common.{◌≡◌, ◌⊎◌, ℕ, Bool, true, false, List, [], ◌∷◌, ◌++◌, length, Option, Some, None, refl, ap, ◌∙◌, inl, inr}
use Rattle.hal_phrases.specs.declared.around.Around.{Around}
use Rattle.hal_phrases.specs.Phrases.{Node, Phrase, OfItem, OfTemplate, OfUnit, phrase, add, gathered_each, gathered_any}
use Rattle.hal_scope.specs.Rules.{IsAmong}

-- whether a phrase declares data
abbrev pub is_item : Node → Bool
is_item (OfItem common item) = true
is_item other = false

-- whether a phrase may have sizes: among the attributes of data, or as that of the result of a unit or template
abbrev pub is_sized : Node → Bool
is_sized (OfItem common item) = true
is_sized (OfUnit name head declarations) = true
is_sized (OfTemplate name head declarations) = true
is_sized other = false

-- data may have them
no_item : (n : Node) → is_sized n ≡ false → is_item n ≡ false
no_item (OfItem common item) plain = absurd (cc)
no_item other plain = refl

-- a phrase that has none, whose names belong to this unit
pub record IsPart (home : ℕ) (p : Phrase) : Type 0 where
  pub single : is_item p.node ≡ false
  pub unsized : is_sized p.node ≡ false
  pub here : p.around.home ≡ home

-- each of these phrases is one of those, or such a phrase
pub record IsPlain (home : ℕ) (d e : List Phrase) : Type 0 where
  pub each_ : (p : Phrase) → IsAmong p e → IsAmong p d ⊎ IsPart home p

pub no_step : {home : ℕ} (d : List Phrase) → IsPlain home d d
no_step d = record { each_ = λ p within. inl within }

further : {home : ℕ} {d e : List Phrase} (p : Phrase) → IsPlain home d e → IsAmong p e ⊎ IsPart home p → IsAmong p d ⊎ IsPart home p
further p first (inl within) = first.each_ p within
further p first (inr plain) = inr plain

pub then_ : {home : ℕ} {d e f : List Phrase} → IsPlain home d e → IsPlain home e f → IsPlain home d f
then_ first second = record { each_ = λ p within. further p first (second.each_ p within) }

-- a phrase among those and one more
pub behind : (p q : Phrase) (d : List Phrase) → IsAmong p (d ++ (q ∷ [])) → IsAmong p d ⊎ (p ≡ q)
behind p q [] (inl same) = inr same
behind p q [] (inr none) = absurd none
behind p q (x ∷ d) (inl same) = inl (inl same)
behind p q (x ∷ d) (inr later) = by (behind p q d later) where
  by : IsAmong p d ⊎ (p ≡ q) → IsAmong p (x ∷ d) ⊎ (p ≡ q)
  by (inl within) = inl (inr within)
  by (inr same) = inr same

-- one more
pub one : (d : List Phrase) (a : Around) (n : Node) → is_sized n ≡ false → IsPlain a.home d (add d a n)
one d a n none = record { each_ = λ p within. by p (behind p (phrase (length d) a n) d within) } where
  by : (p : Phrase) → IsAmong p d ⊎ (p ≡ phrase (length d) a n) → IsAmong p d ⊎ IsPart a.home p
  by p (inl within) = inl within
  by p (inr same) = inr (record { single = ap (λ (x : Phrase). is_item x.node) same ∙ no_item n none; unsized = ap (λ (x : Phrase). is_sized x.node) same ∙ none; here = ap (λ (x : Phrase). x.around.home) same })

pub each : {home : ℕ} {X : Type 0} (step : List Phrase → X → List Phrase) → ((d : List Phrase) (x : X) → IsPlain home d (step d x)) → (d : List Phrase) (xs : List X) → IsPlain home d (gathered_each step d xs)
each step steps d [] = no_step d
each step steps d (x ∷ xs) = then_ (steps d x) (each step steps (step d x) xs)

pub any : {home : ℕ} {X : Type 0} (step : List Phrase → X → List Phrase) → ((d : List Phrase) (x : X) → IsPlain home d (step d x)) → (d : List Phrase) (o : Option X) → IsPlain home d (gathered_any step d o)
any step steps d None = no_step d
any step steps d (Some x) = steps d x
