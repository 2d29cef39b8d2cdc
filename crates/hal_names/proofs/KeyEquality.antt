-- Keys are equal where their parts are.
use Rattle.std.proofs.Common.{◌≡◌, ℕ, List, refl, sym, ◌∙◌, ap, Decides}
use Rattle.std.specs.Map.{lookup}
use Rattle.std.proofs.lemmas.Bool.{false≢true}
use Rattle.std.proofs.lemmas.Bool.Decides.{same_from_decides, Decides-and, Decides-eqb, Decides-like}
use Rattle.std.proofs.lemmas.Slice.Eq.{bytes_eq-Decides}
use Rattle.hal_words.proofs.NameEquality.{eq-Decides, lookup-same}
use Rattle.hal_names.specs.declared.key.Space.{Space}
use Rattle.hal_names.specs.declared.key.Space.TheVariants as space
use Rattle.hal_names.specs.declared.key.Key.{Key}
use Rattle.hal_names.specs.contracts.key.KeyPartialEq.TheImpl as derived
use Rattle.hal_names.specs.contracts.key.SpacePartialEq.TheImpl as derived_space
use Rattle.hal_names.specs.Keys.{key, same_space, same_key}
use Rattle.hal_names.specs.Index.{found}

space_Decides : (a b : Space) → Decides (same_space a b) (a ≡ b)
unfolding same_space
space_Decides space.Unit space.Unit = (λ e. refl, λ e. refl)
space_Decides space.Unit space.Declared = (λ e. absurd (false≢true e), λ e. let no : space.Unit ≡ space.Declared = e in absurd (cc))
space_Decides space.Unit space.Parameter = (λ e. absurd (false≢true e), λ e. let no : space.Unit ≡ space.Parameter = e in absurd (cc))
space_Decides space.Unit space.Part = (λ e. absurd (false≢true e), λ e. let no : space.Unit ≡ space.Part = e in absurd (cc))
space_Decides space.Declared space.Unit = (λ e. absurd (false≢true e), λ e. let no : space.Declared ≡ space.Unit = e in absurd (cc))
space_Decides space.Declared space.Declared = (λ e. refl, λ e. refl)
space_Decides space.Declared space.Parameter = (λ e. absurd (false≢true e), λ e. let no : space.Declared ≡ space.Parameter = e in absurd (cc))
space_Decides space.Declared space.Part = (λ e. absurd (false≢true e), λ e. let no : space.Declared ≡ space.Part = e in absurd (cc))
space_Decides space.Parameter space.Unit = (λ e. absurd (false≢true e), λ e. let no : space.Parameter ≡ space.Unit = e in absurd (cc))
space_Decides space.Parameter space.Declared = (λ e. absurd (false≢true e), λ e. let no : space.Parameter ≡ space.Declared = e in absurd (cc))
space_Decides space.Parameter space.Parameter = (λ e. refl, λ e. refl)
space_Decides space.Parameter space.Part = (λ e. absurd (false≢true e), λ e. let no : space.Parameter ≡ space.Part = e in absurd (cc))
space_Decides space.Part space.Unit = (λ e. absurd (false≢true e), λ e. let no : space.Part ≡ space.Unit = e in absurd (cc))
space_Decides space.Part space.Declared = (λ e. absurd (false≢true e), λ e. let no : space.Part ≡ space.Declared = e in absurd (cc))
space_Decides space.Part space.Parameter = (λ e. absurd (false≢true e), λ e. let no : space.Part ≡ space.Parameter = e in absurd (cc))
space_Decides space.Part space.Part = (λ e. refl, λ e. refl)

derived_space_Decides : (a b : Space) → Decides ((derived_space.eq-value).it a b) (a ≡ b)
derived_space_Decides space.Unit space.Unit = (λ e. refl, λ e. refl)
derived_space_Decides space.Unit space.Declared = (λ e. absurd (false≢true e), λ e. let no : space.Unit ≡ space.Declared = e in absurd (cc))
derived_space_Decides space.Unit space.Parameter = (λ e. absurd (false≢true e), λ e. let no : space.Unit ≡ space.Parameter = e in absurd (cc))
derived_space_Decides space.Unit space.Part = (λ e. absurd (false≢true e), λ e. let no : space.Unit ≡ space.Part = e in absurd (cc))
derived_space_Decides space.Declared space.Unit = (λ e. absurd (false≢true e), λ e. let no : space.Declared ≡ space.Unit = e in absurd (cc))
derived_space_Decides space.Declared space.Declared = (λ e. refl, λ e. refl)
derived_space_Decides space.Declared space.Parameter = (λ e. absurd (false≢true e), λ e. let no : space.Declared ≡ space.Parameter = e in absurd (cc))
derived_space_Decides space.Declared space.Part = (λ e. absurd (false≢true e), λ e. let no : space.Declared ≡ space.Part = e in absurd (cc))
derived_space_Decides space.Parameter space.Unit = (λ e. absurd (false≢true e), λ e. let no : space.Parameter ≡ space.Unit = e in absurd (cc))
derived_space_Decides space.Parameter space.Declared = (λ e. absurd (false≢true e), λ e. let no : space.Parameter ≡ space.Declared = e in absurd (cc))
derived_space_Decides space.Parameter space.Parameter = (λ e. refl, λ e. refl)
derived_space_Decides space.Parameter space.Part = (λ e. absurd (false≢true e), λ e. let no : space.Parameter ≡ space.Part = e in absurd (cc))
derived_space_Decides space.Part space.Unit = (λ e. absurd (false≢true e), λ e. let no : space.Part ≡ space.Unit = e in absurd (cc))
derived_space_Decides space.Part space.Declared = (λ e. absurd (false≢true e), λ e. let no : space.Part ≡ space.Declared = e in absurd (cc))
derived_space_Decides space.Part space.Parameter = (λ e. absurd (false≢true e), λ e. let no : space.Part ≡ space.Parameter = e in absurd (cc))
derived_space_Decides space.Part space.Part = (λ e. refl, λ e. refl)

same_parts : (a b : Key) → (a.space ≡ b.space) × ((a.owner ≡ b.owner) × (a.name ≡ b.name)) → a ≡ b
same_parts a b e = ap (λ s. key s a.owner a.name) e.0 ∙ ap (λ k. key b.space k a.name) e.1.0 ∙ ap (λ (n : List ℕ). key b.space b.owner n) e.1.1

parts_same : (a b : Key) → a ≡ b → (a.space ≡ b.space) × ((a.owner ≡ b.owner) × (a.name ≡ b.name))
parts_same a b e = (ap (λ (k : Key). k.space) e, (ap (λ (k : Key). k.owner) e, ap (λ (k : Key). k.name) e))

pub same_key-Decides : (a b : Key) → Decides (same_key a b) (a ≡ b)
unfolding same_key
same_key-Decides a b =
    Decides-like _ (same_parts a b) (parts_same a b)
    (Decides-and _ _ (space_Decides a.space b.space) (Decides-and _ _ (Decides-eqb a.owner b.owner) (bytes_eq-Decides a.name b.name)))

derived-Decides : (a b : Key) → Decides ((derived.eq-value).it a b) (a ≡ b)
derived-Decides a b =
    Decides-like _ (same_parts a b) (parts_same a b)
    (Decides-and _ _ (derived_space_Decides a.space b.space) (Decides-and _ _ (Decides-eqb a.owner b.owner) (eq-Decides a.name b.name)))

pub derived-same : (a b : Key) → (derived.eq-value).it a b ≡ same_key a b
derived-same a b = same_from_decides _ _ (derived-Decides a b) (same_key-Decides a b)

pub derived-flipped : (a b : Key) → (derived.eq-value).it a b ≡ same_key b a
derived-flipped a b = same_from_decides _ _ (derived-Decides a b) (Decides-like _ sym sym (same_key-Decides b a))

pub lookup-found : (entries : List (Key × ℕ)) (q : Key) → lookup ((derived.eq-value).it q) entries ≡ found entries q
lookup-found entries q = lookup-same _ _ (derived-flipped q) entries
