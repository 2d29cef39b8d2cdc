-- Keys that are equal are hashed alike.
use Rattle.std.proofs.Common.{ℕ, List, [], ◌∷◌, ◌++◌}
use Rattle.std.specs.Hash.{Alike, and-Alike, on_Alike, same_Alike, second_alike, usize}
use Rattle.std.proofs.lemmas.Bool.Decides.{Decides-eqb}
use Rattle.hal_words.proofs.NameEquality.{eq-Decides}
use Rattle.hal_names.specs.declared.key.Key.{Key}
use Rattle.hal_names.specs.contracts.key.KeyPartialEq.TheImpl as derived

-- what is written of a key: its owner, and then its name
pub alike : Alike (λ a b. (derived.eq-value).it a b) (λ (k : Key). usize k.owner ++ k.name ∷ [])
alike = second_alike _ (and-Alike (on_Alike (λ (k : Key). k.owner) (same_Alike usize Decides-eqb)) (on_Alike (λ (k : Key). k.name) (same_Alike (λ (name : List ℕ). name ∷ []) eq-Decides)))
