-- Parts of lists that may end before.
use Rattle.std.specs.Prelude.{◌≡◌, ℕ, ◌<◌, List, [], drop, take, length}
use Rattle.std.proofs.Common.{arith}
use Rattle.std.proofs.Math.ListN.{drop_of_length-le}
use Rattle.std.proofs.lemmas.List.{take_all}

pub past : {X : Type 0} (n : ℕ) (xs : List X) → length xs < n → drop n xs ≡ []
past n xs short = drop_of_length-le xs (omega (arith, short))

pub all_of : {X : Type 0} (n : ℕ) (xs : List X) → length xs < n → take n xs ≡ xs
all_of n xs short = take_all n xs (omega (arith, short))
