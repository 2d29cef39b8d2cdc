-- Lists of the grammar that are empty.
use Rattle.std.proofs.Common.{rules, ◌≡◌, ◌==◌, List, [], ◌∷◌, length, map}
use Rattle.hal_grammar.specs.Expressions.{Sub}
use Rattle.hal_tree.specs.Rows.{subscripts}
use Rattle.hal_constants.specs.Constants.{is_none}

pub no_subscript : {X : Type 0} (f : X → Sub) (xs : List X) → (length xs == 0) ≡ is_none (subscripts (map f xs))
unfolding is_none subscripts
no_subscript f [] = search rules
no_subscript f (x ∷ xs) = search rules
