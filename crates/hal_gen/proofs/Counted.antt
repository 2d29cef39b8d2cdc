-- Sizes, as the program counts them.
use Rattle.std.specs.Prelude.{ℕ, suc, ◌+◌, ◌-◌, max, List, [], ◌∷◌, length, map, drop}
use Rattle.std.proofs.Common.{◌≡◌, ◌≤◌, refl, ap, subst, ◌∙◌, arith}
use Rattle.std.proofs.lemmas.List.{drop_all}
use Rattle.hal_grammar.specs.Leaves.{Naming}
use Rattle.hal_grammar.specs.Expressions.{Expression, Reference}
use Rattle.hal_grammar.specs.Statements.{Statement}
use Rattle.hal_tree.specs.Rows.{expressions, statements}
use Rattle.hal_meaning.specs.Marks.{after_statement}
use Rattle.hal_agreement.specs.Sites.{Site}
use Rattle.hal_gen_expr.specs.Numbering.{Numbering}
use Rattle.hal_gen.specs.Receiving.{receiver_size}
use Rattle.hal_gen.specs.Sizes.{expression_size, items_size, receivers_size, reads_size, names_size, value_size, next_values_size, selected_size, statement_size, statements_size}
use Rattle.hal_gen.specs.Sums.{with_items, with_statements, with_receivers, with_cases, with_values}

further_on : (a b c : ℕ) → (a + b) + c ≡ a + (b + c)
further_on a b c = omega arith

none_more : (n : ℕ) → n ≡ n + 0
none_more n = omega arith

from_none : (n : ℕ) → 0 + n ≡ n
from_none n = omega arith

-- sums
items_from : (n : Numbering) (site : Site) (size : ℕ) (items : List Expression) → with_items n site size items ≡ size + items_size n site (expressions items)
unfolding with_items expressions
items_from n site size [] = none_more size
items_from n site size (item ∷ items) =
    items_from n site (size + (expression_size n site item + 1)) items ∙ further_on size (expression_size n site item + 1) (items_size n site (expressions items))

items_counted : (n : Numbering) (site : Site) (items : List Expression) → with_items n site 0 items ≡ items_size n site (expressions items)
items_counted n site items = items_from n site 0 items ∙ from_none (items_size n site (expressions items))

pub items_done : {X : Type 0} (f : X → Expression) (n : Numbering) (site : Site) (size place : ℕ) (xs : List X) → length xs ≤ place
    → with_items n site size (map f (drop place xs)) ≡ with_items n site 0 (map f xs) → size ≡ items_size n site (expressions (map f xs))
unfolding with_items
items_done {X} f n site size place xs past kept =
    subst (λ (rest : List X). with_items n site size (map f rest) ≡ with_items n site 0 (map f xs)) (drop_all place xs past) kept ∙ items_counted n site (map f xs)

statements_from : (n : Numbering) (site : Site) (m size : ℕ) (list : List Statement) → with_statements n site m size list ≡ size + statements_size n site m (statements list)
unfolding with_statements statements
statements_from n site m size [] = none_more size
statements_from n site m size (one ∷ others) =
    statements_from n site (after_statement m one) (size + statement_size n site m one) others
    ∙ further_on size (statement_size n site m one) (statements_size n site (after_statement m one) (statements others))

statements_counted : (n : Numbering) (site : Site) (m : ℕ) (list : List Statement) → with_statements n site m 0 list ≡ statements_size n site m (statements list)
statements_counted n site m list = statements_from n site m 0 list ∙ from_none (statements_size n site m (statements list))

pub statements_done : {X : Type 0} (f : X → Statement) (n : Numbering) (site : Site) (m late size place : ℕ) (xs : List X) → length xs ≤ place
    → with_statements n site late size (map f (drop place xs)) ≡ with_statements n site m 0 (map f xs) → size ≡ statements_size n site m (statements (map f xs))
unfolding with_statements
statements_done {X} f n site m late size place xs past kept =
    subst (λ (rest : List X). with_statements n site late size (map f rest) ≡ with_statements n site m 0 (map f xs)) (drop_all place xs past) kept ∙ statements_counted n site m (map f xs)

-- statements of DO CASE
cases_from : (n : Numbering) (site : Site) (m size : ℕ) (list : List Statement) → with_cases n site m size list ≡ size + selected_size n site m (statements list)
unfolding with_cases statements
cases_from n site m size [] = none_more size
cases_from n site m size (one ∷ others) =
    cases_from n site (after_statement m one) (size + (5 + (statement_size n site m one + 1))) others
    ∙ further_on size (5 + (statement_size n site m one + 1)) (selected_size n site (after_statement m one) (statements others))

cases_counted : (n : Numbering) (site : Site) (m : ℕ) (list : List Statement) → with_cases n site m 0 list ≡ selected_size n site m (statements list)
cases_counted n site m list = cases_from n site m 0 list ∙ from_none (selected_size n site m (statements list))

pub cases_done : {X : Type 0} (f : X → Statement) (n : Numbering) (site : Site) (m late size place : ℕ) (xs : List X) → length xs ≤ place
    → with_cases n site late size (map f (drop place xs)) ≡ with_cases n site m 0 (map f xs) → size ≡ selected_size n site m (statements (map f xs))
unfolding with_cases
cases_done {X} f n site m late size place xs past kept =
    subst (λ (rest : List X). with_cases n site late size (map f rest) ≡ with_cases n site m 0 (map f xs)) (drop_all place xs past) kept ∙ cases_counted n site m (map f xs)

-- values of a DO FOR
values_from : (n : Numbering) (site : Site) (size : ℕ) (list : List Expression) → with_values n site size list + 1 ≡ size + next_values_size n site (expressions list)
unfolding with_values expressions
values_from n site size [] = refl
values_from n site size (tree ∷ others) =
    values_from n site (size + (5 + (value_size n site tree + 1))) others ∙ further_on size (5 + (value_size n site tree + 1)) (next_values_size n site (expressions others))

values_counted : (n : Numbering) (site : Site) (list : List Expression) → with_values n site 0 list + 1 ≡ next_values_size n site (expressions list)
values_counted n site list = values_from n site 0 list ∙ from_none (next_values_size n site (expressions list))

pub values_done : {X : Type 0} (f : X → Expression) (n : Numbering) (site : Site) (size place : ℕ) (xs : List X) → length xs ≤ place
    → with_values n site size (map f (drop place xs)) ≡ with_values n site 0 (map f xs) → size + 1 ≡ next_values_size n site (expressions (map f xs))
unfolding with_values
values_done {X} f n site size place xs past kept =
    ap (λ s. s + 1) (subst (λ (rest : List X). with_values n site size (map f rest) ≡ with_values n site 0 (map f xs)) (drop_all place xs past) kept) ∙ values_counted n site (map f xs)

-- receivers
receivers_from : (n : Numbering) (site : Site) (size : ℕ) (list : List Reference) → with_receivers n site size list ≡ size + reads_size n site list
unfolding with_receivers
receivers_from n site size [] = none_more size
receivers_from n site size (one ∷ others) =
    receivers_from n site (size + (1 + receiver_size n site one)) others ∙ further_on size (1 + receiver_size n site one) (reads_size n site others)

reads_counted : (n : Numbering) (site : Site) (list : List Reference) → with_receivers n site 0 list ≡ reads_size n site list
reads_counted n site list = receivers_from n site 0 list ∙ from_none (reads_size n site list)

pub reads_done : {X : Type 0} (f : X → Reference) (n : Numbering) (site : Site) (size place : ℕ) (xs : List X) → length xs ≤ place
    → with_receivers n site size (map f (drop place xs)) ≡ with_receivers n site 0 (map f xs) → size ≡ reads_size n site (map f xs)
unfolding with_receivers
reads_done {X} f n site size place xs past kept =
    subst (λ (rest : List X). with_receivers n site size (map f rest) ≡ with_receivers n site 0 (map f xs)) (drop_all place xs past) kept ∙ reads_counted n site (map f xs)

one_less : (size : ℕ) → size ≡ ((1 + size) + 0) - 1
one_less size = omega arith

both_less : (one next rest : ℕ) → (1 + one) + (((1 + next) + rest) - 1) ≡ ((1 + one) + ((1 + next) + rest)) - 1
both_less one next rest = omega arith

pub receivers_counted : (n : Numbering) (site : Site) (list : List Reference) → receivers_size n site list ≡ reads_size n site list - 1
receivers_counted n site [] = refl
receivers_counted n site (one ∷ []) = one_less (receiver_size n site one)
receivers_counted n site (one ∷ next ∷ others) =
    ap (λ size. (1 + receiver_size n site one) + size) (receivers_counted n site (next ∷ others)) ∙ both_less (receiver_size n site one) (receiver_size n site next) (reads_size n site others)

-- lists of names
same_length : {X Y : Type 0} (f : X → Y) (xs : List X) → length (map f xs) ≡ length xs
same_length f [] = refl
same_length f (x ∷ xs) = ap suc (same_length f xs)

pub names_counted : {X : Type 0} (f : X → Naming) (xs : List X) → names_size (map f xs) ≡ max (length xs) 1
names_counted f [] = refl
names_counted f (x ∷ xs) = let same = same_length f xs in omega (arith, same)
