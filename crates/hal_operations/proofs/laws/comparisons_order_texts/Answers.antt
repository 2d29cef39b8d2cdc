use Rattle.std.proofs.Common.{ap, inl, inr, ⊎_elim, not, ◌&&◌}
use Rattle.hal_operations.specs.Texts.{is_before}
use Rattle.hal_operations.proofs.Orders.{told, one_bit-set, is_before-same, is_before-trans, is_before-total, neither, at_most}
use Rattle.hal_operations.proofs.laws.comparisons_order_texts.Goals as goal

-- src/laws.rt:49:1
pub returns-clause-irreflexive : goal.returns-clause-irreflexive
returns-clause-irreflexive c = λ x e. is_before-same x (one_bit-set (is_before x x) e)

-- src/laws.rt:49:1
pub returns-clause-transitive : goal.returns-clause-transitive
returns-clause-transitive c = λ x y z p q. ap told (is_before-trans x y z (one_bit-set (is_before x y) p) (one_bit-set (is_before y z) q))

-- src/laws.rt:49:1
pub returns-clause-total : goal.returns-clause-total
returns-clause-total c = λ x y. ⊎_elim (λ p. inl (ap told p)) (λ more. inr (⊎_elim (λ e. inl e) (λ q. inr (ap told q)) more)) (is_before-total x y)

-- src/laws.rt:49:1
pub returns-clause-equal : goal.returns-clause-equal
returns-clause-equal c = λ x y e. neither x y (one_bit-set (not (is_before x y) && not (is_before y x)) e)

-- src/laws.rt:49:1
pub returns-clause-or_equal : goal.returns-clause-or_equal
returns-clause-or_equal c = λ x y e. ⊎_elim (λ p. inl (ap told p)) (λ same. inr same) (at_most x y (one_bit-set (not (is_before y x)) e))
