-- What phrases have that are spelled so.
use Rattle.std.proofs.Common.{◌≡◌, ℕ, zero, suc, List, [], ◌∷◌, Some, slice_get, sym, inl, inr}
use Rattle.hal_grammar.specs.Leaves.{LiteralValue, Bits}
use Rattle.hal_grammar.specs.Expressions.{Expression, Literal, Reference, Refers, Unsubscripted, ByName, ByInteger, ByParts, NoSubscripts, MoreSubscripts}
use Rattle.hal_phrases.specs.declared.role.Role.{Role}
use Rattle.hal_phrases.specs.Phrases.{Node, OfExpression, OfReference}
use Rattle.hal_scope.specs.Rules.{IsAmong}
use Rattle.hal_fit_classes.specs.Kinded.{IsFitLiteral}
use Rattle.hal_fit_names.specs.Spelled.{IsRightLiteral}
use Rattle.hal_fit_names.specs.Suited.{NodeIsFit}
use Rattle.hal_right_images.proofs.spelled.Adding.{NodeSpelled}

literal_fits : (l : LiteralValue) → IsRightLiteral l → IsFitLiteral l
literal_fits (Bits len bits) right = right
literal_fits other right = tt

tree_fits : (r : Role) (t : Expression) → NodeSpelled (OfExpression r t) → NodeIsFit (OfExpression r t)
tree_fits r (Literal p l) right = literal_fits l right
tree_fits r other right = tt

reference_fits : (r : Role) (x : Reference) → NodeSpelled (OfReference r x) → NodeIsFit (OfReference r x)
reference_fits r (Refers p n ns Unsubscripted) right = tt
reference_fits r (Refers p n ns (ByName q name)) right = tt
reference_fits r (Refers p n ns (ByInteger q u number)) right = tt
reference_fits r (Refers p n ns (ByParts q (MoreSubscripts x xs) ys zs)) right = tt
reference_fits r (Refers p n ns (ByParts q NoSubscripts (MoreSubscripts y ys) zs)) right = tt
reference_fits r (Refers p n ns (ByParts q NoSubscripts NoSubscripts (MoreSubscripts z zs))) right = tt
reference_fits r (Refers p n ns (ByParts q NoSubscripts NoSubscripts NoSubscripts)) right = right

-- literals and lists of subscripts
pub node_fits : (n : Node) → NodeSpelled n → NodeIsFit n
node_fits (OfExpression r t) right = tree_fits r t right
node_fits (OfReference r x) right = reference_fits r x right
node_fits other right = tt

pub at_among : {X : Type 0} (xs : List X) (k : ℕ) (x : X) → slice_get xs k ≡ Some x → IsAmong x xs
at_among [] k x there = absurd (cc)
at_among (y ∷ ys) zero x there = inl (let same : y ≡ x = cc in sym same)
at_among (y ∷ ys) (suc k) x there = inr (at_among ys k x there)
