-- SIZE is what the tree has it.
use Rattle.std.specs.Prelude.{◌≡◌, List, pos}
use Rattle.std.proofs.Common.{refl, ap, ◌∙◌}
use Rattle.hal_grammar.specs.Leaves.{Naming}
use Rattle.hal_grammar.specs.Expressions.{Or, And, Compare, Cat, Sum, Product, Power, Not, Literal, Decimal, Referred, Called, Convert, Parenthesis, Expressions, NoExpressions, MoreExpressions, Refers}
use Rattle.hal_values.specs.declared.value.Value.TheVariants as value
use Rattle.hal_states.specs.Spots.{Held}
use Rattle.hal_meaning.specs.Expressions.{size_value, size_argument}
use Rattle.hal_agreement.specs.Sites.{Site, here_at}
use Rattle.hal_storage.specs.referents.Referents.{Referent, DataOf, ConstantOf, EventOf, BlockOf, BuiltinOf, Unmeant}
use Rattle.hal_gen_expr.specs.Referents.{referent}
use Rattle.hal_gen_expr.specs.Sizes.{size_referred, size_of_arguments}
use Rattle.hal_gen_expr.proofs.Referring.{meaning_of, name_means}

value_known : (site : Site) (path : List Naming) (held : List Held) (r : Referent) → size_value (meaning_of site held r) path ≡ value.Int (pos (size_referred path r))
value_known site path held (DataOf k stored shape) = refl
value_known site path held (ConstantOf v) = refl
value_known site path held (EventOf e) = refl
value_known site path held (BlockOf unit) = refl
value_known site path held (BuiltinOf b) = refl
value_known site path held Unmeant = refl

-- whatever the own places hold
pub size_known : (site : Site) (arguments : Expressions) (held : List Held) → size_argument (here_at site) arguments held ≡ value.Int (pos (size_of_arguments site arguments))
size_known site (MoreExpressions (Referred (Refers place name path subscript)) others) held = ap (λ m. size_value m path) (name_means site held name) ∙ value_known site path held (referent site name)
size_known site NoExpressions held = refl
size_known site (MoreExpressions (Or place first next) others) held = refl
size_known site (MoreExpressions (And place first next) others) held = refl
size_known site (MoreExpressions (Compare place left relation right) others) held = refl
size_known site (MoreExpressions (Cat place first next) others) held = refl
size_known site (MoreExpressions (Sum place opening first next) others) held = refl
size_known site (MoreExpressions (Product place first next) others) held = refl
size_known site (MoreExpressions (Power place base exponent) others) held = refl
size_known site (MoreExpressions (Not place operand) others) held = refl
size_known site (MoreExpressions (Literal place literal) others) held = refl
size_known site (MoreExpressions (Decimal place number) others) held = refl
size_known site (MoreExpressions (Called place name arguments) others) held = refl
size_known site (MoreExpressions (Convert place conversion operand) others) held = refl
size_known site (MoreExpressions (Parenthesis place inner) others) held = refl
