-- No rule of names is about an expression.
use Rattle.std.specs.Prelude.{◌≡◌, ℕ, List, None}
use Rattle.std.proofs.Common.{refl}
use Rattle.hal_grammar.specs.Expressions.{Expression}
use Rattle.hal_phrases.specs.declared.around.Around.{Around}
use Rattle.hal_phrases.specs.declared.role.Role.{Role}
use Rattle.hal_phrases.specs.Phrases.{Phrase, phrase, OfExpression}
use Rattle.hal_scope.specs.Components.{lacks}
use Rattle.hal_scope.specs.Labels.{misclosed, misled, astray}
use Rattle.hal_scope.specs.Repeated.{given, included_twice, repeated, twice, undeclared}
use Rattle.hal_scope.specs.Rules.{fault, rows}
use Rattle.hal_scope.specs.Sorts.{used}
use Rattle.hal_scope.specs.Uses.{misused, unknown}

pub expression_is_right : (ps : List Phrase) (k : ℕ) (a : Around) (role : Role) (tree : Expression) → None ≡ fault rows ps (phrase k a (OfExpression role tree))
unfolding fault unknown used misused twice given included_twice misclosed misled undeclared astray lacks
expression_is_right ps k a role tree = refl
