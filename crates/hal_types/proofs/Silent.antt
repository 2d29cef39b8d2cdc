-- No rule of attributes is about expressions and references.
use Rattle.std.specs.Prelude.{◌≡◌, ℕ, List, None}
use Rattle.std.proofs.Common.{refl}
use Rattle.hal_grammar.specs.Expressions.{Expression, Reference}
use Rattle.hal_phrases.specs.declared.around.Around.{Around}
use Rattle.hal_phrases.specs.declared.role.Role.{Role}
use Rattle.hal_phrases.specs.Phrases.{Phrase, phrase, OfExpression, OfReference}
use Rattle.hal_attributes.specs.Clashes.{clashing}
use Rattle.hal_attributes.specs.Levels.{misleveled, overtyped}
use Rattle.hal_attributes.specs.Storage.{misstored}
use Rattle.hal_attributes.specs.Typed.{misplaced_event, named_as_template, nested, no_result, untyped}
use Rattle.hal_scope.specs.Rules.{fault}
use Rattle.hal_types.specs.Rules.{attribute_rows}

pub expression_is_right : (ps : List Phrase) (k : ℕ) (a : Around) (role : Role) (tree : Expression) → None ≡ fault attribute_rows ps (phrase k a (OfExpression role tree))
unfolding fault attribute_rows clashing misleveled overtyped misstored misplaced_event named_as_template nested no_result untyped
expression_is_right ps k a role tree = refl

pub reference_is_right : (ps : List Phrase) (k : ℕ) (a : Around) (role : Role) (reference : Reference) → None ≡ fault attribute_rows ps (phrase k a (OfReference role reference))
unfolding fault attribute_rows clashing misleveled overtyped misstored misplaced_event named_as_template nested no_result untyped
reference_is_right ps k a role reference = refl
