use Rattle.std.specs.Prelude.{[]}
use Rattle.std.proofs.Common.{⊎_elim}
use Rattle.hal_views.specs.Views.{named_views}
use Rattle.hal_views.proofs.Distinct.{has_each, has_only, are_once}
use Rattle.hal_views.proofs.laws.views_are_those_of_phrases.Goals as goal

pub returns-clause-each : goal.returns-clause-each
returns-clause-each c = λ ps vs v among. has_each v [] (named_views ps vs) among

pub returns-clause-only : goal.returns-clause-only
returns-clause-only c = λ ps vs v among. ⊎_elim (λ never. absurd never) (λ named. named) (has_only v [] (named_views ps vs) among)

pub returns-clause-once : goal.returns-clause-once
returns-clause-once c = λ ps vs. are_once [] (named_views ps vs) tt
