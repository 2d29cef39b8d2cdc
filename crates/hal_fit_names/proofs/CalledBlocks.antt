-- The block that a written template of a unit that is called stands for.
use Rattle.std.proofs.Common.{◌≡◌, ℕ, true, List, [], Some, refl, ap, ◌∙◌}
use Rattle.hal_grammar.specs.Leaves.{Naming}
use Rattle.hal_grammar.specs.Units.{Head, Program, Compool, Task, Procedure, Function}
use Rattle.hal_names.specs.Means.{means}
use Rattle.hal_meaning.specs.Bodies.{is_called_head}
use Rattle.hal_meaning.specs.Variables.{MeantBlock, head_meant, meant_by, name_meant}
use Rattle.hal_agreement.specs.Sites.{Site, here_at}
use Rattle.hal_fit_expr.specs.Uses.{Uses}
use Rattle.hal_fit_rules.proofs.Declaring.{meant_standing}
use Rattle.hal_fit_names.specs.Called.{StandsForUsed}

-- a unit that is called is a block
called_meant : (site : Site) (n : ℕ) (h : Head) → is_called_head h ≡ true → head_meant (here_at site) n h ≡ MeantBlock n
called_meant site n (Procedure place inputs outputs mode) is = refl
called_meant site n (Function place inputs returns mode) is = refl
called_meant site n (Program place) is = absurd (cc)
called_meant site n (Task place) is = absurd (cc)
called_meant site n (Compool place) is = absurd (cc)

module _ (u : Uses) (site : Site) where
  -- what a template of a unit that is called stands for is a block
  pub used_meant : (name : List ℕ) (k : ℕ) (inputs : List Naming) → means site.set.phrases site.block name ≡ Some k → (stands : StandsForUsed u site k inputs) → name_meant (here_at site) name [] ≡ MeantBlock stands.unit.number
  used_meant name k inputs meant stands =
      meant_standing u site name k stands.unit.number stands.unit meant stands.stands stands.there
      ∙ (ap (meant_by (here_at site) [] stands.unit) stands.declares ∙ called_meant site stands.unit.number stands.head stands.called)
