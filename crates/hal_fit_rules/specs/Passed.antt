-- CALL whose arguments and parameters are for the meaning what they are for the checks.
use Rattle.std.specs.Prelude.{◌≡◌, ℕ, true, List, [], ◌∷◌, Option, Some, slice_get}
use Rattle.hal_base.specs.declared.refusal.Place.{Place}
use Rattle.hal_grammar.specs.Leaves.{Naming}
use Rattle.hal_grammar.specs.Expressions.{Expressions, Reference}
use Rattle.hal_grammar.specs.Units.{Procedure, Mode}
use Rattle.hal_phrases.specs.Phrases.{Phrase}
use Rattle.hal_names.specs.Means.{means}
use Rattle.hal_shapes.specs.Arguments.{head_of}
use Rattle.hal_meaning.specs.Expressions.{inputs_at}
use Rattle.hal_meaning.specs.Variables.{MeantBlock, name_meant}
use Rattle.hal_agreement.specs.Sites.{Site, here_at}
use Rattle.hal_fit_expr.specs.Uses.{Uses}
use Rattle.hal_fit_rules.specs.Agreeing.{AllAgree}
use Rattle.hal_fit_rules.specs.Received.{ReceiverAgrees}
use Rattle.hal_fit_rules.specs.Parameters.{ParametersAgree, spelled}

-- ASSIGN arguments
abbrev pub AreasAgree : Uses → Site → List Phrase → ℕ → List Reference → Type 0
AreasAgree u site ps block [] = Unit {0}
AreasAgree u site ps block (receiver ∷ receivers) = ReceiverAgrees u site ps block receiver × AreasAgree u site ps block receivers

-- CALL of this name in this block is of a PROCEDURE, for the meaning of a unit that may be called and takes the same arguments
pub record ProcedureAgrees (u : Uses) (site : Site) (ps : List Phrase) (block : ℕ) (name : Naming) : Type 0 where
  pub declared : ℕ
  pub means_it : means ps block name.name ≡ Some declared
  pub phrase : Phrase
  pub there : slice_get ps declared ≡ Some phrase
  pub place : Place
  pub inputs : List Naming
  pub outputs : List Naming
  pub mode : Option Mode
  pub head : head_of phrase.node ≡ Some (Procedure place inputs outputs mode)
  pub unit : ℕ
  pub meant : name_meant (here_at site) name.name [] ≡ MeantBlock unit
  pub taken : spelled (inputs_at site.set unit) ≡ spelled inputs
  pub calls : u.calls unit ≡ true
  pub parameters : ParametersAgree site ps declared unit inputs

-- CALL of it with arguments that agree
pub record CallAgrees (u : Uses) (site : Site) (ps : List Phrase) (block : ℕ) (name : Naming) (given : Expressions) (receivers : List Reference) : Type 0 where
  pub procedure : ProcedureAgrees u site ps block name
  pub arguments : AllAgree u site ps block given
  pub areas : AreasAgree u site ps block receivers
