-- Heads of a written template and of its unit, which is called: both are those of PROCEDUREs, or of FUNCTIONs.
use Rattle.std.proofs.Common.{◌≡◌, true, List, Option, refl, sym}
use Rattle.hal_base.specs.declared.refusal.Place.{Place}
use Rattle.hal_grammar.specs.Leaves.{Naming}
use Rattle.hal_grammar.specs.Units.{Compool, Function, Head, Mode, Procedure, Program, Returns, Task}
use Rattle.hal_phrases.specs.Phrases.{Phrase}
use Rattle.hal_constants.specs.Known.{Known}
use Rattle.hal_templates.specs.Giving.{HaveSameHead, HaveSameResult}
use Rattle.hal_meaning.specs.Bodies.{is_called_head}
use Rattle.hal_meaning.specs.Calls.{inputs_of, is_function}
use Rattle.hal_fit_rules.specs.Parameters.{spelled}

-- both take the same names, and FUNCTIONs give the same
pub data AreCalled (ps : List Phrase) (vs : Known) (p q : Phrase) : Head → Head → Type 0 where
  Procedures : (at there : Place) (inputs outputs other_inputs other_outputs : List Naming) (mode other_mode : Option Mode) → spelled inputs ≡ spelled other_inputs
      → AreCalled ps vs p q (Procedure at inputs outputs mode) (Procedure there other_inputs other_outputs other_mode)
  Functions : (at there : Place) (inputs other_inputs : List Naming) (returns other_returns : Returns) (mode other_mode : Option Mode) → spelled inputs ≡ spelled other_inputs → HaveSameResult ps vs p returns q other_returns
      → AreCalled ps vs p q (Function at inputs returns mode) (Function there other_inputs other_returns other_mode)

-- the heads of a unit that is called and of its template are such
pub are_called : (ps : List Phrase) (vs : Known) (p q : Phrase) (head other : Head) → HaveSameHead ps vs p head q other → is_called_head head ≡ true → AreCalled ps vs p q head other
are_called ps vs p q (Procedure at inputs outputs mode) (Procedure there other_inputs other_outputs other_mode) same called = Procedures at there inputs outputs other_inputs other_outputs mode other_mode same.0
are_called ps vs p q (Procedure at inputs outputs mode) (Function there other_inputs returns other_mode) same called = absurd same
are_called ps vs p q (Procedure at inputs outputs mode) (Program there) same called = absurd same
are_called ps vs p q (Procedure at inputs outputs mode) (Compool there) same called = absurd same
are_called ps vs p q (Procedure at inputs outputs mode) (Task there) same called = absurd same
are_called ps vs p q (Function at inputs returns mode) (Function there other_inputs other_returns other_mode) same called = Functions at there inputs other_inputs returns other_returns mode other_mode same.0 same.1
are_called ps vs p q (Function at inputs returns mode) (Procedure there other_inputs outputs other_mode) same called = absurd same
are_called ps vs p q (Function at inputs returns mode) (Program there) same called = absurd same
are_called ps vs p q (Function at inputs returns mode) (Compool there) same called = absurd same
are_called ps vs p q (Function at inputs returns mode) (Task there) same called = absurd same
are_called ps vs p q (Program at) other same called = absurd (cc)
are_called ps vs p q (Compool at) other same called = absurd (cc)
are_called ps vs p q (Task at) other same called = absurd (cc)

module _ {ps : List Phrase} {vs : Known} {p q : Phrase} where
  -- the unit is called too
  pub called_too : {head other : Head} → AreCalled ps vs p q head other → is_called_head other ≡ true
  called_too (Procedures at there inputs outputs other_inputs other_outputs mode other_mode same) = refl
  called_too (Functions at there inputs other_inputs returns other_returns mode other_mode same result) = refl

  -- it takes the same names
  pub named_too : {head other : Head} → AreCalled ps vs p q head other → spelled (inputs_of other) ≡ spelled (inputs_of head)
  named_too (Procedures at there inputs outputs other_inputs other_outputs mode other_mode same) = sym same
  named_too (Functions at there inputs other_inputs returns other_returns mode other_mode same result) = sym same

  -- it is a FUNCTION where the template is one of a FUNCTION
  pub function_too : {head other : Head} → AreCalled ps vs p q head other → is_function other ≡ is_function head
  function_too (Procedures at there inputs outputs other_inputs other_outputs mode other_mode same) = refl
  function_too (Functions at there inputs other_inputs returns other_returns mode other_mode same result) = refl
