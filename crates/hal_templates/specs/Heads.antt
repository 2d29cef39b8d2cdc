-- Whether a template has the head of its unit.
use Rattle.std.specs.Prelude.{ℕ, Bool, true, false, ◌&&◌, List, [], ◌∷◌, Option, Some, None, bytes_eq}
use Rattle.hal_grammar.specs.Leaves.{Naming}
use Rattle.hal_grammar.specs.Declarations.{Kind}
use Rattle.hal_grammar.specs.Units.{Head, Program, Compool, Task, Procedure, Function, Mode, Reentrant, Exclusive, Precision, SinglePrecision, DoublePrecision, Returns, NoKind, HasKind}
use Rattle.hal_phrases.specs.Phrases.{Phrase, phrase}
use Rattle.hal_phrases.specs.Surroundings.{opened}
use Rattle.hal_kinds.specs.Data.{is_event_type}
use Rattle.hal_constants.specs.Known.{Known, kind_of}
use Rattle.hal_templates.specs.Alike.{both_or_neither, may_be_kind, same_template}
use Rattle.hal_templates.specs.Own.{template_of}

-- names in order
unfoldable pub same_names : List Naming → List Naming → Bool
same_names [] [] = true
same_names (n ∷ ns) (m ∷ ms) = bytes_eq n.name m.name && same_names ns ms
same_names ns ms = false

unfoldable pub same_mode : Option Mode → Option Mode → Bool
same_mode None None = true
same_mode (Some (Reentrant p)) (Some (Reentrant q)) = true
same_mode (Some (Exclusive p)) (Some (Exclusive q)) = true
same_mode one other = false

-- SINGLE is what nothing says
unfoldable pub is_double : Option Precision → Bool
is_double (Some (DoublePrecision place)) = true
is_double other = false

-- a phrase as its own parts see it
abbrev pub within : Phrase → Phrase
within p = phrase p.number (opened p.number p.around) p.node

-- the types of the results of two FUNCTIONs
abbrev pub same_result : List Phrase → Known → Phrase → Kind → Option Precision → Phrase → Kind → Option Precision → Bool
same_result ps vs p k one q l other =
    both_or_neither (is_event_type (Some k)) (is_event_type (Some l))
    && (same_template (template_of (Some k)) (template_of (Some l)) && may_be_kind (kind_of ps vs (within p) (is_double one) k) (kind_of ps vs (within q) (is_double other) l))

-- no type
unfoldable pub is_untyped : Returns → Bool
is_untyped NoKind = true
is_untyped other = false

-- the result of a FUNCTION with a type, and what another one says of its result
unfoldable pub result_like : List Phrase → Known → Phrase → Kind → Option Precision → Phrase → Returns → Bool
result_like ps vs p k one q (HasKind l other) = same_result ps vs p k one q l other
result_like ps vs p k one q NoKind = false

unfoldable pub same_returns : List Phrase → Known → Phrase → Returns → Phrase → Returns → Bool
same_returns ps vs p NoKind q other = is_untyped other
same_returns ps vs p (HasKind k one) q other = result_like ps vs p k one q other

unfoldable pub is_program : Head → Bool
is_program (Program place) = true
is_program other = false

unfoldable pub is_compool : Head → Bool
is_compool (Compool place) = true
is_compool other = false

unfoldable pub is_task : Head → Bool
is_task (Task place) = true
is_task other = false

-- a PROCEDURE with these parameters and this mode
unfoldable pub is_procedure : List Naming → List Naming → Option Mode → Head → Bool
is_procedure inputs outputs mode (Procedure place other_inputs other_outputs other_mode) = same_names inputs other_inputs && (same_names outputs other_outputs && same_mode mode other_mode)
is_procedure inputs outputs mode other = false

-- a FUNCTION with these parameters, this type and this mode
unfoldable pub is_function : List Phrase → Known → Phrase → List Naming → Returns → Option Mode → Phrase → Head → Bool
is_function ps vs p inputs returns mode q (Function place other_inputs other_returns other_mode) =
    same_names inputs other_inputs && (same_returns ps vs p returns q other_returns && same_mode mode other_mode)
is_function ps vs p inputs returns mode q other = false

-- the head of a template that is this phrase, and that of the unit that is the other one
unfoldable pub same_head : List Phrase → Known → Phrase → Head → Phrase → Head → Bool
same_head ps vs p (Program place) q other = is_program other
same_head ps vs p (Compool place) q other = is_compool other
same_head ps vs p (Task place) q other = is_task other
same_head ps vs p (Procedure place inputs outputs mode) q other = is_procedure inputs outputs mode other
same_head ps vs p (Function place inputs returns mode) q other = is_function ps vs p inputs returns mode q other
