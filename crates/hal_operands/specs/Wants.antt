-- What is wanted of an operand, and which rule another one breaks: 702, 703 or 720.
use Rattle.std.specs.Prelude.{ℕ, List, Option, Some, None}
use Rattle.std.specs.Option.{option_and_then}
use Rattle.hal_base.specs.declared.refusal.Place.{Place}
use Rattle.hal_grammar.specs.Leaves.{Naming}
use Rattle.hal_grammar.specs.Expressions.{Expression, place_of}
use Rattle.hal_phrases.specs.declared.role.Role.{Role}
use Rattle.hal_phrases.specs.declared.role.Role.TheVariants as role
use Rattle.hal_phrases.specs.Phrases.{Node, Phrase, OfExpression, OfReference, OfSubscriptName}
use Rattle.hal_kinds.specs.declared.class.Class.{Class}
use Rattle.hal_kinds.specs.declared.class.Class.TheVariants as class
use Rattle.hal_kinds.specs.Classes.{class_of, class_of_name, class_of_reference}
use Rattle.hal_grammar.specs.Expressions.{Reference, place_of_reference}
use Rattle.hal_scope.specs.Rules.{ruled}
use Rattle.hal_operands.specs.declared.want.Want.{Want}
use Rattle.hal_operands.specs.declared.want.Want.TheVariants as want

-- what is wanted of an operand of this role; of some roles other rules speak
unfoldable pub wanted : Role → Want
wanted role.Disjunct = want.Truth
wanted role.Conjunct = want.Truth
wanted role.Condition = want.Truth
wanted role.Negated = want.Bits
wanted role.Compared = want.Value
wanted role.Joined = want.Value
wanted role.Assigned = want.Value
wanted role.Returned = want.Value
wanted role.Item = want.Value
wanted role.ToText = want.Value
wanted role.Initial = want.Value
wanted role.ToInteger = want.String
wanted role.Enclosed = want.Single
wanted role.Exponent = want.Anything
wanted role.Argument = want.Anything
wanted role.Receiver = want.Anything
wanted role.Input = want.Anything
wanted role.Output = want.Anything
wanted role.Channel = want.Anything
wanted role.Time = want.Anything
wanted role.Event = want.Anything
wanted role.EventOrTime = want.Anything
wanted other = want.Integer

-- an integer, bits or a text where one of these is wanted
unfoldable pub misfit_of_value : Want → Class → Option ℕ
misfit_of_value want.Anything c = None
misfit_of_value want.Value c = None
misfit_of_value want.Single c = None
misfit_of_value want.Integer class.Integer = None
misfit_of_value want.Bits class.Bits = None
misfit_of_value want.Truth class.Bits = None
misfit_of_value want.Text class.Text = None
misfit_of_value want.String class.Bits = None
misfit_of_value want.String class.Text = None
misfit_of_value w c = Some 702

-- a condition
unfoldable pub misfit_of_condition : Want → Option ℕ
misfit_of_condition want.Anything = None
misfit_of_condition want.Truth = None
misfit_of_condition want.Single = None
misfit_of_condition w = Some 703

-- a whole structure, or several elements
unfoldable pub misfit_of_whole : ℕ → Want → Option ℕ
misfit_of_whole rule want.Anything = None
misfit_of_whole rule w = Some rule

-- the rule that an operand of this class breaks
unfoldable pub misfit : Want → Class → Option ℕ
misfit w class.Condition = misfit_of_condition w
misfit w class.Structure = misfit_of_whole 702 w
misfit w class.Array = misfit_of_whole 720 w
misfit w c = misfit_of_value w c

-- a rule that is broken at this place
abbrev pub at : Place → Option ℕ → Option (ℕ × Place)
at place rule = option_and_then (λ r. Some (r, place)) rule

-- the rule that an expression breaks of which this is wanted
abbrev pub misfit_at : List Phrase → ℕ → Want → Expression → Option (ℕ × Place)
misfit_at ps block w tree = at (place_of tree) (option_and_then (misfit w) (class_of ps block tree))

-- the rule that a receiver of this class breaks
unfoldable pub misfit_of_receiver : Class → Option ℕ
misfit_of_receiver class.Structure = Some 702
misfit_of_receiver class.Array = Some 720
misfit_of_receiver other = None

unfoldable pub receiver_misfit : List Phrase → ℕ → Role → Reference → Option (ℕ × Place)
receiver_misfit ps block role.Receiver reference = at (place_of_reference reference) (option_and_then misfit_of_receiver (class_of_reference ps block reference))
receiver_misfit ps block other reference = None

-- the rule that a name behind `$` breaks: it is an integer
abbrev pub name_misfit : List Phrase → ℕ → Naming → Option (ℕ × Place)
name_misfit ps block name = at name.place (option_and_then (misfit want.Integer) (class_of_name ps block name.name))

-- rules 702, 703 and 720 of one operand or receiver
unfoldable pub unfit : List Phrase → Phrase → Node → Option (ℕ × Place)
unfit ps p (OfExpression r tree) = misfit_at ps p.around.block (wanted r) tree
unfit ps p (OfReference r reference) = receiver_misfit ps p.around.block r reference
unfit ps p (OfSubscriptName name) = name_misfit ps p.around.block name
unfit ps p other = None
