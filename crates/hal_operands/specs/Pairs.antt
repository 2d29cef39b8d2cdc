-- Operands that don't go together: rule 702 of comparisons and CAT, 708 of bits that are compared by order, 717 of bits beside a comparison.
use Rattle.std.specs.Prelude.{ℕ, Bool, true, false, ◌&&◌, List, Option, Some, None, if◌then◌else◌}
use Rattle.std.specs.Option.{option_or, is_some}
use Rattle.hal_base.specs.declared.refusal.Place.{Place}
use Rattle.hal_grammar.specs.Leaves.{Relation, Equal, NotEqual}
use Rattle.hal_grammar.specs.Expressions.{Expression, Or, And, Compare, Cat, Expressions, NoExpressions, MoreExpressions, place_of}
use Rattle.hal_phrases.specs.declared.role.Role.{Role}
use Rattle.hal_phrases.specs.declared.role.Role.TheVariants as role
use Rattle.hal_phrases.specs.Phrases.{Node, Phrase, OfExpression}
use Rattle.hal_kinds.specs.declared.class.Class.{Class}
use Rattle.hal_kinds.specs.declared.class.Class.TheVariants as class
use Rattle.hal_kinds.specs.Classes.{class_of, beside, joined}
use Rattle.hal_scope.specs.Uses.{unless}

-- whether a relation tells only whether two values are the same
unfoldable pub is_equality : Relation → Bool
is_equality Equal = true
is_equality NotEqual = true
is_equality other = false

-- two values that are compared: the right one is at fault unless it is of the class of the left one; of bits the whole comparison where it is by order
unfoldable pub compared_fault : Place → Relation → Place → Option Class → Option Class → Option (ℕ × Place)
compared_fault place relation at (Some class.Bits) (Some class.Bits) = if is_equality relation then None else Some (708, place)
compared_fault place relation at (Some class.Integer) (Some class.Bits) = Some (702, at)
compared_fault place relation at (Some class.Integer) (Some class.Text) = Some (702, at)
compared_fault place relation at (Some class.Bits) (Some class.Integer) = Some (702, at)
compared_fault place relation at (Some class.Bits) (Some class.Text) = Some (702, at)
compared_fault place relation at (Some class.Text) (Some class.Integer) = Some (702, at)
compared_fault place relation at (Some class.Text) (Some class.Bits) = Some (702, at)
compared_fault place relation at one other = None

-- whether this is one value
unfoldable pub is_value : Option Class → Bool
is_value (Some class.Integer) = true
is_value (Some class.Bits) = true
is_value (Some class.Text) = true
is_value other = false

-- the first operand of CAT that can't be joined to what stands before it
unfoldable pub joined_fault : List Phrase → ℕ → Option Class → Expressions → Option (ℕ × Place)
joined_fault ps block c NoExpressions = None
joined_fault ps block c (MoreExpressions first others) =
    if is_value c && is_value (class_of ps block first)
    then (if is_some (joined c (class_of ps block first)) then joined_fault ps block (joined c (class_of ps block first)) others else Some (702, place_of first))
    else None

-- whether an expression is a comparison, and not one in parentheses
unfoldable pub is_comparison : Expression → Bool
is_comparison (Compare place left relation right) = true
is_comparison other = false

-- whether this is bits
unfoldable pub is_bits : Option Class → Bool
is_bits (Some class.Bits) = true
is_bits other = false

-- bits behind which an operand is a comparison
unfoldable pub mixed_behind : List Phrase → ℕ → Place → Option Class → Expressions → Option (ℕ × Place)
mixed_behind ps block place c NoExpressions = None
mixed_behind ps block place c (MoreExpressions first others) =
    if is_bits c && is_comparison first then Some (717, place) else mixed_behind ps block place (beside c (class_of ps block first)) others

-- bits directly behind a comparison
unfoldable pub mixed_before : List Phrase → ℕ → Expression → Expressions → Option (ℕ × Place)
mixed_before ps block first NoExpressions = None
mixed_before ps block first (MoreExpressions second others) = if is_comparison first && is_bits (class_of ps block second) then Some (717, place_of second) else None

-- the operands of one AND or OR
abbrev pub mixed_fault : List Phrase → ℕ → Expression → Expressions → Option (ℕ × Place)
mixed_fault ps block first others = option_or (mixed_before ps block first others) (mixed_behind ps block (place_of first) (class_of ps block first) others)

-- the operands of an expression
unfoldable pub pair_fault : List Phrase → ℕ → Expression → Option (ℕ × Place)
pair_fault ps block (Or place first others) = mixed_fault ps block first others
pair_fault ps block (And place first others) = mixed_fault ps block first others
pair_fault ps block (Compare place left relation right) = compared_fault place relation (place_of right) (class_of ps block left) (class_of ps block right)
pair_fault ps block (Cat place first others) = joined_fault ps block (class_of ps block first) others
pair_fault ps block other = None

-- whether an expression of this role may be one of events, of which another rule speaks
unfoldable pub is_eventual : Role → Bool
is_eventual role.Event = true
is_eventual role.EventOrTime = true
is_eventual other = false

-- rules 702, 708 and 717 of operands that don't go together
unfoldable pub mismatched : List Phrase → Phrase → Node → Option (ℕ × Place)
mismatched ps p (OfExpression r tree) = if is_eventual r then None else pair_fault ps p.around.block tree
mismatched ps p other = None
