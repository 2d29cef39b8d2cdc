-- The rules of types, as rows over one phrase.
use Rattle.std.specs.Prelude.{ℕ, List, [], ◌∷◌, ◌++◌, Option, Some, None}
use Rattle.std.specs.Option.{option_or}
use Rattle.hal_base.specs.declared.refusal.Place.{Place}
use Rattle.hal_phrases.specs.Phrases.{Phrase}
use Rattle.hal_scope.specs.Rules.{Row, fault, ruled}
use Rattle.hal_constants.specs.Known.{Known, known}
use Rattle.hal_sizes.specs.Constancy.{inconstant, misdimensioned}
use Rattle.hal_shapes.specs.Ranges.{misranged}
use Rattle.hal_shapes.specs.Arguments.{misshaped}
use Rattle.hal_initials.specs.Initials.{misinitialed, missigned}
use Rattle.hal_attributes.specs.Clashes.{clashing}
use Rattle.hal_attributes.specs.Levels.{misleveled, overtyped}
use Rattle.hal_attributes.specs.Typed.{misplaced_event, named_as_template, nested, no_result, untyped}
use Rattle.hal_attributes.specs.Storage.{misstored}
use Rattle.hal_operands.specs.Wants.{unfit}
use Rattle.hal_operands.specs.Pairs.{mismatched}
use Rattle.hal_operands.specs.Taken.{untaken}
use Rattle.hal_operands.specs.Times.{mistimed, untimely}
use Rattle.hal_uses.specs.Forms.{misreturned, no_error, no_exponent}
use Rattle.hal_uses.specs.Real.{no_process, unlatched}
use Rattle.hal_uses.specs.Receivers.{misreceived}
use Rattle.hal_uses.specs.Subscripts.{missubscripted}
use Rattle.hal_uses.specs.Calls.{miscalled}

-- of attributes
unfoldable pub attribute_rows : List Row
attribute_rows =
    (λ ps p. ruled 323 (untyped p.node)) ∷ (λ ps p. ruled 325 (named_as_template p.node)) ∷ (λ ps p. ruled 326 (nested p.node)) ∷ (λ ps p. ruled 327 (misplaced_event ps p p.node))
    ∷ (λ ps p. ruled 701 (clashing p.node)) ∷ (λ ps p. ruled 701 (overtyped p.node)) ∷ (λ ps p. ruled 710 (misleveled p.node)) ∷ (λ ps p. ruled 724 (no_result p.node))
    ∷ (λ ps p. ruled 725 (misstored ps p p.node)) ∷ []

-- of operands
unfoldable pub operand_rows : List Row
operand_rows =
    (λ ps p. ruled 322 (untimely ps p p.node)) ∷ (λ ps p. mistimed ps p p.node) ∷ (λ ps p. unfit ps p p.node) ∷ (λ ps p. mismatched ps p p.node) ∷ (λ ps p. ruled 702 (untaken ps p p.node)) ∷ []

-- of how names are used
unfoldable pub use_rows : List Row
use_rows =
    (λ ps p. ruled 328 (no_exponent p.node)) ∷ (λ ps p. ruled 711 (misreturned ps p p.node)) ∷ (λ ps p. ruled 719 (no_error p.node)) ∷ (λ ps p. ruled 715 (unlatched ps p p.node))
    ∷ (λ ps p. ruled 723 (no_process ps p p.node)) ∷ (λ ps p. misreceived ps p p.node) ∷ (λ ps p. missubscripted ps p p.node) ∷ (λ ps p. miscalled ps p p.node) ∷ []

-- of sizes, ranges and arguments, where these are the values of constants
abbrev pub sized_plainly : List Phrase → Known → Phrase → Option (ℕ × Place)
sized_plainly ps vs p =
    option_or (inconstant ps vs p p.node) (option_or (ruled 710 (misdimensioned p.node)) (option_or (misranged ps vs p p.node)
    (option_or (ruled 705 (misshaped ps vs p p.node)) (ruled 702 (missigned ps p p.node)))))

-- of these and of initial values
abbrev pub sized : List Phrase → Known → Phrase → Option (ℕ × Place)
sized ps vs p = option_or (sized_plainly ps vs p) (misinitialed ps vs p p.node)

-- the same as rows, with the values that the constants of the set have
unfoldable pub size_rows : List Row
size_rows =
    (λ ps p. inconstant ps (known ps) p p.node) ∷ (λ ps p. ruled 710 (misdimensioned p.node)) ∷ (λ ps p. misranged ps (known ps) p p.node)
    ∷ (λ ps p. ruled 705 (misshaped ps (known ps) p p.node)) ∷ (λ ps p. ruled 702 (missigned ps p p.node)) ∷ (λ ps p. misinitialed ps (known ps) p p.node) ∷ []

-- all of them
unfoldable pub type_rows : List Row
type_rows = attribute_rows ++ (operand_rows ++ (use_rows ++ size_rows))

-- the first rule of types that a phrase breaks, the values of constants aside
abbrev pub plain_fault : List Phrase → Phrase → Option (ℕ × Place)
plain_fault ps p = option_or (fault attribute_rows ps p) (option_or (fault operand_rows ps p) (fault use_rows ps p))

-- the first rule of types that a phrase breaks, and where
abbrev pub fault_with : List Phrase → Known → Phrase → Option (ℕ × Place)
fault_with ps vs p = option_or (option_or (plain_fault ps p) (sized_plainly ps vs p)) (misinitialed ps vs p p.node)

-- the first one that one of the phrases breaks
unfoldable pub first_with : List Phrase → Known → List Phrase → Option (ℕ × Place)
first_with ps vs [] = None
first_with ps vs (p ∷ rest) = option_or (fault_with ps vs p) (first_with ps vs rest)
