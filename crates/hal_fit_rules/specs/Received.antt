-- Receivers that are for the meaning what they are for the checks.
use Rattle.std.specs.Prelude.{◌≡◌, ℕ, true, List, [], ◌∷◌, Option, Some, None, slice_get}
use Rattle.hal_grammar.specs.Leaves.{Naming}
use Rattle.hal_grammar.specs.Expressions.{Reference, Refers}
use Rattle.hal_phrases.specs.Phrases.{Phrase}
use Rattle.hal_names.specs.Means.{means}
use Rattle.hal_kinds.specs.Data.{data_at}
use Rattle.hal_meaning.specs.Statements.{kind_named}
use Rattle.hal_meaning.specs.Variables.{Meant, MeantData, name_meant}
use Rattle.hal_code.specs.Sorts.{is_kind}
use Rattle.hal_agreement.specs.Sites.{Site, here_at}
use Rattle.hal_fit_expr.specs.Uses.{Uses}
use Rattle.hal_fit_rules.specs.Agreeing.{AreAlike, SubscriptAgrees}

-- what a phrase declares is data, and those that the name means are like them
abbrev pub AreCells : List Phrase → List Naming → Option Phrase → Meant → Type 0
AreCells ps path None m = ⊥
AreCells ps path (Some p) (MeantData at shape) = AreAlike (data_at ps p path p.node) path shape
AreCells ps path (Some p) other = ⊥

abbrev pub CellsAgree : List Phrase → List Naming → Option ℕ → Meant → Type 0
CellsAgree ps path None m = ⊥
CellsAgree ps path (Some k) m = AreCells ps path (slice_get ps k) m

-- a receiver, whose subscript has names that agree
abbrev pub ReceiverAgrees : Uses → Site → List Phrase → ℕ → Reference → Type 0
ReceiverAgrees u site ps block (Refers place name path subscript) =
    CellsAgree ps path (means ps block name) (name_meant (here_at site) name []) × SubscriptAgrees u site ps block subscript

-- receivers, one at least
abbrev pub ReceiversAgree : Uses → Site → List Phrase → ℕ → List Reference → Type 0
ReceiversAgree u site ps block [] = ⊥
ReceiversAgree u site ps block (receiver ∷ []) = ReceiverAgrees u site ps block receiver
ReceiversAgree u site ps block (receiver ∷ next ∷ others) = ReceiverAgrees u site ps block receiver × ReceiversAgree u site ps block (next ∷ others)

-- receivers of READ, of which the cells have kinds of values
abbrev pub ReadsAgree : Uses → Site → List Phrase → ℕ → List Reference → Type 0
ReadsAgree u site ps block [] = Unit {0}
ReadsAgree u site ps block (receiver ∷ receivers) =
    ReceiverAgrees u site ps block receiver × (is_kind (kind_named (here_at site) receiver []) ≡ true) × ReadsAgree u site ps block receivers
