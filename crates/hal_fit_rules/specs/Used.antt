-- What has to be known of the names that a phrase uses, where it stands.
use Rattle.std.specs.Prelude.{◌≡◌, ◌&&◌, ℕ, Bool, true, false, List, [], ◌∷◌, Option, Some, None}
use Rattle.std.specs.Option.{is_some}
use Rattle.hal_grammar.specs.Leaves.{Naming}
use Rattle.hal_grammar.specs.Expressions.{Expression, Literal, Decimal, Reference, Refers}
use Rattle.hal_phrases.specs.declared.role.Role.{Role}
use Rattle.hal_phrases.specs.declared.role.Role.TheVariants as role
use Rattle.hal_phrases.specs.Phrases.{Node, Phrase, OfExpression, OfReference, OfSubscriptName, OfCallForm, OfTemporaryGroup, OfVariable, OfAssignment, OfReturn, OfCall, OfEvent}
use Rattle.hal_phrases.specs.GatheredExpressions.{gathered}
use Rattle.hal_names.specs.Means.{means}
use Rattle.hal_scope.specs.Rules.{IsAmong}
use Rattle.hal_scope.specs.Uses.{is_in_event, is_nil, means_event}
use Rattle.hal_meaning.specs.Statements.{kind_meant}
use Rattle.hal_meaning.specs.Variables.{name_meant}
use Rattle.hal_code.specs.declared.image.ImageParts.{ImageParts}
use Rattle.hal_code.specs.declared.operand.Time.TheVariants as time
use Rattle.hal_code.specs.Operands.{is_time}
use Rattle.hal_code.specs.Sorts.{I, is_kind}
use Rattle.hal_agreement.specs.Sites.{Site, here_at, within_block}
use Rattle.hal_fitting.specs.Fitting.{Ground}
use Rattle.hal_fit_expr.specs.Uses.{Uses}
use Rattle.hal_fit_expr.specs.Sorted.{sort_of_name}
use Rattle.hal_fit_classes.specs.Kinded.{IsFitLiteral}
use Rattle.hal_fit_rules.specs.Begun.{AreFirst}
use Rattle.hal_fit_rules.specs.Agreeing.{NameAgrees, FormAgrees}
use Rattle.hal_fit_rules.specs.Received.{CellsAgree}
use Rattle.hal_fit_rules.specs.Passed.{ProcedureAgrees}
use Rattle.hal_fit_rules.specs.Left.{UnitAgrees}
use Rattle.hal_fit_rules.specs.Channels.{ChannelAgrees}
use Rattle.hal_fit_rules.specs.Signalled.{EventAgrees}

-- whether a reference of this role takes a value
abbrev pub is_taking : Role → Bool
is_taking role.Receiver = true
is_taking role.Output = true
is_taking other = false

-- a name with a path, by what the reference of this phrase is for: cells where it takes a value, for which READ has a kind; nothing in an event expression; and behind UNTIL of SCHEDULE a value where no event stands
abbrev pub NameKnown : Uses → Site → List Phrase → Phrase → Role → List ℕ → List Naming → Type 0
NameKnown u site ps p role.Receiver name path =
    CellsAgree ps path (means ps p.around.block name) (name_meant (here_at site) name []) × (is_kind (kind_meant path (name_meant (here_at site) name [])) ≡ true)
NameKnown u site ps p role.Output name path = CellsAgree ps path (means ps p.around.block name) (name_meant (here_at site) name [])
NameKnown u site ps p role.Event name path = Unit {0}
NameKnown u site ps p role.EventOrTime name path =
    is_in_event ps p ≡ false → (is_nil path && means_event ps p.around.block name) ≡ false → NameAgrees u site ps p.around.block name path
NameKnown u site ps p other name path = NameAgrees u site ps p.around.block name path

abbrev pub ReferenceKnown : Uses → Site → List Phrase → Phrase → Role → Reference → Type 0
ReferenceKnown u site ps p r (Refers place name path subscript) = NameKnown u site ps p r name path

-- a literal, and a decimal that is a time
abbrev pub LeafKnown : Expression → Type 0
LeafKnown (Literal place literal) = IsFitLiteral literal
LeafKnown (Decimal place number) = is_time (time.Milliseconds number) ≡ true
LeafKnown other = Unit {0}

-- a channel, whose phrases stand behind these
abbrev pub ChannelKnown : Site → List Phrase → Phrase → Role → Expression → Type 0
ChannelKnown site ps p role.Channel tree = (d : List Phrase) → AreFirst (gathered d p.around role.Channel tree) ps → ChannelAgrees site ps p tree
ChannelKnown site ps p other tree = Unit {0}

-- an assignment has a receiver
abbrev pub HasReceiver : List Reference → Type 0
HasReceiver [] = ⊥
HasReceiver (receiver ∷ receivers) = Unit {0}

abbrev pub ReturnKnown : ImageParts → Ground → Site → List Phrase → ℕ → Option Expression → Type 0
ReturnKnown image g site ps home None = Unit {0}
ReturnKnown image g site ps home (Some tree) = UnitAgrees g.block site ps home

-- a phrase that stands at this site
abbrev pub NodeKnown : ImageParts → Ground → Uses → Site → List Phrase → Phrase → Node → Type 0
NodeKnown image g u site ps p (OfExpression r tree) = LeafKnown tree × ChannelKnown site ps p r tree
NodeKnown image g u site ps p (OfReference r reference) = ReferenceKnown u site ps p r reference
NodeKnown image g u site ps p (OfSubscriptName name) = NameAgrees u site ps p.around.block name.name []
NodeKnown image g u site ps p (OfCallForm place name arguments) = FormAgrees u site ps p.around.block name
NodeKnown image g u site ps p (OfAssignment receivers value) = HasReceiver receivers
NodeKnown image g u site ps p (OfTemporaryGroup labels variable) = sort_of_name u (within_block p.number site) variable.name [] ≡ Some I
NodeKnown image g u site ps p (OfVariable name) = CellsAgree ps [] (means ps p.around.block name.name) (name_meant (here_at site) name.name [])
NodeKnown image g u site ps p (OfReturn place value) = ReturnKnown image g site ps p.around.home value
NodeKnown image g u site ps p (OfCall name arguments receivers) = ProcedureAgrees u site ps p.around.block name
NodeKnown image g u site ps p (OfEvent event) = EventAgrees image site ps p.around.block event
NodeKnown image g u site ps p other = Unit {0}

-- a phrase of the unit, at the block that it stands in, with what is used inside of UPDATE blocks or outside
abbrev pub PhraseKnown : ImageParts → Ground → (Bool → Uses) → Site → Phrase → Type 0
PhraseKnown image g u site p = NodeKnown image g (u (is_some p.around.update)) (within_block p.around.block site) site.set.phrases p p.node

-- all phrases that stand in the unit with this number
abbrev pub UnitKnown : ImageParts → Ground → (Bool → Uses) → Site → ℕ → Type 0
UnitKnown image g u site home = (p : Phrase) → IsAmong p site.set.phrases → p.around.home ≡ home → PhraseKnown image g u site p
