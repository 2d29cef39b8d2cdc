-- Which phrase each phrase of the program is.
use Rattle.std.specs.Prelude.{map}
use Rattle.std.specs.Option.{option_map}
use Rattle.hal_tree.specs.Rows.{expressions}
use Rattle.hal_tree.specs.SeenLeaves.{seen_name}
use Rattle.hal_tree.specs.SeenExpressions.{seen_expression, seen_reference}
use Rattle.hal_tree.specs.SeenDeclarations.{seen_initial, seen_attribute, seen_declared, seen_part, seen_declaration}
use Rattle.hal_tree.specs.SeenStatements.{seen_selector, seen_event}
use Rattle.hal_tree.specs.SeenUnits.{seen_head, seen_preface}
use Rattle.hal_phrases.specs.declared.node.Node as rust-node
use Rattle.hal_phrases.specs.declared.node.Node.TheVariants as node
use Rattle.hal_phrases.specs.declared.node.Phrase as rust-phrase
use Rattle.hal_phrases.specs.Phrases

-- what a phrase is
abbrev pub seen_node : rust-node.Node → Phrases.Node
seen_node (node.File prefaces name) = Phrases.OfFile (map seen_preface prefaces.now) (seen_name name.now)
seen_node (node.Include name) = Phrases.OfInclude (seen_name name.now)
seen_node (node.Template name head declarations) = Phrases.OfTemplate (seen_name name.now) (seen_head head.now) (map seen_declaration declarations.now)
seen_node (node.Unit name head declarations) = Phrases.OfUnit (seen_name name.now) (seen_head head.now) (map seen_declaration declarations.now)
seen_node (node.Parameter name output) = Phrases.OfParameter (seen_name name.now) output
seen_node (node.Close name) = Phrases.OfClose (seen_name name.now)
seen_node (node.Declare common) = Phrases.OfDeclare (map seen_attribute common.now)
seen_node (node.Item common item) = Phrases.OfItem (map seen_attribute common.now) (seen_declared item.now)
seen_node (node.Structure name parts) = Phrases.OfStructure (seen_name name.now) (map seen_part parts.now)
seen_node (node.Part bottom part) = Phrases.OfPart bottom (seen_part part.now)
seen_node (node.StructureType place template) = Phrases.OfStructureType place template.now
seen_node (node.Initial initial) = Phrases.OfInitial (seen_initial initial.now)
seen_node (node.InitialName name) = Phrases.OfInitialName (seen_name name.now)
seen_node (node.Label name) = Phrases.OfLabel (seen_name name.now)
seen_node (node.Expression role tree) = Phrases.OfExpression role (seen_expression tree.now)
seen_node (node.Decimal role place) = Phrases.OfDecimal role place
seen_node (node.CallForm place name arguments) = Phrases.OfCallForm place.now name.now (expressions (map seen_expression arguments.now))
seen_node (node.Reference role reference) = Phrases.OfReference role (seen_reference reference.now)
seen_node (node.SubscriptName name) = Phrases.OfSubscriptName (seen_name name.now)
seen_node (node.Assignment receivers value) = Phrases.OfAssignment (map seen_reference receivers.now) (seen_expression value.now)
seen_node (node.Group labels looping) = Phrases.OfGroup (map seen_name labels.now) looping
seen_node (node.TemporaryGroup labels variable) = Phrases.OfTemporaryGroup (map seen_name labels.now) (seen_name variable.now)
seen_node (node.Variable name) = Phrases.OfVariable (seen_name name.now)
seen_node (node.Exit place label) = Phrases.OfExit place (option_map seen_name label.now)
seen_node (node.Repeat place label) = Phrases.OfRepeat place (option_map seen_name label.now)
seen_node (node.Return place value) = Phrases.OfReturn place (option_map seen_expression value.now)
seen_node (node.Call name arguments receivers) = Phrases.OfCall (seen_name name.now) (expressions (map seen_expression arguments.now)) (map seen_reference receivers.now)
seen_node (node.Read place) = Phrases.OfRead place
seen_node (node.Write place) = Phrases.OfWrite place
seen_node (node.Update place labels) = Phrases.OfUpdate place (map seen_name labels.now)
seen_node (node.RealTime place) = Phrases.OfRealTime place
seen_node (node.Process name) = Phrases.OfProcess (seen_name name.now)
seen_node (node.Event event) = Phrases.OfEvent (seen_event event.now)
seen_node (node.Handler place selector) = Phrases.OfHandler place (seen_selector selector.now)
seen_node (node.Response place selector) = Phrases.OfResponse place (seen_selector selector.now)
seen_node (node.OffError place selector) = Phrases.OfOffError place (seen_selector selector.now)
seen_node (node.SendError group_at group number_at number) = Phrases.OfSendError group_at.now group number_at.now number

-- a phrase
abbrev pub seen_phrase : rust-phrase.Phrase → Phrases.Phrase
seen_phrase p = Phrases.phrase p.number p.around (seen_node p.node)
