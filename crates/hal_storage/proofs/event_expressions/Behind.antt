-- Operands behind others, and the event expressions of phrases.
use Rattle.std.proofs.Common.{◌≡◌, ◌∙◌, ℕ, ◌&&◌, Bool, true, false, List, [], ◌∷◌, ◌++◌, Some, None, filter_map, if◌then◌else◌, refl, sym, ap, ap₂}
use Rattle.std.specs.Option.{option_map}
use Rattle.std.specs.List.{cons_option}
use Rattle.hal_grammar.specs.Expressions.{Expression, Expressions, NoExpressions, MoreExpressions}
use Rattle.hal_phrases.specs.Phrases.{Node, Phrase, OfFile, OfInclude, OfTemplate, OfUnit, OfParameter, OfClose, OfDeclare, OfItem, OfStructure, OfPart, OfStructureType, OfInitial, OfInitialName, OfLabel, OfExpression, OfDecimal, OfCallForm, OfReference, OfSubscriptName, OfAssignment, OfGroup, OfTemporaryGroup, OfVariable, OfExit, OfRepeat, OfReturn, OfCall, OfRead, OfWrite, OfUpdate, OfRealTime, OfProcess, OfEvent, OfHandler, OfResponse, OfOffError, OfSendError}
use Rattle.hal_values.specs.declared.tables.Item.{Item}
use Rattle.hal_meaning.specs.Events.{postfix, postfix_joined, stated_at, stated, is_for_event}
use Rattle.hal_storage.proofs.elements.Repeated.{behind}
use Rattle.hal_storage.specs.event_expressions.Numbered.{stated_with, stated_by, expression_at, all_stated, is_real_time_at}

pub joined_behind : (ps : List Phrase) (block : ℕ) (joint : Item) (xs before : List Item) (others : Expressions) → postfix_joined ps block joint (xs ++ before) others ≡ xs ++ postfix_joined ps block joint before others
joined_behind ps block joint xs before NoExpressions = refl
joined_behind ps block joint xs before (MoreExpressions first others) =
    ap (λ list. postfix_joined ps block joint list others) (behind xs before (postfix ps block first ++ (joint ∷ [])))
    ∙ joined_behind ps block joint xs (before ++ (postfix ps block first ++ (joint ∷ []))) others

by_test : (ps : List Phrase) (p : Phrase) (tree : Expression) (b : Bool) → (if b then Some (stated_with ps p tree) else None) ≡ option_map (stated_with ps p) (if b then Some tree else None)
by_test ps p tree true = refl
by_test ps p tree false = refl

at_node : (ps : List Phrase) (p : Phrase) (node : Node) → stated_at ps p node ≡ option_map (stated_with ps p) (expression_at ps p node)
at_node ps p (OfFile prefaces name) = refl
at_node ps p (OfInclude name) = refl
at_node ps p (OfTemplate name head list) = refl
at_node ps p (OfUnit name head list) = refl
at_node ps p (OfParameter name output) = refl
at_node ps p (OfClose name) = refl
at_node ps p (OfDeclare common) = refl
at_node ps p (OfItem common one) = refl
at_node ps p (OfStructure name parts) = refl
at_node ps p (OfPart bottom part) = refl
at_node ps p (OfStructureType place template) = refl
at_node ps p (OfInitial initial) = refl
at_node ps p (OfInitialName name) = refl
at_node ps p (OfLabel name) = refl
at_node ps p (OfExpression r tree) = by_test ps p tree (is_for_event ps p.around.block r tree && is_real_time_at ps p.around.parent)
at_node ps p (OfDecimal r place) = refl
at_node ps p (OfCallForm place name arguments) = refl
at_node ps p (OfReference r reference) = refl
at_node ps p (OfSubscriptName name) = refl
at_node ps p (OfAssignment receivers tree) = refl
at_node ps p (OfGroup labels looping) = refl
at_node ps p (OfTemporaryGroup labels variable) = refl
at_node ps p (OfVariable name) = refl
at_node ps p (OfExit place label) = refl
at_node ps p (OfRepeat place label) = refl
at_node ps p (OfReturn place tree) = refl
at_node ps p (OfCall name arguments receivers) = refl
at_node ps p (OfRead place) = refl
at_node ps p (OfWrite place) = refl
at_node ps p (OfUpdate place labels) = refl
at_node ps p (OfRealTime place) = refl
at_node ps p (OfProcess name) = refl
at_node ps p (OfEvent event) = refl
at_node ps p (OfHandler place selector) = refl
at_node ps p (OfResponse place selector) = refl
at_node ps p (OfOffError place selector) = refl
at_node ps p (OfSendError group_at group number_at number) = refl

some_seen : (ps qs : List Phrase) → filter_map (stated_by ps) qs ≡ filter_map (λ (p : Phrase). stated_at ps p p.node) qs
some_seen ps [] = refl
some_seen ps (p ∷ qs) = ap₂ cons_option (sym (at_node ps p p.node)) (some_seen ps qs)

pub all_seen : (ps : List Phrase) → all_stated ps ≡ stated ps
unfolding all_stated
all_seen ps = some_seen ps ps
