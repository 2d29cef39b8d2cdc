-- The rules of labels: rule 604 of names behind CLOSE and END, rules 605 and 607 of EXIT and REPEAT.
use Rattle.std.specs.Prelude.{ℕ, zero, suc, Bool, true, false, List, length, Option, Some, None, slice_get, bytes_eq, if◌then◌else◌}
use Rattle.std.specs.List.{list_any}
use Rattle.std.specs.Option.{option_and_then, is_some}
use Rattle.hal_base.specs.declared.refusal.Place.{Place}
use Rattle.hal_grammar.specs.Leaves.{Naming}
use Rattle.hal_phrases.specs.Phrases.{Node, Phrase, OfTemplate, OfUnit, OfClose, OfGroup, OfTemporaryGroup, OfUpdate, OfExit, OfRepeat}
use Rattle.hal_scope.specs.Uses.{unless}

-- whether a name is among labels
abbrev pub is_label : List ℕ → List Naming → Bool
is_label name labels = list_any (λ (label : Naming). bytes_eq label.name name) labels

-- whether a name is a label of a block or a group
unfoldable pub is_label_of : List ℕ → Node → Bool
is_label_of name (OfTemplate unit head declarations) = bytes_eq unit.name name
is_label_of name (OfUnit unit head declarations) = bytes_eq unit.name name
is_label_of name (OfGroup labels looping) = is_label name labels
is_label_of name (OfTemporaryGroup labels variable) = is_label name labels
is_label_of name (OfUpdate place labels) = is_label name labels
is_label_of name other = false

-- rule 604
unfoldable pub misclosed : List Phrase → Phrase → Node → Option Place
misclosed ps p (OfClose name) = option_and_then (λ (closed : Phrase). unless (is_label_of name.name closed.node) name.place) (slice_get ps p.around.parent)
misclosed ps p other = None

-- whether a group is a loop
unfoldable pub is_loop : Node → Bool
is_loop (OfGroup labels looping) = looping
is_loop (OfTemporaryGroup labels variable) = true
is_loop other = false

-- the first of the groups around, from this one on, that passes a test; at most so many are looked at
unfoldable pub group_around : List Phrase → (Node → Bool) → ℕ → Option ℕ → Option Node
group_around ps is zero k = None
group_around ps is (suc n) None = None
group_around ps is (suc n) (Some k) = elim (slice_get ps k) [ None ↦ None | Some p ↦ if is p.node then Some p.node else group_around ps is n p.around.group ]

-- the group around with this label
abbrev pub group_named : List Phrase → Phrase → List ℕ → Option Node
group_named ps p name = group_around ps (is_label_of name) (length ps) p.around.group

-- rule 605
unfoldable pub misled : List Phrase → Phrase → Node → Option Place
misled ps p (OfExit place (Some label)) = unless (is_some (group_named ps p label.name)) place
misled ps p (OfRepeat place (Some label)) = unless (is_some (group_named ps p label.name)) place
misled ps p other = None

-- whether a group that is there is a loop
abbrev pub is_no_plain_group : Option Node → Bool
is_no_plain_group None = true
is_no_plain_group (Some group) = is_loop group

-- rule 607 of REPEAT
abbrev pub astray_repeat : List Phrase → Phrase → Place → Option Naming → Option Place
astray_repeat ps p place None = unless (is_some (group_around ps is_loop (length ps) p.around.group)) place
astray_repeat ps p place (Some label) = unless (is_no_plain_group (group_named ps p label.name)) place

-- rule 607
unfoldable pub astray : List Phrase → Phrase → Node → Option Place
astray ps p (OfExit place None) = unless (is_some p.around.group) place
astray ps p (OfRepeat place label) = astray_repeat ps p place label
astray ps p other = None
