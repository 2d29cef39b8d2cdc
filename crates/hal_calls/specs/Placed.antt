-- Where ON ERROR and TASK stand: rules 903 and 904.
use Rattle.std.specs.Prelude.{List, Option, Some, None, if◌then◌else◌}
use Rattle.std.specs.Option.{option_and_then}
use Rattle.hal_base.specs.declared.refusal.Place.{Place}
use Rattle.hal_grammar.specs.Units.{Head, Task}
use Rattle.hal_phrases.specs.Phrases.{Node, Phrase, OfTemplate, OfUnit, OfHandler}
use Rattle.hal_scope.specs.Uses.{unless}
use Rattle.hal_meaning.specs.Sets.{is_program_at}

-- ON ERROR with a statement
unfoldable pub handling : Node → Option Place
handling (OfHandler place selector) = Some place
handling other = None

-- rule 903
abbrev pub nested : Phrase → Option Place
nested p = if p.around.direct then None else handling p.node

-- TASK as a head
unfoldable pub task_head : Head → Option Place
task_head (Task place) = Some place
task_head other = None

-- TASK as the head of a unit or of a template
unfoldable pub task_at : Node → Option Place
task_at (OfUnit name head declarations) = task_head head
task_at (OfTemplate name head declarations) = task_head head
task_at other = None

-- rule 904
abbrev pub misplaced : List Phrase → Phrase → Option Place
misplaced ps p = option_and_then (λ (place : Place). unless (is_program_at ps p.around.home) place) (task_at p.node)
