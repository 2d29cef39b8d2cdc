-- In which units TASKs stand.
use Rattle.std.specs.Prelude.{ℕ, ◌==◌, Bool, true, false, ◌&&◌, List, [], ◌∷◌, ◌++◌, if◌then◌else◌}
use Rattle.hal_grammar.specs.Units.{Task}
use Rattle.hal_phrases.specs.Phrases.{Node, Phrase, OfUnit}

-- whether a phrase is a TASK, and whether it stands directly in the unit with this number
abbrev pub is_task : Node → Bool
is_task (OfUnit name (Task place) declarations) = true
is_task other = false

abbrev pub is_task_in : ℕ → Phrase → Bool
is_task_in unit p = is_task p.node && (p.around.home == unit)

-- units behind these: that of a phrase, where it is a TASK, and those of phrases
abbrev pub with_home : List ℕ → Phrase → List ℕ
with_home homes p = if is_task p.node then homes ++ (p.around.home ∷ []) else homes

unfoldable pub with_homes : List ℕ → List Phrase → List ℕ
with_homes homes [] = homes
with_homes homes (p ∷ ps) = with_homes (with_home homes p) ps
