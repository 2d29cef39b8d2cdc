-- What ranges, portions and lists of subscripts choose.
use Rattle.std.specs.Prelude.{ℕ, ◌+◌, ◌-◌, List, [], ◌∷◌, ◌++◌}
use Rattle.hal_grammar.specs.Expressions.{Position, Subscripts, NoSubscripts, MoreSubscripts}
use Rattle.hal_phrases.specs.Phrases.{Phrase}
use Rattle.hal_constants.specs.declared.constant.Constant.{Constant}
use Rattle.hal_constants.specs.Known.{Known}
use Rattle.hal_views.specs.Views.{Choice, choice_from, constant_place, copies_by, place_by}

-- places from one to another, of so many
abbrev pub choice_to : List Phrase → Known → Phrase → ℕ → Position → Position → Choice
choice_to ps vs p size first last = choice_from size (constant_place ps vs p size first) (constant_place ps vs p size last)

-- so many places from one on, of so many
abbrev pub choice_at : List Phrase → Known → Phrase → ℕ → Constant → Position → Choice
choice_at ps vs p size number first = choice_from size (constant_place ps vs p size first) ((constant_place ps vs p size first + place_by size number) - 1)

-- the subscripts behind the first one
abbrev pub later_subs : Subscripts → Subscripts
later_subs NoSubscripts = NoSubscripts
later_subs (MoreSubscripts first others) = others

-- what is chosen so far, and what subscripts choose of dimensions of these sizes
unfoldable pub with_choices : List Phrase → Known → Phrase → List Choice → List ℕ → Subscripts → List Choice
with_choices ps vs p found [] subs = found
with_choices ps vs p found (n ∷ ns) subs = with_choices ps vs p (found ++ (copies_by ps vs p n subs ∷ [])) ns (later_subs subs)
