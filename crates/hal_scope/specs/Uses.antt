-- The rules of the names that phrases use: rule 601 of unknown ones, rule 603 of those that are names of something else.
use Rattle.std.specs.Prelude.{ℕ, zero, suc, Bool, true, false, ◌||◌, ◌&&◌, not, List, [], length, Option, Some, None, slice_get}
use Rattle.std.specs.Option.{option_and_then, is_some}
use Rattle.hal_base.specs.declared.refusal.Place.{Place}
use Rattle.hal_grammar.specs.Expressions.{Expression, Or, And, Not, Referred, Parenthesis, Expressions, NoExpressions, MoreExpressions, Reference, Refers}
use Rattle.hal_phrases.specs.declared.role.Role.TheVariants as role
use Rattle.hal_phrases.specs.Phrases.{Node, Phrase, OfExpression}
use Rattle.hal_names.specs.Means.{means}
use Rattle.hal_scope.specs.declared.sort.Sort.{Sort}
use Rattle.hal_scope.specs.declared.sort.Sort.TheVariants as sort
use Rattle.hal_scope.specs.declared.usage.Usage.{Usage}
use Rattle.hal_scope.specs.declared.usage.Usage.TheVariants as usage
use Rattle.hal_scope.specs.Builtins.{builtin_named, form_of}
use Rattle.hal_scope.specs.declared.used.Use.{Use}
use Rattle.hal_scope.specs.Sorts.{sort_of, used, fits, is_known, fits_builtin}

-- the place, unless all is right
abbrev pub unless : Bool → Place → Option Place
unless true place = None
unless false place = Some place

-- what the phrase with this number declares
abbrev pub sort_at : List Phrase → ℕ → Option Sort
sort_at ps k = option_and_then (λ (p : Phrase). sort_of p.node) (slice_get ps k)

-- whether the built-in function of this name is known where it is used so
abbrev pub is_known_builtin : List ℕ → Usage → Bool
is_known_builtin name u = elim (builtin_named name) [ None ↦ false | Some b ↦ is_known u (form_of b) ]

-- whether a name is known where it is used
abbrev pub is_known_use : List Phrase → ℕ → Use → Bool
is_known_use ps block u = is_some (means ps block u.name) || is_known_builtin u.name u.usage

-- rule 601
unfoldable pub unknown : List Phrase → Phrase → Option Place
unknown ps p = option_and_then (λ (u : Use). unless (is_known_use ps p.around.block u) u.place) (used p.node)

-- an event or a process
unfoldable pub is_eventful : Option Sort → Bool
is_eventful (Some sort.Event) = true
is_eventful (Some sort.Process) = true
is_eventful other = false

-- whether a name means an event or a process in this block
abbrev pub means_event : List Phrase → ℕ → List ℕ → Bool
means_event ps block name = is_eventful (option_and_then (sort_at ps) (means ps block name))

-- whether a list is empty
unfoldable pub is_nil : {X : Type 0} → List X → Bool
is_nil [] = true
is_nil other = false

-- whether a reference is a name without components that means an event or a process
unfoldable pub refers_to_event : List Phrase → ℕ → Reference → Bool
refers_to_event ps block (Refers place name further subscript) = is_nil further && means_event ps block name

-- whether an operand under AND, OR, NOT or parentheses is an event or a process: then the whole is an event expression
unfoldable mutual
  pub holds_event : List Phrase → ℕ → Expression → Bool
  holds_event ps block (Or place first others) = holds_event ps block first || hold_event ps block others
  holds_event ps block (And place first others) = holds_event ps block first || hold_event ps block others
  holds_event ps block (Not place operand) = holds_event ps block operand
  holds_event ps block (Parenthesis place inner) = holds_event ps block inner
  holds_event ps block (Referred reference) = refers_to_event ps block reference
  holds_event ps block other = false

  -- the same of expressions
  pub hold_event : List Phrase → ℕ → Expressions → Bool
  hold_event ps block NoExpressions = false
  hold_event ps block (MoreExpressions first others) = holds_event ps block first || hold_event ps block others

-- the expression behind UNTIL of SCHEDULE, where a phrase is one or a part of one
unfoldable pub limit_of : Node → Option Expression
limit_of (OfExpression role.EventOrTime tree) = Some tree
limit_of other = None

-- the outermost such expression around the phrase with this number, after at most so many steps
unfoldable pub limit_around : List Phrase → ℕ → ℕ → Option Expression
limit_around ps zero k = None
limit_around ps (suc n) k =
    elim (slice_get ps k) [
      | None ↦ None
      | Some p ↦ elim (limit_of p.node) [
        | None ↦ None
        | Some tree ↦ elim (limit_around ps n p.around.parent) [ None ↦ Some tree | Some outer ↦ Some outer ]
      ]
    ]

-- whether a phrase stands in an event expression behind UNTIL of SCHEDULE
abbrev pub is_in_event : List Phrase → Phrase → Bool
is_in_event ps p = elim (limit_around ps (length ps) p.around.parent) [ None ↦ false | Some tree ↦ holds_event ps p.around.block tree ]

-- whether a name that is declared is one of the right sort where it is used
abbrev pub fits_declared : List Phrase → Phrase → Usage → Option Sort → Bool
fits_declared ps p u None = true
fits_declared ps p usage.EventOrTime (Some s) = fits usage.EventOrTime s || is_in_event ps p
fits_declared ps p u (Some s) = fits u s

-- whether a built-in function, where its name is one that is known, may be used so
abbrev pub fits_named : List ℕ → Usage → Bool
fits_named name u = elim (builtin_named name) [ None ↦ true | Some b ↦ not (is_known u (form_of b)) || fits_builtin u (form_of b) ]

-- whether a name, where it is known, is a name of the right sort
abbrev pub fits_use : List Phrase → Phrase → Use → Bool
fits_use ps p u = elim (means ps p.around.block u.name) [ None ↦ fits_named u.name u.usage | Some k ↦ fits_declared ps p u.usage (sort_at ps k) ]

-- rule 603
unfoldable pub misused : List Phrase → Phrase → Option Place
misused ps p = option_and_then (λ (u : Use). unless (fits_use ps p u) u.place) (used p.node)
