-- The lock groups of UPDATE blocks, a bit for each.
use Rattle.std.specs.Prelude.{ℕ, zero, suc, ◌+◌, ◌^◌, ◌==◌, Bool, true, false, ◌&&◌, ◌||◌, List, Some, None, slice_get, if◌then◌else◌}
use Rattle.std.specs.Option.{option_and_then}
use Rattle.std.specs.List.{list_any}
use Rattle.hal_phrases.specs.Phrases.{Phrase}
use Rattle.hal_scope.specs.declared.used.Use.{Use}
use Rattle.hal_scope.specs.Sorts.{used}
use Rattle.hal_constants.specs.Known.{Known}
use Rattle.hal_meaning.specs.Bodies.{meant, callee, reaches}
use Rattle.hal_meaning.specs.Places.{Storing, InCells, ByReference, Unstored, storing}

-- how the data are stored that a phrase names
abbrev pub named_storing : List Phrase → Known → Phrase → Storing
named_storing ps vs p =
    elim (option_and_then (slice_get ps) (option_and_then (λ (u : Use). meant ps p.around.block u.name) (used p.node))) [ None ↦ Unstored | Some d ↦ storing ps vs d d.node ]

-- whether data that are stored so are locked by this group
abbrev pub is_locked_by : ℕ → Storing → Bool
is_locked_by group (InCells g) = g == group
is_locked_by group other = false

-- whether they are plain shared data or an ASSIGN parameter
abbrev pub is_plain : Storing → Bool
is_plain (InCells zero) = true
is_plain ByReference = true
is_plain other = false

-- whether a phrase stands in the UPDATE block with this number
abbrev pub is_inside : ℕ → Phrase → Bool
is_inside u p = elim p.around.update [ None ↦ false | Some k ↦ k == u ]

-- whether a block that the UPDATE block with this number calls, directly or through others, has this home
abbrev pub is_called_in : List Phrase → ℕ → ℕ → Bool
is_called_in ps u home = list_any (λ (p : Phrase). is_inside u p && elim (callee ps p) [ None ↦ false | Some q ↦ reaches ps q home ]) ps

-- whether this group is one of the UPDATE block with this number: data of the group are named in it; of group 0, also in blocks that it calls
abbrev pub has_group : List Phrase → Known → ℕ → ℕ → Bool
has_group ps vs u zero = list_any (λ (p : Phrase). (is_inside u p || is_called_in ps u p.around.home) && is_plain (named_storing ps vs p)) ps
has_group ps vs u (suc n) = list_any (λ (p : Phrase). is_inside u p && is_locked_by (suc n) (named_storing ps vs p)) ps

-- the bits of the groups below this one
abbrev pub group_bits : List Phrase → Known → ℕ → ℕ → ℕ
group_bits ps vs u zero = 0
group_bits ps vs u (suc n) = (if has_group ps vs u n then 2 ^ n else 0) + group_bits ps vs u n

-- the groups of the UPDATE block with this number
abbrev pub groups_of : List Phrase → Known → ℕ → ℕ
groups_of ps vs u = group_bits ps vs u 16
