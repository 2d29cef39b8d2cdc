-- Whether the values behind CONSTANT are the same in each cell. Where there are more of them than cells that a set may have, another rule is broken, and they don't differ.
use Rattle.std.specs.Prelude.{ℕ, zero, suc, ◌==◌, ◌%◌, max, int_lt, Bool, true, false, not, ◌&&◌, List, [], ◌∷◌, length, Option, Some, None, slice_get, bytes_eq, if◌then◌else◌}
use Rattle.std.specs.Option.{option_and_then}
use Rattle.hal_grammar.specs.Declarations.{Initial, Initials, Attribute}
use Rattle.hal_phrases.specs.Phrases.{Phrase}
use Rattle.hal_values.specs.declared.value.Kind.{Kind}
use Rattle.hal_values.specs.declared.value.Value.{Value}
use Rattle.hal_values.specs.declared.value.Value.TheVariants as value
use Rattle.hal_constants.specs.Known.{Known, fitted}
use Rattle.hal_templates.specs.Counts.{is_few}
use Rattle.hal_templates.specs.Kinds.{kinds_of}
use Rattle.hal_templates.specs.Leaves.{all_leaves, count_of_all, leaf_value}
use Rattle.hal_templates.specs.Traits.{constants_given}

-- two values
unfoldable pub same_value : Value → Value → Bool
same_value (value.Int a) (value.Int b) = not (int_lt a b) && not (int_lt b a)
same_value (value.Bits m x) (value.Bits n y) = (m == n) && (x == y)
same_value (value.Text s) (value.Text t) = bytes_eq s t
same_value v w = false

-- the same, as far as both are known
unfoldable pub may_be_value : Option Value → Option Value → Bool
may_be_value (Some v) (Some w) = same_value v w
may_be_value v w = true

-- the kind of the cell with this number: those of a copy come again in the next one
abbrev pub kind_at : List (Option Kind) → ℕ → Option Kind
kind_at kinds k = option_and_then (λ (kind : Option Kind). kind) (slice_get kinds (k % length kinds))

-- what falls to this cell: one value falls to all of them
abbrev pub leaf_at : List Initial → ℕ → Option Initial
leaf_at leaves k = slice_get leaves (if length leaves == 1 then 0 else k)

-- what the cell holds, for values in this phrase
abbrev pub held_at : List Phrase → Known → Phrase → List (Option Kind) → List Initial → ℕ → Option Value
held_at ps vs p kinds leaves k = option_and_then (λ (leaf : Initial). fitted (kind_at kinds k) (leaf_value ps vs p leaf)) (leaf_at leaves k)

-- whether values in two phrases are the same in this cell
abbrev pub same_at : List Phrase → Known → List (Option Kind) → Phrase → List Initial → Phrase → List Initial → ℕ → Bool
same_at ps vs kinds p xs q ys k = may_be_value (held_at ps vs p kinds xs k) (held_at ps vs q kinds ys k)

-- whether they are in each of the first cells
unfoldable pub same_below : List Phrase → Known → List (Option Kind) → Phrase → List Initial → Phrase → List Initial → ℕ → Bool
same_below ps vs kinds p xs q ys zero = true
same_below ps vs kinds p xs q ys (suc k) = same_at ps vs kinds p xs q ys k && same_below ps vs kinds p xs q ys k

-- in all cells
abbrev pub same_leaves : List Phrase → Known → List (Option Kind) → Phrase → List Initial → Phrase → List Initial → Bool
same_leaves ps vs kinds p xs q ys = same_below ps vs kinds p xs q ys (max (length kinds) (max (length xs) (length ys)))

-- two lists, for cells of these kinds
abbrev pub same_lists : List Phrase → Known → List (Option Kind) → Phrase → Initials → Phrase → Initials → Bool
same_lists ps vs kinds p xs q ys = if is_few (count_of_all xs) && is_few (count_of_all ys) then same_leaves ps vs kinds p (all_leaves xs) q (all_leaves ys) else true

-- the same where the kinds are known
unfoldable pub same_in : List Phrase → Known → Option (List (Option Kind)) → Phrase → Initials → Phrase → Initials → Bool
same_in ps vs None p xs q ys = true
same_in ps vs (Some kinds) p xs q ys = same_lists ps vs kinds p xs q ys

-- and where there are lists
unfoldable pub same_given : List Phrase → Known → Option (List (Option Kind)) → Phrase → Option Initials → Phrase → Option Initials → Bool
same_given ps vs kinds p (Some xs) q (Some ys) = same_in ps vs kinds p xs q ys
same_given ps vs kinds p xs q ys = true

-- data that two phrases declare, with these attributes
abbrev pub same_constants : List Phrase → Known → Phrase → List Attribute → List Attribute → Phrase → List Attribute → List Attribute → Bool
same_constants ps vs p common own q other_common other_own =
    same_given ps vs (kinds_of ps vs q other_common other_own) p (constants_given common own) q (constants_given other_common other_own)
