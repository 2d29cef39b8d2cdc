-- Whether what attributes say is the same. A size, a kind or a number that no constant tells breaks another rule, and differs from none.
use Rattle.std.specs.Prelude.{ℕ, ◌==◌, Bool, true, false, ◌&&◌, not, List, [], ◌∷◌, Option, Some, None, bytes_eq, if◌then◌else◌}
use Rattle.hal_values.specs.declared.value.Kind.{Kind}
use Rattle.hal_values.specs.declared.value.Kind.TheVariants as kind
use Rattle.hal_templates.specs.declared.traits.Traits.{Traits}

-- whether both hold, or neither does
abbrev pub both_or_neither : Bool → Bool → Bool
both_or_neither a b = if a then b else not b

-- two kinds of cells
unfoldable pub same_kind : Kind → Kind → Bool
same_kind kind.Single kind.Single = true
same_kind kind.Double kind.Double = true
same_kind (kind.Bits m) (kind.Bits n) = m == n
same_kind (kind.Text m) (kind.Text n) = m == n
same_kind k l = false

-- the same, as far as both are known
unfoldable pub may_be_kind : Option Kind → Option Kind → Bool
may_be_kind (Some k) (Some l) = same_kind k l
may_be_kind k l = true

-- two sizes, or numbers of lock groups, as far as both are known
unfoldable pub may_be_number : Option ℕ → Option ℕ → Bool
may_be_number (Some m) (Some n) = m == n
may_be_number m n = true

-- the names of two structure templates, where there are some
unfoldable pub same_template : Option (List ℕ) → Option (List ℕ) → Bool
same_template (Some name) (Some other) = bytes_eq name other
same_template None None = true
same_template one other = false

-- what two types say
abbrev pub same_type : Traits → Traits → Bool
same_type t s = both_or_neither t.typed s.typed && (both_or_neither t.event s.event && may_be_kind t.kind s.kind)

-- what two locks say
abbrev pub same_lock : Traits → Traits → Bool
same_lock t s = both_or_neither t.starred s.starred && (both_or_neither t.locked s.locked && may_be_number t.group s.group)

-- what two words say of storage, and whether there are CONSTANT values
abbrev pub same_storage : Traits → Traits → Bool
same_storage t s = both_or_neither t.latched s.latched && (both_or_neither t.automatic s.automatic && both_or_neither t.constant s.constant)

abbrev pub same_traits : Traits → Traits → Bool
same_traits t s = same_type t s && (same_lock t s && same_storage t s)
