-- Values that are made to be of a kind.
use Rattle.std.specs.Prelude.{◌^◌, ◌==◌, nat_le, nat_lt, length, Bool, false, not, ◌&&◌, [], ℤ, pos, negsuc, int_lt, if◌then◌else◌}
use Rattle.hal_values.specs.declared.value.Kind.{Kind}
use Rattle.hal_values.specs.declared.value.Kind.TheVariants as kind
use Rattle.hal_values.specs.declared.value.Value.{Value}
use Rattle.hal_values.specs.declared.value.Value.TheVariants as value
use Rattle.hal_values.specs.Answers.{Answered, Told}

-- zero, zeros or the empty text
abbrev pub nothing : Kind → Value
nothing kind.Single = value.Int (pos 0)
nothing kind.Double = value.Int (pos 0)
nothing (kind.Bits n) = value.Bits n 0
nothing (kind.Text n) = value.Text []

-- whether an integer lies within bounds
abbrev pub lies_within : ℤ → ℤ → ℤ → Bool
lies_within low high a = not (int_lt a low) && not (int_lt high a)

-- whether a value is of the kind
unfoldable pub is_of : Kind → Value → Bool
is_of kind.Single (value.Int a) = lies_within (negsuc 32767) (pos 32767) a
is_of kind.Double (value.Int a) = lies_within (negsuc 2147483647) (pos 2147483647) a
is_of (kind.Bits n) (value.Bits len word) = (len == n) && nat_lt word (2 ^ n)
is_of (kind.Text n) (value.Text text) = nat_le (length text) n
is_of k v = false

-- the value, where it is of the kind. No other comes where a set is accepted
abbrev pub of_kind : Kind → Value → Value
of_kind k v = if is_of k v then v else nothing k

-- the value that an answer tells
abbrev pub told : Kind → Answered → Value
told k (Told v) = of_kind k v
told k other = nothing k
