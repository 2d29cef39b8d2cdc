-- The kinds of operands, and which operations take them.
use Rattle.std.specs.Prelude.{ℕ, ◌==◌, nat_le, Bool, true, false, ◌&&◌, List, [], ◌∷◌, Option, Some, None, if◌then◌else◌}
use Rattle.hal_values.specs.declared.value.Kind.{Kind}
use Rattle.hal_values.specs.declared.value.Kind.TheVariants as kind
use Rattle.hal_values.specs.declared.value.Value.{Value}
use Rattle.hal_operations.specs.declared.operation.Op1.{Op1}
use Rattle.hal_operations.specs.declared.operation.Op1.TheVariants as op1
use Rattle.hal_operations.specs.declared.operation.Op2.{Op2}
use Rattle.hal_operations.specs.declared.operation.Op2.TheVariants as op2
use Rattle.hal_operations.specs.Values.{is_comparison}
use Rattle.hal_states.specs.OfKinds.{is_of}
use Rattle.hal_code.specs.declared.row.ResultKind.{ResultKind}
use Rattle.hal_code.specs.declared.row.ResultKind.TheVariants as result

-- what an operand is: an integer, bits, a text, the address of a cell of a kind, or that of the cells of a shape
pub data Sort : Type 0 where
  I B T : Sort
  A : (kind : Kind) → Sort
  R : (shape : ℕ) → Sort

-- the sort of the values of a kind
abbrev pub sort_of : Kind → Sort
sort_of kind.Single = I
sort_of kind.Double = I
sort_of (kind.Bits n) = B
sort_of (kind.Text n) = T

-- two kinds are the same
abbrev pub same_kind : Kind → Kind → Bool
same_kind kind.Single kind.Single = true
same_kind kind.Double kind.Double = true
same_kind (kind.Bits m) (kind.Bits n) = m == n
same_kind (kind.Text m) (kind.Text n) = m == n
same_kind one other = false

abbrev pub same_kinds : List Kind → List Kind → Bool
same_kinds [] [] = true
same_kinds (k ∷ ks) (l ∷ ls) = same_kind k l && same_kinds ks ls
same_kinds ks ls = false

-- a string of bits has 1 to 32, and a text 1 to 255 bytes
abbrev pub is_kind : Kind → Bool
is_kind kind.Single = true
is_kind kind.Double = true
is_kind (kind.Bits n) = nat_le 1 n && nat_le n 32
is_kind (kind.Text n) = nat_le 1 n && nat_le n 255

-- a kind in its range, with an initial value of it
abbrev pub is_initial : Kind → Value → Bool
is_initial k v = is_kind k && is_of k v

-- the sort that an operation with one operand gives, where it takes this one
abbrev pub one_gives : Op1 → Sort → Option Sort
one_gives op1.Minus I = Some I
one_gives op1.Abs I = Some I
one_gives op1.Signum I = Some I
one_gives op1.Odd I = Some B
one_gives op1.Not B = Some B
one_gives op1.Length T = Some I
one_gives op1.Trim T = Some T
one_gives op1.Character I = Some T
one_gives op1.Character B = Some T
one_gives op1.Character T = Some T
one_gives op1.Integer B = Some I
one_gives op1.Integer T = Some I
one_gives op1.Bit I = Some B
one_gives op other = None

-- of two integers
abbrev pub integers_give : Op2 → Option Sort
integers_give op2.And = None
integers_give op2.Or = None
integers_give op2.Xor = None
integers_give op2.Cat = None
integers_give op2.Index = None
integers_give op2.Ljust = None
integers_give op2.Rjust = None
integers_give op = Some (if is_comparison op then B else I)

-- of two strings of bits
abbrev pub strings_give : Op2 → Option Sort
strings_give op2.And = Some B
strings_give op2.Or = Some B
strings_give op2.Xor = Some B
strings_give op2.Cat = Some B
strings_give op2.Equal = Some B
strings_give op2.NotEqual = Some B
strings_give op = None

-- of two texts
abbrev pub texts_give : Op2 → Option Sort
texts_give op2.Cat = Some T
texts_give op2.Index = Some I
texts_give op = if is_comparison op then Some B else None

-- of a text and an integer
abbrev pub text_and_integer_give : Op2 → Option Sort
text_and_integer_give op2.Cat = Some T
text_and_integer_give op2.Ljust = Some T
text_and_integer_give op2.Rjust = Some T
text_and_integer_give op = None

-- of an integer and a text
abbrev pub integer_and_text_give : Op2 → Option Sort
integer_and_text_give op2.Cat = Some T
integer_and_text_give op = None

-- the sort that an operation with two operands gives, where it takes these, the left one first
abbrev pub two_give : Op2 → Sort → Sort → Option Sort
two_give op I I = integers_give op
two_give op B B = strings_give op
two_give op T T = texts_give op
two_give op T I = text_and_integer_give op
two_give op I T = integer_and_text_give op
two_give op one other = None

-- a cell of the kind takes a value of the sort: a text an integer too
abbrev pub takes : Kind → Sort → Bool
takes kind.Single I = true
takes kind.Double I = true
takes (kind.Bits n) B = true
takes (kind.Text n) I = true
takes (kind.Text n) T = true
takes k other = false

-- a part of a cell of the kind, which holds a value of the first sort, takes one of the second
abbrev pub takes_part : Kind → Sort → Sort → Bool
takes_part (kind.Bits n) B B = true
takes_part (kind.Text n) T I = true
takes_part (kind.Text n) T T = true
takes_part k old new = false

-- the sort of what a block gives
abbrev pub sort_of_result : ResultKind → Option Sort
sort_of_result result.Nothing = None
sort_of_result result.Integer = Some I
sort_of_result result.Bits = Some B
sort_of_result result.Text = Some T
