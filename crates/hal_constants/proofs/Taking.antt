-- What is found takes what it is said to take.
use Rattle.std.proofs.Common.{rules, ◌≡◌, ◌≤◌, ◌<◌, ◌^◌, ℕ, nat_le, nat_lt, Bool, true, false, ◌&&◌, refl, arith}
use Rattle.std.proofs.lemmas.Bool.{leb-true, ltb-true}
use Rattle.hal_values.specs.declared.value.Kind.{Kind}
use Rattle.hal_values.specs.declared.value.Kind.TheVariants as kind
use Rattle.hal_values.specs.declared.value.Value.{Value}
use Rattle.hal_values.specs.declared.value.Value.TheVariants as value
use Rattle.hal_operations.specs.declared.operation.Op1.{Op1}
use Rattle.hal_operations.specs.declared.operation.Op1.TheVariants as op1
use Rattle.hal_operations.specs.declared.operation.Op2.{Op2}
use Rattle.hal_operations.specs.declared.operation.Op2.TheVariants as op2
use Rattle.hal_operations.specs.Operands.{IsString, TakesInteger, TakesString, TakesText, Takes, TakesIntegers, TakesStrings, TakesTexts, TakesTextAndInteger, TakesIntegerAndText, TakesBoth, IsStorable, HasComponents}
use Rattle.hal_constants.specs.Operands.{is_string, takes_integer, takes_string, takes_text, takes_one, takes_integers, takes_strings, takes_texts, takes_text_and_integer, takes_integer_and_text, takes_two, is_storable, has_components}

both_true : (a b : Bool) → (a && b) ≡ true → (a ≡ true) × (b ≡ true)
both_true true b e = (refl, e)
both_true false b e = absurd (cc)

string : (len word : ℕ) → is_string len word ≡ true → IsString len word
string len word e =
    let first = both_true _ _ e in
    let second = both_true _ _ first.1 in
    (leb-true 1 len first.0, leb-true len 32 second.0, ltb-true word (2 ^ len) second.1)

integer : (op : Op1) → takes_integer op ≡ true → TakesInteger op
integer op1.Minus e = tt
integer op1.Abs e = tt
integer op1.Signum e = tt
integer op1.Odd e = tt
integer op1.Not e = absurd (cc)
integer op1.Length e = absurd (cc)
integer op1.Trim e = absurd (cc)
integer op1.Character e = tt
integer op1.Integer e = absurd (cc)
integer op1.Bit e = tt

bits : (op : Op1) → takes_string op ≡ true → TakesString op
bits op1.Minus e = absurd (cc)
bits op1.Abs e = absurd (cc)
bits op1.Signum e = absurd (cc)
bits op1.Odd e = absurd (cc)
bits op1.Not e = tt
bits op1.Length e = absurd (cc)
bits op1.Trim e = absurd (cc)
bits op1.Character e = tt
bits op1.Integer e = tt
bits op1.Bit e = absurd (cc)

text : (op : Op1) → takes_text op ≡ true → TakesText op
text op1.Minus e = absurd (cc)
text op1.Abs e = absurd (cc)
text op1.Signum e = absurd (cc)
text op1.Odd e = absurd (cc)
text op1.Not e = absurd (cc)
text op1.Length e = tt
text op1.Trim e = tt
text op1.Character e = tt
text op1.Integer e = tt
text op1.Bit e = absurd (cc)

pub taken : (op : Op1) (v : Value) → takes_one op v ≡ true → Takes op v
unfolding takes_one
taken op (value.Int a) e = integer op e
taken op (value.Bits len word) e = (bits op (both_true _ _ e).0, string len word (both_true _ _ e).1)
taken op (value.Text x) e = text op e

integers : (op : Op2) → takes_integers op ≡ true → TakesIntegers op
integers op2.Plus e = tt
integers op2.Minus e = tt
integers op2.Product e = tt
integers op2.Power e = tt
integers op2.Div e = tt
integers op2.Remainder e = tt
integers op2.Mod e = tt
integers op2.Shl e = tt
integers op2.Shr e = tt
integers op2.And e = absurd (cc)
integers op2.Or e = absurd (cc)
integers op2.Xor e = absurd (cc)
integers op2.Cat e = absurd (cc)
integers op2.Equal e = tt
integers op2.NotEqual e = tt
integers op2.Less e = tt
integers op2.Greater e = tt
integers op2.LessOrEqual e = tt
integers op2.GreaterOrEqual e = tt
integers op2.Index e = absurd (cc)
integers op2.Ljust e = absurd (cc)
integers op2.Rjust e = absurd (cc)

strings : (op : Op2) → takes_strings op ≡ true → TakesStrings op
strings op2.Plus e = absurd (cc)
strings op2.Minus e = absurd (cc)
strings op2.Product e = absurd (cc)
strings op2.Power e = absurd (cc)
strings op2.Div e = absurd (cc)
strings op2.Remainder e = absurd (cc)
strings op2.Mod e = absurd (cc)
strings op2.Shl e = absurd (cc)
strings op2.Shr e = absurd (cc)
strings op2.And e = tt
strings op2.Or e = tt
strings op2.Xor e = tt
strings op2.Cat e = tt
strings op2.Equal e = absurd (cc)
strings op2.NotEqual e = absurd (cc)
strings op2.Less e = absurd (cc)
strings op2.Greater e = absurd (cc)
strings op2.LessOrEqual e = absurd (cc)
strings op2.GreaterOrEqual e = absurd (cc)
strings op2.Index e = absurd (cc)
strings op2.Ljust e = absurd (cc)
strings op2.Rjust e = absurd (cc)

texts : (op : Op2) → takes_texts op ≡ true → TakesTexts op
texts op2.Plus e = absurd (cc)
texts op2.Minus e = absurd (cc)
texts op2.Product e = absurd (cc)
texts op2.Power e = absurd (cc)
texts op2.Div e = absurd (cc)
texts op2.Remainder e = absurd (cc)
texts op2.Mod e = absurd (cc)
texts op2.Shl e = absurd (cc)
texts op2.Shr e = absurd (cc)
texts op2.And e = absurd (cc)
texts op2.Or e = absurd (cc)
texts op2.Xor e = absurd (cc)
texts op2.Cat e = tt
texts op2.Equal e = absurd (cc)
texts op2.NotEqual e = absurd (cc)
texts op2.Less e = absurd (cc)
texts op2.Greater e = absurd (cc)
texts op2.LessOrEqual e = absurd (cc)
texts op2.GreaterOrEqual e = absurd (cc)
texts op2.Index e = tt
texts op2.Ljust e = absurd (cc)
texts op2.Rjust e = absurd (cc)

text_and_integer : (op : Op2) → takes_text_and_integer op ≡ true → TakesTextAndInteger op
text_and_integer op2.Plus e = absurd (cc)
text_and_integer op2.Minus e = absurd (cc)
text_and_integer op2.Product e = absurd (cc)
text_and_integer op2.Power e = absurd (cc)
text_and_integer op2.Div e = absurd (cc)
text_and_integer op2.Remainder e = absurd (cc)
text_and_integer op2.Mod e = absurd (cc)
text_and_integer op2.Shl e = absurd (cc)
text_and_integer op2.Shr e = absurd (cc)
text_and_integer op2.And e = absurd (cc)
text_and_integer op2.Or e = absurd (cc)
text_and_integer op2.Xor e = absurd (cc)
text_and_integer op2.Cat e = tt
text_and_integer op2.Equal e = absurd (cc)
text_and_integer op2.NotEqual e = absurd (cc)
text_and_integer op2.Less e = absurd (cc)
text_and_integer op2.Greater e = absurd (cc)
text_and_integer op2.LessOrEqual e = absurd (cc)
text_and_integer op2.GreaterOrEqual e = absurd (cc)
text_and_integer op2.Index e = absurd (cc)
text_and_integer op2.Ljust e = tt
text_and_integer op2.Rjust e = tt

integer_and_text : (op : Op2) → takes_integer_and_text op ≡ true → TakesIntegerAndText op
integer_and_text op2.Plus e = absurd (cc)
integer_and_text op2.Minus e = absurd (cc)
integer_and_text op2.Product e = absurd (cc)
integer_and_text op2.Power e = absurd (cc)
integer_and_text op2.Div e = absurd (cc)
integer_and_text op2.Remainder e = absurd (cc)
integer_and_text op2.Mod e = absurd (cc)
integer_and_text op2.Shl e = absurd (cc)
integer_and_text op2.Shr e = absurd (cc)
integer_and_text op2.And e = absurd (cc)
integer_and_text op2.Or e = absurd (cc)
integer_and_text op2.Xor e = absurd (cc)
integer_and_text op2.Cat e = tt
integer_and_text op2.Equal e = absurd (cc)
integer_and_text op2.NotEqual e = absurd (cc)
integer_and_text op2.Less e = absurd (cc)
integer_and_text op2.Greater e = absurd (cc)
integer_and_text op2.LessOrEqual e = absurd (cc)
integer_and_text op2.GreaterOrEqual e = absurd (cc)
integer_and_text op2.Index e = absurd (cc)
integer_and_text op2.Ljust e = absurd (cc)
integer_and_text op2.Rjust e = absurd (cc)

pub both_taken : (op : Op2) (v w : Value) → takes_two op v w ≡ true → TakesBoth op v w
unfolding takes_two
both_taken op (value.Int a) (value.Int b) e = integers op e
both_taken op (value.Int a) (value.Bits n y) e = absurd (cc)
both_taken op (value.Int a) (value.Text y) e = integer_and_text op e
both_taken op (value.Bits m x) (value.Int b) e = absurd (cc)
both_taken op (value.Bits m x) (value.Bits n y) e =
    let parts = both_true _ _ e in
    let each = both_true _ _ parts.1 in
    (strings op parts.0, string m x each.0, string n y each.1)
both_taken op (value.Bits m x) (value.Text y) e = absurd (cc)
both_taken op (value.Text x) (value.Int b) e = text_and_integer op e
both_taken op (value.Text x) (value.Bits n y) e = absurd (cc)
both_taken op (value.Text x) (value.Text y) e = texts op e

pub parted : (v : Value) → has_components v ≡ true → HasComponents v
unfolding has_components
parted (value.Int a) e = absurd (cc)
parted (value.Bits len word) e = string len word e
parted (value.Text x) e = tt

pub storable : (k : Kind) (v : Value) → is_storable k v ≡ true → IsStorable k v
unfolding is_storable
storable kind.Single (value.Int a) e = tt
storable kind.Single (value.Bits len word) e = absurd (cc)
storable kind.Single (value.Text x) e = absurd (cc)
storable kind.Double (value.Int a) e = tt
storable kind.Double (value.Bits len word) e = absurd (cc)
storable kind.Double (value.Text x) e = absurd (cc)
storable (kind.Bits n) (value.Int a) e = absurd (cc)
storable (kind.Bits n) (value.Bits len word) e =
    let first = both_true _ _ e in
    let second = both_true _ _ first.1 in
    (leb-true 1 n first.0, leb-true n 32 second.0, string len word second.1)
storable (kind.Bits n) (value.Text x) e = absurd (cc)
storable (kind.Text n) (value.Int a) e = (leb-true 1 n (both_true _ _ e).0, leb-true n 255 (both_true _ _ e).1)
storable (kind.Text n) (value.Bits len word) e = absurd (cc)
storable (kind.Text n) (value.Text x) e = (leb-true 1 n (both_true _ _ e).0, leb-true n 255 (both_true _ _ e).1)
