-- Bytes that choose are read as they are spelled.
use Rattle.std.proofs.Common.{◌≡◌, ℕ, zero, suc, ◌+◌, ◌^◌, ◌<◌, ◌≤◌, Bool, true, false, List, [], ◌∷◌, ◌++◌, length, Option, Some, None, refl, sym, ap, subst, ◌∙◌, arith}
use Rattle.std.specs.Prelude.{slice_get}
use Rattle.hal_values.specs.declared.tables.EventStart.{EventStart}
use Rattle.hal_values.specs.declared.tables.EventStart.TheVariants as event
use Rattle.hal_operations.specs.declared.operation.Op1.{Op1}
use Rattle.hal_operations.specs.declared.operation.Op1.TheVariants as op1
use Rattle.hal_operations.specs.declared.operation.Op2.{Op2}
use Rattle.hal_operations.specs.declared.operation.Op2.TheVariants as op2
use Rattle.hal_code.specs.declared.choice.Choice.{Choice}
use Rattle.hal_code.specs.declared.choice.Choice.TheVariants as choice
use Rattle.hal_code.specs.declared.operand.EventChange.{EventChange}
use Rattle.hal_code.specs.declared.operand.EventChange.TheVariants as change
use Rattle.hal_code.specs.declared.operand.Places.{Places}
use Rattle.hal_code.specs.declared.operand.Places.TheVariants as places
use Rattle.hal_code.specs.declared.operand.Response.{Response}
use Rattle.hal_code.specs.declared.operand.Response.TheVariants as response
use Rattle.hal_code.specs.declared.row.ResultKind.{ResultKind}
use Rattle.hal_code.specs.declared.row.ResultKind.TheVariants as result
use Rattle.hal_object.specs.Choices.{choice_byte, choice_bytes, FitsChoice, start_code, result_code, places_code, response_code, change_code, flag_code, op1_code, op2_code}
use Rattle.hal_object.specs.Fields.{byte_at}
use Rattle.hal_object.specs.Reading.{choice_of, choice_at, all_starts, all_results, all_places, all_responses, all_changes, all_flags, all_op1, all_op2}
use Rattle.hal_object.proofs.ReadingLaws.{Reads, byte_reads, made_takes, made_again, answered}

-- the numbers of a list go up from this one
abbrev IsNumbered : {A : Type 0} → (A → ℕ) → ℕ → List A → Type 0
IsNumbered code k [] = Unit {0}
IsNumbered code k (a ∷ all) = (code a ≡ k) × IsNumbered code (suc k) all

at_number : {A : Type 0} (code : A → ℕ) (k : ℕ) (all : List A) → IsNumbered code k all → (byte : ℕ) (a : A) → slice_get all byte ≡ Some a → code a ≡ k + byte
at_number code k [] numbered byte a e = absurd cc
at_number code k (x ∷ all) numbered zero a e = let same : x ≡ a = cc in subst (λ y. code y ≡ k + 0) same (numbered.0 ∙ omega arith)
at_number code k (x ∷ all) numbered (suc byte) a e = at_number code (suc k) all numbered.1 byte a e ∙ omega arith

past_all : {A : Type 0} (all : List A) (byte : ℕ) → slice_get all byte ≡ None → length all ≤ byte
past_all [] byte e = omega arith
past_all (x ∷ all) zero e = absurd cc
past_all (x ∷ all) (suc byte) e = let less = past_all all byte e in omega (arith, less)

none_past : {A : Type 0} (all : List A) (byte : ℕ) → length all ≤ byte → slice_get all byte ≡ None
none_past [] byte le = refl
none_past (x ∷ all) zero le = absurd (omega (arith, le))
none_past (x ∷ all) (suc byte) le = none_past all byte (omega (arith, le))

-- what is chosen by what stands at the byte
abbrev chosen : {A : Type 0} → ℕ → Option A → Choice A
chosen byte o = elim o [ None ↦ choice.Other byte | Some a ↦ choice.Known a ]

byte_again : {A : Type 0} (code : A → ℕ) (all : List A) → IsNumbered code 0 all → (byte : ℕ) → choice_byte code (choice_of all byte) ≡ byte
byte_again {A} code all numbered byte = by_place (slice_get all byte) refl
  where
    by_place : (o : Option A) → slice_get all byte ≡ o → choice_byte code (choice_of all byte) ≡ byte
    by_place None e = ap (λ (p : Option A). choice_byte code (chosen byte p)) e
    by_place (Some a) e = let zero_more : 0 + byte ≡ byte = omega arith in ap (λ (p : Option A). choice_byte code (chosen byte p)) e ∙ at_number code 0 all numbered byte a e ∙ zero_more

fits_again : {A : Type 0} (all : List A) (byte : ℕ) → byte < 2 ^ 8 → FitsChoice (length all) (choice_of all byte)
fits_again {A} all byte lt = by_place (slice_get all byte) refl
  where
    by_place : (o : Option A) → slice_get all byte ≡ o → FitsChoice (length all) (choice_of all byte)
    by_place None e = subst (λ (p : Option A). FitsChoice (length all) (chosen byte p)) (sym e) (past_all all byte e, lt)
    by_place (Some a) e = subst (λ (p : Option A). FitsChoice (length all) (chosen byte p)) (sym e) tt

choice_again : {A : Type 0} (code : A → ℕ) (all : List A) → ((a : A) → slice_get all (code a) ≡ Some a) → (c : Choice A) → FitsChoice (length all) c → choice_of all (choice_byte code c) ≡ c
choice_again {A} code all there (choice.Known a) f = ap (λ (p : Option A). chosen (code a) p) (there a)
choice_again {A} code all there (choice.Other byte) f = ap (λ (p : Option A). chosen byte p) (none_past all byte f.0)

choice_below : {A : Type 0} (code : A → ℕ) (all : List A) → ((a : A) → code a < 2 ^ 8) → (c : Choice A) → FitsChoice (length all) c → choice_byte code c < 2 ^ 8
choice_below code all low (choice.Known a) f = low a
choice_below code all low (choice.Other byte) f = f.1

choice_reads : {A : Type 0} (code : A → ℕ) (all : List A) → IsNumbered code 0 all → ((a : A) → slice_get all (code a) ≡ Some a) → ((a : A) → code a < 2 ^ 8)
    → Reads (choice_at all) (choice_bytes code) (FitsChoice (length all))
choice_reads {A} code all numbered there low = record {
  takes = made_takes (choice_of all) byte_at (λ b. b ∷ []) (choice_bytes code) (λ b. b < 2 ^ 8) (FitsChoice (length all)) (λ b f. ap (λ (n : ℕ). n ∷ []) (byte_again code all numbered b)) (λ b f. fits_again all b f) byte_reads;
  again = λ c rest f. made_again (choice_of all) byte_at (choice_bytes code c ++ rest) (choice_byte code c) rest (byte_reads.again (choice_byte code c) rest (choice_below code all low c f)) ∙ ap (λ (d : Choice A). answered d rest) (choice_again code all there c f);
}

start_there : (a : EventStart) → slice_get all_starts (start_code a) ≡ Some a
start_there event.Unlatched = refl
start_there (event.Latched false) = refl
start_there (event.Latched true) = refl

start_low : (a : EventStart) → start_code a < 2 ^ 8
start_low event.Unlatched = omega arith
start_low (event.Latched false) = omega arith
start_low (event.Latched true) = omega arith

pub starts_read : Reads (choice_at all_starts) (choice_bytes start_code) (FitsChoice 3)
starts_read = choice_reads start_code all_starts (refl, (refl, (refl, tt))) start_there start_low

result_there : (a : ResultKind) → slice_get all_results (result_code a) ≡ Some a
result_there result.Nothing = refl
result_there result.Integer = refl
result_there result.Bits = refl
result_there result.Text = refl

result_low : (a : ResultKind) → result_code a < 2 ^ 8
result_low result.Nothing = omega arith
result_low result.Integer = omega arith
result_low result.Bits = omega arith
result_low result.Text = omega arith

pub results_read : Reads (choice_at all_results) (choice_bytes result_code) (FitsChoice 4)
results_read = choice_reads result_code all_results (refl, (refl, (refl, (refl, tt)))) result_there result_low

places_there : (a : Places) → slice_get all_places (places_code a) ≡ Some a
places_there places.One = refl
places_there places.To = refl
places_there places.At = refl

places_low : (a : Places) → places_code a < 2 ^ 8
places_low places.One = omega arith
places_low places.To = omega arith
places_low places.At = omega arith

pub places_read : Reads (choice_at all_places) (choice_bytes places_code) (FitsChoice 3)
places_read = choice_reads places_code all_places (refl, (refl, (refl, tt))) places_there places_low

response_there : (a : Response) → slice_get all_responses (response_code a) ≡ Some a
response_there response.System = refl
response_there response.Ignore = refl
response_there response.Statement = refl

response_low : (a : Response) → response_code a < 2 ^ 8
response_low response.System = omega arith
response_low response.Ignore = omega arith
response_low response.Statement = omega arith

pub responses_read : Reads (choice_at all_responses) (choice_bytes response_code) (FitsChoice 3)
responses_read = choice_reads response_code all_responses (refl, (refl, (refl, tt))) response_there response_low

change_there : (a : EventChange) → slice_get all_changes (change_code a) ≡ Some a
change_there change.Nothing = refl
change_there change.Signal = refl
change_there change.Set = refl
change_there change.Reset = refl

change_low : (a : EventChange) → change_code a < 2 ^ 8
change_low change.Nothing = omega arith
change_low change.Signal = omega arith
change_low change.Set = omega arith
change_low change.Reset = omega arith

pub changes_read : Reads (choice_at all_changes) (choice_bytes change_code) (FitsChoice 4)
changes_read = choice_reads change_code all_changes (refl, (refl, (refl, (refl, tt)))) change_there change_low

flag_there : (a : Bool) → slice_get all_flags (flag_code a) ≡ Some a
flag_there false = refl
flag_there true = refl

flag_low : (a : Bool) → flag_code a < 2 ^ 8
flag_low false = omega arith
flag_low true = omega arith

pub flags_read : Reads (choice_at all_flags) (choice_bytes flag_code) (FitsChoice 2)
flags_read = choice_reads flag_code all_flags (refl, (refl, tt)) flag_there flag_low

op1_there : (a : Op1) → slice_get all_op1 (op1_code a) ≡ Some a
op1_there op1.Minus = refl
op1_there op1.Abs = refl
op1_there op1.Signum = refl
op1_there op1.Odd = refl
op1_there op1.Not = refl
op1_there op1.Length = refl
op1_there op1.Trim = refl
op1_there op1.Character = refl
op1_there op1.Integer = refl
op1_there op1.Bit = refl

op1_low : (a : Op1) → op1_code a < 2 ^ 8
op1_low op1.Minus = omega arith
op1_low op1.Abs = omega arith
op1_low op1.Signum = omega arith
op1_low op1.Odd = omega arith
op1_low op1.Not = omega arith
op1_low op1.Length = omega arith
op1_low op1.Trim = omega arith
op1_low op1.Character = omega arith
op1_low op1.Integer = omega arith
op1_low op1.Bit = omega arith

pub op1_reads : Reads (choice_at all_op1) (choice_bytes op1_code) (FitsChoice 10)
op1_reads = choice_reads op1_code all_op1 (refl, (refl, (refl, (refl, (refl, (refl, (refl, (refl, (refl, (refl, tt)))))))))) op1_there op1_low

op2_there : (a : Op2) → slice_get all_op2 (op2_code a) ≡ Some a
op2_there op2.Plus = refl
op2_there op2.Minus = refl
op2_there op2.Product = refl
op2_there op2.Power = refl
op2_there op2.Div = refl
op2_there op2.Remainder = refl
op2_there op2.Mod = refl
op2_there op2.Shl = refl
op2_there op2.Shr = refl
op2_there op2.And = refl
op2_there op2.Or = refl
op2_there op2.Xor = refl
op2_there op2.Cat = refl
op2_there op2.Equal = refl
op2_there op2.NotEqual = refl
op2_there op2.Less = refl
op2_there op2.Greater = refl
op2_there op2.LessOrEqual = refl
op2_there op2.GreaterOrEqual = refl
op2_there op2.Index = refl
op2_there op2.Ljust = refl
op2_there op2.Rjust = refl

op2_low : (a : Op2) → op2_code a < 2 ^ 8
op2_low op2.Plus = omega arith
op2_low op2.Minus = omega arith
op2_low op2.Product = omega arith
op2_low op2.Power = omega arith
op2_low op2.Div = omega arith
op2_low op2.Remainder = omega arith
op2_low op2.Mod = omega arith
op2_low op2.Shl = omega arith
op2_low op2.Shr = omega arith
op2_low op2.And = omega arith
op2_low op2.Or = omega arith
op2_low op2.Xor = omega arith
op2_low op2.Cat = omega arith
op2_low op2.Equal = omega arith
op2_low op2.NotEqual = omega arith
op2_low op2.Less = omega arith
op2_low op2.Greater = omega arith
op2_low op2.LessOrEqual = omega arith
op2_low op2.GreaterOrEqual = omega arith
op2_low op2.Index = omega arith
op2_low op2.Ljust = omega arith
op2_low op2.Rjust = omega arith

pub op2_reads : Reads (choice_at all_op2) (choice_bytes op2_code) (FitsChoice 22)
op2_reads = choice_reads op2_code all_op2 (refl, (refl, (refl, (refl, (refl, (refl, (refl, (refl, (refl, (refl, (refl, (refl, (refl, (refl, (refl, (refl, (refl, (refl, (refl, (refl, (refl, (refl, tt)))))))))))))))))))))) op2_there op2_low
