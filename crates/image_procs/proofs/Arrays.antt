-- The names of a right image's report are those of arrays that keep the limit.
use Rattle.std.specs.Prelude.{◌≡◌, ℕ, zero, suc, ◌*◌, ◌==◌, ◌≤◌, nat_le, Bool, true, false, ◌&&◌, List, [], ◌∷◌, All, Some, slice_get, if◌then◌else◌}
use Rattle.std.specs.List.{list_all, sum_by}
use Rattle.std.proofs.Common.{refl, arith}
use Rattle.std.proofs.lemmas.Bool.{leb-true, and_parts}
use Rattle.std.proofs.lemmas.List.Elements.{All-nil, All-cons}
use Rattle.std.proofs.lemmas.Nat.{mul-le}
use Rattle.hal_values.specs.declared.tables.EventStart.{EventStart}
use Rattle.hal_values.specs.declared.tables.ReportName.{ReportName}
use Rattle.hal_values.specs.ReportElements.{size_of}
use Rattle.hal_code.specs.declared.choice.Choice.{Choice}
use Rattle.hal_code.specs.declared.image.ImageParts.{ImageParts}
use Rattle.hal_code.specs.Memory.{spread_limit}
use Rattle.hal_code.specs.Operands.{is_known, events_of}
use Rattle.hal_code.specs.Right.{IsRight, limits_right, cell_right, place_right, processes_right, shapes_right, views_right, postfix_right, line_count, name_right, names_right}
use Rattle.hal_sound_code.proofs.Rights.{Whole, whole}
use Rattle.hal_right_values.proofs.Rooms.{sum_at}
use Rattle.hal_report.specs.Arrays.{IsArray, AreArrays}

names_of : (limits cells events common processes shapes views expressions names : Bool) → (((limits && cells) && (events && common)) && ((processes && shapes) && (views && (expressions && names)))) ≡ true → names ≡ true
names_of limits cells events common processes shapes views expressions names e =
    (and_parts expressions names (and_parts views (expressions && names) (and_parts (processes && shapes) (views && (expressions && names)) (and_parts ((limits && cells) && (events && common)) _ e).1).1).1).1

names_whole : (image : ImageParts) → Whole image → names_right image ≡ true
names_whole image all =
    names_of (limits_right image) (list_all cell_right image.cells) (list_all (λ (one : Choice EventStart). is_known one) image.events) (list_all (place_right image) image.common) (processes_right image 0 image.processes) (shapes_right image) (views_right image)
    (list_all (postfix_right (events_of image) 0) image.expressions) (names_right image) all.rows

-- an array has no more elements than all its copies
of_test : (copies n : ℕ) (b : Bool) → (copies == 0) ≡ b → n ≤ (if b then 1 else copies) * n
of_test copies n true e = omega arith
of_test zero n false e = absurd (cc)
of_test (suc m) n false e = below (mul-le 1 n (suc m) n (omega arith) (omega arith))
  where
    below : 1 * n ≤ suc m * n → n ≤ suc m * n
    below h = omega (arith, h)

of_copies : (copies n : ℕ) → n ≤ (if copies == 0 then 1 else copies) * n
of_copies copies n = of_test copies n (copies == 0) refl

few_lines : (image : ImageParts) → Whole image → sum_by line_count image.names ≤ spread_limit
few_lines image all = leb-true (sum_by line_count image.names) spread_limit (and_parts (nat_le (sum_by line_count image.names) spread_limit) (list_all (name_right image) image.names) (names_whole image all)).0

all_from : {T : Type 0} (P : T → Type 0) (xs : List T) → ((n : ℕ) (x : T) → slice_get xs n ≡ Some x → P x) → All P xs
all_from P [] each = All-nil P
all_from P (x ∷ xs) each = All-cons P x xs (each zero x refl) (all_from P xs (λ n y e. each (suc n) y e))

pub arrays_right : (image : ImageParts) → IsRight image → AreArrays image.names
arrays_right image right =
    all_from (λ (named : ReportName). IsArray named.dimensions) image.names
    (λ n named e. chain (size_of named.dimensions) (line_count named) (sum_by line_count image.names) (of_copies named.copies (size_of named.dimensions)) (sum_at line_count 0 image.names n named e) (few_lines image (whole image right)))
  where
    chain : (a b c : ℕ) → a ≤ b → b ≤ c → c ≤ spread_limit → a ≤ 4294967295
    chain a b c one two three = omega (arith, one, two, three)
