-- Instructions as bytes: the code, and behind it the operands.
use Rattle.std.specs.Prelude.{ℕ, ◌<◌, ◌^◌, List, [], ◌∷◌, ◌++◌, length, FitsSigned}
use Rattle.std.specs.Int.{w32}
use Rattle.hal_code.specs.declared.instr.Instr.{Instr}
use Rattle.hal_code.specs.declared.instr.Instr.TheVariants as instr
use Rattle.hal_object.specs.Numbers.{in_two, in_four, in_eight, integer_bytes, text_bytes}
use Rattle.hal_object.specs.Choices.{choice_byte, choice_bytes, FitsChoice, places_code, response_code, change_code, flag_code, op1_code, op2_code}
use Rattle.hal_object.specs.Kinds.{kind_bytes, FitsKind}
use Rattle.hal_object.specs.Operands.{when_bytes, FitsWhen, round_bytes, FitsRound, limit_bytes, FitsLimit, delay_bytes, FitsDelay}

abbrev pub instr_bytes : Instr → List ℕ
instr_bytes (instr.Int number) = 1 ∷ integer_bytes number
instr_bytes (instr.Bits len word) = 2 ∷ len ∷ in_four word
instr_bytes (instr.Text text) = 3 ∷ text_bytes text
instr_bytes (instr.Cell view) = 4 ∷ in_four view
instr_bytes (instr.Whole view) = 5 ∷ in_four view
instr_bytes instr.Fetch = 6 ∷ []
instr_bytes instr.Peek = 7 ∷ []
instr_bytes instr.Keep = 8 ∷ []
instr_bytes instr.Dup = 9 ∷ []
instr_bytes instr.Drop = 10 ∷ []
instr_bytes (instr.Event e) = 11 ∷ in_two e
instr_bytes (instr.Op1 op) = 12 ∷ choice_bytes op1_code op
instr_bytes (instr.Op2 op) = 13 ∷ choice_bytes op2_code op
instr_bytes (instr.Len depth) = 14 ∷ depth ∷ []
instr_bytes (instr.Pick places) = 15 ∷ choice_bytes places_code places
instr_bytes (instr.Patch places) = 16 ∷ choice_bytes places_code places
instr_bytes (instr.Jump target) = 17 ∷ in_eight target
instr_bytes (instr.JumpNot target) = 18 ∷ in_eight target
instr_bytes (instr.Turn target) = 19 ∷ in_eight target
instr_bytes (instr.Call block) = 20 ∷ in_four block
instr_bytes instr.Return = 21 ∷ []
instr_bytes (instr.On group number response change event target) =
    22 ∷ group ∷ number ∷ choice_byte response_code response ∷ choice_byte change_code change ∷ (in_two event ++ in_eight target)
instr_bytes (instr.Off group number) = 23 ∷ group ∷ number ∷ []
instr_bytes (instr.Raise group number) = 24 ∷ group ∷ number ∷ []
instr_bytes instr.ErrGrp = 25 ∷ []
instr_bytes instr.ErrNum = 26 ∷ []
instr_bytes (instr.Bind place) = 27 ∷ in_four place
instr_bytes (instr.Copy place) = 28 ∷ in_four place
instr_bytes (instr.Clear place count) = 29 ∷ (in_four place ++ in_four count)
instr_bytes instr.Next = 30 ∷ []
instr_bytes instr.Begin = 32 ∷ []
instr_bytes instr.Finish = 33 ∷ []
instr_bytes (instr.Schedule process when priority dependent round limit) =
    34 ∷ process ∷ (when_bytes when ++ (choice_byte flag_code priority ∷ choice_byte flag_code dependent ∷ (round_bytes round ++ limit_bytes limit)))
instr_bytes (instr.Cancel process) = 35 ∷ process ∷ []
instr_bytes (instr.Terminate process) = 36 ∷ process ∷ []
instr_bytes (instr.Wait delay) = 37 ∷ delay_bytes delay
instr_bytes (instr.Signal e) = 38 ∷ in_two e
instr_bytes (instr.Set e) = 39 ∷ in_two e
instr_bytes (instr.Reset e) = 40 ∷ in_two e
instr_bytes (instr.Priority process) = 41 ∷ process ∷ []
instr_bytes instr.Item = 42 ∷ []
instr_bytes (instr.Print channel) = 43 ∷ channel ∷ []
instr_bytes (instr.Input channel kind target) = 44 ∷ channel ∷ (kind_bytes kind ++ in_eight target)
instr_bytes instr.Now = 45 ∷ []
instr_bytes (instr.Open groups) = 46 ∷ in_two groups
instr_bytes instr.Close = 47 ∷ []

-- its operands are as its bytes can say
abbrev pub FitsInstr : Instr → Type 0
FitsInstr (instr.Int number) = FitsSigned w32 number
FitsInstr (instr.Bits len word) = (len < 2 ^ 8) × (word < 2 ^ 32)
FitsInstr (instr.Text text) = length text < 2 ^ 8
FitsInstr (instr.Cell view) = view < 2 ^ 32
FitsInstr (instr.Whole view) = view < 2 ^ 32
FitsInstr (instr.Event e) = e < 2 ^ 16
FitsInstr (instr.Op1 op) = FitsChoice 10 op
FitsInstr (instr.Op2 op) = FitsChoice 22 op
FitsInstr (instr.Len depth) = depth < 2 ^ 8
FitsInstr (instr.Pick places) = FitsChoice 3 places
FitsInstr (instr.Patch places) = FitsChoice 3 places
FitsInstr (instr.Jump target) = target < 2 ^ 64
FitsInstr (instr.JumpNot target) = target < 2 ^ 64
FitsInstr (instr.Turn target) = target < 2 ^ 64
FitsInstr (instr.Call block) = block < 2 ^ 32
FitsInstr (instr.On group number response change event target) =
    (group < 2 ^ 8) × ((number < 2 ^ 8) × (FitsChoice 3 response × (FitsChoice 4 change × ((event < 2 ^ 16) × (target < 2 ^ 64)))))
FitsInstr (instr.Off group number) = (group < 2 ^ 8) × (number < 2 ^ 8)
FitsInstr (instr.Raise group number) = (group < 2 ^ 8) × (number < 2 ^ 8)
FitsInstr (instr.Bind place) = place < 2 ^ 32
FitsInstr (instr.Copy place) = place < 2 ^ 32
FitsInstr (instr.Clear place count) = (place < 2 ^ 32) × (count < 2 ^ 32)
FitsInstr (instr.Schedule process when priority dependent round limit) =
    (process < 2 ^ 8) × (FitsWhen when × (FitsChoice 2 priority × (FitsChoice 2 dependent × (FitsRound round × FitsLimit limit))))
FitsInstr (instr.Cancel process) = process < 2 ^ 8
FitsInstr (instr.Terminate process) = process < 2 ^ 8
FitsInstr (instr.Wait delay) = FitsDelay delay
FitsInstr (instr.Signal e) = e < 2 ^ 16
FitsInstr (instr.Set e) = e < 2 ^ 16
FitsInstr (instr.Reset e) = e < 2 ^ 16
FitsInstr (instr.Priority process) = process < 2 ^ 8
FitsInstr (instr.Print channel) = channel < 2 ^ 8
FitsInstr (instr.Input channel kind target) = (channel < 2 ^ 8) × (FitsKind kind × (target < 2 ^ 64))
FitsInstr (instr.Open groups) = groups < 2 ^ 16
FitsInstr i = Unit {0}
