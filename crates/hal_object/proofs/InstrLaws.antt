-- Instructions are read as they are spelled.
use Rattle.std.proofs.Common.{◌≡◌, ℕ, ◌^◌, ◌<◌, Bool, true, false, cond, ltb, List, [], ◌∷◌, ◌++◌, length, Some, refl, ◌∙◌}
use Rattle.std.specs.Prelude.{FitsSigned}
use Rattle.std.specs.Int.{w32}
use Rattle.hal_values.specs.declared.value.Kind.{Kind}
use Rattle.hal_code.specs.declared.choice.Choice.{Choice}
use Rattle.hal_code.specs.declared.instr.Instr.{Instr}
use Rattle.hal_code.specs.declared.instr.Instr.TheVariants as instr
use Rattle.hal_code.specs.declared.operand.EventChange.{EventChange}
use Rattle.hal_code.specs.declared.operand.Limit.{Limit}
use Rattle.hal_code.specs.declared.operand.Response.{Response}
use Rattle.hal_code.specs.declared.operand.Round.{Round}
use Rattle.hal_code.specs.declared.operand.Start.{Start}
use Rattle.hal_object.specs.Numbers.{in_two, in_four, in_eight, integer_bytes, text_bytes}
use Rattle.hal_object.specs.Choices.{choice_byte, choice_bytes, FitsChoice, places_code, response_code, change_code, flag_code, op1_code, op2_code}
use Rattle.hal_object.specs.Kinds.{kind_bytes, FitsKind}
use Rattle.hal_object.specs.Operands.{when_bytes, FitsWhen, round_bytes, FitsRound, limit_bytes, FitsLimit, delay_bytes, FitsDelay}
use Rattle.hal_object.specs.Instructions.{instr_bytes, FitsInstr}
use Rattle.hal_object.specs.Fields.{both, byte_at, two_at, four_at, eight_at, integer_at, text_at}
use Rattle.hal_object.specs.Reading.{choice_at, all_places, all_responses, all_changes, all_flags, all_op1, all_op2, kind_at, when_at, round_at, limit_at, delay_at, bits_at, on_at, off_at, raise_at, clear_at, schedule_at, input_at, value_rows, control_rows, asking_rows, value_instr_at, control_instr_at, asking_instr_at, instr_behind, instr_at}
use Rattle.hal_object.proofs.ReadingLaws.{IsBytes, Takes, Reads, onwards_some, byte_reads, two_reads, four_reads, eight_reads, integer_reads, text_reads, made_again, pair, choose_takes, row_made, row_plain}
use Rattle.hal_object.proofs.ChoiceLaws.{places_read, responses_read, changes_read, flags_read, op1_reads, op2_reads}
use Rattle.hal_object.proofs.KindLaws.{kind_reads}
use Rattle.hal_object.proofs.OperandLaws.{when_reads, round_reads, limit_reads, delay_reads}

bits_front : Reads (both byte_at four_at) (λ p. p.0 ∷ in_four p.1) (λ p. (p.0 < 2 ^ 8) × (p.1 < 2 ^ 32))
bits_front = (pair byte_reads four_reads)

on_front : Reads (both byte_at (both byte_at (both (choice_at all_responses) (both (choice_at all_changes) (both two_at eight_at))))) (λ p. p.0 ∷ p.1.0 ∷ choice_byte response_code p.1.1.0 ∷ choice_byte change_code p.1.1.1.0 ∷ (in_two p.1.1.1.1.0 ++ in_eight p.1.1.1.1.1)) (λ p. (p.0 < 2 ^ 8) × ((p.1.0 < 2 ^ 8) × (FitsChoice 3 p.1.1.0 × (FitsChoice 4 p.1.1.1.0 × ((p.1.1.1.1.0 < 2 ^ 16) × (p.1.1.1.1.1 < 2 ^ 64))))))
on_front = (pair byte_reads (pair byte_reads (pair responses_read (pair changes_read (pair two_reads eight_reads)))))

off_front : Reads (both byte_at byte_at) (λ p. p.0 ∷ p.1 ∷ []) (λ p. (p.0 < 2 ^ 8) × (p.1 < 2 ^ 8))
off_front = (pair byte_reads byte_reads)

raise_front : Reads (both byte_at byte_at) (λ p. p.0 ∷ p.1 ∷ []) (λ p. (p.0 < 2 ^ 8) × (p.1 < 2 ^ 8))
raise_front = (pair byte_reads byte_reads)

clear_front : Reads (both four_at four_at) (λ p. in_four p.0 ++ in_four p.1) (λ p. (p.0 < 2 ^ 32) × (p.1 < 2 ^ 32))
clear_front = (pair four_reads four_reads)

schedule_front : Reads (both byte_at (both when_at (both (choice_at all_flags) (both (choice_at all_flags) (both round_at limit_at))))) (λ p. p.0 ∷ (when_bytes p.1.0 ++ (choice_byte flag_code p.1.1.0 ∷ choice_byte flag_code p.1.1.1.0 ∷ (round_bytes p.1.1.1.1.0 ++ limit_bytes p.1.1.1.1.1)))) (λ p. (p.0 < 2 ^ 8) × (FitsWhen p.1.0 × (FitsChoice 2 p.1.1.0 × (FitsChoice 2 p.1.1.1.0 × (FitsRound p.1.1.1.1.0 × FitsLimit p.1.1.1.1.1)))))
schedule_front = (pair byte_reads (pair when_reads (pair flags_read (pair flags_read (pair round_reads limit_reads)))))

input_front : Reads (both byte_at (both kind_at eight_at)) (λ p. p.0 ∷ (kind_bytes p.1.0 ++ in_eight p.1.1)) (λ p. (p.0 < 2 ^ 8) × (FitsKind p.1.0 × (p.1.1 < 2 ^ 64)))
input_front = (pair byte_reads (pair kind_reads eight_reads))

value_takes : (byte : ℕ) (bytes : List ℕ) (a : Instr) (rest : List ℕ) → IsBytes bytes → value_instr_at byte bytes ≡ Some (a, rest) → Takes (byte ∷ bytes) (instr_bytes a) rest (FitsInstr a)
unfolding value_instr_at bits_at
value_takes = choose_takes instr_bytes FitsInstr value_rows (
  row_made 1 instr.Int integer_at integer_bytes (λ z. FitsSigned w32 z) instr_bytes FitsInstr (λ b f. refl) (λ b f. f) integer_reads,
  (
    row_made 2 (λ p. instr.Bits p.0 p.1) (both byte_at four_at) (λ p. p.0 ∷ in_four p.1) (λ p. (p.0 < 2 ^ 8) × (p.1 < 2 ^ 32)) instr_bytes FitsInstr (λ b f. refl) (λ b f. f) bits_front,
    (
      row_made 3 instr.Text text_at text_bytes (λ text. length text < 2 ^ 8) instr_bytes FitsInstr (λ b f. refl) (λ b f. f) text_reads,
      (
        row_made 4 instr.Cell four_at in_four (λ n. n < 2 ^ 32) instr_bytes FitsInstr (λ b f. refl) (λ b f. f) four_reads,
        (
          row_made 5 instr.Whole four_at in_four (λ n. n < 2 ^ 32) instr_bytes FitsInstr (λ b f. refl) (λ b f. f) four_reads,
          (
            row_plain 6 instr.Fetch instr_bytes FitsInstr refl tt,
            (
              row_plain 7 instr.Peek instr_bytes FitsInstr refl tt,
              (
                row_plain 8 instr.Keep instr_bytes FitsInstr refl tt,
                (
                  row_plain 9 instr.Dup instr_bytes FitsInstr refl tt,
                  (
                    row_plain 10 instr.Drop instr_bytes FitsInstr refl tt,
                    (
                      row_made 11 instr.Event two_at in_two (λ n. n < 2 ^ 16) instr_bytes FitsInstr (λ b f. refl) (λ b f. f) two_reads,
                      (
                        row_made 12 instr.Op1 (choice_at all_op1) (choice_bytes op1_code) (FitsChoice 10) instr_bytes FitsInstr (λ b f. refl) (λ b f. f) op1_reads,
                        (
                          row_made 13 instr.Op2 (choice_at all_op2) (choice_bytes op2_code) (FitsChoice 22) instr_bytes FitsInstr (λ b f. refl) (λ b f. f) op2_reads,
                          (
                            row_made 14 instr.Len byte_at (λ b. b ∷ []) (λ b. b < 2 ^ 8) instr_bytes FitsInstr (λ b f. refl) (λ b f. f) byte_reads,
                            (
                              row_made 15 instr.Pick (choice_at all_places) (choice_bytes places_code) (FitsChoice 3) instr_bytes FitsInstr (λ b f. refl) (λ b f. f) places_read,
                              (
                                row_made 16 instr.Patch (choice_at all_places) (choice_bytes places_code) (FitsChoice 3) instr_bytes FitsInstr (λ b f. refl) (λ b f. f) places_read,
                                tt,
                              ),
                            ),
                          ),
                        ),
                      ),
                    ),
                  ),
                ),
              ),
            ),
          ),
        ),
      ),
    ),
  ),
)

control_takes : (byte : ℕ) (bytes : List ℕ) (a : Instr) (rest : List ℕ) → IsBytes bytes → control_instr_at byte bytes ≡ Some (a, rest) → Takes (byte ∷ bytes) (instr_bytes a) rest (FitsInstr a)
unfolding control_instr_at on_at off_at raise_at clear_at
control_takes = choose_takes instr_bytes FitsInstr control_rows (
  row_made 17 instr.Jump eight_at in_eight (λ n. n < 2 ^ 64) instr_bytes FitsInstr (λ b f. refl) (λ b f. f) eight_reads,
  (
    row_made 18 instr.JumpNot eight_at in_eight (λ n. n < 2 ^ 64) instr_bytes FitsInstr (λ b f. refl) (λ b f. f) eight_reads,
    (
      row_made 19 instr.Turn eight_at in_eight (λ n. n < 2 ^ 64) instr_bytes FitsInstr (λ b f. refl) (λ b f. f) eight_reads,
      (
        row_made 20 instr.Call four_at in_four (λ n. n < 2 ^ 32) instr_bytes FitsInstr (λ b f. refl) (λ b f. f) four_reads,
        (
          row_plain 21 instr.Return instr_bytes FitsInstr refl tt,
          (
            row_made 22 (λ p. instr.On p.0 p.1.0 p.1.1.0 p.1.1.1.0 p.1.1.1.1.0 p.1.1.1.1.1) (both byte_at (both byte_at (both (choice_at all_responses) (both (choice_at all_changes) (both two_at eight_at))))) (λ p. p.0 ∷ p.1.0 ∷ choice_byte response_code p.1.1.0 ∷ choice_byte change_code p.1.1.1.0 ∷ (in_two p.1.1.1.1.0 ++ in_eight p.1.1.1.1.1)) (λ p. (p.0 < 2 ^ 8) × ((p.1.0 < 2 ^ 8) × (FitsChoice 3 p.1.1.0 × (FitsChoice 4 p.1.1.1.0 × ((p.1.1.1.1.0 < 2 ^ 16) × (p.1.1.1.1.1 < 2 ^ 64)))))) instr_bytes FitsInstr (λ b f. refl) (λ b f. f) on_front,
            (
              row_made 23 (λ p. instr.Off p.0 p.1) (both byte_at byte_at) (λ p. p.0 ∷ p.1 ∷ []) (λ p. (p.0 < 2 ^ 8) × (p.1 < 2 ^ 8)) instr_bytes FitsInstr (λ b f. refl) (λ b f. f) off_front,
              (
                row_made 24 (λ p. instr.Raise p.0 p.1) (both byte_at byte_at) (λ p. p.0 ∷ p.1 ∷ []) (λ p. (p.0 < 2 ^ 8) × (p.1 < 2 ^ 8)) instr_bytes FitsInstr (λ b f. refl) (λ b f. f) raise_front,
                (
                  row_plain 25 instr.ErrGrp instr_bytes FitsInstr refl tt,
                  (
                    row_plain 26 instr.ErrNum instr_bytes FitsInstr refl tt,
                    (
                      row_made 27 instr.Bind four_at in_four (λ n. n < 2 ^ 32) instr_bytes FitsInstr (λ b f. refl) (λ b f. f) four_reads,
                      (
                        row_made 28 instr.Copy four_at in_four (λ n. n < 2 ^ 32) instr_bytes FitsInstr (λ b f. refl) (λ b f. f) four_reads,
                        (
                          row_made 29 (λ p. instr.Clear p.0 p.1) (both four_at four_at) (λ p. in_four p.0 ++ in_four p.1) (λ p. (p.0 < 2 ^ 32) × (p.1 < 2 ^ 32)) instr_bytes FitsInstr (λ b f. refl) (λ b f. f) clear_front,
                          (
                            row_plain 30 instr.Next instr_bytes FitsInstr refl tt,
                            tt,
                          ),
                        ),
                      ),
                    ),
                  ),
                ),
              ),
            ),
          ),
        ),
      ),
    ),
  ),
)

asking_takes : (byte : ℕ) (bytes : List ℕ) (a : Instr) (rest : List ℕ) → IsBytes bytes → asking_instr_at byte bytes ≡ Some (a, rest) → Takes (byte ∷ bytes) (instr_bytes a) rest (FitsInstr a)
unfolding asking_instr_at schedule_at input_at
asking_takes = choose_takes instr_bytes FitsInstr asking_rows (
  row_plain 32 instr.Begin instr_bytes FitsInstr refl tt,
  (
    row_plain 33 instr.Finish instr_bytes FitsInstr refl tt,
    (
      row_made 34 (λ p. instr.Schedule p.0 p.1.0 p.1.1.0 p.1.1.1.0 p.1.1.1.1.0 p.1.1.1.1.1) (both byte_at (both when_at (both (choice_at all_flags) (both (choice_at all_flags) (both round_at limit_at))))) (λ p. p.0 ∷ (when_bytes p.1.0 ++ (choice_byte flag_code p.1.1.0 ∷ choice_byte flag_code p.1.1.1.0 ∷ (round_bytes p.1.1.1.1.0 ++ limit_bytes p.1.1.1.1.1)))) (λ p. (p.0 < 2 ^ 8) × (FitsWhen p.1.0 × (FitsChoice 2 p.1.1.0 × (FitsChoice 2 p.1.1.1.0 × (FitsRound p.1.1.1.1.0 × FitsLimit p.1.1.1.1.1))))) instr_bytes FitsInstr (λ b f. refl) (λ b f. f) schedule_front,
      (
        row_made 35 instr.Cancel byte_at (λ b. b ∷ []) (λ b. b < 2 ^ 8) instr_bytes FitsInstr (λ b f. refl) (λ b f. f) byte_reads,
        (
          row_made 36 instr.Terminate byte_at (λ b. b ∷ []) (λ b. b < 2 ^ 8) instr_bytes FitsInstr (λ b f. refl) (λ b f. f) byte_reads,
          (
            row_made 37 instr.Wait delay_at delay_bytes FitsDelay instr_bytes FitsInstr (λ b f. refl) (λ b f. f) delay_reads,
            (
              row_made 38 instr.Signal two_at in_two (λ n. n < 2 ^ 16) instr_bytes FitsInstr (λ b f. refl) (λ b f. f) two_reads,
              (
                row_made 39 instr.Set two_at in_two (λ n. n < 2 ^ 16) instr_bytes FitsInstr (λ b f. refl) (λ b f. f) two_reads,
                (
                  row_made 40 instr.Reset two_at in_two (λ n. n < 2 ^ 16) instr_bytes FitsInstr (λ b f. refl) (λ b f. f) two_reads,
                  (
                    row_made 41 instr.Priority byte_at (λ b. b ∷ []) (λ b. b < 2 ^ 8) instr_bytes FitsInstr (λ b f. refl) (λ b f. f) byte_reads,
                    (
                      row_plain 42 instr.Item instr_bytes FitsInstr refl tt,
                      (
                        row_made 43 instr.Print byte_at (λ b. b ∷ []) (λ b. b < 2 ^ 8) instr_bytes FitsInstr (λ b f. refl) (λ b f. f) byte_reads,
                        (
                          row_made 44 (λ p. instr.Input p.0 p.1.0 p.1.1) (both byte_at (both kind_at eight_at)) (λ p. p.0 ∷ (kind_bytes p.1.0 ++ in_eight p.1.1)) (λ p. (p.0 < 2 ^ 8) × (FitsKind p.1.0 × (p.1.1 < 2 ^ 64))) instr_bytes FitsInstr (λ b f. refl) (λ b f. f) input_front,
                          (
                            row_plain 45 instr.Now instr_bytes FitsInstr refl tt,
                            (
                              row_made 46 instr.Open two_at in_two (λ n. n < 2 ^ 16) instr_bytes FitsInstr (λ b f. refl) (λ b f. f) two_reads,
                              (
                                row_plain 47 instr.Close instr_bytes FitsInstr refl tt,
                                tt,
                              ),
                            ),
                          ),
                        ),
                      ),
                    ),
                  ),
                ),
              ),
            ),
          ),
        ),
      ),
    ),
  ),
)

instr_takes : (bytes : List ℕ) (a : Instr) (rest : List ℕ) → IsBytes bytes → instr_at bytes ≡ Some (a, rest) → Takes bytes (instr_bytes a) rest (FitsInstr a)
unfolding instr_at
instr_takes bytes a rest h e =
    let s = onwards_some (byte_at bytes) instr_behind (a, rest) e in
    let t = byte_reads.takes bytes s.0 s.1 h s.2 in
    let u = by_test s.0 s.1 t.rest_fits (ltb s.0 17) (ltb s.0 32) s.3 in
    record { parts = t.parts ∙ u.parts; rest_fits = u.rest_fits; fits = u.fits }
  where
    by_test : (byte : ℕ) (behind : List ℕ) → IsBytes behind → (b c : Bool) → cond b (value_instr_at byte behind) (cond c (control_instr_at byte behind) (asking_instr_at byte behind)) ≡ Some (a, rest) → Takes (byte ∷ behind) (instr_bytes a) rest (FitsInstr a)
    by_test byte behind fits true c f = value_takes byte behind a rest fits f
    by_test byte behind fits false true f = control_takes byte behind a rest fits f
    by_test byte behind fits false false f = asking_takes byte behind a rest fits f

instr_again : (a : Instr) (rest : List ℕ) → FitsInstr a → instr_at (instr_bytes a ++ rest) ≡ Some (a, rest)
unfolding instr_at byte_at value_instr_at control_instr_at asking_instr_at bits_at on_at off_at raise_at clear_at schedule_at input_at
instr_again (instr.Int x) rest f = made_again instr.Int integer_at (integer_bytes x ++ rest) x rest (integer_reads.again x rest f)
instr_again (instr.Bits len word) rest f = made_again (λ (p : ℕ × ℕ). instr.Bits p.0 p.1) (both byte_at four_at) ((len ∷ in_four word) ++ rest) (len, word) rest (bits_front.again (len, word) rest f)
instr_again (instr.Text x) rest f = made_again instr.Text text_at (text_bytes x ++ rest) x rest (text_reads.again x rest f)
instr_again (instr.Cell x) rest f = made_again instr.Cell four_at (in_four x ++ rest) x rest (four_reads.again x rest f)
instr_again (instr.Whole x) rest f = made_again instr.Whole four_at (in_four x ++ rest) x rest (four_reads.again x rest f)
instr_again instr.Fetch rest f = refl
instr_again instr.Peek rest f = refl
instr_again instr.Keep rest f = refl
instr_again instr.Dup rest f = refl
instr_again instr.Drop rest f = refl
instr_again (instr.Event x) rest f = made_again instr.Event two_at (in_two x ++ rest) x rest (two_reads.again x rest f)
instr_again (instr.Op1 x) rest f = made_again instr.Op1 (choice_at all_op1) ((choice_bytes op1_code) x ++ rest) x rest (op1_reads.again x rest f)
instr_again (instr.Op2 x) rest f = made_again instr.Op2 (choice_at all_op2) ((choice_bytes op2_code) x ++ rest) x rest (op2_reads.again x rest f)
instr_again (instr.Len x) rest f = made_again instr.Len byte_at (x ∷ rest) x rest (byte_reads.again x rest f)
instr_again (instr.Pick x) rest f = made_again instr.Pick (choice_at all_places) ((choice_bytes places_code) x ++ rest) x rest (places_read.again x rest f)
instr_again (instr.Patch x) rest f = made_again instr.Patch (choice_at all_places) ((choice_bytes places_code) x ++ rest) x rest (places_read.again x rest f)
instr_again (instr.Jump x) rest f = made_again instr.Jump eight_at (in_eight x ++ rest) x rest (eight_reads.again x rest f)
instr_again (instr.JumpNot x) rest f = made_again instr.JumpNot eight_at (in_eight x ++ rest) x rest (eight_reads.again x rest f)
instr_again (instr.Turn x) rest f = made_again instr.Turn eight_at (in_eight x ++ rest) x rest (eight_reads.again x rest f)
instr_again (instr.Call x) rest f = made_again instr.Call four_at (in_four x ++ rest) x rest (four_reads.again x rest f)
instr_again instr.Return rest f = refl
instr_again (instr.On group number response change event target) rest f = made_again (λ (p : ℕ × (ℕ × (Choice Response × (Choice EventChange × (ℕ × ℕ))))). instr.On p.0 p.1.0 p.1.1.0 p.1.1.1.0 p.1.1.1.1.0 p.1.1.1.1.1) (both byte_at (both byte_at (both (choice_at all_responses) (both (choice_at all_changes) (both two_at eight_at))))) ((group ∷ number ∷ choice_byte response_code response ∷ choice_byte change_code change ∷ (in_two event ++ in_eight target)) ++ rest) (group, (number, (response, (change, (event, target))))) rest (on_front.again (group, (number, (response, (change, (event, target))))) rest f)
instr_again (instr.Off group number) rest f = made_again (λ (p : ℕ × ℕ). instr.Off p.0 p.1) (both byte_at byte_at) ((group ∷ number ∷ []) ++ rest) (group, number) rest (off_front.again (group, number) rest f)
instr_again (instr.Raise group number) rest f = made_again (λ (p : ℕ × ℕ). instr.Raise p.0 p.1) (both byte_at byte_at) ((group ∷ number ∷ []) ++ rest) (group, number) rest (raise_front.again (group, number) rest f)
instr_again instr.ErrGrp rest f = refl
instr_again instr.ErrNum rest f = refl
instr_again (instr.Bind x) rest f = made_again instr.Bind four_at (in_four x ++ rest) x rest (four_reads.again x rest f)
instr_again (instr.Copy x) rest f = made_again instr.Copy four_at (in_four x ++ rest) x rest (four_reads.again x rest f)
instr_again (instr.Clear place count) rest f = made_again (λ (p : ℕ × ℕ). instr.Clear p.0 p.1) (both four_at four_at) ((in_four place ++ in_four count) ++ rest) (place, count) rest (clear_front.again (place, count) rest f)
instr_again instr.Next rest f = refl
instr_again instr.Begin rest f = refl
instr_again instr.Finish rest f = refl
instr_again (instr.Schedule process when priority dependent round limit) rest f = made_again (λ (p : ℕ × (Start × (Choice Bool × (Choice Bool × (Round × Limit))))). instr.Schedule p.0 p.1.0 p.1.1.0 p.1.1.1.0 p.1.1.1.1.0 p.1.1.1.1.1) (both byte_at (both when_at (both (choice_at all_flags) (both (choice_at all_flags) (both round_at limit_at))))) ((process ∷ (when_bytes when ++ (choice_byte flag_code priority ∷ choice_byte flag_code dependent ∷ (round_bytes round ++ limit_bytes limit)))) ++ rest) (process, (when, (priority, (dependent, (round, limit))))) rest (schedule_front.again (process, (when, (priority, (dependent, (round, limit))))) rest f)
instr_again (instr.Cancel x) rest f = made_again instr.Cancel byte_at (x ∷ rest) x rest (byte_reads.again x rest f)
instr_again (instr.Terminate x) rest f = made_again instr.Terminate byte_at (x ∷ rest) x rest (byte_reads.again x rest f)
instr_again (instr.Wait x) rest f = made_again instr.Wait delay_at (delay_bytes x ++ rest) x rest (delay_reads.again x rest f)
instr_again (instr.Signal x) rest f = made_again instr.Signal two_at (in_two x ++ rest) x rest (two_reads.again x rest f)
instr_again (instr.Set x) rest f = made_again instr.Set two_at (in_two x ++ rest) x rest (two_reads.again x rest f)
instr_again (instr.Reset x) rest f = made_again instr.Reset two_at (in_two x ++ rest) x rest (two_reads.again x rest f)
instr_again (instr.Priority x) rest f = made_again instr.Priority byte_at (x ∷ rest) x rest (byte_reads.again x rest f)
instr_again instr.Item rest f = refl
instr_again (instr.Print x) rest f = made_again instr.Print byte_at (x ∷ rest) x rest (byte_reads.again x rest f)
instr_again (instr.Input channel kind target) rest f = made_again (λ (p : ℕ × (Kind × ℕ)). instr.Input p.0 p.1.0 p.1.1) (both byte_at (both kind_at eight_at)) ((channel ∷ (kind_bytes kind ++ in_eight target)) ++ rest) (channel, (kind, target)) rest (input_front.again (channel, (kind, target)) rest f)
instr_again instr.Now rest f = refl
instr_again (instr.Open x) rest f = made_again instr.Open two_at (in_two x ++ rest) x rest (two_reads.again x rest f)
instr_again instr.Close rest f = refl

pub instr_reads : Reads instr_at instr_bytes FitsInstr
instr_reads = record { takes = instr_takes; again = instr_again }
