-- Each instruction holds right values.
use Rattle.std.specs.Prelude.{ℕ, suc, ◌≡◌, ◌^◌, nat_le, nat_lt, true, ◌&&◌, List, [], ◌∷◌, pos, slice_get}
use Rattle.std.proofs.Common.{refl}
use Rattle.std.proofs.lemmas.Bool.{leb-true, ltb-true, and_parts}
use Rattle.hal_base.specs.declared.limits.TheConstants.{CHANNEL_COUNT}
use Rattle.hal_values.specs.declared.request.Request.TheVariants as request
use Rattle.hal_values.specs.declared.value.Kind.{Kind}
use Rattle.hal_values.specs.declared.value.Kind.TheVariants as kind
use Rattle.hal_values.specs.declared.value.Value.TheVariants as value
use Rattle.hal_values.specs.Answers.{error}
use Rattle.hal_values.specs.Kinds.{IsKind}
use Rattle.hal_operations.specs.Operands.{IsString}
use Rattle.hal_code.specs.declared.image.ImageParts.{ImageParts}
use Rattle.hal_code.specs.declared.instr.Instr.{Instr}
use Rattle.hal_code.specs.declared.instr.Instr.TheVariants as instr
use Rattle.hal_code.specs.declared.row.Block.{Block}
use Rattle.hal_code.specs.declared.row.View.{View}
use Rattle.hal_code.specs.Addressing.{cell_viewed, area_viewed}
use Rattle.hal_code.specs.Asking.{updating}
use Rattle.hal_code.specs.Controlling.{called}
use Rattle.hal_code.specs.Cores.{Operand, Setting, Core, core, going, with_line, Then, Goes, Pushes, Takes, Opens, Renews}
use Rattle.hal_code.specs.Machine.{act}
use Rattle.hal_code.specs.Operands.{operands_right}
use Rattle.hal_code.specs.Raising.{stuck}
use Rattle.hal_code.specs.Sorts.{is_kind}
use Rattle.hal_sound_values.specs.Right.{IsRight}
use Rattle.hal_right_values.specs.Ranges.{IsOfBytes, IsInRange}
use Rattle.hal_right_values.specs.Holding.{Holding}
use Rattle.hal_right_values.proofs.Addressing.{AreLowOn, Right-cell_viewed, Right-area_viewed, Right-pushed, Right-fetch, Right-peek, Right-keep, Right-copy, Right-bind, Right-clear}
use Rattle.hal_right_values.proofs.Asking.{line_right, Right-schedule, Right-named, Right-priority, Right-wait, Right-event_change, Right-event, Right-item, Right-print}
use Rattle.hal_right_values.proofs.Computing.{Right-dup, Right-drop, Right-one, Right-two, Right-len, Right-pick, Right-patch, Right-next}
use Rattle.hal_right_values.proofs.Controlling.{entries_right, Right-jump_not, Right-turn, Right-called, Right-return, Right-close, Right-on}
use Rattle.hal_right_values.proofs.Raising.{Right-raised}
use Rattle.hal_right_values.proofs.Rights.{small_right}
use Rattle.hal_right_values.proofs.Steps.{Known, Right, going_right, core_right, moves, waits, sticks, found}

pub kind_is : (k : Kind) → is_kind k ≡ true → IsKind k
kind_is kind.Single e = tt
kind_is kind.Double e = tt
kind_is (kind.Bits n) e = (leb-true 1 n (and_parts (nat_le 1 n) (nat_le n 32) e).0, leb-true n 32 (and_parts (nat_le 1 n) (nat_le n 32) e).1)
kind_is (kind.Text n) e = (leb-true 1 n (and_parts (nat_le 1 n) (nat_le n 255) e).0, leb-true n 255 (and_parts (nat_le 1 n) (nat_le n 255) e).1)

string_is : (len word : ℕ) → ((nat_le 1 len && nat_le len 32) && nat_lt word (2 ^ len)) ≡ true → IsString len word
string_is len word e = (
  leb-true 1 len (and_parts (nat_le 1 len) (nat_le len 32) (and_parts (nat_le 1 len && nat_le len 32) (nat_lt word (2 ^ len)) e).0).0,
  leb-true len 32 (and_parts (nat_le 1 len) (nat_le len 32) (and_parts (nat_le 1 len && nat_le len 32) (nat_lt word (2 ^ len)) e).0).1,
  ltb-true word (2 ^ len) (and_parts (nat_le 1 len && nat_le len 32) (nat_lt word (2 ^ len)) e).1,
)

-- what an instruction itself says is right
abbrev pub IsFine : Instr → Type 0
IsFine (instr.Int n) = IsRight (value.Int n)
IsFine (instr.Bits len word) = IsRight (value.Bits len word)
IsFine (instr.Text text) = IsRight (value.Text text)
IsFine (instr.Raise group number) = IsOfBytes (error group number)
IsFine (instr.Input channel k target) = IsKind k
IsFine other = Unit {0}

pub fine : (image : ImageParts) (block : Block) (b : ℕ) (i : Instr) → operands_right image block b i ≡ true → IsInRange i → IsFine i
fine image block b (instr.Int n) e ranged = ranged
fine image block b (instr.Bits len word) e ranged = string_is len word e
fine image block b (instr.Text text) e ranged = ranged
fine image block b (instr.Raise group number) e ranged = ranged
fine image block b (instr.Input channel k target) e ranged = kind_is k (and_parts (nat_lt channel CHANNEL_COUNT) (is_kind k) e).1
fine image block b other e ranged = tt

-- what COPY copies lies at small numbers
abbrev pub IsLow : Setting → Instr → List Operand → Type 0
IsLow s (instr.Copy place) stack = AreLowOn s place stack
IsLow s other stack = Unit {0}

module _ (s : Setting) (known : Known s) (c : Core) (h : Holding c) where
  -- behind the instruction
  next : Holding (going (suc c.at) c.stack c)
  next = going_right c (suc c.at) c.stack h h.operands

  -- an instruction
  pub Right-act : (i : Instr) → IsFine i → IsLow s i c.stack → Right (act s i c)
  Right-act (instr.Int n) is low = Right-pushed s known (value.Int n) c.stack c is h.operands h
  Right-act (instr.Bits len word) is low = Right-pushed s known (value.Bits len word) c.stack c is h.operands h
  Right-act (instr.Text text) is low = Right-pushed s known (value.Text text) c.stack c is h.operands h
  Right-act (instr.Cell view) is low = found {A = View} (slice_get s.image.views view) (stuck c) (λ one. cell_viewed s one c) (sticks c h) (λ one e. Right-cell_viewed s known one c (known.views view one e) h)
  Right-act (instr.Whole view) is low = found {A = View} (slice_get s.image.views view) (stuck c) (λ one. area_viewed s one c) (sticks c h) (λ one e. Right-area_viewed s known one c (known.views view one e) h)
  Right-act instr.Fetch is low = Right-fetch s known c.stack c h.operands h
  Right-act instr.Peek is low = Right-peek s known c.stack c h.operands h
  Right-act instr.Keep is low = Right-keep s known c.stack c h.operands h
  Right-act instr.Dup is low = Right-dup s known c.stack c h.operands h
  Right-act instr.Drop is low = Right-drop s known c.stack c h.operands h
  Right-act (instr.Event e) is low = Right-event s known e c h
  Right-act (instr.Op1 op) is low = Right-one s known op c.stack c h.operands h
  Right-act (instr.Op2 op) is low = Right-two s known op c.stack c h.operands h
  Right-act (instr.Len depth) is low = Right-len s known depth c h
  Right-act (instr.Pick chosen) is low = Right-pick s known chosen c h
  Right-act (instr.Patch chosen) is low = Right-patch s known chosen c h
  Right-act (instr.Jump target) is low = moves _ (going_right c target c.stack h h.operands)
  Right-act (instr.JumpNot target) is low = Right-jump_not s known target c.stack c h.operands h
  Right-act (instr.Turn target) is low = Right-turn s known target c h
  Right-act (instr.Call block) is low = found {A = Block} (slice_get s.image.blocks block) (stuck c) (λ one. called s one c) (sticks c h) (λ one e. Right-called s known one c h)
  Right-act instr.Return is low = Right-return s known c.frames c h.frames h
  Right-act (instr.On group number r e event target) is low = Right-on s known group number r e event target c h
  Right-act (instr.Off group number) is low = moves _ (entries_right (going (suc c.at) c.stack c) _ next)
  Right-act (instr.Raise group number) is low = Right-raised s known (error group number) (going (suc c.at) c.stack c) is next
  Right-act instr.ErrGrp is low = Right-pushed s known (value.Int (pos c.kept.last.group)) c.stack c (small_right c.kept.last.group h.last.0) h.operands h
  Right-act instr.ErrNum is low = Right-pushed s known (value.Int (pos c.kept.last.number)) c.stack c (small_right c.kept.last.number h.last.1) h.operands h
  Right-act (instr.Bind place) is low = Right-bind s known place c.stack c h.operands h
  Right-act (instr.Copy place) is low = Right-copy s known place c.stack c h.operands low h
  Right-act (instr.Clear place count) is low = Right-clear s known place count c h
  Right-act instr.Next is low = Right-next s known c.stack c h.operands h
  Right-act instr.Begin is low = waits request.Begin (Then Goes) (with_line [] (going (suc c.at) c.stack c)) (line_right (going (suc c.at) c.stack c) [] next) tt
  Right-act instr.Finish is low = waits request.Finish Renews c h tt
  Right-act (instr.Schedule process begins prio dependent again until) is low = Right-schedule s known process begins prio dependent again until c h
  Right-act (instr.Cancel process) is low = Right-named s known request.Cancel process c h
  Right-act (instr.Terminate process) is low = Right-named s known request.Terminate process c h
  Right-act (instr.Wait one) is low = Right-wait s known one c h
  Right-act (instr.Signal e) is low = Right-event_change s known request.Signal e c h
  Right-act (instr.Set e) is low = Right-event_change s known request.Set e c h
  Right-act (instr.Reset e) is low = Right-event_change s known request.Reset e c h
  Right-act (instr.Priority process) is low = Right-priority s known process c.stack c h.operands h
  Right-act instr.Item is low = Right-item s known c.stack c h.operands h
  Right-act (instr.Print channel) is low = Right-print s known channel c h
  Right-act (instr.Input channel k target) is low = waits (request.Input channel k) (Takes target) (going (suc c.at) c.stack c) next (channel, k, refl, is)
  Right-act instr.Now is low = waits request.Now (Pushes kind.Double) (going (suc c.at) c.stack c) next tt
  Right-act (instr.Open groups) is low = waits (request.Update groups) (Opens groups) (core (suc c.at) c.stack c.line [] (updating c ∷ c.frames) c.kept c.mode) (core_right c (suc c.at) c.stack c.line [] (updating c ∷ c.frames) c.mode h h.operands (tt, h.frames) h.store h.writes) refl
  Right-act instr.Close is low = Right-close s known c.frames c h.frames h
