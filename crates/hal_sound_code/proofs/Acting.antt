-- Each instruction fits, where control stands in a right image.
use Rattle.std.specs.Prelude.{ℕ, suc, ◌==◌, ◌≡◌, nat_lt, length, take, Bool, true, false, not, ◌&&◌, List, [], ◌∷◌, ◌++◌, Some, None, slice_get, if◌then◌else◌}
use Rattle.std.specs.List.{list_any}
use Rattle.std.proofs.Common.{refl, sym, ap, subst, ◌∙◌, arith}
use Rattle.std.proofs.lemmas.Bool.{and_parts, eq-eqb}
use Rattle.hal_base.specs.declared.limits.TheConstants.{LINE_LIMIT}
use Rattle.hal_values.specs.declared.request.Request.{Request}
use Rattle.hal_values.specs.declared.request.Request.TheVariants as request
use Rattle.hal_values.specs.declared.request.Spot.TheVariants as asked
use Rattle.hal_values.specs.declared.value.Kind.TheVariants as kind
use Rattle.hal_values.specs.declared.value.Value.TheVariants as value
use Rattle.hal_values.specs.Answers.{error}
use Rattle.hal_values.specs.Tables.{event_count}
use Rattle.hal_states.specs.Lines.{item_of}
use Rattle.hal_code.specs.declared.instr.Instr.{Instr}
use Rattle.hal_code.specs.declared.instr.Instr.TheVariants as instr
use Rattle.hal_code.specs.declared.row.Block.{Block}
use Rattle.hal_code.specs.declared.row.View.{View}
use Rattle.hal_code.specs.Addressing.{viewed, is_of_cell, cell_viewed, area_viewed, act_cell, act_whole}
use Rattle.hal_code.specs.Asking.{act_event_change, act_event, act_item, act_print}
use Rattle.hal_code.specs.Blocks.{code_of}
use Rattle.hal_code.specs.Cores.{Operand, Val, At, Area, Setting, Core, going, with_line, Asks, Then, Goes, Pushes, Takes, Renews}
use Rattle.hal_code.specs.Effects.{Sorts, value_taken, viewed_sorts, is_value}
use Rattle.hal_code.specs.Machine.{act}
use Rattle.hal_code.specs.Operands.{is_view_for}
use Rattle.hal_code.specs.Raising.{stuck}
use Rattle.hal_code.specs.Right.{names_view, process_names}
use Rattle.hal_code.specs.Sorts.{sort_of}
use Rattle.hal_sound_code.specs.Lying.{sort_of_value, sorts_of, AllLead}
use Rattle.hal_sound_code.specs.Standing.{Stands}
use Rattle.hal_sound_code.proofs.Addressing.{Typed-viewed, Typed-fetch, Typed-peek, Typed-keep}
use Rattle.hal_sound_code.proofs.Computing.{Onward, Typed-pushed, Typed-dup, Typed-drop, Typed-one, Typed-two, Typed-len, Typed-next}
use Rattle.hal_sound_code.proofs.Memory.{both_true}
use Rattle.hal_sound_code.proofs.Parting.{Typed-pick, Typed-patch}
use Rattle.hal_sound_code.proofs.Controlling.{of_option, on_of, jump_well, Typed-jump_not, Typed-turn, Typed-call}
use Rattle.hal_sound_code.proofs.Copying.{Typed-copy, Typed-bind, Typed-clear}
use Rattle.hal_sound_code.proofs.Grounds.{Ground}
use Rattle.hal_sound_code.proofs.Points.{Faces}
use Rattle.hal_sound_code.proofs.Raising.{Asking, signals, sets, resets, Typed-changed, Typed-raised_before}
use Rattle.hal_sound_code.proofs.Returning.{Typed-return, Typed-close, Typed-open, Typed-off, Typed-on, Typed-raise}
use Rattle.hal_sound_code.proofs.Rows.{view_forms, view_at}
use Rattle.hal_sound_code.proofs.Scheduling.{Typed-schedule, Typed-named, Typed-priority, Typed-wait}
use Rattle.hal_sound_code.proofs.Stepping.{Well, Typed, typed_with, moves, awaits, goes_on, either}
use Rattle.hal_sound_code.proofs.Taking.{some_is, if_taken}
use Rattle.hal_sound_code.proofs.Views.{any_at, view_leads}

module _ (s : Setting) (ground : Ground s) (most : ℕ) (c : Core) (well : Well s most c) where
  -- what is known of the instruction that is next
  abbrev Is : Instr → Type 0
  Is i = Faces s well.typed.number well.typed.inside c.at (sorts_of c.stack) i

  -- control goes on behind it
  on : (i : Instr) (f : Is i) → Stands s well.typed.number well.typed.inside (suc c.at) f.after → Onward s most c f.after
  on i f stands = on_of s most c well f.after stands

  -- the stack stays the same
  same_on : (i : Instr) (f : Is i) → Stands s well.typed.number well.typed.inside (suc c.at) f.after → Some (sorts_of c.stack) ≡ Some f.after → Well s most (going (suc c.at) c.stack c)
  same_on i f stands e = on i f stands c.stack well.typed.lead (some_is (sorts_of c.stack) f.after e)

  with_line_well : (line : List ℕ) (d : Core) → Well s most d → Well s most (with_line line d)
  with_line_well line d w = record { typed = typed_with s d line d.mode d.kept.last w.typed; few = w.few }

  -- a block that names a view
  names : (i : Instr) (f : Is i) (v : ℕ) → names_view v i ≡ true → (f.block.process == s.process) ≡ true → process_names s.image v s.process ≡ true
  names i f v is own =
      any_at (λ (block : Block). (block.process == s.process) && list_any (names_view v) (code_of s.image block)) s.image.blocks well.typed.number f.block f.row
      (both_true (f.block.process == s.process) (list_any (names_view v) (code_of s.image f.block)) own (any_at (names_view v) (code_of s.image f.block) f.place i f.found is))

  Typed-of_view : (i : Instr) (f : Is i) (v : ℕ) (view : View) → names_view v i ≡ true → slice_get s.image.views v ≡ Some view → is_view_for s.image f.block view ≡ true → viewed_sorts (slice_get s.image.views v) (sorts_of c.stack) ≡ Some f.after
      → Stands s well.typed.number well.typed.inside (suc c.at) f.after → Typed s most (viewed s view c)
  Typed-of_view i f v view is there for e stands =
      Typed-viewed s most ground.same view c f.after (on i f stands) well.typed.lead
      (λ ints. view_leads s view ints c.kept.places v f.block ground.exists (view_forms s.image ground.whole v view there) (view_at s.image ground.whole v view there) for f.own (names i f v is) well.typed.kept)
      (ap (λ o. viewed_sorts o (sorts_of c.stack)) (sym there) ∙ e)

  Typed-cell : (v : ℕ) → Is (instr.Cell v) → Typed s most (act_cell s v c)
  Typed-cell v f = of_view (of_option (λ (view : View). is_of_cell view && is_view_for s.image f.block view) (slice_get s.image.views v) f.operands)
    where
      of_view : (view : View) × (slice_get s.image.views v ≡ Some view) × ((is_of_cell view && is_view_for s.image f.block view) ≡ true) → Typed s most (act_cell s v c)
      of_view known =
          subst (λ o. Typed s most (elim o [ None ↦ stuck c | Some view ↦ cell_viewed s view c ])) (sym known.1)
          (subst (λ b. Typed s most (if b then viewed s known.0 c else stuck c)) (sym (and_parts (is_of_cell known.0) _ known.2).0)
          (Typed-of_view (instr.Cell v) f v known.0 (eq-eqb v v refl) known.1 (and_parts (is_of_cell known.0) (is_view_for s.image f.block known.0) known.2).1 f.stack (f.onward refl)))

  Typed-whole : (v : ℕ) → Is (instr.Whole v) → Typed s most (act_whole s v c)
  Typed-whole v f = of_view (of_option (λ (view : View). not (is_of_cell view) && is_view_for s.image f.block view) (slice_get s.image.views v) f.operands)
    where
      other : (b : Bool) → not b ≡ true → b ≡ false
      other true h = absurd (cc)
      other false h = refl

      of_view : (view : View) × (slice_get s.image.views v ≡ Some view) × ((not (is_of_cell view) && is_view_for s.image f.block view) ≡ true) → Typed s most (act_whole s v c)
      of_view known =
          subst (λ o. Typed s most (elim o [ None ↦ stuck c | Some view ↦ area_viewed s view c ])) (sym known.1)
          (subst (λ b. Typed s most (if b then stuck c else viewed s known.0 c)) (sym (other (is_of_cell known.0) (and_parts (not (is_of_cell known.0)) _ known.2).0))
          (Typed-of_view (instr.Whole v) f v known.0 (eq-eqb v v refl) known.1 (and_parts (not (is_of_cell known.0)) (is_view_for s.image f.block known.0) known.2).1 f.stack (f.onward refl)))

  -- the line
  Typed-item : (stack : List Operand) (after : Sorts) → Onward s most c after → AllLead s stack → value_taken (sorts_of stack) ≡ Some after → Typed s most (act_item stack c)
  Typed-item [] after goes lead e = absurd (cc)
  Typed-item (Val v ∷ stack) after goes lead e = moves s most _ (with_line_well (c.line ++ item_of v) (going (suc c.at) stack c) (goes stack lead.1 (if_taken (is_value (sort_of_value v)) (sorts_of stack) after e).1))
  Typed-item (At at k ∷ stack) after goes lead e = absurd (cc)
  Typed-item (Area at shape ∷ stack) after goes lead e = absurd (cc)

  Typed-print : (channel : ℕ) → Well s most (going (suc c.at) c.stack c) → Typed s most (act_print s channel c)
  Typed-print channel next =
      either s most (nat_lt LINE_LIMIT (length c.line)) _ _
      (λ long. Typed-raised_before s most (error 3 3) (Asks (request.Print channel (take LINE_LIMIT c.line))) (with_line [] (going (suc c.at) c.stack c)) (omega arith) (with_line_well [] _ next) (λ h. cc))
      (λ fits. goes_on s most (request.Print channel c.line) (with_line [] (going (suc c.at) c.stack c)) (λ h. cc) (with_line_well [] _ next).typed)

  -- events
  Typed-event : (e : ℕ) (after : Sorts) → Onward s most c after → Some (sort_of (kind.Bits 1) ∷ sorts_of c.stack) ≡ Some after → Typed s most (act_event s e c)
  Typed-event e after goes is =
      either s most (nat_lt e (event_count s.tables)) _ _
      (λ has. awaits s most (request.Read (asked.Event e)) (Pushes (kind.Bits 1)) (going (suc c.at) c.stack c) (λ h. cc) well.typed.kept (λ v h. (goes (Val v ∷ c.stack) (tt, well.typed.lead) (ap (λ x. x ∷ sorts_of c.stack) h ∙ some_is (sort_of (kind.Bits 1) ∷ sorts_of c.stack) after is)).typed))
      (λ has. Typed-pushed s most (value.Bits 1 0) c.stack c after goes well.typed.lead (some_is (sort_of (kind.Bits 1) ∷ sorts_of c.stack) after is))

  Typed-event_change : (change : ℕ → Request) (e : ℕ) → Asking change → Well s most (going (suc c.at) c.stack c) → Typed s most (act_event_change s change e c)
  Typed-event_change change e asking next = Typed-changed s most change e (Then Goes) _ (going (suc c.at) c.stack c) asking next.typed.kept (λ r. (next.typed, tt)) (moves s most _ next)

  -- an instruction
  pub Typed-act : (i : Instr) → Is i → Typed s most (act s i c)
  Typed-act (instr.Int n) f = Typed-pushed s most (value.Int n) c.stack c f.after (on _ f (f.onward refl)) well.typed.lead (some_is _ f.after f.stack)
  Typed-act (instr.Bits len word) f = Typed-pushed s most (value.Bits len word) c.stack c f.after (on _ f (f.onward refl)) well.typed.lead (some_is _ f.after f.stack)
  Typed-act (instr.Text text) f = Typed-pushed s most (value.Text text) c.stack c f.after (on _ f (f.onward refl)) well.typed.lead (some_is _ f.after f.stack)
  Typed-act (instr.Cell view) f = Typed-cell view f
  Typed-act (instr.Whole view) f = Typed-whole view f
  Typed-act instr.Fetch f = Typed-fetch s most ground.same c.stack c f.after (on _ f (f.onward refl)) well.typed.kept well.typed.lead f.stack
  Typed-act instr.Peek f = Typed-peek s most ground.same c.stack c f.after (on _ f (f.onward refl)) well.typed.kept well.typed.lead f.stack
  Typed-act instr.Keep f = Typed-keep s most ground.same c.stack c f.after (on _ f (f.onward refl)) well.typed.lead f.stack
  Typed-act instr.Dup f = Typed-dup s most c.stack c f.after (on _ f (f.onward refl)) well.typed.lead f.stack
  Typed-act instr.Drop f = Typed-drop s most c.stack c f.after (on _ f (f.onward refl)) well.typed.lead f.stack
  Typed-act (instr.Event e) f = Typed-event e f.after (on _ f (f.onward refl)) f.stack
  Typed-act (instr.Op1 op) f = Typed-one s most op c.stack c f.after (on _ f (f.onward refl)) well.typed.lead f.stack
  Typed-act (instr.Op2 op) f = Typed-two s most op c.stack c f.after (on _ f (f.onward refl)) well.typed.lead f.stack
  Typed-act (instr.Len depth) f = Typed-len s most depth c f.after (on _ f (f.onward refl)) well.typed.lead f.stack
  Typed-act (instr.Pick chosen) f = Typed-pick s most chosen c f.after (on _ f (f.onward refl)) well.typed.lead f.stack
  Typed-act (instr.Patch chosen) f = Typed-patch s most chosen c f.after (on _ f (f.onward refl)) well.typed.lead f.stack
  Typed-act (instr.Jump target) f = moves s most _ (jump_well s most c well (instr.Jump target) f c.stack target _ well.typed.lead f.jumped)
  Typed-act (instr.JumpNot target) f = Typed-jump_not s most c well (instr.JumpNot target) f target c.stack _ f.after (on _ f (f.onward refl)) well.typed.lead f.stack f.jumped
  Typed-act (instr.Turn target) f = Typed-turn s most c well (instr.Turn target) f target _ f.after (on _ f (f.onward refl)) (some_is _ f.after f.stack) f.jumped
  Typed-act (instr.Call block) f = Typed-call s most c well (instr.Call block) f ground.whole block f.after f.operands (f.onward refl) f.stack
  Typed-act instr.Return f = Typed-return s most c well f
  Typed-act (instr.On group number r change event target) f = Typed-on s most c well group number r change event target f (subst (λ sorts. Stands s well.typed.number well.typed.inside (suc c.at) sorts) (sym (some_is (sorts_of c.stack) f.after f.stack)) (f.onward refl))
  Typed-act (instr.Off group number) f = Typed-off s most c well group number (same_on _ f (f.onward refl) f.stack)
  Typed-act (instr.Raise group number) f = Typed-raise s most c well group number f.operands (same_on _ f (f.onward refl) f.stack)
  Typed-act instr.ErrGrp f = Typed-pushed s most _ c.stack c f.after (on _ f (f.onward refl)) well.typed.lead (some_is _ f.after f.stack)
  Typed-act instr.ErrNum f = Typed-pushed s most _ c.stack c f.after (on _ f (f.onward refl)) well.typed.lead (some_is _ f.after f.stack)
  Typed-act (instr.Bind place) f = Typed-bind s most ground.same f.block ground.exists f.own place c.stack c f.after (on _ f (f.onward refl)) well.typed.lead f.stack
  Typed-act (instr.Copy place) f = Typed-copy s most ground.same f.block ground.exists f.own place c.stack c f.after (on _ f (f.onward refl)) well.typed.lead f.stack
  Typed-act (instr.Clear place count) f = Typed-clear s most ground.same place count c ground.firsts (same_on _ f (f.onward refl) f.stack)
  Typed-act instr.Next f = Typed-next s most c.stack c f.after (on _ f (f.onward refl)) well.typed.lead f.stack
  Typed-act instr.Begin f = goes_on s most request.Begin (with_line [] (going (suc c.at) c.stack c)) (λ h. cc) (with_line_well [] _ (same_on _ f (f.onward refl) f.stack)).typed
  Typed-act instr.Finish f = awaits s most request.Finish Renews c (λ h. cc) well.typed.kept tt
  Typed-act (instr.Schedule p begins prio dependent again until) f = Typed-schedule s most ground.same p begins prio dependent again until c f.after (on _ f (f.onward refl)) well.typed.lead f.operands f.stack
  Typed-act (instr.Cancel p) f = Typed-named s most ground.same ground.exists request.Cancel p c (λ q h. cc) f.operands (same_on _ f (f.onward refl) f.stack)
  Typed-act (instr.Terminate p) f = Typed-named s most ground.same ground.exists request.Terminate p c (λ q h. cc) f.operands (same_on _ f (f.onward refl) f.stack)
  Typed-act (instr.Wait one) f = Typed-wait s most ground.same one c f.after (on _ f (f.onward refl)) well.typed.lead f.operands f.stack
  Typed-act (instr.Signal e) f = Typed-event_change request.Signal e signals (same_on _ f (f.onward refl) f.stack)
  Typed-act (instr.Set e) f = Typed-event_change request.Set e sets (same_on _ f (f.onward refl) f.stack)
  Typed-act (instr.Reset e) f = Typed-event_change request.Reset e resets (same_on _ f (f.onward refl) f.stack)
  Typed-act (instr.Priority p) f = Typed-priority s most ground.same ground.exists p c.stack c f.after (on _ f (f.onward refl)) well.typed.lead f.operands f.stack
  Typed-act instr.Item f = Typed-item c.stack f.after (on _ f (f.onward refl)) well.typed.lead f.stack
  Typed-act (instr.Print channel) f = Typed-print channel (same_on _ f (f.onward refl) f.stack)
  Typed-act (instr.Input channel k target) f = awaits s most (request.Input channel k) (Takes target) (going (suc c.at) c.stack c) (λ h. cc) well.typed.kept (
    channel,
    k,
    refl,
    (λ v h. (on (instr.Input channel k target) f (f.onward refl) (Val v ∷ c.stack) (tt, well.typed.lead) (ap (λ x. x ∷ sorts_of c.stack) h ∙ some_is (sort_of k ∷ sorts_of c.stack) f.after f.stack)).typed),
    (jump_well s most c well (instr.Input channel k target) f c.stack target _ well.typed.lead f.jumped).typed,
  )
  Typed-act instr.Now f = awaits s most request.Now (Pushes kind.Double) (going (suc c.at) c.stack c) (λ h. cc) well.typed.kept (λ v h. (on instr.Now f (f.onward refl) (Val v ∷ c.stack) (tt, well.typed.lead) (ap (λ x. x ∷ sorts_of c.stack) h ∙ some_is (sort_of kind.Double ∷ sorts_of c.stack) f.after f.stack)).typed)
  Typed-act (instr.Open groups) f = Typed-open s most c well groups f
  Typed-act instr.Close f = Typed-close s most c well f
