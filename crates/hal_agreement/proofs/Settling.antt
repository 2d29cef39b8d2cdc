-- The end of a block: what is caught in it goes on there, and an UPDATE block is left.
use Rattle.std.specs.Prelude.{◌≡◌, ℕ, zero, suc, ◌≤◌, length, Bool, true, false, List, [], ◌∷◌, Option, Some, None, if◌then◌else◌}
use Rattle.std.proofs.Common.{refl, sym, ap, subst, ◌∙◌, arith}
use Rattle.hal_grammar.specs.Statements.{Statements}
use Rattle.hal_values.specs.declared.environment.Entry.{Entry}
use Rattle.hal_values.specs.Answers.{Answered}
use Rattle.hal_values.specs.Searching.{entered}
use Rattle.hal_states.specs.Modes.{closed}
use Rattle.hal_meaning.specs.Bodies.{Body}
use Rattle.hal_meaning.specs.Calls.{is_function}
use Rattle.hal_meaning.specs.Marks.{handling_in}
use Rattle.hal_meaning.specs.Sets.{body_at}
use Rattle.hal_meaning.specs.States.{State, with_entries, with_mode, Evaluated, Gives, Asks, Caught, Restarts, Lost, bind, Flow, Normal, Leaves, Repeats, Returned}
use Rattle.hal_meaning.specs.Access as tree
use Rattle.hal_meaning.specs.Access.{Here, updating}
use Rattle.hal_meaning.specs.Statements.{resumed, settled, update_left}
use Rattle.hal_meaning.specs.Tasks.{Meaning}
use Rattle.hal_meaning.specs.Runs.{in_function, ended, to_end}
use Rattle.hal_code.specs.declared.instr.Instr.TheVariants as instr
use Rattle.hal_code.specs.Cores.{Frame, Step, Moves}
use Rattle.hal_code.specs.Raising.{stuck}
use Rattle.hal_agreement.specs.Codes.{Code}
use Rattle.hal_agreement.specs.Sites.{site_of}
use Rattle.hal_agreement.specs.PlacedExpressions.{One}
use Rattle.hal_agreement.specs.PlacedStatements.{Leaving, NoReturn, Exits, of_block}
use Rattle.hal_agreement.proofs.Handling.{HandledAt}
use Rattle.hal_agreement.proofs.Knowing.{Out, flow_to, Sound, Ending}
use Rattle.hal_agreement.proofs.Leading.{Leads, through}
use Rattle.hal_agreement.proofs.Reaching.{Nest, nest, behind, coded_entries, setting, core_at, Holds, Reaches, OnStep, before, bind_on}
use Rattle.hal_agreement.proofs.Searching.{above, coded_above}
use Rattle.hal_agreement.proofs.Raising.{Standing, turned_reaches}
use Rattle.hal_agreement.proofs.Stating.{instr_leads, passes}

contrary : {b : Bool} → b ≡ true → b ≡ false → ⊥
contrary one other = cc

module _ (code : Code) (begin : ℕ) (rec : Meaning) (sound : Sound code begin rec) (h : Here) (n : Nest) (standing : Standing code h n) (leaving : Leaving) (out : Out) (finish : ℕ) (fine : Flow → State → Option Step)
    (ending : Ending code begin h n leaving out finish fine) where
  pub settled_holds : (step : Step) (left : List Answered) (r : Evaluated Flow) → Holds (setting code begin h) n fine step left r → Holds (setting code begin h) (behind n) fine step left (settled rec h r)
  settled_holds step left (Gives flow st) is = is
  settled_holds step left (Asks r k m) is = is
  settled_holds step left (Caught zero place st) is =
      (before (setting code begin h) (behind n) fine step left _ st.left _ is.1
      (turned_reaches code begin h (behind n) fine (stuck (core_at (n.spot 0 place) [] [] n st)) (n.spot 0 place) [] [] st (λ made begins. resumed rec h place made begins)
      (λ after. sound.resumes h n leaving out finish fine standing ending place after) (λ spent. absurd (contrary spent is.0.turns)))).holds
  settled_holds step left (Caught (suc level) place st) is = (record { deep = omega arith; few = is.0.few; turns = is.0.turns }, is.1)
  settled_holds step left (Restarts k rest) is = is
  settled_holds step left Lost is = tt

  -- the end of a block
  pub end_reaches : (step : Step) (left : List Answered) (r : Evaluated Flow) → Reaches (setting code begin h) n (flow_to (of_block leaving (n.spot 0)) out n finish) step left r → Reaches (setting code begin h) (behind n) fine step left (to_end rec h r)
  end_reaches step left r is = record {
    holds = settled_holds step left (bind r (λ flow after. ended h (in_function h) flow after))
        (bind_on (setting code begin h) n (flow_to (of_block leaving (n.spot 0)) out n finish) fine step left r (λ flow after. ended h (in_function h) flow after) is ending.ends).holds;
  }

-- the frame of the block around an UPDATE block, and the blocks then
abbrev pub around : Nest → State → Frame
around n st = record { entries = coded_entries (n.spot 0) st.entries; back = None }

abbrev pub updated : Nest → State → (ℕ → ℕ) → Nest
updated n st handler = nest (around n st ∷ n.frames) (above handler n.spot) 0

-- an UPDATE block is entered above the block in which it stands
pub stands_above : (code : Code) (h : Here) (n : Nest) (body : Statements) (first : ℕ) (st : State) (handler : ℕ → ℕ) → Standing code h n → Standing code (updating body first st.entries h) (updated n st handler)
stands_above code h n body first st handler standing = record {
  units = standing.units;
  process = standing.process;
  entered = λ es. ap (λ rest. entered (coded_entries handler es) true ∷ rest) (standing.entered st.entries ∙ sym (coded_above handler n.spot 0 (tree.all_entered h st.entries)));
  unleft = refl;
}

abbrev function_in : Bool → Option Body → Bool
function_in update o = elim o [ None ↦ false | Some b ↦ if update then false else is_function b.head ]

no_function : (o : Option Body) → function_in true o ≡ false
no_function None = refl
no_function (Some b) = refl

-- it belongs to no FUNCTION's end
pub update_plain : (h : Here) (body : Statements) (first : ℕ) (entries : List Entry) → in_function (updating body first entries h) ≡ false
update_plain h body first entries = no_function (body_at h.set h.unit)

module _ (code : Code) (begin : ℕ) (rec : Meaning) (sound : Sound code begin rec) (h : Here) (n : Nest) (standing : Standing code h n) (exits : Exits) (out : Out) (st : State) (handler : ℕ → ℕ) (last to : ℕ) (shuts : One code last instr.Close to) where
  shut_leads : (body : Statements) (first : ℕ) (after : State)
      → Leads (setting code begin h) (Moves (core_at last [] [] (updated n st handler) after)) after.left (Moves (core_at to [] [] n (with_entries st.entries (with_mode (closed after.mode) after)))) after.left
  shut_leads body first after =
      subst (λ end. Leads (setting code begin h) (Moves (core_at last [] [] (updated n st handler) after)) after.left (Moves (core_at end [] [] n (with_entries st.entries (with_mode (closed after.mode) after)))) after.left) shuts.1
      (instr_leads code begin rec sound (updating body first st.entries h) (updated n st handler) (stands_above code h n body first st handler standing) out instr.Close last after after.left
      (Moves (core_at (suc last) [] [] n (with_entries st.entries (with_mode (closed after.mode) after)))) shuts.0 refl)

  fewer : (level size : ℕ) → suc level ≤ suc size → level ≤ size
  fewer level size few = omega (arith, few)

  -- an UPDATE block is left
  pub updated_holds : (body : Statements) (first : ℕ) (step : Step) (left : List Answered) (r : Evaluated Flow)
      → Holds (setting code begin h) (behind (updated n st handler)) (flow_to (of_block NoReturn handler) (λ v after. None) (updated n st handler) last) step left r
      → Holds (setting code begin h) n (flow_to exits out n to) step left (update_left st.entries r)
  updated_holds body first step left (Gives Normal after) is =
      through (setting code begin h) step (Moves (core_at last [] [] (updated n st handler) after)) (Moves (core_at to [] [] n (with_entries st.entries (with_mode (closed after.mode) after)))) left after.left after.left is (shut_leads body first after)
  updated_holds body first step left (Gives (Leaves label) after) is = absurd is
  updated_holds body first step left (Gives (Repeats label) after) is = absurd is
  updated_holds body first step left (Gives (Returned v) after) is = absurd is
  updated_holds body first step left (Asks r k m) is = is
  updated_holds body first step left (Caught zero place after) is = absurd (omega (arith, is.0.deep))
  updated_holds body first step left (Caught (suc level) place after) is =
      (record { deep = omega (arith, standing.unleft); few = fewer level (length n.frames) is.0.few; turns = is.0.turns }, is.1)
  updated_holds body first step left (Restarts k rest) is = is
  updated_holds body first step left Lost is = tt

  -- its end, for statements of ON ERROR in it
  pub update_ends : (body : Statements) (first : ℕ) → ((place : ℕ) → HandledAt code (site_of h) (of_block NoReturn handler) (handling_in place first body) (handler place) last)
      → Ending code begin (updating body first st.entries h) (updated n st handler) NoReturn (λ v after. None) last (flow_to (of_block NoReturn handler) (λ v after. None) (updated n st handler) last)
  update_ends body first each = record {
    each = each;
    returns = record { without = λ from end after at. absurd at; with_value = λ v from after same at. absurd (cc) };
    ends = λ flow after. subst (λ b. OnStep (flow_to (of_block NoReturn handler) (λ v later. None) (updated n st handler) last flow after)
        (λ x. Reaches (setting code begin h) (updated n st handler) (flow_to (of_block NoReturn handler) (λ v later. None) (updated n st handler) last) x after.left (ended (updating body first st.entries h) b flow after)))
        (sym (update_plain h body first st.entries))
        (passes code begin rec sound (updating body first st.entries h) (updated n st handler) (stands_above code h n body first st handler standing) out (flow_to (of_block NoReturn handler) (λ v later. None) (updated n st handler) last) flow after
        (flow_to (of_block NoReturn handler) (λ v later. None) (updated n st handler) last flow after) refl);
  }
