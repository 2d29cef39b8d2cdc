-- The code of a unit that is called stands where it was put, and goes on.
use Rattle.std.specs.Prelude.{◌≡◌, ℕ, suc, ◌+◌, Bool, true, false, List, [], ◌∷◌, ◌++◌, length, map, Some, None, Ok, Err}
use Rattle.std.proofs.Common.{refl, sym, ap, ◌∙◌, arith, append-nil}
use Rattle.std.proofs.lemmas.List.{length-append}
use Rattle.hal_grammar.specs.Declarations as declarations
use Rattle.hal_grammar.specs.Declarations.{BooleanKind, BitKind, CharacterKind}
use Rattle.hal_grammar.specs.Statements.{Statements}
use Rattle.hal_grammar.specs.Units.{Head, Program, Compool, Task, Procedure, Function, Returns, NoKind, HasKind}
use Rattle.hal_values.specs.declared.value.Value.{Value}
use Rattle.hal_values.specs.declared.value.Value.TheVariants as value
use Rattle.hal_meaning.specs.Calls.{is_function, zero_of, zero_of_type, zero_of_returns}
use Rattle.hal_code.specs.Controlling as machine
use Rattle.hal_code.specs.Forward.{GoesOn}
use Rattle.hal_code.specs.declared.choice.Choice.TheVariants as choice
use Rattle.hal_code.specs.declared.instr.Instr.{Instr}
use Rattle.hal_code.specs.declared.instr.Instr.TheVariants as instr
use Rattle.hal_code.specs.declared.row.Block.{Block}
use Rattle.hal_agreement.specs.Codes.{Code}
use Rattle.hal_agreement.specs.PlacedExpressions.{Has, One, pushes}
use Rattle.hal_agreement.specs.PlacedStatements.{ToFinish, of_block, LeadsOut, StatementsAt}
use Rattle.hal_agreement.specs.PlacedBlocks.{EndAt, ClearsAt, leaving_by}
use Rattle.hal_agreement.specs.Sites.{Site}
use Rattle.hal_gen_expr.specs.Emitting.{Emitted, onwards}
use Rattle.hal_gen_expr.specs.Numbering.{Numbering}
use Rattle.hal_gen_expr.specs.Standing.{Begins, IsNumbered, Placed}
use Rattle.hal_gen_expr.proofs.Expressed.{ok_is}
use Rattle.hal_gen_expr.proofs.Forwarding.{Goes, none_goes, one_goes, joined_goes, first_goes}
use Rattle.hal_gen_expr.proofs.Growing.{append_append, none_placed, one_placed, first_placed}
use Rattle.hal_gen.specs.StatementCode.{block_code}
use Rattle.hal_gen.proofs.Forwarding.{Ahead, block_goes}
use Rattle.hal_gen.proofs.Stated.{block_stands}
use Rattle.hal_link.specs.UnitCode.{clears_of, clear_of, cleared_code, end_code, to_caller, body_code, unit_code, kind_of_type, kind_of_returns, kind_of_result, unit_block}

-- what a block gives back where nothing was returned
zero_of_kind : (kind : declarations.Kind) → machine.zero_of (choice.Known (kind_of_type kind)) ≡ Some (zero_of_type kind)
zero_of_kind (BooleanKind place) = refl
zero_of_kind (BitKind place size) = refl
zero_of_kind (CharacterKind place size) = refl
zero_of_kind other = refl

zero_returned : (returns : Returns) → machine.zero_of (choice.Known (kind_of_returns returns)) ≡ Some (zero_of_returns returns)
zero_returned NoKind = refl
zero_returned (HasKind kind precision) = zero_of_kind kind

zero_given : (head : Head) → is_function head ≡ true → machine.zero_of (choice.Known (kind_of_result head)) ≡ Some (zero_of head)
zero_given (Function place inputs returns mode) is = zero_returned returns
zero_given (Program place) is = absurd (cc)
zero_given (Compool place) is = absurd (cc)
zero_given (Task place) is = absurd (cc)
zero_given (Procedure place inputs outputs mode) is = absurd (cc)

none_given : (head : Head) → is_function head ≡ false → machine.zero_of (choice.Known (kind_of_result head)) ≡ None
none_given (Function place inputs returns mode) is = absurd (cc)
none_given (Program place) is = refl
none_given (Compool place) is = refl
none_given (Task place) is = refl
none_given (Procedure place inputs outputs mode) is = refl

-- RETURN leads to no instruction of the unit
no_finish : (function : Bool) (at : ℕ) → leaving_by function ≡ ToFinish at → ⊥
no_finish true at is = absurd (cc)
no_finish false at is = absurd (cc)

to_the_caller : (head : Head) (to : ℕ) → Ahead (to_caller head) to
to_the_caller head to =
    record {
      exit = λ label target there. absurd (cc);
      again = λ label target there. absurd (cc);
      finish = λ at there. absurd (no_finish (is_function head) at there);
    }

-- an instruction that puts a value on the stack goes on
pushes_on : (code : List Instr) (at : ℕ) (v : Value) → GoesOn code at (pushes v)
pushes_on code at (value.Int a) = tt
pushes_on code at (value.Bits len word) = tt
pushes_on code at (value.Text text) = tt

module _ (code : Code) where
  -- CLEAR of places, one by one
  clears_placed : (cs : List (ℕ × ℕ)) (before after : List Instr) → before ++ map clear_of cs ≡ after → Begins after code.image.code → Placed code before after (λ from to. ClearsAt code cs from to)
  clears_placed [] before after is begins = none_placed code before after (sym (append-nil before) ∙ is) begins
  clears_placed (c ∷ cs) before after is begins =
      first_placed code {B = λ from to. ClearsAt code cs from to} before after (clear_of c)
      (clears_placed cs (before ++ (clear_of c ∷ [])) after (append_append before (clear_of c ∷ []) (map clear_of cs) ∙ is) begins)

  clears_go : (cs : List (ℕ × ℕ)) (from to : ℕ) → ClearsAt code cs from to → Goes code from to
  clears_go [] from to at = none_goes code from to at
  clears_go (c ∷ cs) from to at = first_goes code from to (clear_of c) at.0 tt (clears_go cs (suc from) to at.1)

  -- what is known of the end of a unit
  record Ended (function : Bool) (head : Head) (row : Block) (before after : List Instr) : Type 0 where
    pub at : EndAt code function head row (length before)
    pub goes : Goes code (length before) (length after)
    pub begins : Begins before code.image.code

  ended : (function : Bool) (p : ℕ) (head : Head) (first last : ℕ) → is_function head ≡ function → (before after : List Instr) → before ++ end_code function head ≡ after → Begins after code.image.code
      → Ended function head (unit_block p head first last) before after
  ended false p head first last form before after is begins =
      let there = one_placed code before after instr.Return is begins in
      record { at = (there.at.0, none_given head form); goes = one_goes code (length before) (length after) instr.Return there.at tt; begins = there.begins }
  ended true p head first last form before after is begins =
      let raise = instr.Raise 1 7 in
      let push = pushes (zero_of head) in
      let raised = before ++ (raise ∷ []) in
      let grown : (raised ++ (push ∷ [])) ++ (instr.Return ∷ []) ≡ after =
      append_append raised (push ∷ []) (instr.Return ∷ []) ∙ (append_append before (raise ∷ []) (push ∷ instr.Return ∷ []) ∙ is) in
      let late = one_placed code (raised ++ (push ∷ [])) after instr.Return grown begins in
      let middle = first_placed code {B = λ from to. One code from instr.Return to} raised after push late in
      let there = first_placed code {B = λ from to. Has code from push × One code (suc from) instr.Return to} before after raise middle in
      record {
        at = (there.at.0, there.at.1.0, there.at.1.1.0, zero_given head form);
        goes = first_goes code (length before) (length after) raise there.at.0 tt
            (first_goes code (suc (length before)) (length after) push there.at.1.0 (pushes_on code.image.code (suc (length before)) (zero_of head))
            (one_goes code (suc (suc (length before))) (length after) instr.Return there.at.1.1 tt));
        begins = there.begins;
      }

module _ (code : Code) (n : Numbering) (site : Site) (numbered : IsNumbered code n) where
  -- what is known of the code of a unit's statements and its end
  record BodyCoded (row : Block) (before after : List Instr) (head : Head) (body : Statements) : Type 0 where
    pub handler : ℕ → ℕ
    pub finish : ℕ
    pub statements : StatementsAt code site (of_block (leaving_by (is_function head)) handler) 0 body (length before) finish
    pub leads_out : LeadsOut handler 0 body finish
    pub ends : EndAt code (is_function head) head row finish
    pub long : length after ≡ finish + length (end_code (is_function head) head)
    pub goes : Goes code (length before) (length after)
    pub begins : Begins before code.image.code

  -- of its statements, which end in this code
  coded_by : (p first last : ℕ) (head : Head) (body : Statements) (before middle after : List Instr) → block_code n site before (to_caller head) 0 body ≡ Ok middle
      → middle ++ end_code (is_function head) head ≡ after → Begins after code.image.code → BodyCoded (unit_block p head first last) before after head body
  coded_by p first last head body before middle after there is begins =
      let exits = to_caller head in
      let last_code = ended code (is_function head) p head first last refl middle after is begins in
      let inner = block_stands code n site numbered body exits 0 before middle there last_code.begins in
      let forward = block_goes code n site numbered body exits 0 before middle there (to_the_caller head (length middle)) last_code.begins in
      record {
        handler = inner.at.0;
        finish = length middle;
        statements = inner.at.1;
        leads_out = inner.at.2;
        ends = last_code.at;
        long = ap (λ (all : List Instr). length all) (sym is) ∙ length-append middle (end_code (is_function head) head);
        goes = joined_goes code (length before) (length middle) (length after) forward.at last_code.goes;
        begins = inner.begins;
      }

  coded_with : (p first last : ℕ) (head : Head) (body : Statements) (before after : List Instr) (r : Emitted) → block_code n site before (to_caller head) 0 body ≡ r
      → onwards r (λ middle. Ok (middle ++ end_code (is_function head) head)) ≡ Ok after → Begins after code.image.code → BodyCoded (unit_block p head first last) before after head body
  coded_with p first last head body before after (Ok middle) there is begins = coded_by p first last head body before middle after there (ok_is (middle ++ end_code (is_function head) head) after is) begins
  coded_with p first last head body before after (Err place) there is begins = absurd (cc)

  body_at : (p first last : ℕ) (head : Head) (body : Statements) (before after : List Instr) → body_code n site before head body ≡ Ok after → Begins after code.image.code
      → BodyCoded (unit_block p head first last) before after head body
  body_at p first last head body before after is begins =
      coded_with p first last head body before after (block_code n site before (to_caller head) 0 body) refl is begins

  -- what is known of the code of a unit
  pub record UnitCoded (row : Block) (before after : List Instr) (head : Head) (body : Statements) : Type 0 where
    pub clears : ClearsAt code (clears_of site) (length before) (length (cleared_code site before))
    pub handler : ℕ → ℕ
    pub finish : ℕ
    pub statements : StatementsAt code site (of_block (leaving_by (is_function head)) handler) 0 body (length (cleared_code site before)) finish
    pub leads_out : LeadsOut handler 0 body finish
    pub ends : EndAt code (is_function head) head row finish
    pub long : length after ≡ finish + length (end_code (is_function head) head)
    pub goes : Goes code (length before) (length after)
    pub begins : Begins before code.image.code

  pub unit_at : (p first last : ℕ) (head : Head) (body : Statements) (before after : List Instr) → unit_code n site before head body ≡ Ok after → Begins after code.image.code
      → UnitCoded (unit_block p head first last) before after head body
  unit_at p first last head body before after is begins =
      let inner = body_at p first last head body (cleared_code site before) after is begins in
      let opening = clears_placed code (clears_of site) before (cleared_code site before) refl inner.begins in
      record {
        clears = opening.at;
        handler = inner.handler;
        finish = inner.finish;
        statements = inner.statements;
        leads_out = inner.leads_out;
        ends = inner.ends;
        long = inner.long;
        goes = joined_goes code (length before) (length (cleared_code site before)) (length after) (clears_go code (clears_of site) (length before) (length (cleared_code site before)) opening.at) inner.goes;
        begins = opening.begins;
      }
