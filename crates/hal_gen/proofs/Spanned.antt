-- The code by which a DO FOR gives its variable values stands where it was put, and goes on.
use Rattle.std.specs.Prelude.{◌≡◌, ◌≤◌, ◌<◌, ℕ, suc, ◌+◌, List, [], ◌∷◌, ◌++◌, length, pos, Option, Some, None, Ok}
use Rattle.std.specs.Option.{option_map}
use Rattle.std.proofs.Common.{refl, sym, ap, subst, ◌∙◌, inl, inr, arith}
use Rattle.hal_base.specs.declared.refusal.Place.{Place}
use Rattle.hal_grammar.specs.Expressions.{Expression, Expressions, NoExpressions, MoreExpressions}
use Rattle.hal_grammar.specs.Statements.{Guard, Span, Stepped, Listed}
use Rattle.hal_states.specs.Spots.{Held}
use Rattle.hal_meaning.specs.Variables.{Meant, MeantData, MeantConstant, MeantEvent, MeantBlock, MeantBuiltin, MeantNothing, name_meant}
use Rattle.hal_code.specs.declared.instr.Instr.{Instr}
use Rattle.hal_code.specs.declared.instr.Instr.TheVariants as instr
use Rattle.hal_agreement.specs.Codes.{Code}
use Rattle.hal_agreement.specs.PlacedExpressions.{Has, One, ExpressionAt}
use Rattle.hal_agreement.specs.PlacedGroups.{KeepsAt, HoldsAt, CaseAt, BoundsAt, NextAt}
use Rattle.hal_agreement.specs.PlacedStatements.{KeptAt, VariableAt, FetchedAt, VariableValueAt, TestAt, FirstSpanAt, LaterSpanAt, StepAt, BegunAt, SteppingAt, ValueKeptAt, NextValueAt, ListingAt}
use Rattle.hal_agreement.specs.Sites.{Site, here_at}
use Rattle.hal_storage.specs.referents.Referents.{Referent, DataOf, ConstantOf, EventOf, BlockOf, BuiltinOf, Unmeant}
use Rattle.hal_gen_expr.specs.Emitting.{onwards, emit}
use Rattle.hal_gen_expr.specs.ExpressionCode.{emit_one, expression_code}
use Rattle.hal_gen_expr.specs.Numbering.{Numbering, below}
use Rattle.hal_gen_expr.specs.Referents.{referent}
use Rattle.hal_gen_expr.specs.Standing.{Begins, IsNumbered, Placed}
use Rattle.hal_gen_expr.proofs.Expressed.{ok_is, expression_at}
use Rattle.hal_gen_expr.proofs.Forwarding.{Goes, none_goes, one_goes, joined_goes, first_goes, expression_goes}
use Rattle.hal_gen_expr.proofs.Growing.{weaker, one_placed, none_placed, first_placed, both_there, both_placed, emitted}
use Rattle.hal_gen_expr.proofs.Named.{element_at, two_placed}
use Rattle.hal_gen_expr.proofs.Numbered.{below_is, mapped_is}
use Rattle.hal_gen_expr.proofs.Referring.{meaning_of, name_means}
use Rattle.hal_gen.specs.declared.kept.Cells.{Cells}
use Rattle.hal_gen.specs.KeptCode.{case_code, holding, bounds_keeping, bounding, counting}
use Rattle.hal_gen.specs.Sizes.{value_size, next_values_size}
use Rattle.hal_gen.specs.SpanCode.{variable_of, store_code, fetch_code, step_code, begun_code, counted_code, counted_in, value_code, next_values_code, begin_code, again_code}
use Rattle.hal_gen.specs.StatementCode.{first_span_code, later_span_code}
use Rattle.hal_gen.proofs.Keeping.{RowAt, row_placed, IsCell, keeps_at, case_at, case_goes, keeps_go, holds_go, AreCells, holding_at, bounds_kept_at, bounding_at, counting_at, bounds_go, next_goes}
use Rattle.hal_gen.proofs.Measured.{value_longer, next_values_longer}
use Rattle.hal_gen.proofs.Simple.{first_test_at, test_at}

module _ (code : Code) (n : Numbering) (site : Site) (numbered : IsNumbered code n) where
  -- the variable
  stored_there : (held : List Held) (r : Referent) (i : Instr) (from to : ℕ) → variable_of n site r ≡ Some i → Has code from i → One code (suc from) instr.Keep to → KeptAt code [] held (meaning_of site held r) from to
  stored_there held (DataOf k stored shape) i from to is has one = (element_at code n site numbered [] k stored shape i from held is has, one)
  stored_there held (ConstantOf v) i from to is has one = absurd (cc)
  stored_there held (EventOf e) i from to is has one = absurd (cc)
  stored_there held (BlockOf unit) i from to is has one = absurd (cc)
  stored_there held (BuiltinOf b) i from to is has one = absurd (cc)
  stored_there held Unmeant i from to is has one = absurd (cc)

  fetched_there : (held : List Held) (r : Referent) (i : Instr) (from to : ℕ) → variable_of n site r ≡ Some i → Has code from i → One code (suc from) instr.Fetch to → FetchedAt code held (meaning_of site held r) from to
  fetched_there held (DataOf k stored shape) i from to is has one = (element_at code n site numbered [] k stored shape i from held is has, one)
  fetched_there held (ConstantOf v) i from to is has one = absurd (cc)
  fetched_there held (EventOf e) i from to is has one = absurd (cc)
  fetched_there held (BlockOf unit) i from to is has one = absurd (cc)
  fetched_there held (BuiltinOf b) i from to is has one = absurd (cc)
  fetched_there held Unmeant i from to is has one = absurd (cc)

  variable_at : (place : Place) (name : List ℕ) (before after : List Instr) → store_code n site before place name ≡ Ok after → Begins after code.image.code → Placed code before after (λ from to. VariableAt code site name from to)
  variable_at place name before after e begins =
      let given = emitted before place (option_map (λ i. i ∷ instr.Keep ∷ []) (variable_of n site (referent site name))) after e in
      let one = mapped_is (λ i. i ∷ instr.Keep ∷ []) (variable_of n site (referent site name)) given.0 given.1 in
      weaker code before after
      (λ from to at held. subst (λ m. KeptAt code [] held m from to) (sym (name_means site held name)) (stored_there held (referent site name) one.0 from to one.1 at.0 (at.1.0, at.1.1)))
      (row_placed code (one.0 ∷ instr.Keep ∷ []) before after (ap (λ l. before ++ l) one.2 ∙ given.2) begins)

  variable_value_at : (place : Place) (name : List ℕ) (before after : List Instr) → fetch_code n site before place name ≡ Ok after → Begins after code.image.code → Placed code before after (λ from to. VariableValueAt code site name from to)
  variable_value_at place name before after e begins =
      let given = emitted before place (option_map (λ i. i ∷ instr.Fetch ∷ []) (variable_of n site (referent site name))) after e in
      let one = mapped_is (λ i. i ∷ instr.Fetch ∷ []) (variable_of n site (referent site name)) given.0 given.1 in
      weaker code before after
      (λ from to at held. subst (λ m. FetchedAt code held m from to) (sym (name_means site held name)) (fetched_there held (referent site name) one.0 from to one.1 at.0 (at.1.0, at.1.1)))
      (row_placed code (one.0 ∷ instr.Fetch ∷ []) before after (ap (λ l. before ++ l) one.2 ∙ given.2) begins)

  -- tests
  pub first_span_at : (g : Option Guard) (exit : ℕ) (before after : List Instr) → first_span_code n site before g exit ≡ Ok after → Begins after code.image.code → Placed code before after (λ from to. FirstSpanAt code site g from exit to)
  first_span_at None exit before after e begins = none_placed code before after (ok_is before after e) begins
  first_span_at (Some g) exit before after e begins = first_test_at code n site numbered g exit before after e begins

  later_span_at : (place : Place) (g : Option Guard) (turn exit : ℕ) (before after : List Instr) → later_span_code n site before place g turn exit ≡ Ok after → exit ≡ length after → Begins after code.image.code
      → Placed code before after (λ from to. LaterSpanAt code site g from turn to)
  later_span_at place None turn exit before after e ends begins = one_placed code before after (instr.Jump turn) (ok_is _ after e) begins
  later_span_at place (Some g) turn exit before after e ends begins = test_at code n site numbered g turn exit before after e ends begins

  step_at : (place : Place) (step : Option Expression) (before after : List Instr) → step_code n site before place step ≡ Ok after → Begins after code.image.code → Placed code before after (λ from to. StepAt code site step from to)
  step_at place None before after e begins = one_placed code before after (instr.Int (pos 1)) (ok_is _ after e) begins
  step_at place (Some tree) before after e begins = expression_at code n site numbered tree before after e begins

  module _ (c : Cells) (own : ℕ) (are : AreCells code c own) (place : Place) (name : List ℕ) where
    -- TO
    abbrev Bound : ℕ → ℕ → ℕ → Type 0
    Bound exit from to =
        (one : ℕ) × (two : ℕ) × (three : ℕ) × (four : ℕ) × (five : ℕ) × KeepsAt code (suc own) from one × KeepsAt code own one two × KeepsAt code (suc (suc own)) two three
        × HoldsAt code (suc (suc own)) three four × VariableAt code site name four five × BoundsAt code own five exit to

    bound_at : (exit : ℕ) (before after : List Instr) → onwards (store_code n site (bounds_keeping before c) place name) (λ stored. Ok (bounding stored c exit)) ≡ Ok after → Begins after code.image.code
        → Placed code before after (λ from to. Bound exit from to)
    bound_at exit before after e begins =
        weaker code before after (λ from to at. (at.1.0, at.1.1, at.1.2, at.0, at.2.0, at.1.3, at.1.4, at.1.5, at.1.6, at.2.1, at.2.2))
        (both_placed code
        {A = λ from to. (one : ℕ) × (two : ℕ) × (three : ℕ) × KeepsAt code (suc own) from one × KeepsAt code own one two × KeepsAt code (suc (suc own)) two three × HoldsAt code (suc (suc own)) three to}
        {B = λ from to. (five : ℕ) × VariableAt code site name from five × BoundsAt code own five exit to}
        (Ok (bounds_keeping before c)) (λ kept. onwards (store_code n site kept place name) (λ stored. Ok (bounding stored c exit))) before after e
        (λ kept got begun. bounds_kept_at code c own are before kept (ok_is _ kept got) begun)
        (λ kept got. both_placed code {A = λ from to. VariableAt code site name from to} {B = λ from to. BoundsAt code own from exit to} (store_code n site kept place name) (λ stored. Ok (bounding stored c exit)) kept after got
        (λ stored there begun. variable_at place name kept stored there begun) (λ stored there. bounding_at code c own are exit stored after (ok_is _ after there) begins)))

    begun_at : (exit : ℕ) (first last : Expression) (step : Option Expression) (before after : List Instr) → begun_code n site before place name c exit first last step ≡ Ok after → Begins after code.image.code
        → Placed code before after (λ from to. BegunAt code site name own first last step from exit to)
    begun_at exit first last step before after e begins =
        weaker code before after
        (λ from to at. (at.0, at.2.0, at.2.2.0, at.2.2.2.0, at.2.2.2.1, at.2.2.2.2, at.2.2.2.3, at.2.2.2.4, at.1, at.2.1, at.2.2.1, at.2.2.2.5, at.2.2.2.6, at.2.2.2.7, at.2.2.2.8, at.2.2.2.9, at.2.2.2.10))
        (both_placed code {A = λ from to. ExpressionAt code site first from to}
        {B = λ from to. (two : ℕ) × ExpressionAt code site last from two × ((three : ℕ) × StepAt code site step two three × Bound exit three to)}
        (expression_code n site before first) _ before after e (λ one there begun. expression_at code n site numbered first before one there begun)
        (λ one there. both_placed code {A = λ from to. ExpressionAt code site last from to} {B = λ from to. (three : ℕ) × StepAt code site step from three × Bound exit three to}
        (expression_code n site one last) _ one after there (λ two got begun. expression_at code n site numbered last one two got begun)
        (λ two got. both_placed code {A = λ from to. StepAt code site step from to} {B = λ from to. Bound exit from to} (step_code n site two place step) _ two after got
        (λ three is begun. step_at place step two three is begun) (λ three is. bound_at exit three after is begins))))

    counted_at : (exit : ℕ) (before after : List Instr) → counted_code n site before place name c exit ≡ Ok after → Begins after code.image.code
        → Placed code before after (λ from to. (one : ℕ) × (two : ℕ) × (three : ℕ) × VariableValueAt code site name from one × NextAt code own one exit two × HoldsAt code (suc (suc own)) two three × VariableAt code site name three to)
    counted_at exit before after e begins =
        weaker code before after (λ from to at. (at.0, at.2.0, at.2.2.0, at.1, at.2.1, at.2.2.1, at.2.2.2))
        (both_placed code {A = λ from to. VariableValueAt code site name from to}
        {B = λ from to. (two : ℕ) × NextAt code own from exit two × ((three : ℕ) × HoldsAt code (suc (suc own)) two three × VariableAt code site name three to)}
        (fetch_code n site before place name) _ before after e (λ fetched there begun. variable_value_at place name before fetched there begun)
        (λ fetched there. both_placed code {A = λ from to. NextAt code own from exit to} {B = λ from to. (three : ℕ) × HoldsAt code (suc (suc own)) from three × VariableAt code site name three to}
        (Ok (counting fetched c exit)) (λ counted. store_code n site (holding counted c.value) place name) fetched after there
        (λ counted got begun. counting_at code c own are exit fetched counted (ok_is _ counted got) begun)
        (λ counted got. both_placed code {A = λ from to. HoldsAt code (suc (suc own)) from to} {B = λ from to. VariableAt code site name from to}
        (Ok (holding counted c.value)) (λ held. store_code n site held place name) counted after got
        (λ held is begun. holding_at code c own are counted held (ok_is _ held is) begun) (λ held is. variable_at place name held after is begins))))

    -- a list
    counted_there : (k : ℕ) (before after : List Instr) → emit before place (option_map (counted_in c.last) (below 2147483648 k)) ≡ Ok after → Begins after code.image.code
        → Placed code before after (λ from to. Has code from (instr.Int (pos k)) × KeepsAt code own (suc from) to)
    counted_there k before after e begins =
        let given = emitted before place (option_map (counted_in c.last) (below 2147483648 k)) after e in
        let low = mapped_is (counted_in c.last) (below 2147483648 k) given.0 given.1 in
        let same : counted_in c.last k ≡ given.0 = ap (counted_in c.last) (below_is 2147483648 k low.0 low.1) ∙ low.2 in
        weaker code before after (λ from to at. (at.0, keeps_at code c.last own are.0 (suc from) to at.1.0 (at.1.1.0, at.1.1.1)))
        (row_placed code (counted_in c.last k) before after (ap (λ is. before ++ is) same ∙ given.2) begins)

    value_at : (k : ℕ) (tree : Expression) (before after : List Instr) → value_code n site before place name c.last k tree ≡ Ok after → Begins after code.image.code
        → Placed code before after (λ from to. ValueKeptAt code site name own k tree from to)
    value_at k tree before after e begins =
        weaker code before after (λ from to at. (at.0, at.2.0, at.1, at.2.1, at.2.2.0, at.2.2.1))
        (both_placed code {A = λ from to. ExpressionAt code site tree from to} {B = λ from to. (stored : ℕ) × VariableAt code site name from stored × (Has code stored (instr.Int (pos k)) × KeepsAt code own (suc stored) to)}
        (expression_code n site before tree) _ before after e (λ valued there begun. expression_at code n site numbered tree before valued there begun)
        (λ valued there. both_placed code {A = λ from to. VariableAt code site name from to} {B = λ from to. Has code from (instr.Int (pos k)) × KeepsAt code own (suc from) to}
        (store_code n site valued place name) _ valued after there (λ stored got begun. variable_at place name valued stored got begun) (λ stored got. counted_there k stored after got begins)))

    -- a value behind its test, a jump behind it, and those that follow
    next_first : (k : ℕ) (tree : Expression) (others : Expressions) (exit test : ℕ) (tested after : List Instr)
        → ((before : List Instr) → next_values_code n site before place name c.last (suc k) exit test others ≡ Ok after → Placed code before after (λ from to. NextValueAt code site name own (suc k) others from exit test to))
        → onwards (value_code n site tested place name c.last (suc k) tree) (λ stored. next_values_code n site (stored ++ (instr.Jump test ∷ [])) place name c.last (suc k) exit test others) ≡ Ok after
        → Placed code tested after (λ from to. (end : ℕ) × ValueKeptAt code site name own (suc k) tree from end × (end ≡ from + value_size n site tree) × Has code end (instr.Jump test)
        × NextValueAt code site name own (suc k) others (suc end) exit test to)
    next_first k tree others exit test tested after rest e =
        let there = both_there code {A = λ from to. ValueKeptAt code site name own (suc k) tree from to}
        {B = λ end to. (end ≡ length tested + value_size n site tree) × Has code end (instr.Jump test) × NextValueAt code site name own (suc k) others (suc end) exit test to}
        (value_code n site tested place name c.last (suc k) tree) _ tested after e
        (λ stored there begun. value_at (suc k) tree tested stored there begun)
        (λ stored there late. let behind = first_placed code {B = λ from to. NextValueAt code site name own (suc k) others from exit test to} stored after (instr.Jump test) (rest (stored ++ (instr.Jump test ∷ [])) late) in
        record { at = (value_longer n site place name c.last (suc k) tree tested stored there, behind.at.0, behind.at.1); begins = behind.begins })
        in record { at = (there.at.0, there.at.1, there.at.2.0, there.at.2.1, there.at.2.2); begins = there.begins }

    next_values_at : (k : ℕ) (values : Expressions) (exit test : ℕ) (before after : List Instr) → next_values_code n site before place name c.last k exit test values ≡ Ok after → Begins after code.image.code
        → Placed code before after (λ from to. NextValueAt code site name own k values from exit test to)
    next_values_at k NoExpressions exit test before after e begins = one_placed code before after (instr.Jump exit) (ok_is _ after e) begins
    next_values_at k (MoreExpressions tree others) exit test before after e begins =
        weaker code before after
        (λ from to at. (at.0, at.2.0, subst (λ far. CaseAt code own k from far at.0) (let far : at.0 + (value_size n site tree + 1) ≡ suc at.2.0 = omega (arith, at.2.2) in far) at.1, at.2.1, at.2.3, at.2.4))
        (both_placed code {A = λ from to. CaseAt code own k from (to + (value_size n site tree + 1)) to}
        {B = λ from to. (end : ℕ) × ValueKeptAt code site name own (suc k) tree from end × (end ≡ from + value_size n site tree) × Has code end (instr.Jump test) × NextValueAt code site name own (suc k) others (suc end) exit test to}
        (case_code before place c.last k (value_size n site tree)) _ before after e
        (λ tested there begun. case_at code c.last own are.0 k (value_size n site tree) place before tested there begun)
        (λ tested there. next_first k tree others exit test tested after (λ front late. next_values_at (suc k) others exit test front after late begins) there))

    -- what stands before the first test, and behind a turn
    abbrev pub BeginAt : Span → ℕ → ℕ → ℕ → Type 0
    BeginAt (Stepped first last step) from exit to = BegunAt code site name own first last step from exit to
    BeginAt (Listed NoExpressions) from exit to = ⊥
    BeginAt (Listed (MoreExpressions first others)) from exit to = ValueKeptAt code site name own 1 first from to

    abbrev pub AgainAt : Span → Option Guard → ℕ → ℕ → ℕ → Type 0
    AgainAt (Stepped first last step) g from turn to = SteppingAt code site name own g from turn to
    AgainAt (Listed NoExpressions) g from turn to = ⊥
    AgainAt (Listed (MoreExpressions first others)) g from turn to = ListingAt code site name own others g from turn to

    pub begin_at : (span : Span) (exit : ℕ) (before after : List Instr) → begin_code n site before place name c exit span ≡ Ok after → Begins after code.image.code → Placed code before after (λ from to. BeginAt span from exit to)
    begin_at (Stepped first last step) exit before after e begins = begun_at exit first last step before after e begins
    begin_at (Listed NoExpressions) exit before after e begins = absurd (cc)
    begin_at (Listed (MoreExpressions first others)) exit before after e begins = value_at 1 first before after e begins

    pub again_at : (span : Span) (g : Option Guard) (turn exit : ℕ) (before after : List Instr) → onwards (again_code n site before place name c exit span) (λ counted. later_span_code n site counted place g turn exit) ≡ Ok after
        → exit ≡ length after → Begins after code.image.code → Placed code before after (λ from to. AgainAt span g from turn to)
    again_at (Stepped first last step) g turn exit before after e ends begins =
        let there = both_placed code
        {A = λ from to. (one : ℕ) × (two : ℕ) × (three : ℕ) × VariableValueAt code site name from one × NextAt code own one exit two × HoldsAt code (suc (suc own)) two three × VariableAt code site name three to}
        {B = λ from to. LaterSpanAt code site g from turn to} (counted_code n site before place name c exit) _ before after e (λ counted got begun. counted_at exit before counted got begun)
        (λ counted got. later_span_at place g turn exit counted after got ends begins) in
        record {
          at = (
            there.at.1.0,
            there.at.1.1,
            there.at.1.2,
            there.at.0,
            there.at.1.3,
            subst (λ end. NextAt code own there.at.1.0 end there.at.1.1) ends there.at.1.4,
            there.at.1.5,
            there.at.1.6,
            there.at.2,
          );
          begins = there.begins;
        }
    again_at (Listed NoExpressions) g turn exit before after e ends begins = absurd (cc)
    again_at (Listed (MoreExpressions first others)) g turn exit before after e ends begins =
        let test = length before + next_values_size n site others in
        let there = both_there code {A = λ from to. NextValueAt code site name own 1 others from exit test to} {B = λ from to. (from ≡ test) × LaterSpanAt code site g from turn to}
        (next_values_code n site before place name c.last 1 exit test others) _ before after e (λ counted got begun. next_values_at 1 others exit test before counted got begun)
        (λ counted got late. let rest = later_span_at place g turn exit counted after late ends begins in
        record { at = (next_values_longer n site place name c.last 1 exit test others before counted got, rest.at); begins = rest.begins }) in
        record {
          at = (
            there.at.0,
            subst (λ joint. NextValueAt code site name own 1 others (length before) (length after) joint there.at.0) (sym there.at.2.0)
                (subst (λ end. NextValueAt code site name own 1 others (length before) end test there.at.0) ends there.at.1),
            there.at.2.1,
          );
          begins = there.begins;
        }

-- they go on
module _ (code : Code) (site : Site) where
  stored_goes : (m : Meant) (from to : ℕ) → KeptAt code [] [] m from to → Goes code from to
  stored_goes (MeantData at shape) from to there = first_goes code from to _ there.0.cell tt (one_goes code (suc from) to _ there.1 tt)
  stored_goes (MeantConstant v) from to there = absurd there
  stored_goes (MeantEvent e) from to there = absurd there
  stored_goes (MeantBlock unit) from to there = absurd there
  stored_goes (MeantBuiltin b) from to there = absurd there
  stored_goes MeantNothing from to there = absurd there

  fetched_goes : (m : Meant) (from to : ℕ) → FetchedAt code [] m from to → Goes code from to
  fetched_goes (MeantData at shape) from to there = first_goes code from to _ there.0.cell tt (one_goes code (suc from) to _ there.1 tt)
  fetched_goes (MeantConstant v) from to there = absurd there
  fetched_goes (MeantEvent e) from to there = absurd there
  fetched_goes (MeantBlock unit) from to there = absurd there
  fetched_goes (MeantBuiltin b) from to there = absurd there
  fetched_goes MeantNothing from to there = absurd there

  variable_goes : (name : List ℕ) (from to : ℕ) → VariableAt code site name from to → Goes code from to
  variable_goes name from to at = stored_goes (name_meant (here_at site) name []) from to (at [])

  variable_value_goes : (name : List ℕ) (from to : ℕ) → VariableValueAt code site name from to → Goes code from to
  variable_value_goes name from to at = fetched_goes (name_meant (here_at site) name []) from to (at [])

  step_goes : (step : Option Expression) (from to : ℕ) → StepAt code site step from to → Goes code from to
  step_goes None from to at = one_goes code from to _ at tt
  step_goes (Some tree) from to at = expression_goes code site tree from to at

  pub begun_goes : (name : List ℕ) (own : ℕ) (first last : Expression) (step : Option Expression) (from exit to : ℕ) → BegunAt code site name own first last step from exit to → to ≤ exit → Goes code from to
  begun_goes name own first last step from exit to at far =
      joined_goes code from at.0 to (expression_goes code site first from at.0 at.8)
      (joined_goes code at.0 at.1 to (expression_goes code site last at.0 at.1 at.9)
      (joined_goes code at.1 at.2 to (step_goes step at.1 at.2 at.10)
      (joined_goes code at.2 at.3 to (keeps_go code (suc own) at.2 at.3 at.11)
      (joined_goes code at.3 at.4 to (keeps_go code own at.3 at.4 at.12)
      (joined_goes code at.4 at.5 to (keeps_go code (suc (suc own)) at.4 at.5 at.13)
      (joined_goes code at.5 at.6 to (holds_go code (suc (suc own)) at.5 at.6 at.14)
      (joined_goes code at.6 at.7 to (variable_goes name at.6 at.7 at.15) (bounds_go code own at.7 exit to at.16 far))))))))

  pub value_goes : (name : List ℕ) (own k : ℕ) (tree : Expression) (from to : ℕ) → ValueKeptAt code site name own k tree from to → Goes code from to
  value_goes name own k tree from to at =
      joined_goes code from at.0 to (expression_goes code site tree from at.0 at.2)
      (joined_goes code at.0 at.1 to (variable_goes name at.0 at.1 at.3) (first_goes code at.1 to _ at.4 tt (keeps_go code own (suc at.1) to at.5)))

  -- where each test for a value leads on
  next_values_go : (name : List ℕ) (own k : ℕ) (values : Expressions) (from exit test to : ℕ) → NextValueAt code site name own k values from exit test to → to ≤ exit → to ≤ test → Goes code from to
  next_values_go name own k NoExpressions from exit test to at far beside = one_goes code from to _ at (inl (omega (arith, at.1, far)))
  next_values_go name own k (MoreExpressions tree others) from exit test to at far beside =
      let rest = next_values_go name own (suc k) others (suc at.1) exit test to at.5 far beside in
      let value = value_goes name own (suc k) tree at.0 at.1 at.3 in
      joined_goes code from at.0 to (case_goes code own k from (suc at.1) at.0 at.2 (omega (arith, value.ordered)))
      (joined_goes code at.0 at.1 to value (first_goes code at.1 to _ at.4 (inl (omega (arith, rest.ordered, beside))) rest))

  -- a jump or a test that leads back to a TURN
  later_span_goes : (g : Option Guard) (turn exit from to : ℕ) → ((one : Guard) → TestAt code site one from turn to → Goes code from to) → LaterSpanAt code site g from turn to → Has code turn (instr.Turn exit) → exit ≡ to → Goes code from to
  later_span_goes None turn exit from to tests at has ends = one_goes code from to _ at (inr (exit, has, omega (arith, at.1, ends)))
  later_span_goes (Some g) turn exit from to tests at has ends = tests g at

  pub stepping_goes : (name : List ℕ) (own : ℕ) (g : Option Guard) (from turn to : ℕ) → ((begin : ℕ) (one : Guard) → TestAt code site one begin turn to → Goes code begin to) → SteppingAt code site name own g from turn to
      → Has code turn (instr.Turn to) → Goes code from to
  stepping_goes name own g from turn to tests at has =
      let test = later_span_goes g turn to at.3 to (tests at.3) at.8 has refl in
      let store = variable_goes name at.2 at.3 at.7 in
      let held = holds_go code (suc (suc own)) at.1 at.2 at.6 in
      joined_goes code from at.0 to (variable_value_goes name from at.0 at.4)
      (joined_goes code at.0 at.1 to (next_goes code own at.0 to at.1 at.5 (omega (arith, held.ordered, store.ordered, test.ordered)))
      (joined_goes code at.1 at.2 to held (joined_goes code at.2 at.3 to store test)))

  pub listing_goes : (name : List ℕ) (own : ℕ) (values : Expressions) (g : Option Guard) (from turn to : ℕ) → ((begin : ℕ) (one : Guard) → TestAt code site one begin turn to → Goes code begin to) → ListingAt code site name own values g from turn to
      → Has code turn (instr.Turn to) → Goes code from to
  listing_goes name own values g from turn to tests at has =
      let test = later_span_goes g turn to at.0 to (tests at.0) at.2 has refl in
      joined_goes code from at.0 to (next_values_go name own 1 values from to at.0 at.0 at.1 (omega (arith, test.ordered)) (omega arith)) test
