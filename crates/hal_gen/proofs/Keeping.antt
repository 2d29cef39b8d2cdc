-- The code by which groups keep something in own places stands where it was put.
use Rattle.std.specs.Prelude.{◌≡◌, ◌≤◌, ℕ, suc, ◌+◌, Bool, true, false, List, [], ◌∷◌, ◌++◌, length, Some, None, Ok, slice_get}
use Rattle.std.specs.Option.{option_map, option_and_then}
use Rattle.std.proofs.Common.{refl, sym, ap, subst, ◌∙◌, inl, arith, append-nil}
use Rattle.hal_base.specs.declared.refusal.Place.{Place}
use Rattle.hal_operations.specs.declared.operation.Op1.TheVariants as op1
use Rattle.hal_code.specs.declared.choice.Choice.TheVariants as choice
use Rattle.hal_states.specs.Spots.{Own, Held}
use Rattle.hal_values.specs.declared.value.Kind.TheVariants as kind
use Rattle.hal_meaning.specs.ReportNames.{first_place}
use Rattle.hal_meaning.specs.Statements.{loop_place, end_place}
use Rattle.hal_code.specs.declared.instr.Instr.{Instr}
use Rattle.hal_code.specs.declared.instr.Instr.TheVariants as instr
use Rattle.hal_agreement.specs.Codes.{Code}
use Rattle.hal_agreement.specs.PlacedExpressions.{Has, One, two, AddressAt}
use Rattle.hal_agreement.specs.PlacedGroups.{KeepsAt, HoldsAt, CaseAt, NegativeAt, LessAt, BoundsAt, NextAt}
use Rattle.hal_agreement.specs.Sites.{Site, here_at}
use Rattle.hal_gen_expr.specs.Leaves.{place_view}
use Rattle.hal_gen_expr.specs.Numbering.{Numbering, below}
use Rattle.hal_gen_expr.specs.Standing.{Begins, IsNumbered, Placed}
use Rattle.hal_gen_expr.proofs.Forwarding.{Goes, one_goes, joined_goes, first_goes}
use Rattle.hal_gen_expr.proofs.Growing.{append_append, one_by_one, weaker, none_placed, first_placed, emitted}
use Rattle.hal_gen_expr.proofs.Numbered.{below_is, mapped_is, then_is, place_at}
use Rattle.hal_gen.specs.declared.kept.Cells.{Cells}
use Rattle.hal_gen.specs.KeptCode.{cell_of, keeping, case_tests, case_code, cells_of, cells_at, cells, holding, negative_tests, lesser_tests, bounds_keeping, bounding, counting}
use Rattle.hal_gen.proofs.Measured.{case_longer}

-- instructions one after another
abbrev pub RowAt : Code → List Instr → ℕ → ℕ → Type 0
RowAt code [] from to = from ≡ to
RowAt code (i ∷ is) from to = Has code from i × RowAt code is (suc from) to

pub row_placed : (code : Code) (is before after : List Instr) → before ++ is ≡ after → Begins after code.image.code → Placed code before after (λ from to. RowAt code is from to)
row_placed code [] before after e begins = none_placed code before after (sym (append-nil before) ∙ e) begins
row_placed code (i ∷ is) before after e begins = first_placed code before after i (row_placed code is (before ++ (i ∷ [])) after (sym (one_by_one before i is) ∙ e) begins)

-- CELL with this number is the address of this own place, wherever it stands
abbrev pub IsCell : Code → ℕ → ℕ → Type 0
IsCell code cell place = (from : ℕ) (held : List Held) → Has code from (instr.Cell cell) → AddressAt code held kind.Double (Own place) from

module _ (code : Code) (cell place : ℕ) (is_cell : IsCell code cell place) where
  pub keeps_at : (from to : ℕ) → Has code from (instr.Cell cell) → One code (suc from) instr.Keep to → KeepsAt code place from to
  keeps_at from to has one = ((λ held. is_cell from held has), one)

  pub holds_at : (from to : ℕ) → Has code from (instr.Cell cell) → One code (suc from) instr.Fetch to → HoldsAt code place from to
  holds_at from to has one = ((λ held. is_cell from held has), one)

  pub keeping_at : (before after : List Instr) → keeping before cell ≡ after → Begins after code.image.code → Placed code before after (λ from to. KeepsAt code place from to)
  keeping_at before after e begins =
      weaker code before after (λ from to at. keeps_at from to at.0 (at.1.0, at.1.1)) (row_placed code (instr.Cell cell ∷ instr.Keep ∷ []) before after e begins)

  case_there : (number target from to : ℕ) → RowAt code (case_tests cell target number) from to → CaseAt code place number from target to
  case_there number target from to at = (suc (suc from), holds_at from (suc (suc from)) at.0 (at.1.0, refl), at.1.1.0, at.1.1.1.0, (at.1.1.1.1.0, at.1.1.1.1.1))

  -- a test, behind which so many instructions stand before the target
  pub case_at : (number size : ℕ) (at : Place) (before after : List Instr) → case_code before at cell number size ≡ Ok after → Begins after code.image.code
      → Placed code before after (λ from to. CaseAt code place number from (to + (size + 1)) to)
  case_at number size at before after e begins =
      let target = length before + (size + 6) in
      let given = emitted before at (option_map (case_tests cell target) (below 2147483648 number)) after e in
      let low = mapped_is (case_tests cell target) (below 2147483648 number) given.0 given.1 in
      let same : case_tests cell target number ≡ given.0 = ap (case_tests cell target) (below_is 2147483648 number low.0 low.1) ∙ low.2 in
      let there = row_placed code (case_tests cell target number) before after (ap (λ is. before ++ is) same ∙ given.2) begins in
      let longer = case_longer at cell number size before after e in
      let far : target ≡ length after + (size + 1) = omega (arith, longer) in
      record { at = subst (λ one. CaseAt code place number (length before) one (length after)) far (case_there number target (length before) (length after) there.at); begins = there.begins }

module _ (code : Code) (n : Numbering) (site : Site) (numbered : IsNumbered code n) where
  -- the own place of the group of a mark
  pub cell_is : (m before cell : ℕ) → cell_of n site m before ≡ Some cell → IsCell code cell (loop_place (here_at site) m + before)
  cell_is m before cell is from held has =
      let owner = then_is (λ k. place_view n site k before) (slice_get site.marks m) cell is in
      subst (λ o. AddressAt code held kind.Double (Own ((elim o [ None ↦ 0 | Some k ↦ first_place site.places k ]) + before)) from) (sym owner.1) (place_at code n site numbered owner.0 before cell from held owner.2 has)

-- rows of instructions one behind the other
abbrev joined : List (List Instr) → List Instr
joined [] = []
joined (row ∷ rows) = row ++ joined rows

abbrev grown_by : List Instr → List (List Instr) → List Instr
grown_by before [] = before
grown_by before (row ∷ rows) = grown_by (before ++ row) rows

all_joined : (rows : List (List Instr)) (before : List Instr) → grown_by before rows ≡ before ++ joined rows
all_joined [] before = sym (append-nil before)
all_joined (row ∷ rows) before = all_joined rows (before ++ row) ∙ append_append before row (joined rows)

-- the cells of a DO FOR are its own places from this one on
abbrev pub AreCells : Code → Cells → ℕ → Type 0
AreCells code c own = IsCell code c.last own × IsCell code c.step (suc own) × IsCell code c.value (suc (suc own)) × IsCell code c.begins (suc (suc (suc own)))

module _ (code : Code) (n : Numbering) (site : Site) (numbered : IsNumbered code n) where
  -- four of them, before the first of which so many others lie
  cells_four : (m before : ℕ) (c : Cells) → cells_at n site m before (suc before) (suc (suc before)) (suc (suc (suc before))) ≡ Some c → AreCells code c (loop_place (here_at site) m + before)
  cells_four m before c is =
      let own = loop_place (here_at site) m in
      let one = then_is (λ last. option_and_then (λ step. option_and_then (λ value. option_map (λ begins. cells last step value begins) (cell_of n site m (suc (suc (suc before))))) (cell_of n site m (suc (suc before)))) (cell_of n site m (suc before))) (cell_of n site m before) c is in
      let two = then_is (λ step. option_and_then (λ value. option_map (λ begins. cells one.0 step value begins) (cell_of n site m (suc (suc (suc before))))) (cell_of n site m (suc (suc before)))) (cell_of n site m (suc before)) c one.2 in
      let three = then_is (λ value. option_map (λ begins. cells one.0 two.0 value begins) (cell_of n site m (suc (suc (suc before))))) (cell_of n site m (suc (suc before))) c two.2 in
      let four = mapped_is (λ begins. cells one.0 two.0 three.0 begins) (cell_of n site m (suc (suc (suc before)))) c three.2 in
      subst (λ all. AreCells code all (own + before)) four.2 (
        cell_is code n site numbered m before one.0 one.1,
        subst (λ p. IsCell code two.0 p) (let same : own + suc before ≡ suc (own + before) = omega arith in same) (cell_is code n site numbered m (suc before) two.0 two.1),
        subst (λ p. IsCell code three.0 p) (let same : own + suc (suc before) ≡ suc (suc (own + before)) = omega arith in same) (cell_is code n site numbered m (suc (suc before)) three.0 three.1),
        subst (λ p. IsCell code four.0 p) (let same : own + suc (suc (suc before)) ≡ suc (suc (suc (own + before))) = omega arith in same) (cell_is code n site numbered m (suc (suc (suc before))) four.0 four.1),
      )

  pub cells_are : (temporary : Bool) (m : ℕ) (c : Cells) → cells_of n site temporary m ≡ Some c → AreCells code c (end_place (here_at site) temporary m)
  cells_are false m c is = let own = loop_place (here_at site) m in subst (λ p. AreCells code c p) (let same : own + 0 ≡ own = omega arith in same) (cells_four m 0 c is)
  cells_are true m c is = let own = loop_place (here_at site) m in subst (λ p. AreCells code c p) (let same : own + 1 ≡ suc own = omega arith in same) (cells_four m 1 c is)

module _ (code : Code) (c : Cells) (own : ℕ) (are : AreCells code c own) where
  pub holding_at : (before after : List Instr) → holding before c.value ≡ after → Begins after code.image.code → Placed code before after (λ from to. HoldsAt code (suc (suc own)) from to)
  holding_at before after e begins =
      weaker code before after (λ from to at. holds_at code c.value (suc (suc own)) are.2 from to at.0 (at.1.0, at.1.1)) (row_placed code (instr.Cell c.value ∷ instr.Fetch ∷ []) before after e begins)

  -- the bounds are kept, one after the other
  pub bounds_kept_at : (before after : List Instr) → bounds_keeping before c ≡ after → Begins after code.image.code
      → Placed code before after (λ from to. (one : ℕ) × (two : ℕ) × (three : ℕ) × KeepsAt code (suc own) from one × KeepsAt code own one two × KeepsAt code (suc (suc own)) two three × HoldsAt code (suc (suc own)) three to)
  bounds_kept_at before after e begins =
      let rows = (instr.Cell c.step ∷ instr.Keep ∷ []) ∷ (instr.Cell c.last ∷ instr.Keep ∷ []) ∷ (instr.Cell c.value ∷ instr.Keep ∷ []) ∷ (instr.Cell c.value ∷ instr.Fetch ∷ []) ∷ [] in
      let there = row_placed code (joined rows) before after (sym (all_joined rows before) ∙ e) begins in
      let at = there.at in
      record {
        at = ((suc (suc (length before))), (suc (suc (suc (suc (length before))))), (suc (suc (suc (suc (suc (suc (length before))))))), keeps_at code c.step (suc own) are.1 (length before) (suc (suc (length before))) at.0 (at.1.0, refl), keeps_at code c.last own are.0 (suc (suc (length before))) (suc (suc (suc (suc (length before))))) at.1.1.0 (at.1.1.1.0, refl), keeps_at code c.value (suc (suc own)) are.2 (suc (suc (suc (suc (length before))))) (suc (suc (suc (suc (suc (suc (length before))))))) at.1.1.1.1.0 (at.1.1.1.1.1.0, refl), holds_at code c.value (suc (suc own)) are.2 (suc (suc (suc (suc (suc (suc (length before))))))) (length after) at.1.1.1.1.1.1.0 (at.1.1.1.1.1.1.1.0, at.1.1.1.1.1.1.1.1));
        begins = there.begins;
      }

  -- the test for the end
  pub bounding_at : (exit : ℕ) (before after : List Instr) → bounding before c exit ≡ after → Begins after code.image.code → Placed code before after (λ from to. BoundsAt code own from exit to)
  bounding_at exit before after e begins =
      let rows = negative_tests c.step (length before + 12) ∷ lesser_tests c.value c.last (length before + 19) ∷ (instr.Jump exit ∷ []) ∷ lesser_tests c.last c.value (length before + 19) ∷ (instr.Jump exit ∷ []) ∷ [] in
      let there = row_placed code (joined rows) before after (sym (all_joined rows before) ∙ e) begins in
      let at = there.at in
      let end : (suc (suc (suc (suc (suc (suc (suc (suc (suc (suc (suc (suc (suc (suc (suc (suc (suc (suc (suc (length before)))))))))))))))))))) ≡ length after = at.1.1.1.1.1.1.1.1.1.1.1.1.1.1.1.1.1.1.1 in
      let far : length before + 19 ≡ length after = omega (arith, end) in
      record {
        at = ((suc (suc (suc (suc (suc (length before)))))), (suc (suc (suc (suc (suc (suc (suc (suc (suc (suc (suc (length before)))))))))))), (suc (suc (suc (suc (suc (suc (suc (suc (suc (suc (suc (suc (suc (suc (suc (suc (suc (suc (length before))))))))))))))))))), ((suc (suc (length before))), holds_at code c.step (suc own) are.1 (length before) (suc (suc (length before))) at.0 (at.1.0, refl), at.1.1.0, at.1.1.1.0, (subst (λ far. Has code (suc (suc (suc (suc (length before))))) (instr.JumpNot far)) (let far : length before + 12 ≡ (suc (suc (suc (suc (suc (suc (suc (suc (suc (suc (suc (suc (length before))))))))))))) = omega arith in far) at.1.1.1.1.0, refl)), ((suc (suc (suc (suc (suc (suc (suc (length before)))))))), (suc (suc (suc (suc (suc (suc (suc (suc (suc (length before)))))))))), holds_at code c.value (suc (suc own)) are.2 (suc (suc (suc (suc (suc (length before)))))) (suc (suc (suc (suc (suc (suc (suc (length before)))))))) at.1.1.1.1.1.0 (at.1.1.1.1.1.1.0, refl), holds_at code c.last own are.0 (suc (suc (suc (suc (suc (suc (suc (length before)))))))) (suc (suc (suc (suc (suc (suc (suc (suc (suc (length before)))))))))) at.1.1.1.1.1.1.1.0 (at.1.1.1.1.1.1.1.1.0, refl), at.1.1.1.1.1.1.1.1.1.0, (subst (λ far. Has code (suc (suc (suc (suc (suc (suc (suc (suc (suc (suc (length before))))))))))) (instr.JumpNot far)) far at.1.1.1.1.1.1.1.1.1.1.0, refl)), at.1.1.1.1.1.1.1.1.1.1.1.0, ((suc (suc (suc (suc (suc (suc (suc (suc (suc (suc (suc (suc (suc (suc (length before))))))))))))))), (suc (suc (suc (suc (suc (suc (suc (suc (suc (suc (suc (suc (suc (suc (suc (suc (length before))))))))))))))))), holds_at code c.last own are.0 (suc (suc (suc (suc (suc (suc (suc (suc (suc (suc (suc (suc (length before))))))))))))) (suc (suc (suc (suc (suc (suc (suc (suc (suc (suc (suc (suc (suc (suc (length before))))))))))))))) at.1.1.1.1.1.1.1.1.1.1.1.1.0 (at.1.1.1.1.1.1.1.1.1.1.1.1.1.0, refl), holds_at code c.value (suc (suc own)) are.2 (suc (suc (suc (suc (suc (suc (suc (suc (suc (suc (suc (suc (suc (suc (length before))))))))))))))) (suc (suc (suc (suc (suc (suc (suc (suc (suc (suc (suc (suc (suc (suc (suc (suc (length before))))))))))))))))) at.1.1.1.1.1.1.1.1.1.1.1.1.1.1.0 (at.1.1.1.1.1.1.1.1.1.1.1.1.1.1.1.0, refl), at.1.1.1.1.1.1.1.1.1.1.1.1.1.1.1.1.0, (subst (λ far. Has code (suc (suc (suc (suc (suc (suc (suc (suc (suc (suc (suc (suc (suc (suc (suc (suc (suc (length before)))))))))))))))))) (instr.JumpNot far)) far at.1.1.1.1.1.1.1.1.1.1.1.1.1.1.1.1.1.0, refl)), (at.1.1.1.1.1.1.1.1.1.1.1.1.1.1.1.1.1.1.0, at.1.1.1.1.1.1.1.1.1.1.1.1.1.1.1.1.1.1.1));
        begins = there.begins;
      }

  -- NEXT
  pub counting_at : (exit : ℕ) (before after : List Instr) → counting before c exit ≡ after → Begins after code.image.code → Placed code before after (λ from to. NextAt code own from exit to)
  counting_at exit before after e begins =
      let rows = (instr.Cell c.step ∷ instr.Fetch ∷ []) ∷ (instr.Cell c.last ∷ instr.Fetch ∷ []) ∷ (instr.Next ∷ instr.Op1 (choice.Known op1.Integer) ∷ []) ∷ (instr.Cell c.begins ∷ instr.Keep ∷ []) ∷ (instr.Cell c.value ∷ instr.Keep ∷ [])
      ∷ case_tests c.begins exit 1 ∷ [] in
      let there = row_placed code (joined rows) before after (sym (all_joined rows before) ∙ e) begins in
      let at = there.at in
      record {
        at = ((suc (suc (length before))), (suc (suc (suc (suc (length before))))), (suc (suc (suc (suc (suc (suc (suc (suc (length before))))))))), (suc (suc (suc (suc (suc (suc (suc (suc (suc (suc (length before))))))))))), holds_at code c.step (suc own) are.1 (length before) (suc (suc (length before))) at.0 (at.1.0, refl), holds_at code c.last own are.0 (suc (suc (length before))) (suc (suc (suc (suc (length before))))) at.1.1.0 (at.1.1.1.0, refl), at.1.1.1.1.0, at.1.1.1.1.1.0, keeps_at code c.begins (suc (suc (suc own))) are.3 (suc (suc (suc (suc (suc (suc (length before))))))) (suc (suc (suc (suc (suc (suc (suc (suc (length before))))))))) at.1.1.1.1.1.1.0 (at.1.1.1.1.1.1.1.0, refl), keeps_at code c.value (suc (suc own)) are.2 (suc (suc (suc (suc (suc (suc (suc (suc (length before))))))))) (suc (suc (suc (suc (suc (suc (suc (suc (suc (suc (length before))))))))))) at.1.1.1.1.1.1.1.1.0 (at.1.1.1.1.1.1.1.1.1.0, refl), ((suc (suc (suc (suc (suc (suc (suc (suc (suc (suc (suc (suc (length before))))))))))))), holds_at code c.begins (suc (suc (suc own))) are.3 (suc (suc (suc (suc (suc (suc (suc (suc (suc (suc (length before))))))))))) (suc (suc (suc (suc (suc (suc (suc (suc (suc (suc (suc (suc (length before))))))))))))) at.1.1.1.1.1.1.1.1.1.1.0 (at.1.1.1.1.1.1.1.1.1.1.1.0, refl), at.1.1.1.1.1.1.1.1.1.1.1.1.0, at.1.1.1.1.1.1.1.1.1.1.1.1.1.0, (at.1.1.1.1.1.1.1.1.1.1.1.1.1.1.0, at.1.1.1.1.1.1.1.1.1.1.1.1.1.1.1)));
        begins = there.begins;
      }

-- they go on
pub keeps_go : (code : Code) (place from to : ℕ) → KeepsAt code place from to → Goes code from to
keeps_go code place from to at = first_goes code from to _ ((at.0 []).cell) tt (one_goes code (suc from) to _ at.1 tt)

pub holds_go : (code : Code) (place from to : ℕ) → HoldsAt code place from to → Goes code from to
holds_go code place from to at = first_goes code from to _ ((at.0 []).cell) tt (one_goes code (suc from) to _ at.1 tt)

-- a test leads on to a target behind it
pub case_goes : (code : Code) (place number from target to : ℕ) → CaseAt code place number from target to → to ≤ target → Goes code from to
case_goes code place number from target to at far =
    joined_goes code from at.0 to (holds_go code place from at.0 at.1)
    (first_goes code at.0 to _ at.2 tt (first_goes code (suc at.0) to _ at.3 tt (one_goes code (suc (suc at.0)) to _ at.4 (inl (omega (arith, at.4.1, far))))))

negative_goes : (code : Code) (place from target to : ℕ) → NegativeAt code place from target to → to ≤ target → Goes code from to
negative_goes code place from target to at far =
    joined_goes code from at.0 to (holds_go code place from at.0 at.1)
    (first_goes code at.0 to _ at.2 tt (first_goes code (suc at.0) to _ at.3 tt (one_goes code (suc (suc at.0)) to _ at.4 (inl (omega (arith, at.4.1, far))))))

lesser_goes : (code : Code) (one other from target to : ℕ) → LessAt code one other from target to → to ≤ target → Goes code from to
lesser_goes code one other from target to at far =
    joined_goes code from at.0 to (holds_go code one from at.0 at.2)
    (joined_goes code at.0 at.1 to (holds_go code other at.0 at.1 at.3) (first_goes code at.1 to _ at.4 tt (one_goes code (suc at.1) to _ at.5 (inl (omega (arith, at.5.1, far))))))

pub bounds_go : (code : Code) (place from exit to : ℕ) → BoundsAt code place from exit to → to ≤ exit → Goes code from to
bounds_go code place from exit to at far =
    let less = less_between code (suc (suc place)) place at.0 to at.1 at.4 in
    let above = less_between code place (suc (suc place)) (suc at.1) to at.2 at.6 in
    joined_goes code from at.0 to (negative_goes code (suc place) from (suc at.1) at.0 at.3 (omega (arith, less)))
    (joined_goes code at.0 at.1 to (lesser_goes code (suc (suc place)) place at.0 to at.1 at.4 (omega (arith, above, at.7.1)))
    (first_goes code at.1 to _ at.5 (inl (omega (arith, above, at.7.1, far)))
    (joined_goes code (suc at.1) at.2 to (lesser_goes code place (suc (suc place)) (suc at.1) to at.2 at.6 (omega (arith, at.7.1))) (one_goes code at.2 to _ at.7 (inl (omega (arith, at.7.1, far)))))))
  where
    holds_between : (code : Code) (place from to : ℕ) → HoldsAt code place from to → to ≡ suc (suc from)
    holds_between code place from to at = sym at.1.1

    less_between : (code : Code) (one other from target to : ℕ) → LessAt code one other from target to → from ≤ to
    less_between code one other from target to at =
        let first = holds_between code one from at.0 at.2 in let second = holds_between code other at.0 at.1 at.3 in omega (arith, first, second, at.5.1)

pub next_goes : (code : Code) (place from exit to : ℕ) → NextAt code place from exit to → to ≤ exit → Goes code from to
next_goes code place from exit to at far =
    joined_goes code from at.0 to (holds_go code (suc place) from at.0 at.4)
    (joined_goes code at.0 at.1 to (holds_go code place at.0 at.1 at.5)
    (first_goes code at.1 to _ at.6 tt (first_goes code (suc at.1) to _ at.7 tt
    (joined_goes code (suc (suc at.1)) at.2 to (keeps_go code (suc (suc (suc place))) (suc (suc at.1)) at.2 at.8)
    (joined_goes code at.2 at.3 to (keeps_go code (suc (suc place)) at.2 at.3 at.9) (case_goes code (suc (suc (suc place))) 1 at.3 exit to at.10 far))))))
