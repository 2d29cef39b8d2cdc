-- Subscripts on the stack: CELL takes them as the tree does, and leaves the address of the element that they choose.
use Rattle.std.specs.Prelude.{◌≡◌, ℕ, zero, suc, ◌+◌, ◌*◌, length, Bool, true, false, ◌&&◌, List, [], ◌∷◌, ◌++◌, map, ℤ, Option, Some, None, slice_get, if◌then◌else◌}
use Rattle.std.proofs.Common.{refl, sym, ap, subst, ◌∙◌, arith, append_assoc, append-nil}
use Rattle.std.proofs.lemmas.List.{length-map}
use Rattle.hal_grammar.specs.Expressions.{Subscripts, NoSubscripts, MoreSubscripts}
use Rattle.hal_values.specs.declared.value.Kind.{Kind}
use Rattle.hal_values.specs.declared.value.Value.{Value}
use Rattle.hal_values.specs.Answers.{error}
use Rattle.hal_states.specs.Numbers.{integer_of, is_inside, before_nearest}
use Rattle.hal_states.specs.Spots.{Spot, Held, further}
use Rattle.hal_meaning.specs.States.{State, Evaluated, Gives, bind}
use Rattle.hal_meaning.specs.Access.{Here, raise}
use Rattle.hal_meaning.specs.Variables as tree
use Rattle.hal_meaning.specs.Variables.{Index, Single, elements_before}
use Rattle.hal_meaning.specs.Expressions.{Located, located}
use Rattle.hal_code.specs.declared.row.Base.{Base}
use Rattle.hal_code.specs.declared.row.Target.{Target}
use Rattle.hal_code.specs.declared.row.Target.TheVariants as target
use Rattle.hal_code.specs.declared.row.View.{View}
use Rattle.hal_code.specs.Cores.{Operand, Val, Goes, Core, going, Step, Moves}
use Rattle.hal_code.specs.Raising.{stuck, raised}
use Rattle.hal_code.specs.Addressing as machine
use Rattle.hal_code.specs.Addressing.{popped, cells_before, spot_of, operand_of, addressed, cell_viewed, area_viewed}
use Rattle.hal_code.specs.Machine.{act}
use Rattle.hal_agreement.specs.Codes.{Code}
use Rattle.hal_agreement.specs.PlacedExpressions.{dimension_of, IsViewed, addresses, ElementAt, array_spoken}
use Rattle.hal_agreement.proofs.Reaching.{Nest, setting, core_at, Reaches, acts}
use Rattle.hal_agreement.proofs.Raising.{Standing, bind_bind, raised_reaches}

-- values above these operands, the last one on top
abbrev pub laid : List Value → List Operand → List Operand
laid [] stack = stack
laid (v ∷ vs) stack = laid vs (Val v ∷ stack)

-- the integers that values are
abbrev pub integers : List Value → List ℤ
integers vs = map integer_of vs

-- a place that a value is
abbrev pub single : Value → Index
single v = Single (integer_of v)

-- a place for each
abbrev pub singles : List Value → List Index
singles vs = map single vs

-- places lie in their dimensions for the tree where they do for the machine
inside_same : (ds : List tree.Dimension) (vs : List Value) → machine.all_inside (map dimension_of ds) (integers vs) ≡ tree.all_inside ds (singles vs)
inside_same [] [] = refl
inside_same [] (v ∷ vs) = refl
inside_same (d ∷ ds) [] = refl
inside_same (d ∷ ds) (v ∷ vs) = ap (λ b. is_inside d.size (integer_of v) && b) (inside_same ds vs)

-- and as many elements lie before the one that they choose
before_same : (ds : List tree.Dimension) (vs : List Value) → cells_before (map dimension_of ds) (integers vs) ≡ elements_before ds (singles vs)
before_same [] [] = refl
before_same [] (v ∷ vs) = refl
before_same (d ∷ ds) [] = refl
before_same (d ∷ ds) (v ∷ vs) = ap (λ n. before_nearest d.size (integer_of v) * d.stride + n) (before_same ds vs)

-- what is popped, with integers behind it
abbrev with_integers : List Value → Option (List ℤ × List Operand) → Option (List ℤ × List Operand)
with_integers vs o = elim o [ None ↦ None | Some got ↦ Some (got.0 ++ integers vs, got.1) ]

with_none : (o : Option (List ℤ × List Operand)) → o ≡ with_integers [] o
with_none None = refl
with_none (Some got) = ap (λ is. Some (is, got.1)) (sym (append-nil got.0))

with_more : (v : Value) (vs : List Value) (o : Option (List ℤ × List Operand)) → with_integers vs (with_integers (v ∷ []) o) ≡ with_integers (v ∷ vs) o
with_more v vs None = refl
with_more v vs (Some got) = ap (λ is. Some (is, got.1)) (append_assoc got.0 (integer_of v ∷ []) (integers vs))

-- values that lie on the stack are popped behind those below them
popped_laid : (vs : List Value) (count all : ℕ) (stack : List Operand) → all ≡ length vs + count → popped all (laid vs stack) ≡ with_integers vs (popped count stack)
popped_laid [] count all stack same = ap (λ n. popped n stack) (omega (arith, same)) ∙ with_none (popped count stack)
popped_laid (v ∷ vs) count all stack same = popped_laid vs (suc count) all (Val v ∷ stack) (omega (arith, same)) ∙ with_more v vs (popped count stack)

all_popped : (vs : List Value) (all : ℕ) (stack : List Operand) → all ≡ length vs → popped all (laid vs stack) ≡ Some (integers vs, stack)
all_popped vs all stack same = popped_laid vs zero all stack (omega (arith, same))

-- two lists of values
pub laid_both : (vs ws : List Value) (stack : List Operand) → laid (vs ++ ws) stack ≡ laid ws (laid vs stack)
laid_both [] ws stack = refl
laid_both (v ∷ vs) ws stack = laid_both vs ws (Val v ∷ stack)

-- the data that places choose, by whether they lie in their dimensions, and how many elements lie before them
abbrev pub located_by : Here → Spot → Kind → State → Bool → ℕ → Evaluated Located
located_by h at k st inside before =
    if inside then Gives (record { at = further before at; kind = k }) st else bind (raise h (error 1 3) st) (λ ignored after. Gives (record { at = further before at; kind = k }) after)

module _ (code : Code) (begin : ℕ) (h : Here) (n : Nest) where
  -- the address of an element is left, unless a place is outside its dimension, which is an error
  abbrev left_at : Bool → ℕ → Target → Spot → List Operand → Core → Step
  left_at inside before given spot stack c =
      if inside then Moves (going (suc c.at) (operand_of given (further before spot) ∷ stack) c)
      else raised (setting code begin h) (error 1 3) (going (suc c.at) (operand_of given (further before spot) ∷ stack) c)

  -- a view of these dimensions
  viewed_at : (b : Base) (given : Target) (ds : List tree.Dimension) (spot : Spot) (vs : List Value) (stack : List Operand) (c : Core) → spot_of b c.kept.places ≡ spot → c.stack ≡ laid vs stack → length vs ≡ length ds
      → machine.viewed (setting code begin h) (record { base = b; dimensions = map dimension_of ds; target = given }) c ≡ left_at (tree.all_inside ds (singles vs)) (elements_before ds (singles vs)) given spot stack c
  viewed_at b given ds spot vs stack c is on_stack many =
      ap
      (λ o. elim o [
        | None ↦ stuck c
        | Some got ↦ addressed (setting code begin h) (record { base = b; dimensions = map dimension_of ds; target = given }) got.0 (going (suc c.at) (operand_of given (further (cells_before (map dimension_of ds) got.0) (spot_of b c.kept.places)) ∷ got.1) c)
      ])
      (ap (λ below. popped (length (map dimension_of ds)) below) on_stack ∙ all_popped vs (length (map dimension_of ds)) stack (length-map ds dimension_of ∙ sym many))
      ∙ (ap (λ inside. left_at inside (cells_before (map dimension_of ds) (integers vs)) given (spot_of b c.kept.places) stack c) (inside_same ds vs)
      ∙ (ap (λ m. left_at (tree.all_inside ds (singles vs)) m given (spot_of b c.kept.places) stack c) (before_same ds vs)
      ∙ ap (λ at. left_at (tree.all_inside ds (singles vs)) (elements_before ds (singles vs)) given at stack c) is))

  -- CELL or WHOLE with it
  abbrev given_by : Target → View → Core → Step
  given_by (target.Cell k) view c = cell_viewed (setting code begin h) view c
  given_by (target.Shape shape) view c = area_viewed (setting code begin h) view c

  given_at : (b : Base) (given : Target) (ds : List tree.Dimension) (spot : Spot) (vs : List Value) (stack : List Operand) (c : Core) → spot_of b c.kept.places ≡ spot → c.stack ≡ laid vs stack → length vs ≡ length ds
      → given_by given (record { base = b; dimensions = map dimension_of ds; target = given }) c ≡ left_at (tree.all_inside ds (singles vs)) (elements_before ds (singles vs)) given spot stack c
  given_at b (target.Cell k) ds spot vs stack c is on_stack many = viewed_at b (target.Cell k) ds spot vs stack c is on_stack many
  given_at b (target.Shape shape) ds spot vs stack c is on_stack many = viewed_at b (target.Shape shape) ds spot vs stack c is on_stack many

  element_viewed : (view : View) (ds : List tree.Dimension) (given : Target) (spot : Spot) (vs : List Value) (stack : List Operand) (c : Core) → IsViewed view ds c.kept.places given spot → c.stack ≡ laid vs stack → length vs ≡ length ds
      → given_by given view c ≡ left_at (tree.all_inside ds (singles vs)) (elements_before ds (singles vs)) given spot stack c
  element_viewed view ds given spot vs stack c is on_stack many =
      subst (λ all. given_by given (record { base = view.base; dimensions = all; target = view.target }) c ≡ left_at (tree.all_inside ds (singles vs)) (elements_before ds (singles vs)) given spot stack c) (sym is.dimensions)
      (subst (λ t. given_by given (record { base = view.base; dimensions = map dimension_of ds; target = t }) c ≡ left_at (tree.all_inside ds (singles vs)) (elements_before ds (singles vs)) given spot stack c) (sym is.target)
      (given_at view.base given ds spot vs stack c is.base on_stack many))

  element_acts : (number : ℕ) (view : View) (ds : List tree.Dimension) (given : Target) (spot : Spot) (vs : List Value) (stack : List Operand) (c : Core) → slice_get code.image.views number ≡ Some view
      → IsViewed view ds c.kept.places given spot → c.stack ≡ laid vs stack → length vs ≡ length ds
      → act (setting code begin h) (addresses given number) c ≡ left_at (tree.all_inside ds (singles vs)) (elements_before ds (singles vs)) given spot stack c
  element_acts number view ds (target.Cell k) spot vs stack c row is on_stack many =
      ap (λ o. elim o [ None ↦ stuck c | Some found ↦ cell_viewed (setting code begin h) found c ]) row ∙ element_viewed view ds (target.Cell k) spot vs stack c is on_stack many
  element_acts number view ds (target.Shape shape) spot vs stack c row is on_stack many =
      ap (λ o. elim o [ None ↦ stuck c | Some found ↦ area_viewed (setting code begin h) found c ]) row ∙ element_viewed view ds (target.Shape shape) spot vs stack c is on_stack many

  module _ (standing : Standing code h n) where
    left_reaches : {A : Type 0} (fine : A → State → Option Step) (inside : Bool) (before : ℕ) (given : Target) (k : Kind) (spot : Spot) (at : ℕ) (below stack : List Operand) (line : List ℕ) (st : State) (go : Located → State → Evaluated A)
        → ((place : Spot) (after : State) → Reaches (setting code begin h) n fine (Moves (core_at (suc at) (operand_of given place ∷ stack) line n after)) after.left (go (record { at = place; kind = k }) after))
        → Reaches (setting code begin h) n fine (left_at inside before given spot stack (core_at at below line n st)) st.left
        (bind (if inside then Gives (record { at = further before spot; kind = k }) st else bind (raise h (error 1 3) st) (λ ignored after. Gives (record { at = further before spot; kind = k }) after)) go)
    left_reaches fine true before given k spot at below stack line st go each = each (further before spot) st
    left_reaches fine false before given k spot at below stack line st go each =
        subst (λ r. Reaches (setting code begin h) n fine (raised (setting code begin h) (error 1 3) (core_at (suc at) (operand_of given (further before spot) ∷ stack) line n st)) st.left r)
        (sym (bind_bind (raise h (error 1 3) st) (λ ignored after. Gives (record { at = further before spot; kind = k }) after) go))
        (raised_reaches code begin h n standing fine (error 1 3) Goes (suc at) (operand_of given (further before spot) ∷ stack) line st (λ ignored after. go (record { at = further before spot; kind = k }) after) (λ after. each (further before spot) after))

    -- the address of what places on the stack choose
    pub element_reaches : {A : Type 0} (fine : A → State → Option Step) (ds : List tree.Dimension) (given : Target) (k : Kind) (spot : List Held → Spot) (vs : List Value) (from : ℕ) (stack : List Operand) (line : List ℕ) (st : State) (go : Located → State → Evaluated A)
        → ElementAt code ds given spot from → length vs ≡ length ds
        → ((place : Spot) (after : State) → Reaches (setting code begin h) n fine (Moves (core_at (suc from) (operand_of given place ∷ stack) line n after)) after.left (go (record { at = place; kind = k }) after))
        → Reaches (setting code begin h) n fine (Moves (core_at from (laid vs stack) line n st)) st.left (bind (located h (spot st.kept.places) k ds (singles vs) st) go)
    element_reaches fine ds given k spot vs from stack line st go at many each =
        acts (setting code begin h) n fine (core_at from (laid vs stack) line n st) st.left (addresses given at.number) _ at.address
        (subst (λ step. Reaches (setting code begin h) n fine step st.left (bind (located h (spot st.kept.places) k ds (singles vs) st) go))
        (sym (element_acts at.number at.view ds given (spot st.kept.places) vs stack (core_at from (laid vs stack) line n st) at.row (at.viewed st.kept.places) refl many))
        (left_reaches fine (tree.all_inside ds (singles vs)) (elements_before ds (singles vs)) given k (spot st.kept.places) from (laid vs stack) stack line st go each))
