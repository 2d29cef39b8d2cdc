-- What subscripts choose in each dimension: one place, whose number lies on the stack, or several places, which are constant. Those of the second kind leave an
-- address in the other dimensions, so many elements further on.
use Rattle.std.specs.Prelude.{◌≡◌, ℕ, suc, ◌+◌, ◌*◌, length, Bool, true, false, ◌&&◌, List, [], ◌∷◌, ◌++◌, ℤ, if◌then◌else◌}
use Rattle.std.proofs.Common.{refl, sym, ap, ap₂, subst, ◌∙◌, arith}
use Rattle.hal_grammar.specs.Expressions.{Subscripts, NoSubscripts, MoreSubscripts}
use Rattle.hal_values.specs.declared.value.Kind.{Kind}
use Rattle.hal_values.specs.declared.value.Value.{Value}
use Rattle.hal_values.specs.Answers.{error}
use Rattle.hal_states.specs.Numbers.{integer_of, is_inside, before_nearest}
use Rattle.hal_states.specs.Spots.{Spot, Shared, Own, Nowhere, further}
use Rattle.hal_meaning.specs.States.{State, Evaluated, Gives, bind}
use Rattle.hal_meaning.specs.Access.{Here, raise}
use Rattle.hal_meaning.specs.Variables.{Dimension, Index, Single, Several, index_is_inside, places_before, all_inside, elements_before}
use Rattle.hal_meaning.specs.Expressions.{Located, located}
use Rattle.hal_code.specs.Cores.{Operand}
use Rattle.hal_agreement.specs.PlacedExpressions.{array_spoken}
use Rattle.hal_agreement.proofs.Indexing.{laid, laid_both, single, singles, located_by}

pub data Choice : Type 0 where
  OfOne : (d : Dimension) (v : Value) → Choice
  OfMany : (d : Dimension) (first last : ℤ) → Choice

abbrev pub dimensions : List Choice → List Dimension
dimensions [] = []
dimensions (OfOne d v ∷ cs) = d ∷ dimensions cs
dimensions (OfMany d first last ∷ cs) = d ∷ dimensions cs

-- those in which one place is chosen
abbrev pub singly : List Choice → List Dimension
singly [] = []
singly (OfOne d v ∷ cs) = d ∷ singly cs
singly (OfMany d first last ∷ cs) = singly cs

abbrev pub indexes_of : List Choice → List Index
indexes_of [] = []
indexes_of (OfOne d v ∷ cs) = single v ∷ indexes_of cs
indexes_of (OfMany d first last ∷ cs) = Several first last ∷ indexes_of cs

abbrev pub values_of : List Choice → List Value
values_of [] = []
values_of (OfOne d v ∷ cs) = v ∷ values_of cs
values_of (OfMany d first last ∷ cs) = values_of cs

-- the elements before those that are chosen as several
abbrev pub further_by : List Choice → ℕ
further_by [] = 0
further_by (OfOne d v ∷ cs) = further_by cs
further_by (OfMany d first last ∷ cs) = before_nearest d.size first * d.stride + further_by cs

abbrev pub AreInside : List Choice → Type 0
AreInside [] = Unit {0}
AreInside (OfOne d v ∷ cs) = AreInside cs
AreInside (OfMany d first last ∷ cs) = ((is_inside d.size first && is_inside d.size last) ≡ true) × AreInside cs

-- choices in these dimensions, of which those with one place are left, so many elements further on
pub record Chooses (ds left : List Dimension) (before : ℕ) (cs : List Choice) : Type 0 where
  pub all : dimensions cs ≡ ds
  pub ones : singly cs ≡ left
  pub elements : further_by cs ≡ before
  pub inside : AreInside cs

pub chooses_none : (before : ℕ) → before ≡ 0 → Chooses [] [] before []
chooses_none before none = record { all = refl; ones = refl; elements = sym none; inside = tt }

pub with_one : (d : Dimension) (v : Value) (ds left : List Dimension) (before : ℕ) (cs : List Choice) → Chooses ds left before cs → Chooses (d ∷ ds) (d ∷ left) before (OfOne d v ∷ cs)
with_one d v ds left before cs are = record { all = ap (λ es. d ∷ es) are.all; ones = ap (λ es. d ∷ es) are.ones; elements = are.elements; inside = are.inside }

pub with_many : (d : Dimension) (first last : ℤ) (ds left : List Dimension) (here before all : ℕ) (cs : List Choice) → (is_inside d.size first && is_inside d.size last) ≡ true → here ≡ before_nearest d.size first * d.stride
    → all ≡ here + before → Chooses ds left before cs → Chooses (d ∷ ds) left all (OfMany d first last ∷ cs)
with_many d first last ds left here before all cs fits further sum are =
    let more = are.elements in
    record { all = ap (λ es. d ∷ es) are.all; ones = are.ones; elements = omega (arith, more, further, sum); inside = (fits, are.inside) }

-- two lists of choices
dimensions_both : (cs es : List Choice) → dimensions (cs ++ es) ≡ dimensions cs ++ dimensions es
dimensions_both [] es = refl
dimensions_both (OfOne d v ∷ cs) es = ap (λ ds. d ∷ ds) (dimensions_both cs es)
dimensions_both (OfMany d first last ∷ cs) es = ap (λ ds. d ∷ ds) (dimensions_both cs es)

singly_both : (cs es : List Choice) → singly (cs ++ es) ≡ singly cs ++ singly es
singly_both [] es = refl
singly_both (OfOne d v ∷ cs) es = ap (λ ds. d ∷ ds) (singly_both cs es)
singly_both (OfMany d first last ∷ cs) es = singly_both cs es

pub indexes_both : (cs es : List Choice) → indexes_of (cs ++ es) ≡ indexes_of cs ++ indexes_of es
indexes_both [] es = refl
indexes_both (OfOne d v ∷ cs) es = ap (λ is. single v ∷ is) (indexes_both cs es)
indexes_both (OfMany d first last ∷ cs) es = ap (λ is. Several first last ∷ is) (indexes_both cs es)

values_both : (cs es : List Choice) → values_of (cs ++ es) ≡ values_of cs ++ values_of es
values_both [] es = refl
values_both (OfOne d v ∷ cs) es = ap (λ vs. v ∷ vs) (values_both cs es)
values_both (OfMany d first last ∷ cs) es = values_both cs es

further_both : (cs es : List Choice) → further_by (cs ++ es) ≡ further_by cs + further_by es
further_both [] es = omega arith
further_both (OfOne d v ∷ cs) es = further_both cs es
further_both (OfMany d first last ∷ cs) es = let late = further_both cs es in omega (arith, late)

inside_both : (cs es : List Choice) → AreInside cs → AreInside es → AreInside (cs ++ es)
inside_both [] es are more = more
inside_both (OfOne d v ∷ cs) es are more = inside_both cs es are more
inside_both (OfMany d first last ∷ cs) es are more = (are.0, inside_both cs es are.1 more)

pub chooses_both : (ds left : List Dimension) (before : ℕ) (cs : List Choice) (es rest : List Dimension) (behind : ℕ) (fs : List Choice) → Chooses ds left before cs → Chooses es rest behind fs
    → Chooses (ds ++ es) (left ++ rest) (before + behind) (cs ++ fs)
chooses_both ds left before cs es rest behind fs are more = record {
  all = dimensions_both cs fs ∙ ap₂ (λ xs ys. xs ++ ys) are.all more.all;
  ones = singly_both cs fs ∙ ap₂ (λ xs ys. xs ++ ys) are.ones more.ones;
  elements = further_both cs fs ∙ ap₂ (λ m n. m + n) are.elements more.elements;
  inside = inside_both cs fs are.inside more.inside;
}

pub values_laid : (cs es : List Choice) (stack : List Operand) → laid (values_of (cs ++ es)) stack ≡ laid (values_of es) (laid (values_of cs) stack)
values_laid cs es stack = ap (λ vs. laid vs stack) (values_both cs es) ∙ laid_both (values_of cs) (values_of es) stack

-- a value for each dimension with one place, an index for each dimension
values_count : (cs : List Choice) → length (values_of cs) ≡ length (singly cs)
values_count [] = refl
values_count (OfOne d v ∷ cs) = ap suc (values_count cs)
values_count (OfMany d first last ∷ cs) = values_count cs

indexes_count : (cs : List Choice) → length (indexes_of cs) ≡ length (dimensions cs)
indexes_count [] = refl
indexes_count (OfOne d v ∷ cs) = ap suc (indexes_count cs)
indexes_count (OfMany d first last ∷ cs) = ap suc (indexes_count cs)

pub as_many_values : (ds left : List Dimension) (before : ℕ) (cs : List Choice) → Chooses ds left before cs → length (values_of cs) ≡ length left
as_many_values ds left before cs are = values_count cs ∙ ap length are.ones

pub as_many_indexes : (ds left : List Dimension) (before : ℕ) (cs : List Choice) → Chooses ds left before cs → length (indexes_of cs) ≡ length ds
as_many_indexes ds left before cs are = indexes_count cs ∙ ap length are.all

-- they lie inside where those with one place do, and before them lie the elements before those, and more
inside_alike : (cs : List Choice) → AreInside cs → all_inside (dimensions cs) (indexes_of cs) ≡ all_inside (singly cs) (singles (values_of cs))
inside_alike [] are = refl
inside_alike (OfOne d v ∷ cs) are = ap (λ b. is_inside d.size (integer_of v) && b) (inside_alike cs are)
inside_alike (OfMany d first last ∷ cs) are = ap (λ b. b && all_inside (dimensions cs) (indexes_of cs)) are.0 ∙ inside_alike cs are.1

before_alike : (cs : List Choice) → elements_before (dimensions cs) (indexes_of cs) ≡ further_by cs + elements_before (singly cs) (singles (values_of cs))
before_alike [] = omega arith
before_alike (OfOne d v ∷ cs) = let late = before_alike cs in omega (arith, late)
before_alike (OfMany d first last ∷ cs) = let late = before_alike cs in omega (arith, late)

pub further_twice : (m n : ℕ) (at : Spot) → further (m + n) at ≡ further n (further m at)
further_twice m n (Shared c) = ap Shared (omega arith)
further_twice m n (Own k) = ap Own (omega arith)
further_twice m n Nowhere = refl

chosen_by : (h : Here) (at : Spot) (k : Kind) (st : State) (cs : List Choice) → AreInside cs
    → located h at k (dimensions cs) (indexes_of cs) st ≡ located h (further (further_by cs) at) k (singly cs) (singles (values_of cs)) st
chosen_by h at k st cs are =
    ap (λ b. located_by h at k st b (elements_before (dimensions cs) (indexes_of cs))) (inside_alike cs are)
    ∙ (ap (λ m. located_by h at k st (all_inside (singly cs) (singles (values_of cs))) m) (before_alike cs)
    ∙ ap (λ spot. if all_inside (singly cs) (singles (values_of cs)) then Gives (record { at = spot; kind = k }) st else bind (raise h (error 1 3) st) (λ ignored after. Gives (record { at = spot; kind = k }) after))
    (further_twice (further_by cs) (elements_before (singly cs) (singles (values_of cs))) at))

-- the data that they choose lie so many elements further on than those that the single places choose
pub located_chosen : (h : Here) (at : Spot) (k : Kind) (st : State) (ds left : List Dimension) (before : ℕ) (cs : List Choice) → Chooses ds left before cs
    → located h at k ds (indexes_of cs) st ≡ located h (further before at) k left (singles (values_of cs)) st
located_chosen h at k st ds left before cs are =
    ap (λ es. located h at k es (indexes_of cs) st) (sym are.all)
    ∙ (chosen_by h at k st cs are.inside
    ∙ (ap (λ m. located h (further m at) k (singly cs) (singles (values_of cs)) st) are.elements ∙ ap (λ es. located h (further before at) k es (singles (values_of cs)) st) are.ones))

-- indexes lie in their dimensions, whether dimensions without one stand behind them or not
inside_short : (ds es : List Dimension) (is : List Index) → length is ≡ length (ds ++ []) → all_inside (ds ++ es) is ≡ all_inside (ds ++ []) is
inside_short [] [] [] many = refl
inside_short [] (e ∷ es) [] many = refl
inside_short [] es (i ∷ is) many = absurd (cc)
inside_short (d ∷ ds) es [] many = absurd (cc)
inside_short (d ∷ ds) es (i ∷ is) many = ap (λ b. index_is_inside d.size i && b) (inside_short ds es is (omega (arith, many)))

before_short : (ds es : List Dimension) (is : List Index) → length is ≡ length (ds ++ []) → elements_before (ds ++ es) is ≡ elements_before (ds ++ []) is
before_short [] [] [] many = refl
before_short [] (e ∷ es) [] many = refl
before_short [] es (i ∷ is) many = absurd (cc)
before_short (d ∷ ds) es [] many = absurd (cc)
before_short (d ∷ ds) es (i ∷ is) many = ap (λ n. places_before d.size i * d.stride + n) (before_short ds es is (omega (arith, many)))

-- dimensions of an array of which its subscripts don't speak choose nothing
pub located_same : (h : Here) (at : Spot) (k : Kind) (unmarked : Bool) (components : Subscripts) (ds es : List Dimension) (is : List Index) (st : State) → length is ≡ length (ds ++ array_spoken unmarked components es)
    → located h at k (ds ++ es) is st ≡ located h at k (ds ++ array_spoken unmarked components es) is st
located_same h at k false components ds es is st many = refl
located_same h at k true (MoreSubscripts first others) ds es is st many = refl
located_same h at k true NoSubscripts ds es is st many =
    ap (λ b. located_by h at k st b (elements_before (ds ++ es) is)) (inside_short ds es is many) ∙ ap (λ m. located_by h at k st (all_inside (ds ++ []) is) m) (before_short ds es is many)
