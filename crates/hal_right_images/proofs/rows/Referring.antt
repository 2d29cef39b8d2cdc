-- References are to shapes that are there: a set with an ASSIGN parameter has shapes.
use Rattle.std.specs.Prelude.{◌≡◌, ◌<◌, ◌⊎◌, ℕ, zero, suc, ◌==◌, min, nat_lt, Bool, true, false, ◌||◌, List, [], ◌∷◌, ◌++◌, length, map, replicate, flat_map, Option, Some, None, slice_get, unwrap_or, if◌then◌else◌}
use Rattle.std.specs.List.{list_any, position}
use Rattle.std.specs.Option.{option_and_then}
use Rattle.std.proofs.Common.{refl, sym, subst, inl, inr, arith}
use Rattle.std.proofs.lemmas.Bool.{eqb-true, lt-ltb, or_left, or_right}
use Rattle.std.proofs.lemmas.List.Quantifiers.{position-Some}
use Rattle.hal_grammar.specs.Leaves.{Naming}
use Rattle.hal_phrases.specs.Phrases.{Phrase}
use Rattle.hal_scope.specs.Rules.{IsAmong}
use Rattle.hal_values.specs.declared.value.Kind.{Kind}
use Rattle.hal_code.specs.declared.row.Run.{Run}
use Rattle.hal_code.specs.Sorts.{same_kind}
use Rattle.hal_meaning.specs.Bodies.{Body}
use Rattle.hal_meaning.specs.Calls.{parameter_named, inputs_of, outputs_of}
use Rattle.hal_meaning.specs.Elements.{Component, Shape, count, times, kinds_of_component, kinds_of}
use Rattle.hal_meaning.specs.Sets.{Set}
use Rattle.hal_runs.specs.Joined.{joins, longer, with_run, with_some}
use Rattle.hal_runs.specs.Joined as joined
use Rattle.hal_gen_expr.specs.Leaves.{is_nil}
use Rattle.hal_gen_expr.specs.Numbering.{below, most, same_runs, shape_in}
use Rattle.hal_gen_expr.specs.Parameters.{runs_at}
use Rattle.hal_gen_expr.specs.Shapes.{run_of, runs_of}
use Rattle.hal_link.specs.Shapes.{Shapes, with_runs, with_output, with_outputs, with_body, with_bodies, shapes_of, reference_shape}
use Rattle.hal_fit_layout.specs.Owned.{has_one}
use Rattle.hal_right_images.proofs.rows.Adding.{bodies_added, inputs_added, outputs_added}
use Rattle.hal_right_images.proofs.rows.Told.{among_first, among_second}

-- whether a run has rows
abbrev has_rows : Run Kind → Bool
has_rows run = if run.repeat == 0 then false else true

one_with : (runs : List (Run Kind)) (run : Run Kind) → is_nil (with_some same_kind runs run) ≡ false
unfolding with_some
one_with [] run = refl
one_with (one ∷ []) run = by (joins same_kind one run) where
  by : (b : Bool) → is_nil (if b then longer one run.repeat ∷ [] else one ∷ run ∷ []) ≡ false
  by true = refl
  by false = refl
one_with (one ∷ next ∷ runs) run = refl

-- runs are joined to some where some of them have rows
stays_some : (runs : List (Run Kind)) (run : Run Kind) → is_nil runs ≡ false → is_nil (with_run same_kind runs run) ≡ false
stays_some runs run is = by (run.repeat == 0) where
  by : (b : Bool) → is_nil (if b then runs else with_some same_kind runs run) ≡ false
  by true = is
  by false = one_with runs run

made_some : (runs : List (Run Kind)) (run : Run Kind) → has_rows run ≡ true → is_nil (with_run same_kind runs run) ≡ false
made_some runs run is = by (run.repeat == 0) is where
  by : (b : Bool) → (if b then false else true) ≡ true → is_nil (if b then runs else with_some same_kind runs run) ≡ false
  by true rows = absurd (cc)
  by false rows = one_with runs run

joined_stay : (runs more : List (Run Kind)) → is_nil runs ≡ false → is_nil (joined.with_runs same_kind runs more) ≡ false
unfolding joined.with_runs
joined_stay runs [] is = is
joined_stay runs (run ∷ more) is = joined_stay (with_run same_kind runs run) more (stays_some runs run is)

joined_some : (runs more : List (Run Kind)) → list_any has_rows more ≡ true → is_nil (joined.with_runs same_kind runs more) ≡ false
unfolding joined.with_runs
joined_some runs [] is = absurd (cc)
joined_some runs (run ∷ more) is = by (has_rows run) refl is (joined_some (with_run same_kind runs run) more) where
  by : (b : Bool) → has_rows run ≡ b → (b || list_any has_rows more) ≡ true → (list_any has_rows more ≡ true → is_nil (joined.with_runs same_kind (with_run same_kind runs run) more) ≡ false)
      → is_nil (joined.with_runs same_kind (with_run same_kind runs run) more) ≡ false
  by true rows any later = joined_stay (with_run same_kind runs run) more (made_some runs run rows)
  by false none any later = later any

-- data with elements have runs with rows
in_either : (ks ls : List Kind) → has_one (ks ++ ls) ≡ true → (has_one ks ≡ true) ⊎ (has_one ls ≡ true)
in_either [] ls is = inr is
in_either (k ∷ ks) ls is = inl refl

component_rows : (n : ℕ) (k : Kind) → has_one (replicate n k) ≡ true → has_rows (record { repeat = min n 4294967295; row = k }) ≡ true
component_rows zero k is = absurd (cc)
component_rows (suc n) k is = by (min (suc n) 4294967295 == 0) refl where
  low : 0 < min (suc n) 4294967295
  low = omega arith

  by : (b : Bool) → (min (suc n) 4294967295 == 0) ≡ b → (if b then false else true) ≡ true
  by false isnt = refl
  by true same = let zero_so = eqb-true (min (suc n) 4294967295) 0 same in absurd (omega (arith, low, zero_so))

components_rows : (cs : List Component) → has_one (flat_map kinds_of_component cs) ≡ true → list_any has_rows (map run_of cs) ≡ true
components_rows [] is = absurd (cc)
components_rows (c ∷ cs) is = by (in_either (kinds_of_component c) (flat_map kinds_of_component cs) is) (components_rows cs) where
  by : (has_one (kinds_of_component c) ≡ true) ⊎ (has_one (flat_map kinds_of_component cs) ≡ true) → (has_one (flat_map kinds_of_component cs) ≡ true → list_any has_rows (map run_of cs) ≡ true)
      → (has_rows (run_of c) || list_any has_rows (map run_of cs)) ≡ true
  by (inl first) later = or_left (has_rows (run_of c)) (list_any has_rows (map run_of cs)) (component_rows (count c) c.kind first)
  by (inr others) later = or_right (has_rows (run_of c)) (list_any has_rows (map run_of cs)) (later others)

any_first : (xs ys : List (Run Kind)) → list_any has_rows xs ≡ true → list_any has_rows (xs ++ ys) ≡ true
any_first [] ys is = absurd (cc)
any_first (x ∷ xs) ys is = by (has_rows x) is (any_first xs ys) where
  by : (b : Bool) → (b || list_any has_rows xs) ≡ true → (list_any has_rows xs ≡ true → list_any has_rows (xs ++ ys) ≡ true) → (b || list_any has_rows (xs ++ ys)) ≡ true
  by true any later = refl
  by false any later = later any

none_of_none : (n : ℕ) → has_one (times n []) ≡ false
none_of_none zero = refl
none_of_none (suc n) = none_of_none n

times_rows : (n : ℕ) (ks : List Kind) (runs : List (Run Kind)) → (has_one ks ≡ true → list_any has_rows runs ≡ true) → has_one (times n ks) ≡ true → list_any has_rows (times n runs) ≡ true
times_rows zero ks runs so is = absurd (cc)
times_rows (suc n) [] runs so is = let none = none_of_none (suc n) in absurd (cc)
times_rows (suc n) (k ∷ ks) runs so is = any_first runs (times n runs) (so refl)

pub runs_some : (shape : Shape) → has_one (kinds_of shape) ≡ true → is_nil (runs_of shape) ≡ false
runs_some shape is =
    joined_some [] (times (unwrap_or shape.copies 1) (map run_of shape.components))
    (times_rows (unwrap_or shape.copies 1) (flat_map kinds_of_component shape.components) (map run_of shape.components) (components_rows shape.components) is)

-- runs are among shapes, or some that are the same
abbrev pub HaveRuns : List (Run Kind) → Shapes → Type 0
HaveRuns runs shapes = IsAmong runs shapes ⊎ (list_any (λ found. same_runs found runs) shapes ≡ true)

any_before : (test : List (Run Kind) → Bool) (xs ys : Shapes) → list_any test xs ≡ true → list_any test (xs ++ ys) ≡ true
any_before test [] ys is = absurd (cc)
any_before test (x ∷ xs) ys is = by (test x) is (any_before test xs ys) where
  by : (b : Bool) → (b || list_any test xs) ≡ true → (list_any test xs ≡ true → list_any test (xs ++ ys) ≡ true) → (b || list_any test (xs ++ ys)) ≡ true
  by true any later = refl
  by false any later = later any

have_more : (runs : List (Run Kind)) (shapes more : Shapes) → HaveRuns runs shapes → HaveRuns runs (shapes ++ more)
have_more runs shapes more (inl within) = inl (among_first runs shapes more within)
have_more runs shapes more (inr any) = inr (any_before (λ found. same_runs found runs) shapes more any)

runs_stay : (wanted : List (Run Kind)) (shapes : Shapes) (runs : List (Run Kind)) → HaveRuns wanted shapes → HaveRuns wanted (with_runs shapes runs)
runs_stay wanted shapes runs have = by (is_nil runs || list_any (λ found. same_runs found runs) shapes) where
  by : (b : Bool) → HaveRuns wanted (if b then shapes else shapes ++ (runs ∷ []))
  by true = have
  by false = have_more wanted shapes (runs ∷ []) have

runs_made : (shapes : Shapes) (runs : List (Run Kind)) → is_nil runs ≡ false → HaveRuns runs (with_runs shapes runs)
runs_made shapes runs isnt = by (is_nil runs) isnt (list_any (λ found. same_runs found runs) shapes) refl where
  by : (nil : Bool) → nil ≡ false → (any : Bool) → list_any (λ found. same_runs found runs) shapes ≡ any → HaveRuns runs (if nil || any then shapes else shapes ++ (runs ∷ []))
  by true not any is = absurd (cc)
  by false not true is = inr is
  by false not false is = inl (among_second runs shapes (runs ∷ []) (inl refl))

-- those of a parameter
abbrev runs_named : Set → ℕ → Naming → List (Run Kind)
runs_named s unit name = runs_of (parameter_named s unit name).shape

stays : (s : Set) (wanted : List (Run Kind)) (shapes : Shapes) (unit : ℕ) (name : Naming) → HaveRuns wanted shapes → HaveRuns wanted (with_runs shapes (runs_of (parameter_named s unit name).shape))
stays s wanted shapes unit name have = runs_stay wanted shapes (runs_named s unit name) have

-- of an ASSIGN parameter with elements
outputs_make : (s : Set) (unit : ℕ) (shapes : Shapes) (names : List Naming) (name : Naming) → IsAmong name names → has_one (kinds_of (parameter_named s unit name).shape) ≡ true
    → HaveRuns (runs_named s unit name) (with_outputs s unit shapes names)
unfolding with_outputs
outputs_make s unit shapes [] name within one = absurd within
outputs_make s unit shapes (other ∷ names) name (inl same) one =
    subst (λ (x : Naming). HaveRuns (runs_named s unit x) (with_outputs s unit (with_output shapes (parameter_named s unit other)) names)) (sym same)
    (outputs_added s (HaveRuns (runs_named s unit other)) (stays s (runs_named s unit other)) unit (with_output shapes (parameter_named s unit other)) names
    (runs_made shapes (runs_named s unit other) (runs_some (parameter_named s unit other).shape (subst (λ (x : Naming). has_one (kinds_of (parameter_named s unit x).shape) ≡ true) same one))))
outputs_make s unit shapes (other ∷ names) name (inr later) one = outputs_make s unit (with_output shapes (parameter_named s unit other)) names name later one

bodies_make : (s : Set) (shapes : Shapes) (bodies : List Body) (body : Body) → IsAmong body bodies → (name : Naming) → IsAmong name (outputs_of body.head)
    → has_one (kinds_of (parameter_named s body.number name).shape) ≡ true → HaveRuns (runs_named s body.number name) (with_bodies s shapes bodies)
unfolding with_bodies
bodies_make s shapes [] body within name listed one = absurd within
bodies_make s shapes (other ∷ bodies) body (inl same) name listed one =
    subst (λ (x : Body). HaveRuns (runs_named s x.number name) (with_bodies s (with_body s shapes other) bodies)) (sym same)
    (bodies_added s (HaveRuns (runs_named s other.number name)) (stays s (runs_named s other.number name)) (with_body s shapes other) bodies
    (inputs_added s (HaveRuns (runs_named s other.number name)) (stays s (runs_named s other.number name)) other.number (with_outputs s other.number shapes (outputs_of other.head)) (inputs_of other.head)
    (outputs_make s other.number shapes (outputs_of other.head) name (subst (λ (x : Body). IsAmong name (outputs_of x.head)) same listed)
    (subst (λ (x : Body). has_one (kinds_of (parameter_named s x.number name).shape) ≡ true) same one))))
bodies_make s shapes (other ∷ bodies) body (inr later) name listed one = bodies_make s (with_body s shapes other) bodies body later name listed one

pub shapes_have : (s : Set) (body : Body) → IsAmong body s.bodies → (name : Naming) → IsAmong name (outputs_of body.head) → has_one (kinds_of (parameter_named s body.number name).shape) ≡ true
    → HaveRuns (runs_of (parameter_named s body.number name).shape) (shapes_of s)
shapes_have s body within name listed one = bodies_make s [] s.bodies body within name listed one

-- so there are shapes
abbrev pub AreSome : Shapes → Type 0
AreSome shapes = 0 < length shapes

have_some : (runs : List (Run Kind)) (shapes : Shapes) → HaveRuns runs shapes → AreSome shapes
have_some runs [] (inl within) = absurd within
have_some runs [] (inr any) = absurd (cc)
have_some runs (one ∷ shapes) have = omega arith

pub shapes_some : (s : Set) (body : Body) → IsAmong body s.bodies → (name : Naming) → IsAmong name (outputs_of body.head) → has_one (kinds_of (parameter_named s body.number name).shape) ≡ true → AreSome (shapes_of s)
shapes_some s body within name listed one = have_some (runs_of (parameter_named s body.number name).shape) (shapes_of s) (shapes_have s body within name listed one)

-- a number that is found is below that of all shapes
low_below : (limit n length : ℕ) → n < length → 0 < length → unwrap_or (below limit n) 0 < length
low_below limit n length less some = by (nat_lt n limit) where
  by : (b : Bool) → unwrap_or (if b then Some n else None) 0 < length
  by true = less
  by false = some

shape_low : (shapes : Shapes) (runs : List (Run Kind)) → AreSome shapes → unwrap_or (shape_in shapes runs) 0 < length shapes
shape_low shapes runs some = by (position (λ found. same_runs found runs) shapes) refl where
  by : (o : Option ℕ) → position (λ found. same_runs found runs) shapes ≡ o → unwrap_or (option_and_then (below most) o) 0 < length shapes
  by None is = some
  by (Some n) is = low_below most n (length shapes) (position-Some (λ found. same_runs found runs) shapes n [] is).0 some

pub reference_low : (s : Set) (shapes : Shapes) (owner : ℕ) → AreSome shapes → nat_lt (reference_shape s shapes owner) (length shapes) ≡ true
reference_low s shapes owner some = lt-ltb (reference_shape s shapes owner) (length shapes) (by (slice_get s.phrases owner)) where
  by : (o : Option Phrase) → unwrap_or (option_and_then (λ (p : Phrase). shape_in shapes (runs_at s p)) o) 0 < length shapes
  by None = some
  by (Some p) = shape_low shapes (runs_at s p) some
