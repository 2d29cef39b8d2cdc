-- The kinds of the rows of shapes are in their ranges.
use Rattle.std.specs.Prelude.{◌≡◌, ℕ, zero, suc, ◌==◌, nat_le, Bool, true, false, ◌||◌, List, [], ◌∷◌, ◌++◌, map, Option, Some, None, slice_get, unwrap_or, if◌then◌else◌}
use Rattle.std.specs.List.{list_all, list_any, sum_by}
use Rattle.std.specs.Option.{option_and_then}
use Rattle.std.proofs.Common.{refl, sym, subst}
use Rattle.std.proofs.lemmas.Bool.{and_from, and_parts}
use Rattle.hal_grammar.specs.Leaves.{Naming}
use Rattle.hal_phrases.specs.Phrases.{Node, Phrase, OfItem}
use Rattle.hal_names.specs.declared.key.Space.TheVariants as space
use Rattle.hal_names.specs.Keys.{key, own}
use Rattle.hal_scope.specs.Sorts.{type_among}
use Rattle.hal_values.specs.declared.value.Kind.{Kind}
use Rattle.hal_code.specs.declared.image.ImageParts.{ImageParts}
use Rattle.hal_code.specs.declared.row.Run.{Run}
use Rattle.hal_code.specs.Images.{row_count}
use Rattle.hal_code.specs.Memory.{spread_limit, spread_of}
use Rattle.hal_code.specs.Right.{shape_right, shapes_right}
use Rattle.hal_code.specs.Sorts.{is_kind, same_kind}
use Rattle.hal_meaning.specs.Calls.{Parameter, parameter_named, parameter_shape}
use Rattle.hal_meaning.specs.Elements.{Component, Shape, times}
use Rattle.hal_meaning.specs.Sets.{Set}
use Rattle.hal_verify.specs.Limits.{spread_kept}
use Rattle.hal_runs.specs.Joined.{with_run, with_some}
use Rattle.hal_runs.specs.Joined as joined
use Rattle.hal_gen_expr.specs.Leaves.{is_nil}
use Rattle.hal_gen_expr.specs.Numbering.{same_runs}
use Rattle.hal_gen_expr.specs.Shapes.{run_of, runs_of}
use Rattle.hal_link.specs.Shapes.{Shapes, with_runs, shapes_of}
use Rattle.hal_fit_calls.specs.Each.{Each}
use Rattle.hal_fit_layout.proofs.Filling.{some_pass}
use Rattle.hal_fit_layout.proofs.Ranges.{HasKind, shape_is}
use Rattle.hal_right_images.proofs.rows.Adding.{shapes_added}

all_behind : {X : Type 0} (test : X → Bool) (xs ys : List X) → list_all test xs ≡ true → list_all test ys ≡ true → list_all test (xs ++ ys) ≡ true
all_behind test [] ys first second = second
all_behind test (x ∷ xs) ys first second =
    and_from (test x) (list_all test (xs ++ ys)) (and_parts (test x) (list_all test xs) first).0 (all_behind test xs ys (and_parts (test x) (list_all test xs) first).1 second)

-- a run of a kind in its range
abbrev ranged : Run Kind → Bool
ranged run = is_kind run.row

one_run : (runs : List (Run Kind)) (run : Run Kind) → list_all ranged runs ≡ true → is_kind run.row ≡ true → list_all ranged (with_run same_kind runs run) ≡ true
one_run runs run all is = by (run.repeat == 0) where
  by : (b : Bool) → list_all ranged (if b then runs else with_some same_kind runs run) ≡ true
  by true = all
  by false = some_pass same_kind is_kind runs run all is

runs_pass : (runs more : List (Run Kind)) → list_all ranged runs ≡ true → list_all ranged more ≡ true → list_all ranged (joined.with_runs same_kind runs more) ≡ true
unfolding joined.with_runs
runs_pass runs [] all later = all
runs_pass runs (run ∷ more) all later =
    runs_pass (with_run same_kind runs run) more (one_run runs run all (and_parts (is_kind run.row) (list_all ranged more) later).0) (and_parts (is_kind run.row) (list_all ranged more) later).1

-- the runs of components, once and several times
component_runs : (cs : List Component) → Each HasKind cs → list_all ranged (map run_of cs) ≡ true
component_runs [] each = refl
component_runs (c ∷ cs) each = and_from (is_kind c.kind) (list_all ranged (map run_of cs)) each.0 (component_runs cs each.1)

times_ranged : (n : ℕ) (runs : List (Run Kind)) → list_all ranged runs ≡ true → list_all ranged (times n runs) ≡ true
times_ranged zero runs all = refl
times_ranged (suc n) runs all = all_behind ranged runs (times n runs) all (times_ranged n runs all)

runs_ranged : (shape : Shape) → Each HasKind shape.components → shape_right (runs_of shape) ≡ true
runs_ranged shape each = runs_pass [] (times (unwrap_or shape.copies 1) (map run_of shape.components)) refl (times_ranged (unwrap_or shape.copies 1) (map run_of shape.components) (component_runs shape.components each))

-- the components of a parameter
declared_kinds : (s : Set) (p : Phrase) (node : Node) → Each HasKind (parameter_shape s p node).components
declared_kinds s p (OfItem common item) = shape_is s.phrases s.constants p (item.attributes ++ common) (type_among (item.attributes ++ common))
declared_kinds s p other = tt

abbrev found_parameter : Set → Option Phrase → Parameter
found_parameter s found = elim found [ None ↦ record { number = 0; shape = record { copies = None; components = [] } } | Some p ↦ record { number = p.number; shape = parameter_shape s p p.node } ]

found_kinds : (s : Set) (found : Option Phrase) → Each HasKind (found_parameter s found).shape.components
found_kinds s None = tt
found_kinds s (Some p) = declared_kinds s p p.node

pub named_kinds : (s : Set) (unit : ℕ) (name : Naming) → Each HasKind (parameter_named s unit name).shape.components
named_kinds s unit name = found_kinds s (option_and_then (slice_get s.phrases) (own s.phrases (key space.Declared unit name.name)))

-- shapes with one more
abbrev pub AreRanged : Shapes → Type 0
AreRanged shapes = list_all shape_right shapes ≡ true

runs_added : (shapes : Shapes) (runs : List (Run Kind)) → AreRanged shapes → shape_right runs ≡ true → AreRanged (with_runs shapes runs)
runs_added shapes runs all is = by (is_nil runs || list_any (λ found. same_runs found runs) shapes) where
  by : (b : Bool) → AreRanged (if b then shapes else shapes ++ (runs ∷ []))
  by true = all
  by false = all_behind shape_right shapes (runs ∷ []) all (and_from (shape_right runs) true is refl)

-- those of a set
pub kinds_ranged : (s : Set) → AreRanged (shapes_of s)
kinds_ranged s =
    shapes_added s AreRanged
    (λ shapes unit name all.
    let shape = (parameter_named s unit name).shape in
    runs_added shapes (runs_of shape) all (runs_ranged shape (named_kinds s unit name)))
    refl

pub shapes_are_right : (s : Set) (image : ImageParts) → image.shapes ≡ shapes_of s → spread_kept image ≡ true → shapes_right image ≡ true
shapes_are_right s image is kept =
    let few = (and_parts (nat_le (sum_by (λ (runs : List (Run Kind)). row_count runs) image.shapes) spread_limit) (nat_le (sum_by (spread_of image) image.views) spread_limit) kept).0 in
    and_from (list_all shape_right image.shapes) (nat_le (sum_by (λ (runs : List (Run Kind)). row_count runs) image.shapes) spread_limit) (let all : AreRanged image.shapes = subst AreRanged (sym is) (kinds_ranged s) in all) few
