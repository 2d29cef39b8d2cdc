-- What the rows of a right image say: where blocks begin, and what own places hold at first.
use Rattle.std.specs.Prelude.{ℕ, zero, suc, ◌+◌, ◌-◌, ◌<◌, ◌≤◌, ◌==◌, ◌≡◌, nat_le, nat_lt, length, map, drop, replicate, min, Bool, true, false, ◌&&◌, ◌||◌, List, [], ◌∷◌, ◌++◌, Option, Some, None, slice_get}
use Rattle.std.specs.List.{list_all, sum_by}
use Rattle.std.proofs.Common.{refl, sym, ap, subst, ◌∙◌, arith}
use Rattle.std.proofs.lemmas.Bool.{eqb-true, ltb-true, eq-eqb, and_parts}
use Rattle.std.proofs.lemmas.List.{length-take, length-drop}
use Rattle.hal_values.specs.declared.tables.EventStart.{EventStart}
use Rattle.hal_values.specs.declared.value.Kind.{Kind}
use Rattle.hal_values.specs.declared.value.Kind.TheVariants as kind
use Rattle.hal_values.specs.declared.value.Value.{Value}
use Rattle.hal_values.specs.declared.value.Value.TheVariants as value
use Rattle.hal_values.specs.Kinds.{IsOfKind}
use Rattle.hal_states.specs.OfKinds.{is_of}
use Rattle.hal_states.proofs.OfKind.{kind_of_is}
use Rattle.hal_code.specs.declared.choice.Choice.{Choice}
use Rattle.hal_code.specs.declared.image.ImageParts.{ImageParts}
use Rattle.hal_code.specs.declared.instr.Instr.{Instr}
use Rattle.hal_code.specs.declared.row.Block.{Block}
use Rattle.hal_code.specs.declared.row.OwnPlace.{OwnPlace}
use Rattle.hal_code.specs.declared.row.OwnPlace.TheVariants as place
use Rattle.hal_code.specs.declared.row.Process.{Process}
use Rattle.hal_code.specs.declared.row.Run.{Run}
use Rattle.hal_code.specs.declared.row.View.{View}
use Rattle.hal_code.specs.Blocks.{is_common, code_of, is_of_process}
use Rattle.hal_code.specs.Cores.{Setting}
use Rattle.hal_code.specs.Flow.{stacks, parts, is_inside}
use Rattle.hal_code.specs.Images.{expanded, places_of, held_first, first_of_block, first_of}
use Rattle.hal_code.specs.Memory.{spread_limit, spread_of}
use Rattle.hal_code.specs.Operands.{is_known, events_of}
use Rattle.hal_code.specs.Right.{follow, cell_right, place_right, process_right, processes_right, shapes_right, names_right, form_right, lies_right, views_lie, limits_right, postfix_right}
use Rattle.hal_code.specs.Sorts.{sort_of, is_kind, is_initial}
use Rattle.hal_sound_code.specs.Lying.{sort_of_value, IsHeld, AreHeld}
use Rattle.hal_sound_code.specs.Standing.{Stands}
use Rattle.hal_sound_code.proofs.Flows.{part_of}
use Rattle.hal_sound_code.proofs.Rights.{Whole}
use Rattle.hal_sound_code.proofs.Views.{any_at, all_at, view_lies}

-- the sort of a value of a kind
pub sort_of_kind : (k : Kind) (v : Value) → IsOfKind k v → sort_of_value v ≡ sort_of k
sort_of_kind kind.Single (value.Int a) is = refl
sort_of_kind kind.Single (value.Bits len word) is = absurd (is)
sort_of_kind kind.Single (value.Text text) is = absurd (is)
sort_of_kind kind.Double (value.Int a) is = refl
sort_of_kind kind.Double (value.Bits len word) is = absurd (is)
sort_of_kind kind.Double (value.Text text) is = absurd (is)
sort_of_kind (kind.Bits n) (value.Int a) is = absurd (is)
sort_of_kind (kind.Bits n) (value.Bits len word) is = refl
sort_of_kind (kind.Bits n) (value.Text text) is = absurd (is)
sort_of_kind (kind.Text n) (value.Int a) is = absurd (is)
sort_of_kind (kind.Text n) (value.Bits len word) is = absurd (is)
sort_of_kind (kind.Text n) (value.Text text) is = refl

-- the rows that matter
pub record Rows (image : ImageParts) : Type 0 where
  pub common : list_all (place_right image) image.common ≡ true
  pub processes : processes_right image 0 image.processes ≡ true
  pub forms : list_all (form_right image) image.views ≡ true
  pub views : views_lie image 0 image.views ≡ true

rows_of : (limits cells events common processes shapes forms few lie expressions names : Bool)
    → (((limits && cells) && (events && common)) && ((processes && shapes) && (((forms && few) && lie) && (expressions && names)))) ≡ true → (common ≡ true) × (processes ≡ true) × (forms ≡ true) × (lie ≡ true)
rows_of limits cells events common processes shapes forms few lie expressions names e = (
  (and_parts events common (and_parts (limits && cells) _ (and_parts _ _ e).0).1).1,
  (and_parts processes shapes (and_parts (processes && shapes) _ (and_parts _ _ e).1).0).0,
  (and_parts forms few (and_parts (forms && few) lie (and_parts _ (expressions && names) (and_parts (processes && shapes) _ (and_parts _ _ e).1).1).0).0).0,
  (and_parts (forms && few) lie (and_parts _ (expressions && names) (and_parts (processes && shapes) _ (and_parts _ _ e).1).1).0).1,
)

pub rows : (image : ImageParts) → Whole image → Rows image
rows image all = record { common = known.0; processes = known.1; forms = known.2; views = known.3 }
  where
    known : (list_all (place_right image) image.common ≡ true) × (processes_right image 0 image.processes ≡ true) × (list_all (form_right image) image.views ≡ true) × (views_lie image 0 image.views ≡ true)
    known = rows_of (limits_right image) (list_all cell_right image.cells) (list_all (λ (one : Choice EventStart). is_known one) image.events) (list_all (place_right image) image.common) (processes_right image 0 image.processes) (shapes_right image) (list_all (form_right image) image.views)
        (nat_le (sum_by (spread_of image) image.views) spread_limit) (views_lie image 0 image.views) (list_all (postfix_right (events_of image) 0) image.expressions) (names_right image) all.rows

-- a view that is right
pub view_forms : (image : ImageParts) → Whole image → (v : ℕ) (view : View) → slice_get image.views v ≡ Some view → form_right image view ≡ true
view_forms image all v view e = all_at (form_right image) image.views v view e (rows image all).forms

pub view_at : (image : ImageParts) → Whole image → (v : ℕ) (view : View) → slice_get image.views v ≡ Some view → lies_right image v view ≡ true
view_at image all v view e = subst (λ n. lies_right image n view ≡ true) (let same : 0 + v ≡ v = omega arith in same) (view_lies image 0 image.views v view e (rows image all).views)

-- blocks lie in the code, and aren't empty
follow_low : (size from : ℕ) (blocks : List Block) → follow size from blocks ≡ true → from ≤ size
follow_low size from [] e = omega (arith, eqb-true from size e)
follow_low size from (block ∷ blocks) e = below (eqb-true block.first from (and_parts _ _ (and_parts _ _ e).0).0) (ltb-true block.first block.end (and_parts _ _ (and_parts _ _ e).0).1) (follow_low size block.end blocks (and_parts _ _ e).1)
  where
    below : block.first ≡ from → block.first < block.end → block.end ≤ size → from ≤ size
    below is less low = omega (arith, is, less, low)

follow_at : (size from : ℕ) (blocks : List Block) → follow size from blocks ≡ true → (n : ℕ) (block : Block) → slice_get blocks n ≡ Some block → (block.first < block.end) × (block.end ≤ size)
follow_at size from [] e n block is = absurd (cc)
follow_at size from (one ∷ blocks) e zero block is =
    subst (λ (x : Block). (x.first < x.end) × (x.end ≤ size)) (let same : one ≡ block = cc in same) (ltb-true one.first one.end (and_parts _ _ (and_parts _ _ e).0).1, follow_low size one.end blocks (and_parts _ _ e).1)
follow_at size from (one ∷ blocks) e (suc n) block is = follow_at size one.end blocks (and_parts _ _ e).1 n block is

entry_sorts : (image : ImageParts) (block : Block) (b : ℕ) (code : List Instr) → 0 < length code → (slice_get (stacks image block b code []) 0 ≡ Some []) × (is_inside (part_of (slice_get (parts 0 code None) 0)) ≡ false)
entry_sorts image block b [] some = absurd (omega (arith, some))
entry_sorts image block b (i ∷ is) some = (refl, refl)

-- control stands at the beginning of a block
pub begins : (s : Setting) → Whole s.image → (b : ℕ) (block : Block) → slice_get s.image.blocks b ≡ Some block → (is_common block || (block.process == s.process)) ≡ true → Stands s b false block.first []
begins s all b block row own = record {
  block = block;
  place = 0;
  row = row;
  there = omega arith;
  own = own;
  stack = (entry_sorts s.image block b (code_of s.image block) some).0;
  part = (entry_sorts s.image block b (code_of s.image block) some).1;
}
  where
    lies : (block.first < block.end) × (block.end ≤ length s.image.code)
    lies = follow_at (length s.image.code) 0 s.image.blocks (and_parts _ _ all.blocks).0 b block row

    size : (first end_ whole n m : ℕ) → first < end_ → end_ ≤ whole → m ≡ whole - first → n ≡ min (end_ - first) m → 0 < n
    size first end_ whole n m less low is also = omega (arith, less, low, is, also)

    some : 0 < length (code_of s.image block)
    some = size block.first block.end (length s.image.code) _ _ lies.0 lies.1 (length-drop block.first s.image.code) (length-take (block.end - block.first) (drop block.first s.image.code))

-- own places hold at first what fits them
first_held : (s : Setting) (run : Run OwnPlace) → place_right s.image run ≡ true → IsHeld s run.row (held_first run.row)
first_held s run e = of_place run.row e
  where
    of_place : (one : OwnPlace) → ◌≡◌ {A = Bool} (elim one [ place.Data kind initial ↦ is_initial kind initial | place.Reference shape ↦ nat_lt shape (length s.image.shapes) ]) true → IsHeld s one (held_first one)
    of_place (place.Data k initial) is = sort_of_kind k initial (kind_of_is k initial (and_parts (is_kind k) (is_of k initial) is).1)
    of_place (place.Reference shape) is = tt

held_many : (s : Setting) (n : ℕ) (one : OwnPlace) → IsHeld s one (held_first one) → AreHeld s (replicate n one) (map held_first (replicate n one))
held_many s zero one is = tt
held_many s (suc n) one is = (is, held_many s n one is)

held_append : (s : Setting) (xs ys : List OwnPlace) → AreHeld s xs (map held_first xs) → AreHeld s ys (map held_first ys) → AreHeld s (xs ++ ys) (map held_first (xs ++ ys))
held_append s [] ys are others = others
held_append s (x ∷ xs) ys are others = (are.0, held_append s xs ys are.1 others)

held_runs : (s : Setting) (runs : List (Run OwnPlace)) → list_all (place_right s.image) runs ≡ true → AreHeld s (expanded runs) (map held_first (expanded runs))
held_runs s [] e = tt
held_runs s (run ∷ runs) e =
    held_append s (replicate run.repeat run.row) (expanded runs) (held_many s run.repeat run.row (first_held s run (and_parts (place_right s.image run) (list_all (place_right s.image) runs) e).0)) (held_runs s runs (and_parts (place_right s.image run) (list_all (place_right s.image) runs) e).1)

-- the row of a process
process_from : (image : ImageParts) (p : ℕ) (processes : List Process) → processes_right image p processes ≡ true → (n : ℕ) (process : Process) → slice_get processes n ≡ Some process → process_right image (p + n) process ≡ true
process_from image p [] e n process is = absurd (cc)
process_from image p (one ∷ processes) e zero process is =
    subst (λ k. process_right image k process ≡ true) (let same : p ≡ p + zero = omega arith in same) (subst (λ x. process_right image p x ≡ true) (let same : one ≡ process = cc in same) (and_parts (process_right image p one) (processes_right image (suc p) processes) e).0)
process_from image p (one ∷ processes) e (suc n) process is =
    subst (λ k. process_right image k process ≡ true) (let same : suc p + n ≡ p + suc n = omega arith in same) (process_from image (suc p) processes (and_parts (process_right image p one) (processes_right image (suc p) processes) e).1 n process is)

some_at : {T : Type 0} (xs : List T) (n : ℕ) → n < length xs → (x : T) × (slice_get xs n ≡ Some x)
some_at [] n less = absurd (omega (arith, less))
some_at (x ∷ xs) zero less = (x, refl)
some_at (x ∷ xs) (suc n) less = some_at xs n (omega (arith, less))

-- the process that runs, and its block
pub record Runs (s : Setting) : Type 0 where
  pub number : ℕ
  pub block : Block
  pub row : slice_get s.image.blocks number ≡ Some block
  pub own : (block.process == s.process) ≡ true
  pub of_process : is_of_process s.image number ≡ true
  pub first : first_of s.image s.process ≡ block.first
  pub held : AreHeld s (places_of s.image s.process) (map held_first (places_of s.image s.process))

runs_of : (s : Setting) → Whole s.image → (process : Process) → slice_get s.image.processes s.process ≡ Some process → Runs s
runs_of s all process e = with_block (slice_get s.image.blocks process.block) refl (and_parts _ _ right).0
  where
    right : process_right s.image s.process process ≡ true
    right = subst (λ k. process_right s.image k process ≡ true) (let same : 0 + s.process ≡ s.process = omega arith in same) (process_from s.image 0 s.image.processes (rows s.image all).processes s.process process e)

    held : AreHeld s (places_of s.image s.process) (map held_first (places_of s.image s.process))
    held =
        subst (λ (o : Option Process). AreHeld s (elim o [ None ↦ [] | Some one ↦ expanded s.image.common ++ expanded one.places ]) (map held_first (elim o [ None ↦ [] | Some one ↦ expanded s.image.common ++ expanded one.places ]))) (sym e)
        (held_append s (expanded s.image.common) (expanded process.places) (held_runs s s.image.common (rows s.image all).common) (held_runs s process.places (and_parts (elim (slice_get s.image.blocks process.block) [ None ↦ false | Some block ↦ block.process == s.process ]) (list_all (place_right s.image) process.places) right).1))

    with_block : (o : Option Block) → slice_get s.image.blocks process.block ≡ o → ◌≡◌ {A = Bool} (elim o [ None ↦ false | Some block ↦ block.process == s.process ]) true → Runs s
    with_block None is h = absurd (cc)
    with_block (Some block) is h = record {
      number = process.block;
      block = block;
      row = is;
      own = h;
      of_process = any_at (λ (q : Process). q.block == process.block) s.image.processes s.process process e (eq-eqb process.block process.block refl);
      first = ap (λ (o : Option Process). elim o [ None ↦ 0 | Some one ↦ first_of_block s.image one.block ]) e ∙ ap (λ (o : Option Block). elim o [ None ↦ 0 | Some one ↦ one.first ]) is;
      held = held;
    }

pub runs : (s : Setting) → Whole s.image → s.process < length s.image.processes → Runs s
runs s all exists = runs_of s all (some_at s.image.processes s.process exists).0 (some_at s.image.processes s.process exists).1
