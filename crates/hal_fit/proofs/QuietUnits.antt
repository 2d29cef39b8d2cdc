-- The code of a unit whose statements fit inside of an UPDATE block asks nothing, and so its block is one that may be called there.
use Rattle.std.specs.Prelude.{◌≡◌, ◌<◌, ◌≤◌, ℕ, zero, suc, ◌+◌, ◌-◌, length, take, drop, Bool, true, false, ◌||◌, List, [], ◌∷◌, ◌++◌, Option, Some, None, slice_get, unwrap_or}
use Rattle.std.specs.List.{list_any}
use Rattle.std.proofs.Common.{refl, sym, ap, subst, ◌∙◌, arith, length-append}
use Rattle.std.proofs.lemmas.List.{length-take}
use Rattle.std.proofs.lemmas.Option.{slice_get_within}
use Rattle.hal_values.specs.declared.value.Value.{Value}
use Rattle.hal_values.specs.declared.value.Value.TheVariants as value
use Rattle.hal_grammar.specs.Units.{Head}
use Rattle.hal_meaning.specs.Bodies.{Body}
use Rattle.hal_meaning.specs.Calls.{zero_of, is_function}
use Rattle.hal_meaning.specs.Places.{Place}
use Rattle.hal_meaning.specs.Sets.{Set}
use Rattle.hal_code.specs.declared.image.ImageParts.{ImageParts}
use Rattle.hal_code.specs.declared.instr.Instr.{Instr}
use Rattle.hal_code.specs.declared.instr.Instr.TheVariants as instr
use Rattle.hal_code.specs.declared.row.Block.{Block}
use Rattle.hal_code.specs.Blocks.{code_of, leads_out, outward, outward_from}
use Rattle.hal_sound_code.proofs.Views.{front}
use Rattle.hal_agreement.specs.Codes.{Code}
use Rattle.hal_agreement.specs.PlacedBlocks.{ClearsAt, EndAt, UnitAt, leaving_by, unit_site}
use Rattle.hal_agreement.specs.PlacedExpressions.{pushes}
use Rattle.hal_agreement.specs.PlacedStatements.{of_block}
use Rattle.hal_fitting.specs.Fitting.{Ground}
use Rattle.hal_fitting.proofs.Passing.{of_block as instr_of_block}
use Rattle.hal_fit_expr.specs.Uses.{Uses}
use Rattle.hal_fit.specs.Ending.{end_behind}
use Rattle.hal_fit.specs.Quiet.{IsQuiet}
use Rattle.hal_fit.specs.Stating.{StatementsFit}
use Rattle.hal_fit.specs.Supporting.{Supports}
use Rattle.hal_fit.proofs.Quiet.{nothing_quiet, one_quiet, both_quiet}
use Rattle.hal_fit.proofs.QuietStatements.{statements_quiet}

pushes_quiet : (out : List Bool) (v : Value) → leads_out out (pushes v) ≡ false
pushes_quiet out (value.Int a) = refl
pushes_quiet out (value.Bits len word) = refl
pushes_quiet out (value.Text text) = refl

module _ (code : Code) (out : List Bool) where
  clears_quiet : (clears : List (ℕ × ℕ)) (from to : ℕ) → ClearsAt code clears from to → IsQuiet code.image out from to
  clears_quiet [] from to at = nothing_quiet code.image out at
  clears_quiet (one ∷ others) from to at = both_quiet code.image out (one_quiet code.image out (instr.Clear one.0 one.1) at.0 refl refl) (clears_quiet others (suc from) to at.1)

  end_quiet : (function : Bool) (head : Head) (row : Block) (at : ℕ) → EndAt code function head row at → IsQuiet code.image out at (end_behind function at)
  end_quiet false head row at ends = one_quiet code.image out instr.Return ends.0 refl refl
  end_quiet true head row at ends =
      both_quiet code.image out (one_quiet code.image out (instr.Raise 1 7) ends.0 refl refl)
      (both_quiet code.image out (one_quiet code.image out (pushes (zero_of head)) ends.1 (pushes_quiet out (zero_of head)) refl) (one_quiet code.image out instr.Return ends.2 refl refl))

-- what is added to a list stands at its length
get_end : {X : Type 0} (xs : List X) (last : X) → slice_get (xs ++ last ∷ []) (length xs) ≡ Some last
get_end [] last = refl
get_end (y ∷ xs) last = get_end xs last

-- no element of a list is one
none_any : {X : Type 0} (is : X → Bool) (xs : List X) → ((n : ℕ) (x : X) → slice_get xs n ≡ Some x → is x ≡ false) → list_any is xs ≡ false
none_any is [] each = refl
none_any {X} is (x ∷ xs) each = ap (λ b. b || list_any is xs) (each 0 x refl) ∙ none_any is xs (λ n y there. each (suc n) y there)

-- the code of a block that asks nothing
block_quiet : (image : ImageParts) (out : List Bool) (row : Block) → IsQuiet image out row.first row.end → list_any (leads_out out) (code_of image row) ≡ false
block_quiet image out row quiet =
    none_any (leads_out out) (code_of image row)
    (λ n i there.
    let within = slice_get_within (code_of image row) n i there in
    let short = length-take (row.end - row.first) (drop row.first image.code) in
    quiet.each (row.first + n) i (omega arith) (omega (arith, within, short)) (sym (instr_of_block image row n within) ∙ there))

pub unit_quiet : (code : Code) (g : Ground) (u : Bool → Uses) (s : Set) (places : List Place) (b : Body) (at : UnitAt code s places b g.block) → g.block.end ≡ end_behind (is_function b.head) at.finish
    → Supports code g s places u → StatementsFit code.image g u true (unit_site s places b) 0 b.statements → list_any (leads_out g.out) (code_of code.image g.block) ≡ false
unit_quiet code g u s places b at ends supports fits =
    block_quiet code.image g.out g.block
    (both_quiet code.image g.out (clears_quiet code g.out at.clears g.block.first at.start at.begins)
    (both_quiet code.image g.out (statements_quiet code g u b.statements (unit_site s places b) (of_block (leaving_by (is_function b.head)) at.handler) 0 at.start at.finish supports fits at.statements)
    (subst (λ m. IsQuiet code.image g.out at.finish m) (sym ends) (end_quiet code g.out (is_function b.head) b.head g.block at.finish at.ends))))

-- flags of blocks that are known stay
flag_kept : (image : ImageParts) (blocks : List Block) (known : List Bool) (k : ℕ) (flag : Bool) → slice_get known k ≡ Some flag → slice_get (outward_from image known blocks) k ≡ Some flag
flag_kept image [] known k flag is = is
flag_kept image (row ∷ blocks) known k flag is =
    flag_kept image blocks (known ++ (list_any (leads_out known) (code_of image row) ∷ [])) k flag (front known (list_any (leads_out known) (code_of image row) ∷ []) k flag is)

both_false : (a b : Bool) → (a || b) ≡ false → (a ≡ false) × (b ≡ false)
both_false true b is = absurd (cc)
both_false false b is = (refl, is)

-- what asks nothing by all flags asks nothing by the first ones
fewer_any : (known all : List Bool) (xs : List Instr) → ((i : Instr) → leads_out all i ≡ false → leads_out known i ≡ false) → list_any (leads_out all) xs ≡ false → list_any (leads_out known) xs ≡ false
fewer_any known all [] each none = refl
fewer_any known all (i ∷ xs) each none =
    let both = both_false (leads_out all i) (list_any (leads_out all) xs) none in
    ap (λ b. b || list_any (leads_out known) xs) (each i both.0) ∙ fewer_any known all xs each both.1

callee_flag : (o more : Option Bool) → ((flag : Bool) → o ≡ Some flag → more ≡ Some flag) → unwrap_or more false ≡ false → unwrap_or o false ≡ false
callee_flag None more kept none = refl
callee_flag (Some flag) more kept none = sym (ap (λ m. unwrap_or m false) (kept flag refl)) ∙ none

leads_less : (image : ImageParts) (blocks : List Block) (known : List Bool) (i : Instr) → leads_out (outward_from image known blocks) i ≡ false → leads_out known i ≡ false
leads_less image blocks known (instr.Call callee) none =
    callee_flag (slice_get known callee) (slice_get (outward_from image known blocks) callee) (λ flag is. flag_kept image blocks known callee flag is) none
leads_less image blocks known other none = none

-- the block with this number is one that asks nothing
flag_at : (image : ImageParts) (blocks : List Block) (known : List Bool) (k : ℕ) (row : Block) → slice_get blocks k ≡ Some row → list_any (leads_out (outward_from image known blocks)) (code_of image row) ≡ false
    → slice_get (outward_from image known blocks) (length known + k) ≡ Some false
flag_at image [] known k row there none = absurd (cc)
flag_at image (first ∷ blocks) known zero row there none =
    let same : first ≡ row = cc in
    let all : List Bool = outward_from image known (first ∷ blocks) in
    let quiet : list_any (leads_out known) (code_of image first) ≡ false =
    fewer_any known all (code_of image first) (λ i is. leads_less image (first ∷ blocks) known i is) (subst (λ (one : Block). list_any (leads_out all) (code_of image one) ≡ false) (sym same) none) in
    let here : length known + zero ≡ length known = omega arith in
    flag_kept image blocks (known ++ (list_any (leads_out known) (code_of image first) ∷ [])) (length known + zero) false
    (subst (λ n. slice_get (known ++ (list_any (leads_out known) (code_of image first) ∷ [])) n ≡ Some false) (sym here) (get_end known (list_any (leads_out known) (code_of image first)) ∙ ap Some quiet))
flag_at image (first ∷ blocks) known (suc k) row there none =
    let long = length-append known (list_any (leads_out known) (code_of image first) ∷ []) in
    subst (λ n. slice_get (outward_from image known (first ∷ blocks)) n ≡ Some false)
    (let same : length (known ++ (list_any (leads_out known) (code_of image first) ∷ [])) + k ≡ length known + suc k = omega (arith, long) in same)
    (flag_at image blocks (known ++ (list_any (leads_out known) (code_of image first) ∷ [])) k row there none)

pub quiet_flag : (image : ImageParts) (k : ℕ) (row : Block) → slice_get image.blocks k ≡ Some row → list_any (leads_out (outward image)) (code_of image row) ≡ false → slice_get (outward image) k ≡ Some false
quiet_flag image k row there none = subst (λ n. slice_get (outward image) n ≡ Some false) (let same : 0 + k ≡ k = omega arith in same) (flag_at image image.blocks [] k row there none)
