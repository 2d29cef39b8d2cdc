-- An image of a set has what the statements of its blocks use.
use Rattle.std.specs.Prelude.{◌≡◌, ◌<◌, ◌≤◌, ◌⊎◌, ℕ, zero, suc, ◌==◌, nat_lt, Bool, true, false, not, ◌||◌, List, [], ◌∷◌, Option, Some, None, length, slice_get, unwrap_or, if◌then◌else◌}
use Rattle.std.specs.List.{list_all}
use Rattle.std.proofs.Common.{refl, sym, subst, inl, inr, arith}
use Rattle.std.proofs.lemmas.Bool.{and_from, and_parts, ne_eqb}
use Rattle.std.proofs.lemmas.Bool.Decides.{eqb_tells}
use Rattle.hal_base.specs.declared.limits.TheConstants.{PROCESS_LIMIT}
use Rattle.hal_grammar.specs.Units.{Head}
use Rattle.hal_meaning.specs.Bodies.{Body}
use Rattle.hal_meaning.specs.Calls.{is_function, zero_of}
use Rattle.hal_meaning.specs.Runs.{places_of_process}
use Rattle.hal_meaning.specs.Sets.{Set, body_at}
use Rattle.hal_code.specs.declared.image.ImageParts.{ImageParts}
use Rattle.hal_code.specs.declared.instr.Instr.TheVariants as instr
use Rattle.hal_code.specs.declared.row.Block.{Block}
use Rattle.hal_code.specs.Blocks.{is_common, outward}
use Rattle.hal_code.specs.Controlling as machine
use Rattle.hal_code.specs.Images as images
use Rattle.hal_code.specs.Operands.{holds_of, is_known}
use Rattle.hal_code.specs.Right.{block_right, blocks_right, follow, stands_right}
use Rattle.hal_agreement.specs.Codes.{Code}
use Rattle.hal_agreement.specs.PlacedBlocks.{EndAt}
use Rattle.hal_fit_expr.specs.Serving.{MayCall, Serves}
use Rattle.hal_fit.specs.Supporting.{Supports, at_inside}
use Rattle.hal_link.specs.LinkedBlocks.{CallsUnits}
use Rattle.hal_right_images.specs.images.Blocks.{ParametersFit, ground_of, may_use, reached, uses_of}

either : (a b : Bool) → b ≡ true → (a || b) ≡ true
either true b is = refl
either false b is = is

itself : (n : ℕ) → (n == n) ≡ true
itself n = by (eqb_tells n n) where
  by : (((n == n) ≡ true) × (n ≡ n)) ⊎ (((n == n) ≡ false) × (n ≡ n → ⊥)) → (n == n) ≡ true
  by (inl told) = told.0
  by (inr told) = absurd (told.1 refl)

same_told : (a b : ℕ) → a ≡ b → (a == b) ≡ true
same_told a b same = subst (λ m. (a == m) ≡ true) same (itself a)

-- a block of one of few processes isn't common
pub own_block : (row : Block) (count : ℕ) → row.process < count → count ≤ PROCESS_LIMIT → is_common row ≡ false
own_block row count less few = ne_eqb row.process 255 (λ same. omega (arith, less, few, same))

-- what a block gives back whose end is told
pub gives : (code : Code) (function : Bool) (head : Head) (row : Block) (at : ℕ) → function ≡ true → EndAt code function head row at → machine.zero_of row.result ≡ Some (zero_of head)
gives code true head row at is ends = ends.3
gives code false head row at is ends = absurd (cc)

gives_none : (code : Code) (function : Bool) (head : Head) (row : Block) (at : ℕ) → function ≡ false → EndAt code function head row at → machine.zero_of row.result ≡ None
gives_none code true head row at is ends = absurd (cc)
gives_none code false head row at is ends = ends.1

-- CALL of such a block may stand there, and outside of UPDATE blocks
call_stands : (image : ImageParts) (number callee : ℕ) (inside stands : Bool) → (inside ≡ false → stands ≡ false) → may_use image number inside (Some callee) ≡ true
    → stands_right (outward image) stands (instr.Call callee) ≡ true
call_stands image number callee inside false so may = refl
call_stands image number callee true true so may = (and_parts (nat_lt callee number) (not (unwrap_or (slice_get (outward image) callee) false)) may).1
call_stands image number callee false true so may = let no = so refl in absurd (cc)

before : (image : ImageParts) (number callee : ℕ) (inside : Bool) → may_use image number inside (Some callee) ≡ true → nat_lt callee number ≡ true
before image number callee inside may = (and_parts (nat_lt callee number) (if inside then not (unwrap_or (slice_get (outward image) callee) false) else true) may).0

asks_outside : (inside stands : Bool) → (inside ≡ false → stands ≡ false) → not inside ≡ true → stands ≡ false
asks_outside true stands so is = absurd (cc)
asks_outside false stands so is = so refl

all_at : {A : Type 0} (test : A → Bool) (xs : List A) (n : ℕ) (x : A) → list_all test xs ≡ true → slice_get xs n ≡ Some x → test x ≡ true
all_at test [] n x all is = absurd (cc)
all_at test (y ∷ xs) zero x all is = let same : y ≡ x = cc in subst (λ z. test z ≡ true) same (and_parts (test y) (list_all test xs) all).0
all_at test (y ∷ xs) (suc n) x all is = all_at test xs n x (and_parts (test y) (list_all test xs) all).1 is

pub results_known : (image : ImageParts) → blocks_right image ≡ true → (number : ℕ) (row : Block) → slice_get image.blocks number ≡ Some row → is_known row.result ≡ true
results_known image right number row there =
    let all = (and_parts (follow (length image.code) 0 image.blocks) (list_all (block_right image) image.blocks) right).1 in
    (and_parts (is_common row || nat_lt row.process (length image.processes)) (is_known row.result) (all_at (block_right image) image.blocks number row all there)).1

module _ (s : Set) (image : ImageParts) (number : ℕ) (row : Block) (block : ℕ → Option ℕ) (calls : CallsUnits s image block row.process) where
  abbrev code : Code
  code = record { image = image; block = block }

  -- the block of a unit may be called
  may_be_called : (inside stands : Bool) → (inside ≡ false → stands ≡ false) → (unit callee : ℕ) (body : Body) (other : Block) → may_use image number inside (block unit) ≡ true → block unit ≡ Some callee
      → body_at s unit ≡ Some body → slice_get image.blocks callee ≡ Some other → MayCall image (at_inside stands (ground_of image number row)) body callee other
  may_be_called inside stands so unit callee body other may named found there =
      let used = subst (λ o. may_use image number inside o ≡ true) named may in
      let at = calls.units unit callee body other named found there in
      let of_it = either (is_common other) (other.process == row.process) (same_told other.process row.process (calls.owned unit callee other named there)) in
      record {
        may = and_from (nat_lt callee number) (holds_of (λ (one : Block). is_common one || (one.process == row.process)) (slice_get image.blocks callee)) (before image number callee inside used)
            (subst (λ o. holds_of (λ (one : Block). is_common one || (one.process == row.process)) o ≡ true) (sym there) of_it);
        stands = call_stands image number callee inside stands so used;
        function = λ is. gives code (is_function body.head) body.head other at.finish is at.ends;
        procedure = λ is. gives_none code (is_function body.head) body.head other at.finish is at.ends;
      }

  -- what may be used inside of UPDATE blocks may be used outside
  serves : is_common row ≡ false → ParametersFit s image number row → (inside stands : Bool) → (inside ≡ false → stands ≡ false)
      → Serves code (at_inside stands (ground_of image number row)) s (places_of_process s row.process) (uses_of s image row.process block number inside)
  serves own parameters inside stands so =
      record {
        own = own;
        asks = λ is. asks_outside inside stands so is;
        events = refl;
        calls = λ unit callee body other may named found there.
            may_be_called inside stands so unit callee body other (and_parts (reached s row.process unit) (may_use image number inside (block unit)) may).1 named found there;
        wholes = λ unit may. parameters.wholes stands unit (and_parts (reached s row.process unit) (may_use image number inside (block unit)) may).0;
      }

  module _ (own : is_common row ≡ false) (parameters : ParametersFit s image number row) (right : blocks_right image ≡ true) (tables : images.tables_of image ≡ s.tables) where
    -- all that statements use
    pub supports : Supports code (ground_of image number row) s (places_of_process s row.process) (uses_of s image row.process block number)
    supports =
        record {
          serves = λ inside. serves own parameters inside inside (λ so. so);
          results = results_known image right;
          references = λ inside unit may. parameters.references unit (and_parts (reached s row.process unit) (may_use image number inside (block unit)) may).0;
          tables = tables;
        }

    -- the same of what they may use inside of UPDATE blocks, wherever they stand
    pub supports_inside : Supports code (ground_of image number row) s (places_of_process s row.process) (λ inside. uses_of s image row.process block number true)
    supports_inside =
        record {
          serves = λ inside. serves own parameters true inside (λ so. absurd (cc));
          results = results_known image right;
          references = λ inside unit may. parameters.references unit (and_parts (reached s row.process unit) (may_use image number true (block unit)) may).0;
          tables = tables;
        }
