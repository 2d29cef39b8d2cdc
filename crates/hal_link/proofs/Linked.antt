-- The image of a set stands for it.
use Rattle.std.specs.Prelude.{◌≡◌, ◌<◌, ◌≤◌, ◌⊎◌, ℕ, zero, suc, ◌+◌, ◌==◌, Bool, true, false, List, [], ◌∷◌, ◌++◌, length, find, position, Option, Some, None, slice_get, Ok, Err, if◌then◌else◌}
use Rattle.std.proofs.Common.{refl, sym, ap, subst, ◌∙◌, inl, inr, arith, append-nil}
use Rattle.std.proofs.lemmas.Bool.{eqb-true}
use Rattle.std.proofs.lemmas.Option.{slice_get_within}
use Rattle.std.proofs.lemmas.List.{length-map}
use Rattle.hal_grammar.specs.Units.{File}
use Rattle.hal_phrases.specs.GatheredUnits.{phrases_of}
use Rattle.hal_meaning.specs.Bodies.{Body, processes_of}
use Rattle.hal_meaning.specs.Calls.{is_function}
use Rattle.hal_meaning.specs.Runs.{places_of_process}
use Rattle.hal_meaning.specs.ReportNames.{path_of}
use Rattle.hal_meaning.specs.Sets.{Set, set_of, body_at}
use Rattle.hal_code.specs.declared.image.ImageParts.{ImageParts}
use Rattle.hal_code.specs.declared.instr.Instr.{Instr}
use Rattle.hal_code.specs.declared.instr.Instr.TheVariants as instr
use Rattle.hal_code.specs.declared.row.Block.{Block}
use Rattle.hal_code.specs.declared.row.View.{View}
use Rattle.hal_code.specs.Blocks.{is_of_process}
use Rattle.hal_code.specs.Images.{first_of, first_of_block}
use Rattle.hal_agreement.specs.Codes.{Code}
use Rattle.hal_agreement.specs.Placed.{IsPlacedProcess, IsPlaced}
use Rattle.hal_agreement.specs.PlacedBlocks.{ProcessAt, UnitAt, UnitsAt}
use Rattle.hal_agreement.specs.PlacedExpressions.{Has}
use Rattle.hal_gen_expr.specs.Emitting.{Emitted}
use Rattle.hal_gen_expr.specs.Numbering.{below, most, block_number}
use Rattle.hal_gen_expr.specs.Standing.{Begins, IsNumbered}
use Rattle.hal_gen_expr.proofs.Forwarding.{Goes, none_goes, joined_goes}
use Rattle.hal_gen_expr.proofs.Growing.{append_append, length_of_one_more}
use Rattle.hal_gen_expr.proofs.Numbered as numbered
use Rattle.hal_link.specs.Outlines.{Outline, own_block, block_of, outlines_of, ranks_of, numbering_of}
use Rattle.hal_link.specs.ProcessCode.{process_code}
use Rattle.hal_link.specs.Shapes.{shapes_of}
use Rattle.hal_link.specs.UnitCode.{clears_from, clears_of, cleared_code, end_code, unit_code, unit_block}
use Rattle.hal_link.specs.LinkedBlocks.{CallsUnits, IsOfProcess, IsOfUnit, IsLinkedBlock}
use Rattle.hal_link.specs.KnownBlocks.{KnownProcess, KnownUnit, IsKnown, HasOwnBlock}
use Rattle.hal_link.specs.Linking.{Linked, linked, Linking, and_then, process_block, process_site, behind_block, with_process, with_unit, with_units, with_outline, with_outlines, image_with, linking, image_by, image_of}
use Rattle.hal_link.proofs.Beginning.{all_begin}
use Rattle.hal_link.proofs.Clearing.{all_cleared}
use Rattle.hal_link.proofs.Outlined.{Laid, outlines_laid, outline_found, outlined_at}
use Rattle.hal_link.proofs.Owned.{IsIn, named_there, end_of, owner, apart, own_among, none_among}
use Rattle.hal_link.proofs.Processed.{process_at}
use Rattle.hal_link.proofs.UnitCoded.{UnitCoded, unit_at}
use Rattle.hal_link.proofs.Tabled.{tables_same, process_there, places_begin}

-- the unit that is found has the number that is looked for
found_number : (k : ℕ) (bodies : List Body) (b : Body) → find (λ (one : Body). one.number == k) bodies ≡ Some b → b.number ≡ k
found_number k [] b is = absurd (cc)
found_number k (one ∷ bodies) b is = by (one.number == k) refl is (λ later. found_number k bodies b later) where
  by : (same : Bool) → (one.number == k) ≡ same → (if same then Some one else find (λ (other : Body). other.number == k) bodies) ≡ Some b
      → (find (λ (other : Body). other.number == k) bodies ≡ Some b → b.number ≡ k) → b.number ≡ k
  by true same here later = let it : one ≡ b = cc in subst (λ (x : Body). x.number ≡ k) it (eqb-true one.number k same)
  by false same here later = later here

-- and is found by its own
found_by_own : (s : Set) (k : ℕ) (b : Body) → body_at s k ≡ Some b → body_at s b.number ≡ Some b
found_by_own s k b found = subst (λ unit. body_at s unit ≡ Some b) (sym (found_number k s.bodies b found)) found

-- what stands behind a list
at_list_end : {T : Type 0} (xs : List T) (x : T) (more : List T) → slice_get (xs ++ (x ∷ more)) (length xs) ≡ Some x
at_list_end [] x more = refl
at_list_end (y ∷ xs) x more = at_list_end xs x more

-- what an option has is one thing
the_same : {A : Type 0} (a b : A) (o : Option A) → o ≡ Some a → o ≡ Some b → a ≡ b
the_same a b o is are = ap (λ one. elim one [ None ↦ a | Some x ↦ x ]) (sym is ∙ are)

-- what is linked in two steps
pub both_linked : (r : Linking) (next : Linked → Linking) (last : Linked) → and_then r next ≡ Ok last → (middle : Linked) × (r ≡ Ok middle) × (next middle ≡ Ok last)
both_linked (Ok middle) next last is = (middle, refl, is)
both_linked (Err at) next last is = absurd (cc)

abbrev pub one_behind : (ℕ → ℕ → Block) → Linked → List Instr → Linked
one_behind row so_far after = linked after (so_far.blocks ++ (row (length so_far.code) (length after) ∷ []))

-- code that came behind
pub block_linked : (row : ℕ → ℕ → Block) (so_far late : Linked) (r : Emitted) → behind_block row so_far r ≡ Ok late → (after : List Instr) × (r ≡ Ok after) × (one_behind row so_far after ≡ late)
block_linked row so_far late (Ok after) is = (after, refl, cc)
block_linked row so_far late (Err at) is = absurd (cc)

pub unless_function : (function : Bool) (r : Linking) (late : Linked) → (if function then Err None else r) ≡ Ok late → (function ≡ false) × (r ≡ Ok late)
unless_function true r late is = absurd (cc)
unless_function false r late is = (refl, is)

module _ (s : Set) (views : List View) where
  -- how many rows of blocks there are
  one_longer : (row : ℕ → ℕ → Block) (so_far late : Linked) (r : Emitted) → behind_block row so_far r ≡ Ok late → length late.blocks ≡ suc (length so_far.blocks)
  one_longer row so_far late r is =
      let there = block_linked row so_far late r is in
      ap (λ (l : Linked). length l.blocks) (sym there.2) ∙ length_of_one_more so_far.blocks (row (length so_far.code) (length there.0))

  unit_longer : (o : Outline) (b : Option Body) (so_far late : Linked) → with_unit s (numbering_of (shapes_of s) views o) o.process so_far b ≡ Ok late → length late.blocks ≡ suc (length so_far.blocks)
  unit_longer o None so_far late is = absurd (cc)
  unit_longer o (Some body) so_far late is =
      one_longer (unit_block o.process body.head) so_far late (unit_code (numbering_of (shapes_of s) views o) (process_site s o.process body) so_far.code body.head body.statements) is

  process_longer : (o : Outline) (b : Option Body) (so_far late : Linked) → with_process s (numbering_of (shapes_of s) views o) o.process so_far b ≡ Ok late → length late.blocks ≡ suc (length so_far.blocks)
  process_longer o None so_far late is = absurd (cc)
  process_longer o (Some body) so_far late is =
      let code = process_code (numbering_of (shapes_of s) views o) (process_site s o.process body) so_far.code body.statements in
      one_longer (process_block o.process) so_far late code ((unless_function (is_function body.head) (behind_block (process_block o.process) so_far code) late is).1)

  units_longer : (o : Outline) (ks : List ℕ) (so_far late : Linked) → with_units s (numbering_of (shapes_of s) views o) o.process ks so_far ≡ Ok late → length late.blocks ≡ length so_far.blocks + length ks
  unfolding with_units
  units_longer o [] so_far late is = let same : so_far ≡ late = cc in let long = ap (λ (l : Linked). length l.blocks) same in omega (arith, long)
  units_longer o (k ∷ ks) so_far late is =
      let there = both_linked (with_unit s (numbering_of (shapes_of s) views o) o.process so_far (body_at s k)) (with_units s (numbering_of (shapes_of s) views o) o.process ks) late is in
      let first = unit_longer o (body_at s k) so_far there.0 there.1 in
      let others = units_longer o ks there.0 late there.2 in
      omega (arith, first, others)

  outline_longer : (o : Outline) (so_far late : Linked) → with_outline s (shapes_of s) views o so_far ≡ Ok late → length late.blocks ≡ length so_far.blocks + suc (length o.called)
  outline_longer o so_far late is =
      let there = both_linked (with_units s (numbering_of (shapes_of s) views o) o.process o.called so_far) (λ middle. with_process s (numbering_of (shapes_of s) views o) o.process middle (body_at s o.unit)) late is in
      let units = units_longer o o.called so_far there.0 there.1 in
      let last = process_longer o (body_at s o.unit) there.0 late there.2 in
      omega (arith, units, last)

  outlines_longer : (os : List Outline) (so_far late : Linked) → with_outlines s (shapes_of s) views os so_far ≡ Ok late → length so_far.blocks ≤ length late.blocks
  unfolding with_outlines
  outlines_longer [] so_far late is = let same : so_far ≡ late = cc in let long = ap (λ (l : Linked). length l.blocks) same in omega (arith, long)
  outlines_longer (o ∷ os) so_far late is =
      let there = both_linked (with_outline s (shapes_of s) views o so_far) (with_outlines s (shapes_of s) views os) late is in
      let first = outline_longer o so_far there.0 there.1 in
      let others = outlines_longer os there.0 late there.2 in
      omega (arith, first, others)

  outlines_long : (os : List Outline) (so_far late : Linked) (first : ℕ) → Laid first os → length so_far.blocks ≡ first → with_outlines s (shapes_of s) views os so_far ≡ Ok late → length late.blocks ≡ end_of first os
  unfolding with_outlines
  outlines_long [] so_far late first laid long is = let same : so_far ≡ late = cc in ap (λ (l : Linked). length l.blocks) (sym same) ∙ long
  outlines_long (o ∷ os) so_far late first laid long is =
      let there = both_linked (with_outline s (shapes_of s) views o so_far) (with_outlines s (shapes_of s) views os) late is in
      let more = outline_longer o so_far there.0 there.1 in
      let starts = laid.0 in
      outlines_long os there.0 late (own_block o + 1) laid.1 (omega (arith, long, more, starts)) there.2

module _ (s : Set) (views : List View) (whole : Linked) where
  abbrev image : ImageParts
  image = image_with s views whole

  -- the code of a process: the image with the blocks of the units that it calls
  abbrev code_of : Outline → Code
  code_of o = record { image = image; block = block_number (numbering_of (shapes_of s) views o) }

  -- the image alone
  abbrev code : Code
  code = record { image = image; block = λ unit. None }

  goes_in : (o : Outline) (from to : ℕ) → Goes (code_of o) from to → Goes code from to
  goes_in o from to goes = record { ordered = goes.ordered; each = goes.each }

  -- the block of a unit
  record Numbered (o : Outline) (unit number : ℕ) : Type 0 where
    pub place : ℕ
    pub there : slice_get o.called place ≡ Some unit
    pub is : o.first + place ≡ number

  number_given : (o : Outline) (unit number : ℕ) → block_number (numbering_of (shapes_of s) views o) unit ≡ Some number → Numbered o unit number
  number_given o unit number given =
      let named = numbered.then_is (λ k. below most (o.first + k)) (position (λ one. one == unit) o.called) number given in
      let member = numbered.first_is (λ one. one == unit) o.called named.0 named.1 in
      record {
        place = named.0;
        there = subst (λ k. slice_get o.called named.0 ≡ Some k) (eqb-true member.0 unit member.2) member.1;
        is = numbered.below_is most (o.first + named.0) number named.2;
      }

  outline_numbered : (o : Outline) → own_block o < length whole.blocks → IsNumbered (code_of o) (numbering_of (shapes_of s) views o)
  outline_numbered o room =
      record {
        shapes = refl;
        views = refl;
        blocks = λ unit number given.
            let there = number_given o unit number given in
            let within = slice_get_within o.called there.place unit there.there in
            let same = there.is in
            let row = named_there whole.blocks number (omega (arith, room, within, same)) in (given, row.0, row.1);
      }

  -- a unit that a process calls stands in the block with this number
  record UnitStands (o : Outline) (number unit : ℕ) : Type 0 where
    pub body : Body
    pub row : Block
    pub found : body_at s unit ≡ Some body
    pub block : slice_get whole.blocks number ≡ Some row
    pub its : row.process ≡ o.process
    pub at : UnitAt (code_of o) s (places_of_process s o.process) body row
    pub clears : at.clears ≡ clears_from s body.number 0 (places_of_process s o.process)
    pub ends : row.end ≡ at.finish + length (end_code (is_function body.head) body.head)

  -- the code of a process stands there, and that of the units that it calls
  record Stands (o : Outline) : Type 0 where
    pub body : Body
    pub found : body_at s o.unit ≡ Some body
    pub plain : is_function body.head ≡ false
    pub before : List Instr
    pub end : ℕ
    pub row : slice_get whole.blocks (own_block o) ≡ Some (process_block o.process (length before) end)
    pub spot : ℕ → ℕ
    pub stands : ProcessAt (code_of o) (length before) (process_site s o.process body) 0 body.statements spot
    pub begins : Has (code_of o) (length before) instr.Begin
    pub ends : end ≡ suc stands.finish
    pub units : (k unit : ℕ) → slice_get o.called k ≡ Some unit → UnitStands o (o.first + k) unit

  -- what is known where code goes on to the whole
  record Known (so_far : Linked) : Type 0 where
    pub begins : Begins so_far.code whole.code
    pub rest : List Block
    pub blocks : whole.blocks ≡ so_far.blocks ++ rest
    pub goes : Goes code (length so_far.code) (length whole.code)

  whole_known : (so_far : Linked) → so_far ≡ whole → Known so_far
  whole_known so_far same =
      record {
        begins = record { more = []; is = ap (λ (one : Linked). one.code) (sym same) ∙ sym (append-nil so_far.code) };
        rest = [];
        blocks = ap (λ (one : Linked). one.blocks) (sym same) ∙ sym (append-nil so_far.blocks);
        goes = none_goes code (length so_far.code) (length whole.code) (ap (λ (one : Linked). length one.code) same);
      }

  -- a block behind it
  block_known : (row : ℕ → ℕ → Block) (so_far : Linked) (after : List Instr) → Known (one_behind row so_far after) → Begins so_far.code whole.code → Goes code (length so_far.code) (length after) → Known so_far
  block_known row so_far after known begins goes =
      record {
        begins = begins;
        rest = row (length so_far.code) (length after) ∷ known.rest;
        blocks = known.blocks ∙ append_append so_far.blocks (row (length so_far.code) (length after) ∷ []) known.rest;
        goes = joined_goes code (length so_far.code) (length after) (length whole.code) goes known.goes;
      }

  row_there : (row : ℕ → ℕ → Block) (so_far : Linked) (after : List Instr) (number : ℕ) → length so_far.blocks ≡ number → Known (one_behind row so_far after)
      → slice_get whole.blocks number ≡ Some (row (length so_far.code) (length after))
  row_there row so_far after number long known =
      subst (λ m. slice_get whole.blocks m ≡ Some (row (length so_far.code) (length after))) long
      (ap (λ l. slice_get l (length so_far.blocks)) (known.blocks ∙ append_append so_far.blocks (row (length so_far.code) (length after) ∷ []) known.rest)
      ∙ at_list_end so_far.blocks (row (length so_far.code) (length after)) known.rest)

  module _ (o : Outline) (room : own_block o < length whole.blocks) where
    -- a unit that it calls
    record UnitKnown (so_far : Linked) (number unit : ℕ) : Type 0 where
      pub known : Known so_far
      pub stands : UnitStands o number unit

    unit_stands : (so_far : Linked) (number unit : ℕ) (body : Body) (after : List Instr) → body_at s unit ≡ Some body → length so_far.blocks ≡ number
        → Known (one_behind (unit_block o.process body.head) so_far after)
        → UnitCoded (code_of o) (numbering_of (shapes_of s) views o) (process_site s o.process body) (outline_numbered o room) (unit_block o.process body.head (length so_far.code) (length after)) so_far.code after body.head body.statements
        → UnitStands o number unit
    unit_stands so_far number unit body after found long known coded =
        record {
          body = body;
          row = unit_block o.process body.head (length so_far.code) (length after);
          found = found;
          block = row_there (unit_block o.process body.head) so_far after number long known;
          its = refl;
          at = record {
            found = found_by_own s unit body found;
            clears = clears_of (process_site s o.process body);
            start = length (cleared_code (process_site s o.process body) so_far.code);
            begins = coded.clears;
            cleared = λ held. all_cleared s body.number (places_of_process s o.process) held (all_begin s o.process body.number);
            handler = coded.handler;
            finish = coded.finish;
            statements = coded.statements;
            leads_out = coded.leads_out;
            ends = coded.ends;
          };
          clears = refl;
          ends = coded.long;
        }

    unit_known : (so_far late : Linked) (number unit : ℕ) (b : Option Body) → body_at s unit ≡ b → length so_far.blocks ≡ number
        → with_unit s (numbering_of (shapes_of s) views o) o.process so_far b ≡ Ok late → Known late → UnitKnown so_far number unit
    unit_known so_far late number unit None found long is known = absurd (cc)
    unit_known so_far late number unit (Some body) found long is known =
        let site = process_site s o.process body in
        let there = block_linked (unit_block o.process body.head) so_far late (unit_code (numbering_of (shapes_of s) views o) site so_far.code body.head body.statements) is in
        let behind = subst Known (sym there.2) known in
        let coded = unit_at (code_of o) (numbering_of (shapes_of s) views o) site (outline_numbered o room) o.process (length so_far.code) (length there.0) body.head body.statements so_far.code there.0 there.1 behind.begins in
        record {
          known = block_known (unit_block o.process body.head) so_far there.0 behind coded.begins (goes_in o (length so_far.code) (length there.0) coded.goes);
          stands = unit_stands so_far number unit body there.0 found long behind coded;
        }

    -- the units that it calls from one on
    record UnitsKnown (so_far : Linked) (number : ℕ) (ks : List ℕ) : Type 0 where
      pub known : Known so_far
      pub each : (k unit : ℕ) → slice_get ks k ≡ Some unit → UnitStands o (number + k) unit

    one_more : (number one : ℕ) (ks : List ℕ) → UnitStands o number one → ((k unit : ℕ) → slice_get ks k ≡ Some unit → UnitStands o (suc number + k) unit)
        → (k unit : ℕ) → slice_get (one ∷ ks) k ≡ Some unit → UnitStands o (number + k) unit
    one_more number one ks here later zero unit is =
        let same : one ≡ unit = cc in let first : number ≡ number + 0 = omega arith in subst (λ m. UnitStands o m unit) first (subst (UnitStands o number) same here)
    one_more number one ks here later (suc k) unit is = let same : suc number + k ≡ number + suc k = omega arith in subst (λ m. UnitStands o m unit) same (later k unit is)

    units_known : (ks : List ℕ) (so_far late : Linked) (number : ℕ) → length so_far.blocks ≡ number
        → with_units s (numbering_of (shapes_of s) views o) o.process ks so_far ≡ Ok late → Known late → UnitsKnown so_far number ks
    unfolding with_units
    units_known [] so_far late number long is known =
        let same : late ≡ so_far = cc in record { known = subst Known same known; each = λ k unit has. absurd (cc) }
    units_known (one ∷ ks) so_far late number long is known =
        let there = both_linked (with_unit s (numbering_of (shapes_of s) views o) o.process so_far (body_at s one)) (with_units s (numbering_of (shapes_of s) views o) o.process ks) late is in
        let more = unit_longer s views o (body_at s one) so_far there.0 there.1 in
        let later = units_known ks there.0 late (suc number) (omega (arith, long, more)) there.2 known in
        let here = unit_known so_far there.0 number one (body_at s one) refl long there.1 later.known in
        record { known = here.known; each = one_more number one ks here.stands later.each }

    -- the process itself, behind the units that it calls
    record ProcessKnown (so_far : Linked) : Type 0 where
      pub known : Known so_far
      pub stands : ((k unit : ℕ) → slice_get o.called k ≡ Some unit → UnitStands o (o.first + k) unit) → Stands o

    process_known : (so_far late : Linked) (b : Option Body) → body_at s o.unit ≡ b → length so_far.blocks ≡ own_block o → with_process s (numbering_of (shapes_of s) views o) o.process so_far b ≡ Ok late → Known late → ProcessKnown so_far
    process_known so_far late None found long is known = absurd (cc)
    process_known so_far late (Some body) found long is known =
        let site = process_site s o.process body in
        let emitted = process_code (numbering_of (shapes_of s) views o) site so_far.code body.statements in
        let form = unless_function (is_function body.head) (behind_block (process_block o.process) so_far emitted) late is in
        let there = block_linked (process_block o.process) so_far late emitted form.1 in
        let behind = subst Known (sym there.2) known in
        let processed = process_at (code_of o) (numbering_of (shapes_of s) views o) site (outline_numbered o room) body.statements so_far.code there.0 there.1 behind.begins in
        record {
          known = block_known (process_block o.process) so_far there.0 behind processed.begins (goes_in o (length so_far.code) (length there.0) processed.goes);
          stands = λ units. record {
            body = body;
            found = found;
            plain = form.0;
            before = so_far.code;
            end = length there.0;
            row = row_there (process_block o.process) so_far there.0 (own_block o) long behind;
            spot = processed.spot;
            stands = processed.stands;
            begins = processed.begin;
            ends = processed.long;
            units = units;
          };
        }

    record OutlineKnown (so_far : Linked) : Type 0 where
      pub known : Known so_far
      pub stands : Stands o

    outline_known : (so_far late : Linked) → length so_far.blocks ≡ o.first → with_outline s (shapes_of s) views o so_far ≡ Ok late → Known late → OutlineKnown so_far
    outline_known so_far late long is known =
        let there = both_linked (with_units s (numbering_of (shapes_of s) views o) o.process o.called so_far) (λ middle. with_process s (numbering_of (shapes_of s) views o) o.process middle (body_at s o.unit)) late is in
        let more = units_longer s views o o.called so_far there.0 there.1 in
        let process = process_known there.0 late (body_at s o.unit) refl (omega (arith, long, more)) there.2 known in
        let units = units_known o.called so_far there.0 o.first long there.1 process.known in
        record { known = units.known; stands = process.stands units.each }

  -- all processes
  record AllKnown (so_far : Linked) (os : List Outline) : Type 0 where
    pub known : Known so_far
    pub each : (q : ℕ) (o : Outline) → slice_get os q ≡ Some o → Stands o

  all_more : (one : Outline) (os : List Outline) → Stands one → ((q : ℕ) (o : Outline) → slice_get os q ≡ Some o → Stands o) → (q : ℕ) (o : Outline) → slice_get (one ∷ os) q ≡ Some o → Stands o
  all_more one os here later zero o is = subst Stands (let same : one ≡ o = cc in same) here
  all_more one os here later (suc q) o is = later q o is

  outlines_known : (os : List Outline) (so_far : Linked) (first : ℕ) → Laid first os → length so_far.blocks ≡ first → with_outlines s (shapes_of s) views os so_far ≡ Ok whole → AllKnown so_far os
  unfolding with_outlines
  outlines_known [] so_far first laid long is = record { known = whole_known so_far (let same : so_far ≡ whole = cc in same); each = λ q o has. absurd (cc) }
  outlines_known (o ∷ os) so_far first laid long is =
      let there = both_linked (with_outline s (shapes_of s) views o so_far) (with_outlines s (shapes_of s) views os) whole is in
      let more = outline_longer s views o so_far there.0 there.1 in
      let within = outlines_longer s views os there.0 whole there.2 in
      let starts = laid.0 in
      let later = outlines_known os there.0 (own_block o + 1) laid.1 (omega (arith, long, more, starts)) there.2 in
      let here = outline_known o (omega (arith, long, more, within, starts)) so_far there.0 (omega (arith, long, starts)) there.1 later.known in
      record { known = here.known; each = all_more o os here.stands later.each }

  -- all units that a process calls
  units_placed : (o : Outline) → Stands o → UnitsAt (code_of o) s (places_of_process s o.process)
  units_placed o one unit number b row named found block =
      let given = number_given o unit number named in
      let there = one.units given.place unit given.there in
      subst (λ x. UnitAt (code_of o) s (places_of_process s o.process) x row) (the_same there.body b (body_at s unit) there.found found)
      (subst (λ x. UnitAt (code_of o) s (places_of_process s o.process) there.body x)
      (the_same there.row row (slice_get whole.blocks number) (subst (λ m. slice_get whole.blocks m ≡ Some there.row) given.is there.block) block) there.at)

  first_is : (o : Outline) (name : List ℕ) (row : Block) → slice_get s.tables.processes o.process ≡ Some name → slice_get (outlines_of s) o.process ≡ Some o → slice_get whole.blocks (own_block o) ≡ Some row
      → first_of image o.process ≡ row.first
  first_is o name row named outline there =
      let process = process_there s (outlines_of s) o.process 0 s.tables.processes name named in
      let number : 0 + o.process ≡ o.process = omega arith in
      ap (λ r. elim r [ None ↦ 0 | Some one ↦ first_of_block image one.block ]) process
      ∙ (ap (λ p. first_of_block image (block_of (outlines_of s) p)) number
      ∙ (ap (λ r. first_of_block image (elim r [ None ↦ 0 | Some one ↦ own_block one ])) outline ∙ ap (λ r. elim r [ None ↦ 0 | Some block ↦ block.first ]) there))

  process_placed : (o : Outline) (name : List ℕ) → slice_get s.tables.processes o.process ≡ Some name → slice_get (outlines_of s) o.process ≡ Some o → slice_get (processes_of s.phrases) o.process ≡ Some o.unit → Stands o
      → IsPlacedProcess s image o.process
  process_placed o name named outline unit one =
      record {
        body = one.body;
        found = ap (λ r. elim r [ None ↦ None | Some k ↦ body_at s k ]) unit ∙ one.found;
        plain = ap (λ r. elim r [ None ↦ false | Some b ↦ is_function b.head ]) (found_by_own s o.unit one.body one.found) ∙ one.plain;
        places = places_begin s views whole o.process name named;
        block = block_number (numbering_of (shapes_of s) views o);
        units = units_placed o one;
        spot = one.spot;
        code = subst (λ begin. ProcessAt (code_of o) begin (process_site s o.process one.body) 0 one.body.statements one.spot)
            (sym (first_is o name (process_block o.process (length one.before) one.end) named outline one.row)) one.stands;
      }

  -- the process with this number
  numbered_placed : (p k : ℕ) (name : List ℕ) → slice_get s.tables.processes p ≡ Some name → slice_get (processes_of s.phrases) p ≡ Some k → ((q : ℕ) (o : Outline) → slice_get (outlines_of s) q ≡ Some o → Stands o)
      → IsPlacedProcess s image p
  numbered_placed p k name named unit each =
      let found = outline_found (ranks_of s.phrases) (processes_of s.phrases) 0 0 p k unit in
      let its : found.outline.process ≡ p = let number = found.process in omega (arith, number) in
      subst (IsPlacedProcess s image) its
      (process_placed found.outline name (subst (λ q. slice_get s.tables.processes q ≡ Some name) (sym its) named)
      (subst (λ q. slice_get (outlines_of s) q ≡ Some found.outline) (sym its) found.there)
      (subst (λ q. slice_get (processes_of s.phrases) q ≡ Some found.outline.unit) (sym its) (unit ∙ ap Some (sym found.unit))) (each p found.outline found.there))

  pub placed : linking s views ≡ Ok whole → length s.tables.processes ≡ length (processes_of s.phrases) → IsPlaced s image
  placed is same =
      let known = outlines_known (outlines_of s) (linked [] []) 0 (outlines_laid (ranks_of s.phrases) 0 0 (processes_of s.phrases)) refl is in
      let all = known.known in
      record {
        tables = tables_same s views whole;
        forward = λ at i has. all.goes.each at i (omega arith) (slice_get_within whole.code at i has) has;
        processes = λ p less.
            let name = named_there s.tables.processes p less in
            let unit = named_there (processes_of s.phrases) p (subst (λ m. p < m) same less) in
            numbered_placed p unit.0 name.0 name.1 unit.1 known.each;
      }

  module _ (same : length s.tables.processes ≡ length (processes_of s.phrases)) (each : (q : ℕ) (o : Outline) → slice_get (outlines_of s) q ≡ Some o → Stands o) where
    -- the outline of a process is there
    outline_there : (q : ℕ) → q < length s.tables.processes → (o : Outline) × (slice_get (outlines_of s) q ≡ Some o)
    outline_there q less =
        let unit = named_there (processes_of s.phrases) q (subst (λ m. q < m) same less) in
        let found = outline_found (ranks_of s.phrases) (processes_of s.phrases) 0 0 q unit.0 unit.1 in
        (found.outline, found.there)

    block_is : (q : ℕ) (o : Outline) → slice_get (outlines_of s) q ≡ Some o → block_of (outlines_of s) (0 + q) ≡ own_block o
    block_is q o there =
        let number : 0 + q ≡ q = omega arith in
        ap (block_of (outlines_of s)) number ∙ ap (λ r. elim r [ None ↦ 0 | Some one ↦ own_block one ]) there

    -- each process has a block of its own
    own_there : (q : ℕ) → q < length s.tables.processes → HasOwnBlock s image q
    own_there q less =
        let outline = outline_there q less in
        let one = each q outline.0 outline.1 in
        let at = outlined_at (ranks_of s.phrases) (processes_of s.phrases) 0 0 q outline.0 outline.1 in
        let number = at.0 in
        record {
          row = process_block outline.0.process (length one.before) one.end;
          there = subst (λ m. slice_get whole.blocks m ≡ Some (process_block outline.0.process (length one.before) one.end)) (sym (ap (λ r. elim r [ None ↦ 0 | Some x ↦ own_block x ]) outline.1)) one.row;
          its = omega (arith, number);
        }

    -- the units that the blocks of a process call stand there
    calls_units : (o : Outline) → Stands o → CallsUnits s image (block_number (numbering_of (shapes_of s) views o)) o.process
    calls_units o one =
        record {
          units = units_placed o one;
          owned = λ unit callee row named block.
              let given = number_given o unit callee named in
              let there = one.units given.place unit given.there in
              let its : there.row ≡ row = the_same there.row row (slice_get whole.blocks callee) (subst (λ m. slice_get whole.blocks m ≡ Some there.row) given.is there.block) block in
              subst (λ (x : Block). x.process ≡ o.process) its there.its;
        }

    -- and before its own block
    stand_before : (o : Outline) (number unit callee : ℕ) → number ≡ own_block o → block_number (numbering_of (shapes_of s) views o) unit ≡ Some callee → callee < number
    stand_before o number unit callee is named =
        let given = number_given o unit callee named in
        let within = slice_get_within o.called given.place unit given.there in
        let there = given.is in
        omega (arith, is, within, there)

    own_is_known : (q : ℕ) (o : Outline) (number : ℕ) (row : Block) → slice_get (outlines_of s) q ≡ Some o → number ≡ own_block o → slice_get whole.blocks number ≡ Some row → KnownProcess s views image o number row
    own_is_known q o number row there is block =
        let one = each q o there in
        let at = outlined_at (ranks_of s.phrases) (processes_of s.phrases) 0 0 q o there in
        let process : q ≡ o.process = let number = at.0 in omega (arith, number) in
        let unit = subst (λ m. slice_get (processes_of s.phrases) m ≡ Some o.unit) process at.1 in
        let within = subst (λ m. q < m) (sym same) (slice_get_within (processes_of s.phrases) q o.unit at.1) in
        let its = process_block o.process (length one.before) one.end in
        subst (KnownProcess s views image o number) (the_same its row (slice_get whole.blocks number) (subst (λ m. slice_get whole.blocks m ≡ Some its) (sym is) one.row) block)
        (record {
          numbered = is;
          its = refl;
          linked = record {
            there = subst (λ m. m < length s.tables.processes) process within;
            body = one.body;
            found = ap (λ r. elim r [ None ↦ None | Some k ↦ body_at s k ]) unit ∙ one.found;
            owned = subst (λ m. is_of_process image m ≡ true) (block_is q o there ∙ sym is) (own_among s (outlines_of s) 0 s.tables.processes q within);
            block = block_number (numbering_of (shapes_of s) views o);
            calls = calls_units o one;
            before = λ unit callee named. stand_before o number unit callee is named;
            begins = one.begins;
            spot = one.spot;
            code = one.stands;
            ends = one.ends;
          };
          found = one.found;
          block = refl;
        })

    unit_is_known : (q : ℕ) (o : Outline) (number : ℕ) (row : Block) (k unit : ℕ) → slice_get (outlines_of s) q ≡ Some o → slice_get o.called k ≡ Some unit → number ≡ o.first + k
        → slice_get whole.blocks number ≡ Some row → KnownUnit s views image o number row
    unit_is_known q o number row k unit there named is block =
        let one = (each q o there).units k unit named in
        let within = slice_get_within o.called k unit named in
        let at = outlined_at (ranks_of s.phrases) (processes_of s.phrases) 0 0 q o there in
        let process : q ≡ o.process = let number = at.0 in omega (arith, number) in
        let among = subst (λ m. m < length s.tables.processes) process (subst (λ m. q < m) (sym same) (slice_get_within (processes_of s.phrases) q o.unit at.1)) in
        subst (KnownUnit s views image o number) (the_same one.row row (slice_get whole.blocks number) (subst (λ m. slice_get whole.blocks m ≡ Some one.row) (sym is) one.block) block)
        (subst (λ p. p ≡ o.process → (at : UnitAt (code_of o) s (places_of_process s p) one.body one.row) → at.clears ≡ clears_from s one.body.number 0 (places_of_process s p)
        → one.row.end ≡ at.finish + length (end_code (is_function one.body.head) one.body.head)
        → CallsUnits s image (block_number (numbering_of (shapes_of s) views o)) p → p < length s.tables.processes → KnownUnit s views image o number one.row) one.its
        (λ its at clears ends calls low. record {
          place = k;
          unit = unit;
          named = named;
          numbered = is;
          its = its;
          linked = record {
            there = low;
            body = one.body;
            owned = none_among s (outlines_of s) 0 s.tables.processes number (λ r less found.
                let other = outline_there r less in
                apart 0 (outlines_of s) q r o other.0 k (outlines_laid (ranks_of s.phrases) 0 0 (processes_of s.phrases)) there other.1 within (sym (block_is r other.0 other.1) ∙ (found ∙ is)));
            block = block_number (numbering_of (shapes_of s) views o);
            calls = calls;
            code = at;
            ends = ends;
          };
          found = one.found;
          block = refl;
          clears = clears;
        }) refl one.at one.clears one.ends (calls_units o (each q o there)) among)

    -- the row of a block names the process of its outline
    outline_at : (q : ℕ) (o : Outline) (row : Block) → slice_get (outlines_of s) q ≡ Some o → row.process ≡ o.process → slice_get (outlines_of s) row.process ≡ Some o
    outline_at q o row there its =
        let at = outlined_at (ranks_of s.phrases) (processes_of s.phrases) 0 0 q o there in
        let same : q ≡ row.process = let number = at.0 in omega (arith, number, its) in
        subst (λ m. slice_get (outlines_of s) m ≡ Some o) same there

    known_in : (q : ℕ) (o : Outline) (number : ℕ) (row : Block) → slice_get (outlines_of s) q ≡ Some o → IsIn o number → slice_get whole.blocks number ≡ Some row → IsKnown s views image number row
    known_in q o number row there (inl is) block =
        let known = own_is_known q o number row there is block in
        record { outline = o; there = outline_at q o row there known.its; is = inl known }
    known_in q o number row there (inr (k, unit, named, is)) block =
        let known = unit_is_known q o number row k unit there named is block in
        record { outline = o; there = outline_at q o row there known.its; is = inr known }

  -- each block is that of a process or of a unit, by its outline
  pub blocks_known : linking s views ≡ Ok whole → length s.tables.processes ≡ length (processes_of s.phrases) → (number : ℕ) (row : Block) → slice_get whole.blocks number ≡ Some row → IsKnown s views image number row
  blocks_known is same number row block =
      let laid = outlines_laid (ranks_of s.phrases) 0 0 (processes_of s.phrases) in
      let known = outlines_known (outlines_of s) (linked [] []) 0 laid refl is in
      let long = outlines_long s views (outlines_of s) (linked [] []) whole 0 laid refl is in
      let less = slice_get_within whole.blocks number row block in
      let owned = owner 0 (outlines_of s) number laid (omega arith) (subst (λ m. number < m) long less) in
      known_in same known.each owned.place owned.outline number row owned.there owned.is block

  pub blocks_linked : linking s views ≡ Ok whole → length s.tables.processes ≡ length (processes_of s.phrases) → (number : ℕ) (row : Block) → slice_get whole.blocks number ≡ Some row → IsLinkedBlock s image number row
  blocks_linked is same number row block =
      let known = blocks_known is same number row block in
      by known.outline known.is
    where
      by : (o : Outline) → KnownProcess s views image o number row ⊎ KnownUnit s views image o number row → IsLinkedBlock s image number row
      by o (inl known) = inl known.linked
      by o (inr known) = inr known.linked

  -- each process has a block of its own
  pub owns_given : linking s views ≡ Ok whole → length s.tables.processes ≡ length (processes_of s.phrases) → (q : ℕ) → q < length s.tables.processes → HasOwnBlock s image q
  owns_given is same =
      let laid = outlines_laid (ranks_of s.phrases) 0 0 (processes_of s.phrases) in
      let known = outlines_known (outlines_of s) (linked [] []) 0 laid refl is in
      own_there same known.each

image_given : (s : Set) (views : List View) (r : Linking) (made : ImageParts) → linking s views ≡ r → image_by s views r ≡ Ok made → length s.tables.processes ≡ length (processes_of s.phrases) → IsPlaced s made
image_given s views (Ok whole) made linked_so is same = subst (IsPlaced s) (let there : image_with s views whole ≡ made = cc in there) (placed s views whole linked_so same)
image_given s views (Err at) made linked_so is same = absurd (cc)

-- the image of a set of files stands for it
pub image_placed : (turns : ℕ) (files : List File) (views : List View) (made : ImageParts) → image_of (set_of turns files) views ≡ Ok made → IsPlaced (set_of turns files) made
image_placed turns files views made is =
    image_given (set_of turns files) views (linking (set_of turns files) views) made refl is (length-map (processes_of (phrases_of files)) (path_of (phrases_of files)))

blocks_given : (s : Set) (views : List View) (r : Linking) (made : ImageParts) → linking s views ≡ r → image_by s views r ≡ Ok made → length s.tables.processes ≡ length (processes_of s.phrases)
    → (number : ℕ) (row : Block) → slice_get made.blocks number ≡ Some row → IsLinkedBlock s made number row
blocks_given s views (Ok whole) made linked_so is same =
    subst (λ (one : ImageParts). (number : ℕ) (row : Block) → slice_get one.blocks number ≡ Some row → IsLinkedBlock s one number row) (let there : image_with s views whole ≡ made = cc in there)
    (blocks_linked s views whole linked_so same)
blocks_given s views (Err at) made linked_so is same = absurd (cc)

-- each block of the image of a set of files is that of a process or of a unit
pub image_blocks : (turns : ℕ) (files : List File) (views : List View) (made : ImageParts) → image_of (set_of turns files) views ≡ Ok made
    → (number : ℕ) (row : Block) → slice_get made.blocks number ≡ Some row → IsLinkedBlock (set_of turns files) made number row
image_blocks turns files views made is =
    blocks_given (set_of turns files) views (linking (set_of turns files) views) made refl is (length-map (processes_of (phrases_of files)) (path_of (phrases_of files)))

known_given : (s : Set) (views : List View) (r : Linking) (made : ImageParts) → linking s views ≡ r → image_by s views r ≡ Ok made → length s.tables.processes ≡ length (processes_of s.phrases)
    → (number : ℕ) (row : Block) → slice_get made.blocks number ≡ Some row → IsKnown s views made number row
known_given s views (Ok whole) made linked_so is same =
    subst (λ (one : ImageParts). (number : ℕ) (row : Block) → slice_get one.blocks number ≡ Some row → IsKnown s views one number row) (let there : image_with s views whole ≡ made = cc in there)
    (blocks_known s views whole linked_so same)
known_given s views (Err at) made linked_so is same = absurd (cc)

-- and it is known by the outline of its process
pub image_known : (turns : ℕ) (files : List File) (views : List View) (made : ImageParts) → image_of (set_of turns files) views ≡ Ok made
    → (number : ℕ) (row : Block) → slice_get made.blocks number ≡ Some row → IsKnown (set_of turns files) views made number row
image_known turns files views made is =
    known_given (set_of turns files) views (linking (set_of turns files) views) made refl is (length-map (processes_of (phrases_of files)) (path_of (phrases_of files)))

own_given : (s : Set) (views : List View) (r : Linking) (made : ImageParts) → linking s views ≡ r → image_by s views r ≡ Ok made → length s.tables.processes ≡ length (processes_of s.phrases)
    → (process : ℕ) → process < length s.tables.processes → HasOwnBlock s made process
own_given s views (Ok whole) made linked_so is same =
    subst (λ (one : ImageParts). (process : ℕ) → process < length s.tables.processes → HasOwnBlock s one process) (let there : image_with s views whole ≡ made = cc in there)
    (owns_given s views whole linked_so same)
own_given s views (Err at) made linked_so is same = absurd (cc)

-- and each process has a block of its own
pub image_owns : (turns : ℕ) (files : List File) (views : List View) (made : ImageParts) → image_of (set_of turns files) views ≡ Ok made
    → (process : ℕ) → process < length (set_of turns files).tables.processes → HasOwnBlock (set_of turns files) made process
image_owns turns files views made is =
    own_given (set_of turns files) views (linking (set_of turns files) views) made refl is (length-map (processes_of (phrases_of files)) (path_of (phrases_of files)))
