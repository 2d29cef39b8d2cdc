-- The blocks of a linked image follow each other over its whole code, each of a process that is there.
use Rattle.std.specs.Prelude.{◌≡◌, ◌<◌, ◌≤◌, ℕ, suc, ◌+◌, ◌==◌, nat_lt, Bool, true, false, ◌&&◌, ◌||◌, List, [], ◌∷◌, ◌++◌, length, map, Option, Some, None, Ok, Err, slice_get}
use Rattle.std.specs.List.{list_all}
use Rattle.std.proofs.Common.{refl, sym, ap, subst, ◌∙◌, arith, lt-ltb}
use Rattle.std.proofs.lemmas.Bool.{and_from, and_parts, eqb-true}
use Rattle.std.proofs.lemmas.List.{length-append, length-map}
use Rattle.std.proofs.lemmas.Option.{slice_get_within}
use Rattle.hal_grammar.specs.Statements.{Statements}
use Rattle.hal_grammar.specs.Units.{File, Head}
use Rattle.hal_phrases.specs.GatheredUnits.{phrases_of}
use Rattle.hal_meaning.specs.Bodies.{Body, processes_of}
use Rattle.hal_meaning.specs.Calls.{is_function}
use Rattle.hal_meaning.specs.ReportNames.{path_of}
use Rattle.hal_meaning.specs.Sets.{Set, set_of, body_at}
use Rattle.hal_code.specs.declared.image.ImageParts.{ImageParts}
use Rattle.hal_code.specs.declared.instr.Instr.{Instr}
use Rattle.hal_code.specs.declared.instr.Instr.TheVariants as instr
use Rattle.hal_code.specs.declared.row.Block.{Block}
use Rattle.hal_code.specs.declared.row.View.{View}
use Rattle.hal_code.specs.Blocks.{is_common}
use Rattle.hal_code.specs.Operands.{is_known}
use Rattle.hal_code.specs.Right.{follow, block_right, blocks_right}
use Rattle.hal_agreement.specs.Sites.{Site}
use Rattle.hal_gen_expr.specs.Emitting.{Emitted, onwards}
use Rattle.hal_gen_expr.specs.Numbering.{Numbering}
use Rattle.hal_gen_expr.proofs.Expressed.{ok_is}
use Rattle.hal_gen_expr.proofs.Growing.{length_of_one_more}
use Rattle.hal_gen.specs.StatementCode.{block_code}
use Rattle.hal_gen.proofs.Measured.{block_longer}
use Rattle.hal_link.specs.Outlines.{Outline, outlines_of, ranks_of, numbering_of}
use Rattle.hal_link.specs.ProcessCode.{to_finish, finish_of, process_code}
use Rattle.hal_link.specs.Shapes.{shapes_of}
use Rattle.hal_link.specs.UnitCode.{clears_of, clear_of, cleared_code, end_code, to_caller, unit_code, unit_block}
use Rattle.hal_link.specs.Linking.{Linked, linked, Linking, and_then, process_block, process_site, behind_block, with_process, with_unit, with_units, with_outline, with_outlines, processes_from, image_with, linking, image_by, image_of}
use Rattle.hal_link.proofs.Linked.{both_linked, block_linked, unless_function, one_behind}
use Rattle.hal_link.proofs.Outlined.{outlined_at}
use Rattle.hal_link.proofs.Owned.{same_number}

equal_told : (a b : ℕ) → a ≡ b → (a == b) ≡ true
equal_told a b same = subst (λ m. (a == m) ≡ true) same (same_number a)

-- one row more, from where the others end
follow_more : (blocks : List Block) (from n m : ℕ) (row : Block) → row.first ≡ n → row.end ≡ m → n < m → follow n from blocks ≡ true → follow m from (blocks ++ (row ∷ [])) ≡ true
follow_more [] from n m row first end less is =
    let here = eqb-true from n is in
    and_from (row.first == from && nat_lt row.first row.end) (row.end == m)
    (and_from (row.first == from) (nat_lt row.first row.end) (equal_told row.first from (first ∙ sym here)) (lt-ltb row.first row.end (omega (arith, first, end, less))))
    (equal_told row.end m end)
follow_more (b ∷ blocks) from n m row first end less is =
    let parts = and_parts (b.first == from && nat_lt b.first b.end) (follow n b.end blocks) is in
    and_from (b.first == from && nat_lt b.first b.end) (follow m b.end (blocks ++ (row ∷ []))) parts.0 (follow_more blocks b.end n m row first end less parts.1)

-- a row is of one of so many processes, and gives what is known
abbrev pub is_of : ℕ → Block → Bool
is_of count block = (is_common block || nat_lt block.process count) && is_known block.result

all_more : (count : ℕ) (blocks : List Block) (row : Block) → list_all (is_of count) blocks ≡ true → is_of count row ≡ true → list_all (is_of count) (blocks ++ (row ∷ [])) ≡ true
all_more count [] row all is = and_from (is_of count row) true is refl
all_more count (b ∷ blocks) row all is =
    let parts = and_parts (is_of count b) (list_all (is_of count) blocks) all in
    and_from (is_of count b) (list_all (is_of count) (blocks ++ (row ∷ []))) parts.0 (all_more count blocks row parts.1 is)

either : (a b : Bool) → b ≡ true → (a || b) ≡ true
either true b is = refl
either false b is = is

of_process : (count process : ℕ) (row : Block) → row.process ≡ process → is_known row.result ≡ true → process < count → is_of count row ≡ true
of_process count process row its known less =
    and_from (is_common row || nat_lt row.process count) (is_known row.result) (either (is_common row) (nat_lt row.process count) (lt-ltb row.process count (omega (arith, its, less)))) known

-- code of a process and of a unit is some
module _ (n : Numbering) (site : Site) where
  process_with : (body : Statements) (before after : List Instr) (r : Emitted) → block_code n site (before ++ (instr.Begin ∷ [])) (to_finish (finish_of n site before body)) 0 body ≡ r
      → onwards r (λ middle. Ok (middle ++ (instr.Finish ∷ []))) ≡ Ok after → length before < length after
  process_with body before after (Ok middle) there is =
      let longer = block_longer n site body (to_finish (finish_of n site before body)) 0 (before ++ (instr.Begin ∷ [])) middle there in
      let one = length_of_one_more before instr.Begin in
      let last = length_of_one_more middle instr.Finish in
      let all = ap (λ (code : List Instr). length code) (ok_is (middle ++ (instr.Finish ∷ [])) after is) in
      omega (arith, longer, one, last, all)
  process_with body before after (Err place) there is = absurd (cc)

  process_grows : (body : Statements) (before after : List Instr) → process_code n site before body ≡ Ok after → length before < length after
  process_grows body before after is = process_with body before after (block_code n site (before ++ (instr.Begin ∷ [])) (to_finish (finish_of n site before body)) 0 body) refl is

  end_some : (function : Bool) (head : Head) → 1 ≤ length (end_code function head)
  end_some true head = omega arith
  end_some false head = omega arith

  unit_with : (head : Head) (body : Statements) (before after : List Instr) (r : Emitted) → block_code n site (cleared_code site before) (to_caller head) 0 body ≡ r
      → onwards r (λ middle. Ok (middle ++ end_code (is_function head) head)) ≡ Ok after → length before < length after
  unit_with head body before after (Ok middle) there is =
      let longer = block_longer n site body (to_caller head) 0 (cleared_code site before) middle there in
      let cleared = length-append before (map clear_of (clears_of site)) in
      let last = length-append middle (end_code (is_function head) head) in
      let some = end_some (is_function head) head in
      let all = ap (λ (code : List Instr). length code) (ok_is (middle ++ end_code (is_function head) head) after is) in
      omega (arith, longer, cleared, last, some, all)
  unit_with head body before after (Err place) there is = absurd (cc)

  unit_grows : (head : Head) (body : Statements) (before after : List Instr) → unit_code n site before head body ≡ Ok after → length before < length after
  unit_grows head body before after is = unit_with head body before after (block_code n site (cleared_code site before) (to_caller head) 0 body) refl is

module _ (s : Set) (views : List View) (count : ℕ) where
  -- what is known of blocks that are linked
  record Follows (l : Linked) : Type 0 where
    pub row : follow (length l.code) 0 l.blocks ≡ true
    pub all : list_all (is_of count) l.blocks ≡ true

  -- one block more
  block_follows : (row : ℕ → ℕ → Block) (process : ℕ) (so_far late : Linked) (r : Emitted) → ((m n : ℕ) → ((row m n).first ≡ m) × ((row m n).end ≡ n) × ((row m n).process ≡ process) × (is_known (row m n).result ≡ true))
      → process < count → ((after : List Instr) → r ≡ Ok after → length so_far.code < length after) → behind_block row so_far r ≡ Ok late → Follows so_far → Follows late
  block_follows row process so_far late r given less grows is known =
      let there = block_linked row so_far late r is in
      let its = given (length so_far.code) (length there.0) in
      let one = row (length so_far.code) (length there.0) in
      subst Follows there.2 (record {
        row = follow_more so_far.blocks 0 (length so_far.code) (length there.0) one its.0 its.1 (grows there.0 there.1) known.row;
        all = all_more count so_far.blocks one known.all (of_process count process one its.2 its.3 less);
      })

  unit_follows : (o : Outline) (b : Option Body) (so_far late : Linked) → o.process < count → with_unit s (numbering_of (shapes_of s) views o) o.process so_far b ≡ Ok late → Follows so_far → Follows late
  unit_follows o None so_far late less is known = absurd (cc)
  unit_follows o (Some body) so_far late less is known =
      let n = numbering_of (shapes_of s) views o in
      let site = process_site s o.process body in
      block_follows (unit_block o.process body.head) o.process so_far late (unit_code n site so_far.code body.head body.statements) (λ m k. (refl, refl, refl, refl)) less
      (λ after there. unit_grows n site body.head body.statements so_far.code after there) is known

  process_follows : (o : Outline) (b : Option Body) (so_far late : Linked) → o.process < count → with_process s (numbering_of (shapes_of s) views o) o.process so_far b ≡ Ok late → Follows so_far → Follows late
  process_follows o None so_far late less is known = absurd (cc)
  process_follows o (Some body) so_far late less is known =
      let n = numbering_of (shapes_of s) views o in
      let site = process_site s o.process body in
      let code = process_code n site so_far.code body.statements in
      block_follows (process_block o.process) o.process so_far late code (λ m k. (refl, refl, refl, refl)) less (λ after there. process_grows n site body.statements so_far.code after there)
      ((unless_function (is_function body.head) (behind_block (process_block o.process) so_far code) late is).1) known

  units_follow : (o : Outline) (ks : List ℕ) (so_far late : Linked) → o.process < count → with_units s (numbering_of (shapes_of s) views o) o.process ks so_far ≡ Ok late → Follows so_far → Follows late
  unfolding with_units
  units_follow o [] so_far late less is known = let same : so_far ≡ late = cc in subst Follows same known
  units_follow o (k ∷ ks) so_far late less is known =
      let there = both_linked (with_unit s (numbering_of (shapes_of s) views o) o.process so_far (body_at s k)) (with_units s (numbering_of (shapes_of s) views o) o.process ks) late is in
      units_follow o ks there.0 late less there.2 (unit_follows o (body_at s k) so_far there.0 less there.1 known)

  outline_follows : (o : Outline) (so_far late : Linked) → o.process < count → with_outline s (shapes_of s) views o so_far ≡ Ok late → Follows so_far → Follows late
  outline_follows o so_far late less is known =
      let there = both_linked (with_units s (numbering_of (shapes_of s) views o) o.process o.called so_far) (λ middle. with_process s (numbering_of (shapes_of s) views o) o.process middle (body_at s o.unit)) late is in
      process_follows o (body_at s o.unit) there.0 late less there.2 (units_follow o o.called so_far there.0 less there.1 known)

  outlines_follow : (os : List Outline) (so_far late : Linked) → ((q : ℕ) (o : Outline) → slice_get os q ≡ Some o → o.process < count) → with_outlines s (shapes_of s) views os so_far ≡ Ok late → Follows so_far → Follows late
  unfolding with_outlines
  outlines_follow [] so_far late each is known = let same : so_far ≡ late = cc in subst Follows same known
  outlines_follow (o ∷ os) so_far late each is known =
      let there = both_linked (with_outline s (shapes_of s) views o so_far) (with_outlines s (shapes_of s) views os) late is in
      outlines_follow os there.0 late (λ q other at. each (suc q) other at) there.2 (outline_follows o so_far there.0 (each 0 o refl) there.1 known)

process_number : (s : Set) (os : List Outline) (p : ℕ) (names : List (List ℕ)) → length (processes_from s os p names) ≡ length names
process_number s os p [] = refl
process_number s os p (name ∷ names) = ap suc (process_number s os (suc p) names)

rows_right : (s : Set) (views : List View) (whole : Linked) → linking s views ≡ Ok whole → length s.tables.processes ≡ length (processes_of s.phrases) → blocks_right (image_with s views whole) ≡ true
rows_right s views whole is same =
    let count = length (processes_from s (outlines_of s) 0 s.tables.processes) in
    let long : count ≡ length (processes_of s.phrases) = process_number s (outlines_of s) 0 s.tables.processes ∙ same in
    let known = outlines_follow s views count (outlines_of s) (linked [] []) whole (λ q o at.
    let there = outlined_at (ranks_of s.phrases) (processes_of s.phrases) 0 0 q o at in
    let number = there.0 in
    let within = slice_get_within (processes_of s.phrases) q o.unit there.1 in omega (arith, number, within, long)) is (record { row = refl; all = refl }) in
    and_from (follow (length whole.code) 0 whole.blocks) (list_all (block_right (image_with s views whole)) whole.blocks) known.row known.all

rows_given : (s : Set) (views : List View) (r : Linking) (made : ImageParts) → linking s views ≡ r → image_by s views r ≡ Ok made → length s.tables.processes ≡ length (processes_of s.phrases) → blocks_right made ≡ true
rows_given s views (Ok whole) made linked_so is same =
    subst (λ (one : ImageParts). blocks_right one ≡ true) (let there : image_with s views whole ≡ made = cc in there) (rows_right s views whole linked_so same)
rows_given s views (Err at) made linked_so is same = absurd (cc)

-- the rows of blocks of the image of a set of files are right
pub image_rows : (turns : ℕ) (files : List File) (views : List View) (made : ImageParts) → image_of (set_of turns files) views ≡ Ok made → blocks_right made ≡ true
image_rows turns files views made is =
    rows_given (set_of turns files) views (linking (set_of turns files) views) made refl is (length-map (processes_of (phrases_of files)) (path_of (phrases_of files)))
