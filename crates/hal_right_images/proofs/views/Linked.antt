-- The code of each block of a linked image names views that are for what phrases name in the block's process.
use Rattle.std.specs.Prelude.{◌≡◌, ◌≤◌, ◌<◌, ◌+◌, ◌-◌, ◌==◌, ◌&&◌, ◌||◌, ℕ, zero, suc, Bool, true, false, List, [], ◌∷◌, ◌++◌, drop, length, take, Option, Some, None, Ok, Err, slice_get}
use Rattle.std.specs.List.{list_any}
use Rattle.std.proofs.Common.{refl, sym, subst, inl, inr, arith, length-append}
use Rattle.std.proofs.lemmas.Bool.{and_parts, eqb-true}
use Rattle.hal_grammar.specs.Units.{File}
use Rattle.hal_phrases.specs.GatheredUnits.{phrases_of}
use Rattle.hal_code.specs.declared.image.ImageParts.{ImageParts}
use Rattle.hal_code.specs.declared.instr.Instr.{Instr}
use Rattle.hal_code.specs.declared.instr.Instr.TheVariants as instr
use Rattle.hal_code.specs.declared.row.Block.{Block}
use Rattle.hal_code.specs.declared.row.View.{View}
use Rattle.hal_code.specs.Blocks.{code_of}
use Rattle.hal_code.specs.Right.{names_view, process_names}
use Rattle.hal_meaning.specs.Bodies.{Body, bodies_of, processes_of}
use Rattle.hal_meaning.specs.Calls.{is_function}
use Rattle.hal_meaning.specs.Sets.{Set, body_at}
use Rattle.hal_gen_expr.specs.Emitting.{Emitted}
use Rattle.hal_link.proofs.Linked.{both_linked, unless_function}
use Rattle.hal_link.proofs.Outlined.{outlined_at}
use Rattle.hal_link.specs.Linking.{Linked, Linking, linked, linking, image_of, image_by, image_with, behind_block, process_block, process_site, with_process, with_unit, with_units, with_outline, with_outlines}
use Rattle.hal_link.specs.Outlines.{Outline, outlines_of, numbering_of, ranks_of}
use Rattle.hal_link.specs.ProcessCode.{process_code}
use Rattle.hal_link.specs.Shapes.{shapes_of}
use Rattle.hal_link.specs.UnitCode.{unit_code, unit_block}
use Rattle.hal_fit_calls.specs.Each.{Each}
use Rattle.hal_fit_calls.proofs.Each.{each_append, each_weaker}
use Rattle.hal_right_images.proofs.rows.Alone.{each_at}
use Rattle.hal_right_images.specs.rows.Purposes.{StandsIn}
use Rattle.hal_right_images.specs.views.Naming.{NamesCell, NamesArea, NamesView, Names}
use Rattle.hal_right_images.proofs.views.Adding.{Gives}
use Rattle.hal_right_images.proofs.views.Units.{process_named, unit_named}

-- members of lists that are joined, in the second one and in the first one
behind_front : {X : Type 0} (P : X → Type 0) (front back : List X) (at : ℕ) (x : X) → Each P back → length front ≤ at → slice_get (front ++ back) at ≡ Some x → P x
behind_front P [] back at x each low is = each_at P back at x each is
behind_front P (y ∷ front) back zero x each low is = absurd (omega (arith, low))
behind_front P (y ∷ front) back (suc at) x each low is = behind_front P front back at x each (omega (arith, low)) is

in_front : {X : Type 0} (front back : List X) (at : ℕ) (x : X) → at < length front → slice_get (front ++ back) at ≡ Some x → slice_get front at ≡ Some x
in_front [] back at x low is = absurd (omega (arith, low))
in_front (y ∷ front) back zero x low is = is
in_front (y ∷ front) back (suc at) x low is = in_front front back at x (omega (arith, low)) is

-- a member of a part of a list that passes a test
record Passing {X : Type 0} (test : X → Bool) (xs : List X) (from to : ℕ) : Type 0 where
  place : ℕ
  member : X
  low : from ≤ place
  high : place < to
  there : slice_get xs place ≡ Some member
  passes : test member ≡ true

later_passing : {X : Type 0} (test : X → Bool) (x : X) (xs : List X) (from to : ℕ) → Passing test xs from to → Passing test (x ∷ xs) (suc from) (suc to)
later_passing test x xs from to one =
    let low = one.low in
    let high = one.high in
    record { place = suc one.place; member = one.member; low = omega (arith, low); high = omega (arith, high); there = one.there; passes = one.passes }

sooner_passing : {X : Type 0} (test : X → Bool) (xs : List X) (from to : ℕ) → Passing test xs (suc from) to → Passing test xs from to
sooner_passing test xs from to one = let low = one.low in record { place = one.place; member = one.member; low = omega (arith, low); high = one.high; there = one.there; passes = one.passes }

passing_in : {X : Type 0} (test : X → Bool) (xs : List X) (count : ℕ) → list_any test (take count xs) ≡ true → Passing test xs 0 count
passing_in test [] zero any = absurd (cc)
passing_in test [] (suc count) any = absurd (cc)
passing_in test (x ∷ xs) zero any = absurd (cc)
passing_in {X} test (x ∷ xs) (suc count) any = by (test x) refl any (passing_in test xs count) where
  by : (b : Bool) → test x ≡ b → (b || list_any test (take count xs)) ≡ true → (list_any test (take count xs) ≡ true → Passing test xs 0 count) → Passing test (x ∷ xs) 0 (suc count)
  by true so all rest = record { place = 0; member = x; low = omega arith; high = omega arith; there = refl; passes = so }
  by false isnt all rest = sooner_passing test (x ∷ xs) 0 (suc count) (later_passing test x xs 0 count (rest all))

passing_from : {X : Type 0} (test : X → Bool) (xs : List X) (first count : ℕ) → list_any test (take count (drop first xs)) ≡ true → Passing test xs first (first + count)
passing_from test xs zero count any = let same : count ≡ 0 + count = omega arith in subst (λ m. Passing test xs 0 m) same (passing_in test xs count any)
passing_from test [] (suc first) zero any = absurd (cc)
passing_from test [] (suc first) (suc count) any = absurd (cc)
passing_from test (x ∷ xs) (suc first) count any =
    let same : suc (first + count) ≡ suc first + count = omega arith in
    subst (λ m. Passing test (x ∷ xs) (suc first) m) same (later_passing test x xs first (first + count) (passing_from test xs first count any))

record AnyOf {X : Type 0} (test : X → Bool) (xs : List X) : Type 0 where
  place : ℕ
  member : X
  there : slice_get xs place ≡ Some member
  passes : test member ≡ true

any_of : {X : Type 0} (test : X → Bool) (xs : List X) → list_any test xs ≡ true → AnyOf test xs
any_of test [] any = absurd (cc)
any_of {X} test (x ∷ xs) any = by (test x) refl any (any_of test xs) where
  by : (b : Bool) → test x ≡ b → (b || list_any test xs) ≡ true → (list_any test xs ≡ true → AnyOf test xs) → AnyOf test (x ∷ xs)
  by true so all rest = record { place = 0; member = x; there = refl; passes = so }
  by false isnt all rest = let one = rest all in record { place = suc one.place; member = one.member; there = one.there; passes = one.passes }

module _ (s : Set) (views : List View) where
  -- the code of a block is so, whatever comes behind it
  record IsNamed (code : List Instr) (row : Block) : Type 0 where
    low : row.end ≤ length code
    each : (at : ℕ) (i : Instr) → row.first ≤ at → at < row.end → slice_get code at ≡ Some i → Names s views row.process i

  still_named : (code more : List Instr) (row : Block) → IsNamed code row → IsNamed (code ++ more) row
  still_named code more row one =
      let low = one.low in
      record {
        low = omega (arith, low, length-append code more);
        each = λ at i from to has. one.each at i from to (in_front code more at i (omega (arith, low, to)) has);
      }

  abbrev AllNamed : Linked → Type 0
  AllNamed l = Each (IsNamed l.code) l.blocks

  -- a block more
  module _ (p : ℕ) (row : ℕ → ℕ → Block) (is : (first end : ℕ) → (row first end).process ≡ p × ((row first end).first ≡ first) × ((row first end).end ≡ end)) where
    block_named : (so_far late : Linked) (r : Emitted) → Gives (Names s views p) so_far.code r → behind_block row so_far r ≡ Ok late → AllNamed so_far → AllNamed late
    block_named so_far late (Err at) gives linked_so all = absurd (cc)
    block_named so_far late (Ok after) gives linked_so all =
        subst AllNamed (let same : linked after (so_far.blocks ++ (row (length so_far.code) (length after) ∷ [])) ≡ late = cc in same)
        (each_append (IsNamed after) so_far.blocks (row (length so_far.code) (length after) ∷ [])
        (each_weaker (IsNamed so_far.code) (IsNamed after) so_far.blocks all (λ one so. subst (λ code. IsNamed code one) (sym gives.is) (still_named so_far.code gives.more one so)))
        (own, tt))
      where
        own : IsNamed after (row (length so_far.code) (length after))
        own =
            let its = is (length so_far.code) (length after) in
            let ends = its.2 in
            record {
              low = omega (arith, ends);
              each = λ at i from to has.
                  let begins = its.1 in
                  subst (λ q. Names s views q i) (sym its.0)
                  (behind_front (Names s views p) so_far.code gives.more at i gives.each (omega (arith, from, begins)) (subst (λ code. slice_get code at ≡ Some i) gives.is has));
            }

  module _ (files : List File) (whole : s.phrases ≡ phrases_of files) (bodies : s.bodies ≡ bodies_of files s.phrases) (o : Outline) (number : ℕ) (outlined : slice_get (outlines_of s) number ≡ Some o) where
    unit_linked : (unit : ℕ) (b : Option Body) → body_at s unit ≡ b → StandsIn s o.process unit → (so_far late : Linked) → with_unit s (numbering_of (shapes_of s) views o) o.process so_far b ≡ Ok late → AllNamed so_far → AllNamed late
    unit_linked unit None found stands so_far late is all = absurd (cc)
    unit_linked unit (Some b) found stands so_far late is all =
        block_named o.process (unit_block o.process b.head) (λ first end. (refl, refl, refl)) so_far late (unit_code (numbering_of (shapes_of s) views o) (process_site s o.process b) so_far.code b.head b.statements)
        (unit_named s views o number outlined files whole bodies unit b found stands so_far.code) is all

    process_linked : (unit : ℕ) (b : Option Body) → body_at s unit ≡ b → StandsIn s o.process unit → (so_far late : Linked) → with_process s (numbering_of (shapes_of s) views o) o.process so_far b ≡ Ok late → AllNamed so_far
        → AllNamed late
    process_linked unit None found stands so_far late is all = absurd (cc)
    process_linked unit (Some b) found stands so_far late is all =
        let code = process_code (numbering_of (shapes_of s) views o) (process_site s o.process b) so_far.code b.statements in
        block_named o.process (process_block o.process) (λ first end. (refl, refl, refl)) so_far late code (process_named s views o number outlined files whole bodies unit b found stands so_far.code)
        (unless_function (is_function b.head) (behind_block (process_block o.process) so_far code) late is).1 all

    units_linked : (ks : List ℕ) → ((k : ℕ) (unit : ℕ) → slice_get ks k ≡ Some unit → StandsIn s o.process unit) → (so_far late : Linked) → with_units s (numbering_of (shapes_of s) views o) o.process ks so_far ≡ Ok late → AllNamed so_far
        → AllNamed late
    unfolding with_units
    units_linked [] stand so_far late is all = subst AllNamed (let same : so_far ≡ late = cc in same) all
    units_linked (k ∷ ks) stand so_far late is all =
        let one = both_linked (with_unit s (numbering_of (shapes_of s) views o) o.process so_far (body_at s k)) (with_units s (numbering_of (shapes_of s) views o) o.process ks) late is in
        units_linked ks (λ j unit there. stand (suc j) unit there) one.0 late one.2 (unit_linked k (body_at s k) refl (stand 0 k refl) so_far one.0 one.1 all)

    outline_linked : (so_far late : Linked) → with_outline s (shapes_of s) views o so_far ≡ Ok late → AllNamed so_far → AllNamed late
    outline_linked so_far late is all =
        let parts = both_linked (with_units s (numbering_of (shapes_of s) views o) o.process o.called so_far) (λ middle. with_process s (numbering_of (shapes_of s) views o) o.process middle (body_at s o.unit)) late is in
        let at = outlined_at (ranks_of s.phrases) (processes_of s.phrases) 0 0 number o outlined in
        let process : o.process ≡ number = (let number_is = at.0 in omega (arith, number_is)) in
        process_linked o.unit (body_at s o.unit) refl (inl (subst (λ q. slice_get (processes_of s.phrases) q ≡ Some o.unit) (sym process) at.1)) parts.0 late parts.2
        (units_linked o.called (λ k unit there. inr (record { number = number; outline = o; there = outlined; its = refl; place = k; called = there })) so_far parts.0 parts.1 all)

  module _ (files : List File) (whole : s.phrases ≡ phrases_of files) (bodies : s.bodies ≡ bodies_of files s.phrases) where
    outlines_linked : (p : ℕ) (os : List Outline) → ((k : ℕ) (o : Outline) → slice_get os k ≡ Some o → slice_get (outlines_of s) (p + k) ≡ Some o) → (so_far late : Linked) → with_outlines s (shapes_of s) views os so_far ≡ Ok late
        → AllNamed so_far → AllNamed late
    unfolding with_outlines
    outlines_linked p [] there so_far late is all = subst AllNamed (let same : so_far ≡ late = cc in same) all
    outlines_linked p (o ∷ os) there so_far late is all =
        let one = both_linked (with_outline s (shapes_of s) views o so_far) (with_outlines s (shapes_of s) views os) late is in
        outlines_linked (p + 1) os (λ k other at. let same : p + suc k ≡ (p + 1) + k = omega arith in subst (λ m. slice_get (outlines_of s) m ≡ Some other) same (there (suc k) other at)) one.0 late one.2
        (outline_linked files whole bodies o (p + 0) (there 0 o refl) so_far one.0 one.1 all)

    all_named : (one : Linked) → linking s views ≡ Ok one → AllNamed one
    all_named one is = outlines_linked 0 (outlines_of s) (λ k o at. let same : k ≡ 0 + k = omega arith in subst (λ m. slice_get (outlines_of s) m ≡ Some o) same at) (linked [] []) one is tt

    -- an instruction that names a view
    named_by : (process v : ℕ) (i : Instr) → names_view v i ≡ true → Names s views process i → NamesView s views process v
    named_by process v (instr.Cell view) names named = inl (subst (λ k. NamesCell s views process k) (eqb-true view v names) named)
    named_by process v (instr.Whole view) names named = inr (subst (λ k. NamesArea s views process k) (eqb-true view v names) named)
    named_by process v other names named = absurd (cc)

    in_image : (one : Linked) → linking s views ≡ Ok one → (process v : ℕ) → process_names (image_with s views one) v process ≡ true → NamesView s views process v
    in_image one is process v names =
        let block = any_of (λ (row : Block). (row.process == process) && list_any (names_view v) (code_of (image_with s views one) row)) one.blocks names in
        let row = block.member in
        let both = and_parts (row.process == process) (list_any (names_view v) (code_of (image_with s views one) row)) block.passes in
        let at = passing_from (names_view v) one.code row.first (row.end - row.first) both.1 in
        let low = at.low in
        let high = at.high in
        let named = each_at (IsNamed one.code) one.blocks block.place row (all_named one is) block.there in
        subst (λ q. NamesView s views q v) (eqb-true row.process process both.0)
        (named_by row.process v at.member at.passes (named.each at.place at.member low (omega (arith, low, high)) at.there))

    -- a process whose blocks name a view
    pub views_named : (image : ImageParts) → image_of s views ≡ Ok image → (process v : ℕ) → process_names image v process ≡ true → NamesView s views process v
    views_named image is = by (linking s views) refl is where
      by : (r : Linking) → linking s views ≡ r → image_by s views r ≡ Ok image → (process v : ℕ) → process_names image v process ≡ true → NamesView s views process v
      by (Ok one) linked_so made process v names =
          let same : image_with s views one ≡ image = cc in
          in_image one linked_so process v (subst (λ (x : ImageParts). process_names x v process ≡ true) (sym same) names)
      by (Err at) linked_so made process v names = absurd (cc)
