-- What the statements of a unit may use serves the unit, in the block that its process has for it.
use Rattle.std.specs.Prelude.{◌≡◌, ◌<◌, ◌≤◌, ◌⊎◌, ℕ, zero, suc, ◌+◌, ◌==◌, nat_lt, Bool, true, false, not, List, [], ◌∷◌, find, cond, length, Option, Some, None, slice_get, unwrap_or}
use Rattle.std.specs.List.{list_any}
use Rattle.std.specs.Option.{is_some}
use Rattle.std.proofs.Common.{refl, sym, ap, subst, ◌∙◌, inl, inr, arith}
use Rattle.std.proofs.lemmas.Bool.{and_from, eqb-true, lt-ltb}
use Rattle.std.proofs.lemmas.Option.{slice_get_within}
use Rattle.hal_base.specs.declared.limits.TheConstants.{PROCESS_LIMIT}
use Rattle.hal_phrases.specs.Phrases.{Phrase}
use Rattle.hal_scope.specs.Rules.{IsAmong, IsSound}
use Rattle.hal_meaning.specs.Bodies.{Body, callees, processes_of}
use Rattle.hal_meaning.specs.Bodies as bodies
use Rattle.hal_meaning.specs.Calls.{is_function}
use Rattle.hal_meaning.specs.Places.{Place as OwnPlace, unit_numbers}
use Rattle.hal_meaning.specs.Runs.{places_of_process}
use Rattle.hal_meaning.specs.Sets.{Set, body_at}
use Rattle.hal_reach.proofs.Within.{Has}
use Rattle.hal_locks.specs.Rules.{lock_rows}
use Rattle.hal_code.specs.declared.image.ImageParts.{ImageParts}
use Rattle.hal_code.specs.declared.row.Block.{Block}
use Rattle.hal_code.specs.declared.row.View.{View}
use Rattle.hal_code.specs.Blocks.{code_of, leads_out, outward}
use Rattle.hal_code.specs.Images as images
use Rattle.hal_code.specs.Right.{blocks_right}
use Rattle.hal_agreement.specs.PlacedBlocks.{unit_site}
use Rattle.hal_fitting.specs.Fitting.{Ground}
use Rattle.hal_fit_expr.specs.Uses.{Uses}
use Rattle.hal_fit.specs.Stating.{StatementsFit}
use Rattle.hal_fit.proofs.QuietUnits.{quiet_flag, unit_quiet}
use Rattle.hal_fit_calls.specs.Harmless.{AllHarmless, IsHarmless}
use Rattle.hal_fit_rules.specs.Used.{UnitKnown}
use Rattle.hal_link.specs.KnownBlocks.{HasOwnBlock, IsKnown, KnownProcess, KnownUnit, numbers}
use Rattle.hal_link.specs.LinkedBlocks.{CallsUnits}
use Rattle.hal_link.specs.Outlines.{Outline, outlines_of}
use Rattle.hal_link.specs.Outlines as outlines
use Rattle.hal_link.specs.Shapes.{shapes_of}
use Rattle.hal_fit_layout.specs.Ranked.{IsAcyclic}
use Rattle.hal_fit_layout.proofs.Called.{called_reaches, from_called}
use Rattle.hal_fit_layout.proofs.Ordered.{numbered, stands_before}
use Rattle.hal_fit_layout.proofs.Outlining.{called_are, numbered_reaches, unit_is}
use Rattle.hal_right_images.specs.images.Blocks.{ParametersFit, ground_of, may_use, reached, uses_of}
use Rattle.hal_fit_names.specs.Serving.{AsksNothing, ServesUnit}
use Rattle.hal_right_images.proofs.images.Barred.{asks_nothing}
use Rattle.hal_right_images.proofs.images.Reaching.{called_reached, has_callee, own_reached, reached_on, reached_unit}
use Rattle.hal_right_images.proofs.images.Righting.{ends_there}
use Rattle.hal_right_images.proofs.images.Supporting.{gives, own_block, supports_inside}
use Rattle.hal_right_images.proofs.images.Units.{UnitsAreKnown}

-- a body that is found has the number looked for
found_number : (k : ℕ) (bs : List Body) (b : Body) → find (λ (x : Body). x.number == k) bs ≡ Some b → b.number ≡ k
found_number k [] b is = absurd (cc)
found_number k (x ∷ bs) b is = by (x.number == k) refl is (found_number k bs b) where
  by : (c : Bool) → (x.number == k) ≡ c → cond c (Some x) (find (λ (y : Body). y.number == k) bs) ≡ Some b → (find (λ (y : Body). y.number == k) bs ≡ Some b → b.number ≡ k) → b.number ≡ k
  by true so same later = let one : x ≡ b = cc in subst (λ (y : Body). y.number ≡ k) one (eqb-true x.number k so)
  by false isnt same later = later same

-- a list has what stands before one of its members
one_before : {X : Type 0} (xs : List X) (n m : ℕ) (x : X) → slice_get xs n ≡ Some x → m < n → (y : X) × (slice_get xs m ≡ Some y)
one_before [] n m x is less = absurd (cc)
one_before (z ∷ xs) zero m x is less = absurd (omega (arith, less))
one_before (z ∷ xs) (suc n) zero x is less = (z, refl)
one_before (z ∷ xs) (suc n) (suc m) x is less = one_before xs n m x is (omega (arith, less))

-- what laws say of a set that breaks no rule and of its image
pub record AreGiven (s : Set) (views : List View) (image : ImageParts) : Type 0 where
  pub locked : IsSound lock_rows s.phrases
  pub acyclic : IsAcyclic s.phrases
  pub fit : (g : Ground) (u : Bool → Uses) (places : List OwnPlace) (unit : ℕ) (b : Body) → body_at s unit ≡ Some b → UnitKnown image g u (unit_site s places b) b.number
      → StatementsFit image g u false (unit_site s places b) 0 b.statements
  pub inside : (g : Ground) (v : Uses) (places : List OwnPlace) (unit : ℕ) (b : Body) → body_at s unit ≡ Some b → UnitKnown image g (λ inside. v) (unit_site s places b) b.number → IsHarmless s.phrases b.number
      → StatementsFit image g (λ inside. v) true (unit_site s places b) 0 b.statements
  pub called : (p : Phrase) (q : ℕ) → IsAmong p s.phrases → is_some p.around.update ≡ true → bodies.callee s.phrases p ≡ Some q → AllHarmless s.phrases q
  pub itself : (q : ℕ) → AllHarmless s.phrases q → IsHarmless s.phrases q
  pub on : (q r : ℕ) → Has (unit_numbers s.phrases) q → Has (callees s.phrases q) r → AllHarmless s.phrases q → AllHarmless s.phrases r
  pub rows : blocks_right image ≡ true
  pub tables : images.tables_of image ≡ s.tables
  pub known : (number : ℕ) (row : Block) → slice_get image.blocks number ≡ Some row → IsKnown s views image number row
  pub own : (process : ℕ) → process < length s.tables.processes → HasOwnBlock s image process
  pub few : length s.tables.processes ≤ PROCESS_LIMIT

-- a block that isn't outward may be called in UPDATE blocks
may_call : (image : ImageParts) (number callee : ℕ) (inside : Bool) → callee < number → (inside ≡ true → unwrap_or (slice_get (outward image) callee) false ≡ false) → may_use image number inside (Some callee) ≡ true
may_call image number callee true less quiet =
    and_from (nat_lt callee number) (not (unwrap_or (slice_get (outward image) callee) false)) (lt-ltb callee number less) (ap not (quiet refl))
may_call image number callee false less quiet = and_from (nat_lt callee number) true (lt-ltb callee number less) refl

-- so may a unit be called, if it has a block
may_call_any : (image : ImageParts) (number : ℕ) (inside : Bool) (o : Option ℕ)
    → ((callee : ℕ) → o ≡ Some callee → (callee < number) × (inside ≡ true → unwrap_or (slice_get (outward image) callee) false ≡ false)) → may_use image number inside o ≡ true
may_call_any image number inside None so = refl
may_call_any image number inside (Some callee) so = let its = so callee refl in may_call image number callee inside its.0 its.1

module _ (s : Set) (views : List View) (image : ImageParts) (given : AreGiven s views image) (left : UnitsAreKnown s image) (process : ℕ) (within : process < length s.tables.processes) (o : Outline)
    (there : slice_get (outlines_of s) process ≡ Some o)
    (parameters : (number : ℕ) (row : Block) → row.process ≡ process → ParametersFit s image number row) where
  -- its unit is that of its outline
  its_unit : slice_get (processes_of s.phrases) process ≡ Some o.unit
  its_unit = unit_is s process o there

  -- another outline of the same process is the same
  same_outline : (other : Outline) (number : ℕ) → number ≡ process → slice_get (outlines_of s) number ≡ Some other → other ≡ o
  same_outline other number same is = let here = subst (λ n. slice_get (outlines_of s) n ≡ Some other) same is in cc

  -- what a block of the process calls are blocks of the process
  calls_by : (number : ℕ) (row : Block) → row.process ≡ process → IsKnown s views image number row → CallsUnits s image (numbers s views o) process
  calls_by number row its known = by known.is where
    same : known.outline ≡ o
    same = same_outline known.outline row.process its known.there

    of_block : (block : ℕ → Option ℕ) → block ≡ numbers s views known.outline → CallsUnits s image block row.process → CallsUnits s image (numbers s views o) process
    of_block block is calls = subst (CallsUnits s image (numbers s views o)) its (subst (λ f. CallsUnits s image f row.process) (is ∙ ap (numbers s views) same) calls)

    by : KnownProcess s views image known.outline number row ⊎ KnownUnit s views image known.outline number row → CallsUnits s image (numbers s views o) process
    by (inl p) = of_block p.linked.block p.block p.linked.calls
    by (inr u) = of_block u.linked.block u.block u.linked.calls

  -- a unit that has a block is one of those that the process calls
  record IsNumbered (unit callee : ℕ) : Type 0 where
    place : ℕ
    low : place < length o.called
    named : slice_get o.called place ≡ Some unit
    is : o.first + place ≡ callee
    reached : reached s process unit ≡ true

  numbered_so : (unit callee : ℕ) → numbers s views o unit ≡ Some callee → IsNumbered unit callee
  numbered_so unit callee is =
      let found = numbered o (shapes_of s) views unit callee is in
      record {
        place = found.place;
        low = slice_get_within o.called found.place unit found.there;
        named = found.there;
        is = found.is;
        reached = called_reached s process o.unit its_unit unit (numbered_reaches s views process o unit callee there is);
      }

  -- the block of the process itself is there
  own_there : slice_get image.blocks (outlines.own_block o) ≡ Some (given.own process within).row
  own_there =
      subst (λ n. slice_get image.blocks n ≡ Some (given.own process within).row) (ap (λ (x : Option Outline). elim x [ None ↦ 0 | Some one ↦ outlines.own_block one ]) there) (given.own process within).there

  -- so units are called in its blocks
  calls_units : CallsUnits s image (numbers s views o) process
  calls_units = calls_by (outlines.own_block o) (given.own process within).row (given.own process within).its (given.known (outlines.own_block o) (given.own process within).row own_there)

  -- what is called by a unit in a block of the process may be called from there, where it asks nothing if need be
  module _ (caller number : ℕ) (caller_reached : reached s process caller ≡ true)
      (before : (q callee : ℕ) → Has (callees s.phrases caller) q → numbers s views o q ≡ Some callee → callee < number) where
    may_be_used : (inside : Bool) (q : ℕ) → Has (callees s.phrases caller) q
        → ((callee : ℕ) → callee < number → numbers s views o q ≡ Some callee → inside ≡ true → unwrap_or (slice_get (outward image) callee) false ≡ false)
        → (uses_of s image process (numbers s views o) number inside).calls q ≡ true
    may_be_used inside q called quiet =
        and_from (reached s process q) (may_use image number inside (numbers s views o q)) (reached_on s process o.unit its_unit caller q caller_reached called)
        (may_call_any image number inside (numbers s views o q) (λ callee is. (before q callee called is, quiet callee (before q callee called is) is)))

  -- a unit that the process calls stands behind those that it calls
  called_before : (unit place : ℕ) → slice_get o.called place ≡ Some unit → Has (unit_numbers s.phrases) unit → (q callee : ℕ) → Has (callees s.phrases unit) q → numbers s views o q ≡ Some callee → callee < o.first + place
  called_before unit place named is q callee called numbered = stands_before s o (shapes_of s) views place unit q callee given.acyclic (called_are s process o there) named is called numbered

  -- the block of a unit that does nothing an UPDATE block may not do asks nothing, where this holds of blocks before it
  module _ (callee : ℕ) (before : (q other : ℕ) → other < callee → numbers s views o q ≡ Some other → AllHarmless s.phrases q → unwrap_or (slice_get (outward image) other) false ≡ false) (row : Block)
      (found : slice_get image.blocks callee ≡ Some row) (its : row.process ≡ process) where
    unit_asks_nothing : (unit : ℕ) → IsNumbered unit callee → AllHarmless s.phrases unit → KnownUnit s views image o callee row → slice_get (outward image) callee ≡ Some false
    unit_asks_nothing unit one harmless u = quiet_flag image callee row found quiet where
      numbers_are : o.first + u.place ≡ o.first + one.place
      numbers_are = sym u.numbered ∙ sym one.is

      places_are : u.place ≡ one.place
      places_are = let same = numbers_are in omega (arith, same)

      units_are : u.unit ≡ unit
      units_are = let here = subst (λ n. slice_get o.called n ≡ Some u.unit) places_are u.named in let there_too = one.named in cc

      body : Body
      body = u.linked.body

      number_is : body.number ≡ unit
      number_is = found_number u.unit s.bodies body u.found ∙ units_are

      v : Uses
      v = uses_of s image row.process u.linked.block callee true

      same_uses : uses_of s image process (numbers s views o) callee true ≡ v
      same_uses = ap (λ n. uses_of s image n (numbers s views o) callee true) (sym its) ∙ ap (λ block. uses_of s image row.process block callee true) (sym u.block)

      calls_all : (p : Phrase) (q : ℕ) → IsAmong p s.phrases → p.around.home ≡ body.number → bodies.callee s.phrases p ≡ Some q → v.calls q ≡ true
      calls_all p q among home is =
          let called : Has (callees s.phrases unit) q = has_callee s.phrases unit q p among (home ∙ number_is) is in
          subst (λ (x : Uses). x.calls q ≡ true) same_uses
          (may_be_used unit callee one.reached
          (λ r other has numbered. subst (λ n. other < n) one.is (called_before unit one.place one.named (reached_unit s process o.unit its_unit unit one.reached) r other has numbered)) true q called
          (λ other less numbered inside. before q other less numbered (given.on unit q (reached_unit s process o.unit its_unit unit one.reached) called harmless)))

      serves : ServesUnit s image (λ inside. v) body.number
      serves =
          record {
            calls = calls_all;
            asks = λ inside. inr (λ p among home where_it_is. given.itself unit harmless p among (home ∙ number_is));
            events = λ inside. refl;
          }

      known : UnitKnown image (ground_of image callee row) (λ inside. v) (unit_site s (places_of_process s row.process) body) body.number
      known =
          left.units callee row o body u.place u.unit found (subst (λ n. slice_get (outlines_of s) n ≡ Some o) (sym its) there) u.named u.numbered u.found
          (λ function. gives (record { image = image; block = u.linked.block }) (is_function body.head) body.head row u.linked.code.finish function u.linked.code.ends) (λ inside. v) serves

      quiet : list_any (leads_out (outward image)) (code_of image row) ≡ false
      quiet =
          unit_quiet (record { image = image; block = u.linked.block }) (ground_of image callee row) (λ inside. v) s (places_of_process s row.process) body u.linked.code
          (u.linked.ends ∙ ends_there (is_function body.head) body.head u.linked.code.finish)
          (supports_inside s image callee row u.linked.block u.linked.calls (own_block row (length s.tables.processes) u.linked.there given.few) (parameters callee row its) given.rows given.tables)
          (given.inside (ground_of image callee row) v (places_of_process s row.process) u.unit body u.found known (subst (IsHarmless s.phrases) (sym number_is) (given.itself unit harmless)))

    -- the block of such a unit is that of the unit alone
    asks_none : (unit : ℕ) → IsNumbered unit callee → AllHarmless s.phrases unit → IsKnown s views image callee row → unwrap_or (slice_get (outward image) callee) false ≡ false
    asks_none unit one harmless known = by known.is where
      same : known.outline ≡ o
      same = same_outline known.outline row.process its known.there

      by : KnownProcess s views image known.outline callee row ⊎ KnownUnit s views image known.outline callee row → unwrap_or (slice_get (outward image) callee) false ≡ false
      by (inl p) =
          let number = p.numbered in
          let here : callee ≡ outlines.own_block o = number ∙ ap outlines.own_block same in
          let is = one.is in
          let low = one.low in
          absurd (omega (arith, here, is, low))
      by (inr u) = ap (λ x. unwrap_or x false) (unit_asks_nothing unit one harmless (subst (λ x. KnownUnit s views image x callee row) same u))

  -- so all blocks of such units ask nothing
  all_ask_nothing : (n unit callee : ℕ) → callee < n → numbers s views o unit ≡ Some callee → AllHarmless s.phrases unit → unwrap_or (slice_get (outward image) callee) false ≡ false
  all_ask_nothing zero unit callee less is harmless = absurd (omega (arith, less))
  all_ask_nothing (suc n) unit callee less is harmless =
      let one = numbered_so unit callee is in
      let place = one.is in
      let low = one.low in
      let row = one_before image.blocks (outlines.own_block o) callee (given.own process within).row own_there (omega (arith, place, low)) in
      asks_none callee (λ q other before numbered harmless_too. all_ask_nothing n q other (omega (arith, before, less)) numbered harmless_too) row.0 row.1
      (calls_units.owned unit callee row.0 is row.1) unit one harmless (given.known callee row.0 row.1)

  -- outside of UPDATE blocks it may be asked, and inside nothing asks
  asks_by : (home : ℕ) (inside : Bool) → (not inside ≡ true) ⊎ AsksNothing s.phrases home inside
  asks_by home true = inr (asks_nothing s.phrases given.locked home)
  asks_by home false = inl refl

  -- what the statements of a block of the process may use serves its unit, where the blocks of those that the unit calls stand before
  pub serves_block : (number unit home : ℕ) → home ≡ unit → reached s process unit ≡ true
      → ((q other : ℕ) → Has (callees s.phrases unit) q → numbers s views o q ≡ Some other → other < number) → ServesUnit s image (uses_of s image process (numbers s views o) number) home
  serves_block number unit home same is before =
      record {
        calls = λ p q among at calls.
            may_be_used unit number is before (is_some p.around.update) q (has_callee s.phrases unit q p among (at ∙ same) calls)
            (λ other less numbered inside. all_ask_nothing (suc other) q other (omega arith) numbered (given.called p q among inside calls));
        asks = λ inside. asks_by home inside;
        events = λ inside. refl;
      }

  -- so does what those of the process itself may use
  pub serves_process : (number : ℕ) (row : Block) (p : KnownProcess s views image o number row) → ServesUnit s image (uses_of s image process (numbers s views o) number) p.linked.body.number
  serves_process number row p =
      serves_block number o.unit p.linked.body.number (found_number o.unit s.bodies p.linked.body p.found) (own_reached s process o.unit its_unit)
      (λ q other called numbered. p.linked.before q other (ap (λ f. f q) p.block ∙ numbered))

  -- and what those of a unit may use that the process calls
  pub serves_unit : (number : ℕ) (row : Block) (u : KnownUnit s views image o number row) → ServesUnit s image (uses_of s image process (numbers s views o) number) u.linked.body.number
  serves_unit number row u =
      let reaches = called_reaches s.phrases o.unit u.unit
      (from_called o.unit (length (outlines.ranks_of s.phrases)) (outlines.ranks_of s.phrases) u.place u.unit (subst (λ l. slice_get l u.place ≡ Some u.unit) (called_are s process o there) u.named)) in
      let is = called_reached s process o.unit its_unit u.unit reaches in
      serves_block number u.unit u.linked.body.number (found_number u.unit s.bodies u.linked.body u.found) is
      (λ q other called numbered.
      subst (λ n. other < n) (sym u.numbered) (called_before u.unit u.place u.named (reached_unit s process o.unit its_unit u.unit is) q other called numbered))
