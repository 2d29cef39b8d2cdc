-- The event expressions of statements, as the program finds them.
use Rattle.std.specs.Prelude.{ℕ, suc, ◌+◌, ◌==◌, nat_lt, Bool, true, false, List, [], ◌∷◌, length, map, slice_get, Option, Some, None, if◌then◌else◌}
use Rattle.std.specs.Option.{option_map, option_and_then}
use Rattle.std.proofs.Common.{◌≡◌, ◌<◌, refl, ap, ap₂, ◌∙◌, arith, lt-ltb}
use Rattle.hal_storage.specs.layout.Layouts.{items_of}
use Rattle.hal_meaning.specs.Events.{Stated}
use Rattle.hal_meaning.specs.RealTime.{stated_from, stated_at_mark}
use Rattle.hal_agreement.specs.Sites.{Site, here_at}
use Rattle.hal_gen_expr.specs.Numbering.{below}
use Rattle.hal_gen_expr.specs.SeenSites.{seen_site}
use Rattle.hal_gen_expr.specs.declared.site.Site as rust-site
use Rattle.hal_gen.specs.Leaves.{stated_number, head_of, last_of, first_event, last_event}
use Rattle.hal_gen.specs.Pausing.{first_stated, last_stated, first_at_mark, last_at_mark}

one_more : (n : ℕ) → suc n ≡ n + 1
one_more n = omega arith

step : (b : Bool) (n : ℕ) (later : List ℕ) (found : Option ℕ) → head_of later ≡ found → head_of (if b then n ∷ later else later) ≡ (if b then Some n else found)
step true n later found same = refl
step false n later found same = same

first_is : (n k : ℕ) (list : List Stated) → head_of (stated_from n k list) ≡ first_stated n k list
unfolding first_stated
first_is n k [] = refl
first_is n k (one ∷ list) =
    step (one.statement == k) n (stated_from (suc n) k list) (first_stated (n + 1) k list) (first_is (suc n) k list ∙ ap (λ m. first_stated m k list) (one_more n))

last_by : (b : Bool) (n : ℕ) (found : Option ℕ) (later : List ℕ) → last_of found (if b then n ∷ later else later) ≡ last_of (if b then Some n else found) later
last_by true n found later = refl
last_by false n found later = refl

last_is : (n k : ℕ) (found : Option ℕ) (list : List Stated) → last_of found (stated_from n k list) ≡ last_stated n k found list
unfolding last_stated
last_is n k found [] = refl
last_is n k found (one ∷ list) =
    last_by (one.statement == k) n found (stated_from (suc n) k list)
    ∙ last_is (suc n) k (if one.statement == k then Some n else found) list
    ∙ ap (λ m. last_stated m k (if one.statement == k then Some n else found) list) (one_more n)

-- it is below their number
abbrev Below : ℕ → Option ℕ → Type 0
Below len None = Unit {0}
Below len (Some x) = x < len

below_by : (b : Bool) (n len : ℕ) (later : Option ℕ) → n < len → Below len later → Below len (if b then Some n else later)
below_by true n len later here rest = here
below_by false n len later here rest = rest

first_below : (n k len : ℕ) (list : List Stated) → n + length list ≡ len → Below len (first_stated n k list)
unfolding first_stated
first_below n k len [] same = tt
first_below n k len (one ∷ list) same =
    below_by (one.statement == k) n len (first_stated (n + 1) k list) (omega (arith, same)) (first_below (n + 1) k len list (omega (arith, same)))

last_below : (n k len : ℕ) (found : Option ℕ) (list : List Stated) → n + length list ≡ len → Below len found → Below len (last_stated n k found list)
unfolding last_stated
last_below n k len found [] same low = low
last_below n k len found (one ∷ list) same low =
    last_below (n + 1) k len (if one.statement == k then Some n else found) list (omega (arith, same)) (below_by (one.statement == k) n len found (omega (arith, same)) low)

-- so it is told
told : (site : Site) (len : ℕ) (number : Option ℕ) → length site.set.tables.expressions ≡ len → Below len number → option_and_then (stated_number site) number ≡ option_and_then (below 4294967296) number
told site len None same less = refl
told site len (Some x) same less = ap (λ l. if nat_lt x l then below 4294967296 x else None) same ∙ ap (λ b. if b then below 4294967296 x else None) (lt-ltb x len less)

same_length : {X Y : Type 0} (f : X → Y) (xs : List X) → length (map f xs) ≡ length xs
same_length f [] = refl
same_length f (x ∷ xs) = ap suc (same_length f xs)

none_before : (n : ℕ) → 0 + n ≡ n
none_before n = omega arith

module _ (site : Site) (tabled : site.set.tables.expressions ≡ items_of site.set.stated) where
  as_many : length site.set.tables.expressions ≡ length site.set.stated
  as_many = ap length tabled ∙ same_length (λ (one : Stated). one.items) site.set.stated

  first_of_statement : (k : ℕ) → first_event site (stated_from 0 k site.set.stated) ≡ option_and_then (below 4294967296) (first_stated 0 k site.set.stated)
  first_of_statement k =
      ap (λ found. option_and_then (stated_number site) found) (first_is 0 k site.set.stated)
      ∙ told site (length site.set.stated) (first_stated 0 k site.set.stated) as_many (first_below 0 k (length site.set.stated) site.set.stated (none_before (length site.set.stated)))

  last_of_statement : (k : ℕ) → last_event site (stated_from 0 k site.set.stated) ≡ option_and_then (below 4294967296) (last_stated 0 k None site.set.stated)
  last_of_statement k =
      ap (λ found. option_and_then (stated_number site) found) (last_is 0 k None site.set.stated)
      ∙ told site (length site.set.stated) (last_stated 0 k None site.set.stated) as_many (last_below 0 k (length site.set.stated) None site.set.stated (none_before (length site.set.stated)) tt)

  first_by_mark : (mark : Option ℕ)
      → first_event site (elim mark [ None ↦ [] | Some k ↦ stated_from 0 k site.set.stated ])
      ≡ elim mark [ None ↦ None | Some k ↦ option_and_then (below 4294967296) (first_stated 0 k site.set.stated) ]
  first_by_mark None = refl
  first_by_mark (Some k) = first_of_statement k

  last_by_mark : (mark : Option ℕ)
      → last_event site (elim mark [ None ↦ [] | Some k ↦ stated_from 0 k site.set.stated ])
      ≡ elim mark [ None ↦ None | Some k ↦ option_and_then (below 4294967296) (last_stated 0 k None site.set.stated) ]
  last_by_mark None = refl
  last_by_mark (Some k) = last_of_statement k

pub first_given : (s : rust-site.Site) (m : ℕ) → first_event (seen_site s) (stated_at_mark (here_at (seen_site s)) m) ≡ first_at_mark (seen_site s) m
unfolding seen_site
first_given s m = first_by_mark (seen_site s) refl (slice_get s.marks.now m)

pub last_given : (s : rust-site.Site) (m : ℕ) → last_event (seen_site s) (stated_at_mark (here_at (seen_site s)) m) ≡ last_at_mark (seen_site s) m
unfolding seen_site
last_given s m = last_by_mark (seen_site s) refl (slice_get s.marks.now m)
