-- What the rule of shapes says of a choice from an array: so many of its elements are left, which follow each other.
use Rattle.std.specs.Prelude.{◌≡◌, ◌≤◌, ◌<◌, ◌⊎◌, ◌+◌, ◌*◌, ◌==◌, ◌&&◌, ◌||◌, ℕ, suc, max, Bool, true, false, List, [], ◌∷◌, length, Some, unwrap_or, if◌then◌else◌}
use Rattle.std.proofs.Common.{refl, sym, ap, subst, ◌∙◌, inl, inr, arith}
use Rattle.std.proofs.lemmas.Bool.{and_parts, eqb-true}
use Rattle.hal_grammar.specs.Expressions.{Subscripts, NoSubscripts, MoreSubscripts, Sub, Every, Range, Portion, One as OnePlace}
use Rattle.hal_phrases.specs.Phrases.{Phrase}
use Rattle.hal_kinds.specs.Subscripts.{subscript_count}
use Rattle.hal_constants.specs.Known.{Known}
use Rattle.hal_sizes.specs.declared.extent.Extent.{Extent}
use Rattle.hal_sizes.specs.Sizes.{extent}
use Rattle.hal_shapes.specs.declared.reach.Reach.TheVariants as reach
use Rattle.hal_shapes.specs.declared.span.Span.{Span}
use Rattle.hal_shapes.specs.Reaches.{reach_of}
use Rattle.hal_shapes.specs.Spans.{first_span, follows, later_subs, leave, left_of, same_extent, selects, span, span_by, whole_span}
use Rattle.hal_meaning.specs.Elements.{product}
use Rattle.hal_agreement.specs.Sites.{Site}
use Rattle.hal_gen_expr.specs.Spans.{places_skipped}
use Rattle.hal_fit_calls.specs.Each.{Each}
use Rattle.hal_right_images.proofs.rows.Filled.{IsSome}
use Rattle.hal_right_images.specs.areas.Blocks.{Leave, Follow}
use Rattle.hal_right_images.specs.areas.Sized.{extent_with}
use Rattle.hal_right_images.specs.areas.Reached.{IsReached, AreReached}

-- a dimension that is there, and what is chosen of it
record IsSpan (ps : List Phrase) (vs : Known) (q : Phrase) (site : Site) (n : ℕ) (xs : Subscripts) : Type 0 where
  size : ℕ
  left : ℕ
  kept : Bool
  chosen : first_span ps vs q n xs ≡ Some (span size left kept)
  same : size ≡ n
  some : 0 < left
  alone : kept ≡ false → left ≡ 1

whole_is : (n : ℕ) → 0 < n → whole_span n ≡ span n n true
whole_is n some = by (n == 0) refl where
  by : (b : Bool) → (n == 0) ≡ b → (if b then span 1 1 false else span n n true) ≡ span n n true
  by true none = absurd (let zero_ = eqb-true n 0 none in omega (arith, zero_, some))
  by false other = refl

-- of a subscript that chooses several places
many_span : (ps : List Phrase) (vs : Known) (q : Phrase) (site : Site) (n : ℕ) (sub : Sub) (xs : Subscripts) (len : ℕ) → reach_of ps vs q n sub ≡ reach.Many len → 0 < len → IsSpan ps vs q site n (MoreSubscripts sub xs)
unfolding first_span span_by
many_span ps vs q site n sub xs len is some = record { size = n; left = len; kept = true; chosen = ap (span_by n) is; same = refl; some = some; alone = λ kept. absurd (cc) }

span_of : (ps : List Phrase) (vs : Known) (q : Phrase) (site : Site) (n : ℕ) (ns : List ℕ) (xs : Subscripts) → 0 < n → AreReached ps vs q site (n ∷ ns) xs → IsSpan ps vs q site n xs
unfolding first_span reach_of span_by
span_of ps vs q site n ns NoSubscripts some reached = record { size = n; left = n; kept = true; chosen = ap Some (whole_is n some); same = refl; some = some; alone = λ kept. absurd (cc) }
span_of ps vs q site n ns (MoreSubscripts (OnePlace one) xs) some reached = record { size = n; left = 1; kept = false; chosen = refl; same = refl; some = omega arith; alone = λ kept. refl }
span_of ps vs q site n ns (MoreSubscripts (Every there) xs) some reached = many_span ps vs q site n (Every there) xs reached.0.left reached.0.reach reached.0.some
span_of ps vs q site n ns (MoreSubscripts (Range from to) xs) some reached = many_span ps vs q site n (Range from to) xs reached.0.left reached.0.reach reached.0.some
span_of ps vs q site n ns (MoreSubscripts (Portion count from) xs) some reached = many_span ps vs q site n (Portion count from) xs reached.0.left reached.0.reach reached.0.some

-- so many places are left of it for code
left_so : (ps : List Phrase) (vs : Known) (q : Phrase) (site : Site) (n : ℕ) (sub : Sub) (xs : Subscripts) (s : IsSpan ps vs q site n (MoreSubscripts sub xs)) → (r : IsReached ps vs q site n sub) → s.left ≡ r.left
unfolding first_span span_by
left_so ps vs q site n sub xs s r =
    let both : Some (span n r.left true) ≡ Some (span s.size s.left s.kept) = sym (ap (span_by n) r.reach) ∙ s.chosen in
    let inner : span n r.left true ≡ span s.size s.left s.kept = cc in
    sym (ap (λ (x : Span). x.length) inner)

one_so : (ps : List Phrase) (vs : Known) (q : Phrase) (site : Site) (n : ℕ) (there : _) (xs : Subscripts) (s : IsSpan ps vs q site n (MoreSubscripts (OnePlace there) xs)) → s.left ≡ 1
unfolding first_span reach_of span_by
one_so ps vs q site n there xs s =
    let both : Some (span n 1 false) ≡ Some (span s.size s.left s.kept) = s.chosen in
    let inner : span n 1 false ≡ span s.size s.left s.kept = cc in
    sym (ap (λ (x : Span). x.length) inner)

all_so : (ps : List Phrase) (vs : Known) (q : Phrase) (site : Site) (n : ℕ) → 0 < n → (s : IsSpan ps vs q site n NoSubscripts) → s.left ≡ n
unfolding first_span
all_so ps vs q site n some s =
    let both : Some (span n n true) ≡ Some (span s.size s.left s.kept) = sym (ap Some (whole_is n some)) ∙ s.chosen in
    let inner : span n n true ≡ span s.size s.left s.kept = cc in
    sym (ap (λ (x : Span). x.length) inner)

leaves_so : (ps : List Phrase) (vs : Known) (q : Phrase) (site : Site) (n : ℕ) (ns lefts : List ℕ) (xs : Subscripts) (some : 0 < n) → AreReached ps vs q site (n ∷ ns) xs → (s : IsSpan ps vs q site n xs) → Leave site ns (later_subs xs) lefts
    → Leave site (n ∷ ns) xs (s.left ∷ lefts)
unfolding later_subs
leaves_so ps vs q site n ns lefts NoSubscripts some reached s rest = (all_so ps vs q site n some s, rest)
leaves_so ps vs q site n ns lefts (MoreSubscripts (OnePlace one) xs) some reached s rest = (one_so ps vs q site n one xs s, rest)
leaves_so ps vs q site n ns lefts (MoreSubscripts (Every there) xs) some reached s rest =
    (subst (λ m. unwrap_or (places_skipped site n (Every there)) 0 + m ≤ n) (sym (left_so ps vs q site n (Every there) xs s reached.0)) reached.0.low, rest)
leaves_so ps vs q site n ns lefts (MoreSubscripts (Range from to) xs) some reached s rest =
    (subst (λ m. unwrap_or (places_skipped site n (Range from to)) 0 + m ≤ n) (sym (left_so ps vs q site n (Range from to) xs s reached.0)) reached.0.low, rest)
leaves_so ps vs q site n ns lefts (MoreSubscripts (Portion count from) xs) some reached s rest =
    (subst (λ m. unwrap_or (places_skipped site n (Portion count from)) 0 + m ≤ n) (sym (left_so ps vs q site n (Portion count from) xs s reached.0)) reached.0.low, rest)

later_reached : (ps : List Phrase) (vs : Known) (q : Phrase) (site : Site) (n : ℕ) (ns : List ℕ) (xs : Subscripts) → AreReached ps vs q site (n ∷ ns) xs → AreReached ps vs q site ns (later_subs xs)
unfolding later_subs
later_reached ps vs q site n ns NoSubscripts reached = none ns where
  none : (ms : List ℕ) → AreReached ps vs q site ms NoSubscripts
  none [] = tt
  none (m ∷ ms) = tt
later_reached ps vs q site n ns (MoreSubscripts (OnePlace one) xs) reached = reached.1
later_reached ps vs q site n ns (MoreSubscripts (Every there) xs) reached = reached.1
later_reached ps vs q site n ns (MoreSubscripts (Range from to) xs) reached = reached.1
later_reached ps vs q site n ns (MoreSubscripts (Portion count from) xs) reached = reached.1

-- no subscripts are left where there are no more dimensions
none_later : (xs : Subscripts) → subscript_count xs ≤ 1 → later_subs xs ≡ NoSubscripts
unfolding later_subs subscript_count
none_later NoSubscripts low = refl
none_later (MoreSubscripts a NoSubscripts) low = refl
none_later (MoreSubscripts a (MoreSubscripts b xs)) low = absurd (omega (arith, low))

later_none : (ys : Subscripts) → ys ≡ NoSubscripts → later_subs ys ≡ NoSubscripts
unfolding later_subs
later_none ys same = ap later_subs same

count_later : (xs : Subscripts) (n : ℕ) → subscript_count xs ≤ suc n → subscript_count (later_subs xs) ≤ n
unfolding later_subs subscript_count
count_later NoSubscripts n low = omega arith
count_later (MoreSubscripts a xs) n low = omega (arith, low)

-- the dimensions that are left
abbrev keep : Bool → ℕ → List ℕ → List ℕ
keep true left lefts = left ∷ lefts
keep false left lefts = lefts

keep_product : (kept : Bool) (left : ℕ) (lefts : List ℕ) → (kept ≡ false → left ≡ 1) → product (keep kept left lefts) ≡ left * product lefts
keep_product true left lefts alone = refl
keep_product false left lefts alone = let same = ap (λ m. m * product lefts) (alone refl) in let itself : 1 * product lefts ≡ product lefts = omega arith in omega (arith, same, itself)

keep_some : (kept : Bool) (left : ℕ) (lefts : List ℕ) → 0 < left → Each IsSome lefts → Each IsSome (keep kept left lefts)
keep_some true left lefts some rest = (some, rest)
keep_some false left lefts some rest = rest

kept_is : (a b c : Bool) (na nb nc l m n : ℕ) → left_of (span na l a) (span nb m b) (span nc n c) ≡ extent_with (keep a l (keep b m (keep c n [])))
kept_is true true true na nb nc l m n = refl
kept_is true true false na nb nc l m n = refl
kept_is true false true na nb nc l m n = refl
kept_is true false false na nb nc l m n = refl
kept_is false true true na nb nc l m n = refl
kept_is false true false na nb nc l m n = refl
kept_is false false true na nb nc l m n = refl
kept_is false false false na nb nc l m n = refl

-- at most three
abbrev pub IsShort : List ℕ → Type 0
IsShort [] = Unit {0}
IsShort (a ∷ []) = Unit {0}
IsShort (a ∷ b ∷ []) = Unit {0}
IsShort (a ∷ b ∷ c ∷ []) = Unit {0}
IsShort (a ∷ b ∷ c ∷ d ∷ ns) = ⊥

keep_short : (a b c : Bool) (l m n : ℕ) → IsShort (keep a l (keep b m (keep c n [])))
keep_short true true true l m n = tt
keep_short true true false l m n = tt
keep_short true false true l m n = tt
keep_short true false false l m n = tt
keep_short false true true l m n = tt
keep_short false true false l m n = tt
keep_short false false true l m n = tt
keep_short false false false l m n = tt

-- how many places dimensions have
abbrev pub places : Extent → ℕ
places e = max 1 e.first * (max 1 e.second * (max 1 e.third * 1))

pub places_are : (ns : List ℕ) → Each IsSome ns → IsShort ns → places (extent_with ns) ≡ product ns
places_are [] some short = refl
places_are (a ∷ []) some short = let one : max 1 a ≡ a = omega (arith, some.0) in let same = ap (λ m. m * 1) one in omega (arith, same)
places_are (a ∷ b ∷ []) some short =
    let one : max 1 a ≡ a = omega (arith, some.0) in
    let two : max 1 b ≡ b = omega (arith, some.1.0) in
    ap (λ m. m * (max 1 b * 1)) one ∙ ap (λ m. a * (m * 1)) two
places_are (a ∷ b ∷ c ∷ []) some short =
    let one : max 1 a ≡ a = omega (arith, some.0) in
    let two : max 1 b ≡ b = omega (arith, some.1.0) in
    let three : max 1 c ≡ c = omega (arith, some.1.1.0) in
    ap (λ m. m * (max 1 b * (max 1 c * 1))) one ∙ (ap (λ m. a * (m * (max 1 c * 1))) two ∙ ap (λ m. a * (b * (m * 1))) three)
places_are (a ∷ b ∷ c ∷ d ∷ ns) some short = absurd short

pub same_places : (e f : Extent) → same_extent e f ≡ true → places e ≡ places f
same_places e f is =
    let first = and_parts (e.first == f.first) ((e.second == f.second) && (e.third == f.third)) is in
    let later = and_parts (e.second == f.second) (e.third == f.third) first.1 in
    let one = eqb-true e.first f.first first.0 in
    let two = eqb-true e.second f.second later.0 in
    let three = eqb-true e.third f.third later.1 in
    ap (λ m. max 1 m * (max 1 e.second * (max 1 e.third * 1))) one
    ∙ (ap (λ m. max 1 f.first * (max 1 m * (max 1 e.third * 1))) two ∙ ap (λ m. max 1 f.first * (max 1 f.second * (max 1 m * 1))) three)

-- as many as the spans leave
pub same_product : (ws : List ℕ) → Each IsSome ws → IsShort ws → (a b c : Bool) (na nb nc l m n : ℕ) → 0 < l → 0 < m → 0 < n → (a ≡ false → l ≡ 1) → (b ≡ false → m ≡ 1) → (c ≡ false → n ≡ 1)
    → same_extent (extent_with ws) (left_of (span na l a) (span nb m b) (span nc n c)) ≡ true → product ws ≡ l * (m * (n * 1))
same_product ws some short a b c na nb nc l m n one two three alone_a alone_b alone_c is =
    let lefts : List ℕ = keep a l (keep b m (keep c n [])) in
    let same = same_places (extent_with ws) (left_of (span na l a) (span nb m b) (span nc n c)) is in
    let kept = ap places (kept_is a b c na nb nc l m n) in
    let all = places_are lefts (keep_some a l (keep b m (keep c n [])) one (keep_some b m (keep c n []) two (keep_some c n [] three tt))) (keep_short a b c l m n) in
    sym (places_are ws some short) ∙ (same ∙ (kept ∙ (all ∙ (keep_product a l (keep b m (keep c n [])) alone_a
    ∙ (ap (λ k. l * k) (keep_product b m (keep c n []) alone_b) ∙ ap (λ k. l * (m * k)) (keep_product c n [] alone_c))))))

-- what a choice leaves of an array of these sizes for a parameter of those
pub record IsLeft (site : Site) (ws ns : List ℕ) (xs : Subscripts) : Type 0 where
  pub lefts : List ℕ
  pub leave : Leave site ns xs lefts
  pub follow : Follow ns lefts
  pub same : product ws ≡ product lefts

either : (a b c : Bool) → (a || (b || c)) ≡ true → (a ≡ true) ⊎ ((b ≡ true) ⊎ (c ≡ true))
either true b c is = inl refl
either false true c is = inr (inl refl)
either false false true is = inr (inr refl)
either false false false is = absurd (cc)

module _ (ps : List Phrase) (vs : Known) (q : Phrase) (site : Site) (ws : List ℕ) (some : Each IsSome ws) (short : IsShort ws) where
  -- where three spans are known
  leave_is : (xs : Subscripts) (n m k : ℕ) (s : IsSpan ps vs q site n xs) (t u : Span) → first_span ps vs q m (later_subs xs) ≡ Some t → first_span ps vs q k (later_subs (later_subs xs)) ≡ Some u
      → selects ps vs q (extent_with ws) (extent n m k) xs ≡ true → (same_extent (extent_with ws) (left_of (span s.size s.left s.kept) t u) ≡ true) × (follows (span s.size s.left s.kept) t u ≡ true)
  unfolding leave
  leave_is xs n m k s t u second third is =
      let one : Span = span s.size s.left s.kept in
      and_parts (same_extent (extent_with ws) (left_of one t u)) (follows one t u)
      (sym (ap (λ o. leave (extent_with ws) o (first_span ps vs q m (later_subs xs)) (first_span ps vs q k (later_subs (later_subs xs)))) s.chosen
      ∙ (ap (λ o. leave (extent_with ws) (Some one) o (first_span ps vs q k (later_subs (later_subs xs)))) second ∙ ap (λ o. leave (extent_with ws) (Some one) (Some t) o) third)) ∙ is)

  none_left : (xs : Subscripts) → xs ≡ NoSubscripts → first_span ps vs q 0 xs ≡ Some (span 1 1 false)
  unfolding first_span
  none_left xs is = ap (first_span ps vs q 0) is

  -- of one dimension
  one_left : (xs : Subscripts) (n : ℕ) → 0 < n → subscript_count xs ≤ 1 → AreReached ps vs q site (n ∷ []) xs → selects ps vs q (extent_with ws) (extent n 0 0) xs ≡ true → IsLeft site ws (n ∷ []) xs
  one_left xs n inside low reached is =
      let s = span_of ps vs q site n [] xs inside reached in
      let none = none_later xs low in
      let both = leave_is xs n 0 0 s (span 1 1 false) (span 1 1 false) (none_left (later_subs xs) none) (none_left (later_subs (later_subs xs)) (later_none (later_subs xs) none)) is in
      let size = same_product ws some short s.kept false false s.size 1 1 s.left 1 1 s.some (omega arith) (omega arith) s.alone (λ x. refl) (λ x. refl) both.0 in
      record { lefts = s.left ∷ []; leave = leaves_so ps vs q site n [] [] xs inside reached s tt; follow = inl refl; same = (let itself : s.left * (1 * (1 * 1)) ≡ s.left * 1 = refl in size ∙ itself) }

  -- of two
  two_left : (xs : Subscripts) (n m : ℕ) → 0 < n → 0 < m → subscript_count xs ≤ 2 → AreReached ps vs q site (n ∷ m ∷ []) xs → selects ps vs q (extent_with ws) (extent n m 0) xs ≡ true → IsLeft site ws (n ∷ m ∷ []) xs
  two_left xs n m inside inner low reached is =
      let s = span_of ps vs q site n (m ∷ []) xs inside reached in
      let later = later_reached ps vs q site n (m ∷ []) xs reached in
      let t = span_of ps vs q site m [] (later_subs xs) inner later in
      let none = none_later (later_subs xs) (count_later xs 1 low) in
      let both = leave_is xs n m 0 s (span t.size t.left t.kept) (span 1 1 false) t.chosen (none_left (later_subs (later_subs xs)) none) is in
      let size = same_product ws some short s.kept t.kept false s.size t.size 1 s.left t.left 1 s.some t.some (omega arith) s.alone t.alone (λ x. refl) both.0 in
      record {
        lefts = s.left ∷ t.left ∷ [];
        leave = leaves_so ps vs q site n (m ∷ []) (t.left ∷ []) xs inside reached s (leaves_so ps vs q site m [] [] (later_subs xs) inner later t tt);
        follow = by s.left t.left t.size t.same (either _ _ _ both.1);
        same = (let itself : s.left * (t.left * (1 * 1)) ≡ s.left * (t.left * 1) = refl in size ∙ itself);
      }
    where
      by : (l k size : ℕ) → size ≡ m → (((k == size) && true) ≡ true) ⊎ ((((l == 1) && true) ≡ true) ⊎ (((l == 1) && (k == 1)) ≡ true)) → Follow (n ∷ m ∷ []) (l ∷ k ∷ [])
      by l k size same (inl full) = inl (ap (λ x. x ∷ []) (eqb-true k size (and_parts (k == size) true full).0 ∙ same))
      by l k size same (inr (inl single)) = inr (eqb-true l 1 (and_parts (l == 1) true single).0, inl refl)
      by l k size same (inr (inr single)) = inr (eqb-true l 1 (and_parts (l == 1) (k == 1) single).0, inl refl)

  -- of three
  three_left : (xs : Subscripts) (n m k : ℕ) → 0 < n → 0 < m → 0 < k → AreReached ps vs q site (n ∷ m ∷ k ∷ []) xs → selects ps vs q (extent_with ws) (extent n m k) xs ≡ true → IsLeft site ws (n ∷ m ∷ k ∷ []) xs
  three_left xs n m k inside inner innermost reached is =
      let s = span_of ps vs q site n (m ∷ k ∷ []) xs inside reached in
      let later = later_reached ps vs q site n (m ∷ k ∷ []) xs reached in
      let t = span_of ps vs q site m (k ∷ []) (later_subs xs) inner later in
      let last = later_reached ps vs q site m (k ∷ []) (later_subs xs) later in
      let u = span_of ps vs q site k [] (later_subs (later_subs xs)) innermost last in
      let both = leave_is xs n m k s (span t.size t.left t.kept) (span u.size u.left u.kept) t.chosen u.chosen is in
      let size = same_product ws some short s.kept t.kept u.kept s.size t.size u.size s.left t.left u.left s.some t.some u.some s.alone t.alone u.alone both.0 in
      record {
        lefts = s.left ∷ t.left ∷ u.left ∷ [];
        leave = leaves_so ps vs q site n (m ∷ k ∷ []) (t.left ∷ u.left ∷ []) xs inside reached s
            (leaves_so ps vs q site m (k ∷ []) (u.left ∷ []) (later_subs xs) inner later t (leaves_so ps vs q site k [] [] (later_subs (later_subs xs)) innermost last u tt));
        follow = by s.left t.left u.left t.size u.size t.same u.same (either _ _ _ both.1);
        same = size;
      }
    where
      by : (a b c size inmost : ℕ) → size ≡ m → inmost ≡ k → (((b == size) && (c == inmost)) ≡ true) ⊎ ((((a == 1) && (c == inmost)) ≡ true) ⊎ (((a == 1) && (b == 1)) ≡ true)) → Follow (n ∷ m ∷ k ∷ []) (a ∷ b ∷ c ∷ [])
      by a b c size inmost same most (inl full) =
          let both = and_parts (b == size) (c == inmost) full in
          inl (ap (λ x. x ∷ c ∷ []) (eqb-true b size both.0 ∙ same) ∙ ap (λ x. m ∷ x ∷ []) (eqb-true c inmost both.1 ∙ most))
      by a b c size inmost same most (inr (inl single)) =
          let both = and_parts (a == 1) (c == inmost) single in
          inr (eqb-true a 1 both.0, inl (ap (λ x. x ∷ []) (eqb-true c inmost both.1 ∙ most)))
      by a b c size inmost same most (inr (inr single)) =
          let both = and_parts (a == 1) (b == 1) single in
          inr (eqb-true a 1 both.0, inr (eqb-true b 1 both.1, inl refl))

  -- of an array with some
  pub is_left : (xs : Subscripts) (n : ℕ) (ns : List ℕ) → Each IsSome (n ∷ ns) → IsShort (n ∷ ns) → subscript_count xs ≤ suc (length ns) → AreReached ps vs q site (n ∷ ns) xs
      → selects ps vs q (extent_with ws) (extent_with (n ∷ ns)) xs ≡ true → IsLeft site ws (n ∷ ns) xs
  is_left xs n [] inside few low reached is = one_left xs n inside.0 low reached is
  is_left xs n (m ∷ []) inside few low reached is = two_left xs n m inside.0 inside.1.0 low reached is
  is_left xs n (m ∷ k ∷ []) inside few low reached is = three_left xs n m k inside.0 inside.1.0 inside.1.1.0 reached is
  is_left xs n (m ∷ k ∷ l ∷ ns) inside few low reached is = absurd few
