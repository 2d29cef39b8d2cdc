-- The spans of homes, phrase by phrase.
use Rattle.std.proofs.Common.{◌≡◌, ◌<◌, ◌≤◌, ◌+◌, ◌-◌, ℕ, Bool, true, false, cond, List, [], ◌∷◌, ◌++◌, length, take, drop, filter, flat_map, get_or, map, Option, Some, None, refl, sym, ◌∙◌, ap, subst, append-nil, arith}
use Rattle.std.specs.Prelude.{if◌then◌else◌, ◌==◌, ◌||◌}
use Rattle.std.proofs.lemmas.List.{take_all, drop_all, take-append-le, drop-append-le, drop-drop, take-append-drop, length-append, length-map, length-take-le, map_more}
use Rattle.std.proofs.lemmas.Bool.{eqb-true, true≢false}
use Rattle.std.proofs.lemmas.List.Elements.{filter-append}
use Rattle.std.proofs.lemmas.List.Folds.{list_any-append}
use Rattle.std.specs.List.{list_any, take-map, drop-map}
use Rattle.hal_phrases.specs.declared.node.Phrase as Rust
use Rattle.hal_phrases.specs.Phrases.{Phrase}
use Rattle.hal_phrases.specs.SeenPhrases.{seen_phrase}
use Rattle.hal_names.specs.declared.spans.Span.{Span}
use Rattle.hal_names.specs.Spans.{is_of, IsSpan, or_nothing, span_of, AreSpans, up_to, IsNoted}

-- no phrases have no spans
pub nothing_noted : AreSpans [] []
nothing_noted = record { finds = λ home. record { before = refl; behind = refl; ordered = omega arith; within = omega arith } }

module _ (ps : List Phrase) (p : Phrase) where
  -- no phrase of a home stands among more phrases
  none_behind : (home : ℕ) (qs : List Phrase) → is_of home p ≡ false → list_any (is_of home) qs ≡ false → list_any (is_of home) (qs ++ (p ∷ [])) ≡ false
  none_behind home qs other none = list_any-append (is_of home) qs (p ∷ []) ∙ (λ t. none t || (other t || false))

  -- a home that the phrase doesn't have
  other_kept : (home : ℕ) (s : Span) → is_of home p ≡ false → IsSpan home ps s → IsSpan home (ps ++ (p ∷ [])) s
  other_kept home s other is = record {
    before = ap (list_any (is_of home)) (take-append-le s.first ps (p ∷ []) (omega (arith, is.ordered, is.within))) ∙ is.before;
    behind = ap (list_any (is_of home)) (drop-append-le s.end ps (p ∷ []) is.within) ∙ none_behind home (drop s.end ps) other is.behind;
    ordered = is.ordered;
    within = omega (arith, is.within, length-append ps (p ∷ []));
  }

  -- the home that it has
  own_noted : (home end : ℕ) (s : Option Span) → end ≡ length ps + 1 → IsSpan home ps (or_nothing s) → IsSpan home (ps ++ (p ∷ [])) (up_to end s)
  own_noted home end None is none = record {
    before = ap (list_any (is_of home)) (ap (λ n. take n (ps ++ (p ∷ []))) (omega (arith, is)) ∙ take-append-le (length ps) ps (p ∷ []) (omega arith) ∙ take_all (length ps) ps (omega arith)) ∙ none.behind;
    behind = ap (list_any (is_of home)) (drop_all end (ps ++ (p ∷ [])) (omega (arith, is, length-append ps (p ∷ []))));
    ordered = omega (arith, is);
    within = omega (arith, is, length-append ps (p ∷ []));
  }
  own_noted home end (Some s) is known = record {
    before = ap (list_any (is_of home)) (take-append-le s.first ps (p ∷ []) (omega (arith, known.ordered, known.within))) ∙ known.before;
    behind = ap (list_any (is_of home)) (drop_all end (ps ++ (p ∷ [])) (omega (arith, is, length-append ps (p ∷ []))));
    ordered = omega (arith, is, known.ordered, known.within);
    within = omega (arith, is, length-append ps (p ∷ []));
  }

  by_home : (old : List (ℕ × Span)) (end q : ℕ) (b : Bool) → p.around.home == q ≡ b → (b ≡ true → p.around.home ≡ q) → end ≡ length ps + 1 → AreSpans old ps
      → IsSpan q (ps ++ (p ∷ [])) (or_nothing (if b then Some (up_to end (span_of old p.around.home)) else span_of old q))
  by_home old end q true is same counted spans =
      subst (λ (home : ℕ). IsSpan home (ps ++ (p ∷ [])) (up_to end (span_of old p.around.home))) (same refl) (own_noted p.around.home end (span_of old p.around.home) counted (spans.finds p.around.home))
  by_home old end q false is same counted spans = other_kept q (or_nothing (span_of old q)) is (spans.finds q)

  -- one more phrase is noted
  pub one_noted : (old new : List (ℕ × Span)) (end : ℕ) → end ≡ length ps + 1 → AreSpans old ps → IsNoted old new end p.around.home → AreSpans new (ps ++ (p ∷ []))
  one_noted old new end counted spans noted = record {
    finds = λ q. subst (λ (s : Option Span). IsSpan q (ps ++ (p ∷ [])) (or_nothing s)) (sym (noted.finds q)) (by_home old end q (p.around.home == q) refl (eqb-true p.around.home q) counted spans);
  }

-- where none has the home, none is kept
none_kept : (home : ℕ) (ps : List Phrase) → list_any (is_of home) ps ≡ false → filter (is_of home) ps ≡ []
none_kept home [] none = refl
none_kept home (p ∷ ps) none = by (is_of home p) none (none_kept home ps)
  where
    by : (b : Bool) → (b || list_any (is_of home) ps) ≡ false → (list_any (is_of home) ps ≡ false → filter (is_of home) ps ≡ []) → cond b (p ∷ filter (is_of home) ps) (filter (is_of home) ps) ≡ []
    by true any rest = absurd (true≢false any)
    by false any rest = rest any

-- the phrases of a span have those of its home
pub spanned : (home : ℕ) (ps : List Phrase) (s : Span) → IsSpan home ps s → filter (is_of home) (take (s.end - s.first) (drop s.first ps)) ≡ filter (is_of home) ps
spanned home ps s is =
    let f : List Phrase → List Phrase = filter (is_of home) in
    let rest : List Phrase = drop s.first ps in
    let shown : List Phrase = take (s.end - s.first) rest in
    let behind : f (drop (s.end - s.first) rest) ≡ [] = ap f (drop-drop (s.end - s.first) s.first ps ∙ ap (λ n. drop n ps) (omega (arith, is.ordered))) ∙ none_kept home (drop s.end ps) is.behind in
    let whole : f rest ≡ f shown =
    ap f (sym (take-append-drop (s.end - s.first) rest)) ∙ filter-append (is_of home) shown (drop (s.end - s.first) rest)
    ∙ ap (λ (l : List Phrase). f shown ++ l) behind ∙ append-nil (f shown) in
    sym (ap f (sym (take-append-drop s.first ps)) ∙ filter-append (is_of home) (take s.first ps) rest ∙ ap (λ (l : List Phrase). l ++ f rest) (none_kept home (take s.first ps) is.before) ∙ whole)

-- one more of the program's phrases is noted
pub next_noted : (old new : List (ℕ × Span)) (xs : List Rust.Phrase) (i end : ℕ) (x : Rust.Phrase) → i < length xs → x ≡ get_or xs i x → end ≡ i + 1
    → AreSpans old (map seen_phrase (take i xs)) → IsNoted old new end x.around.home → AreSpans new (map seen_phrase (take (i + 1) xs))
next_noted old new xs i end x within is counted spans noted =
    let long : length (map seen_phrase (take i xs)) ≡ i = length-map (take i xs) seen_phrase ∙ length-take-le i xs (omega (arith, within)) in
    subst (AreSpans new) (sym (map_more seen_phrase xs i x within ∙ ap (λ (y : Rust.Phrase). map seen_phrase (take i xs) ++ (seen_phrase y ∷ [])) (sym is)))
    (one_noted (map seen_phrase (take i xs)) (seen_phrase x) old new end (omega (arith, counted, long)) spans noted)

-- what comes of phrases one by one, where one of another home adds nothing, comes of those of the home alone
module _ {S : Type 0} (many : S → List Phrase → S) (one : S → Phrase → S) (home : ℕ)
    (next : (s : S) (p : Phrase) (ps : List Phrase) → many s (p ∷ ps) ≡ many (one s p) ps) (other : (s : S) (p : Phrase) → is_of home p ≡ false → one s p ≡ s) where
  kept_alone : (ps : List Phrase) (s : S) → many s (filter (is_of home) ps) ≡ many s ps
  kept_alone [] s = refl
  kept_alone (p ∷ ps) s = by (is_of home p) refl (kept_alone ps)
    where
      by : (b : Bool) → is_of home p ≡ b → ((t : S) → many t (filter (is_of home) ps) ≡ many t ps) → many s (cond b (p ∷ filter (is_of home) ps) (filter (is_of home) ps)) ≡ many s (p ∷ ps)
      by true is rest = next s p (filter (is_of home) ps) ∙ rest (one s p) ∙ sym (next s p ps)
      by false is rest = rest s ∙ ap (λ (t : S). many t ps) (sym (other s p is)) ∙ sym (next s p ps)

  pub of_those_alone : (rs ps : List Phrase) (s : S) → filter (is_of home) rs ≡ filter (is_of home) ps → many s rs ≡ many s ps
  of_those_alone rs ps s same = sym (kept_alone rs s) ∙ ap (many s) same ∙ kept_alone ps s

-- what phrases of a home give is what those of the home alone give
module _ {Y : Type 0} (f : Phrase → List Y) (home : ℕ) where
  given_alone : (ps : List Phrase) → flat_map f (filter (is_of home) ps) ≡ flat_map (λ (p : Phrase). if is_of home p then f p else []) ps
  given_alone [] = refl
  given_alone (p ∷ ps) = by (is_of home p) (given_alone ps)
    where
      by : (b : Bool) → flat_map f (filter (is_of home) ps) ≡ flat_map (λ (q : Phrase). if is_of home q then f q else []) ps → flat_map f (cond b (p ∷ filter (is_of home) ps) (filter (is_of home) ps)) ≡ (if b then f p else []) ++ flat_map (λ (q : Phrase). if is_of home q then f q else []) ps
      by true rest = ap (λ (l : List Y). f p ++ l) rest
      by false rest = rest

  pub given_by_those : (rs ps : List Phrase) → filter (is_of home) rs ≡ filter (is_of home) ps
      → flat_map (λ (p : Phrase). if is_of home p then f p else []) rs ≡ flat_map (λ (p : Phrase). if is_of home p then f p else []) ps
  given_by_those rs ps same = sym (given_alone rs) ∙ ap (flat_map f) same ∙ given_alone ps

-- the same of the program's phrases
pub shown : (home : ℕ) (xs : List Rust.Phrase) (s : Span) → IsSpan home (map seen_phrase xs) s
    → filter (is_of home) (map seen_phrase (take (s.end - s.first) (drop s.first xs))) ≡ filter (is_of home) (map seen_phrase xs)
shown home xs s is =
    ap (filter (is_of home)) (sym (take-map seen_phrase (s.end - s.first) (drop s.first xs)) ∙ ap (take (s.end - s.first)) (sym (drop-map seen_phrase s.first xs)))
    ∙ spanned home (map seen_phrase xs) s is
