-- The rules of shapes find the part of a structure to which names of parts lead.
use Rattle.std.specs.Prelude.{◌≡◌, ◌≤◌, ◌<◌, ◌==◌, ◌&&◌, ℕ, suc, nat_le, nat_lt, Bool, true, false, List, [], ◌∷◌, ◌++◌, length, Option, Some, None, slice_get, bytes_eq, if◌then◌else◌}
use Rattle.std.specs.Option.{option_and_then}
use Rattle.std.proofs.Common.{refl, sym, ap, subst, ◌∙◌, arith, append-nil, append_assoc}
use Rattle.std.proofs.lemmas.Bool.{eq-eqb, eqb-true, leb-true, ltb-true, ltb-false}
use Rattle.std.proofs.lemmas.Slice.Eq.{bytes_eq-Decides}
use Rattle.hal_grammar.specs.Leaves.{Naming}
use Rattle.hal_grammar.specs.Declarations.{Part}
use Rattle.hal_phrases.specs.declared.around.Around.{Around}
use Rattle.hal_phrases.specs.Phrases.{Node, Phrase, add, phrase, OfPart, OfStructure}
use Rattle.hal_phrases.specs.GatheredExpressions.{below}
use Rattle.hal_phrases.specs.GatheredDeclarations.{OpenPart, gathered_parts, innermost, is_bottom, still_open}
use Rattle.hal_names.specs.declared.key.Key.{Key}
use Rattle.hal_names.specs.declared.key.Space.TheVariants as space
use Rattle.hal_names.specs.Keys.{key, own}
use Rattle.hal_names.specs.Laws.{IsCounted, IsFirst, IsUndeclared}
use Rattle.hal_scope.specs.Rules.{IsSound, rows}
use Rattle.hal_scope.specs.Uses.{is_nil}
use Rattle.hal_kinds.specs.Data.{part_under}
use Rattle.hal_sizes.specs.Parts.{parts_of}
use Rattle.hal_attributes.specs.Levels.{level_fault, may_follow, misleveled}
use Rattle.hal_shapes.specs.Paths.{found, is_named, reached}
use Rattle.hal_shapes.specs.Selections.{part_reached}
use Rattle.hal_fit_calls.specs.Each.{Each}
use Rattle.hal_fit_calls.proofs.Each.{each_append, each_weaker}
use Rattle.hal_fit_rules.specs.Begun.{AreFirst}
use Rattle.hal_fit_rules.proofs.BegunDeclarations.{parts_first}
use Rattle.hal_right_images.proofs.rows.Rules.{among_at}
use Rattle.hal_fit_parts.proofs.Belonging.{OpensFor, Region, is_part, longer, one_longer, region_of}
use Rattle.hal_fit_parts.proofs.Choosing.{around_part, beside, child_inside, none_between, own_there, part_grows, part_there, to_end}
use Rattle.hal_fit_parts.proofs.Leading.{child_at, parts_same, then_some}
use Rattle.hal_fit_parts.proofs.Opening.{each_still, innermost_so, not_open, still_append}
use Rattle.hal_fit_parts.proofs.Standing.{AreStanding}

-- the last of open parts is the innermost one
inner_of : (r : ℕ) (one : OpenPart) (xs ys : List OpenPart) → innermost r (xs ++ (one ∷ ys)) ≡ innermost one.1 ys
unfolding innermost
inner_of r one [] ys = refl
inner_of r one (o ∷ os) ys = inner_of o.1 one os ys

inner_last : (r : ℕ) (one : OpenPart) (xs : List OpenPart) → innermost r (xs ++ (one ∷ [])) ≡ one.1
unfolding innermost
inner_last r one xs = inner_of r one xs []

-- parts of lower levels stay open
lower_stay : (level deeper : ℕ) (os : List OpenPart) → level ≤ deeper → Each (λ (o : OpenPart). o.0 < level) os → still_open deeper os ≡ os
unfolding still_open
lower_stay level deeper [] deep each = refl
lower_stay level deeper (o ∷ os) deep each = by (nat_lt o.0 deeper) refl (lower_stay level deeper os deep each.1) where
  by : (b : Bool) → nat_lt o.0 deeper ≡ b → still_open deeper os ≡ os → (if b then o ∷ still_open deeper os else still_open deeper os) ≡ o ∷ os
  by true less rest = ap (λ xs. o ∷ xs) rest
  by false more rest = absurd (omega (arith, ltb-false o.0 deeper more, each.0, deep))

-- one of a lower level is open beside others
one_open : (level : ℕ) (o : OpenPart) (os : List OpenPart) → nat_lt o.0 level ≡ true → still_open level (o ∷ os) ≡ o ∷ still_open level os
unfolding still_open
one_open level o os less = ap (λ b. if b then o ∷ still_open level os else still_open level os) less

-- deeper ones don't
none_stay : (level : ℕ) (xs : List OpenPart) → Each (λ (o : OpenPart). level ≤ o.0) xs → still_open level xs ≡ []
unfolding still_open
none_stay level [] deep = refl
none_stay level (o ∷ xs) deep = by (nat_lt o.0 level) refl (none_stay level xs deep.1) where
  by : (c : Bool) → nat_lt o.0 level ≡ c → still_open level xs ≡ [] → (if c then o ∷ still_open level xs else still_open level xs) ≡ []
  by true less rest = absurd (omega (arith, ltb-true o.0 level less, deep.0))
  by false far rest = rest

-- what a level that follows another says
pub record LevelsFollow (b : ℕ) (y : Part) (ys : List Part) : Type 0 where
  pub some : 1 ≤ y.level
  pub low : y.level ≤ suc b
  pub rest : level_fault y.level ys ≡ None

pub levels_follow : (b : ℕ) (y : Part) (ys : List Part) → level_fault b (y ∷ ys) ≡ None → LevelsFollow b y ys
unfolding level_fault may_follow
levels_follow b y ys none = by (nat_le 1 y.level) refl (nat_le y.level (suc b)) refl none where
  by : (c : Bool) → nat_le 1 y.level ≡ c → (e : Bool) → nat_le y.level (suc b) ≡ e → (if c && e then level_fault y.level ys else Some y.place) ≡ None → LevelsFollow b y ys
  by true some true low so = record { some = leb-true 1 y.level some; low = leb-true y.level (suc b) low; rest = so }
  by true some false low so = absurd (cc)
  by false some e low so = absurd (cc)

-- a part that is passed, and one that is found
module _ (level : ℕ) (y : Part) (ys : List Part) (n : Naming) (ns : List Naming) (deep : nat_lt y.level level ≡ false) where
  abbrev with_found : Option (Part × List Part) → Option (Part × List Part)
  with_found o = option_and_then (λ (f : Part × List Part). if is_nil ns then Some f else reached (suc f.0.level) f.1 ns) o

  found_by : found level n.name (y ∷ ys) ≡ (if is_named level n.name y then Some (y, ys) else found level n.name ys)
  unfolding found
  found_by = ap (λ b. if b then None else if is_named level n.name y then Some (y, ys) else found level n.name ys) deep

  pub reached_past : is_named level n.name y ≡ false → reached level (y ∷ ys) (n ∷ ns) ≡ reached level ys (n ∷ ns)
  unfolding reached
  reached_past other = ap with_found (found_by ∙ ap (λ b. if b then Some (y, ys) else found level n.name ys) other)

  pub reached_here : is_named level n.name y ≡ true → reached level (y ∷ ys) (n ∷ ns) ≡ (if is_nil ns then Some (y, ys) else reached (suc y.level) ys ns)
  unfolding reached
  reached_here this = ap with_found (found_by ∙ ap (λ b. if b then Some (y, ys) else found level n.name ys) this)

-- the part is found, with those behind it
abbrev pub IsFound : ℕ → List Part → List Naming → Part → Type 0
IsFound level parts path part = (xs : List Part) × (reached level parts path ≡ Some (part, xs))

-- the part at the end of names of parts below what has a number
pub record IsEnd (ps : List Phrase) (m : ℕ) (path : List Naming) (part : Part) : Type 0 where
  pub number : ℕ
  pub leading : part_under ps m path ≡ Some number
  pub phrase : Phrase
  pub there : slice_get ps number ≡ Some phrase
  pub bottom : Bool
  pub is : phrase.node ≡ OfPart bottom part

module _ (ps : List Phrase) (counted : IsCounted ps) (first : (q : Key) (n : ℕ) → own ps q ≡ Some n → IsFirst ps q n) (lacking : (q : Key) → own ps q ≡ None → IsUndeclared ps q) (named : IsSound rows ps) (standing : AreStanding ps)
    (p : Phrase) (name : Naming) (parts_ : List Part) (region : Region ps ps p name parts_) where
  abbrev root : ℕ
  root = length region.before

  abbrev beside_it : Around
  beside_it = beside ps counted first lacking named standing p name parts_ region

  abbrev all : List Phrase
  all = region_of region.before region.around name parts_

  abbrev end : List OpenPart → List Phrase → Part → List Part → List Phrase
  end unclosed d y ys = to_end ps counted first lacking named standing p name parts_ region unclosed d y ys

  begun : (unclosed : List OpenPart) (d : List Phrase) (parts : List Part) → gathered_parts beside_it unclosed d parts ≡ all → AreFirst (gathered_parts beside_it unclosed d parts) ps
  begun unclosed d parts is = subst (λ (xs : List Phrase). AreFirst xs ps) (sym is) region.begun

  -- what stands here as a part of another one
  record StandsHere (m : ℕ) (x : List ℕ) (unclosed : List OpenPart) (y : Part) : Type 0 where
    parent : innermost root (still_open y.level unclosed) ≡ m
    named_ : y.name.name ≡ x

  stands_here : (m c : ℕ) (x : List ℕ) → own ps (key space.Part m x) ≡ Some c → (unclosed : List OpenPart) (d : List Phrase) (y : Part) (ys : List Part) → AreFirst (gathered_parts beside_it unclosed d (y ∷ ys)) ps → length d ≡ c → StandsHere m x unclosed y
  stands_here m c x is unclosed d y ys whole same =
      let so = child_at ps first m x c is in
      let here = part_there ps counted first lacking named standing p name parts_ region unclosed d y ys whole in
      let both : Some so.child ≡ Some (phrase (length d) (around_part ps counted first lacking named standing p name parts_ region unclosed y) (OfPart (is_bottom y.level ys) y)) = sym so.there ∙ (ap (slice_get ps) (sym same) ∙ here) in
      let one : so.child ≡ phrase (length d) (around_part ps counted first lacking named standing p name parts_ region unclosed y) (OfPart (is_bottom y.level ys) y) = cc in
      record {
        parent = sym (ap (λ (r : Phrase). r.around.parent) one) ∙ so.parent;
        named_ = ap (λ (x : Part). x.name.name) (parts_same (phrase (length d) (around_part ps counted first lacking named standing p name parts_ region unclosed y) (OfPart (is_bottom y.level ys) y)) so.child (is_bottom y.level ys) so.bottom y so.part (sym both) refl so.is).1
            ∙ so.named;
      }

  -- a part of another one that stands behind this one, stands behind its end
  stands_past : (m c : ℕ) (x : List ℕ) → own ps (key space.Part m x) ≡ Some c → (unclosed : List OpenPart) (d : List Phrase) (y : Part) (ys : List Part) → AreFirst (gathered_parts beside_it unclosed d (y ∷ ys)) ps → length d < c → length (end unclosed d y ys) ≤ c
  stands_past m c x is unclosed d y ys whole more =
      let so = child_at ps first m x c is in
      none_between ps counted first lacking named standing p name parts_ region unclosed d y ys c so.child so.bottom so.part whole so.there so.is more

  -- parts of what is closed don't follow
  shut : (m c : ℕ) (x : List ℕ) → own ps (key space.Part m x) ≡ Some c → (root ≡ m → ⊥) → (unclosed : List OpenPart) (d : List Phrase) (parts : List Part) → gathered_parts beside_it unclosed d parts ≡ all → m < length d
      → OpensFor (λ n. n ≡ m → ⊥) unclosed parts → length d ≤ c → c < length all → ⊥
  unfolding gathered_parts
  shut m c x is away unclosed d [] whole low opens after high = let size : length d ≡ length all = ap (λ (xs : List Phrase). length xs) whole in absurd (omega (arith, after, high, size))
  shut m c x is away unclosed d (y ∷ ys) whole low opens after high =
      let grows = part_grows ps counted first lacking named standing p name parts_ region unclosed d y ys in
      by (nat_lt (length d) c) refl
      (λ far. shut m c x is away (still_open y.level unclosed ++ ((y.level, length d) ∷ [])) (end unclosed d y ys) ys whole (omega (arith, low, grows))
      (further (still_open y.level unclosed) ys opens) far high)
    where
      further : (os : List OpenPart) (zs : List Part) → Each (λ (o : OpenPart). o.1 ≡ m → ⊥) os → OpensFor (λ n. n ≡ m → ⊥) (os ++ ((y.level, length d) ∷ [])) zs
      further os [] each = tt
      further os (z ∷ zs) each =
          each_still (λ (o : OpenPart). o.1 ≡ m → ⊥) z.level (os ++ ((y.level, length d) ∷ []))
          (each_append (λ (o : OpenPart). o.1 ≡ m → ⊥) os ((y.level, length d) ∷ []) each ((λ same. absurd (omega (arith, same, low))), tt))

      by : (b : Bool) → nat_lt (length d) c ≡ b → (length (end unclosed d y ys) ≤ c → ⊥) → ⊥
      by true more rest = rest (stands_past m c x is unclosed d y ys (begun unclosed d (y ∷ ys) whole) (ltb-true (length d) c more))
      by false near rest =
          let less = ltb-false (length d) c near in
          let here = stands_here m c x is unclosed d y ys (begun unclosed d (y ∷ ys) whole) (omega (arith, less, after)) in
          innermost_so (λ n. n ≡ m → ⊥) root (still_open y.level unclosed) away opens here.parent

  -- the open parts above the parts of one of them, which are of this level
  record AreAbove (level m : ℕ) (os : List OpenPart) (d : List Phrase) : Type 0 where
    lower_ones : Each (λ (o : OpenPart). o.0 < level) os
    before : Each (λ (o : OpenPart). o.1 < length d) os
    inner : innermost root os ≡ m
    start : root < length d
    closed : (k : ℕ) → 1 ≤ k → k < level → Each (λ (o : OpenPart). o.1 ≡ m → ⊥) (still_open k os) × (root ≡ m → ⊥)

  -- the open parts below it, behind a part of another level
  abbrev AreBelow : ℕ → ℕ → ℕ → List OpenPart → Type 0
  AreBelow level m b [] = b < level
  AreBelow level m b (o ∷ os) = (o.0 ≡ level) × ((o.1 ≡ m → ⊥) × (Each (λ (x : OpenPart). x.1 ≡ m → ⊥) os × Each (λ (x : OpenPart). level ≤ x.0) os))

  numbers_apart : (level m b : ℕ) (more : List OpenPart) → AreBelow level m b more → Each (λ (o : OpenPart). o.1 ≡ m → ⊥) more
  numbers_apart level m b [] so = tt
  numbers_apart level m b (o ∷ os) so = (so.1.0, so.1.1.0)

  levels_deep : (level m b : ℕ) (more : List OpenPart) → AreBelow level m b more → Each (λ (o : OpenPart). level ≤ o.0) more
  levels_deep level m b [] so = tt
  levels_deep level m b (o ∷ os) so = ((let same = so.0 in omega (arith, same)), so.1.1.1)

  above_low : (level m : ℕ) (os : List OpenPart) (d : List Phrase) → AreAbove level m os d → m < length d
  above_low level m os d so = subst (λ n. n < length d) so.inner (innermost_so (λ n. n < length d) root os so.start so.before)

  -- they stand before a later part, too
  above_later : (level m : ℕ) (os : List OpenPart) (d e : List Phrase) → length d ≤ length e → AreAbove level m os d → AreAbove level m os e
  above_later level m os d e more so =
      let start = so.start in
      record {
        lower_ones = so.lower_ones;
        before = each_weaker (λ (o : OpenPart). o.1 < length d) (λ (o : OpenPart). o.1 < length e) os so.before (λ o less. omega (arith, less, more));
        inner = so.inner;
        start = omega (arith, start, more);
        closed = so.closed;
      }

  -- above the parts of one more
  above_more : (level m : ℕ) (os : List OpenPart) (d e : List Phrase) → length d < length e → AreAbove level m os d → AreAbove (suc level) (length d) (os ++ ((level, length d) ∷ [])) e
  above_more level m os d e more so =
      let start = so.start in
      record {
        lower_ones = each_append (λ (o : OpenPart). o.0 < suc level) os ((level, length d) ∷ []) (each_weaker (λ (o : OpenPart). o.0 < level) (λ (o : OpenPart). o.0 < suc level) os so.lower_ones (λ o less. omega (arith, less))) (omega arith, tt);
        before = each_append (λ (o : OpenPart). o.1 < length e) os ((level, length d) ∷ []) (each_weaker (λ (o : OpenPart). o.1 < length d) (λ (o : OpenPart). o.1 < length e) os so.before (λ o less. omega (arith, less, more))) (more, tt);
        inner = inner_last root (level, length d) os;
        start = omega (arith, start, more);
        closed = λ k some less. (closed_so k less, λ same. absurd (omega (arith, same, start)));
      } where
        last_shut : (k : ℕ) → k < suc level → nat_lt level k ≡ false
        last_shut k less = by (nat_lt level k) refl where
          by : (b : Bool) → nat_lt level k ≡ b → b ≡ false
          by false is = refl
          by true is = absurd (omega (arith, ltb-true level k is, less))

        closed_so : (k : ℕ) → k < suc level → Each (λ (o : OpenPart). o.1 ≡ length d → ⊥) (still_open k (os ++ ((level, length d) ∷ [])))
        closed_so k less =
            subst (λ (xs : List OpenPart). Each (λ (o : OpenPart). o.1 ≡ length d → ⊥) xs)
            (sym (still_append k os ((level, length d) ∷ []) ∙ (ap (λ xs. still_open k os ++ xs) (not_open k level (length d) (last_shut k less)) ∙ append-nil (still_open k os))))
            (each_still (λ (o : OpenPart). o.1 ≡ length d → ⊥) k os (each_weaker (λ (o : OpenPart). o.1 < length d) (λ (o : OpenPart). o.1 ≡ length d → ⊥) os so.before (λ o low same. absurd (omega (arith, low, same)))))

  -- beside a part of this level only those above stay open
  above_stay : (level m b : ℕ) (os more : List OpenPart) (d : List Phrase) → AreAbove level m os d → AreBelow level m b more → still_open level (os ++ more) ≡ os
  above_stay level m b os more d above beneath =
      still_append level os more ∙ (ap (λ xs. xs ++ still_open level more) (lower_stay level level os (omega arith) above.lower_ones) ∙ (ap (λ xs. os ++ xs) (none_stay level more (levels_deep level m b more beneath)) ∙ append-nil os))

  -- behind a deeper part those above stay open, and the first one below them
  deeper_stay : (level m b k : ℕ) (os rest : List OpenPart) (o : OpenPart) (d : List Phrase) → AreAbove level m os d → AreBelow level m b (o ∷ rest) → level < k → still_open k (os ++ (o ∷ rest)) ≡ os ++ (o ∷ still_open k rest)
  deeper_stay level m b k os rest o d above beneath deep =
      still_append k os (o ∷ rest) ∙ (ap (λ xs. xs ++ still_open k (o ∷ rest)) (lower_stay level k os (omega (arith, deep)) above.lower_ones) ∙ ap (λ xs. os ++ xs) (one_open k o rest open_))
    where
      open_ : nat_lt o.0 k ≡ true
      open_ = by (nat_lt o.0 k) refl where
        by : (c : Bool) → nat_lt o.0 k ≡ c → c ≡ true
        by true is = refl
        by false is = let same = beneath.0 in absurd (omega (arith, ltb-false o.0 k is, same, deep))

  -- above the parts of the structure itself there are none
  at_start : (d : List Phrase) → root < length d → AreAbove 1 root [] d
  unfolding innermost
  at_start d less = record { lower_ones = tt; before = tt; inner = refl; start = less; closed = λ k some low. absurd (omega (arith, some, low)) }

  -- what is looked for
  module _ (path_part : Part) where
    record IsSought (m : ℕ) (n : Naming) (ns : List Naming) (c : ℕ) : Type 0 where
      own_so : own ps (key space.Part m n.name) ≡ Some c
      high : c < length all
      rest : IsEnd ps c ns path_part

    -- the next part to which names lead stands inside, behind the one that has it
    record IsNext (c : ℕ) (n : Naming) (ns : List Naming) : Type 0 where
      next : ℕ
      sought : IsSought c n ns next
      after : c < next

    next_of : (c : ℕ) (n : Naming) (ns : List Naming) → root ≤ c → c < length all → IsEnd ps c (n ∷ ns) path_part → IsNext c n ns
    unfolding part_under
    next_of c n ns low high ended =
        let step = then_some (λ k. part_under ps k ns) (own ps (key space.Part c n.name)) ended.number ended.leading in
        let inside = child_inside ps counted first lacking named standing p name parts_ region c n.name step.0 low high step.1.0 in
        let so = child_at ps first c n.name step.0 step.1.0 in
        let behind = standing.parts so.child (among_at ps step.0 so.child so.there) (ap is_part so.is) in
        let number = counted step.0 so.child so.there in
        let parent = so.parent in
        let before = behind.before in
        record {
          next = step.0;
          sought = record {
            own_so = step.1.0;
            high = inside.1;
            rest = record { number = ended.number; leading = step.1.1; phrase = ended.phrase; there = ended.there; bottom = ended.bottom; is = ended.is };
          };
          after = omega (arith, number, parent, before);
        }

    -- the last one is the part itself
    last_is : (c : ℕ) → IsEnd ps c [] path_part → (unclosed : List OpenPart) (d : List Phrase) (y : Part) (ys : List Part) → AreFirst (gathered_parts beside_it unclosed d (y ∷ ys)) ps → length d ≡ c → y ≡ path_part
    unfolding part_under
    last_is c ended unclosed d y ys whole same =
        let here = part_there ps counted first lacking named standing p name parts_ region unclosed d y ys whole in
        let number : c ≡ ended.number = (let leads = ended.leading in cc) in
        let both : Some (phrase (length d) (around_part ps counted first lacking named standing p name parts_ region unclosed y) (OfPart (is_bottom y.level ys) y)) ≡ Some ended.phrase = sym here ∙ (ap (slice_get ps) (same ∙ number) ∙ ended.there) in
        (parts_same (phrase (length d) (around_part ps counted first lacking named standing p name parts_ region unclosed y) (OfPart (is_bottom y.level ys) y)) ended.phrase (is_bottom y.level ys) ended.bottom y path_part both refl ended.is).1

    found_last : (level : ℕ) (y : Part) (ys : List Part) (n : Naming) → nat_lt y.level level ≡ false → is_named level n.name y ≡ true → y ≡ path_part → IsFound level (y ∷ ys) (n ∷ []) path_part
    unfolding is_nil
    found_last level y ys n deep this same = (ys, reached_here level y ys n [] deep this ∙ ap (λ x. Some (x, ys)) same)

    found_below : (level : ℕ) (y : Part) (ys : List Part) (n next : Naming) (ns : List Naming) → nat_lt y.level level ≡ false → is_named level n.name y ≡ true → IsFound (suc y.level) ys (next ∷ ns) path_part → IsFound level (y ∷ ys) (n ∷ (next ∷ ns)) path_part
    unfolding is_nil
    found_below level y ys n next ns deep this more = (more.0, reached_here level y ys n (next ∷ ns) deep this ∙ more.1)

    found_past : (level : ℕ) (y : Part) (ys : List Part) (n : Naming) (ns : List Naming) → nat_lt y.level level ≡ false → is_named level n.name y ≡ false → IsFound level ys (n ∷ ns) path_part → IsFound level (y ∷ ys) (n ∷ ns) path_part
    found_past level y ys n ns deep other more = (more.0, reached_past level y ys n ns deep other ∙ more.1)

    -- the list from here on is the one that ends where the structure's parts end
    abbrev Ends : List OpenPart → List Phrase → List Part → Type 0
    Ends unclosed d parts = gathered_parts beside_it unclosed d parts ≡ all

    ends_next : (unclosed : List OpenPart) (d : List Phrase) (y : Part) (ys : List Part) → Ends unclosed d (y ∷ ys) → Ends (still_open y.level unclosed ++ ((y.level, length d) ∷ [])) (end unclosed d y ys) ys
    unfolding gathered_parts
    ends_next unclosed d y ys is = is

    -- what comes of a part, where the parts behind it come to that
    module _ (level m b : ℕ) (os more : List OpenPart) (d : List Phrase) (y : Part) (ys : List Part) (n : Naming) (ns : List Naming) (c : ℕ) (above : AreAbove level m os d) (beneath : AreBelow level m b more) (levels : LevelsFollow b y ys)
        (whole : Ends (os ++ more) d (y ∷ ys)) (low : length d ≤ c) (sought : IsSought m n ns c) where
      whole_begun : AreFirst (gathered_parts beside_it (os ++ more) d (y ∷ ys)) ps
      whole_begun = begun (os ++ more) d (y ∷ ys) whole

      grows : length d < length (end (os ++ more) d y ys)
      grows = part_grows ps counted first lacking named standing p name parts_ region (os ++ more) d y ys

      -- behind a part of a lower level there is none
      at_lower : nat_lt y.level level ≡ true → ⊥
      at_lower less =
          let lower_ = ltb-true y.level level less in
          let some = levels.some in
          let shut_so = above.closed y.level some lower_ in
          shut m c n.name sought.own_so shut_so.1 (os ++ more) d (y ∷ ys) whole (above_low level m os d above)
          (subst (λ (xs : List OpenPart). Each (λ (o : OpenPart). o.1 ≡ m → ⊥) xs) (sym (still_append y.level os more))
          (each_append (λ (o : OpenPart). o.1 ≡ m → ⊥) (still_open y.level os) (still_open y.level more) shut_so.0 (each_still (λ (o : OpenPart). o.1 ≡ m → ⊥) y.level more (numbers_apart level m b more beneath)))) low sought.high

      past : (length d ≡ c → ⊥) → length (end (os ++ more) d y ys) ≤ c
      past other = by (nat_lt (length d) c) refl where
        by : (k : Bool) → nat_lt (length d) c ≡ k → length (end (os ++ more) d y ys) ≤ c
        by true far = stands_past m c n.name sought.own_so (os ++ more) d y ys whole_begun (ltb-true (length d) c far)
        by false near = let less = ltb-false (length d) c near in absurd (other (omega (arith, less, low)))

      module _ (level_is : y.level ≡ level) where
        stays : still_open y.level (os ++ more) ≡ os
        stays = ap (λ k. still_open k (os ++ more)) level_is ∙ above_stay level m b os more d above beneath

        ends_beside : Ends (os ++ ((y.level, length d) ∷ [])) (end (os ++ more) d y ys) ys
        ends_beside = subst (λ (xs : List OpenPart). Ends (xs ++ ((y.level, length d) ∷ [])) (end (os ++ more) d y ys) ys) stays (ends_next (os ++ more) d y ys whole)

        -- the part that is looked for
        here : bytes_eq y.name.name n.name ≡ true → length d ≡ c
        here same =
            let mine = own_there ps counted first lacking named standing p name parts_ region (os ++ more) d y ys whole_begun in
            let owner : innermost root (still_open y.level (os ++ more)) ≡ m = ap (innermost root) stays ∙ above.inner in
            let called : y.name.name ≡ n.name = (bytes_eq-Decides y.name.name n.name).0 same in
            let at_m : own ps (key space.Part m n.name) ≡ Some (length d) = ap (λ k. own ps (key space.Part k n.name)) (sym owner) ∙ (ap (λ x. own ps (key space.Part (innermost root (still_open y.level (os ++ more))) x)) (sym called) ∙ mine) in
            let both : Some (length d) ≡ Some c = sym at_m ∙ sought.own_so in
            cc

        -- one of another name
        other_name : bytes_eq y.name.name n.name ≡ false → length d ≡ c → ⊥
        other_name differs same =
            let so = stands_here m c n.name sought.own_so (os ++ more) d y ys whole_begun same in
            let is : bytes_eq y.name.name n.name ≡ true = (bytes_eq-Decides y.name.name n.name).1 so.named_ in
            let no_ : true ≡ false = sym is ∙ differs in
            cc

        beside_below : AreBelow level m y.level ((y.level, length d) ∷ [])
        beside_below = let less = above_low level m os d above in (level_is, ((λ same. absurd (omega (arith, same, less))), (tt, tt)))

      -- a deeper part is one of another part
      module _ (deep : level < y.level) where
        -- of these open parts
        deeper : (o : OpenPart) (rest : List OpenPart) → more ≡ o ∷ rest → AreBelow level m b (o ∷ rest) → (length d ≡ c → ⊥) × Ends (os ++ (o ∷ (still_open y.level rest ++ ((y.level, length d) ∷ [])))) (end (os ++ more) d y ys) ys
        deeper o rest is so =
            let stays_ : still_open y.level (os ++ more) ≡ os ++ (o ∷ still_open y.level rest) = ap (λ xs. still_open y.level (os ++ xs)) is ∙ deeper_stay level m b y.level os rest o d above so deep in (
              λ same.
                  let here_ = stands_here m c n.name sought.own_so (os ++ more) d y ys whole_begun same in
                  let inner : innermost o.1 (still_open y.level rest) ≡ m = sym (ap (innermost root) stays_ ∙ inner_of root o os (still_open y.level rest)) ∙ here_.parent in
                  innermost_so (λ k. k ≡ m → ⊥) o.1 (still_open y.level rest) so.1.0 (each_still (λ (x : OpenPart). x.1 ≡ m → ⊥) y.level rest so.1.1.0) inner,
              subst (λ (xs : List OpenPart). Ends xs (end (os ++ more) d y ys) ys)
                  (ap (λ xs. xs ++ ((y.level, length d) ∷ [])) stays_ ∙ append_assoc os (o ∷ still_open y.level rest) ((y.level, length d) ∷ [])) (ends_next (os ++ more) d y ys whole),
            )

        deeper_below : (o : OpenPart) (rest : List OpenPart) → AreBelow level m b (o ∷ rest) → AreBelow level m y.level (o ∷ (still_open y.level rest ++ ((y.level, length d) ∷ [])))
        deeper_below o rest so =
            let less = above_low level m os d above in (
              so.0,
              (
                so.1.0,
                (
                  each_append (λ (x : OpenPart). x.1 ≡ m → ⊥) (still_open y.level rest) ((y.level, length d) ∷ []) (each_still (λ (x : OpenPart). x.1 ≡ m → ⊥) y.level rest so.1.1.0) ((λ same. absurd (omega (arith, same, less))), tt),
                  each_append (λ (x : OpenPart). level ≤ x.0) (still_open y.level rest) ((y.level, length d) ∷ []) (each_still (λ (x : OpenPart). level ≤ x.0) y.level rest so.1.1.1) (omega (arith, deep), tt),
                ),
              ),
            )

        some_below : AreBelow level m b [] → ⊥
        some_below less = let low_ = levels.low in absurd (omega (arith, less, low_, deep))

    -- the part is found among those behind which it stands
    found_among : (level m b : ℕ) (os more : List OpenPart) (d : List Phrase) (parts : List Part) (n : Naming) (ns : List Naming) (c : ℕ) → AreAbove level m os d → AreBelow level m b more → level_fault b parts ≡ None → Ends (os ++ more) d parts
        → length d ≤ c → IsSought m n ns c → IsFound level parts (n ∷ ns) path_part
    unfolding gathered_parts
    found_among level m b os more d [] n ns c above beneath none whole low sought =
        let high = sought.high in
        let size : length d ≡ length all = ap (λ (xs : List Phrase). length xs) whole in
        absurd (omega (arith, low, high, size))
    found_among level m b os more d (y ∷ ys) n ns c above beneath none whole low sought =
        by_level (nat_lt y.level level) refl (y.level == level) refl (bytes_eq y.name.name n.name) refl
        (λ level_is same. by_names ns level_is same sought.rest
        (λ next rest_ at_next.
        found_among (suc y.level) c y.level (os ++ ((y.level, c) ∷ [])) [] (end (os ++ more) d y ys) ys next rest_ at_next.next (open_above level_is same) (omega arith) levels.rest (open_ends level_is same)
        (stands_past c at_next.next next.name at_next.sought.own_so (os ++ more) d y ys (begun (os ++ more) d (y ∷ ys) whole) (let after = at_next.after in let equal = same_place level_is same in omega (arith, after, equal))) at_next.sought))
        (λ level_is differs. found_among level m y.level os ((y.level, length d) ∷ []) (end (os ++ more) d y ys) ys n ns c (above_later level m os d (end (os ++ more) d y ys) (omega (arith, longer_)) above)
        (beside_below level m b os more d y ys n ns c above beneath levels whole low sought level_is) levels.rest (ends_beside level m b os more d y ys n ns c above beneath levels whole low sought level_is)
        (past level m b os more d y ys n ns c above beneath levels whole low sought (other_name level m b os more d y ys n ns c above beneath levels whole low sought level_is differs)) sought)
        (λ deep. by_more more refl beneath deep
        (λ o rest is so.
        let both = deeper level m b os more d y ys n ns c above beneath levels whole low sought deep o rest is so in
        found_among level m y.level os (o ∷ (still_open y.level rest ++ ((y.level, length d) ∷ []))) (end (os ++ more) d y ys) ys n ns c (above_later level m os d (end (os ++ more) d y ys) (omega (arith, longer_)) above)
        (deeper_below level m b os more d y ys n ns c above beneath levels whole low sought deep o rest so) levels.rest both.1 (past level m b os more d y ys n ns c above beneath levels whole low sought both.0) sought))
      where
        levels : LevelsFollow b y ys
        levels = levels_follow b y ys none

        longer_ : length d < length (end (os ++ more) d y ys)
        longer_ = grows level m b os more d y ys n ns c above beneath levels whole low sought

        same_place : y.level ≡ level → bytes_eq y.name.name n.name ≡ true → length d ≡ c
        same_place level_is same = here level m b os more d y ys n ns c above beneath levels whole low sought level_is same

        named_here : y.level ≡ level → bytes_eq y.name.name n.name ≡ true → is_named level n.name y ≡ true
        named_here level_is same = ap (λ k. (k == level) && bytes_eq y.name.name n.name) level_is ∙ (ap (λ e. e && bytes_eq y.name.name n.name) (eq-eqb level level refl) ∙ same)

        not_lower : y.level ≡ level → nat_lt y.level level ≡ false
        not_lower level_is = by (nat_lt y.level level) refl where
          by : (k : Bool) → nat_lt y.level level ≡ k → k ≡ false
          by false is = refl
          by true is = absurd (omega (arith, ltb-true y.level level is, level_is))

        open_above : y.level ≡ level → bytes_eq y.name.name n.name ≡ true → AreAbove (suc y.level) c (os ++ ((y.level, c) ∷ [])) (end (os ++ more) d y ys)
        open_above level_is same =
            subst (λ k. AreAbove (suc y.level) k (os ++ ((y.level, k) ∷ [])) (end (os ++ more) d y ys)) (same_place level_is same)
            (above_more y.level m os d (end (os ++ more) d y ys) longer_ (subst (λ k. AreAbove k m os d) (sym level_is) above))

        open_ends : y.level ≡ level → bytes_eq y.name.name n.name ≡ true → Ends ((os ++ ((y.level, c) ∷ [])) ++ []) (end (os ++ more) d y ys) ys
        open_ends level_is same =
            subst (λ (xs : List OpenPart). Ends xs (end (os ++ more) d y ys) ys) (ap (λ k. os ++ ((y.level, k) ∷ [])) (same_place level_is same) ∙ sym (append-nil (os ++ ((y.level, c) ∷ []))))
            (ends_beside level m b os more d y ys n ns c above beneath levels whole low sought level_is)

        root_low : root ≤ c
        root_low = let start = above.start in omega (arith, start, low)

        by_names : (rest_ : List Naming) → y.level ≡ level → bytes_eq y.name.name n.name ≡ true → IsEnd ps c rest_ path_part → ((next : Naming) (later : List Naming) → IsNext c next later → IsFound (suc y.level) ys (next ∷ later) path_part)
            → IsFound level (y ∷ ys) (n ∷ rest_) path_part
        by_names [] level_is same ended further = found_last level y ys n (not_lower level_is) (named_here level_is same) (last_is c ended (os ++ more) d y ys (begun (os ++ more) d (y ∷ ys) whole) (same_place level_is same))
        by_names (next ∷ later) level_is same ended further =
            found_below level y ys n next later (not_lower level_is) (named_here level_is same) (further next later (next_of c next later root_low sought.high ended))

        by_more : (xs : List OpenPart) → more ≡ xs → AreBelow level m b xs → level < y.level → ((o : OpenPart) (rest : List OpenPart) → more ≡ o ∷ rest → AreBelow level m b (o ∷ rest) → IsFound level ys (n ∷ ns) path_part) → IsFound level ys (n ∷ ns) path_part
        by_more [] is so deep further = absurd (some_below level m b os more d y ys n ns c above beneath levels whole low sought deep so)
        by_more (o ∷ rest) is so deep further = further o rest is so

        by_level : (lower_ : Bool) → nat_lt y.level level ≡ lower_ → (equal : Bool) → (y.level == level) ≡ equal → (same : Bool) → bytes_eq y.name.name n.name ≡ same
            → (y.level ≡ level → bytes_eq y.name.name n.name ≡ true → IsFound level (y ∷ ys) (n ∷ ns) path_part) → (y.level ≡ level → bytes_eq y.name.name n.name ≡ false → IsFound level ys (n ∷ ns) path_part)
            → (level < y.level → IsFound level ys (n ∷ ns) path_part) → IsFound level (y ∷ ys) (n ∷ ns) path_part
        by_level true less equal e same s this beside_ deep = absurd (at_lower level m b os more d y ys n ns c above beneath levels whole low sought less)
        by_level false more_ true e true s this beside_ deep = this (eqb-true y.level level e) s
        by_level false more_ true e false s this beside_ deep = found_past level y ys n ns more_ (ap (λ k. k && bytes_eq y.name.name n.name) e ∙ s) (beside_ (eqb-true y.level level e) s)
        by_level false more_ false e same s this beside_ deep = found_past level y ys n ns more_ (ap (λ k. k && bytes_eq y.name.name n.name) e) (deep (above_it more_ e)) where
          above_it : nat_lt y.level level ≡ false → (y.level == level) ≡ false → level < y.level
          above_it far apart = by (nat_lt level y.level) refl where
            by : (k : Bool) → nat_lt level y.level ≡ k → level < y.level
            by true is = ltb-true level y.level is
            by false is =
                let one = ltb-false y.level level far in
                let two = ltb-false level y.level is in
                absurd (let other : true ≡ false = sym (eq-eqb y.level level (omega (arith, one, two))) ∙ apart in cc)

    -- from the structure on
    pub path_found : (n : Naming) (ns : List Naming) → level_fault 0 parts_ ≡ None → IsEnd ps root (n ∷ ns) path_part → IsFound 1 parts_ (n ∷ ns) path_part
    path_found n ns levels ended =
        let d : List Phrase = add region.before region.around (OfStructure name parts_) in
        let one_more = one_longer region.before region.around (OfStructure name parts_) in
        let grows_ = longer (parts_first (below region.before region.around) [] d parts_) in
        let next = next_of root n ns (omega arith) (omega (arith, one_more, grows_)) ended in
        let after = next.after in
        found_among 1 root 0 [] [] d parts_ n ns next.next (at_start d (omega (arith, one_more))) (omega arith) levels refl (omega (arith, one_more, after)) next.sought

module _ (ps : List Phrase) (counted : IsCounted ps) (first : (q : Key) (n : ℕ) → own ps q ≡ Some n → IsFirst ps q n) (lacking : (q : Key) → own ps q ≡ None → IsUndeclared ps q) (named : IsSound rows ps) (standing : AreStanding ps) where
  -- a part to which names lead from a structure is found by the rules of shapes
  pub part_found : (k : ℕ) (p : Phrase) (name : Naming) (parts : List Part) (part : Part) (n : Naming) (ns : List Naming) → slice_get ps k ≡ Some p → p.node ≡ OfStructure name parts → misleveled p.node ≡ None → IsEnd ps k (n ∷ ns) part
      → (xs : List Part) × (part_reached p (n ∷ ns) ≡ Some (part, xs))
  unfolding misleveled parts_of
  part_found k p name parts part n ns there is levels ended =
      let region : Region ps ps p name parts = standing.regions p name parts (among_at ps k p there) is in
      let number : k ≡ length region.before = sym (counted k p there) ∙ ap (λ (r : Phrase). r.number) region.is in
      let so = path_found ps counted first lacking named standing p name parts region part n ns (ap misleveled (sym is) ∙ levels) (subst (λ m. IsEnd ps m (n ∷ ns) part) number ended) in
      (so.0, ap (λ (node : Node). option_and_then (λ (xs : List Part). reached 1 xs (n ∷ ns)) (parts_of node)) is ∙ so.1)
