-- Copies of a structure that TO, AT and `*` choose: as many as the parameter has, which follow each other.
use Rattle.std.specs.Prelude.{◌≡◌, ◌≤◌, ◌<◌, ◌+◌, ◌-◌, ◌*◌, ◌&&◌, ◌||◌, not, ℕ, zero, suc, nat_lt, Bool, true, false, List, [], ◌∷◌, ◌++◌, flat_map, length, map, Option, Some, None, slice_get, unwrap_or}
use Rattle.std.specs.Option.{option_and_then, option_map}
use Rattle.std.proofs.Common.{refl, sym, ap, subst, ◌∙◌, append_assoc, arith}
use Rattle.std.proofs.lemmas.Bool.{eqb-true, ltb-false}
use Rattle.hal_base.specs.declared.refusal.Place.{Place}
use Rattle.hal_grammar.specs.Leaves.{Naming}
use Rattle.hal_grammar.specs.Expressions.{Expression, Refers, Subscript, ByParts, Subscripts, NoSubscripts, MoreSubscripts, Sub, Every, Range, Portion, One as OnePlace}
use Rattle.hal_grammar.specs.Declarations.{Attribute, Declared}
use Rattle.hal_phrases.specs.declared.role.Role.{Role}
use Rattle.hal_phrases.specs.Phrases.{Phrase, OfItem}
use Rattle.hal_names.specs.Laws.{IsCounted}
use Rattle.hal_names.specs.Means.{means}
use Rattle.hal_scope.specs.Rules.{IsAmong, IsSound, rows}
use Rattle.hal_scope.specs.Sorts.{type_of}
use Rattle.hal_kinds.specs.declared.data.Data.{Data}
use Rattle.hal_kinds.specs.Subscripts.{choice_of, chosen, is_arrayed, is_many, is_miscounted, parts_chosen, subscript_count}
use Rattle.hal_values.specs.declared.value.Value.{Value}
use Rattle.hal_constants.specs.declared.constant.Constant.TheVariants as constant
use Rattle.hal_constants.specs.Constants as constants
use Rattle.hal_constants.specs.Constants.{constant_of}
use Rattle.hal_constants.specs.Known.{Known, known}
use Rattle.hal_sizes.specs.Sizes.{copies_by, copies_of, size_in}
use Rattle.hal_shapes.specs.declared.reach.Reach.TheVariants as reach
use Rattle.hal_shapes.specs.Reaches.{reach_of}
use Rattle.hal_shapes.specs.Selections as selections
use Rattle.hal_shapes.specs.Selections.{copies_at, copies_left, copy_subs}
use Rattle.hal_shapes.specs.Shapes.{may_count}
use Rattle.hal_types.specs.Rules.{type_rows}
use Rattle.hal_code.specs.Memory.{offsets}
use Rattle.hal_meaning.specs.Elements.{Component, Shape, copy_size, kinds_of, kinds_of_component, offset, size_given, times}
use Rattle.hal_meaning.specs.Expressions as meaning
use Rattle.hal_meaning.specs.Variables.{Dimension, dimension, dimensions_of}
use Rattle.hal_agreement.specs.PlacedExpressions.{single_dimensions}
use Rattle.hal_agreement.specs.Sites.{Site}
use Rattle.hal_gen_expr.specs.Constants as code
use Rattle.hal_gen_expr.specs.Led.{Led, rows_left, skips_led, sizes_led}
use Rattle.hal_gen_expr.specs.Numbering.{row_of}
use Rattle.hal_gen_expr.specs.Spans.{elements_behind, places_skipped, skips}
use Rattle.hal_fit_names.specs.Suited.{HasFitLiterals, AreDeclared}
use Rattle.hal_right_images.proofs.rows.Lying.{get_behind, get_first}
use Rattle.hal_right_images.proofs.views.Choosing.{copy_long, only_first}
use Rattle.hal_right_images.specs.areas.Reached.{AreReached, IsReached}
use Rattle.hal_right_images.specs.areas.Said.{SaysReference}
use Rattle.hal_right_images.proofs.areas.Ranges.{IsLow, copies_reached}
use Rattle.hal_right_images.proofs.areas.Standing.{Stands}
use Rattle.hal_right_images.proofs.areas.Structures.{none_before, single_none}

-- so many copies, and those behind them
copies_split : {X : Type 0} (a b n : ℕ) (xs : List X) → n ≡ a + b → times n xs ≡ times a xs ++ times b xs
copies_split zero b n xs is = let same : n ≡ b = omega (arith, is) in ap (λ m. times m xs) same
copies_split (suc a) b zero xs is = absurd (omega (arith, is))
copies_split (suc a) b (suc n) xs is = ap (λ ys. xs ++ ys) (copies_split a b n xs (omega (arith, is))) ∙ sym (append_assoc xs (times a xs) (times b xs))

-- the first copies stand among all
first_copies : {X : Type 0} (n left j : ℕ) (xs : List X) (x : X) → left ≤ n → slice_get (times left xs) j ≡ Some x → slice_get (times n xs) j ≡ Some x
first_copies n left j xs x low at =
    let rest = n - left in
    ap (λ ys. slice_get ys j) (copies_split left rest n xs (omega (arith, low))) ∙ get_first (times left xs) (times rest xs) j x at

-- so do those behind some
pub copies_there : {X : Type 0} (n before left j : ℕ) (xs : List X) (x : X) → before + left ≤ n → slice_get (times left xs) j ≡ Some x → slice_get (times n xs) (before * length xs + j) ≡ Some x
copies_there n zero left j xs x low at = let same : zero * length xs + j ≡ j = omega arith in ap (slice_get (times n xs)) same ∙ first_copies n left j xs x (omega (arith, low)) at
copies_there zero (suc before) left j xs x low at = absurd (omega (arith, low))
copies_there (suc n) (suc before) left j xs x low at =
    let same : suc before * length xs + j ≡ length xs + (before * length xs + j) = omega arith in
    ap (slice_get (xs ++ times n xs)) same ∙ (get_behind xs (times n xs) (before * length xs + j) ∙ copies_there n before left j xs x (omega (arith, low)) at)

-- elements before a place
behind_is : (stride : ℕ) (o : Option ℕ) → elements_behind stride o ≡ unwrap_or o 0 * stride
behind_is stride None = omega arith
behind_is stride (Some n) = refl

-- no dimension has a number where several places are chosen
several_rows : (d : Dimension) (sub : Sub) → is_many sub ≡ true → single_dimensions (d ∷ []) (MoreSubscripts sub NoSubscripts) ≡ []
unfolding is_many
several_rows d (Every there) many = refl
several_rows d (Range first last) many = refl
several_rows d (Portion count first) many = refl
several_rows d (OnePlace one) many = absurd (cc)

-- of one dimension several places are reached
reached_of : (ps : List Phrase) (vs : Known) (q : Phrase) (site : Site) (n : ℕ) (sub : Sub) → is_many sub ≡ true → AreReached ps vs q site (n ∷ []) (MoreSubscripts sub NoSubscripts) → IsReached ps vs q site n sub
unfolding is_many
reached_of ps vs q site n (Every there) many reached = reached.0
reached_of ps vs q site n (Range first last) many reached = reached.0
reached_of ps vs q site n (Portion count first) many reached = reached.0
reached_of ps vs q site n (OnePlace one) many reached = absurd (cc)

-- several copies begin behind those that code skips
pub several_begin : (site : Site) (l : Led) (n : ℕ) (there : Place) (sub : Sub) (o : ℕ) → is_many sub ≡ true → l.shape.copies ≡ Some n → IsAmong o (offsets (map row_of (rows_left (ByParts there (MoreSubscripts sub NoSubscripts) NoSubscripts NoSubscripts) l)))
    → (skips_led site (ByParts there (MoreSubscripts sub NoSubscripts) NoSubscripts NoSubscripts) l + offset l.path l.shape.components) + o
    ≡ unwrap_or (places_skipped site n sub) 0 * length (flat_map kinds_of_component l.shape.components) + offset l.path l.shape.components
unfolding constants.is_none
several_begin site l n there sub o many counted among =
    let cs = l.shape.components in
    let size = copy_size cs in
    let xs = MoreSubscripts sub NoSubscripts in
    let d : Dimension = dimension n size in
    let copies : meaning.copies_of l.shape ≡ d ∷ [] = ap (λ (c : Option ℕ). elim c [ None ↦ [] | Some m ↦ dimension m size ∷ [] ]) counted in
    let no_rows : single_dimensions (meaning.copies_of l.shape) xs ++ single_dimensions (dimensions_of (sizes_led l)) NoSubscripts ≡ [] =
    ap (λ ds. single_dimensions ds xs ++ single_dimensions (dimensions_of (sizes_led l)) NoSubscripts) copies
    ∙ (ap (λ ds. ds ++ single_dimensions (dimensions_of (sizes_led l)) NoSubscripts) (several_rows d sub many) ∙ single_none (dimensions_of (sizes_led l))) in
    let none : o ≡ 0 = only_first o (subst (λ ds. IsAmong o (offsets (map row_of ds))) no_rows among) in
    let before : ℕ = unwrap_or (places_skipped site n sub) 0 in
    let skipped : skips site xs (meaning.copies_of l.shape) ≡ before * size + 0 = ap (skips site xs) copies ∙ ap (λ m. m + 0) (behind_is size (places_skipped site n sub)) in
    let long = ap (λ m. before * m) (copy_long cs) in
    omega (arith, none, skipped, long)

-- they stand behind each other
pub several_stands : (site : Site) (l : Led) (n left : ℕ) (there : Place) (sub : Sub) (shape : Shape) → is_many sub ≡ true → l.path ≡ [] → l.shape.copies ≡ Some n → unwrap_or (places_skipped site n sub) 0 + left ≤ n
    → kinds_of shape ≡ times left (flat_map kinds_of_component l.shape.components) → Stands site l (ByParts there (MoreSubscripts sub NoSubscripts) NoSubscripts NoSubscripts) (kinds_of shape)
several_stands site l n left there sub shape many path counted low same o among j k at =
    let cs = l.shape.components in
    let ks = flat_map kinds_of_component cs in
    let first : offset l.path cs ≡ 0 = ap (λ p. offset p cs) path ∙ none_before cs in
    let before : ℕ = unwrap_or (places_skipped site n sub) 0 in
    let begin = several_begin site l n there sub o many counted among in
    let place : before * length ks + j ≡ ((skips_led site (ByParts there (MoreSubscripts sub NoSubscripts) NoSubscripts NoSubscripts) l + offset l.path cs) + o) + j = omega (arith, begin, first) in
    let found : slice_get (times n ks) (before * length ks + j) ≡ Some k = copies_there n before left j ks k low (ap (λ zs. slice_get zs j) (sym same) ∙ at) in
    let all : kinds_of l.shape ≡ times n ks = ap (λ (c : Option ℕ). times (unwrap_or c 1) ks) counted in
    subst (λ m. slice_get (kinds_of l.shape) m ≡ Some k) place (ap (λ zs. slice_get zs (before * length ks + j)) all ∙ found)

-- without subscripts all copies are left
pub whole_copies_left : (ps : List Phrase) (vs : Known) (q : Phrase) (there : Place) (o : Option ℕ) → option_and_then (λ n. copies_left ps vs q n (copy_subs (ByParts there NoSubscripts NoSubscripts NoSubscripts))) o ≡ o
unfolding copy_subs copies_left
whole_copies_left ps vs q there None = refl
whole_copies_left ps vs q there (Some n) = refl

-- they begin where the first one does
pub whole_copies_begin : (site : Site) (l : Led) (there : Place) (o : ℕ) → IsAmong o (offsets (map row_of (rows_left (ByParts there NoSubscripts NoSubscripts NoSubscripts) l)))
    → (skips_led site (ByParts there NoSubscripts NoSubscripts NoSubscripts) l + offset l.path l.shape.components) + o ≡ offset l.path l.shape.components
unfolding constants.is_none
whole_copies_begin site l there o among =
    let no_rows : single_dimensions (meaning.copies_of l.shape) NoSubscripts ++ single_dimensions (dimensions_of (sizes_led l)) NoSubscripts ≡ [] =
    ap (λ ds. ds ++ single_dimensions (dimensions_of (sizes_led l)) NoSubscripts) (single_none (meaning.copies_of l.shape)) ∙ single_none (dimensions_of (sizes_led l)) in
    let none : o ≡ 0 = only_first o (subst (λ ds. IsAmong o (offsets (map row_of ds))) no_rows among) in
    omega (arith, none)

-- they stand there
pub whole_copies_stand : (site : Site) (l : Led) (there : Place) (shape : Shape) → l.path ≡ [] → kinds_of l.shape ≡ kinds_of shape → Stands site l (ByParts there NoSubscripts NoSubscripts NoSubscripts) (kinds_of shape)
whole_copies_stand site l there shape path same o among j k at =
    let first : offset l.path l.shape.components ≡ 0 = ap (λ p. offset p l.shape.components) path ∙ none_before l.shape.components in
    let begin = whole_copies_begin site l there o among in
    let place : j ≡ ((skips_led site (ByParts there NoSubscripts NoSubscripts NoSubscripts) l + offset l.path l.shape.components) + o) + j = omega (arith, first, begin) in
    subst (λ m. slice_get (kinds_of l.shape) m ≡ Some k) place (ap (λ ks. slice_get ks j) same ∙ at)

-- so many copies are left where several are chosen
pub several_left : (ps : List Phrase) (vs : Known) (q : Phrase) (there : Place) (sub : Sub) (o : Option ℕ) (n left : ℕ) → o ≡ Some n → reach_of ps vs q n sub ≡ reach.Many left
    → option_and_then (λ m. copies_left ps vs q m (copy_subs (ByParts there (MoreSubscripts sub NoSubscripts) NoSubscripts NoSubscripts))) o ≡ Some left
unfolding copy_subs copies_left selections.copies_by
several_left ps vs q there sub o n left is many =
    ap (option_and_then (λ m. copies_left ps vs q m (copy_subs (ByParts there (MoreSubscripts sub NoSubscripts) NoSubscripts NoSubscripts)))) is ∙ ap selections.copies_by many

-- a parameter for some copies has as many
pub copies_for : (ps : List Phrase) (vs : Known) (r : Phrase) (cs : List Component) (left : ℕ) (other : Option Expression) → 0 < left
    → ((t : Expression) → other ≡ Some t → size_in ps vs r t ≡ Some (size_given ps vs r t)) → may_count (Some left) (copies_by ps vs r other) ≡ true
    → kinds_of (record { copies = option_map (size_given ps vs r) other; components = cs }) ≡ times left (flat_map kinds_of_component cs)
unfolding may_count copies_by
copies_for ps vs r cs left None some second equal = absurd (let none = eqb-true left 0 equal in omega (arith, none, some))
copies_for ps vs r cs left (Some t) some second equal =
    let so = sym (ap (may_count (Some left)) (second t refl)) ∙ equal in
    ap (λ n. times n (flat_map kinds_of_component cs)) (sym (eqb-true left (size_given ps vs r t) so))

-- copies are chosen by no more than one subscript, and only where there are some
first_false : (a b : Bool) → (a || b) ≡ false → a ≡ false
first_false true b is = is
first_false false b is = refl

no_more : (xs : Subscripts) → subscript_count xs ≡ 0 → xs ≡ NoSubscripts
unfolding subscript_count
no_more NoSubscripts none = refl
no_more (MoreSubscripts x xs) none = absurd (omega (arith, none))

alone_by : (n : ℕ) (a b copied : Bool) → nat_lt 0 (suc n) ≡ a → nat_lt 1 (suc n) ≡ b → (a && (not copied || b)) ≡ false → (n ≡ 0) × (copied ≡ true)
alone_by n true false true some one right = (let low = ltb-false 1 (suc n) one in omega (arith, low), refl)
alone_by n true true true some one right = absurd (cc)
alone_by n true b false some one right = absurd (cc)
alone_by n false b copied some one right = absurd (let low = ltb-false 0 (suc n) some in omega (arith, low))

alone : (x : Sub) (xs : Subscripts) (copied : Bool) → (nat_lt 0 (subscript_count (MoreSubscripts x xs)) && (not copied || nat_lt 1 (subscript_count (MoreSubscripts x xs)))) ≡ false → (xs ≡ NoSubscripts) × (copied ≡ true)
unfolding subscript_count
alone x xs copied right =
    let both = alone_by (subscript_count xs) (nat_lt 0 (suc (subscript_count xs))) (nat_lt 1 (suc (subscript_count xs))) copied refl refl right in
    (no_more xs both.0, both.1)

-- rule 707 of a structure
pub alone_in : (d : Data) (there : Place) (x : Sub) (xs : Subscripts) → is_miscounted d (chosen d (ByParts there (MoreSubscripts x xs) NoSubscripts NoSubscripts)) ≡ false → (xs ≡ NoSubscripts) × (d.copies ≡ true)
unfolding choice_of parts_chosen subscript_count
alone_in d there x xs right = by (is_arrayed d) right where
  by : (b : Bool) → is_miscounted d (choice_of b (ByParts there (MoreSubscripts x xs) NoSubscripts NoSubscripts)) ≡ false → (xs ≡ NoSubscripts) × (d.copies ≡ true)
  by true so = alone x xs d.copies (first_false _ _ so)
  by false so = alone x xs d.copies (first_false _ _ so)

module _ (ps : List Phrase) (named : IsSound rows ps) (typed : IsSound type_rows ps) (counted : IsCounted ps) (declared : AreDeclared ps) (literals : HasFitLiterals ps) (q : Phrase) (role_ : Role) (place : Place) (name : List ℕ) (subscript : Subscript) where
  -- the copies that a subscript chooses are reached
  pub several_reached : {path : List Naming} → SaysReference ps q role_ (Refers place name path subscript) → (site : Site) → ((t : Expression) (v : Value) → constant_of ps (known ps) q t ≡ constant.Worth v → code.value_of site t ≡ Some v) → (k : ℕ) → means ps q.around.block name ≡ Some k → (p : Phrase) → slice_get ps k ≡ Some p
      → (common : List Attribute) (item : Declared) → p.node ≡ OfItem common item → (n : ℕ) → copies_of ps (known ps) p (type_of common item) ≡ Some n → 0 < n → IsLow n
      → (at : Place) (sub : Sub) → is_many sub ≡ true → subscript ≡ ByParts at (MoreSubscripts sub NoSubscripts) NoSubscripts NoSubscripts → IsReached ps (known ps) q site n sub
  unfolding copies_at copy_subs
  several_reached {path} says site worth k meant p there common item node n copies some low at sub many is =
      let copies_so : copies_at ps (known ps) p p.node ≡ Some n = ap (copies_at ps (known ps) p) node ∙ copies in
      reached_of ps (known ps) q site n sub many
      (subst (λ x. AreReached ps (known ps) q site (n ∷ []) (copy_subs x)) is (copies_reached ps named typed counted declared literals q role_ place name path subscript says site worth k meant p there n copies_so some low))
