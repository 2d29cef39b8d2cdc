-- The units of a set, and their phrases.
use Rattle.std.specs.Prelude.{◌≡◌, ◌⊎◌, ℕ, zero, suc, ◌==◌, Bool, true, false, List, [], ◌∷◌, map, flat_map, find, cond, Some, None, slice_get, if◌then◌else◌}
use Rattle.std.specs.List.{cons_option}
use Rattle.std.proofs.Common.{refl, sym, ap, subst, ◌∙◌, inl, inr}
use Rattle.std.proofs.lemmas.Bool.{eqb-true, eq-eqb}
use Rattle.hal_grammar.specs.Units.{Head, Block, BlockOf, File}
use Rattle.hal_phrases.specs.Phrases.{Node, Phrase, OfUnit}
use Rattle.hal_phrases.specs.GatheredUnits.{phrases_of}
use Rattle.hal_names.specs.Laws.{IsCounted}
use Rattle.hal_scope.specs.Rules.{IsAmong}
use Rattle.hal_meaning.specs.Bodies.{Body, is_unit, units_from, bodies_from}
use Rattle.hal_meaning.specs.Places.{unit_numbers}
use Rattle.hal_meaning.specs.Sets.{set_of, body_at}
use Rattle.hal_right_images.specs.rows.Nested.{head_of}
use Rattle.hal_right_images.proofs.rows.Told.{unit_head, heads_in}
use Rattle.hal_right_images.proofs.rows.ToldUnits.{set_heads}

-- what is found in a list passes the test, and is among its members
pub record Found {X : Type 0} (test : X → Bool) (xs : List X) (x : X) : Type 0 where
  pub among : IsAmong x xs
  pub passes : test x ≡ true

pub found_among : {X : Type 0} (test : X → Bool) (xs : List X) (x : X) → find test xs ≡ Some x → Found test xs x
found_among test [] x is = absurd (cc)
found_among {X} test (y ∷ xs) x is = by (test y) refl is (found_among test xs x) where
  by : (b : Bool) → test y ≡ b → cond b (Some y) (find test xs) ≡ Some x → (find test xs ≡ Some x → Found test xs x) → Found test (y ∷ xs) x
  by true passes same later =
      let one : y ≡ x = cc in
      record { among = inl (sym one); passes = subst (λ z. test z ≡ true) one passes }
  by false isnt same later = let rest = later same in record { among = inr rest.among; passes = rest.passes }

-- and where one passes, one is found
pub one_found : {X : Type 0} (test : X → Bool) (xs : List X) (x : X) → IsAmong x xs → test x ≡ true → (y : X) × (find test xs ≡ Some y)
one_found test [] x within passes = absurd within
one_found {X} test (y ∷ xs) x within passes = by (test y) refl within (λ later. one_found test xs x later passes) where
  by : (b : Bool) → test y ≡ b → (x ≡ y) ⊎ IsAmong x xs → (IsAmong x xs → (z : X) × (find test xs ≡ Some z)) → (z : X) × (cond b (Some y) (find test xs) ≡ Some z)
  by true so one rest = (y, refl)
  by false isnt (inl same) rest = let so = subst (λ z. test z ≡ true) same passes in absurd (cc)
  by false isnt (inr later) rest = rest later

-- a phrase is a unit's, or it has no head of one
unit_split : (node : Node) → ((head : Head) × (unit_head node ≡ Some head) × (is_unit node ≡ true)) ⊎ ((unit_head node ≡ None) × (is_unit node ≡ false))
unit_split (OfUnit name head declarations) = inl (head, refl, refl)
unit_split other = inr (refl, refl)

-- the phrase of a body
pub record BodyOf (qs : List Phrase) (b : Body) : Type 0 where
  pub place : ℕ
  pub phrase : Phrase
  pub there : slice_get qs place ≡ Some phrase
  pub head : unit_head phrase.node ≡ Some b.head
  pub number : phrase.number ≡ b.number

body_later : (q : Phrase) (qs : List Phrase) (b : Body) → BodyOf qs b → BodyOf (q ∷ qs) b
body_later q qs b one = record { place = suc one.place; phrase = one.phrase; there = one.there; head = one.head; number = one.number }

module _ (ps : List Phrase) where
  -- the bodies of units with these heads
  body_first : (q : Phrase) (qs : List Phrase) (head : Head) (bs : List Block) (b : Body) → unit_head q.node ≡ Some head → (head ∷ heads_in qs) ≡ map head_of bs
      → IsAmong b (bodies_from ps (q.number ∷ unit_numbers qs) bs)
      → ((cs : List Block) → heads_in qs ≡ map head_of cs → IsAmong b (bodies_from ps (unit_numbers qs) cs) → BodyOf qs b) → BodyOf (q ∷ qs) b
  body_first q qs head [] b is heads within rest = absurd (cc)
  body_first q qs head (BlockOf name own declarations body close ∷ bs) b is heads (inl same) rest =
      let one : head ≡ own = cc in
      record { place = zero; phrase = q; there = refl; head = is ∙ ap Some (one ∙ sym (ap (λ (x : Body). x.head) same)); number = sym (ap (λ (x : Body). x.number) same) }
  body_first q qs head (BlockOf name own declarations body close ∷ bs) b is heads (inr later) rest = body_later q qs b (rest bs (let more : heads_in qs ≡ map head_of bs = cc in more) later)

  pub body_phrase : (qs : List Phrase) (bs : List Block) (b : Body) → heads_in qs ≡ map head_of bs → IsAmong b (bodies_from ps (unit_numbers qs) bs) → BodyOf qs b
  body_phrase [] bs b heads within = absurd within
  body_phrase (q ∷ qs) bs b heads within = by (unit_split q.node) (λ cs more later. body_phrase qs cs b more later) where
    by : ((head : Head) × (unit_head q.node ≡ Some head) × (is_unit q.node ≡ true)) ⊎ ((unit_head q.node ≡ None) × (is_unit q.node ≡ false))
        → ((cs : List Block) → heads_in qs ≡ map head_of cs → IsAmong b (bodies_from ps (unit_numbers qs) cs) → BodyOf qs b) → BodyOf (q ∷ qs) b
    by (inl one) rest =
        body_first q qs one.0 bs b one.1 (sym (ap (λ o. cons_option o (heads_in qs)) one.1) ∙ heads)
        (subst (λ c. IsAmong b (bodies_from ps (cons_option (if c then Some q.number else None) (unit_numbers qs)) bs)) one.2 within) rest
    by (inr none) rest =
        body_later q qs b (rest bs (sym (ap (λ o. cons_option o (heads_in qs)) none.0) ∙ heads)
        (subst (λ c. IsAmong b (bodies_from ps (cons_option (if c then Some q.number else None) (unit_numbers qs)) bs)) none.1 within))

  -- a unit has a body with its number
  abbrev HasBody : ℕ → List ℕ → List Block → Type 0
  HasBody number ns bs = (b : Body) × IsAmong b (bodies_from ps ns bs) × (b.number ≡ number)

  first_body : (number : ℕ) (ns : List ℕ) (head : Head) (heads : List Head) (bs : List Block) → (head ∷ heads) ≡ map head_of bs → HasBody number (number ∷ ns) bs
  first_body number ns head heads [] is = absurd (cc)
  first_body number ns head heads (BlockOf name own declarations body close ∷ bs) is = (_, inl refl, refl)

  later_body : (number n : ℕ) (ns : List ℕ) (head : Head) (heads : List Head) (bs : List Block) → (head ∷ heads) ≡ map head_of bs → ((cs : List Block) → heads ≡ map head_of cs → HasBody number ns cs) → HasBody number (n ∷ ns) bs
  later_body number n ns head heads [] is rest = absurd (cc)
  later_body number n ns head heads (BlockOf name own declarations body close ∷ bs) is rest =
      let found = rest bs (let more : heads ≡ map head_of bs = cc in more) in
      (found.0, inr found.1, found.2)

  pub has_body : (qs : List Phrase) (bs : List Block) (k : ℕ) (p : Phrase) → heads_in qs ≡ map head_of bs → slice_get qs k ≡ Some p → is_unit p.node ≡ true → HasBody p.number (unit_numbers qs) bs
  has_body [] bs k p heads there is = absurd (cc)
  has_body (q ∷ qs) bs zero p heads there is = by (unit_split q.node) where
    same : q ≡ p
    same = cc

    by : ((head : Head) × (unit_head q.node ≡ Some head) × (is_unit q.node ≡ true)) ⊎ ((unit_head q.node ≡ None) × (is_unit q.node ≡ false)) → HasBody p.number (unit_numbers (q ∷ qs)) bs
    by (inl one) =
        subst (λ c. HasBody p.number (cons_option (if c then Some q.number else None) (unit_numbers qs)) bs) (sym one.2)
        (subst (λ (x : Phrase). HasBody x.number (q.number ∷ unit_numbers qs) bs) same
        (first_body q.number (unit_numbers qs) one.0 (heads_in qs) bs (sym (ap (λ o. cons_option o (heads_in qs)) one.1) ∙ heads)))
    by (inr none) = let isnt = none.1 in let so = subst (λ (x : Phrase). is_unit x.node ≡ true) (sym same) is in absurd (cc)
  has_body (q ∷ qs) bs (suc k) p heads there is = by (unit_split q.node) (λ cs more. has_body qs cs k p more there is) where
    by : ((head : Head) × (unit_head q.node ≡ Some head) × (is_unit q.node ≡ true)) ⊎ ((unit_head q.node ≡ None) × (is_unit q.node ≡ false))
        → ((cs : List Block) → heads_in qs ≡ map head_of cs → HasBody p.number (unit_numbers qs) cs) → HasBody p.number (unit_numbers (q ∷ qs)) bs
    by (inl one) rest =
        subst (λ c. HasBody p.number (cons_option (if c then Some q.number else None) (unit_numbers qs)) bs) (sym one.2)
        (later_body p.number q.number (unit_numbers qs) one.0 (heads_in qs) bs (sym (ap (λ o. cons_option o (heads_in qs)) one.1) ∙ heads) rest)
    by (inr none) rest =
        subst (λ c. HasBody p.number (cons_option (if c then Some q.number else None) (unit_numbers qs)) bs) (sym none.1) (rest bs (sym (ap (λ o. cons_option o (heads_in qs)) none.0) ∙ heads))

-- the phrase of a body of a set of files is at its number
pub record IsBody (files : List File) (unit : ℕ) (b : Body) : Type 0 where
  pub phrase : Phrase
  pub there : slice_get (phrases_of files) unit ≡ Some phrase
  pub head : unit_head phrase.node ≡ Some b.head
  pub number : b.number ≡ unit

pub body_is : (files : List File) → IsCounted (phrases_of files) → (turns unit : ℕ) (b : Body) → body_at (set_of turns files) unit ≡ Some b → IsBody files unit b
body_is files counted turns unit b is =
    let found = found_among (λ (x : Body). x.number == unit) (set_of turns files).bodies b is in
    let one = body_phrase (phrases_of files) (phrases_of files) (flat_map (λ (f : File). units_from f.block) files) b (set_heads files) found.among in
    let number : b.number ≡ unit = eqb-true b.number unit found.passes in
    record {
      phrase = one.phrase;
      there = subst (λ n. slice_get (phrases_of files) n ≡ Some one.phrase) (sym (counted one.place one.phrase one.there) ∙ (one.number ∙ number)) one.there;
      head = one.head;
      number = number;
    }

-- the unit at a phrase has a body with its head
pub record HasUnit (turns : ℕ) (files : List File) (unit : ℕ) (head : Head) : Type 0 where
  pub body : Body
  pub found : body_at (set_of turns files) unit ≡ Some body
  pub among : IsAmong body (set_of turns files).bodies
  pub head_is : body.head ≡ head
  pub number : body.number ≡ unit

pub head_unit : (node : Node) (head : Head) → unit_head node ≡ Some head → is_unit node ≡ true
head_unit (OfUnit name own declarations) head is = refl
head_unit other head is = absurd (cc)

pub unit_has : (files : List File) → IsCounted (phrases_of files) → (turns unit : ℕ) (p : Phrase) (head : Head) → slice_get (phrases_of files) unit ≡ Some p → unit_head p.node ≡ Some head → HasUnit turns files unit head
unit_has files counted turns unit p head there is =
    let one = has_body (phrases_of files) (phrases_of files) (flat_map (λ (f : File). units_from f.block) files) unit p (set_heads files) there (head_unit p.node head is) in
    let number : one.0.number ≡ unit = one.2 ∙ counted unit p there in
    let first = one_found (λ (x : Body). x.number == unit) (set_of turns files).bodies one.0 one.1 (eq-eqb one.0.number unit number) in
    let found = found_among (λ (x : Body). x.number == unit) (set_of turns files).bodies first.0 first.1 in
    let its = body_is files counted turns unit first.0 first.1 in
    let same : its.phrase ≡ p = (let here = its.there in cc) in
    record {
      body = first.0;
      found = first.1;
      among = found.among;
      head_is = (let here : Some first.0.head ≡ Some head = sym its.head ∙ (ap (λ (x : Phrase). unit_head x.node) same ∙ is) in cc);
      number = its.number;
    }
