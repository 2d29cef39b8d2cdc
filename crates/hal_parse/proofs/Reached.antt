-- How far the reading of a unit gets, and what reading it gives.
use Rattle.std.proofs.Common.{◌≡◌, ◌≢◌, ◌<◌, ℕ, zero, suc, ◌-◌, ◌||◌, length, Bool, true, false, Option, Some, None, refl, sym, ◌∙◌, ap, arith}
use Rattle.std.specs.Prelude.{if◌then◌else◌}
use Rattle.hal_base.specs.declared.refusal.Place.{Place}
use Rattle.hal_words.specs.declared.reserved.Reserved.TheVariants as reserved
use Rattle.hal_grammar.specs.Leaves.{Naming}
use Rattle.hal_grammar.specs.Statements.{Statement}
use Rattle.hal_grammar.specs.Units.{Head, Block, stands_inside, holds_elements}
use Rattle.hal_grammar.specs.Words.{Words}
use Rattle.hal_parse_expr.specs.Reading.{Read, followed, made_of, or_else, where_true, past}
use Rattle.hal_parse_declarations.specs.ReadingDeclarations.{name_end_at, label_at, declarations_at}
use Rattle.hal_parse_statements.specs.ReadingStatements.{statement_at}
use Rattle.hal_parse_expr.proofs.Shortening.{all_none, all_more}
use Rattle.hal_parse_expr.proofs.Loops.{loop_smaller}
use Rattle.hal_parse.proofs.ReadersShorten.{element_below_shortens}
use Rattle.hal_parse.specs.ReadingFiles.{StatementElement, BlockElement, head_at, head_of, inner_block, element_of, elements_of, block_close, block_behind, block_of, block_at}
use Rattle.hal_parse.specs.Stuck.{where_read, close_stuck, body_stuck, headed_stuck, opened_stuck, block_stuck}
use Rattle.hal_parse.specs.Reaching.{Reach, Behind, StuckAt, reach_of_read, close_reach, held_reach, body_reach, headed_reach, opened_reach, reached, words_of}

some_words : {x y : Words} → Some x ≡ Some y → x ≡ y
some_words e = cc

pub no_unit : (n : ℕ) (outermost : Bool) (words : Words) → n ≡ 0 → reached n outermost words ≡ StuckAt words
unfolding reached
no_unit zero outermost words e = refl
no_unit (suc n) outermost words e = absurd (omega (arith, e))

pub some_unit : (n : ℕ) (outermost : Bool) (words : Words) → n ≢ 0 → reached n outermost words ≡ opened_reach (n - 1) outermost words
unfolding reached
some_unit zero outermost words h = absurd (h refl)
some_unit (suc n) outermost words h = let e : n ≡ suc n - 1 = omega arith in ap (λ k. opened_reach k outermost words) e

-- it gets as far as the definition of being stuck says
close_words : (n : ℕ) (words : Words) → words_of (close_reach words (block_stuck n false words)) ≡ close_stuck (block_stuck n false) true words
unfolding close_reach close_stuck where_read
close_words n words = by (past reserved.Close words)
  where
    ended : (o : Read (Option Naming)) → words_of (where_read o (λ c after. Behind after) (StuckAt words)) ≡ where_read o (λ c after. after) words
    ended None = refl
    ended (Some f) = refl

    by : (o : Read Place) → words_of (where_read o (λ p rest. where_read (name_end_at rest) (λ c after. Behind after) (StuckAt words)) (StuckAt (block_stuck n false words)))
        ≡ where_read o (λ p rest. where_read (name_end_at rest) (λ c after. after) words) (block_stuck n false words)
    by None = refl
    by (Some f) = ended (name_end_at f.1)

bare_words : (inside : Words → Words) (words : Words) → words_of (close_reach words words) ≡ close_stuck inside false words
unfolding close_reach close_stuck where_read
bare_words inside words = by (past reserved.Close words)
  where
    ended : (o : Read (Option Naming)) → words_of (where_read o (λ c after. Behind after) (StuckAt words)) ≡ where_read o (λ c after. after) words
    ended None = refl
    ended (Some f) = refl

    by : (o : Read Place) → words_of (where_read o (λ p rest. where_read (name_end_at rest) (λ c after. Behind after) (StuckAt words)) (StuckAt words))
        ≡ where_read o (λ p rest. where_read (name_end_at rest) (λ c after. after) words) words
    by None = refl
    by (Some f) = ended (name_end_at f.1)

held_words : (n : ℕ) (held : Bool) (words : Words) → words_of (held_reach n held words) ≡ close_stuck (block_stuck n false) held (elements_of n (block_at n) held words).1
unfolding held_reach elements_of
held_words n true words = close_words n (elements_of n (block_at n) true words).1
held_words n false words = bare_words (block_stuck n false) words

body_words : (n : ℕ) (h : Head) (words : Words) → words_of (body_reach n h words) ≡ body_stuck n (block_stuck n false) h words
unfolding body_reach body_stuck
body_words n h words = held_words n (holds_elements h) (declarations_at n words).1

headed_words : (n : ℕ) (outermost : Bool) (words behind : Words) → words_of (headed_reach n outermost words behind) ≡ headed_stuck n outermost (block_stuck n false) words behind
unfolding headed_reach headed_stuck where_read
headed_words n outermost words behind = by (head_at n behind)
  where
    admitted : (b : Bool) (h : Head) (rest : Words) → words_of (if b then body_reach n h rest else StuckAt words) ≡ (if b then body_stuck n (block_stuck n false) h rest else words)
    admitted true h rest = body_words n h rest
    admitted false h rest = refl

    by : (o : Read Head) → words_of (where_read o (λ h rest. if outermost || stands_inside h then body_reach n h rest else StuckAt words) (StuckAt words))
        ≡ where_read o (λ h rest. if outermost || stands_inside h then body_stuck n (block_stuck n false) h rest else words) words
    by None = refl
    by (Some f) = admitted (outermost || stands_inside f.0) f.0 f.1

opened_words : (n : ℕ) (outermost : Bool) (words : Words) → words_of (opened_reach n outermost words) ≡ opened_stuck n outermost (block_stuck n false) words
unfolding opened_reach opened_stuck where_read
opened_words n outermost words = by (label_at words)
  where
    by : (o : Read Naming) → words_of (where_read o (λ x behind. headed_reach n outermost words behind) (StuckAt words)) ≡ where_read o (λ x behind. headed_stuck n outermost (block_stuck n false) words behind) words
    by None = refl
    by (Some f) = headed_words n outermost words f.1

reached_words : (n : ℕ) (outermost : Bool) (words : Words) → words_of (reached n outermost words) ≡ block_stuck n outermost words
unfolding reached block_stuck
reached_words zero outermost words = refl
reached_words (suc n) outermost words = opened_words n outermost words

pub block_behind_is : (n : ℕ) (outermost : Bool) (words rest : Words) → Behind rest ≡ reached n outermost words → rest ≡ block_stuck n outermost words
block_behind_is n outermost words rest e = ap words_of e ∙ reached_words n outermost words

pub block_stuck_is : (n : ℕ) (outermost : Bool) (words rest : Words) → StuckAt rest ≡ reached n outermost words → rest ≡ block_stuck n outermost words
block_stuck_is n outermost words rest e = ap words_of e ∙ reached_words n outermost words

-- the words behind what is read, if it is
rest_of : {X : Type 0} → Read X → Option Words
rest_of None = None
rest_of (Some f) = Some f.1

behind_of : Reach → Option Words
behind_of (Behind words) = Some words
behind_of (StuckAt words) = None

none_behind : {w : Words} → Some w ≡ None → ⊥
none_behind e = absurd (cc)

-- the end of a unit, whose head stands inside or not
closing : (make : Option Naming → Block) (b : Bool) → ((c : Option Naming) → stands_inside (head_of (make c)) ≡ b) → (end stuck words : Words)
    → behind_of (if b then close_reach end stuck else StuckAt words)
    ≡ rest_of (followed (followed (past reserved.Close end) (λ p rest. made_of make (name_end_at rest))) (λ u rest. where_true (stands_inside (head_of u)) (Some (u, rest))))
unfolding behind_of rest_of close_reach where_read followed made_of where_true
closing make b inside end stuck words = by b inside (past reserved.Close end)
  where
    ended : (b : Bool) → ((c : Option Naming) → stands_inside (head_of (make c)) ≡ b) → (o : Read (Option Naming))
        → behind_of (if b then where_read o (λ c after. Behind after) (StuckAt end) else StuckAt words)
        ≡ rest_of (followed (made_of make o) (λ u rest. where_true (stands_inside (head_of u)) (Some (u, rest))))
    ended true inside None = refl
    ended false inside None = refl
    ended true inside (Some f) = rw (inside f.0) refl
    ended false inside (Some f) = rw (inside f.0) refl

    by : (b : Bool) → ((c : Option Naming) → stands_inside (head_of (make c)) ≡ b) → (o : Read Place)
        → behind_of (if b then where_read o (λ p rest. where_read (name_end_at rest) (λ c after. Behind after) (StuckAt end)) (StuckAt stuck) else StuckAt words)
        ≡ rest_of (followed (followed o (λ p rest. made_of make (name_end_at rest))) (λ u rest. where_true (stands_inside (head_of u)) (Some (u, rest))))
    by true inside None = refl
    by false inside None = refl
    by true inside (Some f) = ended true inside (name_end_at f.1)
    by false inside (Some f) = ended false inside (name_end_at f.1)

held_rest : (n : ℕ) (held : Bool) (make : Option Naming → Block) (b : Bool) → ((c : Option Naming) → stands_inside (head_of (make c)) ≡ b) → (behind words : Words)
    → behind_of (if b then held_reach n held behind else StuckAt words)
    ≡ rest_of (followed (followed (past reserved.Close (elements_of n (block_at n) held behind).1) (λ p rest. made_of make (name_end_at rest))) (λ u rest. where_true (stands_inside (head_of u)) (Some (u, rest))))
unfolding held_reach elements_of
held_rest n true make b inside behind words = closing make b inside _ _ words
held_rest n false make b inside behind words = closing make b inside behind behind words

body_rest : (n : ℕ) (x : Naming) (h : Head) (behind words : Words)
    → behind_of (if stands_inside h then body_reach n h behind else StuckAt words)
    ≡ rest_of (followed (block_behind n (block_at n) x h behind) (λ u rest. where_true (stands_inside (head_of u)) (Some (u, rest))))
unfolding body_reach block_behind block_close
body_rest n x h behind words = held_rest n (holds_elements h) _ (stands_inside h) (λ c. refl) (declarations_at n behind).1 words

headed_rest : (n : ℕ) (x : Naming) (words behind : Words)
    → behind_of (headed_reach n false words behind)
    ≡ rest_of (followed (followed (head_at n behind) (λ h after. block_behind n (block_at n) x h after)) (λ u rest. where_true (stands_inside (head_of u)) (Some (u, rest))))
unfolding behind_of rest_of headed_reach where_read followed
headed_rest n x words behind = by (head_at n behind)
  where
    by : (o : Read Head) → behind_of (where_read o (λ h rest. if stands_inside h then body_reach n h rest else StuckAt words) (StuckAt words))
        ≡ rest_of (followed (followed o (λ h after. block_behind n (block_at n) x h after)) (λ u rest. where_true (stands_inside (head_of u)) (Some (u, rest))))
    by None = refl
    by (Some f) = body_rest n x f.0 f.1 words

opened_rest : (n : ℕ) (words : Words) → behind_of (opened_reach n false words) ≡ rest_of (followed (block_of n (block_at n) words) (λ u rest. where_true (stands_inside (head_of u)) (Some (u, rest))))
unfolding behind_of rest_of opened_reach where_read followed block_of
opened_rest n words = by (label_at words)
  where
    by : (o : Read Naming) → behind_of (where_read o (λ x behind. headed_reach n false words behind) (StuckAt words))
        ≡ rest_of (followed (followed o (λ x rest. followed (head_at n rest) (λ h after. block_behind n (block_at n) x h after))) (λ u rest. where_true (stands_inside (head_of u)) (Some (u, rest))))
    by None = refl
    by (Some f) = headed_rest n f.0 words f.1

-- it gets behind a unit that may stand inside, where there is one, and nowhere else
inner_rest : (n : ℕ) (words : Words) → behind_of (reached n false words) ≡ rest_of (inner_block (block_at n) words)
unfolding behind_of rest_of reached inner_block block_at followed
inner_rest zero words = refl
inner_rest (suc n) words = opened_rest n words

pub inner_is : (n : ℕ) (words rest stuck : Words) → Behind rest ≡ reached n false words → Behind rest ≡ reach_of_read (element_of n (block_at n) words) stuck
unfolding behind_of rest_of reach_of_read element_of or_else made_of
inner_is n words rest stuck e = by (inner_block (block_at n) words) (ap behind_of e ∙ inner_rest n words)
  where
    by : (o : Read Block) → Some rest ≡ rest_of o → Behind rest ≡ reach_of_read (or_else (made_of (λ u. BlockElement u) o) (made_of (λ s. StatementElement s) (statement_at n words))) stuck
    by None is = absurd (cc)
    by (Some f) is = ap Behind (some_words is)

pub inner_lacks : (n : ℕ) (words stuck : Words) → StuckAt stuck ≡ reached n false words
    → reach_of_read (statement_at n words) stuck ≡ reach_of_read (element_of n (block_at n) words) (block_stuck n false words)
unfolding behind_of rest_of reach_of_read element_of or_else made_of
inner_lacks n words stuck e = ap (reach_of_read (statement_at n words)) (block_stuck_is n false words stuck e) ∙ by (inner_block (block_at n) words) (ap behind_of e ∙ inner_rest n words)
  where
    read : (s : Words) (o : Read Statement) → reach_of_read o s ≡ reach_of_read (made_of (λ x. StatementElement x) o) s
    read s None = refl
    read s (Some f) = refl

    by : (o : Read Block) → None ≡ rest_of o
        → reach_of_read (statement_at n words) (block_stuck n false words) ≡ reach_of_read (or_else (made_of (λ u. BlockElement u) o) (made_of (λ s. StatementElement s) (statement_at n words))) (block_stuck n false words)
    by None is = read (block_stuck n false words) (statement_at n words)
    by (Some f) is = absurd (cc)

-- what a reader gives where it gets behind a phrase, and where not
stuck_words : {x y : Words} → StuckAt x ≡ StuckAt y → x ≡ y
stuck_words e = ap words_of e

behind_words : {x y : Words} → Behind x ≡ Behind y → x ≡ y
behind_words e = ap words_of e

read_behind : {X : Type 0} (o : Read X) (rest stuck : Words) → Behind rest ≡ reach_of_read o stuck → (x : X) × (o ≡ Some (x, rest))
unfolding reach_of_read behind_of
read_behind None rest stuck e = absurd (none_behind (ap behind_of e))
read_behind (Some f) rest stuck e = (f.0, ap (λ w. Some (f.0, w)) (sym (behind_words e)))

read_stuck : {X : Type 0} (o : Read X) (rest stuck : Words) → StuckAt rest ≡ reach_of_read o stuck → (o ≡ None) × (rest ≡ stuck)
unfolding reach_of_read behind_of
read_stuck None rest stuck e = (refl, stuck_words e)
read_stuck (Some f) rest stuck e = absurd (none_behind (sym (ap behind_of e)))

-- the statements and units of a unit, one by one
pub elements_smaller : (n : ℕ) (words rest stuck : Words) → Behind rest ≡ reach_of_read (element_of n (block_at n) words) stuck → length rest < length words
elements_smaller n words rest stuck e =
    let found = read_behind (element_of n (block_at n) words) rest stuck e in
    loop_smaller (element_of n (block_at n)) (element_below_shortens n) (sym found.1)

pub elements_behind : (n : ℕ) (words rest stuck : Words) → Behind rest ≡ reach_of_read (element_of n (block_at n) words) stuck
    → (elements_of n (block_at n) true rest).1 ≡ (elements_of n (block_at n) true words).1
unfolding elements_of
elements_behind n words rest stuck e =
    let found = read_behind (element_of n (block_at n) words) rest stuck e in
    sym (ap (λ r. r.1) (all_more (element_of n (block_at n)) (element_below_shortens n) words found.0 rest found.1))

pub elements_end : (n : ℕ) (words rest stuck : Words) → StuckAt rest ≡ reach_of_read (element_of n (block_at n) words) stuck → words ≡ (elements_of n (block_at n) true words).1
unfolding elements_of
elements_end n words rest stuck e = sym (ap (λ r. r.1) (all_none (element_of n (block_at n)) words (read_stuck (element_of n (block_at n) words) rest stuck e).0))

pub elements_stuck : (n : ℕ) (words rest stuck : Words) → StuckAt rest ≡ reach_of_read (element_of n (block_at n) words) stuck → rest ≡ stuck
elements_stuck n words rest stuck e = (read_stuck (element_of n (block_at n) words) rest stuck e).1

-- behind the head of a unit, which holds statements and units or not
pub body_held : (n : ℕ) (h : Head) (words behind end stuck : Words) → holds_elements h ≡ true → behind ≡ (declarations_at n words).1 → end ≡ (elements_of n (block_at n) true behind).1
    → stuck ≡ block_stuck n false end → close_reach end stuck ≡ body_reach n h words
unfolding body_reach held_reach
body_held n h words behind end stuck held d e s =
    ap (close_reach end) s ∙ ap (λ w. close_reach w (block_stuck n false w)) (e ∙ ap (λ w. (elements_of n (block_at n) true w).1) d)
    ∙ ap (λ b. held_reach n b (declarations_at n words).1) (sym held)

pub body_bare : (n : ℕ) (h : Head) (words behind : Words) → holds_elements h ≡ false → behind ≡ (declarations_at n words).1 → close_reach behind behind ≡ body_reach n h words
unfolding body_reach held_reach
body_bare n h words behind bare d = ap (λ w. close_reach w w) d ∙ ap (λ b. held_reach n b (declarations_at n words).1) (sym bare)
