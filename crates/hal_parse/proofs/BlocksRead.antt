-- Units: what is read is spelled, and what is spelled is read.
use Rattle.std.proofs.Common.{◌≡◌, ◌≢◌, ℕ, zero, suc, ◌<◌, ◌≤◌, List, [], ◌∷◌, length, Option, Some, Bool, true, false, refl, ap, ◌∙◌, arith}
use Rattle.hal_base.specs.declared.refusal.Place.{Place}
use Rattle.hal_words.specs.declared.reserved.Reserved.{Reserved}
use Rattle.hal_words.specs.declared.reserved.Reserved.TheVariants as reserved
use Rattle.hal_grammar.specs.Leaves.{Naming, naming, most}
use Rattle.hal_grammar.specs.Declarations.{Declaration, nesting_of_declaration}
use Rattle.hal_grammar.specs.Statements.{Statement, nesting_of_statement}
use Rattle.hal_grammar.specs.Units.{Head, Block, BlockOf, Elements, NoElements, StatementFirst, BlockFirst, stands_inside, holds_elements, nesting_of_block, nesting_of_elements}
use Rattle.hal_grammar.specs.Words.{Words, reserved_then, BeginsReserved, begins}
use Rattle.hal_grammar.specs.SpellsDeclarations.{SpellsNameEnd, SpellsDeclarations}
use Rattle.hal_grammar.specs.SpellsStatements.{SpellsStatement}
use Rattle.hal_grammar.specs.SpellsFiles.{SpellsBlock, block, SpellsElements, closed, statement_first, block_first}
use Rattle.hal_grammar.proofs.OneFile.{statement_apart}
use Rattle.hal_grammar.proofs.OneStatement.{reserved_starts, starts, IsStart, statement_starts}
use Rattle.hal_grammar.proofs.ShorterStatements.{statement_shorter}
use Rattle.hal_grammar.proofs.ShorterFiles.{block_shorter}
use Rattle.hal_parse_expr.specs.Reading.{Reader, followed, made_of, where_true, past, all}
use Rattle.hal_parse_expr.proofs.Shortening.{Shortens, all_none}
use Rattle.hal_parse_declarations.specs.ReadingDeclarations.{name_end_at}
use Rattle.hal_parse.specs.ReadingFiles.{Element, StatementElement, BlockElement, elements, head_of, inner_block, element_of, elements_of, block_close, block_behind, block_of, block_at}
use Rattle.hal_parse_expr.proofs.Readings.{Holds, holds_none, holds, weaker_holds}
use Rattle.hal_parse_expr.proofs.Combining.{followed_holds, made_holds, or_holds}
use Rattle.hal_parse_declarations.proofs.Decided.{nothing_read}
use Rattle.hal_parse_declarations.proofs.Firsts.{past_gives}
use Rattle.hal_parse_expr.proofs.Equations.{made_equals, made_none}
use Rattle.hal_parse_declarations.proofs.Becomes.{followed_is, either_not, either_is, past_is}
use Rattle.hal_parse_declarations.proofs.Chains.{Chain, chain_end, chain_more, all_chain, shortens, all_first}
use Rattle.hal_parse_declarations.proofs.LeavesRead.{name_end_gives, name_end_is}
use Rattle.hal_parse_declarations.proofs.DeclarationsRead.{SpellsLabel, one_label, label_gives, label_is, DeclarationOf, declarations_chain, declarations_spelled, declarations_are}
use Rattle.hal_parse_statements.proofs.StatementsRead.{statement_gives, statement_is}
use Rattle.hal_parse.proofs.HeadsRead.{HeadOf, head_gives, head_is}

-- a unit that is nested so deep at most
abbrev pub BlockWithin : ℕ → Block → Words → Words → Type 0
BlockWithin n u b a = SpellsBlock u b a × (nesting_of_block u ≤ n)

-- units are read exactly
pub record Blocks (n : ℕ) (read : Reader Block) : Type 0 where
  pub sound : (words : Words) → Holds (λ u rest. BlockWithin n u words rest) (read words)
  pub full : (u : Block) (b a : Words) → BlockWithin n u b a → read b ≡ Some (u, a)

-- what stands in a unit, nested so deep at most
data ElementOf (n : ℕ) : Element → Words → Words → Type 0 where
  statement_element : {s : Statement} {b a : Words} → SpellsStatement s b a → nesting_of_statement s ≤ n → ElementOf n (StatementElement s) b a
  block_element : {u : Block} {b a : Words} → SpellsBlock u b a → nesting_of_block u ≤ n → stands_inside (head_of u) ≡ true → ElementOf n (BlockElement u) b a

where_gives : {X : Type 0} {P : X → Words → Type 0} (x : X) (rest : Words) (b : Bool) → (b ≡ true → P x rest) → Holds P (where_true b (Some (x, rest)))
unfolding where_true
where_gives x rest true f = holds (f refl)
where_gives x rest false f = holds_none

-- a unit that may stand inside another one
data InnerOf (n : ℕ) (u : Block) (b a : Words) : Type 0 where
  inner_of : SpellsBlock u b a → nesting_of_block u ≤ n → stands_inside (head_of u) ≡ true → InnerOf n u b a

inner_gives : {n : ℕ} {read : Reader Block} → Blocks n read → (words : Words) → Holds (λ u rest. InnerOf n u words rest) (inner_block read words)
unfolding inner_block
inner_gives bs words = followed_holds (bs.sound words) (λ u rest d. where_gives u rest (stands_inside (head_of u)) (λ e. inner_of d.0 d.1 e))

inner_element : {n : ℕ} {u : Block} {b a : Words} → InnerOf n u b a → ElementOf n (BlockElement u) b a
inner_element (inner_of d l e) = block_element d l e

element_gives : {n : ℕ} {read : Reader Block} → Blocks n read → (words : Words) → Holds (λ x rest. ElementOf n x words rest) (element_of n read words)
unfolding element_of
element_gives {n = n} bs words =
    or_holds (made_holds _ (inner_gives bs words) (λ u rest d. inner_element d)) (made_holds _ (statement_gives n words) (λ s rest d. statement_element d.0 d.1))

block_first_of : {u : Block} {es : Elements} {c : Option Naming} {b m a : Words} → SpellsBlock u b m → stands_inside (head_of u) ≡ true → SpellsElements es c m a → SpellsElements (BlockFirst u es) c b a
block_first_of (block h ds fs q) e es = block_first (block h ds fs q) e es

elements_spelled : {n : ℕ} {es : List Element} {c : Option Naming} {p : Place} {b m a : Words} → Chain (ElementOf n) es b (reserved_then reserved.Close p m) → SpellsNameEnd c m a →
    SpellsElements (elements es) c b a × (nesting_of_elements (elements es) ≤ n)
unfolding elements
elements_spelled chain_end d = (closed d, omega arith)
elements_spelled (chain_more (statement_element e l) ch) d = let r = elements_spelled ch d in (statement_first e r.0, omega (arith, l, r.1))
elements_spelled (chain_more (block_element e l s) ch) d = let r = elements_spelled ch d in (block_first_of e s r.0, omega (arith, l, r.1))

elements_chain : {n : ℕ} {read : Reader Block} → Blocks n read → (b : Bool) (words : Words) → Chain (ElementOf n) (elements_of n read b words).0 words (elements_of n read b words).1
unfolding elements_of
elements_chain {n = n} {read = read} bs true words = all_chain (element_of n read) (element_gives bs) words
elements_chain bs false words = chain_end

elements_held : (n : ℕ) (read : Reader Block) (b : Bool) (words : Words) → elements (elements_of n read b words).0 ≢ NoElements → b ≡ true
unfolding elements_of elements
elements_held n read true words h = refl
elements_held n read false words h = absurd (h refl)

-- what a unit holds, nested so deep at most, and its end
data TailOf (n : ℕ) (x : Naming) (h : Head) (ds : List Declaration) : Block → Words → Words → Type 0 where
  tail_of : {es : Elements} {c : Option Naming} {b a : Words} → SpellsElements es c b a → nesting_of_elements es ≤ n → (es ≢ NoElements → holds_elements h ≡ true) →
      TailOf n x h ds (BlockOf x h ds es c) b a

tail_so : {n : ℕ} {x : Naming} {h : Head} {ds : List Declaration} {es : List Element} {c : Option Naming} {p : Place} {b m a : Words} → Chain (ElementOf n) es b (reserved_then reserved.Close p m) →
    SpellsNameEnd c m a → (elements es ≢ NoElements → holds_elements h ≡ true) → TailOf n x h ds (BlockOf x h ds (elements es) c) b a
tail_so ch d f = let r = elements_spelled ch d in tail_of r.0 r.1 f

close_gives : {n : ℕ} {read : Reader Block} → Blocks n read → (x : Naming) (h : Head) (ds : List Declaration) (words : Words) →
    Holds (λ u rest. TailOf n x h ds u words rest) (block_close n read x h ds words)
unfolding block_close
close_gives {n = n} {read = read} bs x h ds words =
    followed_holds (past_gives reserved.Close (elements_of n read (holds_elements h) words).1)
    (λ p rest e. made_holds _ (name_end_gives rest) (λ c after d. tail_so (rw e at (elements_chain bs (holds_elements h) words)) d (elements_held n read (holds_elements h) words)))

not_start : {r : Reserved} {words : Words} → reserved_starts r ≡ 0 → IsStart (starts words) → ¬ BeginsReserved r words
not_start e h begins = h.0 e

block_no_reserved : {r : Reserved} {u : Block} {b a : Words} → SpellsBlock u b a → ¬ BeginsReserved r b
block_no_reserved (block h ds es q) = λ e. elim e [ ]

elements_no_declare : {es : Elements} {c : Option Naming} {b a : Words} → SpellsElements es c b a → ¬ BeginsReserved reserved.Declare b
elements_no_declare (closed d) = λ e. elim e [ ]
elements_no_declare (statement_first d es) = not_start refl (statement_starts d)
elements_no_declare (block_first d s es) = block_no_reserved d

elements_no_structure : {es : Elements} {c : Option Naming} {b a : Words} → SpellsElements es c b a → ¬ BeginsReserved reserved.Structure b
elements_no_structure (closed d) = λ e. elim e [ ]
elements_no_structure (statement_first d es) = not_start refl (statement_starts d)
elements_no_structure (block_first d s es) = block_no_reserved d

block_so : {n : ℕ} {x : Naming} {h : Head} {ds : List Declaration} {u : Block} {b m c w a : Words} → SpellsLabel x b m → HeadOf n h m c → Chain (DeclarationOf n) ds c w → TailOf n x h ds u w a →
    BlockWithin (suc n) u b a
block_so {n = n} one_label d ch (tail_of e l f) =
    let r = declarations_spelled n ch (elements_no_declare e) (elements_no_structure e) in (block d.0 r.0 e f, omega (arith, d.1, r.1, l))

block_of_gives : {n : ℕ} {read : Reader Block} → Blocks n read → (words : Words) → Holds (λ u rest. BlockWithin (suc n) u words rest) (block_of n read words)
unfolding block_of block_behind
block_of_gives {n = n} bs words =
    followed_holds (label_gives words) (λ x r1 d. followed_holds (head_gives n r1) (λ h r2 e. weaker_holds (close_gives bs x h _ _) (λ u rest f. block_so d e (declarations_chain n r2) f)))

-- a statement is no unit
inner_no_statement : {n : ℕ} {s : Statement} {u : Block} {b a c : Words} → SpellsStatement s b a → InnerOf n u b c → ⊥
inner_no_statement d (inner_of e l s) = statement_apart d e

element_not_close : {n : ℕ} {x : Element} {b a : Words} → ElementOf n x b a → ¬ BeginsReserved reserved.Close b
element_not_close (statement_element d l) = not_start refl (statement_starts d)
element_not_close (block_element d l s) = block_no_reserved d

element_shorter : (n : ℕ) (x : Element) (words rest : Words) → ElementOf n x words rest → length rest < length words
element_shorter n x words rest (statement_element d l) = statement_shorter d
element_shorter n x words rest (block_element d l s) = block_shorter d

pub element_shortens : {n : ℕ} {read : Reader Block} → Blocks n read → Shortens (element_of n read)
element_shortens {n = n} bs = shortens (element_gives bs) (element_shorter n)

statement_read : {n : ℕ} {read : Reader Block} → Blocks n read → {s : Statement} {b a : Words} → SpellsStatement s b a → nesting_of_statement s ≤ n →
    element_of n read b ≡ Some (StatementElement s, a)
unfolding element_of
statement_read {n = n} bs {b = b} d l = either_not _ (made_none _ (nothing_read (inner_gives bs b) (λ u rest e. inner_no_statement d e))) ∙ made_equals _ (statement_is n d l)

inner_is : {n : ℕ} {read : Reader Block} → Blocks n read → {u : Block} {b a : Words} → SpellsBlock u b a → nesting_of_block u ≤ n → stands_inside (head_of u) ≡ true → inner_block read b ≡ Some (u, a)
unfolding inner_block where_true
inner_is bs {u = u} {b = b} {a = a} d l e = followed_is _ (bs.full u b a (d, l)) ∙ ap (λ t. where_true t (Some (u, a))) e

block_read : {n : ℕ} {read : Reader Block} → Blocks n read → {u : Block} {b a : Words} → SpellsBlock u b a → nesting_of_block u ≤ n → stands_inside (head_of u) ≡ true →
    element_of n read b ≡ Some (BlockElement u, a)
unfolding element_of
block_read bs d l e = either_is _ (made_equals _ (inner_is bs d l e))

-- these elements are read, and the end of the unit
data ReadsElements (n : ℕ) (read : Reader Block) : Elements → Option Naming → Words → Words → Type 0 where
  reads_elements : {es : List Element} {c : Option Naming} {p : Place} {b m a : Words} → all (element_of n read) b ≡ (es, reserved_then reserved.Close p m) → SpellsNameEnd c m a →
      ReadsElements n read (elements es) c b a

no_more : {n : ℕ} {read : Reader Block} {c : Option Naming} {p : Place} {b m a : Words} → all (element_of n read) b ≡ ([], reserved_then reserved.Close p m) → SpellsNameEnd c m a →
    ReadsElements n read NoElements c b a
unfolding elements
no_more {n = n} {read = read} {c = c} {b = b} {a = a} e d = let r : ReadsElements n read (elements []) c b a = reads_elements e d in r

more_statement : {n : ℕ} {read : Reader Block} {s : Statement} {es : Elements} {c : Option Naming} {b m a : Words} → Shortens (element_of n read) → element_of n read b ≡ Some (StatementElement s, m) →
    ReadsElements n read es c m a → ReadsElements n read (StatementFirst s es) c b a
unfolding elements
more_statement {n = n} {read = read} {s = s} {c = c} {b = b} {a = a} short e (reads_elements {es = es} f d) =
    let r : ReadsElements n read (elements (StatementElement s ∷ es)) c b a = reads_elements (all_first (element_of n read) short e f) d in r

more_block : {n : ℕ} {read : Reader Block} {u : Block} {es : Elements} {c : Option Naming} {b m a : Words} → Shortens (element_of n read) → element_of n read b ≡ Some (BlockElement u, m) →
    ReadsElements n read es c m a → ReadsElements n read (BlockFirst u es) c b a
unfolding elements
more_block {n = n} {read = read} {u = u} {c = c} {b = b} {a = a} short e (reads_elements {es = es} f d) =
    let r : ReadsElements n read (elements (BlockElement u ∷ es)) c b a = reads_elements (all_first (element_of n read) short e f) d in r

elements_read : {n : ℕ} {read : Reader Block} → Blocks n read → {es : Elements} {c : Option Naming} {b a : Words} → SpellsElements es c b a → nesting_of_elements es ≤ n →
    ReadsElements n read es c b a
elements_read {n = n} {read = read} bs (closed {p = p} {before = before} d) h =
    no_more (all_none (element_of n read) (reserved_then reserved.Close p before) (nothing_read (element_gives bs (reserved_then reserved.Close p before)) (λ x rest e. element_not_close e begins))) d
elements_read bs (statement_first d es) h = more_statement (element_shortens bs) (statement_read bs d (omega arith)) (elements_read bs es (omega arith))
elements_read bs (block_first d s es) h = more_block (element_shortens bs) (block_read bs d (omega arith) s) (elements_read bs es (omega arith))

-- the same where the unit may hold them
data ReadsHeld (n : ℕ) (read : Reader Block) (held : Bool) : Elements → Option Naming → Words → Words → Type 0 where
  reads_held : {es : List Element} {c : Option Naming} {p : Place} {b m a : Words} → elements_of n read held b ≡ (es, reserved_then reserved.Close p m) → SpellsNameEnd c m a →
      ReadsHeld n read held (elements es) c b a

held_true : {n : ℕ} {read : Reader Block} {es : Elements} {c : Option Naming} {b a : Words} → ReadsElements n read es c b a → ReadsHeld n read true es c b a
unfolding elements_of
held_true (reads_elements e d) = reads_held e d

held_false : {n : ℕ} {read : Reader Block} {es : Elements} {c : Option Naming} {b a : Words} → SpellsElements es c b a → (es ≢ NoElements → false ≡ true) → ReadsHeld n read false es c b a
unfolding elements_of elements
held_false {n = n} {read = read} {c = c} {a = a} (closed {p = p} {before = before} d) h = let r : ReadsHeld n read false (elements []) c (reserved_then reserved.Close p before) a = reads_held refl d in r
held_false (statement_first d es) h = absurd (let e : false ≡ true = h (λ q. cc) in cc)
held_false (block_first d s es) h = absurd (let e : false ≡ true = h (λ q. cc) in cc)

held_read : {n : ℕ} {read : Reader Block} → Blocks n read → (held : Bool) {es : Elements} {c : Option Naming} {b a : Words} → SpellsElements es c b a → nesting_of_elements es ≤ n →
    (es ≢ NoElements → held ≡ true) → ReadsHeld n read held es c b a
held_read bs true d l h = held_true (elements_read bs d l)
held_read bs false d l h = held_false d h

held_close : (n : ℕ) (read : Reader Block) (x : Naming) (h : Head) (ds : List Declaration) {es : Elements} {c : Option Naming} {b a : Words} → ReadsHeld n read (holds_elements h) es c b a →
    block_close n read x h ds b ≡ Some (BlockOf x h ds es c, a)
unfolding block_close
held_close n read x h ds (reads_held {p = p} {m = m} e d) =
    ap (λ l. followed (past reserved.Close l.1) (λ p rest. made_of (λ c. BlockOf x h ds (elements l.0) c) (name_end_at rest))) e ∙ past_is reserved.Close p m _ ∙ made_equals _ (name_end_is d)

behind_is : {n : ℕ} {read : Reader Block} → Blocks n read → (x : Naming) (h : Head) {ds : List Declaration} {es : Elements} {c : Option Naming} {b m a : Words} →
    SpellsDeclarations ds b m → most nesting_of_declaration ds ≤ n → SpellsElements es c m a → nesting_of_elements es ≤ n → (es ≢ NoElements → holds_elements h ≡ true) →
    block_behind n read x h b ≡ Some (BlockOf x h ds es c, a)
unfolding block_behind
behind_is {n = n} {read = read} bs x h {ds = ds} d l e k q =
    ap (λ s. block_close n read x h s.0 s.1) (declarations_are n d l) ∙ held_close n read x h ds (held_read bs (holds_elements h) e k q)

block_of_is : {n : ℕ} {read : Reader Block} → Blocks n read → {u : Block} {b a : Words} → SpellsBlock u b a → nesting_of_block u ≤ suc n → block_of n read b ≡ Some (u, a)
unfolding block_of
block_of_is {n = n} bs (block {p = p} {n = m} {h = h} d ds es q) l =
    followed_is _ (label_is one_label) ∙ followed_is _ (head_is n d (omega (arith, l))) ∙ behind_is bs (naming p m) h ds (omega (arith, l)) es (omega (arith, l)) q

block_deep : (u : Block) → nesting_of_block u ≤ 0 → ⊥
block_deep (BlockOf x h ds es c) l = omega (arith, l)

-- units of each depth are read exactly
pub blocks : (n : ℕ) → Blocks n (block_at n)
unfolding block_at
blocks zero = record { sound = λ words. holds_none; full = λ u b a d. absurd (block_deep u d.1) }
blocks (suc n) = let bs = blocks n in record { sound = λ words. block_of_gives bs words; full = λ u b a d. block_of_is bs d.0 d.1 }
