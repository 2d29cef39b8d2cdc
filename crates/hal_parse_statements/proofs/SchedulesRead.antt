-- Schedules: what is read is spelled, and what is spelled is read.
use Rattle.std.proofs.Common.{◌≡◌, ℕ, ◌≤◌, List, Option, Some, Bool, refl, ◌∙◌, arith}
use Rattle.hal_base.specs.declared.refusal.Place.{Place}
use Rattle.hal_words.specs.declared.reserved.Reserved.TheVariants as reserved
use Rattle.hal_words.specs.declared.word.Symbol.TheVariants as symbol
use Rattle.hal_grammar.specs.Leaves.{Naming, naming, if_any}
use Rattle.hal_grammar.specs.Expressions.{Expression, nesting}
use Rattle.hal_grammar.specs.Statements.{Guard, Start, Cycle, Cyclic, CyclicEvery, CyclicAfter, Schedule, scheduling, nesting_of_guard, nesting_of_start, nesting_of_cycle, nesting_of_schedule}
use Rattle.hal_grammar.specs.Words.{Words, reserved_then, symbol_then, name_then, BeginsReserved}
use Rattle.hal_grammar.specs.GoesOn.{strength}
use Rattle.hal_grammar.specs.SpellsExpressions.{SpellsExpression}
use Rattle.hal_grammar.specs.SpellsStatements.{SpellsGuard, SpellsStart, no_start, start_at, start_in, start_on, SpellsPriority, no_priority, priority, SpellsDependent, not_dependent, dependent, SpellsComma, no_comma, comma, SpellsCycle, no_cycle, cyclic, cyclic_every, cyclic_after, SpellsSchedule, scheduled_so}
use Rattle.hal_grammar.proofs.Options.{guard_weak, cycle_weak, dependent_weak, priority_weak}
use Rattle.hal_parse_expr.specs.Reading.{past, is_reserved, where_true, past_symbol, is_symbol, name_at, made_of, followed}
use Rattle.hal_parse_expr.specs.ReadingExpressions.{expression_at}
use Rattle.hal_parse_statements.specs.ReadingStatements.{start_on_at, start_in_at, start_at_at, priority_at, dependent_at, cycle_after_at, cycle_behind, repeat_at, comma_repeat, cycle_at, cycle_and_guard, rank_at, schedule_behind, schedule_at}
use Rattle.hal_parse_expr.proofs.FirstWords.{past_here, past_none, past_symbol_none}
use Rattle.hal_parse_expr.proofs.Readings.{Holds, holds, weaker_holds}
use Rattle.hal_parse_expr.proofs.Combining.{followed_holds, made_holds}
use Rattle.hal_parse_declarations.proofs.Decided.{decided_holds}
use Rattle.hal_parse_declarations.proofs.Firsts.{name_gives, past_gives, symbol_gives, not_begun, not_begun_symbol, gives_before_symbol, Enclosed, enclosed_so, gives_enclosed}
use Rattle.hal_parse_expr.proofs.Equations.{made_equals}
use Rattle.hal_parse_declarations.proofs.Becomes.{followed_is, decided_is, decided_not, before_symbol_is, enclosed_is}
use Rattle.hal_parse_declarations.proofs.Below.{ExpressionOf, expression_gives, expression_is}
use Rattle.hal_parse_statements.proofs.ConditionsRead.{guard_gives, guard_is}

-- a start that is nested so deep at most
abbrev StartOf : ℕ → Option Start → Words → Words → Type 0
StartOf n s b a = SpellsStart s b a × (if_any nesting_of_start s ≤ n)

on_gives : (n : ℕ) (words : Words) → ¬ BeginsReserved reserved.At words → ¬ BeginsReserved reserved.In words → Holds (λ s rest. StartOf n s words rest) (start_on_at n words)
unfolding start_on_at
on_gives n words h k =
    decided_holds (past_gives reserved.On words) (λ p rest e. made_holds _ (expression_gives n rest) (λ t after d. (rw e (start_on d.0), d.1)))
    (λ e. holds (no_start h k (not_begun reserved.On words e), omega arith))

in_gives : (n : ℕ) (words : Words) → ¬ BeginsReserved reserved.At words → Holds (λ s rest. StartOf n s words rest) (start_in_at n words)
unfolding start_in_at
in_gives n words h =
    decided_holds (past_gives reserved.In words) (λ p rest e. made_holds _ (expression_gives n rest) (λ t after d. (rw e (start_in d.0), d.1)))
    (λ e. on_gives n words h (not_begun reserved.In words e))

start_gives : (n : ℕ) (words : Words) → Holds (λ s rest. StartOf n s words rest) (start_at_at n words)
unfolding start_at_at
start_gives n words =
    decided_holds (past_gives reserved.At words) (λ p rest e. made_holds _ (expression_gives n rest) (λ t after d. (rw e (start_at d.0), d.1)))
    (λ e. in_gives n words (not_begun reserved.At words e))

start_is : (n : ℕ) {s : Option Start} {b a : Words} → SpellsStart s b a → if_any nesting_of_start s ≤ n → strength a ≤ 2 → start_at_at n b ≡ Some (s, a)
unfolding start_at_at start_in_at start_on_at past is_reserved where_true
start_is n (no_start {after = after} h k m) l w =
    decided_not _ _ (past_none reserved.At after h) ∙ decided_not _ _ (past_none reserved.In after k) ∙ decided_not _ _ (past_none reserved.On after m)
start_is n (start_at d) l w = decided_is _ _ refl ∙ made_equals _ (expression_is n d l w)
start_is n (start_in d) l w = decided_not _ _ refl ∙ decided_is _ _ refl ∙ made_equals _ (expression_is n d l w)
start_is n (start_on d) l w = decided_not _ _ refl ∙ decided_not _ _ refl ∙ decided_is _ _ refl ∙ made_equals _ (expression_is n d l w)

priority_spelled : {n : ℕ} {t : Expression} {p : Place} {b a : Words} → Enclosed (ExpressionOf n) t b a →
    SpellsPriority (Some t) (reserved_then reserved.Priority p b) a × (nesting t ≤ n)
priority_spelled (enclosed_so d) = (priority d.0, d.1)

priority_gives : (n : ℕ) (words : Words) → Holds (λ t rest. SpellsPriority t words rest × (if_any nesting t ≤ n)) (priority_at n words)
unfolding priority_at
priority_gives n words =
    decided_holds (past_gives reserved.Priority words) (λ p rest e. made_holds _ (gives_enclosed (expression_at n) rest (expression_gives n)) (λ t after d. rw e (priority_spelled d)))
    (λ e. holds (no_priority (not_begun reserved.Priority words e), omega arith))

priority_is : (n : ℕ) {t : Option Expression} {b a : Words} → SpellsPriority t b a → if_any nesting t ≤ n → priority_at n b ≡ Some (t, a)
unfolding priority_at past is_reserved where_true
priority_is n (no_priority {after = after} h) l = decided_not _ _ (past_none reserved.Priority after h)
priority_is n (priority {q = q} {before = before} d) l = decided_is _ _ refl ∙ made_equals _ (enclosed_is (expression_at n) q before (expression_is n d l (omega arith)))

dependent_gives : (words : Words) → Holds (λ d rest. SpellsDependent d words rest) (dependent_at words)
unfolding dependent_at
dependent_gives words = decided_holds (past_gives reserved.Dependent words) (λ p rest e. holds (rw e dependent)) (λ e. holds (not_dependent (not_begun reserved.Dependent words e)))

dependent_is : {d : Bool} {b a : Words} → SpellsDependent d b a → dependent_at b ≡ Some (d, a)
unfolding dependent_at past is_reserved where_true
dependent_is (not_dependent {after = after} h) = decided_not _ _ (past_none reserved.Dependent after h)
dependent_is dependent = decided_is _ _ refl

-- a cycle that is nested so deep at most
abbrev CycleOf : ℕ → Option Cycle → Words → Words → Type 0
CycleOf n c b a = SpellsCycle c b a × (if_any nesting_of_cycle c ≤ n)

after_gives : (n : ℕ) (p : Place) (before words : Words) → SpellsComma before (reserved_then reserved.Repeat p words) → ¬ BeginsReserved reserved.Every words →
    Holds (λ c rest. CycleOf n (Some c) before rest) (cycle_after_at n p words)
unfolding cycle_after_at
after_gives n p before words k h =
    decided_holds (past_gives reserved.After words) (λ q rest e. made_holds _ (expression_gives n rest) (λ t after d. (cyclic_after (rw e at k) d.0, d.1)))
    (λ e. holds (cyclic k h (not_begun reserved.After words e), omega arith))

behind_gives : (n : ℕ) (p : Place) (before words : Words) → SpellsComma before (reserved_then reserved.Repeat p words) → Holds (λ c rest. CycleOf n (Some c) before rest) (cycle_behind n p words)
unfolding cycle_behind
behind_gives n p before words k =
    decided_holds (past_gives reserved.Every words) (λ q rest e. made_holds _ (expression_gives n rest) (λ t after d. (cyclic_every (rw e at k) d.0, d.1)))
    (λ e. after_gives n p before words k (not_begun reserved.Every words e))

repeat_comma : (p : Place) (words : Words) → SpellsComma (reserved_then reserved.Repeat p words) (reserved_then reserved.Repeat p words)
repeat_comma p words = no_comma (λ d. elim d [ ])

cycle_gives : (n : ℕ) (words : Words) → Holds (λ c rest. CycleOf n c words rest) (cycle_at n words)
unfolding cycle_at comma_repeat repeat_at
cycle_gives n words =
    decided_holds (symbol_gives symbol.Comma words)
    (λ p rest e. followed_holds (past_gives reserved.Repeat rest) (λ q after f. made_holds _ (behind_gives n q words after (rw (e, f) comma)) (λ c last d. d)))
    (λ e. decided_holds (past_gives reserved.Repeat words) (λ p rest f. made_holds _ (behind_gives n p words rest (rw f (repeat_comma p rest))) (λ c after d. d))
    (λ f. holds (no_cycle (not_begun_symbol symbol.Comma words e) (not_begun reserved.Repeat words f), omega arith)))

repeat_reached : (n : ℕ) {p : Place} {b m : Words} → SpellsComma b (reserved_then reserved.Repeat p m) → cycle_at n b ≡ made_of (λ c. Some c) (cycle_behind n p m)
unfolding cycle_at comma_repeat repeat_at past_symbol is_symbol past is_reserved where_true
repeat_reached n (no_comma h) = decided_not _ _ refl ∙ decided_is _ _ refl
repeat_reached n comma = decided_is _ _ refl ∙ followed_is _ refl

behind_alone : (n : ℕ) (p : Place) {m : Words} → ¬ BeginsReserved reserved.Every m → ¬ BeginsReserved reserved.After m → cycle_behind n p m ≡ Some (Cyclic p, m)
unfolding cycle_behind cycle_after_at
behind_alone n p {m = m} h k = decided_not _ _ (past_none reserved.Every m h) ∙ decided_not _ _ (past_none reserved.After m k)

behind_every : (n : ℕ) (p q : Place) {t : Expression} {b a : Words} → SpellsExpression t b a → nesting t ≤ n → strength a ≤ 2 →
    cycle_behind n p (reserved_then reserved.Every q b) ≡ Some (CyclicEvery p t, a)
unfolding cycle_behind
behind_every n p q {b = b} d l w = decided_is _ _ (past_here reserved.Every q b) ∙ made_equals _ (expression_is n d l w)

behind_after : (n : ℕ) (p q : Place) {t : Expression} {b a : Words} → SpellsExpression t b a → nesting t ≤ n → strength a ≤ 2 →
    cycle_behind n p (reserved_then reserved.After q b) ≡ Some (CyclicAfter p t, a)
unfolding cycle_behind cycle_after_at past is_reserved where_true
behind_after n p q d l w = decided_not _ _ refl ∙ decided_is _ _ refl ∙ made_equals _ (expression_is n d l w)

cycle_is : (n : ℕ) {c : Option Cycle} {b a : Words} → SpellsCycle c b a → if_any nesting_of_cycle c ≤ n → strength a ≤ 2 → cycle_at n b ≡ Some (c, a)
unfolding cycle_at repeat_at
cycle_is n (no_cycle {after = after} h k) l w = decided_not _ _ (past_symbol_none symbol.Comma after h) ∙ decided_not _ _ (past_none reserved.Repeat after k)
cycle_is n (cyclic {p = p} k h m) l w = repeat_reached n k ∙ made_equals _ (behind_alone n p h m)
cycle_is n (cyclic_every {p = p} {q = q} k d) l w = repeat_reached n k ∙ made_equals _ (behind_every n p q d l w)
cycle_is n (cyclic_after {p = p} {q = q} k d) l w = repeat_reached n k ∙ made_equals _ (behind_after n p q d l w)

-- a priority, and whether it is dependent
data RankOf (n : ℕ) (t : Option Expression) (d : Bool) (b a : Words) : Type 0 where
  rank_of : {m : Words} → SpellsPriority t b m → if_any nesting t ≤ n → SpellsDependent d m a → RankOf n t d b a

rank_gives : (n : ℕ) (words : Words) → Holds (λ k rest. RankOf n k.0 k.1 words rest) (rank_at n words)
unfolding rank_at
rank_gives n words = followed_holds (priority_gives n words) (λ t rest d. made_holds _ (dependent_gives rest) (λ b after e. rank_of d.0 d.1 e))

-- a cycle and a condition
data TailOf (n : ℕ) (c : Option Cycle) (g : Option Guard) (b a : Words) : Type 0 where
  tail_of : {m : Words} → SpellsCycle c b m → if_any nesting_of_cycle c ≤ n → SpellsGuard g m a → if_any nesting_of_guard g ≤ n → TailOf n c g b a

tail_gives : (n : ℕ) (words : Words) → Holds (λ k rest. TailOf n k.0 k.1 words rest) (cycle_and_guard n words)
unfolding cycle_and_guard
tail_gives n words = followed_holds (cycle_gives n words) (λ c rest d. made_holds _ (guard_gives n rest) (λ g after e. tail_of d.0 d.1 e.0 e.1))

-- a schedule up to its semicolon
data ScheduleUpTo (n : ℕ) : Schedule → Words → Words → Type 0 where
  up_to : {p : Place} {m : List ℕ} {s : Option Start} {t : Option Expression} {d : Bool} {c : Option Cycle} {g : Option Guard} {start rank tail after : Words} → StartOf n s start rank →
      RankOf n t d rank tail → TailOf n c g tail after → ScheduleUpTo n (scheduling (naming p m) s t d c g) (name_then m p start) after

schedule_behind_gives : (n : ℕ) (x : Naming) (words : Words) → Holds (λ s rest. ScheduleUpTo n s (name_then x.name x.place words) rest) (schedule_behind n x words)
unfolding schedule_behind
schedule_behind_gives n x words =
    followed_holds (start_gives n words) (λ s r1 d. followed_holds (rank_gives n r1) (λ k r2 e. made_holds _ (tail_gives n r2) (λ f r3 g. up_to d e g)))

up_to_gives : (n : ℕ) (words : Words) → Holds (λ s rest. ScheduleUpTo n s words rest) (followed (name_at words) (λ x rest. schedule_behind n x rest))
up_to_gives n words = followed_holds (name_gives words) (λ x rest e. weaker_holds (schedule_behind_gives n x rest) (λ s after d. rw e d))

schedule_spelled : {n : ℕ} {s : Schedule} {b : Words} {q : Place} {a : Words} → ScheduleUpTo n s b (symbol_then symbol.Semicolon q a) → SpellsSchedule s b a × (nesting_of_schedule s ≤ n)
schedule_spelled (up_to d (rank_of e l f) (tail_of g m h o)) = (scheduled_so d.0 e f g h, omega (arith, d.1, l, m, o))

-- what is read of a schedule is spelled
pub schedule_gives : (n : ℕ) (words : Words) → Holds (λ s rest. SpellsSchedule s words rest × (nesting_of_schedule s ≤ n)) (schedule_at n words)
unfolding schedule_at
schedule_gives n words = gives_before_symbol symbol.Semicolon (up_to_gives n words) (λ s q after d. schedule_spelled d)

rank_is : (n : ℕ) {t : Option Expression} {d : Bool} {b m a : Words} → SpellsPriority t b m → SpellsDependent d m a → if_any nesting t ≤ n → rank_at n b ≡ Some ((t, d), a)
unfolding rank_at
rank_is n d e l = followed_is _ (priority_is n d l) ∙ made_equals _ (dependent_is e)

tail_is : (n : ℕ) {c : Option Cycle} {g : Option Guard} {b m a : Words} → SpellsCycle c b m → SpellsGuard g m a → if_any nesting_of_cycle c ≤ n → if_any nesting_of_guard g ≤ n → strength a ≤ 0 →
    cycle_and_guard n b ≡ Some ((c, g), a)
unfolding cycle_and_guard
tail_is n d e l k w = followed_is _ (cycle_is n d l (omega (arith, guard_weak e w))) ∙ made_equals _ (guard_is n e k (omega (arith, w)))

behind_is : (n : ℕ) (x : Naming) {s : Option Start} {t : Option Expression} {d : Bool} {c : Option Cycle} {g : Option Guard} {start rank depends cycle guard : Words} {q : Place} {after : Words} →
    SpellsStart s start rank → SpellsPriority t rank depends → SpellsDependent d depends cycle → SpellsCycle c cycle guard → SpellsGuard g guard (symbol_then symbol.Semicolon q after) →
    nesting_of_schedule (scheduling x s t d c g) ≤ n → schedule_behind n x start ≡ Some (scheduling x s t d c g, symbol_then symbol.Semicolon q after)
unfolding schedule_behind
behind_is n x s t d c g l =
    let w = priority_weak t (dependent_weak d (cycle_weak c (guard_weak g (omega arith)))) in
    followed_is _ (start_is n s (omega arith) (omega (arith, w))) ∙ followed_is _ (rank_is n t d (omega arith)) ∙ made_equals _ (tail_is n c g (omega arith) (omega arith) (omega arith))

-- what is spelled as a schedule is read
pub schedule_is : (n : ℕ) {s : Schedule} {b a : Words} → SpellsSchedule s b a → nesting_of_schedule s ≤ n → schedule_at n b ≡ Some (s, a)
unfolding schedule_at name_at
schedule_is n (scheduled_so {p = p} {n = m} s t d c g) l = before_symbol_is (followed_is _ refl ∙ behind_is n (naming p m) s t d c g l)
