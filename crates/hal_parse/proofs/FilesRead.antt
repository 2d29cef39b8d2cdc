-- Templates and files: what is read is spelled, and what is spelled is read.
use Rattle.std.proofs.Common.{◌≡◌, ℕ, ◌≤◌, List, ◌∷◌, Option, Some, refl, ap, ◌∙◌, arith}
use Rattle.hal_base.specs.declared.refusal.Place.{Place}
use Rattle.hal_words.specs.declared.reserved.Reserved.TheVariants as reserved
use Rattle.hal_grammar.specs.Leaves.{Naming, naming}
use Rattle.hal_grammar.specs.Declarations.{Declaration}
use Rattle.hal_grammar.specs.Units.{Head, Block, Template, template_of, Preface, File, file_of, nesting_of_block, nesting_of_template, nesting_of_preface, nesting_of_file}
use Rattle.hal_grammar.specs.Words.{Words, reserved_then, name_then, BeginsReserved}
use Rattle.hal_grammar.specs.SpellsDeclarations.{SpellsNameEnd}
use Rattle.hal_grammar.specs.SpellsFiles.{SpellsBlock, SpellsTemplate, template, SpellsPreface, includes, templates, SpellsFile, block_alone, preface_first}
use Rattle.hal_grammar.proofs.ShorterFiles.{preface_shorter}
use Rattle.hal_grammar.proofs.OneFile.{block_apart}
use Rattle.hal_parse_expr.specs.Reading.{made_of, before, name_at}
use Rattle.hal_parse_expr.proofs.Shortening.{Shortens, all_none}
use Rattle.hal_parse_declarations.specs.ReadingDeclarations.{label_at}
use Rattle.hal_parse.specs.ReadingFiles.{block_at, template_close, external_behind, template_at, preface_at, prefaces_at, file_at}
use Rattle.hal_parse_expr.proofs.FirstWords.{past_here, past_none}
use Rattle.hal_parse_expr.proofs.Readings.{Holds, weaker_holds}
use Rattle.hal_parse_expr.proofs.Combining.{followed_holds, made_holds}
use Rattle.hal_parse_declarations.proofs.Decided.{decided_holds, nothing_read}
use Rattle.hal_parse_declarations.proofs.Firsts.{past_gives, name_gives, gives_before}
use Rattle.hal_parse_expr.proofs.Equations.{made_equals}
use Rattle.hal_parse_declarations.proofs.Becomes.{followed_is, decided_is, decided_not, before_is, past_is}
use Rattle.hal_parse_declarations.proofs.Chains.{Chain, chain_end, chain_more, all_chain, shortens, all_first}
use Rattle.hal_parse_declarations.proofs.LeavesRead.{name_end_gives, name_end_is}
use Rattle.hal_parse_declarations.proofs.DeclarationsRead.{SpellsLabel, one_label, label_gives, label_is, DeclarationOf, declarations_chain, declarations_spelled, declarations_are}
use Rattle.hal_parse.proofs.HeadsRead.{HeadOf, head_gives, head_is}
use Rattle.hal_parse.proofs.BlocksRead.{blocks}

-- a template that is nested so deep at most
abbrev TemplateOf : ℕ → Template → Words → Words → Type 0
TemplateOf n t b a = SpellsTemplate t b a × (nesting_of_template t ≤ n)

-- an include or a template that is nested so deep at most
abbrev PrefaceOf : ℕ → Preface → Words → Words → Type 0
PrefaceOf n x b a = SpellsPreface x b a × (nesting_of_preface x ≤ n)

-- a label and EXTERNAL
data External (x : Naming) (b a : Words) : Type 0 where
  external : {p : Place} → SpellsLabel x b (reserved_then reserved.External p a) → External x b a

external_gives : (words : Words) → Holds (λ x rest. External x words rest) (before reserved.External (label_at words))
external_gives words = gives_before reserved.External (label_gives words) (λ x p rest d. external d)

-- CLOSE, a name or none, and a semicolon
data Closes (c : Option Naming) : Words → Words → Type 0 where
  closes : {p : Place} {b a : Words} → SpellsNameEnd c b a → Closes c (reserved_then reserved.Close p b) a

template_so : {n : ℕ} {x : Naming} {h : Head} {ds : List Declaration} {c : Option Naming} {b m w v a : Words} → External x b m → HeadOf n h m w → Chain (DeclarationOf n) ds w v → Closes c v a →
    TemplateOf n (template_of x h ds c) b a
template_so {n = n} (external one_label) d ch (closes e) =
    let r = declarations_spelled n ch (λ q. elim q [ ]) (λ q. elim q [ ]) in (template d.0 r.0 e, omega (arith, d.1, r.1))

-- the template of these parts
data ClosedBy (x : Naming) (h : Head) (ds : List Declaration) : Template → Words → Words → Type 0 where
  closed_by : {c : Option Naming} {b a : Words} → Closes c b a → ClosedBy x h ds (template_of x h ds c) b a

close_gives : (x : Naming) (h : Head) (ds : List Declaration) (words : Words) → Holds (λ t rest. ClosedBy x h ds t words rest) (template_close x h ds words)
unfolding template_close
close_gives x h ds words = followed_holds (past_gives reserved.Close words) (λ p rest e. made_holds _ (name_end_gives rest) (λ c after d. closed_by (rw e (closes d))))

template_ended : {n : ℕ} {x : Naming} {h : Head} {ds : List Declaration} {t : Template} {b m w v a : Words} → External x b m → HeadOf n h m w → Chain (DeclarationOf n) ds w v → ClosedBy x h ds t v a →
    TemplateOf n t b a
template_ended d e ch (closed_by f) = template_so d e ch f

template_gives : (n : ℕ) (words : Words) → Holds (λ t rest. TemplateOf n t words rest) (template_at n words)
unfolding template_at external_behind
template_gives n words =
    followed_holds (external_gives words) (λ x r1 d. followed_holds (head_gives n r1) (λ h r2 e. weaker_holds (close_gives x h _ _) (λ t rest f. template_ended d e (declarations_chain n r2) f)))

template_is : (n : ℕ) {t : Template} {b a : Words} → SpellsTemplate t b a → nesting_of_template t ≤ n → template_at n b ≡ Some (t, a)
unfolding template_at external_behind template_close
template_is n (template {p = p} {s = s} {n = m} {h = h} {close = close} d ds e) l =
    followed_is _ (before_is (label_is one_label)) ∙ followed_is _ (head_is n d (omega (arith, l)))
    ∙ ap (λ z. template_close (naming p m) h z.0 z.1) (declarations_are n ds (omega (arith, l))) ∙ past_is reserved.Close s close _ ∙ made_equals _ (name_end_is e)

preface_gives : (n : ℕ) (words : Words) → Holds (λ x rest. PrefaceOf n x words rest) (preface_at n words)
unfolding preface_at
preface_gives n words =
    decided_holds (past_gives reserved.Include words) (λ p rest e. made_holds _ (name_gives rest) (λ x after f. (rw (e, f) includes, omega arith)))
    (λ e. made_holds _ (template_gives n words) (λ t rest d. (templates d.0, d.1)))

template_no_include : {t : Template} {b a : Words} → SpellsTemplate t b a → ¬ BeginsReserved reserved.Include b
template_no_include (template h ds e) = λ q. elim q [ ]

preface_is : (n : ℕ) {x : Preface} {b a : Words} → SpellsPreface x b a → nesting_of_preface x ≤ n → preface_at n b ≡ Some (x, a)
unfolding preface_at name_at
preface_is n (includes {p = p} {q = q} {n = m} {after = after}) l = decided_is _ _ (past_here reserved.Include p (name_then m q after)) ∙ made_equals _ refl
preface_is n (templates {before = before} d) l = decided_not _ _ (past_none reserved.Include before (template_no_include d)) ∙ made_equals _ (template_is n d l)

pub preface_shortens : (n : ℕ) → Shortens (preface_at n)
preface_shortens n = shortens (preface_gives n) (λ x words rest d. preface_shorter d.0)

-- a file that is nested so deep at most
abbrev pub FileOf : ℕ → File → Words → Words → Type 0
FileOf n f b a = SpellsFile f b a × (nesting_of_file f ≤ n)

file_so : {n : ℕ} {xs : List Preface} {u : Block} {b m a : Words} → Chain (PrefaceOf n) xs b m → SpellsBlock u m a → nesting_of_block u ≤ n → FileOf n (file_of xs u) b a
file_so chain_end d l = (block_alone d, omega (arith, l))
file_so (chain_more e ch) d l = let r = file_so ch d l in (preface_first e.0 r.0, omega (arith, e.1, r.1))

prefaces_chain : (n : ℕ) (words : Words) → Chain (PrefaceOf n) (prefaces_at n words).0 words (prefaces_at n words).1
unfolding prefaces_at
prefaces_chain n words = all_chain (preface_at n) (preface_gives n) words

-- what is read of a file is spelled
pub file_gives : (n : ℕ) (words : Words) → Holds (λ f rest. FileOf n f words rest) (file_at n words)
unfolding file_at
file_gives n words = made_holds _ ((blocks n).sound (prefaces_at n words).1) (λ u rest d. file_so (prefaces_chain n words) d.0 d.1)

-- the prefaces of a file are read
data ReadsPrefaces (n : ℕ) : File → Words → Words → Type 0 where
  reads_prefaces : {xs : List Preface} {u : Block} {b m a : Words} → prefaces_at n b ≡ (xs, m) → SpellsBlock u m a → nesting_of_block u ≤ n → ReadsPrefaces n (file_of xs u) b a

more_prefaces : {n : ℕ} {x : Preface} {xs : List Preface} {u : Block} {b m a : Words} → PrefaceOf n x b m → ReadsPrefaces n (file_of xs u) m a → ReadsPrefaces n (file_of (x ∷ xs) u) b a
unfolding prefaces_at
more_prefaces {n = n} d (reads_prefaces e f l) = reads_prefaces (all_first (preface_at n) (preface_shortens n) (preface_is n d.0 d.1) e) f l

prefaces_read : (n : ℕ) {f : File} {b a : Words} → SpellsFile f b a → nesting_of_file f ≤ n → ReadsPrefaces n f b a
unfolding prefaces_at
prefaces_read n (block_alone {before = before} d) l =
    reads_prefaces (all_none (preface_at n) before (nothing_read (preface_gives n before) (λ x rest e. block_apart d e.0))) d (omega (arith, l))
prefaces_read n (preface_first d ds) l = more_prefaces (d, omega (arith, l)) (prefaces_read n ds (omega (arith, l)))

file_found : {n : ℕ} {f : File} {b a : Words} → ReadsPrefaces n f b a → file_at n b ≡ Some (f, a)
unfolding file_at
file_found {n = n} (reads_prefaces {u = u} {m = m} {a = a} e d l) = ap (λ z. made_of (λ u. file_of z.0 u) (block_at n z.1)) e ∙ made_equals _ ((blocks n).full u m a (d, l))

-- what is spelled as a file is read
pub file_is : (n : ℕ) {f : File} {b a : Words} → SpellsFile f b a → nesting_of_file f ≤ n → file_at n b ≡ Some (f, a)
file_is n d l = file_found (prefaces_read n d l)
