-- The same words spell one unit and one file at most.
use Rattle.std.proofs.Common.{◌≡◌, List, [], ◌∷◌, refl, ap, ap₂, ◌∙◌, arith, Option}
use Rattle.hal_base.specs.declared.refusal.Place.{Place}
use Rattle.hal_words.specs.declared.reserved.Reserved.TheVariants as reserved
use Rattle.hal_grammar.specs.Leaves.{Naming}
use Rattle.hal_grammar.specs.Declarations.{Declaration}
use Rattle.hal_grammar.specs.Statements.{Statement}
use Rattle.hal_grammar.specs.Units.{Mode, Precision, Returns, HasKind, Head, Procedure, Function, Block, BlockOf, Elements, StatementFirst, BlockFirst, Template, template_of, Preface, Templates, File, file_of}
use Rattle.hal_grammar.specs.Words.{Words, reserved_then, begins}
use Rattle.hal_grammar.specs.SpellsDeclarations.{SpellsNameEnd, SpellsDeclarations}
use Rattle.hal_grammar.specs.SpellsStatements.{SpellsStatement, labelled, no_labels, more_labels, begins_label}
use Rattle.hal_grammar.specs.SpellsFiles.{SpellsInputs, no_inputs, input_names, SpellsOutputs, no_outputs, output_names, SpellsModeEnd, no_mode_end, reenters_end, excludes_end, SpellsPrecisionEnd, no_precision, single_precision, double_precision, SpellsReturnsEnd, no_kind, has_kind, SpellsHead, program_head, compool_head, task_head, procedure_head, function_head, SpellsBlock, block, SpellsElements, closed, statement_first, block_first, SpellsTemplate, template, SpellsPreface, includes, templates, SpellsFile, block_alone, preface_first}
use Rattle.hal_grammar.proofs.Outcomes.{back, back₂, until, tail_same}
use Rattle.hal_grammar.proofs.OneDeclaration.{class, kind_class, one_kind, one_names, one_name_end, one_declarations}
use Rattle.hal_grammar.proofs.OneStatement.{one_statement, starts, statement_starts}

one_inputs : {ns ms : List Naming} {b a c : Words} → SpellsInputs ns b a → SpellsInputs ms b c → (ns ≡ ms) × (a ≡ c)
one_inputs (no_inputs n) (no_inputs m) = (refl, refl)
one_inputs (no_inputs n) (input_names e) = absurd (n begins)
one_inputs (input_names d) (no_inputs n) = absurd (n begins)
one_inputs (input_names d) (input_names e) = let r = until (one_names d e) (omega arith) (omega arith) in (r.0, tail_same r.1)

one_outputs : {ns ms : List Naming} {b a c : Words} → SpellsOutputs ns b a → SpellsOutputs ms b c → (ns ≡ ms) × (a ≡ c)
one_outputs (no_outputs n) (no_outputs m) = (refl, refl)
one_outputs (no_outputs n) (output_names e) = absurd (n begins)
one_outputs (output_names d) (no_outputs n) = absurd (n begins)
one_outputs (output_names d) (output_names e) = let r = until (one_names d e) (omega arith) (omega arith) in (r.0, tail_same r.1)

one_mode_end : {m n : Option Mode} {b a c : Words} → SpellsModeEnd m b a → SpellsModeEnd n b c → (m ≡ n) × (a ≡ c)
one_mode_end no_mode_end no_mode_end = (refl, refl)
one_mode_end reenters_end reenters_end = (refl, refl)
one_mode_end excludes_end excludes_end = (refl, refl)

-- a mode begins with no type and no precision
mode_class : {m : Option Mode} {b a : Words} → SpellsModeEnd m b a → class b ≡ 0
mode_class no_mode_end = refl
mode_class reenters_end = refl
mode_class excludes_end = refl

one_precision_end : {x y : Option Precision} {m n : Option Mode} {b a c : Words} → SpellsPrecisionEnd x m b a → SpellsPrecisionEnd y n b c → (x ≡ y) × (m ≡ n) × (a ≡ c)
one_precision_end (no_precision d) (no_precision e) = let r = one_mode_end d e in (refl, r.0, r.1)
one_precision_end (no_precision d) (single_precision e) = absurd (omega (arith, mode_class d))
one_precision_end (no_precision d) (double_precision e) = absurd (omega (arith, mode_class d))
one_precision_end (single_precision d) (no_precision e) = absurd (omega (arith, mode_class e))
one_precision_end (double_precision d) (no_precision e) = absurd (omega (arith, mode_class e))
one_precision_end (single_precision d) (single_precision e) = let r = one_mode_end d e in (refl, r.0, r.1)
one_precision_end (double_precision d) (double_precision e) = let r = one_mode_end d e in (refl, r.0, r.1)

one_returns_end : {x y : Returns} {m n : Option Mode} {b a c : Words} → SpellsReturnsEnd x m b a → SpellsReturnsEnd y n b c → (x ≡ y) × (m ≡ n) × (a ≡ c)
one_returns_end (no_kind d) (no_kind e) = let r = one_mode_end d e in (refl, r.0, r.1)
one_returns_end (no_kind d) (has_kind k e) = absurd (omega (arith, mode_class d, kind_class k))
one_returns_end (has_kind k d) (no_kind e) = absurd (omega (arith, mode_class e, kind_class k))
one_returns_end (has_kind k d) (has_kind l e) =
    let r = one_kind k l in
    let s = one_precision_end d (back₂ SpellsPrecisionEnd r.1 e) in (ap₂ HasKind r.0 s.0, s.1, s.2)

procedure_same : {p : Place} {i j o u : List Naming} {m n : Option Mode} → i ≡ j → o ≡ u → m ≡ n → Procedure p i o m ≡ Procedure p j u n
procedure_same e f g = cc

function_same : {p : Place} {i j : List Naming} {r s : Returns} {m n : Option Mode} → i ≡ j → r ≡ s → m ≡ n → Function p i r m ≡ Function p j s n
function_same e f g = cc

pub one_head : {h k : Head} {b a c : Words} → SpellsHead h b a → SpellsHead k b c → (h ≡ k) × (a ≡ c)
one_head program_head program_head = (refl, refl)
one_head compool_head compool_head = (refl, refl)
one_head task_head task_head = (refl, refl)
one_head (procedure_head i o m) (procedure_head j u n) =
    let r = one_inputs i j in
    let s = one_outputs o (back SpellsOutputs r.1 u) in
    let t = one_mode_end m (back SpellsModeEnd s.1 n) in (procedure_same r.0 s.0 t.0, t.1)
one_head (function_head i m) (function_head j n) =
    let r = one_inputs i j in
    let s = one_returns_end m (back₂ SpellsReturnsEnd r.1 n) in (function_same r.0 s.0 s.1, s.2)

pub head_starts : {h : Head} {b a : Words} → SpellsHead h b a → starts b ≡ 2
head_starts program_head = refl
head_starts compool_head = refl
head_starts task_head = refl
head_starts (procedure_head i o m) = refl
head_starts (function_head i m) = refl

-- a statement is no unit
pub statement_apart : {s : Statement} {u : Block} {b a c : Words} → SpellsStatement s b a → SpellsBlock u b c → ⊥
statement_apart (labelled (no_labels n) d) (block h ds es q) = n begins_label
statement_apart (labelled (more_labels ls) d) (block h ds es q) = (statement_starts (labelled ls d)).1 (head_starts h)

block_not_close : {u : Block} {p : Place} {b a : Words} → SpellsBlock u (reserved_then reserved.Close p b) a → ⊥
block_not_close d = go d refl
  where
    go : {u : Block} {p : Place} {w b a : Words} → SpellsBlock u w a → w ≡ reserved_then reserved.Close p b → ⊥
    go (block h ds es q) e = absurd (omega (arith, ap starts e))

block_same : {x : Naming} {h k : Head} {ds es : List Declaration} {fs gs : Elements} {c d : Option Naming} → h ≡ k → ds ≡ es → fs ≡ gs → c ≡ d → BlockOf x h ds fs c ≡ BlockOf x k es gs d
block_same e f g h = cc

mutual
  pub one_block : {u v : Block} {b a c : Words} → SpellsBlock u b a → SpellsBlock v b c → (u ≡ v) × (a ≡ c)
  one_block (block h ds es q) (block k fs gs r) =
      let s = one_head h k in
      let t = one_declarations ds (back SpellsDeclarations s.1 fs) in
      let u = one_elements es (back₂ SpellsElements t.1 gs) in (block_same s.0 t.0 u.0 u.1, u.2)

  pub one_elements : {es fs : Elements} {m n : Option Naming} {b a c : Words} → SpellsElements es m b a → SpellsElements fs n b c → (es ≡ fs) × (m ≡ n) × (a ≡ c)
  one_elements (closed d) (closed e) = let r = one_name_end d e in (refl, r.0, r.1)
  one_elements (closed d) (statement_first e es) = absurd ((statement_starts e).0 refl)
  one_elements (closed d) (block_first e s es) = absurd (block_not_close e)
  one_elements (statement_first d ds) (closed e) = absurd ((statement_starts d).0 refl)
  one_elements (statement_first d ds) (statement_first e es) =
      let r = one_statement d e in
      let s = one_elements ds (back₂ SpellsElements r.1 es) in (ap₂ StatementFirst r.0 s.0, s.1, s.2)
  one_elements (statement_first d ds) (block_first e s es) = absurd (statement_apart d e)
  one_elements (block_first d s ds) (closed e) = absurd (block_not_close d)
  one_elements (block_first d s ds) (statement_first e es) = absurd (statement_apart e d)
  one_elements (block_first d s ds) (block_first e z es) =
      let r = one_block d e in
      let t = one_elements ds (back₂ SpellsElements r.1 es) in (ap₂ BlockFirst r.0 t.0, t.1, t.2)

template_same : {x : Naming} {h k : Head} {ds es : List Declaration} {c d : Option Naming} → h ≡ k → ds ≡ es → c ≡ d → template_of x h ds c ≡ template_of x k es d
template_same {x = x} {k = k} {es = es} {c = c} e f g = ap₂ (λ h s. template_of x h s c) e f ∙ ap (λ n. template_of x k es n) g

pub one_template : {t u : Template} {b a c : Words} → SpellsTemplate t b a → SpellsTemplate u b c → (t ≡ u) × (a ≡ c)
one_template (template h ds n) (template k es m) =
    let r = one_head h k in
    let s = one_declarations ds (back SpellsDeclarations r.1 es) in
    let t = one_name_end n (back SpellsNameEnd (tail_same s.1) m) in (template_same r.0 s.0 t.0, t.1)

template_not_include : {t : Template} {p : Place} {b a : Words} → SpellsTemplate t (reserved_then reserved.Include p b) a → ⊥
template_not_include d = go d refl
  where
    go : {t : Template} {p : Place} {w b a : Words} → SpellsTemplate t w a → w ≡ reserved_then reserved.Include p b → ⊥
    go (template h ds n) e = absurd (omega (arith, ap starts e))

pub one_preface : {x y : Preface} {b a c : Words} → SpellsPreface x b a → SpellsPreface y b c → (x ≡ y) × (a ≡ c)
one_preface includes includes = (refl, refl)
one_preface includes (templates e) = absurd (template_not_include e)
one_preface (templates d) includes = absurd (template_not_include d)
one_preface (templates d) (templates e) = let r = one_template d e in (ap Templates r.0, r.1)

-- a unit is no include and no template
pub block_apart : {u : Block} {x : Preface} {b a c : Words} → SpellsBlock u b a → SpellsPreface x b c → ⊥
block_apart (block h ds es q) (templates (template k fs n)) = absurd (omega (arith, head_starts h))

prefaces_same : {x y : Preface} {xs ys : List Preface} {u v : Block} → x ≡ y → file_of xs u ≡ file_of ys v → file_of (x ∷ xs) u ≡ file_of (y ∷ ys) v
prefaces_same e f = ap₂ (λ x (g : File). file_of (x ∷ g.prefaces) g.block) e f

pub one_file : {f g : File} {b a c : Words} → SpellsFile f b a → SpellsFile g b c → (f ≡ g) × (a ≡ c)
one_file (block_alone d) (block_alone e) = let r = one_block d e in (ap (λ u. file_of [] u) r.0, r.1)
one_file (block_alone d) (preface_first e es) = absurd (block_apart d e)
one_file (preface_first d ds) (block_alone e) = absurd (block_apart e d)
one_file (preface_first d ds) (preface_first e es) =
    let r = one_preface d e in
    let s = one_file ds (back SpellsFile r.1 es) in (prefaces_same r.0 s.0, s.1)
