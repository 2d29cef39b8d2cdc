-- Each phrase of a file takes a word at least, and each one that may be left out none at least.
use Rattle.std.proofs.Common.{◌<◌, ◌≤◌, List, length, arith, Option}
use Rattle.hal_grammar.specs.Leaves.{Naming}
use Rattle.hal_grammar.specs.Units.{Mode, Precision, Returns, Head, Block, Elements, Template, Preface, File}
use Rattle.hal_grammar.specs.Words.{Words}
use Rattle.hal_grammar.specs.SpellsFiles.{SpellsInputs, no_inputs, input_names, SpellsOutputs, no_outputs, output_names, SpellsModeEnd, no_mode_end, reenters_end, excludes_end, SpellsPrecisionEnd, no_precision, single_precision, double_precision, SpellsReturnsEnd, no_kind, has_kind, SpellsHead, program_head, compool_head, task_head, procedure_head, function_head, SpellsBlock, block, SpellsElements, closed, statement_first, block_first, SpellsTemplate, template, SpellsPreface, includes, templates, SpellsFile, block_alone, preface_first}
use Rattle.hal_grammar.proofs.ShorterDeclarations.{names_shorter, name_end_shorter, kind_shorter, declarations_shorter}
use Rattle.hal_grammar.proofs.ShorterStatements.{statement_shorter}

inputs_shorter : {ns : List Naming} {b a : Words} → SpellsInputs ns b a → length a ≤ length b
inputs_shorter (no_inputs n) = omega arith
inputs_shorter (input_names d) = omega (arith, names_shorter d)

outputs_shorter : {ns : List Naming} {b a : Words} → SpellsOutputs ns b a → length a ≤ length b
outputs_shorter (no_outputs n) = omega arith
outputs_shorter (output_names d) = omega (arith, names_shorter d)

mode_shorter : {m : Option Mode} {b a : Words} → SpellsModeEnd m b a → length a < length b
mode_shorter no_mode_end = omega arith
mode_shorter reenters_end = omega arith
mode_shorter excludes_end = omega arith

precision_shorter : {x : Option Precision} {m : Option Mode} {b a : Words} → SpellsPrecisionEnd x m b a → length a < length b
precision_shorter (no_precision d) = mode_shorter d
precision_shorter (single_precision d) = omega (arith, mode_shorter d)
precision_shorter (double_precision d) = omega (arith, mode_shorter d)

returns_shorter : {x : Returns} {m : Option Mode} {b a : Words} → SpellsReturnsEnd x m b a → length a < length b
returns_shorter (no_kind d) = mode_shorter d
returns_shorter (has_kind k d) = omega (arith, kind_shorter k, precision_shorter d)

pub head_shorter : {h : Head} {b a : Words} → SpellsHead h b a → length a < length b
head_shorter program_head = omega arith
head_shorter compool_head = omega arith
head_shorter task_head = omega arith
head_shorter (procedure_head i o m) = omega (arith, inputs_shorter i, outputs_shorter o, mode_shorter m)
head_shorter (function_head i m) = omega (arith, inputs_shorter i, returns_shorter m)

mutual
  pub block_shorter : {u : Block} {b a : Words} → SpellsBlock u b a → length a < length b
  block_shorter (block h ds es q) = omega (arith, head_shorter h, declarations_shorter ds, elements_shorter es)

  pub elements_shorter : {es : Elements} {c : Option Naming} {b a : Words} → SpellsElements es c b a → length a < length b
  elements_shorter (closed d) = omega (arith, name_end_shorter d)
  elements_shorter (statement_first d ds) = omega (arith, statement_shorter d, elements_shorter ds)
  elements_shorter (block_first d s ds) = omega (arith, block_shorter d, elements_shorter ds)

pub template_shorter : {t : Template} {b a : Words} → SpellsTemplate t b a → length a < length b
template_shorter (template h ds n) = omega (arith, head_shorter h, declarations_shorter ds, name_end_shorter n)

pub preface_shorter : {x : Preface} {b a : Words} → SpellsPreface x b a → length a < length b
preface_shorter includes = omega arith
preface_shorter (templates d) = template_shorter d

pub file_shorter : {f : File} {b a : Words} → SpellsFile f b a → length a < length b
file_shorter (block_alone d) = block_shorter d
file_shorter (preface_first d ds) = omega (arith, preface_shorter d, file_shorter ds)
