-- The references that are arguments in units and files stand among their phrases; and so do those of a set of files.
use Rattle.std.proofs.Common.{ℕ, suc, Bool, List, [], ◌∷◌, length, refl, sym, subst}
use Rattle.hal_grammar.specs.Leaves.{Naming}
use Rattle.hal_grammar.specs.Units.{Returns, NoKind, HasKind, Head, Program, Compool, Task, Procedure, Function, Block, BlockOf, Elements, NoElements, StatementFirst, BlockFirst, Template, Preface, Include, Templates, File}
use Rattle.hal_grammar.specs.Declarations.{Declaration}
use Rattle.hal_phrases.specs.declared.around.Around.{Around}
use Rattle.hal_phrases.specs.Surroundings.{in_file, behind, opened}
use Rattle.hal_phrases.specs.Phrases.{Phrase, gathered_each, OfFile, OfTemplate, OfUnit}
use Rattle.hal_phrases.specs.GatheredDeclarations.{gathered_declaration}
use Rattle.hal_phrases.specs.GatheredUnits.{gathered_parameter, gathered_returns, gathered_head, gathered_block, gathered_elements, around_template, gathered_template, gathered_preface, gathered_prefaces, name_of_block, gathered_file, phrases_of}
use Rattle.hal_fit_calls.specs.Each.{Each}
use Rattle.hal_fit_rules.proofs.Beginning as begun
use Rattle.hal_right_images.specs.areas.Said.{IsSaid}
use Rattle.hal_right_images.proofs.areas.Arguing.{Puts, no_step, then_, one, each}
use Rattle.hal_right_images.proofs.areas.ArguingDeclarations.{kind_step, declaration_step}
use Rattle.hal_right_images.proofs.areas.ArguingStatements.{close_step, statement_step}

parameters_step : (a : Around) (output : Bool) (d : List Phrase) (xs : List Naming) → Puts d (gathered_each (gathered_parameter a output) d xs)
parameters_step a output d xs = each (gathered_parameter a output) (λ e x. one e a _ refl) d xs

returns_step : (d : List Phrase) (a : Around) (x : Returns) → Puts d (gathered_returns d a x)
unfolding gathered_returns
returns_step d a NoKind = no_step d
returns_step d a (HasKind kind precision) = kind_step d a kind

head_step : (d : List Phrase) (a : Around) (x : Head) → Puts d (gathered_head d a x)
unfolding gathered_head
head_step d a (Program p) = no_step d
head_step d a (Compool p) = no_step d
head_step d a (Task p) = no_step d
head_step d a (Procedure p inputs outputs mode) = then_ (parameters_step a _ d inputs) (parameters_step a _ _ outputs)
head_step d a (Function p inputs returns mode) = then_ (parameters_step a _ d inputs) (returns_step _ a returns)

declarations_step : (a : Around) (d : List Phrase) (xs : List Declaration) → Puts d (gathered_each (gathered_declaration a) d xs)
declarations_step a d xs = each (gathered_declaration a) (declaration_step a) d xs

mutual
  unfolding gathered_block gathered_elements

  block_step : (d : List Phrase) (a : Around) (x : Block) → Puts d (gathered_block d a x)
  block_step d a (BlockOf name head declarations body close) =
      let k : Around = opened (length d) a in
      then_ (one d a (OfUnit name head declarations) refl) (then_ (head_step _ k head) (then_ (declarations_step k _ declarations) (then_ (elements_step _ k body) (close_step k _ close))))

  elements_step : (d : List Phrase) (a : Around) (x : Elements) → Puts d (gathered_elements d a x)
  elements_step d a NoElements = no_step d
  elements_step d a (StatementFirst statement others) = then_ (statement_step d a statement) (elements_step _ a others)
  elements_step d a (BlockFirst block others) = then_ (block_step d a block) (elements_step _ a others)

template_step : (a : Around) (d : List Phrase) (t : Template) → Puts d (gathered_template d a t)
unfolding gathered_template
template_step a d t =
    then_ (one d a (OfTemplate t.name t.head t.declarations) refl) (then_ (head_step _ (opened (length d) a) t.head)
    (then_ (declarations_step (around_template (length d) a t.head) _ t.declarations) (close_step (opened (length d) a) _ t.close)))

preface_step : (d : List Phrase) (a : Around) (x : Preface) → Puts d (gathered_preface d a x)
unfolding gathered_preface
preface_step d a (Include p name) = one d a _ refl
preface_step d a (Templates template) = template_step a d template

prefaces_step : (d : List Phrase) (a : Around) (n : ℕ) (xs : List Preface) → Puts d (gathered_prefaces d a n xs)
unfolding gathered_prefaces
prefaces_step d a n [] = no_step d
prefaces_step d a n (x ∷ xs) = then_ (preface_step d (behind n a) x) (prefaces_step (gathered_preface d (behind n a) x) a (suc n) xs)

file_step : (d : List Phrase) (f : File) → Puts d (gathered_file d f)
unfolding gathered_file
file_step d f =
    let a : Around = in_file (length d) in
    then_ (one d a (OfFile f.prefaces (name_of_block f.block)) refl) (then_ (prefaces_step _ a 0 f.prefaces) (block_step _ (behind (length f.prefaces) a) f.block))

files_step : (d : List Phrase) (fs : List File) → Puts d (gathered_each gathered_file d fs)
files_step d [] = no_step d
files_step d (f ∷ fs) = then_ (file_step d f) (files_step (gathered_file d f) fs)

-- those of a set
pub all_said : (files : List File) → Each (IsSaid (phrases_of files)) (phrases_of files)
unfolding phrases_of
all_said files =
    let all = files_step [] files in
    let ps : List Phrase = gathered_each gathered_file [] files in
    subst (Each (IsSaid ps)) (sym all.whole) (all.each ps (begun.no_step ps))
