-- The phrases of units, templates and files stand in blocks of their units; and so do those of a set of files.
use Rattle.std.proofs.Common.{ℕ, suc, Bool, List, [], ◌∷◌, length, Option, sym, subst}
use Rattle.hal_grammar.specs.Leaves.{Naming}
use Rattle.hal_grammar.specs.Units.{Returns, NoKind, HasKind, Head, Program, Compool, Task, Procedure, Function, Block, BlockOf, Elements, NoElements, StatementFirst, BlockFirst, Template, Preface, Include, Templates, File}
use Rattle.hal_grammar.specs.Declarations.{Declaration}
use Rattle.hal_phrases.specs.declared.around.Around.{Around}
use Rattle.hal_phrases.specs.Surroundings.{in_file, behind, opened}
use Rattle.hal_phrases.specs.Phrases.{Phrase, Node, add, gathered_each, gathered_any, OfFile, OfTemplate}
use Rattle.hal_phrases.specs.GatheredDeclarations.{gathered_declaration}
use Rattle.hal_phrases.specs.GatheredStatements.{gathered_close}
use Rattle.hal_phrases.specs.GatheredUnits.{gathered_parameter, gathered_returns, gathered_head, gathered_block, gathered_elements, around_template, gathered_template, gathered_preface, gathered_prefaces, name_of_block, gathered_file, phrases_of}
use Rattle.hal_right_images.specs.rows.Homes.{AtHome, StandsHome}
use Rattle.hal_right_images.proofs.rows.Homing.{StepIn, no_step, then_, one, within_, opening, each}
use Rattle.hal_right_images.proofs.rows.Told.{begins_all}
use Rattle.hal_fit_calls.specs.Each.{Each}
use Rattle.hal_right_images.proofs.rows.HomingDeclarations.{kind_step, declaration_step}
use Rattle.hal_right_images.proofs.rows.HomingStatements.{close_step, statement_step}

parameters_step : (a : Around) (output : Bool) (d : List Phrase) (xs : List Naming) → StepIn a.home a.block d (gathered_each (gathered_parameter a output) d xs)
parameters_step a output d xs = each a.home a.block (gathered_parameter a output) (λ e x. one e a _) d xs

returns_step : (d : List Phrase) (a : Around) (x : Returns) → StepIn a.home a.block d (gathered_returns d a x)
unfolding gathered_returns
returns_step d a NoKind = no_step a.home a.block d
returns_step d a (HasKind kind precision) = kind_step d a kind

head_step : (d : List Phrase) (a : Around) (x : Head) → StepIn a.home a.block d (gathered_head d a x)
unfolding gathered_head
head_step d a (Program p) = no_step a.home a.block d
head_step d a (Compool p) = no_step a.home a.block d
head_step d a (Task p) = no_step a.home a.block d
head_step d a (Procedure p inputs outputs mode) = then_ (parameters_step a _ d inputs) (parameters_step a _ _ outputs)
head_step d a (Function p inputs returns mode) = then_ (parameters_step a _ d inputs) (returns_step _ a returns)

declarations_step : (a : Around) (d : List Phrase) (xs : List Declaration) → StepIn a.home a.block d (gathered_each (gathered_declaration a) d xs)
declarations_step a d xs = each a.home a.block (gathered_declaration a) (declaration_step a) d xs

mutual
  unfolding gathered_block gathered_elements

  block_step : (d : List Phrase) (a : Around) (x : Block) → StepIn a.home a.block d (gathered_block d a x)
  block_step d a (BlockOf name head declarations body close) =
      opening d a _ _ (then_ (head_step _ (opened (length d) a) head) (then_ (declarations_step (opened (length d) a) _ declarations)
      (then_ (elements_step _ (opened (length d) a) body) (close_step (opened (length d) a) _ close))))

  elements_step : (d : List Phrase) (a : Around) (x : Elements) → StepIn a.home a.block d (gathered_elements d a x)
  elements_step d a NoElements = no_step a.home a.block d
  elements_step d a (StatementFirst statement others) = then_ (statement_step d a statement) (elements_step _ a others)
  elements_step d a (BlockFirst block others) = then_ (block_step d a block) (elements_step _ a others)

-- a template whose declarations belong to itself
own_template_step : (d : List Phrase) (a : Around) (n : Node) (head : Head) (declarations : List Declaration) (close : Option Naming)
    → StepIn a.home a.block d (gathered_any (gathered_close (opened (length d) a)) (gathered_each (gathered_declaration (opened (length d) a)) (gathered_head (add d a n) (opened (length d) a) head) declarations) close)
own_template_step d a n head declarations close =
    opening d a n _ (then_ (head_step _ (opened (length d) a) head) (then_ (declarations_step (opened (length d) a) _ declarations) (close_step (opened (length d) a) _ close)))

-- a template whose declarations belong to the file
compool_template_step : (d : List Phrase) (a : Around) (n : Node) (declarations : List Declaration) (close : Option Naming)
    → StepIn a.home a.block d (gathered_any (gathered_close (opened (length d) a)) (gathered_each (gathered_declaration a) (add d a n) declarations) close)
compool_template_step d a n declarations close = then_ (one d a n) (then_ (declarations_step a (add d a n) declarations) (within_ (close_step (opened (length d) a) _ close)))

template_step : (a : Around) (d : List Phrase) (t : Template) → StepIn a.home a.block d (gathered_template d a t)
unfolding gathered_template around_template gathered_head
template_step a d t = by t.head
  where
    by : (head : Head) → StepIn a.home a.block d (gathered_any (gathered_close (opened (length d) a)) (gathered_each (gathered_declaration (around_template (length d) a head)) (gathered_head (add d a (OfTemplate t.name head t.declarations)) (opened (length d) a) head) t.declarations) t.close)
    by (Program p) = own_template_step d a _ (Program p) t.declarations t.close
    by (Compool p) = compool_template_step d a _ t.declarations t.close
    by (Task p) = own_template_step d a _ (Task p) t.declarations t.close
    by (Procedure p inputs outputs mode) = own_template_step d a _ (Procedure p inputs outputs mode) t.declarations t.close
    by (Function p inputs returns mode) = own_template_step d a _ (Function p inputs returns mode) t.declarations t.close

preface_step : (d : List Phrase) (a : Around) (x : Preface) → StepIn a.home a.block d (gathered_preface d a x)
unfolding gathered_preface
preface_step d a (Include p name) = one d a _
preface_step d a (Templates template) = template_step a d template

prefaces_step : (d : List Phrase) (a : Around) (n : ℕ) (xs : List Preface) → StepIn a.home a.block d (gathered_prefaces d a n xs)
unfolding gathered_prefaces
prefaces_step d a n [] = no_step a.home a.block d
prefaces_step d a n (x ∷ xs) = then_ (preface_step d (behind n a) x) (prefaces_step (gathered_preface d (behind n a) x) a (suc n) xs)

file_step : (d : List Phrase) (f : File) → StepIn (length d) (length d) d (gathered_file d f)
unfolding gathered_file
file_step d f =
    let a : Around = in_file (length d) in
    then_ (one d a (OfFile f.prefaces (name_of_block f.block)))
    (then_ (prefaces_step (add d a (OfFile f.prefaces (name_of_block f.block))) a 0 f.prefaces) (block_step _ (behind (length f.prefaces) a) f.block))

files_step : (home block : ℕ) (d : List Phrase) (fs : List File) → StepIn home block d (gathered_each gathered_file d fs)
files_step home block d [] = no_step home block d
files_step home block d (f ∷ fs) = then_ (within_ (file_step d f)) (files_step home block (gathered_file d f) fs)

-- those of a set
pub all_home : (files : List File) → Each (StandsHome (phrases_of files)) (phrases_of files)
unfolding phrases_of
all_home files =
    let all = files_step 0 0 [] files in
    let ps : List Phrase = gathered_each gathered_file [] files in
    subst (Each (StandsHome ps)) (sym all.whole) (all.each ps (begins_all ps) AtHome)
