-- Those of units and files that say that a group has own places stand in that group; and so do those of a set of files.
use Rattle.std.proofs.Common.{◌≡◌, ℕ, suc, Bool, true, false, List, [], ◌∷◌, length, Option, refl, sym, subst}
use Rattle.hal_grammar.specs.Leaves.{Naming}
use Rattle.hal_grammar.specs.Units.{Returns, NoKind, HasKind, Head, Program, Compool, Task, Procedure, Function, Block, BlockOf, Elements, NoElements, StatementFirst, BlockFirst, Template, Preface, Include, Templates, File}
use Rattle.hal_grammar.specs.Declarations.{Declaration}
use Rattle.hal_phrases.specs.declared.around.Around.{Around}
use Rattle.hal_phrases.specs.Surroundings.{in_file, behind, opened}
use Rattle.hal_phrases.specs.Phrases.{Phrase, Node, add, gathered_each, gathered_any, phrase, OfFile, OfTemplate, OfUnit}
use Rattle.hal_phrases.specs.GatheredDeclarations.{gathered_declaration}
use Rattle.hal_phrases.specs.GatheredStatements.{gathered_close, gathered_statement}
use Rattle.hal_phrases.specs.GatheredUnits.{gathered_parameter, gathered_returns, gathered_head, gathered_block, gathered_elements, around_template, gathered_template, gathered_preface, gathered_prefaces, name_of_block, gathered_file, phrases_of}
use Rattle.hal_names.specs.Means.{prefaces_of}
use Rattle.hal_meaning.specs.Bodies.{is_unit}
use Rattle.hal_meaning.specs.Places.{says_for_or_case}
use Rattle.hal_right_images.specs.rows.Homes.{IsUnit, IsFile, StandsPlaced}
use Rattle.hal_right_images.proofs.rows.Grouping.{Puts, Outside, outside_on, unit_put, no_step, then_, one, each}
use Rattle.hal_right_images.proofs.rows.Told.{begins_all, there}
use Rattle.hal_fit_calls.specs.Each.{Each}
use Rattle.hal_right_images.proofs.rows.GroupingDeclarations.{kind_step, declaration_step}
use Rattle.hal_right_images.proofs.rows.GroupingStatements.{close_step, statement_step}

parameters_step : (a : Around) (output : Bool) (d : List Phrase) (xs : List Naming) → Puts d (gathered_each (gathered_parameter a output) d xs)
parameters_step a output d xs = each (gathered_parameter a output) (λ e x. one e a _ refl refl) d xs

returns_step : (d : List Phrase) (a : Around) (x : Returns) → Puts d (gathered_returns d a x)
unfolding gathered_returns
returns_step d a NoKind = no_step d
returns_step d a (HasKind kind precision) = kind_step d a kind

head_step : (d : List Phrase) (a : Around) (x : Head) → Puts d (gathered_head d a x)
unfolding gathered_head
head_step d a (Program p) = no_step d
head_step d a (Compool p) = no_step d
head_step d a (Task p) = no_step d
head_step d a (Procedure p inputs outputs mode) = then_ (parameters_step a _ d inputs) (parameters_step a _ _ outputs)
head_step d a (Function p inputs returns mode) = then_ (parameters_step a _ d inputs) (returns_step _ a returns)

declarations_step : (a : Around) (d : List Phrase) (xs : List Declaration) → Puts d (gathered_each (gathered_declaration a) d xs)
declarations_step a d xs = each (gathered_declaration a) (declaration_step a) d xs

-- a unit is what stands around its parts
unit_outside : (d : List Phrase) (a : Around) (n : Node) → is_unit n ≡ true → Outside (opened (length d) a) (add d a n)
unit_outside d a n is ps begins = IsUnit (phrase (length d) a n) (there ps d a n begins) is

-- and so is a file
file_outside : (d : List Phrase) (a : Around) (prefaces : List Preface) (name : Naming) → Outside (in_file (length d)) (add d a (OfFile prefaces name))
unfolding prefaces_of
file_outside d a prefaces name ps begins = IsFile (phrase (length d) a (OfFile prefaces name)) prefaces (there ps d a (OfFile prefaces name) begins) refl

mutual
  unfolding gathered_block gathered_elements

  block_step : (d : List Phrase) (a : Around) (x : Block) → a.block ≡ a.home → Outside a d → Puts d (gathered_block d a x)
  block_step d a (BlockOf name head declarations body close) direct outside =
      let k : Around = opened (length d) a in
      let own = unit_put d a (OfUnit name head declarations) refl direct outside in
      let heads = head_step (add d a (OfUnit name head declarations)) k head in
      let declared = declarations_step k (gathered_head (add d a (OfUnit name head declarations)) k head) declarations in
      then_ own (then_ heads (then_ declared
      (then_ (elements_step _ k body refl (outside_on k declared (outside_on k heads (unit_outside d a (OfUnit name head declarations) refl)))) (close_step k _ close))))

  elements_step : (d : List Phrase) (a : Around) (x : Elements) → a.block ≡ a.home → Outside a d → Puts d (gathered_elements d a x)
  elements_step d a NoElements direct outside = no_step d
  elements_step d a (StatementFirst statement others) direct outside =
      let first = statement_step d a statement in
      then_ first (elements_step (gathered_statement d a statement) a others direct (outside_on a first outside))
  elements_step d a (BlockFirst block others) direct outside =
      let first = block_step d a block direct outside in
      then_ first (elements_step (gathered_block d a block) a others direct (outside_on a first outside))

-- a template whose declarations belong to itself
own_template_step : (d : List Phrase) (a : Around) (n : Node) → says_for_or_case n ≡ false → is_unit n ≡ false → (head : Head) (declarations : List Declaration) (close : Option Naming)
    → Puts d (gathered_any (gathered_close (opened (length d) a)) (gathered_each (gathered_declaration (opened (length d) a)) (gathered_head (add d a n) (opened (length d) a) head) declarations) close)
own_template_step d a n isnt no_unit head declarations close =
    then_ (one d a n isnt no_unit) (then_ (head_step _ (opened (length d) a) head) (then_ (declarations_step (opened (length d) a) _ declarations) (close_step (opened (length d) a) _ close)))

-- a template whose declarations belong to the file
compool_template_step : (d : List Phrase) (a : Around) (n : Node) → says_for_or_case n ≡ false → is_unit n ≡ false → (declarations : List Declaration) (close : Option Naming)
    → Puts d (gathered_any (gathered_close (opened (length d) a)) (gathered_each (gathered_declaration a) (add d a n) declarations) close)
compool_template_step d a n isnt no_unit declarations close = then_ (one d a n isnt no_unit) (then_ (declarations_step a (add d a n) declarations) (close_step (opened (length d) a) _ close))

template_step : (a : Around) (d : List Phrase) (t : Template) → Puts d (gathered_template d a t)
unfolding gathered_template around_template gathered_head
template_step a d t = by t.head
  where
    by : (head : Head) → Puts d (gathered_any (gathered_close (opened (length d) a)) (gathered_each (gathered_declaration (around_template (length d) a head)) (gathered_head (add d a (OfTemplate t.name head t.declarations)) (opened (length d) a) head) t.declarations) t.close)
    by (Program p) = own_template_step d a _ refl refl (Program p) t.declarations t.close
    by (Compool p) = compool_template_step d a _ refl refl t.declarations t.close
    by (Task p) = own_template_step d a _ refl refl (Task p) t.declarations t.close
    by (Procedure p inputs outputs mode) = own_template_step d a _ refl refl (Procedure p inputs outputs mode) t.declarations t.close
    by (Function p inputs returns mode) = own_template_step d a _ refl refl (Function p inputs returns mode) t.declarations t.close

preface_step : (d : List Phrase) (a : Around) (x : Preface) → Puts d (gathered_preface d a x)
unfolding gathered_preface
preface_step d a (Include p name) = one d a _ refl refl
preface_step d a (Templates template) = template_step a d template

prefaces_step : (d : List Phrase) (a : Around) (n : ℕ) (xs : List Preface) → Puts d (gathered_prefaces d a n xs)
unfolding gathered_prefaces
prefaces_step d a n [] = no_step d
prefaces_step d a n (x ∷ xs) = then_ (preface_step d (behind n a) x) (prefaces_step (gathered_preface d (behind n a) x) a (suc n) xs)

file_step : (d : List Phrase) (f : File) → Puts d (gathered_file d f)
unfolding gathered_file
file_step d f =
    let a : Around = in_file (length d) in
    let e : List Phrase = add d a (OfFile f.prefaces (name_of_block f.block)) in
    let before = prefaces_step e a 0 f.prefaces in
    then_ (one d a (OfFile f.prefaces (name_of_block f.block)) refl refl)
    (then_ before (block_step (gathered_prefaces e a 0 f.prefaces) (behind (length f.prefaces) a) f.block refl (outside_on (in_file (length d)) before (file_outside d a f.prefaces (name_of_block f.block)))))

files_step : (d : List Phrase) (fs : List File) → Puts d (gathered_each gathered_file d fs)
files_step d [] = no_step d
files_step d (f ∷ fs) = then_ (file_step d f) (files_step (gathered_file d f) fs)

-- those of a set
pub all_grouped : (files : List File) → Each (StandsPlaced (phrases_of files)) (phrases_of files)
unfolding phrases_of
all_grouped files =
    let all = files_step [] files in
    let ps : List Phrase = gathered_each gathered_file [] files in
    subst (Each (StandsPlaced ps)) (sym all.whole) (all.each ps (begins_all ps))
