-- Each phrase of a set of files is followed by what it opens: a file by its unit, a template or unit by what it declares.
use Rattle.std.proofs.Common.{ℕ, suc, Bool, List, [], ◌∷◌, length, refl, subst}
use Rattle.hal_grammar.specs.Leaves.{Naming}
use Rattle.hal_grammar.specs.Declarations.{Declaration}
use Rattle.hal_grammar.specs.Units.{Returns, NoKind, HasKind, Head, Program, Compool, Task, Procedure, Function, Block, BlockOf, Elements, NoElements, StatementFirst, BlockFirst, Template, Preface, Include, Templates, File}
use Rattle.hal_phrases.specs.declared.around.Around.{Around}
use Rattle.hal_phrases.specs.Surroundings.{in_file, behind, opened}
use Rattle.hal_phrases.specs.Phrases.{Phrase, Node, phrase, add, gathered_each, gathered_any, OfFile, OfInclude, OfParameter, OfTemplate, OfUnit}
use Rattle.hal_phrases.specs.GatheredDeclarations.{gathered_declaration}
use Rattle.hal_phrases.specs.GatheredStatements.{gathered_close}
use Rattle.hal_phrases.specs.GatheredUnits.{gathered_parameter, gathered_returns, gathered_head, gathered_block, gathered_elements, around_template, gathered_template, gathered_preface, gathered_prefaces, name_of_block, gathered_file, phrases_of}
use Rattle.hal_names.specs.Keys.{declared_at}
use Rattle.hal_scope.specs.Rules.{IsAmong}
use Rattle.hal_templates.specs.Entries.{entries}
use Rattle.hal_templates.specs.Heads.{is_compool}
use Rattle.hal_templates.proofs.Followed.{AreThere, IsUnitThere, IsFollowed, Adds, nothing, then_, opening, one, each, stays, all_stay, is_there}
use Rattle.hal_templates.proofs.FollowedDeclarations.{kind_adds, declaration_adds, declared_there}
use Rattle.hal_templates.proofs.FollowedStatements.{close_adds, statement_adds}

parameters_adds : (a : Around) (output : Bool) (d : List Phrase) (xs : List Naming) → Adds d (gathered_each (gathered_parameter a output) d xs)
unfolding declared_at
parameters_adds a output d xs = each (gathered_parameter a output) (λ e x. one e a (OfParameter x output) (refl, refl)) d xs

returns_adds : (d : List Phrase) (a : Around) (x : Returns) → Adds d (gathered_returns d a x)
unfolding gathered_returns
returns_adds d a NoKind = nothing d
returns_adds d a (HasKind kind precision) = kind_adds d a kind

head_adds : (d : List Phrase) (a : Around) (x : Head) → Adds d (gathered_head d a x)
unfolding gathered_head
head_adds d a (Program p) = nothing d
head_adds d a (Compool p) = nothing d
head_adds d a (Task p) = nothing d
head_adds d a (Procedure p inputs outputs mode) = then_ (parameters_adds a _ d inputs) (parameters_adds a _ _ outputs)
head_adds d a (Function p inputs returns mode) = then_ (parameters_adds a _ d inputs) (returns_adds _ a returns)

-- the declarations of a body, and what stands behind them
abbrev with_declarations : List Phrase → Around → Node → Around → Head → Around → List Declaration → List Phrase
with_declarations d a n b head c declarations = gathered_each (gathered_declaration c) (gathered_head (add d a n) b head) declarations

declarations_add : (d : List Phrase) (a : Around) (n : Node) (b : Around) (head : Head) (c : Around) (declarations : List Declaration) → Adds (add d a n) (with_declarations d a n b head c declarations)
declarations_add d a n b head c declarations = then_ (head_adds (add d a n) b head) (each (gathered_declaration c) (declaration_adds c) (gathered_head (add d a n) b head) declarations)

all_there : (d : List Phrase) (a : Around) (n : Node) (b : Around) (head : Head) (c : Around) (declarations : List Declaration) (e : List Phrase) → Adds (with_declarations d a n b head c declarations) e
    → AreThere e c.home (entries declarations)
all_there d a n b head c declarations e adds = all_stay c.home (entries declarations) adds (declared_there c (gathered_head (add d a n) b head) declarations)

mutual
  unfolding gathered_block gathered_elements declared_at

  block_adds : (d : List Phrase) (a : Around) (x : Block) → Adds d (gathered_block d a x)
  block_adds d a (BlockOf name head declarations body close) =
      let inner = then_ (elements_adds (with_declarations d a (OfUnit name head declarations) (opened (length d) a) head (opened (length d) a) declarations) (opened (length d) a) body)
      (close_adds (opened (length d) a) _ close) in
      opening d a (OfUnit name head declarations) _
      (record { unit = tt; body = all_there d a (OfUnit name head declarations) (opened (length d) a) head (opened (length d) a) declarations _ inner })
      (then_ (declarations_add d a (OfUnit name head declarations) (opened (length d) a) head (opened (length d) a) declarations) inner)

  elements_adds : (d : List Phrase) (a : Around) (x : Elements) → Adds d (gathered_elements d a x)
  elements_adds d a NoElements = nothing d
  elements_adds d a (StatementFirst statement others) = then_ (statement_adds d a statement) (elements_adds _ a others)
  elements_adds d a (BlockFirst block others) = then_ (block_adds d a block) (elements_adds _ a others)

template_adds : (a : Around) (d : List Phrase) (t : Template) → Adds d (gathered_template d a t)
unfolding gathered_template around_template is_compool declared_at
template_adds a d t = by t.head
  where
    -- with the declarations in this block
    in_block : (head : Head) (c : Around)
        → (AreThere (gathered_any (gathered_close (opened (length d) a)) (with_declarations d a (OfTemplate t.name head t.declarations) (opened (length d) a) head c t.declarations) t.close) c.home (entries t.declarations)
        → IsFollowed (gathered_any (gathered_close (opened (length d) a)) (with_declarations d a (OfTemplate t.name head t.declarations) (opened (length d) a) head c t.declarations) t.close) (phrase (length d) a (OfTemplate t.name head t.declarations)))
        → Adds d (gathered_any (gathered_close (opened (length d) a)) (with_declarations d a (OfTemplate t.name head t.declarations) (opened (length d) a) head c t.declarations) t.close)
    in_block head c is =
        let inner = close_adds (opened (length d) a) (with_declarations d a (OfTemplate t.name head t.declarations) (opened (length d) a) head c t.declarations) t.close in
        opening d a (OfTemplate t.name head t.declarations) _ (is (all_there d a (OfTemplate t.name head t.declarations) (opened (length d) a) head c t.declarations _ inner))
        (then_ (declarations_add d a (OfTemplate t.name head t.declarations) (opened (length d) a) head c t.declarations) inner)

    by : (head : Head) → Adds d (gathered_any (gathered_close (opened (length d) a)) (gathered_each (gathered_declaration (around_template (length d) a head)) (gathered_head (add d a (OfTemplate t.name head t.declarations)) (opened (length d) a) head) t.declarations) t.close)
    by (Program p) = in_block (Program p) (opened (length d) a) (λ there. record { unit = tt; body = there })
    by (Compool p) = in_block (Compool p) a (λ there. record { unit = tt; body = there })
    by (Task p) = in_block (Task p) (opened (length d) a) (λ there. record { unit = tt; body = there })
    by (Procedure p inputs outputs mode) = in_block (Procedure p inputs outputs mode) (opened (length d) a) (λ there. record { unit = tt; body = there })
    by (Function p inputs returns mode) = in_block (Function p inputs returns mode) (opened (length d) a) (λ there. record { unit = tt; body = there })

preface_adds : (d : List Phrase) (a : Around) (x : Preface) → Adds d (gathered_preface d a x)
unfolding gathered_preface declared_at
preface_adds d a (Include p name) = one d a (OfInclude name) (refl, refl)
preface_adds d a (Templates template) = template_adds a d template

prefaces_adds : (d : List Phrase) (a : Around) (n : ℕ) (xs : List Preface) → Adds d (gathered_prefaces d a n xs)
unfolding gathered_prefaces
prefaces_adds d a n [] = nothing d
prefaces_adds d a n (x ∷ xs) = then_ (preface_adds d (behind n a) x) (prefaces_adds (gathered_preface d (behind n a) x) a (suc n) xs)

-- a unit is there, in the block around it
unit_there : (d : List Phrase) (a : Around) (x : Block) → IsUnitThere (gathered_block d a x) a.home (name_of_block x).name
unfolding gathered_block name_of_block
unit_there d a (BlockOf name head declarations body close) =
    let inner = then_ (declarations_add d a (OfUnit name head declarations) (opened (length d) a) head (opened (length d) a) declarations)
    (then_ (elements_adds (with_declarations d a (OfUnit name head declarations) (opened (length d) a) head (opened (length d) a) declarations) (opened (length d) a) body) (close_adds (opened (length d) a) _ close)) in
    record { naming = name; head = head; declarations = declarations; named = refl; unit = stays inner (is_there d a (OfUnit name head declarations)) }

file_adds : (d : List Phrase) (f : File) → Adds d (gathered_file d f)
unfolding gathered_file declared_at
file_adds d f =
    let a : Around = in_file (length d) in
    let named = prefaces_adds (add d a (OfFile f.prefaces (name_of_block f.block))) a 0 f.prefaces in
    let body = block_adds (gathered_prefaces (add d a (OfFile f.prefaces (name_of_block f.block))) a 0 f.prefaces) (behind (length f.prefaces) a) f.block in
    opening d a (OfFile f.prefaces (name_of_block f.block)) _
    (record { unit = unit_there (gathered_prefaces (add d a (OfFile f.prefaces (name_of_block f.block))) a 0 f.prefaces) (behind (length f.prefaces) a) f.block; body = tt }) (then_ named body)

all_added : (files : List File) → Adds [] (phrases_of files)
unfolding phrases_of
all_added files = each gathered_file file_adds [] files

pub all_followed : (files : List File) (p : Phrase) → IsAmong p (phrases_of files) → IsFollowed (phrases_of files) p
all_followed files p there = (all_added files).followed p (subst (IsAmong p) (all_added files).whole there)
