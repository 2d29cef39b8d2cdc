-- Units stand in files, or in units that may hold them, as the grammar wants of the trees of files.
use Rattle.std.proofs.Common.{◌≡◌, ◌≢◌, ◌∙◌, ℕ, suc, Bool, true, List, [], ◌∷◌, ◌++◌, length, Some, None, slice_get, refl, sym, ap, subst, append-nil, append_assoc}
use Rattle.hal_grammar.specs.Leaves.{Naming}
use Rattle.hal_grammar.specs.Declarations.{Attribute, Declaration, Declare, Declared, Structure}
use Rattle.hal_grammar.specs.Units.{Returns, NoKind, HasKind, Head, Program, Compool, Task, Procedure, Function, Block, BlockOf, Elements, NoElements, StatementFirst, BlockFirst, Template, Preface, Include, Templates, File, stands_inside, holds_elements}
use Rattle.hal_phrases.specs.declared.around.Around.{Around}
use Rattle.hal_phrases.specs.Surroundings.{in_file, behind, opened}
use Rattle.hal_phrases.specs.Phrases.{Node, Phrase, phrase, add, gathered_each, OfDeclare, OfFile, OfInclude, OfItem, OfParameter, OfStructure, OfTemplate, OfUnit}
use Rattle.hal_phrases.specs.GatheredExpressions.{below}
use Rattle.hal_phrases.specs.GatheredDeclarations.{gathered_declaration, gathered_item}
use Rattle.hal_phrases.specs.GatheredStatements.{gathered_statement}
use Rattle.hal_phrases.specs.GatheredUnits.{around_template, gathered_block, gathered_elements, gathered_file, gathered_head, gathered_parameter, gathered_preface, gathered_prefaces, gathered_returns, gathered_template, name_of_block, phrases_of}
use Rattle.hal_fit_calls.specs.Each.{Each}
use Rattle.hal_fit_calls.proofs.Each.{each_append}
use Rattle.hal_right_images.specs.rows.Nested.{head_of, IsNested, AreNested, AllNested}
use Rattle.hal_right_images.proofs.rows.Plain.{Adds, is_plain, IsPlain}
use Rattle.hal_right_images.proofs.rows.PlainDeclarations.{attributes_step, kind_step, parts_step}
use Rattle.hal_right_images.proofs.rows.PlainStatements.{close_step, statement_step}
use Rattle.hal_right_images.proofs.rows.Told.{Begins, begins_all, begins_on, there, unit_head}

-- a unit with this head may stand in that one
abbrev pub MayStand : Head → Head → Type 0
MayStand head outer = (stands_inside head ≡ true) × (holds_elements outer ≡ true)

-- a unit may stand in its home, where that is one
abbrev pub StandsNested : List Phrase → Phrase → Type 0
StandsNested ps p = (head : Head) → unit_head p.node ≡ Some head → (q : Phrase) (outer : Head) → slice_get ps p.around.home ≡ Some q → unit_head q.node ≡ Some outer → MayStand head outer

-- phrases are added that stand so in each set that begins with them
record Nests (d e : List Phrase) : Type 0 where
  later : List Phrase
  whole : e ≡ d ++ later
  each : (ps : List Phrase) → Begins e ps → Each (StandsNested ps) later

no_step : (d : List Phrase) → Nests d d
no_step d = record { later = []; whole = sym (append-nil d); each = λ ps begins. tt }

then_ : {d e f : List Phrase} → Nests d e → Nests e f → Nests d f
then_ {d = d} {e = e} {f = f} first second = record {
  later = first.later ++ second.later;
  whole = second.whole ∙ (ap (λ x. x ++ second.later) first.whole ∙ append_assoc d first.later second.later);
  each = λ ps begins. each_append (StandsNested ps) first.later second.later (first.each ps (begins_on e f ps second.later second.whole begins)) (second.each ps begins);
}

each_nests : {X : Type 0} (step : List Phrase → X → List Phrase) → ((d : List Phrase) (x : X) → Nests d (step d x)) → (d : List Phrase) (xs : List X) → Nests d (gathered_each step d xs)
each_nests step steps d [] = no_step d
each_nests step steps d (x ∷ xs) = then_ (steps d x) (each_nests step steps (step d x) xs)

-- a phrase that is no unit stands so
no_unit : (ps : List Phrase) (p : Phrase) → unit_head p.node ≡ None → StandsNested ps p
no_unit ps p isnt head is q outer at its = absurd (cc)

-- one more that is none
one : (d : List Phrase) (a : Around) (n : Node) → unit_head n ≡ None → Nests d (add d a n)
one d a n isnt = record { later = phrase (length d) a n ∷ []; whole = refl; each = λ ps begins. (no_unit ps (phrase (length d) a n) isnt, tt) }

plain_headless : (node : Node) → is_plain node ≡ true → unit_head node ≡ None
plain_headless (OfUnit name head declarations) is = absurd (cc)
plain_headless other is = refl

all_plain : (ps later : List Phrase) → Each IsPlain later → Each (StandsNested ps) later
all_plain ps [] each = tt
all_plain ps (p ∷ later) each = (no_unit ps p (plain_headless p.node each.0), all_plain ps later each.1)

of_plain : {d e : List Phrase} → Adds d e → Nests d e
of_plain adds = record { later = adds.later; whole = adds.whole; each = λ ps begins. all_plain ps adds.later adds.plain }

-- types, parameters and declarations have no units in them
returns_nests : (d : List Phrase) (a : Around) (x : Returns) → Nests d (gathered_returns d a x)
unfolding gathered_returns
returns_nests d a NoKind = no_step d
returns_nests d a (HasKind kind precision) = of_plain (kind_step d a kind)

parameters_nest : (a : Around) (output : Bool) (d : List Phrase) (xs : List Naming) → Nests d (gathered_each (gathered_parameter a output) d xs)
parameters_nest a output d xs = each_nests (gathered_parameter a output) (λ e x. one e a (OfParameter x output) refl) d xs

head_nests : (d : List Phrase) (a : Around) (x : Head) → Nests d (gathered_head d a x)
unfolding gathered_head
head_nests d a (Program p) = no_step d
head_nests d a (Compool p) = no_step d
head_nests d a (Task p) = no_step d
head_nests d a (Procedure p inputs outputs mode) = then_ (parameters_nest a _ d inputs) (parameters_nest a _ _ outputs)
head_nests d a (Function p inputs returns mode) = then_ (parameters_nest a _ d inputs) (returns_nests _ a returns)

item_nests : (a : Around) (common : List Attribute) (d : List Phrase) (x : Declared) → Nests d (gathered_item a common d x)
unfolding gathered_item
item_nests a common d x = then_ (one d a (OfItem common x) refl) (of_plain (attributes_step (below d a) (add d a (OfItem common x)) x.attributes))

declaration_nests : (a : Around) (d : List Phrase) (x : Declaration) → Nests d (gathered_declaration a d x)
unfolding gathered_declaration
declaration_nests a d (Declare p common items) =
    then_ (one d a (OfDeclare common) refl) (then_ (of_plain (attributes_step (below d a) (add d a (OfDeclare common)) common)) (each_nests (gathered_item (below d a) common) (item_nests (below d a) common) _ items))
declaration_nests a d (Structure p name parts) = then_ (one d a (OfStructure name parts) refl) (of_plain (parts_step (below d a) [] (add d a (OfStructure name parts)) parts))

declarations_nest : (a : Around) (d : List Phrase) (xs : List Declaration) → Nests d (gathered_each (gathered_declaration a) d xs)
declarations_nest a d xs = each_nests (gathered_declaration a) (declaration_nests a) d xs

-- a unit with this head may stand in the home of what stands so, in each set that begins with these phrases
abbrev MayHold : Around → List Phrase → Head → Type 0
MayHold a d head = (ps : List Phrase) → Begins d ps → (q : Phrase) (outer : Head) → slice_get ps a.home ≡ Some q → unit_head q.node ≡ Some outer → MayStand head outer

-- the home of what stands so is a unit with this head, if it is one
abbrev HomeIs : Around → List Phrase → Head → Type 0
HomeIs a d head = (ps : List Phrase) → Begins d ps → (q : Phrase) (outer : Head) → slice_get ps a.home ≡ Some q → unit_head q.node ≡ Some outer → outer ≡ head

-- behind more phrases too
home_on : (a : Around) {d e : List Phrase} (head : Head) → Nests d e → HomeIs a d head → HomeIs a e head
home_on a {d = d} {e = e} head step is ps begins = is ps (begins_on d e ps step.later step.whole begins)

-- within a unit it is that one
unit_home : (d : List Phrase) (a : Around) (name : Naming) (head : Head) (declarations : List Declaration) → HomeIs (opened (length d) a) (add d a (OfUnit name head declarations)) head
unit_home d a name head declarations ps begins q outer at its =
    let here = there ps d a (OfUnit name head declarations) begins in
    let one : phrase (length d) a (OfUnit name head declarations) ≡ q = let both : Some (phrase (length d) a (OfUnit name head declarations)) ≡ Some q = sym here ∙ at in cc in
    let so : Some head ≡ Some outer = ap (λ (p : Phrase). unit_head p.node) one ∙ its in
    cc

-- a unit that may stand there
unit_nests : (d : List Phrase) (a : Around) (name : Naming) (head : Head) (declarations : List Declaration) → MayHold a d head → Nests d (add d a (OfUnit name head declarations))
unit_nests d a name head declarations may =
    let own : Phrase = phrase (length d) a (OfUnit name head declarations) in
    record {
      later = own ∷ [];
      whole = refl;
      each = λ ps begins. (
        (λ h is q outer at its. subst (λ x. MayStand x outer) (let same : head ≡ h = cc in same) (may ps (begins_on d (add d a (OfUnit name head declarations)) ps (own ∷ []) refl begins) q outer at its)),
        tt,
      );
    }

mutual
  unfolding gathered_block gathered_elements

  block_nests : (d : List Phrase) (a : Around) (x : Block) → IsNested x → MayHold a d (head_of x) → Nests d (gathered_block d a x)
  block_nests d a (BlockOf name head declarations body close) nested may =
      let k : Around = opened (length d) a in
      let heads = head_nests (add d a (OfUnit name head declarations)) k head in
      let declared = declarations_nest k (gathered_head (add d a (OfUnit name head declarations)) k head) declarations in
      then_ (unit_nests d a name head declarations may) (then_ heads (then_ declared
      (then_ (elements_nest _ k body head nested.1 nested.0 (home_on k head declared (home_on k head heads (unit_home d a name head declarations)))) (of_plain (close_step k _ close)))))

  elements_nest : (d : List Phrase) (a : Around) (x : Elements) (head : Head) → AreNested x → (x ≢ NoElements → holds_elements head ≡ true) → HomeIs a d head → Nests d (gathered_elements d a x)
  elements_nest d a NoElements head nested holds home = no_step d
  elements_nest d a (StatementFirst statement others) head nested holds home =
      let first : Nests d (gathered_statement d a statement) = of_plain (statement_step d a statement) in
      then_ first (elements_nest (gathered_statement d a statement) a others head nested (λ some. holds (λ none. absurd (cc))) (home_on a head first home))
  elements_nest d a (BlockFirst block others) head nested holds home =
      let held : holds_elements head ≡ true = holds (λ none. absurd (cc)) in
      let first : Nests d (gathered_block d a block) =
      block_nests d a block nested.1 (λ ps begins q outer at its. (nested.0, subst (λ h. holds_elements h ≡ true) (sym (home ps begins q outer at its)) held)) in
      then_ first (elements_nest (gathered_block d a block) a others head nested.2 (λ some. held) (home_on a head first home))

-- nor have templates
template_nests : (a : Around) (d : List Phrase) (t : Template) → Nests d (gathered_template d a t)
unfolding gathered_template
template_nests a d t =
    then_ (one d a (OfTemplate t.name t.head t.declarations) refl)
    (then_ (head_nests (add d a (OfTemplate t.name t.head t.declarations)) (opened (length d) a) t.head)
    (then_ (declarations_nest (around_template (length d) a t.head) (gathered_head (add d a (OfTemplate t.name t.head t.declarations)) (opened (length d) a) t.head) t.declarations)
    (of_plain (close_step (opened (length d) a) _ t.close))))

preface_nests : (d : List Phrase) (a : Around) (x : Preface) → Nests d (gathered_preface d a x)
unfolding gathered_preface
preface_nests d a (Include p name) = one d a (OfInclude name) refl
preface_nests d a (Templates template) = template_nests a d template

prefaces_nest : (d : List Phrase) (a : Around) (n : ℕ) (xs : List Preface) → Nests d (gathered_prefaces d a n xs)
unfolding gathered_prefaces
prefaces_nest d a n [] = no_step d
prefaces_nest d a n (x ∷ xs) = then_ (preface_nests d (behind n a) x) (prefaces_nest (gathered_preface d (behind n a) x) a (suc n) xs)

-- any unit may stand in a file
file_holds : (d : List Phrase) (prefaces : List Preface) (name : Naming) {e : List Phrase} (head : Head) → Nests (add d (in_file (length d)) (OfFile prefaces name)) e → MayHold (in_file (length d)) e head
file_holds d prefaces name {e = e} head step ps begins q outer at its =
    let a : Around = in_file (length d) in
    let here = there ps d a (OfFile prefaces name) (begins_on (add d a (OfFile prefaces name)) e ps step.later step.whole begins) in
    let one : phrase (length d) a (OfFile prefaces name) ≡ q = let both : Some (phrase (length d) a (OfFile prefaces name)) ≡ Some q = sym here ∙ at in cc in
    let so : None ≡ Some outer = ap (λ (p : Phrase). unit_head p.node) one ∙ its in
    absurd (cc)

-- a file, and files
file_nests : (d : List Phrase) (f : File) → IsNested f.block → Nests d (gathered_file d f)
unfolding gathered_file
file_nests d f nested =
    let a : Around = in_file (length d) in
    let e : List Phrase = add d a (OfFile f.prefaces (name_of_block f.block)) in
    let before = prefaces_nest e a 0 f.prefaces in
    then_ (one d a (OfFile f.prefaces (name_of_block f.block)) refl)
    (then_ before (block_nests (gathered_prefaces e a 0 f.prefaces) (behind (length f.prefaces) a) f.block nested (file_holds d f.prefaces (name_of_block f.block) (head_of f.block) before)))

files_nest : (d : List Phrase) (fs : List File) → AllNested fs → Nests d (gathered_each gathered_file d fs)
files_nest d [] nested = no_step d
files_nest d (f ∷ fs) nested = then_ (file_nests d f nested.0) (files_nest (gathered_file d f) fs nested.1)

-- those of a set
pub all_nested : (files : List File) → AllNested files → Each (StandsNested (phrases_of files)) (phrases_of files)
unfolding phrases_of
all_nested files nested =
    let all = files_nest [] files nested in
    let ps : List Phrase = gathered_each gathered_file [] files in
    subst (Each (StandsNested ps)) (sym all.whole) (all.each ps (begins_all ps))
