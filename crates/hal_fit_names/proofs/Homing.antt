-- The names of each phrase of a set of files belong to a file, a unit or a template.
use Rattle.std.proofs.Common.{◌≡◌, ◌⊎◌, ℕ, suc, Bool, true, false, List, [], ◌∷◌, length, Option, Some, slice_get, refl, ap, ◌∙◌, inl, inr}
use Rattle.hal_grammar.specs.Leaves.{Naming}
use Rattle.hal_grammar.specs.Declarations.{Attribute, Declaration, Declare, Declared, Structure}
use Rattle.hal_grammar.specs.Statements.{Statement}
use Rattle.hal_grammar.specs.Units.{Head, Compool, Block, BlockOf, Elements, NoElements, StatementFirst, BlockFirst, Template, Preface, Include, Templates, File}
use Rattle.hal_phrases.specs.declared.around.Around.{Around}
use Rattle.hal_phrases.specs.Surroundings.{in_file, behind, opened}
use Rattle.hal_phrases.specs.Phrases.{Node, Phrase, phrase, add, OfDeclare, OfItem, OfStructure, OfUnit, OfTemplate, OfFile, OfInclude, gathered_each, gathered_any}
use Rattle.hal_phrases.specs.GatheredExpressions.{below}
use Rattle.hal_phrases.specs.GatheredDeclarations.{gathered_attribute, gathered_item, gathered_parts, gathered_declaration}
use Rattle.hal_phrases.specs.GatheredStatements.{gathered_close, gathered_statement}
use Rattle.hal_phrases.specs.GatheredUnits.{gathered_head, gathered_block, gathered_elements, around_template, gathered_template, gathered_preface, gathered_prefaces, name_of_block, gathered_file, phrases_of}
use Rattle.hal_scope.specs.Rules.{IsAmong}
use Rattle.hal_fit_rules.specs.Begun.{AreFirst}
use Rattle.hal_fit_rules.proofs.Beginning as begun
use Rattle.hal_fit_rules.proofs.BegunStatements.{close_first, statement_first}
use Rattle.hal_fit_rules.proofs.BegunDeclarations.{attributes_first, parts_first, declarations_first, head_first}
use Rattle.hal_fit_rules.proofs.BegunUnits.{elements_first, block_first}
use Rattle.hal_fit_names.proofs.Plain as plainly
use Rattle.hal_fit_names.proofs.Plain.{IsPart, IsPlain}
use Rattle.hal_fit_names.proofs.PlainStatements.{close_plain, statement_plain}
use Rattle.hal_fit_names.proofs.PlainDeclarations.{attributes_plain, parts_plain, head_plain}

-- a file, a unit or a template, to which names belong
abbrev pub is_holder : Node → Bool
is_holder (OfFile prefaces name) = true
is_holder (OfUnit name head declarations) = true
is_holder (OfTemplate name head declarations) = true
is_holder other = false

-- such a phrase has this number
pub record IsHolder (ps : List Phrase) (k : ℕ) : Type 0 where
  pub phrase : Phrase
  pub there : slice_get ps k ≡ Some phrase
  pub is : is_holder phrase.node ≡ true

template_first : (d : List Phrase) (a : Around) (t : Template) → AreFirst d (gathered_template d a t)
unfolding gathered_template
template_first d a t =
    begun.then_ (begun.one d a (OfTemplate t.name t.head t.declarations)) (begun.then_ (head_first _ (opened (length d) a) t.head)
    (begun.then_ (declarations_first (around_template (length d) a t.head) _ t.declarations) (close_first (opened (length d) a) _ t.close)))

preface_first : (d : List Phrase) (a : Around) (x : Preface) → AreFirst d (gathered_preface d a x)
unfolding gathered_preface
preface_first d a (Include p name) = begun.one d a (OfInclude name)
preface_first d a (Templates template) = template_first d a template

pub prefaces_first : (d : List Phrase) (a : Around) (n : ℕ) (xs : List Preface) → AreFirst d (gathered_prefaces d a n xs)
unfolding gathered_prefaces
prefaces_first d a n [] = begun.no_step d
prefaces_first d a n (x ∷ xs) = begun.then_ (preface_first d (behind n a) x) (prefaces_first (gathered_preface d (behind n a) x) a (suc n) xs)

module _ (ps : List Phrase) where
  -- the names of phrases that are added belong to one
  record Homes (d e : List Phrase) : Type 0 where
    first : AreFirst d e
    each_ : AreFirst e ps → (p : Phrase) → IsAmong p e → IsAmong p d ⊎ IsHolder ps p.around.home

  nothing : (d : List Phrase) → Homes d d
  nothing d = record { first = begun.no_step d; each_ = λ whole p within. inl within }

  further : (d e f : List Phrase) → AreFirst f ps → Homes d e → Homes e f → (p : Phrase) → IsAmong p e ⊎ IsHolder ps p.around.home → IsAmong p d ⊎ IsHolder ps p.around.home
  further d e f whole first second p (inl within) = first.each_ (begun.then_ second.first whole) p within
  further d e f whole first second p (inr holder) = inr holder

  more : {d e f : List Phrase} → Homes d e → Homes e f → Homes d f
  more {d = d} {e = e} {f = f} first second = record {
    first = begun.then_ first.first second.first;
    each_ = λ whole p within. further d e f whole first second p (second.each_ whole p within);
  }

  each_more : {X : Type 0} (step : List Phrase → X → List Phrase) → ((d : List Phrase) (x : X) → Homes d (step d x)) → (d : List Phrase) (xs : List X) → Homes d (gathered_each step d xs)
  each_more step steps d [] = nothing d
  each_more step steps d (x ∷ xs) = more (steps d x) (each_more step steps (step d x) xs)

  at_home : (home : ℕ) (p : Phrase) → p.around.home ≡ home → IsHolder ps home → IsHolder ps p.around.home
  at_home home p here holder = record { phrase = holder.phrase; there = ap (slice_get ps) here ∙ holder.there; is = holder.is }

  -- phrases that are no items
  plain : (home : ℕ) (d e : List Phrase) → AreFirst d e → IsPlain home d e → (AreFirst e ps → IsHolder ps home) → Homes d e
  plain home d e first parts holder = record { first = first; each_ = λ whole p within. by p whole (parts.each_ p within) } where
    by : (p : Phrase) → AreFirst e ps → IsAmong p d ⊎ IsPart home p → IsAmong p d ⊎ IsHolder ps p.around.home
    by p whole (inl within) = inl within
    by p whole (inr part) = inr (at_home home p part.here (holder whole))

  -- one more
  one : (d : List Phrase) (a : Around) (n : Node) → (AreFirst (add d a n) ps → IsHolder ps a.home) → Homes d (add d a n)
  one d a n holder = record { first = begun.one d a n; each_ = λ whole p within. by p whole (plainly.behind p (phrase (length d) a n) d within) } where
    by : (p : Phrase) → AreFirst (add d a n) ps → IsAmong p d ⊎ (p ≡ phrase (length d) a n) → IsAmong p d ⊎ IsHolder ps p.around.home
    by p whole (inl within) = inl within
    by p whole (inr same) = inr (at_home a.home p (ap (λ (x : Phrase). x.around.home) same) (holder whole))

  module _ (a : Around) (holder : IsHolder ps a.home) where
    item_homes : (common : List Attribute) (d : List Phrase) (item : Declared) → Homes d (gathered_item a common d item)
    unfolding gathered_item
    item_homes common d item =
        let e : List Phrase = add d a (OfItem common item) in
        more (one d a (OfItem common item) (λ whole. holder))
        (plain a.home e (gathered_each (gathered_attribute (below d a)) e item.attributes) (attributes_first (below d a) e item.attributes) (attributes_plain (below d a) e item.attributes) (λ whole. holder))

  module _ (a : Around) (holder : IsHolder ps a.home) where
    declaration_homes : (d : List Phrase) (x : Declaration) → Homes d (gathered_declaration a d x)
    unfolding gathered_declaration
    declaration_homes d (Declare p common items) =
        let b : Around = below d a in
        let e : List Phrase = add d a (OfDeclare common) in
        let f : List Phrase = gathered_each (gathered_attribute b) e common in
        more (one d a (OfDeclare common) (λ whole. holder)) (more (plain a.home e f (attributes_first b e common) (attributes_plain b e common) (λ whole. holder)) (each_more (gathered_item b common) (item_homes b holder common) f items))
    declaration_homes d (Structure p name parts) =
        let e : List Phrase = add d a (OfStructure name parts) in
        more (one d a (OfStructure name parts) (λ whole. holder)) (plain a.home e (gathered_parts (below d a) [] e parts) (parts_first (below d a) [] e parts) (parts_plain (below d a) [] e parts) (λ whole. holder))

    declarations_homes : (d : List Phrase) (xs : List Declaration) → Homes d (gathered_each (gathered_declaration a) d xs)
    declarations_homes d xs = each_more (gathered_declaration a) declaration_homes d xs

    head_homes : (d : List Phrase) (x : Head) → Homes d (gathered_head d a x)
    head_homes d x = plain a.home d (gathered_head d a x) (head_first d a x) (head_plain d a x) (λ whole. holder)

    close_homes : (d : List Phrase) (o : Option Naming) → Homes d (gathered_any (gathered_close a) d o)
    close_homes d o = plain a.home d (gathered_any (gathered_close a) d o) (close_first a d o) (close_plain a d o) (λ whole. holder)

    statement_homes : (d : List Phrase) (s : Statement) → Homes d (gathered_statement d a s)
    statement_homes d s = plain a.home d (gathered_statement d a s) (statement_first d a s) (statement_plain d a s) (λ whole. holder)

  -- what holds where the first ones stand in the set
  where_begun : (d e : List Phrase) → AreFirst d e → (AreFirst d ps → Homes d e) → Homes d e
  where_begun d e first then_so = record { first = first; each_ = λ whole p within. (then_so (begun.then_ first whole)).each_ whole p within }

  -- a phrase that is added and to which names belong
  own_holder : (d : List Phrase) (a : Around) (n : Node) → is_holder n ≡ true → AreFirst (add d a n) ps → IsHolder ps (length d)
  own_holder d a n is whole = record { phrase = phrase (length d) a n; there = begun.there ps d a n whole; is = is }

  mutual
    unfolding gathered_block gathered_elements

    block_homes : (d : List Phrase) (a : Around) → IsHolder ps a.home → (b : Block) → Homes d (gathered_block d a b)
    block_homes d a holder (BlockOf name head declarations body close) =
        let b : Around = opened (length d) a in
        let d1 : List Phrase = add d a (OfUnit name head declarations) in
        let d2 : List Phrase = gathered_head d1 b head in
        let d3 : List Phrase = gathered_each (gathered_declaration b) d2 declarations in
        let d4 : List Phrase = gathered_elements d3 b body in
        more (one d a (OfUnit name head declarations) (λ whole. holder))
        (where_begun d1 (gathered_any (gathered_close b) d4 close)
        (begun.then_ (head_first d1 b head) (begun.then_ (declarations_first b d2 declarations) (begun.then_ (elements_first d3 b body) (close_first b d4 close)))) (λ start.
        let own = own_holder d a (OfUnit name head declarations) refl start in
        more (head_homes b own d1 head) (more (declarations_homes b own d2 declarations) (more (elements_homes d3 b own body) (close_homes b own d4 close)))))

    elements_homes : (d : List Phrase) (a : Around) → IsHolder ps a.home → (x : Elements) → Homes d (gathered_elements d a x)
    elements_homes d a holder NoElements = nothing d
    elements_homes d a holder (StatementFirst s others) = more (statement_homes a holder d s) (elements_homes (gathered_statement d a s) a holder others)
    elements_homes d a holder (BlockFirst b others) = more (block_homes d a holder b) (elements_homes (gathered_block d a b) a holder others)

  template_holder : (k : ℕ) (a : Around) (head : Head) → IsHolder ps a.home → IsHolder ps k → IsHolder ps (around_template k a head).home
  unfolding around_template
  template_holder k a (Compool place) holder own = holder
  template_holder k a other holder own = own

  template_homes : (d : List Phrase) (a : Around) → IsHolder ps a.home → (t : Template) → Homes d (gathered_template d a t)
  unfolding gathered_template
  template_homes d a holder t =
      let n : Node = OfTemplate t.name t.head t.declarations in
      let b : Around = opened (length d) a in
      let c : Around = around_template (length d) a t.head in
      let d1 : List Phrase = add d a n in
      let d2 : List Phrase = gathered_head d1 b t.head in
      let d3 : List Phrase = gathered_each (gathered_declaration c) d2 t.declarations in
      more (one d a n (λ whole. holder))
      (where_begun d1 (gathered_any (gathered_close b) d3 t.close) (begun.then_ (head_first d1 b t.head) (begun.then_ (declarations_first c d2 t.declarations) (close_first b d3 t.close))) (λ start.
      let own = own_holder d a n refl start in
      more (head_homes b own d1 t.head) (more (declarations_homes c (template_holder (length d) a t.head holder own) d2 t.declarations) (close_homes b own d3 t.close))))

  preface_homes : (d : List Phrase) (a : Around) → IsHolder ps a.home → (x : Preface) → Homes d (gathered_preface d a x)
  unfolding gathered_preface
  preface_homes d a holder (Include p name) = one d a (OfInclude name) (λ whole. holder)
  preface_homes d a holder (Templates template) = template_homes d a holder template

  prefaces_homes : (d : List Phrase) (a : Around) → IsHolder ps a.home → (n : ℕ) (xs : List Preface) → Homes d (gathered_prefaces d a n xs)
  unfolding gathered_prefaces
  prefaces_homes d a holder n [] = nothing d
  prefaces_homes d a holder n (x ∷ xs) = more (preface_homes d (behind n a) holder x) (prefaces_homes (gathered_preface d (behind n a) x) a holder (suc n) xs)

  file_homes : (d : List Phrase) (f : File) → Homes d (gathered_file d f)
  unfolding gathered_file
  file_homes d f =
      let a : Around = in_file (length d) in
      let n : Node = OfFile f.prefaces (name_of_block f.block) in
      let d1 : List Phrase = add d a n in
      let d2 : List Phrase = gathered_prefaces d1 a 0 f.prefaces in
      let b : Around = behind (length f.prefaces) a in
      more (one d a n (λ whole. own_holder d a n refl whole))
      (where_begun d1 (gathered_block d2 b f.block) (begun.then_ (prefaces_first d1 a 0 f.prefaces) (block_first d2 b f.block)) (λ start.
      let own = own_holder d a n refl start in more (prefaces_homes d1 a own 0 f.prefaces) (block_homes d2 b own f.block)))

-- the names of each phrase of a set of files belong to a file, a unit or a template
pub homes_are_holders : (files : List File) (p : Phrase) → IsAmong p (phrases_of files) → IsHolder (phrases_of files) p.around.home
unfolding phrases_of
homes_are_holders files p within =
    let ps : List Phrase = gathered_each gathered_file [] files in
    by ((each_more ps gathered_file (file_homes ps) [] files).each_ (begun.no_step ps) p within) where
      by : IsAmong p [] ⊎ IsHolder (phrases_of files) p.around.home → IsHolder (phrases_of files) p.around.home
      by (inl none) = absurd none
      by (inr holder) = holder
