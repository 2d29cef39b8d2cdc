-- Structures that belong to a unit are among what it declares; and data stand in the block to which their names belong.
use Rattle.std.proofs.Common.{◌≡◌, ◌⊎◌, ℕ, suc, Bool, true, false, List, [], ◌∷◌, ◌++◌, length, flat_map, Option, Some, slice_get, refl, sym, ap, ◌∙◌, subst, inl, inr}
use Rattle.hal_grammar.specs.Leaves.{Naming}
use Rattle.hal_grammar.specs.Declarations.{Attribute, Declaration, Declare, Declared, Part, Structure}
use Rattle.hal_grammar.specs.Statements.{Statement}
use Rattle.hal_grammar.specs.Units.{Head, Compool, Program, Task, Procedure, Function, Block, BlockOf, Elements, NoElements, StatementFirst, BlockFirst, Template, Preface, Include, Templates, File}
use Rattle.hal_phrases.specs.declared.around.Around.{Around}
use Rattle.hal_phrases.specs.Surroundings.{in_file, behind, opened, under}
use Rattle.hal_phrases.specs.Phrases.{Node, Phrase, phrase, add, OfDeclare, OfItem, OfPart, OfStructure, OfUnit, OfTemplate, OfFile, OfInclude, gathered_each, gathered_any}
use Rattle.hal_phrases.specs.GatheredExpressions.{below}
use Rattle.hal_phrases.specs.GatheredDeclarations.{OpenPart, still_open, innermost, is_bottom, gathered_attribute, gathered_item, gathered_part, gathered_parts, gathered_declaration}
use Rattle.hal_phrases.specs.GatheredStatements.{gathered_close, gathered_statement}
use Rattle.hal_phrases.specs.GatheredUnits.{gathered_head, gathered_block, gathered_elements, around_template, gathered_template, gathered_preface, gathered_prefaces, name_of_block, gathered_file, phrases_of}
use Rattle.hal_scope.specs.Rules.{IsAmong}
use Rattle.hal_templates.specs.Entries.{entries, entries_of}
use Rattle.hal_fit_rules.specs.Begun.{AreFirst}
use Rattle.hal_fit_rules.proofs.Beginning as begun
use Rattle.hal_fit_rules.proofs.BegunStatements.{close_first, statement_first}
use Rattle.hal_fit_rules.proofs.BegunDeclarations.{attributes_first, parts_first, declarations_first, head_first}
use Rattle.hal_fit_rules.proofs.BegunUnits.{elements_first}
use Rattle.hal_fit_rules.proofs.Unbroken.{among_first, among_second}
use Rattle.hal_fit_names.proofs.Homing.{prefaces_first}
use Rattle.hal_fit_names.proofs.Plain as plainly
use Rattle.hal_fit_names.proofs.Plain.{is_item, IsPart, IsPlain}
use Rattle.hal_fit_names.proofs.PlainStatements.{close_plain, statement_plain}
use Rattle.hal_fit_names.proofs.PlainDeclarations.{attributes_plain, parts_plain, head_plain}
use Rattle.hal_fit_parts.proofs.Plain as bare
use Rattle.hal_fit_parts.proofs.PlainDeclarations.{attributes_step}
use Rattle.hal_fit_parts.proofs.PlainStatements.{close_step, statement_step}
use Rattle.hal_fit_parts.proofs.Standing.{among_either, each_among, head_step}

-- this is among what the unit with this number declares, where that is a unit
abbrev pub IsDeclaredBy : List Phrase → ℕ → Node → Type 0
IsDeclaredBy ps home n = (u : Phrase) (unit : Naming) (head : Head) (declarations : List Declaration) → slice_get ps home ≡ Some u → u.node ≡ OfUnit unit head declarations → IsAmong n (entries declarations)

abbrev pub NodeHeld : List Phrase → Phrase → Node → Type 0
NodeHeld ps p (OfItem common item) = p.around.block ≡ p.around.home
NodeHeld ps p (OfStructure name parts) = IsDeclaredBy ps p.around.home (OfStructure name parts)
NodeHeld ps p other = Unit {0}

abbrev is_structure : Node → Bool
is_structure (OfStructure name parts) = true
is_structure other = false

-- a phrase that is neither asks nothing
none_held : (ps : List Phrase) (p : Phrase) (n : Node) → is_item n ≡ false → is_structure n ≡ false → NodeHeld ps p n
none_held ps p (OfItem common item) plain bare_ = absurd (cc)
none_held ps p (OfStructure name parts) plain bare_ = absurd (cc)
none_held ps p other plain bare_ = tt

-- what is no structure and no part is no structure
bare_node : (n : Node) → bare.is_plain n ≡ true → is_structure n ≡ false
bare_node (OfStructure name parts) is = absurd (cc)
bare_node other is = refl

-- each of these phrases is one of those, or declares no structure
abbrev Structureless : List Phrase → List Phrase → Type 0
Structureless d e = (q : Phrase) → IsAmong q e → IsAmong q d ⊎ (is_structure q.node ≡ false)

-- phrases that are no structures or parts are added
of_adds : {d e : List Phrase} → bare.Adds d e → Structureless d e
of_adds {d = d} adds q within = by (among_either q d adds.later (subst (λ (xs : List Phrase). IsAmong q xs) adds.whole within)) where
  by : IsAmong q d ⊎ IsAmong q adds.later → IsAmong q d ⊎ (is_structure q.node ≡ false)
  by (inl first) = inl first
  by (inr after) = inr (bare_node q.node (each_among bare.IsPlain adds.later adds.plain q after))

-- parts declare none
parts_less : (a : Around) (unclosed : List OpenPart) (d : List Phrase) (parts : List Part) → Structureless d (gathered_parts a unclosed d parts)
unfolding gathered_parts gathered_part
parts_less a unclosed d [] q within = inl within
parts_less a unclosed d (x ∷ xs) q within =
    by (parts_less a (still_open x.level unclosed ++ ((x.level, length d) ∷ [])) f xs q within) where
      b : Around
      b = under (innermost a.parent (still_open x.level unclosed)) a

      e : List Phrase
      e = add d b (OfPart (is_bottom x.level xs) x)

      f : List Phrase
      f = gathered_each (gathered_attribute (below d b)) e x.attributes

      first : IsAmong q d ⊎ (q ≡ phrase (length d) b (OfPart (is_bottom x.level xs) x)) → IsAmong q d ⊎ (is_structure q.node ≡ false)
      first (inl before) = inl before
      first (inr same) = inr (ap (λ (r : Phrase). is_structure r.node) same)

      own : IsAmong q e ⊎ (is_structure q.node ≡ false) → IsAmong q d ⊎ (is_structure q.node ≡ false)
      own (inl before) = first (plainly.behind q (phrase (length d) b (OfPart (is_bottom x.level xs) x)) d before)
      own (inr none) = inr none

      by : IsAmong q f ⊎ (is_structure q.node ≡ false) → IsAmong q d ⊎ (is_structure q.node ≡ false)
      by (inl before) = own (of_adds (attributes_step (below d b) e x.attributes) q before)
      by (inr none) = inr none

abbrev unit_of : Node → Bool
unit_of (OfUnit name head declarations) = true
unit_of other = false

module _ (ps : List Phrase) where
  -- phrases are added, of which data and structures are held
  record Holding (d e : List Phrase) : Type 0 where
    first : AreFirst d e
    each_ : AreFirst e ps → (p : Phrase) → IsAmong p e → IsAmong p d ⊎ NodeHeld ps p p.node

  -- nothing is added
  nothing : (d : List Phrase) → Holding d d
  nothing d = record { first = begun.no_step d; each_ = λ whole p within. inl within }

  -- a phrase of a first or of a second step
  further : (d e f : List Phrase) → AreFirst f ps → Holding d e → Holding e f → (p : Phrase) → IsAmong p e ⊎ NodeHeld ps p p.node → IsAmong p d ⊎ NodeHeld ps p p.node
  further d e f whole first second p (inl within) = first.each_ (begun.then_ second.first whole) p within
  further d e f whole first second p (inr held) = inr held

  -- one step after another
  more : {d e f : List Phrase} → Holding d e → Holding e f → Holding d f
  more {d = d} {e = e} {f = f} first second = record {
    first = begun.then_ first.first second.first;
    each_ = λ whole p within. further d e f whole first second p (second.each_ whole p within);
  }

  -- a step for each of a list
  each_more : {X : Type 0} (step : List Phrase → X → List Phrase) → ((d : List Phrase) (x : X) → Holding d (step d x)) → (d : List Phrase) (xs : List X) → Holding d (gathered_each step d xs)
  each_more step steps d [] = nothing d
  each_more step steps d (x ∷ xs) = more (steps d x) (each_more step steps (step d x) xs)

  -- phrases that are no data and no structures
  plain : {home : ℕ} (d e : List Phrase) → AreFirst d e → IsPlain home d e → Structureless d e → Holding d e
  plain {home = home} d e first none less = record { first = first; each_ = λ whole p within. by p (none.each_ p within) (less p within) } where
    by : (p : Phrase) → IsAmong p d ⊎ IsPart home p → IsAmong p d ⊎ (is_structure p.node ≡ false) → IsAmong p d ⊎ NodeHeld ps p p.node
    by p (inl within) other = inl within
    by p (inr part) (inl within) = inl within
    by p (inr part) (inr bare_) = inr (none_held ps p p.node part.single bare_)

  -- one more
  one : (d : List Phrase) (a : Around) (n : Node) → NodeHeld ps (phrase (length d) a n) n → Holding d (add d a n)
  one d a n held = record { first = begun.one d a n; each_ = λ whole p within. by p (plainly.behind p (phrase (length d) a n) d within) } where
    by : (p : Phrase) → IsAmong p d ⊎ (p ≡ phrase (length d) a n) → IsAmong p d ⊎ NodeHeld ps p p.node
    by p (inl within) = inl within
    by p (inr same) = inr (subst (λ (x : Phrase). NodeHeld ps x x.node) (sym same) held)

  -- what holds where the first ones stand in the set
  where_begun : (d e : List Phrase) → AreFirst d e → (AreFirst d ps → Holding d e) → Holding d e
  where_begun d e first then_so = record { first = first; each_ = λ whole p within. (then_so (begun.then_ first whole)).each_ whole p within }

  -- a name that is declared as data
  item_holding : (a : Around) (common : List Attribute) (d : List Phrase) (item : Declared) → a.block ≡ a.home → Holding d (gathered_item a common d item)
  unfolding gathered_item
  item_holding a common d item same =
      let e : List Phrase = add d a (OfItem common item) in
      more (one d a (OfItem common item) same)
      (plain e (gathered_each (gathered_attribute (below d a)) e item.attributes) (attributes_first (below d a) e item.attributes) (attributes_plain (below d a) e item.attributes) (of_adds (attributes_step (below d a) e item.attributes)))

  -- a declaration
  declaration_holding : (a : Around) (d : List Phrase) (x : Declaration) → a.block ≡ a.home → ((name : Naming) (parts : List Part) → IsAmong (OfStructure name parts) (entries_of x) → IsDeclaredBy ps a.home (OfStructure name parts)) → Holding d (gathered_declaration a d x)
  unfolding gathered_declaration entries_of
  declaration_holding a d (Declare p common items) same held =
      let b : Around = below d a in
      let e : List Phrase = add d a (OfDeclare common) in
      let f : List Phrase = gathered_each (gathered_attribute b) e common in
      more (one d a (OfDeclare common) tt) (more (plain e f (attributes_first b e common) (attributes_plain b e common) (of_adds (attributes_step b e common))) (each_more (gathered_item b common) (λ g item. item_holding b common g item same) f items))
  declaration_holding a d (Structure p name parts) same held =
      let e : List Phrase = add d a (OfStructure name parts) in
      more (one d a (OfStructure name parts) (held name parts (inl refl))) (plain e (gathered_parts (below d a) [] e parts) (parts_first (below d a) [] e parts) (parts_plain (below d a) [] e parts) (parts_less (below d a) [] e parts))

  -- all declarations
  declarations_holding : (a : Around) (d : List Phrase) (xs : List Declaration) → a.block ≡ a.home → ((name : Naming) (parts : List Part) → IsAmong (OfStructure name parts) (entries xs) → IsDeclaredBy ps a.home (OfStructure name parts))
      → Holding d (gathered_each (gathered_declaration a) d xs)
  unfolding entries
  declarations_holding a d [] same held = nothing d
  declarations_holding a d (x ∷ xs) same held =
      more (declaration_holding a d x same (λ name parts within. held name parts (among_first (OfStructure name parts) (entries_of x) (flat_map entries_of xs) within)))
      (declarations_holding a (gathered_declaration a d x) xs same (λ name parts within. held name parts (among_second (OfStructure name parts) (entries_of x) (flat_map entries_of xs) within)))

  -- the phrases of a head
  head_holding : (d : List Phrase) (a : Around) (x : Head) → Holding d (gathered_head d a x)
  head_holding d a x = plain d (gathered_head d a x) (head_first d a x) (head_plain d a x) (of_adds (head_step d a x))

  -- a name behind CLOSE
  close_holding : (a : Around) (d : List Phrase) (o : Option Naming) → Holding d (gathered_any (gathered_close a) d o)
  close_holding a d o = plain d (gathered_any (gathered_close a) d o) (close_first a d o) (close_plain a d o) (of_adds (close_step a d o))

  -- a statement
  statement_holding : (d : List Phrase) (a : Around) (s : Statement) → Holding d (gathered_statement d a s)
  statement_holding d a s = plain d (gathered_statement d a s) (statement_first d a s) (statement_plain d a s) (of_adds (statement_step d a s))

  -- what a phrase that is no unit declares
  no_unit : (k : ℕ) (p : Phrase) (n : Node) → slice_get ps k ≡ Some p → unit_of p.node ≡ false → IsDeclaredBy ps k n
  no_unit k p n there none u unit head declarations at is =
      let both : Some p ≡ Some u = sym there ∙ at in
      let same : p ≡ u = cc in
      absurd (let other : false ≡ true = sym none ∙ (ap (λ (r : Phrase). unit_of r.node) same ∙ ap unit_of is) in cc)

  -- what a unit declares
  itself : (k : ℕ) (p : Phrase) (name : Naming) (head : Head) (declarations : List Declaration) (n : Node) → slice_get ps k ≡ Some p → p.node ≡ OfUnit name head declarations → IsAmong n (entries declarations) → IsDeclaredBy ps k n
  itself k p name head declarations n there is within u unit other mine at so =
      let both : Some p ≡ Some u = sym there ∙ at in
      let same : p ≡ u = cc in
      let nodes : OfUnit name head declarations ≡ OfUnit unit other mine = sym is ∙ (ap (λ (r : Phrase). r.node) same ∙ so) in
      let declared : declarations ≡ mine = cc in
      subst (λ (xs : List Declaration). IsAmong n (entries xs)) declared within

  mutual
    unfolding gathered_block gathered_elements

    -- a unit, and what stands in it
    block_holding : (d : List Phrase) (a : Around) (b : Block) → Holding d (gathered_block d a b)
    block_holding d a (BlockOf name head declarations body close) =
        let b : Around = opened (length d) a in
        let n : Node = OfUnit name head declarations in
        let d1 : List Phrase = add d a n in
        let d2 : List Phrase = gathered_head d1 b head in
        let d3 : List Phrase = gathered_each (gathered_declaration b) d2 declarations in
        let d4 : List Phrase = gathered_elements d3 b body in
        more (one d a n tt)
        (where_begun d1 (gathered_any (gathered_close b) d4 close)
        (begun.then_ (head_first d1 b head) (begun.then_ (declarations_first b d2 declarations) (begun.then_ (elements_first d3 b body) (close_first b d4 close)))) (λ start.
        more (head_holding d1 b head) (more (declarations_holding b d2 declarations refl
        (λ other parts within. itself (length d) (phrase (length d) a n) name head declarations (OfStructure other parts) (begun.there ps d a n start) refl within))
        (more (elements_holding d3 b body) (close_holding b d4 close)))))

    elements_holding : (d : List Phrase) (a : Around) (x : Elements) → Holding d (gathered_elements d a x)
    elements_holding d a NoElements = nothing d
    elements_holding d a (StatementFirst s others) = more (statement_holding d a s) (elements_holding (gathered_statement d a s) a others)
    elements_holding d a (BlockFirst b others) = more (block_holding d a b) (elements_holding (gathered_block d a b) a others)

  -- what a template declares belongs to it, or to the file
  template_same : (k : ℕ) (a : Around) (head : Head) → a.block ≡ a.home → (around_template k a head).block ≡ (around_template k a head).home
  unfolding around_template
  template_same k a (Compool place) same = same
  template_same k a (Program place) same = refl
  template_same k a (Task place) same = refl
  template_same k a (Procedure place inputs outputs mode) same = refl
  template_same k a (Function place inputs returns mode) same = refl

  -- no unit declares what a template does
  template_less : (d : List Phrase) (a : Around) (t : Template) (head : Head) (n : Node) → slice_get ps (length d) ≡ Some (phrase (length d) a (OfTemplate t.name t.head t.declarations)) → IsDeclaredBy ps a.home n → IsDeclaredBy ps (around_template (length d) a head).home n
  unfolding around_template
  template_less d a t (Compool place) n there file = file
  template_less d a t (Program place) n there file = no_unit (length d) (phrase (length d) a (OfTemplate t.name t.head t.declarations)) n there refl
  template_less d a t (Task place) n there file = no_unit (length d) (phrase (length d) a (OfTemplate t.name t.head t.declarations)) n there refl
  template_less d a t (Procedure place inputs outputs mode) n there file = no_unit (length d) (phrase (length d) a (OfTemplate t.name t.head t.declarations)) n there refl
  template_less d a t (Function place inputs returns mode) n there file = no_unit (length d) (phrase (length d) a (OfTemplate t.name t.head t.declarations)) n there refl

  -- a template
  template_holding : (d : List Phrase) (a : Around) (t : Template) → a.block ≡ a.home → ((n : Node) → IsDeclaredBy ps a.home n) → Holding d (gathered_template d a t)
  unfolding gathered_template
  template_holding d a t same file =
      let n : Node = OfTemplate t.name t.head t.declarations in
      let b : Around = opened (length d) a in
      let c : Around = around_template (length d) a t.head in
      let d1 : List Phrase = add d a n in
      let d2 : List Phrase = gathered_head d1 b t.head in
      let d3 : List Phrase = gathered_each (gathered_declaration c) d2 t.declarations in
      more (one d a n tt)
      (where_begun d1 (gathered_any (gathered_close b) d3 t.close) (begun.then_ (head_first d1 b t.head) (begun.then_ (declarations_first c d2 t.declarations) (close_first b d3 t.close))) (λ start.
      more (head_holding d1 b t.head) (more (declarations_holding c d2 t.declarations (template_same (length d) a t.head same)
      (λ name parts within. template_less d a t t.head (OfStructure name parts) (begun.there ps d a n start) (file (OfStructure name parts)))) (close_holding b d3 t.close))))

  -- what stands before a unit
  prefaces_holding : (d : List Phrase) (a : Around) (n : ℕ) (xs : List Preface) → a.block ≡ a.home → ((m : Node) → IsDeclaredBy ps a.home m) → Holding d (gathered_prefaces d a n xs)
  unfolding gathered_prefaces gathered_preface
  prefaces_holding d a n [] same file = nothing d
  prefaces_holding d a n (Include place unit ∷ xs) same file = more (one d (behind n a) (OfInclude unit) tt) (prefaces_holding (gathered_preface d (behind n a) (Include place unit)) a (suc n) xs same file)
  prefaces_holding d a n (Templates t ∷ xs) same file = more (template_holding d (behind n a) t same file) (prefaces_holding (gathered_preface d (behind n a) (Templates t)) a (suc n) xs same file)

  -- a file
  file_holding : (d : List Phrase) (f : File) → Holding d (gathered_file d f)
  unfolding gathered_file
  file_holding d f =
      let a : Around = in_file (length d) in
      let n : Node = OfFile f.prefaces (name_of_block f.block) in
      let d1 : List Phrase = add d a n in
      let d2 : List Phrase = gathered_prefaces d1 a 0 f.prefaces in
      more (one d a n tt)
      (more (where_begun d1 d2 (prefaces_first d1 a 0 f.prefaces) (λ start. prefaces_holding d1 a 0 f.prefaces refl (λ m. no_unit (length d) (phrase (length d) a n) m (begun.there ps d a n start) refl)))
      (block_holding d2 (behind (length f.prefaces) a) f.block))

-- all data and structures of a set of files are held
pub all_held : (files : List File) (p : Phrase) → IsAmong p (phrases_of files) → NodeHeld (phrases_of files) p p.node
unfolding phrases_of
all_held files p within =
    let ps : List Phrase = gathered_each gathered_file [] files in
    by ((each_more ps gathered_file (file_holding ps) [] files).each_ (begun.no_step ps) p within) where
      by : IsAmong p [] ⊎ NodeHeld (phrases_of files) p p.node → NodeHeld (phrases_of files) p p.node
      by (inl none) = absurd none
      by (inr held) = held
