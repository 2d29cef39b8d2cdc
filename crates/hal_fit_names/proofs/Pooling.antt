-- Data that belong to a file are declared by one of the COMPOOL templates before its unit.
use Rattle.std.proofs.Common.{◌≡◌, ◌⊎◌, ℕ, suc, Bool, true, false, ◌&&◌, ◌||◌, List, [], ◌∷◌, length, Option, Some, slice_get, bytes_eq, refl, sym, ap, ◌∙◌, subst, inl, inr, if◌then◌else◌}
use Rattle.std.specs.List.{list_any}
use Rattle.std.specs.Option.{is_some}
use Rattle.std.proofs.lemmas.Slice.Eq.{bytes_eq-Decides}
use Rattle.hal_grammar.specs.Leaves.{Naming}
use Rattle.hal_grammar.specs.Declarations.{Attribute, Declaration, Declare, Declared, Structure}
use Rattle.hal_grammar.specs.Statements.{Statement}
use Rattle.hal_grammar.specs.Units.{Head, Compool, Block, BlockOf, Elements, NoElements, StatementFirst, BlockFirst, Template, Preface, Include, Templates, File}
use Rattle.hal_phrases.specs.declared.around.Around.{Around}
use Rattle.hal_phrases.specs.Surroundings.{in_file, behind, opened}
use Rattle.hal_phrases.specs.Phrases.{Node, Phrase, phrase, add, OfDeclare, OfItem, OfStructure, OfUnit, OfTemplate, OfFile, OfInclude, gathered_each, gathered_any}
use Rattle.hal_phrases.specs.GatheredExpressions.{below}
use Rattle.hal_phrases.specs.GatheredDeclarations.{gathered_attribute, gathered_item, gathered_parts, gathered_declaration}
use Rattle.hal_phrases.specs.GatheredStatements.{gathered_close, gathered_statement}
use Rattle.hal_phrases.specs.GatheredUnits.{gathered_head, gathered_block, gathered_elements, around_template, gathered_template, gathered_preface, gathered_prefaces, name_of_block, gathered_file, phrases_of}
use Rattle.hal_scope.specs.Rules.{IsAmong}
use Rattle.hal_meaning.specs.Bodies.{declares, is_compool_head, pool_of}
use Rattle.hal_fit_rules.specs.Begun.{AreFirst}
use Rattle.hal_fit_rules.proofs.Beginning as begun
use Rattle.hal_fit_rules.proofs.BegunStatements.{close_first, statement_first}
use Rattle.hal_fit_rules.proofs.BegunDeclarations.{attributes_first, parts_first, declarations_first, head_first}
use Rattle.hal_fit_rules.proofs.BegunUnits.{elements_first}
use Rattle.hal_fit_names.proofs.Homing.{prefaces_first}
use Rattle.hal_fit_names.proofs.Plain as plainly
use Rattle.hal_fit_names.proofs.Plain.{is_item, IsPart, IsPlain}
use Rattle.hal_fit_names.proofs.PlainStatements.{close_plain, statement_plain}
use Rattle.hal_fit_names.proofs.PlainDeclarations.{attributes_plain, parts_plain, head_plain}

-- the written template of a COMPOOL that gives a file with these prefaces data of this name
pub record IsPooled (ps : List Phrase) (home : ℕ) (prefaces : List Preface) (name : List ℕ) : Type 0 where
  pub template : Naming
  pub head : Head
  pub declarations : List Declaration
  pub pool : pool_of prefaces name ≡ Some template.name
  pub compool : is_compool_head head ≡ true
  pub says : list_any (declares name) declarations ≡ true
  pub phrase : Phrase
  pub within : IsAmong phrase ps
  pub is : phrase.node ≡ OfTemplate template head declarations
  pub here : phrase.around.home ≡ home

-- what holds data of this name: a unit or a template that isn't a COMPOOL's, which declares them, or a file that is given such data
abbrev pub HoldsData : List Phrase → ℕ → Node → List ℕ → Type 0
HoldsData ps home (OfFile prefaces unit) name = IsPooled ps home prefaces name
HoldsData ps home (OfUnit unit head declarations) name = list_any (declares name) declarations ≡ true
HoldsData ps home (OfTemplate template head declarations) name = (is_compool_head head ≡ false) × (list_any (declares name) declarations ≡ true)
HoldsData ps home other name = ⊥

pub record AreHeld (ps : List Phrase) (home : ℕ) (name : List ℕ) : Type 0 where
  pub phrase : Phrase
  pub there : slice_get ps home ≡ Some phrase
  pub holds : HoldsData ps home phrase.node name

-- data are held by what they belong to
abbrev pub NodeHeld : List Phrase → Phrase → Node → Type 0
NodeHeld ps p (OfItem common item) = AreHeld ps p.around.home item.name.name
NodeHeld ps p other = Unit {0}

none_held : (ps : List Phrase) (p : Phrase) (n : Node) → is_item n ≡ false → NodeHeld ps p n
none_held ps p (OfItem common item) plain = absurd (cc)
none_held ps p other plain = tt

or_first : (a b : Bool) → a ≡ true → (a || b) ≡ true
or_first true b is = refl
or_first false b is = absurd (cc)

or_second : (a b : Bool) → b ≡ true → (a || b) ≡ true
or_second true b is = refl
or_second false b is = is

itself : (name : List ℕ) → bytes_eq name name ≡ true
itself name = (bytes_eq-Decides name name).1 refl

-- a template that is a COMPOOL's and declares the name, or another preface
pool_first : (found : Bool) (name : List ℕ) (o : Option (List ℕ)) → found ≡ true → (if found then Some name else o) ≡ Some name
pool_first true name o is = refl
pool_first false name o is = absurd (cc)

module _ (ps : List Phrase) where
  -- what a file's prefaces give
  pooled_by : (d : List Phrase) (a : Around) (n : ℕ) (xs : List Preface) → AreFirst (gathered_prefaces d a n xs) ps → (name : List ℕ) → is_some (pool_of xs name) ≡ true → IsPooled ps a.home xs name
  unfolding gathered_prefaces gathered_preface gathered_template
  pooled_by d a n [] whole name some = absurd (cc)
  pooled_by d a n (Include place unit ∷ xs) whole name some =
      let rest = pooled_by (gathered_preface d (behind n a) (Include place unit)) a (suc n) xs whole name some in
      record { template = rest.template; head = rest.head; declarations = rest.declarations; pool = rest.pool; compool = rest.compool; says = rest.says; phrase = rest.phrase; within = rest.within; is = rest.is; here = rest.here }
  pooled_by d a n (Templates t ∷ xs) whole name some =
      by (is_compool_head t.head && list_any (declares name) t.declarations) refl some (pooled_by (gathered_preface d (behind n a) (Templates t)) a (suc n) xs whole name) where
        b : Around
        b = behind n a

        e : List Phrase
        e = add d b (OfTemplate t.name t.head t.declarations)

        start : AreFirst e ps
        start =
            begun.then_ (begun.then_ (head_first e (opened (length d) b) t.head)
            (begun.then_ (declarations_first (around_template (length d) b t.head) _ t.declarations) (close_first (opened (length d) b) _ t.close)))
            (begun.then_ (prefaces_first (gathered_preface d b (Templates t)) a (suc n) xs) whole)

        both : (x y : Bool) → (x && y) ≡ true → (x ≡ true) × (y ≡ true)
        both true true is = (refl, refl)
        both true false is = absurd (cc)
        both false y is = absurd (cc)

        by : (found : Bool) → is_compool_head t.head && list_any (declares name) t.declarations ≡ found → is_some (if found then Some t.name.name else pool_of xs name) ≡ true
            → (is_some (pool_of xs name) ≡ true → IsPooled ps a.home xs name) → IsPooled ps a.home (Templates t ∷ xs) name
        by true is some_ rest =
            let parts = both (is_compool_head t.head) (list_any (declares name) t.declarations) is in
            record {
              template = t.name;
              head = t.head;
              declarations = t.declarations;
              pool = ap (λ found. if found then Some t.name.name else pool_of xs name) is;
              compool = parts.0;
              says = parts.1;
              phrase = phrase (length d) b (OfTemplate t.name t.head t.declarations);
              within = begun.among ps d b (OfTemplate t.name t.head t.declarations) start;
              is = refl;
              here = refl;
            }
        by false is some_ rest =
            let other = rest some_ in
            record {
              template = other.template;
              head = other.head;
              declarations = other.declarations;
              pool = ap (λ found. if found then Some t.name.name else pool_of xs name) is ∙ other.pool;
              compool = other.compool;
              says = other.says;
              phrase = other.phrase;
              within = other.within;
              is = other.is;
              here = other.here;
            }

  -- phrases are added, of which data are held by what they belong to
  record Holding (d e : List Phrase) : Type 0 where
    first : AreFirst d e
    each_ : AreFirst e ps → (p : Phrase) → IsAmong p e → IsAmong p d ⊎ NodeHeld ps p p.node

  nothing : (d : List Phrase) → Holding d d
  nothing d = record { first = begun.no_step d; each_ = λ whole p within. inl within }

  further : (d e f : List Phrase) → AreFirst f ps → Holding d e → Holding e f → (p : Phrase) → IsAmong p e ⊎ NodeHeld ps p p.node → IsAmong p d ⊎ NodeHeld ps p p.node
  further d e f whole first second p (inl within) = first.each_ (begun.then_ second.first whole) p within
  further d e f whole first second p (inr held) = inr held

  more : {d e f : List Phrase} → Holding d e → Holding e f → Holding d f
  more {d = d} {e = e} {f = f} first second = record {
    first = begun.then_ first.first second.first;
    each_ = λ whole p within. further d e f whole first second p (second.each_ whole p within);
  }

  each_more : {X : Type 0} (step : List Phrase → X → List Phrase) → ((d : List Phrase) (x : X) → Holding d (step d x)) → (d : List Phrase) (xs : List X) → Holding d (gathered_each step d xs)
  each_more step steps d [] = nothing d
  each_more step steps d (x ∷ xs) = more (steps d x) (each_more step steps (step d x) xs)

  -- phrases that are no items
  plain : {home : ℕ} (d e : List Phrase) → AreFirst d e → IsPlain home d e → Holding d e
  plain {home = home} d e first none = record { first = first; each_ = λ whole p within. by p (none.each_ p within) } where
    by : (p : Phrase) → IsAmong p d ⊎ IsPart home p → IsAmong p d ⊎ NodeHeld ps p p.node
    by p (inl within) = inl within
    by p (inr part) = inr (none_held ps p p.node part.single)

  -- one more
  one : (d : List Phrase) (a : Around) (n : Node) → NodeHeld ps (phrase (length d) a n) n → Holding d (add d a n)
  one d a n held = record { first = begun.one d a n; each_ = λ whole p within. by p (plainly.behind p (phrase (length d) a n) d within) } where
    by : (p : Phrase) → IsAmong p d ⊎ (p ≡ phrase (length d) a n) → IsAmong p d ⊎ NodeHeld ps p p.node
    by p (inl within) = inl within
    by p (inr same) = inr (subst (λ (x : Phrase). NodeHeld ps x x.node) (sym same) held)

  -- what holds where the last ones stand in the set
  where_ended : (d e : List Phrase) → AreFirst d e → (AreFirst e ps → Holding d e) → Holding d e
  where_ended d e first then_so = record { first = first; each_ = λ whole p within. (then_so whole).each_ whole p within }

  item_holding : (a : Around) (common : List Attribute) (d : List Phrase) (item : Declared) → AreHeld ps a.home item.name.name → Holding d (gathered_item a common d item)
  unfolding gathered_item
  item_holding a common d item held =
      let e : List Phrase = add d a (OfItem common item) in
      more (one d a (OfItem common item) held)
      (plain e (gathered_each (gathered_attribute (below d a)) e item.attributes) (attributes_first (below d a) e item.attributes) (attributes_plain (below d a) e item.attributes))

  items_holding : (a : Around) (common : List Attribute) (d : List Phrase) (items : List Declared) → ((name : List ℕ) → list_any (λ (item : Declared). bytes_eq item.name.name name) items ≡ true → AreHeld ps a.home name)
      → Holding d (gathered_each (gathered_item a common) d items)
  items_holding a common d [] held = nothing d
  items_holding a common d (item ∷ items) held =
      more (item_holding a common d item (held item.name.name (or_first (bytes_eq item.name.name item.name.name) _ (itself item.name.name))))
      (items_holding a common (gathered_item a common d item) items (λ name is. held name (or_second (bytes_eq item.name.name name) _ is)))

  declaration_holding : (a : Around) (d : List Phrase) (x : Declaration) → ((name : List ℕ) → declares name x ≡ true → AreHeld ps a.home name) → Holding d (gathered_declaration a d x)
  unfolding gathered_declaration
  declaration_holding a d (Declare p common items) held =
      let b : Around = below d a in
      let e : List Phrase = add d a (OfDeclare common) in
      let f : List Phrase = gathered_each (gathered_attribute b) e common in
      more (one d a (OfDeclare common) tt) (more (plain e f (attributes_first b e common) (attributes_plain b e common)) (items_holding b common f items held))
  declaration_holding a d (Structure p name parts) held =
      let e : List Phrase = add d a (OfStructure name parts) in
      more (one d a (OfStructure name parts) tt) (plain e (gathered_parts (below d a) [] e parts) (parts_first (below d a) [] e parts) (parts_plain (below d a) [] e parts))

  declarations_holding : (a : Around) (d : List Phrase) (xs : List Declaration) → ((name : List ℕ) → list_any (declares name) xs ≡ true → AreHeld ps a.home name) → Holding d (gathered_each (gathered_declaration a) d xs)
  declarations_holding a d [] held = nothing d
  declarations_holding a d (x ∷ xs) held =
      more (declaration_holding a d x (λ name is. held name (or_first (declares name x) _ is)))
      (declarations_holding a (gathered_declaration a d x) xs (λ name is. held name (or_second (declares name x) _ is)))

  head_holding : (d : List Phrase) (a : Around) (x : Head) → Holding d (gathered_head d a x)
  head_holding d a x = plain d (gathered_head d a x) (head_first d a x) (head_plain d a x)

  close_holding : (a : Around) (d : List Phrase) (o : Option Naming) → Holding d (gathered_any (gathered_close a) d o)
  close_holding a d o = plain d (gathered_any (gathered_close a) d o) (close_first a d o) (close_plain a d o)

  statement_holding : (d : List Phrase) (a : Around) (s : Statement) → Holding d (gathered_statement d a s)
  statement_holding d a s = plain d (gathered_statement d a s) (statement_first d a s) (statement_plain d a s)

  -- what holds where the first ones stand in the set
  where_begun : (d e : List Phrase) → AreFirst d e → (AreFirst d ps → Holding d e) → Holding d e
  where_begun d e first then_so = record { first = first; each_ = λ whole p within. (then_so (begun.then_ first whole)).each_ whole p within }

  mutual
    unfolding gathered_block gathered_elements

    block_holding : (d : List Phrase) (a : Around) (b : Block) → Holding d (gathered_block d a b)
    block_holding d a (BlockOf name head declarations body close) =
        let b : Around = opened (length d) a in
        let n : Node = OfUnit name head declarations in
        let d1 : List Phrase = add d a n in
        let d2 : List Phrase = gathered_head d1 b head in
        let d3 : List Phrase = gathered_each (gathered_declaration b) d2 declarations in
        let d4 : List Phrase = gathered_elements d3 b body in
        more (one d a n tt)
        (where_begun d1 (gathered_any (gathered_close b) d4 close)
        (begun.then_ (head_first d1 b head) (begun.then_ (declarations_first b d2 declarations) (begun.then_ (elements_first d3 b body) (close_first b d4 close)))) (λ start.
        more (head_holding d1 b head) (more (declarations_holding b d2 declarations (λ name_ is. record { phrase = phrase (length d) a n; there = begun.there ps d a n start; holds = is }))
        (more (elements_holding d3 b body) (close_holding b d4 close)))))

    elements_holding : (d : List Phrase) (a : Around) (x : Elements) → Holding d (gathered_elements d a x)
    elements_holding d a NoElements = nothing d
    elements_holding d a (StatementFirst s others) = more (statement_holding d a s) (elements_holding (gathered_statement d a s) a others)
    elements_holding d a (BlockFirst b others) = more (block_holding d a b) (elements_holding (gathered_block d a b) a others)

  -- what a template declares is held by it, or by the file
  template_holds : (d : List Phrase) (a : Around) (t : Template) (head : Head) → t.head ≡ head → AreFirst (add d a (OfTemplate t.name t.head t.declarations)) ps → (is_compool_head head ≡ true → (name : List ℕ) → list_any (declares name) t.declarations ≡ true → AreHeld ps a.home name)
      → (name : List ℕ) → list_any (declares name) t.declarations ≡ true → AreHeld ps (around_template (length d) a head).home name
  unfolding around_template
  template_holds d a t (Compool place) same start held = held refl
  template_holds d a t other same start held = λ name is. record {
    phrase = phrase (length d) a (OfTemplate t.name t.head t.declarations);
    there = begun.there ps d a (OfTemplate t.name t.head t.declarations) start;
    holds = (ap is_compool_head same, is);
  }

  template_holding : (d : List Phrase) (a : Around) (t : Template) → (is_compool_head t.head ≡ true → (name : List ℕ) → list_any (declares name) t.declarations ≡ true → AreHeld ps a.home name) → Holding d (gathered_template d a t)
  unfolding gathered_template
  template_holding d a t held =
      let n : Node = OfTemplate t.name t.head t.declarations in
      let b : Around = opened (length d) a in
      let c : Around = around_template (length d) a t.head in
      let d1 : List Phrase = add d a n in
      let d2 : List Phrase = gathered_head d1 b t.head in
      let d3 : List Phrase = gathered_each (gathered_declaration c) d2 t.declarations in
      more (one d a n tt)
      (where_begun d1 (gathered_any (gathered_close b) d3 t.close) (begun.then_ (head_first d1 b t.head) (begun.then_ (declarations_first c d2 t.declarations) (close_first b d3 t.close))) (λ start.
      more (head_holding d1 b t.head) (more (declarations_holding c d2 t.declarations (template_holds d a t t.head refl start held)) (close_holding b d3 t.close))))

  either_some : (found : Bool) (name : List ℕ) (o : Option (List ℕ)) → is_some o ≡ true → is_some (if found then Some name else o) ≡ true
  either_some true name o is = refl
  either_some false name o is = is

  found_some : (x y : Bool) (name : List ℕ) (o : Option (List ℕ)) → x ≡ true → y ≡ true → is_some (if x && y then Some name else o) ≡ true
  found_some true true name o one_ other = refl
  found_some true false name o one_ other = absurd (cc)
  found_some false y name o one_ other = absurd (cc)

  prefaces_holding : (d : List Phrase) (a : Around) (n : ℕ) (xs : List Preface) → ((name : List ℕ) → is_some (pool_of xs name) ≡ true → AreHeld ps a.home name) → Holding d (gathered_prefaces d a n xs)
  unfolding gathered_prefaces gathered_preface
  prefaces_holding d a n [] held = nothing d
  prefaces_holding d a n (Include place unit ∷ xs) held = more (one d (behind n a) (OfInclude unit) tt) (prefaces_holding (gathered_preface d (behind n a) (Include place unit)) a (suc n) xs held)
  prefaces_holding d a n (Templates t ∷ xs) held =
      more (template_holding d (behind n a) t (λ compool name says. held name (found_some (is_compool_head t.head) (list_any (declares name) t.declarations) t.name.name (pool_of xs name) compool says)))
      (prefaces_holding (gathered_preface d (behind n a) (Templates t)) a (suc n) xs (λ name is. held name (either_some (is_compool_head t.head && list_any (declares name) t.declarations) t.name.name (pool_of xs name) is)))

  file_holding : (d : List Phrase) (f : File) → Holding d (gathered_file d f)
  unfolding gathered_file
  file_holding d f =
      let a : Around = in_file (length d) in
      let n : Node = OfFile f.prefaces (name_of_block f.block) in
      let d1 : List Phrase = add d a n in
      let d2 : List Phrase = gathered_prefaces d1 a 0 f.prefaces in
      let prefaces = prefaces_first d1 a 0 f.prefaces in
      more (one d a n tt)
      (more (where_ended d1 d2 prefaces (λ whole.
      prefaces_holding d1 a 0 f.prefaces (λ name some. record { phrase = phrase (length d) a n; there = begun.there ps d a n (begun.then_ prefaces whole); holds = pooled_by d1 a 0 f.prefaces whole name some })))
      (block_holding d2 (behind (length f.prefaces) a) f.block))

-- all data of a set of files are held by what they belong to
pub data_are_held : (files : List File) (p : Phrase) → IsAmong p (phrases_of files) → NodeHeld (phrases_of files) p p.node
unfolding phrases_of
data_are_held files p within =
    let ps : List Phrase = gathered_each gathered_file [] files in
    by ((each_more ps gathered_file (file_holding ps) [] files).each_ (begun.no_step ps) p within) where
      by : IsAmong p [] ⊎ NodeHeld (phrases_of files) p p.node → NodeHeld (phrases_of files) p p.node
      by (inl none) = absurd none
      by (inr held) = held
