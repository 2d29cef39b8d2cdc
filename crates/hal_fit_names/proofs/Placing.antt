-- Where the sizes of what is declared stand: those of its own behind it, those before the comma before it, and no other item between. That of a FUNCTION's result stands in the FUNCTION.
use Rattle.std.proofs.Common.{◌≡◌, ◌≤◌, ◌<◌, ◌⊎◌, ℕ, zero, suc, true, false, List, [], ◌∷◌, ◌++◌, length, Option, Some, slice_get, refl, sym, ap, ◌∙◌, subst, inl, inr, arith, length-append}
use Rattle.hal_grammar.specs.Leaves.{Naming}
use Rattle.hal_grammar.specs.Declarations.{Attribute, Typed, Declared, Declaration, Declare, Structure}
use Rattle.hal_grammar.specs.Units.{Head, Function, Returns, NoKind, HasKind, Block, BlockOf, Elements, NoElements, StatementFirst, BlockFirst, Template, Preface, Include, Templates, File}
use Rattle.hal_phrases.specs.declared.around.Around.{Around}
use Rattle.hal_phrases.specs.Surroundings.{in_file, behind, opened}
use Rattle.hal_phrases.specs.Phrases.{Node, Phrase, phrase, add, gathered_each, gathered_any, OfFile, OfInclude, OfTemplate, OfUnit, OfDeclare, OfItem, OfStructure}
use Rattle.hal_phrases.specs.GatheredExpressions.{below}
use Rattle.hal_phrases.specs.GatheredDeclarations.{gathered_attribute, gathered_item, gathered_parts, gathered_declaration}
use Rattle.hal_phrases.specs.GatheredStatements.{gathered_close, gathered_statement}
use Rattle.hal_phrases.specs.GatheredUnits.{gathered_parameter, gathered_returns, gathered_head, gathered_block, gathered_elements, around_template, gathered_template, gathered_preface, gathered_prefaces, name_of_block, gathered_file, phrases_of}
use Rattle.hal_names.specs.Laws.{IsCounted}
use Rattle.hal_scope.specs.Rules.{IsAmong}
use Rattle.hal_templates.specs.Heads as heads
use Rattle.hal_fit_rules.specs.Begun.{AreFirst}
use Rattle.hal_fit_rules.proofs.Beginning as begun
use Rattle.hal_fit_rules.proofs.BegunStatements.{close_first, statement_first}
use Rattle.hal_fit_rules.proofs.BegunDeclarations.{attributes_first, parts_first, head_first}
use Rattle.hal_fit_rules.proofs.Constants.{among_found}
use Rattle.hal_fit_names.proofs.Plain as plainly
use Rattle.hal_fit_names.proofs.Plain.{is_item, is_sized, IsPart, IsPlain, no_step, then_, one}
use Rattle.hal_fit_names.proofs.PlainStatements.{close_plain, statement_plain}
use Rattle.hal_fit_names.proofs.PlainDeclarations.{attribute_plain, attributes_plain, parts_plain, head_plain}

-- an attribute of a phrase stands in its block, and each item among the phrases up to its end stands before that phrase, or is it
pub record IsPlaced (ps : List Phrase) (p : Phrase) (x : Attribute) : Type 0 where
  pub before : List Phrase
  pub around : Around
  pub begun : AreFirst (gathered_attribute around before x) ps
  pub block : around.block ≡ p.around.block
  pub home : around.home ≡ p.around.home
  pub beside : (k : ℕ) (r : Phrase) → slice_get ps k ≡ Some r → is_item r.node ≡ true → r.number < length (gathered_attribute around before x) → (r.number < p.number) ⊎ (r ≡ p)

abbrev pub ArePlaced : List Phrase → Phrase → List Attribute → Type 0
ArePlaced ps p [] = Unit {0}
ArePlaced ps p (x ∷ xs) = IsPlaced ps p x × ArePlaced ps p xs

-- a phrase of these declares names with these attributes
pub record IsGiven (ps : List Phrase) (common : List Attribute) : Type 0 where
  pub phrase : Phrase
  pub within : IsAmong phrase ps
  pub is : phrase.node ≡ OfDeclare common

-- the type of the result of a FUNCTION stands in it, as an attribute would
abbrev pub ReturnsPlaced : List Phrase → Phrase → Returns → Type 0
ReturnsPlaced ps p NoKind = Unit {0}
ReturnsPlaced ps p (HasKind kind precision) = IsPlaced ps (heads.within p) (Typed kind)

abbrev pub HeadPlaced : List Phrase → Phrase → Head → Type 0
HeadPlaced ps p (Function place inputs returns mode) = ReturnsPlaced ps p returns
HeadPlaced ps p other = Unit {0}

-- all attributes of an item are placed, and the type of a result
abbrev pub NodePlaced : List Phrase → Phrase → Node → Type 0
NodePlaced ps p (OfItem common item) = ArePlaced ps p item.attributes × ArePlaced ps p common × IsGiven ps common
NodePlaced ps p (OfUnit name head declarations) = HeadPlaced ps p head
NodePlaced ps p (OfTemplate name head declarations) = HeadPlaced ps p head
NodePlaced ps p other = Unit {0}

-- what has no sizes is placed
none_placed : (ps : List Phrase) (p : Phrase) (n : Node) → is_sized n ≡ false → NodePlaced ps p n
none_placed ps p (OfItem common item) plain = absurd (cc)
none_placed ps p (OfUnit name head declarations) plain = absurd (cc)
none_placed ps p (OfTemplate name head declarations) plain = absurd (cc)
none_placed ps p other plain = tt

pub longer : {d e : List Phrase} → AreFirst d e → length d ≤ length e
longer {d = d} first = subst (λ n. length d ≤ n) (sym (ap (λ (xs : List Phrase). length xs) first.whole ∙ length-append d first.later)) (omega arith)

pub one_longer : (d : List Phrase) (a : Around) (n : Node) → length (add d a n) ≡ suc (length d)
one_longer d a n = length-append d (phrase (length d) a n ∷ []) ∙ omega arith

-- the first phrases of a list
first_among : {X : Type 0} (d later : List X) (k : ℕ) (x : X) → slice_get (d ++ later) k ≡ Some x → k < length d → slice_get d k ≡ Some x
first_among [] later k x there low = absurd (omega (arith, low))
first_among (y ∷ d) later zero x there low = there
first_among (y ∷ d) later (suc k) x there low = first_among d later k x there (omega (arith, low))

within_first : {X : Type 0} (d later : List X) (k : ℕ) (x : X) → slice_get d k ≡ Some x → (slice_get (d ++ later) k ≡ Some x) × (k < length d)
within_first [] later k x there = absurd (cc)
within_first (y ∷ d) later zero x there = (there, omega arith)
within_first (y ∷ d) later (suc k) x there = let more = within_first d later k x there in (more.0, omega (arith, more.1))

pub at_among : {X : Type 0} (d : List X) (k : ℕ) (x : X) → slice_get d k ≡ Some x → IsAmong x d
at_among [] k x there = absurd (cc)
at_among (y ∷ d) zero x there = inl (let same : y ≡ x = cc in sym same)
at_among (y ∷ d) (suc k) x there = inr (at_among d k x there)

module _ (ps : List Phrase) (counted : IsCounted ps) where
  -- a phrase among the first ones has a number below their length
  pub number_low : (d : List Phrase) (r : Phrase) → AreFirst d ps → IsAmong r d → r.number < length d
  number_low d r first within =
      let found = among_found r d within in
      let place = within_first d first.later found.0 r found.1 in
      omega (arith, counted found.0 r (ap (λ xs. slice_get xs found.0) first.whole ∙ place.0), place.1)

  -- and one with such a number is among them
  pub number_among : (d : List Phrase) (k : ℕ) (r : Phrase) → AreFirst d ps → slice_get ps k ≡ Some r → r.number < length d → IsAmong r d
  number_among d k r first there low =
      at_among d k r (first_among d first.later k r (sym (ap (λ xs. slice_get xs k) first.whole) ∙ there) (omega (arith, counted k r there, low)))

  -- phrases are added, of which each item is placed
  record Places (d e : List Phrase) : Type 0 where
    first : AreFirst d e
    each_ : AreFirst e ps → (p : Phrase) → IsAmong p e → IsAmong p d ⊎ NodePlaced ps p p.node

  nothing : (d : List Phrase) → Places d d
  nothing d = record { first = begun.no_step d; each_ = λ whole p within. inl within }

  further : (d e f : List Phrase) → AreFirst f ps → Places d e → Places e f → (p : Phrase) → IsAmong p e ⊎ NodePlaced ps p p.node → IsAmong p d ⊎ NodePlaced ps p p.node
  further d e f whole first second p (inl within) = first.each_ (begun.then_ second.first whole) p within
  further d e f whole first second p (inr placed) = inr placed

  more : {d e f : List Phrase} → Places d e → Places e f → Places d f
  more {d = d} {e = e} {f = f} first second = record {
    first = begun.then_ first.first second.first;
    each_ = λ whole p within. further d e f whole first second p (second.each_ whole p within);
  }

  each_more : {X : Type 0} (step : List Phrase → X → List Phrase) → ((d : List Phrase) (x : X) → Places d (step d x)) → (d : List Phrase) (xs : List X) → Places d (gathered_each step d xs)
  each_more step steps d [] = nothing d
  each_more step steps d (x ∷ xs) = more (steps d x) (each_more step steps (step d x) xs)

  -- one more item that is placed
  one_placed : (home : ℕ) (q p : Phrase) (e d : List Phrase) → IsAmong q d ⊎ IsPart home q → (IsAmong q d → IsAmong q e ⊎ (q ≡ p)) → NodePlaced ps p p.node → IsAmong q e ⊎ NodePlaced ps q q.node
  one_placed home q p e d (inr part) ends placed = inr (none_placed ps q q.node part.unsized)
  one_placed home q p e d (inl within) ends placed = by (ends within) where
    by : IsAmong q e ⊎ (q ≡ p) → IsAmong q e ⊎ NodePlaced ps q q.node
    by (inl before) = inl before
    by (inr same) = inr (subst (λ (x : Phrase). NodePlaced ps x x.node) (sym same) placed)

  -- phrases without sizes
  plain : {home : ℕ} (d e : List Phrase) → AreFirst d e → IsPlain home d e → Places d e
  plain {home = home} d e first none = record { first = first; each_ = λ whole p within. by p (none.each_ p within) } where
    by : (p : Phrase) → IsAmong p d ⊎ IsPart home p → IsAmong p d ⊎ NodePlaced ps p p.node
    by p (inl within) = inl within
    by p (inr part) = inr (none_placed ps p p.node part.unsized)

  -- the items up to the end of what stands in a phrase
  beside_own : (home : ℕ) (a : Around) (n : Node) (e f : List Phrase) → AreFirst f ps → AreFirst e ps → IsPlain home (add e a n) f → (k : ℕ) (r : Phrase) → slice_get ps k ≡ Some r → is_item r.node ≡ true
      → r.number < length f → (r.number < length e) ⊎ (r ≡ phrase (length e) a n)
  beside_own home a n e f whole start none k r there is low = by_plain (none.each_ r (number_among f k r whole there low)) where
    by_end : IsAmong r e ⊎ (r ≡ phrase (length e) a n) → (r.number < length e) ⊎ (r ≡ phrase (length e) a n)
    by_end (inl within) = inl (number_low e r start within)
    by_end (inr same) = inr same

    by_plain : IsAmong r (add e a n) ⊎ IsPart home r → (r.number < length e) ⊎ (r ≡ phrase (length e) a n)
    by_plain (inl within) = by_end (plainly.behind r (phrase (length e) a n) e within)
    by_plain (inr part) = let other : true ≡ false = sym is ∙ part.single in absurd (cc)

  -- its own attributes
  own_placed : (a : Around) (common : List Attribute) (item : Declared) (e : List Phrase) (xs : List Attribute) (d : List Phrase) → AreFirst e ps → IsPlain a.home (add e a (OfItem common item)) d
      → AreFirst (gathered_each (gathered_attribute (below e a)) d xs) ps → ArePlaced ps (phrase (length e) a (OfItem common item)) xs
  own_placed a common item e [] d start none whole = tt
  own_placed a common item e (x ∷ xs) d start none whole =
      let f : List Phrase = gathered_attribute (below e a) d x in
      let f_whole = begun.then_ (attributes_first (below e a) f xs) whole in
      let f_none = then_ none (attribute_plain (below e a) d x) in
      (record { before = d; around = below e a; begun = f_whole; block = refl; home = refl; beside = beside_own a.home a (OfItem common item) e f f_whole start f_none }, own_placed a common item e xs f start f_none whole)

  -- those before the comma
  given_placed : (b : Around) (xs : List Attribute) (d : List Phrase) (p : Phrase) → b.block ≡ p.around.block → b.home ≡ p.around.home → AreFirst (gathered_each (gathered_attribute b) d xs) ps
      → length (gathered_each (gathered_attribute b) d xs) ≤ p.number → ArePlaced ps p xs
  given_placed b [] d p block home whole low = tt
  given_placed b (x ∷ xs) d p block home whole low =
      let f : List Phrase = gathered_attribute b d x in
      let grown = longer (attributes_first b f xs) in (
        record { before = d; around = b; begun = begun.then_ (attributes_first b f xs) whole; block = block; home = home; beside = λ k r there is less. inl (omega (arith, less, grown, low)) },
        given_placed b xs f p block home whole low,
      )

  -- an item
  item_placed : (a : Around) (common : List Attribute) (e : List Phrase) (item : Declared) → (AreFirst e ps → ArePlaced ps (phrase (length e) a (OfItem common item)) common × IsGiven ps common) → Places e (gathered_item a common e item)
  unfolding gathered_item
  item_placed a common e item given =
      let d : List Phrase = add e a (OfItem common item) in
      let p : Phrase = phrase (length e) a (OfItem common item) in
      record {
        first = begun.then_ (begun.one e a (OfItem common item)) (attributes_first (below e a) d item.attributes);
        each_ = λ whole q within.
            let start = begun.then_ (begun.one e a (OfItem common item)) (begun.then_ (attributes_first (below e a) d item.attributes) whole) in
            one_placed a.home q p e d ((attributes_plain (below e a) d item.attributes).each_ q within) (λ among_. plainly.behind q p e among_) (own_placed a common item e item.attributes d start (no_step d) whole, (given start).0, (given start).1);
      }

  items_placed : (b : Around) (common : List Attribute) (d : List Phrase) (items : List Declared) (e : List Phrase) → AreFirst (gathered_each (gathered_attribute b) d common) e → (AreFirst d ps → IsGiven ps common) → Places e (gathered_each (gathered_item b common) e items)
  items_placed b common d [] e first given = nothing e
  items_placed b common d (item ∷ items) e first given =
      let one_item = item_placed b common e item (λ start. (
        given_placed b common d (phrase (length e) b (OfItem common item)) refl refl (begun.then_ first start) (longer first),
        given (begun.then_ (attributes_first b d common) (begun.then_ first start)),
      )) in
      more one_item (items_placed b common d items (gathered_item b common e item) (begun.then_ first one_item.first) given)

  single_plain : (d : List Phrase) (a : Around) (n : Node) → is_sized n ≡ false → Places d (add d a n)
  single_plain d a n none = plain d (add d a n) (begun.one d a n) (one d a n none)

  declaration_placed : (a : Around) (d : List Phrase) (x : Declaration) → Places d (gathered_declaration a d x)
  unfolding gathered_declaration
  declaration_placed a d (Declare p common items) =
      let b : Around = below d a in
      let e : List Phrase = add d a (OfDeclare common) in
      let f : List Phrase = gathered_each (gathered_attribute b) e common in
      more (single_plain d a (OfDeclare common) refl) (more (plain e f (attributes_first b e common) (attributes_plain b e common)) (items_placed b common e items f (begun.no_step f)
      (λ start. record { phrase = phrase (length d) a (OfDeclare common); within = begun.among ps d a (OfDeclare common) start; is = refl })))
  declaration_placed a d (Structure p name parts) =
      let e : List Phrase = add d a (OfStructure name parts) in
      more (single_plain d a (OfStructure name parts) refl) (plain e (gathered_parts (below d a) [] e parts) (parts_first (below d a) [] e parts) (parts_plain (below d a) [] e parts))

  declarations_placed : (a : Around) (d : List Phrase) (xs : List Declaration) → Places d (gathered_each (gathered_declaration a) d xs)
  declarations_placed a d xs = each_more (gathered_declaration a) (declaration_placed a) d xs

  -- the type of a result
  result_placed : (a : Around) (n : Node) (e : List Phrase) (head : Head) → is_item n ≡ false → AreFirst e ps → AreFirst (gathered_head (add e a n) (opened (length e) a) head) ps → HeadPlaced ps (phrase (length e) a n) head
  unfolding gathered_head gathered_returns gathered_attribute
  result_placed a n e (Function place inputs (HasKind kind precision) mode) none start whole = record {
    before = gathered_each (gathered_parameter (opened (length e) a) false) (add e a n) inputs;
    around = opened (length e) a;
    begun = whole;
    block = refl;
    home = refl;
    beside = λ k r there is low. by r is
        (beside_own (length e) a n e (gathered_head (add e a n) (opened (length e) a) (Function place inputs (HasKind kind precision) mode)) whole start
        (head_plain (add e a n) (opened (length e) a) (Function place inputs (HasKind kind precision) mode)) k r there is low);
  } where
    by : (r : Phrase) → is_item r.node ≡ true → (r.number < length e) ⊎ (r ≡ phrase (length e) a n) → (r.number < length e) ⊎ (r ≡ heads.within (phrase (length e) a n))
    by r is (inl less) = inl less
    by r is (inr same) = absurd (let other : true ≡ false = sym is ∙ (ap (λ (x : Phrase). is_item x.node) same ∙ none) in cc)
  result_placed a n e (Function place inputs NoKind mode) none start whole = tt
  result_placed a n e other none start whole = tt

  -- a phrase with a head, and what stands in that
  head_placed : (d : List Phrase) (a : Around) (n : Node) (head : Head) → is_item n ≡ false → (HeadPlaced ps (phrase (length d) a n) head → NodePlaced ps (phrase (length d) a n) n) → Places d (gathered_head (add d a n) (opened (length d) a) head)
  head_placed d a n head none so =
      let e : List Phrase = add d a n in
      record {
        first = begun.then_ (begun.one d a n) (head_first e (opened (length d) a) head);
        each_ = λ whole q within.
            one_placed (length d) q (phrase (length d) a n) d e ((head_plain e (opened (length d) a) head).each_ q within) (λ among_. plainly.behind q (phrase (length d) a n) d among_)
            (so (result_placed a n d head none (begun.then_ (begun.one d a n) (begun.then_ (head_first e (opened (length d) a) head) whole)) whole));
      }

  close_placed : (a : Around) (d : List Phrase) (o : Option Naming) → Places d (gathered_any (gathered_close a) d o)
  close_placed a d o = plain d (gathered_any (gathered_close a) d o) (close_first a d o) (close_plain a d o)

  mutual
    unfolding gathered_block gathered_elements

    block_placed : (d : List Phrase) (a : Around) (b : Block) → Places d (gathered_block d a b)
    block_placed d a (BlockOf name head declarations body close) =
        more (head_placed d a (OfUnit name head declarations) head refl (λ placed. placed))
        (more (declarations_placed (opened (length d) a) _ declarations) (more (elements_placed _ (opened (length d) a) body) (close_placed (opened (length d) a) _ close)))

    elements_placed : (d : List Phrase) (a : Around) (x : Elements) → Places d (gathered_elements d a x)
    elements_placed d a NoElements = nothing d
    elements_placed d a (StatementFirst s others) = more (plain d (gathered_statement d a s) (statement_first d a s) (statement_plain d a s)) (elements_placed (gathered_statement d a s) a others)
    elements_placed d a (BlockFirst b others) = more (block_placed d a b) (elements_placed (gathered_block d a b) a others)

  template_placed : (d : List Phrase) (a : Around) (t : Template) → Places d (gathered_template d a t)
  unfolding gathered_template
  template_placed d a t =
      more (head_placed d a (OfTemplate t.name t.head t.declarations) t.head refl (λ placed. placed))
      (more (declarations_placed (around_template (length d) a t.head) _ t.declarations) (close_placed (opened (length d) a) _ t.close))

  preface_placed : (d : List Phrase) (a : Around) (x : Preface) → Places d (gathered_preface d a x)
  unfolding gathered_preface
  preface_placed d a (Include p name) = single_plain d a (OfInclude name) refl
  preface_placed d a (Templates template) = template_placed d a template

  prefaces_placed : (d : List Phrase) (a : Around) (n : ℕ) (xs : List Preface) → Places d (gathered_prefaces d a n xs)
  unfolding gathered_prefaces
  prefaces_placed d a n [] = nothing d
  prefaces_placed d a n (x ∷ xs) = more (preface_placed d (behind n a) x) (prefaces_placed (gathered_preface d (behind n a) x) a (suc n) xs)

  file_placed : (d : List Phrase) (f : File) → Places d (gathered_file d f)
  unfolding gathered_file
  file_placed d f =
      more (single_plain d (in_file (length d)) (OfFile f.prefaces (name_of_block f.block)) refl)
      (more (prefaces_placed _ (in_file (length d)) 0 f.prefaces) (block_placed _ (behind (length f.prefaces) (in_file (length d))) f.block))

-- each item of a set of files is placed, and each head
pub items_are_placed : (files : List File) → IsCounted (phrases_of files) → (p : Phrase) → IsAmong p (phrases_of files) → NodePlaced (phrases_of files) p p.node
unfolding phrases_of
items_are_placed files counted p within =
    let ps : List Phrase = gathered_each gathered_file [] files in
    by ((each_more ps counted gathered_file (file_placed ps counted) [] files).each_ (begun.no_step ps) p within) where
      by : IsAmong p [] ⊎ NodePlaced (phrases_of files) p p.node → NodePlaced (phrases_of files) p p.node
      by (inl none) = absurd none
      by (inr placed) = placed
