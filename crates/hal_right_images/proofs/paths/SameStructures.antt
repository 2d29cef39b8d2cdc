-- The structure that a type of a written template's data names has the same parts as the one that the type of the COMPOOL's data names.
use Rattle.std.proofs.Common.{◌≡◌, ℕ, true, false, List, [], ◌∷◌, Option, Some, None, slice_get, refl, sym, ap, ◌∙◌, subst, inl, inr, if◌then◌else◌}
use Rattle.std.specs.Option.{option_and_then, option_or}
use Rattle.hal_grammar.specs.Leaves.{Naming}
use Rattle.hal_grammar.specs.Declarations.{Attribute, Declaration, Declared, Part}
use Rattle.hal_grammar.specs.Units.{Compool, File, Head, Preface, Program, Task, Procedure, Function}
use Rattle.hal_phrases.specs.Phrases.{Node, Phrase, OfFile, OfItem, OfStructure, OfTemplate}
use Rattle.hal_phrases.specs.GatheredUnits.{phrases_of}
use Rattle.hal_names.specs.declared.key.Key.{Key}
use Rattle.hal_names.specs.declared.key.Space.TheVariants as space
use Rattle.hal_names.specs.Keys.{declared_at, declared_by, key, own}
use Rattle.hal_names.specs.Laws.{declared_or_around, IsCounted, IsFirst}
use Rattle.hal_names.specs.Means.{means, prefaces_of, included}
use Rattle.hal_scope.specs.Repeated.{given}
use Rattle.hal_scope.specs.Rules.{IsAmong, IsSound, rows}
use Rattle.hal_constants.specs.Known.{known}
use Rattle.hal_templates.specs.Agreeing.{HaveSameParts}
use Rattle.hal_templates.specs.Entries.{entries}
use Rattle.hal_templates.specs.Giving.{AreSameNames, GivesItsUnit, HaveSameHead, IsData, IsOwn, IsSameName, IsStructure}
use Rattle.hal_templates.specs.Heads.{is_compool}
use Rattle.hal_templates.specs.Own.{own_entries}
use Rattle.hal_templates.specs.Templates.{home_of}
use Rattle.hal_templates.proofs.Shown.{is_own}
use Rattle.hal_meaning.specs.Bodies.{is_compool_head, is_unit, meant_at, pooled, pooled_at, standing_for}
use Rattle.hal_meaning.specs.Places.{is_in_unit}
use Rattle.hal_fit_names.specs.Standing.{StandsForData}
use Rattle.hal_fit_names.proofs.Placing.{at_among}
use Rattle.hal_fit_names.proofs.Pooling.{IsPooled}
use Rattle.hal_right_images.proofs.paths.Held.{IsDeclaredBy, NodeHeld, all_held}
use Rattle.hal_right_images.proofs.paths.Placed.{same_there}

-- what an entry of the unit is the same as
record HasPartner (ps : List Phrase) (h u : ℕ) (y : Node) : Type 0 where
  other : Node
  same : IsSameName ps (known ps) h u other y

-- each entry of the unit has one
partner_of : (ps : List Phrase) (h : ℕ) (xs : List Node) (u : ℕ) (ys : List Node) → AreSameNames ps (known ps) h xs u ys → (y : Node) → IsAmong y ys → HasPartner ps h u y
partner_of ps h [] u [] same y within = absurd within
partner_of ps h [] u (z ∷ ys) same y within = absurd same
partner_of ps h (x ∷ xs) u [] same y within = absurd within
partner_of ps h (x ∷ xs) u (z ∷ ys) same y (inl is) = record { other = x; same = subst (λ (n : Node). IsSameName ps (known ps) h u x n) (sym is) same.0 }
partner_of ps h (x ∷ xs) u (z ∷ ys) same y (inr later) = let rest = partner_of ps h xs u ys same.1 y later in record { other = rest.other; same = rest.same }

-- structures that are the same as some
record IsSameStructure (ps : List Phrase) (h u : ℕ) (name : Naming) (parts : List Part) : Type 0 where
  p : Phrase
  q : Phrase
  own_name : Naming
  own_parts : List Part
  named : own_name.name ≡ name.name
  mine : IsOwn ps h own_name.name p
  node : p.node ≡ OfStructure own_name own_parts
  theirs : IsOwn ps u name.name q
  declares : q.node ≡ OfStructure name parts
  same : HaveSameParts ps (known ps) p own_parts q parts

-- what is the same as a structure is one
structure_same : {ps : List Phrase} {h u : ℕ} {x y : Node} → IsSameName ps (known ps) h u x y → (name : Naming) (parts : List Part) → y ≡ OfStructure name parts → IsSameStructure ps h u name parts
structure_same {ps = ps} {h = h} {u = u} (IsStructure own other xs ys p q named mine this theirs that same) name parts is =
    let of_name : other ≡ name = cc in
    let of_parts : ys ≡ parts = cc in
    record {
      p = p;
      q = q;
      own_name = own;
      own_parts = xs;
      named = named ∙ ap (λ (n : Naming). n.name) of_name;
      mine = mine;
      node = this;
      theirs = subst (λ (n : Naming). IsOwn ps u n.name q) of_name theirs;
      declares = that ∙ is;
      same = subst (λ (zs : List Part). HaveSameParts ps (known ps) p xs q zs) of_parts same;
    }
structure_same (IsData c other_common a b p q named mine this theirs that means_) name parts is = absurd (cc)

-- a COMPOOL is one, by either word
compool_same : (head : Head) → is_compool_head head ≡ true → is_compool head ≡ true
unfolding is_compool
compool_same (Compool place) is = refl
compool_same (Program place) is = absurd (cc)
compool_same (Task place) is = absurd (cc)
compool_same (Procedure place inputs outputs mode) is = absurd (cc)
compool_same (Function place inputs returns mode) is = absurd (cc)

-- a COMPOOL shows all that it declares
all_shown : (ps : List Phrase) (p q : Phrase) (head other : Head) (declarations : List Declaration) → HaveSameHead ps (known ps) p head q other → is_compool_head head ≡ true → own_entries ps q.number other declarations ≡ entries declarations
unfolding own_entries
all_shown ps p q (Compool at) (Compool there) declarations same is = refl
all_shown ps p q (Compool at) (Program there) declarations same is = absurd same
all_shown ps p q (Compool at) (Task there) declarations same is = absurd same
all_shown ps p q (Compool at) (Procedure there inputs outputs mode) declarations same is = absurd same
all_shown ps p q (Compool at) (Function there inputs returns mode) declarations same is = absurd same
all_shown ps p q (Program at) other declarations same is = absurd (cc)
all_shown ps p q (Task at) other declarations same is = absurd (cc)
all_shown ps p q (Procedure at inputs outputs mode) other declarations same is = absurd (cc)
all_shown ps p q (Function at inputs returns mode) other declarations same is = absurd (cc)

-- one number is found
some_same : {m n : ℕ} → Some m ≡ Some n → m ≡ n
some_same is = cc

-- a file is no unit
file_no_unit : (n : Node) (prefaces : List Preface) (unit : Naming) → n ≡ OfFile prefaces unit → is_unit n ≡ true → ⊥
file_no_unit n prefaces unit is other = let so : false ≡ true = sym (ap is_unit is) ∙ other in cc

-- one structure has one list of parts
parts_same : (a b : Naming) (xs ys : List Part) → OfStructure a xs ≡ OfStructure b ys → xs ≡ ys
parts_same a b xs ys is = cc

-- data that a block declares belong to it
pub own_home : (ps : List Phrase) → ((q : Key) (n : ℕ) → own ps q ≡ Some n → IsFirst ps q n) → (q : Phrase) (u : ℕ) (x : List ℕ) (common : List Attribute) (item : Declared) → q.node ≡ OfItem common item → IsOwn ps u x q → q.around.home ≡ u
unfolding declared_at
own_home ps found q u x common item node owned =
    let first = found (key space.Declared u x) q.number owned.found in
    let one : first.declaring ≡ q = same_there first.declaring q (sym first.there ∙ owned.there) in
    let keyed : Some (key space.Declared q.around.home item.name.name) ≡ Some (key space.Declared u x) = ap (declared_at q.number q.around) (sym node) ∙ (ap declared_by (sym one) ∙ first.declares) in
    ap (λ (o : Option Key). elim o [ None ↦ 0 | Some w ↦ w.owner ]) keyed

-- a structure that a unit and a template of it declare, where both say the same of all that the unit shows
module _ (files : List File) (named : IsSound rows (phrases_of files)) (outward : (block : ℕ) (name : List ℕ) → means (phrases_of files) block name ≡ declared_or_around (phrases_of files) block name)
    (h u : ℕ) (mine_all theirs_all : List Node) (meanings : AreSameNames (phrases_of files) (known (phrases_of files)) h mine_all u theirs_all)
    (p : Phrase) (common : List Attribute) (item : Declared) (within : IsAmong p (phrases_of files)) (is : p.node ≡ OfItem common item) (home : p.around.home ≡ h)
    (template : List ℕ) (m n : ℕ) (r s : Phrase) (own_name other_name : Naming) (xs ys : List Part) (meant : means (phrases_of files) p.around.block template ≡ Some m) (at : slice_get (phrases_of files) m ≡ Some r) (node : r.node ≡ OfStructure own_name xs)
    (other_at : slice_get (phrases_of files) n ≡ Some s) (other_node : s.node ≡ OfStructure other_name ys) (spelled : other_name.name ≡ template) (other_home : s.around.home ≡ u) (listed : IsAmong (OfStructure other_name ys) theirs_all) where
  abbrev whole : List Phrase
  whole = phrases_of files

  partner : IsSameStructure whole h u other_name ys
  partner =
      let one = partner_of whole h mine_all u theirs_all meanings (OfStructure other_name ys) listed in
      structure_same one.same other_name ys refl

  -- it is the one
  theirs_is : partner.q ≡ s
  unfolding declared_at given
  theirs_is =
      let mine : IsOwn whole u other_name.name s = subst (λ k. IsOwn whole k other_name.name s) other_home (is_own files named s (OfStructure other_name ys) other_name s.around.home (at_among whole n s other_at) other_node refl refl refl) in
      same_there partner.q s (sym partner.theirs.there ∙ (ap (slice_get whole) (some_same (sym partner.theirs.found ∙ mine.found)) ∙ mine.there))

  -- and the template's is the other one
  mine_is : partner.p ≡ r
  mine_is =
      let around : p.around.block ≡ h = subst (NodeHeld whole p) is (all_held files p within) ∙ home in
      let owned : own whole (key space.Declared h template) ≡ Some partner.p.number = subst (λ x. own whole (key space.Declared h x) ≡ Some partner.p.number) (partner.named ∙ spelled) partner.mine.found in
      let means_it : means whole p.around.block template ≡ Some partner.p.number =
      ap (λ b. means whole b template) around
      ∙ (outward h template
      ∙ ap (λ (o : Option ℕ). option_or o (elim (slice_get whole h) [ None ↦ None | Some f ↦ elim (prefaces_of f.node) [ None ↦ means whole f.around.block template | Some before ↦ included whole before template ] ])) owned) in
      same_there partner.p r (sym partner.mine.there ∙ (ap (slice_get whole) (some_same (sym means_it ∙ meant)) ∙ at))

  pub own_same : HaveSameParts whole (known whole) r xs s ys
  own_same =
      let parts : partner.own_parts ≡ xs = parts_same partner.own_name own_name partner.own_parts xs (sym partner.node ∙ (ap (λ (k : Phrase). k.node) mine_is ∙ node)) in
      subst (λ (k : Phrase). HaveSameParts whole (known whole) k xs s ys) mine_is
      (subst (λ (zs : List Part). HaveSameParts whole (known whole) partner.p zs s ys) parts (subst (λ (k : Phrase). HaveSameParts whole (known whole) partner.p partner.own_parts k ys) theirs_is partner.same))

module _ (files : List File) (named : IsSound rows (phrases_of files)) (counted : IsCounted (phrases_of files))
    (gives : (p : Phrase) (name : Naming) (head : Head) (declarations : List Declaration) → IsAmong p (phrases_of files) → p.node ≡ OfTemplate name head declarations → GivesItsUnit (phrases_of files) p name head declarations)
    (found : (q : Key) (n : ℕ) → own (phrases_of files) q ≡ Some n → IsFirst (phrases_of files) q n)
    (outward : (block : ℕ) (name : List ℕ) → means (phrases_of files) block name ≡ declared_or_around (phrases_of files) block name)
    (k : ℕ) (p : Phrase) (common : List Attribute) (item : Declared) (there : slice_get (phrases_of files) k ≡ Some p) (is : p.node ≡ OfItem common item)
    (stands : StandsForData (phrases_of files) k p common item) where
  abbrev ps : List Phrase
  ps = phrases_of files

  abbrev name : List ℕ
  name = item.name.name

  module _ (f : Phrase) (prefaces : List Preface) (unit : Naming) (home : slice_get ps p.around.home ≡ Some f) (file : f.node ≡ OfFile prefaces unit) (pool : IsPooled ps p.around.home prefaces name) where
    given_ : GivesItsUnit ps pool.phrase pool.template pool.head pool.declarations
    given_ = gives pool.phrase pool.template pool.head pool.declarations pool.within pool.is

    abbrev u : ℕ
    u = given_.unit.number

    -- what the template declares belongs to the file
    homes : home_of pool.phrase pool.head ≡ p.around.home
    homes = ap (λ b. if b then pool.phrase.around.home else pool.phrase.number) (compool_same pool.head pool.compool) ∙ pool.here

    -- what it declares is the same as what the COMPOOL declares
    meanings : AreSameNames ps (known ps) p.around.home (entries pool.declarations) u (entries given_.unit_declarations)
    meanings =
        subst (λ (ys : List Node). AreSameNames ps (known ps) p.around.home (entries pool.declarations) u ys) (all_shown ps pool.phrase given_.unit pool.head given_.unit_head given_.unit_declarations given_.heads pool.compool)
        (subst (λ h. AreSameNames ps (known ps) h (entries pool.declarations) u (own_entries ps u given_.unit_head given_.unit_declarations)) homes given_.meanings)

    -- what the data stand for is what their name means in the COMPOOL
    standing_so : standing_for ps k ≡ elim (own ps (key space.Declared u name)) [ None ↦ k | Some other ↦ other ]
    standing_so =
        ap (λ (o : Option ℕ). elim o [ None ↦ k | Some other ↦ other ])
        (ap (option_and_then (λ (r : Phrase). meant_at ps r r.node)) there
        ∙ (ap (meant_at ps p) is
        ∙ (ap (option_and_then (λ (h : Phrase). pooled_at ps name h.node)) home
        ∙ (ap (pooled_at ps name) file
        ∙ (ap (option_and_then (λ other. pooled ps other name)) pool.pool ∙ ap (option_and_then (λ v. own ps (key space.Declared v name))) given_.is_unit.found)))))

    -- the data that they stand for belong to the COMPOOL
    stands_in : stands.phrase.around.home ≡ u
    stands_in = by (own ps (key space.Declared u name)) refl where
      by : (o : Option ℕ) → own ps (key space.Declared u name) ≡ o → stands.phrase.around.home ≡ u
      by None none =
          let number : stands.phrase.number ≡ k = sym stands.stands ∙ (standing_so ∙ ap (λ (o : Option ℕ). elim o [ None ↦ k | Some other ↦ other ]) none) in
          let same : stands.phrase ≡ p = same_there stands.phrase p (sym stands.there ∙ (ap (slice_get ps) number ∙ there)) in
          absurd (file_no_unit f.node prefaces unit file
          (sym (ap (λ (o : Option Phrase). elim o [ None ↦ false | Some h ↦ is_unit h.node ]) home) ∙ (ap (λ (r : Phrase). is_in_unit ps r.around.home) (sym same) ∙ stands.within)))
      by (Some m) some =
          let number : m ≡ stands.phrase.number = sym (standing_so ∙ ap (λ (o : Option ℕ). elim o [ None ↦ k | Some other ↦ other ]) some) ∙ stands.stands in
          own_home ps found stands.phrase u name stands.other_common stands.other stands.declares (record { found = some ∙ ap Some number; there = stands.there })

    module _ (template : List ℕ) (m n : ℕ) (r s : Phrase) (own_name other_name : Naming) (xs ys : List Part) (meant : means ps p.around.block template ≡ Some m) (at : slice_get ps m ≡ Some r) (node : r.node ≡ OfStructure own_name xs)
        (other_meant : means ps stands.phrase.around.block template ≡ Some n) (other_at : slice_get ps n ≡ Some s) (other_node : s.node ≡ OfStructure other_name ys)
        (spelled : other_name.name ≡ template) (same_home : s.around.home ≡ stands.phrase.around.home) where
      -- the structure is one that the COMPOOL declares
      listed : IsAmong (OfStructure other_name ys) (entries given_.unit_declarations)
      listed =
          let held : IsDeclaredBy ps s.around.home (OfStructure other_name ys) = subst (NodeHeld ps s) other_node (all_held files s (at_among ps n s other_at)) in
          held given_.unit given_.is_unit.naming given_.unit_head given_.unit_declarations (ap (slice_get ps) (same_home ∙ stands_in) ∙ given_.is_unit.there) given_.is_unit.is

      pub declared_same : HaveSameParts ps (known ps) r xs s ys
      declared_same =
          own_same files named outward p.around.home u (entries pool.declarations) (entries given_.unit_declarations) meanings p common item (at_among ps k p there) is refl template m n r s own_name other_name xs ys meant at node
          other_at other_node spelled (same_home ∙ stands_in) listed
