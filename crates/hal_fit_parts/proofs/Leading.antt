-- Names that lead from a structure, or from a part, to parts below it.
use Rattle.std.proofs.Common.{◌≡◌, ◌≤◌, ◌<◌, ◌⊎◌, ℕ, zero, suc, Bool, true, ◌&&◌, List, [], ◌∷◌, ◌++◌, length, map, Option, Some, None, slice_get, refl, sym, ap, ◌∙◌, inl, inr, arith, length-append}
use Rattle.std.specs.Option.{option_and_then}
use Rattle.std.specs.Prelude.{bytes_eq}
use Rattle.std.proofs.lemmas.Bool.{and_parts}
use Rattle.std.proofs.lemmas.Slice.Eq.{bytes_eq-Decides}
use Rattle.hal_grammar.specs.Leaves.{Naming}
use Rattle.hal_grammar.specs.Declarations.{Part}
use Rattle.hal_phrases.specs.declared.around.Around.{Around}
use Rattle.hal_phrases.specs.Phrases.{Node, Phrase, OfFile, OfTemplate, OfUnit, OfParameter, OfItem, OfStructure, OfPart, OfLabel, OfTemporaryGroup}
use Rattle.hal_names.specs.declared.key.Key.{Key}
use Rattle.hal_names.specs.declared.key.Space.TheVariants as space
use Rattle.hal_names.specs.Keys.{key, declared_at, own}
use Rattle.hal_names.specs.Laws.{IsFirst}
use Rattle.hal_kinds.specs.Data.{part_under}
use Rattle.hal_meaning.specs.Elements.{leads}
use Rattle.hal_fit_parts.specs.Parts.{IsPartAt}

-- the part to which names lead
abbrev pub down : List Phrase → ℕ → List (List ℕ) → Option ℕ
down ps m [] = Some m
down ps m (x ∷ xs) = option_and_then (λ c. down ps c xs) (own ps (key space.Part m x))

abbrev pub names_of : List Naming → List (List ℕ)
names_of path = map (λ (n : Naming). n.name) path

pub under_down : (ps : List Phrase) (m : ℕ) (path : List Naming) → part_under ps m path ≡ down ps m (names_of path)
unfolding part_under
under_down ps m [] = refl
under_down ps m (n ∷ ns) = by (own ps (key space.Part m n.name)) (λ c. under_down ps c ns) where
  by : (o : Option ℕ) → ((c : ℕ) → part_under ps c ns ≡ down ps c (names_of ns)) → option_and_then (λ c. part_under ps c ns) o ≡ option_and_then (λ c. down ps c (names_of ns)) o
  by None so = refl
  by (Some c) so = so c

pub down_append : (ps : List Phrase) (m : ℕ) (xs ys : List (List ℕ)) → down ps m (xs ++ ys) ≡ option_and_then (λ c. down ps c ys) (down ps m xs)
down_append ps m [] ys = refl
down_append ps m (x ∷ xs) ys = by (own ps (key space.Part m x)) (λ c. down_append ps c xs ys) where
  by : (o : Option ℕ) → ((c : ℕ) → down ps c (xs ++ ys) ≡ option_and_then (λ e. down ps e ys) (down ps c xs))
      → option_and_then (λ c. down ps c (xs ++ ys)) o ≡ option_and_then (λ e. down ps e ys) (option_and_then (λ c. down ps c xs) o)
  by None so = refl
  by (Some c) so = so c

pub then_some : {X Y : Type 0} (f : X → Option Y) (o : Option X) (y : Y) → option_and_then f o ≡ Some y → (x : X) × ((o ≡ Some x) × (f x ≡ Some y))
then_some f None y is = absurd (cc)
then_some f (Some x) y is = (x, (refl, is))

one_down : (ps : List Phrase) (m : ℕ) (x : List ℕ) (n : ℕ) → down ps m (x ∷ []) ≡ Some n → own ps (key space.Part m x) ≡ Some n
one_down ps m x n is = let found = then_some (λ c. down ps c []) (own ps (key space.Part m x)) n is in found.1.0 ∙ found.1.1

-- the last of names
record EndsIn (xs : List (List ℕ)) : Type 0 where
  front : List (List ℕ)
  last : List ℕ
  is : xs ≡ front ++ (last ∷ [])

last_of : (xs : List (List ℕ)) → (xs ≡ []) ⊎ EndsIn xs
last_of [] = inl refl
last_of (y ∷ ys) = by (last_of ys) where
  by : (ys ≡ []) ⊎ EndsIn ys → (y ∷ ys ≡ []) ⊎ EndsIn (y ∷ ys)
  by (inl none) = inr (record { front = []; last = y; is = ap (λ zs. y ∷ zs) none })
  by (inr ends) = inr (record { front = y ∷ ends.front; last = ends.last; is = ap (λ zs. y ∷ zs) ends.is })

-- a part of what has this number, with this name
pub record IsChild (ps : List Phrase) (m : ℕ) (x : List ℕ) (j : ℕ) : Type 0 where
  pub child : Phrase
  pub there : slice_get ps j ≡ Some child
  pub bottom : Bool
  pub part : Part
  pub is : child.node ≡ OfPart bottom part
  pub parent : child.around.parent ≡ m
  pub named : part.name.name ≡ x

-- what declares the name of a part is that part
record DeclaresPart (m : ℕ) (x : List ℕ) (a : Around) (n : Node) : Type 0 where
  bottom : Bool
  part : Part
  is : n ≡ OfPart bottom part
  parent : a.parent ≡ m
  named : part.name.name ≡ x

space_of : (q : Key) (m : ℕ) (x : List ℕ) → Some q ≡ Some (key space.Part m x) → q.space ≡ space.Part
space_of q m x is = ap (λ (o : Option Key). elim o [ None ↦ space.Part | Some r ↦ r.space ]) is

declares_part : (m : ℕ) (x : List ℕ) (k : ℕ) (a : Around) (n : Node) → declared_at k a n ≡ Some (key space.Part m x) → DeclaresPart m x a n
unfolding declared_at
declares_part m x k a (OfPart bottom part) is = record {
  bottom = bottom;
  part = part;
  is = refl;
  parent = ap (λ (o : Option Key). elim o [ None ↦ m | Some q ↦ q.owner ]) is;
  named = ap (λ (o : Option Key). elim o [ None ↦ x | Some q ↦ q.name ]) is;
}
declares_part m x k a (OfFile prefaces name) is = absurd (let same = space_of _ m x is in cc)
declares_part m x k a (OfTemplate name head declarations) is = absurd (let same = space_of _ m x is in cc)
declares_part m x k a (OfUnit name head declarations) is = absurd (let same = space_of _ m x is in cc)
declares_part m x k a (OfParameter name output) is = absurd (let same = space_of _ m x is in cc)
declares_part m x k a (OfItem common item) is = absurd (let same = space_of _ m x is in cc)
declares_part m x k a (OfStructure name parts) is = absurd (let same = space_of _ m x is in cc)
declares_part m x k a (OfLabel name) is = absurd (let same = space_of _ m x is in cc)
declares_part m x k a (OfTemporaryGroup labels variable) is = absurd (let same = space_of _ m x is in cc)
declares_part m x k a other is = absurd (cc)

part_same : (b c : Bool) (x y : Part) → OfPart b x ≡ OfPart c y → (b ≡ c) × (x ≡ y)
part_same b c x y is = (cc, cc)

pub parts_same : (p q : Phrase) (b c : Bool) (x y : Part) → Some p ≡ Some q → p.node ≡ OfPart b x → q.node ≡ OfPart c y → (b ≡ c) × (x ≡ y)
parts_same p q b c x y same is also = let one : p ≡ q = cc in part_same b c x y (sym is ∙ (ap (λ (r : Phrase). r.node) one ∙ also))

module _ (ps : List Phrase) (found : (q : Key) (n : ℕ) → own ps q ≡ Some n → IsFirst ps q n) where
  pub child_at : (m : ℕ) (x : List ℕ) (j : ℕ) → own ps (key space.Part m x) ≡ Some j → IsChild ps m x j
  child_at m x j is =
      let first = found (key space.Part m x) j is in
      let so = declares_part m x first.declaring.number first.declaring.around first.declaring.node first.declares in
      record { child = first.declaring; there = first.there; bottom = so.bottom; part = so.part; is = so.is; parent = so.parent; named = so.named }

  -- what names lead to is a part
  down_part : (m j : ℕ) (x : List ℕ) (xs : List (List ℕ)) → down ps m (x ∷ xs) ≡ Some j → IsPartAt ps j
  down_part m j x [] is = let so = child_at m x j (one_down ps m x j is) in record { phrase = so.child; there = so.there; bottom = so.bottom; part = so.part; is = so.is }
  down_part m j x (y ∷ ys) is = let step = then_some (λ c. down ps c (y ∷ ys)) (own ps (key space.Part m x)) j is in down_part step.0 j y ys step.1.1

  pub last_part : (k j : ℕ) (n : Naming) (path : List Naming) → part_under ps k (n ∷ path) ≡ Some j → IsPartAt ps j
  last_part k j n path is = down_part k j n.name (names_of path) (sym (under_down ps k (n ∷ path)) ∙ is)

  module _ (root : ℕ) (rootless : (m : ℕ) (x : List ℕ) → own ps (key space.Part m x) ≡ Some root → ⊥) where
    stepped : (xs : List (List ℕ)) (n : ℕ) (ends : EndsIn xs) → down ps root xs ≡ Some n → (m : ℕ) × ((down ps root ends.front ≡ Some m) × (own ps (key space.Part m ends.last) ≡ Some n))
    stepped xs n ends is =
        let step = then_some (λ c. down ps c (ends.last ∷ [])) (down ps root ends.front) n (sym (down_append ps root ends.front (ends.last ∷ [])) ∙ (ap (down ps root) (sym ends.is) ∙ is)) in
        (step.0, (step.1.0, one_down ps step.0 ends.last n step.1.1))

    no_end : {X : Type 0} (xs ys : List (List ℕ)) (n : ℕ) → xs ≡ [] → EndsIn ys → down ps root xs ≡ Some n → down ps root ys ≡ Some n → X
    no_end xs ys n none ends is also =
        let step = stepped ys n ends also in
        let same : Some root ≡ Some n = sym (ap (down ps root) none) ∙ is in
        absurd (rootless step.0 ends.last (step.1.1 ∙ sym same))

    one_front : (m e n : ℕ) (x y : List ℕ) → own ps (key space.Part m x) ≡ Some n → own ps (key space.Part e y) ≡ Some n → (m ≡ e) × (x ≡ y)
    one_front m e n x y is also =
        let first = child_at m x n is in
        let second = child_at e y n also in
        let phrases : Some first.child ≡ Some second.child = sym first.there ∙ second.there in
        let one : first.child ≡ second.child = cc in
        let parts = parts_same first.child second.child first.bottom second.bottom first.part second.part phrases first.is second.is in
        (sym first.parent ∙ (ap (λ (r : Phrase). r.around.parent) one ∙ second.parent), sym first.named ∙ (ap (λ (r : Part). r.name.name) parts.1 ∙ second.named))

    same_ends : (xs ys : List (List ℕ)) (n : ℕ) → ((front other : List (List ℕ)) (m : ℕ) → length front < length xs → down ps root front ≡ Some m → down ps root other ≡ Some m → front ≡ other)
        → (xs ≡ []) ⊎ EndsIn xs → (ys ≡ []) ⊎ EndsIn ys → down ps root xs ≡ Some n → down ps root ys ≡ Some n → xs ≡ ys
    same_ends xs ys n so (inl none) (inl nor) is also = none ∙ sym nor
    same_ends xs ys n so (inl none) (inr ends) is also = no_end xs ys n none ends is also
    same_ends xs ys n so (inr ends) (inl none) is also = no_end ys xs n none ends also is
    same_ends xs ys n so (inr ends) (inr other) is also =
        let first = stepped xs n ends is in
        let second = stepped ys n other also in
        let both = one_front first.0 second.0 n ends.last other.last first.1.1 second.1.1 in
        let shorter : length ends.front < length xs = omega (arith, ap (λ (zs : List (List ℕ)). length zs) ends.is ∙ length-append ends.front (ends.last ∷ [])) in
        let fronts = so ends.front other.front first.0 shorter first.1.0 (second.1.0 ∙ ap Some (sym both.0)) in
        ends.is ∙ (ap (λ zs. zs ++ (ends.last ∷ [])) fronts ∙ (ap (λ z. other.front ++ (z ∷ [])) both.1 ∙ sym other.is))

    up_to : (c : ℕ) (xs ys : List (List ℕ)) (n : ℕ) → length xs ≤ c → down ps root xs ≡ Some n → down ps root ys ≡ Some n → xs ≡ ys
    up_to zero xs ys n few is also = same_ends xs ys n (λ front other m less first second. absurd (omega (arith, less, few))) (last_of xs) (last_of ys) is also
    up_to (suc c) xs ys n few is also = same_ends xs ys n (λ front other m less first second. up_to c front other m (omega (arith, less, few)) first second) (last_of xs) (last_of ys) is also

    -- one path leads to a part
    pub one_way : (xs ys : List (List ℕ)) (n : ℕ) → down ps root xs ≡ Some n → down ps root ys ≡ Some n → xs ≡ ys
    one_way xs ys n is also = up_to (length xs) xs ys n (omega arith) is also

-- names that lead to others are the first of them
pub leads_front : (path : List Naming) (names : List (List ℕ)) → leads path names ≡ true → (rest : List (List ℕ)) × (names ≡ names_of path ++ rest)
leads_front [] names is = (names, refl)
leads_front (n ∷ ns) [] is = absurd (cc)
leads_front (n ∷ ns) (name ∷ names) is =
    let both = and_parts (bytes_eq n.name name) (leads ns names) is in
    let rest = leads_front ns names both.1 in
    (rest.0, ap (λ x. x ∷ names) (sym ((bytes_eq-Decides n.name name).0 both.0)) ∙ ap (λ xs. n.name ∷ xs) rest.1)

pub leads_own : (path : List Naming) (rest : List (List ℕ)) → leads path (names_of path ++ rest) ≡ true
leads_own [] rest = refl
leads_own (n ∷ ns) rest = ap (λ b. b && leads ns (names_of ns ++ rest)) ((bytes_eq-Decides n.name n.name).1 refl) ∙ leads_own ns rest
