-- The search for a name up the blocks.
use Rattle.std.proofs.Common.{◌≡◌, ◌<◌, ◌≤◌, ◌⊎◌, inl, inr, ⊎_elim, ℕ, zero, suc, Bool, true, false, List, [], ◌∷◌, length, slice_get, Option, Some, None, refl, sym, ◌∙◌, ap, subst, arith, le_refl}
use Rattle.std.proofs.lemmas.Bool.{cases_lt}
use Rattle.std.proofs.lemmas.Option.{slice_get_past}
use Rattle.std.proofs.lemmas.Slice.Eq.{bytes_eq-Decides}
use Rattle.std.specs.Prelude.{bytes_eq, if◌then◌else◌}
use Rattle.std.specs.Option.{option_or, option_and_then}
use Rattle.hal_grammar.specs.Units.{Preface, Include, Templates}
use Rattle.hal_phrases.specs.Phrases.{Phrase}
use Rattle.hal_names.specs.declared.key.Space.TheVariants as space
use Rattle.hal_names.specs.Keys.{key, own}
use Rattle.hal_names.specs.Means.{is_compool_unit, unit_named, given_by, shown, shown_by, included, prefaces_of, nearest, means}
use Rattle.hal_names.specs.Laws.{IsAt, LeadsToAFile, IsFile, IsWithin, declared_or_around, IsDeclaration}
use Rattle.hal_names.proofs.Counted.{AreFrom}
use Rattle.hal_names.proofs.Places.{blocks_before, own_first, some_number}

-- what a name means around a phrase with these prefaces, where this is what it means in the block around
abbrev outside : List Phrase → List ℕ → Option ℕ → Option (List Preface) → Option ℕ
outside ps name outer x = elim x [ None ↦ outer | Some prefaces ↦ included ps prefaces name ]

-- what a name means beyond a block, where this is what it means in the blocks
abbrev beyond : List Phrase → List ℕ → (ℕ → Option ℕ) → Option Phrase → Option ℕ
beyond ps name outer o = elim o [ None ↦ None | Some p ↦ outside ps name (outer p.around.block) (prefaces_of p.node) ]

beyond_same : (ps : List Phrase) (name : List ℕ) (f g : ℕ → Option ℕ) (o : Option Phrase)
    → ((p : Phrase) → o ≡ Some p → prefaces_of p.node ≡ None → f p.around.block ≡ g p.around.block) → beyond ps name f o ≡ beyond ps name g o
beyond_same ps name f g None same = refl
beyond_same ps name f g (Some p) same = by (prefaces_of p.node) (same p refl)
  where
    by : (x : Option (List Preface)) → (x ≡ None → f p.around.block ≡ g p.around.block) → outside ps name (f p.around.block) x ≡ outside ps name (g p.around.block) x
    by None same = same refl
    by (Some prefaces) same = refl

-- a block needs no more steps than there are phrases up to its own
enough : (ps : List Phrase) (m n k : ℕ) (name : List ℕ) → AreFrom 0 ps → k < m → k < n → nearest ps m k name ≡ nearest ps n k name
unfolding nearest
enough ps zero n k name counted low high = absurd (omega (arith, low))
enough ps (suc m) zero k name counted low high = absurd (omega (arith, high))
enough ps (suc m) (suc n) k name counted low high =
    ap (option_or (own ps (key space.Declared k name))) (beyond_same ps name (λ b. nearest ps m b name) (λ b. nearest ps n b name) (slice_get ps k)
    (λ p at none. let outer = blocks_before ps counted k p at none in enough ps m n p.around.block name counted (omega (arith, low, outer)) (omega (arith, high, outer))))

or_none : (x : Option ℕ) → option_or x None ≡ x
or_none None = refl
or_none (Some n) = refl

-- a number that no phrase has
past : (ps : List Phrase) (n k : ℕ) (name : List ℕ) → length ps ≤ k → length ps ≤ n → nearest ps n k name ≡ own ps (key space.Declared k name)
unfolding nearest own
past [] zero k name beyond_all long = refl
past (x ∷ ps) zero k name beyond_all long = absurd (omega (arith, long))
past ps (suc n) k name beyond_all long =
    ap (λ o. option_or (own ps (key space.Declared k name)) (beyond ps name (λ b. nearest ps n b name) o)) (slice_get_past ps k beyond_all) ∙ or_none (own ps (key space.Declared k name))

pub deeper : (ps : List Phrase) (depth k : ℕ) (name : List ℕ) → AreFrom 0 ps → length ps ≤ depth → nearest ps depth k name ≡ means ps k name
deeper ps depth k name counted long = by (cases_lt k (length ps))
  where
    by : (k < length ps) ⊎ (length ps ≤ k) → nearest ps depth k name ≡ means ps k name
    by (inl inside) = enough ps depth (length ps) k name counted (omega (arith, inside, long)) inside
    by (inr beyond_all) = past ps depth k name beyond_all long ∙ sym (past ps (length ps) k name beyond_all (le_refl (length ps)))

pub outward : (ps : List Phrase) (k : ℕ) (name : List ℕ) → AreFrom 0 ps → means ps k name ≡ declared_or_around ps k name
unfolding nearest
outward ps k name counted = sym (deeper ps (suc (length ps)) k name counted (omega (arith)))

phrase_at : (ps : List Phrase) (k : ℕ) → k < length ps → (p : Phrase) × IsAt ps k p
phrase_at [] k within = absurd (omega (arith, within))
phrase_at (x ∷ ps) zero within = (x, refl)
phrase_at (x ∷ ps) (suc k) within = phrase_at ps k (omega (arith, within))

leads : (ps : List Phrase) (m k : ℕ) → AreFrom 0 ps → k < m → k < length ps → LeadsToAFile ps k
leads ps zero k counted low within = absurd (omega (arith, low))
leads ps (suc m) k counted low within =
    let found = phrase_at ps k within in
    by found.0 found.1 (λ b below. leads ps m b counted (omega (arith, low, below)) (omega (arith, within, below))) (prefaces_of found.0.node) refl
  where
    by : (p : Phrase) → IsAt ps k p → ((b : ℕ) → b < k → LeadsToAFile ps b) → (x : Option (List Preface)) → prefaces_of p.node ≡ x → LeadsToAFile ps k
    by p at further (Some prefaces) is = IsFile k p prefaces at is
    by p at further None none = IsWithin k p at none (further p.around.block (blocks_before ps counted k p at none))

pub to_a_file : (ps : List Phrase) (k : ℕ) → AreFrom 0 ps → k < length ps → LeadsToAFile ps k
to_a_file ps k counted within = leads ps (suc k) k counted (omega (arith)) within

or_gives : (x y : Option ℕ) (n : ℕ) → option_or x y ≡ Some n → (x ≡ Some n) ⊎ (y ≡ Some n)
or_gives None y n is = inr is
or_gives (Some m) y n is = inl is

then_gives : {X : Type 0} (f : X → Option ℕ) (o : Option X) (n : ℕ) → option_and_then f o ≡ Some n → (x : X) × (o ≡ Some x) × (f x ≡ Some n)
then_gives f None n is = absurd (cc)
then_gives f (Some x) n is = (x, refl, is)

given_declares : (ps : List Phrase) (u : ℕ) (name : List ℕ) (n : ℕ) → AreFrom 0 ps → given_by ps u name ≡ Some n → IsDeclaration ps name n
unfolding given_by
given_declares ps u name n counted is = let found = then_gives _ (slice_get ps u) n is in by (is_compool_unit found.0.node) found.2
  where
    by : (b : Bool) → (if b then own ps (key space.Declared u name) else None) ≡ Some n → IsDeclaration ps name n
    by true is = (u, own_first ps (key space.Declared u name) n counted is)
    by false is = absurd (cc)

shown_declares : (ps : List Phrase) (unit name : List ℕ) (n : ℕ) → AreFrom 0 ps → shown ps unit name ≡ Some n → IsDeclaration ps name n
unfolding shown unit_named
shown_declares ps unit name n counted is =
    let found = then_gives _ (unit_named ps unit) n is in
    let file = then_gives _ (own ps (key space.Unit 0 unit)) found.0 found.1 in
    by found.0 (file.0, own_first ps (key space.Declared file.0 unit) found.0 counted file.2) (bytes_eq unit name) (bytes_eq-Decides unit name).0 found.2
  where
    by : (u : ℕ) → IsDeclaration ps unit u → (b : Bool) → (b ≡ true → unit ≡ name) → (if b then Some u else given_by ps u name) ≡ Some n → IsDeclaration ps name n
    by u itself true same is = subst (λ (x : List ℕ). IsDeclaration ps x n) (same refl) (subst (IsDeclaration ps unit) (some_number is) itself)
    by u itself false same is = given_declares ps u name n counted is

preface_declares : (ps : List Phrase) (x : Preface) (name : List ℕ) (n : ℕ) → AreFrom 0 ps → shown_by ps x name ≡ Some n → IsDeclaration ps name n
unfolding shown_by
preface_declares ps (Include p unit) name n counted is = shown_declares ps unit.name name n counted is
preface_declares ps (Templates template) name n counted is = absurd (cc)

included_declares : (ps : List Phrase) (prefaces : List Preface) (name : List ℕ) (n : ℕ) → AreFrom 0 ps → included ps prefaces name ≡ Some n → IsDeclaration ps name n
unfolding included
included_declares ps [] name n counted is = absurd (cc)
included_declares ps (preface ∷ prefaces) name n counted is =
    ⊎_elim (preface_declares ps preface name n counted) (included_declares ps prefaces name n counted) (or_gives (shown_by ps preface name) (included ps prefaces name) n is)

beyond_declares : (ps : List Phrase) (name : List ℕ) (n : ℕ) (outer : ℕ → Option ℕ) → AreFrom 0 ps → ((b : ℕ) → outer b ≡ Some n → IsDeclaration ps name n)
    → (o : Option Phrase) → beyond ps name outer o ≡ Some n → IsDeclaration ps name n
beyond_declares ps name n outer counted further None is = absurd (cc)
beyond_declares ps name n outer counted further (Some p) is = by (prefaces_of p.node) is
  where
    by : (x : Option (List Preface)) → outside ps name (outer p.around.block) x ≡ Some n → IsDeclaration ps name n
    by None is = further p.around.block is
    by (Some prefaces) is = included_declares ps prefaces name n counted is

nearest_declares : (ps : List Phrase) (m k : ℕ) (name : List ℕ) (n : ℕ) → AreFrom 0 ps → nearest ps m k name ≡ Some n → IsDeclaration ps name n
unfolding nearest
nearest_declares ps zero k name n counted is = absurd (cc)
nearest_declares ps (suc m) k name n counted is =
    ⊎_elim (λ own_is. (k, own_first ps (key space.Declared k name) n counted own_is))
    (beyond_declares ps name n (λ b. nearest ps m b name) counted (λ b found. nearest_declares ps m b name n counted found) (slice_get ps k))
    (or_gives (own ps (key space.Declared k name)) (beyond ps name (λ b. nearest ps m b name) (slice_get ps k)) n is)

pub meant_declares : (ps : List Phrase) (k : ℕ) (name : List ℕ) (n : ℕ) → AreFrom 0 ps → means ps k name ≡ Some n → IsDeclaration ps name n
meant_declares ps k name n counted is = nearest_declares ps (length ps) k name n counted is
