-- An error meets in the machine's blocks what it meets in those of the tree.
use Rattle.std.specs.Prelude.{◌≡◌, ℕ, zero, suc, ◌+◌, ◌≤◌, length, Bool, true, false, not, ◌&&◌, List, [], ◌∷◌, Option, Some, None, if◌then◌else◌}
use Rattle.std.specs.Option.{option_or, is_none}
use Rattle.std.proofs.Common.{refl, ap, ◌∙◌, arith}
use Rattle.hal_values.specs.declared.environment.Act.{Act}
use Rattle.hal_values.specs.declared.environment.Act.TheVariants as act
use Rattle.hal_values.specs.declared.environment.Entry.{Entry}
use Rattle.hal_values.specs.declared.environment.ErrNo.{ErrNo}
use Rattle.hal_values.specs.declared.environment.Selector.{Selector}
use Rattle.hal_values.specs.declared.environment.Selector.TheVariants as selector
use Rattle.hal_values.specs.Searching.{Entered, entered, Found, BySystem, Ignored, ByStatement, same_selector, entry_for, acted, met, met_in, found_from, search}
use Rattle.hal_states.specs.Modes.{Mode, are_spent}
use Rattle.hal_code.specs.Cores.{Frame, Return, all_entered}
use Rattle.hal_agreement.proofs.Reaching.{coded_act, coded, coded_entries, shut, mode_behind}

abbrev pub coded_found : (ℕ → ℕ → ℕ) → Found → Found
coded_found spot (BySystem side) = BySystem side
coded_found spot (Ignored side) = Ignored side
coded_found spot (ByStatement level place) = ByStatement level (spot level place)

abbrev found_option : (ℕ → ℕ → ℕ) → Option Found → Option Found
found_option spot None = None
found_option spot (Some found) = Some (coded_found spot found)

abbrev coded_option : (ℕ → ℕ) → Option Entry → Option Entry
coded_option spot None = None
coded_option spot (Some e) = Some (coded spot e)

-- the blocks of the tree as the machine has them, of which the first one has so many later ones
abbrev pub coded_blocks : (ℕ → ℕ → ℕ) → ℕ → List Entered → List Entered
coded_blocks spot n [] = []
coded_blocks spot n (b ∷ bs) = entered (coded_entries (spot n) b.entries) b.update ∷ coded_blocks spot (suc n) bs

-- the statements of ON ERROR of a block that is entered above others
abbrev pub above : (ℕ → ℕ) → (ℕ → ℕ → ℕ) → ℕ → ℕ → ℕ
above handler spot zero place = handler place
above handler spot (suc level) place = spot level place

pub coded_above : (handler : ℕ → ℕ) (spot : ℕ → ℕ → ℕ) (k : ℕ) (bs : List Entered) → coded_blocks (above handler spot) (suc k) bs ≡ coded_blocks spot k bs
coded_above handler spot k [] = refl
coded_above handler spot k (b ∷ bs) = ap (λ rest. entered (coded_entries (spot k) b.entries) b.update ∷ rest) (coded_above handler spot (suc k) bs)

entry_or : (spot : ℕ → ℕ) (e : Entry) (b : Bool) (one other : Option Entry) → one ≡ coded_option spot other → (if b then Some (coded spot e) else one) ≡ coded_option spot (if b then Some e else other)
entry_or spot e true one other is = refl
entry_or spot e false one other is = is

entry_for_coded : (spot : ℕ → ℕ) (s : Selector) (es : List Entry) → entry_for s (coded_entries spot es) ≡ coded_option spot (entry_for s es)
entry_for_coded spot s [] = refl
entry_for_coded spot s (e ∷ es) = entry_or spot e (same_selector s e.selector) (entry_for s (coded_entries spot es)) (entry_for s es) (entry_for_coded spot s es)

acted_coded : (spot : ℕ → ℕ → ℕ) (passing : Bool) (level : ℕ) (a : Act) → acted passing level (coded_act (spot level) a) ≡ found_option spot (acted passing level a)
acted_coded spot passing level (act.System side) = refl
acted_coded spot passing level (act.Ignore side) = refl
acted_coded spot true level (act.Statement place) = refl
acted_coded spot false level (act.Statement place) = refl

met_coded : (spot : ℕ → ℕ → ℕ) (passing : Bool) (level : ℕ) (o : Option Entry) → met passing level (coded_option (spot level) o) ≡ found_option spot (met passing level o)
met_coded spot passing level None = refl
met_coded spot passing level (Some e) = acted_coded spot passing level e.act

or_coded : (spot : ℕ → ℕ → ℕ) (a b : Option Found) → option_or (found_option spot a) (found_option spot b) ≡ found_option spot (option_or a b)
or_coded spot None b = refl
or_coded spot (Some found) b = refl

or_same : (spot : ℕ → ℕ → ℕ) (a b x y : Option Found) → x ≡ found_option spot a → y ≡ found_option spot b → option_or x y ≡ found_option spot (option_or a b)
or_same spot a b x y is are = ap (λ z. option_or z y) is ∙ (ap (λ z. option_or (found_option spot a) z) are ∙ or_coded spot a b)

met_for : (spot : ℕ → ℕ → ℕ) (passing : Bool) (level : ℕ) (es : List Entry) (s : Selector) → met passing level (entry_for s (coded_entries (spot level) es)) ≡ found_option spot (met passing level (entry_for s es))
met_for spot passing level es s = ap (met passing level) (entry_for_coded (spot level) s es) ∙ met_coded spot passing level (entry_for s es)

met_in_coded : (spot : ℕ → ℕ → ℕ) (passing : Bool) (level : ℕ) (es : List Entry) (e : ErrNo) → met_in passing level (coded_entries (spot level) es) e ≡ found_option spot (met_in passing level es e)
met_in_coded spot passing level es e =
    or_same spot (met passing level (entry_for (selector.One e) es)) (option_or (met passing level (entry_for (selector.Group e.group) es)) (met passing level (entry_for selector.All es)))
    (met passing level (entry_for (selector.One e) (coded_entries (spot level) es)))
    (option_or (met passing level (entry_for (selector.Group e.group) (coded_entries (spot level) es))) (met passing level (entry_for selector.All (coded_entries (spot level) es))))
    (met_for spot passing level es (selector.One e))
    (or_same spot (met passing level (entry_for (selector.Group e.group) es)) (met passing level (entry_for selector.All es))
    (met passing level (entry_for (selector.Group e.group) (coded_entries (spot level) es))) (met passing level (entry_for selector.All (coded_entries (spot level) es)))
    (met_for spot passing level es (selector.Group e.group)) (met_for spot passing level es selector.All))

found_or : (spot : ℕ → ℕ → ℕ) (o p : Option Found) (rest others : Found) → p ≡ found_option spot o → others ≡ coded_found spot rest
    → elim p [ None ↦ others | Some found ↦ found ] ≡ coded_found spot (elim o [ None ↦ rest | Some found ↦ found ])
found_or spot None p rest others is are = ap (λ z. elim z [ None ↦ others | Some found ↦ found ]) is ∙ are
found_or spot (Some one) p rest others is are = ap (λ z. elim z [ None ↦ others | Some found ↦ found ]) is

found_coded : (spot : ℕ → ℕ → ℕ) (passing : Bool) (n : ℕ) (bs : List Entered) (e : ErrNo) → found_from passing n (coded_blocks spot n bs) e ≡ coded_found spot (found_from passing n bs e)
found_coded spot passing n [] e = refl
found_coded spot passing n (b ∷ bs) e =
    found_or spot (met_in passing n b.entries e) (met_in passing n (coded_entries (spot n) b.entries) e) (found_from (passing && not b.update) (suc n) bs e) (found_from (passing && not b.update) (suc n) (coded_blocks spot (suc n) bs) e)
    (met_in_coded spot passing n b.entries e) (found_coded spot (passing && not b.update) (suc n) bs e)

-- what an error meets in all blocks
pub search_coded : (spot : ℕ → ℕ → ℕ) (spent : Bool) (bs : List Entered) (e : ErrNo) → search spent (coded_blocks spot 0 bs) e ≡ coded_found spot (search spent bs e)
search_coded spot spent bs e = found_coded spot spent 0 bs e

-- what is met in one block: a statement only where none is passed over
abbrev IsMet : Bool → ℕ → Option Found → Type 0
IsMet passing n None = Unit {0}
IsMet passing n (Some (BySystem side)) = Unit {0}
IsMet passing n (Some (Ignored side)) = Unit {0}
IsMet passing n (Some (ByStatement level place)) = (passing ≡ false) × (level ≡ n)

acted_is : (passing : Bool) (n : ℕ) (a : Act) → IsMet passing n (acted passing n a)
acted_is passing n (act.System side) = tt
acted_is passing n (act.Ignore side) = tt
acted_is true n (act.Statement place) = tt
acted_is false n (act.Statement place) = (refl, refl)

met_is : (passing : Bool) (n : ℕ) (o : Option Entry) → IsMet passing n (met passing n o)
met_is passing n None = tt
met_is passing n (Some e) = acted_is passing n e.act

or_is : (passing : Bool) (n : ℕ) (a b : Option Found) → IsMet passing n a → IsMet passing n b → IsMet passing n (option_or a b)
or_is passing n None b is are = are
or_is passing n (Some found) b is are = is

met_in_is : (passing : Bool) (n : ℕ) (es : List Entry) (e : ErrNo) → IsMet passing n (met_in passing n es e)
met_in_is passing n es e =
    or_is passing n _ _ (met_is passing n (entry_for (selector.One e) es)) (or_is passing n _ _ (met_is passing n (entry_for (selector.Group e.group) es)) (met_is passing n (entry_for selector.All es)))

-- a statement that is met stands in a block that is there, behind which turns are left
abbrev pub IsFound : ℕ → List Frame → Mode → Found → Type 0
IsFound n frames m (BySystem side) = Unit {0}
IsFound n frames m (Ignored side) = Unit {0}
IsFound n frames m (ByStatement level place) =
    (d : ℕ) × (level ≡ n + d) × (d ≤ length frames) × (are_spent (mode_behind d frames m).groups (mode_behind d frames m).turns ≡ false)

unspent : (passing b : Bool) → passing ≡ false → (b ≡ true → passing ≡ true) → b ≡ false
unspent passing true is spent = absurd (contrary (spent refl) is)
  where
    contrary : passing ≡ true → passing ≡ false → ⊥
    contrary one other = cc
unspent passing false is spent = refl

met_found : (passing : Bool) (n : ℕ) (frames : List Frame) (m : Mode) (found : Found) → (are_spent m.groups m.turns ≡ true → passing ≡ true) → IsMet passing n (Some found) → IsFound n frames m found
met_found passing n frames m (BySystem side) spent is = tt
met_found passing n frames m (Ignored side) spent is = tt
met_found passing n frames m (ByStatement level place) spent is = (0, omega (arith, is.1), omega arith, unspent passing (are_spent m.groups m.turns) is.0 spent)

found_deeper : (n : ℕ) (f : Frame) (fs : List Frame) (m : Mode) (found : Found) → IsFound (suc n) fs (shut m f.back) found → IsFound n (f ∷ fs) m found
found_deeper n f fs m (BySystem side) is = tt
found_deeper n f fs m (Ignored side) is = tt
found_deeper n f fs m (ByStatement level place) is = (suc is.0, omega (arith, is.1), omega (arith, is.2), is.3)

chosen_found : (passing : Bool) (n : ℕ) (frames : List Frame) (m : Mode) (o : Option Found) (rest : Found) → (are_spent m.groups m.turns ≡ true → passing ≡ true) → IsMet passing n o → IsFound n frames m rest
    → IsFound n frames m (elim o [ None ↦ rest | Some found ↦ found ])
chosen_found passing n frames m None rest spent is are = are
chosen_found passing n frames m (Some found) rest spent is are = met_found passing n frames m found spent is

still_passing : (passing : Bool) (m : Mode) (back : Option Return) → (are_spent m.groups m.turns ≡ true → passing ≡ true)
    → are_spent (shut m back).groups (shut m back).turns ≡ true → (passing && not (is_none back)) ≡ true
still_passing passing m None spent is = absurd (cc)
still_passing true m (Some one) spent is = refl
still_passing false m (Some one) spent is = spent is

pub found_right : (frames : List Frame) (passing : Bool) (n : ℕ) (es : List Entry) (e : ErrNo) (m : Mode) → (are_spent m.groups m.turns ≡ true → passing ≡ true) → IsFound n frames m (found_from passing n (all_entered es frames) e)
found_right [] passing n es e m spent = chosen_found passing n [] m (met_in passing n es e) _ spent (met_in_is passing n es e) tt
found_right (f ∷ fs) passing n es e m spent =
    chosen_found passing n (f ∷ fs) m (met_in passing n es e) _ spent (met_in_is passing n es e)
    (found_deeper n f fs m (found_from (passing && not (is_none f.back)) (suc n) (all_entered f.entries fs) e)
    (found_right fs (passing && not (is_none f.back)) (suc n) f.entries e (shut m f.back) (still_passing passing m f.back spent)))
