-- A statement of ON ERROR that an error meets is entered with a core that fits.
use Rattle.std.specs.Prelude.{ℕ, suc, ◌+◌, ◌≤◌, ◌≡◌, ◌⊎◌, Bool, true, false, not, ◌&&◌, List, [], ◌∷◌, Option, Some, None, is_none, if◌then◌else◌}
use Rattle.std.proofs.Common.{refl, sym, ap, subst, ◌∙◌, inl, inr, arith}
use Rattle.std.specs.Option.{option_or}
use Rattle.hal_values.specs.declared.environment.Act.{Act}
use Rattle.hal_values.specs.declared.environment.Act.TheVariants as act
use Rattle.hal_values.specs.declared.environment.Entry.{Entry}
use Rattle.hal_values.specs.declared.environment.ErrNo.{ErrNo}
use Rattle.hal_values.specs.declared.environment.Selector.{Selector}
use Rattle.hal_values.specs.declared.environment.Selector.TheVariants as selector
use Rattle.hal_values.specs.declared.environment.Side.TheVariants as side
use Rattle.hal_values.specs.Searching.{Found, BySystem, ByStatement, same_selector, entry_for, acted, met, met_in, found_from}
use Rattle.hal_states.specs.Modes.{Mode, closed, are_spent}
use Rattle.hal_code.specs.Cores.{Setting, Core, core, Frame, Return, all_entered}
use Rattle.hal_code.specs.Raising.{cut}
use Rattle.hal_sound_code.specs.Standing.{Stands, Enters, AllEnter, Calls, AreBelow}
use Rattle.hal_sound_code.specs.Typed.{IsKept}
use Rattle.hal_sound_code.proofs.Stepping.{Well}

-- what stands first of two options
first_or : (a b : Option Found) (f : Found) → option_or a b ≡ Some f → (a ≡ Some f) ⊎ (b ≡ Some f)
first_or None b f e = inr e
first_or (Some g) b f e = inl e

here_or_later : (o : Option Found) (later f : Found) → elim o [ None ↦ later | Some g ↦ g ] ≡ f → (o ≡ Some f) ⊎ (later ≡ f)
here_or_later None later f e = inr e
here_or_later (Some g) later f e = inl (ap Some e)

-- where a statement of an entry stands
record Lands (s : Setting) (number : ℕ) (inside : Bool) (passing : Bool) (level lev place : ℕ) : Type 0 where
  heeded : passing ≡ false
  same : level ≡ lev
  stands : Stands s number inside place []

module _ (s : Setting) (number : ℕ) (inside : Bool) where
  acted_lands : (passing : Bool) (level : ℕ) (a : Act) (lev place : ℕ) → Enters s number inside a → acted passing level a ≡ Some (ByStatement lev place) → Lands s number inside passing level lev place
  acted_lands passing level (act.System one) lev place enters e = absurd (cc)
  acted_lands passing level (act.Ignore one) lev place enters e = absurd (cc)
  acted_lands true level (act.Statement at) lev place enters e = absurd (cc)
  acted_lands false level (act.Statement at) lev place enters e = record {
    heeded = refl;
    same = let same : level ≡ lev = cc in same;
    stands = subst (λ n. Stands s number inside n []) (let same : at ≡ place = cc in same) enters;
  }

  entry_enters : (sel : Selector) (es : List Entry) (one : Entry) → AllEnter s number inside es → entry_for sel es ≡ Some one → Enters s number inside one.act
  entry_enters sel [] one enter e = absurd (cc)
  entry_enters sel (x ∷ es) one enter e = chosen (entry_enters sel es one enter.1) (same_selector sel x.selector) e
    where
      chosen : (entry_for sel es ≡ Some one → Enters s number inside one.act) → (b : Bool) → ◌≡◌ {A = Option Entry} (if b then Some x else entry_for sel es) (Some one) → Enters s number inside one.act
      chosen later true is = subst (λ (y : Entry). Enters s number inside y.act) (let same : x ≡ one = cc in same) enter.0
      chosen later false is = later is

  met_lands : (passing : Bool) (level : ℕ) (sel : Selector) (es : List Entry) (lev place : ℕ) → AllEnter s number inside es → met passing level (entry_for sel es) ≡ Some (ByStatement lev place) → Lands s number inside passing level lev place
  met_lands passing level sel es lev place enter e = of_entry (entry_for sel es) refl e
    where
      of_entry : (o : Option Entry) → entry_for sel es ≡ o → met passing level o ≡ Some (ByStatement lev place) → Lands s number inside passing level lev place
      of_entry None is h = absurd (cc)
      of_entry (Some one) is h = acted_lands passing level one.act lev place (entry_enters sel es one enter is) h

  met_in_lands : (passing : Bool) (level : ℕ) (es : List Entry) (e : ErrNo) (lev place : ℕ) → AllEnter s number inside es → met_in passing level es e ≡ Some (ByStatement lev place) → Lands s number inside passing level lev place
  met_in_lands passing level es e lev place enter is = one_of (first_or _ _ _ is)
    where
      group_or_all : (met passing level (entry_for (selector.Group e.group) es) ≡ Some (ByStatement lev place)) ⊎ (met passing level (entry_for selector.All es) ≡ Some (ByStatement lev place)) → Lands s number inside passing level lev place
      group_or_all (inl h) = met_lands passing level (selector.Group e.group) es lev place enter h
      group_or_all (inr h) = met_lands passing level selector.All es lev place enter h

      one_of : (met passing level (entry_for (selector.One e) es) ≡ Some (ByStatement lev place))
          ⊎ (option_or (met passing level (entry_for (selector.Group e.group) es)) (met passing level (entry_for selector.All es)) ≡ Some (ByStatement lev place)) → Lands s number inside passing level lev place
      one_of (inl h) = met_lands passing level (selector.One e) es lev place enter h
      one_of (inr h) = group_or_all (first_or _ _ _ h)

-- a core at a statement of an entry
pub record Entered (s : Setting) (most : ℕ) (c : Core) : Type 0 where
  pub well : Well s most c
  pub unspent : are_spent c.mode.groups c.mode.turns ≡ false

-- what an error leads to that meets a statement, so many blocks below
abbrev LeadsBelow : Setting → ℕ → ErrNo → List Frame → Type 0
LeadsBelow s most e frames = (c : Core) (number : ℕ) (inside passing : Bool) (level lev place : ℕ) → AllEnter s number inside c.entries → AreBelow s number inside frames → IsKept s c → c.mode.turns ≤ most
    → are_spent c.mode.groups c.mode.turns ≡ passing → found_from passing level (all_entered c.entries frames) e ≡ ByStatement lev place → (d : ℕ) × (lev ≡ level + d) × Entered s most (cut d place frames c)

-- what is said of the frames from one on that goes back so
abbrev pub Under : Setting → ℕ → Bool → List Entry → List Frame → Option Return → Type 0
Under s number inside entries fs back = elim back [
  | None ↦ (inside ≡ true) × AllEnter s number false entries × AreBelow s number false fs
  | Some one ↦ (inside ≡ false) × Calls s number entries one (λ caller within. AreBelow s caller within fs)
]

module _ (s : Setting) (most : ℕ) (e : ErrNo) where
  lands_here : (frames : List Frame) (c : Core) (number : ℕ) (inside passing : Bool) (level lev place : ℕ) → AllEnter s number inside c.entries → AreBelow s number inside frames → IsKept s c → c.mode.turns ≤ most
      → are_spent c.mode.groups c.mode.turns ≡ passing → met_in passing level c.entries e ≡ Some (ByStatement lev place) → (d : ℕ) × (lev ≡ level + d) × Entered s most (cut d place frames c)
  lands_here frames c number inside passing level lev place enter below is few spent found = at_entry (met_in_lands s number inside passing level c.entries e lev place enter found)
    where
      at_entry : Lands s number inside passing level lev place → (d : ℕ) × (lev ≡ level + d) × Entered s most (cut d place frames c)
      at_entry lands = (
        0,
        sym lands.same ∙ (let same : level ≡ level + 0 = omega arith in same),
        record {
          well = record { typed = record { number = number; inside = inside; stands = lands.stands; lead = tt; enter = enter; below = below; kept = is }; few = few };
          unspent = spent ∙ lands.heeded;
        },
      )

  pub leads_below : (frames : List Frame) → LeadsBelow s most e frames
  leads_below [] c number inside passing level lev place enter below is few spent found =
      choose (here_or_later (met_in passing level c.entries e) (found_from (passing && not false) (suc level) [] e) (ByStatement lev place) found)
    where
      choose : (met_in passing level c.entries e ≡ Some (ByStatement lev place)) ⊎ (BySystem side.Nothing ≡ ByStatement lev place) → (d : ℕ) × (lev ≡ level + d) × Entered s most (cut d place [] c)
      choose (inl here) = lands_here [] c number inside passing level lev place enter below is few spent here
      choose (inr later) = absurd (cc)
  leads_below (f ∷ fs) c number inside passing level lev place enter below is few spent found =
      choose (leads_below fs) (here_or_later (met_in passing level c.entries e) (found_from (passing && not (is_none f.back)) (suc level) (all_entered f.entries fs) e) (ByStatement lev place) found)
    where
      left : Mode → Core
      left m = core place [] [] f.entries fs c.kept m

      behind : LeadsBelow s most e fs → (back : Option Return) → Under s number inside f.entries fs back → found_from (passing && not (is_none back)) (suc level) (all_entered f.entries fs) e ≡ ByStatement lev place
          → (d : ℕ) × (lev ≡ suc level + d) × Entered s most (cut d place fs (left (elim back [ None ↦ closed c.mode | Some one ↦ c.mode ])))
      behind rest None under later = rest (left (closed c.mode)) number false (passing && false) (suc level) lev place under.1 under.2 is few (let same : false ≡ passing && false = bool passing in same) later
        where
          bool : (b : Bool) → false ≡ b && false
          bool true = refl
          bool false = refl
      behind rest (Some one) under later = rest (left c.mode) under.1.caller under.1.within (passing && true) (suc level) lev place under.1.enter under.1.below is few (spent ∙ bool passing) later
        where
          bool : (b : Bool) → b ≡ b && true
          bool true = refl
          bool false = refl

      further : (d : ℕ) × (lev ≡ suc level + d) × Entered s most (cut d place fs (left (elim f.back [ None ↦ closed c.mode | Some one ↦ c.mode ]))) → (d : ℕ) × (lev ≡ level + d) × Entered s most (cut d place (f ∷ fs) c)
      further known = (suc known.0, known.1 ∙ (let same : suc level + known.0 ≡ level + suc known.0 = omega arith in same), known.2)

      choose : LeadsBelow s most e fs → (met_in passing level c.entries e ≡ Some (ByStatement lev place)) ⊎ (found_from (passing && not (is_none f.back)) (suc level) (all_entered f.entries fs) e ≡ ByStatement lev place)
          → (d : ℕ) × (lev ≡ level + d) × Entered s most (cut d place (f ∷ fs) c)
      choose rest (inl here) = lands_here (f ∷ fs) c number inside passing level lev place enter below is few spent here
      choose rest (inr later) = further (behind rest f.back below later)
