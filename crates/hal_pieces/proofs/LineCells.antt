-- What the kinds of lines give.
use Rattle.std.proofs.Common.{Result, Ok, Err, IfOk, ◌≡◌, ℕ, ◌<◌, ◌||◌, List, [], ◌∷◌, ◌++◌, length, drop, Contains, Bool, true, false, refl, ap, ◌∙◌, sym, subst, arith, Option, eqb, if◌then◌else◌}
use Rattle.hal_base.specs.declared.refusal.Place.{Place}
use Rattle.hal_base.specs.declared.refusal.Fault.{Fault}
use Rattle.hal_base.specs.declared.refusal.Fault.TheVariants as fault
use Rattle.hal_words.specs.Letters.{is_blank, capital}
use Rattle.hal_words.specs.Pieces.{Wrong}
use Rattle.hal_words.specs.Lines.{Item, item, Cell, Given, place_at, main_cells, directive_cells, line_cells}
use Rattle.hal_pieces.specs.declared.kinds.Kind.{Kind}
use Rattle.hal_pieces.specs.declared.kinds.Kind.TheVariants as kind
use Rattle.hal_pieces.specs.Kinds.{kind_of}
use Rattle.hal_pieces.specs.Faults.{IsRight, IsBrokenAt}
use Rattle.hal_pieces.specs.Reading.{left, Reads, TellsOf}
use Rattle.hal_pieces.proofs.Follow.{Follows-given, HasFault-given, Reads-then}

-- the cells of a line that isn't empty, by its kind
abbrev pub cells_by : Kind → ℕ → ℕ → List ℕ → List Cell
cells_by kind.Comment unit line bytes = []
cells_by kind.Directive unit line bytes = directive_cells unit line bytes
cells_by kind.Main unit line bytes = main_cells unit line 2 bytes
cells_by kind.Script unit line bytes = Given (item (Wrong 101) (place_at unit line 1)) ∷ []
cells_by kind.Other unit line bytes = Given (item (Wrong 102) (place_at unit line 1)) ∷ []

line_cells-by : (unit line b : ℕ) (bytes : List ℕ) → line_cells unit line (b ∷ bytes) ≡ cells_by (kind_of (b ∷ bytes)) unit line bytes
line_cells-by unit line b bytes = by (eqb (capital b) 67) (eqb (capital b) 68) (is_blank b || eqb (capital b) 77) (eqb (capital b) 69 || eqb (capital b) 83)
  where
    by : (c d m s : Bool) → (if c then [] else if d then directive_cells unit line bytes else if m then main_cells unit line 2 bytes else if s then Given (item (Wrong 101) (place_at unit line 1)) ∷ [] else Given (item (Wrong 102) (place_at unit line 1)) ∷ [])
        ≡ cells_by (if c then kind.Comment else if d then kind.Directive else if m then kind.Main else if s then kind.Script else kind.Other) unit line bytes
    by true d m s = refl
    by false true m s = refl
    by false false true s = refl
    by false false false true = refl
    by false false false false = refl

-- a line of a kind but the main one isn't empty
pub line_cells-kind : (unit line : ℕ) (text : List ℕ) (sort : Kind) → kind_of text ≡ sort → 0 < length text → line_cells unit line text ≡ cells_by sort unit line (drop 1 text)
line_cells-kind unit line [] sort same some = absurd (omega (arith, some))
line_cells-kind unit line (b ∷ bytes) sort same some = line_cells-by unit line b bytes ∙ ap (λ (k : Kind). cells_by k unit line bytes) same

pub kind_of-comment : (text : List ℕ) → kind_of text ≡ kind.Comment → 0 < length text
kind_of-comment [] same = absurd cc
kind_of-comment (b ∷ bytes) same = omega arith

pub kind_of-directive : (text : List ℕ) → kind_of text ≡ kind.Directive → 0 < length text
kind_of-directive [] same = absurd cc
kind_of-directive (b ∷ bytes) same = omega arith

pub kind_of-script : (text : List ℕ) → kind_of text ≡ kind.Script → 0 < length text
kind_of-script [] same = absurd cc
kind_of-script (b ∷ bytes) same = omega arith

pub kind_of-other : (text : List ℕ) → kind_of text ≡ kind.Other → 0 < length text
kind_of-other [] same = absurd cc
kind_of-other (b ∷ bytes) same = omega arith

-- an item that a line gives as a whole
pub Reads-given : (one : Item) (later : List Cell) (state : Option Place) (old : List Item) → IsRight one.piece → Reads (Given one ∷ later) later state state old (old ++ one ∷ [])
Reads-given one later state old right = record {
  here = one ∷ [];
  put = refl;
  follows = λ more. Follows-given state old one (later ++ more) right;
}

-- a fault that a line gives as a whole
pub TellsOf-given : (rule : ℕ) (place : Place) (later : List Cell) (state : Option Place) (old : List Item) (told : Fault) → IsBrokenAt rule place told → TellsOf (Given (item (Wrong rule) place) ∷ later) state old told
TellsOf-given rule place later state old (fault.Broken refusal) tells = λ more.
    let cells : List Cell = Given (item (Wrong rule) place) ∷ (later ++ more) in
    subst (λ (r : ℕ). Contains (left state old cells) (item (Wrong r) refusal.place)) (sym tells.0)
    (subst (λ (p : Place). Contains (left state old cells) (item (Wrong rule) p)) (sym tells.1) (HasFault-given state old (item (Wrong rule) place) (later ++ more)))
TellsOf-given rule place later state old (fault.Memory error) tells = tt

-- an empty line
pub line_cells-empty : (unit line column : ℕ) (text : List ℕ) → length text ≡ 0 → column ≡ 1 → line_cells unit line text ≡ main_cells unit line column text
line_cells-empty unit line column [] none first = ap (λ c. main_cells unit line c []) (sym first)
line_cells-empty unit line column (b ∷ text) none first = absurd (omega (arith, none))

-- two right items
pub Reads-two : (one two : Item) (state : Option Place) (old half new : List Item) → IsRight one.piece → IsRight two.piece → half ≡ old ++ one ∷ [] → new ≡ half ++ two ∷ [] → Reads (Given one ∷ Given two ∷ []) [] state state old new
Reads-two one two state old half new right fine first second =
    subst (λ (l : List Item). Reads (Given one ∷ Given two ∷ []) [] state state old l) (sym (second ∙ ap (λ (l : List Item). l ++ two ∷ []) first))
    (Reads-then (Given one ∷ Given two ∷ []) (Given two ∷ []) [] state state state old (old ++ one ∷ []) (old ++ one ∷ [] ++ two ∷ [])
    (Reads-given one (Given two ∷ []) state old right)
    (Reads-given two [] state (old ++ one ∷ []) fine))

-- what an Ok says of a fixed fact
pub IfOk-with : {T E P Q : Type 0} (r : Result T E) → (P → Q) → IfOk r (λ _. P) → IfOk r (λ _. Q)
IfOk-with (Ok x) f p = f p
IfOk-with (Err e) f p = tt
