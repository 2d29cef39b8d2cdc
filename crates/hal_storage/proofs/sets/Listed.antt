-- Units and bodies, as the program's trees list them.
use Rattle.std.specs.Prelude.{ℕ, zero, suc, ◌+◌, ◌==◌, Bool, true, false, ◌&&◌, List, [], ◌∷◌, ◌++◌, map, filter, flat_map, drop, slice_get, Option, Some, None, if◌then◌else◌}
use Rattle.std.specs.List.{cons_option}
use Rattle.std.proofs.Common.{◌≡◌, refl, sym, ap, ◌∙◌, append-nil, arith}
use Rattle.hal_grammar.specs.Leaves.{Naming}
use Rattle.hal_grammar.specs.Declarations.{Declaration}
use Rattle.hal_grammar.specs.Units.{Head, Block, BlockOf, File}
use Rattle.hal_phrases.specs.Phrases.{Phrase}
use Rattle.hal_names.specs.Spans.{is_of}
use Rattle.hal_names.proofs.Spanned.{of_those_alone}
use Rattle.hal_tree.specs.declared.unit.Unit.{Unit, out-Unit}
use Rattle.hal_tree.specs.Rows.{Member, OfStatement, OfBlock, elements}
use Rattle.hal_tree.specs.SeenUnits.{seen_element, seen_unit}
use Rattle.hal_tree.proofs.MadeUnits.{parts_of_unit}
use Rattle.hal_meaning.specs.Bodies.{Body, is_mark, marks_of, body_of, bodies_from, units_from, units_within}
use Rattle.hal_storage.specs.sets.SeenBodies.{head_of, statements_in, with_body, with_bodies}
use Rattle.hal_storage.specs.sets.Marks.{with_mark, with_marks}
use Rattle.hal_storage.specs.sets.Units.{with_member, with_members, with_files}

append_append : {X : Type 0} (xs ys zs : List X) → (xs ++ ys) ++ zs ≡ xs ++ (ys ++ zs)
append_append [] ys zs = refl
append_append (x ∷ xs) ys zs = ap (λ l. x ∷ l) (append_append xs ys zs)

members_listed : (d : List Block) (xs : List Member) → with_members d xs ≡ d ++ units_within (elements xs)
unfolding elements with_member with_members
members_listed d [] = sym (append-nil d)
members_listed d (OfStatement statement ∷ xs) = members_listed d xs
members_listed d (OfBlock block ∷ xs) = members_listed (d ++ units_from block) xs ∙ append_append d (units_from block) (units_within (elements xs))

-- a unit, and those inside it, behind others
unit_by : (d : List Block) (name : Naming) (head : Head) (declarations : List Declaration) (xs : List Member) (close : Option Naming)
    → with_members (d ++ (BlockOf name head declarations (elements xs) close ∷ [])) xs ≡ d ++ units_from (BlockOf name head declarations (elements xs) close)
unit_by d name head declarations xs close =
    members_listed (d ++ (BlockOf name head declarations (elements xs) close ∷ [])) xs ∙ append_append d (BlockOf name head declarations (elements xs) close ∷ []) (units_within (elements xs))

pub unit_listed : (d : List Block) (u : Unit) → with_members (d ++ (seen_unit u ∷ [])) (map seen_element (out-Unit u).elements.items) ≡ d ++ units_from (seen_unit u)
unit_listed d u = rw (parts_of_unit u) (unit_by d _ _ _ (map seen_element (out-Unit u).elements.items) _)

-- the units of files
files_behind : (d : List Block) (files : List File) → with_files d files ≡ d ++ flat_map (λ (f : File). units_from f.block) files
unfolding with_files
files_behind d [] = sym (append-nil d)
files_behind d (f ∷ files) = files_behind (d ++ units_from f.block) files ∙ append_append d (units_from f.block) (flat_map (λ (one : File). units_from one.block) files)

pub files_listed : (files : List File) → with_files [] files ≡ flat_map (λ (f : File). units_from f.block) files
files_listed files = files_behind [] files

-- bodies, by the places of their units
none_left : (ps : List Phrase) (ks : List ℕ) → bodies_from ps ks [] ≡ []
none_left ps [] = refl
none_left ps (k ∷ ks) = refl

one_more : (ps : List Phrase) (k : ℕ) (ks : List ℕ) (units : List Block) (index : ℕ) (d : List Body)
    → with_body ps k (slice_get units index) d ++ bodies_from ps ks (drop (suc index) units) ≡ d ++ bodies_from ps (k ∷ ks) (drop index units)
unfolding with_body
one_more ps k ks [] zero d = ap (λ l. d ++ l) (none_left ps ks)
one_more ps k ks [] (suc index) d = ap (λ l. d ++ l) (none_left ps ks)
one_more ps k ks (b ∷ units) zero d = append_append d (body_of ps k b ∷ []) (bodies_from ps ks units)
one_more ps k ks (b ∷ units) (suc index) d = one_more ps k ks units index d

next_place : (index : ℕ) → index + 1 ≡ suc index
next_place index = omega arith

bodies_behind : (ps : List Phrase) (units : List Block) (index : ℕ) (d : List Body) (ks : List ℕ) → with_bodies ps units index d ks ≡ d ++ bodies_from ps ks (drop index units)
unfolding with_bodies
bodies_behind ps units index d [] = sym (append-nil d)
bodies_behind ps units index d (k ∷ ks) =
    bodies_behind ps units (index + 1) (with_body ps k (slice_get units index) d) ks
    ∙ ap (λ n. with_body ps k (slice_get units index) d ++ bodies_from ps ks (drop n units)) (next_place index) ∙ one_more ps k ks units index d

pub bodies_listed : (ps : List Phrase) (units : List Block) (ks : List ℕ) → with_bodies ps units 0 [] ks ≡ bodies_from ps ks units
bodies_listed ps units ks = bodies_behind ps units 0 [] ks

-- the body of a unit
pub body_listed : (ps : List Phrase) (k : ℕ) (b : Block) → body_of ps k b ≡ (record { number = k; head = head_of b; statements = statements_in b; marks = marks_of ps k })
body_listed ps k (BlockOf name head declarations _ close) = refl

-- marks
one_mark : (unit : ℕ) (d : List ℕ) (p : Phrase) (more : List ℕ) (b c : Bool)
    → (if b then (if c then d ++ (p.number ∷ []) else d) else d) ++ more
    ≡ d ++ cons_option (if b && c then Some p.number else None) more
one_mark unit d p more true true = append_append d (p.number ∷ []) more
one_mark unit d p more true false = refl
one_mark unit d p more false c = refl

marks_behind : (unit : ℕ) (d : List ℕ) (ps : List Phrase) → with_marks unit d ps ≡ d ++ marks_of ps unit
unfolding with_mark with_marks
marks_behind unit d [] = sym (append-nil d)
marks_behind unit d (p ∷ ps) = marks_behind unit (with_mark unit d p) ps ∙ one_mark unit d p (marks_of ps unit) (is_mark p.node) (p.around.home == unit)

marks_listed : (unit : ℕ) (ps : List Phrase) → with_marks unit [] ps ≡ marks_of ps unit
marks_listed unit ps = marks_behind unit [] ps

no_mark : (unit : ℕ) (d : List ℕ) (p : Phrase) (b c : Bool) → c ≡ false → (if b then (if c then d ++ (p.number ∷ []) else d) else d) ≡ d
no_mark unit d p true c none = rw none refl
no_mark unit d p false c none = refl

-- the marks of a unit are those of the phrases of its home
pub marks_of_home : (unit : ℕ) (rs ps : List Phrase) → filter (is_of unit) rs ≡ filter (is_of unit) ps → with_marks unit [] rs ≡ marks_of ps unit
unfolding with_mark with_marks
marks_of_home unit rs ps same =
    of_those_alone (with_marks unit) (with_mark unit) unit (λ d p more. refl) (λ d p none. no_mark unit d p (is_mark p.node) (is_of unit p) none) rs ps [] same ∙ marks_listed unit ps
