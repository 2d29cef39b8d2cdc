-- Tables of slots that reach further, or have a number more.
use Rattle.std.proofs.Common.{◌≡◌, ◌∙◌, ℕ, zero, suc, ◌<◌, ◌≤◌, List, [], ◌∷◌, ◌++◌, length, map, slice_set, slice_index_or, arith, refl, sym, ap, Vec}
use Rattle.std.specs.declared.alloc.Global.{Global}
use Rattle.std.proofs.lemmas.List.{map-set, map-append}
use Rattle.std.proofs.Math.Seq.{map-set_same}
use Rattle.hal_gen_expr.specs.ViewSlots.{numbers_of, numbers_at, AreSame, noted}

-- an empty slot more
pub empty_behind : (table : List (List ℕ)) → AreSame table (table ++ ([] ∷ []))
empty_behind [] zero = refl
empty_behind [] (suc s) = refl
empty_behind (ns ∷ table) zero = refl
empty_behind (ns ∷ table) (suc s) = empty_behind table s

-- the numbers of a slot
at_mapped : (items : List (Vec ℕ Global)) (s : ℕ) (d : Vec ℕ Global) → s < length items → numbers_at (map numbers_of items) s ≡ numbers_of (slice_index_or items s d)
at_mapped [] s d h = absurd (omega arith)
at_mapped (v ∷ items) zero d h = refl
at_mapped (v ∷ items) (suc s) d h = at_mapped items s d (omega arith)

pub one_noted : (items : List (Vec ℕ Global)) (s n : ℕ) (old new : Vec ℕ Global) → s < length items → old ≡ slice_index_or items s old → numbers_of new ≡ numbers_of old ++ (n ∷ [])
    → map numbers_of (slice_set items s new) ≡ noted (map numbers_of items) s n
one_noted items s n old new h olds more =
    map-set numbers_of items s new
    ∙ ap (slice_set (map numbers_of items) s) (more ∙ ap (λ ns. ns ++ (n ∷ [])) (ap numbers_of olds ∙ sym (at_mapped items s old h)))

pub one_kept : (items : List (Vec ℕ Global)) (s : ℕ) (old new : Vec ℕ Global) → old ≡ slice_index_or items s old → numbers_of new ≡ numbers_of old
    → AreSame (map numbers_of items) (map numbers_of (slice_set items s new))
one_kept items s old new olds same k = ap (λ table. numbers_at table k) (sym (map-set_same numbers_of items s new old (same ∙ ap numbers_of olds)))

pub one_empty : (items : List (Vec ℕ Global)) (new : Vec ℕ Global) (all : List (Vec ℕ Global)) → all ≡ items ++ (new ∷ []) → numbers_of new ≡ [] → AreSame (map numbers_of items) (map numbers_of all)
one_empty items new all is empty s =
    empty_behind (map numbers_of items) s
    ∙ ap (λ table. numbers_at table s) (ap (λ ns. map numbers_of items ++ (ns ∷ [])) (sym empty) ∙ sym (map-append numbers_of items (new ∷ [])) ∙ ap (map numbers_of) (sym is))
