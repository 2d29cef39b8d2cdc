-- Reading rows one after another, as a loop does, and writing them.
use Rattle.std.proofs.Common.{◌≡◌, ℕ, suc, ◌-◌, ◌+◌, ◌≤◌, ◌<◌, List, [], ◌∷◌, ◌++◌, Option, Some, None, refl, sym, ap, ◌∙◌, append_assoc, arith}
use Rattle.std.proofs.lemmas.List.{append-nil}
use Rattle.hal_object.specs.declared.fault.ReadFault.{ReadFault}
use Rattle.hal_object.specs.declared.fault.ReadFault.TheVariants as fault
use Rattle.hal_object.specs.Fields.{Reader, onwards, Fails, rows_at}
use Rattle.hal_object.proofs.ReadingLaws.{answered}

-- what was read before, and what is still read
abbrev pub with_front : {A : Type 0} → List A → Option (List A × List ℕ) → Option (List A × List ℕ)
with_front front None = None
with_front front (Some x) = Some (front ++ x.0, x.1)

regroup : {A : Type 0} (front : List A) (a : A) (read : Option (List A × List ℕ)) → with_front front (onwards read (λ others last. Some (a ∷ others, last))) ≡ with_front (front ++ a ∷ []) read
regroup front a None = refl
regroup {A} front a (Some x) = ap (λ (rows : List A). answered rows x.1) (sym (append_assoc front (a ∷ []) x.0))

pub goes_on : {A : Type 0} (read : Reader A) (front : List A) (count i : ℕ) (bytes : List ℕ) (a : A) (after : List ℕ) (total : Option (List A × List ℕ)) → i < count → read bytes ≡ Some (a, after)
    → with_front front (rows_at read (count - i) bytes) ≡ total → with_front (front ++ a ∷ []) (rows_at read (count - (i + 1)) after) ≡ total
unfolding rows_at
goes_on read front count i bytes a after total lt h so_far =
    let k : count - i ≡ suc (count - (i + 1)) = omega arith in
    let one : with_front front (rows_at read (count - i) bytes) ≡ with_front (front ++ a ∷ []) (rows_at read (count - (i + 1)) after) = rw (k, h) (regroup front a (rows_at read (count - (i + 1)) after)) in
    sym one ∙ so_far

pub ends : {A : Type 0} (read : Reader A) (e : ReadFault) (front : List A) (count i : ℕ) (bytes : List ℕ) (total : Option (List A × List ℕ)) → i < count → Fails e (read bytes)
    → with_front front (rows_at read (count - i) bytes) ≡ total → Fails e total
unfolding rows_at
ends read (fault.Memory error) front count i bytes total lt h so_far = tt
ends {A} read fault.NotImage front count i bytes total lt h so_far =
    let k : count - i ≡ suc (count - (i + 1)) = omega arith in
    let nothing : Option (List A × List ℕ) = None in
    let one : with_front front (rows_at read (count - i) bytes) ≡ nothing = rw (k, h) refl in
    sym so_far ∙ one

pub is_done : {A : Type 0} (read : Reader A) (front : List A) (count i : ℕ) (bytes : List ℕ) (total : Option (List A × List ℕ)) → count ≤ i → with_front front (rows_at read (count - i) bytes) ≡ total → total ≡ Some (front, bytes)
unfolding rows_at
is_done {A} read front count i bytes total le so_far =
    let k : count - i ≡ 0 = omega arith in
    let one : with_front front (rows_at read (count - i) bytes) ≡ answered front bytes = rw k (ap (λ (rows : List A). answered rows bytes) (append-nil front)) in
    sym so_far ∙ one
