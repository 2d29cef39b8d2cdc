-- What faults say of the items.
use Rattle.std.proofs.Common.{◌≡◌, ℕ, ◌+◌, inl, inr, List, ◌∷◌, ◌++◌, length, Option, Some, None, sym, ap, ◌∙◌, subst, arith}
use Rattle.std.specs.Prelude.{slice_get}
use Rattle.std.proofs.lemmas.Option.{slice_get-get_or}
use Rattle.std.proofs.lemmas.List.{length-append}
use Rattle.std.proofs.lemmas.List.Elements.{Contains-append_right}
use Rattle.std.proofs.Math.Seq.{get_or-append_seam}
use Rattle.hal_base.specs.declared.refusal.Place.{Place}
use Rattle.hal_base.specs.declared.refusal.Fault.{Fault}
use Rattle.hal_base.specs.declared.refusal.Fault.TheVariants as fault
use Rattle.hal_base.specs.declared.limits.TheConstants.{TOKEN_LIMIT}
use Rattle.hal_words.specs.Pieces.{Wrong}
use Rattle.hal_words.specs.Lines.{Item, item}
use Rattle.hal_words.specs.Replacing.{fault_of}
use Rattle.hal_pieces.specs.Faults.{IsBrokenAt, IsFaultItem}
use Rattle.hal_lexer.specs.Faults.{Explains}

slice_get_seam : (before : List Item) (one : Item) (rest : List Item) → slice_get (before ++ one ∷ rest) (length before) ≡ Some one
slice_get_seam before one rest =
    let sum : length (before ++ one ∷ rest) ≡ length before + length (one ∷ rest) = length-append before (one ∷ rest) in
    slice_get-get_or (before ++ one ∷ rest) (length before) one (omega arith) ∙ ap Some (get_or-append_seam before one rest one)

-- a word that has no room
pub explains_full : (before : List Item) (one : Item) (rest : List Item) (found : Fault) → length before ≡ TOKEN_LIMIT → IsBrokenAt 206 one.place found → Explains (before ++ one ∷ rest) found
explains_full before one rest (fault.Broken refusal) full is =
    inr (one, subst (λ n. slice_get (before ++ one ∷ rest) n ≡ Some one) full (slice_get_seam before one rest), is.0, is.1)
explains_full before one rest (fault.Memory error) full is = absurd is

-- a fault that stands among the items
pub explains_here : (before : List Item) (one : Item) (rest : List Item) (found : Fault) → IsFaultItem one found → Explains (before ++ one ∷ rest) found
explains_here before one rest (fault.Broken refusal) is =
    inl (Contains-append_right before (one ∷ rest) (item (Wrong refusal.rule.0) refusal.place) (0, omega arith, is))
explains_here before one rest (fault.Memory error) is = is

pub fault_item : (rule : ℕ) (place : Place) (found : Fault) → IsBrokenAt rule place found → IsFaultItem (item (Wrong rule) place) found
fault_item rule place (fault.Broken refusal) is = ap (λ (n : ℕ). item (Wrong n) place) (sym is.0) ∙ ap (λ (p : Place). item (Wrong refusal.rule.0) p) (sym is.1)
fault_item rule place (fault.Memory error) is = absurd is

pub explains_at : (before : List Item) (rule : ℕ) (place : Place) (rest : List Item) (found : Fault) → IsBrokenAt rule place found → Explains (before ++ item (Wrong rule) place ∷ rest) found
explains_at before rule place rest found is = explains_here before (item (Wrong rule) place) rest found (fault_item rule place found is)

-- a REPLACE without its form
pub explains_formless : (one : Option (List ℕ × List ℕ)) (before : List Item) (rule : ℕ) (place : Place) (rest : List Item) (found : Fault)
    → one ≡ None → IsBrokenAt rule place found → Explains (before ++ (fault_of one rule place ++ rest)) found
explains_formless None before rule place rest found none is = explains_at before rule place rest found is
explains_formless (Some one) before rule place rest found none is = let no : Some one ≡ None = none in absurd (cc)
