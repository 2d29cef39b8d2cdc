-- The first fault of the table.
use Rattle.std.proofs.Common.{◌≡◌, ℕ, Bool, true, false, List, [], ◌∷◌, Option, Some, None, if◌then◌else◌, refl, sym, ap, ap₂, ◌∙◌}
use Rattle.std.specs.Option.{option_or, is_some}
use Rattle.std.proofs.lemmas.Bool.{or_parts, true≢false}
use Rattle.hal_base.specs.declared.refusal.Place.{Place}
use Rattle.hal_phrases.specs.Phrases.{Phrase}
use Rattle.hal_scope.specs.Rules.{Breaks, IsSound, fault, first_fault, ruled}
use Rattle.hal_scope.proofs.Broken.{broken, sound}
use Rattle.hal_scope.proofs.Lists.{or_none}
use Rattle.hal_constants.specs.Known.{Known, known}
use Rattle.hal_lock_groups.specs.Updates.{has_updates, is_updated}
use Rattle.hal_locks.specs.Updates.{nested, returned, unheld, within}
use Rattle.hal_locks.specs.Barred.{barred_within}
use Rattle.hal_locks.specs.Callees.{barred_units, calling, calls_one}
use Rattle.hal_locks.specs.Placed.{misplaced}
use Rattle.hal_locks.specs.Passed.{mispassed}
use Rattle.hal_locks.specs.Rules.{fault_with, first_with, lock_rows}
use Rattle.hal_locks.proofs.Homes.{called}

-- the rows of a phrase, where its call is one of this sort and these come last
in_order : List Phrase → Phrase → Bool → Option (ℕ × Place) → Option (ℕ × Place)
in_order ps p calls last =
    option_or (ruled 801 (unheld ps p)) (option_or (ruled 802 (nested p)) (option_or (ruled 803 (barred_within ps p)) (option_or (ruled 804 (within p (calling calls p)))
    (option_or (ruled 805 (misplaced ps (known ps) p p.node)) (option_or (ruled 806 (mispassed ps p.around.block p.node)) last)))))

pub all_faults : (ps : List Phrase) (p : Phrase) → fault lock_rows ps p ≡ fault_with ps (known ps) (barred_units ps) p
unfolding fault lock_rows in_order
all_faults ps p = ap₂ (in_order ps p) (sym (called ps p)) (or_none (ruled 807 (returned p)))

pub first_of_all : (ps qs : List Phrase) → first_fault lock_rows ps qs ≡ first_with ps (known ps) (barred_units ps) qs
unfolding first_fault first_with
first_of_all ps [] = refl
first_of_all ps (q ∷ qs) = ap₂ option_or (all_faults ps q) (first_of_all ps qs)

pub sound_with : (ps : List Phrase) → first_with ps (known ps) (barred_units ps) ps ≡ None → IsSound lock_rows ps
sound_with ps none = sound lock_rows ps (first_of_all ps ps ∙ none)

pub broken_with : (ps : List Phrase) (rule : ℕ) (place : Place) → first_with ps (known ps) (barred_units ps) ps ≡ Some (rule, place) → Breaks lock_rows ps rule place
broken_with ps rule place found = broken lock_rows ps rule place (first_of_all ps ps ∙ found)

-- where a phrase stands in no UPDATE block it doesn't matter which units such a block may not call
no_call : (b : Bool) (one other : Option Place) → b ≡ false → ◌≡◌ {A = Option Place} (if b then one else None) (if b then other else None)
no_call true one other is = absurd (true≢false is)
no_call false one other is = refl

-- the rows of a phrase, by where its call breaks rule 804
by_call : List Phrase → Known → Phrase → Option Place → Option (ℕ × Place)
by_call ps vs p call =
    option_or (ruled 801 (unheld ps p)) (option_or (ruled 802 (nested p)) (option_or (ruled 803 (barred_within ps p)) (option_or (ruled 804 call)
    (option_or (ruled 805 (misplaced ps vs p p.node)) (option_or (ruled 806 (mispassed ps p.around.block p.node)) (ruled 807 (returned p)))))))

any_units : (ps : List Phrase) (vs : Known) (us ws : List ℕ) (p : Phrase) → is_updated p ≡ false → fault_with ps vs us p ≡ fault_with ps vs ws p
unfolding by_call is_updated
any_units ps vs us ws p is = ap (by_call ps vs p) (no_call (is_updated p) (calling (calls_one ps us p) p) (calling (calls_one ps ws p) p) is)

any_units_of_all : (ps : List Phrase) (vs : Known) (us ws : List ℕ) (qs : List Phrase) → has_updates qs ≡ false → first_with ps vs us qs ≡ first_with ps vs ws qs
unfolding first_with
any_units_of_all ps vs us ws [] none = refl
any_units_of_all ps vs us ws (q ∷ qs) none =
    ap₂ option_or (any_units ps vs us ws q (or_parts (is_updated q) (has_updates qs) none).0) (any_units_of_all ps vs us ws qs (or_parts (is_updated q) (has_updates qs) none).1)

pub without_updates : (ps : List Phrase) (vs : Known) → false ≡ has_updates ps → first_with ps vs [] ps ≡ first_with ps vs (barred_units ps) ps
without_updates ps vs none = any_units_of_all ps vs [] (barred_units ps) ps (sym none)
