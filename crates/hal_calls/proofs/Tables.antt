-- The first fault of the table.
use Rattle.std.proofs.Common.{◌≡◌, ℕ, List, [], ◌∷◌, Option, Some, None, refl, ap, ap₂, ◌∙◌}
use Rattle.std.specs.Option.{option_or}
use Rattle.hal_base.specs.declared.refusal.Place.{Place}
use Rattle.hal_phrases.specs.Phrases.{Phrase}
use Rattle.hal_scope.specs.Rules.{Breaks, IsSound, fault, first_fault, ruled}
use Rattle.hal_scope.proofs.Broken.{broken, sound}
use Rattle.hal_scope.proofs.Lists.{or_none}
use Rattle.hal_reach.specs.Calls.{recursive}
use Rattle.hal_calls.specs.Blocks.{self_called, contended, contested}
use Rattle.hal_calls.specs.Placed.{misplaced, nested}
use Rattle.hal_calls.specs.Rules.{call_rows, fault_with, first_with}

-- the rows of a phrase, where this comes last
in_order : List Phrase → Phrase → Option (ℕ × Place) → Option (ℕ × Place)
in_order ps p last = option_or (ruled 901 (self_called ps p)) (option_or (ruled 902 (contested ps p)) (option_or (ruled 903 (nested p)) last))

pub all_faults : (ps : List Phrase) (p : Phrase) → fault call_rows ps p ≡ fault_with ps (recursive ps) (contended ps) p
unfolding fault call_rows in_order
all_faults ps p = ap (in_order ps p) (or_none (ruled 904 (misplaced ps p)))

pub first_of_all : (ps qs : List Phrase) → first_fault call_rows ps qs ≡ first_with ps (recursive ps) (contended ps) qs
unfolding first_fault first_with
first_of_all ps [] = refl
first_of_all ps (q ∷ qs) = ap₂ option_or (all_faults ps q) (first_of_all ps qs)

pub sound_with : (ps : List Phrase) → first_with ps (recursive ps) (contended ps) ps ≡ None → IsSound call_rows ps
sound_with ps none = sound call_rows ps (first_of_all ps ps ∙ none)

pub broken_with : (ps : List Phrase) (rule : ℕ) (place : Place) → first_with ps (recursive ps) (contended ps) ps ≡ Some (rule, place) → Breaks call_rows ps rule place
broken_with ps rule place found = broken call_rows ps rule place (first_of_all ps ps ∙ found)
