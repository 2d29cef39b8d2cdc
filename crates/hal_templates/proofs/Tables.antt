-- The first fault of the table.
use Rattle.std.proofs.Common.{◌≡◌, ℕ, List, [], ◌∷◌, Option, Some, None, refl, sym, ap, ap₂, ◌∙◌}
use Rattle.std.specs.Option.{option_or}
use Rattle.hal_base.specs.declared.refusal.Place.{Place}
use Rattle.hal_phrases.specs.Phrases.{Phrase}
use Rattle.hal_scope.specs.Rules.{Breaks, IsSound, fault, first_fault, ruled}
use Rattle.hal_scope.proofs.Broken.{broken, sound}
use Rattle.hal_scope.proofs.Lists.{or_none}
use Rattle.hal_constants.specs.Known.{Known, known}
use Rattle.hal_templates.specs.Templates.{differing, doubled, lacking}
use Rattle.hal_templates.specs.Rules.{fault_with, first_with, template_rows}

-- the rows of a phrase, where this comes last
in_order : List Phrase → Phrase → Option (ℕ × Place) → Option (ℕ × Place)
in_order ps p last = option_or (ruled 501 (differing ps (known ps) p p.node)) (option_or (ruled 502 (lacking ps p)) last)

pub all_faults : (ps : List Phrase) (p : Phrase) → fault template_rows ps p ≡ fault_with ps (known ps) p
unfolding fault template_rows in_order
all_faults ps p = ap (in_order ps p) (or_none (ruled 503 (doubled ps p)))

pub first_of_all : (ps qs : List Phrase) → first_fault template_rows ps qs ≡ first_with ps (known ps) qs
unfolding first_fault first_with
first_of_all ps [] = refl
first_of_all ps (q ∷ qs) = ap₂ option_or (all_faults ps q) (first_of_all ps qs)

-- by the values of the constants, where these are known
by_values : (ps : List Phrase) (vs : Known) → vs ≡ known ps → first_fault template_rows ps ps ≡ first_with ps vs ps
by_values ps vs same = first_of_all ps ps ∙ ap (λ (ws : Known). first_with ps ws ps) (sym same)

pub sound_by : (ps : List Phrase) (vs : Known) → vs ≡ known ps → first_with ps vs ps ≡ None → IsSound template_rows ps
sound_by ps vs same none = sound template_rows ps (by_values ps vs same ∙ none)

pub broken_by : (ps : List Phrase) (vs : Known) (rule : ℕ) (place : Place) → vs ≡ known ps → first_with ps vs ps ≡ Some (rule, place) → Breaks template_rows ps rule place
broken_by ps vs rule place same found = broken template_rows ps rule place (by_values ps vs same ∙ found)
