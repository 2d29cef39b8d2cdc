-- Declarations alone break the rules of templates.
use Rattle.std.proofs.Common.{◌≡◌, ◌∙◌, ℕ, Bool, true, false, cond, List, [], ◌∷◌, Option, None, filter, refl, sym, ap}
use Rattle.std.specs.Option.{option_or}
use Rattle.std.proofs.lemmas.Bool.{true≢false}
use Rattle.hal_base.specs.declared.refusal.Place.{Place}
use Rattle.hal_phrases.specs.declared.around.Around.{Around}
use Rattle.hal_phrases.specs.Phrases.{Node, Phrase, phrase, OfFile, OfInclude, OfTemplate}
use Rattle.hal_names.specs.Declarations.{is_declaration, is_declaring}
use Rattle.hal_constants.specs.Known.{Known}
use Rattle.hal_templates.specs.Rules.{fault_with, first_with}
use Rattle.hal_templates.specs.Templates.{differing, template_name, unit_name}

-- a phrase that has none of the three nodes breaks none
no_fault : (ps : List Phrase) (vs : Known) (k : ℕ) (a : Around) (n : Node) → is_declaring n ≡ false → fault_with ps vs (phrase k a n) ≡ None
unfolding is_declaring differing template_name unit_name
no_fault ps vs k a (OfFile prefaces name) none = absurd (true≢false none)
no_fault ps vs k a (OfInclude name) none = absurd (true≢false none)
no_fault ps vs k a (OfTemplate name head declarations) none = absurd (true≢false none)
no_fault ps vs k a other none = refl

by_first : (ps : List Phrase) (vs : Known) (p : Phrase) (alone rest : List Phrase) (b : Bool) → is_declaration p ≡ b → first_with ps vs alone ≡ first_with ps vs rest
    → first_with ps vs (cond b (p ∷ alone) alone) ≡ first_with ps vs (p ∷ rest)
unfolding first_with
by_first ps vs p alone rest true is same = ap (option_or (fault_with ps vs p)) same
by_first ps vs p alone rest false is same =
    same ∙ sym (ap (λ (found : Option (ℕ × Place)). option_or found (first_with ps vs rest)) (no_fault ps vs p.number p.around p.node is))

first_alone : (ps : List Phrase) (vs : Known) (rest : List Phrase) → first_with ps vs (filter is_declaration rest) ≡ first_with ps vs rest
first_alone ps vs [] = refl
first_alone ps vs (p ∷ rest) = by_first ps vs p (filter is_declaration rest) rest (is_declaration p) refl (first_alone ps vs rest)

-- so the first fault is that of the declarations
pub first_declared : (ps : List Phrase) (vs : Known) (ds : List Phrase) → ds ≡ filter is_declaration ps → first_with ps vs ds ≡ first_with ps vs ps
first_declared ps vs ds same = ap (first_with ps vs) same ∙ first_alone ps vs ps
