-- The rules of templates, as rows over one phrase.
use Rattle.std.specs.Prelude.{ℕ, List, [], ◌∷◌, Option, None}
use Rattle.std.specs.Option.{option_or}
use Rattle.hal_base.specs.declared.refusal.Place.{Place}
use Rattle.hal_phrases.specs.Phrases.{Phrase}
use Rattle.hal_scope.specs.Rules.{Row, ruled}
use Rattle.hal_constants.specs.Known.{Known, known}
use Rattle.hal_templates.specs.Templates.{differing, doubled, lacking}

unfoldable pub template_rows : List Row
template_rows = (λ ps p. ruled 501 (differing ps (known ps) p p.node)) ∷ (λ ps p. ruled 502 (lacking ps p)) ∷ (λ ps p. ruled 503 (doubled ps p)) ∷ []

-- the first rule of templates that a phrase breaks, and where, where the constants have these values
abbrev pub fault_with : List Phrase → Known → Phrase → Option (ℕ × Place)
fault_with ps vs p = option_or (ruled 501 (differing ps vs p p.node)) (option_or (ruled 502 (lacking ps p)) (ruled 503 (doubled ps p)))

-- the first one that one of the phrases breaks
unfoldable pub first_with : List Phrase → Known → List Phrase → Option (ℕ × Place)
first_with ps vs [] = None
first_with ps vs (p ∷ rest) = option_or (fault_with ps vs p) (first_with ps vs rest)
