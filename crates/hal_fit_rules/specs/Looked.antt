-- Statements that are looked at as they would stand inside of an UPDATE block or outside.
use Rattle.std.specs.Prelude.{◌≡◌, ◌⊎◌, Bool, true, List}
use Rattle.std.specs.Option.{is_some}
use Rattle.hal_phrases.specs.declared.around.Around.{Around}
use Rattle.hal_phrases.specs.Phrases.{Phrase}
use Rattle.hal_fit_calls.specs.Harmless.{IsHarmless}

-- statements stand so; or they are looked at as inside, with all of their unit, which does nothing that an UPDATE block may not do
abbrev pub AreLooked : List Phrase → Bool → Around → Type 0
AreLooked ps within a = (within ≡ is_some a.update) ⊎ ((within ≡ true) × IsHarmless ps a.home)
