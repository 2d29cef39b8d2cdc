-- Units that may be called in UPDATE blocks.
use Rattle.std.specs.Prelude.{◌≡◌, ℕ, false, List}
use Rattle.hal_phrases.specs.Phrases.{Phrase}
use Rattle.hal_scope.specs.Rules.{IsAmong}
use Rattle.hal_locks.specs.Callees.{is_barred, reaches_barred}

-- no phrase of a unit does what an UPDATE block may not do
abbrev pub IsHarmless : List Phrase → ℕ → Type 0
IsHarmless ps home = (p : Phrase) → IsAmong p ps → p.around.home ≡ home → is_barred ps p ≡ false

-- nor does one of a unit that it calls, by itself or through others
abbrev pub AllHarmless : List Phrase → ℕ → Type 0
AllHarmless ps unit = reaches_barred ps unit ≡ false
