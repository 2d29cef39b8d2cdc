-- The rules of calls: 901 to 904 as rows over one phrase, and 905 of the whole set.
use Rattle.std.specs.Prelude.{◌≡◌, ◌⊎◌, ℕ, false, List, [], ◌∷◌, Option, None}
use Rattle.std.specs.Option.{option_or}
use Rattle.hal_base.specs.declared.refusal.Place.{Place}
use Rattle.hal_phrases.specs.Phrases.{Phrase}
use Rattle.hal_scope.specs.Rules.{Row, Breaks, ruled}
use Rattle.hal_meaning.specs.Sets.{beginning}
use Rattle.hal_calls.specs.Blocks.{self_called, contested, lone_among, named_among}
use Rattle.hal_calls.specs.Placed.{misplaced, nested}
use Rattle.hal_calls.specs.Programs.{has_program}

unfoldable pub call_rows : List Row
call_rows =
    (λ ps p. ruled 901 (self_called ps p)) ∷ (λ ps p. ruled 902 (contested ps p)) ∷ (λ ps p. ruled 903 (nested p)) ∷ (λ ps p. ruled 904 (misplaced ps p)) ∷ []

-- a set without a PROGRAM breaks rule 905 at its beginning
pub record LacksProgram (ps : List Phrase) (rule : ℕ) (place : Place) : Type 0 where
  pub lacks : has_program ps ≡ false
  pub rule_is : rule ≡ 905
  pub at : place ≡ beginning

-- a set breaks this rule of calls at this place
abbrev pub BreaksCalls : List Phrase → ℕ → Place → Type 0
BreaksCalls ps rule place = Breaks call_rows ps rule place ⊎ LacksProgram ps rule place

-- the first rule of 901 to 904 that a phrase breaks, and where, where these units reach themselves, and more than one process reaches these
abbrev pub fault_with : List Phrase → List ℕ → List ℕ → Phrase → Option (ℕ × Place)
fault_with ps recursive contended p =
    option_or (ruled 901 (named_among recursive p)) (option_or (ruled 902 (lone_among contended p)) (option_or (ruled 903 (nested p)) (ruled 904 (misplaced ps p))))

-- the first one that one of the phrases breaks
unfoldable pub first_with : List Phrase → List ℕ → List ℕ → List Phrase → Option (ℕ × Place)
first_with ps recursive contended [] = None
first_with ps recursive contended (p ∷ rest) = option_or (fault_with ps recursive contended p) (first_with ps recursive contended rest)
