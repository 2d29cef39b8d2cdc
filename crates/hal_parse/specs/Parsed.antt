-- What `parse` answers.
use Rattle.std.specs.Prelude.{◌≡◌, ◌≤◌, ℕ, [], ◌∷◌, Contains, ⊤}
use Rattle.hal_base.specs.declared.limits.TheConstants.{NESTING_LIMIT}
use Rattle.hal_base.specs.declared.refusal.Place.{Place}
use Rattle.hal_base.specs.declared.refusal.Fault.{Fault}
use Rattle.hal_base.specs.declared.refusal.Fault.TheVariants as fault
use Rattle.hal_words.specs.declared.word.Token.{Token}
use Rattle.hal_grammar.specs.Units.{File, nesting_of_file}
use Rattle.hal_grammar.specs.Words.{Words}
use Rattle.hal_grammar.specs.SpellsFiles.{SpellsFile}

-- the words are those of the file, which isn't nested too deeply
pub record IsFileOf (words : Words) (file : File) : Type 0 where
  pub spelled : SpellsFile file words []
  pub shallow : nesting_of_file file ≤ NESTING_LIMIT

-- and of no other one
pub record IsParsed (words : Words) (file : File) : Type 0 where
  pub is : IsFileOf words file
  pub only : (other : File) → IsFileOf words other → other ≡ file

-- line 1, column 1 of a unit
abbrev pub beginning_of : ℕ → Place
beginning_of unit = record { unit = unit; line = 1; column = 1 }

-- the place of one of the words, or line 1, column 1 of the unit where there is none
abbrev pub StandsIn : ℕ → Words → Place → Type 0
StandsIn unit [] place = place ≡ beginning_of unit
StandsIn unit (first ∷ rest) place = (token : Token) × Contains (first ∷ rest) token × (place ≡ token.place)

-- rule 401 is broken at the place: the words are those of no file
pub record IsUnread (unit : ℕ) (words : Words) (rule : ℕ) (place : Place) : Type 0 where
  pub rule_is : rule ≡ 401
  pub stands : StandsIn unit words place
  pub none : (file : File) → IsFileOf words file → ⊥

-- the words break rule 401 as the fault says, or memory ended
abbrev pub Refuses : ℕ → Words → Fault → Type 0
Refuses unit words (fault.Broken refusal) = IsUnread unit words refusal.rule.0 refusal.place
Refuses unit words (fault.Memory error) = ⊤
