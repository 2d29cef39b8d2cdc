-- What a fault says of the items of a file.
use Rattle.std.specs.Prelude.{◌≡◌, ℕ, ◌⊎◌, false, List, Contains, Some, slice_get, ⊤}
use Rattle.hal_base.specs.declared.refusal.Place.{Place}
use Rattle.hal_base.specs.declared.refusal.Fault.{Fault}
use Rattle.hal_base.specs.declared.refusal.Fault.TheVariants as fault
use Rattle.hal_base.specs.declared.limits.TheConstants.{TOKEN_LIMIT}
use Rattle.hal_words.specs.Pieces.{Wrong}
use Rattle.hal_words.specs.Lines.{Item, item}
use Rattle.hal_words.specs.Words.{misplaced, BreaksWordRule}

-- a fault stands among the items, or a word after the limit
abbrev pub IsWrong : List Item → ℕ → Place → Type 0
IsWrong whole rule place =
    Contains whole (item (Wrong rule) place)
    ⊎ ((one : Item) × (slice_get whole TOKEN_LIMIT ≡ Some one) × (rule ≡ 206) × (place ≡ one.place))

-- the items break the rule, or memory ended
abbrev pub Explains : List Item → Fault → Type 0
Explains whole (fault.Broken refusal) = IsWrong whole refusal.rule.0 refusal.place
Explains whole (fault.Memory error) = ⊤

-- the same, with TEMPORARY out of place
abbrev pub IsBroken : List Item → ℕ → Place → Type 0
IsBroken whole rule place =
    Contains whole (item (Wrong rule) place)
    ⊎ ((one : Item) × (slice_get whole TOKEN_LIMIT ≡ Some one) × (rule ≡ 206) × (place ≡ one.place))
    ⊎ (Contains (misplaced false false whole) place × (rule ≡ 324))

abbrev pub Blames : List Item → Fault → Type 0
Blames whole (fault.Broken refusal) = IsBroken whole refusal.rule.0 refusal.place
Blames whole (fault.Memory error) = ⊤

-- the text breaks the rule of the fault, or memory ended
abbrev pub BreaksBy : ℕ → List ℕ → Fault → Type 0
BreaksBy unit text (fault.Broken refusal) = BreaksWordRule unit text refusal.rule.0 refusal.place
BreaksBy unit text (fault.Memory error) = ⊤
