-- What stands in UPDATE blocks does nothing that may not be done there, in a set that breaks no rule of locks.
use Rattle.std.specs.Prelude.{◌≡◌, ℕ, true, ◌||◌, List, Option, Some, None, if◌then◌else◌}
use Rattle.std.specs.Option.{is_some}
use Rattle.std.proofs.Common.{refl, sym, ap, ◌∙◌, inl, inr}
use Rattle.hal_base.specs.declared.refusal.Place.{Place}
use Rattle.hal_phrases.specs.Phrases.{Phrase}
use Rattle.hal_scope.specs.Rules.{IsAmong, IsSound, ruled}
use Rattle.hal_locks.specs.Barred.{barred, barred_within}
use Rattle.hal_locks.specs.Rules.{lock_rows}
use Rattle.hal_locks.specs.Updates.{nested, updating}
use Rattle.hal_fit_names.specs.Serving.{AsksNothing}

-- a rule that isn't broken
unbroken_by : (rule : ℕ) (o : Option Place) → ((place : Place) → ruled rule o ≡ Some (rule, place) → ⊥) → o ≡ None
unbroken_by rule None none = refl
unbroken_by rule (Some place) none = absurd (none place refl)

-- in a set that breaks no rule of locks, a phrase in an UPDATE block is no UPDATE
none_nested : (ps : List Phrase) → IsSound lock_rows ps → (p : Phrase) → IsAmong p ps → is_some p.around.update ≡ true → updating p.node ≡ None
unfolding lock_rows
none_nested ps sound p among inside =
    ap (λ b. if b then updating p.node else None) (sym inside)
    ∙ unbroken_by 802 (nested p) (λ place broken. sound 802 place (record { row = λ qs r. ruled 802 (nested r); listed = inr (inl refl); phrase = p; there = among; broken = broken }))

-- nor does it do what is barred there
none_barred : (ps : List Phrase) → IsSound lock_rows ps → (p : Phrase) → IsAmong p ps → is_some p.around.update ≡ true → barred ps p.around.block p.node ≡ None
unfolding lock_rows
none_barred ps sound p among inside =
    ap (λ b. if b then barred ps p.around.block p.node else None) (sym inside)
    ∙ unbroken_by 803 (barred_within ps p)
    (λ place broken. sound 803 place (record { row = λ qs r. ruled 803 (barred_within qs r); listed = inr (inr (inl refl)); phrase = p; there = among; broken = broken }))

-- so the phrases of a unit that stand in UPDATE blocks do nothing that may not be done there
pub asks_nothing : (ps : List Phrase) → IsSound lock_rows ps → (unit : ℕ) → AsksNothing ps unit true
asks_nothing ps sound unit p among its inside =
    ap (λ o. is_some o || is_some (barred ps p.around.block p.node)) (none_nested ps sound p among inside) ∙ ap is_some (none_barred ps sound p among inside)
