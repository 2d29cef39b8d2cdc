-- Phrases that are added stand in blocks of their units.
use Rattle.std.proofs.Common.{◌≡◌, ℕ, List, [], ◌∷◌, ◌++◌, length, Option, Some, None, refl, sym, ap, ◌∙◌, append_assoc, append-nil}
use Rattle.hal_grammar.specs.Leaves.{Naming}
use Rattle.hal_phrases.specs.declared.around.Around.{Around}
use Rattle.hal_phrases.specs.Phrases.{Node, Phrase, phrase, add, gathered_each, gathered_any, OfTemporaryGroup}
use Rattle.hal_fit_calls.specs.Each.{Each}
use Rattle.hal_fit_calls.proofs.Each.{each_append}
use Rattle.hal_right_images.specs.rows.Homes.{LeadsHome, AtHome, InGroup, StandsHome}
use Rattle.hal_right_images.proofs.rows.Told.{Begins, begins_on, there}

-- phrases are added in a block of this unit, which stand in blocks of their units where that one does
pub record StepIn (home block : ℕ) (d e : List Phrase) : Type 0 where
  pub later : List Phrase
  pub whole : e ≡ d ++ later
  pub each : (ps : List Phrase) → Begins e ps → LeadsHome ps home block → Each (StandsHome ps) later

pub no_step : (home block : ℕ) (d : List Phrase) → StepIn home block d d
no_step home block d = record { later = []; whole = sym (append-nil d); each = λ ps first leads. tt }

pub then_ : {home block : ℕ} {d e f : List Phrase} → StepIn home block d e → StepIn home block e f → StepIn home block d f
then_ {d = d} {e = e} {f = f} first second = record {
  later = first.later ++ second.later;
  whole = second.whole ∙ (ap (λ x. x ++ second.later) first.whole ∙ append_assoc d first.later second.later);
  each = λ ps begins leads. each_append (StandsHome ps) first.later second.later (first.each ps (begins_on e f ps second.later second.whole begins) leads) (second.each ps begins leads);
}

-- a phrase in this block
pub one : (d : List Phrase) (a : Around) (n : Node) → StepIn a.home a.block d (add d a n)
one d a n = record { later = phrase (length d) a n ∷ []; whole = refl; each = λ ps first leads. (leads, tt) }

-- phrases of another unit
pub within_ : {home block k : ℕ} {d e : List Phrase} → StepIn k k d e → StepIn home block d e
within_ inner = record { later = inner.later; whole = inner.whole; each = λ ps first leads. inner.each ps first AtHome }

pub opening : (d : List Phrase) (a : Around) (n : Node) (f : List Phrase) → StepIn (length d) (length d) (add d a n) f → StepIn a.home a.block d f
opening d a n f inner = then_ (one d a n) (within_ inner)

-- a group with a TEMPORARY variable, and the phrases in it
pub grouping : (d : List Phrase) (a : Around) (labels : List Naming) (variable : Naming) (f : List Phrase) → StepIn a.home (length d) (add d a (OfTemporaryGroup labels variable)) f → StepIn a.home a.block d f
grouping d a labels variable f inner =
    let group : Phrase = phrase (length d) a (OfTemporaryGroup labels variable) in
    record {
      later = group ∷ inner.later;
      whole = inner.whole ∙ append_assoc d (group ∷ []) inner.later;
      each = λ ps first leads. (
        leads,
        inner.each ps first (InGroup (length d) group labels variable (there ps d a (OfTemporaryGroup labels variable) (begins_on (add d a (OfTemporaryGroup labels variable)) f ps inner.later inner.whole first)) refl refl leads),
      );
    }

pub each : {X : Type 0} (home block : ℕ) (step : List Phrase → X → List Phrase) → ((d : List Phrase) (x : X) → StepIn home block d (step d x)) → (d : List Phrase) (xs : List X)
    → StepIn home block d (gathered_each step d xs)
each home block step steps d [] = no_step home block d
each home block step steps d (x ∷ xs) = then_ (steps d x) (each home block step steps (step d x) xs)

pub any : {X : Type 0} (home block : ℕ) (step : List Phrase → X → List Phrase) → ((d : List Phrase) (x : X) → StepIn home block d (step d x)) → (d : List Phrase) (o : Option X)
    → StepIn home block d (gathered_any step d o)
any home block step steps d None = no_step home block d
any home block step steps d (Some x) = steps d x
