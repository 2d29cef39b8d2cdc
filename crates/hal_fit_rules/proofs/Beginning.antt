-- Phrases that are added behind others leave those the first ones.
use Rattle.std.proofs.Common.{◌≡◌, List, [], ◌∷◌, ◌++◌, length, slice_get, Option, Some, None, refl, sym, ap, subst, ◌∙◌, inl, inr, append_assoc, append-nil}
use Rattle.hal_phrases.specs.declared.around.Around.{Around}
use Rattle.hal_phrases.specs.Phrases.{Node, Phrase, phrase, add, gathered_each, gathered_any}
use Rattle.hal_scope.specs.Rules.{IsAmong}
use Rattle.hal_fit_rules.specs.Begun.{AreFirst}

pub no_step : (d : List Phrase) → AreFirst d d
no_step d = record { later = []; whole = sym (append-nil d) }

pub then_ : {d e f : List Phrase} → AreFirst d e → AreFirst e f → AreFirst d f
then_ {d = d} first second = record {
  later = first.later ++ second.later;
  whole = second.whole ∙ (ap (λ x. x ++ second.later) first.whole ∙ append_assoc d first.later second.later);
}

-- one more
pub one : (d : List Phrase) (a : Around) (n : Node) → AreFirst d (add d a n)
one d a n = record { later = phrase (length d) a n ∷ []; whole = refl }

pub each : {X : Type 0} (step : List Phrase → X → List Phrase) → ((d : List Phrase) (x : X) → AreFirst d (step d x)) → (d : List Phrase) (xs : List X) → AreFirst d (gathered_each step d xs)
each step steps d [] = no_step d
each step steps d (x ∷ xs) = then_ (steps d x) (each step steps (step d x) xs)

pub any : {X : Type 0} (step : List Phrase → X → List Phrase) → ((d : List Phrase) (x : X) → AreFirst d (step d x)) → (d : List Phrase) (o : Option X) → AreFirst d (gathered_any step d o)
any step steps d None = no_step d
any step steps d (Some x) = steps d x

at_end : (d : List Phrase) (p : Phrase) (later : List Phrase) → slice_get (d ++ (p ∷ later)) (length d) ≡ Some p
at_end [] p later = refl
at_end (x ∷ d) p later = at_end d p later

among_end : (d : List Phrase) (p : Phrase) (later : List Phrase) → IsAmong p (d ++ (p ∷ later))
among_end [] p later = inl refl
among_end (x ∷ d) p later = inr (among_end d p later)

-- a phrase that was added is at its number
pub there : (ps d : List Phrase) (a : Around) (n : Node) → AreFirst (add d a n) ps → slice_get ps (length d) ≡ Some (phrase (length d) a n)
there ps d a n first =
    ap (λ xs. slice_get xs (length d)) (first.whole ∙ append_assoc d (phrase (length d) a n ∷ []) first.later) ∙ at_end d (phrase (length d) a n) first.later

-- and among all
pub among : (ps d : List Phrase) (a : Around) (n : Node) → AreFirst (add d a n) ps → IsAmong (phrase (length d) a n) ps
among ps d a n first =
    subst (λ (xs : List Phrase). IsAmong (phrase (length d) a n) xs) (sym (first.whole ∙ append_assoc d (phrase (length d) a n ∷ []) first.later)) (among_end d (phrase (length d) a n) first.later)
