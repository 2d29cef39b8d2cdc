-- Lists that are parted by commas.
use Rattle.std.proofs.Common.{◌<◌, List, [], ◌∷◌, length, ap, ap₂, arith}
use Rattle.hal_grammar.specs.Words.{Words}
use Rattle.hal_grammar.specs.GoesOn.{Outcome}
use Rattle.hal_grammar.specs.SpellsDeclarations.{Parted, last, more}
use Rattle.hal_grammar.proofs.Outcomes.{back, made, until, longer_left, longer_right, tail_same}

-- of such phrases each one takes a word
abbrev pub TakesWord : {X : Type 0} → (X → Words → Words → Type 0) → Type 0
TakesWord {X = X} R = (x : X) (b a : Words) → R x b a → length a < length b

-- such phrases go on with words that are stronger than a comma alone
abbrev pub IsOne : {X : Type 0} → (X → Words → Words → Type 0) → Type 0
IsOne {X = X} R = (x y : X) (b a c : Words) → R x b a → R y b c → Outcome 1 x a y c

pub parted_shorter : {X : Type 0} {R : X → Words → Words → Type 0} → TakesWord R → {xs : List X} {b a : Words} → Parted R xs b a → length a < length b
parted_shorter takes (last d) = takes _ _ _ d
parted_shorter takes (more d ds) = omega (arith, takes _ _ _ d, parted_shorter takes ds)

pub one_parted : {X : Type 0} {R : X → Words → Words → Type 0} → TakesWord R → IsOne R → {xs ys : List X} {b a c : Words} → Parted R xs b a → Parted R ys b c →
    Outcome 0 xs a ys c
one_parted takes one (last d) (last e) = made (omega arith) (λ r. ap (λ x. x ∷ []) r) (one _ _ _ _ _ d e)
one_parted takes one (last d) (more e es) = longer_right (one _ _ _ _ _ d e) (omega arith) (omega arith) (omega (arith, parted_shorter takes es))
one_parted takes one (more d ds) (last e) = longer_left (one _ _ _ _ _ d e) (omega arith) (omega arith) (omega (arith, parted_shorter takes ds))
one_parted {R = R} takes one (more d ds) (more e es) =
    let r = until (one _ _ _ _ _ d e) (omega arith) (omega arith) in
    made (omega arith) (λ s. ap₂ ◌∷◌ r.0 s) (one_parted takes one ds (back (Parted R) (tail_same r.1) es))
