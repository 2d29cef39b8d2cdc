-- The stores of receivers one by one.
use Rattle.std.specs.Prelude.{◌==◌, false, List, [], ◌∷◌, ◌++◌, length, map, Result, Ok, Err, not, Bool}
use Rattle.std.proofs.Common.{rules, ◌≡◌, refl, subst, sym, ap, ◌∙◌}
use Rattle.hal_base.specs.declared.refusal.Place.{Place}
use Rattle.hal_grammar.specs.Expressions.{Reference}
use Rattle.hal_code.specs.declared.instr.Instr.{Instr}
use Rattle.hal_code.specs.declared.instr.Instr.TheVariants as instr
use Rattle.hal_agreement.specs.Sites.{Site}
use Rattle.hal_gen_expr.specs.declared.uncoded.Uncoded.{Uncoded}
use Rattle.hal_gen_expr.specs.Emits.{Emits}
use Rattle.hal_gen_expr.specs.Emitting.{Emitted, onwards}
use Rattle.hal_gen_expr.specs.Leaves.{is_nil}
use Rattle.hal_gen_expr.specs.Numbering.{Numbering}
use Rattle.hal_gen.specs.Receiving.{receiver_code}
use Rattle.hal_gen.specs.StatementCode.{receivers_code}
use Rattle.hal_gen.specs.Storing.{next_code, stores_code}

-- nothing more
done : (r : Emitted) → onwards r (λ middle. Ok middle) ≡ r
done (Ok code) = refl
done (Err place) = refl

going_on : (r : Emitted) (one other : List Instr → Emitted) → ((middle : List Instr) → one middle ≡ other middle) → onwards r one ≡ onwards r other
going_on (Ok code) one other same = same code
going_on (Err place) one other same = refl

module _ (n : Numbering) (site : Site) (place : Place) where
  pub receivers_stored : (before : List Instr) (receiver : Reference) (receivers : List Reference)
      → stores_code n site before (receiver ∷ receivers) ≡ receivers_code n site before place (receiver ∷ receivers)
  unfolding stores_code
  receivers_stored before receiver [] = done (receiver_code n site before receiver)
  receivers_stored before receiver (next ∷ others) =
      going_on (receiver_code n site (before ++ (instr.Dup ∷ [])) receiver) (λ middle. stores_code n site middle (next ∷ others)) (λ middle. receivers_code n site middle place (next ∷ others))
      (λ middle. receivers_stored middle next others)

-- receivers go on behind the first one
is_last : {X : Type 0} (f : X → Reference) (xs : List X) → is_nil (map f xs) ≡ (length xs == 0)
is_last f [] = search rules
is_last f (x ∷ xs) = search rules

pub stored_split : {X : Type 0} (f : X → Reference) (n : Numbering) (site : Site) (before : List Instr) (x : X) (others rest : List X) (all : Emitted) → rest ≡ x ∷ others
    → stores_code n site before (map f rest) ≡ all → all ≡ onwards (next_code n site before (not (length others == 0)) (f x)) (λ middle. stores_code n site middle (map f others))
unfolding stores_code
stored_split f n site before x others rest all split kept =
    sym (sym (ap (λ (last : Bool). onwards (next_code n site before (not last) (f x)) (λ middle. stores_code n site middle (map f others))) (is_last f others))
    ∙ ap (λ xs. stores_code n site before (map f xs)) (sym split) ∙ kept)

pub stored_on : {X : Type 0} (f : X → Reference) (n : Numbering) (site : Site) (before after : List Instr) (x : X) (others rest : List X) (all : Emitted) → rest ≡ x ∷ others
    → next_code n site before (not (length others == 0)) (f x) ≡ Ok after → stores_code n site before (map f rest) ≡ all → stores_code n site after (map f others) ≡ all
stored_on f n site before after x others rest all split given kept =
    sym (stored_split f n site before x others rest all split kept ∙ ap (λ (e : Emitted). onwards e (λ middle. stores_code n site middle (map f others))) given)

-- of any receivers, where there are some
module _ {X : Type 0} (f : X → Reference) (n : Numbering) (site : Site) (place : Place) where
  pub all_stored : {T : Type 0} (before : List Instr) (xs : List X) (r : Result T Uncoded) (code : List Instr) → (length xs == 0) ≡ false
      → Emits (stores_code n site before (map f xs)) r code → Emits (receivers_code n site before place (map f xs)) r code
  all_stored before [] r code some there = absurd (cc)
  all_stored before (x ∷ xs) r code some there = subst (λ wanted. Emits wanted r code) (receivers_stored n site place before (f x) (map f xs)) there
