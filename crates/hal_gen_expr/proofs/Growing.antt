-- Code that grows: where an instruction that was put behind it stands.
use Rattle.std.specs.Prelude.{◌≡◌, ℕ, suc, List, [], ◌∷◌, ◌++◌, length, Option, Some, None, slice_get, Ok, Err}
use Rattle.std.proofs.Common.{refl, sym, ap, subst, ◌∙◌}
use Rattle.hal_base.specs.declared.refusal.Place.{Place}
use Rattle.hal_code.specs.declared.instr.Instr.{Instr}
use Rattle.hal_agreement.specs.Codes.{Code}
use Rattle.hal_agreement.specs.PlacedExpressions.{Has, One}
use Rattle.hal_gen_expr.specs.Standing.{Begins, Placed}
use Rattle.hal_gen_expr.specs.Emitting.{Emitted, onwards, emit}

pub append_append : {X : Type 0} (xs ys zs : List X) → (xs ++ ys) ++ zs ≡ xs ++ (ys ++ zs)
append_append [] ys zs = refl
append_append (x ∷ xs) ys zs = ap (λ l. x ∷ l) (append_append xs ys zs)

pub at_end : (before : List Instr) (i : Instr) (rest : List Instr) → slice_get (before ++ (i ∷ rest)) (length before) ≡ Some i
at_end [] i rest = refl
at_end (x ∷ before) i rest = at_end before i rest

pub length_of_one_more : {X : Type 0} (xs : List X) (x : X) → length (xs ++ (x ∷ [])) ≡ suc (length xs)
length_of_one_more [] x = refl
length_of_one_more (y ∷ xs) x = ap suc (length_of_one_more xs x)

pub one_by_one : (before : List Instr) (i : Instr) (is : List Instr) → before ++ (i ∷ is) ≡ (before ++ (i ∷ [])) ++ is
one_by_one before i is = sym (append_append before (i ∷ []) is)

module _ (code : Code) where
  -- less is known of it
  pub weaker : {A B : ℕ → ℕ → Type 0} (before after : List Instr) → ((from to : ℕ) → A from to → B from to) → Placed code before after A → Placed code before after B
  weaker before after each is = record { at = each (length before) (length after) is.at; begins = is.begins }

  pub begins_before : (before is : List Instr) → Begins (before ++ is) code.image.code → Begins before code.image.code
  begins_before before is begins = record { more = is ++ begins.more; is = begins.is ∙ append_append before is begins.more }

  pub has_there : (before : List Instr) (i : Instr) → Begins (before ++ (i ∷ [])) code.image.code → Has code (length before) i
  has_there before i begins =
      subst (λ all. slice_get all (length before) ≡ Some i) (sym (begins.is ∙ append_append before (i ∷ []) begins.more)) (at_end before i begins.more)

  -- one instruction
  pub one_placed : (before after : List Instr) (i : Instr) → before ++ (i ∷ []) ≡ after → Begins after code.image.code → Placed code before after (λ from to. One code from i to)
  one_placed before after i is begins =
      let grown = subst (λ l. Begins l code.image.code) (sym is) begins in
      record { at = (has_there before i grown, sym (length_of_one_more before i) ∙ ap length is); begins = begins_before before (i ∷ []) grown }

  -- no instruction
  pub none_placed : (before after : List Instr) → before ≡ after → Begins after code.image.code → Placed code before after (λ from to. from ≡ to)
  none_placed before after is begins = record { at = ap length is; begins = subst (λ l. Begins l code.image.code) (sym is) begins }

  -- one instruction with more behind it
  pub first_placed : {B : ℕ → ℕ → Type 0} (before after : List Instr) (i : Instr) → Placed code (before ++ (i ∷ [])) after B
      → Placed code before after (λ from to. Has code from i × B (suc from) to)
  first_placed {B} before after i rest =
      record {
        at = (has_there before i rest.begins, subst (λ from. B from (length after)) (length_of_one_more before i) rest.at);
        begins = begins_before before (i ∷ []) rest.begins;
      }

  -- two phrases, one after the other
  pub both_there : {A B : ℕ → ℕ → Type 0} (r : Emitted) (next : List Instr → Emitted) (before after : List Instr) → onwards r next ≡ Ok after
      → ((middle : List Instr) → r ≡ Ok middle → Begins middle code.image.code → Placed code before middle A)
      → ((middle : List Instr) → r ≡ Ok middle → next middle ≡ Ok after → Placed code middle after B) → Placed code before after (λ from to. (middle : ℕ) × A from middle × B middle to)
  both_there (Ok middle) next before after is first second =
      let late = second middle refl is in
      let early = first middle refl late.begins in
      record { at = (length middle, early.at, late.at); begins = early.begins }
  both_there (Err place) next before after is first second = absurd (cc)

  pub both_placed : {A B : ℕ → ℕ → Type 0} (r : Emitted) (next : List Instr → Emitted) (before after : List Instr) → onwards r next ≡ Ok after
      → ((middle : List Instr) → r ≡ Ok middle → Begins middle code.image.code → Placed code before middle A) → ((middle : List Instr) → next middle ≡ Ok after → Placed code middle after B)
      → Placed code before after (λ from to. (middle : ℕ) × A from middle × B middle to)
  both_placed r next before after is first second = both_there r next before after is first (λ middle there. second middle)

-- what is emitted, where anything is
pub emitted : (before : List Instr) (place : Place) (o : Option (List Instr)) (after : List Instr) → emit before place o ≡ Ok after → (is : List Instr) × (o ≡ Some is) × (before ++ is ≡ after)
emitted before place None after h = absurd (cc)
emitted before place (Some is) after h = (is, refl, cc)
