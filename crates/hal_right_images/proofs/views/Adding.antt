-- Code that is emitted behind other code, each of whose instructions is so.
use Rattle.std.proofs.Common.{◌≡◌, Bool, true, false, List, [], ◌∷◌, ◌++◌, Option, Some, None, Ok, Err, if◌then◌else◌, refl, sym, ap, ◌∙◌, append_assoc, append-nil}
use Rattle.hal_base.specs.declared.refusal.Place.{Place}
use Rattle.hal_code.specs.declared.instr.Instr.{Instr}
use Rattle.hal_gen_expr.specs.Emitting.{Emitted, onwards, emit}
use Rattle.hal_gen_expr.specs.ExpressionCode.{emit_one, emit_any, behind_arguments}
use Rattle.hal_fit_calls.specs.Each.{Each}
use Rattle.hal_fit_calls.proofs.Each.{each_append}

module _ (P : Instr → Type 0) where
  -- so many more instructions stand behind those before, and each of them is so
  pub record Adds (before after : List Instr) : Type 0 where
    pub more : List Instr
    pub is : after ≡ before ++ more
    pub each : Each P more

  -- what is emitted adds such instructions, where anything is
  abbrev pub Gives : List Instr → Emitted → Type 0
  Gives before (Ok after) = Adds before after
  Gives before (Err place) = Unit {0}

  pub none_more : (before : List Instr) → Adds before before
  none_more before = record { more = []; is = sym (append-nil before); each = tt }

  pub some_more : (before is : List Instr) → Each P is → Adds before (before ++ is)
  some_more before is each = record { more = is; is = refl; each = each }

  pub both_add : (before middle after : List Instr) → Adds before middle → Adds middle after → Adds before after
  both_add before middle after first second = record {
    more = first.more ++ second.more;
    is = second.is ∙ (ap (λ l. l ++ second.more) first.is ∙ append_assoc before first.more second.more);
    each = each_append P first.more second.more first.each second.each;
  }

  pub emit_gives : (before : List Instr) (place : Place) (o : Option (List Instr)) → ((is : List Instr) → o ≡ Some is → Each P is) → Gives before (emit before place o)
  emit_gives before place None each = tt
  emit_gives before place (Some is) each = some_more before is (each is refl)

  pub one_gives : (before : List Instr) (place : Place) (i : Instr) → P i → Gives before (emit_one before place i)
  one_gives before place i is = some_more before (i ∷ []) (is, tt)

  pub any_gives : (before : List Instr) (place : Place) (o : Option Instr) → ((i : Instr) → o ≡ Some i → P i) → Gives before (emit_any before place o)
  any_gives before place None is = tt
  any_gives before place (Some i) is = some_more before (i ∷ []) (is i refl, tt)

  pub then_gives : (before : List Instr) (r : Emitted) (next : List Instr → Emitted) → Gives before r → ((middle : List Instr) → Gives middle (next middle)) → Gives before (onwards r next)
  then_gives before (Err place) next first second = tt
  then_gives before (Ok middle) next first second = by (next middle) (second middle) where
    by : (r : Emitted) → Gives middle r → Gives before r
    by (Ok after) more = both_add before middle after first more
    by (Err place) more = tt

  -- behind some more
  pub behind_gives : (before is : List Instr) (r : Emitted) → Each P is → Gives (before ++ is) r → Gives before r
  behind_gives before is (Ok after) each rest = both_add before (before ++ is) after (some_more before is each) rest
  behind_gives before is (Err place) each rest = tt

  pub if_gives : (b : Bool) (before : List Instr) (r : Emitted) (place : Place) → Gives before r → Gives before (if b then r else Err place)
  if_gives true before r place gives = gives
  if_gives false before r place gives = tt

  pub either_gives : (b : Bool) (before : List Instr) (r other : Emitted) → Gives before r → Gives before other → Gives before (if b then r else other)
  either_gives true before r other first second = first
  either_gives false before r other first second = second

  pub call_gives : (before : List Instr) (place : Place) (r : Emitted) (o : Option (List Instr)) → Gives before r → ((is : List Instr) → o ≡ Some is → Each P is) → Gives before (behind_arguments place r o)
  call_gives before place r None first each = tt
  call_gives before place r (Some is) first each = then_gives before r (λ middle. Ok (middle ++ is)) first (λ middle. some_more middle is (each is refl))

  -- the code alone, where nothing comes behind it
  pub alone_gives : (before : List Instr) (r : Emitted) → Gives before (onwards r (λ middle. Ok middle)) → Gives before r
  alone_gives before (Ok after) gives = gives
  alone_gives before (Err place) gives = tt
