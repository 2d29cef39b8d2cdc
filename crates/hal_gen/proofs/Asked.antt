-- What is asked of processes that are named, one by one.
use Rattle.std.specs.Prelude.{ℕ, suc, ◌==◌, false, List, [], ◌∷◌, ◌++◌, length, map, Option, Some, None, Result, Ok}
use Rattle.std.specs.Option.{option_map}
use Rattle.std.proofs.Common.{◌≡◌, refl, sym, ap, subst, ◌∙◌, append-nil, append_assoc}
use Rattle.hal_base.specs.declared.refusal.Place.{Place}
use Rattle.hal_grammar.specs.Leaves.{Naming}
use Rattle.hal_code.specs.declared.instr.Instr.{Instr}
use Rattle.hal_agreement.specs.Sites.{Site}
use Rattle.hal_gen_expr.specs.declared.uncoded.Uncoded.{Uncoded}
use Rattle.hal_gen_expr.specs.Emits.{Emits}
use Rattle.hal_gen_expr.specs.Emitting.{Emitted, onwards, emit}
use Rattle.hal_gen.specs.Leaves.{named_process, and_asked, each_of, named_or_own_of}
use Rattle.hal_gen.specs.Pausing.{each_code}

pub processes_counted : {X Y : Type 0} (f : X → Y) (xs : List X) → length (map f xs) ≡ length xs
processes_counted f [] = refl
processes_counted f (x ∷ xs) = ap suc (processes_counted f xs)

-- one more before others
before_others : (before : List Instr) (place : Place) (i : Instr) (others : Option (List Instr))
    → emit (before ++ (i ∷ [])) place others ≡ emit before place (option_map (λ is. i ∷ is) others)
before_others before place i None = refl
before_others before place i (Some is) = ap Ok (append_assoc before (i ∷ []) is)

one_asked : (asks : ℕ → Instr) (before : List Instr) (place : Place) (number : Option ℕ) (others : Option (List Instr)) (next : List Instr → Emitted)
    → ((middle : List Instr) → next middle ≡ emit middle place others)
    → onwards (emit before place (option_map (λ p. asks p ∷ []) number)) next ≡ emit before place (and_asked asks number others)
one_asked asks before place None others next same = refl
one_asked asks before place (Some p) others next same = same (before ++ (asks p ∷ [])) ∙ before_others before place (asks p) others

module _ (site : Site) (place : Place) (asks : ℕ → Instr) where
  each_by : (before : List Instr) (names : List Naming) → each_code site before place asks names ≡ emit before place (each_of site asks names)
  unfolding each_code
  each_by before [] = ap Ok (sym (append-nil before))
  each_by before (name ∷ names) =
      one_asked asks before place (named_process site name) (each_of site asks names) (λ middle. each_code site middle place asks names) (λ middle. each_by middle names)

-- of any processes, where some are named
module _ {X : Type 0} (f : X → Naming) (site : Site) (place : Place) (asks : ℕ → Instr) where
  pub all_asked : {T : Type 0} (before : List Instr) (xs : List X) (r : Result T Uncoded) (code : List Instr) → (length xs == 0) ≡ false
      → Emits (each_code site before place asks (map f xs)) r code → Emits (emit before place (named_or_own_of site asks (map f xs))) r code
  all_asked before [] r code some there = absurd (cc)
  all_asked before (x ∷ xs) r code some there = subst (λ wanted. Emits wanted r code) (each_by site place asks before (f x ∷ map f xs)) there
