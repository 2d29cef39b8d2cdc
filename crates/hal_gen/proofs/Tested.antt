-- Instructions that are put one behind the other.
use Rattle.std.specs.Prelude.{◌≡◌, List, [], ◌∷◌, ◌++◌}
use Rattle.std.proofs.Common.{◌∙◌}
use Rattle.hal_code.specs.declared.instr.Instr.{Instr}
use Rattle.hal_gen_expr.proofs.Growing.{one_by_one}

pub five_in_a_row : (before : List Instr) (a b c d e : Instr)
    → before ++ (a ∷ b ∷ c ∷ d ∷ e ∷ []) ≡ ((((before ++ (a ∷ [])) ++ (b ∷ [])) ++ (c ∷ [])) ++ (d ∷ [])) ++ (e ∷ [])
five_in_a_row before a b c d e =
    one_by_one before a (b ∷ c ∷ d ∷ e ∷ []) ∙ one_by_one (before ++ (a ∷ [])) b (c ∷ d ∷ e ∷ []) ∙ one_by_one ((before ++ (a ∷ [])) ++ (b ∷ [])) c (d ∷ e ∷ [])
    ∙ one_by_one (((before ++ (a ∷ [])) ++ (b ∷ [])) ++ (c ∷ [])) d (e ∷ [])

pub six_in_a_row : (before : List Instr) (a b c d e f : Instr)
    → before ++ (a ∷ b ∷ c ∷ d ∷ e ∷ f ∷ []) ≡ (((((before ++ (a ∷ [])) ++ (b ∷ [])) ++ (c ∷ [])) ++ (d ∷ [])) ++ (e ∷ [])) ++ (f ∷ [])
six_in_a_row before a b c d e f =
    one_by_one before a (b ∷ c ∷ d ∷ e ∷ f ∷ []) ∙ one_by_one (before ++ (a ∷ [])) b (c ∷ d ∷ e ∷ f ∷ []) ∙ one_by_one ((before ++ (a ∷ [])) ++ (b ∷ [])) c (d ∷ e ∷ f ∷ [])
    ∙ one_by_one (((before ++ (a ∷ [])) ++ (b ∷ [])) ++ (c ∷ [])) d (e ∷ f ∷ []) ∙ one_by_one ((((before ++ (a ∷ [])) ++ (b ∷ [])) ++ (c ∷ [])) ++ (d ∷ [])) e (f ∷ [])

pub three_in_a_row : (before : List Instr) (a b c : Instr) → before ++ (a ∷ b ∷ c ∷ []) ≡ ((before ++ (a ∷ [])) ++ (b ∷ [])) ++ (c ∷ [])
three_in_a_row before a b c = one_by_one before a (b ∷ c ∷ []) ∙ one_by_one (before ++ (a ∷ [])) b (c ∷ [])
