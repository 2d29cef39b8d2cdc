-- The built-in functions.
use Rattle.std.specs.Prelude.{ℕ, List, [], ◌∷◌, codes, Option}
use Rattle.hal_words.specs.Reserved.{look_up}
use Rattle.hal_scope.specs.declared.builtin.Builtin.{Builtin}
use Rattle.hal_scope.specs.declared.builtin.Builtin.TheVariants as builtin
use Rattle.hal_scope.specs.declared.builtin.Form.{Form}
use Rattle.hal_scope.specs.declared.builtin.Form.TheVariants as form

-- how they are named: without a list of arguments, with whole arrays as arguments, or with a list
abbrev pub form_of : Builtin → Form
form_of builtin.Errgrp = form.Alone
form_of builtin.Errnum = form.Alone
form_of builtin.Runtime = form.Alone
form_of builtin.Max = form.Arrayed
form_of builtin.Min = form.Arrayed
form_of builtin.Prod = form.Arrayed
form_of builtin.Sum = form.Arrayed
form_of other = form.Listed

-- their names
unfoldable pub builtins : List (List ℕ × Builtin)
builtins =
    (codes "ABS", builtin.Abs) ∷ (codes "DIV", builtin.Div) ∷ (codes "INDEX", builtin.Index) ∷ (codes "LENGTH", builtin.Length) ∷ (codes "LJUST", builtin.Ljust)
    ∷ (codes "MOD", builtin.Mod) ∷ (codes "ODD", builtin.Odd) ∷ (codes "REMAINDER", builtin.Remainder) ∷ (codes "RJUST", builtin.Rjust) ∷ (codes "SHL", builtin.Shl)
    ∷ (codes "SHR", builtin.Shr) ∷ (codes "SIGNUM", builtin.Signum) ∷ (codes "SIZE", builtin.Size) ∷ (codes "TRIM", builtin.Trim) ∷ (codes "XOR", builtin.Xor)
    ∷ (codes "ERRGRP", builtin.Errgrp) ∷ (codes "ERRNUM", builtin.Errnum) ∷ (codes "RUNTIME", builtin.Runtime)
    ∷ (codes "MAX", builtin.Max) ∷ (codes "MIN", builtin.Min) ∷ (codes "PROD", builtin.Prod) ∷ (codes "SUM", builtin.Sum) ∷ []

-- the built-in function of this name
abbrev pub builtin_named : List ℕ → Option Builtin
builtin_named name = look_up builtins name
