-- The part of a structure to which a path leads, and the parts below it.
use Rattle.std.specs.Prelude.{ℕ, suc, ◌==◌, nat_le, nat_lt, Bool, true, false, ◌&&◌, List, [], ◌∷◌, Option, Some, None, bytes_eq, if◌then◌else◌}
use Rattle.std.specs.Option.{option_and_then}
use Rattle.hal_grammar.specs.Leaves.{Naming}
use Rattle.hal_grammar.specs.Declarations.{Part}
use Rattle.hal_scope.specs.Uses.{is_nil}

-- whether a part has this level and name
abbrev pub is_named : ℕ → List ℕ → Part → Bool
is_named level name x = (x.level == level) && bytes_eq x.name.name name

-- the first of these parts with a level and a name, before one of a lower level, and the parts behind it
unfoldable pub found : ℕ → List ℕ → List Part → Option (Part × List Part)
found level name [] = None
found level name (x ∷ xs) = if nat_lt x.level level then None else if is_named level name x then Some (x, xs) else found level name xs

-- the part at the end of a path that begins at this level, and the parts behind it
unfoldable pub reached : ℕ → List Part → List Naming → Option (Part × List Part)
reached level parts [] = None
reached level parts (n ∷ ns) = option_and_then (λ (f : Part × List Part). if is_nil ns then Some f else reached (suc f.0.level) f.1 ns) (found level n.name parts)
