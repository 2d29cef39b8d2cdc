-- Whether a part is at the bottom, by the part behind it.
use Rattle.std.proofs.Common.{◌≡◌, ◌<◌, ℕ, nat_le, List, [], ◌∷◌, length, map, get_or, ap, arith}
use Rattle.hal_tree.specs.declared.declaration.Part.{Part}
use Rattle.hal_tree.specs.SeenDeclarations.{seen_part}
use Rattle.hal_phrases.specs.GatheredDeclarations.{is_bottom}

pub bottom_got : (level : ℕ) (xs : List Part) (x : Part) → 0 < length xs → x ≡ get_or xs 0 x → nat_le x.level level ≡ is_bottom level (map seen_part xs)
unfolding is_bottom seen_part
bottom_got level [] x some is = absurd (omega (arith, some))
bottom_got level (y ∷ ys) x some is = ap (λ (part : Part). nat_le part.level level) is
