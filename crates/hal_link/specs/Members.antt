-- The code of a unit's statements, as the program's trees list what stands in a unit.
use Rattle.std.specs.Prelude.{ℕ, ◌+◌, List, [], ◌∷◌, Ok}
use Rattle.hal_tree.specs.Rows.{Member, OfStatement, OfBlock}
use Rattle.hal_code.specs.declared.instr.Instr.{Instr}
use Rattle.hal_meaning.specs.Marks.{after_statement}
use Rattle.hal_agreement.specs.PlacedStatements.{Exits}
use Rattle.hal_agreement.specs.Sites.{Site}
use Rattle.hal_gen_expr.specs.Emitting.{Emitted, onwards}
use Rattle.hal_gen_expr.specs.Numbering.{Numbering}
use Rattle.hal_gen.specs.Sizes.{statement_size}
use Rattle.hal_gen.specs.StatementCode.{direct_code}

-- a unit inside has none of its own
abbrev pub member_code : Numbering → Site → List Instr → Exits → ℕ → Member → Emitted
member_code n site before exits m (OfStatement statement) = direct_code n site before exits m statement
member_code n site before exits m (OfBlock block) = Ok before

abbrev pub after_member : ℕ → Member → ℕ
after_member m (OfStatement statement) = after_statement m statement
after_member m (OfBlock block) = m

abbrev pub member_size : Numbering → Site → ℕ → Member → ℕ
member_size n site m (OfStatement statement) = statement_size n site m statement
member_size n site m (OfBlock block) = 0

unfoldable pub members_code : Numbering → Site → List Instr → Exits → ℕ → List Member → Emitted
members_code n site before exits m [] = Ok before
members_code n site before exits m (x ∷ xs) = onwards (member_code n site before exits m x) (λ middle. members_code n site middle exits (after_member m x) xs)

-- so many instructions, and those of members
unfoldable pub with_members : Numbering → Site → ℕ → ℕ → List Member → ℕ
with_members n site m size [] = size
with_members n site m size (x ∷ xs) = with_members n site (after_member m x) (size + member_size n site m x) xs
