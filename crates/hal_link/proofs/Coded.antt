-- The statements of a unit, as the program's trees list them.
use Rattle.std.specs.Prelude.{ℕ, ◌+◌, List, [], ◌∷◌, map, Ok, Err}
use Rattle.std.proofs.Common.{◌≡◌, refl, arith}
use Rattle.hal_tree.specs.declared.unit.Unit.{Unit, out-Unit}
use Rattle.hal_tree.specs.Rows.{Member, OfStatement, OfBlock, elements}
use Rattle.hal_tree.specs.SeenUnits.{seen_element, seen_head, seen_unit}
use Rattle.hal_tree.proofs.MadeUnits.{parts_of_unit}
use Rattle.hal_code.specs.declared.instr.Instr.{Instr}
use Rattle.hal_meaning.specs.Bodies.{statements_of}
use Rattle.hal_meaning.specs.Marks.{after_statement}
use Rattle.hal_agreement.specs.PlacedStatements.{Exits}
use Rattle.hal_agreement.specs.Sites.{Site}
use Rattle.hal_gen_expr.specs.Emitting.{Emitted, onwards}
use Rattle.hal_gen_expr.specs.Numbering.{Numbering}
use Rattle.hal_gen.specs.Sizes.{statement_size, statements_size}
use Rattle.hal_gen.specs.StatementCode.{direct_code, block_code}
use Rattle.hal_storage.specs.sets.SeenBodies.{head_of, statements_in}
use Rattle.hal_link.specs.Members.{after_member, members_code, with_members}

onwards_same : (r : Emitted) (f g : List Instr → Emitted) → ((middle : List Instr) → f middle ≡ g middle) → onwards r f ≡ onwards r g
onwards_same (Ok middle) f g same = same middle
onwards_same (Err place) f g same = refl

module _ (n : Numbering) (site : Site) where
  pub members_coded : (before : List Instr) (exits : Exits) (m : ℕ) (xs : List Member) → members_code n site before exits m xs ≡ block_code n site before exits m (statements_of (elements xs))
  unfolding members_code elements
  members_coded before exits m [] = refl
  members_coded before exits m (OfStatement statement ∷ xs) =
      onwards_same (direct_code n site before exits m statement) _ _ (λ middle. members_coded middle exits (after_member m (OfStatement statement)) xs)
  members_coded before exits m (OfBlock block ∷ xs) = members_coded before exits m xs

  sized : (m size : ℕ) (xs : List Member) → with_members n site m size xs ≡ size + statements_size n site m (statements_of (elements xs))
  unfolding with_members elements
  sized m size [] = omega arith
  sized m size (OfStatement statement ∷ xs) = let later = sized (after_statement m statement) (size + statement_size n site m statement) xs in omega (arith, later)
  sized m size (OfBlock block ∷ xs) = let later = sized m (size + 0) xs in omega (arith, later)

  pub members_sized : (xs : List Member) → with_members n site 0 0 xs ≡ statements_size n site 0 (statements_of (elements xs))
  members_sized xs = let there = sized 0 0 xs in omega (arith, there)

-- what stands in a unit
pub statements_listed : (u : Unit) → statements_in (seen_unit u) ≡ statements_of (elements (map seen_element (out-Unit u).elements.items))
statements_listed u = rw (parts_of_unit u) refl

pub head_listed : (u : Unit) → head_of (seen_unit u) ≡ seen_head (out-Unit u).head
head_listed u = rw (parts_of_unit u) refl
