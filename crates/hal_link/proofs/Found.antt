-- The code of units and processes whose bodies were found.
use Rattle.std.specs.Prelude.{ℕ, List, Option, Some, Result}
use Rattle.std.proofs.Common.{◌≡◌, refl, sym, ap, subst, ◌∙◌}
use Rattle.hal_code.specs.declared.instr.Instr.{Instr}
use Rattle.hal_code.specs.declared.row.Block.{Block}
use Rattle.hal_meaning.specs.Bodies.{Body}
use Rattle.hal_meaning.specs.Places.{Place}
use Rattle.hal_meaning.specs.Runs.{places_of_process}
use Rattle.hal_meaning.specs.Sets.{Set, body_at}
use Rattle.hal_agreement.specs.Sites.{Site}
use Rattle.hal_gen_expr.specs.Numbering.{Numbering}
use Rattle.hal_link.specs.declared.unlinked.Unlinked.{Unlinked}
use Rattle.hal_link.specs.Finding.{site_with}
use Rattle.hal_link.specs.Linking.{Linked, Linking, with_process_at, with_process, with_unit_at, with_unit}
use Rattle.hal_link.specs.Links.{Links}

-- the code of a unit or a process that was found
module _ {T : Type 0} (s : Set) (n m : Numbering) (site : Site) (places : List Place) (body : Body) (p unit : ℕ) (so_far : Linked) (r : Result T Unlinked) (code : List Instr) (blocks : List Block) where
  found_linked : (linking : Set → Numbering → ℕ → Linked → Option Body → Linking) (at : Numbering → Site → ℕ → Linked → Body → Linking)
      → ((k : Numbering) (b : Body) → linking s k p so_far (Some b) ≡ at k (site_with s (places_of_process s p) b) p so_far b)
      → body_at s unit ≡ Some body → places ≡ places_of_process s p → site ≡ site_with s places body → m ≡ n → Links (at m site p so_far body) r code blocks → Links (linking s n p so_far (body_at s unit)) r code blocks
  found_linked linking at by found same here numbers there =
      subst (λ o. Links (linking s n p so_far o) r code blocks) (sym found)
      (subst (λ wanted. Links wanted r code blocks) (sym (by n body))
      (subst (λ k. Links (at k (site_with s (places_of_process s p) body) p so_far body) r code blocks) numbers
      (subst (λ one. Links (at m one p so_far body) r code blocks) (here ∙ ap (λ l. site_with s l body) same) there)))

  pub process_linked : body_at s unit ≡ Some body → places ≡ places_of_process s p → site ≡ site_with s places body → m ≡ n → Links (with_process_at m site p so_far body) r code blocks
      → Links (with_process s n p so_far (body_at s unit)) r code blocks
  process_linked = found_linked with_process with_process_at (λ k b. refl)

  pub unit_linked : body_at s unit ≡ Some body → places ≡ places_of_process s p → site ≡ site_with s places body → m ≡ n → Links (with_unit_at m site p so_far body) r code blocks
      → Links (with_unit s n p so_far (body_at s unit)) r code blocks
  unit_linked = found_linked with_unit with_unit_at (λ k b. refl)
