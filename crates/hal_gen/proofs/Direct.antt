-- Statements directly in a block's body: ON ERROR with a statement, and all others.
use Rattle.std.specs.Prelude.{ℕ, suc, List, map, length, Box, Result, Ok}
use Rattle.std.specs.declared.alloc.Global.{Global}
use Rattle.std.proofs.Common.{rules, ◌≡◌, refl, sym, ap, ◌∙◌, subst}
use Rattle.hal_base.specs.declared.refusal.Place.{Place}
use Rattle.hal_grammar.specs.Leaves.{Naming}
use Rattle.hal_grammar.specs.Statements as plain
use Rattle.hal_tree.specs.declared.statement.Selector.{Selector}
use Rattle.hal_tree.specs.declared.statement.Statement.{Statement}
use Rattle.hal_tree.specs.declared.statement.Group.{Group}
use Rattle.hal_tree.specs.declared.statement.Basic.{Basic, the_lemmas, out-Basic, roll-Basic}
use Rattle.hal_tree.specs.declared.statement.Basic.TheVariants as basic
use Rattle.hal_tree.specs.declared.statement.Basic.TheOpen.{Basic-F}
use Rattle.hal_tree.specs.SeenStatements.{seen_basic, seen_group, seen_statement}
use Rattle.hal_code.specs.declared.instr.Instr.{Instr}
use Rattle.hal_agreement.specs.PlacedStatements.{Exits}
use Rattle.hal_agreement.specs.Sites.{Site}
use Rattle.hal_gen_expr.specs.declared.uncoded.Uncoded.{Uncoded}
use Rattle.hal_gen_expr.specs.Emits.{Emits}
use Rattle.hal_gen_expr.specs.Emitting.{emit}
use Rattle.hal_gen_expr.specs.Numbering.{Numbering}
use Rattle.hal_gen.specs.Leaves.{handler_code}
use Rattle.hal_gen.specs.Sizes.{statement_size}
use Rattle.hal_gen.specs.StatementCode.{statement_code, basic_code, direct_code}

rolled : (tree : Basic) → roll-Basic (out-Basic tree) ≡ tree
rolled tree = search (rules, the_lemmas)

handling : (place : Place) (selector : Selector) (handler : Box Statement Global) → roll-Basic (Basic-F.OnErrorStatement place selector handler) ≡ basic.OnErrorStatement place selector handler
handling place selector handler = search (rules, the_lemmas)

-- what is no ON ERROR with a statement is seen as none
other_seen : (tree : Basic-F Basic Group Statement) → ((place : Place) (selector : Selector) (handler : Box Statement Global) → tree ≡ Basic-F.OnErrorStatement place selector handler → ⊥)
    → (place : Place) (selector : plain.Selector) (handler : plain.Statement) → seen_basic (roll-Basic tree) ≡ plain.OnErrorStatement place selector handler → ⊥
unfolding seen_basic seen_group seen_statement
other_seen (Basic-F.OnErrorStatement place selector handler) never at s one is = absurd (never place selector handler refl)
other_seen tree never at s one is = search (rules, the_lemmas, is)

module _ (n : Numbering) (site : Site) (before : List Instr) (exits : Exits) (m : ℕ) (labels : List Naming) where
  as_basic : (b : plain.Basic) → ((place : Place) (selector : plain.Selector) (handler : plain.Statement) → b ≡ plain.OnErrorStatement place selector handler → ⊥)
      → direct_code n site before exits m (plain.Labelled labels b) ≡ basic_code n site before exits m labels b
  as_basic (plain.OnErrorStatement place selector handler) never = absurd (never place selector handler refl)
  as_basic other never = refl

  -- all others have the code that they have anywhere
  pub as_anywhere : (tree : Basic) → ((place : Place) (selector : Selector) (handler : Box Statement Global) → tree ≡ basic.OnErrorStatement place selector handler → ⊥)
      → direct_code n site before exits m (plain.Labelled labels (seen_basic tree)) ≡ basic_code n site before exits m labels (seen_basic tree)
  as_anywhere tree never = as_basic (seen_basic tree) (λ place selector handler is.
      other_seen (out-Basic tree) (λ at s one same. never at s one (sym (rolled tree) ∙ ap roll-Basic same ∙ handling at s one))
      place selector handler (ap seen_basic (rolled tree) ∙ is))

  pub handled : {T : Type 0} (begun code : List Instr) (r : Result T Uncoded) (place : Place) (selector : plain.Selector) (handler : plain.Statement)
      → emit before place (handler_code selector (length before) (statement_size n site (suc m) handler)) ≡ Ok begun
      → Emits (statement_code n site begun exits (suc m) handler) r code
      → Emits (direct_code n site before exits m (plain.Labelled labels (plain.OnErrorStatement place selector handler))) r code
  handled begun code r place selector handler first second = rw first second
