-- DO FOR, whose parts have code.
use Rattle.std.specs.Prelude.{ℕ, suc, ◌+◌, Bool, List, [], ◌∷◌, ◌++◌, length, Option, Some, Result, Ok}
use Rattle.std.proofs.Common.{◌≡◌, sym, subst}
use Rattle.hal_base.specs.declared.refusal.Place.{Place}
use Rattle.hal_grammar.specs.Leaves.{Naming}
use Rattle.hal_grammar.specs.Statements.{Guard, Span, DoFor, Group}
use Rattle.hal_code.specs.declared.instr.Instr.{Instr}
use Rattle.hal_code.specs.declared.instr.Instr.TheVariants as instr
use Rattle.hal_agreement.specs.PlacedStatements.{Exits, opened, within_group}
use Rattle.hal_agreement.specs.Sites.{Site, group_site}
use Rattle.hal_gen_expr.specs.declared.uncoded.Uncoded.{Uncoded}
use Rattle.hal_gen_expr.specs.Emits.{Emits}
use Rattle.hal_gen_expr.specs.Emitting.{Emitted, onwards}
use Rattle.hal_gen_expr.specs.Numbering.{Numbering}
use Rattle.hal_gen.specs.declared.kept.Cells.{Cells}
use Rattle.hal_gen.specs.KeptCode.{cells_of}
use Rattle.hal_gen.specs.Sizes.{spanned_size, group_size}
use Rattle.hal_gen.specs.StatementCode.{span_start_code, span_end_code, spanned_code, with_cells, basic_code, group_code}

module _ {T : Type 0} (n : Numbering) (site : Site) (before tested middle code : List Instr) (exits : Exits) (labels : List Naming) (r : Result T Uncoded) (place : Place) (name : List ℕ) (c : Cells) (span : Span) (g : Option Guard) (size : ℕ)
    (group : List Instr → Exits → Emitted) where
  abbrev turns : ℕ → List Instr → Emitted
  turns exit start =
      onwards (group (start ++ (instr.Turn exit ∷ [])) (within_group (opened labels exit (Some (suc (length start) + size))) exits)) (λ late. span_end_code n site late place name c exit span g (length start))

  pub ranged : (exit : ℕ) → exit ≡ length before + spanned_size n site span g size → span_start_code n site before place name c exit span g ≡ Ok tested
      → group (tested ++ (instr.Turn exit ∷ [])) (within_group (opened labels exit (Some (suc (length tested) + size))) exits) ≡ Ok middle
      → Emits (span_end_code n site middle place name c exit span g (length tested)) r code → Emits (spanned_code n site before exits labels place name c span g size group) r code
  ranged exit same first second third =
      subst (λ e. Emits (onwards (span_start_code n site before place name c e span g) (λ start. turns e start)) r code) same
      (subst (λ one. Emits (onwards one (λ start. turns exit start)) r code) (sym first)
      (subst (λ two. Emits (onwards two (λ late. span_end_code n site late place name c exit span g (length tested))) r code) (sym second) third))

-- at the site of its group
pub at_its_group : {T : Type 0} (n given : Numbering) (site inner : Site) (before code : List Instr) (exits : Exits) (m next : ℕ) (labels : List Naming) (r : Result T Uncoded) (place : Place) (temporary : Bool) (variable : Naming) (span : Span)
    (g : Option Guard) (group : Group) (c : Cells) → given ≡ n → inner ≡ group_site site temporary m → next ≡ suc m → cells_of n site temporary m ≡ Some c
    → Emits (spanned_code given inner before exits labels place variable.name c span g (group_size given inner next group) (λ start within. group_code given inner start within next group)) r code
    → Emits (basic_code n site before exits m labels (DoFor place temporary variable span g group)) r code
at_its_group n given site inner before code exits m next labels r place temporary variable span g group c same there following cells emits =
    let one = subst (λ k. Emits (spanned_code k inner before exits labels place variable.name c span g (group_size k inner next group) (λ start within. group_code k inner start within next group)) r code) same emits in
    let two = subst (λ s. Emits (spanned_code n s before exits labels place variable.name c span g (group_size n s next group) (λ start within. group_code n s start within next group)) r code) there one in
    let within = group_site site temporary m in
    let three = subst (λ k. Emits (spanned_code n within before exits labels place variable.name c span g (group_size n within k group) (λ start exits_there. group_code n within start exits_there k group)) r code) following two in
    subst (λ o. Emits (with_cells place o (λ own. spanned_code n within before exits labels place variable.name own span g (group_size n within (suc m) group) (λ start exits_there. group_code n within start exits_there (suc m) group))) r code)
    (sym cells) three
