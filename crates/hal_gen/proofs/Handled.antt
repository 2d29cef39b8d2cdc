-- Where the statements of ON ERROR of a block stand: each of them has an address of its own, since the numbers of marks grow.
use Rattle.std.specs.Prelude.{◌≤◌, ℕ, suc, ◌+◌, ◌==◌, Bool, true, false, Option, Some, None, if◌then◌else◌}
use Rattle.std.proofs.Common.{◌≡◌, refl, sym, ap, ◌∙◌, arith, ne_eqb, eq-eqb}
use Rattle.hal_grammar.specs.Statements.{Statement, Labelled, Basic, If, Do, DoCase, DoLoop, DoFor, Scheduled, Cancel, Terminate, Wait, WaitUntil, WaitForDependent, WaitFor, UpdatePriority, Update, OnErrorStatement, Alternative, NoAlternative, Otherwise, Group, Groups, Statements, NoStatements, MoreStatements}
use Rattle.hal_meaning.specs.Marks.{after_statement, after_basic, after_alternative, after_group, after_statements, Handling, handling, handled_by, handling_in}
use Rattle.hal_agreement.specs.Sites.{Site}
use Rattle.hal_gen_expr.specs.Numbering.{Numbering}
use Rattle.hal_gen.specs.Sizes.{statement_size}

mutual
  statement_grows : (m : ℕ) (tree : Statement) → m ≤ after_statement m tree
  statement_grows m (Labelled labels basic) = basic_grows m basic

  basic_grows : (m : ℕ) (basic : Basic) → m ≤ after_basic m basic
  basic_grows m (If place condition consequence alternative) =
      let one = statement_grows m consequence in let two = alternative_grows (after_statement m consequence) alternative in omega (arith, one, two)
  basic_grows m (Do place group) = let one = group_grows (suc m) group in omega (arith, one)
  basic_grows m (DoCase place number alternative group) =
      let one = alternative_grows (suc m) alternative in let two = group_grows (after_alternative (suc m) alternative) group in omega (arith, one, two)
  basic_grows m (DoLoop place g group) = let one = group_grows (suc m) group in omega (arith, one)
  basic_grows m (DoFor place temporary variable span g group) = let one = group_grows (suc m) group in omega (arith, one)
  basic_grows m (Update place body close) = let one = list_grows (suc m) body in omega (arith, one)
  basic_grows m (OnErrorStatement place s handler) = let one = statement_grows (suc m) handler in omega (arith, one)
  basic_grows m (Scheduled place s) = omega arith
  basic_grows m (Cancel place names) = omega arith
  basic_grows m (Terminate place names) = omega arith
  basic_grows m (Wait place tree) = omega arith
  basic_grows m (WaitUntil place tree) = omega arith
  basic_grows m (WaitForDependent place) = omega arith
  basic_grows m (WaitFor place tree) = omega arith
  basic_grows m (UpdatePriority place name tree) = omega arith
  basic_grows m other = omega arith

  alternative_grows : (m : ℕ) (alternative : Alternative) → m ≤ after_alternative m alternative
  alternative_grows m NoAlternative = omega arith
  alternative_grows m (Otherwise one) = statement_grows m one

  group_grows : (m : ℕ) (group : Group) → m ≤ after_group m group
  group_grows m (Groups list close) = list_grows m list

  list_grows : (m : ℕ) (list : Statements) → m ≤ after_statements m list
  list_grows m NoStatements = omega arith
  list_grows m (MoreStatements first others) =
      let one = statement_grows m first in let two = list_grows (after_statement m first) others in omega (arith, one, two)

module _ (n : Numbering) (site : Site) where
  -- the statements of ON ERROR that stand directly among these, which begin at this address, stand where they are put
  abbrev pub HandlerAt : (ℕ → ℕ) → ℕ → ℕ → Statement → Type 0
  HandlerAt spot from m (Labelled labels (OnErrorStatement place s handler)) = spot m ≡ suc (suc from)
  HandlerAt spot from m other = Unit {0}

  abbrev pub HandlersAt : (ℕ → ℕ) → ℕ → ℕ → Statements → Type 0
  HandlersAt spot from m NoStatements = Unit {0}
  HandlersAt spot from m (MoreStatements first others) = HandlerAt spot from m first × HandlersAt spot (from + statement_size n site m first) (after_statement m first) others

  -- where the statement of the ON ERROR with a mark stands among them; what is none leads to the end
  abbrev pub spot_in : ℕ → ℕ → ℕ → Statements → ℕ → ℕ
  spot_in finish from m NoStatements place = finish
  spot_in finish from m (MoreStatements first others) place =
      elim (handled_by place m first others) [ None ↦ spot_in finish (from + statement_size n site m first) (after_statement m first) others place | Some found ↦ suc (suc from) ]

  -- a mark of those behind a statement is none of the statement itself
  passed : (finish from m : ℕ) (first : Statement) (others : Statements) (place : ℕ) → after_statement m first ≤ place
      → spot_in finish from m (MoreStatements first others) place ≡ spot_in finish (from + statement_size n site m first) (after_statement m first) others place
  passed finish from m (Labelled labels (OnErrorStatement at s handler)) others place far =
      let one = statement_grows (suc m) handler in
      let near : after_statement (suc m) handler ≤ place = far in
      let differs : (m == place) ≡ false = ne_eqb m place (λ same. let there : m ≡ place = same in absurd (omega (arith, one, near, there))) in
      ap (λ b. elim (if b then Some (handling handler (suc m) others (after_statement (suc m) handler)) else None)
      [ None ↦ spot_in finish (from + statement_size n site m (Labelled labels (OnErrorStatement at s handler))) (after_statement (suc m) handler) others place | Some found ↦ suc (suc from) ]) differs
  passed finish from m (Labelled labels other) others place far = refl

  own_spot : (finish from m : ℕ) (first : Statement) (others : Statements) (spot : ℕ → ℕ) → spot m ≡ spot_in finish from m (MoreStatements first others) m → HandlerAt spot from m first
  own_spot finish from m (Labelled labels (OnErrorStatement at s handler)) others spot is =
      is ∙ ap (λ b. elim (if b then Some (handling handler (suc m) others (after_statement (suc m) handler)) else None)
      [ None ↦ spot_in finish (from + statement_size n site m (Labelled labels (OnErrorStatement at s handler))) (after_statement (suc m) handler) others m | Some found ↦ suc (suc from) ]) (eq-eqb m m refl)
  own_spot finish from m (Labelled labels other) others spot is = tt

  -- where the marks from this one on lead as they do among these statements
  pub handlers_at : (finish from m : ℕ) (list : Statements) (spot : ℕ → ℕ) → ((place : ℕ) → m ≤ place → spot place ≡ spot_in finish from m list place) → HandlersAt spot from m list
  handlers_at finish from m NoStatements spot same = tt
  handlers_at finish from m (MoreStatements first others) spot same =
      let one = statement_grows m first in (
        own_spot finish from m first others spot (same m (omega arith)),
        handlers_at finish (from + statement_size n site m first) (after_statement m first) others spot
            (λ place far. same place (let near : m ≤ place = omega (arith, one, far) in near) ∙ passed finish from m first others place far),
      )

  pub leads_out : (finish from m : ℕ) (list : Statements) (place : ℕ) → handling_in place m list ≡ None → spot_in finish from m list place ≡ finish
  leads_out finish from m NoStatements place none = refl
  leads_out finish from m (MoreStatements first others) place none =
      chosen (handled_by place m first others) none (λ later. leads_out finish (from + statement_size n site m first) (after_statement m first) others place later)
    where
      chosen : (o : Option Handling) → ◌≡◌ {A = Option Handling} (elim o [ None ↦ handling_in place (after_statement m first) others | Some one ↦ Some one ]) None
          → (handling_in place (after_statement m first) others ≡ None → spot_in finish (from + statement_size n site m first) (after_statement m first) others place ≡ finish)
          → elim o [ None ↦ spot_in finish (from + statement_size n site m first) (after_statement m first) others place | Some found ↦ suc (suc from) ] ≡ finish
      chosen None is later = later is
      chosen (Some one) is later = absurd (cc)
