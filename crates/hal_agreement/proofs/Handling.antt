-- Where the statements of ON ERROR stand, with what stands behind them; and entries for errors.
use Rattle.std.specs.Prelude.{◌≡◌, ℕ, suc, ◌==◌, Bool, true, false, not, List, [], ◌∷◌, Option, Some, None, if◌then◌else◌}
use Rattle.std.proofs.Common.{refl, sym, ap, subst, ◌∙◌}
use Rattle.std.proofs.lemmas.Bool.{eqb-true}
use Rattle.hal_grammar.specs.Statements.{Statement, Labelled, OnErrorStatement, Statements, NoStatements, MoreStatements}
use Rattle.hal_values.specs.declared.environment.Entry.{Entry}
use Rattle.hal_values.specs.declared.environment.Selector.{Selector}
use Rattle.hal_values.specs.Searching.{same_selector, with_entry, without}
use Rattle.hal_meaning.specs.Marks.{after_statement, Handling, handling, handled_by, handling_in}
use Rattle.hal_agreement.specs.Codes.{Code}
use Rattle.hal_agreement.specs.Sites.{Site}
use Rattle.hal_agreement.specs.PlacedStatements.{Exits, LeadsOut, StatementAt, StatementsAt}
use Rattle.hal_agreement.proofs.Reaching.{coded, coded_entries}

-- a statement of ON ERROR with what stands behind it, from where it is entered; what is none leads to the end
abbrev pub HandledAt : Code → Site → Exits → Option Handling → ℕ → ℕ → Type 0
HandledAt code site exits None from finish = from ≡ finish
HandledAt code site exits (Some found) from finish = (middle : ℕ) × StatementAt code site exits found.mark found.handler from middle × StatementsAt code site exits found.rest_mark found.rest middle finish

module _ (code : Code) (site : Site) (exits : Exits) (finish : ℕ) where
  -- the statement of the first ON ERROR, or one behind it
  first_handled : (place m from middle : ℕ) (one : Statement) (others : Statements) (found : Handling) → StatementAt code site exits m one from middle → StatementsAt code site exits (after_statement m one) others middle finish
      → handled_by place m one others ≡ Some found → HandledAt code site exits (Some found) (exits.handler place) finish
  first_handled place m from middle (Labelled labels (OnErrorStatement at s handler)) others found here rest is = chosen (m == place) refl is
    where
      chosen : (b : Bool) → (m == place) ≡ b → (if b then Some (handling handler (suc m) others (after_statement (suc m) handler)) else None) ≡ Some found → HandledAt code site exits (Some found) (exits.handler place) finish
      chosen true same e =
          subst (λ one. HandledAt code site exits one (exits.handler place) finish) e
          (middle, subst (λ begin. StatementAt code site exits (suc m) handler begin middle) (sym (subst (λ k. exits.handler k ≡ suc (suc from)) (eqb-true m place same) here.5)) here.6, rest)
      chosen false same e = absurd (cc)
  first_handled place m from middle (Labelled labels other) others found here rest is = absurd (cc)

  statements_handled : (place m : ℕ) (list : Statements) (from : ℕ) (found : Handling) → StatementsAt code site exits m list from finish → handling_in place m list ≡ Some found → HandledAt code site exits (Some found) (exits.handler place) finish
  statements_handled place m NoStatements from found here is = absurd (cc)
  statements_handled place m (MoreStatements first others) from found here is = chosen (handled_by place m first others) refl is
      (λ e. statements_handled place (after_statement m first) others here.0 found here.2 e)
    where
      chosen : (o : Option Handling) → handled_by place m first others ≡ o → elim o [ None ↦ handling_in place (after_statement m first) others | Some one ↦ Some one ] ≡ Some found
          → (handling_in place (after_statement m first) others ≡ Some found → HandledAt code site exits (Some found) (exits.handler place) finish) → HandledAt code site exits (Some found) (exits.handler place) finish
      chosen None same e later = later e
      chosen (Some one) same e later = first_handled place m from here.0 first others found here.1 here.2 (same ∙ e)

  handled_option : (place first : ℕ) (body : Statements) (begin : ℕ) (o : Option Handling) → handling_in place first body ≡ o → StatementsAt code site exits first body begin finish → LeadsOut exits.handler first body finish
      → HandledAt code site exits o (exits.handler place) finish
  handled_option place first body begin None is here leads_out = leads_out place is
  handled_option place first body begin (Some found) is here leads_out = statements_handled place first body begin found here is

  -- each mark of a block
  pub each_handled : (first : ℕ) (body : Statements) (begin : ℕ) → StatementsAt code site exits first body begin finish → LeadsOut exits.handler first body finish
      → (place : ℕ) → HandledAt code site exits (handling_in place first body) (exits.handler place) finish
  each_handled first body begin here leads_out place = handled_option place first body begin (handling_in place first body) refl here leads_out

kept_by : (b : Bool) (spot : ℕ → ℕ) (e : Entry) (xs ys : List Entry) → xs ≡ coded_entries spot ys → (if b then coded spot e ∷ xs else xs) ≡ coded_entries spot (if b then e ∷ ys else ys)
kept_by true spot e xs ys is = ap (λ rest. coded spot e ∷ rest) is
kept_by false spot e xs ys is = is

-- the machine's entries without one
pub without_coded : (spot : ℕ → ℕ) (s : Selector) (es : List Entry) → without s (coded_entries spot es) ≡ coded_entries spot (without s es)
without_coded spot s [] = refl
without_coded spot s (e ∷ es) = kept_by (not (same_selector s e.selector)) spot e (without s (coded_entries spot es)) (without s es) (without_coded spot s es)

-- and with one
pub with_coded : (spot : ℕ → ℕ) (e : Entry) (es : List Entry) → with_entry (coded spot e) (coded_entries spot es) ≡ coded_entries spot (with_entry e es)
with_coded spot e es = ap (λ rest. coded spot e ∷ rest) (without_coded spot e.selector es)
