-- ON ERROR and OFF ERROR: the machine's entries are those of the tree.
use Rattle.std.specs.Prelude.{◌≡◌, ℕ, suc, [], Option, Some, None}
use Rattle.std.proofs.Common.{refl, sym, ap, subst, ◌∙◌}
use Rattle.hal_grammar.specs.Statements.{Selector, Eventful, System, Ignore}
use Rattle.hal_grammar.specs.Statements as statements
use Rattle.hal_values.specs.declared.environment.Act.{Act}
use Rattle.hal_values.specs.declared.environment.Act.TheVariants as act
use Rattle.hal_values.specs.declared.environment.Entry.{Entry}
use Rattle.hal_values.specs.declared.environment.Side.{Side}
use Rattle.hal_values.specs.declared.environment.Selector as selectors
use Rattle.hal_values.specs.Searching.{with_entry, without}
use Rattle.hal_meaning.specs.States.{State, with_entries}
use Rattle.hal_meaning.specs.Access.{Here}
use Rattle.hal_meaning.specs.RealTime.{side_of}
use Rattle.hal_meaning.specs.Statements.{selector_of, act_of, entry}
use Rattle.hal_meaning.specs.Tasks.{Meaning}
use Rattle.hal_code.specs.declared.instr.Instr.TheVariants as instr
use Rattle.hal_code.specs.declared.operand.EventChange.{EventChange}
use Rattle.hal_code.specs.declared.operand.EventChange.TheVariants as change
use Rattle.hal_code.specs.declared.operand.Response.TheVariants as response
use Rattle.hal_code.specs.Controlling as machine
use Rattle.hal_code.specs.Cores.{core, Moves}
use Rattle.hal_agreement.specs.Codes.{Code}
use Rattle.hal_agreement.specs.Sites.{site_of, here_at}
use Rattle.hal_agreement.specs.PlacedExpressions.{Has, One}
use Rattle.hal_agreement.specs.PlacedStatements.{sets, Selects, response_of}
use Rattle.hal_agreement.proofs.Handling.{without_coded, with_coded}
use Rattle.hal_agreement.proofs.Knowing.{Out, Sound}
use Rattle.hal_agreement.proofs.Leading.{Leads, through}
use Rattle.hal_agreement.proofs.Reaching.{Nest, coded_act, coded_entries, setting}
use Rattle.hal_agreement.proofs.Raising.{Standing}
use Rattle.hal_agreement.proofs.Stating.{Begins, instr_leads, jump_leads}

-- an entry of the machine
abbrev entry_by : selectors.Selector → Act → Entry
entry_by s a = record { selector = s; act = a }

-- what an event part of ON ERROR does goes by the site alone
side_same : (h : Here) (e : Option Eventful) → side_of (here_at (site_of h)) e ≡ side_of h e
side_same h None = refl
side_same h (Some one) = refl

response_act : (r : statements.Response) (one : Side) (spot : ℕ → ℕ) → machine.act_of (response_of r) one 0 ≡ coded_act spot (act_of r one)
response_act System one spot = refl
response_act Ignore one spot = refl

module _ (code : Code) (begin : ℕ) (rec : Meaning) (sound : Sound code begin rec) (h : Here) (n : Nest) (standing : Standing code h n) (out : Out) where
  -- the machine's entry is that of the tree, so control goes on with the tree's entries
  set_leads : (s : selectors.Selector) (a : Act) (selected : selectors.Selector) (does : Act) (at : ℕ) (st : State) → selected ≡ s → does ≡ coded_act (n.spot 0) a
      → Moves (core at [] [] (with_entry (entry_by selected does) (coded_entries (n.spot 0) st.entries)) n.frames st.kept st.mode) ≡ Begins code begin rec sound h n standing out at (with_entries (with_entry (entry s a) st.entries) st)
  set_leads s a selected does at st same is =
      ap (λ one. Moves (core at [] [] (with_entry (entry_by one does) (coded_entries (n.spot 0) st.entries)) n.frames st.kept st.mode)) same
      ∙ (ap (λ one. Moves (core at [] [] (with_entry (entry_by s one) (coded_entries (n.spot 0) st.entries)) n.frames st.kept st.mode)) is
      ∙ ap (λ es. Moves (core at [] [] es n.frames st.kept st.mode)) (with_coded (n.spot 0) (entry s a) st.entries))

  -- ON ERROR with a statement
  pub handler_leads : (s : Selector) (m group number from to target : ℕ) (st : State) → Selects s group number → n.spot 0 m ≡ target → target ≡ suc (suc from)
      → Has code from (sets group number response.Statement change.Nothing 0 (suc (suc from))) → Has code (suc from) (instr.Jump to)
      → Leads (setting code begin h) (Begins code begin rec sound h n standing out from st) st.left (Begins code begin rec sound h n standing out to (with_entries (with_entry (entry (selector_of s) (act.Statement m)) st.entries) st)) st.left
  handler_leads s m group number from to target st selects is stands has goes =
      through (setting code begin h) _ _ _ st.left st.left st.left
      (instr_leads code begin rec sound h n standing out (sets group number response.Statement change.Nothing 0 (suc (suc from))) from st st.left
      (Begins code begin rec sound h n standing out (suc from) (with_entries (with_entry (entry (selector_of s) (act.Statement m)) st.entries) st)) has
      (set_leads (selector_of s) (act.Statement m) (machine.selector_of group number) (act.Statement (suc (suc from))) (suc from) st selects.is (ap act.Statement (sym (is ∙ stands)))))
      (jump_leads code begin rec sound h n standing out (suc from) to (with_entries (with_entry (entry (selector_of s) (act.Statement m)) st.entries) st) st.left goes)

  -- ON ERROR with SYSTEM or IGNORE
  pub response_leads : (s : Selector) (r : statements.Response) (e : Option Eventful) (group number : ℕ) (changes : EventChange) (event from to : ℕ) (st : State) → Selects s group number → machine.side_of changes event ≡ side_of (here_at (site_of h)) e
      → One code from (sets group number (response_of r) changes event 0) to
      → Leads (setting code begin h) (Begins code begin rec sound h n standing out from st) st.left (Begins code begin rec sound h n standing out to (with_entries (with_entry (entry (selector_of s) (act_of r (side_of h e))) st.entries) st)) st.left
  response_leads s r e group number changes event from to st selects sides one =
      subst (λ end. Leads (setting code begin h) (Begins code begin rec sound h n standing out from st) st.left (Begins code begin rec sound h n standing out end (with_entries (with_entry (entry (selector_of s) (act_of r (side_of h e))) st.entries) st)) st.left) one.1
      (instr_leads code begin rec sound h n standing out (sets group number (response_of r) changes event 0) from st st.left
      (Begins code begin rec sound h n standing out (suc from) (with_entries (with_entry (entry (selector_of s) (act_of r (side_of h e))) st.entries) st)) one.0
      (set_leads (selector_of s) (act_of r (side_of h e)) (machine.selector_of group number) (machine.act_of (response_of r) (machine.side_of changes event) 0) (suc from) st selects.is
      (ap (λ side. machine.act_of (response_of r) side 0) (sides ∙ side_same h e) ∙ response_act r (side_of h e) (n.spot 0))))

  -- OFF ERROR
  pub off_leads : (s : Selector) (group number from to : ℕ) (st : State) → Selects s group number → One code from (instr.Off group number) to
      → Leads (setting code begin h) (Begins code begin rec sound h n standing out from st) st.left (Begins code begin rec sound h n standing out to (with_entries (without (selector_of s) st.entries) st)) st.left
  off_leads s group number from to st selects one =
      subst (λ end. Leads (setting code begin h) (Begins code begin rec sound h n standing out from st) st.left (Begins code begin rec sound h n standing out end (with_entries (without (selector_of s) st.entries) st)) st.left) one.1
      (instr_leads code begin rec sound h n standing out (instr.Off group number) from st st.left (Begins code begin rec sound h n standing out (suc from) (with_entries (without (selector_of s) st.entries) st)) one.0
      (ap (λ one. Moves (core (suc from) [] [] (without one (coded_entries (n.spot 0) st.entries)) n.frames st.kept st.mode)) selects.is
      ∙ ap (λ es. Moves (core (suc from) [] [] es n.frames st.kept st.mode)) (without_coded (n.spot 0) (selector_of s) st.entries)))
