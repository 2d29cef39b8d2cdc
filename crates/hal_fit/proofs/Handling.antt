-- The code of statements about errors leads on.
use Rattle.std.specs.Prelude.{◌≡◌, ℕ, suc, Bool, true, false, List, [], Option, Some, None}
use Rattle.std.proofs.Common.{refl, subst}
use Rattle.hal_grammar.specs.Statements as statements
use Rattle.hal_grammar.specs.Statements.{System, Ignore, EventAction, Signal, Set, Reset, Eventful}
use Rattle.hal_meaning.specs.Events.{event_named}
use Rattle.hal_meaning.specs.RealTime.{side_of_action, side_of}
use Rattle.hal_code.specs.declared.choice.Choice.TheVariants as choice
use Rattle.hal_code.specs.declared.image.ImageParts.{ImageParts}
use Rattle.hal_code.specs.declared.instr.Instr.TheVariants as instr
use Rattle.hal_code.specs.declared.operand.EventChange.{EventChange}
use Rattle.hal_code.specs.declared.operand.EventChange.TheVariants as change
use Rattle.hal_code.specs.declared.operand.Response.{Response}
use Rattle.hal_code.specs.declared.operand.Response.TheVariants as response
use Rattle.hal_code.specs.Blocks.{is_of_process}
use Rattle.hal_code.specs.Controlling as machine
use Rattle.hal_code.specs.Flow.{is_inside, jumps}
use Rattle.hal_code.specs.Operands.{operands_right, is_selector, is_change, is_declared, is_latched_event, on_is_right}
use Rattle.hal_code.specs.Right.{stands_right, frames_right}
use Rattle.hal_agreement.specs.Codes.{Code}
use Rattle.hal_agreement.specs.Sites.{Site, here_at}
use Rattle.hal_agreement.specs.PlacedExpressions.{Has, One}
use Rattle.hal_agreement.specs.PlacedStatements.{changes, sets, response_of}
use Rattle.hal_fitting.specs.Fitting.{Ground, Fits, ground_flow}
use Rattle.hal_fitting.specs.Leading.{Comes, Leads}
use Rattle.hal_fitting.proofs.Joining.{modest_fits, fits_to}
use Rattle.hal_fitting.proofs.Stepping.{entered}
use Rattle.hal_fitting.proofs.Leading.{both_lead, jump_leads, one_leads}
use Rattle.hal_fit.specs.Stating.{ChangeFits}
use Rattle.hal_fit.proofs.Combining.{lead_to, less_leads, end_leads, way_leads, And, Both}
use Rattle.hal_fit.proofs.Channeling.{both_true}

on_stands : (out : List Bool) (group number : ℕ) (r : Response) (e : EventChange) (event target : ℕ) (inside : Bool) → stands_right out inside (sets group number r e event target) ≡ true
on_stands out group number r e event target true = refl
on_stands out group number r e event target false = refl

on_framed : (group number : ℕ) (r : Response) (e : EventChange) (event target : ℕ) (of_process : Bool) → frames_right of_process false (sets group number r e event target) ≡ true
on_framed group number r e event target true = refl
on_framed group number r e event target false = refl

-- what ON ERROR changes is what it names
action_there : (image : ImageParts) (g : Ground) (action : EventAction) (n : ℕ) (e : EventChange) (event : ℕ) → machine.side_of e event ≡ side_of_action action n
    → operands_right image g.block g.number (changes action n) ≡ true → is_change image e event ≡ true
action_there image g Signal n change.Signal event same right = subst (λ k. is_declared image k ≡ true) (let equal : n ≡ event = cc in equal) right
action_there image g Set n change.Set event same right = subst (λ k. is_latched_event image k ≡ true) (let equal : n ≡ event = cc in equal) right
action_there image g Reset n change.Reset event same right = subst (λ k. is_latched_event image k ≡ true) (let equal : n ≡ event = cc in equal) right
action_there image g action n change.Nothing event same right = refl
action_there image g Signal n change.Set event same right = absurd (cc)
action_there image g Signal n change.Reset event same right = absurd (cc)
action_there image g Set n change.Signal event same right = absurd (cc)
action_there image g Set n change.Reset event same right = absurd (cc)
action_there image g Reset n change.Signal event same right = absurd (cc)
action_there image g Reset n change.Set event same right = absurd (cc)

change_there : (image : ImageParts) (g : Ground) (site : Site) (o : Option Eventful) (e : EventChange) (event : ℕ) → machine.side_of e event ≡ side_of (here_at site) o → ChangeFits image g site o
    → is_change image e event ≡ true
change_there image g site None change.Nothing event same fits = refl
change_there image g site None change.Signal event same fits = absurd (cc)
change_there image g site None change.Set event same fits = absurd (cc)
change_there image g site None change.Reset event same fits = absurd (cc)
change_there image g site (Some one) e event same fits = action_there image g one.action (event_named site.set.phrases site.block one.name.name) e event same fits

module _ (code : Code) (g : Ground) where
  pub off_fits : (group number from to : ℕ) → is_selector group number ≡ true → One code from (instr.Off group number) to → Fits code.image g from [] to []
  off_fits group number from to selects at = fits_to code.image g at.1 (modest_fits code.image g (instr.Off group number) from [] [] at.0 refl selects refl)

  pub raise_fits : (group number from to : ℕ) → operands_right code.image g.block g.number (instr.Raise group number) ≡ true → One code from (instr.Raise group number) to → Fits code.image g from [] to []
  raise_fits group number from to operands at = fits_to code.image g at.1 (modest_fits code.image g (instr.Raise group number) from [] [] at.0 refl operands refl)

module _ (code : Code) (g : Ground) (part : Option ℕ) where
  -- an entry for errors is set
  on_leads : (Asked : Type 0) (group number : ℕ) (r : Response) (e : EventChange) (event target from : ℕ) → Has code from (sets group number r e event target)
      → on_is_right code.image group number (choice.Known r) (choice.Known e) event ≡ true
      → ((c : Comes code.image g from [] part) → Asked → jumps (ground_flow code.image g) c.place [] (sets group number r e event target) ≡ true) → Leads code.image g Asked part from [] (suc from) []
  on_leads Asked group number r e event target from has operands leaps =
      one_leads code.image g Asked part (sets group number r e event target) from [] []
      (record {
        has = has;
        operands = operands;
        effect = refl;
        stands = on_stands g.out group number r e event target (is_inside part);
        framed = on_framed group number r e event target (is_of_process code.image g.number);
        same = λ n. refl;
        jump = leaps;
      }) refl

  -- ON ERROR with SYSTEM or IGNORE
  pub response_leads : (Asked : Type 0) (site : Site) (r : statements.Response) (o : Option Eventful) (e : EventChange) (group number event from to : ℕ) → is_selector group number ≡ true
      → machine.side_of e event ≡ side_of (here_at site) o → ChangeFits code.image g site o → One code from (sets group number (response_of r) e event 0) to → Leads code.image g Asked part from [] to []
  response_leads Asked site System o e group number event from to selects same fits at =
      lead_to code.image g part Asked from (suc from) to [] [] at.1
      (on_leads Asked group number response.System e event 0 from at.0
      (both_true (is_selector group number) (is_change code.image e event) selects (change_there code.image g site o e event same fits)) (λ c asked. refl))
  response_leads Asked site Ignore o e group number event from to selects same fits at =
      lead_to code.image g part Asked from (suc from) to [] [] at.1
      (on_leads Asked group number response.Ignore e event 0 from at.0
      (both_true (is_selector group number) (is_change code.image e event) selects (change_there code.image g site o e event same fits)) (λ c asked. refl))

  -- with a statement, which stands behind a jump over it
  pub handler_leads : (Asked : Type 0) (group number from to : ℕ) → is_selector group number ≡ true → Has code from (sets group number response.Statement change.Nothing 0 (suc (suc from)))
      → Has code (suc from) (instr.Jump to) → Leads code.image g Asked part (suc (suc from)) [] to [] → Leads code.image g Asked part from [] to []
  handler_leads Asked group number from to selects has jump handler =
      end_leads code.image g part Asked (And code.image g part Asked to) from to [] [] (λ asked comes. (asked, comes))
      (way_leads code.image g part (And code.image g part Asked to) (Both code.image g part Asked to (suc (suc from))) (Both code.image g part Asked to (suc (suc from))) from (suc (suc from)) to [] [] []
      (λ asked comes. (asked.0, asked.1, comes)) handler.onward early
      (both_lead code.image g (Both code.image g part Asked to (suc (suc from))) part early
      (less_leads code.image g part (Both code.image g part Asked to (suc (suc from))) Asked (suc (suc from)) to [] [] (λ all. all.0) handler)))
    where
      early : Leads code.image g (Both code.image g part Asked to (suc (suc from))) part from [] (suc (suc from)) []
      early =
          both_lead code.image g (Both code.image g part Asked to (suc (suc from))) part
          (on_leads (Both code.image g part Asked to (suc (suc from))) group number response.Statement change.Nothing 0 (suc (suc from)) from has (both_true (is_selector group number) true selects refl)
          (λ c all. entered code.image g c.place all.2.place (suc (suc from)) part c.reached.stands all.2.reached all.2.there all.2.within))
          (jump_leads code.image g (Both code.image g part Asked to (suc (suc from))) part (suc from) to jump (λ all. record { ahead = handler.onward; comes = all.1 }))
