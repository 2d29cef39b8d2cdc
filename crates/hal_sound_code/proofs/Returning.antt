-- The ends of blocks, UPDATE blocks, and entries for errors fit.
use Rattle.std.specs.Prelude.{ℕ, suc, ◌≡◌, nat_le, Bool, true, false, not, ◌&&◌, List, [], ◌∷◌, Option, Some, None, slice_get}
use Rattle.std.proofs.Common.{refl, sym, subst}
use Rattle.std.proofs.lemmas.Bool.{leb-true, and_parts}
use Rattle.hal_values.specs.declared.environment.Entry.{Entry}
use Rattle.hal_values.specs.declared.environment.Side.{Side}
use Rattle.hal_values.specs.declared.request.Request.TheVariants as request
use Rattle.hal_values.specs.Answers.{error}
use Rattle.hal_values.specs.Searching.{without}
use Rattle.hal_states.specs.Modes.{closed}
use Rattle.hal_code.specs.declared.choice.Choice.{Choice}
use Rattle.hal_code.specs.declared.choice.Choice.TheVariants as choice
use Rattle.hal_code.specs.declared.instr.Instr.TheVariants as instr
use Rattle.hal_code.specs.declared.operand.EventChange.{EventChange}
use Rattle.hal_code.specs.declared.operand.Response.{Response}
use Rattle.hal_code.specs.declared.operand.Response.TheVariants as response
use Rattle.hal_code.specs.declared.row.Block.{Block}
use Rattle.hal_code.specs.Asking.{act_open, act_close}
use Rattle.hal_code.specs.Blocks.{code_of, is_of_process, outward}
use Rattle.hal_code.specs.Controlling.{returned, act_return, selector_of, side_of, act_of, act_on, act_off, act_raise}
use Rattle.hal_code.specs.Cores.{Return, Frame, Setting, Core, core, going, with_entries, Opens, Moves}
use Rattle.hal_code.specs.Effects.{Sorts, returned_sorts}
use Rattle.hal_code.specs.Flow.{is_entry, jumps}
use Rattle.hal_code.specs.Raising.{stuck}
use Rattle.hal_code.specs.Right.{stands_right}
use Rattle.hal_sound_code.specs.Entries.{selectors_in, is_among}
use Rattle.hal_sound_code.specs.Lying.{sorts_of}
use Rattle.hal_sound_code.specs.Standing.{Stands, Enters, AllEnter, AreBelow}
use Rattle.hal_sound_code.proofs.Controlling.{Typed-returned, without_enter}
use Rattle.hal_sound_code.proofs.Entering.{Under}
use Rattle.hal_sound_code.proofs.Points.{not_both, flow, Faces, entry_stands}
use Rattle.hal_sound_code.proofs.Selecting.{among_code, none_without}
use Rattle.hal_sound_code.proofs.Taking.{some_is}
use Rattle.hal_sound_code.proofs.Raising.{Typed-raised}
use Rattle.hal_sound_code.proofs.Stepping.{Well, Typed, moves, awaits}

-- RETURN and OPEN stand outside UPDATE blocks, and CLOSE inside
return_outside : (out : List Bool) (inside : Bool) → stands_right out inside instr.Return ≡ true → inside ≡ false
return_outside out true e = absurd (cc)
return_outside out false e = refl

open_outside : (out : List Bool) (inside : Bool) (groups : ℕ) → stands_right out inside (instr.Open groups) ≡ true → inside ≡ false
open_outside out true groups e = absurd (cc)
open_outside out false groups e = refl

close_inside : (out : List Bool) (inside : Bool) → stands_right out inside instr.Close ≡ true → inside ≡ true
close_inside out true e = refl
close_inside out false e = absurd (cc)

not_true : (b : Bool) → not b ≡ true → b ≡ false
not_true true e = absurd (cc)
not_true false e = refl

module _ (s : Setting) (most : ℕ) (c : Core) (well : Well s most c) where
  Typed-back : (frames : List Frame) (number : ℕ) (inside : Bool) (block : Block) (after : Sorts) → AreBelow s number inside frames → slice_get s.image.blocks number ≡ Some block → is_of_process s.image number ≡ false → inside ≡ false
      → returned_sorts block.result (sorts_of c.stack) ≡ Some after → Typed s most (act_return frames c)
  Typed-back [] number inside block after below row other outside e = absurd (not_both (is_of_process s.image number) below.1 other)
  Typed-back (f ∷ fs) number inside block after below row other outside e = at_back f.back below
    where
      at_back : (back : Option Return) → Under s number inside f.entries fs back → Typed s most (elim back [ None ↦ stuck c | Some one ↦ returned one.result c.stack one f.entries fs c ])
      at_back None under = absurd (not_both inside under.0 outside)
      at_back (Some back) under =
          Typed-returned s most c well.typed.kept well.few under.1.caller under.1.within back f.entries fs block.result back.result c.stack after (under.1.result block row) e under.1.stands under.1.lead under.1.enter under.1.below

  pub Typed-return : Faces s well.typed.number well.typed.inside c.at (sorts_of c.stack) instr.Return → Typed s most (act_return c.frames c)
  Typed-return f =
      Typed-back c.frames well.typed.number well.typed.inside f.block f.after well.typed.below f.row (not_true (is_of_process s.image well.typed.number) f.framed) (return_outside (outward s.image) well.typed.inside f.placed) f.stack

  Typed-shut : (frames : List Frame) → AreBelow s well.typed.number well.typed.inside frames → well.typed.inside ≡ true → Stands s well.typed.number false (suc c.at) (sorts_of c.stack) → Typed s most (act_close frames c)
  Typed-shut [] below in_block stands = absurd (not_both well.typed.inside in_block below.0)
  Typed-shut (f ∷ fs) below in_block stands = at_back f.back below
    where
      at_back : (back : Option Return) → Under s well.typed.number well.typed.inside f.entries fs back → Typed s most (elim back [ None ↦ Moves (core (suc c.at) c.stack c.line f.entries fs c.kept (closed c.mode)) | Some one ↦ stuck c ])
      at_back None under = moves s most _ (record {
        typed = record { number = well.typed.number; inside = false; stands = stands; lead = well.typed.lead; enter = under.1; below = under.2; kept = well.typed.kept };
        few = well.few;
      })
      at_back (Some back) under = absurd (not_both well.typed.inside in_block under.0)

  pub Typed-close : (f : Faces s well.typed.number well.typed.inside c.at (sorts_of c.stack) instr.Close) → Typed s most (act_close c.frames c)
  Typed-close f = Typed-shut c.frames well.typed.below (close_inside (outward s.image) well.typed.inside f.placed) (subst (λ sorts. Stands s well.typed.number false (suc c.at) sorts) (sym (some_is (sorts_of c.stack) f.after f.stack)) (f.onward refl))

  pub Typed-open : (groups : ℕ) (f : Faces s well.typed.number well.typed.inside c.at (sorts_of c.stack) (instr.Open groups)) → Typed s most (act_open groups c)
  Typed-open groups f = awaits s most (request.Update groups) (Opens groups) _ (λ h. cc) well.typed.kept (record {
    number = well.typed.number;
    inside = true;
    stands = subst (λ sorts. Stands s well.typed.number true (suc c.at) sorts) (sym (some_is (sorts_of c.stack) f.after f.stack)) (f.onward refl);
    lead = well.typed.lead;
    enter = tt;
    below = (refl, subst (λ inside. AllEnter s well.typed.number inside c.entries) outside well.typed.enter, subst (λ inside. AreBelow s well.typed.number inside c.frames) outside well.typed.below);
    kept = well.typed.kept;
  })
    where
      outside : well.typed.inside ≡ false
      outside = open_outside (outward s.image) well.typed.inside groups f.placed

  -- an entry more or less
  with_entries_well : (entries : List Entry) → Well s most (going (suc c.at) c.stack c) → ((number : ℕ) (inside : Bool) → AllEnter s number inside c.entries → AllEnter s number inside entries) → Well s most (with_entries entries (going (suc c.at) c.stack c))
  with_entries_well entries next each = record {
    typed = record { number = next.typed.number; inside = next.typed.inside; stands = next.typed.stands; lead = next.typed.lead; enter = each next.typed.number next.typed.inside next.typed.enter; below = next.typed.below; kept = next.typed.kept };
    few = next.few;
  }

  pub Typed-off : (group number : ℕ) → Well s most (going (suc c.at) c.stack c) → Typed s most (act_off group number c)
  Typed-off group number next = moves s most _ (with_entries_well (without (selector_of group number) c.entries) next (λ n inside enter. without_enter s n inside (selector_of group number) c.entries enter))

  act_enters : (r : Response) (side : Side) (target : ℕ) (n : ℕ) (inside : Bool) → (r ≡ response.Statement → Stands s n inside target []) → Enters s n inside (act_of r side target)
  act_enters response.System side target n inside stands = tt
  act_enters response.Ignore side target n inside stands = tt
  act_enters response.Statement side target n inside stands = stands refl

  pub Typed-on : (group number : ℕ) (r : Choice Response) (change : Choice EventChange) (event target : ℕ) (f : Faces s well.typed.number well.typed.inside c.at (sorts_of c.stack) (instr.On group number r change event target))
      → Stands s well.typed.number well.typed.inside (suc c.at) (sorts_of c.stack) → Typed s most (act_on group number r change event target c)
  Typed-on group number (choice.Known r) (choice.Known change) event target f stands = moves s most _ (record {
    typed = record {
      number = well.typed.number;
      inside = well.typed.inside;
      stands = stands;
      lead = well.typed.lead;
      enter = (
        act_enters r (side_of change event) target well.typed.number well.typed.inside (λ is. entry_stands s well.typed.number well.typed.inside c.at (sorts_of c.stack) _ f target (statement r is f.jumped)),
        without_enter s well.typed.number well.typed.inside (selector_of group number) c.entries well.typed.enter,
        subst (λ o. is_among (selector_of group number) (elim o [ None ↦ [] | Some block ↦ selectors_in (code_of s.image block) ]) ≡ true) (sym f.row)
            (among_code group number (choice.Known r) (choice.Known change) event target (code_of s.image f.block) f.place f.found),
        none_without (selector_of group number) c.entries,
      );
      below = well.typed.below;
      kept = well.typed.kept;
    };
    few = well.few;
  })
    where
      statement : (one : Response) → one ≡ response.Statement → jumps (flow s well.typed.number f.block) f.place (sorts_of c.stack) (instr.On group number (choice.Known one) (choice.Known change) event target) ≡ true
          → is_entry (flow s well.typed.number f.block) f.place target ≡ true
      statement response.Statement is e = e
      statement response.System is e = absurd (cc)
      statement response.Ignore is e = absurd (cc)
  Typed-on group number (choice.Known r) (choice.Other byte) event target f stands = absurd (let no : false ≡ true = f.operands in cc)
  Typed-on group number (choice.Other byte) change event target f stands = absurd (let no : false ≡ true = f.operands in cc)

  pub Typed-raise : (group number : ℕ) → (nat_le 1 group && nat_le 1 number) ≡ true → Well s most (going (suc c.at) c.stack c) → Typed s most (act_raise s group number c)
  Typed-raise group number e next = Typed-raised s most (error group number) (going (suc c.at) c.stack c) (leb-true 1 group (and_parts (nat_le 1 group) (nat_le 1 number) e).0) next
