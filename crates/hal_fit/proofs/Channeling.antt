-- The code of READ leads on, and that of WRITE fits.
use Rattle.std.specs.Prelude.{◌≡◌, ℕ, suc, nat_lt, Bool, true, false, ◌&&◌, List, [], ◌∷◌, Option, Some, slice_get}
use Rattle.std.proofs.Common.{refl, ap, subst, ◌∙◌}
use Rattle.std.proofs.lemmas.Bool.{and_parts}
use Rattle.hal_base.specs.declared.limits.TheConstants.{CHANNEL_COUNT}
use Rattle.hal_grammar.specs.Expressions.{Expression, Expressions, Reference}
use Rattle.hal_values.specs.declared.value.Kind.{Kind}
use Rattle.hal_meaning.specs.Statements.{kind_named}
use Rattle.hal_code.specs.declared.image.ImageParts.{ImageParts}
use Rattle.hal_code.specs.declared.instr.Instr.{Instr}
use Rattle.hal_code.specs.declared.instr.Instr.TheVariants as instr
use Rattle.hal_code.specs.Blocks.{is_of_process}
use Rattle.hal_code.specs.Effects.{Sorts, sorts_after}
use Rattle.hal_code.specs.Flow.{is_inside}
use Rattle.hal_code.specs.Operands.{operands_right}
use Rattle.hal_code.specs.Right.{stands_right, stands_outside, frames_right}
use Rattle.hal_code.specs.Sorts.{sort_of, is_kind}
use Rattle.hal_agreement.specs.Codes.{Code}
use Rattle.hal_agreement.specs.Sites.{Site, here_at}
use Rattle.hal_agreement.specs.PlacedExpressions.{One}
use Rattle.hal_agreement.specs.PlacedStatements.{ChannelAt, ItemsAt, ReadsAt}
use Rattle.hal_fitting.specs.Fitting.{Ground, goes_on, stands_there, Fits}
use Rattle.hal_fitting.specs.Leading.{standing, Leads, IsAhead}
use Rattle.hal_fitting.proofs.Joining.{outside_there, one_fits, suits_there, both_fit, fits_to}
use Rattle.hal_fitting.proofs.Leading.{fits_lead, nothing_leads, both_lead, one_leads}
use Rattle.hal_fit_expr.specs.Uses.{Uses}
use Rattle.hal_fit_expr.specs.Serving.{Serves}
use Rattle.hal_fit.specs.Received.{receiver_fits, items_fit}
use Rattle.hal_fit.specs.Stating.{ChannelFits, reads_fit}
use Rattle.hal_fit.proofs.Combining.{jumps_ahead, end_leads, And}
use Rattle.hal_fit.proofs.Receiving.{receiver_there, items_there}

pub both_true : (a b : Bool) → a ≡ true → b ≡ true → (a && b) ≡ true
both_true true true ia ib = refl
both_true a b ia ib = absurd (cc)

input_framed : (channel : ℕ) (kind : Kind) (next : ℕ) (of_process : Bool) → frames_right of_process false (instr.Input channel kind next) ≡ true
input_framed channel kind next true = refl
input_framed channel kind next false = refl

-- what may stand outside of UPDATE blocks, and goes on
pub outside_fits : (image : ImageParts) (g : Ground) (i : Instr) (from to : ℕ) (stack next : Sorts) → g.inside ≡ false → stands_outside i ≡ true → goes_on i ≡ true → operands_right image g.block g.number i ≡ true
    → sorts_after image g.block i stack ≡ Some next → slice_get image.code from ≡ Some i → suc from ≡ to → Fits image g from stack to next
outside_fits image g i from to stack next outside stands onward operands effect has behind =
    fits_to image g behind (one_fits image g i from stack next has (suits_there image g i operands (ap (λ b. stands_there g.out b i) outside ∙ outside_there g.out i stands) onward) effect)

module _ (code : Code) (g : Ground) (part : Option ℕ) (site : Site) (u : Uses) (serves : Serves code (standing part g) site.set site.places u) where
  pub written_fits : (channel : Expression) (items : Expressions) (number from last to : ℕ) → is_inside part ≡ false → ChannelFits site channel → items_fit u site items ≡ true → ChannelAt site channel number
      → ItemsAt code site items from last → One code last (instr.Print number) to → Fits code.image (standing part g) from [] to []
  written_fits channel items number from last to outside known fits is there prints =
      both_fit code.image (standing part g) (items_there code (standing part g) site u serves items from last [] outside fits there)
      (outside_fits code.image (standing part g) (instr.Print number) last to [] [] outside refl refl (known number is) refl prints.0 prints.1)

  -- an INPUT, behind which control goes to the next one where there is no datum
  input_leads : (Asked : Type 0) (channel : ℕ) (kind : Kind) (from next : ℕ) → is_inside part ≡ false → nat_lt channel CHANNEL_COUNT ≡ true → is_kind kind ≡ true
      → slice_get code.image.code from ≡ Some (instr.Input channel kind next) → (Asked → IsAhead code.image g part (suc from) next) → Leads code.image g Asked part from [] (suc from) (sort_of kind ∷ [])
  input_leads Asked channel kind from next outside known is has ahead =
      one_leads code.image g Asked part (instr.Input channel kind next) from [] (sort_of kind ∷ [])
      (record {
        has = has;
        operands = both_true (nat_lt channel CHANNEL_COUNT) (is_kind kind) known is;
        effect = refl;
        stands = ap (λ b. stands_right g.out b (instr.Input channel kind next)) outside;
        framed = input_framed channel kind next (is_of_process code.image g.number);
        same = λ n. refl;
        jump = λ c asked. jumps_ahead code.image g part from next c (ahead asked);
      }) refl

  read_leads : (Asked : Type 0) (channel : ℕ) (kind : Kind) (from next to : ℕ) → is_inside part ≡ false → nat_lt channel CHANNEL_COUNT ≡ true → is_kind kind ≡ true
      → slice_get code.image.code from ≡ Some (instr.Input channel kind next) → Fits code.image (standing part g) (suc from) (sort_of kind ∷ []) next [] → Leads code.image g Asked part next [] to []
      → Leads code.image g Asked part from [] to []
  read_leads Asked channel kind from next to outside known is has stores others =
      both_lead code.image g Asked part
      (end_leads code.image g part Asked (And code.image g part Asked next) from next [] [] (λ asked comes. (asked, comes)) (both_lead code.image g (And code.image g part Asked next) part input stored)) others
    where
      stored : Leads code.image g (And code.image g part Asked next) part (suc from) (sort_of kind ∷ []) next []
      stored = fits_lead code.image g (And code.image g part Asked next) part (suc from) next (sort_of kind ∷ []) [] stores

      input : Leads code.image g (And code.image g part Asked next) part from [] (suc from) (sort_of kind ∷ [])
      input = input_leads (And code.image g part Asked next) channel kind from next outside known is has (λ both. record { ahead = stored.onward; comes = both.1 })

  pub reads_lead : (receivers : List Reference) (Asked : Type 0) (channel from to : ℕ) → is_inside part ≡ false → nat_lt channel CHANNEL_COUNT ≡ true → reads_fit u site receivers ≡ true
      → ReadsAt code site channel receivers from to → Leads code.image g Asked part from [] to []
  reads_lead [] Asked channel from to outside known fits at = nothing_leads code.image g Asked part from to [] at
  reads_lead (receiver ∷ receivers) Asked channel from to outside known fits at =
      let both = and_parts (is_kind (kind_named (here_at site) receiver []) && receiver_fits u site (sort_of (kind_named (here_at site) receiver [])) receiver) (reads_fit u site receivers) fits in
      let one = and_parts (is_kind (kind_named (here_at site) receiver [])) (receiver_fits u site (sort_of (kind_named (here_at site) receiver [])) receiver) both.0 in
      read_leads Asked channel at.0 from at.1 to outside known (subst (λ k. is_kind k ≡ true) (at.2 []) one.0) at.3
      (receiver_there code (standing part g) site u serves receiver (sort_of at.0) (suc from) at.1 [] (subst (λ k. receiver_fits u site (sort_of k) receiver ≡ true) (at.2 []) one.1) at.4)
      (reads_lead receivers Asked channel at.1 to outside known both.1 at.5)
