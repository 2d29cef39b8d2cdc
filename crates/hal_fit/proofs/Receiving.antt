-- The code of receivers and of items fits.
use Rattle.std.specs.Prelude.{◌≡◌, ℕ, suc, pos, Bool, true, false, ◌&&◌, List, [], ◌∷◌, Option, Some, None, if◌then◌else◌}
use Rattle.std.specs.Option.{option_and_then}
use Rattle.std.proofs.Common.{refl, ap, ◌∙◌}
use Rattle.std.proofs.lemmas.Bool.{and_parts}
use Rattle.hal_grammar.specs.Leaves.{Naming}
use Rattle.hal_grammar.specs.Expressions.{Expressions, NoExpressions, MoreExpressions, Reference, Refers, Subscript, Unsubscripted, ByName, ByInteger, ByParts, Subscripts, NoSubscripts, MoreSubscripts}
use Rattle.hal_constants.specs.Constants.{is_none}
use Rattle.hal_values.specs.declared.value.Kind.{Kind}
use Rattle.hal_values.specs.declared.value.Kind.TheVariants as kind
use Rattle.hal_values.specs.declared.value.Value.TheVariants as value
use Rattle.hal_meaning.specs.Elements.{chosen}
use Rattle.hal_meaning.specs.Expressions.{sizes_named}
use Rattle.hal_meaning.specs.Variables.{Meant, MeantData, MeantConstant, MeantEvent, MeantBlock, MeantBuiltin, MeantNothing, name_meant, spot_named, kind_of_first, is_arrayed}
use Rattle.hal_code.specs.declared.choice.Choice.TheVariants as choice
use Rattle.hal_code.specs.declared.instr.Instr.TheVariants as instr
use Rattle.hal_code.specs.declared.operand.Places.{Places}
use Rattle.hal_code.specs.declared.operand.Places.TheVariants as places
use Rattle.hal_code.specs.declared.row.Target.TheVariants as target
use Rattle.hal_code.specs.Effects.{Sorts, is_value, has_places, places_taken, patched_sorts}
use Rattle.hal_code.specs.Sorts.{Sort, I, A, sort_of, takes, takes_part}
use Rattle.hal_agreement.specs.Codes.{Code}
use Rattle.hal_agreement.specs.Sites.{Site, here_at}
use Rattle.hal_agreement.specs.PlacedExpressions.{Has, One, places_of, ChosenAt}
use Rattle.hal_agreement.specs.PlacedStatements.{KeptAt, StoredAt, ReceivedAt, AddressedAt, ReceiverAt, ReceiversAt, ItemsAt, patches}
use Rattle.hal_fitting.specs.Fitting.{Ground, stands_there, Fits}
use Rattle.hal_fitting.proofs.Joining.{outside_there, nothing_fits, one_fits, suits_there, modest_fits, both_fit, fits_to}
use Rattle.hal_fit_expr.specs.Uses.{Uses}
use Rattle.hal_fit_expr.specs.Sorted.{is_integer, sort_of_name, sort_of_expression, places_fit, part_fits}
use Rattle.hal_fit_expr.specs.Serving.{Serves}
use Rattle.hal_fit_expr.proofs.Given.{integer_is, integers}
use Rattle.hal_fit_expr.proofs.Leaves.{value_fits, address_fits}
use Rattle.hal_fit_expr.proofs.Calls.{name_fits}
use Rattle.hal_fit_expr.proofs.Expressed.{places_left, places_there, expression_fits, chosen_fits, part_there}
use Rattle.hal_fit.specs.Received.{kept_fits, stored_fits, received_fits, addressed_fits, receiver_fits, receivers_fit, is_item, items_fit}

-- what has parts has places, and takes itself
parts_there : (k : Kind) (s : Sort) → takes_part k (sort_of k) s ≡ true → has_places (sort_of k) ≡ true
parts_there kind.Single s is = absurd (cc)
parts_there kind.Double s is = absurd (cc)
parts_there (kind.Bits n) s is = refl
parts_there (kind.Text n) s is = refl

takes_itself : (k : Kind) → takes k (sort_of k) ≡ true
takes_itself kind.Single = refl
takes_itself kind.Double = refl
takes_itself (kind.Bits n) = refl
takes_itself (kind.Text n) = refl

module _ (code : Code) (g : Ground) (site : Site) (u : Uses) (serves : Serves code g site.set site.places u) where
  keep_fits : (k : Kind) (s : Sort) (from to : ℕ) (stack : Sorts) → takes k s ≡ true → One code from instr.Keep to → Fits code.image g from (A k ∷ s ∷ stack) to stack
  keep_fits k s from to stack fits at = fits_to code.image g at.1 (modest_fits code.image g instr.Keep from (A k ∷ s ∷ stack) stack at.0 refl refl (ap (λ b. if b then Some stack else None) fits))

  peek_fits : (k : Kind) (from : ℕ) (stack : Sorts) → Has code from instr.Peek → Fits code.image g from (A k ∷ stack) (suc from) (sort_of k ∷ A k ∷ stack)
  peek_fits k from stack has = modest_fits code.image g instr.Peek from (A k ∷ stack) (sort_of k ∷ A k ∷ stack) has refl refl refl

  patch_fits : (picked : Places) (k : Kind) (s : Sort) (from : ℕ) (before stack : Sorts) → places_taken (choice.Known picked) before ≡ Some (sort_of k ∷ A k ∷ s ∷ stack) → takes_part k (sort_of k) s ≡ true
      → Has code from (patches picked) → Fits code.image g from before (suc from) (A k ∷ sort_of k ∷ stack)
  patch_fits picked k s from before stack chooses takes_it has =
      modest_fits code.image g (patches picked) from before (A k ∷ sort_of k ∷ stack) has refl refl
      (ap (option_and_then patched_sorts) chooses ∙ ap (λ b. if b then Some (A k ∷ sort_of k ∷ stack) else None) takes_it)

  kept_there : (path : List Naming) (m : Meant) (s : Sort) (from to : ℕ) (stack : Sorts) → kept_fits path s m ≡ true → KeptAt code path [] m from to → Fits code.image g from (s ∷ stack) to stack
  kept_there path (MeantData spot shape) s from to stack fits at =
      both_fit code.image g (address_fits code g serves.own (kind_of_first (chosen path shape.components)) _ from (s ∷ stack) at.0) (keep_fits (kind_of_first (chosen path shape.components)) s (suc from) to stack fits at.1)
  kept_there path (MeantConstant v) s from to stack fits at = absurd (at)
  kept_there path (MeantEvent e) s from to stack fits at = absurd (at)
  kept_there path (MeantBlock unit) s from to stack fits at = absurd (at)
  kept_there path (MeantBuiltin b) s from to stack fits at = absurd (at)
  kept_there path MeantNothing s from to stack fits at = absurd (at)

  stored_there : (list : Subscripts) (k : Kind) (s : Sort) (from to : ℕ) (stack : Sorts) → stored_fits u site k s list ≡ true → StoredAt code site list from to → Fits code.image g from (A k ∷ s ∷ stack) to stack
  stored_there NoSubscripts k s from to stack fits at = keep_fits k s from to stack fits at
  stored_there (MoreSubscripts first others) k s from to stack fits at =
      let both = and_parts (takes_part k (sort_of k) s) (part_fits u site first) fits in
      both_fit code.image g (peek_fits k from (s ∷ stack) at.1)
      (both_fit code.image g (part_there code g site u serves first (sort_of k) (suc from) at.0 (A k ∷ s ∷ stack) (parts_there k s both.0) both.1 at.2)
      (both_fit code.image g (patch_fits (places_of first) k s at.0 (integers (places_left first) (sort_of k ∷ A k ∷ s ∷ stack)) stack (places_there first (sort_of k ∷ A k ∷ s ∷ stack)) both.0 at.3)
      (keep_fits k (sort_of k) (suc at.0) to stack (takes_itself k) at.4)))

  received_there : (subscript : Subscript) (arrayed : Bool) (k : Kind) (s : Sort) (from to : ℕ) (stack : Sorts) → received_fits u site k s arrayed subscript ≡ true → ReceivedAt code site arrayed subscript from to
      → Fits code.image g from (A k ∷ s ∷ stack) to stack
  received_there (ByName there name) false k s from to stack fits at =
      let both = and_parts (takes_part k (sort_of k) s) (is_integer (sort_of_name u site name.name [])) fits in
      both_fit code.image g (peek_fits k from (s ∷ stack) at.1)
      (both_fit code.image g (name_fits code g site u serves name.name [] I (suc from) at.0 (sort_of k ∷ A k ∷ s ∷ stack) (integer_is (sort_of_name u site name.name []) both.1) at.2)
      (both_fit code.image g (patch_fits places.One k s at.0 (I ∷ sort_of k ∷ A k ∷ s ∷ stack) stack refl both.0 at.3) (keep_fits k (sort_of k) (suc at.0) to stack (takes_itself k) at.4)))
  received_there (ByInteger there mark number) false k s from to stack fits at =
      both_fit code.image g (peek_fits k from (s ∷ stack) at.0)
      (both_fit code.image g (value_fits code g (value.Int (pos number)) I (suc from) (suc (suc from)) (sort_of k ∷ A k ∷ s ∷ stack) refl (at.1, refl))
      (both_fit code.image g (patch_fits places.One k s (suc (suc from)) (I ∷ sort_of k ∷ A k ∷ s ∷ stack) stack refl fits at.2) (keep_fits k (sort_of k) (suc (suc (suc from))) to stack (takes_itself k) at.3)))
  received_there (ByName there name) true k s from to stack fits at = stored_there NoSubscripts k s from to stack fits at
  received_there (ByInteger there mark number) true k s from to stack fits at = stored_there NoSubscripts k s from to stack fits at
  received_there Unsubscripted true k s from to stack fits at = stored_there NoSubscripts k s from to stack fits at
  received_there Unsubscripted false k s from to stack fits at = stored_there NoSubscripts k s from to stack fits at
  received_there (ByParts there copies arrays components) true k s from to stack fits at = stored_there (if is_none arrays then NoSubscripts else components) k s from to stack fits at
  received_there (ByParts there copies arrays components) false k s from to stack fits at = stored_there components k s from to stack fits at

  addressed_there : (subscript : Subscript) (path : List Naming) (name : List ℕ) (m : Meant) (s : Sort) (from to : ℕ) (stack : Sorts) → addressed_fits u site path subscript s m ≡ true
      → AddressedAt code site path subscript (λ shape begin end. ChosenAt code site (target.Cell (kind_of_first (chosen path shape.components))) path subscript (spot_named (here_at site) name) shape begin end) m from to
      → Fits code.image g from (s ∷ stack) to stack
  addressed_there subscript path name (MeantData spot shape) s from to stack fits at =
      let both = and_parts (places_fit u site (is_arrayed (sizes_named path shape)) subscript) (received_fits u site (kind_of_first (chosen path shape.components)) s (is_arrayed (sizes_named path shape)) subscript) fits in
      both_fit code.image g (chosen_fits code g site u serves subscript (target.Cell (kind_of_first (chosen path shape.components))) path (spot_named (here_at site) name) shape from at.0 (s ∷ stack) both.0 at.1)
      (received_there subscript (is_arrayed (sizes_named path shape)) (kind_of_first (chosen path shape.components)) s at.0 to stack both.1 at.2)
  addressed_there subscript path name (MeantConstant v) s from to stack fits at = absurd (at)
  addressed_there subscript path name (MeantEvent e) s from to stack fits at = absurd (at)
  addressed_there subscript path name (MeantBlock unit) s from to stack fits at = absurd (at)
  addressed_there subscript path name (MeantBuiltin b) s from to stack fits at = absurd (at)
  addressed_there subscript path name MeantNothing s from to stack fits at = absurd (at)

  -- a receiver
  pub receiver_there : (receiver : Reference) (s : Sort) (from to : ℕ) (stack : Sorts) → receiver_fits u site s receiver ≡ true → ReceiverAt code site receiver from to → Fits code.image g from (s ∷ stack) to stack
  receiver_there (Refers place name path Unsubscripted) s from to stack fits at = kept_there path (name_meant (here_at site) name []) s from to stack fits (at [])
  receiver_there (Refers place name path (ByName there one)) s from to stack fits at = addressed_there (ByName there one) path name (name_meant (here_at site) name []) s from to stack fits (at [])
  receiver_there (Refers place name path (ByInteger there mark number)) s from to stack fits at = addressed_there (ByInteger there mark number) path name (name_meant (here_at site) name []) s from to stack fits (at [])
  receiver_there (Refers place name path (ByParts there copies arrays components)) s from to stack fits at =
      addressed_there (ByParts there copies arrays components) path name (name_meant (here_at site) name []) s from to stack fits (at [])

  -- receivers, from left to right
  pub receivers_there : (receivers : List Reference) (s : Sort) (from to : ℕ) (stack : Sorts) → receivers_fit u site s receivers ≡ true → ReceiversAt code site receivers from to → Fits code.image g from (s ∷ stack) to stack
  receivers_there [] s from to stack fits at = absurd (at)
  receivers_there (receiver ∷ []) s from to stack fits at = receiver_there receiver s from to stack fits at
  receivers_there (receiver ∷ next ∷ others) s from to stack fits at =
      let worth = and_parts (is_value s) (receiver_fits u site s receiver && receivers_fit u site s (next ∷ others)) fits in
      let both = and_parts (receiver_fits u site s receiver) (receivers_fit u site s (next ∷ others)) worth.1 in
      both_fit code.image g (modest_fits code.image g instr.Dup from (s ∷ stack) (s ∷ s ∷ stack) at.1 refl refl (ap (λ b. if b then Some (s ∷ s ∷ stack) else None) worth.0))
      (both_fit code.image g (receiver_there receiver s (suc from) at.0 (s ∷ stack) both.0 at.2) (receivers_there (next ∷ others) s at.0 to stack both.1 at.3))

  -- an item
  item_fits : (o : Option Sort) (from middle : ℕ) (stack : Sorts) → g.inside ≡ false → is_item o ≡ true → ((s : Sort) → o ≡ Some s → Fits code.image g from stack middle (s ∷ stack)) → Has code middle instr.Item → Fits code.image g from stack (suc middle) stack
  item_fits None from middle stack outside fits each has = absurd (cc)
  item_fits (Some s) from middle stack outside fits each has =
      both_fit code.image g (each s refl)
      (one_fits code.image g instr.Item middle (s ∷ stack) stack has (suits_there code.image g instr.Item refl (ap (λ b. stands_there g.out b instr.Item) outside ∙ outside_there g.out instr.Item refl) refl) (ap (λ b. if b then Some stack else None) fits))

  pub items_there : (items : Expressions) (from to : ℕ) (stack : Sorts) → g.inside ≡ false → items_fit u site items ≡ true → ItemsAt code site items from to → Fits code.image g from stack to stack
  items_there NoExpressions from to stack outside fits at = nothing_fits code.image g from to stack at
  items_there (MoreExpressions first others) from to stack outside fits at =
      let both = and_parts (is_item (sort_of_expression u site first)) (items_fit u site others) fits in
      both_fit code.image g (item_fits (sort_of_expression u site first) from at.0 stack outside both.0 (λ s sorted. expression_fits code g site u serves first s from at.0 stack sorted at.1) at.2)
      (items_there others (suc at.0) to stack outside both.1 at.3)
