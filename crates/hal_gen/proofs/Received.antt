-- The code of receivers stands where it was put.
use Rattle.std.specs.Prelude.{◌≡◌, ℕ, suc, Bool, true, false, List, [], ◌∷◌, ◌++◌, Ok}
use Rattle.std.proofs.Common.{sym, subst}
use Rattle.hal_base.specs.declared.refusal.Place.{Place}
use Rattle.hal_grammar.specs.Leaves.{Naming}
use Rattle.hal_grammar.specs.Expressions.{Reference, Refers, Subscript, Unsubscripted, ByName, ByInteger, ByParts, Subscripts, NoSubscripts, MoreSubscripts}
use Rattle.hal_states.specs.Spots.{Spot, Held}
use Rattle.hal_constants.specs.Constants.{is_none}
use Rattle.hal_meaning.specs.Expressions.{sizes_named}
use Rattle.hal_meaning.specs.Statements.{components_in}
use Rattle.hal_meaning.specs.Variables.{is_arrayed, kind_of_first, Meant, name_meant, spot_meant}
use Rattle.hal_meaning.specs.Elements.{chosen}
use Rattle.hal_values.specs.declared.value.Kind.{Kind}
use Rattle.hal_code.specs.declared.row.Target.TheVariants as targets
use Rattle.hal_gen_expr.specs.declared.aims.Aim.TheVariants as aims
use Rattle.hal_code.specs.declared.instr.Instr.{Instr}
use Rattle.hal_code.specs.declared.instr.Instr.TheVariants as instr
use Rattle.hal_code.specs.declared.operand.Places.{Places}
use Rattle.hal_code.specs.declared.operand.Places.TheVariants as places
use Rattle.hal_agreement.specs.Codes.{Code}
use Rattle.hal_agreement.specs.PlacedExpressions.{Has, One, AddressAt, ElementAt, ChosenAt, places_of}
use Rattle.hal_agreement.specs.PlacedStatements.{patches, KeptAt, StoredAt, ReceivedAt, AddressedAt, ReceiverAt, ReceiversAt}
use Rattle.hal_agreement.specs.Sites.{Site, here_at}
use Rattle.hal_gen_expr.specs.Emitting.{Emitted}
use Rattle.hal_gen_expr.specs.ExpressionCode.{name_code, integer_code, chosen_code, part_code}
use Rattle.hal_gen_expr.specs.Led.{led_to, led_by}
use Rattle.hal_gen_expr.specs.Numbering.{Numbering}
use Rattle.hal_storage.specs.referents.Referents.{Referent, DataOf, ConstantOf, EventOf, BlockOf, BuiltinOf, Unmeant}
use Rattle.hal_gen_expr.specs.Referents.{referent}
use Rattle.hal_gen_expr.specs.Standing.{Begins, IsNumbered, Placed}
use Rattle.hal_gen_expr.proofs.Expressed.{ok_is, if_emitted, name_at, integer_at, chosen_at, part_at}
use Rattle.hal_gen_expr.proofs.Growing.{weaker, one_placed, first_placed, both_placed}
use Rattle.hal_gen_expr.proofs.Referring.{meaning_of, name_means, always_means}
use Rattle.hal_gen.specs.Receiving.{patch_code, patched_code, stored_code, received_code, addressed_code, receiver_code}
use Rattle.hal_gen.specs.StatementCode.{receivers_code}

module _ (code : Code) (n : Numbering) (site : Site) (numbered : IsNumbered code n) where
  -- PATCH and KEEP
  patch_at : (chosen : Places) (place : Place) (before after : List Instr) → patch_code before place chosen ≡ Ok after → Begins after code.image.code
      → Placed code before after (λ from to. Has code from (patches chosen) × One code (suc from) instr.Keep to)
  patch_at chosen place before after e begins = first_placed code before after (patches chosen) (one_placed code (before ++ (patches chosen ∷ [])) after instr.Keep (ok_is _ after e) begins)

  -- the same behind PEEK and the numbers of places
  patched_at : {A : ℕ → ℕ → Type 0} (chosen : Places) (numbers : List Instr → Emitted) (place : Place) (before after : List Instr) → patched_code before place chosen numbers ≡ Ok after → Begins after code.image.code
      → ((middle : List Instr) → numbers (before ++ (instr.Peek ∷ [])) ≡ Ok middle → Begins middle code.image.code → Placed code (before ++ (instr.Peek ∷ [])) middle A)
      → Placed code before after (λ from to. (middle : ℕ) × Has code from instr.Peek × A (suc from) middle × Has code middle (patches chosen) × One code (suc middle) instr.Keep to)
  patched_at chosen numbers place before after e begins each =
      weaker code before after (λ from to at. (at.1.0, at.0, at.1.1, at.1.2.0, at.1.2.1))
      (first_placed code before after instr.Peek
      (both_placed code (numbers (before ++ (instr.Peek ∷ []))) (λ late. patch_code late place chosen) (before ++ (instr.Peek ∷ [])) after e each (λ late there. patch_at chosen place late after there begins)))

  -- KEEP, of a component of what is there
  stored_at : (list : Subscripts) (place : Place) (before after : List Instr) → stored_code n site before place list ≡ Ok after → Begins after code.image.code → Placed code before after (λ from to. StoredAt code site list from to)
  stored_at NoSubscripts place before after e begins = one_placed code before after instr.Keep (ok_is _ after e) begins
  stored_at (MoreSubscripts first others) place before after e begins =
      let alone = if_emitted (is_none others) (patched_code before place (places_of first) (λ middle. part_code n site middle place first)) place after e in
      patched_at (places_of first) (λ middle. part_code n site middle place first) place before after alone.1 begins (λ middle there begun. part_at code n site numbered first place (before ++ (instr.Peek ∷ [])) middle there begun)

  received_at : (subscript : Subscript) (arrayed : Bool) (place : Place) (before after : List Instr) → received_code n site before place arrayed subscript ≡ Ok after → Begins after code.image.code
      → Placed code before after (λ from to. ReceivedAt code site arrayed subscript from to)
  received_at Unsubscripted true place before after e begins = stored_at NoSubscripts place before after e begins
  received_at Unsubscripted false place before after e begins = stored_at NoSubscripts place before after e begins
  received_at (ByName there name) true place before after e begins = stored_at NoSubscripts place before after e begins
  received_at (ByName there name) false place before after e begins =
      patched_at places.One (λ middle. name_code n site middle name) place before after e begins (λ middle there begun. name_at code n site numbered [] name.name name.place (before ++ (instr.Peek ∷ [])) middle there begun)
  received_at (ByInteger there mark number) true place before after e begins = stored_at NoSubscripts place before after e begins
  received_at (ByInteger there mark number) false place before after e begins =
      weaker code before after (λ from to at. (at.1, at.2.0, subst (λ m. Has code m (patches places.One)) (sym at.2.1) at.3, subst (λ m. One code (suc m) instr.Keep to) (sym at.2.1) at.4))
      (patched_at places.One (λ middle. integer_code middle place number) place before after e begins (λ middle there begun. integer_at code n site numbered number place (before ++ (instr.Peek ∷ [])) middle there begun))
  received_at (ByParts there copies arrays components) true place before after e begins = stored_at (components_in true (ByParts there copies arrays components)) place before after e begins
  received_at (ByParts there copies arrays components) false place before after e begins = stored_at components place before after e begins

  -- a receiver without a subscript
  kept_by : (arrayed : Bool) (place : Place) (before after : List Instr) → received_code n site before place arrayed Unsubscripted ≡ Ok after → Begins after code.image.code → Placed code before after (λ from to. One code from instr.Keep to)
  kept_by true place before after e begins = stored_at NoSubscripts place before after e begins
  kept_by false place before after e begins = stored_at NoSubscripts place before after e begins

  -- the address of a cell while the own places hold something
  element_there : {kind : Kind} {spots : List Held → Spot} {from : ℕ} (held : List Held) → ElementAt code [] (targets.Cell kind) spots from → AddressAt code held kind (spots held) from
  element_there held at = record { number = at.number; view = at.view; cell = at.address; row = at.row; plain = at.viewed held }

  kept_at : (path : List Naming) (r : Referent) (place : Place) (before after : List Instr) → addressed_code n site before place Unsubscripted (led_by path r) ≡ Ok after → Begins after code.image.code
      → Placed code before after (λ from to. (held : List Held) → KeptAt code path held (meaning_of site held r) from to)
  kept_at path (DataOf k kept shape) place before after e begins =
      weaker code before after (λ from to at. λ held. (element_there held at.1.0, subst (λ m. One code m instr.Keep to) (sym at.1.1) at.2))
      (both_placed code (chosen_code n site before place aims.Cell Unsubscripted (led_to path k kept shape)) (λ middle. received_code n site middle place (is_arrayed (sizes_named path shape)) Unsubscripted) before after e
      (λ middle there begun. chosen_at code n site numbered Unsubscripted aims.Cell (led_to path k kept shape) place before middle there begun)
      (λ middle there. kept_by (is_arrayed (sizes_named path shape)) place middle after there begins))
  kept_at path (ConstantOf v) place before after e begins = absurd (cc)
  kept_at path (EventOf v) place before after e begins = absurd (cc)
  kept_at path (BlockOf unit) place before after e begins = absurd (cc)
  kept_at path (BuiltinOf b) place before after e begins = absurd (cc)
  kept_at path Unmeant place before after e begins = absurd (cc)

  -- data that a name means, with a subscript, whatever the own places hold
  abbrev AddressedThere : Subscript → List Naming → (List Held → Meant) → ℕ → ℕ → Type 0
  AddressedThere subscript path meant from to =
      (held : List Held)
      → AddressedAt code site path subscript (λ shape begin end. ChosenAt code site (targets.Cell (kind_of_first (chosen path shape.components))) path subscript (λ now. spot_meant (meant now)) shape begin end) (meant held) from to

  -- a receiver with one
  addressed_at : (subscript : Subscript) (path : List Naming) (r : Referent) (place : Place) (before after : List Instr) → addressed_code n site before place subscript (led_by path r) ≡ Ok after → Begins after code.image.code
      → Placed code before after (λ from to. AddressedThere subscript path (λ held. meaning_of site held r) from to)
  addressed_at subscript path (DataOf k kept shape) place before after e begins =
      weaker code before after (λ from to at. λ held. (at.0, at.1, at.2))
      (both_placed code (chosen_code n site before place aims.Cell subscript (led_to path k kept shape)) (λ middle. received_code n site middle place (is_arrayed (sizes_named path shape)) subscript) before after e
      (λ middle there begun. chosen_at code n site numbered subscript aims.Cell (led_to path k kept shape) place before middle there begun)
      (λ middle there. received_at subscript (is_arrayed (sizes_named path shape)) place middle after there begins))
  addressed_at subscript path (ConstantOf v) place before after e begins = absurd (cc)
  addressed_at subscript path (EventOf v) place before after e begins = absurd (cc)
  addressed_at subscript path (BlockOf unit) place before after e begins = absurd (cc)
  addressed_at subscript path (BuiltinOf b) place before after e begins = absurd (cc)
  addressed_at subscript path Unmeant place before after e begins = absurd (cc)

  subscripted_at : (subscript : Subscript) (path : List Naming) (name : List ℕ) (place : Place) (before after : List Instr) → addressed_code n site before place subscript (led_by path (referent site name)) ≡ Ok after
      → Begins after code.image.code
      → Placed code before after (λ from to. AddressedThere subscript path (name_meant (here_at site) name) from to)
  subscripted_at subscript path name place before after e begins =
      weaker code before after (λ from to at. subst (λ m. AddressedThere subscript path m from to) (sym (always_means site name)) at)
      (addressed_at subscript path (referent site name) place before after e begins)

  pub receiver_at : (receiver : Reference) (before after : List Instr) → receiver_code n site before receiver ≡ Ok after → Begins after code.image.code
      → Placed code before after (λ from to. ReceiverAt code site receiver from to)
  receiver_at (Refers place name path Unsubscripted) before after e begins =
      weaker code before after (λ from to at. λ held. subst (λ m. KeptAt code path held m from to) (sym (name_means site held name)) (at held)) (kept_at path (referent site name) place before after e begins)
  receiver_at (Refers place name path (ByName there one)) before after e begins = subscripted_at (ByName there one) path name place before after e begins
  receiver_at (Refers place name path (ByInteger there mark number)) before after e begins = subscripted_at (ByInteger there mark number) path name place before after e begins
  receiver_at (Refers place name path (ByParts there copies arrays components)) before after e begins = subscripted_at (ByParts there copies arrays components) path name place before after e begins

  pub receivers_at : (receivers : List Reference) (place : Place) (before after : List Instr) → receivers_code n site before place receivers ≡ Ok after → Begins after code.image.code
      → Placed code before after (λ from to. ReceiversAt code site receivers from to)
  receivers_at [] place before after e begins = absurd (cc)
  receivers_at (receiver ∷ []) place before after e begins = receiver_at receiver before after e begins
  receivers_at (receiver ∷ next ∷ others) place before after e begins =
      weaker code before after (λ from to at. (at.1.0, at.0, at.1.1, at.1.2))
      (first_placed code before after instr.Dup
      (both_placed code (receiver_code n site (before ++ (instr.Dup ∷ [])) receiver) (λ middle. receivers_code n site middle place (next ∷ others)) (before ++ (instr.Dup ∷ [])) after e
      (λ middle there begun. receiver_at receiver (before ++ (instr.Dup ∷ [])) middle there begun) (λ middle there. receivers_at (next ∷ others) place middle after there begins)))
