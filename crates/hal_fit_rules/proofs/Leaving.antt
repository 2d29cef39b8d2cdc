-- What RETURN gives is what its block gives, where no rule of types is broken.
use Rattle.std.proofs.Common.{◌≡◌, ℕ, zero, suc, pos, Bool, true, false, not, List, [], ◌∷◌, length, Option, Some, None, slice_get, inl, inr, refl, sym, ap, ◌∙◌}
use Rattle.hal_base.specs.declared.refusal.Place.{Place}
use Rattle.hal_grammar.specs.Leaves.{Naming}
use Rattle.hal_grammar.specs.Declarations.{Kind, IntegerKind, BooleanKind, EventKind, BitKind, CharacterKind, StructureKind, Declaration}
use Rattle.hal_grammar.specs.Expressions.{Expression, place_of}
use Rattle.hal_grammar.specs.Units.{Head, Program, Compool, Task, Procedure, Function, NoKind, HasKind, Mode, Precision}
use Rattle.hal_phrases.specs.declared.around.Around.{Around}
use Rattle.hal_phrases.specs.declared.role.Role.TheVariants as role
use Rattle.hal_phrases.specs.Phrases.{Phrase, phrase, add, OfExpression, OfReturn, OfUnit}
use Rattle.hal_phrases.specs.GatheredExpressions.{below, gathered}
use Rattle.hal_scope.specs.Rules.{IsAmong, IsSound, ruled}
use Rattle.hal_scope.specs.Uses.{unless}
use Rattle.hal_kinds.specs.declared.class.Class.{Class}
use Rattle.hal_kinds.specs.declared.class.Class.TheVariants as class
use Rattle.hal_kinds.specs.Classes.{class_of, class_of_result, class_of_returns}
use Rattle.hal_kinds.specs.Data.{class_of_type}
use Rattle.hal_operands.specs.declared.want.Want.TheVariants as want
use Rattle.hal_operands.specs.Taken.{takes, head_takes, returned_taken, is_taken, untaken}
use Rattle.hal_operands.specs.Wants.{misfit, misfit_of_value, misfit_of_condition, misfit_of_whole, wanted}
use Rattle.hal_attributes.specs.Typed.{untyped, untyped_head, is_untyped, no_result, no_result_head, gives_no_value, is_no_result}
use Rattle.hal_uses.specs.Forms.{is_function, is_function_head, is_function_at, misreturned}
use Rattle.hal_types.specs.Rules.{attribute_rows, operand_rows, use_rows, type_rows}
use Rattle.hal_values.specs.declared.value.Value.TheVariants as value
use Rattle.hal_meaning.specs.Bodies.{Body}
use Rattle.hal_meaning.specs.Calls as calls
use Rattle.hal_meaning.specs.Sets.{body_at}
use Rattle.hal_code.specs.declared.choice.Choice.{Choice}
use Rattle.hal_code.specs.declared.choice.Choice.TheVariants as choice
use Rattle.hal_code.specs.declared.row.Block.{Block}
use Rattle.hal_code.specs.declared.row.ResultKind.{ResultKind}
use Rattle.hal_code.specs.declared.row.ResultKind.TheVariants as result
use Rattle.hal_code.specs.Controlling as machine
use Rattle.hal_code.specs.Effects.{returned_sorts}
use Rattle.hal_code.specs.Sorts.{Sort, I, B, T}
use Rattle.hal_agreement.specs.Sites.{Site}
use Rattle.hal_fit_expr.specs.Uses.{Uses}
use Rattle.hal_fit_expr.specs.Sorted.{sort_of_expression}
use Rattle.hal_fit.specs.Called.{ReturnFits, sort_by, sort_given}
use Rattle.hal_fit_classes.specs.Kinded.{sort_of_class}
use Rattle.hal_fit_classes.proofs.Pairing.{value_sort}
use Rattle.hal_fit_rules.specs.Begun.{AreFirst}
use Rattle.hal_fit_rules.specs.Agreeing.{Agrees}
use Rattle.hal_fit_rules.specs.Left.{UnitAgrees}
use Rattle.hal_fit_rules.proofs.Beginning.{then_, among}
use Rattle.hal_fit_rules.proofs.BegunExpressions.{own_first, expression_first}
use Rattle.hal_fit_rules.proofs.Unbroken.{ruled_none, unbroken, of_operands, of_uses}
use Rattle.hal_fit_rules.proofs.Cells.{same_sort}
use Rattle.hal_fit_rules.proofs.Agreeing.{of_role, sorted_of}
use Rattle.hal_fit_rules.proofs.Signalling.{kept_unless}

-- what is found at a place is among all
pub found_among : {X : Type 0} (xs : List X) (k : ℕ) (x : X) → slice_get xs k ≡ Some x → IsAmong x xs
found_among [] k x is = absurd (cc)
found_among (y ∷ ys) zero x is = inl (let same : x ≡ y = cc in same)
found_among (y ∷ ys) (suc k) x is = inr (found_among ys k x is)

-- a block that gives values of this type takes them
integer_taken : (r : Choice ResultKind) → machine.zero_of r ≡ Some (value.Int (pos 0)) → returned_sorts r (I ∷ []) ≡ Some []
integer_taken (choice.Known result.Nothing) is = absurd (cc)
integer_taken (choice.Known result.Integer) is = refl
integer_taken (choice.Known result.Bits) is = absurd (cc)
integer_taken (choice.Known result.Text) is = absurd (cc)
integer_taken (choice.Other byte) is = absurd (cc)

bits_taken : (r : Choice ResultKind) → machine.zero_of r ≡ Some (value.Bits 1 0) → returned_sorts r (B ∷ []) ≡ Some []
bits_taken (choice.Known result.Nothing) is = absurd (cc)
bits_taken (choice.Known result.Integer) is = absurd (cc)
bits_taken (choice.Known result.Bits) is = refl
bits_taken (choice.Known result.Text) is = absurd (cc)
bits_taken (choice.Other byte) is = absurd (cc)

text_taken : (r : Choice ResultKind) → machine.zero_of r ≡ Some (value.Text []) → returned_sorts r (T ∷ []) ≡ Some []
text_taken (choice.Known result.Nothing) is = absurd (cc)
text_taken (choice.Known result.Integer) is = absurd (cc)
text_taken (choice.Known result.Bits) is = absurd (cc)
text_taken (choice.Known result.Text) is = refl
text_taken (choice.Other byte) is = absurd (cc)

-- values that these take
integers_take : (v : Class) (s : Sort) → misfit want.Value v ≡ None → takes (Some class.Integer) (Some v) ≡ true → sort_of_class v ≡ Some s → s ≡ I
unfolding takes misfit misfit_of_value misfit_of_condition misfit_of_whole
integers_take class.Integer s fits taken worth = sym (same_sort I s worth)
integers_take class.Bits s fits taken worth = absurd (cc)
integers_take class.Text s fits taken worth = absurd (cc)
integers_take class.Condition s fits taken worth = absurd (cc)
integers_take class.Structure s fits taken worth = absurd (cc)
integers_take class.Array s fits taken worth = absurd (cc)

bits_take : (v : Class) (s : Sort) → misfit want.Value v ≡ None → takes (Some class.Bits) (Some v) ≡ true → sort_of_class v ≡ Some s → s ≡ B
unfolding takes misfit misfit_of_value misfit_of_condition misfit_of_whole
bits_take class.Bits s fits taken worth = sym (same_sort B s worth)
bits_take class.Integer s fits taken worth = absurd (cc)
bits_take class.Text s fits taken worth = absurd (cc)
bits_take class.Condition s fits taken worth = absurd (cc)
bits_take class.Structure s fits taken worth = absurd (cc)
bits_take class.Array s fits taken worth = absurd (cc)

-- a value that becomes one of the block's
record Becomes (block : Block) (head : Head) (s : Sort) : Type 0 where
  given : Sort
  becomes : sort_by head s ≡ Some given
  taken : returned_sorts block.result (given ∷ []) ≡ Some []

-- a text of an integer is its decimal text
texts_take : (block : Block) (place at : Place) (inputs : List Naming) (size : Expression) (precision : Option Precision) (mode : Option Mode) (v : Class) (s : Sort) → misfit want.Value v ≡ None
    → takes (Some class.Text) (Some v) ≡ true → sort_of_class v ≡ Some s → machine.zero_of block.result ≡ Some (value.Text []) → Becomes block (Function place inputs (HasKind (CharacterKind at size) precision) mode) s
unfolding takes misfit misfit_of_value misfit_of_condition misfit_of_whole
texts_take block place at inputs size precision mode class.Text s fits taken worth zero_is =
    record { given = T; becomes = ap (sort_by (Function place inputs (HasKind (CharacterKind at size) precision) mode)) (sym (same_sort T s worth)); taken = text_taken block.result zero_is }
texts_take block place at inputs size precision mode class.Integer s fits taken worth zero_is =
    record { given = T; becomes = ap (sort_by (Function place inputs (HasKind (CharacterKind at size) precision) mode)) (sym (same_sort I s worth)); taken = text_taken block.result zero_is }
texts_take block place at inputs size precision mode class.Bits s fits taken worth zero_is = absurd (cc)
texts_take block place at inputs size precision mode class.Condition s fits taken worth zero_is = absurd (cc)
texts_take block place at inputs size precision mode class.Structure s fits taken worth zero_is = absurd (cc)
texts_take block place at inputs size precision mode class.Array s fits taken worth zero_is = absurd (cc)

-- by the type of the FUNCTION
kind_returned : (block : Block) (place : Place) (inputs : List Naming) (kind : Kind) (precision : Option Precision) (mode : Option Mode) (v : Class) (s : Sort) → is_no_result kind ≡ false → misfit want.Value v ≡ None
    → takes (class_of_result kind) (Some v) ≡ true → sort_of_class v ≡ Some s → machine.zero_of block.result ≡ Some (calls.zero_of_type kind) → Becomes block (Function place inputs (HasKind kind precision) mode) s
unfolding class_of_result class_of_type is_no_result
kind_returned block place inputs (IntegerKind at) precision mode v s has fits taken worth zero_is =
    record { given = I; becomes = ap (λ (t : Sort). Some t) (integers_take v s fits taken worth); taken = integer_taken block.result zero_is }
kind_returned block place inputs (BooleanKind at) precision mode v s has fits taken worth zero_is =
    record { given = B; becomes = ap (λ (t : Sort). Some t) (bits_take v s fits taken worth); taken = bits_taken block.result zero_is }
kind_returned block place inputs (BitKind at size) precision mode v s has fits taken worth zero_is =
    record { given = B; becomes = ap (λ (t : Sort). Some t) (bits_take v s fits taken worth); taken = bits_taken block.result zero_is }
kind_returned block place inputs (CharacterKind at size) precision mode v s has fits taken worth zero_is = texts_take block place at inputs size precision mode v s fits taken worth zero_is
kind_returned block place inputs (EventKind at) precision mode v s has fits taken worth zero_is = absurd (cc)
kind_returned block place inputs (StructureKind at template copies) precision mode v s has fits taken worth zero_is = absurd (cc)

-- by its head, which breaks no rule
head_returned : (block : Block) (head : Head) (v : Class) (s : Sort) → is_function_head head ≡ true → untyped_head head ≡ None → no_result_head head ≡ None → head_takes (Some v) head ≡ true → misfit want.Value v ≡ None
    → sort_of_class v ≡ Some s → (calls.is_function head ≡ true → machine.zero_of block.result ≡ Some (calls.zero_of head)) → Becomes block head s
unfolding is_function_head untyped_head no_result_head head_takes class_of_returns is_untyped gives_no_value
head_returned block (Function place inputs NoKind mode) v s function typed has taken fits worth gives = absurd (cc)
head_returned block (Function place inputs (HasKind kind precision) mode) v s function typed has taken fits worth gives =
    kind_returned block place inputs kind precision mode v s (no_kind (is_no_result kind) place has) fits taken worth (gives refl) where
      no_kind : (b : Bool) (at : Place) → unless (not b) at ≡ None → b ≡ false
      no_kind false at none = refl
      no_kind true at none = absurd (cc)
head_returned block (Program place) v s function typed has taken fits worth gives = absurd (cc)
head_returned block (Compool place) v s function typed has taken fits worth gives = absurd (cc)
head_returned block (Task place) v s function typed has taken fits worth gives = absurd (cc)
head_returned block (Procedure place inputs outputs mode) v s function typed has taken fits worth gives = absurd (cc)

module _ (u : Uses) (site : Site) (ps : List Phrase) (sound : IsSound type_rows ps) where
  -- a unit among the phrases breaks no rule of its type
  unit_typed : (q : Phrase) (name : Naming) (head : Head) (declarations : List Declaration) → IsAmong q ps → q.node ≡ OfUnit name head declarations → untyped_head head ≡ None
  unfolding attribute_rows type_rows untyped
  unit_typed q name head declarations within declares =
      ap untyped (sym declares) ∙ ruled_none 323 (untyped q.node) (unbroken type_rows ps sound q within (λ qs p. ruled 323 (untyped p.node)) (inl refl))

  unit_gives : (q : Phrase) (name : Naming) (head : Head) (declarations : List Declaration) → IsAmong q ps → q.node ≡ OfUnit name head declarations → no_result_head head ≡ None
  unfolding attribute_rows type_rows no_result
  unit_gives q name head declarations within declares =
      ap no_result (sym declares)
      ∙ ruled_none 724 (no_result q.node) (unbroken type_rows ps sound q within (λ qs p. ruled 724 (no_result p.node)) (inr (inr (inr (inr (inr (inr (inr (inl refl)))))))))

  -- RETURN with a value stands in a FUNCTION
  in_function : (d : List Phrase) (a : Around) (place : Place) (tree : Expression) → AreFirst (add d a (OfReturn place (Some tree))) ps → is_function_at ps a.home ≡ true
  unfolding use_rows misreturned
  in_function d a place tree first =
      let p : Phrase = phrase (length d) a (OfReturn place (Some tree)) in
      kept_unless (is_function_at ps a.home) place
      (ruled_none 711 (misreturned ps p (OfReturn place (Some tree)))
      (unbroken type_rows ps sound p (among ps d a (OfReturn place (Some tree)) first) (λ qs q. ruled 711 (misreturned qs q q.node)) (of_uses (λ qs q. ruled 711 (misreturned qs q q.node)) (inr (inl refl)))))

  -- whose result takes it
  taken_there : (d : List Phrase) (a : Around) (tree : Expression) (q : Phrase) → AreFirst (add d a (OfExpression role.Returned tree)) ps → slice_get ps a.home ≡ Some q
      → returned_taken (class_of ps a.block tree) q.node ≡ true
  unfolding operand_rows untaken is_taken
  taken_there d a tree q first there =
      let p : Phrase = phrase (length d) a (OfExpression role.Returned tree) in
      ap (λ (o : Option Phrase). elim o [ None ↦ true | Some r ↦ returned_taken (class_of ps a.block tree) r.node ]) (sym there)
      ∙ kept_unless (is_taken ps p role.Returned tree) (place_of tree)
      (ruled_none 702 (untaken ps p (OfExpression role.Returned tree))
      (unbroken type_rows ps sound p (among ps d a (OfExpression role.Returned tree) first) (λ qs r. ruled 702 (untaken qs r r.node)) (of_operands (λ qs r. ruled 702 (untaken qs r r.node)) (inr (inr (inr (inr (inl refl))))))))

  pub return_fits : (block : Block) (d : List Phrase) (a : Around) (place : Place) (tree : Expression) → AreFirst (gathered (add d a (OfReturn place (Some tree))) (below d a) role.Returned tree) ps
      → UnitAgrees block site ps a.home → Agrees u site ps a.block tree → ReturnFits block (body_at site.set site.unit) (sort_of_expression u site tree)
  unfolding wanted returned_taken is_function
  return_fits block d a place tree begun unit agree =
      let e : List Phrase = add d a (OfReturn place (Some tree)) in
      let of = of_role u site ps sound e (below d a) role.Returned tree refl begun agree in
      let worth = value_sort of.found of.fits in
      let sorted : sort_of_expression u site tree ≡ Some worth.0 = (sorted_of u site ps sound e (below d a) role.Returned tree refl begun agree).sorted of.found worth.0 of.known worth.1 in
      let within = found_among ps a.home unit.phrase unit.there in
      let function : is_function_head unit.head ≡ true =
      ap is_function (sym unit.declares) ∙ (ap (λ (o : Option Phrase). elim o [ None ↦ false | Some q ↦ is_function q.node ]) (sym unit.there)
      ∙ in_function d a place tree (then_ (expression_first e (below d a) role.Returned tree) begun)) in
      let takes_it : head_takes (Some of.found) unit.head ≡ true =
      ap (λ c. head_takes c unit.head) (sym of.known) ∙ (ap (returned_taken (class_of ps a.block tree)) (sym unit.declares)
      ∙ taken_there e (below d a) tree unit.phrase (then_ (own_first e (below d a) role.Returned tree) begun) unit.there) in
      let one = head_returned block unit.head of.found worth.0 function (unit_typed unit.phrase unit.name unit.head unit.declarations within unit.declares)
      (unit_gives unit.phrase unit.name unit.head unit.declarations within unit.declares) takes_it of.fits worth.1 unit.gives in
      record {
        sort = worth.0;
        given = one.given;
        left = [];
        sorted = sorted;
        becomes = ap (λ (o : Option Body). sort_given o worth.0) unit.found ∙ (ap (λ h. sort_by h worth.0) unit.same ∙ one.becomes);
        taken = one.taken;
      }
