-- CALL with arguments that agree fits, where no rule of types is broken.
use Rattle.std.proofs.Common.{◌≡◌, ℕ, ◌==◌, Bool, true, false, ◌&&◌, List, [], ◌∷◌, length, Option, Some, None, slice_get, inl, inr, if◌then◌else◌, refl, sym, ap, ◌∙◌, subst}
use Rattle.std.specs.Option.{option_and_then}
use Rattle.std.proofs.lemmas.Bool.{and_from, and_parts}
use Rattle.hal_base.specs.declared.refusal.Place.{Place}
use Rattle.hal_grammar.specs.Leaves.{Naming}
use Rattle.hal_grammar.specs.Expressions.{Expressions, Reference, Refers, Subscript}
use Rattle.hal_grammar.specs.Units.{Head, Procedure}
use Rattle.hal_phrases.specs.declared.around.Around.{Around}
use Rattle.hal_phrases.specs.declared.role.Role.{Role}
use Rattle.hal_phrases.specs.declared.role.Role.TheVariants as role
use Rattle.hal_phrases.specs.Phrases.{Node, Phrase, phrase, add, gathered_each, OfTemplate, OfUnit, OfReference, OfCall}
use Rattle.hal_phrases.specs.GatheredExpressions.{below, gathered_all, gathered_reference}
use Rattle.hal_phrases.specs.GatheredStatements.{gathered_receiver}
use Rattle.hal_names.specs.Means.{means}
use Rattle.hal_scope.specs.Rules.{IsSound, ruled}
use Rattle.hal_scope.specs.Uses.{unless}
use Rattle.hal_kinds.specs.Attributes.{count_of}
use Rattle.hal_uses.specs.Calls.{condition_fault, called_head_fault, called_fault, miscalled}
use Rattle.hal_constants.specs.Known.{known}
use Rattle.hal_shapes.specs.Arguments as arguments
use Rattle.hal_shapes.specs.Arguments.{head_of, inputs_fit, outputs_fit, call_fits, misshaped}
use Rattle.hal_types.specs.Rules.{size_rows, use_rows, type_rows}
use Rattle.hal_meaning.specs.Expressions.{inputs_at, sizes_named}
use Rattle.hal_meaning.specs.Variables.{Meant, MeantData, MeantConstant, MeantEvent, MeantBlock, MeantBuiltin, MeantNothing, name_meant, is_arrayed}
use Rattle.hal_agreement.specs.Sites.{Site, here_at}
use Rattle.hal_fit_expr.specs.Uses.{Uses}
use Rattle.hal_fit_expr.specs.Sorted.{data_fits, places_fit, arguments_fit, area_fits}
use Rattle.hal_fit.specs.Called.{CallFits, areas_fit}
use Rattle.hal_fit_rules.specs.Begun.{AreFirst}
use Rattle.hal_fit_rules.specs.Received.{AreCells, CellsAgree, ReceiverAgrees}
use Rattle.hal_fit_rules.specs.Passed.{AreasAgree, CallAgrees}
use Rattle.hal_fit_rules.proofs.Beginning.{then_, among}
use Rattle.hal_fit_rules.proofs.BegunExpressions.{expressions_first}
use Rattle.hal_fit_rules.proofs.BegunStatements.{receivers_first}
use Rattle.hal_fit_rules.proofs.Unbroken.{ruled_none, unbroken, of_uses, of_sizes}
use Rattle.hal_fit_rules.proofs.Choosing.{SubscriptRight, places_right}
use Rattle.hal_fit_rules.proofs.Agreeing.{all_known, areas_known, subscript_known}
use Rattle.hal_fit_rules.proofs.Passing.{arguments_spelled, arguments_right}
use Rattle.hal_fit_rules.proofs.Signalling.{kept_unless}

module _ (u : Uses) (site : Site) (ps : List Phrase) (sound : IsSound type_rows ps) where
  -- the places of data that are passed whole
  area_meant : (path : List Naming) (x : Subscript) (o : Option Phrase) (m : Meant) → AreCells ps path o m → SubscriptRight u site x → data_fits path (λ arrayed. places_fit u site arrayed x) m ≡ true
  area_meant path x (Some p) (MeantData at shape) cells right = places_right u site (is_arrayed (sizes_named path shape)) x right
  area_meant path x (Some p) (MeantConstant c) cells right = absurd cells
  area_meant path x (Some p) (MeantEvent e) cells right = absurd cells
  area_meant path x (Some p) (MeantBlock unit) cells right = absurd cells
  area_meant path x (Some p) (MeantBuiltin b) cells right = absurd cells
  area_meant path x (Some p) MeantNothing cells right = absurd cells
  area_meant path x None m cells right = absurd cells

  area_declared : (path : List Naming) (x : Subscript) (o : Option ℕ) (m : Meant) → CellsAgree ps path o m → SubscriptRight u site x → data_fits path (λ arrayed. places_fit u site arrayed x) m ≡ true
  area_declared path x None m cells right = absurd cells
  area_declared path x (Some k) m cells right = area_meant path x (slice_get ps k) m cells right

  area_fitting : (d : List Phrase) (a : Around) (r : Role) (t : Reference) → AreFirst (gathered_reference d a r t) ps → ReceiverAgrees u site ps a.block t → area_fits u site t ≡ true
  unfolding gathered_reference
  area_fitting d a r (Refers place name path x) begun agree =
      area_declared path x (means ps a.block name) (name_meant (here_at site) name []) agree.0
      (subscript_known u site ps sound (add d a (OfReference r (Refers place name path x))) (below d a) x begun agree.1)

  -- ASSIGN arguments
  areas_right : (d : List Phrase) (a : Around) (r : Role) (ts : List Reference) → AreFirst (gathered_each (gathered_receiver a r) d ts) ps → AreasAgree u site ps a.block ts → areas_fit u site ts ≡ true
  areas_right d a r [] begun agree = refl
  areas_right d a r (t ∷ ts) begun agree =
      let e : List Phrase = gathered_reference d a r t in
      and_from (area_fits u site t) (areas_fit u site ts) (area_fitting d a r t (then_ (receivers_first a r e ts) begun) agree.0) (areas_right e a r ts begun agree.1)

  -- what CALL breaks of the block that a phrase declares
  called_by : (block : ℕ) (place : Place) (count receivers : ℕ) (ts : Expressions) (n : Node) (head : Head) → head_of n ≡ Some head → called_fault ps block place count receivers ts n ≡ called_head_fault ps block place count receivers ts head
  unfolding called_fault head_of
  called_by block place count receivers ts (OfTemplate name one declarations) head is = ap (called_head_fault ps block place count receivers ts) (let same : one ≡ head = cc in same)
  called_by block place count receivers ts (OfUnit name one declarations) head is = ap (called_head_fault ps block place count receivers ts) (let same : one ≡ head = cc in same)
  called_by block place count receivers ts other head is = absurd (cc)

  counted_right : (counts : Bool) (place : Place) (rest : Option (ℕ × Place)) → (if counts then rest else Some (705, place)) ≡ None → (counts ≡ true) × (rest ≡ None)
  counted_right true place rest none = (refl, none)
  counted_right false place rest none = absurd (cc)

  -- CALL of a unit
  call_right : (d : List Phrase) (a : Around) (name : Naming) (ts : Expressions) (receivers : List Reference) → AreFirst (gathered_all (add d a (OfCall name ts receivers)) (below d a) role.Input ts) ps
      → (agree : CallAgrees u site ps a.block name ts receivers) → arguments_fit u site agree.procedure.unit agree.procedure.inputs ts ≡ true
  unfolding use_rows size_rows miscalled called_head_fault misshaped call_fits
  call_right d a name ts receivers begun agree =
      let e : List Phrase = add d a (OfCall name ts receivers) in
      let p : Phrase = phrase (length d) a (OfCall name ts receivers) in
      let own = then_ (expressions_first e (below d a) role.Input ts) begun in
      let number : called_fault ps a.block name.place (count_of ts) (length receivers) ts agree.procedure.phrase.node ≡ None =
      ap (λ (o : Option Phrase). option_and_then (λ (q : Phrase). called_fault ps a.block name.place (count_of ts) (length receivers) ts q.node) o) (sym agree.procedure.there)
      ∙ (ap (λ (o : Option ℕ). option_and_then (λ k. option_and_then (λ (q : Phrase). called_fault ps a.block name.place (count_of ts) (length receivers) ts q.node) (slice_get ps k)) o) (sym agree.procedure.means_it)
      ∙ unbroken type_rows ps sound p (among ps d a (OfCall name ts receivers) own) (λ qs q. miscalled qs q q.node) (of_uses (λ qs q. miscalled qs q q.node) (inr (inr (inr (inr (inr (inr (inr (inl refl)))))))))) in
      let head : Head = Procedure agree.procedure.place agree.procedure.inputs agree.procedure.outputs agree.procedure.mode in
      let counts = counted_right ((length agree.procedure.inputs == count_of ts) && (length agree.procedure.outputs == length receivers)) name.place (condition_fault ps a.block ts)
      (sym (called_by a.block name.place (count_of ts) (length receivers) ts agree.procedure.phrase.node head agree.procedure.head) ∙ number) in
      let shapes : call_fits ps (known ps) p agree.procedure.declared ts receivers head ≡ true =
      kept_unless (call_fits ps (known ps) p agree.procedure.declared ts receivers head) name.place
      (ap (λ (o : Option Head). option_and_then (λ (h : Head). unless (call_fits ps (known ps) p agree.procedure.declared ts receivers h) name.place) o) (sym (ap (λ (o : Option Phrase). option_and_then (λ (q : Phrase). head_of q.node) o) agree.procedure.there ∙ agree.procedure.head))
      ∙ (ap (λ (o : Option ℕ). option_and_then (arguments.call_fault ps (known ps) p name.place ts receivers) o) (sym agree.procedure.means_it)
      ∙ ruled_none 705 (misshaped ps (known ps) p (OfCall name ts receivers))
      (unbroken type_rows ps sound p (among ps d a (OfCall name ts receivers) own) (λ qs q. ruled 705 (misshaped qs (known qs) q q.node)) (of_sizes (λ qs q. ruled 705 (misshaped qs (known qs) q q.node)) (inr (inr (inr (inl refl)))))))) in
      arguments_right u site ps sound p e (below d a) role.Input agree.procedure.declared agree.procedure.unit agree.procedure.inputs ts refl refl begun agree.procedure.parameters
      (all_known u site ps sound e (below d a) role.Input ts begun agree.arguments) (areas_known u site ps sound e (below d a) role.Input ts begun agree.arguments) counts.1 (and_parts (length agree.procedure.inputs == count_of ts) (length agree.procedure.outputs == length receivers) counts.0).0
      (and_parts (inputs_fit ps (known ps) p agree.procedure.declared agree.procedure.inputs ts) (outputs_fit ps (known ps) p agree.procedure.declared agree.procedure.outputs receivers) shapes).0

  pub call_agrees : (d : List Phrase) (a : Around) (name : Naming) (ts : Expressions) (receivers : List Reference)
      → AreFirst (gathered_each (gathered_receiver (below d a) role.Output) (gathered_all (add d a (OfCall name ts receivers)) (below d a) role.Input ts) receivers) ps → CallAgrees u site ps a.block name ts receivers
      → CallFits u site ts receivers (name_meant (here_at site) name.name [])
  call_agrees d a name ts receivers begun agree =
      let f : List Phrase = gathered_all (add d a (OfCall name ts receivers)) (below d a) role.Input ts in
      let fits : arguments_fit u site agree.procedure.unit (inputs_at site.set agree.procedure.unit) ts ≡ true =
      arguments_spelled u site agree.procedure.unit (inputs_at site.set agree.procedure.unit) agree.procedure.inputs ts agree.procedure.taken ∙ call_right d a name ts receivers (then_ (receivers_first (below d a) role.Output f receivers) begun) agree in
      subst (λ (m : Meant). CallFits u site ts receivers m) (sym agree.procedure.meant) (agree.procedure.calls, fits, areas_right f (below d a) role.Output receivers begun agree.areas)
