-- PROCEDUREs that CALL names agree in a set that breaks no rule.
use Rattle.std.proofs.Common.{◌≡◌, ℕ, true, false, ◌||◌, List, Option, Some, None, slice_get, refl, sym, ap, ◌∙◌, inl, inr}
use Rattle.std.specs.Option.{option_and_then, is_some}
use Rattle.hal_grammar.specs.Expressions.{Expressions, Reference}
use Rattle.hal_grammar.specs.Leaves.{Naming}
use Rattle.hal_grammar.specs.Declarations.{Declaration, Declared}
use Rattle.hal_grammar.specs.Units.{Head, Program, Compool, Task, Procedure, Function}
use Rattle.hal_phrases.specs.Phrases.{Node, Phrase, OfFile, OfTemplate, OfUnit, OfParameter, OfItem, OfStructure, OfPart, OfLabel, OfTemporaryGroup, OfCall}
use Rattle.hal_names.specs.declared.key.Space.TheVariants as space
use Rattle.hal_names.specs.Keys.{key, declared_at}
use Rattle.hal_names.specs.Laws.{IsCounted}
use Rattle.hal_names.specs.Means.{means}
use Rattle.hal_scope.specs.declared.usage.Usage.TheVariants as usage
use Rattle.hal_scope.specs.declared.used.Use.{Use}
use Rattle.hal_scope.specs.Builtins.{builtin_named}
use Rattle.hal_scope.specs.Rules.{IsAmong, IsSound, rows, ruled}
use Rattle.hal_scope.specs.Sorts.{type_of, sort_of, sort_of_type, sort_of_head, used}
use Rattle.hal_scope.specs.Uses.{unless, sort_at, is_known_builtin, is_known_use, unknown, fits_declared, fits_named, fits_use, misused}
use Rattle.hal_types.specs.Rules.{type_rows}
use Rattle.hal_shapes.specs.Arguments.{head_of}
use Rattle.hal_agreement.specs.Sites.{Site}
use Rattle.hal_fit_expr.specs.Uses.{Uses}
use Rattle.hal_fit_rules.specs.Owned.{IsOwn}
use Rattle.hal_fit_rules.specs.Passing.{IsProcedure}
use Rattle.hal_fit_rules.specs.Passed.{ProcedureAgrees}
use Rattle.hal_fit_rules.specs.Valued.{HasConstants}
use Rattle.hal_fit_rules.proofs.Calling.{procedure_agrees}
use Rattle.hal_fit_rules.proofs.Unbroken.{unbroken, ruled_none}
use Rattle.hal_fit_names.specs.Named.{AreLeft, AreProcedures}
use Rattle.hal_fit_names.specs.Suited.{HasFitLiterals, AreDeclared, is_templated}
use Rattle.hal_fit_names.proofs.CalledBlocks.{used_meant}
use Rattle.hal_fit_names.proofs.MeantItems.{space_of}
use Rattle.hal_fit_names.proofs.Owning.{IsShown, Plain, Pooled, PooledConstant, PooledEvent, Written, own_number, shown_so}
use Rattle.hal_fit_names.proofs.Placing.{NodePlaced}
use Rattle.hal_fit_names.proofs.Suiting.{unless_true}
use Rattle.hal_fit_names.proofs.Usages.{no_builtin_call, no_call, uncalled}

module _ (u : Uses) (site : Site) (named : IsSound rows site.set.phrases) (sound : IsSound type_rows site.set.phrases) (counted : IsCounted site.set.phrases) (declared : AreDeclared site.set.phrases) (literals : HasFitLiterals site.set.phrases)
    (has : HasConstants site) (placed : (p : Phrase) → IsAmong p site.set.phrases → NodePlaced site.set.phrases p p.node) where
  -- a PROCEDURE that is named itself
  node_called : (name : List ℕ) (procedures : AreProcedures u site name) (own : IsOwn site name) (owner : ℕ) (q : Phrase) (n : Node) → own.phrase.node ≡ n → declared_at own.phrase.number own.phrase.around n ≡ Some (key space.Declared owner name)
      → is_templated site.set.phrases own.phrase n ≡ false → fits_declared site.set.phrases q usage.Called (sort_of n) ≡ true → IsProcedure u site own.phrase
  unfolding sort_of sort_of_type sort_of_head declared_at
  node_called name procedures own owner q (OfTemplate unit head declarations) is declares plain fits = absurd (cc)
  node_called name procedures own owner q (OfUnit unit (Program place) declarations) is declares plain fits = absurd (cc)
  node_called name procedures own owner q (OfUnit unit (Task place) declarations) is declares plain fits = absurd (cc)
  node_called name procedures own owner q (OfUnit unit (Compool place) declarations) is declares plain fits = absurd (cc)
  node_called name procedures own owner q (OfUnit unit (Procedure place inputs outputs mode) declarations) is declares plain fits = procedures.itself own.number own.phrase unit place inputs outputs mode declarations own.meant own.there is
  node_called name procedures own owner q (OfUnit unit (Function place inputs returns mode) declarations) is declares plain fits = absurd (cc)
  node_called name procedures own owner q (OfItem common item) is declares plain fits = absurd (no_call site.set.phrases q (type_of common item) fits)
  node_called name procedures own owner q (OfTemporaryGroup labels variable) is declares plain fits = absurd (cc)
  node_called name procedures own owner q (OfStructure structure parts) is declares plain fits = absurd (cc)
  node_called name procedures own owner q (OfLabel label) is declares plain fits = absurd (cc)
  node_called name procedures own owner q (OfFile prefaces unit) is declares plain fits = let other : Some space.Unit ≡ Some space.Declared = ap space_of declares in absurd (cc)
  node_called name procedures own owner q (OfParameter parameter output) is declares plain fits = let other : Some space.Parameter ≡ Some space.Declared = ap space_of declares in absurd (cc)
  node_called name procedures own owner q (OfPart bottom part) is declares plain fits = let other : Some space.Part ≡ Some space.Declared = ap space_of declares in absurd (cc)
  node_called name procedures own owner q other is declares plain fits = absurd (cc)

  -- a PROCEDURE whose template is written
  written_called : (name : Naming) (procedures : AreProcedures u site name.name) (k : ℕ) (q p : Phrase) (head : Head) (template : Naming) (declarations : List Declaration) → means site.set.phrases site.block name.name ≡ Some k
      → slice_get site.set.phrases k ≡ Some p → p.node ≡ OfTemplate template head declarations → fits_declared site.set.phrases q usage.Called (Some (sort_of_head head)) ≡ true
      → ProcedureAgrees u site site.set.phrases site.block name
  unfolding head_of sort_of_head
  written_called name procedures k q p (Procedure place inputs outputs mode) template declarations meant there is fits =
      let stands = procedures.written k p template place inputs outputs mode declarations meant there is in
      record {
        declared = k;
        means_it = meant;
        phrase = p;
        there = there;
        place = place;
        inputs = inputs;
        outputs = outputs;
        mode = mode;
        head = ap head_of is;
        unit = stands.unit.number;
        meant = used_meant u site name.name k inputs meant stands;
        taken = stands.taken;
        calls = stands.calls;
        parameters = stands.parameters;
      }
  written_called name procedures k q p (Program place) template declarations meant there is fits = uncalled site.set.phrases q (Program place) refl fits
  written_called name procedures k q p (Task place) template declarations meant there is fits = uncalled site.set.phrases q (Task place) refl fits
  written_called name procedures k q p (Compool place) template declarations meant there is fits = uncalled site.set.phrases q (Compool place) refl fits
  written_called name procedures k q p (Function place inputs returns mode) template declarations meant there is fits = absurd (cc)

  -- what is declared and may be called
  called_as : (name : Naming) (procedures : AreProcedures u site name.name) (owner k : ℕ) (q p : Phrase) → means site.set.phrases site.block name.name ≡ Some k → slice_get site.set.phrases k ≡ Some p
      → declared_at p.number p.around p.node ≡ Some (key space.Declared owner name.name) → IsShown site.set.phrases k p → fits_declared site.set.phrases q usage.Called (sort_of p.node) ≡ true → ProcedureAgrees u site site.set.phrases site.block name
  unfolding sort_of sort_of_type
  called_as name procedures owner k q p meant there declares (Plain plain) fits =
      let own : IsOwn site name.name = record { number = k; meant = meant; phrase = p; there = there; own = own_number site.set.phrases k p there plain } in
      procedure_agrees u site name own counted (node_called name.name procedures own owner q p.node refl declares plain fits)
  called_as name procedures owner k q p meant there declares (Written template head declarations is) fits =
      written_called name procedures k q p head template declarations meant there is (ap (λ n. fits_declared site.set.phrases q usage.Called (sort_of n)) (sym is) ∙ fits)
  called_as name procedures owner k q p meant there declares (Pooled common item is plain) fits =
      absurd (no_call site.set.phrases q (type_of common item) (ap (λ n. fits_declared site.set.phrases q usage.Called (sort_of n)) (sym is) ∙ fits))
  called_as name procedures owner k q p meant there declares (PooledEvent common item is eventful stands) fits =
      absurd (no_call site.set.phrases q (type_of common item) (ap (λ n. fits_declared site.set.phrases q usage.Called (sort_of n)) (sym is) ∙ fits))
  called_as name procedures owner k q p meant there declares (PooledConstant common item is eventless constant stands) fits =
      absurd (no_call site.set.phrases q (type_of common item) (ap (λ n. fits_declared site.set.phrases q usage.Called (sort_of n)) (sym is) ∙ fits))

  -- what a name means that may be called
  called_by_name : (name : Naming) (left : AreLeft site name.name) (procedures : AreProcedures u site name.name) (q : Phrase) (o : Option ℕ) → means site.set.phrases site.block name.name ≡ o → (is_some o || is_known_builtin name.name usage.Called) ≡ true
      → elim o [ None ↦ fits_named name.name usage.Called | Some k ↦ fits_declared site.set.phrases q usage.Called (sort_at site.set.phrases k) ] ≡ true → ProcedureAgrees u site site.set.phrases site.block name
  called_by_name name left procedures q None meant known_ fits = no_builtin_call (builtin_named name.name) known_ fits
  called_by_name name left procedures q (Some k) meant known_ fits =
      let is_declared = declared site.block name.name k meant in
      let first = is_declared.1 in
      let p : Phrase = first.declaring in
      called_as name procedures is_declared.0 k q p meant first.there first.declares (shown_so site.set.phrases k p p.node refl (λ common item is_item. left.pooled k p common item meant first.there is_item))
      (ap (λ o. fits_declared site.set.phrases q usage.Called (option_and_then (λ (x : Phrase). sort_of x.node) o)) (sym first.there) ∙ fits)

  -- the PROCEDURE of a CALL agrees
  pub call_agrees : (q : Phrase) (name : Naming) (ts : Expressions) (receivers : List Reference) → AreLeft site name.name → AreProcedures u site name.name → IsAmong q site.set.phrases → q.node ≡ OfCall name ts receivers → q.around.block ≡ site.block
      → ProcedureAgrees u site site.set.phrases site.block name
  unfolding unknown misused used
  call_agrees q name ts receivers left procedures within is here =
      let ps : List Phrase = site.set.phrases in
      let block : ℕ = q.around.block in
      let no_unknown = ruled_none 601 (unknown ps q) (unbroken rows ps named q within (λ qs o. ruled 601 (unknown qs o)) (inl refl)) in
      let no_misuse = ruled_none 603 (misused ps q) (unbroken rows ps named q within (λ qs o. ruled 603 (misused qs o)) (inr (inr (inl refl)))) in
      let known_ : (is_some (means ps block name.name) || is_known_builtin name.name usage.Called) ≡ true = unless_true (is_some (means ps block name.name) || is_known_builtin name.name usage.Called) name.place
      (ap (λ n. option_and_then (λ (v : Use). unless (is_known_use ps block v) v.place) (used n)) (sym is) ∙ no_unknown) in
      let fits : elim (means ps block name.name) [ None ↦ fits_named name.name usage.Called | Some k ↦ fits_declared ps q usage.Called (sort_at ps k) ] ≡ true = unless_true (elim (means ps block name.name) [ None ↦ fits_named name.name usage.Called | Some k ↦ fits_declared ps q usage.Called (sort_at ps k) ]) name.place
      (ap (λ n. option_and_then (λ (v : Use). unless (fits_use ps q v) v.place) (used n)) (sym is) ∙ no_misuse) in
      called_by_name name left procedures q (means ps site.block name.name) refl (ap (λ b. is_some (means ps b name.name) || is_known_builtin name.name usage.Called) (sym here) ∙ known_)
      (ap (λ b. elim (means ps b name.name) [ None ↦ fits_named name.name usage.Called | Some k ↦ fits_declared ps q usage.Called (sort_at ps k) ]) (sym here) ∙ fits)
