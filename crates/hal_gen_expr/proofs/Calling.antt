-- The code of calls, as the program emits it, is what is to be emitted.
use Rattle.std.specs.Prelude.{ℕ, ◌+◌, Bool, true, false, List, [], ◌∷◌, ◌++◌, length, map, drop, get_or, Option, Some, None, Ok, Err, if◌then◌else◌}
use Rattle.std.specs.Option.{option_map, option_and_then}
use Rattle.std.proofs.Common.{◌≡◌, ◌<◌, refl, sym, ap, ◌∙◌, append-nil, add-one}
use Rattle.std.proofs.Math.Seq.{drop-cons}
use Rattle.hal_tree.specs.Rows.{expressions}
use Rattle.hal_base.specs.declared.refusal.Place.{Place}
use Rattle.hal_grammar.specs.Leaves.{Naming}
use Rattle.hal_code.specs.declared.instr.Instr.{Instr}
use Rattle.hal_code.specs.declared.instr.Instr.TheVariants as instr
use Rattle.hal_code.specs.declared.row.Run.{Run}
use Rattle.hal_values.specs.declared.value.Kind.{Kind}
use Rattle.hal_meaning.specs.Bodies.{Body}
use Rattle.hal_meaning.specs.Calls.{parameter_named, inputs_of, outputs_of}
use Rattle.hal_meaning.specs.Sets.{body_at}
use Rattle.hal_agreement.specs.Sites.{Site}
use Rattle.hal_grammar.specs.Expressions.{Expression, Expressions, MoreExpressions, Reference}
use Rattle.hal_meaning.specs.Variables.{is_whole}
use Rattle.hal_gen_expr.specs.ExpressionCode.{passed_code, behind_arguments, expression_code, arguments_code, whole_code, area_code}
use Rattle.hal_gen_expr.specs.Calling.{whole_argument_code, argument_code, spot_code, bound_by, stored_by, bind_code, binds_code, store_code, stores_code, is_called_so, numbered_call, call_code_to, call_code}
use Rattle.hal_gen_expr.specs.Emitting.{Emitted, onwards, emit}
use Rattle.hal_gen_expr.specs.declared.parameters.Parameter.{Parameter}
use Rattle.hal_gen_expr.specs.Parameters.{as_parameter}
use Rattle.hal_gen_expr.specs.Leaves.{behind_of, bound_of, binds_of, stored_of, parameters_of, passed_to, call_with, call_to, call_of}
use Rattle.hal_gen_expr.specs.Shapes.{runs_of}
use Rattle.hal_gen_expr.specs.Numbering.{Numbering, block_number}
use Rattle.hal_gen_expr.proofs.Growing.{append_append}

module _ (n : Numbering) (site : Site) (place : Place) (before : List Instr) where
  -- one behind the other
  both_behind : (first second : Option (List Instr)) → emit before place (behind_of first second) ≡ onwards (emit before place first) (λ middle. emit middle place second)
  both_behind None second = refl
  both_behind (Some is) None = refl
  both_behind (Some is) (Some js) = ap Ok (sym (append_append before is js))

  bound : (unit : ℕ) (names : List Naming) → binds_code site place unit before names ≡ emit before place (binds_of site unit names)
  unfolding binds_code
  bound unit [] = ap Ok (sym (append-nil before))
  bound unit (name ∷ names) =
      ap (λ r. onwards r (λ middle. bind_code site place unit middle name)) (bound unit names) ∙ sym (both_behind (binds_of site unit names) (bound_of site (parameter_named site.set unit name)))

  stored : (unit : ℕ) (names : List Naming) → stores_code n site place unit before names ≡ emit before place (parameters_of n site unit names)
  unfolding store_code stores_code
  stored unit [] = ap Ok (sym (append-nil before))
  stored unit (name ∷ names) =
      ap (λ r. onwards r (λ middle. store_code n site place unit middle name)) (stored unit names)
      ∙ sym (both_behind (parameters_of n site unit names) (stored_of n site (parameter_named site.set unit name)))

  one_behind : (i : Instr) (stores : Option (List Instr)) → onwards (emit before place stores) (λ middle. Ok (middle ++ (i ∷ []))) ≡ emit before place (option_map (λ js. js ++ (i ∷ [])) stores)
  one_behind i None = refl
  one_behind i (Some js) = ap Ok (append_append before js (i ∷ []))

-- the stores of parameters behind their binds, and the call
stores_behind : (n : Numbering) (site : Site) (place : Place) (i : Instr) (unit : ℕ) (names : List Naming) (begun : Emitted)
    → onwards begun (λ middle. onwards (stores_code n site place unit middle names) (λ late. Ok (late ++ (i ∷ []))))
    ≡ onwards (onwards begun (λ middle. emit middle place (parameters_of n site unit names))) (λ late. Ok (late ++ (i ∷ [])))
stores_behind n site place i unit names (Ok middle) = ap (λ r. onwards r (λ late. Ok (late ++ (i ∷ [])))) (stored n site place middle unit names)
stores_behind n site place i unit names (Err at) = refl

module _ (n : Numbering) (site : Site) (place : Place) (before : List Instr) where
  numbered_given : (body : Body) (number : Option ℕ) → numbered_call n site place before body number ≡ emit before place (option_and_then (call_with n site body) number)
  numbered_given body None = refl
  numbered_given body (Some number) =
      stores_behind n site place (instr.Call number) body.number (inputs_of body.head) (binds_code site place body.number before (outputs_of body.head))
      ∙ (ap (λ r. onwards (onwards r (λ middle. emit middle place (parameters_of n site body.number (inputs_of body.head)))) (λ late. Ok (late ++ (instr.Call number ∷ [])))) (bound n site place before body.number (outputs_of body.head))
      ∙ (ap (λ r. onwards r (λ late. Ok (late ++ (instr.Call number ∷ [])))) (sym (both_behind n site place before (binds_of site body.number (outputs_of body.head)) (parameters_of n site body.number (inputs_of body.head))))
      ∙ one_behind n site place before (instr.Call number) (passed_to n site body)))

  if_given : (b : Bool) (r : Emitted) (o : Option (List Instr)) → r ≡ emit before place o → (if b then r else Err place) ≡ emit before place (if b then o else None)
  if_given true r o same = same
  if_given false r o same = refl

  given_to : (function : Bool) (unit : ℕ) (body : Option Body) → call_code_to n site place before function unit body ≡ emit before place (option_and_then (call_to n site function unit) body)
  given_to function unit None = refl
  given_to function unit (Some body) =
      if_given (is_called_so function body.head) (numbered_call n site place before body (block_number n unit)) (option_and_then (call_with n site body) (block_number n unit)) (numbered_given body (block_number n unit))

  pub call_given : (function : Bool) (unit : ℕ) → call_code n site place before function unit ≡ emit before place (call_of n site function unit)
  call_given function unit = given_to function unit (body_at site.set unit)

-- what has code somewhere has it anywhere
pub coded : (before after : List Instr) (place : Place) (o : Option (List Instr)) → emit before place o ≡ Ok after → (is : List Instr) × (o ≡ Some is)
coded before after place None is = absurd (cc)
coded before after place (Some js) is = (js, refl)

pub uncoded_there : (before : List Instr) (place at : Place) (o : Option (List Instr)) → emit before place o ≡ Err at → (o ≡ None) × (at ≡ place)
uncoded_there before place at None is = (refl, sym (let same : place ≡ at = cc in same))
uncoded_there before place at (Some js) is = absurd (cc)

-- a call behind its arguments
pub behind_given : (place : Place) (arguments : Emitted) (middle is : List Instr) (o : Option (List Instr)) → arguments ≡ Ok middle → o ≡ Some is → behind_arguments place arguments o ≡ emit middle place o
behind_given place arguments middle is o there some =
    ap (λ a. behind_arguments place a o) there ∙ (ap (behind_arguments place (Ok middle)) some ∙ sym (ap (emit middle place) some))

pub behind_stopped : (place at : Place) (arguments : Emitted) (is : List Instr) (o : Option (List Instr)) → arguments ≡ Err at → o ≡ Some is → behind_arguments place arguments o ≡ Err at
behind_stopped place at arguments is o there some = ap (λ a. behind_arguments place a o) there ∙ ap (behind_arguments place (Err at)) some

pub behind_none : (place : Place) (arguments : Emitted) (o : Option (List Instr)) → o ≡ None → behind_arguments place arguments o ≡ Err place
behind_none place arguments o none = ap (behind_arguments place arguments) none

-- a parameter that was found
pub bind_given : (site : Site) (place : Place) (unit : ℕ) (before : List Instr) (name : Naming) (one : Parameter) → one ≡ as_parameter (parameter_named site.set unit name)
    → emit before place (bound_by site one) ≡ bind_code site place unit before name
bind_given site place unit before name one found = ap (λ (p : Parameter). emit before place (bound_by site p)) found

pub store_given : (n : Numbering) (site : Site) (place : Place) (unit : ℕ) (before : List Instr) (name : Naming) (one : Parameter) → one ≡ as_parameter (parameter_named site.set unit name)
    → emit before place (stored_by n site one) ≡ store_code n site place unit before name
unfolding store_code
store_given n site place unit before name one found = ap (λ (p : Parameter). emit before place (stored_by n site p)) found

-- an argument, by the shape of its parameter
pub argument_whole : (n : Numbering) (site : Site) (before : List Instr) (place : Place) (unit : ℕ) (name : Naming) (tree : Expression) → is_whole (parameter_named site.set unit name).shape ≡ true
    → whole_argument_code n site before place unit name tree ≡ argument_code n site before place unit name tree
argument_whole n site before place unit name tree is = sym (ap (λ (b : Bool). passed_code b (whole_argument_code n site before place unit name tree) (expression_code n site before tree)) is)

pub argument_plain : (n : Numbering) (site : Site) (before : List Instr) (place : Place) (unit : ℕ) (name : Naming) (tree : Expression) → is_whole (parameter_named site.set unit name).shape ≡ false
    → expression_code n site before tree ≡ argument_code n site before place unit name tree
argument_plain n site before place unit name tree is = sym (ap (λ (b : Bool). passed_code b (whole_argument_code n site before place unit name tree) (expression_code n site before tree)) is)

-- the kinds of the cells of a parameter that were found
pub whole_given : (n : Numbering) (site : Site) (before : List Instr) (place : Place) (unit : ℕ) (name : Naming) (tree : Expression) (runs : List (Run Kind)) → runs ≡ runs_of (parameter_named site.set unit name).shape
    → whole_code n site before place runs tree ≡ whole_argument_code n site before place unit name tree
whole_given n site before place unit name tree runs found = ap (λ some. whole_code n site before place some tree) found

pub spot_given : (n : Numbering) (site : Site) (before : List Instr) (unit : ℕ) (name : Naming) (receiver : Reference) (runs : List (Run Kind)) → runs ≡ runs_of (parameter_named site.set unit name).shape
    → area_code n site before runs receiver ≡ spot_code n site before unit name receiver
unfolding spot_code
spot_given n site before unit name receiver runs found = ap (λ some. area_code n site before some receiver) found

-- the first of those that are left
pub arguments_step : (n : Numbering) (site : Site) (before : List Instr) (place : Place) (unit : ℕ) (wanted : Emitted) (lefts : List Naming) (name : Naming) (more : List Naming) (trees : List Expression) (first : Expression) (rest : List Expression)
    → lefts ≡ name ∷ more → trees ≡ first ∷ rest → arguments_code n site before place unit lefts (expressions trees) ≡ wanted
    → wanted ≡ onwards (argument_code n site before place unit name first) (λ middle. arguments_code n site middle place unit more (expressions rest))
unfolding expressions
arguments_step n site before place unit wanted lefts name more trees first rest names is kept =
    sym kept
    ∙ (ap (λ l. arguments_code n site before place unit l (expressions trees)) names
    ∙ ap (λ t. arguments_code n site before place unit (name ∷ more) (expressions t)) is)

pub next_one : {X : Type 0} (xs : List X) (i : ℕ) (x : X) → i < length xs → x ≡ get_or xs i x → drop i xs ≡ x ∷ drop (i + 1) xs
next_one xs i x within is = drop-cons xs i x within ∙ (ap (λ n. get_or xs i x ∷ drop n xs) (sym (add-one i)) ∙ ap (λ y. y ∷ drop (i + 1) xs) (sym is))

pub next_mapped : {X Y : Type 0} (f : X → Y) (lent items : List X) (i : ℕ) (x : X) → lent ≡ items → i < length lent → x ≡ get_or lent i x → map f (drop i items) ≡ f x ∷ map f (drop (i + 1) items)
next_mapped f lent items i x same within is =
    ap (λ xs. map f (drop i xs)) (sym same) ∙ (ap (map f) (next_one lent i x within is) ∙ ap (λ xs. f x ∷ map f (drop (i + 1) xs)) same)
