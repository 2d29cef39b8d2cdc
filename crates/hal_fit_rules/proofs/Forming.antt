-- Call forms whose names agree are known, where their arguments are and no rule of types is broken.
use Rattle.std.proofs.Common.{◌≡◌, ℕ, ◌==◌, Bool, true, false, List, [], length, Option, Some, None, slice_get, inl, inr, if◌then◌else◌, refl, sym, ap, ◌∙◌, subst}
use Rattle.std.specs.Option.{option_and_then, option_or}
use Rattle.hal_base.specs.declared.refusal.Place.{Place}
use Rattle.hal_grammar.specs.Leaves.{Naming}
use Rattle.hal_grammar.specs.Expressions.{Expression, Called, Referred, Expressions, NoExpressions, MoreExpressions, Reference, Refers, place_of}
use Rattle.hal_grammar.specs.Units.{Head, Program, Compool, Task, Procedure, Function}
use Rattle.hal_phrases.specs.declared.around.Around.{Around}
use Rattle.hal_phrases.specs.declared.role.Role.{Role}
use Rattle.hal_phrases.specs.declared.role.Role.TheVariants as role
use Rattle.hal_phrases.specs.Phrases.{Node, Phrase, phrase, add, OfTemplate, OfUnit, OfItem, OfTemporaryGroup, OfCallForm}
use Rattle.hal_phrases.specs.GatheredExpressions.{gathered, gathered_all}
use Rattle.hal_names.specs.Means.{means}
use Rattle.hal_scope.specs.declared.builtin.Builtin.{Builtin}
use Rattle.hal_scope.specs.declared.builtin.Builtin.TheVariants as builtin
use Rattle.hal_scope.specs.Builtins.{builtin_named, form_of}
use Rattle.hal_scope.specs.Rules.{IsSound, ruled}
use Rattle.hal_scope.specs.Uses.{unless}
use Rattle.hal_kinds.specs.declared.class.Class.{Class}
use Rattle.hal_kinds.specs.declared.class.Class.TheVariants as class
use Rattle.hal_kinds.specs.declared.data.Data.{Data}
use Rattle.hal_kinds.specs.Attributes.{count_of, no_more}
use Rattle.hal_kinds.specs.Classes.{class_of, class_of_function, class_of_called_head, class_of_called, class_of_call}
use Rattle.hal_kinds.specs.Data.{data_at}
use Rattle.hal_kinds.specs.Subscripts.{choice, class_in}
use Rattle.hal_operands.specs.declared.want.Want.{Want}
use Rattle.hal_operands.specs.declared.want.Want.TheVariants as want
use Rattle.hal_operands.specs.Wants.{at, misfit, misfit_of_value, misfit_of_condition, misfit_of_whole, misfit_at}
use Rattle.hal_uses.specs.Calls.{signature_of, listed_fault, second_fault, size_fault, formed_fault, builtin_fault, condition_fault, head_fault, factor_fault, product_fault, is_raised, declared_fault, miscalled}
use Rattle.hal_constants.specs.Known.{known}
use Rattle.hal_constants.specs.Naming.{operation_of}
use Rattle.hal_constants.specs.declared.operation.Operation.TheVariants as operation
use Rattle.hal_operations.specs.declared.operation.Op1.{Op1}
use Rattle.hal_operations.specs.declared.operation.Op1.TheVariants as op1
use Rattle.hal_operations.specs.declared.operation.Op2.{Op2}
use Rattle.hal_operations.specs.declared.operation.Op2.TheVariants as op2
use Rattle.hal_shapes.specs.Arguments.{head_of, form_fits, form_fault, misshaped}
use Rattle.hal_types.specs.Rules.{size_rows, use_rows, type_rows}
use Rattle.hal_meaning.specs.Expressions.{inputs_at, size_argument, size_referred, size_value}
use Rattle.hal_meaning.specs.Variables.{Meant, MeantData, MeantConstant, MeantEvent, MeantBlock, MeantBuiltin, MeantNothing, name_meant}
use Rattle.hal_code.specs.Sorts.{Sort, I, B, T, one_gives, two_give}
use Rattle.hal_agreement.specs.Sites.{Site, here_at}
use Rattle.hal_fit_expr.specs.Uses.{Uses}
use Rattle.hal_fit_expr.specs.Sorted.{sort_of_value, sort_of_call, called_sort, sort_of_expression, folded_sort, built_sort, arguments_fit}
use Rattle.hal_fit_classes.specs.Kinded.{sort_of_class}
use Rattle.hal_fit_classes.proofs.Pairing.{integer_sort, bits_sort}
use Rattle.hal_fit_rules.specs.Begun.{AreFirst}
use Rattle.hal_fit_rules.specs.Leaves.{is_value_role, IsKnown, HaveKnownLeaves}
use Rattle.hal_fit_rules.specs.Agreeing.{HeadAgrees, FactorAgrees, NodeFormed, PhraseFormed, DeclarationFormed, FormAgrees}
use Rattle.hal_fit_rules.proofs.Beginning.{then_, among}
use Rattle.hal_fit_rules.proofs.BegunExpressions.{expressions_first}
use Rattle.hal_fit_rules.proofs.Unbroken.{no_rule, ruled_none, unbroken, of_uses, of_sizes}
use Rattle.hal_fit_rules.proofs.Cells.{same_sort}
use Rattle.hal_fit_rules.proofs.Choosing.{one_chosen}
use Rattle.hal_fit_rules.proofs.Passing.{arguments_spelled, AreAreas, argument_known, arguments_right}

text_sort : (c : Class) → misfit want.Text c ≡ None → sort_of_class c ≡ Some T
unfolding misfit misfit_of_value misfit_of_condition misfit_of_whole
text_sort class.Text fits = refl
text_sort class.Integer fits = absurd (cc)
text_sort class.Bits fits = absurd (cc)
text_sort class.Condition fits = absurd (cc)
text_sort class.Structure fits = absurd (cc)
text_sort class.Array fits = absurd (cc)

known_of : (c : Class) (sort : Option Sort) (t : Sort) → sort_of_class c ≡ Some t → sort ≡ Some t → IsKnown (Some c) sort
known_of c sort t worth is = record { found = c; known = refl; sorted = λ one s of_one wanted. is ∙ (sym worth ∙ (ap (option_and_then sort_of_class) of_one ∙ wanted)) }

unless_none : (b : Bool) (place : Place) → unless b place ≡ None → b ≡ true
unless_none true place none = refl
unless_none false place none = absurd (cc)

first_none : {X : Type 0} (o p : Option X) → option_or o p ≡ None → o ≡ None
first_none None p none = refl
first_none (Some x) p none = absurd (cc)

second_none : {X : Type 0} (o p : Option X) → option_or o p ≡ None → p ≡ None
second_none None p none = none
second_none (Some x) p none = absurd (cc)

counted_right : (counts : Bool) (fault : ℕ × Place) (rest : Option (ℕ × Place)) → (if counts then rest else Some fault) ≡ None → (counts ≡ true) × (rest ≡ None)
counted_right true fault rest none = (refl, none)
counted_right false fault rest none = absurd (cc)

module _ (u : Uses) (site : Site) where
  -- SIZE is an integer
  size_meant : (m : Meant) (path : List Naming) → sort_of_value (size_value m path) ≡ Some I
  size_meant (MeantData at shape) path = refl
  size_meant (MeantConstant v) path = refl
  size_meant (MeantEvent e) path = refl
  size_meant (MeantBlock unit) path = refl
  size_meant (MeantBuiltin b) path = refl
  size_meant MeantNothing path = refl

  size_of_reference : (reference : Reference) → sort_of_value (size_referred (here_at site) reference []) ≡ Some I
  size_of_reference (Refers place name path subscript) = size_meant (name_meant (here_at site) name []) path

  size_first : (first : Expression) (others : Expressions) → sort_of_value (size_argument (here_at site) (MoreExpressions first others) []) ≡ Some I
  size_first (Referred reference) others = size_of_reference reference
  size_first other others = refl

  size_sorted : (ts : Expressions) → sort_of_value (size_argument (here_at site) ts []) ≡ Some I
  size_sorted NoExpressions = refl
  size_sorted (MoreExpressions first others) = size_first first others

  -- the sort of a call form by what its name means
  abbrev form_sort : Expressions → Meant → Option Sort
  form_sort ts m =
      called_sort u site (sort_of_value (size_argument (here_at site) ts [])) (λ s. folded_sort u site op2.Product s ts) (λ op. built_sort u site op ts) (λ unit. arguments_fit u site unit (inputs_at site.set unit) ts) m

  module _ (ps : List Phrase) (block : ℕ) where
    -- an argument of a known class and sort
    abbrev IsArgument : Expression → Type 0
    IsArgument t = (c : Class) × (class_of ps block t ≡ Some c) × ((s : Sort) → sort_of_class c ≡ Some s → sort_of_expression u site t ≡ Some s)

    abbrev AreArguments : Expressions → Type 0
    AreArguments NoExpressions = Unit {0}
    AreArguments (MoreExpressions first others) = IsArgument first × AreArguments others

    -- one of which this is wanted has the sort of it
    wanted_sort : (w : Want) (s : Sort) (t : Expression) → ((c : Class) → misfit w c ≡ None → sort_of_class c ≡ Some s) → IsArgument t → misfit_at ps block w t ≡ None → sort_of_expression u site t ≡ Some s
    wanted_sort w s t gives is none =
        is.2 s (gives is.0 (ap (option_and_then (misfit w)) (sym is.1) ∙ no_rule (place_of t) (option_and_then (misfit w) (class_of ps block t)) none))

    -- a built-in function of one argument
    one_built : (place : Place) (w : Want) (op : Op1) (s t : Sort) (ts : Expressions) → ((c : Class) → misfit w c ≡ None → sort_of_class c ≡ Some s) → one_gives op s ≡ Some t → AreArguments ts
        → listed_fault ps block place w None ts ≡ None → built_sort u site (operation.One op) ts ≡ Some t
    unfolding listed_fault no_more
    one_built place w op s t NoExpressions gives result are none = absurd (cc)
    one_built place w op s t (MoreExpressions x NoExpressions) gives result are none = ap (option_and_then (one_gives op)) (wanted_sort w s x gives are.0 none) ∙ result
    one_built place w op s t (MoreExpressions x (MoreExpressions y others)) gives result are none = absurd (cc)

    -- of two
    two_built : (place : Place) (w v : Want) (op : Op2) (s t r : Sort) (ts : Expressions) → ((c : Class) → misfit w c ≡ None → sort_of_class c ≡ Some s) → ((c : Class) → misfit v c ≡ None → sort_of_class c ≡ Some t)
        → two_give op s t ≡ Some r → AreArguments ts → listed_fault ps block place w (Some v) ts ≡ None → built_sort u site (operation.Two op) ts ≡ Some r
    unfolding listed_fault second_fault no_more
    two_built place w v op s t r NoExpressions gives also result are none = absurd (cc)
    two_built place w v op s t r (MoreExpressions x NoExpressions) gives also result are none = absurd (cc)
    two_built place w v op s t r (MoreExpressions x (MoreExpressions y NoExpressions)) gives also result are none =
        ap (option_and_then (λ a. option_and_then (two_give op a) (sort_of_expression u site y))) (wanted_sort w s x gives are.0 (first_none (misfit_at ps block w x) (misfit_at ps block v y) none))
        ∙ (ap (option_and_then (two_give op s)) (wanted_sort v t y also are.1.0 (second_none (misfit_at ps block w x) (misfit_at ps block v y) none)) ∙ result)
    two_built place w v op s t r (MoreExpressions x (MoreExpressions y (MoreExpressions z others))) gives also result are none = absurd (cc)

    -- arguments of a built-in function with a list
    abbrev listed_of : Place → Builtin → Expressions → Option (ℕ × Place)
    listed_of place b ts = listed_fault ps block place (signature_of b).first (signature_of b).second ts

    builtin_formed : (place : Place) (b : Builtin) (ts : Expressions) → AreArguments ts → formed_fault ps block place b (form_of b) ts ≡ None → IsKnown (class_of_function b) (form_sort ts (MeantBuiltin b))
    unfolding formed_fault signature_of class_of_function operation_of
    builtin_formed place builtin.Abs ts are none =
        known_of class.Integer (built_sort u site (operation.One op1.Abs) ts) I refl (one_built place want.Integer op1.Abs I I ts integer_sort refl are (first_none (listed_of place builtin.Abs ts) (size_fault ps block builtin.Abs ts) none))
    builtin_formed place builtin.Signum ts are none =
        known_of class.Integer (built_sort u site (operation.One op1.Signum) ts) I refl (one_built place want.Integer op1.Signum I I ts integer_sort refl are (first_none (listed_of place builtin.Signum ts) (size_fault ps block builtin.Signum ts) none))
    builtin_formed place builtin.Odd ts are none =
        known_of class.Bits (built_sort u site (operation.One op1.Odd) ts) B refl (one_built place want.Integer op1.Odd I B ts integer_sort refl are (first_none (listed_of place builtin.Odd ts) (size_fault ps block builtin.Odd ts) none))
    builtin_formed place builtin.Length ts are none =
        known_of class.Integer (built_sort u site (operation.One op1.Length) ts) I refl (one_built place want.Text op1.Length T I ts text_sort refl are (first_none (listed_of place builtin.Length ts) (size_fault ps block builtin.Length ts) none))
    builtin_formed place builtin.Trim ts are none =
        known_of class.Text (built_sort u site (operation.One op1.Trim) ts) T refl (one_built place want.Text op1.Trim T T ts text_sort refl are (first_none (listed_of place builtin.Trim ts) (size_fault ps block builtin.Trim ts) none))
    builtin_formed place builtin.Div ts are none =
        known_of class.Integer (built_sort u site (operation.Two op2.Div) ts) I refl
        (two_built place want.Integer want.Integer op2.Div I I I ts integer_sort integer_sort refl are (first_none (listed_of place builtin.Div ts) (size_fault ps block builtin.Div ts) none))
    builtin_formed place builtin.Mod ts are none =
        known_of class.Integer (built_sort u site (operation.Two op2.Mod) ts) I refl
        (two_built place want.Integer want.Integer op2.Mod I I I ts integer_sort integer_sort refl are (first_none (listed_of place builtin.Mod ts) (size_fault ps block builtin.Mod ts) none))
    builtin_formed place builtin.Remainder ts are none =
        known_of class.Integer (built_sort u site (operation.Two op2.Remainder) ts) I refl
        (two_built place want.Integer want.Integer op2.Remainder I I I ts integer_sort integer_sort refl are (first_none (listed_of place builtin.Remainder ts) (size_fault ps block builtin.Remainder ts) none))
    builtin_formed place builtin.Shl ts are none =
        known_of class.Integer (built_sort u site (operation.Two op2.Shl) ts) I refl
        (two_built place want.Integer want.Integer op2.Shl I I I ts integer_sort integer_sort refl are (first_none (listed_of place builtin.Shl ts) (size_fault ps block builtin.Shl ts) none))
    builtin_formed place builtin.Shr ts are none =
        known_of class.Integer (built_sort u site (operation.Two op2.Shr) ts) I refl
        (two_built place want.Integer want.Integer op2.Shr I I I ts integer_sort integer_sort refl are (first_none (listed_of place builtin.Shr ts) (size_fault ps block builtin.Shr ts) none))
    builtin_formed place builtin.Index ts are none =
        known_of class.Integer (built_sort u site (operation.Two op2.Index) ts) I refl
        (two_built place want.Text want.Text op2.Index T T I ts text_sort text_sort refl are (first_none (listed_of place builtin.Index ts) (size_fault ps block builtin.Index ts) none))
    builtin_formed place builtin.Ljust ts are none =
        known_of class.Text (built_sort u site (operation.Two op2.Ljust) ts) T refl
        (two_built place want.Text want.Integer op2.Ljust T I T ts text_sort integer_sort refl are (first_none (listed_of place builtin.Ljust ts) (size_fault ps block builtin.Ljust ts) none))
    builtin_formed place builtin.Rjust ts are none =
        known_of class.Text (built_sort u site (operation.Two op2.Rjust) ts) T refl
        (two_built place want.Text want.Integer op2.Rjust T I T ts text_sort integer_sort refl are (first_none (listed_of place builtin.Rjust ts) (size_fault ps block builtin.Rjust ts) none))
    builtin_formed place builtin.Xor ts are none =
        known_of class.Bits (built_sort u site (operation.Two op2.Xor) ts) B refl
        (two_built place want.Bits want.Bits op2.Xor B B B ts bits_sort bits_sort refl are (first_none (listed_of place builtin.Xor ts) (size_fault ps block builtin.Xor ts) none))
    builtin_formed place builtin.Size ts are none = known_of class.Integer (sort_of_value (size_argument (here_at site) ts [])) I refl (size_sorted ts)
    builtin_formed place builtin.Errgrp ts are none = absurd (cc)
    builtin_formed place builtin.Errnum ts are none = absurd (cc)
    builtin_formed place builtin.Runtime ts are none = absurd (cc)
    builtin_formed place builtin.Max ts are none = absurd (cc)
    builtin_formed place builtin.Min ts are none = absurd (cc)
    builtin_formed place builtin.Prod ts are none = absurd (cc)
    builtin_formed place builtin.Sum ts are none = absurd (cc)

    -- a factor of which no rule is broken is an integer
    factor_integer : (place : Place) (found : Option Data) (d : Data) → found ≡ Some d → factor_fault place found ≡ None → sort_of_class d.class ≡ Some I
    factor_integer place found d is none =
        (one_chosen d (choice 0 0 0 false false) I (integer_sort (class_in d (choice 0 0 0 false false))
        (ap (option_and_then (λ (e : Data). misfit want.Integer (class_in e (choice 0 0 0 false false)))) (sym is)
        ∙ no_rule place (option_and_then (λ (e : Data). misfit want.Integer (class_in e (choice 0 0 0 false false))) found) none))).1

    no_bits : (place : Place) (found : Option Data) (d : Data) → found ≡ Some d → sort_of_class d.class ≡ Some B → factor_fault place found ≡ None → ⊥
    no_bits place found d is bits none = let same : B ≡ I = same_sort B I (sym bits ∙ factor_integer place found d is none) in cc

    factor_sorted : (place : Place) (found : Option Data) (m : Meant) (ts : Expressions) → FactorAgrees u site found m → factor_fault place found ≡ None → folded_sort u site op2.Product I ts ≡ Some I
        → form_sort ts m ≡ Some I
    factor_sorted place found (MeantData at shape) ts agree none folds =
        ap (λ s. folded_sort u site op2.Product s ts) (agree.sorted I (factor_integer place found agree.declared agree.known none)) ∙ folds
    factor_sorted place found (MeantConstant v) ts agree none folds =
        ap (option_and_then (λ s. folded_sort u site op2.Product s ts)) (agree.sorted ∙ (sym agree.class ∙ factor_integer place found agree.declared agree.known none)) ∙ folds
    factor_sorted place found (MeantEvent e) ts agree none folds = absurd (no_bits place found agree.0 agree.1 agree.2 none)
    factor_sorted place found (MeantBlock unit) ts agree none folds = absurd (no_bits place found agree.0 agree.1 agree.2 none)
    factor_sorted place found (MeantBuiltin b) ts agree none folds = absurd (no_bits place found agree.0 agree.1 agree.2 none)
    factor_sorted place found MeantNothing ts agree none folds = absurd (no_bits place found agree.0 agree.1 agree.2 none)

    -- the product of data and a parenthesis
    product_formed : (place : Place) (found : Option Data) (m : Meant) (raised : Bool) (ts : Expressions) → AreArguments ts → FactorAgrees u site found m → product_fault ps block place found raised ts ≡ None
        → IsKnown (Some class.Integer) (form_sort ts m)
    unfolding product_fault no_more
    product_formed place found m true ts are agree none = absurd (cc)
    product_formed place found m false NoExpressions are agree none = absurd (cc)
    product_formed place found m false (MoreExpressions x (MoreExpressions y others)) are agree none = absurd (cc)
    product_formed place found m false (MoreExpressions x NoExpressions) are agree none =
        known_of class.Integer (form_sort (MoreExpressions x NoExpressions) m) I refl
        (factor_sorted place found m (MoreExpressions x NoExpressions) agree (first_none (factor_fault place found) (misfit_at ps block want.Integer x) none)
        (ap (λ o. option_and_then (λ t. folded_sort u site op2.Product t NoExpressions) (option_and_then (two_give op2.Product I) o))
        (wanted_sort want.Integer I x integer_sort are.0 (second_none (factor_fault place found) (misfit_at ps block want.Integer x) none))))

  module _ (ps : List Phrase) (sound : IsSound type_rows ps) where
    arguments_known : (d : List Phrase) (a : Around) (r : Role) (ts : Expressions) → is_value_role r ≡ true → AreFirst (gathered_all d a r ts) ps → HaveKnownLeaves u site ps a.block ts → AreArguments ps a.block ts
    unfolding gathered_all
    arguments_known d a r NoExpressions value begun leaves = tt
    arguments_known d a r (MoreExpressions first others) value begun leaves =
        (argument_known u site ps sound d a r first value (then_ (expressions_first (gathered d a r first) a r others) begun) leaves.0, arguments_known (gathered d a r first) a r others value begun leaves.1)

    -- the call form, in this phrase, of what a phrase declares with this number
    module _ (d : List Phrase) (a : Around) (p : Phrase) (same : p.around.block ≡ a.block) (place : Place) (ts : Expressions) (begun : AreFirst (gathered_all d a role.Argument ts) ps) (leaves : HaveKnownLeaves u site ps a.block ts)
        (areas : AreAreas u site ps a.block ts) where
      head_formed : (k : ℕ) (head : Head) (m : Meant) → HeadAgrees u site ps k head m → head_fault ps a.block place head ts ≡ None → form_fits ps (known ps) p k ts head ≡ true → IsKnown (class_of_called_head head) (form_sort ts m)
      unfolding head_fault form_fits class_of_called_head
      head_formed k (Function at_ inputs returns mode) (MeantBlock unit) agree none fits =
          let counts = counted_right (length inputs == count_of ts) (705, place) (condition_fault ps a.block ts) none in
          let right : arguments_fit u site unit (inputs_at site.set unit) ts ≡ true =
          arguments_spelled u site unit (inputs_at site.set unit) inputs ts agree.taken
          ∙ arguments_right u site ps sound p d a role.Argument k unit inputs ts same refl begun agree.parameters leaves areas counts.1 counts.0 fits in
          record { found = agree.gives.found; known = agree.gives.known; sorted = λ one s of_one worth. ap (λ b. if b then sort_of_call u site unit else None) right ∙ agree.gives.sorted one s of_one worth }
      head_formed k (Function at_ inputs returns mode) (MeantData at shape) agree none fits = absurd agree
      head_formed k (Function at_ inputs returns mode) (MeantConstant v) agree none fits = absurd agree
      head_formed k (Function at_ inputs returns mode) (MeantEvent e) agree none fits = absurd agree
      head_formed k (Function at_ inputs returns mode) (MeantBuiltin b) agree none fits = absurd agree
      head_formed k (Function at_ inputs returns mode) MeantNothing agree none fits = absurd agree
      head_formed k (Program at_) m agree none fits = absurd (cc)
      head_formed k (Compool at_) m agree none fits = absurd (cc)
      head_formed k (Task at_) m agree none fits = absurd (cc)
      head_formed k (Procedure at_ inputs outputs mode) m agree none fits = absurd (cc)

      node_formed : (k : ℕ) (q : Phrase) (n : Node) (m : Meant) → NodeFormed u site ps k q n m → declared_fault ps p place ts q n ≡ None
          → option_and_then (λ (head : Head). unless (form_fits ps (known ps) p k ts head) place) (head_of n) ≡ None → IsKnown (class_of_called n) (form_sort ts m)
      unfolding declared_fault head_of class_of_called
      node_formed k q (OfTemplate name head declarations) m agree none fits =
          head_formed k head m agree (ap (λ b. head_fault ps b place head ts) (sym same) ∙ none) (unless_none (form_fits ps (known ps) p k ts head) place fits)
      node_formed k q (OfUnit name head declarations) m agree none fits =
          head_formed k head m agree (ap (λ b. head_fault ps b place head ts) (sym same) ∙ none) (unless_none (form_fits ps (known ps) p k ts head) place fits)
      node_formed k q (OfItem common item) m agree none fits =
          product_formed ps a.block place (data_at ps q [] (OfItem common item)) m (is_raised ps p.around.parent) ts (arguments_known d a role.Argument ts refl begun leaves) agree
          (ap (λ b. product_fault ps b place (data_at ps q [] (OfItem common item)) (is_raised ps p.around.parent) ts) (sym same) ∙ none)
      node_formed k q (OfTemporaryGroup labels variable) m agree none fits =
          product_formed ps a.block place (data_at ps q [] (OfTemporaryGroup labels variable)) m (is_raised ps p.around.parent) ts (arguments_known d a role.Argument ts refl begun leaves) agree
          (ap (λ b. product_fault ps b place (data_at ps q [] (OfTemporaryGroup labels variable)) (is_raised ps p.around.parent) ts) (sym same) ∙ none)
      node_formed k q other m agree none fits = absurd (cc)

      phrase_formed : (k : ℕ) (o : Option Phrase) (m : Meant) → PhraseFormed u site ps k o m → option_and_then (λ (q : Phrase). declared_fault ps p place ts q q.node) o ≡ None
          → option_and_then (λ (head : Head). unless (form_fits ps (known ps) p k ts head) place) (option_and_then (λ (q : Phrase). head_of q.node) o) ≡ None
          → IsKnown (option_and_then (λ (q : Phrase). class_of_called q.node) o) (form_sort ts m)
      phrase_formed k None m agree none fits = absurd agree
      phrase_formed k (Some q) m agree none fits = node_formed k q q.node m agree none fits

      -- a built-in function
      named_formed : (name : List ℕ) (b : Builtin) → builtin_named name ≡ Some b → builtin_fault ps p.around.block place name ts ≡ None
          → IsKnown (option_and_then class_of_function (builtin_named name)) (form_sort ts (MeantBuiltin b))
      named_formed name b is none =
          subst (λ (o : Option Builtin). IsKnown (option_and_then class_of_function o) (form_sort ts (MeantBuiltin b))) (sym is)
          (builtin_formed ps a.block place b ts (arguments_known d a role.Argument ts refl begun leaves)
          (ap (option_and_then (λ (one : Builtin). formed_fault ps a.block place one (form_of one) ts)) (sym is)
          ∙ (ap (λ k. option_and_then (λ (one : Builtin). formed_fault ps k place one (form_of one) ts) (builtin_named name)) (sym same) ∙ none)))

      declared_formed : (name : List ℕ) (o : Option ℕ) (m : Meant) → DeclarationFormed u site ps name o m
          → ◌≡◌ {A = Option (ℕ × Place)} (elim o [ None ↦ builtin_fault ps p.around.block place name ts | Some k ↦ option_and_then (λ (q : Phrase). declared_fault ps p place ts q q.node) (slice_get ps k) ]) None
          → option_and_then (form_fault ps (known ps) p place ts) o ≡ None
          → IsKnown (elim o [ None ↦ option_and_then class_of_function (builtin_named name) | Some k ↦ option_and_then (λ (q : Phrase). class_of_called q.node) (slice_get ps k) ]) (form_sort ts m)
      declared_formed name None (MeantBuiltin b) agree none fits = named_formed name b agree none
      declared_formed name None (MeantData at shape) agree none fits = absurd agree
      declared_formed name None (MeantConstant v) agree none fits = absurd agree
      declared_formed name None (MeantEvent e) agree none fits = absurd agree
      declared_formed name None (MeantBlock unit) agree none fits = absurd agree
      declared_formed name None MeantNothing agree none fits = absurd agree
      declared_formed name (Some k) m agree none fits = phrase_formed k (slice_get ps k) m agree none fits

    -- a call form
    pub call_known : (d : List Phrase) (a : Around) (place : Place) (name : List ℕ) (ts : Expressions) → AreFirst (gathered_all (add d a (OfCallForm place name ts)) a role.Argument ts) ps → FormAgrees u site ps a.block name
        → HaveKnownLeaves u site ps a.block ts → AreAreas u site ps a.block ts → IsKnown (class_of_call ps a.block name) (sort_of_expression u site (Called place name ts))
    unfolding use_rows size_rows miscalled misshaped
    call_known d a place name ts begun agree leaves areas =
        let p : Phrase = phrase (length d) a (OfCallForm place name ts) in
        let own = then_ (expressions_first (add d a (OfCallForm place name ts)) a role.Argument ts) begun in
        declared_formed (add d a (OfCallForm place name ts)) a p refl place ts begun leaves areas name (means ps a.block name) (name_meant (here_at site) name []) agree
        (unbroken type_rows ps sound p (among ps d a (OfCallForm place name ts) own) (λ qs q. miscalled qs q q.node) (of_uses (λ qs q. miscalled qs q q.node) (inr (inr (inr (inr (inr (inr (inr (inl refl))))))))))
        (ruled_none 705 (misshaped ps (known ps) p (OfCallForm place name ts))
        (unbroken type_rows ps sound p (among ps d a (OfCallForm place name ts) own) (λ qs q. ruled 705 (misshaped qs (known qs) q q.node)) (of_sizes (λ qs q. ruled 705 (misshaped qs (known qs) q q.node)) (inr (inr (inr (inl refl)))))))
