-- The variable of a DO FOR that agrees is an integer, where no rule of types is broken.
use Rattle.std.proofs.Common.{◌≡◌, ℕ, nat_lt, Bool, true, false, ◌||◌, not, List, [], length, Option, Some, None, slice_get, inl, inr, if◌then◌else◌, refl, sym, ap, ◌∙◌}
use Rattle.std.specs.Option.{option_and_then, is_some}
use Rattle.std.proofs.lemmas.Bool.{and_parts}
use Rattle.hal_base.specs.declared.refusal.Place.{Place}
use Rattle.hal_grammar.specs.Leaves.{Naming}
use Rattle.hal_grammar.specs.Declarations.{Attribute, Declared}
use Rattle.hal_phrases.specs.declared.around.Around.{Around}
use Rattle.hal_phrases.specs.Phrases.{Node, Phrase, phrase, add, OfItem, OfTemporaryGroup, OfVariable}
use Rattle.hal_names.specs.Means.{means}
use Rattle.hal_scope.specs.Builtins.{builtin_named}
use Rattle.hal_scope.specs.Rules.{IsSound}
use Rattle.hal_scope.specs.Uses.{is_nil}
use Rattle.hal_kinds.specs.declared.class.Class.{Class}
use Rattle.hal_kinds.specs.declared.class.Class.TheVariants as class
use Rattle.hal_kinds.specs.declared.data.Data.{Data}
use Rattle.hal_kinds.specs.Data.{data_at}
use Rattle.hal_operands.specs.Wants.{at}
use Rattle.hal_uses.specs.Receivers.{counted_fault, is_fixed, is_integer, is_single_integer, misreceived, variable_fault}
use Rattle.hal_types.specs.Rules.{use_rows, type_rows}
use Rattle.hal_meaning.specs.Variables.{Meant, MeantData, MeantConstant, MeantEvent, MeantBlock, MeantBuiltin, MeantNothing, name_meant}
use Rattle.hal_code.specs.Sorts.{I}
use Rattle.hal_agreement.specs.Sites.{Site, here_at}
use Rattle.hal_fit_expr.specs.Uses.{Uses}
use Rattle.hal_fit_expr.specs.Sorted.{sort_of_meant, sort_of_name}
use Rattle.hal_fit_classes.specs.Kinded.{sort_of_class}
use Rattle.hal_fit_rules.specs.Begun.{AreFirst}
use Rattle.hal_fit_rules.specs.Received.{AreCells, CellsAgree}
use Rattle.hal_fit_rules.proofs.Beginning.{among}
use Rattle.hal_fit_rules.proofs.Unbroken.{no_rule, unbroken, of_uses}

integer_class : (c : Class) → is_integer c ≡ true → sort_of_class c ≡ Some I
unfolding is_integer
integer_class class.Integer is = refl
integer_class class.Bits is = absurd (cc)
integer_class class.Text is = absurd (cc)
integer_class class.Condition is = absurd (cc)
integer_class class.Structure is = absurd (cc)
integer_class class.Array is = absurd (cc)

single_by : (single : Bool) (rest : Option ℕ) → (if single then rest else Some 712) ≡ None → single ≡ true
single_by true rest none = refl
single_by false rest none = absurd (cc)

-- data of which the rule isn't broken are an integer
counted_known : (ps : List Phrase) (p : Phrase) (common : List Attribute) (item : Declared) (o : Option Data) (d : Data) → o ≡ Some d → counted_fault ps p common item o ≡ None → sort_of_class d.class ≡ Some I
unfolding counted_fault
counted_known ps p common item o d is none =
    integer_class d.class (and_parts (is_integer d.class) (not (nat_lt 0 d.dimensions || d.copies))
    (single_by (is_single_integer d) (if is_fixed ps p common item then Some 709 else None) (ap (counted_fault ps p common item) (sym is) ∙ none))).0

variable_known : (ps : List Phrase) (p : Phrase) (n : Node) (d : Data) → data_at ps p [] n ≡ Some d → variable_fault ps p n ≡ None → sort_of_class d.class ≡ Some I
unfolding variable_fault data_at is_nil
variable_known ps p (OfItem common item) d is none = counted_known ps p common item (data_at ps p [] (OfItem common item)) d is none
variable_known ps p (OfTemporaryGroup labels variable) d is none = ap (option_and_then (λ (e : Data). sort_of_class e.class)) (sym is)
variable_known ps p other d is none = absurd (cc)

module _ (u : Uses) (site : Site) (ps : List Phrase) where
  phrase_counts : (place : Place) (o : Option Phrase) (m : Meant) → AreCells ps [] o m
      → ◌≡◌ {A = Option (ℕ × Place)} (elim o [ None ↦ None | Some q ↦ at place (variable_fault ps q q.node) ]) None → sort_of_meant u site [] m ≡ Some I
  phrase_counts place (Some p) (MeantData at shape) cells none =
      ap Some (cells.sorted I (variable_known ps p p.node cells.declared cells.known (no_rule place (variable_fault ps p p.node) none)))
  phrase_counts place (Some p) (MeantConstant c) cells none = absurd cells
  phrase_counts place (Some p) (MeantEvent e) cells none = absurd cells
  phrase_counts place (Some p) (MeantBlock unit) cells none = absurd cells
  phrase_counts place (Some p) (MeantBuiltin b) cells none = absurd cells
  phrase_counts place (Some p) MeantNothing cells none = absurd cells
  phrase_counts place None m cells none = absurd cells

  name_counts : (place : Place) (name : List ℕ) (o : Option ℕ) (m : Meant) → CellsAgree ps [] o m
      → ◌≡◌ {A = Option (ℕ × Place)} (elim o [
        | None ↦ if is_some (builtin_named name) then Some (712, place) else None
        | Some k ↦ elim (slice_get ps k) [ None ↦ None | Some q ↦ at place (variable_fault ps q q.node) ]
      ]) None → sort_of_meant u site [] m ≡ Some I
  name_counts place name None m cells none = absurd cells
  name_counts place name (Some k) m cells none = phrase_counts place (slice_get ps k) m cells none

-- a variable that is named
pub variable_counts : (u : Uses) (site : Site) (ps : List Phrase) → IsSound type_rows ps → (d : List Phrase) (a : Around) (variable : Naming) → AreFirst (add d a (OfVariable variable)) ps
    → CellsAgree ps [] (means ps a.block variable.name) (name_meant (here_at site) variable.name []) → sort_of_name u site variable.name [] ≡ Some I
unfolding use_rows misreceived
variable_counts u site ps sound d a variable first agree =
    let p : Phrase = phrase (length d) a (OfVariable variable) in
    name_counts u site ps variable.place variable.name (means ps a.block variable.name) (name_meant (here_at site) variable.name []) agree
    (unbroken type_rows ps sound p (among ps d a (OfVariable variable) first) (λ qs q. misreceived qs q q.node) (of_uses (λ qs q. misreceived qs q q.node) (inr (inr (inr (inr (inr (inl refl))))))))
