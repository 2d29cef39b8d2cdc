-- The first fault of tables, one behind the other.
use Rattle.std.proofs.Common.{◌≡◌, ◌++◌, ℕ, List, [], ◌∷◌, Option, Some, None, refl, sym, ap, ap₂, ◌∙◌}
use Rattle.std.specs.Option.{option_or}
use Rattle.hal_base.specs.declared.refusal.Place.{Place}
use Rattle.hal_phrases.specs.Phrases.{Phrase}
use Rattle.hal_scope.specs.Rules.{Breaks, IsSound, Row, fault, first_fault, ruled}
use Rattle.hal_scope.proofs.Broken.{broken, sound}
use Rattle.hal_constants.specs.Known.{Known, known}
use Rattle.hal_sizes.specs.Constancy.{inconstant, misdimensioned}
use Rattle.hal_shapes.specs.Ranges.{misranged}
use Rattle.hal_shapes.specs.Arguments.{misshaped}
use Rattle.hal_initials.specs.Initials.{misinitialed, missigned}
use Rattle.hal_types.specs.Rules.{attribute_rows, fault_with, first_with, operand_rows, size_rows, sized, sized_plainly, type_rows, use_rows}

or_or : (x y z : Option (ℕ × Place)) → option_or (option_or x y) z ≡ option_or x (option_or y z)
or_or None y z = refl
or_or (Some v) y z = refl

or_none : (x : Option (ℕ × Place)) → option_or x None ≡ x
or_none None = refl
or_none (Some v) = refl

fault_of_both : (table more : List Row) (ps : List Phrase) (p : Phrase) → fault (table ++ more) ps p ≡ option_or (fault table ps p) (fault more ps p)
unfolding fault
fault_of_both [] more ps p = refl
fault_of_both (row ∷ table) more ps p = ap (option_or (row ps p)) (fault_of_both table more ps p) ∙ sym (or_or (row ps p) (fault table ps p) (fault more ps p))

five : (a b c d e f : Option (ℕ × Place)) → option_or (option_or a (option_or b (option_or c (option_or d e)))) f ≡ option_or a (option_or b (option_or c (option_or d (option_or e f))))
five None None None None e f = refl
five None None None (Some v) e f = refl
five None None (Some v) d e f = refl
five None (Some v) c d e f = refl
five (Some v) b c d e f = refl

pub size_faults : (ps : List Phrase) (p : Phrase) → fault size_rows ps p ≡ sized ps (known ps) p
unfolding fault size_rows
size_faults ps p =
    ap (λ last. option_or (inconstant ps (known ps) p p.node) (option_or (ruled 710 (misdimensioned p.node)) (option_or (misranged ps (known ps) p p.node)
    (option_or (ruled 705 (misshaped ps (known ps) p p.node)) (option_or (ruled 702 (missigned ps p p.node)) last))))) (or_none (misinitialed ps (known ps) p p.node))
    ∙ sym (five (inconstant ps (known ps) p p.node) (ruled 710 (misdimensioned p.node)) (misranged ps (known ps) p p.node) (ruled 705 (misshaped ps (known ps) p p.node)) (ruled 702 (missigned ps p p.node)) (misinitialed ps (known ps) p p.node))

in_order : (a b c s m : Option (ℕ × Place)) → option_or (option_or (option_or a (option_or b c)) s) m ≡ option_or a (option_or b (option_or c (option_or s m)))
in_order None None None s m = refl
in_order None None (Some v) s m = refl
in_order None (Some v) c s m = refl
in_order (Some v) b c s m = refl

pub all_faults : (ps : List Phrase) (p : Phrase) → fault type_rows ps p ≡ fault_with ps (known ps) p
unfolding type_rows
all_faults ps p =
    fault_of_both attribute_rows (operand_rows ++ (use_rows ++ size_rows)) ps p
    ∙ ap (option_or (fault attribute_rows ps p)) (fault_of_both operand_rows (use_rows ++ size_rows) ps p
    ∙ ap (option_or (fault operand_rows ps p)) (fault_of_both use_rows size_rows ps p ∙ ap (option_or (fault use_rows ps p)) (size_faults ps p)))
    ∙ sym (in_order (fault attribute_rows ps p) (fault operand_rows ps p) (fault use_rows ps p) (sized_plainly ps (known ps) p) (misinitialed ps (known ps) p p.node))

pub first_of_all : (ps qs : List Phrase) → first_fault type_rows ps qs ≡ first_with ps (known ps) qs
unfolding first_fault first_with
first_of_all ps [] = refl
first_of_all ps (q ∷ qs) = ap₂ option_or (all_faults ps q) (first_of_all ps qs)

pub sound_with : (ps : List Phrase) → first_with ps (known ps) ps ≡ None → IsSound type_rows ps
sound_with ps none = sound type_rows ps (first_of_all ps ps ∙ none)

pub broken_with : (ps : List Phrase) (rule : ℕ) (place : Place) → first_with ps (known ps) ps ≡ Some (rule, place) → Breaks type_rows ps rule place
broken_with ps rule place found = broken type_rows ps rule place (first_of_all ps ps ∙ found)

-- the same by the values of the constants, where these are known
by_values : (ps : List Phrase) (vs : Known) → vs ≡ known ps → first_with ps (known ps) ps ≡ first_with ps vs ps
by_values ps vs same = ap (λ (ws : Known). first_with ps ws ps) (sym same)

pub sound_by : (ps : List Phrase) (vs : Known) → vs ≡ known ps → first_with ps vs ps ≡ None → IsSound type_rows ps
sound_by ps vs same none = sound_with ps (by_values ps vs same ∙ none)

pub broken_by : (ps : List Phrase) (vs : Known) (rule : ℕ) (place : Place) → vs ≡ known ps → first_with ps vs ps ≡ Some (rule, place) → Breaks type_rows ps rule place
broken_by ps vs rule place same found = broken_with ps rule place (by_values ps vs same ∙ found)
