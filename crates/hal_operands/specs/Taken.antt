-- Rule 702 of a value that its receivers or the result of its FUNCTION don't take.
use Rattle.std.specs.Prelude.{ℕ, Bool, true, false, ◌&&◌, List, [], ◌∷◌, Option, Some, None, slice_get, if◌then◌else◌}
use Rattle.std.specs.Option.{option_and_then}
use Rattle.hal_base.specs.declared.refusal.Place.{Place}
use Rattle.hal_grammar.specs.Expressions.{Expression, Reference, place_of}
use Rattle.hal_grammar.specs.Units.{Head, Function}
use Rattle.hal_phrases.specs.declared.role.Role.{Role}
use Rattle.hal_phrases.specs.declared.role.Role.TheVariants as role
use Rattle.hal_phrases.specs.Phrases.{Node, Phrase, OfExpression, OfAssignment, OfTemplate, OfUnit}
use Rattle.hal_kinds.specs.declared.class.Class.{Class}
use Rattle.hal_kinds.specs.declared.class.Class.TheVariants as class
use Rattle.hal_kinds.specs.Classes.{class_of, class_of_reference, class_of_returns}
use Rattle.hal_scope.specs.Uses.{unless}

-- whether data of a class take a value of another one; a text takes an integer too
unfoldable pub takes : Option Class → Option Class → Bool
takes (Some class.Integer) (Some class.Bits) = false
takes (Some class.Integer) (Some class.Text) = false
takes (Some class.Bits) (Some class.Integer) = false
takes (Some class.Bits) (Some class.Text) = false
takes (Some class.Text) (Some class.Bits) = false
takes one other = true

-- whether all receivers take it
unfoldable pub all_take : List Phrase → ℕ → Option Class → List Reference → Bool
all_take ps block c [] = true
all_take ps block c (reference ∷ references) = takes (class_of_reference ps block reference) c && all_take ps block c references

-- whether the receivers of an assignment take it
unfoldable pub assigned_taken : List Phrase → ℕ → Option Class → Node → Bool
assigned_taken ps block c (OfAssignment receivers value) = all_take ps block c receivers
assigned_taken ps block c other = true

-- whether the result of a FUNCTION takes it
unfoldable pub head_takes : Option Class → Head → Bool
head_takes c (Function place inputs returns mode) = takes (class_of_returns returns) c
head_takes c other = true

unfoldable pub returned_taken : Option Class → Node → Bool
returned_taken c (OfTemplate name head declarations) = head_takes c head
returned_taken c (OfUnit name head declarations) = head_takes c head
returned_taken c other = true

-- whether the value of an assignment or RETURN is taken
unfoldable pub is_taken : List Phrase → Phrase → Role → Expression → Bool
is_taken ps p role.Assigned tree =
    elim (slice_get ps p.around.parent) [ None ↦ true | Some q ↦ assigned_taken ps p.around.block (class_of ps p.around.block tree) q.node ]
is_taken ps p role.Returned tree =
    elim (slice_get ps p.around.home) [ None ↦ true | Some q ↦ returned_taken (class_of ps p.around.block tree) q.node ]
is_taken ps p other tree = true

-- rule 702 of a value that isn't taken
unfoldable pub untaken : List Phrase → Phrase → Node → Option Place
untaken ps p (OfExpression r tree) = unless (is_taken ps p r tree) (place_of tree)
untaken ps p other = None
