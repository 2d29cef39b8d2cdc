-- The views that the code of a set names: one for each cell and place to which names in the units of its processes lead, for each own place of a DO FOR, for the first
-- one of a DO CASE, for the elements among which subscripts choose, and for the cells of whole arguments and of ASSIGN arguments, each once, in the order of these
-- names.
use Rattle.std.specs.Prelude.{ℕ, ◌+◌, ◌==◌, map, List, [], ◌∷◌, ◌++◌, Option, Some, None, if◌then◌else◌}
use Rattle.std.specs.List.{list_any}
use Rattle.std.specs.Option.{is_some}
use Rattle.hal_values.specs.declared.value.Kind.{Kind}
use Rattle.hal_values.specs.declared.value.Kind.TheVariants as kind
use Rattle.hal_grammar.specs.Leaves.{Naming}
use Rattle.hal_grammar.specs.Expressions.{Expression, Referred, Expressions, MoreExpressions, Reference, Refers, Subscript}
use Rattle.hal_phrases.specs.declared.role.Role.{Role}
use Rattle.hal_phrases.specs.declared.role.Role.TheVariants as role
use Rattle.hal_phrases.specs.Phrases.{Node, Phrase, OfReference, OfSubscriptName, OfCallForm, OfExpression, OfVariable, OfTemporaryGroup, OfCall}
use Rattle.hal_code.specs.declared.row.Base.{Base}
use Rattle.hal_code.specs.declared.row.Dimension.{Dimension}
use Rattle.hal_code.specs.declared.row.Run.{Run}
use Rattle.hal_code.specs.declared.row.View.{View}
use Rattle.hal_meaning.specs.Bodies.{Body, processes_of}
use Rattle.hal_meaning.specs.Places.{Storing, InPlaces}
use Rattle.hal_meaning.specs.Calls.{Parameter, parameter_named}
use Rattle.hal_meaning.specs.Expressions.{inputs_at, outputs_at}
use Rattle.hal_meaning.specs.Sets.{Set, body_at}
use Rattle.hal_meaning.specs.Variables.{is_whole}
use Rattle.hal_agreement.specs.Sites.{Site, within_block}
use Rattle.hal_storage.specs.referents.Referents.{Referent, DataOf, BlockOf}
use Rattle.hal_gen_expr.specs.declared.elements.Element.{Element}
use Rattle.hal_gen_expr.specs.Elements.{element_in}
use Rattle.hal_gen_expr.specs.ExpressionCode.{is_plain}
use Rattle.hal_gen_expr.specs.Led.{Led, led_by, rows_left, first_chosen}
use Rattle.hal_gen_expr.specs.Numbering.{base_of, row_of, cell_view, is_cell_view, area_view, is_area_view, shape_in}
use Rattle.hal_gen_expr.specs.Referents.{referent}
use Rattle.hal_gen_expr.specs.Shapes.{runs_of}
use Rattle.hal_link.specs.Linking.{process_site}
use Rattle.hal_link.specs.Shapes.{Shapes}

-- the view of cells of this kind in these dimensions, which begins there, unless it is among them
abbrev pub with_cell : List Dimension → Kind → List View → Option Base → List View
with_cell rows kind views None = views
with_cell rows kind views (Some from) = if list_any (is_cell_view from rows kind) views then views else views ++ (cell_view from rows kind ∷ [])

-- that of an element
abbrev pub with_element : Site → ℕ → Storing → List View → Option Element → List View
with_element site k way views None = views
with_element site k way views (Some one) = with_cell [] one.kind views (base_of site k one.before way)

-- that of the one element to which names lead, where it is one
abbrev pub with_referent : Site → List View → List Naming → Referent → List View
with_referent site views path (DataOf k way shape) = if is_some shape.copies then views else with_element site k way views (element_in path shape.components)
with_referent site views path other = views

-- that of elements among which a subscript chooses, where it is data
abbrev pub with_led : Site → List View → Subscript → Option Led → List View
with_led site views subscript None = views
with_led site views subscript (Some l) =
    with_cell (map row_of (rows_left subscript l)) (first_chosen site subscript l).kind views (base_of site l.declared (first_chosen site subscript l).before l.stored)

abbrev pub with_reference : Site → List View → Reference → List View
with_reference site views (Refers place name path subscript) =
    if is_plain subscript then with_referent site views path (referent site name) else with_led site views subscript (led_by path (referent site name))

-- the view of the cells of the shape with this number in these dimensions, which begins there, unless it is among them
abbrev pub with_shape : List Dimension → List View → Option Base → Option ℕ → List View
with_shape rows views None shape = views
with_shape rows views (Some from) None = views
with_shape rows views (Some from) (Some shape) = if list_any (is_area_view from rows shape) views then views else views ++ (area_view from rows shape ∷ [])

-- that of cells of these kinds which a subscript chooses, where it is data
abbrev pub with_area : Shapes → Site → List (Run Kind) → List View → Subscript → Option Led → List View
with_area shapes site runs views subscript None = views
with_area shapes site runs views subscript (Some l) =
    with_shape (map row_of (rows_left subscript l)) views (base_of site l.declared (first_chosen site subscript l).before l.stored) (shape_in shapes runs)

-- that of a reference, and of an argument for a parameter
abbrev pub with_referred : Shapes → Site → List (Run Kind) → List View → Reference → List View
with_referred shapes site runs views (Refers place name path subscript) = with_area shapes site runs views subscript (led_by path (referent site name))

abbrev pub with_spot : Shapes → Site → List View → Parameter → Reference → List View
with_spot shapes site views p reference = with_referred shapes site (runs_of p.shape) views reference

abbrev pub with_whole : Shapes → Site → List (Run Kind) → List View → Expression → List View
with_whole shapes site runs views (Referred reference) = with_referred shapes site runs views reference
with_whole shapes site runs views other = views

abbrev pub with_argument : Shapes → Site → List View → Parameter → Expression → List View
with_argument shapes site views p tree = if is_whole p.shape then with_whole shapes site (runs_of p.shape) views tree else views

-- those of arguments for input parameters, and those of ASSIGN arguments
unfoldable pub with_arguments : Shapes → Site → ℕ → List View → List Naming → Expressions → List View
with_arguments shapes site unit views (name ∷ names) (MoreExpressions first others) =
    with_arguments shapes site unit (with_argument shapes site views (parameter_named site.set unit name) first) names others
with_arguments shapes site unit views names trees = views

unfoldable pub with_spots : Shapes → Site → ℕ → List View → List Naming → List Reference → List View
with_spots shapes site unit views (name ∷ names) (receiver ∷ receivers) =
    with_spots shapes site unit (with_spot shapes site views (parameter_named site.set unit name) receiver) names receivers
with_spots shapes site unit views names receivers = views

-- those of a call
abbrev pub with_call : Shapes → Site → List View → Expressions → List Reference → Referent → List View
with_call shapes site views arguments receivers (BlockOf unit) =
    with_spots shapes site unit (with_arguments shapes site unit views (inputs_at site.set unit) arguments) (outputs_at site.set unit) receivers
with_call shapes site views arguments receivers other = views

-- that of an own place of the group with this number, before which so many of its places lie
abbrev pub with_place : Site → ℕ → ℕ → List View → List View
with_place site k before views = with_cell [] kind.Double views (base_of site k before InPlaces)

-- those of a DO FOR
abbrev pub with_places : Site → ℕ → List View → List View
with_places site k views = with_place site k 3 (with_place site k 2 (with_place site k 1 (with_place site k 0 views)))

-- those of one with a TEMPORARY variable, which is the first of five
abbrev pub with_temporary : Site → ℕ → List View → List View
with_temporary site k views = with_place site k 4 (with_places site k views)

-- a DO CASE keeps its number in its first place
abbrev pub with_role : Site → List View → ℕ → Role → List View
with_role site views parent role.Case = with_place site parent 0 views
with_role site views parent other = views

-- those of a phrase, of which these are the number and the parent
abbrev pub with_node : Shapes → Site → List View → ℕ → ℕ → Node → List View
with_node shapes site views number parent (OfReference role reference) = with_reference site views reference
with_node shapes site views number parent (OfSubscriptName name) = with_referent site views [] (referent site name.name)
with_node shapes site views number parent (OfCallForm place name arguments) = with_call shapes site (with_referent site views [] (referent site name)) arguments [] (referent site name)
with_node shapes site views number parent (OfCall name arguments receivers) = with_call shapes site views arguments receivers (referent site name.name)
with_node shapes site views number parent (OfVariable name) = with_places site parent (with_referent site views [] (referent site name.name))
with_node shapes site views number parent (OfTemporaryGroup labels variable) = with_temporary site number views
with_node shapes site views number parent (OfExpression r tree) = with_role site views parent r
with_node shapes site views number parent other = views

-- those of a phrase, where it stands in the unit; its names are looked up in the innermost block around it
abbrev pub with_phrase : Shapes → Site → List View → Phrase → List View
with_phrase shapes site views p = if p.around.home == site.unit then with_node shapes (within_block p.around.block site) views p.number p.around.parent p.node else views

unfoldable pub with_phrases : Shapes → Site → List View → List Phrase → List View
with_phrases shapes site views [] = views
with_phrases shapes site views (p ∷ ps) = with_phrases shapes site (with_phrase shapes site views p) ps

-- those of the process with this number, whose unit this is
abbrev pub with_body : Shapes → Set → ℕ → List View → Option Body → List View
with_body shapes s p views None = views
with_body shapes s p views (Some body) = with_phrases shapes (process_site s p body) views s.phrases

-- those of the processes from this one on, whose units have these numbers
unfoldable pub with_processes : Shapes → Set → ℕ → List View → List ℕ → List View
with_processes shapes s p views [] = views
with_processes shapes s p views (k ∷ ks) = with_processes shapes s (p + 1) (with_body shapes s p views (body_at s k)) ks

abbrev pub views_of : Shapes → Set → List View
views_of shapes s = with_processes shapes s 0 [] (processes_of s.phrases)
