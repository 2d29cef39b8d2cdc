-- Whether receivers take values of a sort, and items of WRITE are values.
use Rattle.std.specs.Prelude.{Bool, true, false, ◌&&◌, List, [], ◌∷◌, Option, Some, None}
use Rattle.hal_grammar.specs.Leaves.{Naming}
use Rattle.hal_grammar.specs.Expressions.{Expressions, NoExpressions, MoreExpressions, Reference, Refers, Subscript, Unsubscripted, ByName, ByInteger, Subscripts, NoSubscripts, MoreSubscripts}
use Rattle.hal_values.specs.declared.value.Kind.{Kind}
use Rattle.hal_meaning.specs.Elements.{chosen}
use Rattle.hal_meaning.specs.Expressions.{sizes_named}
use Rattle.hal_meaning.specs.Statements.{components_in}
use Rattle.hal_meaning.specs.Variables.{Meant, MeantData, name_meant, kind_of_first, is_arrayed}
use Rattle.hal_code.specs.Effects.{is_value}
use Rattle.hal_code.specs.Sorts.{Sort, sort_of, takes, takes_part}
use Rattle.hal_agreement.specs.Sites.{Site, here_at}
use Rattle.hal_fit_expr.specs.Uses.{Uses}
use Rattle.hal_fit_expr.specs.Sorted.{is_integer, sort_of_name, sort_of_expression, places_fit, part_fits}

-- cells that a name means take it
abbrev pub kept_fits : List Naming → Sort → Meant → Bool
kept_fits path s (MeantData at shape) = takes (kind_of_first (chosen path shape.components)) s
kept_fits path s other = false

-- cells of a kind take it, or a component of theirs does
abbrev pub stored_fits : Uses → Site → Kind → Sort → Subscripts → Bool
stored_fits u site kind s NoSubscripts = takes kind s
stored_fits u site kind s (MoreSubscripts first others) = takes_part kind (sort_of kind) s && part_fits u site first

-- the same by the subscript of a receiver with an array or without one
abbrev pub received_fits : Uses → Site → Kind → Sort → Bool → Subscript → Bool
received_fits u site kind s false (ByName place name) = takes_part kind (sort_of kind) s && is_integer (sort_of_name u site name.name [])
received_fits u site kind s false (ByInteger place at number) = takes_part kind (sort_of kind) s
received_fits u site kind s arrayed subscript = stored_fits u site kind s (components_in arrayed subscript)

abbrev pub addressed_fits : Uses → Site → List Naming → Subscript → Sort → Meant → Bool
addressed_fits u site path subscript s (MeantData at shape) =
    places_fit u site (is_arrayed (sizes_named path shape)) subscript && received_fits u site (kind_of_first (chosen path shape.components)) s (is_arrayed (sizes_named path shape)) subscript
addressed_fits u site path subscript s other = false

-- a receiver takes it
abbrev pub receiver_fits : Uses → Site → Sort → Reference → Bool
receiver_fits u site s (Refers place name path Unsubscripted) = kept_fits path s (name_meant (here_at site) name [])
receiver_fits u site s (Refers place name path subscript) = addressed_fits u site path subscript s (name_meant (here_at site) name [])

-- all of these do; where there are several, it is a value
abbrev pub receivers_fit : Uses → Site → Sort → List Reference → Bool
receivers_fit u site s [] = false
receivers_fit u site s (receiver ∷ []) = receiver_fits u site s receiver
receivers_fit u site s (receiver ∷ next ∷ others) = is_value s && (receiver_fits u site s receiver && receivers_fit u site s (next ∷ others))

-- whether a value that is assigned is taken by its receivers
abbrev pub is_assigned : Uses → Site → List Reference → Option Sort → Bool
is_assigned u site receivers None = false
is_assigned u site receivers (Some s) = receivers_fit u site s receivers

-- items of WRITE are values
abbrev pub is_item : Option Sort → Bool
is_item None = false
is_item (Some s) = is_value s

abbrev pub items_fit : Uses → Site → Expressions → Bool
items_fit u site NoExpressions = true
items_fit u site (MoreExpressions first others) = is_item (sort_of_expression u site first) && items_fit u site others
