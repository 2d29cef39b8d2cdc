-- What the views of a set are for: the cells that phrases of a unit name where they stand in a process.
use Rattle.std.specs.Prelude.{◌≡◌, ◌<◌, ◌⊎◌, ℕ, true, List, [], ◌∷◌, map, Some, None, slice_get}
use Rattle.hal_base.specs.declared.refusal.Place.{Place}
use Rattle.hal_grammar.specs.Leaves.{Naming}
use Rattle.hal_grammar.specs.Expressions.{Expression, Referred, Expressions, MoreExpressions, Reference, Refers, Subscript}
use Rattle.hal_phrases.specs.declared.role.Role.{Role}
use Rattle.hal_phrases.specs.Phrases.{Node, Phrase, OfReference, OfCallForm, OfCall, OfTemporaryGroup}
use Rattle.hal_scope.specs.Rules.{IsAmong}
use Rattle.hal_values.specs.declared.value.Kind.{Kind}
use Rattle.hal_values.specs.declared.value.Kind.TheVariants as kind
use Rattle.hal_code.specs.declared.row.Base.{Base}
use Rattle.hal_code.specs.declared.row.Dimension.{Dimension}
use Rattle.hal_code.specs.declared.row.Run.{Run}
use Rattle.hal_code.specs.declared.row.View.{View}
use Rattle.hal_meaning.specs.Bodies.{Body, processes_of}
use Rattle.hal_meaning.specs.Calls.{parameter_named}
use Rattle.hal_meaning.specs.Elements.{Shape}
use Rattle.hal_meaning.specs.Expressions.{inputs_at, outputs_at}
use Rattle.hal_meaning.specs.Places.{Storing, InPlaces, says_for_or_case}
use Rattle.hal_meaning.specs.Sets.{Set, body_at}
use Rattle.hal_meaning.specs.Variables.{kind_of_first, is_whole}
use Rattle.hal_agreement.specs.Sites.{Site, within_block}
use Rattle.hal_storage.specs.referents.Referents.{DataOf, BlockOf}
use Rattle.hal_gen_expr.specs.declared.elements.Element.{Element}
use Rattle.hal_gen_expr.specs.Elements.{element_in}
use Rattle.hal_gen_expr.specs.Led.{Led, led_by, rows_left, first_chosen}
use Rattle.hal_gen_expr.specs.Numbering.{base_of, row_of, cell_view, area_view, shape_in}
use Rattle.hal_gen_expr.specs.Referents.{referent}
use Rattle.hal_gen_expr.specs.Shapes.{runs_of}
use Rattle.hal_link.specs.Linking.{process_site}
use Rattle.hal_link.specs.Outlines.{Outline, outlines_of}
use Rattle.hal_link.specs.Shapes.{Shapes, shapes_of}
use Rattle.hal_right_images.specs.rows.Homes.{LeadsHome}

-- a process calls this unit, by itself or through others
pub record CallsUnit (s : Set) (process unit : ℕ) : Type 0 where
  pub number : ℕ
  pub outline : Outline
  pub there : slice_get (outlines_of s) number ≡ Some outline
  pub its : outline.process ≡ process
  pub place : ℕ
  pub called : slice_get outline.called place ≡ Some unit

-- its own unit is this one, or it calls it
abbrev pub StandsIn : Set → ℕ → ℕ → Type 0
StandsIn s process unit = (slice_get (processes_of s.phrases) process ≡ Some unit) ⊎ CallsUnit s process unit

-- phrases of a unit stand there, in this process: in the unit itself, or in a group with a TEMPORARY variable in it
pub record IsSite (s : Set) (process : ℕ) (site : Site) : Type 0 where
  pub unit : ℕ
  pub body : Body
  pub found : body_at s unit ≡ Some body
  pub stands : StandsIn s process unit
  pub block : ℕ
  pub leads : LeadsHome s.phrases body.number block
  pub is : site ≡ within_block block (process_site s process body)

-- a phrase of the unit says this, in the block in which names are looked up
pub record Says (site : Site) (node : Node) : Type 0 where
  pub phrase : Phrase
  pub among : IsAmong phrase site.set.phrases
  pub home : phrase.around.home ≡ site.unit
  pub block : phrase.around.block ≡ site.block
  pub is : phrase.node ≡ node

-- the one element to which a name leads
pub record ForElement (site : Site) (rows : List Dimension) (k : Kind) (from : Base) : Type 0 where
  pub name : List ℕ
  pub path : List Naming
  pub declared : ℕ
  pub way : Storing
  pub shape : Shape
  pub refers : referent site name ≡ DataOf declared way shape
  pub one : Element
  pub single : shape.copies ≡ None
  pub leads : element_in path shape.components ≡ Some one
  pub plain : rows ≡ []
  pub kind : k ≡ one.kind
  pub begins : base_of site declared one.before way ≡ Some from

-- the elements among which a subscript chooses
pub record ForChosen (site : Site) (rows : List Dimension) (k : Kind) (from : Base) : Type 0 where
  pub role : Role
  pub place : Place
  pub name : List ℕ
  pub path : List Naming
  pub subscript : Subscript
  pub says : Says site (OfReference role (Refers place name path subscript))
  pub led : Led
  pub leads : led_by path (referent site name) ≡ Some led
  pub dimensions : rows ≡ map row_of (rows_left subscript led)
  pub kind : k ≡ (first_chosen site subscript led).kind
  pub begins : base_of site led.declared (first_chosen site subscript led).before led.stored ≡ Some from

-- a phrase of the unit says of the group with this number that it has own places, and at least so many and one: that of a group with a TEMPORARY variable of itself,
-- the variable of a DO FOR and the number of a DO CASE of the group that they stand in
abbrev pub SaysPlaces : Phrase → ℕ → ℕ → Type 0
SaysPlaces p group before =
    ((labels : List Naming) × (variable : Naming) × (p.node ≡ OfTemporaryGroup labels variable) × (p.number ≡ group) × (before < 5))
    ⊎ ((says_for_or_case p.node ≡ true) × (p.around.parent ≡ group) × (before < 4))

pub record HasPlace (site : Site) (group before : ℕ) : Type 0 where
  pub phrase : Phrase
  pub among : IsAmong phrase site.set.phrases
  pub home : phrase.around.home ≡ site.unit
  pub says : SaysPlaces phrase group before

-- an own place of a group
pub record ForPlace (site : Site) (rows : List Dimension) (k : Kind) (from : Base) : Type 0 where
  pub group : ℕ
  pub before : ℕ
  pub has : HasPlace site group before
  pub plain : rows ≡ []
  pub kind : k ≡ kind.Double
  pub begins : base_of site group before InPlaces ≡ Some from

-- an input parameter of the unit
pub record ForParameter (site : Site) (rows : List Dimension) (k : Kind) (from : Base) : Type 0 where
  pub name : Naming
  pub named : IsAmong name (inputs_at site.set site.unit)
  pub plain : rows ≡ []
  pub kind : k ≡ kind_of_first (parameter_named site.set site.unit name).shape.components
  pub begins : base_of site (parameter_named site.set site.unit name).number 0 InPlaces ≡ Some from

abbrev pub IsCellFor : Site → List Dimension → Kind → Base → Type 0
IsCellFor site rows k from = (ForElement site rows k from ⊎ ForChosen site rows k from) ⊎ (ForPlace site rows k from ⊎ ForParameter site rows k from)

-- the argument that stands where the name of this parameter stands among those of a unit, for an input parameter and for an ASSIGN parameter
abbrev pub IsInput : List Naming → Expressions → Naming → Reference → Type 0
IsInput (name ∷ names) (MoreExpressions first others) one given = ((name ≡ one) × (first ≡ Referred given)) ⊎ IsInput names others one given
IsInput names trees one given = ⊥

abbrev pub IsOutput : List Naming → List Reference → Naming → Reference → Type 0
IsOutput (name ∷ names) (first ∷ others) one given = ((name ≡ one) × (first ≡ given)) ⊎ IsOutput names others one given
IsOutput names references one given = ⊥

-- a phrase calls the unit with these arguments
abbrev pub ByForm : Site → ℕ → Expressions → Type 0
ByForm site unit arguments = (place : Place) × (name : List ℕ) × Says site (OfCallForm place name arguments) × (referent site name ≡ BlockOf unit)

abbrev pub ByCall : Site → ℕ → Expressions → List Reference → Type 0
ByCall site unit arguments receivers = (name : Naming) × Says site (OfCall name arguments receivers) × (referent site name.name ≡ BlockOf unit)

-- a reference is an argument for the whole parameter of this name, or an ASSIGN argument
pub record ForInput (site : Site) (unit : ℕ) (name : Naming) (given : Reference) : Type 0 where
  pub arguments : Expressions
  pub receivers : List Reference
  pub calls : ByForm site unit arguments ⊎ ByCall site unit arguments receivers
  pub passed : IsInput (inputs_at site.set unit) arguments name given
  pub whole : is_whole (parameter_named site.set unit name).shape ≡ true

pub record ForOutput (site : Site) (unit : ℕ) (name : Naming) (given : Reference) : Type 0 where
  pub arguments : Expressions
  pub receivers : List Reference
  pub calls : ByCall site unit arguments receivers
  pub passed : IsOutput (outputs_at site.set unit) receivers name given

abbrev pub IsPassed : Site → ℕ → Naming → Reference → Type 0
IsPassed site unit name given = ForInput site unit name given ⊎ ForOutput site unit name given

-- the cells of a whole argument or of an ASSIGN argument, which have the shape with this number
pub record IsAreaFor (shapes : Shapes) (site : Site) (rows : List Dimension) (shape : ℕ) (from : Base) : Type 0 where
  pub place : Place
  pub name : List ℕ
  pub path : List Naming
  pub subscript : Subscript
  pub unit : ℕ
  pub parameter : Naming
  pub passed : IsPassed site unit parameter (Refers place name path subscript)
  pub led : Led
  pub leads : led_by path (referent site name) ≡ Some led
  pub dimensions : rows ≡ map row_of (rows_left subscript led)
  pub runs : List (Run Kind)
  pub own : runs ≡ runs_of (parameter_named site.set unit parameter).shape
  pub numbered : shape_in shapes runs ≡ Some shape
  pub begins : base_of site led.declared (first_chosen site subscript led).before led.stored ≡ Some from

-- a view of cells, and one of the cells of a shape
pub record ForCell (s : Set) (view : View) : Type 0 where
  pub process : ℕ
  pub site : Site
  pub is_site : IsSite s process site
  pub rows : List Dimension
  pub k : Kind
  pub from : Base
  pub is : view ≡ cell_view from rows k
  pub purpose : IsCellFor site rows k from

pub record ForArea (s : Set) (view : View) : Type 0 where
  pub process : ℕ
  pub site : Site
  pub is_site : IsSite s process site
  pub rows : List Dimension
  pub shape : ℕ
  pub from : Base
  pub is : view ≡ area_view from rows shape
  pub purpose : IsAreaFor (shapes_of s) site rows shape from

abbrev pub HasPurpose : Set → View → Type 0
HasPurpose s view = ForCell s view ⊎ ForArea s view
