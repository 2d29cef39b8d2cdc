-- Names that are for the meaning what they are for the checks, and expressions whose names are.
use Rattle.std.specs.Prelude.{◌≡◌, ℕ, true, false, List, [], Option, Some, None, slice_get}
use Rattle.hal_grammar.specs.Leaves.{Naming}
use Rattle.hal_grammar.specs.Expressions.{Expression, Or, And, Compare, Cat, Sum, Product, Power, Not, Literal, Decimal, Referred, Called, Convert, Parenthesis, Expressions, NoExpressions, MoreExpressions, Terms, NoTerms, MoreTerms, Reference, Refers, Subscript, Unsubscripted, ByName, ByInteger, ByParts, Subscripts, NoSubscripts, MoreSubscripts, Sub, Every, Range, Portion, One as OnePlace, Position, FromBeginning, FromEnd}
use Rattle.hal_grammar.specs.Units.{Head, Function, Returns}
use Rattle.hal_phrases.specs.Phrases.{Node, Phrase, OfTemplate, OfUnit, OfItem, OfTemporaryGroup}
use Rattle.hal_names.specs.Means.{means}
use Rattle.hal_scope.specs.Builtins.{builtin_named}
use Rattle.hal_scope.specs.Uses.{is_nil}
use Rattle.hal_kinds.specs.declared.class.Class.{Class}
use Rattle.hal_kinds.specs.declared.data.Data.{Data}
use Rattle.hal_kinds.specs.Classes.{class_of_head, class_of_builtin, class_of_returns}
use Rattle.hal_kinds.specs.Data.{data_at}
use Rattle.hal_kinds.specs.Subscripts as kinds
use Rattle.hal_kinds.specs.Subscripts.{is_structure_class}
use Rattle.hal_meaning.specs.Elements.{Shape, chosen}
use Rattle.hal_meaning.specs.Expressions.{inputs_at, sizes_named}
use Rattle.hal_meaning.specs.Variables.{Meant, MeantData, MeantConstant, MeantBlock, MeantBuiltin, name_meant, kind_of_first, is_arrayed}
use Rattle.hal_code.specs.Sorts.{Sort, B, sort_of}
use Rattle.hal_agreement.specs.Sites.{Site, here_at}
use Rattle.hal_fit_expr.specs.Uses.{Uses}
use Rattle.hal_fit_expr.specs.Sorted.{sort_of_call, sort_of_meant}
use Rattle.hal_fit_classes.specs.Kinded.{sort_of_class, IsFitLiteral}
use Rattle.hal_fit_rules.specs.Leaves.{IsKnown}
use Rattle.hal_fit_rules.specs.Parameters.{ParametersAgree, spelled}

-- data that the checks know at the end of a path are what the meaning has there: of the same sort, and an array where that has one
pub record AreAlike (found : Option Data) (path : List Naming) (shape : Shape) : Type 0 where
  pub declared : Data
  pub known : found ≡ Some declared
  pub sorted : (s : Sort) → sort_of_class declared.class ≡ Some s → sort_of (kind_of_first (chosen path shape.components)) ≡ s
  pub arrayed : is_structure_class declared.class ≡ false → kinds.is_arrayed declared ≡ is_arrayed (sizes_named path shape)

-- the checks know a single value, of this sort
pub record IsSingle (found : Option Data) (sort : Option Sort) : Type 0 where
  pub declared : Data
  pub known : found ≡ Some declared
  pub single : kinds.is_arrayed declared ≡ false
  pub alone : declared.copies ≡ false
  pub worth : Sort
  pub class : sort_of_class declared.class ≡ Some worth
  pub sorted : sort ≡ Some worth

-- data: what a name means is data, or it is a constant or an event
abbrev pub DataAgree : Uses → Site → List Naming → Option Data → Meant → Type 0
DataAgree u site path found (MeantData at shape) = AreAlike found path shape
DataAgree u site path found other = IsSingle found (sort_of_meant u site path other)

-- a block or a built-in function: what a name means gives a value of this class
abbrev pub ValueAgrees : Uses → Site → List Naming → Option Class → Meant → Type 0
ValueAgrees u site path c (MeantData at shape) = ⊥
ValueAgrees u site path c other = IsKnown c (sort_of_meant u site path other)

abbrev pub NodeAgrees : Uses → Site → List Phrase → Phrase → List Naming → Node → Meant → Type 0
NodeAgrees u site ps p path (OfTemplate name head declarations) m = ValueAgrees u site path (class_of_head head) m
NodeAgrees u site ps p path (OfUnit name head declarations) m = ValueAgrees u site path (class_of_head head) m
NodeAgrees u site ps p path other m = DataAgree u site path (data_at ps p path other) m

abbrev pub PhraseAgrees : Uses → Site → List Phrase → List Naming → Option Phrase → Meant → Type 0
PhraseAgrees u site ps path None m = ⊥
PhraseAgrees u site ps path (Some p) m = NodeAgrees u site ps p path p.node m

abbrev pub DeclarationAgrees : Uses → Site → List Phrase → List ℕ → List Naming → Option ℕ → Meant → Type 0
DeclarationAgrees u site ps name path None m = (is_nil path ≡ true) × ValueAgrees u site path (class_of_builtin (builtin_named name)) m
DeclarationAgrees u site ps name path (Some k) m = PhraseAgrees u site ps path (slice_get ps k) m

-- what a name with a path means for the checks in a block, and what it means here
abbrev pub NameAgrees : Uses → Site → List Phrase → ℕ → List ℕ → List Naming → Type 0
NameAgrees u site ps block name path = DeclarationAgrees u site ps name path (means ps block name) (name_meant (here_at site) name [])

-- the call form of a FUNCTION that a phrase declares with this number, of which the unit takes the same arguments and gives a value; of another head a rule is broken
pub record FunctionAgrees (u : Uses) (site : Site) (ps : List Phrase) (declared : ℕ) (inputs : List Naming) (returns : Returns) (unit : ℕ) : Type 0 where
  pub taken : spelled (inputs_at site.set unit) ≡ spelled inputs
  pub parameters : ParametersAgree site ps declared unit inputs
  pub gives : IsKnown (class_of_returns returns) (sort_of_call u site unit)

abbrev pub HeadAgrees : Uses → Site → List Phrase → ℕ → Head → Meant → Type 0
HeadAgrees u site ps k (Function place inputs returns mode) (MeantBlock unit) = FunctionAgrees u site ps k inputs returns unit
HeadAgrees u site ps k (Function place inputs returns mode) other = ⊥
HeadAgrees u site ps k head m = Unit {0}

-- that of data: the product of these, or of a constant, and a parenthesis; an event has bits
abbrev pub FactorAgrees : Uses → Site → Option Data → Meant → Type 0
FactorAgrees u site found (MeantData at shape) = AreAlike found [] shape
FactorAgrees u site found (MeantConstant v) = IsSingle found (sort_of_meant u site [] (MeantConstant v))
FactorAgrees u site found other = (d : Data) × (found ≡ Some d) × (sort_of_class d.class ≡ Some B)

abbrev pub NodeFormed : Uses → Site → List Phrase → ℕ → Phrase → Node → Meant → Type 0
NodeFormed u site ps k p (OfTemplate name head declarations) m = HeadAgrees u site ps k head m
NodeFormed u site ps k p (OfUnit name head declarations) m = HeadAgrees u site ps k head m
NodeFormed u site ps k p (OfItem common item) m = FactorAgrees u site (data_at ps p [] (OfItem common item)) m
NodeFormed u site ps k p (OfTemporaryGroup labels variable) m = FactorAgrees u site (data_at ps p [] (OfTemporaryGroup labels variable)) m
NodeFormed u site ps k p other m = Unit {0}

abbrev pub PhraseFormed : Uses → Site → List Phrase → ℕ → Option Phrase → Meant → Type 0
PhraseFormed u site ps k None m = ⊥
PhraseFormed u site ps k (Some p) m = NodeFormed u site ps k p p.node m

-- that of a built-in function
abbrev pub BuiltinFormed : List ℕ → Meant → Type 0
BuiltinFormed name (MeantBuiltin b) = builtin_named name ≡ Some b
BuiltinFormed name other = ⊥

abbrev pub DeclarationFormed : Uses → Site → List Phrase → List ℕ → Option ℕ → Meant → Type 0
DeclarationFormed u site ps name None m = BuiltinFormed name m
DeclarationFormed u site ps name (Some k) m = PhraseFormed u site ps k (slice_get ps k) m

-- what the call form of a name means for the checks in a block, and what it means here
abbrev pub FormAgrees : Uses → Site → List Phrase → ℕ → List ℕ → Type 0
FormAgrees u site ps block name = DeclarationFormed u site ps name (means ps block name) (name_meant (here_at site) name [])

abbrev mutual
  -- the names and calls among the operands of an expression and in their subscripts agree, and its literals have as many bits as they have places for
  pub Agrees : Uses → Site → List Phrase → ℕ → Expression → Type 0
  Agrees u site ps block (Or place first others) = Agrees u site ps block first × AllAgree u site ps block others
  Agrees u site ps block (And place first others) = Agrees u site ps block first × AllAgree u site ps block others
  Agrees u site ps block (Compare place left relation right) = Agrees u site ps block left × Agrees u site ps block right
  Agrees u site ps block (Cat place first others) = Agrees u site ps block first × AllAgree u site ps block others
  Agrees u site ps block (Sum place opening first others) = Agrees u site ps block first × TermsAgree u site ps block others
  Agrees u site ps block (Product place first others) = Agrees u site ps block first × AllAgree u site ps block others
  Agrees u site ps block (Power place base exponent) = Agrees u site ps block base
  Agrees u site ps block (Not place operand) = Agrees u site ps block operand
  Agrees u site ps block (Literal place literal) = IsFitLiteral literal
  Agrees u site ps block (Decimal place number) = Unit {0}
  Agrees u site ps block (Referred reference) = ReferenceAgrees u site ps block reference
  Agrees u site ps block (Called place name arguments) = FormAgrees u site ps block name × AllAgree u site ps block arguments
  Agrees u site ps block (Convert place conversion operand) = Agrees u site ps block operand
  Agrees u site ps block (Parenthesis place inner) = Agrees u site ps block inner

  pub AllAgree : Uses → Site → List Phrase → ℕ → Expressions → Type 0
  AllAgree u site ps block NoExpressions = Unit {0}
  AllAgree u site ps block (MoreExpressions first others) = Agrees u site ps block first × AllAgree u site ps block others

  pub TermsAgree : Uses → Site → List Phrase → ℕ → Terms → Type 0
  TermsAgree u site ps block NoTerms = Unit {0}
  TermsAgree u site ps block (MoreTerms place sign term others) = Agrees u site ps block term × TermsAgree u site ps block others

  -- the same of a reference
  pub ReferenceAgrees : Uses → Site → List Phrase → ℕ → Reference → Type 0
  ReferenceAgrees u site ps block (Refers place name path subscript) = NameAgrees u site ps block name path × SubscriptAgrees u site ps block subscript

  pub SubscriptAgrees : Uses → Site → List Phrase → ℕ → Subscript → Type 0
  SubscriptAgrees u site ps block Unsubscripted = Unit {0}
  SubscriptAgrees u site ps block (ByName place name) = NameAgrees u site ps block name.name []
  SubscriptAgrees u site ps block (ByInteger place at number) = Unit {0}
  SubscriptAgrees u site ps block (ByParts place copies arrays components) =
      SubscriptsAgree u site ps block copies × SubscriptsAgree u site ps block arrays × SubscriptsAgree u site ps block components

  pub SubscriptsAgree : Uses → Site → List Phrase → ℕ → Subscripts → Type 0
  SubscriptsAgree u site ps block NoSubscripts = Unit {0}
  SubscriptsAgree u site ps block (MoreSubscripts first others) = SubAgrees u site ps block first × SubscriptsAgree u site ps block others

  pub SubAgrees : Uses → Site → List Phrase → ℕ → Sub → Type 0
  SubAgrees u site ps block (Every place) = Unit {0}
  SubAgrees u site ps block (OnePlace one) = PositionAgrees u site ps block one
  SubAgrees u site ps block (Range first last) = PositionAgrees u site ps block first × PositionAgrees u site ps block last
  SubAgrees u site ps block (Portion count first) = Agrees u site ps block count × PositionAgrees u site ps block first

  pub PositionAgrees : Uses → Site → List Phrase → ℕ → Position → Type 0
  PositionAgrees u site ps block (FromBeginning one) = Agrees u site ps block one
  PositionAgrees u site ps block (FromEnd place terms) = TermsAgree u site ps block terms
