-- What is left to be known of a set, so that the views of its image lie in memory.
use Rattle.std.specs.Prelude.{◌≡◌, ℕ, List, [], ◌∷◌, Some}
use Rattle.hal_base.specs.declared.refusal.Place.{Place}
use Rattle.hal_grammar.specs.Leaves.{Naming}
use Rattle.hal_grammar.specs.Expressions.{Refers, Subscript}
use Rattle.hal_phrases.specs.declared.role.Role.{Role}
use Rattle.hal_phrases.specs.Phrases.{OfReference}
use Rattle.hal_meaning.specs.Elements.{Component, chosen}
use Rattle.hal_meaning.specs.Sets.{Set}
use Rattle.hal_agreement.specs.Sites.{Site}
use Rattle.hal_gen_expr.specs.Led.{Led, led_by}
use Rattle.hal_gen_expr.specs.Referents.{referent}
use Rattle.hal_right_images.specs.rows.Purposes.{IsSite, Says}

-- there is a component
abbrev pub LeadSomewhere : List Component → Type 0
LeadSomewhere [] = ⊥
LeadSomewhere (c ∷ cs) = Unit {0}

-- names of a reference with a subscript lead to components of the data that its name means
abbrev pub AllLead : Set → Type 0
AllLead s =
    (process : ℕ) (site : Site) (role : Role) (place : Place) (name : List ℕ) (path : List Naming) (subscript : Subscript) (led : Led) → IsSite s process site → Says site (OfReference role (Refers place name path subscript))
    → led_by path (referent site name) ≡ Some led → LeadSomewhere (chosen led.path led.shape.components)
