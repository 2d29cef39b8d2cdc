-- Expressions that are constant: they have one value.
use Rattle.std.specs.Prelude.{◌≡◌}
use Rattle.hal_grammar.specs.Expressions.{Expression}
use Rattle.hal_values.specs.declared.value.Value.{Value}
use Rattle.hal_meaning.specs.Access.{Here}
use Rattle.hal_meaning.specs.Expressions.{expression}
use Rattle.hal_meaning.specs.States.{State, Gives}
use Rattle.hal_meaning.specs.Tasks.{Meaning}
use Rattle.hal_agreement.specs.Sites.{Site, site_of}

-- an expression that has this value wherever it stands at the site, whatever was done before: nothing is asked for it, and no error arises
abbrev pub IsConstant : Site → Expression → Value → Type 0
IsConstant site tree v = (rec : Meaning) (h : Here) (st : State) → site_of h ≡ site → expression rec h tree st ≡ Gives v st
