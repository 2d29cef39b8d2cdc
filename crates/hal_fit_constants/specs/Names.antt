-- Names of constants that are for the meaning what they are for the checks.
use Rattle.std.specs.Prelude.{◌≡◌, ℕ, List, []}
use Rattle.hal_phrases.specs.Phrases.{Phrase}
use Rattle.hal_values.specs.declared.value.Value.{Value}
use Rattle.hal_constants.specs.declared.constant.Constant.TheVariants as constant
use Rattle.hal_constants.specs.Known.{Known}
use Rattle.hal_constants.specs.Naming.{constant_named}
use Rattle.hal_storage.specs.referents.Referents.{ConstantOf}
use Rattle.hal_agreement.specs.Sites.{Site}
use Rattle.hal_gen_expr.specs.Referents.{referent}

-- in this phrase, which stands at the site, a name refers to a constant with the value that the checks know of it
pub record NamesAgree (site : Site) (vs : Known) (p : Phrase) : Type 0 where
  pub here : p.around.block ≡ site.block
  pub constants : (name : List ℕ) (v : Value) → constant_named site.set.phrases vs p name [] ≡ constant.Worth v → referent site name ≡ ConstantOf v
