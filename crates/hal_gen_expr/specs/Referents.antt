-- What names refer to where phrases stand.
use Rattle.std.specs.Prelude.{ℕ, List}
use Rattle.hal_storage.specs.referents.Referents.{Referent, referent_in}
use Rattle.hal_agreement.specs.Sites.{Site}

abbrev pub referent : Site → List ℕ → Referent
referent site name = referent_in site.set.phrases site.set.constants site.block name
