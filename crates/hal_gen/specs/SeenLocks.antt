-- What the lock groups of the program are.
use Rattle.std.specs.Prelude.{◌≡◌, ℕ, slice_get, unwrap_or}
use Rattle.hal_meaning.specs.Statements.{update_groups}
use Rattle.hal_agreement.specs.Sites.{here_at}
use Rattle.hal_gen_expr.specs.SeenSites.{seen_site}
use Rattle.hal_gen_expr.specs.declared.site.Site as rust-site
use Rattle.hal_gen.specs.declared.locks.Locks as rust-locks

-- they are those of the UPDATE blocks of the unit
abbrev pub AreGroups : rust-site.Site → rust-locks.Locks → Type 0
AreGroups s l = (m : ℕ) → unwrap_or (slice_get l.groups.now m) 0 ≡ update_groups (here_at (seen_site s)) m
