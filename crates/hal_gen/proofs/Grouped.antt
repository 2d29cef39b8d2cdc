-- The UPDATE blocks of a unit have the same lock groups at the site of a DO FOR.
use Rattle.std.specs.Prelude.{ℕ, Bool, true, false, Option, Some, None, slice_get}
use Rattle.std.proofs.Common.{◌≡◌, ◌∙◌, refl, sym, subst}
use Rattle.hal_meaning.specs.Statements.{update_groups}
use Rattle.hal_agreement.specs.Sites.{Site, here_at, within_block, group_site}
use Rattle.hal_gen_expr.specs.SeenSites.{seen_site}
use Rattle.hal_gen_expr.specs.declared.site.Site as rust-site
use Rattle.hal_gen.specs.declared.locks.Locks as rust-locks
use Rattle.hal_gen.specs.SeenLocks.{AreGroups}

groups_there : (site : Site) (temporary : Bool) (m k : ℕ) → update_groups (here_at (group_site site temporary m)) k ≡ update_groups (here_at site) k
groups_there site false m k = refl
groups_there site true m k = by (slice_get site.marks m) where
  by : (o : Option ℕ) → update_groups (here_at (elim o [ None ↦ site | Some block ↦ within_block block site ])) k ≡ update_groups (here_at site) k
  by None = refl
  by (Some block) = refl

pub locks_there : (s inner : rust-site.Site) (l : rust-locks.Locks) (temporary : Bool) (m : ℕ) → seen_site inner ≡ group_site (seen_site s) temporary m → AreGroups s l → AreGroups inner l
locks_there s inner l temporary m is given k =
    given k ∙ sym (subst (λ site. update_groups (here_at site) k ≡ update_groups (here_at (seen_site s)) k) (sym is) (groups_there (seen_site s) temporary m k))
