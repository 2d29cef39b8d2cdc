-- What is looked up where phrases stand.
use Rattle.std.specs.Prelude.{ℕ, ◌+◌, ◌≤◌, length, map}
use Rattle.std.proofs.Common.{◌≡◌}
use Rattle.hal_meaning.specs.Bodies.{processes_of}
use Rattle.hal_meaning.specs.Events.{declared_events}
use Rattle.hal_meaning.specs.ReportNames.{first_cell, first_place}
use Rattle.hal_storage.specs.referents.FirstCells.{first_in}
use Rattle.hal_storage.specs.referents.Referents.{referents}
use Rattle.hal_storage.specs.referents.SeenReferents.{seen_referent}
use Rattle.hal_storage.specs.sets.SeenSets.{seen_set}
use Rattle.hal_gen_expr.specs.FirstPlaces.{first_in as first_in_places}
use Rattle.hal_gen_expr.specs.SeenSites.{IsSite, Sited, lent_place}
use Rattle.hal_gen_expr.specs.declared.site.Site as rust-site

pub listed_of : (s : rust-site.Site) → IsSite s → map seen_referent s.referents.now ≡ referents (seen_set s.set.now).phrases (seen_set s.set.now).constants
listed_of s (Sited listed processes declared few counted placed) = listed

pub processes_there : (s : rust-site.Site) → IsSite s → s.events.processes.now ≡ processes_of (seen_set s.set.now).phrases
processes_there s (Sited listed processes declared few counted placed) = processes

pub declared_there : (s : rust-site.Site) → IsSite s → s.events.declared.now ≡ declared_events (seen_set s.set.now).phrases
declared_there s (Sited listed processes declared few counted placed) = declared

pub few_there : (s : rust-site.Site) → IsSite s → length s.events.processes.now + length s.events.declared.now ≤ 65535
few_there s (Sited listed processes declared few counted placed) = few

pub counted_of : (s : rust-site.Site) (k : ℕ) → IsSite s → first_in s.cells.now k ≡ first_cell (seen_set s.set.now).phrases (seen_set s.set.now).constants k
counted_of s k (Sited listed processes declared few counted placed) = counted k

pub placed_of : (s : rust-site.Site) (k : ℕ) → IsSite s → first_in_places s.first_places.now k ≡ first_place (map lent_place s.places.now) k
placed_of s k (Sited listed processes declared few counted placed) = placed k
