-- Events that are signalled, set or reset, which are for the image what they are for the checks.
use Rattle.std.specs.Prelude.{◌≡◌, ℕ, true, false, List, length, map, Option, Some, None}
use Rattle.hal_grammar.specs.Statements.{Eventful}
use Rattle.hal_phrases.specs.Phrases.{Phrase}
use Rattle.hal_uses.specs.Real.{means_unlatched}
use Rattle.hal_values.specs.declared.tables.EventStart.{EventStart}
use Rattle.hal_meaning.specs.Bodies.{processes_of}
use Rattle.hal_meaning.specs.Events.{declared_events, event_named, start_of}
use Rattle.hal_code.specs.declared.image.ImageParts.{ImageParts}
use Rattle.hal_code.specs.Images as images
use Rattle.hal_code.specs.Operands.{declared_event, is_latched}
use Rattle.hal_agreement.specs.Sites.{Site}

-- the event is one that the image declares, and a latched one where the checks know none that isn't
pub record EventAgrees (image : ImageParts) (site : Site) (ps : List Phrase) (block : ℕ) (e : Eventful) : Type 0 where
  pub start : EventStart
  pub declared : declared_event image (event_named site.set.phrases site.block e.name.name) ≡ Some start
  pub latched : means_unlatched ps block e.name.name ≡ false → is_latched start ≡ true

abbrev pub AnyEventAgrees : ImageParts → Site → List Phrase → ℕ → Option Eventful → Type 0
AnyEventAgrees image site ps block None = Unit {0}
AnyEventAgrees image site ps block (Some e) = EventAgrees image site ps block e

-- an image has the processes and the events of the set that a site belongs to, and these are those of its phrases
pub record HasEvents (image : ImageParts) (site : Site) : Type 0 where
  pub tables : images.tables_of image ≡ site.set.tables
  pub processes : length site.set.tables.processes ≡ length (processes_of site.set.phrases)
  pub events : site.set.tables.events ≡ map (start_of site.set.phrases site.set.constants) (declared_events site.set.phrases)
