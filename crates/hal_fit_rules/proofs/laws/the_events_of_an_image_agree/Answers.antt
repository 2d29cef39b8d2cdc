use Rattle.hal_fit_rules.proofs.Eventful.{event_known}
use Rattle.hal_fit_rules.proofs.laws.the_events_of_an_image_agree.Goals as goal

pub returns : goal.returns
returns c image site e own counted has is = event_known image site counted has e own is
