use Rattle.std.proofs.Common.{refl}
use Rattle.hal_meaning.specs.Sets.{set_of}
use Rattle.hal_right_images.proofs.views.Linked.{views_named}
use Rattle.hal_right_images.proofs.views.laws.the_blocks_of_a_process_name_views_for_its_phrases.Goals as goal

pub returns : goal.returns
returns c = λ turns files views image is process view names. views_named (set_of turns files) views files refl refl image is process view names
