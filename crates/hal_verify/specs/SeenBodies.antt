-- How a block with its notes is seen as that of the definitions.
use Rattle.hal_verify.specs.declared.body.Body.{Body}
use Rattle.hal_verify.specs.Noting.{Noted}

abbrev pub seen_body : Body → Noted
seen_body body = record { block = body.block.now; code = body.code.now; notes = body.notes.now; outward = body.outward.now; of_process = body.of_process }
