use Rattle.hal_link.proofs.Followed.{image_rows}
use Rattle.hal_link.proofs.Linked.{image_blocks, image_known, image_owns}
use Rattle.hal_link.proofs.laws.each_block_of_a_linked_image_is_of_a_process_or_a_unit.Goals as goal

pub returns-clause-rows : goal.returns-clause-rows
returns-clause-rows c = image_rows

pub returns-clause-each : goal.returns-clause-each
returns-clause-each c = image_blocks

pub returns-clause-known : goal.returns-clause-known
returns-clause-known c = image_known

pub returns-clause-own : goal.returns-clause-own
returns-clause-own c = image_owns
