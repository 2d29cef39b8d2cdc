use Rattle.hal_object.proofs.ReadingLaws.{one_spelling}
use Rattle.hal_object.proofs.KindLaws.{kind_reads, cell_reads, place_reads}
use Rattle.hal_object.proofs.RowLaws.{process_reads, view_reads, item_reads, block_reads, name_reads}
use Rattle.hal_object.proofs.InstrLaws.{instr_reads}
use Rattle.hal_object.proofs.laws.rows_have_one_spelling.Goals as goal

pub returns-clause-kinds : goal.returns-clause-kinds
returns-clause-kinds c = one_spelling kind_reads

pub returns-clause-cells : goal.returns-clause-cells
returns-clause-cells c = one_spelling cell_reads

pub returns-clause-places : goal.returns-clause-places
returns-clause-places c = one_spelling place_reads

pub returns-clause-processes : goal.returns-clause-processes
returns-clause-processes c = one_spelling process_reads

pub returns-clause-views : goal.returns-clause-views
returns-clause-views c = one_spelling view_reads

pub returns-clause-items : goal.returns-clause-items
returns-clause-items c = one_spelling item_reads

pub returns-clause-blocks : goal.returns-clause-blocks
returns-clause-blocks c = one_spelling block_reads

pub returns-clause-names : goal.returns-clause-names
returns-clause-names c = one_spelling name_reads

pub returns-clause-instructions : goal.returns-clause-instructions
returns-clause-instructions c = one_spelling instr_reads
