use Rattle.std.proofs.Common.{refl}
use Rattle.hal_object.specs.Fields.{rows_at, text_at, front_at, integer_at, eight_at, four_at, two_at, byte_at}
use Rattle.hal_object.specs.Reading.{image_at, whole, marked, parts_at, code_at, instr_at, value_instr_at, control_instr_at, asking_instr_at, name_at, sizes_at, long_text_at, named_at, block_at, item_at, view_at, target_at, dimensions_at, dimensions_of, dimension_at, base_at, base_behind, process_at, place_at, reference_at, data_at, cell_at, value_at, kind_at, zero_at}
use Rattle.hal_object.proofs.worked.images_are_read.Goals as goal

pub returns-clause-smallest : goal.returns-clause-smallest
unfolding image_at whole marked parts_at code_at instr_at value_instr_at control_instr_at asking_instr_at name_at sizes_at long_text_at named_at block_at item_at view_at target_at dimensions_at dimensions_of dimension_at base_at base_behind process_at place_at reference_at data_at cell_at value_at kind_at zero_at rows_at text_at front_at integer_at eight_at four_at two_at byte_at
returns-clause-smallest c = refl

pub returns-clause-with_rows : goal.returns-clause-with_rows
unfolding image_at whole marked parts_at code_at instr_at value_instr_at control_instr_at asking_instr_at name_at sizes_at long_text_at named_at block_at item_at view_at target_at dimensions_at dimensions_of dimension_at base_at base_behind process_at place_at reference_at data_at cell_at value_at kind_at zero_at rows_at text_at front_at integer_at eight_at four_at two_at byte_at
returns-clause-with_rows c = refl

pub returns-clause-cut : goal.returns-clause-cut
unfolding image_at whole marked parts_at code_at instr_at value_instr_at control_instr_at asking_instr_at name_at sizes_at long_text_at named_at block_at item_at view_at target_at dimensions_at dimensions_of dimension_at base_at base_behind process_at place_at reference_at data_at cell_at value_at kind_at zero_at rows_at text_at front_at integer_at eight_at four_at two_at byte_at
returns-clause-cut c = refl

pub returns-clause-longer : goal.returns-clause-longer
unfolding image_at whole marked parts_at code_at instr_at value_instr_at control_instr_at asking_instr_at name_at sizes_at long_text_at named_at block_at item_at view_at target_at dimensions_at dimensions_of dimension_at base_at base_behind process_at place_at reference_at data_at cell_at value_at kind_at zero_at rows_at text_at front_at integer_at eight_at four_at two_at byte_at
returns-clause-longer c = refl
