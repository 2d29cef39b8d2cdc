use Rattle.hal_operations.proofs.ReadTexts.{read_parsed, read_refused, read_no_utf8}
use Rattle.hal_operations.proofs.conversions.read.Goals as goal

pub returns-in_default : goal.returns-in_default
returns-in_default c = read_no_utf8 c.args.text.now c.in_default.ensures.cases.0

pub returns-in-Ok-parse : goal.returns-in-Ok-parse
returns-in-Ok-parse c = read_parsed c.args.text.now c.in-Ok.text.now c.in-Ok-parse.number c.in-Ok.ensures.cases.0 c.in-Ok-parse.ensures.value.0

pub returns-in-Err : goal.returns-in-Err
returns-in-Err c = read_refused c.args.text.now c.in-Ok.text.now c.in-Ok.ensures.cases.0 c.in-Err.ensures.value.0
