use Rattle.mx_print.proofs.HeightLemmas.{heights_count_lines}
use Rattle.mx_print.proofs.LineLemmas.{statements_stand, arms_stand, text_has_its_lines}
use Rattle.mx_print.proofs.line.line_laws.Goals as goal

pub returns-clause-heights : goal.returns-clause-heights
returns-clause-heights c = heights_count_lines

pub returns-clause-statements : goal.returns-clause-statements
returns-clause-statements c = statements_stand

pub returns-clause-arms : goal.returns-clause-arms
returns-clause-arms c = arms_stand

pub returns-clause-lines : goal.returns-clause-lines
returns-clause-lines c = text_has_its_lines
