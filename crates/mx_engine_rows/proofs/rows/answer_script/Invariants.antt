use Rattle.mx_engine_rows.proofs.rows.answer_script.Given as goal

abbrev pub ghosts-answer_all : goal.ghosts-answer_all
ghosts-answer_all a = record { name = a.blank.name; parts = a.blank.parts }
