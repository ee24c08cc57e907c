use Rattle.mx_project.specs.Writing.{first_line, space_lines, all_bases_lines, table_lines}
use Rattle.mx_project.proofs.Pieces.{join_three}
use Rattle.mx_project.proofs.bytes.model_bytes.Goals as goal

pub returns : goal.returns
returns c =
    rw (
      c.in_ok-push_tables.ensures,
      c.in_ok-push_all_bases.ensures,
      c.in_ok-push_spaces.ensures,
      c.in_ok-push.ensures,
      c.tables.ensures,
      c.spaces-2.ensures,
      c.spaces.ensures,
      c.new-out.ensures.items,
    ) (join_three first_line (space_lines c.args.text.now.spaces) (all_bases_lines c.args.text.now.spaces) (table_lines c.args.text.now.tables))
