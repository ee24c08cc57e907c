use Rattle.std.proofs.Common.{[]}
use Rattle.mx_project.specs.Lines.{all_owned_lines, global_lines}
use Rattle.mx_project.proofs.Pieces.{join_two}
use Rattle.mx_project.proofs.bytes.refs_bytes.Goals as goal

pub returns : goal.returns
returns c =
    rw (c.in_ok-push_globals.ensures, c.in_ok-push_all_owned.ensures, c.globals.ensures, c.spaces.ensures, c.new-out.ensures.items)
    (join_two [] (all_owned_lines c.args.text.now.spaces) (global_lines c.args.text.now.globals))
