-- What a run meets that asks a node.
use Rattle.std.specs.Prelude.{◌≡◌}
use Rattle.mx_value.specs.declared.node.Node.{Node}
use Rattle.mx_edit.specs.declared.reply.Reply.{Reply}
use Rattle.mx_memo.specs.Memos.{Memory}
use Rattle.mx_runs.specs.Runs.{Model, Run, Asks}
use Rattle.mx_suspended.specs.Recorded.{GoesPast}
use Rattle.mx_memo_laws.specs.Entries.{entries_of}
use Rattle.mx_binding.specs.Records.{recorded_in}
use Rattle.mx_frames.specs.Known.{HasBegun, IsUnknown}
use Rattle.mx_binding.specs.declared.records.Records.{Records}
use Rattle.mx_frames.specs.declared.asking.Met.{Met}
use Rattle.mx_frames.specs.declared.asking.Met.TheVariants as met

-- whatever a run does with the reply, it goes on past its ask
abbrev pub IsAnswered : Model → Memory → Node → Reply → Records → Records → Type 0
IsAnswered model m n r olds news =
    (go : Reply → Run) → GoesPast model (entries_of m.held) (Asks n go) (recorded_in m.held olds) (go r) (recorded_in m.held news)

-- a node that is known answers, and any other is told
abbrev pub Meets : Model → Memory → Node → Records → Records → Met → Type 0
Meets model m n olds news (met.Reply r) = IsAnswered model m n r olds news
Meets model m n olds news met.Begun = HasBegun model m n × (news ≡ olds)
Meets model m n olds news met.New = IsUnknown model m n × (news ≡ olds)
