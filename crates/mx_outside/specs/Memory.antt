-- What the forms in memory have left and have taken, and which of their calls fail.
use Rattle.std.specs.Prelude.{ℕ, Bool, ◌+◌, ◌-◌, ◌^◌, List, min, Option, Some, drop}
use Rattle.mx_outside.specs.Files.{FileMap, files_of}
use Rattle.mx_outside.specs.declared.memory.MemSource.{MemSource}
use Rattle.mx_outside.specs.declared.memory.MemSink.{MemSink}
use Rattle.mx_outside.specs.declared.memory.MemFiles.{MemFiles}
use Rattle.mx_outside.specs.declared.sure.SureSource.{SureSource}
use Rattle.mx_outside.specs.declared.sure.SureFiles.{SureFiles}

abbrev pub source_left : MemSource → Option (List ℕ)
source_left s = Some (drop s.at s.bytes.items)

abbrev pub source_ended : MemSource → Bool
source_ended s = s.ended

abbrev pub source_faults : MemSource → ℕ
source_faults s = s.faults

-- the numbers of the calls that fail, and of the calls so far
abbrev pub source_fails : MemSource → List ℕ
source_fails s = s.fails.items

abbrev pub source_calls : MemSource → ℕ
source_calls s = s.calls

abbrev pub sink_taken : MemSink → Option (List ℕ)
sink_taken s = Some s.bytes.items

abbrev pub sink_faults : MemSink → ℕ
sink_faults s = s.faults

abbrev pub sink_fails : MemSink → List ℕ
sink_fails s = s.fails.items

abbrev pub sink_calls : MemSink → ℕ
sink_calls s = s.calls

abbrev pub files_held : MemFiles → Option FileMap
files_held s = Some (files_of s.files.items)

abbrev pub files_fails : MemFiles → List ℕ
files_fails s = s.fails.items

-- reads and writes together
abbrev pub files_calls : MemFiles → ℕ
files_calls s = s.calls

abbrev pub sure_held : SureFiles → Option FileMap
sure_held s = Some (files_of s.files.items)

abbrev pub sure_ended : SureSource → Bool
sure_ended s = s.ended

abbrev pub sure_left : SureSource → Option (List ℕ)
sure_left s = Some (drop s.at s.bytes.items)

-- the number of the next call, which stops at the last value of a counter
abbrev pub next_call : ℕ → ℕ
next_call calls = min (calls + 1) (2 ^ 64 - 1)
