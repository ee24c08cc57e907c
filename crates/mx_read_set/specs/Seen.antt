-- What a run has read so far.
use Rattle.std.specs.Prelude.{Bool, if◌then◌else◌, List, [], ◌∷◌, ◌++◌}
use Rattle.std.specs.List.{list_any}
use Rattle.mx_value.specs.declared.read.Read.{Read}
use Rattle.mx_value.specs.Equality.{read_eq}
use Rattle.mx_edit.specs.declared.key.Key.{Key}
use Rattle.mx_edit.specs.Equality.{key_eq}

-- the keys that a run looked up, and what it noted as read, each once, in order of first occurrence
pub record Seen : Type 0 where
  pub keys : List Key
  pub reads : List Read

abbrev pub nothing_seen : Seen
nothing_seen = record { keys = []; reads = [] }

-- with x at the end, unless it is one of these, by a test of sameness
abbrev pub added : {X : Type 0} → (X → X → Bool) → List X → X → List X
added same xs x = if list_any (λ y. same y x) xs then xs else xs ++ x ∷ []

abbrev pub with_key : Key → Seen → Seen
with_key key s = record s { keys = added key_eq s.keys key }

abbrev pub with_read : Read → Seen → Seen
with_read read s = record s { reads = added read_eq s.reads read }
