-- The laws of walks: how instructions and the meaning's own runs go on past what a walk looks up.
use Rattle.std.specs.Prelude.{◌≡◌, List, Option}
use Rattle.mx_value.specs.declared.value.Segment.{Segment}
use Rattle.mx_value.specs.declared.namespace.Namespace.{Namespace}
use Rattle.mx_edit.specs.Entry.{Entry}
use Rattle.mx_runs.specs.Runs.{Model}
use Rattle.mx_meaning.specs.Walks.{Onward, entered, walked, walked_from}
use Rattle.mx_suspended.specs.Recorded.{Recorded, GoesPast}
use Rattle.mx_code_law.specs.States.{Next}
use Rattle.mx_code_law.specs.Finding.{Again, Place, walked_next}
use Rattle.mx_read_set.specs.Seen.{Seen}
use Rattle.mx_read_set.specs.Passed.{passed}
use Rattle.mx_walks.specs.Ways.{Look, begun_way, resumed_way, walked_way, leading_next, leading_run}

-- an instruction goes on as its walk leads; what a walk tests is nothing that its run has read
abbrev pub InstructionWalks : Type 0
InstructionWalks = (look : Look) (place : Place) (at : List Segment) (again : Again) (to : Namespace → Next) (seen : Seen)
    → passed look (walked_next place at again to) seen ≡ passed look (leading_next (walked_way look place at) again to) seen

-- so does a run of the meaning from the top
abbrev pub RunWalks : Type 0
RunWalks = (model : Model) (held : List Entry) (at : List Segment) (go : Onward) (so_far : Recorded)
    → GoesPast model held (walked at go) so_far (leading_run (begun_way model.look at) go) so_far

-- and behind an answer on its way
abbrev pub RunWalksOn : Type 0
RunWalksOn = (model : Model) (held : List Entry) (rest : List Segment) (came : Option Namespace) (go : Onward) (so_far : Recorded)
    → GoesPast model held (entered came (λ ns. walked_from rest ns go)) so_far (leading_run (resumed_way model.look rest came) go) so_far
