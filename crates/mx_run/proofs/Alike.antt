-- From states that are alike and faithful commands write one output.
use Rattle.std.proofs.Common.{◌++◌, ℕ, List, [], ◌∷◌, refl, sym, ap, ◌∙◌}
use Rattle.mx_answers.specs.Held.{HoldAlike}
use Rattle.mx_world.proofs.Beginning.{begins_named}
use Rattle.mx_engine.specs.Engine.{first_state}
use Rattle.mx_commands.specs.Laws.{IsFaithful, AreRunsAlike}
use Rattle.mx_commands.proofs.Alike.{one_block, runs_alike}
use Rattle.mx_commands.proofs.Faithful.{stays_faithful}
use Rattle.mx_run.specs.Laws.{OneOutput, OneTranscript}
use Rattle.mx_run.specs.Script.{commands}
use Rattle.mx_run.specs.Transcript.{begin}

pub one_output : OneOutput
one_output s t [] output other new next f g l x y i = (x.0 ∙ sym y.0, runs_alike s t new next l x.1 y.1)
one_output s t (c ∷ cs) output other new next f g l x y i =
    let h = one_block s t c x.0 y.0 x.2 y.2 f g l x.4 y.4 i.0 in
    let r = one_output x.2 y.2 cs x.1 y.1 new next (stays_faithful s c x.0 x.2 f x.4) (stays_faithful t c y.0 y.2 g y.4) h.1 x.5 y.5 i.1 in
    (x.3 ∙ ap (λ (b : List ℕ). b ++ x.1) h.0 ∙ ap (λ (b : List ℕ). y.0 ++ b) r.0 ∙ sym y.3, r.1)

begins_faithful : IsFaithful first_state
begins_faithful = record { named = begins_named; records = λ e h. absurd h }

none_alike : HoldAlike [] []
none_alike = record { nodes = λ x. ((λ h. h), (λ h. h)); replies = λ d e h k i. absurd h; many = refl }

pub one_transcript : OneTranscript
one_transcript script files output other after later x y i =
    let alike : AreRunsAlike (begin files) (begin files) = record { engine = record { text = refl; limit = refl; held = none_alike }; files = refl } in
    let one = one_output (begin files) (begin files) (commands script) output other x.0 y.0 begins_faithful begins_faithful alike x.1 y.1 i in
    (one.0, sym x.2 ∙ one.1.files ∙ y.2)
