-- A node that is spelled may be handed in.
use Rattle.std.proofs.Common.{◌≡◌, ℕ, List, [], ◌∷◌, All, sym, ap, ◌∙◌, subst, inl, inr}
use Rattle.std.proofs.lemmas.List.Elements.{All-head, All-tail}
use Rattle.mx_value.specs.declared.value.Value.{Value}
use Rattle.mx_value.specs.declared.value.Segment.{Segment, out-Segment}
use Rattle.mx_value.specs.declared.value.Segment.TheOpen.{Segment-F}
use Rattle.mx_value.specs.declared.value.Segment.TheViews.{out-roll-Segment}
use Rattle.mx_value.specs.declared.value.Segment.TheVariants as segment
use Rattle.mx_value.specs.declared.node.Node.{Node}
use Rattle.mx_value.specs.declared.node.Node.TheVariants as node
use Rattle.mx_runs.specs.Lists.{Has}
use Rattle.mx_round_trip.specs.Proper.{AreSteps}
use Rattle.mx_round_trip.specs.Proper as spelled
use Rattle.mx_round_trip.proofs.Proper.{spelled_proper}
use Rattle.mx_state.specs.Proper.{IsArgument, AreArguments, IsStep, IsProper}
use Rattle.mx_command_laws.specs.Sources.{NodesAreProper}

argument : (v : Value) → spelled.IsArgument v → IsArgument v
argument v a = record { plain = a.plain; small = a.size; flat = a.nesting }

arguments : (args : List Value) → All spelled.IsArgument args → AreArguments args
arguments [] h v i = absurd i
arguments (a ∷ args) h v i =
    elim i [
      | inl e ↦ subst (λ x. IsArgument x) e (argument a (All-head spelled.IsArgument a args h))
      | inr j ↦ arguments args (All-tail spelled.IsArgument a args h) v j
    ]

name_step : (name : List ℕ) → IsStep (out-Segment (segment.Name name))
name_step name = subst IsStep (sym (ap out-Segment (sym (segment.rolls-Name name)) ∙ out-roll-Segment (Segment-F.Name name))) tt

item_step : (args : List Value) → AreArguments args → IsStep (out-Segment (segment.Item args))
item_step args a = subst IsStep (sym (ap out-Segment (sym (segment.rolls-Item args)) ∙ out-roll-Segment (Segment-F.Item args))) a

as_step : (s t : Segment) → s ≡ t → IsStep (out-Segment s) → IsStep (out-Segment t)
as_step s t e h = subst (λ (x : Segment). IsStep (out-Segment x)) e h

steps : (at : List Segment) → AreSteps at → (s : Segment) → Has at s → IsStep (out-Segment s)
steps _ AreSteps.none s i = absurd i
steps _ (AreSteps.name {a} n h) s i = elim i [ inl e ↦ as_step (segment.Name n) s e (name_step n) | inr j ↦ steps a h s j ]
steps _ (AreSteps.item {a} n xs args h) s i =
    elim i [
      | inl e ↦ as_step (segment.Name n) s e (name_step n)
      | inr j ↦ elim j [ inl e ↦ as_step (segment.Item xs) s e (item_step xs (arguments xs args)) | inr k ↦ steps a h s k ]
    ]

proper : (n : Node) → spelled.IsProper n → IsProper n
proper (node.Cell at name args) h = record { has = record { own = arguments args h.1; items = steps at h.0.steps }; small = h.0.size }
proper (node.Item at args) h = record { has = record { own = arguments args h.2; items = steps at h.0.steps }; small = h.0.size }

pub nodes_are_proper : NodesAreProper
nodes_are_proper source n h = proper n (spelled_proper source n h)
