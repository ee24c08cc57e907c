-- The run of a node goes on where the walk of its address led to.
use Rattle.std.proofs.Common.{◌≡◌, List, Option, Some, None, refl, sym, ap, subst, ◌∙◌}
use Rattle.mx_value.specs.declared.value.Segment.{Segment}
use Rattle.mx_value.specs.declared.namespace.Namespace.{Namespace}
use Rattle.mx_value.specs.declared.value.Value.{Value}
use Rattle.mx_value.specs.declared.node.Node.{Node}
use Rattle.mx_edit.specs.declared.key.Key.{Key}
use Rattle.mx_edit.specs.declared.key.KeyResult.{KeyResult}
use Rattle.mx_edit.specs.declared.reply.Reply.{Reply}
use Rattle.mx_runs.specs.Runs.{Model, Run}
use Rattle.mx_meaning.specs.Laws.{model_of}
use Rattle.mx_meaning.specs.Nodes.{body}
use Rattle.mx_meaning.specs.Walks.{entered, walked_from}
use Rattle.mx_code.specs.Told.{told as told_code}
use Rattle.mx_code_law.specs.Machine.{Does}
use Rattle.mx_read_set.specs.Seen.{Seen}
use Rattle.mx_stack.specs.Flight.{Flight, on_top}
use Rattle.mx_lookup.specs.declared.ending.Ending.TheVariants as ending
use Rattle.mx_lookup.specs.Homes.{home_of}
use Rattle.mx_walks.specs.declared.walks.Walked.{Walked}
use Rattle.mx_walks.specs.Ways.{Leading, begun_way, resumed_way, leading_run, told}
use Rattle.mx_walks.proofs.Leading.{run_walks, run_walks_on}
use Rattle.mx_interpreter.specs.Runs.{recorded, resumed}
use Rattle.mx_node_runs.specs.declared.halt.Halt.{Halt}
use Rattle.mx_node_runs.specs.declared.halt.Halt.TheVariants as halt
use Rattle.mx_node_runs.specs.declared.halt.InCode.{InCode}
use Rattle.mx_node_runs.specs.declared.halt.Waiting.TheVariants as waiting
use Rattle.mx_node_runs.specs.Behind.{address_of, after_input, behind}
use Rattle.mx_node_runs.specs.Halts.{GoesOn, HaltsAt, HaltsFrom, Resumes}
use Rattle.mx_node_runs.proofs.Going.{goes_to_halt}
use Rattle.mx_node_runs.proofs.Halting.{ended}

module _ (look : Key → KeyResult) (n : Node) where
  -- on the way to what a walk leads to
  along : (run : Run) (l k : Leading) (olds news : Seen) (at : Halt) (before after : Flight) → k ≡ l → GoesOn (model_of look) run olds (leading_run l (behind n)) olds → HaltsFrom (model_of look) n (leading_run k (behind n)) olds news at before after → HaltsFrom (model_of look) n run olds news at before after
  along run l k olds news at before after e g h = λ i.
      let p = h i in (
        goes_to_halt (model_of look) n run (leading_run k (behind n)) olds olds news at after.top
            (subst (λ (x : Leading). GoesOn (model_of look) run olds (leading_run x (behind n)) olds) (sym e) g) p.0,
        p.1,
      )

  -- from the top
  pub from_top : (walked : Walked) (olds mids news : Seen) (at : Halt) (before after : Flight) → told walked ≡ begun_way look (address_of n) → GoesOn (model_of look) (body n) olds (after_input n None) mids → HaltsFrom (model_of look) n (leading_run (told walked) (behind n)) mids news at before after → HaltsFrom (model_of look) n (body n) olds news at before after
  from_top walked olds mids news at before after e g h = λ i.
      let q = along (after_input n None) (begun_way look (address_of n)) (told walked) mids news at before after e (λ held asks. run_walks (model_of look) held (address_of n) (behind n) (recorded mids asks)) h i in
      (goes_to_halt (model_of look) n (body n) (after_input n None) olds mids news at after.top g q.0, q.1)

  -- with the value that was put in
  pub put_in : (v : Value) (olds mids : Seen) (f : Flight) → GoesOn (model_of look) (body n) olds (after_input n (Some v)) mids → HaltsAt (model_of look) n (body n) olds mids (halt.Ends (ending.Gives (record { value = v; namespace = None }))) f.top
  put_in v olds mids f g =
      goes_to_halt (model_of look) n (body n) (after_input n (Some v)) olds mids mids (halt.Ends (ending.Gives (record { value = v; namespace = None }))) f.top g
      (ended (model_of look) n (after_input n (Some v)) mids (ending.Gives (record { value = v; namespace = None })) f.top refl)

  -- behind an answer on the way
  pub on_way : (onward : List Segment) (came : Option Namespace) (r : Reply) (walked : Walked) (go : Reply → Run) (olds news : Seen) (at : Halt) (before after : Flight) → came ≡ r.namespace → told walked ≡ resumed_way look onward came → HaltsFrom (model_of look) n (leading_run (told walked) (behind n)) olds news at before after → Resumes n (waiting.OnWay onward) before.top go → HaltsAt (model_of look) n (go r) olds news at after.top × (after.below ≡ before.below)
  on_way onward came r walked go olds news at before after c e h s =
      along (go r) (resumed_way look onward came) (told walked) olds news at before after e
      (λ held asks. subst (λ (run : Run). GoesOn (model_of look) run olds (leading_run (resumed_way look onward came) (behind n)) olds)
      (ap (λ (o : Option Namespace). entered o (λ ns. walked_from onward ns (behind n))) c ∙ sym (s.1 r))
      (λ held asks. run_walks_on (model_of look) held onward came (behind n) (recorded olds asks)) held asks) h s.0

-- behind an answer in the code
pub in_code : (model : Model) (n : Node) (c : InCode) (r : Reply) (go : Reply → Run) (olds news : Seen) (at : Halt) (before mid after : Flight) → mid ≡ on_top (resumed c.resume r before.top) before → ((run : Run) → Does (told_code c.code) (home_of c.home) mid.top run → HaltsAt model c.home.node run olds news at after.top) → after.below ≡ mid.below → Resumes n (waiting.InCode c) before.top go → HaltsAt model n (go r) olds news at after.top × (after.below ≡ before.below)
in_code model n c r go olds news at before mid after e on b s = (
  subst (λ (m : Node). HaltsAt model m (go r) olds news at after.top) s.0
      (on (go r) (subst (λ (f : Flight). Does (told_code c.code) (home_of c.home) f.top (go r)) (sym e) (s.1 r))),
  b ∙ ap (λ (f : Flight). f.below) e,
)
