-- A chain that is too deep.
use Rattle.std.proofs.Common.{◌≡◌, false, true, inl, inr, [], ◌∷◌, Err, refl, sym, ◌∙◌, ap, subst, arith, codes}
use Rattle.mx_value.specs.declared.node.Node.{Node}
use Rattle.mx_value.specs.declared.refusal.EvalRefusal.TheVariants.{TooDeep}
use Rattle.mx_edit.specs.declared.reply.Reply.{Reply}
use Rattle.mx_runs.specs.Lists.{Has}
use Rattle.mx_runs.specs.Runs.{Model, Run, Ends, Looks, Tests, Asks, Notes, Gives, Asked}
use Rattle.mx_runs.specs.Meaning.{Leads}
use Rattle.mx_runs.specs.Chains.{Reaches, Itself, AsksFirst}
use Rattle.mx_runs.specs.Inputs.{is_input}
use Rattle.mx_runs.proofs.Levels.{leads_split}
use Rattle.mx_formula_examples.proofs.NodeRules.{means}
use Rattle.mx_answers.specs.Held.{nodes_of, IsKnown}
use Rattle.mx_answers.specs.Answers.{DeepChain}
use Rattle.mx_state.specs.Model.{model_of}
use Rattle.mx_state.specs.Evaluations.{AsBound}
use Rattle.mx_state.proofs.States.{evaluates_as}
use Rattle.mx_state.proofs.Evaluated.{value_is_answered}
use Rattle.mx_state_examples.specs.Texts.{choosing}
use Rattle.mx_state_examples.specs.Rows as row
use Rattle.mx_state_examples.specs.Evaluations.{limited, a_cell, c_cell, choice_entry, of_a, of_choice, AskedIsTooDeep, NoValueSoDeep, TwoAreNotTooDeep, HeldIsNotTooDeep}
use Rattle.mx_state_examples.proofs.Choosing.{c_run}
use Rattle.mx_state_examples.proofs.Choice.{own, a_not_c, before, memo, c_bound, reached}

-- what a run is that goes on by such an event
record IsAsking (run : Run) (m : Node) : Type 0 where
  go : Reply → Run
  is : run ≡ Asks m go

asking : (run rest : Run) (m : Node) (r : Reply) → Leads (model_of choosing) run (Asked m r ∷ []) rest → IsAsking run m
asking (Asks x go) rest m r l = record { go = go; is = ap (λ y. Asks y go) (sym l.0) }
asking (Ends o) rest m r l = absurd l
asking (Looks k go) rest m r l = absurd l
asking (Tests k go) rest m r l = absurd l
asking (Notes d run) rest m r l = absurd l

-- c() asks a() before all else that it asks
asks : AsksFirst (model_of choosing) c_cell a_cell []
asks =
    let model : Model = model_of choosing in
    let s = leads_split model (model.body c_cell) (Ends (Gives (row.gives (row.whole 1)))) before (Asked a_cell (row.gives (row.whole 1)) ∷ []) c_run.leads in
    let a = asking s.mid (Ends (Gives (row.gives (row.whole 1)))) a_cell (row.gives (row.whole 1)) s.second in
    record { events = before; go = a.go; leads = subst (λ run. Leads model (model.body c_cell) before run) a.is s.first; fresh = λ x h r. r.among }

-- neither of both is known
unknown : (x : Node) → Has (c_cell ∷ a_cell ∷ []) x → IsKnown (model_of choosing) [] x → ⊥
unknown x h k =
    elim k [
      | inl i ↦ i
      | inr i ↦
          let no : is_input (model_of choosing) x ≡ false = elim h [
            | inl e ↦ subst (λ y. is_input (model_of choosing) y ≡ false) e (own (codes "c"))
            | inr q ↦ elim q [ inl e ↦ subst (λ y. is_input (model_of choosing) y ≡ false) e (own (codes "a")) | inr z ↦ absurd z ]
          ] in
          let f : true ≡ false = sym i ∙ no in cc
    ]

chain : DeepChain (model_of choosing) [] 1 c_cell a_cell
chain = record { chain = c_cell ∷ []; long = refl; begins = refl; first = (((λ h. elim h [ inl e ↦ a_not_c (sym e) | inr z ↦ z ]), ((λ h. h), tt)), (asks, tt)); unknown = unknown }

pub asked_is_too_deep : AskedIsTooDeep
asked_is_too_deep ticks = evaluates_as (limited 1 choosing []) (limited 1 choosing []) c_cell c_cell (Err (TooDeep a_cell)) ticks (AsBound c_bound) (chain, refl) (record { records = λ e h. absurd h; order = tt }) refl refl

pub no_value_so_deep : NoValueSoDeep
no_value_so_deep v ticks t ev = (ev.answers c_cell (AsBound c_bound)).1.room.shallow a_cell chain

pub two_are_not_too_deep : TwoAreNotTooDeep
two_are_not_too_deep = value_is_answered (limited 2 choosing []) c_cell c_cell (row.gives (row.whole 1)) of_choice (AsBound c_bound) (means c_run) memo (inr (inl refl)) reached (omega arith)

c_reached : (x : Node) → Has (nodes_of (choice_entry ∷ [])) x → Reaches (model_of choosing) c_cell x
c_reached x h = elim h [ inl e ↦ subst (λ y. Reaches (model_of choosing) c_cell y) e Itself | inr z ↦ absurd z ]

pub held_is_not_too_deep : HeldIsNotTooDeep
held_is_not_too_deep = value_is_answered (limited 1 choosing of_a) c_cell c_cell (row.gives (row.whole 1)) (choice_entry ∷ []) (AsBound c_bound) (means c_run) memo (inr (inl refl)) c_reached (omega arith)
