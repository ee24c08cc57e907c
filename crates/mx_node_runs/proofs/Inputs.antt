-- The input of a node, which its run looks up before all else.
use Rattle.std.proofs.Common.{◌≡◌, Bool, true, false, List, Some, None, Option, refl, sym, ap, subst, ◌∙◌}
use Rattle.std.specs.Prelude.{if◌then◌else◌}
use Rattle.mx_value.specs.declared.label.Label.{Label}
use Rattle.mx_value.specs.declared.value.Value.{Value}
use Rattle.mx_value.specs.declared.value.Segment.{Segment}
use Rattle.mx_value.specs.declared.node.Node.{Node}
use Rattle.mx_value.specs.declared.node.Node.TheVariants.{Cell, Item}
use Rattle.mx_edit.specs.declared.key.Key.{Key}
use Rattle.mx_edit.specs.declared.key.Key.TheVariants as key
use Rattle.mx_edit.specs.declared.key.KeyResult.{KeyResult}
use Rattle.mx_edit.specs.declared.key.KeyResult.TheVariants as found
use Rattle.mx_runs.specs.Inputs.{is_static}
use Rattle.mx_runs.specs.Runs.{Run, Looks}
use Rattle.mx_meaning.specs.Laws.{model_of}
use Rattle.mx_meaning.specs.Nodes.{body, cells_run, input_or}
use Rattle.mx_read_set.specs.Seen.{Seen, with_key}
use Rattle.mx_node_runs.specs.Behind.{after_input}
use Rattle.mx_node_runs.specs.Halts.{GoesOn}
use Rattle.mx_node_runs.proofs.Going.{looked, stays}

-- what the key leads to
abbrev pub answer_of : Option Value → KeyResult
answer_of (Some v) = found.Value v
answer_of None = found.Missing

module _ (look : Key → KeyResult) (olds : Seen) where
  abbrev pub Gives : Node → Option Value → Seen → Type 0
  Gives n held news = GoesOn (model_of look) (body n) olds (after_input n held) news

  pub of_item : (n : Node) (at : List Segment) (args : List Value) → Item at args ≡ n → Gives n None olds
  of_item n at args e = subst (λ (m : Node). Gives m None olds) e (stays (model_of look) (body (Item at args)) olds)

  module _ (n : Node) (at : List Segment) (name : Label) (args : List Value) (e : Cell at name args ≡ n) where
    abbrev run : Run
    run = cells_run (Cell at name args) at name args

    on : (b : Bool) → is_static at ≡ b → (rest : Run) (news : Seen) → GoesOn (model_of look) (if b then Looks (key.Input (Cell at name args)) (input_or run) else run) olds rest news → GoesOn (model_of look) (body (Cell at name args)) olds rest news
    on b i rest news g = subst (λ (c : Bool). GoesOn (model_of look) (if c then Looks (key.Input (Cell at name args)) (input_or run) else run) olds rest news) (sym i) g

    pub not_static : is_static at ≡ false → Gives n None olds
    not_static i = subst (λ (m : Node). Gives m None olds) e (on false i run olds (stays (model_of look) run olds))

    found_as : (held : Option Value) → input_or run (answer_of held) ≡ after_input (Cell at name args) held
    found_as (Some v) = refl
    found_as None = refl

    pub sought : is_static at ≡ true → (held : Option Value) → answer_of held ≡ look (key.Input n) → Gives n held (with_key (key.Input n) olds)
    sought i held h =
        subst (λ (m : Node). answer_of held ≡ look (key.Input m) → Gives m held (with_key (key.Input m) olds)) e
        (λ k. on true i (after_input (Cell at name args) held) (with_key (key.Input (Cell at name args)) olds)
        (subst (λ (r : Run). GoesOn (model_of look) (Looks (key.Input (Cell at name args)) (input_or run)) olds r (with_key (key.Input (Cell at name args)) olds))
        (ap (input_or run) (sym k) ∙ found_as held)
        (looked (model_of look) (key.Input (Cell at name args)) (input_or run) olds))) h
