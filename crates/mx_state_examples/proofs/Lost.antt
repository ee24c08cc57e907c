-- An evaluation that comes to no value.
use Rattle.std.proofs.Common.{◌≡◌, ℕ, ◌+◌, ◌≤◌, ◌⊎◌, inl, inr, Result, List, [], ◌∷◌, ◌++◌, length, refl, subst, arith, length-append}
use Rattle.std.proofs.lemmas.List.{length-map}
use Rattle.mx_value.specs.declared.node.Node.{Node}
use Rattle.mx_value.specs.declared.value.Value.{Value}
use Rattle.mx_value.specs.declared.refusal.EvalRefusal.{EvalRefusal}
use Rattle.mx_edit.specs.Entry.{Entry}
use Rattle.mx_runs.specs.Lists.{Has, Distinct}
use Rattle.mx_runs.specs.Runs.{Model}
use Rattle.mx_runs.specs.Chains.{asks_of, DoesAsk, Reaches, HasValue, MeansNothing}
use Rattle.mx_runs.proofs.Lists.{no_more, has_left, has_right}
use Rattle.mx_runs.proofs.Events.{asked_has_value}
use Rattle.mx_runs.proofs.Runs.{AskCase, Before, Now, After, ask_case}
use Rattle.mx_answers.specs.Held.{most_held, nodes_of, IsRight, Counts}
use Rattle.mx_answers.specs.Answers.{DeepChain, Completes, Answer}
use Rattle.mx_answers.proofs.Held.{nodes_grow, nodes_cases, held_value, holds_more}
use Rattle.mx_model.specs.Records.{ModelRecord}
use Rattle.mx_state.specs.Model.{model_of}
use Rattle.mx_state.specs.Evaluations.{IsAsked, Evaluates}
use Rattle.mx_state.proofs.States.{evaluates_as}
use Rattle.mx_state.proofs.Evaluated.{chain_reached}
use Rattle.mx_state_examples.specs.Evaluations.{holding}

-- where n reaches what is held and so many nodes without a value
module _ (model : Model) (before more : List Entry) (right : IsRight model (before ++ more)) (n : Node) (lost : List Node) (distinct : Distinct lost)
    (reached : (x : Node) → Has (nodes_of more) x → Reaches model n x) (only : (x : Node) → Has lost x → Reaches model n x × (HasValue model x → ⊥))
    (cover : (x : Node) → Reaches model n x → Has (nodes_of (before ++ more)) x ⊎ Has lost x) (limit : ℕ) (short : length more + length lost ≤ limit) where
  abbrev after : List Entry
  after = before ++ more

  whole : (x : Node) → Reaches model n x → Counts model x → Has (nodes_of after) x
  whole x r c = elim (cover x r) [ inl a ↦ a | inr h ↦ absurd ((only x h).1 c.value) ]

  not_deep : (m : Node) → DeepChain model before limit n m → ⊥
  not_deep m d =
      let all : (x : Node) → Has (d.chain ++ m ∷ []) x → Has (nodes_of more ++ lost) x = λ x h.
      elim (cover x (subst (λ y. Reaches model y x) d.begins (chain_reached model d.chain m d.first.1 x h))) [
        | inl a ↦ elim (nodes_cases before more after x refl a) [ inl b ↦ absurd (d.unknown x h (inl b)) | inr b ↦ has_left (nodes_of more) lost x b ]
        | inr l ↦ has_right (nodes_of more) lost x l
      ] in
      let i : length (d.chain ++ m ∷ []) ≤ length (nodes_of more ++ lost) = no_more (d.chain ++ m ∷ []) (nodes_of more ++ lost) d.first.0 all in
      let j : length (nodes_of more ++ lost) ≡ length (nodes_of more) + length lost = length-append (nodes_of more) lost in
      let o : length (nodes_of more) ≡ length more = length-map more (λ e. e.node) in
      let k : length (d.chain ++ m ∷ []) ≡ length d.chain + 1 = length-append d.chain (m ∷ []) in
      let l : length d.chain ≡ limit = d.long in
      omega (arith, i, j, k, l, o, short)

  pub completes_lost : Completes model (record { node = n; held = before; limit = limit }) after (length more + length lost)
  completes_lost = record {
    room = record {
      shallow = not_deep;
      few = record {
        nodes = nodes_of after;
        few = let i : length (nodes_of after) ≡ length after = length-map after (λ e. e.node) in let j : length after ≤ most_held = right.room in omega (arith, i, j);
        whole = λ x c. elim c [ inl a ↦ nodes_grow before more after x refl a | inr p ↦ whole x p.0 p.1 ];
      };
    };
    holds = holds_more model before more after n right refl (λ x h. elim (nodes_cases before more after x refl h) [ inl a ↦ inl a | inr b ↦ inr (reached x b, record { value = held_value model after right x h; own = right.own x h }) ]) whole;
    lost = length lost;
    are_lost = record {
      nodes = lost;
      distinct = distinct;
      only = only;
      whole = λ x r none. elim (cover x r) [ inl a ↦ absurd (none (held_value model after right x a)) | inr h ↦ h ];
      many = refl;
    };
    runs = let i : length after ≡ length before + length more = length-append before more in omega (arith, i);
  }

-- a node whose first ask means nothing asks no other
pub only_ask : (model : Model) (n m k : Node) (a : DoesAsk model n m) → asks_of a.events ≡ [] → MeansNothing model m → DoesAsk model n k → m ≡ k
only_ask model n m k a none lost b = by (ask_case model (model.body n) m k a.go b.go a.events b.events a.leads b.leads)
  where
    by : AskCase model m a.events b.events k → m ≡ k
    by (Before h) = let v = asked_has_value model n _ b.events b.leads m h in absurd (lost _ v.means)
    by (Now e f) = f
    by (After h v) = absurd (subst (λ ns. Has ns k) none h)

-- an answer of the node that is asked, where nothing is held before it or after
pub nothing_held : (text : ModelRecord) (n b : Node) (a : Result Value EvalRefusal) (ticks : ℕ) → IsAsked (model_of text) n b → Answer (model_of text) (record { node = b; held = []; limit = 5000 }) a [] ticks → Evaluates (holding text []) n a ticks (holding text [])
nothing_held text n b a ticks asked answer = evaluates_as (holding text []) (holding text []) n b a ticks asked answer (record { records = λ e h. absurd h; order = tt }) refl refl
