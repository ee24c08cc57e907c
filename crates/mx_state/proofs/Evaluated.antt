-- Records that a node reaches are what its evaluation holds.
use Rattle.std.proofs.Common.{◌≡◌, ℕ, ◌+◌, ◌≤◌, inl, inr, true, false, List, [], ◌∷◌, ◌++◌, length, Ok, refl, sym, ◌∙◌, subst, arith, length-append}
use Rattle.std.proofs.lemmas.List.{length-map}
use Rattle.mx_value.specs.declared.node.Node.{Node}
use Rattle.mx_edit.specs.Entry.{Entry}
use Rattle.mx_runs.specs.Lists.{Has}
use Rattle.mx_runs.specs.Runs.{Model}
use Rattle.mx_runs.specs.Inputs.{InputsEnd}
use Rattle.mx_runs.specs.Chains.{Reaches, Itself, Through, AskInTurn, first_or}
use Rattle.mx_runs.proofs.Lists.{no_more}
use Rattle.mx_runs.proofs.Reach.{reach_has_value}
use Rattle.mx_answers.specs.Held.{most_held, nodes_of, IsRight, Counts, HoldsMore}
use Rattle.mx_answers.specs.Answers.{DeepChain, Completes}
use Rattle.mx_answers.proofs.Held.{nodes_grow, nodes_cases, held_value, held_reach, holds_more}
use Rattle.mx_model.specs.Keys.{key_result}
use Rattle.mx_state.specs.Model.{model_of}
use Rattle.mx_state.specs.Laws.{ValueIsAnswered}
use Rattle.mx_state.proofs.Bound.{inputs_end}
use Rattle.mx_state.proofs.States.{evaluates_as}

first_reached : (model : Model) (a : Node) (rest : List Node) → AskInTurn model (a ∷ rest) → (x : Node) → Has (a ∷ rest) x → Reaches model a x
first_reached model a [] t x h = elim h [ inl e ↦ subst (λ y. Reaches model a y) e Itself | inr r ↦ absurd r ]
first_reached model a (b ∷ rest) t x h =
    elim h [
      | inl e ↦ subst (λ y. Reaches model a y) e Itself
      | inr r ↦ Through b (record { events = t.0.events; go = t.0.go; leads = t.0.leads }) (first_reached model b rest t.1 x r)
    ]

pub chain_reached : (model : Model) (chain : List Node) (m : Node) → AskInTurn model (chain ++ m ∷ []) → (x : Node) → Has (chain ++ m ∷ []) x → Reaches model (first_or m chain) x
chain_reached model [] m t x h = first_reached model m [] t x h
chain_reached model (c ∷ chain) m t x h = first_reached model c (chain ++ m ∷ []) t x h

module _ (model : Model) (ends : InputsEnd model) (before more : List Entry) (right : IsRight model (before ++ more)) (n : Node) (held : Has (nodes_of (before ++ more)) n)
    (reached : (x : Node) → Has (nodes_of more) x → Reaches model n x) (limit : ℕ) (short : length more ≤ limit) where
  abbrev after : List Entry
  after = before ++ more

  counted : (x : Node) → Has (nodes_of after) x → Counts model x
  counted x h = record { value = held_value model after right x h; own = right.own x h }

  whole : (x : Node) → Reaches model n x → Counts model x → Has (nodes_of after) x
  whole x r c =
      elim (held_reach model after ends right n x held r) [
        | inl a ↦ a
        | inr i ↦ absurd (let e : true ≡ false = sym i ∙ c.own in cc)
      ]

  holds : HoldsMore model before n after
  holds = holds_more model before more after n right refl (λ x h. elim (nodes_cases before more after x refl h) [ inl a ↦ inl a | inr b ↦ inr (reached x b, counted x h) ]) whole

  not_deep : (m : Node) → DeepChain model before limit n m → ⊥
  not_deep m d =
      let all : (x : Node) → Has (d.chain ++ m ∷ []) x → Has (nodes_of more) x = λ x h.
      elim (held_reach model after ends right n x held (subst (λ y. Reaches model y x) d.begins (chain_reached model d.chain m d.first.1 x h))) [
        | inl a ↦ elim (nodes_cases before more after x refl a) [ inl b ↦ absurd (d.unknown x h (inl b)) | inr b ↦ b ]
        | inr i ↦ absurd (d.unknown x h (inr i))
      ] in
      let i : length (d.chain ++ m ∷ []) ≤ length (nodes_of more) = no_more (d.chain ++ m ∷ []) (nodes_of more) d.first.0 all in
      let j : length (nodes_of more) ≡ length more = length-map more (λ e. e.node) in
      let k : length (d.chain ++ m ∷ []) ≡ length d.chain + 1 = length-append d.chain (m ∷ []) in
      let l : length d.chain ≡ limit = d.long in
      omega (arith, i, j, k, l, short)

  pub completes : Completes model (record { node = n; held = before; limit = limit }) after (length more)
  completes = record {
    room = record {
      shallow = not_deep;
      few = record {
        nodes = nodes_of after;
        few = let i : length (nodes_of after) ≡ length after = length-map after (λ e. e.node) in let j : length after ≤ most_held = right.room in omega (arith, i, j);
        whole = λ x c. elim c [ inl a ↦ nodes_grow before more after x refl a | inr p ↦ whole x p.0 p.1 ];
      };
    };
    holds = holds;
    lost = 0;
    are_lost = record { nodes = []; distinct = tt; only = λ x h. absurd h; whole = λ x r none. absurd (none (reach_has_value model n x r (held_value model after right n held))); many = refl };
    runs = let i : length after ≡ length before + length more = length-append before more in omega (arith, i);
  }

pub value_is_answered : ValueIsAnswered
value_is_answered s n b r more asked means memo held reached short =
    evaluates_as s (record s { held = s.held ++ more }) n b (Ok r.value) (length more) asked
    (record { reply = r; means = means; value = refl }, completes (model_of s.text) (inputs_end (key_result s.text)) s.held more memo.right b held reached s.limit short)
    (record { records = memo.records; order = memo.order }) refl refl
