-- The successors of a node, gathered and sorted.
use Rattle.std.proofs.Common.{◌≡◌, ℕ, List, [], map, Vec, Global, Result, Ok, Err, IfOk, inl, inr, sym, subst}
use Rattle.std.specs.List.Sorted.{IsPermutation}
use Rattle.std.proofs.lemmas.List.Sorted.{IsPermutation-sym}
use Rattle.mx_value.specs.declared.node.Node.{Node}
use Rattle.mx_graph.specs.declared.ids.NodeId.{NodeId}
use Rattle.mx_vertices.specs.Reading.{id_at}
use Rattle.mx_memo.specs.Memos.{Memory}
use Rattle.mx_model.specs.Records.{ModelRecord}
use Rattle.mx_runs.specs.Lists.{Has, Distinct}
use Rattle.mx_memo_laws.specs.Entries.{nodes_under}
use Rattle.mx_machine.specs.States.{state_of}
use Rattle.mx_engine.specs.Gathering.{gathered}
use Rattle.mx_engine.specs.ByText.{AreByText}
use Rattle.mx_engine.specs.Successors.{AreAskers, AreSuccessors}
use Rattle.mx_engine.proofs.Gathered.{gathered_has, gathered_only, gathered_once}
use Rattle.mx_engine.proofs.ByText.{has_permuted, distinct_permuted}

pub are_successors : (text : ModelRecord) (m : Memory) (limit : ℕ) (n : Node) (ids : List NodeId) (keys nodes : List Node) → AreAskers text m n ids
    → keys ≡ gathered (nodes_under m.held (map id_at ids)) → IsPermutation keys nodes → AreByText nodes → AreSuccessors (state_of text m limit) n nodes
are_successors text m limit n ids keys nodes askers is p ordered =
    let names : List Node = nodes_under m.held (map id_at ids) in
    let once : Distinct keys = subst (λ (ns : List Node). Distinct ns) (sym is) (gathered_once [] names tt) in
    let forth : (x : Node) → Has nodes x → Has names x = λ x h.
    elim (gathered_only [] names x (subst (λ (ns : List Node). Has ns x) is (has_permuted nodes keys (IsPermutation-sym keys nodes p) x h))) [ inl a ↦ absurd a | inr b ↦ b ] in
    let back : (x : Node) → Has names x → Has nodes x = λ x h. has_permuted keys nodes p x (subst (λ (ns : List Node). Has ns x) (sym is) (gathered_has [] names x (inr h))) in
    record {
      once = distinct_permuted keys nodes p once;
      by_text = ordered;
      exactly = λ x. (λ h. (askers.exactly x).0 (forth x h), λ q. back x ((askers.exactly x).1 q));
    }

-- what holds of the sorted nodes holds of a result
pub sorted_ok : {E : Type 0} (keys : List Node) (r : Result (Vec Node Global) E) (P : List Node → Type 0) → ((nodes : List Node) → IsPermutation keys nodes → AreByText nodes → P nodes)
    → IfOk r (λ sorted. IsPermutation keys sorted.items × AreByText sorted.items) → IfOk r (λ sorted. P sorted.items)
sorted_ok keys (Ok sorted) P f p = f sorted.items p.0 p.1
sorted_ok keys (Err e) P f p = p
