-- The reads of a node that is held under an id.
use Rattle.std.proofs.Common.{◌≡◌, ℕ, List, Result, Ok, Err, IfOk, inl, sym, ◌∙◌}
use Rattle.mx_value.specs.declared.node.Node.{Node}
use Rattle.mx_value.specs.declared.read.Read.{Read}
use Rattle.mx_vertices.specs.declared.slot.Body.{Body}
use Rattle.mx_vertices.specs.Found.{IsHeldAs, IsHeldWith}
use Rattle.mx_memo.specs.Memos.{Memory}
use Rattle.mx_memo_laws.specs.Entries.{entries_of, IsOrdered}
use Rattle.mx_memo_laws.specs.Laws.{BodyIsEntered, BodyIsOfNode}
use Rattle.mx_engine.specs.Precedents.{AreHeldReads}

-- what holds of a value holds of it in a result
pub in_ok : {X E : Type 0} (P Q : X → Type 0) (r : Result X E) → ((x : X) → P x → Q x) → IfOk r P → IfOk r Q
in_ok P Q (Ok x) f p = f x p
in_ok P Q (Err e) f p = p

pub held_reads : BodyIsEntered → BodyIsOfNode → (m : Memory) (id : ℕ) (n : Node) (body : Body) (reads : List Read) → IsOrdered m → IsHeldAs m.held id n → IsHeldWith m.held id body → reads ≡ body.reads → AreHeldReads (entries_of m.held) n reads
held_reads enters of m id n body reads ordered held with is =
    let e = enters m.held id body with in
    inl (record { entry = e.entry; among = e.among; node_is = e.node_is ∙ of m id n body ordered held with; reads_are = e.reads_are ∙ sym is })
