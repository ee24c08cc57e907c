use Rattle.std.proofs.Common.{◌≡◌, List, subst}
use Rattle.mx_value.specs.declared.node.Node.{Node}
use Rattle.mx_value.specs.declared.read.Read.{Read}
use Rattle.mx_vertices.specs.Found.{IsHeldAs}
use Rattle.mx_memo_laws.specs.Entries.{entries_of}
use Rattle.mx_engine.specs.Precedents.{AreHeldReads}
use Rattle.mx_engine.proofs.ReadHeld.{in_ok, held_reads}
use Rattle.mx_engine.proofs.precedents.reads_held.Goals as goal

pub returns : goal.returns
returns c =
    let there : IsHeldAs c.args.memo.now.held c.in-Some.id.at c.args.node = subst (λ (n : Node). IsHeldAs c.args.memo.now.held c.in-Some.id.at n) c.in_ok-shared.ensures c.in-Some.ensures.some in
    in_ok (λ (reads : List Read). reads ≡ c.in-Some-body.body.now.reads) (AreHeldReads (entries_of c.args.memo.now.held) c.args.node) c.copy.result
    (λ reads is. held_reads c.laws.ensures.body_is_entered c.laws.ensures.body_is_of_node c.args.memo.now c.in-Some.id.at c.args.node c.in-Some-body.body.now reads c.requires there c.in-Some-body.ensures is)
    c.copy.ensures
