use Rattle.std.proofs.Common.{◌≡◌, ◌∙◌, [], ◌++◌, ap, arith}
use Rattle.std.proofs.lemmas.List.{append-nil}
use Rattle.mx_members.specs.Chunks.{joined}
use Rattle.mx_members.proofs.ChunkLemmas.{full_added, joined_added}
use Rattle.mx_members.proofs.chunks.make_room.Goals as goal

pub returns-clause-full : goal.returns-clause-full
returns-clause-full g c =
    let own = c.in_ok-from_vec.ensures ∙ ap (λ v. v.items) c.replace-chunk.ensures.value in
    let at_most = c.requires.last in
    full_added c.args.full.now.items c.push.new.self.items c.args.last.now.items c.in_ok-from_vec.field-0 c.in_ok-push.ensures.items own 64 c.requires.full (omega arith)

pub returns-clause-items : goal.returns-clause-items
returns-clause-items g c =
    let own = c.in_ok-from_vec.ensures ∙ ap (λ v. v.items) c.replace-chunk.ensures.value in
    let none : c.replace-chunk.new.dest.items ≡ [] = ap (λ v. v.items) c.replace-chunk.ensures.after ∙ c.in_ok-with_capacity.ensures.items in
    let all = c.push.new.self.items in
    ap (λ l. joined all ++ l) none ∙ append-nil (joined all) ∙
    joined_added c.args.full.now.items all c.args.last.now.items c.in_ok-from_vec.field-0 c.in_ok-push.ensures.items own
