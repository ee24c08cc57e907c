use Rattle.std.proofs.lemmas.List.{take_rest}
use Rattle.mx_outside.proofs.Bytes.{left_more}
use Rattle.mx_outside.proofs.memory.MemSourceSource.read.Goals as goal

pub returns-clause-bytes : goal.returns-clause-bytes
returns-clause-bytes c =
    let from = rw (take_rest, c.deref-2.ensures.value) at c.copy_front-count.ensures.bytes in
    left_more c.args.self.now.bytes.items c.copy_front-count.new.into c.args.self.now.at c.copy_front-count.result from
