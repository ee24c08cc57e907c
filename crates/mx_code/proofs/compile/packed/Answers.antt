use Rattle.std.proofs.Common.{◌-◌, ◌∙◌, arith, length, subst, sym}
use Rattle.std.specs.Prelude.{IsTrue}
use Rattle.mx_code.proofs.Packing.{packed_more}
use Rattle.mx_code.proofs.compile.packed.Goals as goal

pub loop-i-preserved : goal.loop-i-preserved
loop-i-preserved c =
    rw (c.in_ok-push.ensures.ok, c.in_ok-push-2.ensures.ok)
    (packed_more c.loop-i.constants c.pack.new.constants c.loop-i.names c.pack.new.names c.loop-i.instructions c.loop-i.lines c.fuse.result c.args.code.now c.loop-i.i (c.loop-i.i - 1) c.index-code-i.result c.loop-i.invariant
    c.in_ok-instruction.ensures.constants c.in_ok-instruction.ensures.names (c.fuse.ensures.told c.pack.new.constants c.pack.new.names ∙ c.in_ok-instruction.ensures.told) (subst IsTrue (sym (c.fuse.ensures.in_pools (length c.pack.new.constants) (length c.pack.new.names))) c.in_ok-instruction.ensures.in_pools) (omega (arith, c.loop-i-test.true)) c.loop-i.auto.i c.index-code-i.is)
