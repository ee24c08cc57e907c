use Rattle.std.proofs.Common.{ℕ, ◌++◌, false, Ok, Err, arith, ap, length, take, refl, ◌∙◌}
use Rattle.mx_outside.specs.declared.source.Failed.{Failed}
use Rattle.mx_run.specs.At.{At}
use Rattle.mx_run.proofs.CountLemmas.{stop_more, none_more, none_failed, none_fell, fell_after, caused, rose_from}
use Rattle.mx_run.proofs.EndsLemmas.{begun, traded_more, ended_finish, ended_halted, ended_fault, end_told, halts_unread, finishes_unread}
use Rattle.mx_run.proofs.script.read_script.Goals as goal

pub reads-init : goal.reads-init
reads-init g c = record {
  output = begun (At _ _ c.args.session.now) _ _ (c.requires (g.F.Files.held c.args.files.now));
  reads_kept = refl;
  held = refl;
  others_kept = none_failed _;
}

pub returns-in-Ok-finish : goal.returns-in-Ok-finish
returns-in-Ok-finish g c =
    let told = end_told Failed _ _ (length c.read.new.into) (rw c.if-count-eq0.true at c.in-Ok.ensures.ended) (omega arith) in
    let kept = c.in-Ok.ensures.kept ∙ c.reads.invariant.reads_kept in
    let others = none_more _ _ _ c.reads.invariant.others_kept c.in-Ok-finish.ensures.counted in
    record {
      output = ended_finish _ _ _ c.reads.session _ _ _ _ _ _ _ c.reads.invariant.output (Ok tt) told (rw c.if-count-eq0.true at c.in-Ok.ensures.bytes) (c.in-Ok-finish.ensures.output _);
      cause = (kept, others, told, c.in-Ok.ensures.end (ap (λ (n : ℕ). Ok n) c.if-count-eq0.true) (omega arith));
      later = record { script = omega (arith, kept); others = none_fell _ _ others };
      files = c.in-Ok-finish.ensures.held ∙ c.reads.invariant.held;
    }

pub returns-in-Err-finish : goal.returns-in-Err-finish
returns-in-Err-finish g c =
    let told = end_told Failed _ _ (length c.read.new.into) (rw c.if-count-eq0.true at c.in-Ok.ensures.ended) (omega arith) in
    let kept = c.in-Ok.ensures.kept ∙ c.reads.invariant.reads_kept in
    let others = stop_more c.in-Err-finish.stop _ _ _ c.reads.invariant.others_kept c.in-Err-finish.ensures.counted in
    let so_far = c.reads.invariant.output in
    let finished = c.in-Err-finish.ensures.output _ so_far.read so_far.written so_far.holds in
    let first = g.F.Files.held c.args.files.now in
    let now = g.F.Files.held c.finish.new.files in
    record {
      output = ended_finish _ now _ c.reads.session _ _ _ _ _ _ _ so_far (Err c.in-Err-finish.stop) told (rw c.if-count-eq0.true at c.in-Ok.ensures.bytes) (c.in-Err-finish.ensures.output _);
      cause = caused c.in-Err-finish.stop _ _ kept (finishes_unread first now c.in-Err-finish.stop so_far.read (so_far.written ++ finished.written) finished.holds) others;
      later = record { script = omega (arith, kept); others = fell_after c.in-Err-finish.stop _ _ others };
      files = c.in-Err-finish.ensures.held ∙ c.reads.invariant.held;
    }

pub returns-in-Err : goal.returns-in-Err
returns-in-Err g c = record {
  output = ended_fault _ _ false c.reads.session _ _ _ _ _ c.reads.invariant.output c.in-Err.ensures.bytes;
  cause = (rose_from _ _ _ c.reads.invariant.reads_kept c.in-Err.ensures.failed, c.reads.invariant.others_kept);
  later = record { script = omega (arith, c.reads.invariant.reads_kept, c.in-Err.ensures.later); others = none_fell _ _ c.reads.invariant.others_kept };
  files = c.reads.invariant.held;
}

pub returns-in-Err-feed : goal.returns-in-Err-feed
returns-in-Err-feed g c =
    let kept = c.in-Ok.ensures.kept ∙ c.reads.invariant.reads_kept in
    let others = stop_more c.in-Err-feed.stop _ _ _ c.reads.invariant.others_kept c.in-Err-feed.ensures.counted in
    let so_far = c.reads.invariant.output in
    let halted = c.in-Err-feed.ensures.output _ so_far.read so_far.written so_far.holds in
    record {
      output = ended_halted _ (g.F.Files.held c.feed.new.files) _ c.reads.session _ _ _ _ _ _ _ so_far _ _ c.in-Ok.ensures.bytes (c.in-Err-feed.ensures.output _);
      cause = caused c.in-Err-feed.stop _ _ kept (halts_unread _ c.in-Err-feed.stop _ _ halted.holds) others;
      later = record { script = omega (arith, kept); others = fell_after c.in-Err-feed.stop _ _ others };
      files = c.in-Err-feed.ensures.held ∙ c.reads.invariant.held;
    }

pub reads-preserved : goal.reads-preserved
reads-preserved g c = record {
  output = traded_more _ _ _ _ _ _ (take c.in-Ok.count c.read.new.into) (At _ _ c.reads.session) (At _ _ c.feed.new.self) c.reads.invariant.output c.in-Ok.ensures.bytes (c.in_default.ensures.output _);
  reads_kept = omega (arith, c.in-Ok.ensures.kept, c.reads.invariant.reads_kept);
  held = c.in_default.ensures.held ∙ c.reads.invariant.held;
  others_kept = none_more _ _ _ c.reads.invariant.others_kept c.in_default.ensures.counted;
}
