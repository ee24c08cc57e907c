-- Counts of faults, call after call.
use Rattle.std.proofs.Common.{◌≡◌, ℕ, Result, Ok, Err, refl, ◌∙◌, subst, arith}
use Rattle.mx_outside.specs.Outside.{Rose}
use Rattle.mx_run.specs.Counts.{Counts, NoneFailed, NoneFell, IsStoppedAfter, AreAfter, CanStopInside}
use Rattle.mx_run.specs.Statuses.{Outside, counts_of, IsReadWell, IsCaused}
use Rattle.mx_run.specs.declared.stop.Stop.{Stop}
use Rattle.mx_run.specs.declared.stop.Stop.TheVariants.{ReadFault, FileFault, WriteFault, NoMemory, OverLimit}

pub none_failed : (c : Counts) → NoneFailed c c
none_failed c = record { output = refl; files_read = refl; files_written = refl }

pub none_more : (old mid new : Counts) → NoneFailed old mid → NoneFailed mid new → NoneFailed old new
none_more old mid new a b = record {
  output = b.output ∙ a.output;
  files_read = b.files_read ∙ a.files_read;
  files_written = b.files_written ∙ a.files_written;
}

pub rose_from : (a b c : ℕ) → b ≡ a → Rose b c → Rose a c
rose_from a b c e rose = subst (λ (n : ℕ). Rose n c) e rose

-- after calls of which none failed, a stop
pub stop_more : (stop : Stop) (old mid new : Counts) → NoneFailed old mid → IsStoppedAfter stop mid new → IsStoppedAfter stop old new
stop_more ReadFault old mid new a b = none_more old mid new a b
stop_more FileFault old mid new a b = record {
  rose = rose_from old.files_read mid.files_read new.files_read a.files_read b.rose;
  stayed = omega (arith, a.files_read, b.stayed);
  output = b.output ∙ a.output;
  files_written = b.files_written ∙ a.files_written;
}
stop_more WriteFault old mid new a b = record {
  rose = rose_from old.output mid.output new.output a.output b.rose;
  stayed = omega (arith, a.output, b.stayed);
  files_read = b.files_read ∙ a.files_read;
  files_written = b.files_written ∙ a.files_written;
}
stop_more NoMemory old mid new a b = record {
  output = omega (arith, a.output, b.output);
  files_read = omega (arith, a.files_read, b.files_read);
  files_written = omega (arith, a.files_written, b.files_written);
}
stop_more OverLimit old mid new a b = none_more old mid new a b

-- and a call that ended so
pub after_more : (T : Type 0) (result : Result T Stop) (old mid new : Counts) → NoneFailed old mid → AreAfter result mid new → AreAfter result old new
after_more T (Ok x) old mid new a b = none_more old mid new a b
after_more T (Err stop) old mid new a b = stop_more stop old mid new a b

pub none_fell : (old new : Counts) → NoneFailed old new → NoneFell old new
none_fell old new a = record { output = omega (arith, a.output); files_read = omega (arith, a.files_read); files_written = omega (arith, a.files_written) }

pub fell_after : (stop : Stop) (old new : Counts) → IsStoppedAfter stop old new → NoneFell old new
fell_after ReadFault old new a = none_fell old new a
fell_after FileFault old new a = record { output = omega (arith, a.output); files_read = a.stayed; files_written = omega (arith, a.files_written) }
fell_after WriteFault old new a = record { output = a.stayed; files_read = omega (arith, a.files_read); files_written = omega (arith, a.files_written) }
fell_after NoMemory old new a = a
fell_after OverLimit old new a = none_fell old new a

-- of a stop that is no failed read of the script, the counts tell the cause
pub caused : (stop : Stop) (old new : Outside) → IsReadWell old new → (stop ≡ ReadFault → ⊥) → IsStoppedAfter stop (counts_of old) (counts_of new) → IsCaused (Err stop) old new
caused ReadFault old new well other a = absurd (other refl)
caused FileFault old new well other a = (well, a)
caused WriteFault old new well other a = (well, a)
caused NoMemory old new well other a = tt
caused OverLimit old new well other a = (well, a)

-- a stop inside a line comes with no fault
pub stopped_inside : (stop : Stop) (c : Counts) → CanStopInside stop → IsStoppedAfter stop c c
stopped_inside ReadFault c can = absurd can
stopped_inside FileFault c can = absurd can
stopped_inside WriteFault c can = absurd can
stopped_inside NoMemory c can = none_fell c c (none_failed c)
stopped_inside OverLimit c can = none_failed c
