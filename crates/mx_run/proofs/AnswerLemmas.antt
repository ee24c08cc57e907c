-- A command that is not answered: its file was not read, or its block not written.
use Rattle.std.proofs.Common.{◌≡◌, ℕ, ◌≤◌, List, [], ◌∷◌, Option, refl, sym, subst, arith}
use Rattle.mx_outside.specs.Outside.{Rose, TakesFront}
use Rattle.mx_outside.specs.declared.files.ReadFailure.{ReadFailure}
use Rattle.mx_outside.specs.declared.files.ReadFailure.TheVariants as read
use Rattle.mx_outside.specs.declared.sink.WriteFailure.{WriteFailure}
use Rattle.mx_outside.specs.declared.sink.WriteFailure.TheVariants as write
use Rattle.mx_script.specs.Script.{Command}
use Rattle.mx_commands.specs.Step.{RunState, Step, AsksFile}
use Rattle.mx_run.specs.Counts.{Counts, IsStoppedAfter}
use Rattle.mx_run.specs.Stop.{stop_for, stop_for_file}
use Rattle.mx_run.specs.Transcript.{Breaks, Wrote}
use Rattle.mx_run.specs.declared.stop.Stop.{Stop}
use Rattle.mx_run.proofs.AtLemmas.{wrote_nothing}
use Rattle.mx_run.proofs.RunLemmas.{begins_none, begins_front, fails_first}

module _ (state : RunState) (c : Command) (stop : Stop) where
  unread_for : (failure : ReadFailure) → (failure ≡ read.Failed → AsksFile c.text) → Breaks (stop_for_file failure) state (c ∷ []) []
  unread_for read.Failed asks = fails_first state c [] (asks refl)
  unread_for read.NoMemory asks = begins_none state (c ∷ [])

  pub unread : (failure : ReadFailure) → stop ≡ stop_for_file failure → (failure ≡ read.Failed → AsksFile c.text) → (taken : Option (List ℕ)) → Wrote taken taken (Breaks stop state (c ∷ []))
  unread failure is asks taken = wrote_nothing taken (Breaks stop state (c ∷ [])) (subst (λ (s : Stop). Breaks s state (c ∷ []) []) (sym is) (unread_for failure asks))

  unwritten_for : (failure : WriteFailure) (old mid : Option (List ℕ)) (block : List ℕ) (after : RunState) → Step state c block after → TakesFront old mid block → Wrote old mid (Breaks (stop_for failure) state (c ∷ []))
  unwritten_for write.Failed old mid block after step front = begins_front state c block after old mid step front
  unwritten_for write.NoMemory old mid block after step front = begins_front state c block after old mid step front

  pub unwritten : (failure : WriteFailure) → stop ≡ stop_for failure → (old mid : Option (List ℕ)) (block : List ℕ) (after : RunState) → Step state c block after → TakesFront old mid block → Wrote old mid (Breaks stop state (c ∷ []))
  unwritten failure is old mid block after step front = subst (λ (s : Stop). Wrote old mid (Breaks s state (c ∷ []))) (sym is) (unwritten_for failure old mid block after step front)

module _ (stop : Stop) (old new : Counts) where
  unread_counts : (failure : ReadFailure) → new.output ≡ old.output → new.files_written ≡ old.files_written → old.files_read ≤ new.files_read → (failure ≡ read.Failed → Rose old.files_read new.files_read)
      → IsStoppedAfter (stop_for_file failure) old new
  unread_counts read.Failed output writes stayed rose = record { rose = rose refl; stayed = stayed; output = output; files_written = writes }
  unread_counts read.NoMemory output writes stayed rose = record { output = omega (arith, output); files_read = stayed; files_written = omega (arith, writes) }

  pub unread_counted : (failure : ReadFailure) → stop ≡ stop_for_file failure → new.output ≡ old.output → new.files_written ≡ old.files_written → old.files_read ≤ new.files_read
      → (failure ≡ read.Failed → Rose old.files_read new.files_read) → IsStoppedAfter stop old new
  unread_counted failure is output writes stayed rose = subst (λ (s : Stop). IsStoppedAfter s old new) (sym is) (unread_counts failure output writes stayed rose)

  unwritten_counts : (failure : WriteFailure) → new.files_read ≡ old.files_read → new.files_written ≡ old.files_written → old.output ≤ new.output → (failure ≡ write.Failed → Rose old.output new.output)
      → IsStoppedAfter (stop_for failure) old new
  unwritten_counts write.Failed reads writes stayed rose = record { rose = rose refl; stayed = stayed; files_read = reads; files_written = writes }
  unwritten_counts write.NoMemory reads writes stayed rose = record { output = stayed; files_read = omega (arith, reads); files_written = omega (arith, writes) }

  pub unwritten_counted : (failure : WriteFailure) → stop ≡ stop_for failure → new.files_read ≡ old.files_read → new.files_written ≡ old.files_written → old.output ≤ new.output
      → (failure ≡ write.Failed → Rose old.output new.output) → IsStoppedAfter stop old new
  unwritten_counted failure is reads writes stayed rose = subst (λ (s : Stop). IsStoppedAfter s old new) (sym is) (unwritten_counts failure reads writes stayed rose)
