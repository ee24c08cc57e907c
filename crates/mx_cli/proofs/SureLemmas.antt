-- How a run ends by which no count of faults rose.
use Rattle.std.proofs.Common.{◌≡◌, ◌⊎◌, inl, inr, ℕ, List, ◌++◌, Option, None, Some, Result, Ok, Err, sym, ap, ◌∙◌, subst, append-nil, arith}
use Rattle.std.specs.Io.KnownBytes.{IsAtEnd}
use Rattle.mx_outside.specs.Files.{FileMap}
use Rattle.mx_run.specs.Transcript.{Traded, IsWithin, Transcript}
use Rattle.mx_run.specs.Statuses.{Outside, status_of, HasRun, RunsTo}
use Rattle.mx_run.specs.declared.stop.Stop.{Stop}
use Rattle.mx_run.specs.declared.stop.Stop.TheVariants.{ReadFault, FileFault, WriteFault, NoMemory, OverLimit}
use Rattle.mx_run.proofs.WithinLemmas.{no_cut}
use Rattle.mx_cli.specs.Top.{HasAll, NothingFailed, AnswersAll}

-- a script that is told and was read to its end has its transcript
whole_script : (script : List ℕ) (files after : Option FileMap) (left new_left taken new_taken : Option (List ℕ)) → left ≡ Some script
    → Traded left new_left taken new_taken (λ r w. IsWithin r × Transcript r files w after) → IsAtEnd new_left → HasAll script files after taken new_taken
whole_script script files after left None taken new_taken is t end = let none : Some script ≡ None = sym is ∙ t.left in absurd cc
whole_script script files after left (Some rest) taken new_taken is t end =
    let whole : Some script ≡ Some (t.read ++ rest) = sym is ∙ t.left in
    let split : script ≡ t.read ++ rest = cc in
    let same : script ≡ t.read = split ∙ ap (λ (l : List ℕ). t.read ++ l) end ∙ append-nil t.read in
    record { output = t.written; taken = t.taken; transcript = subst (λ (s : List ℕ). Transcript s files t.written after) (sym same) t.holds.1 }

module _ (status : ℕ) (old new : Outside) (script : List ℕ) (is : old.script.left ≡ Some script) where
  complete_ending : (ending : Result (Unit {0}) Stop) → status ≡ status_of ending → HasRun ending old new → NothingFailed old new → IsWithin script
      → ((status ≡ 0) × HasAll script old.folder.held new.folder.held old.output.taken new.output.taken) ⊎ (status ≡ 5)
  complete_ending (Ok u) told run none within = inl (told, whole_script script old.folder.held new.folder.held old.script.left new.script.left old.output.taken new.output.taken is run.output run.cause.3)
  complete_ending (Err ReadFault) told run none within = absurd (none.script run.cause.0)
  complete_ending (Err FileFault) told run none within = absurd (none.files run.cause.1.rose)
  complete_ending (Err WriteFault) told run none within = absurd (none.output run.cause.1.rose)
  complete_ending (Err NoMemory) told run none within = inr told
  complete_ending (Err OverLimit) told run none within = absurd (no_cut old.folder.held script run.output.read run.output.written new.script.left within (sym is ∙ run.output.left) run.output.holds)

  -- with status 0 a script that is told has its transcript
  whole_ending : (ending : Result (Unit {0}) Stop) → status ≡ status_of ending → HasRun ending old new → status ≡ 0 → HasAll script old.folder.held new.folder.held old.output.taken new.output.taken
  whole_ending (Ok u) told run zero = whole_script script old.folder.held new.folder.held old.script.left new.script.left old.output.taken new.output.taken is run.output run.cause.3
  whole_ending (Err ReadFault) told run zero = absurd (omega (arith, told, zero))
  whole_ending (Err FileFault) told run zero = absurd (omega (arith, told, zero))
  whole_ending (Err WriteFault) told run zero = absurd (omega (arith, told, zero))
  whole_ending (Err NoMemory) told run zero = absurd (omega (arith, told, zero))
  whole_ending (Err OverLimit) told run zero = absurd (omega (arith, told, zero))

pub complete_run : (status : ℕ) (old new : Outside) → RunsTo status old new → AnswersAll status old new
complete_run status old new runs none script is within = complete_ending status old new script is runs.ending runs.told runs.run none within

pub whole_run : (script : List ℕ) (status : ℕ) (old new : Outside) → RunsTo status old new → old.script.left ≡ Some script → status ≡ 0 → HasAll script old.folder.held new.folder.held old.output.taken new.output.taken
whole_run script status old new runs is zero = whole_ending status old new script is runs.ending runs.told runs.run zero
