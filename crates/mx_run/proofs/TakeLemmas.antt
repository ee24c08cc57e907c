-- A line after a command that could go on.
use Rattle.std.proofs.Common.{◌≡◌, ℕ, false, List, [], ◌∷◌, ◌++◌, Option, Some, Result, refl, sym, ap, ◌∙◌, subst}
use Rattle.std.specs.Option.{option_to_list}
use Rattle.mx_run.specs.declared.stop.Stop.{Stop}
use Rattle.mx_run.specs.Script.{started, taken}
use Rattle.mx_script.specs.Script.{Command, Taken, goes_on, without_cr}
use Rattle.mx_commands.specs.Step.{RunState}
use Rattle.mx_run.specs.Transcript.{Runs, Breaks, Wrote}
use Rattle.mx_run.specs.Session.{TakesLine}
use Rattle.mx_script.specs.Given.{pending_of, command_of}
use Rattle.mx_script.specs.declared.commands.Pending.{Pending}
use Rattle.mx_run.proofs.RunLemmas.{wrote_more, takes_more, breaks_less}

-- what the next command in a line gives, after the command before it
abbrev next : ℕ → Command → List ℕ → Taken
next number c line = record { done = (c ∷ []) ++ (started number line).done; pending = (started number line).pending }

taken_next : (number : ℕ) (c : Command) (line : List ℕ) → goes_on (without_cr line) ≡ false → taken number (Some c) line ≡ next number c (without_cr line)
taken_next number c line apart = rw apart refl

module _ (number : ℕ) (state : RunState) (p : Option Pending) (c : Pending) (text line stripped : List ℕ) (is : p ≡ Some c) (same : text ≡ c.text.items) (bare : stripped ≡ without_cr line) (apart : goes_on stripped ≡ false) where
  whole : taken number (pending_of p) line ≡ next number (record { number = c.number; text = text }) stripped
  whole = ap (λ (q : Option Pending). taken number (pending_of q) line) is ∙ taken_next number (command_of c) line (ap goes_on (sym bare) ∙ apart)
      ∙ ap (λ (t : List ℕ). next number (record { number = c.number; text = t }) (without_cr line)) (sym same)
      ∙ ap (λ (l : List ℕ). next number (record { number = c.number; text = text }) l) (sym bare)

  pub takes_next : (mid : RunState) (result : Result (Option Pending) Stop) (new : RunState) (old middle after : Option (List ℕ))
      → Wrote old middle (λ b. Runs state (record { number = c.number; text = text } ∷ []) b mid) → Wrote middle after (TakesLine mid (started number stripped) result new)
      → Wrote old after (TakesLine state (taken number (pending_of p) line) result new)
  takes_next mid result new old middle after first second =
      subst (λ (t : Taken). Wrote old after (TakesLine state t result new)) (sym whole)
      (wrote_more old middle after _ _ _ first second
      (λ a b run rest. takes_more state mid (record { number = c.number; text = text } ∷ []) (started number stripped) result new a b run rest))

  pub takes_stop : (stop : Stop) (old middle : Option (List ℕ)) → Wrote old middle (Breaks stop state (record { number = c.number; text = text } ∷ []))
      → Wrote old middle (Breaks stop state (taken number (pending_of p) line).done)
  takes_stop stop old middle first =
      subst (λ (t : Taken). Wrote old middle (Breaks stop state t.done)) (sym whole)
      (record { written = first.written; taken = first.taken; holds = breaks_less stop state (record { number = c.number; text = text } ∷ []) _ first.written first.holds })

-- the command that could go on, at the script's end
abbrev last : ℕ → List ℕ → List Command
last number text = record { number = number; text = text } ∷ []

pub takes_last : (state : RunState) (p : Option Pending) (c : Pending) (text : List ℕ) → p ≡ Some c → text ≡ c.text.items → (new : RunState) (old middle : Option (List ℕ))
    → Wrote old middle (λ b. Runs state (last c.number text) b new) → Wrote old middle (λ b. Runs state (option_to_list (pending_of p)) b new)
takes_last state p c text is same new old middle first =
    let alone : option_to_list (pending_of p) ≡ last c.number text = ap (λ (q : Option Pending). option_to_list (pending_of q)) is ∙ ap (λ (t : List ℕ). last c.number t) (sym same) in
    subst (λ (cs : List Command). Wrote old middle (λ b. Runs state cs b new)) (sym alone) first
