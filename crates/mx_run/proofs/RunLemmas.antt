-- Runs of commands, one after another, and their beginnings.
use Rattle.std.proofs.Common.{ℕ, List, [], ◌∷◌, ◌++◌, Option, Result, Ok, Err, take, drop, refl, sym, ap, ◌∙◌, subst, append_assoc, append-nil, take-append-drop}
use Rattle.std.specs.Io.KnownBytes.{append_known}
use Rattle.mx_outside.specs.Outside.{TakesFront}
use Rattle.mx_outside.proofs.Bytes.{append_known-append}
use Rattle.mx_script.specs.Script.{Command, Taken}
use Rattle.mx_run.specs.Session.{TakesLine}
use Rattle.mx_script.specs.declared.commands.Pending.{Pending}
use Rattle.mx_commands.specs.Step.{RunState, Step, AsksFile}
use Rattle.mx_run.specs.Transcript.{Runs, Begins, Fails, Breaks, Wrote}
use Rattle.mx_run.specs.declared.stop.Stop.{Stop}
use Rattle.mx_run.specs.declared.stop.Stop.TheVariants.{ReadFault, FileFault, WriteFault, NoMemory, OverLimit}

pub run_one : (state : RunState) (c : Command) (block : List ℕ) (new : RunState) → Step state c block new → Runs state (c ∷ []) block new
run_one state c block new step = (block, [], new, sym (append-nil block), step, (refl, refl))

pub run_more : (state : RunState) (cs ds : List Command) (a b : List ℕ) (mid new : RunState) → Runs state cs a mid → Runs mid ds b new → Runs state (cs ++ ds) (a ++ b) new
run_more state [] ds a b mid new first second =
    subst (λ (x : List ℕ). Runs state ds (x ++ b) new) (sym first.0) (subst (λ (t : RunState). Runs t ds b new) first.1 second)
run_more state (c ∷ cs) ds a b mid new first second =
    (first.0, first.1 ++ b, first.2, ap (λ (x : List ℕ). x ++ b) first.3 ∙ append_assoc first.0 first.1 b, first.4, run_more first.2 cs ds first.1 b mid new first.5 second)

-- nothing is written yet
pub begins_none : (state : RunState) (cs : List Command) → Begins state cs []
begins_none state cs = record { first = []; others = cs; is = refl; rest = []; new = state; runs = (refl, refl) }

-- a whole run has begun
pub begins_whole : (state : RunState) (cs : List Command) (out : List ℕ) (new : RunState) → Runs state cs out new → Begins state cs out
begins_whole state cs out new run = record {
  first = cs;
  others = [];
  is = sym (append-nil cs);
  rest = [];
  new = new;
  runs = subst (λ (o : List ℕ). Runs state cs o new) (sym (append-nil out)) run;
}

-- with more commands it is still a beginning
pub begins_less : (state : RunState) (cs ds : List Command) (out : List ℕ) → Begins state cs out → Begins state (cs ++ ds) out
begins_less state cs ds out b = record {
  first = b.first;
  others = b.others ++ ds;
  is = ap (λ (x : List Command). x ++ ds) b.is ∙ append_assoc b.first b.others ds;
  rest = b.rest;
  new = b.new;
  runs = b.runs;
}

-- a beginning after a run
pub begins_more : (state : RunState) (cs ds : List Command) (a b : List ℕ) (mid : RunState) → Runs state cs a mid → Begins mid ds b → Begins state (cs ++ ds) (a ++ b)
begins_more state cs ds a b mid run begun = record {
  first = cs ++ begun.first;
  others = begun.others;
  is = ap (λ (x : List Command). cs ++ x) begun.is ∙ sym (append_assoc cs begun.first begun.others);
  rest = begun.rest;
  new = begun.new;
  runs = subst (λ (o : List ℕ). Runs state (cs ++ begun.first) o begun.new) (sym (append_assoc a b begun.rest)) (run_more state cs begun.first a (b ++ begun.rest) mid begun.new run begun.runs);
}

-- ---- a command that asks for a file in vain

-- the first of these does
pub fails_first : (state : RunState) (c : Command) (cs : List Command) → AsksFile c.text → Fails state (c ∷ cs) []
fails_first state c cs asks = record { first = []; command = c; others = cs; is = refl; asks = asks; new = state; runs = (refl, refl) }

-- with more commands it is still one of them
fails_less : (state : RunState) (cs ds : List Command) (out : List ℕ) → Fails state cs out → Fails state (cs ++ ds) out
fails_less state cs ds out f = record {
  first = f.first;
  command = f.command;
  others = f.others ++ ds;
  is = ap (λ (x : List Command). x ++ ds) f.is ∙ append_assoc f.first (f.command ∷ f.others) ds;
  asks = f.asks;
  new = f.new;
  runs = f.runs;
}

-- after a run
fails_more : (state : RunState) (cs ds : List Command) (a b : List ℕ) (mid : RunState) → Runs state cs a mid → Fails mid ds b → Fails state (cs ++ ds) (a ++ b)
fails_more state cs ds a b mid run f = record {
  first = cs ++ f.first;
  command = f.command;
  others = f.others;
  is = ap (λ (x : List Command). cs ++ x) f.is ∙ sym (append_assoc cs f.first (f.command ∷ f.others));
  asks = f.asks;
  new = f.new;
  runs = run_more state cs f.first a b mid f.new run f.runs;
}

-- ---- commands that are broken off

pub breaks_less : (stop : Stop) (state : RunState) (cs ds : List Command) (out : List ℕ) → Breaks stop state cs out → Breaks stop state (cs ++ ds) out
breaks_less ReadFault state cs ds out b = absurd b
breaks_less FileFault state cs ds out b = fails_less state cs ds out b
breaks_less WriteFault state cs ds out b = begins_less state cs ds out b
breaks_less NoMemory state cs ds out b = begins_less state cs ds out b
breaks_less OverLimit state cs ds out b = absurd b

pub breaks_more : (stop : Stop) (state : RunState) (cs ds : List Command) (a b : List ℕ) (mid : RunState) → Runs state cs a mid → Breaks stop mid ds b → Breaks stop state (cs ++ ds) (a ++ b)
breaks_more ReadFault state cs ds a b mid run broken = absurd broken
breaks_more FileFault state cs ds a b mid run broken = fails_more state cs ds a b mid run broken
breaks_more WriteFault state cs ds a b mid run broken = begins_more state cs ds a b mid run broken
breaks_more NoMemory state cs ds a b mid run broken = begins_more state cs ds a b mid run broken
breaks_more OverLimit state cs ds a b mid run broken = absurd broken

-- the first bytes of a block
pub begins_front : (state : RunState) (c : Command) (block : List ℕ) (new : RunState) (old mid : Option (List ℕ)) → Step state c block new → TakesFront old mid block
    → Wrote old mid (λ b. Begins state (c ∷ []) b)
begins_front state c block new old mid step front = record {
  written = take front.count block;
  taken = front.bytes;
  holds = record {
    first = c ∷ [];
    others = [];
    is = refl;
    rest = drop front.count block;
    new = new;
    runs = subst (λ (b : List ℕ). Runs state (c ∷ []) b new) (sym (take-append-drop front.count block)) (run_one state c block new step);
  };
}

-- what is written after what is written
pub wrote_more : (old mid new : Option (List ℕ)) (P Q R : List ℕ → Type 0) → Wrote old mid P → Wrote mid new Q → ((a b : List ℕ) → P a → Q b → R (a ++ b)) → Wrote old new R
wrote_more old mid new P Q R first second both = record {
  written = first.written ++ second.written;
  taken = second.taken ∙ ap (λ (t : Option (List ℕ)). append_known t second.written) first.taken ∙ append_known-append old first.written second.written;
  holds = both first.written second.written first.holds second.holds;
}

-- a line's commands, after others
pub takes_more : (state mid : RunState) (cs : List Command) (t : Taken) (result : Result (Option Pending) Stop) (new : RunState) (a b : List ℕ) → Runs state cs a mid → TakesLine mid t result new b
    → TakesLine state (record { done = cs ++ t.done; pending = t.pending }) result new (a ++ b)
takes_more state mid cs t (Ok p) new a b run line = (line.0, run_more state cs t.done a b mid new run line.1)
takes_more state mid cs t (Err stop) new a b run line = breaks_more stop state cs t.done a b mid run line
