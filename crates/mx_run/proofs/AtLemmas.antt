-- A session after more bytes.
use Rattle.std.proofs.Common.{◌≡◌, ℕ, zero, suc, ◌+◌, ◌-◌, ◌<◌, ◌≤◌, min, List, [], ◌∷◌, ◌++◌, Option, None, Result, Ok, length, take, drop, get_or, refl, sym, ap, ◌∙◌, subst, append_assoc, append-nil, arith, length-append, length-take, take-append-drop}
use Rattle.std.proofs.lemmas.List.{take_more}
use Rattle.std.specs.List.{AllByRecursion}
use Rattle.mx_outside.proofs.Bytes.{append_known-nil}
use Rattle.mx_run.specs.Script.{taken, complete, pending_after, complete_commands}
use Rattle.mx_script.specs.Script.{Lines, split_lines, Command, Taken, HasNoLf}
use Rattle.mx_outside.specs.Files.{FileMap}
use Rattle.mx_commands.specs.Step.{RunState}
use Rattle.mx_run.specs.Transcript.{Runs, Breaks, Wrote, begin, IsWithin, IsBrokenOff, IsCut}
use Rattle.mx_run.specs.Session.{TakesLine}
use Rattle.mx_script.specs.Given.{pending_of}
use Rattle.mx_run.specs.At.{IsAfter, Halts}
use Rattle.mx_script.specs.declared.commands.Pending.{Pending}
use Rattle.mx_run.specs.declared.stop.Stop.{Stop}
use Rattle.mx_run.specs.declared.stop.Stop.TheVariants.{ReadFault, FileFault, WriteFault, NoMemory, OverLimit}
use Rattle.mx_run.proofs.RunLemmas.{run_more, breaks_more, begins_whole}
use Rattle.mx_run.proofs.ScriptLemmas.{split_lines-end, split_lines-stretch, complete-append, pending_after-append}

pub wrote_nothing : (old : Option (List ℕ)) (P : List ℕ → Type 0) → P [] → Wrote old old P
wrote_nothing old P p = record { written = []; taken = sym (append_known-nil old); holds = p }

all_end : (P : List ℕ → Type 0) (xs : List (List ℕ)) (x : List ℕ) → AllByRecursion P xs → P x → AllByRecursion P (xs ++ x ∷ [])
all_end P [] x all p = (p, tt)
all_end P (y ∷ xs) x all p = (all.0, all_end P xs x all.1 p)

no_lf-take : (k : ℕ) (s : List ℕ) → HasNoLf s → HasNoLf (take k s)
no_lf-take zero s none = tt
no_lf-take (suc k) [] none = tt
no_lf-take (suc k) (b ∷ bs) none = (none.0, no_lf-take k bs none.1)

-- what broke off in what was read broke off in more too
broken_grow : (first : Option FileMap) (stop : Stop) (read more w : List ℕ) → IsBrokenOff first stop read w → IsBrokenOff first stop (read ++ more) w
broken_grow first stop read more w h = record {
  before = h.before;
  after = h.after ++ more;
  is = ap (λ (l : List ℕ). l ++ more) h.is ∙ append_assoc h.before h.after more;
  within = h.within;
  output = h.output;
}

pub halts_grow : (first : Option FileMap) (stop : Stop) (read more w : List ℕ) → Halts first stop read w → Halts first stop (read ++ more) w
halts_grow first ReadFault read more w h = absurd h
halts_grow first FileFault read more w h = broken_grow first FileFault read more w h
halts_grow first WriteFault read more w h = broken_grow first WriteFault read more w h
halts_grow first NoMemory read more w h = broken_grow first NoMemory read more w h
halts_grow first OverLimit read more w h = record {
  before = h.before;
  byte = h.byte;
  after = h.after ++ more;
  is = ap (λ (l : List ℕ). l ++ more) h.is ∙ append_assoc h.before (h.byte ∷ h.after) more;
  within = h.within;
  passes = h.passes;
  output = h.output;
}

module _ (first : Option FileMap) (line : List ℕ) (lines size : ℕ) (pending : Option Command) (state : RunState) (read written : List ℕ) (at : IsAfter first line lines size pending state read written) where
  pub halts_memory : (more : List ℕ) → Halts first NoMemory (read ++ more) written
  halts_memory more = record {
    before = read;
    after = more;
    is = refl;
    within = at.within;
    output = begins_whole (begin first) (complete_commands read) written state at.blocks;
  }

  same_commands : (s : List ℕ) → HasNoLf s → complete_commands (read ++ s) ≡ complete_commands read
  same_commands s none = ap (λ (l : Lines). complete 1 None l.whole) (split_lines-stretch read s none)

  -- bytes of the open line
  pub at_inside : (s : List ℕ) → HasNoLf s → length line + length s ≤ 65536 → size + length s ≤ 16777216 → IsAfter first (line ++ s) lines (size + length s) pending state (read ++ s) written
  at_inside s none short room =
      let e = split_lines-stretch read s none in
      record {
        open_line = ap (λ (l : List ℕ). l ++ s) at.open_line ∙ ap (λ (l : Lines). l.rest) (sym e);
        lines_before = at.lines_before ∙ ap (λ (l : Lines). length l.whole) (sym e);
        bytes = omega (arith, at.bytes, length-append read s);
        may_go_on = at.may_go_on ∙ ap (λ (l : Lines). pending_after 1 None l.whole) (sym e);
        blocks = subst (λ (cs : List Command). Runs (begin first) cs written state) (sym (same_commands s none)) at.blocks;
        within = record {
          size = omega (arith, at.bytes, length-append read s);
          whole = subst (λ (l : Lines). AllByRecursion (λ (x : List ℕ). length x ≤ 65536) l.whole) (sym e) at.within.whole;
          rest = subst (λ (l : Lines). length l.rest ≤ 65536) (sym e) (omega (arith, ap length at.open_line, length-append (split_lines read).rest s));
        };
      }

  -- a limit is passed among them, at the byte after the first k
  pub cut_line : (s : List ℕ) → HasNoLf s → (k : ℕ) → k ≡ min (65536 - length line) (16777216 - size) → size ≤ 16777216 → k < length s → IsCut first (read ++ s) written
  cut_line s none k is fits inside =
      let front = take k s in
      let byte = get_or s k 0 in
      let short : length front ≡ k = omega (arith, length-take k s) in
      let line_fits : length line ≤ 65536 = omega (arith, ap length at.open_line, at.within.rest) in
      let more : (read ++ front) ++ byte ∷ [] ≡ read ++ take (k + 1) s = append_assoc read front (byte ∷ []) ∙ ap (λ (l : List ℕ). read ++ l) (sym (take_more s k 0 inside)) in
      let e = split_lines-stretch read (take (k + 1) s) (no_lf-take (k + 1) s none) in
      record {
        before = read ++ front;
        byte = byte;
        after = drop (k + 1) s;
        is = ap (λ (l : List ℕ). read ++ l) (sym (take-append-drop (k + 1) s)) ∙ sym (append_assoc read (take (k + 1) s) (drop (k + 1) s))
            ∙ ap (λ (l : List ℕ). l ++ drop (k + 1) s) (sym more) ∙ append_assoc (read ++ front) (byte ∷ []) (drop (k + 1) s);
        within = (at_inside front (no_lf-take k s none) (omega arith) (omega arith)).within;
        passes = λ within. let w = subst IsWithin more within in
            absurd (omega (arith, w.size, w.rest, ap (λ (l : Lines). length l.rest) e, ap length at.open_line, at.bytes, length-append (split_lines read).rest (take (k + 1) s), length-append read (take (k + 1) s), length-take (k + 1) s));
        output = (state, subst (λ (cs : List Command). Runs (begin first) cs written state) (sym (same_commands front (no_lf-take k s none))) at.blocks);
      }

  -- an LF past the script's limit
  pub cut_end : 16777216 ≤ size → IsCut first (read ++ 10 ∷ []) (written ++ [])
  cut_end full = record {
    before = read;
    byte = 10;
    after = [];
    is = refl;
    within = at.within;
    passes = λ within. absurd (omega (arith, within.size, at.bytes, length-append read (10 ∷ [])));
    output = (state, subst (λ (w : List ℕ). Runs (begin first) (complete_commands read) w state) (sym (append-nil written)) at.blocks);
  }

  same_line : taken (1 + length (split_lines read).whole) (pending_after 1 None (split_lines read).whole) (split_lines read).rest ≡ taken (lines + 1) pending line
  same_line =
      let n : 1 + length (split_lines read).whole ≡ lines + 1 = omega (arith, at.lines_before) in
      ap (λ (k : ℕ). taken k (pending_after 1 None (split_lines read).whole) (split_lines read).rest) n
      ∙ ap (λ (p : Option Command). taken (lines + 1) p (split_lines read).rest) (sym at.may_go_on)
      ∙ ap (λ (l : List ℕ). taken (lines + 1) pending l) (sym at.open_line)

  complete_end : complete_commands (read ++ 10 ∷ []) ≡ complete_commands read ++ (taken (lines + 1) pending line).done
  complete_end =
      ap (λ (l : Lines). complete 1 None l.whole) (split_lines-end read)
      ∙ complete-append 1 None (split_lines read).whole ((split_lines read).rest ∷ [])
      ∙ ap (λ (cs : List Command). complete_commands read ++ cs) (append-nil _)
      ∙ ap (λ (t : Taken). complete_commands read ++ t.done) same_line

  pending_end : pending_after 1 None (split_lines (read ++ 10 ∷ [])).whole ≡ (taken (lines + 1) pending line).pending
  pending_end =
      ap (λ (l : Lines). pending_after 1 None l.whole) (split_lines-end read)
      ∙ pending_after-append 1 None (split_lines read).whole ((split_lines read).rest ∷ [])
      ∙ ap (λ (t : Taken). t.pending) same_line

  within_line : size < 16777216 → IsWithin (read ++ 10 ∷ [])
  within_line room =
      let e = split_lines-end read in
      record {
        size = omega (arith, at.bytes, length-append read (10 ∷ []));
        whole = subst (λ (l : Lines). AllByRecursion (λ (x : List ℕ). length x ≤ 65536) l.whole) (sym e) (all_end (λ (x : List ℕ). length x ≤ 65536) (split_lines read).whole (split_lines read).rest at.within.whole at.within.rest);
        rest = subst (λ (l : Lines). length l.rest ≤ 65536) (sym e) (omega arith);
      }

  at_line : (p : Option Pending) (new : RunState) (block : List ℕ) → size < 16777216 → TakesLine state (taken (lines + 1) pending line) (Ok p) new block
      → IsAfter first [] (lines + 1) (size + 1) (pending_of p) new (read ++ 10 ∷ []) (written ++ block)
  at_line p new block room took =
      let e = split_lines-end read in
      record {
        open_line = ap (λ (l : Lines). l.rest) (sym e);
        lines_before = omega (arith, at.lines_before, ap (λ (l : Lines). length l.whole) e, length-append (split_lines read).whole ((split_lines read).rest ∷ []));
        bytes = omega (arith, at.bytes, length-append read (10 ∷ []));
        may_go_on = took.0 ∙ sym pending_end;
        blocks = subst (λ (cs : List Command). Runs (begin first) cs (written ++ block) new) (sym complete_end) (run_more (begin first) (complete_commands read) _ written block state new at.blocks took.1);
        within = within_line room;
      }

  line_broken : (stop : Stop) → size < 16777216 → (block : List ℕ) → Breaks stop state (taken (lines + 1) pending line).done block → IsBrokenOff first stop (read ++ 10 ∷ []) (written ++ block)
  line_broken stop room block broken = record {
    before = read ++ 10 ∷ [];
    after = [];
    is = sym (append-nil (read ++ 10 ∷ []));
    within = within_line room;
    output = subst (λ (cs : List Command). Breaks stop (begin first) cs (written ++ block)) (sym complete_end) (breaks_more stop (begin first) (complete_commands read) _ written block state at.blocks broken);
  }

  halts_line : (stop : Stop) → size < 16777216 → (block : List ℕ) → Breaks stop state (taken (lines + 1) pending line).done block → Halts first stop (read ++ 10 ∷ []) (written ++ block)
  halts_line ReadFault room block broken = absurd broken
  halts_line FileFault room block broken = line_broken FileFault room block broken
  halts_line WriteFault room block broken = line_broken WriteFault room block broken
  halts_line NoMemory room block broken = line_broken NoMemory room block broken
  halts_line OverLimit room block broken = absurd broken

  -- the same as a call gives it, with what it took spelled otherwise
  module _ (kept : Option Pending) (same_pending : pending_of kept ≡ pending) (text : List ℕ) (same_text : text ≡ line) where
    pub given : (result : Result (Option Pending) Stop) (new : RunState) (block : List ℕ) → TakesLine state (taken (lines + 1) (pending_of kept) text) result new block
        → TakesLine state (taken (lines + 1) pending line) result new block
    given result new block took =
        subst (λ (p : Option Command). TakesLine state (taken (lines + 1) p line) result new block) same_pending
        (subst (λ (l : List ℕ). TakesLine state (taken (lines + 1) (pending_of kept) l) result new block) same_text took)

    pub given_broken : (stop : Stop) (block : List ℕ) → Breaks stop state (taken (lines + 1) (pending_of kept) text).done block → Breaks stop state (taken (lines + 1) pending line).done block
    given_broken stop block broken =
        subst (λ (p : Option Command). Breaks stop state (taken (lines + 1) p line).done block) same_pending
        (subst (λ (l : List ℕ). Breaks stop state (taken (lines + 1) (pending_of kept) l).done block) same_text broken)

    pub fed_err : (old after : Option (List ℕ)) (stop : Stop) → size < 16777216 → Wrote old after (Breaks stop state (taken (lines + 1) (pending_of kept) text).done)
        → Wrote old after (λ block. Halts first stop (read ++ 10 ∷ []) (written ++ block))
    fed_err old after stop room wrote = record {
      written = wrote.written;
      taken = wrote.taken;
      holds = halts_line stop room wrote.written (given_broken stop wrote.written wrote.holds);
    }

    pub fed_ok : (old after : Option (List ℕ)) (p : Option Pending) (new : RunState) (empty : List ℕ) → empty ≡ [] → size < 16777216 → Wrote old after (TakesLine state (taken (lines + 1) (pending_of kept) text) (Ok p) new)
        → Wrote old after (λ block. IsAfter first empty (lines + 1) (size + 1) (pending_of p) new (read ++ 10 ∷ []) (written ++ block))
    fed_ok old after p new empty is room wrote = record {
      written = wrote.written;
      taken = wrote.taken;
      holds = subst (λ (l : List ℕ). IsAfter first l (lines + 1) (size + 1) (pending_of p) new (read ++ 10 ∷ []) (written ++ wrote.written)) (sym is)
          (at_line p new wrote.written room (given (Ok p) new wrote.written wrote.holds));
    }
