-- A piece that is fed line by line, and a script's end.
use Rattle.std.proofs.Common.{◌≡◌, ◌≢◌, ℕ, ◌+◌, List, [], ◌∷◌, ◌++◌, Option, None, Result, Ok, Err, length, refl, sym, ap, ◌∙◌, subst, append_assoc, append-nil, arith}
use Rattle.std.specs.Option.{option_to_list}
use Rattle.std.specs.Io.KnownBytes.{append_known}
use Rattle.mx_outside.proofs.Bytes.{append_known-append}
use Rattle.mx_run.specs.Script.{taken, complete, pending_after, complete_commands, commands}
use Rattle.mx_script.specs.Script.{split_lines, last_line, Command, Taken}
use Rattle.mx_outside.specs.Files.{FileMap}
use Rattle.mx_commands.specs.Step.{RunState}
use Rattle.mx_run.specs.Transcript.{Runs, Breaks, Wrote, begin}
use Rattle.mx_run.specs.Session.{Answers, TakesLine}
use Rattle.mx_script.specs.Given.{pending_of}
use Rattle.mx_run.specs.At.{IsAfter, At, Halts, GoesOn, Finishes}
use Rattle.mx_script.specs.declared.commands.Pending.{Pending}
use Rattle.mx_run.specs.declared.stop.Stop.{Stop}
use Rattle.mx_run.specs.declared.session.Session.{Session}
use Rattle.mx_run.proofs.RunLemmas.{run_more, breaks_more, breaks_less}
use Rattle.mx_run.proofs.ScriptLemmas.{complete-append, pending_after-append}
use Rattle.mx_run.proofs.AtLemmas.{halts_grow, given, given_broken}

-- What the calls for a line make of what was fed before it: `done` of the piece was, and the line is next.
module _ (files now : Option FileMap) (s : Session) (piece done rest line more read written : List ℕ) (is : piece ≡ done ++ rest) (next : rest ≡ line ++ more) (old mid : Option (List ℕ)) (first : Wrote old mid (λ block. At files now s (read ++ done) (written ++ block))) where
  regroup : ((read ++ done) ++ line) ++ more ≡ read ++ piece
  regroup = append_assoc (read ++ done) line more ∙ ap (λ (l : List ℕ). (read ++ done) ++ l) (sym next) ∙ append_assoc read done rest ∙ ap (λ (l : List ℕ). read ++ l) (sym is)

  pub stop_inside : (stop : Stop) → ((r w : List ℕ) → At files now s r w → Halts files stop (r ++ line) w) → Wrote old mid (λ block. Halts files stop (read ++ piece) (written ++ block))
  stop_inside stop halts = record {
    written = first.written;
    taken = first.taken;
    holds = subst (λ (r : List ℕ). Halts files stop r (written ++ first.written)) regroup
        (halts_grow files stop ((read ++ done) ++ line) more (written ++ first.written) (halts (read ++ done) (written ++ first.written) first.holds));
  }

  pub goes_last : (t : Session) (result : Result (Unit {0}) Stop) → more ≡ [] → ((r w : List ℕ) → At files now s r w → GoesOn files now t result (r ++ line) w) → Wrote old mid (λ block. GoesOn files now t result (read ++ piece) (written ++ block))
  goes_last t result end goes = record {
    written = first.written;
    taken = first.taken;
    holds = subst (λ (r : List ℕ). GoesOn files now t result r (written ++ first.written)) (sym (append-nil ((read ++ done) ++ line)) ∙ ap (λ (l : List ℕ). ((read ++ done) ++ line) ++ l) (sym end) ∙ regroup)
        (goes (read ++ done) (written ++ first.written) first.holds);
  }

  module _ (t : Session) (lengthens : (r w : List ℕ) → At files now s r w → At files now t (r ++ line) w) (new : Option (List ℕ)) where
    pub stop_at_end : (stop : Stop) (behind : List ℕ) → more ≡ 10 ∷ behind → ((r w : List ℕ) → At files now t r w → Wrote mid new (λ block. Halts files stop (r ++ 10 ∷ []) (w ++ block))) → Wrote old new (λ block. Halts files stop (read ++ piece) (written ++ block))
    stop_at_end stop behind lf ends =
        let last = ends ((read ++ done) ++ line) (written ++ first.written) (lengthens (read ++ done) (written ++ first.written) first.holds) in
        let all : (((read ++ done) ++ line) ++ 10 ∷ []) ++ behind ≡ read ++ piece =
        append_assoc ((read ++ done) ++ line) (10 ∷ []) behind ∙ ap (λ (l : List ℕ). ((read ++ done) ++ line) ++ l) (sym lf) ∙ regroup in
        record {
          written = first.written ++ last.written;
          taken = last.taken ∙ ap (λ (x : Option (List ℕ)). append_known x last.written) first.taken ∙ append_known-append old first.written last.written;
          holds = subst (λ (r : List ℕ). Halts files stop r (written ++ (first.written ++ last.written))) all
              (subst (λ (w : List ℕ). Halts files stop ((((read ++ done) ++ line) ++ 10 ∷ []) ++ behind) w) (append_assoc written first.written last.written)
              (halts_grow files stop (((read ++ done) ++ line) ++ 10 ∷ []) behind ((written ++ first.written) ++ last.written) last.holds));
        }

    pub goes_next : (later : Option FileMap) (u : Session) → ((r w : List ℕ) → At files now t r w → Wrote mid new (λ block. At files later u (r ++ 10 ∷ []) (w ++ block))) → Wrote old new (λ block. At files later u (read ++ (done ++ (line ++ 10 ∷ []))) (written ++ block))
    goes_next later u ends =
        let last = ends ((read ++ done) ++ line) (written ++ first.written) (lengthens (read ++ done) (written ++ first.written) first.holds) in
        record {
          written = first.written ++ last.written;
          taken = last.taken ∙ ap (λ (x : Option (List ℕ)). append_known x last.written) first.taken ∙ append_known-append old first.written last.written;
          holds = subst (λ (r : List ℕ). At files later u r (written ++ (first.written ++ last.written))) (append_assoc (read ++ done) line (10 ∷ []) ∙ append_assoc read done (line ++ 10 ∷ []))
              (subst (λ (w : List ℕ). At files later u (((read ++ done) ++ line) ++ 10 ∷ []) w) (append_assoc written first.written last.written) last.holds);
        }

-- what is owed of a script's last commands, behind those that were complete
module _ (first : Option FileMap) (read : List ℕ) (cs ds : List Command) (state new : RunState) (w b : List ℕ) (is : commands read ≡ cs ++ ds) (run : Runs (begin first) cs w state) where
  ended_more : (result : Result (Unit {0}) Stop) → Answers state ds result new b → Finishes first new.files result read (w ++ b)
  ended_more (Ok u) ended = subst (λ (x : List Command). (after : RunState) × Runs (begin first) x (w ++ b) after × (after.files ≡ new.files)) (sym is) (new, run_more (begin first) cs ds w b state new run ended, refl)
  ended_more (Err stop) broken = subst (λ (x : List Command). Breaks stop (begin first) x (w ++ b)) (sym is) (breaks_more stop (begin first) cs ds w b state run broken)

last_line_empty : (r : List ℕ) → r ≡ [] → last_line r ≡ []
last_line_empty r e = rw e refl

last_line_some : (r : List ℕ) → length r ≢ 0 → last_line r ≡ r ∷ []
last_line_some [] some = absurd (some refl)
last_line_some (b ∷ bs) some = refl

module _ (first : Option FileMap) (line : List ℕ) (lines size : ℕ) (pending : Option Command) (state : RunState) (read written : List ℕ) (at : IsAfter first line lines size pending state read written) where
  commands_empty : line ≡ [] → commands read ≡ complete_commands read ++ option_to_list pending
  commands_empty empty =
      ap (λ (last : List (List ℕ)). complete 1 None ((split_lines read).whole ++ last) ++ option_to_list (pending_after 1 None ((split_lines read).whole ++ last)))
      (last_line_empty (split_lines read).rest (sym at.open_line ∙ empty))
      ∙ ap (λ (ls : List (List ℕ)). complete 1 None ls ++ option_to_list (pending_after 1 None ls)) (append-nil (split_lines read).whole)
      ∙ ap (λ (p : Option Command). complete_commands read ++ option_to_list p) (sym at.may_go_on)

  same_line : taken (1 + length (split_lines read).whole) (pending_after 1 None (split_lines read).whole) (split_lines read).rest ≡ taken (lines + 1) pending line
  same_line =
      let n : 1 + length (split_lines read).whole ≡ lines + 1 = omega (arith, at.lines_before) in
      ap (λ (k : ℕ). taken k (pending_after 1 None (split_lines read).whole) (split_lines read).rest) n
      ∙ ap (λ (p : Option Command). taken (lines + 1) p (split_lines read).rest) (sym at.may_go_on)
      ∙ ap (λ (l : List ℕ). taken (lines + 1) pending l) (sym at.open_line)

  commands_line : length line ≢ 0 → commands read ≡ complete_commands read ++ ((taken (lines + 1) pending line).done ++ option_to_list (taken (lines + 1) pending line).pending)
  commands_line some =
      let rest_some : length (split_lines read).rest ≢ 0 = subst (λ (l : List ℕ). length l ≢ 0) at.open_line some in
      ap (λ (last : List (List ℕ)). complete 1 None ((split_lines read).whole ++ last) ++ option_to_list (pending_after 1 None ((split_lines read).whole ++ last)))
      (last_line_some (split_lines read).rest rest_some)
      ∙ ap (λ (cs : List Command). cs ++ option_to_list (pending_after 1 None ((split_lines read).whole ++ (split_lines read).rest ∷ []))) (complete-append 1 None (split_lines read).whole ((split_lines read).rest ∷ []))
      ∙ ap (λ (p : Option Command). (complete_commands read ++ complete (1 + length (split_lines read).whole) (pending_after 1 None (split_lines read).whole) ((split_lines read).rest ∷ [])) ++ option_to_list p)
      (pending_after-append 1 None (split_lines read).whole ((split_lines read).rest ∷ []))
      ∙ ap (λ (t : Taken). (complete_commands read ++ (t.done ++ [])) ++ option_to_list t.pending) same_line
      ∙ ap (λ (cs : List Command). (complete_commands read ++ cs) ++ option_to_list (taken (lines + 1) pending line).pending) (append-nil (taken (lines + 1) pending line).done)
      ∙ append_assoc (complete_commands read) (taken (lines + 1) pending line).done (option_to_list (taken (lines + 1) pending line).pending)

  module _ (kept : Option Pending) (same_pending : pending_of kept ≡ pending) where
    pub finish_empty : (result : Result (Unit {0}) Stop) (new : RunState) (old after : Option (List ℕ)) → line ≡ []
        → Wrote old after (Answers state (option_to_list (pending_of kept)) result new) → Wrote old after (λ block. Finishes first new.files result read (written ++ block))
    finish_empty result new old after empty wrote = record {
      written = wrote.written;
      taken = wrote.taken;
      holds = ended_more first read (complete_commands read) (option_to_list pending) state new written wrote.written (commands_empty empty) at.blocks result
          (subst (λ (p : Option Command). Answers state (option_to_list p) result new wrote.written) same_pending wrote.holds);
    }

    module _ (text : List ℕ) (same_text : text ≡ line) (some : length line ≢ 0) where
      pub finish_line : (p : Option Pending) (mid_state : RunState) (result : Result (Unit {0}) Stop) (new : RunState) (old mid after : Option (List ℕ))
          → Wrote old mid (TakesLine state (taken (lines + 1) (pending_of kept) text) (Ok p) mid_state)
          → Wrote mid after (Answers mid_state (option_to_list (pending_of p)) result new) → Wrote old after (λ block. Finishes first new.files result read (written ++ block))
      finish_line p mid_state result new old mid after begun second =
          let took = given first line lines size pending state read written at kept same_pending text same_text (Ok p) mid_state begun.written begun.holds in
          let t = taken (lines + 1) pending line in
          let last = subst (λ (q : Option Command). Answers mid_state (option_to_list q) result new second.written) took.0 second.holds in
          let is = commands_line some ∙ sym (append_assoc (complete_commands read) t.done (option_to_list t.pending)) in
          record {
            written = begun.written ++ second.written;
            taken = second.taken ∙ ap (λ (x : Option (List ℕ)). append_known x second.written) begun.taken ∙ append_known-append old begun.written second.written;
            holds = subst (λ (w : List ℕ). Finishes first new.files result read w) (append_assoc written begun.written second.written)
                (ended_more first read (complete_commands read ++ t.done) (option_to_list t.pending) mid_state new (written ++ begun.written) second.written is
                (run_more (begin first) (complete_commands read) t.done written begun.written state mid_state at.blocks took.1) result last);
          }

      pub finish_stop : (stop : Stop) (old mid : Option (List ℕ))
          → Wrote old mid (Breaks stop state (taken (lines + 1) (pending_of kept) text).done) → Wrote old mid (λ block. Breaks stop (begin first) (commands read) (written ++ block))
      finish_stop stop old mid begun =
          let broken = given_broken first line lines size pending state read written at kept same_pending text same_text stop begun.written begun.holds in
          let t = taken (lines + 1) pending line in
          record {
            written = begun.written;
            taken = begun.taken;
            holds = subst (λ (x : List Command). Breaks stop (begin first) x (written ++ begun.written)) (sym (commands_line some))
                (breaks_more stop (begin first) (complete_commands read) (t.done ++ option_to_list t.pending) written begun.written state at.blocks (breaks_less stop state t.done (option_to_list t.pending) begun.written broken));
          }
