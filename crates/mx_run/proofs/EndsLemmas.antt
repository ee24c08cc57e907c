-- What a run has read and written, call after call.
use Rattle.std.proofs.Common.{◌≡◌, ℕ, ◌<◌, Bool, true, false, not, List, [], ◌++◌, Option, None, Some, Result, Ok, Err, inl, inr, refl, sym, ap, ◌∙◌, subst, append-nil, arith}
use Rattle.std.specs.Bool.{IsTrue, ◌==◌}
use Rattle.std.proofs.lemmas.Bool.Decides.{nat_tests}
use Rattle.std.specs.Io.KnownBytes.{append_known, prepend_known}
use Rattle.mx_outside.specs.Files.{FileMap}
use Rattle.mx_outside.specs.Outside.{tells_end}
use Rattle.mx_outside.proofs.Bytes.{append_known-append, append_known-nil, prepend_known-append}
use Rattle.mx_run.specs.Script.{complete_commands}
use Rattle.mx_commands.specs.Step.{run_state}
use Rattle.mx_run.specs.Transcript.{Wrote, Traded, IsWithin, begin}
use Rattle.mx_run.specs.At.{At, Halts, Finishes, Ends}
use Rattle.mx_run.specs.declared.stop.Stop.{Stop}
use Rattle.mx_run.specs.declared.stop.Stop.TheVariants.{ReadFault, FileFault, WriteFault, NoMemory, OverLimit}
use Rattle.mx_run.specs.declared.session.Session.{Session}
use Rattle.mx_run.proofs.RunLemmas.{begins_none}

-- a read and what is written for it, after others
pub traded_more : (left mid_left new_left taken mid_taken new_taken : Option (List ℕ)) (more : List ℕ) (P Q : List ℕ → List ℕ → Type 0)
    → Traded left mid_left taken mid_taken P → mid_left ≡ prepend_known more new_left
    → ((r w : List ℕ) → P r w → Wrote mid_taken new_taken (λ b. Q (r ++ more) (w ++ b))) → Traded left new_left taken new_taken Q
traded_more left mid_left new_left taken mid_taken new_taken more P Q so_far is next =
    let wrote = next so_far.read so_far.written so_far.holds in
    record {
      read = so_far.read ++ more;
      written = so_far.written ++ wrote.written;
      left = so_far.left ∙ ap (λ (l : Option (List ℕ)). prepend_known so_far.read l) is ∙ prepend_known-append new_left so_far.read more;
      taken = wrote.taken ∙ ap (λ (t : Option (List ℕ)). append_known t wrote.written) so_far.taken ∙ append_known-append taken so_far.written wrote.written;
      holds = wrote.holds;
    }

module _ (first now : Option FileMap) where
  ends_halted : (ended : Bool) (stop : Stop) (r w : List ℕ) → Halts first stop r w → Ends first now ended (Err stop) r w
  ends_halted ended ReadFault r w h = absurd h
  ends_halted ended FileFault r w h = inl h
  ends_halted ended WriteFault r w h = inl h
  ends_halted ended NoMemory r w h = inl h
  ends_halted ended OverLimit r w h = h

  -- the end is answered, or its commands are broken off
  ends_finished : (ended : Bool) (result : Result (Unit {0}) Stop) (r w : List ℕ) → IsTrue ended → IsWithin r → Finishes first now result r w → Ends first now ended result r w
  ends_finished ended (Ok u) r w told within f = (within, f)
  ends_finished ended (Err ReadFault) r w told within f = absurd f
  ends_finished ended (Err FileFault) r w told within f = inr (record { told = told; within = within; output = f })
  ends_finished ended (Err WriteFault) r w told within f = inr (record { told = told; within = within; output = f })
  ends_finished ended (Err NoMemory) r w told within f = inr (record { told = told; within = within; output = f })
  ends_finished ended (Err OverLimit) r w told within f = absurd f

  module _ (so_now : Option FileMap) (s : Session) (left mid_left new_left taken mid_taken new_taken : Option (List ℕ)) (ended : Bool) (so_far : Traded left mid_left taken mid_taken (At first so_now s)) where
    pub ended_finish : (result : Result (Unit {0}) Stop) → IsTrue ended → mid_left ≡ prepend_known [] new_left → ((r w : List ℕ) → At first so_now s r w → Wrote mid_taken new_taken (λ b. Finishes first now result r (w ++ b)))
        → Traded left new_left taken new_taken (Ends first now ended result)
    ended_finish result told is finish = traded_more left mid_left new_left taken mid_taken new_taken [] (At first so_now s) (Ends first now ended result) so_far is
        (λ r w at. let wrote = finish r w at in record {
          written = wrote.written;
          taken = wrote.taken;
          holds = subst (λ (x : List ℕ). Ends first now ended result x (w ++ wrote.written)) (sym (append-nil r)) (ends_finished ended result r (w ++ wrote.written) told at.within wrote.holds);
        })

    pub ended_halted : (stop : Stop) (more : List ℕ) → mid_left ≡ prepend_known more new_left → ((r w : List ℕ) → At first so_now s r w → Wrote mid_taken new_taken (λ b. Halts first stop (r ++ more) (w ++ b)))
        → Traded left new_left taken new_taken (Ends first now ended (Err stop))
    ended_halted stop more is next = traded_more left mid_left new_left taken mid_taken new_taken more (At first so_now s) (Ends first now ended (Err stop)) so_far is
        (λ r w at. let wrote = next r w at in record {
          written = wrote.written;
          taken = wrote.taken;
          holds = ends_halted ended stop (r ++ more) (w ++ wrote.written) wrote.holds;
        })

  -- a read failed, and took nothing
  pub ended_fault : (ended : Bool) (s : Session) (left mid_left new_left taken mid_taken : Option (List ℕ)) → Traded left mid_left taken mid_taken (At first now s) → mid_left ≡ prepend_known [] new_left
      → Traded left new_left taken mid_taken (Ends first now ended (Err ReadFault))
  ended_fault ended s left mid_left new_left taken mid_taken so_far is = traded_more left mid_left new_left taken mid_taken mid_taken [] (At first now s) (Ends first now ended (Err ReadFault)) so_far is
      (λ r w at. record {
        written = [];
        taken = sym (append_known-nil mid_taken);
        holds = subst (λ (x : List ℕ). Ends first now ended (Err ReadFault) x (w ++ [])) (sym (append-nil r))
            (subst (λ (x : List ℕ). Ends first now ended (Err ReadFault) r x) (sym (append-nil w)) (at.within, (run_state s.interpreter.engine now, at.blocks)));
      })

-- the end is told by a read that gave nothing into a buffer with room
has_room : (room : ℕ) → 0 < room → (room == 0) ≡ false
has_room room some = grind (arith, nat_tests)

pub end_told : (E : Type 0) (before after : Bool) (room : ℕ) → after ≡ tells_end {E = E} before (Ok 0) room → 0 < room → IsTrue after
end_told E true after room is some = is
end_told E false after room is some = is ∙ ap (λ (b : Bool). not b) (has_room room some)

-- what stops a session while it reads, or at the end, is no failed read of the script
pub halts_unread : (first : Option FileMap) (stop : Stop) (r w : List ℕ) → Halts first stop r w → stop ≡ ReadFault → ⊥
halts_unread first stop r w h is = subst (λ (s : Stop). Halts first s r w) is h

pub finishes_unread : (first now : Option FileMap) (stop : Stop) (r w : List ℕ) → Finishes first now (Err stop) r w → stop ≡ ReadFault → ⊥
finishes_unread first now stop r w f is = subst (λ (s : Stop). Finishes first now (Err s) r w) is f

prepend_known-nil : (left : Option (List ℕ)) → prepend_known [] left ≡ left
prepend_known-nil None = refl
prepend_known-nil (Some l) = refl

-- before the first read
pub begun : (P : List ℕ → List ℕ → Type 0) (left taken : Option (List ℕ)) → P [] [] → Traded left left taken taken P
begun P left taken p = record { read = []; written = []; left = sym (prepend_known-nil left); taken = sym (append_known-nil taken); holds = p }

-- nothing was read, and nothing written
pub nothing_traded : (first now : Option FileMap) (ended : Bool) (left taken : Option (List ℕ)) → Traded left left taken taken (Ends first now ended (Err NoMemory))
nothing_traded first now ended left taken = begun (Ends first now ended (Err NoMemory)) left taken (inl (record {
  before = [];
  after = [];
  is = refl;
  within = record { size = omega arith; whole = tt; rest = omega arith };
  output = begins_none (begin first) (complete_commands []);
}))
