-- The commands of a script are those that its lines say.
use Rattle.std.proofs.Common.{◌≡◌, ℕ, ◌+◌, List, [], ◌∷◌, ◌++◌, Bool, true, false, cond, length, map, Option, None, Some, refl, sym, ap, ◌∙◌, subst, append_assoc, append-nil, arith}
use Rattle.std.specs.Prelude.{option_to_list}
use Rattle.std.specs.List.{concat, AllByRecursion}
use Rattle.mx_lex.proofs.Cases.{both}
use Rattle.mx_words.specs.declared.table.CommandWord.{CommandWord}
use Rattle.mx_words.specs.Texts.{behind_spaces}
use Rattle.mx_words.specs.Words.{takes_lines}
use Rattle.mx_script.specs.Script.{Command, Taken, without_cr, is_blank, goes_on, started, complete, pending_after, commands, commands_from, complete_commands, split_lines, lines_of}
use Rattle.mx_script.specs.ByLines.{with_lines, GoesOn, BeginsAnew, AreCommands}

module _ (words : List CommandWord) where
  abbrev blank_line : List ℕ → Bool
  blank_line line = is_blank (behind_spaces (without_cr line))

  abbrev takes : List ℕ → Bool
  takes line = takes_lines words (behind_spaces (without_cr line))

  abbrev all_from : ℕ → Option Command → List (List ℕ) → List Command
  all_from = commands_from words

  -- those behind a line
  abbrev all_behind : ℕ → List (List ℕ) → Taken → List Command
  all_behind n ls t = (t.done ++ complete words (n + 1) t.pending ls) ++ option_to_list (pending_after words (n + 1) t.pending ls)

  abbrev begun : ℕ → List ℕ → Command
  begun n line = record { number = n; text = without_cr line }

  abbrev longer : Command → List ℕ → Command
  longer c line = record { number = c.number; text = c.text ++ 10 ∷ without_cr line }

  longer_text : (t line : List ℕ) (more : List (List ℕ)) → with_lines (t ++ 10 ∷ without_cr line) more ≡ with_lines t (line ∷ more)
  longer_text t line more = append_assoc t (10 ∷ without_cr line) (concat (map (λ (l : List ℕ). 10 ∷ without_cr l) more))

  -- ---- what is found, the lines say

  -- a command that may go on, and the lines behind it
  record Going (n : ℕ) (c : Command) (ls : List (List ℕ)) (cs : List Command) : Type 0 where
    more : List (List ℕ)
    rest : List (List ℕ)
    others : List Command
    parts : ls ≡ more ++ rest
    go : AllByRecursion GoesOn more
    anew : BeginsAnew rest
    is : cs ≡ record { number = c.number; text = with_lines c.text more } ∷ others
    said : AreCommands words (n + length more) rest others

  record Found (ls : List (List ℕ)) : Type 0 where
    own : (n : ℕ) → AreCommands words n ls (all_from n None ls)
    going : (n : ℕ) (c : Command) → Going n c ls (all_from n (Some c) ls)

  block_own : (n : ℕ) (line : List ℕ) (ls : List (List ℕ)) (cs : List Command) → blank_line line ≡ false → takes line ≡ true → Going (n + 1) (begun n line) ls cs → AreCommands words n (line ∷ ls) cs
  block_own n line ls cs solid lines g =
      subst (λ (ds : List Command). AreCommands words n (line ∷ ls) ds) (sym g.is)
      (subst (λ (l : List (List ℕ)). AreCommands words n (line ∷ l) (record { number = n; text = with_lines (without_cr line) g.more } ∷ g.others)) (sym g.parts)
      (AreCommands.block line g.more solid lines g.go g.anew g.said))

  own_more : (line : List ℕ) (ls : List (List ℕ)) → Found ls → (n : ℕ) → AreCommands words n (line ∷ ls) (all_from n None (line ∷ ls))
  own_more line ls h n =
      let P : Taken → Type 0 = λ t. AreCommands words n (line ∷ ls) (all_behind n ls t) in
      let pending : Taken = record { done = []; pending = Some (begun n line) } in
      let alone : Taken = record { done = begun n line ∷ []; pending = None } in
      both P (blank_line line) (record { done = []; pending = None }) (cond (takes line) pending alone) (λ blank. AreCommands.blank line blank (h.own (n + 1)))
      (λ solid. both P (takes line) pending alone
      (λ lines. block_own n line ls (all_from (n + 1) (Some (begun n line)) ls) solid lines (h.going (n + 1) (begun n line)))
      (λ one. AreCommands.single line solid one (h.own (n + 1))))

  going_on : (n : ℕ) (c : Command) (line : List ℕ) (ls : List (List ℕ)) (cs : List Command) → GoesOn line → Going (n + 1) (longer c line) ls cs → Going n c (line ∷ ls) cs
  going_on n c line ls cs on g =
      let number : n + 1 + length g.more ≡ n + length (line ∷ g.more) = omega arith in
      record {
        more = line ∷ g.more;
        rest = g.rest;
        others = g.others;
        parts = ap (λ (l : List (List ℕ)). line ∷ l) g.parts;
        go = (on, g.go);
        anew = g.anew;
        is = g.is ∙ ap (λ (t : List ℕ). record { number = c.number; text = t } ∷ g.others) (longer_text c.text line g.more);
        said = subst (λ (k : ℕ). AreCommands words k g.rest g.others) number g.said;
      }

  ended : (n : ℕ) (c : Command) (ls : List (List ℕ)) (others : List Command) → BeginsAnew ls → AreCommands words n ls others → Going n c ls (c ∷ others)
  ended n c ls others anew said =
      let number : n ≡ n + 0 = omega arith in
      record {
        more = [];
        rest = ls;
        others = others;
        parts = refl;
        go = tt;
        anew = anew;
        is = ap (λ (t : List ℕ). record { number = c.number; text = t } ∷ others) (sym (append-nil c.text));
        said = subst (λ (k : ℕ). AreCommands words k ls others) number said;
      }

  going_more : (line : List ℕ) (ls : List (List ℕ)) → Found ls → ((n : ℕ) → AreCommands words n (line ∷ ls) (all_from n None (line ∷ ls))) → (n : ℕ) (c : Command) → Going n c (line ∷ ls) (all_from n (Some c) (line ∷ ls))
  going_more line ls h own n c =
      let start : Taken = started words n (without_cr line) in
      both (λ (t : Taken). Going n c (line ∷ ls) (all_behind n ls t)) (goes_on (without_cr line)) (record { done = []; pending = Some (longer c line) }) (record { done = c ∷ start.done; pending = start.pending })
      (λ on. going_on n c line ls (all_from (n + 1) (Some (longer c line)) ls) on (h.going (n + 1) (longer c line)))
      (λ off. ended n c (line ∷ ls) (all_from n None (line ∷ ls)) off (own n))

  found : (ls : List (List ℕ)) → Found ls
  found [] = record { own = λ n. AreCommands.none; going = λ n c. ended n c [] [] tt AreCommands.none }
  found (line ∷ ls) = let h = found ls in let own = own_more line ls h in record { own = own; going = going_more line ls h own }

  -- ---- line by line

  pub goes_on_with : (n : ℕ) (c : Command) (line : List ℕ) (ls : List (List ℕ)) → GoesOn line → all_from n (Some c) (line ∷ ls) ≡ all_from (n + 1) (Some (longer c line)) ls
  goes_on_with n c line ls on =
      let start : Taken = started words n (without_cr line) in
      ap (λ (b : Bool). all_behind n ls (cond b (record { done = []; pending = Some (longer c line) }) (record { done = c ∷ start.done; pending = start.pending }))) on

  pub skips : (n : ℕ) (line : List ℕ) (ls : List (List ℕ)) → blank_line line ≡ true → all_from n None (line ∷ ls) ≡ all_from (n + 1) None ls
  skips n line ls blank =
      let pending : Taken = record { done = []; pending = Some (begun n line) } in
      let alone : Taken = record { done = begun n line ∷ []; pending = None } in
      ap (λ (b : Bool). all_behind n ls (cond b (record { done = []; pending = None }) (cond (takes line) pending alone))) blank

  pub opens : (n : ℕ) (line : List ℕ) (ls : List (List ℕ)) → blank_line line ≡ false → takes line ≡ true → all_from n None (line ∷ ls) ≡ all_from (n + 1) (Some (begun n line)) ls
  opens n line ls solid lines =
      let pending : Taken = record { done = []; pending = Some (begun n line) } in
      let alone : Taken = record { done = begun n line ∷ []; pending = None } in
      ap (λ (b : Bool). all_behind n ls (cond b (record { done = []; pending = None }) (cond (takes line) pending alone))) solid ∙ ap (λ (b : Bool). all_behind n ls (cond b pending alone)) lines

  pub stands_alone : (n : ℕ) (line : List ℕ) (ls : List (List ℕ)) → blank_line line ≡ false → takes line ≡ false → all_from n None (line ∷ ls) ≡ begun n line ∷ all_from (n + 1) None ls
  stands_alone n line ls solid one =
      let pending : Taken = record { done = []; pending = Some (begun n line) } in
      let alone : Taken = record { done = begun n line ∷ []; pending = None } in
      ap (λ (b : Bool). all_behind n ls (cond b (record { done = []; pending = None }) (cond (takes line) pending alone))) solid ∙ ap (λ (b : Bool). all_behind n ls (cond b pending alone)) one

  -- a command that does not go on is complete
  pub at_end : (n : ℕ) (c : Command) (rest : List (List ℕ)) → BeginsAnew rest → all_from n (Some c) rest ≡ c ∷ all_from n None rest
  at_end n c [] anew = refl
  at_end n c (line ∷ ls) anew =
      let start : Taken = started words n (without_cr line) in
      ap (λ (b : Bool). all_behind n ls (cond b (record { done = []; pending = Some (longer c line) }) (record { done = c ∷ start.done; pending = start.pending }))) anew

  -- ---- what the lines say is found

  through : (more rest : List (List ℕ)) (n : ℕ) (c : Command) → AllByRecursion GoesOn more → all_from n (Some c) (more ++ rest) ≡ all_from (n + length more) (Some (record { number = c.number; text = with_lines c.text more })) rest
  through [] rest n c go =
      let number : n ≡ n + 0 = omega arith in
      ap (λ (k : ℕ). all_from k (Some c) rest) number ∙ ap (λ (t : List ℕ). all_from (n + 0) (Some (record { number = c.number; text = t })) rest) (sym (append-nil c.text))
  through (line ∷ more) rest n c go =
      let number : n + 1 + length more ≡ n + length (line ∷ more) = omega arith in
      goes_on_with n c line (more ++ rest) go.0 ∙ through more rest (n + 1) (longer c line) go.1
      ∙ ap (λ (k : ℕ). all_from k (Some (record { number = c.number; text = with_lines (c.text ++ 10 ∷ without_cr line) more })) rest) number
      ∙ ap (λ (t : List ℕ). all_from (n + length (line ∷ more)) (Some (record { number = c.number; text = t })) rest) (longer_text c.text line more)

  only : (n : ℕ) (ls : List (List ℕ)) (cs : List Command) → AreCommands words n ls cs → cs ≡ all_from n None ls
  only n _ _ AreCommands.none = refl
  only n _ _ (AreCommands.blank {lines} {cs} line blank h) = only (n + 1) lines cs h ∙ sym (skips n line lines blank)
  only n _ _ (AreCommands.block {lines} {cs} line more solid takes_more go anew h) =
      let whole : Command = record { number = n; text = with_lines (without_cr line) more } in
      ap (λ (ds : List Command). whole ∷ ds) (only (n + 1 + length more) lines cs h)
      ∙ sym (at_end (n + 1 + length more) whole lines anew) ∙ sym (through more lines (n + 1) (begun n line) go)
      ∙ sym (opens n line (more ++ lines) solid takes_more)
  only n _ _ (AreCommands.single {lines} {cs} line solid one h) = ap (λ (ds : List Command). begun n line ∷ ds) (only (n + 1) lines cs h) ∙ sym (stands_alone n line lines solid one)

pub commands_are : (words : List CommandWord) (script : List ℕ) → AreCommands words 1 (lines_of script) (commands words script)
commands_are words script = (found words (lines_of script)).own 1

pub commands_only : (words : List CommandWord) (script : List ℕ) (cs : List Command) → AreCommands words 1 (lines_of script) cs → cs ≡ commands words script
commands_only words script cs h = only words 1 (lines_of script) cs h

pub whole_lines_say : (words : List CommandWord) (read : List ℕ) → (last : Option Command) × AreCommands words 1 (split_lines read).whole (complete_commands words read ++ option_to_list last)
whole_lines_say words read = (pending_after words 1 None (split_lines read).whole, (found words (split_lines read).whole).own 1)
