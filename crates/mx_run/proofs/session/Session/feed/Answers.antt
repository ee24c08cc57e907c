use Rattle.std.proofs.Common.{◌≡◌, ◌+◌, ◌∷◌, ◌++◌, [], List, ℕ, take, drop, append_assoc, append-nil, refl, sym, ap, ◌∙◌}
use Rattle.std.proofs.lemmas.List.{take_rest}
use Rattle.mx_run.proofs.CountLemmas.{stop_more, none_more, stopped_inside}
use Rattle.mx_script.proofs.Lines.{no_lf_front, no_lf_whole, around_lf}
use Rattle.mx_run.proofs.EndLemmas.{stop_inside, stop_at_end, goes_next, goes_last}
use Rattle.mx_run.proofs.session.Session.feed.Goals as goal

pub returns-in-Err-clause-output : goal.returns-in-Err-clause-output
returns-in-Err-clause-output g c = λ first read written at.
    let rest = c.lines.rest.now in
    let none = no_lf_front rest c.in-Some.end c.in-Some.ensures.before in
    stop_inside first _ c.lines.self c.args.piece.now c.lines.invariant.0 rest (take c.in-Some.end rest) _ read written c.lines.invariant.1 (around_lf rest c.in-Some.end c.in-Some.ensures.within c.in-Some.ensures.found) _ _
    (c.lines.invariant.2 first read written at) c.in-Err.stop (λ r w at'. c.in-Err.ensures.output first _ r w none at')

pub returns-in-Err-clause-counted : goal.returns-in-Err-clause-counted
returns-in-Err-clause-counted g c = stop_more c.in-Err.stop _ _ _ c.lines.invariant.4 (stopped_inside c.in-Err.stop _ c.in-Err.ensures.stop)

pub returns-in-Err-end_line-clause-output : goal.returns-in-Err-end_line-clause-output
returns-in-Err-end_line-clause-output g c = λ first read written at.
    let rest = c.lines.rest.now in
    let none = no_lf_front rest c.in-Some.end c.in-Some.ensures.before in
    let around = around_lf rest c.in-Some.end c.in-Some.ensures.within c.in-Some.ensures.found in
    stop_at_end first _ c.lines.self c.args.piece.now c.lines.invariant.0 rest (take c.in-Some.end rest) _ read written c.lines.invariant.1 around _ _ (c.lines.invariant.2 first read written at)
    c.lengthen.new.self (λ r w at'. c.in_default-lengthen.ensures.output first _ r w none at') _ c.in-Err-end_line.stop _ refl (λ r w at'. c.in-Err-end_line.ensures.output first r w at')

pub returns-in-Err-end_line-clause-counted : goal.returns-in-Err-end_line-clause-counted
returns-in-Err-end_line-clause-counted g c = stop_more c.in-Err-end_line.stop _ _ _ c.lines.invariant.4 c.in-Err-end_line.ensures.counted

pub lines-preserved : goal.lines-preserved
lines-preserved g c =
    let rest = c.lines.rest.now in
    let done = c.lines.invariant.0 in
    let line = take c.in-Some.end rest in
    let none = no_lf_front rest c.in-Some.end c.in-Some.ensures.before in
    let around = around_lf rest c.in-Some.end c.in-Some.ensures.within c.in-Some.ensures.found in
    let behind = drop (c.in-Some.end + 1) rest in
    let split : c.args.piece.now ≡ (done ++ (line ++ 10 ∷ [])) ++ behind =
    c.lines.invariant.1 ∙ ap (λ (l : List ℕ). done ++ l) (around ∙ sym (append_assoc line (10 ∷ []) behind)) ∙ sym (append_assoc done (line ++ 10 ∷ []) behind) in (
      done ++ (line ++ 10 ∷ []),
      rw take_rest split,
      (λ first read written at. goes_next first _ c.lines.self c.args.piece.now done rest line _ read written c.lines.invariant.1 around _ _ (c.lines.invariant.2 first read written at)
          c.lengthen.new.self (λ r w at'. c.in_default-lengthen.ensures.output first _ r w none at') _ _ c.end_line.new.self (λ r w at'. c.in_default-end_line.ensures.output first r w at')),
      c.in_default-end_line.ensures.held ∙ c.lines.invariant.3,
      none_more _ _ _ c.lines.invariant.4 c.in_default-end_line.ensures.counted,
    )

pub returns-clause-output : goal.returns-clause-output
returns-clause-output g c = λ first read written at.
    let rest = c.lines.rest.now in
    goes_last first _ c.lines.self c.args.piece.now c.lines.invariant.0 rest rest [] read written c.lines.invariant.1 (sym (append-nil rest)) _ _ (c.lines.invariant.2 first read written at)
    c.lengthen-2.new.self c.lengthen-2.result refl (λ r w at'. c.lengthen-2.ensures.output first _ r w (no_lf_whole rest c.in_default.ensures.none) at')
