use Rattle.std.proofs.Common.{◌≡◌, ◌∙◌, ◌≤◌, List, Some, length, sym, ap, arith}
use Rattle.mx_value.specs.declared.label.Label.{Label}
use Rattle.mx_model.specs.Inputs.{path_of}
use Rattle.mx_walks.proofs.near.is_at.Goals as goal

pub returns-then-eq : goal.returns-then-eq
returns-then-eq c = λ yes.
    let at = c.args.at.now in
    let near = c.args.near.now in
    let same : near.at ≡ at = (c.equality_laws.ensures.address near.at at).0 (sym c.eq.ensures ∙ c.if-eq.true) in
    let names : path_of at ≡ Some near.source =
    ap path_of (sym c.as_slice.ensures) ∙ c.are_names.ensures yes ∙ ap (λ (ns : List Label). Some ns) c.as_slice-then-eq.ensures in
    let few : length at ≤ 64 = omega (arith, c.len.ensures, c.if-len-gt-SEGMENTS.false) in
    record {
      same = same;
      names = names;
      alone = c.is_empty-else-len-gt-SEGMENTS.ensures.0 c.if-not-is_empty.false;
      few = few;
      some = λ e. let t = c.is_empty.ensures.1 e in cc;
    }
