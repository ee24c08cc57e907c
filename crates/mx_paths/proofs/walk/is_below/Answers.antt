use Rattle.std.proofs.Common.{◌∷◌, ◌++◌, [], ◌∙◌, ap, refl, sym}
use Rattle.mx_model.specs.Records.{Name}
use Rattle.mx_model.proofs.Defined.{same_ends, ends_so, ends_other}
use Rattle.mx_model.proofs.NameLemmas.{same_is, is_same}
use Rattle.mx_paths.proofs.Places.{not_below}
use Rattle.mx_paths.proofs.walk.is_below.Goals as goal

pub returns-then-same_names : goal.returns-then-same_names
returns-then-same_names c =
    let own = c.args.own.now in
    let names = c.args.names.now in
    let at = ends_so own names own names c.end-item.result c.same_names.result refl refl c.in-len1-up.len_at_least c.end-item.is c.same_names.ensures c.if-same_names.true in (
      λ t. at ∙ ap (λ (x : Name). names ++ x ∷ []) (same_is c.end-item.result c.args.last.now (sym c.eq.ensures ∙ t)),
      λ e. c.eq.ensures ∙ is_same c.end-item.result c.args.last.now ((same_ends names names c.end-item.result c.args.last.now (sym at ∙ e)).1),
    )

pub returns-else-same_names : goal.returns-else-same_names
returns-else-same_names c = (
  λ t. absurd cc,
  λ e.
      absurd (ends_other c.args.own.now c.args.names.now c.args.own.now c.args.names.now c.end-item.result c.same_names.result refl refl c.in-len1-up.len_at_least c.end-item.is c.same_names.ensures c.if-same_names.false c.args.last.now e),
)

pub returns-in_default : goal.returns-in_default
returns-in_default c = (λ t. absurd cc, λ e. absurd (not_below c.args.own.now c.args.names.now c.args.last.now c.in_default.len_below e))
