use Rattle.std.proofs.Common.{◌≡◌, ◌∙◌, Option, IfSome, sym, subst}
use Rattle.mx_value.specs.declared.namespace.Namespace.{Namespace}
use Rattle.mx_model.specs.Keys.{key_result}
use Rattle.mx_meaning.specs.Namespaces.{root}
use Rattle.mx_walks.specs.Ways.{Came, Look, way_of}
use Rattle.mx_walks.proofs.Static.{begun_on}
use Rattle.mx_walks.proofs.walks.walk_from_top.Goals as goal

pub returns-in-Some : goal.returns-in-Some
returns-in-Some c =
    let P : Option Namespace → Type 0 = λ found. IfSome found (λ ns. (look : Look) → way_of look c.args.at.now root ≡ Came ns) in
    let way = subst P c.in-Some.is c.in_ok-namespace.ensures in
    sym (way (key_result c.args.world.now)) ∙ begun_on (key_result c.args.world.now) c.args.at.now (λ e. let t = c.is_empty.ensures.1 e in cc)
