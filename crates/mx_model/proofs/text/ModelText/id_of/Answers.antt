use Rattle.std.proofs.Common.{◌∙◌, length, sym, ap, rules}
use Rattle.std.proofs.lemmas.List.{length-map}
use Rattle.mx_members.proofs.MemberLemmas.{place_is, place_within}
use Rattle.mx_value.specs.Name.{same_path}
use Rattle.mx_model.specs.Records.{Path, SpaceRecord}
use Rattle.mx_model.proofs.MemberLemmas.{id_found}
use Rattle.mx_model.proofs.text.ModelText.id_of.Goals as goal

pub overflow_cast-result : goal.overflow_cast-result
overflow_cast-result c =
    let own : SpaceRecord → Path = λ s. s.path in
    let within = place_within (same_path c.args.path.now) c.get.result.now c.in-Some.place c.in-Some.ensures in
    let keys = ap length (c.get.ensures ∙ c.self.invariant.paths) in
    let all = length-map c.self.inside.spaces own in
    let few = c.self.invariant.placed.few in
    search rules

pub returns-in-Some : goal.returns-in-Some
returns-in-Some c =
    rw (← c.self.view_is) (id_found c.self.inside.spaces c.get.result.now c.args.path.now _ (c.in-Some.ensures ∙ sym (place_is (same_path c.args.path.now) c.get.result.now)) (c.get.ensures ∙ c.self.invariant.paths))

pub returns-in-None : goal.returns-in-None
returns-in-None c =
    rw (← c.self.view_is) (id_found c.self.inside.spaces c.get.result.now c.args.path.now _ (c.in-None.ensures ∙ sym (place_is (same_path c.args.path.now) c.get.result.now)) (c.get.ensures ∙ c.self.invariant.paths))
