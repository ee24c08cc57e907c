use Rattle.std.proofs.Common.{ℕ, option_map, ◌∙◌, sym, ap, rules}
use Rattle.mx_value.specs.Name.{same_path}
use Rattle.mx_c3.specs.declared.space.SpaceId.{SpaceId}
use Rattle.mx_members.proofs.MemberLemmas.{place_is, place_within}
use Rattle.mx_model.proofs.beside.id_in.Goals as goal

abbrev made : ℕ → SpaceId
made n = record { 0 = n }

pub overflow_cast-result : goal.overflow_cast-result
overflow_cast-result c =
    let within = place_within (same_path c.args.path.now) c.args.paths.now c.in-Some.place c.in-Some.ensures in
    let few = c.requires in
    search rules

pub returns-in-Some : goal.returns-in-Some
returns-in-Some c = ap (option_map made) (c.in-Some.ensures ∙ sym (place_is (same_path c.args.path.now) c.args.paths.now))

pub returns-in-None : goal.returns-in-None
returns-in-None c = ap (option_map made) (c.in-None.ensures ∙ sym (place_is (same_path c.args.path.now) c.args.paths.now))
