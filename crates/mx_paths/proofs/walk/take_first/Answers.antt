use Rattle.std.proofs.Common.{◌≡◌, ◌∙◌, [], ◌∷◌, ◌++◌, List, Option, map, take, drop, get_or, slice_set, ap, sym}
use Rattle.std.specs.List.{filter_map, cons_option}
use Rattle.mx_c3.specs.declared.space.SpaceId.{SpaceId}
use Rattle.mx_paths.specs.declared.child.Child.{Child}
use Rattle.mx_paths.specs.Siblings.{first_named, without_first}
use Rattle.mx_paths.proofs.Least.{append_nil, one_more, seam_get, seam_set}
use Rattle.mx_paths.proofs.walk.take_first.Goals as goal
use Rattle.mx_paths.proofs.walk.take_first.Goals.{in-Some+in_ok-push-in-Some, in-None}

pub loop-place-preserved : goal.loop-place-preserved
loop-place-preserved c =
    let all = c.args.families.now in
    let i = c.loop-place.place in
    let name = c.args.name.now in
    let d = c.index-families-place.result in
    let now = map (without_first name) (take i all) ++ drop i all in
    let here : get_or c.loop-place.families i d ≡ get_or all i d = ap (λ (xs : List (List Child)). get_or xs i d) c.loop-place.invariant.left ∙ seam_get (without_first name) all i d in
    let found : c.take.result ≡ first_named name (get_or all i d) = c.take.ensures.child ∙ ap (first_named name) here in
    let left : c.take.new.self ≡ without_first name (get_or all i d) = c.take.ensures.rest ∙ ap (without_first name) here in
    let more = one_more (first_named name) all i d c.take.result c.loop-place-test.true found in
    let before = filter_map (first_named name) (take i all) in
    record {
      taken = elim c.match-take.branch [
        | in-Some+in_ok-push-in-Some w ↦
            ap (λ v. v.items) w.spaces-is ∙ w.in_ok-push-in-Some.ensures.items ∙ ap (λ (xs : List SpaceId). xs ++ w.in-Some.space ∷ []) c.loop-place.invariant.taken ∙
            ap (λ (o : Option SpaceId). before ++ cons_option o []) (sym w.in-Some.is) ∙ sym more
        | in-None w ↦
            ap (λ v. v.items) w.spaces-is ∙ c.loop-place.invariant.taken ∙ sym (append_nil before) ∙
            ap (λ (o : Option SpaceId). before ++ cons_option o []) (sym w.in-None.is) ∙ sym more
      ];
      left = ap (λ (xs : List (List Child)). slice_set xs i c.take.new.self) c.loop-place.invariant.left ∙ ap (slice_set now i) left ∙ seam_set (without_first name) all i d c.loop-place-test.true;
    }
