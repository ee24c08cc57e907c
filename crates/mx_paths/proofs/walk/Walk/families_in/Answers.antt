use Rattle.std.proofs.Common.{◌≡◌, ◌∙◌, ◌<◌, [], ◌∷◌, ◌++◌, List, length, take, get_or, ap, sym, arith}
use Rattle.std.proofs.lemmas.List.{take_more, map-append}
use Rattle.mx_c3.specs.declared.space.SpaceId.{SpaceId}
use Rattle.mx_c3.proofs.ListLemmas.{has_at}
use Rattle.mx_paths.specs.declared.child.Child.{Child}
use Rattle.mx_paths.specs.Walking.{families_in}
use Rattle.mx_paths.proofs.Expanded.{family_of}
use Rattle.mx_paths.proofs.Least.{same_get}
use Rattle.mx_paths.proofs.walk.Walk.families_in.Goals as goal

abbrev first : SpaceId
first = record { 0 = 0 }

pub index-requires : goal.index-requires
index-requires c =
    let items = c.args.spaces.now in
    let s = get_or items c.loop-s.s-index first in
    let l : s.0 < length c.args.self.now.families.items = c.requires s (has_at items c.loop-s.s-index first c.loop-s-test.true) in
    omega arith

pub loop-s-preserved : goal.loop-s-preserved
loop-s-preserved c =
    let items = c.args.spaces.now in
    let i = c.loop-s.s-index in
    let s = get_or items i first in
    let all = c.args.self.now.families.items in
    let l : s.0 < length all = c.requires s (has_at items i first c.loop-s-test.true) in
    let at : c.family.result ≡ family_of all s = c.family.ensures ∙ c.index.ensures ∙ same_get all s.0 c.index.result.now [] l in
    c.in_ok-push.ensures.items ∙ ap (λ (xs : List (List Child)). xs ++ c.family.result ∷ []) c.loop-s.invariant ∙ ap (λ (x : List Child). families_in all (take i items) ++ x ∷ []) at ∙
    sym (ap (families_in all) (take_more items i first c.loop-s-test.true) ∙ map-append (family_of all) (take i items) (s ∷ []))
