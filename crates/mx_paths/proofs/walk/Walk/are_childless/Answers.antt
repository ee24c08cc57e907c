use Rattle.std.proofs.Common.{◌≡◌, ◌∙◌, ◌<◌, [], List, take, get_or, length, sym, ap, arith}
use Rattle.std.proofs.lemmas.List.{take_more}
use Rattle.mx_c3.specs.declared.space.SpaceId.{SpaceId}
use Rattle.mx_c3.proofs.ListLemmas.{has_at}
use Rattle.mx_paths.specs.Siblings.{firsts}
use Rattle.mx_paths.specs.Walking.{families_in}
use Rattle.mx_paths.proofs.Expanded.{family_of}
use Rattle.mx_paths.proofs.Least.{same_get, none_has, none_more}
use Rattle.mx_paths.proofs.walk.Walk.are_childless.Goals as goal

abbrev first : SpaceId
first = record { 0 = 0 }

pub index-requires : goal.index-requires
index-requires c =
    let s = get_or c.args.spaces.now c.loop-s.s-index first in
    let l : s.0 < length c.args.self.now.families.items = c.requires s (has_at c.args.spaces.now c.loop-s.s-index first c.loop-s-test.true) in
    omega arith

pub returns-then-not-is_empty : goal.returns-then-not-is_empty
returns-then-not-is_empty c = (
  λ t. absurd cc,
  λ none.
      let all = c.args.self.now.families.items in
      let s = get_or c.args.spaces.now c.loop-s.s-index first in
      let has = has_at c.args.spaces.now c.loop-s.s-index first c.loop-s-test.true in
      let l : s.0 < length all = c.requires s has in
      let at : c.index.result.now ≡ family_of all s = c.index.ensures ∙ same_get all s.0 c.index.result.now [] l in
      let yes = c.is_empty.ensures.1 (at ∙ none_has all c.args.spaces.now s none has) in
      absurd cc,
)

pub loop-s-preserved : goal.loop-s-preserved
loop-s-preserved c =
    let all = c.args.self.now.families.items in
    let s = get_or c.args.spaces.now c.loop-s.s-index first in
    let l : s.0 < length all = c.requires s (has_at c.args.spaces.now c.loop-s.s-index first c.loop-s-test.true) in
    let at : c.index.result.now ≡ family_of all s = c.index.ensures ∙ same_get all s.0 c.index.result.now [] l in
    let empty = sym at ∙ c.is_empty.ensures.0 c.if-not-is_empty.false in
    ap (λ (xs : List SpaceId). firsts (families_in all xs)) (take_more c.args.spaces.now c.loop-s.s-index first c.loop-s-test.true) ∙ none_more all (take c.loop-s.s-index c.args.spaces.now) s c.loop-s.invariant empty
