use Rattle.std.proofs.Common.{◌+◌, ◌-◌, ◌++◌, ◌∙◌, length, ap, arith, rules}
use Rattle.std.proofs.lemmas.List.{length-append}
use Rattle.mx_members.specs.Places.{place}
use Rattle.mx_members.proofs.MemberLemmas.{place_in_base, place_in_middle, place_in_top, place_nowhere}
use Rattle.mx_members.proofs.keys.Keys.place_by.Goals as goal

pub returns-in-Some : goal.returns-in-Some
returns-in-Some g c =
    let b = c.self.inside.base.keys in
    let m = c.self.inside.middle.keys in
    let t = c.self.inside.last in
    let test = g.K.PartialEq.eq c.args.key.now.now in
    place_in_base test b m t c.in-Some.at (c.in-Some.ensures.place ∙ ap (λ s. place test s.keys) c.get-base.ensures) ∙ ap (λ l. place test l) c.self.view_is

pub overflow_sub-before_last : goal.overflow_sub-before_last
overflow_sub-before_last g c =
    let b = c.self.inside.base.keys in
    let m = c.self.inside.middle.keys in
    let t = c.self.inside.last in
    let whole = length-append (b ++ m) t in
    let all = c.self.invariant.1 in
    omega arith

pub overflow_add-result : goal.overflow_add-result
overflow_add-result g c =
    let b = c.self.inside.base.keys in
    let m = c.self.inside.middle.keys in
    let t = c.self.inside.last in
    let whole = length-append (b ++ m) t in
    let front = length-append b m in
    let all = c.self.invariant.1 in
    let base = ap (λ s. length s.keys) c.get-base.ensures in
    let middle = ap (λ s. length s.keys) c.get.ensures in
    let within = c.in-Some-place_in.ensures.within in
    search rules

pub overflow_add-result-in-Some-place_of : goal.overflow_add-result-in-Some-place_of
overflow_add-result-in-Some-place_of g c =
    let b = c.self.inside.base.keys in
    let m = c.self.inside.middle.keys in
    let t = c.self.inside.last in
    let whole = length-append (b ++ m) t in
    let all = c.self.invariant.1 in
    let within = c.in-Some-place_of.ensures.within in
    search rules

pub returns-in-Some-place_in : goal.returns-in-Some-place_in
returns-in-Some-place_in g c =
    let b = c.self.inside.base.keys in
    let m = c.self.inside.middle.keys in
    let t = c.self.inside.last in
    let test = g.K.PartialEq.eq c.args.key.now.now in
    let base = c.in-None.ensures.place ∙ ap (λ s. place test s.keys) c.get-base.ensures in
    let size = ap (λ s. length s.keys) c.get-base.ensures in
    place_in_middle test b m t c.in-Some-place_in.at (c.len-in-Some-place_in.result + c.in-Some-place_in.at) base
    (c.in-Some-place_in.ensures.place ∙ ap (λ s. place test s.keys) c.get.ensures) (omega arith)
    ∙ ap (λ l. place test l) c.self.view_is

pub returns-in-Some-place_of : goal.returns-in-Some-place_of
returns-in-Some-place_of g c =
    let b = c.self.inside.base.keys in
    let m = c.self.inside.middle.keys in
    let t = c.self.inside.last in
    let test = g.K.PartialEq.eq c.args.key.now.now in
    let base = c.in-None.ensures.place ∙ ap (λ s. place test s.keys) c.get-base.ensures in
    let middle = c.in-None-place_in.ensures.place ∙ ap (λ s. place test s.keys) c.get.ensures in
    let whole = length-append (b ++ m) t in
    let front = length-append b m in
    let all = c.self.invariant.1 in
    place_in_top test b m t c.in-Some-place_of.at (c.self.inside.count - c.len.result + c.in-Some-place_of.at) base middle c.in-Some-place_of.ensures.place (omega arith)
    ∙ ap (λ l. place test l) c.self.view_is

pub returns-in-None-place_of : goal.returns-in-None-place_of
returns-in-None-place_of g c =
    let b = c.self.inside.base.keys in
    let m = c.self.inside.middle.keys in
    let t = c.self.inside.last in
    let test = g.K.PartialEq.eq c.args.key.now.now in
    let base = c.in-None.ensures.place ∙ ap (λ s. place test s.keys) c.get-base.ensures in
    let middle = c.in-None-place_in.ensures.place ∙ ap (λ s. place test s.keys) c.get.ensures in
    place_nowhere test b m t base middle c.in-None-place_of.ensures.place ∙ ap (λ l. place test l) c.self.view_is
