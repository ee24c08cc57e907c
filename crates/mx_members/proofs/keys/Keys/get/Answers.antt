use Rattle.std.proofs.Common.{◌-◌, ◌∙◌, length, slice_get, ap, arith}
use Rattle.mx_members.proofs.MemberLemmas.{at_base, at_middle, at_top}
use Rattle.mx_members.proofs.keys.Keys.get.Goals as goal

pub returns-then-place-len : goal.returns-then-place-len
returns-then-place-len g c =
    let b = c.self.inside.base.keys in
    let m = c.self.inside.middle.keys in
    let t = c.self.inside.last in
    let i = c.args.place in
    let base = ap (λ s. length s.keys) c.get-base.ensures in
    c.key_of.ensures ∙ c.get_index.ensures.key ∙ ap (λ s. slice_get s.keys i) c.get-base.ensures ∙ at_base b m t i (omega arith) ∙ ap (λ l. slice_get l i) c.self.view_is

pub returns-then-behind-len : goal.returns-then-behind-len
returns-then-behind-len g c =
    let b = c.self.inside.base.keys in
    let m = c.self.inside.middle.keys in
    let t = c.self.inside.last in
    let i = c.args.place in
    let base = ap (λ s. length s.keys) c.get-base.ensures in
    let middle = ap (λ s. length s.keys) c.get-middle.ensures in
    c.key_of-then-behind-len.ensures ∙ c.get_index-then-behind-len.ensures.key ∙ ap (λ s. slice_get s.keys (i - c.len-2.result)) c.get-middle.ensures ∙
    at_middle b m t i (i - c.len-2.result) (omega arith) (omega arith) ∙ ap (λ l. slice_get l i) c.self.view_is

pub returns : goal.returns
returns g c =
    let b = c.self.inside.base.keys in
    let m = c.self.inside.middle.keys in
    let t = c.self.inside.last in
    let i = c.args.place in
    let base = ap (λ s. length s.keys) c.get-base.ensures in
    let middle = ap (λ s. length s.keys) c.get-middle.ensures in
    c.key_of-2.ensures ∙ c.get.ensures ∙ at_top b m t i (i - c.len-2.result - c.len-4.result) (omega arith) ∙ ap (λ l. slice_get l i) c.self.view_is
