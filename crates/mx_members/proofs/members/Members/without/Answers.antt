use Rattle.std.proofs.Common.{◌≡◌, ◌∙◌, IfOk, None, length, remove, ap, subst, arith}
use Rattle.std.specs.Map.{lookup}
use Rattle.std.proofs.lemmas.Result.{IfOk-weaker}
use Rattle.mx_members.proofs.MemberLemmas.{there, stay, lacked, cut_out, as_many, cut_gone}
use Rattle.mx_members.proofs.members.Members.without.Goals as goal

pub returns-in_default-clause-rest : goal.returns-in_default-clause-rest
returns-in_default-clause-rest g c =
    subst (λ es. IfOk c.copy.result (λ m. m ≡ es)) (stay g.K.PartialEq.eq c.args.key.now c.self.inside.keys c.self.inside.members c.args.self.now c.self.view_is c.self.invariant c.in_default.ensures)
    c.copy.ensures

pub returns-in_default-clause-gone : goal.returns-in_default-clause-gone
returns-in_default-clause-gone g c =
    let test = g.K.PartialEq.eq c.args.key.now in
    let none = lacked c.self.inside.keys c.self.inside.members c.args.self.now c.self.view_is c.self.invariant test c.in_default.ensures in
    IfOk-weaker c.copy.result (λ m. m ≡ c.args.self.now) (λ m. lookup test m ≡ None) (λ m e. ap (λ es. lookup test es) e ∙ none) c.copy.ensures

pub without-requires : goal.without-requires
without-requires g c =
    let within = there c.self.inside.keys c.self.inside.members c.args.self.now c.self.view_is c.self.invariant (g.K.PartialEq.eq c.args.key.now) c.in-Some.at c.in-Some.ensures in
    let all = c.self.invariant in
    omega arith

pub remove-requires : goal.remove-requires
remove-requires g c =
    let within = there c.self.inside.keys c.self.inside.members c.args.self.now c.self.view_is c.self.invariant (g.K.PartialEq.eq c.args.key.now) c.in-Some.at c.in-Some.ensures in
    let same = ap (λ l. length l) c.in_ok-members.ensures in
    omega arith

pub of-requires : goal.of-requires
of-requires g c =
    as_many g.K.PartialEq.eq c.args.key.now c.self.inside.keys c.self.inside.members c.args.self.now c.self.view_is c.self.invariant c.in-Some.at _ c.in_ok-from_vec.field-0 c.in-Some.ensures
    (c.keys.view_is ∙ c.in_ok-keys.ensures) (c.in_ok-from_vec.ensures ∙ c.remove.ensures.items ∙ ap (λ l. remove l c.in-Some.at) c.in_ok-members.ensures)

pub returns-clause-rest : goal.returns-clause-rest
returns-clause-rest g c =
    c.of.ensures ∙
    cut_out g.K.PartialEq.eq c.args.key.now c.self.inside.keys c.self.inside.members c.args.self.now c.self.view_is c.self.invariant c.in-Some.at _ c.in_ok-from_vec.field-0 c.in-Some.ensures
    (c.keys.view_is ∙ c.in_ok-keys.ensures) (c.in_ok-from_vec.ensures ∙ c.remove.ensures.items ∙ ap (λ l. remove l c.in-Some.at) c.in_ok-members.ensures)

pub returns-clause-gone : goal.returns-clause-gone
returns-clause-gone g c =
    let test = g.K.PartialEq.eq c.args.key.now in
    ap (λ es. lookup test es) c.of.ensures ∙
    cut_gone g.K.PartialEq.eq c.args.key.now c.self.inside.keys c.self.inside.members c.args.self.now c.self.view_is c.self.invariant c.in-Some.at _ c.in_ok-from_vec.field-0 c.in-Some.ensures
    (c.keys.view_is ∙ c.in_ok-keys.ensures) (c.in_ok-from_vec.ensures ∙ c.remove.ensures.items ∙ ap (λ l. remove l c.in-Some.at) c.in_ok-members.ensures)
    g.met.K.Eq.laws c.len-all_differ.ensures.distinct
