-- What is kept of what is held alike, by the node alone, is held alike.
use Rattle.std.proofs.Common.{◌≡◌, ◌≤◌, List, length, ◌∙◌, sym, subst, arith}
use Rattle.std.proofs.lemmas.List.{length-map}
use Rattle.mx_value.specs.declared.node.Node.{Node}
use Rattle.mx_edit.specs.Entry.{Entry}
use Rattle.mx_edit.specs.declared.key.Key.{Key}
use Rattle.mx_edit.specs.declared.key.KeyResult.{KeyResult}
use Rattle.mx_edit.specs.declared.reply.Reply.{Reply}
use Rattle.mx_edit.specs.declared.scope.Scope.{Scope}
use Rattle.mx_edit.specs.declared.scope.Scope.TheVariants as scope
use Rattle.mx_runs.specs.Lists.{Has, Distinct}
use Rattle.mx_runs.specs.Runs.{Model}
use Rattle.mx_runs.specs.Chains.{Reaches}
use Rattle.mx_runs.specs.Support.{HasSameKeys}
use Rattle.mx_runs.proofs.Lists.{no_more}
use Rattle.mx_answers.specs.Held.{nodes_of, HoldAlike}
use Rattle.mx_answers.specs.Retention.{Retains, Clears, IsInScope, IsInSpace, IsOfCells, IsOutside}
use Rattle.mx_answers.proofs.Held.{named, entry_of}

-- kept are those whose node is such, each once
pub record Keeps (P : Node → Type 0) (held kept : List Entry) : Type 0 where
  pub once : Distinct (nodes_of kept)
  pub only : (e : Entry) → Has kept e → Has held e × P e.node
  pub whole : (e : Entry) → Has held e → P e.node → Has kept e

module _ (P Q : Node → Type 0) (held others kept last : List Entry) (to : (x : Node) → Has (nodes_of held) x → Has (nodes_of others) x) (such : (n : Node) → P n → Q n) (k : Keeps P held kept) (l : Keeps Q others last) where
  half : (x : Node) → Has (nodes_of kept) x → Has (nodes_of last) x
  half x h =
      let d = entry_of kept x h in
      let o = k.only d.item d.among in
      let e = entry_of others d.item.node (to d.item.node (named held d.item o.0)) in
      let q : Q e.item.node = subst Q (sym e.is) (such d.item.node o.1) in
      subst (λ (n : Node). Has (nodes_of last) n) (e.is ∙ d.is) (named last e.item (l.whole e.item e.among q))

  few : length kept ≤ length last
  few =
      let n : length (nodes_of kept) ≤ length (nodes_of last) = no_more (nodes_of kept) (nodes_of last) k.once half in
      omega (arith, n, length-map kept (λ (e : Entry). e.node), length-map last (λ (e : Entry). e.node))

pub kept_alike : (P Q : Node → Type 0) (held others kept last : List Entry) → HoldAlike held others → ((n : Node) → P n → Q n) → ((n : Node) → Q n → P n) → Keeps P held kept → Keeps Q others last → HoldAlike kept last
kept_alike P Q held others kept last a to from k l =
    let there = λ (x : Node) (h : Has (nodes_of held) x). (a.nodes x).0 h in
    let back = λ (x : Node) (h : Has (nodes_of others) x). (a.nodes x).1 h in
    let m : length kept ≤ length last = few P Q held others kept last there to k l in
    let n : length last ≤ length kept = few Q P others held last kept back from l k in
    record {
      nodes = λ x. (half P Q held others kept last there to k l x, half Q P others held last kept back from l k x);
      replies = λ d e h i. a.replies d e (k.only d h).0 (l.only e i).0;
      many = omega (arith, m, n);
    }

pub retained_alike : (model : Model) (other : Key → KeyResult) (held others kept last : List Entry) → HoldAlike held others → Retains model other held kept → Retains model other others last → HoldAlike kept last
retained_alike model other held others kept last a k l =
    let P = λ (n : Node). HasSameKeys model other n in
    kept_alike P P held others kept last a (λ n p. p) (λ n p. p) (record { once = k.once; only = k.only; whole = k.whole }) (record { once = l.once; only = l.only; whole = l.whole })

-- a scope tells by the node and its reply alone
in_scope : (s : Scope) (d e : Entry) → d.node ≡ e.node → d.reply ≡ e.reply → IsInScope s d → IsInScope s e
in_scope scope.All d e n r h = tt
in_scope (scope.Space at) d e n r h = subst (λ (x : Node). IsInSpace at x e.reply.value) n (subst (λ (y : Reply). IsInSpace at d.node y.value) r h)
in_scope (scope.Cells at name) d e n r h = subst (λ (x : Node). IsOfCells at name x) n h
in_scope (scope.One m) d e n r h = sym n ∙ h

outside_alike : (model : Model) (s : Scope) (held others : List Entry) → ((x : Node) → Has (nodes_of others) x → Has (nodes_of held) x) → ((d e : Entry) → Has held d → Has others e → d.node ≡ e.node → d.reply ≡ e.reply) → (n : Node) → IsOutside model (IsInScope s) held n → IsOutside model (IsInScope s) others n
outside_alike model s held others to same n o e h i reach =
    let d = entry_of held e.node (to e.node (named others e h)) in
    let r : d.item.reply ≡ e.reply = same d.item e d.among h d.is in
    o d.item d.among (in_scope s e d.item (sym d.is) (sym r) i) (subst (λ (x : Node). Reaches model n x) (sym d.is) reach)

pub cleared_alike : (model : Model) (s : Scope) (held others kept last : List Entry) → HoldAlike held others → Clears model (IsInScope s) held kept → Clears model (IsInScope s) others last → HoldAlike kept last
cleared_alike model s held others kept last a k l =
    kept_alike (λ (n : Node). IsOutside model (IsInScope s) held n) (λ (n : Node). IsOutside model (IsInScope s) others n) held others kept last a
    (outside_alike model s held others (λ x h. (a.nodes x).1 h) a.replies)
    (outside_alike model s others held (λ x h. (a.nodes x).0 h) (λ d e h i n. sym (a.replies e d i h (sym n))))
    (record { once = k.once; only = k.only; whole = k.whole }) (record { once = l.once; only = l.only; whole = l.whole })
