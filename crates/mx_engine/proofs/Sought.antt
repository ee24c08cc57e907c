-- A node that is sought among all that is held, by their stamps.
use Rattle.std.proofs.Common.{◌≡◌, ℕ, ◌<◌, ◌≤◌, true, false, List, [], ◌∷◌, inl, inr, sym, ◌∙◌, ap, subst, arith}
use Rattle.std.proofs.lemmas.Bool.{cases_lt}
use Rattle.mx_value.specs.Equality.{node_eq}
use Rattle.mx_value.specs.declared.node.Node.{Node}
use Rattle.mx_value.proofs.NodeSames.{node_decides}
use Rattle.mx_vertices.specs.declared.slot.Body.{Body}
use Rattle.mx_vertices.specs.Kept.{Kept}
use Rattle.mx_vertices.specs.Places.{Has}
use Rattle.mx_vertices.specs.Found.{IsHeldAs, IsHeldWith}
use Rattle.mx_invalidation.specs.Stamps.{NoneAfter, IsNextAfter, IsHeldSince}
use Rattle.mx_memo.specs.Memos.{Memory}
use Rattle.mx_memo.specs.Restoring.{AreApart}
use Rattle.mx_memo.specs.Order.{StampsRise}
use Rattle.mx_runs.specs.Lists.{Has as Among}
use Rattle.mx_answers.specs.Held.{nodes_of}
use Rattle.mx_memo_laws.specs.Entries.{entries_of, IsOrdered}
use Rattle.mx_memo_laws.specs.Laws.{HeldIsEntered, EnteredIsHeld}

-- no node with a stamp up to this one is the one that is sought
abbrev pub NotUpTo : List Kept → Node → ℕ → Type 0
NotUpTo held n stamp = (r : Kept) → Has held r → r.stamp ≤ stamp → r.body.node ≡ n → ⊥

-- ---- one id, one stamp

one_id : (held : List Kept) → AreApart held → (r s : Kept) → Has held r → Has held s → r.id ≡ s.id → r ≡ s
one_id [] a r s h k e = absurd h
one_id (x ∷ held) a r s h k e =
    elim h [
      | inl p ↦ elim k [ inl q ↦ sym p ∙ q | inr l ↦ absurd (a.0 s l (ap (λ (y : Kept). y.id) p ∙ e)) ]
      | inr i ↦ elim k [ inl q ↦ absurd (a.0 r i (ap (λ (y : Kept). y.id) q ∙ sym e)) | inr l ↦ one_id held a.1 r s i l e ]
    ]

above : (p : ℕ) (held : List Kept) → StampsRise p held → (r : Kept) → Has held r → p < r.stamp
above p [] a r h = absurd h
above p (x ∷ held) a r h =
    elim h [
      | inl e ↦ subst (λ (y : Kept). p < y.stamp) e a.0
      | inr t ↦ let i : x.stamp < r.stamp = above x.stamp held a.1 r t in let j : p < x.stamp = a.0 in omega (arith, i, j)
    ]

one_stamp : (p : ℕ) (held : List Kept) → StampsRise p held → (r s : Kept) → Has held r → Has held s → r.stamp ≡ s.stamp → r ≡ s
one_stamp p [] a r s h k e = absurd h
one_stamp p (x ∷ held) a r s h k e =
    elim h [
      | inl p ↦ elim k [
        | inl q ↦ sym p ∙ q
        | inr l ↦ absurd (let i : x.stamp < s.stamp = above x.stamp held a.1 s l in let j : x.stamp ≡ r.stamp = ap (λ (y : Kept). y.stamp) p in omega (arith, i, j, e))
      ]
      | inr i ↦ elim k [
        | inl q ↦ absurd (let j : x.stamp < r.stamp = above x.stamp held a.1 r i in let l : x.stamp ≡ s.stamp = ap (λ (y : Kept). y.stamp) q in omega (arith, j, l, e))
        | inr l ↦ one_stamp x.stamp held a.1 r s i l e
      ]
    ]

-- what is held with a body is held as its node
pub as_node : {held : List Kept} {id : ℕ} {body : Body} → IsHeldWith held id body → IsHeldAs held id body.node
as_node w = record { entry = w.entry; among = w.among; id_is = w.id_is; node_is = ap (λ (b : Body). b.node) w.body_is }

-- ---- what a look at the next one tells

module _ (m : Memory) (ordered : IsOrdered m) (n : Node) (seen id stamp : ℕ) (body : Body)
    (next : IsNextAfter m.held seen id) (with : IsHeldWith m.held id body) (since : IsHeldSince m.held id stamp) where
  same_entry : (r : Kept) → Has m.held r → r.id ≡ id → r ≡ next.entry
  same_entry r h e = one_id m.held ordered.stands.apart r next.entry h next.among (e ∙ sym next.id_is)

  its_stamp : next.entry.stamp ≡ stamp
  its_stamp = sym (ap (λ (r : Kept). r.stamp) (same_entry since.entry since.among since.id_is)) ∙ since.stamp_is

  its_node : next.entry.body.node ≡ body.node
  its_node = sym (ap (λ (r : Kept). r.body.node) (same_entry with.entry with.among with.id_is)) ∙ ap (λ (b : Body). b.node) with.body_is

  pub is_later : seen < stamp
  is_later = let i : seen < next.entry.stamp = next.later in let e : next.entry.stamp ≡ stamp = its_stamp in omega (arith, i, e)

  pub is_given : stamp ≤ m.last
  is_given = let i : next.entry.stamp ≤ m.last = ordered.stands.given next.entry next.among in let e : next.entry.stamp ≡ stamp = its_stamp in omega (arith, i, e)

  pub none_further : NotUpTo m.held n seen → node_eq body.node n ≡ false → NotUpTo m.held n stamp
  none_further none differs r h up is =
      elim (cases_lt seen r.stamp) [
        | inr i ↦ none r h i is
        | inl j ↦
            let k : next.entry.stamp ≤ r.stamp = next.least r h j in
            let e : next.entry.stamp ≡ stamp = its_stamp in
            let same : r.stamp ≡ next.entry.stamp = omega (arith, k, e, up) in
            let one : r ≡ next.entry = one_stamp 0 m.held ordered.stands.rising r next.entry h next.among same in
            let found : body.node ≡ n = sym its_node ∙ sym (ap (λ (y : Kept). y.body.node) one) ∙ is in
            absurd (let f : true ≡ false = sym ((node_decides body.node n).1 found) ∙ differs in cc)
      ]

  pub is_found : HeldIsEntered → node_eq body.node n ≡ true → Among (nodes_of (entries_of m.held)) n
  is_found law same =
      law m.held id n (record { entry = with.entry; among = with.among; id_is = with.id_is; node_is = ap (λ (b : Body). b.node) with.body_is ∙ (node_decides body.node n).0 same })

-- where none stands behind those that were seen, the node is not held
pub none_held : EnteredIsHeld → (m : Memory) (n : Node) (seen : ℕ) → NotUpTo m.held n seen → NoneAfter m.held seen → Among (nodes_of (entries_of m.held)) n → ⊥
none_held law m n seen none last h =
    let u = law m.held n h in
    elim (cases_lt seen u.is.entry.stamp) [
      | inl j ↦ last u.is.entry u.is.among j
      | inr i ↦ none u.is.entry u.is.among i u.is.node_is
    ]

pub none_yet : (m : Memory) (n : Node) → IsOrdered m → NotUpTo m.held n 0
none_yet m n ordered r h up is = let i : 0 < r.stamp = above 0 m.held ordered.stands.rising r h in absurd (omega (arith, i, up))
