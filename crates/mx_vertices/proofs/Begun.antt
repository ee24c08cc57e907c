-- Nodes whose runs have begun.
use Rattle.std.proofs.Common.{◌≡◌, ◌∙◌, ℕ, Bool, true, false, cond, List, [], ◌∷◌, ◌++◌, Option, Some, None, Result, Ok, Err, refl, sym, ap, subst, ◌⊎◌, inl, inr}
use Rattle.std.specs.Prelude.{OnOk, OnErr, MatchOption, option_to_list}
use Rattle.mx_graph.specs.declared.ids.NodeId.{NodeId}
use Rattle.mx_graph.specs.Relation.{Entry}
use Rattle.mx_value.specs.declared.node.Node.{Node as Asked}
use Rattle.mx_value.specs.Equality.{node_eq}
use Rattle.mx_vertices.specs.declared.slot.Slot.{Slot}
use Rattle.mx_vertices.specs.declared.standing.Standing.{Standing}
use Rattle.mx_vertices.specs.declared.standing.Standing.TheVariants.{Begun, Ended}
use Rattle.mx_vertices.specs.Places.{Has, at}
use Rattle.mx_vertices.specs.Kept.{kept, entries}
use Rattle.mx_vertices.specs.Found.{IsFound, LeadsRight, IsNew, is_begun, node_at, AreBegun, AreDistinct}
use Rattle.mx_vertices.proofs.Sources.{has_push, has_front, append_none}
use Rattle.mx_vertices.proofs.Touching.{at_entry}
use Rattle.mx_vertices.proofs.Table.{NodeLaws}
use Rattle.mx_vertices.proofs.Right.{right_same, right_marked}

-- a look that tells the same
pub begun_same : (look look2 : Asked → Option Standing) (begun : List Asked) → ((n : Asked) → is_begun (look2 n) ≡ is_begun (look n)) → AreBegun look begun → AreBegun look2 begun
begun_same look look2 begun s a n = (λ t. (a n).0 (sym (s n) ∙ t), λ h. s n ∙ (a n).1 h)

test_of : (laws : NodeLaws) (x n : Asked) → (x ≡ n → ⊥) → node_eq x n ≡ false
test_of laws x n d = elim (node_eq x n) as (λ b. node_eq x n ≡ b → b ≡ false) [ true ↦ λ t. absurd (d ((laws x n).0 t)) | false ↦ λ t. refl ] refl

same_or : (laws : NodeLaws) (x n : Asked) → (x ≡ n) ⊎ (x ≡ n → ⊥)
same_or laws x n = elim (node_eq x n) as (λ b. node_eq x n ≡ b → (x ≡ n) ⊎ (x ≡ n → ⊥)) [
  | true ↦ λ t. inl ((laws x n).0 t)
  | false ↦ λ t. inr (λ e. let no : true ≡ false = sym ((laws x n).1 e) ∙ t in cc)
] refl

pub has_end : (xs : List Asked) (x : Asked) → Has (xs ++ x ∷ []) x
has_end [] x = inl refl
has_end (y ∷ xs) x = inr (has_end xs x)

-- one more begins
pub begun_more : (laws : NodeLaws) (look look2 : Asked → Option Standing) (begun : List Asked) (x : Asked) → ((n : Asked) → look2 n ≡ cond (node_eq x n) (Some Begun) (look n)) → AreBegun look begun → AreBegun look2 (begun ++ x ∷ [])
begun_more laws look look2 begun x puts a n =
    elim (same_or laws x n) [
      | inl e ↦
          let here : look2 n ≡ Some Begun = puts n ∙ ap (λ b. cond b (Some Begun) (look n)) ((laws x n).1 e) in
          (λ t. subst (λ (m : Asked). Has (begun ++ x ∷ []) m) e (has_end begun x), λ h. ap is_begun here)
      | inr d ↦
          let there : look2 n ≡ look n = puts n ∙ ap (λ b. cond b (Some Begun) (look n)) (test_of laws x n d) in (
            λ t. has_front begun (x ∷ []) n ((a n).0 (sym (ap is_begun there) ∙ t)),
            λ h. ap is_begun there ∙ (a n).1 (elim (has_push begun x n h) [ inl i ↦ i | inr e ↦ absurd (d e) ]),
          )
    ]

pub distinct_more : (begun : List Asked) (x : Asked) → AreDistinct begun → (Has begun x → ⊥) → AreDistinct (begun ++ x ∷ [])
distinct_more [] x d n = (λ h. h, tt)
distinct_more (y ∷ begun) x d n = (λ h. elim (has_push begun x y h) [ inl i ↦ d.0 i | inr e ↦ n (inl (sym e)) ], distinct_more begun x d.1 (λ i. n (inr i)))

-- the last has ended
pub distinct_less : (begun : List Asked) (x : Asked) → AreDistinct (begun ++ x ∷ []) → AreDistinct begun × (Has begun x → ⊥)
distinct_less [] x d = (tt, λ h. h)
distinct_less (y ∷ begun) x d =
    let r = distinct_less begun x d.1 in
    ((λ h. d.0 (has_front begun (x ∷ []) y h), r.0), λ h. elim h [ inl e ↦ d.0 (subst (λ (z : Asked). Has (begun ++ x ∷ []) z) (sym e) (has_end begun x)) | inr i ↦ r.1 i ])

pub begun_less : (laws : NodeLaws) (look look2 : Asked → Option Standing) (begun : List Asked) (x : Asked) → ((n : Asked) → look2 n ≡ cond (node_eq x n) None (look n)) → AreDistinct (begun ++ x ∷ []) → AreBegun look (begun ++ x ∷ []) → AreBegun look2 begun
begun_less laws look look2 begun x takes d a n =
    elim (same_or laws x n) [
      | inl e ↦
          let here : look2 n ≡ None = takes n ∙ ap (λ b. cond b None (look n)) ((laws x n).1 e) in (
            λ t. let no : false ≡ true = sym (ap is_begun here) ∙ t in cc,
            λ h. absurd ((distinct_less begun x d).1 (subst (λ (m : Asked). Has begun m) (sym e) h)),
          )
      | inr o ↦
          let there : look2 n ≡ look n = takes n ∙ ap (λ b. cond b None (look n)) (test_of laws x n o) in (
            λ t. elim (has_push begun x n ((a n).0 (sym (ap is_begun there) ∙ t))) [ inl i ↦ i | inr e ↦ absurd (o e) ],
            λ h. ap is_begun there ∙ (a n).1 (has_front begun (x ∷ []) n h),
          )
    ]

-- a new node is held
pub begun_held : (laws : NodeLaws) (look look2 : Asked → Option Standing) (begun : List Asked) (x : Asked) (id : NodeId) → ((n : Asked) → look2 n ≡ cond (node_eq x n) (Some (Ended id)) (look n)) → (Has begun x → ⊥) → AreBegun look begun → AreBegun look2 begun
begun_held laws look look2 begun x id puts d a n =
    elim (same_or laws x n) [
      | inl e ↦
          let here : look2 n ≡ Some (Ended id) = puts n ∙ ap (λ b. cond b (Some (Ended id)) (look n)) ((laws x n).1 e) in (
            λ t. let no : false ≡ true = sym (ap is_begun here) ∙ t in cc,
            λ h. absurd (d (subst (λ (m : Asked). Has begun m) (sym e) h)),
          )
      | inr o ↦
          let there : look2 n ≡ look n = puts n ∙ ap (λ b. cond b (Some (Ended id)) (look n)) (test_of laws x n o) in
          (λ t. (a n).0 (sym (ap is_begun there) ∙ t), λ h. ap is_begun there ∙ (a n).1 h)
    ]

over : (b : Bool) (o p : Option Standing) → cond b o p ≡ cond b o (cond b None p)
over true o p = refl
over false o p = refl

-- the node whose run began last is held
pub held_from_last : (laws : NodeLaws) (look look2 : Asked → Option Standing) (begun begun2 : List Asked) (x : Asked) (id : NodeId) → begun ≡ begun2 ++ x ∷ [] → ((n : Asked) → look2 n ≡ cond (node_eq x n) (Some (Ended id)) (look n)) → AreDistinct begun → AreBegun look begun → AreBegun look2 begun2 × AreDistinct begun2
held_from_last laws look look2 begun begun2 x id b puts d a =
    let distinct : AreDistinct (begun2 ++ x ∷ []) = subst AreDistinct b d in
    let rest : Asked → Option Standing = λ n. cond (node_eq x n) None (look n) in
    let less : AreBegun rest begun2 = begun_less laws look rest begun2 x (λ n. refl) distinct (subst (AreBegun look) b a) in
    let last = distinct_less begun2 x distinct in
    (begun_held laws rest look2 begun2 x id (λ n. puts n ∙ over (node_eq x n) (Some (Ended id)) (look n)) last.1 less, last.0)

-- marks of nodes that are not held change nothing of what is found
pub found_marked : (laws : NodeLaws) (look look2 : Asked → Option Standing) (o : Option Standing) (x : Asked) (slots : List Slot) (order : List (Option NodeId)) → ((n : Asked) → look2 n ≡ cond (node_eq x n) o (look n)) → ((p : ℕ) (id : NodeId) → at order p ≡ Some id → x ≡ node_at slots id.at → ⊥) → IsFound look slots order → IsFound look2 slots order
found_marked laws look look2 o x slots order puts new found p id e =
    puts (node_at slots id.at) ∙ ap (λ b. cond b o (look (node_at slots id.at))) (test_of laws x (node_at slots id.at) (new p id e)) ∙ found p id e

-- a begun node is not held
pub begun_new : (look : Asked → Option Standing) (begun : List Asked) (x : Asked) (slots : List Slot) (order : List (Option NodeId)) → AreBegun look begun → Has begun x → IsFound look slots order → (p : ℕ) (id : NodeId) → at order p ≡ Some id → x ≡ node_at slots id.at → ⊥
begun_new look begun x slots order a h found p id e s =
    let no : true ≡ false = sym ((a x).1 h) ∙ ap (λ n. is_begun (look n)) s ∙ ap is_begun (found p id e) in
    cc

pub none_begun : (look : Asked → Option Standing) → ((n : Asked) → look n ≡ None) → AreBegun look []
none_begun look none n = (λ t. let no : false ≡ true = sym (ap is_begun (none n)) ∙ t in cc, λ h. absurd h)

-- a new node stands nowhere
pub new_apart : (edges : List Entry) (slots : List Slot) (order : List (Option NodeId)) (x : Asked) → IsNew (entries edges slots 0 order) x → (p : ℕ) (id : NodeId) → at order p ≡ Some id → x ≡ node_at slots id.at → ⊥
new_apart edges slots order x new p id e s = let f = at_entry edges slots 0 order p id e in new (kept edges slots f.stamp id) f.among (sym s)

-- what is true of the table and of the begun nodes
abbrev pub IsMarked : (Asked → Option Standing) → List Asked → List Slot → List (Option NodeId) → Type 0
IsMarked look begun slots order = AreBegun look begun × AreDistinct begun × IsFound look slots order × LeadsRight look slots

begun_not_ended : (id : NodeId) → Some Begun ≡ Some (Ended id) → ⊥
begun_not_ended id e = let no : Begun ≡ Ended id = cc in cc

none_not_ended : (id : NodeId) → None ≡ Some (Ended id) → ⊥
none_not_ended id e = cc

pub began : (laws : NodeLaws) (look look2 : Asked → Option Standing) (begun begun2 : List Asked) (x : Asked) (slots : List Slot) (order : List (Option NodeId)) {E : Type 0} (r : Result (Unit {0}) E) → OnOk r (begun2 ≡ begun ++ x ∷ []) → OnOk r ((n : Asked) → look2 n ≡ cond (node_eq x n) (Some Begun) (look n))
    → OnErr r (begun2 ≡ begun) → OnErr r ((n : Asked) → look2 n ≡ look n) → (Has begun x → ⊥) → ((p : ℕ) (id : NodeId) → at order p ≡ Some id → x ≡ node_at slots id.at → ⊥) → IsMarked look begun slots order → IsMarked look2 begun2 slots order
began laws look look2 begun begun2 x slots order (Ok u) b m s l once new w = (
  subst (AreBegun look2) (sym b) (begun_more laws look look2 begun x m w.0),
  subst AreDistinct (sym b) (distinct_more begun x w.1 once),
  found_marked laws look look2 (Some Begun) x slots order m new w.2,
  right_marked look look2 (Some Begun) x slots m begun_not_ended w.3,
)
began laws look look2 begun begun2 x slots order (Err e) b m s l once new w = (
  subst (AreBegun look2) (sym s) (begun_same look look2 begun (λ n. ap is_begun (l n)) w.0),
  subst AreDistinct (sym s) w.1,
  λ p id e. l (node_at slots id.at) ∙ w.2 p id e,
  right_same look look2 slots slots l (λ q n. refl) w.3,
)

pub ended : (laws : NodeLaws) (look look2 : Asked → Option Standing) (begun begun2 : List Asked) (slots : List Slot) (order : List (Option NodeId)) (r : Option Asked) → begun ≡ begun2 ++ option_to_list r
    → MatchOption r ((n : Asked) → look2 n ≡ look n) (λ x. (n : Asked) → look2 n ≡ cond (node_eq x n) None (look n)) → IsMarked look begun slots order → IsMarked look2 begun2 slots order
ended laws look look2 begun begun2 slots order None b m w =
    let same : begun ≡ begun2 = b ∙ append_none begun2 in (
      subst (AreBegun look2) same (begun_same look look2 begun (λ n. ap is_begun (m n)) w.0),
      subst AreDistinct same w.1,
      λ p id e. m (node_at slots id.at) ∙ w.2 p id e,
      right_same look look2 slots slots m (λ q n. refl) w.3,
    )
ended laws look look2 begun begun2 slots order (Some x) b m w =
    let distinct : AreDistinct (begun2 ++ x ∷ []) = subst AreDistinct b w.1 in
    let marked : AreBegun look (begun2 ++ x ∷ []) = subst (AreBegun look) b w.0 in (
      begun_less laws look look2 begun2 x m distinct marked,
      (distinct_less begun2 x distinct).0,
      found_marked laws look look2 None x slots order m (begun_new look (begun2 ++ x ∷ []) x slots order marked (has_end begun2 x) w.2) w.2,
      right_marked look look2 None x slots m none_not_ended w.3,
    )
