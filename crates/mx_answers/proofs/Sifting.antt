-- What holding, sifting and rolling back keep.
use Rattle.std.proofs.Common.{◌≡◌, ◌≤◌, false, List, [], ◌∷◌, ◌++◌, length, ◌⊎◌, inl, inr, refl, sym, subst, arith, length-append}
use Rattle.std.proofs.lemmas.List.{length-map}
use Rattle.mx_value.specs.declared.node.Node.{Node}
use Rattle.mx_edit.specs.Entry.{Entry}
use Rattle.mx_runs.specs.Lists.{Has, Distinct}
use Rattle.mx_runs.specs.Runs.{Model}
use Rattle.mx_runs.specs.Inputs.{is_input}
use Rattle.mx_runs.specs.Chains.{DoesAsk}
use Rattle.mx_runs.proofs.Lists.{has_left, has_push_cases, distinct_push, distinct_front, no_more}
use Rattle.mx_answers.specs.Held.{most_held, nodes_of, IsKnown, IsRight}
use Rattle.mx_answers.specs.Records.{IsRecordOf, AskBefore, IsRightMemo}
use Rattle.mx_answers.specs.Retention.{IsTouched, ByAsk, Sifts, NoneLeft, Keeps, Drops}
use Rattle.mx_answers.specs.Laws.{Holding, RollingBack}
use Rattle.mx_answers.proofs.Held.{nodes_append, nodes_grow, nodes_cases, named, entry_of}
use Rattle.mx_answers.proofs.Records.{record_means, asked_recorded}

-- the recorded asks of a held node are held
asks_within : (before : List Node) (es : List Entry) → AskBefore before es → (e : Entry) → Has es e → (x : Node) → Has e.asks x → Has before x ⊎ Has (nodes_of es) x
asks_within before [] a e h x k = absurd h
asks_within before (d ∷ es) a e h x k =
    elim h [
      | inl i ↦ inl (a.0 x (subst (λ (t : Entry). Has t.asks x) (sym i) k))
      | inr i ↦ elim (asks_within (d.node ∷ before) es a.1 e i x k) [ inl j ↦ elim j [ inl l ↦ inr (inl l) | inr l ↦ inl l ] | inr j ↦ inr (inr j) ]
    ]

pub asks_held : (held : List Entry) → AskBefore [] held → (e : Entry) → Has held e → (x : Node) → Has e.asks x → Has (nodes_of held) x
asks_held held order e h x k = elim (asks_within [] held order e h x k) [ inl z ↦ absurd z | inr i ↦ i ]

-- records that stand behind what they asked are right: each means its value, and what it asks is known
pub records_right : (model : Model) (held : List Entry) → ((e : Entry) → Has held e → IsRecordOf model e) → AskBefore [] held → ((n : Node) → Has (nodes_of held) n → is_input model n ≡ false) → Distinct (nodes_of held) → length held ≤ most_held → IsRight model held
records_right model held records order own once room =
    let closed : (n m : Node) → Has (nodes_of held) n → DoesAsk model n m → IsKnown model (nodes_of held) m = λ n m h a.
    let f = entry_of held n h in
    elim (asked_recorded model f.item (records f.item f.among) m (subst (λ x. DoesAsk model x m) (sym f.is) a)) [
      | inl i ↦ inr i
      | inr k ↦ inl (asks_held held order f.item f.among m k)
    ] in
    record { means = λ e h. record_means model e (records e h); own = own; once = once; closed = closed; room = room }

module _ (Out : Node → Type 0) where
  pub sift_only : (held kept : List Entry) → Sifts Out held kept → (e : Entry) → Has kept e → Has held e × (Out e.node → ⊥)
  sift_only held kept NoneLeft e h = absurd h
  sift_only held kept (Keeps d es ks n more) e h =
      elim h [
        | inl i ↦ (inl i, λ o. n (subst (λ (t : Entry). Out t.node) (sym i) o))
        | inr i ↦ let q = sift_only es ks more e i in (inr q.0, q.1)
      ]
  sift_only held kept (Drops d es ks o more) e h = let q = sift_only es kept more e h in (inr q.0, q.1)

  pub sift_whole : (held kept : List Entry) → Sifts Out held kept → (e : Entry) → Has held e → (Out e.node → ⊥) → Has kept e
  sift_whole held kept NoneLeft e h n = h
  sift_whole held kept (Keeps d es ks m more) e h n = elim h [ inl i ↦ inl i | inr i ↦ inr (sift_whole es ks more e i n) ]
  sift_whole held kept (Drops d es ks o more) e h n =
      elim h [ inl i ↦ absurd (n (subst (λ (t : Entry). Out t.node) i o)) | inr i ↦ sift_whole es kept more e i n ]

  pub sift_named : (held kept : List Entry) → Sifts Out held kept → (x : Node) → Has (nodes_of kept) x → Has (nodes_of held) x
  sift_named held kept s x h =
      let f = entry_of kept x h in
      subst (λ y. Has (nodes_of held) y) f.is (named held f.item (sift_only held kept s f.item f.among).0)

  pub sift_once : (held kept : List Entry) → Sifts Out held kept → Distinct (nodes_of held) → Distinct (nodes_of kept)
  sift_once held kept NoneLeft d = tt
  sift_once held kept (Keeps e es ks n more) d = (λ h. d.0 (sift_named es ks more e.node h), sift_once es ks more d.1)
  sift_once held kept (Drops e es ks n more) d = sift_once es kept more d.1

  sift_order : (held kept : List Entry) → Sifts Out held kept → (before past : List Node) → ((x : Node) → Has before x → (Out x → ⊥) → Has past x)
      → ((e : Entry) → Has held e → (x : Node) → Has e.asks x → Out x → Out e.node)
      → AskBefore before held → AskBefore past kept
  sift_order held kept NoneLeft before past p c a = tt
  sift_order held kept (Keeps e es ks n more) before past p c a = (
    λ x h. p x (a.0 x h) (λ o. n (c e (inl refl) x h o)),
    sift_order es ks more (e.node ∷ before) (e.node ∷ past) (λ x h m. elim h [ inl i ↦ inl i | inr i ↦ inr (p x i m) ]) (λ d h. c d (inr h)) a.1,
  )
  sift_order held kept (Drops e es ks o more) before past p c a =
      sift_order es kept more (e.node ∷ before) past
      (λ x h m. elim h [ inl i ↦ absurd (m (subst Out i o)) | inr i ↦ p x i m ]) (λ d h. c d (inr h)) a.1

  sift_few : (held kept : List Entry) → Sifts Out held kept → length kept ≤ length held
  sift_few held kept NoneLeft = omega arith
  sift_few held kept (Keeps e es ks n more) = let h : length ks ≤ length es = sift_few es ks more in omega arith
  sift_few held kept (Drops e es ks n more) = let h : length kept ≤ length es = sift_few es kept more in omega arith

-- what is left of a right memo without what is touched is a right memo of a model of which each that is left is a
-- record and no input
pub sift_memo : (model other : Model) (In : Entry → Type 0) (held kept : List Entry) → IsRightMemo model held → Sifts (IsTouched In held) held kept → ((e : Entry) → Has kept e → IsRecordOf other e) → ((e : Entry) → Has kept e → is_input other e.node ≡ false) → IsRightMemo other kept
sift_memo model other In held kept m s records own =
    let order : AskBefore [] kept = sift_order (IsTouched In held) held kept s [] [] (λ x h n. h) (λ e h x a t. ByAsk e h x a t) m.order in
    let once : Distinct (nodes_of kept) = sift_once (IsTouched In held) held kept s m.right.once in
    let i : length kept ≤ length held = sift_few (IsTouched In held) held kept s in
    let j : length held ≤ most_held = m.right.room in
    let room : length kept ≤ most_held = omega arith in
    let owns : (n : Node) → Has (nodes_of kept) n → is_input other n ≡ false = λ n h. let f = entry_of kept n h in subst (λ x. is_input other x ≡ false) f.is (own f.item f.among) in
    record { right = records_right other kept records order owns once room; records = records; order = order }

order_push : (before : List Node) (held : List Entry) (e : Entry) → AskBefore before held → ((x : Node) → Has e.asks x → Has before x ⊎ Has (nodes_of held) x) → AskBefore before (held ++ e ∷ [])
order_push before [] e a k = (λ x h. elim (k x h) [ inl i ↦ i | inr i ↦ absurd i ], tt)
order_push before (d ∷ held) e a k =
    (a.0, order_push (d.node ∷ before) held e a.1 (λ x h. elim (k x h) [ inl i ↦ inl (inr i) | inr i ↦ elim i [ inl l ↦ inl (inl l) | inr j ↦ inr j ] ]))

pub holding : Holding
holding model held e m r new own asks few =
    let order : AskBefore [] (held ++ e ∷ []) = order_push [] held e m.order (λ x h. inr (asks x h)) in
    let once : Distinct (nodes_of (held ++ e ∷ [])) = subst (λ ns. Distinct ns) (sym (nodes_append held (e ∷ []))) (distinct_push (nodes_of held) e.node m.right.once new) in
    let records : (d : Entry) → Has (held ++ e ∷ []) d → IsRecordOf model d = λ d h. elim (has_push_cases held e d h) [ inl i ↦ m.records d i | inr i ↦ subst (λ (t : Entry). IsRecordOf model t) i r ] in
    let owns : (n : Node) → Has (nodes_of (held ++ e ∷ [])) n → is_input model n ≡ false = λ n h.
    elim (nodes_cases held (e ∷ []) (held ++ e ∷ []) n refl h) [ inl i ↦ m.right.own n i | inr i ↦ elim i [ inl l ↦ subst (λ x. is_input model x ≡ false) l own | inr z ↦ absurd z ] ] in
    let room : length (held ++ e ∷ []) ≤ most_held = omega (arith, length-append held (e ∷ []), few) in
    record { right = records_right model (held ++ e ∷ []) records order owns once room; records = records; order = order }

order_front : (before : List Node) (held more : List Entry) → AskBefore before (held ++ more) → AskBefore before held
order_front before [] more a = tt
order_front before (e ∷ held) more a = (a.0, order_front (e.node ∷ before) held more a.1)

pub rolling_back : RollingBack
rolling_back model held more m =
    let order : AskBefore [] held = order_front [] held more m.order in
    let once : Distinct (nodes_of held) = distinct_front (nodes_of held) (nodes_of more) (subst (λ ns. Distinct ns) (nodes_append held more) m.right.once) in
    let records : (e : Entry) → Has held e → IsRecordOf model e = λ e h. m.records e (has_left held more e h) in
    let owns : (n : Node) → Has (nodes_of held) n → is_input model n ≡ false = λ n h. m.right.own n (nodes_grow held more (held ++ more) n refl h) in
    let i : length (held ++ more) ≤ most_held = m.right.room in
    let room : length held ≤ most_held = omega (arith, length-append held more, i) in
    record { right = records_right model held records order owns once room; records = records; order = order }

-- fewer distinct nodes that are all held have room
pub fewer_room : (held kept : List Entry) → Distinct (nodes_of kept) → ((x : Node) → Has (nodes_of kept) x → Has (nodes_of held) x) → length held ≤ most_held → length kept ≤ most_held
fewer_room held kept once h room =
    let i : length (nodes_of kept) ≤ length (nodes_of held) = no_more (nodes_of kept) (nodes_of held) once h in
    let j : length (nodes_of kept) ≡ length kept = length-map kept (λ e. e.node) in
    let k : length (nodes_of held) ≡ length held = length-map held (λ e. e.node) in
    omega arith
