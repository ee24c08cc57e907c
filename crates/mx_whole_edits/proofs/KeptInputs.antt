-- Inputs that are kept, one after the other.
use Rattle.std.proofs.Common.{◌≡◌, ℕ, zero, suc, ◌+◌, ◌≤◌, Bool, true, false, ◌&&◌, cond, List, [], ◌∷◌, ◌++◌, length, take, Some, None, slice_get, inl, inr, refl, sym, ◌∙◌, ap, subst, arith}
use Rattle.std.specs.Prelude.{if◌then◌else◌}
use Rattle.std.specs.List.{IsDistinct, AllByRecursion, filter, list_all}
use Rattle.std.specs.Map.{keys_of}
use Rattle.std.proofs.lemmas.List.Elements.{filter_more}
use Rattle.std.proofs.lemmas.List.{take_all, append-nil}
use Rattle.std.proofs.lemmas.Option.{same_Some, slice_get_within, get_or_from_slice_get}
use Rattle.mx_members.specs.Words.{define}
use Rattle.mx_value.specs.declared.value.Value.{Value}
use Rattle.mx_value.specs.declared.node.Node.{Node}
use Rattle.mx_value.proofs.NodeSames.{node_decides}
use Rattle.mx_c3.specs.Lists.{Has}
use Rattle.mx_model.specs.Records.{ModelRecord}
use Rattle.mx_model.specs.Keys.{node_eq}
use Rattle.mx_model.specs.Inputs.{fits, without_unfit}

abbrev Input : Type 0
Input = Node × Value

other_by : (a b : Node) (t : Bool) → node_eq b a ≡ t → node_eq a b ≡ false → node_eq b a ≡ false
other_by a b true e n = absurd (let f : true ≡ false = sym ((node_decides a b).1 (sym ((node_decides b a).0 e))) ∙ n in cc)
other_by a b false e n = e

fresh_by : (es : List Input) (first : Node) (i : ℕ) (m : Input) → AllByRecursion (λ y. node_eq first y ≡ false) (keys_of es) → slice_get es i ≡ Some m → node_eq first m.0 ≡ false
fresh_by [] first i m a at = absurd (let f : None ≡ Some m = at in cc)
fresh_by (e ∷ es) first zero m a at = subst (λ (z : Input). node_eq first z.0 ≡ false) (same_Some e m at) a.0
fresh_by (e ∷ es) first (suc i) m a at = fresh_by es first i m a.1 at

-- no input before a place has the node of that place
fresh_at : (es : List Input) (i : ℕ) (m other : Input) → IsDistinct node_eq (keys_of es) → slice_get es i ≡ Some m → Has (take i es) other → node_eq m.0 other.0 ≡ false
unfolding IsDistinct
fresh_at [] i m other d at h = absurd (let f : None ≡ Some m = at in cc)
fresh_at (e ∷ es) zero m other d at h = absurd h
fresh_at (e ∷ es) (suc i) m other d at h =
    elim h [
      | inl is ↦ subst (λ (z : Input). node_eq m.0 z.0 ≡ false) is (other_by e.0 m.0 (node_eq m.0 e.0) refl (fresh_by es e.0 i m d.0 at))
      | inr r ↦ fresh_at es i m other d.1 at r
    ]

insert_new : (es : List Input) (k : Node) (v : Value) → ((other : Input) → Has es other → node_eq k other.0 ≡ false) → define node_eq es k v ≡ es ++ (k, v) ∷ []
insert_new [] k v fresh = refl
insert_new (e ∷ es) k v fresh =
    ap (λ (b : Bool). if b then (e.0, v) ∷ es else e ∷ define node_eq es k v) (fresh e (inl refl)) ∙
    ap (λ (r : List Input). e ∷ r) (insert_new es k v (λ other h. fresh other (inr h)))

filtered_by : (b : Bool) (e m : Input) (rest es : List Input) → (Has rest m → Has es m) → Has (cond b (e ∷ rest) rest) m → Has (e ∷ es) m
filtered_by true e m rest es f h = elim h [ inl i ↦ inl i | inr r ↦ inr (f r) ]
filtered_by false e m rest es f h = inr (f h)

filtered_has : (p : Input → Bool) (es : List Input) (m : Input) → Has (filter p es) m → Has es m
filtered_has p [] m h = h
filtered_has p (e ∷ es) m h = filtered_by (p e) e m (filter p es) es (filtered_has p es m) h

-- one input more that passes
pub keep_more : (p : Input → Bool) (es kept : List Input) (i : ℕ) (k : Node) (v : Value) (after : List Input) → IsDistinct node_eq (keys_of es) → kept ≡ filter p (take i es) → slice_get es i ≡ Some (k, v) → p (k, v) ≡ true → after ≡ define node_eq kept k v → after ≡ filter p (take (i + 1) es)
keep_more p es kept i k v after d e at passes is =
    let one = get_or_from_slice_get es i (k, v) (k, v) at in
    let more = filter_more p es i (k, v) (slice_get_within es i (k, v) at) in
    let last = ap (λ (m : Input). cond (p m) (m ∷ []) []) one ∙ ap (λ (b : Bool). cond b ((k, v) ∷ []) []) passes in
    is ∙ ap (λ (c : List Input). define node_eq c k v) e ∙
    insert_new (filter p (take i es)) k v (λ other h. fresh_at es i (k, v) other d at (filtered_has p (take i es) other h)) ∙
    sym (more ∙ ap (λ (r : List Input). filter p (take i es) ++ r) last)

-- one that does not pass
pub keep_none : (p : Input → Bool) (es kept : List Input) (i : ℕ) (m : Input) → kept ≡ filter p (take i es) → slice_get es i ≡ Some m → p m ≡ false → kept ≡ filter p (take (i + 1) es)
keep_none p es kept i m e at fails =
    let one = get_or_from_slice_get es i m m at in
    let more = filter_more p es i m (slice_get_within es i m at) in
    let last = ap (λ (m : Input). cond (p m) (m ∷ []) []) one ∙ ap (λ (b : Bool). cond b (m ∷ []) []) fails in
    e ∙ sym (more ∙ ap (λ (r : List Input). filter p (take i es) ++ r) last ∙ append-nil (filter p (take i es)))

filter_by : (p : Input → Bool) (e : Input) (es : List Input) (b : Bool) → p e ≡ b → (b && list_all p es) ≡ true → (list_all p es ≡ true → filter p es ≡ es) → filter p (e ∷ es) ≡ e ∷ es
filter_by p e es true q all rest = ap (λ (b : Bool). cond b (e ∷ filter p es) (filter p es)) q ∙ ap (λ (r : List Input). e ∷ r) (rest all)
filter_by p e es false q all rest = absurd (let f : false ≡ true = all in cc)

-- where all pass, all are kept
pub filter_all : (p : Input → Bool) (es : List Input) → list_all p es ≡ true → filter p es ≡ es
filter_all p [] all = refl
filter_all p (e ∷ es) all = filter_by p e es (p e) refl all (filter_all p es)

-- one input more, where it passes
pub keep_one : (p : Input → Bool) (es kept : List Input) (i : ℕ) (k : Node) (v : Value) (b : Bool) (after : List Input) → IsDistinct node_eq (keys_of es) → kept ≡ filter p (take i es) → slice_get es i ≡ Some (k, v) → b ≡ p (k, v) → after ≡ (if b then define node_eq kept k v else kept) → after ≡ filter p (take (i + 1) es)
keep_one p es kept i k v true after d e at passes is = keep_more p es kept i k v after d e at (sym passes) is
keep_one p es kept i k v false after d e at passes is = is ∙ keep_none p es kept i (k, v) e at (sym passes)

pub kept_all : (p : Input → Bool) (es kept : List Input) (i : ℕ) → length es ≤ i → kept ≡ filter p (take i es) → kept ≡ filter p es
kept_all p es kept i l e = e ∙ ap (filter p) (take_all i es l)

-- all up to the next place pass where those before it do and this one does
pub all_more : (p : Input → Bool) (es : List Input) (i : ℕ) (m : Input) → list_all p (take i es) ≡ true → slice_get es i ≡ Some m → p m ≡ true → list_all p (take (i + 1) es) ≡ true
all_more p [] i m e at passes = absurd (let f : None ≡ Some m = at in cc)
all_more p (x ∷ es) zero m e at passes = ap (λ (b : Bool). b && true) (ap p (same_Some x m at) ∙ passes)
all_more p (x ∷ es) (suc i) m e at passes = let next : suc i + 1 ≡ suc (i + 1) = omega arith in
    ap (λ (n : ℕ). list_all p (take n (x ∷ es))) next ∙ all_by (p x) (list_all p (take i es)) (list_all p (take (i + 1) es)) e (λ r. all_more p es i m r at passes)
  where
    all_by : (b rest more : Bool) → (b && rest) ≡ true → (rest ≡ true → more ≡ true) → (b && more) ≡ true
    all_by true rest more e f = f e
    all_by false rest more e f = absurd (let g : false ≡ true = e in cc)

one_fails : (p : Input → Bool) (es : List Input) (i : ℕ) (m : Input) → slice_get es i ≡ Some m → p m ≡ false → list_all p es ≡ false
one_fails p [] i m at fails = absurd (let f : None ≡ Some m = at in cc)
one_fails p (x ∷ es) zero m at fails = ap (λ (b : Bool). b && list_all p es) (ap p (same_Some x m at) ∙ fails)
one_fails p (x ∷ es) (suc i) m at fails = none_by (p x) (list_all p es) (one_fails p es i m at fails)
  where
    none_by : (b rest : Bool) → rest ≡ false → (b && rest) ≡ false
    none_by true rest e = e
    none_by false rest e = refl

pub fails_so : (p : Input → Bool) (es : List Input) (i : ℕ) (k : Node) (v : Value) (b : Bool) → slice_get es i ≡ Some (k, v) → b ≡ p (k, v) → b ≡ false → false ≡ list_all p es
fails_so p es i k v b at is e = sym (one_fails p es i (k, v) at (sym is ∙ e))

pub all_so : (p : Input → Bool) (es : List Input) (i : ℕ) → length es ≤ i → list_all p (take i es) ≡ true → true ≡ list_all p es
all_so p es i l e = sym e ∙ ap (list_all p) (take_all i es l)

-- ---- texts

abbrev fit_of : ModelRecord → Input → Bool
fit_of text input = fits text input.0

-- where all inputs fit, the text stays
pub text_stays : (text test : ModelRecord) (es : List Input) → test ≡ text → es ≡ text.inputs → list_all (fit_of test) es ≡ true → text ≡ without_unfit text
text_stays text test es same is all =
    let told : list_all (fit_of text) text.inputs ≡ true = ap (λ (t : ModelRecord). list_all (fit_of t) text.inputs) (sym same) ∙ ap (list_all (fit_of test)) (sym is) ∙ all in
    ap (λ (inputs : List Input). record text { inputs = inputs }) (sym (filter_all (fit_of text) text.inputs told))

-- with those that fit it is without the others
pub text_kept : (text test : ModelRecord) (es kept : List Input) → test ≡ text → es ≡ text.inputs → kept ≡ filter (fit_of test) es → record text { inputs = kept } ≡ without_unfit text
text_kept text test es kept same is e =
    ap (λ (inputs : List Input). record text { inputs = inputs }) (e ∙ ap (filter (fit_of test)) is ∙ ap (λ (t : ModelRecord). filter (fit_of t) text.inputs) same)
