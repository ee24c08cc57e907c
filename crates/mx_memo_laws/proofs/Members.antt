-- What is among lists, and among the sources of a run.
use Rattle.std.proofs.Common.{◌≡◌, ◌∙◌, ℕ, Bool, true, false, cond, List, [], ◌∷◌, ◌++◌, map, refl, sym, ap, inl, inr}
use Rattle.mx_graph.specs.declared.ids.NodeId.{NodeId}
use Rattle.mx_value.specs.declared.node.Node.{Node}
use Rattle.mx_edit.specs.declared.key.Key.{Key}
use Rattle.mx_edit.specs.declared.key.Key.TheVariants.{Input}
use Rattle.mx_vertices.specs.Inputs.{is_static}
use Rattle.mx_vertices.specs.Held.{asked_id}
use Rattle.mx_vertices.specs.Kept.{Source, looked, asked, own_key}
use Rattle.mx_vertices.specs.Reading.{keys_in, asks_in, id_at}
use Rattle.mx_vertices.specs.Places as places
use Rattle.mx_runs.specs.Lists.{Has, Distinct}
use Rattle.mx_memo_laws.specs.Entries.{own_keys}

-- what is among a list for the vertices is among it for the runs, and back
pub among : {X : Type 0} (xs : List X) (x : X) → places.Has xs x → Has xs x
among [] x h = absurd h
among (y ∷ xs) x h = elim h [ inl e ↦ inl e | inr i ↦ inr (among xs x i) ]

pub placed : {X : Type 0} (xs : List X) (x : X) → Has xs x → places.Has xs x
placed [] x h = absurd h
placed (y ∷ xs) x h = elim h [ inl e ↦ inl e | inr i ↦ inr (placed xs x i) ]

-- maps that agree on a list are one there
pub map_same : {X Y : Type 0} (f g : X → Y) (xs : List X) → ((x : X) → Has xs x → f x ≡ g x) → map f xs ≡ map g xs
map_same f g [] h = refl
map_same f g (x ∷ xs) h =
    ap (λ y. y ∷ map f xs) (h x (inl refl)) ∙ ap (λ ys. g x ∷ ys) (map_same f g xs (λ z i. h z (inr i)))

-- where no two are mapped to one, what is mapped to one is one
pub one_mapped : {X Y : Type 0} (f : X → Y) (xs : List X) → Distinct (map f xs) → (x y : X) → Has xs x → Has xs y → f x ≡ f y → x ≡ y
one_mapped f [] d x y h k e = absurd h
one_mapped f (z ∷ xs) d x y h k e =
    elim h [
      | inl i ↦ elim k [
        | inl j ↦ sym i ∙ j
        | inr j ↦ absurd (d.0 (has_as f xs (f z) y j (ap f i ∙ e)))
      ]
      | inr i ↦ elim k [
        | inl j ↦ absurd (d.0 (has_as f xs (f z) x i (ap f j ∙ sym e)))
        | inr j ↦ one_mapped f xs d.1 x y i j e
      ]
    ]
  where
    has_as : {X Y : Type 0} (f : X → Y) (xs : List X) (v : Y) (x : X) → Has xs x → v ≡ f x → Has (map f xs) v
    has_as f [] v x h e = absurd h
    has_as f (z ∷ xs) v x h e = elim h [ inl i ↦ inl (ap f i ∙ sym e) | inr i ↦ inr (has_as f xs v x i e) ]

-- the asks and the keys among the sources of a run
pub ask_in : (rs : List Source) (m : ℕ) → places.Has rs (asked m) → Has (asks_in rs) m
ask_in [] m h = absurd h
ask_in (looked k ∷ rs) m h = elim h [ inl e ↦ cc | inr i ↦ ask_in rs m i ]
ask_in (asked j ∷ rs) m h = elim h [ inl e ↦ let s : j ≡ m = cc in inl s | inr i ↦ inr (ask_in rs m i) ]

pub ask_out : (rs : List Source) (m : ℕ) → Has (asks_in rs) m → places.Has rs (asked m)
ask_out [] m h = absurd h
ask_out (looked k ∷ rs) m h = inr (ask_out rs m h)
ask_out (asked j ∷ rs) m h = elim h [ inl e ↦ inl (ap asked e) | inr i ↦ inr (ask_out rs m i) ]

pub key_in : (rs : List Source) (k : Key) → places.Has rs (looked k) → Has (keys_in rs) k
key_in [] k h = absurd h
key_in (looked j ∷ rs) k h = elim h [ inl e ↦ let s : j ≡ k = cc in inl s | inr i ↦ inr (key_in rs k i) ]
key_in (asked j ∷ rs) k h = elim h [ inl e ↦ cc | inr i ↦ key_in rs k i ]

pub key_out : (rs : List Source) (k : Key) → Has (keys_in rs) k → places.Has rs (looked k)
key_out [] k h = absurd h
key_out (looked j ∷ rs) k h = elim h [ inl e ↦ inl (ap looked e) | inr i ↦ inr (key_out rs k i) ]
key_out (asked j ∷ rs) k h = inr (key_out rs k h)

-- the sources of a node that is held with these keys and asks
keys_of_asks : (ids : List NodeId) → keys_in (map asked_id ids) ≡ []
keys_of_asks [] = refl
keys_of_asks (id ∷ ids) = keys_of_asks ids

keys_behind : (keys : List Key) (ids : List NodeId) → keys_in (map looked keys ++ map asked_id ids) ≡ keys
keys_behind [] ids = keys_of_asks ids
keys_behind (k ∷ keys) ids = ap (λ ks. k ∷ ks) (keys_behind keys ids)

ids_of_asks : (ids : List NodeId) → asks_in (map asked_id ids) ≡ map id_at ids
ids_of_asks [] = refl
ids_of_asks (id ∷ ids) = ap (λ xs. id.at ∷ xs) (ids_of_asks ids)

asks_behind : (keys : List Key) (ids : List NodeId) → asks_in (map looked keys ++ map asked_id ids) ≡ map id_at ids
asks_behind [] ids = ids_of_asks ids
asks_behind (k ∷ keys) ids = asks_behind keys ids

pub keys_held : (n : Node) (keys : List Key) (ids : List NodeId) → keys_in (own_key n ++ (map looked keys ++ map asked_id ids)) ≡ own_keys n ++ keys
unfolding own_key
keys_held n keys ids = by (is_static n)
  where
    by : (b : Bool) → keys_in (cond b (looked (Input n) ∷ []) [] ++ (map looked keys ++ map asked_id ids)) ≡ cond b (Input n ∷ []) [] ++ keys
    by true = ap (λ ks. Input n ∷ ks) (keys_behind keys ids)
    by false = keys_behind keys ids

pub asks_held : (n : Node) (keys : List Key) (ids : List NodeId) → asks_in (own_key n ++ (map looked keys ++ map asked_id ids)) ≡ map id_at ids
unfolding own_key
asks_held n keys ids = by (is_static n)
  where
    by : (b : Bool) → asks_in (cond b (looked (Input n) ∷ []) [] ++ (map looked keys ++ map asked_id ids)) ≡ map id_at ids
    by true = asks_behind keys ids
    by false = asks_behind keys ids
