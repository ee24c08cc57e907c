-- The orders of spaces, from a table of orders.
use Rattle.std.proofs.Common.{◌≡◌, ℕ, ◌+◌, ◌<◌, List, [], ◌∷◌, ◌++◌, length, take, drop, get_or, Option, Some, None, Result, Ok, Err, inl, inr, refl, sym, ◌∙◌, ap}
use Rattle.std.proofs.lemmas.List.{take_more, take-append-drop}
use Rattle.std.proofs.lemmas.Option.{same_Some}
use Rattle.mx_c3.specs.declared.space.SpaceId.{SpaceId}
use Rattle.mx_c3.specs.InOrder.{AllBelow}
use Rattle.mx_c3.specs.Known.{known, known_in}
use Rattle.mx_c3.specs.Linearisation.{c3, each, before_all}
use Rattle.mx_c3.proofs.ListLemmas.{drop_more}
use Rattle.mx_paths.specs.Orders.{Orders, AreOrders, told, before_both, all_known}

push_by : (first last : Option (List SpaceId)) (rest : Option (List (List SpaceId))) (orders : List (List SpaceId)) (order : List SpaceId) (more : Option (List (List SpaceId))) → before_both first rest ≡ Some orders → ((os : List (List SpaceId)) → rest ≡ Some os → more ≡ Some (os ++ order ∷ [])) → before_both first more ≡ Some (orders ++ order ∷ [])
push_by None last None orders order more e f = absurd (let g : None ≡ Some orders = e in cc)
push_by None last (Some os) orders order more e f = absurd (let g : None ≡ Some orders = e in cc)
push_by (Some o) last None orders order more e f = absurd (let g : None ≡ Some orders = e in cc)
push_by (Some o) last (Some os) orders order more e f =
    let same : o ∷ os ≡ orders = same_Some (o ∷ os) orders e in
    ap (before_both (Some o)) (f os refl) ∙ ap (λ (xs : List (List SpaceId)). Some (xs ++ order ∷ [])) same

known_push : (table : Orders) (xs : List SpaceId) (x : SpaceId) (orders : List (List SpaceId)) (order : List SpaceId) → all_known table xs ≡ Some orders → known table x ≡ Some order → all_known table (xs ++ x ∷ []) ≡ Some (orders ++ order ∷ [])
known_push table [] x orders order e k =
    let n : [] ≡ orders = same_Some [] orders e in
    ap (λ (o : Option (List SpaceId)). before_both o (Some [])) k ∙ ap (λ (xs : List (List SpaceId)). Some (xs ++ order ∷ [])) n
known_push table (y ∷ xs) x orders order e k =
    push_by (known table y) (known table x) (all_known table xs) orders order (all_known table (xs ++ x ∷ [])) e (λ os f. known_push table xs x os order f k)

-- one order more
pub known_more : (table : Orders) (xs : List SpaceId) (i : ℕ) (d : SpaceId) (orders : List (List SpaceId)) (order : List SpaceId) → i < length xs → all_known table (take i xs) ≡ Some orders → known table (get_or xs i d) ≡ Some order → all_known table (take (i + 1) xs) ≡ Some (orders ++ order ∷ [])
known_more table xs i d orders order h e k = ap (all_known table) (take_more xs i d h) ∙ known_push table (take i xs) (get_or xs i d) orders order e k

stop_by : (first : Option (List SpaceId)) (rest : Option (List (List SpaceId))) → rest ≡ None → before_both first rest ≡ None
stop_by None rest e = refl
stop_by (Some o) rest e = ap (before_both (Some o)) e

none_by : (rest : Option (List (List SpaceId))) → before_both None rest ≡ None
none_by None = refl
none_by (Some os) = refl

known_stop : (table : Orders) (xs : List SpaceId) (x : SpaceId) (ys : List SpaceId) → known table x ≡ None → all_known table (xs ++ x ∷ ys) ≡ None
known_stop table [] x ys k = ap (λ (o : Option (List SpaceId)). before_both o (all_known table ys)) k ∙ none_by (all_known table ys)
known_stop table (y ∷ xs) x ys k = stop_by (known table y) (all_known table (xs ++ x ∷ ys)) (known_stop table xs x ys k)

-- one without an order
pub known_none : (table : Orders) (xs : List SpaceId) (i : ℕ) (d : SpaceId) → i < length xs → known table (get_or xs i d) ≡ None → all_known table xs ≡ None
known_none table xs i d h k =
    let parts : take i xs ++ get_or xs i d ∷ drop (i + 1) xs ≡ xs = ap (λ (ys : List SpaceId). take i xs ++ ys) (sym (drop_more xs i d h)) ∙ take-append-drop i xs in
    ap (all_known table) (sym parts) ∙ known_stop table (take i xs) (get_or xs i d) (drop (i + 1) xs) k

both_told : (r : Result (List SpaceId) (List SpaceId)) (rest : Result (List (List SpaceId)) (List SpaceId)) → before_both (told r) (told rest) ≡ told (before_all r rest)
both_told (Ok o) (Ok os) = refl
both_told (Ok o) (Err b) = refl
both_told (Err b) (Ok os) = refl
both_told (Err b) (Err c) = refl

-- a table of orders has what the linearisations say
pub known_is : (lists : List (List SpaceId)) (table : Orders) (count : ℕ) (s : SpaceId) → AreOrders lists table count → s.0 < count → known table s ≡ told (c3 lists s)
known_is lists table count s are h = ap known_in (are.each s h)

pub all_told : (lists : List (List SpaceId)) (table : Orders) (count : ℕ) (spaces : List SpaceId) → AreOrders lists table count → AllBelow count spaces → all_known table spaces ≡ told (each (c3 lists) spaces)
all_told lists table count [] are below = refl
all_told lists table count (s ∷ spaces) are below =
    ap (λ (o : Option (List SpaceId)). before_both o (all_known table spaces)) (known_is lists table count s are (below s (inl refl))) ∙
    ap (before_both (told (c3 lists s))) (all_told lists table count spaces are (λ x h. below x (inr h))) ∙ both_told (c3 lists s) (each (c3 lists) spaces)
