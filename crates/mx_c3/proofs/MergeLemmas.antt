-- Laws of the merge.
use Rattle.std.proofs.Common.{◌≡◌, ℕ, zero, suc, ◌+◌, ◌<◌, ◌≤◌, Bool, true, false, cond, ◌||◌, Option, Some, None, Result, Ok, Err, List, [], ◌∷◌, ◌++◌, length, take, drop, get_or, slice_set, inl, inr, refl, sym, ◌∙◌, ap, subst, arith, add-one}
use Rattle.std.proofs.lemmas.List.{take_more, append-nil}
use Rattle.mx_c3.specs.declared.space.SpaceId.{SpaceId}
use Rattle.mx_c3.specs.Lists.{Has}
use Rattle.mx_c3.specs.Merge.{same, tail, head, heads, stands, in_tail, first_free, next, without, without_all, each_once, put, put_all, stop, merging, size, merge}
use Rattle.mx_c3.specs.Taking.{drop_head, drop_heads}
use Rattle.mx_c3.proofs.ListLemmas.{Same, Other, compared, is_same, drop_more}

data Free (lists : List (List SpaceId)) (xs : List SpaceId) (x : SpaceId) : Type 0 where
  IsFree : Has xs x → in_tail lists x ≡ false → Free lists xs x

free_by : (lists : List (List SpaceId)) (x y : SpaceId) (xs : List SpaceId) (b : Bool) → in_tail lists y ≡ b → (first_free lists xs ≡ Some x → Free lists xs x) → cond b (first_free lists xs) (Some y) ≡ Some x → Free lists (y ∷ xs) x
free_by lists x y xs true t f e = elim (f e) [ IsFree h i ↦ IsFree (inr h) i ]
free_by lists x y xs false t f e = let i : y ≡ x = cc in IsFree (inl i) (subst (λ z. in_tail lists z ≡ false) i t)

free : (lists : List (List SpaceId)) (x : SpaceId) (xs : List SpaceId) → first_free lists xs ≡ Some x → Free lists xs x
free lists x [] e = absurd (let i : None ≡ Some x = e in cc)
free lists x (y ∷ xs) e = free_by lists x y xs (in_tail lists y) refl (free lists x xs) e

pub next_free : (lists : List (List SpaceId)) (x : SpaceId) → next lists ≡ Some x → in_tail lists x ≡ false
next_free lists x e = elim (free lists x (heads lists) e) [ IsFree h i ↦ i ]

pub next_head_is : (lists : List (List SpaceId)) (x : SpaceId) → next lists ≡ Some x → Has (heads lists) x
next_head_is lists x e = elim (free lists x (heads lists) e) [ IsFree h i ↦ h ]

without_fewer : (x : SpaceId) (xs : List SpaceId) → length (without x xs) ≤ length xs
without_fewer x [] = omega arith
without_fewer x (y ∷ ys) =
    elim (compared y x) [
      | Same s e ↦ rw s (omega (arith, without_fewer x ys))
      | Other s e ↦ rw s (omega (arith, without_fewer x ys))
    ]

size_fewer : (x : SpaceId) (lists : List (List SpaceId)) → size (without_all x lists) ≤ size lists
size_fewer x [] = omega arith
size_fewer x (xs ∷ lists) = omega (arith, without_fewer x xs, size_fewer x lists)

size_head : (x : SpaceId) (lists : List (List SpaceId)) → Has (heads lists) x → size (without_all x lists) < size lists
size_head x [] h = absurd h
size_head x ([] ∷ lists) h = omega (arith, size_head x lists h)
size_head x ((y ∷ ys) ∷ lists) h =
    elim h [
      | inl e ↦
          let w : without x (y ∷ ys) ≡ without x ys = rw (is_same y x e) refl in
          omega (arith, ap length w, without_fewer x ys, size_fewer x lists)
      | inr r ↦ omega (arith, without_fewer x (y ∷ ys), size_head x lists r)
    ]

pub size_less : (lists : List (List SpaceId)) (x : SpaceId) → next lists ≡ Some x → size (without_all x lists) < size lists
size_less lists x e = size_head x lists (next_head_is lists x e)

pub merging_none : (k : ℕ) (lists : List (List SpaceId)) → next lists ≡ None → merging k lists ≡ stop (heads lists)
merging_none zero lists e = refl
merging_none (suc k) lists e =
    let f : Option SpaceId → Result (List SpaceId) (List SpaceId) = λ o. elim o [ Some x ↦ put x (merging k (without_all x lists)) | None ↦ stop (heads lists) ] in
    ap f e

pub merging_some : (k : ℕ) (lists : List (List SpaceId)) (x : SpaceId) → next lists ≡ Some x → merging (suc k) lists ≡ put x (merging k (without_all x lists))
merging_some k lists x e =
    let f : Option SpaceId → Result (List SpaceId) (List SpaceId) = λ o. elim o [ Some y ↦ put y (merging k (without_all y lists)) | None ↦ stop (heads lists) ] in
    ap f e

-- any number of steps that is enough gives the same
enough_by : (j k : ℕ) (lists : List (List SpaceId)) → ((rest : List (List SpaceId)) → size rest ≤ j → size rest ≤ k → merging j rest ≡ merging k rest) → (o : Option SpaceId) → next lists ≡ o → size lists ≤ suc j → size lists ≤ suc k → merging (suc j) lists ≡ merging (suc k) lists
enough_by j k lists f None e g h = merging_none (suc j) lists e ∙ sym (merging_none (suc k) lists e)
enough_by j k lists f (Some x) e g h =
    let l : size (without_all x lists) < size lists = size_less lists x e in
    merging_some j lists x e ∙ ap (put x) (f (without_all x lists) (omega arith) (omega arith)) ∙ sym (merging_some k lists x e)

pub none_left : (lists : List (List SpaceId)) (o : Option SpaceId) → next lists ≡ o → size lists ≤ 0 → next lists ≡ None
none_left lists None e h = e
none_left lists (Some x) e h = absurd (let l : size (without_all x lists) < size lists = size_less lists x e in omega arith)

enough : (j k : ℕ) (lists : List (List SpaceId)) → size lists ≤ j → size lists ≤ k → merging j lists ≡ merging k lists
enough zero k lists g h = sym (merging_none k lists (none_left lists (next lists) refl g))
enough (suc j) zero lists g h = merging_none (suc j) lists (none_left lists (next lists) refl h)
enough (suc j) (suc k) lists g h = enough_by j k lists (enough j k) (next lists) refl g h

pub merge_none : (lists : List (List SpaceId)) → next lists ≡ None → merge lists ≡ stop (heads lists)
unfolding merge
merge_none lists e = merging_none (size lists) lists e

some_at : (n : ℕ) (lists : List (List SpaceId)) (x : SpaceId) → next lists ≡ Some x → size lists ≤ n → size (without_all x lists) < n → merging n lists ≡ put x (merging (size (without_all x lists)) (without_all x lists))
some_at zero lists x e h l = absurd (omega arith)
some_at (suc n) lists x e h l = merging_some n lists x e ∙ ap (put x) (enough n (size (without_all x lists)) (without_all x lists) (omega arith) (omega arith))

pub merge_some : (lists : List (List SpaceId)) (x : SpaceId) → next lists ≡ Some x → merge lists ≡ put x (merge (without_all x lists))
unfolding merge
merge_some lists x e = some_at (size lists) lists x e (omega arith) (size_less lists x e)

pub put_all_push : (xs : List SpaceId) (x : SpaceId) (merged : Result (List SpaceId) (List SpaceId)) → put_all (xs ++ x ∷ []) merged ≡ put_all xs (put x merged)
put_all_push [] x merged = refl
put_all_push (y ∷ ys) x merged = ap (put y) (put_all_push ys x merged)

pub put_all_ok : (xs ys : List SpaceId) → put_all xs (Ok ys) ≡ Ok (xs ++ ys)
put_all_ok [] ys = refl
put_all_ok (x ∷ xs) ys = ap (put x) (put_all_ok xs ys)

pub put_all_err : (xs ys : List SpaceId) → put_all xs (Err ys) ≡ Err ys
put_all_err [] ys = refl
put_all_err (x ∷ xs) ys = ap (put x) (put_all_err xs ys)

-- a step of taking a head from each list
pub taken_more : (x : SpaceId) (lists : List (List SpaceId)) (i : ℕ) (d : List SpaceId) → i < length lists → slice_set (drop_heads x (take i lists) ++ drop i lists) i (drop_head x (get_or (drop_heads x (take i lists) ++ drop i lists) i d)) ≡ drop_heads x (take (suc i) lists) ++ drop (suc i) lists
taken_more x [] i d h = absurd (omega arith)
taken_more x (xs ∷ lists) zero d h = refl
taken_more x (xs ∷ lists) (suc i) d h = ap (λ zs. drop_head x xs ∷ zs) (taken_more x lists i d (omega arith))

pub without_none : (x : SpaceId) (xs : List SpaceId) → stands xs x ≡ false → without x xs ≡ xs
without_none x [] e = refl
without_none x (y ∷ ys) e =
    elim (compared y x) [
      | Same s i ↦ absurd (let t = rw s at e in cc)
      | Other s i ↦ rw s (ap (λ zs. y ∷ zs) (without_none x ys (let t : stands ys x ≡ false = rw s at e in t)))
    ]

drop_head_is : (x : SpaceId) (xs : List SpaceId) → stands (tail xs) x ≡ false → drop_head x xs ≡ without x xs
drop_head_is x [] e = refl
drop_head_is x (y ∷ ys) e =
    elim (compared y x) [
      | Same s i ↦ rw s (sym (without_none x ys e))
      | Other s i ↦ rw s (ap (λ zs. y ∷ zs) (sym (without_none x ys e)))
    ]

pub or_left : (a b : Bool) → (a || b) ≡ false → a ≡ false
or_left true b e = e
or_left false b e = refl

pub or_right : (a b : Bool) → (a || b) ≡ false → b ≡ false
or_right true b e = absurd (let t : true ≡ false = e in cc)
or_right false b e = e

pub drop_heads_is : (x : SpaceId) (lists : List (List SpaceId)) → in_tail lists x ≡ false → drop_heads x lists ≡ without_all x lists
drop_heads_is x [] e = refl
drop_heads_is x (xs ∷ lists) e =
    let a : drop_head x xs ≡ without x xs = drop_head_is x xs (or_left (stands (tail xs) x) (in_tail lists x) e) in
    let b : drop_heads x lists ≡ without_all x lists = drop_heads_is x lists (or_right (stands (tail xs) x) (in_tail lists x) e) in
    cc

heads_some : (xs : List SpaceId) (lists : List (List SpaceId)) (x : SpaceId) → head xs ≡ Some x → heads (xs ∷ lists) ≡ x ∷ heads lists
heads_some [] lists x e = absurd (let i : None ≡ Some x = e in cc)
heads_some (y ∷ ys) lists x e = let i : y ≡ x = cc in ap (λ z. z ∷ heads lists) i

heads_none : (xs : List SpaceId) (lists : List (List SpaceId)) → head xs ≡ None → heads (xs ∷ lists) ≡ heads lists
heads_none [] lists e = refl
heads_none (y ∷ ys) lists e = absurd (let i : Some y ≡ None = e in cc)

pub next_taken : (all lists : List (List SpaceId)) (i : ℕ) (d : List SpaceId) (x : SpaceId) → i < length lists → head (get_or lists i d) ≡ Some x → in_tail all x ≡ false → first_free all (heads (drop i lists)) ≡ Some x
next_taken all lists i d x h e f =
    ap (λ zs. first_free all (heads zs)) (drop_more lists i d h) ∙ ap (first_free all) (heads_some (get_or lists i d) (drop (i + 1) lists) x e) ∙ rw f refl

pub next_passed : (all lists : List (List SpaceId)) (i : ℕ) (d : List SpaceId) (x : SpaceId) → i < length lists → head (get_or lists i d) ≡ Some x → in_tail all x ≡ true → first_free all (heads (drop i lists)) ≡ first_free all (heads (drop (i + 1) lists))
next_passed all lists i d x h e f =
    ap (λ zs. first_free all (heads zs)) (drop_more lists i d h) ∙ ap (first_free all) (heads_some (get_or lists i d) (drop (i + 1) lists) x e) ∙ rw f refl

pub next_empty : (all lists : List (List SpaceId)) (i : ℕ) (d : List SpaceId) → i < length lists → head (get_or lists i d) ≡ None → first_free all (heads (drop i lists)) ≡ first_free all (heads (drop (i + 1) lists))
next_empty all lists i d h e =
    ap (λ zs. first_free all (heads zs)) (drop_more lists i d h) ∙ ap (first_free all) (heads_none (get_or lists i d) (drop (i + 1) lists) e)

heads-append : (xss yss : List (List SpaceId)) → heads (xss ++ yss) ≡ heads xss ++ heads yss
heads-append [] yss = refl
heads-append ([] ∷ xss) yss = heads-append xss yss
heads-append ((x ∷ xs) ∷ xss) yss = ap (λ zs. x ∷ zs) (heads-append xss yss)

pub heads_more_some : (lists : List (List SpaceId)) (i : ℕ) (d : List SpaceId) (x : SpaceId) → i < length lists → head (get_or lists i d) ≡ Some x → heads (take (i + 1) lists) ≡ heads (take i lists) ++ x ∷ []
heads_more_some lists i d x h e =
    ap heads (take_more lists i d h) ∙ heads-append (take i lists) (get_or lists i d ∷ []) ∙ ap (λ zs. heads (take i lists) ++ zs) (heads_some (get_or lists i d) [] x e)

pub heads_more_none : (lists : List (List SpaceId)) (i : ℕ) (d : List SpaceId) → i < length lists → head (get_or lists i d) ≡ None → heads (take (i + 1) lists) ≡ heads (take i lists)
heads_more_none lists i d h e =
    ap heads (take_more lists i d h) ∙ heads-append (take i lists) (get_or lists i d ∷ []) ∙ ap (λ zs. heads (take i lists) ++ zs) (heads_none (get_or lists i d) [] e) ∙ append-nil (heads (take i lists))

pub taken_step : (x : SpaceId) (lists rest : List (List SpaceId)) (i : ℕ) (d new : List SpaceId) → i < length lists → rest ≡ drop_heads x (take i lists) ++ drop i lists → new ≡ drop_head x (get_or rest i d) → slice_set rest i new ≡ drop_heads x (take (i + 1) lists) ++ drop (i + 1) lists
taken_step x lists rest i d new h r n =
    ap (λ zs. slice_set rest i zs) n ∙ ap (λ zs. slice_set zs i (drop_head x (get_or zs i d))) r ∙ taken_more x lists i d h ∙ ap (λ k. drop_heads x (take k lists) ++ drop k lists) (sym (add-one i))

pub stop_done : (hs : List SpaceId) → each_once hs ≡ [] → stop hs ≡ Ok []
stop_done [] e = refl
stop_done (x ∷ xs) e = absurd (let i : x ∷ without x (each_once xs) ≡ [] = e in cc)

pub once_none : (hs : List SpaceId) → each_once hs ≡ [] → hs ≡ []
once_none [] e = refl
once_none (x ∷ xs) e = absurd (let i : x ∷ without x (each_once xs) ≡ [] = e in cc)

pub stop_blocked : (hs : List SpaceId) → (each_once hs ≡ [] → ⊥) → stop hs ≡ Err (each_once hs)
stop_blocked [] n = absurd (n refl)
stop_blocked (x ∷ xs) n = refl

stands_without : (x y : SpaceId) (xs : List SpaceId) → same x y ≡ false → stands (without x xs) y ≡ stands xs y
stands_without x y [] e = refl
stands_without x y (z ∷ zs) e =
    elim (compared z x) [
      | Same s i ↦ rw s (let t : same z y ≡ false = ap (λ (w : SpaceId). same w y) i ∙ e in rw t (stands_without x y zs e))
      | Other s i ↦ rw s (ap (λ b. same z y || b) (stands_without x y zs e))
    ]

stands_once : (xs : List SpaceId) (y : SpaceId) → stands (each_once xs) y ≡ stands xs y
stands_once [] y = refl
stands_once (x ∷ xs) y =
    elim (compared x y) [
      | Same s i ↦ rw s refl
      | Other s i ↦ rw s (stands_without x y (each_once xs) s ∙ stands_once xs y)
    ]

without-append : (x : SpaceId) (xs ys : List SpaceId) → without x (xs ++ ys) ≡ without x xs ++ without x ys
without-append x [] ys = refl
without-append x (z ∷ zs) ys =
    elim (compared z x) [
      | Same s i ↦ rw s (without-append x zs ys)
      | Other s i ↦ rw s (ap (λ ws. z ∷ ws) (without-append x zs ys))
    ]

other_way : (x y : SpaceId) → same x y ≡ false → same y x ≡ false
other_way x y h =
    elim (compared y x) [
      | Same s e ↦ absurd (let t = is_same x y (sym e) in cc)
      | Other s e ↦ s
    ]

once_new : (xs : List SpaceId) (y : SpaceId) → stands xs y ≡ false → each_once (xs ++ y ∷ []) ≡ each_once xs ++ y ∷ []
once_new [] y e = refl
once_new (x ∷ xs) y e =
    elim (compared x y) [
      | Same s i ↦ absurd (let t = rw s at e in cc)
      | Other s i ↦
          let f : stands xs y ≡ false = or_right (same x y) (stands xs y) e in
          let n : same y x ≡ false = other_way x y s in
          let w : without x (y ∷ []) ≡ y ∷ [] = rw n refl in
          ap (λ zs. x ∷ without x zs) (once_new xs y f) ∙ ap (λ zs. x ∷ zs) (without-append x (each_once xs) (y ∷ []) ∙ ap (λ zs. without x (each_once xs) ++ zs) w)
    ]

without_swap : (x z : SpaceId) (xs : List SpaceId) → without x (without z xs) ≡ without z (without x xs)
without_swap x z [] = refl
without_swap x z (y ∷ ys) =
    elim (compared y z) [
      | Same s e ↦
          elim (compared y x) [
            | Same t f ↦ rw (s, t) (without_swap x z ys)
            | Other t f ↦ rw (s, t, s) (without_swap x z ys)
          ]
      | Other s e ↦
          elim (compared y x) [
            | Same t f ↦ rw (s, t) (without_swap x z ys)
            | Other t f ↦ rw (s, t, s) (ap (λ ws. y ∷ ws) (without_swap x z ys))
          ]
    ]

without_once : (x : SpaceId) (xs : List SpaceId) → without x (each_once (xs ++ x ∷ [])) ≡ without x (each_once xs)
without_once x [] = rw (is_same x x refl) refl
without_once x (z ∷ zs) =
    let i : without x (without z (each_once (zs ++ x ∷ []))) ≡ without x (without z (each_once zs)) =
    without_swap x z (each_once (zs ++ x ∷ [])) ∙ ap (without z) (without_once x zs) ∙ without_swap z x (each_once zs) in
    elim (compared z x) [
      | Same s e ↦ rw s i
      | Other s e ↦ rw s (ap (λ ws. z ∷ ws) i)
    ]

once_gone : (x : SpaceId) (xs : List SpaceId) (y : SpaceId) → x ≡ y → each_once ((x ∷ xs) ++ y ∷ []) ≡ each_once (x ∷ xs)
once_gone x xs y i = subst (λ z. each_once ((x ∷ xs) ++ z ∷ []) ≡ each_once (x ∷ xs)) i (ap (λ zs. x ∷ zs) (without_once x xs))

once_again : (xs : List SpaceId) (y : SpaceId) → stands xs y ≡ true → each_once (xs ++ y ∷ []) ≡ each_once xs
once_again [] y e = absurd (let t : false ≡ true = e in cc)
once_again (x ∷ xs) y e =
    elim (compared x y) [
      | Same s i ↦ once_gone x xs y i
      | Other s i ↦ ap (λ zs. x ∷ without x zs) (once_again xs y (let t : stands xs y ≡ true = rw s at e in t))
    ]

pub once_pushed : (hs left : List SpaceId) (x : SpaceId) → left ≡ each_once hs → stands left x ≡ false → left ++ x ∷ [] ≡ each_once (hs ++ x ∷ [])
once_pushed hs left x e f =
    ap (λ zs. zs ++ x ∷ []) e ∙ sym (once_new hs x (sym (stands_once hs x) ∙ ap (λ zs. stands zs x) (sym e) ∙ f))

pub once_kept : (hs left : List SpaceId) (x : SpaceId) → left ≡ each_once hs → stands left x ≡ true → left ≡ each_once (hs ++ x ∷ [])
once_kept hs left x e f = e ∙ sym (once_again hs x (sym (stands_once hs x) ∙ ap (λ zs. stands zs x) (sym e) ∙ f))
