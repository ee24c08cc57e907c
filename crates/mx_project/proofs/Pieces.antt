-- One item more in a loop that writes lines.
use Rattle.std.proofs.Common.{◌≡◌, ℕ, ◌+◌, ◌<◌, Bool, true, false, cond, List, [], ◌∷◌, ◌++◌, Option, None, Some, slice_get, length, get_or, map, take, refl, sym, ap, ◌∙◌, append_assoc, append-nil}
use Rattle.std.specs.List.{concat, filter, filter_map}
use Rattle.std.specs.Option.{option_to_list}
use Rattle.std.proofs.lemmas.List.{map-append}
use Rattle.std.proofs.lemmas.List.Elements.{filter_more, filter_map-append}
use Rattle.std.proofs.lemmas.List.Folds.{concat-append}
use Rattle.std.proofs.lemmas.Option.{slice_get_within, get_or_from_slice_get}
use Rattle.mx_syntax.specs.Lists.{flat}
use Rattle.mx_syntax.proofs.ListLemmas.{take_next, flat_append, flat_next}
use Rattle.mx_print.specs.Texts.{Text}

concat_last : (ts : List Text) (t : Text) → concat (ts ++ t ∷ []) ≡ concat ts ++ t
concat_last ts t = concat-append ts (t ∷ []) ∙ ap (λ (u : Text). concat ts ++ u) (append-nil t)

-- two lists of lines, one behind the other
pub join_two : (out : Text) (xs ys : List Text) → (out ++ concat xs) ++ concat ys ≡ out ++ concat (xs ++ ys)
join_two out xs ys = append_assoc out (concat xs) (concat ys) ∙ ap (λ (t : Text). out ++ t) (sym (concat-append xs ys))

pub join_three : (out : Text) (xs ys zs : List Text) → ((out ++ concat xs) ++ concat ys) ++ concat zs ≡ out ++ concat (xs ++ (ys ++ zs))
join_three out xs ys zs =
    ap (λ (t : Text). t ++ concat zs) (join_two out xs ys) ∙ join_two out (xs ++ ys) zs ∙ ap (λ (ts : List Text). out ++ concat ts) (append_assoc xs ys zs)

-- one line more, of what is made of the items
pub made_more : {X Y : Type 0} (g : X → Y) (f : Y → Text) (xs : List X) (i : ℕ) (x : X) → i < length xs → x ≡ get_or xs i x → concat (map f (map g (take i xs))) ++ f (g x) ≡ concat (map f (map g (take (i + 1) xs)))
made_more g f xs i x lt is =
    sym (concat_last (map f (map g (take i xs))) (f (g x))) ∙ ap concat (sym (map-append f (map g (take i xs)) (g x ∷ [])))
    ∙ ap (λ ys. concat (map f ys)) (sym (map-append g (take i xs) (x ∷ []))) ∙ ap (λ ys. concat (map f (map g ys))) (sym (take_next xs i x lt is))

module _ {X : Type 0} (xs : List X) (i : ℕ) (x : X) where
  next_of : slice_get xs i ≡ Some x → take (i + 1) xs ≡ take i xs ++ x ∷ []
  next_of at = take_next xs i x (slice_get_within xs i x at) (sym (get_or_from_slice_get xs i x x at))

  -- one of each
  pub map_more : {Y : Type 0} (f : X → Y) → slice_get xs i ≡ Some x → map f (take i xs) ++ f x ∷ [] ≡ map f (take (i + 1) xs)
  map_more f at = sym (map-append f (take i xs) (x ∷ [])) ∙ ap (λ ys. map f ys) (sym (next_of at))

  -- one line each
  pub line_more : (f : X → Text) (out : Text) → slice_get xs i ≡ Some x → (out ++ concat (map f (take i xs))) ++ f x ≡ out ++ concat (map f (take (i + 1) xs))
  line_more f out at =
      append_assoc out (concat (map f (take i xs))) (f x)
      ∙ ap (λ (t : Text). out ++ t) (sym (concat_last (map f (take i xs)) (f x)) ∙ ap concat (sym (map-append f (take i xs) (x ∷ []))) ∙ ap (λ (ys : List X). concat (map f ys)) (sym (next_of at)))

  -- some lines each
  pub lines_more : (f : X → List Text) (out : Text) → slice_get xs i ≡ Some x → (out ++ concat (flat (map f (take i xs)))) ++ concat (f x) ≡ out ++ concat (flat (map f (take (i + 1) xs)))
  lines_more f out at =
      join_two out (flat (map f (take i xs))) (f x)
      ∙ ap (λ (ts : List Text). out ++ concat ts) (sym (flat_next f xs i x (slice_get_within xs i x at) (sym (get_or_from_slice_get xs i x x at))))

  filter_next : (p : X → Bool) (b : Bool) → slice_get xs i ≡ Some x → p x ≡ b → filter p (take (i + 1) xs) ≡ filter p (take i xs) ++ cond b (x ∷ []) []
  filter_next p b at is =
      let one = get_or_from_slice_get xs i x x at in
      filter_more p xs i x (slice_get_within xs i x at)
      ∙ ap (λ (y : X). filter p (take i xs) ++ cond (p y) (y ∷ []) []) one ∙ ap (λ (c : Bool). filter p (take i xs) ++ cond c (x ∷ []) []) is

  -- some lines of each that passes
  pub passing_more : (p : X → Bool) (f : X → List Text) (out : Text) → slice_get xs i ≡ Some x → p x ≡ true
      → (out ++ concat (flat (map f (filter p (take i xs))))) ++ concat (f x) ≡ out ++ concat (flat (map f (filter p (take (i + 1) xs))))
  passing_more p f out at is =
      join_two out (flat (map f (filter p (take i xs)))) (f x)
      ∙ ap (λ (ts : List Text). out ++ concat ts)
      (ap (λ (ts : List Text). flat (map f (filter p (take i xs))) ++ ts) (sym (append-nil (f x)))
      ∙ sym (flat_append (map f (filter p (take i xs))) (f x ∷ []))
      ∙ ap flat (sym (map-append f (filter p (take i xs)) (x ∷ [])))
      ∙ ap (λ (ys : List X). flat (map f ys)) (sym (filter_next p true at is)))

  pub failing_more : (p : X → Bool) (f : X → List Text) → slice_get xs i ≡ Some x → p x ≡ false → flat (map f (filter p (take i xs))) ≡ flat (map f (filter p (take (i + 1) xs)))
  failing_more p f at is = ap (λ (ys : List X). flat (map f ys)) (sym (append-nil (filter p (take i xs))) ∙ sym (filter_next p false at is))

one_of : {X Y : Type 0} (h : X → Option Y) (x : X) (o : Option Y) → h x ≡ o → filter_map h (x ∷ []) ≡ option_to_list o
one_of h x None e = rw e refl
one_of h x (Some y) e = rw e refl

-- one of each for which there is something
pub named_more : {X Y : Type 0} (h : X → Option Y) (xs : List X) (i : ℕ) (x : X) → slice_get xs i ≡ Some x → filter_map h (take i xs) ++ option_to_list (h x) ≡ filter_map h (take (i + 1) xs)
named_more {X} {Y} h xs i x at =
    ap (λ (ys : List Y). filter_map h (take i xs) ++ ys) (sym (one_of h x (h x) refl))
    ∙ sym (filter_map-append h (take i xs) (x ∷ [])) ∙ ap (λ (zs : List X). filter_map h zs) (sym (next_of xs i x at))

-- behind what was there, one of each for which there is something
pub found_more : {X Y Z : Type 0} (h : X → Option Y) (f : Y → Z) (out : List Z) (xs : List X) (i : ℕ) (x : X) → slice_get xs i ≡ Some x
    → (out ++ map f (filter_map h (take i xs))) ++ map f (option_to_list (h x)) ≡ out ++ map f (filter_map h (take (i + 1) xs))
found_more {X} {Y} {Z} h f out xs i x at =
    append_assoc out (map f (filter_map h (take i xs))) (map f (option_to_list (h x)))
    ∙ ap (λ (zs : List Z). out ++ zs) (sym (map-append f (filter_map h (take i xs)) (option_to_list (h x)))
    ∙ ap (λ (ys : List Y). map f (filter_map h (take i xs) ++ ys)) (sym (one_of h x (h x) refl))
    ∙ ap (λ (ys : List Y). map f ys) (sym (filter_map-append h (take i xs) (x ∷ []))) ∙ ap (λ (zs : List X). map f (filter_map h zs)) (sym (next_of xs i x at)))

-- behind what was there, one of each
pub each_more : {X Z : Type 0} (f : X → Z) (out : List Z) (xs : List X) (i : ℕ) (x : X) → slice_get xs i ≡ Some x → (out ++ map f (take i xs)) ++ f x ∷ [] ≡ out ++ map f (take (i + 1) xs)
each_more {X} {Z} f out xs i x at = append_assoc out (map f (take i xs)) (f x ∷ []) ∙ ap (λ (zs : List Z). out ++ zs) (map_more xs i x f at)
