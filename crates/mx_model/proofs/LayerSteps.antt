-- The steps of the code that finds layers.
use Rattle.std.proofs.Common.{◌≡◌, ℕ, ◌+◌, ◌<◌, List, [], ◌∷◌, ◌++◌, length, take, drop, get_or, Option, Some, None, Result, Ok, Err, refl, sym, ◌∙◌, ap, subst}
use Rattle.std.specs.Prelude.{option_map, option_and_then}
use Rattle.std.specs.List.{filter_map, cons_option}
use Rattle.std.proofs.lemmas.List.{take_more, take-append-drop}
use Rattle.std.proofs.lemmas.List.Elements.{filter_map-append}
use Rattle.std.proofs.lemmas.Option.{same_Some}
use Rattle.mx_c3.specs.declared.space.SpaceId.{SpaceId}
use Rattle.mx_c3.specs.declared.refusal.C3Refusal.{C3Refusal}
use Rattle.mx_c3.specs.declared.refusal.C3Refusal.TheVariants as refusal
use Rattle.mx_c3.specs.Merge.{Answers}
use Rattle.mx_c3.specs.Linearisation.{each}
use Rattle.mx_c3.proofs.ListLemmas.{drop_more}
use Rattle.mx_model.specs.Records.{Name, Path, SpaceRecord, ModelRecord}
use Rattle.mx_model.specs.declared.layers.Layered.{Layered}
use Rattle.mx_model.specs.Layers.{id_of, space_of, child_of, below, further}
use Rattle.mx_model.specs.Sound.{IsBlockedBy}
use Rattle.mx_model.proofs.SoundLemmas.{each_more, each_stop}

abbrev pub Orders : Type 0
Orders = Result (List SpaceId) (List SpaceId)

split_at : {X : Type 0} (xs : List X) (i : ℕ) (d : X) → i < length xs → take i xs ++ get_or xs i d ∷ drop (i + 1) xs ≡ xs
split_at xs i d h = ap (λ ys. take i xs ++ ys) (sym (drop_more xs i d h)) ∙ take-append-drop i xs

-- one order more
pub one_more : (f : SpaceId → Orders) (xs : List SpaceId) (i : ℕ) (d : SpaceId) (orders : List (List SpaceId)) (order : List SpaceId) → i < length xs → each f (take i xs) ≡ Ok orders → f (get_or xs i d) ≡ Ok order → each f (take (i + 1) xs) ≡ Ok (orders ++ order ∷ [])
one_more f xs i d orders order h e o = ap (each f) (take_more xs i d h) ∙ each_more f (take i xs) orders (get_or xs i d) order e o

blocked : (f : SpaceId → Orders) (xs ys : List SpaceId) (x : SpaceId) (orders : List (List SpaceId)) (why : C3Refusal) → each f xs ≡ Ok orders → Answers (Err why) (f x) → IsBlockedBy why (each f (xs ++ x ∷ ys))
blocked f xs ys x orders (refusal.NoOrder heads) e a = each_stop f xs ys orders x heads e a
blocked f xs ys x orders refusal.NoMemory e a = tt

-- the first space without an order decides
pub stopped : (f : SpaceId → Orders) (xs : List SpaceId) (i : ℕ) (d : SpaceId) (orders : List (List SpaceId)) (why : C3Refusal) → i < length xs → each f (take i xs) ≡ Ok orders → Answers (Err why) (f (get_or xs i d)) → IsBlockedBy why (each f xs)
stopped f xs i d orders why h e a =
    let P : List SpaceId → Type 0 = λ zs. IsBlockedBy why (each f zs) in
    subst P (split_at xs i d h) (blocked f (take i xs) (drop (i + 1) xs) (get_or xs i d) orders why e a)

-- one child more, where the space has one
pub child_more : {X : Type 0} (f : X → Option SpaceId) (xs : List X) (i : ℕ) (d : X) (child : Option SpaceId) → i < length xs → child ≡ f (get_or xs i d) → filter_map f (take (i + 1) xs) ≡ filter_map f (take i xs) ++ cons_option child []
child_more f xs i d child h e =
    ap (filter_map f) (take_more xs i d h) ∙ filter_map-append f (take i xs) (get_or xs i d ∷ []) ∙ ap (λ o. filter_map f (take i xs) ++ cons_option o []) (sym e)

id_by : (text : ModelRecord) (name : Name) (space : Option SpaceRecord) (path : Path) → option_map (λ (s : SpaceRecord). s.path) space ≡ Some path → id_of text (path ++ name ∷ []) ≡ option_and_then (λ (s : SpaceRecord). id_of text (s.path ++ name ∷ [])) space
id_by text name None path e = absurd (let f : None ≡ Some path = e in cc)
id_by text name (Some space) path e = let f : space.path ≡ path = same_Some space.path path e in ap (λ (p : Path). id_of text (p ++ name ∷ [])) (sym f)

-- a child is the space of the path below
pub child_is : (text : ModelRecord) (name : Name) (s : SpaceId) (path : Path) → option_map (λ (s : SpaceRecord). s.path) (space_of text s) ≡ Some path → id_of text (path ++ name ∷ []) ≡ child_of text name s
child_is text name s path e = id_by text name (space_of text s) path e

-- one name more
pub further_more : (text : ModelRecord) (reached : Layered) (names : List Name) (name : Name) → further text reached (names ++ name ∷ []) ≡ below text (further text reached names) name
further_more text reached [] name = refl
further_more text reached (n ∷ names) name = further_more text (below text reached n) names name
