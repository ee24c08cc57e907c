-- Which paths are defined in a text and in another one, and how a path ends.
use Rattle.std.proofs.Common.{◌≡◌, ℕ, zero, suc, ◌+◌, ◌-◌, ◌<◌, ◌≤◌, Bool, true, false, ◌||◌, List, [], ◌∷◌, ◌++◌, length, map, take, get_or, slice_get, Option, Some, None, refl, sym, ◌∙◌, ap, subst, arith, inl, inr}
use Rattle.std.specs.Prelude.{IsTrue, is_some, if◌then◌else◌}
use Rattle.std.specs.List.{list_any, AllByRecursion, IsDistinct}
use Rattle.std.specs.Map.{lookup}
use Rattle.std.proofs.lemmas.List.{take_all, take_more, map-append}
use Rattle.std.proofs.lemmas.Option.{same_Some}
use Rattle.mx_value.specs.Name.{same_name, same_path}
use Rattle.mx_value.proofs.NodeSames.{path_decides}
use Rattle.indexmap.specs.IndexSet.{insert_key}
use Rattle.mx_c3.specs.declared.space.SpaceId.{SpaceId}
use Rattle.mx_c3.specs.Lists.{Has, Distinct}
use Rattle.mx_c3.proofs.ListLemmas.{has_push_cases}
use Rattle.mx_model.specs.Records.{Name, Path, SpaceRecord, ModelRecord}
use Rattle.mx_model.specs.Layers.{paths_of, id_of}
use Rattle.mx_model.specs.Paths.{prepended, split_last, is_defined}
use Rattle.mx_model.specs.Binding.{Child, or_child, or_other, own_member}
use Rattle.mx_model.specs.Rings.{IsDefined}
use Rattle.mx_model.proofs.Filtered.{place_has}
use Rattle.mx_model.proofs.Places.{id_at, path_defined}

-- ---- how a path ends

pub split_push : (path : Path) (name : Name) → split_last (path ++ name ∷ []) ≡ Some (path, name)
split_push [] name = refl
split_push (first ∷ path) name = ap (prepended first) (split_push path name)

split_by : (first : Name) (rest : Path) (split : Option (Path × Name)) (parent : Path) (last : Name) → split_last rest ≡ split → ((p : Path) (n : Name) → split_last rest ≡ Some (p, n) → rest ≡ p ++ n ∷ []) → (split_last rest ≡ None → rest ≡ []) → prepended first split ≡ Some (parent, last) → first ∷ rest ≡ parent ++ last ∷ []
split_by first rest None parent last is some none e =
    let same : (z : Path × Name) → Path = λ z. z.0 ++ z.1 ∷ [] in
    ap (λ (r : Path). first ∷ r) (none is) ∙ ap same (same_Some ([], first) (parent, last) e)
split_by first rest (Some (p, n)) parent last is some none e =
    let same : (z : Path × Name) → Path = λ z. z.0 ++ z.1 ∷ [] in
    ap (λ (r : Path). first ∷ r) (some p n is) ∙ ap same (same_Some (first ∷ p, n) (parent, last) e)

pub some_not : (z : Path × Name) → Some z ≡ None → ⊥
some_not z e = let t : true ≡ false = ap is_some e in cc

none_by : (first : Name) (split : Option (Path × Name)) → prepended first split ≡ None → ⊥
none_by first None e = some_not ([], first) e
none_by first (Some (p, n)) e = some_not (first ∷ p, n) e

split_none : (path : Path) → split_last path ≡ None → path ≡ []
split_none [] e = refl
split_none (first ∷ rest) e = absurd (none_by first (split_last rest) e)

pub split_is : (path parent : Path) (last : Name) → split_last path ≡ Some (parent, last) → path ≡ parent ++ last ∷ []
split_is [] parent last e = absurd (let f : None ≡ Some (parent, last) = e in cc)
split_is (first ∷ rest) parent last e = split_by first rest (split_last rest) parent last refl (λ p n i. split_is rest p n i) (split_none rest) e

-- paths with the same end are the same up to it
pub same_ends : (p q : Path) (m n : Name) → p ++ m ∷ [] ≡ q ++ n ∷ [] → (p ≡ q) × (m ≡ n)
same_ends p q m n e =
    let s = same_Some (p, m) (q, n) (sym (split_push p m) ∙ ap split_last e ∙ split_push q n) in
    (ap (λ (z : Path × Name). z.0) s, ap (λ (z : Path × Name). z.1) s)

last_split : (xs : Path) (last : Name) → 1 ≤ length xs → last ≡ get_or xs (length xs - 1) last → xs ≡ take (length xs - 1) xs ++ last ∷ []
last_split xs last some is =
    let n = length xs - 1 in
    let all : length xs ≤ n + 1 = omega arith in
    let within : n < length xs = omega arith in
    sym (take_all (n + 1) xs all) ∙ take_more xs n last within ∙ ap (λ (z : Name). take n xs ++ z ∷ []) (sym is)

-- a path ends with this name below that parent
pub ends_so : (path parent s ps : Path) (last : Name) (r : Bool) → s ≡ path → ps ≡ parent → 1 ≤ length s → last ≡ get_or s (length s - 1) last → r ≡ same_path (take (length s - 1) s) ps → r ≡ true → path ≡ parent ++ last ∷ []
ends_so path parent s ps last r e f some is tested t =
    let same = (path_decides (take (length s - 1) s) ps).0 (sym tested ∙ t) ∙ f in
    sym e ∙ last_split s last some is ∙ ap (λ (p : Path). p ++ last ∷ []) same

pub ends_other : (path parent s ps : Path) (last : Name) (r : Bool) → s ≡ path → ps ≡ parent → 1 ≤ length s → last ≡ get_or s (length s - 1) last → r ≡ same_path (take (length s - 1) s) ps → r ≡ false → (name : Name) → path ≡ parent ++ name ∷ [] → ⊥
ends_other path parent s ps last r e f some is tested n name at =
    let ends = same_ends (take (length s - 1) s) parent last name (sym (last_split s last some is) ∙ e ∙ at) in
    let yes = (path_decides (take (length s - 1) s) ps).1 (ends.0 ∙ sym f) in
    let g : true ≡ false = sym yes ∙ sym tested ∙ n in absurd (cc)

-- ---- defined paths

has_by : (text : ModelRecord) (path : Path) (found : Option SpaceId) → id_of text path ≡ found → IsTrue (is_some found) → Has (paths_of text) path
has_by text path None e t = absurd (let f : false ≡ true = t in cc)
has_by text path (Some s) e t = place_has (paths_of text) s.0 path (id_at text path s e)

pub defined_has : (text : ModelRecord) (path : Path) → IsDefined text path → Has (paths_of text) path
defined_has text path d = has_by text path (id_of text path) refl d

same_truth : (b c : Bool) → (IsTrue b → IsTrue c) → (IsTrue c → IsTrue b) → b ≡ c
same_truth true c f g = sym (f refl)
same_truth false true f g = g refl
same_truth false false f g = refl

pub same_defined : (text text' : ModelRecord) (path : Path) → (Has (paths_of text) path → Has (paths_of text') path) → (Has (paths_of text') path → Has (paths_of text) path) → is_defined text' path ≡ is_defined text path
same_defined text text' path f g =
    same_truth (is_defined text' path) (is_defined text path) (λ d. path_defined text path (g (defined_has text' path d))) (λ d. path_defined text' path (f (defined_has text path d)))

-- a space has the same of a name where its child is defined in both texts or in none
pub own_defined : (text text' : ModelRecord) (name : Name) (s : SpaceRecord) → is_defined text' (s.path ++ name ∷ []) ≡ is_defined text (s.path ++ name ∷ []) → own_member text' name s ≡ own_member text name s
own_defined text text' name s e =
    ap (λ (b : Bool). or_other (or_child (if b then Some Child else None) s.path (lookup (same_name name) s.references)) (lookup (same_name name) s.cells)) e

-- ---- one path more

pub distinct_push : {X : Type 0} (xs : List X) (x : X) → Distinct xs → (Has xs x → ⊥) → Distinct (xs ++ x ∷ [])
distinct_push [] x d n = (λ h. h, tt)
distinct_push {X} (y ∷ xs) x d n = (
  λ h. elim (has_push_cases xs x y h) [ inl a ↦ d.0 a | inr e ↦ n (inl (sym e)) ],
  distinct_push xs x d.1 (λ h. n (inr h)),
)

-- ---- paths, one after the other

apart_by : (k x : Path) (b : Bool) → same_path k x ≡ b → (k ≡ x → ⊥) → same_path k x ≡ false
apart_by k x true e n = absurd (n ((path_decides k x).0 e))
apart_by k x false e n = e

apart : (k : Path) (xs : List Path) → (Has xs k → ⊥) → AllByRecursion (λ x. same_path k x ≡ false) xs
apart k [] n = tt
apart k (x ∷ xs) n = (apart_by k x (same_path k x) refl (λ e. n (inl (sym e))), apart k xs (λ h. n (inr h)))

-- none stands twice, by the test of paths too
pub distinct_paths : (ks : List Path) → Distinct ks → IsDistinct same_path ks
unfolding IsDistinct
distinct_paths [] d = tt
distinct_paths (k ∷ ks) d = (apart k ks d.0, distinct_paths ks d.1)

-- a path is not among those before it
any_fresh : (ks : List Path) (i : ℕ) (k : Path) → Distinct ks → slice_get ks i ≡ Some k → list_any (same_path k) (take i ks) ≡ false
any_fresh [] i k d at = absurd (let f : None ≡ Some k = at in cc)
any_fresh (x ∷ xs) zero k d at = refl
any_fresh (x ∷ xs) (suc i) k d at =
    let P : Path → Type 0 = λ p. Has xs p in
    let no = apart_by k x (same_path k x) refl (λ e. d.0 (subst P e (place_has xs i k at))) in
    ap (λ (b : Bool). b || list_any (same_path k) (take i xs)) no ∙ any_fresh xs i k d.1 at

take_one : {X : Type 0} (ks : List X) (i : ℕ) (k : X) → slice_get ks i ≡ Some k → take i ks ++ k ∷ [] ≡ take (suc i) ks
take_one [] i k at = absurd (let f : None ≡ Some k = at in cc)
take_one {X} (x ∷ xs) zero k at = ap (λ (z : X). z ∷ []) (sym (same_Some x k at))
take_one {X} (x ∷ xs) (suc i) k at = ap (λ (r : List X). x ∷ r) (take_one xs i k at)

-- what the first items give, with one more
pub gives_more : {X Y : Type 0} (f : X → Y) (xs : List X) (i : ℕ) (x : X) (before after : List Y) (y : Y) → slice_get xs i ≡ Some x → before ≡ map f (take i xs) → y ≡ f x → after ≡ before ++ y ∷ [] → after ≡ map f (take (i + 1) xs)
gives_more {X} {Y} f xs i x before after y at e same is =
    let next : suc i ≡ i + 1 = omega arith in
    is ∙ ap (λ (ys : List Y). ys ++ y ∷ []) e ∙ ap (λ (z : Y). map f (take i xs) ++ z ∷ []) same ∙ sym (map-append f (take i xs) (x ∷ [])) ∙ ap (map f) (take_one xs i x at ∙ ap (λ n. take n xs) next)

pub path_more : (ks keys : List Path) (i : ℕ) (k k' : Path) (after : List Path) → Distinct ks → keys ≡ take i ks → slice_get ks i ≡ Some k → k' ≡ k → after ≡ insert_key same_path keys k' → after ≡ take (i + 1) ks
path_more ks keys i k k' after d e at same is =
    let next : suc i ≡ i + 1 = omega arith in
    is ∙ ap (insert_key same_path keys) same ∙ ap (λ (z : List Path). insert_key same_path z k) e ∙
    ap (λ (b : Bool). if b then take i ks else take i ks ++ k ∷ []) (any_fresh ks i k d at) ∙ take_one ks i k at ∙ ap (λ n. take n ks) next
