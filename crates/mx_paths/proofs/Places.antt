-- The walk goes from the path at one place to that at the next.
use Rattle.std.proofs.Common.{◌≡◌, ℕ, zero, suc, ◌+◌, ◌<◌, ◌≤◌, List, [], ◌∷◌, ◌++◌, length, take, Option, Some, None, Result, Ok, Err, slice_get, inl, refl, sym, ◌∙◌, ap, subst, arith, add-one}
use Rattle.std.specs.Prelude.{option_map}
use Rattle.std.proofs.lemmas.Option.{same_Some, slice_get-map}
use Rattle.std.proofs.lemmas.List.{take-append-le, take_all, length-map, length-append, map-append}
use Rattle.mx_c3.specs.declared.space.SpaceId.{SpaceId}
use Rattle.mx_c3.specs.Lists.{Has}
use Rattle.mx_model.specs.Records.{Name, Path, ModelRecord}
use Rattle.mx_model.specs.declared.layers.Layered.{Layered}
use Rattle.mx_model.specs.declared.layers.Layered.TheVariants.{Layers}
use Rattle.mx_model.specs.Layers.{layers}
use Rattle.mx_model.specs.Sound.{IsSound, AreSpaces, HasSpaces}
use Rattle.mx_model.proofs.SoundLemmas.{layers_spaces}
use Rattle.mx_model.proofs.Filtered.{place_has}
use Rattle.mx_paths.specs.declared.child.Child.{Child}
use Rattle.mx_paths.specs.declared.id.PathId.{PathId}
use Rattle.mx_paths.specs.declared.refusal.PathsRefusal.{PathsRefusal}
use Rattle.mx_paths.specs.Orders.{Orders}
use Rattle.mx_paths.specs.Table.{Row, paths_in, path_at, layers_at}
use Rattle.mx_paths.specs.Walking.{IsBegun, IsWalked, IsWalkedTo, IsExpanding, IsLonger, IsReady, Closes, Expands, families_in}
use Rattle.mx_paths.proofs.Expanded.{begins, top_begins}

-- ---- the beginning

pub not_walked : (text : ModelRecord) → IsWalkedTo text [] 0
not_walked text = record {
  begun = record { layered = λ r h. absurd h; fine = λ r h. absurd h; in_order = tt; few = omega arith; closed = λ p q t h b. absurd h };
  children = λ p n h t. absurd h;
  below = λ q h. absurd h;
}

empty_rows : (text : ModelRecord) (rows : List Row) → IsWalked text rows [] → rows ≡ []
empty_rows text [] walked = refl
empty_rows text (r ∷ rows) walked = absurd ((walked.below r.0 (inl refl)).has)

pub top_open : (text : ModelRecord) (top : List Child) (families : List (List Child)) (orders : Orders) (rows : List Row) (place : ℕ) (path : Path) (given : List (List Child)) → IsReady text top families orders → place ≡ 0 → IsWalkedTo text rows place → path ≡ [] → given ≡ top ∷ [] → IsExpanding text rows [] path given
top_open text top families orders rows place path given ready z walked p g =
    let e = empty_rows text rows (subst (λ (n : ℕ). IsWalkedTo text rows n) z walked) in
    let P : List Row → Type 0 = λ rs. IsExpanding text rs [] [] (top ∷ []) in
    let Q : Path → Type 0 = λ q. IsExpanding text rows [] q (top ∷ []) in
    let R : List (List Child) → Type 0 = λ fs. IsExpanding text rows [] path fs in
    subst R (sym g) (subst Q (sym p) (subst P (sym e) (top_begins text top ready.sound ready.sources.is_top)))

closes_by : (text : ModelRecord) (old new : List Row) (result : Result (Unit {0}) PathsRefusal) → Closes text [] [] old new result → Expands text 0 old new result
closes_by text old new (Ok u) closes = closes
closes_by text old new (Err why) closes = closes

pub top_closes : (text : ModelRecord) (old new : List Row) (place : ℕ) (path : Path) (result : Result (Unit {0}) PathsRefusal) → place ≡ 0 → path ≡ [] → Closes text [] path old new result → Expands text place old new result
top_closes text old new place path result z p closes =
    let P : Path → Type 0 = λ q. Closes text [] q old new result in
    let Q : ℕ → Type 0 = λ n. Expands text n old new result in
    subst Q (sym z) (closes_by text old new result (subst P p closes))

-- ---- a path of the table

record IsRow (text : ModelRecord) (rows : List Row) (i : ℕ) (path : Path) (spaces : List SpaceId) : Type 0 where
  pub at : slice_get (paths_in rows) i ≡ Some path
  pub has : layers text path ≡ Layers spaces

row_by : (text : ModelRecord) (rows : List Row) (i : ℕ) (path : Path) (spaces : List SpaceId) (row : Option Row) → IsBegun text rows → slice_get rows i ≡ row → option_map (λ (r : Row). r.0) row ≡ Some path → option_map (λ (r : Row). r.1) row ≡ Some spaces → IsRow text rows i path spaces
row_by text rows i path spaces None begun e p s = absurd (let f : None ≡ Some path = p in cc)
row_by text rows i path spaces (Some row) begun e p s =
    let same : row.0 ≡ path = same_Some row.0 path p in
    let is : row.1 ≡ spaces = same_Some row.1 spaces s in
    record {
      at = slice_get-map (λ (r : Row). r.0) rows i ∙ ap (option_map (λ (r : Row). r.0)) e ∙ p;
      has = ap (layers text) (sym same) ∙ begun.layered row (place_has rows i row e) ∙ ap Layers is;
    }

a_row : (text : ModelRecord) (rows : List Row) (id : PathId) (path : Path) (spaces : List SpaceId) → IsBegun text rows → path_at rows id ≡ Some path → layers_at rows id ≡ Some spaces → IsRow text rows id.0 path spaces
a_row text rows id path spaces begun p s = row_by text rows id.0 path spaces (slice_get rows id.0) begun refl p s

row_spaces : (text : ModelRecord) (rows : List Row) (i : ℕ) (path : Path) (spaces : List SpaceId) → IsSound text → IsRow text rows i path spaces → AreSpaces text spaces
row_spaces text rows i path spaces sound row = let P : Layered → Type 0 = λ r. HasSpaces text r in subst P row.has (layers_spaces text path sound)

-- the layers of any path of the table are spaces of the text
pub placed_spaces : (text : ModelRecord) (rows : List Row) (id : PathId) (spaces : List SpaceId) → IsSound text → IsBegun text rows → layers_at rows id ≡ Some spaces → AreSpaces text spaces
placed_spaces text rows id spaces sound begun s = spaces_by (slice_get rows id.0) refl s
  where
    spaces_by : (row : Option Row) → slice_get rows id.0 ≡ row → option_map (λ (r : Row). r.1) row ≡ Some spaces → AreSpaces text spaces
    spaces_by None e s = absurd (let f : None ≡ Some spaces = s in cc)
    spaces_by (Some row) e s = row_spaces text rows id.0 row.0 spaces sound (row_by text rows id.0 row.0 spaces (Some row) begun e refl s)

pub row_open : (text : ModelRecord) (top : List Child) (families : List (List Child)) (orders : Orders) (rows : List Row) (place : ℕ) (id : PathId) (path : Path) (spaces : List SpaceId) (given : List (List Child)) → IsReady text top families orders → place ≡ suc id.0 → IsWalkedTo text rows place → path_at rows id ≡ Some path → layers_at rows id ≡ Some spaces → given ≡ families_in families spaces → IsExpanding text rows ([] ∷ take id.0 (paths_in rows)) path given
row_open text top families orders rows place id path spaces given ready z walked p s g =
    let P : ℕ → Type 0 = λ n. IsWalkedTo text rows n in
    let before = subst P z walked in
    let row = a_row text rows id path spaces before.begun p s in
    let are = row_spaces text rows id.0 path spaces ready.sound row in
    let R : List (List Child) → Type 0 = λ fs. IsExpanding text rows ([] ∷ take id.0 (paths_in rows)) path fs in
    subst R (sym g) (begins text rows id.0 ready.named ready.sound before path spaces row.at row.has are families ready.sources.are_families)

pub layers_below : (text : ModelRecord) (top : List Child) (families : List (List Child)) (orders : Orders) (rows : List Row) (id : PathId) (spaces : List SpaceId) → IsReady text top families orders → IsBegun text rows → layers_at rows id ≡ Some spaces → (x : SpaceId) → Has spaces x → x.0 < length families
layers_below text top families orders rows id spaces ready begun s x h =
    let are = placed_spaces text rows id spaces ready.sound begun s in
    let l = are.1 x h in
    let long = ready.sources.are_families.long in
    omega arith

-- a path below others has a name
pub not_below : (own names : Path) (last : Name) → length own < 1 → own ≡ names ++ last ∷ [] → ⊥
not_below [] [] last h e = let f : [] ≡ last ∷ [] = e in cc
not_below [] (n ∷ names) last h e = let f : [] ≡ n ∷ names ++ last ∷ [] = e in cc
not_below (x ∷ own) names last h e = omega arith

take_one : (paths : List Path) (i : ℕ) (p : Path) → slice_get paths i ≡ Some p → take i paths ++ p ∷ [] ≡ take (suc i) paths
take_one [] i p at = absurd (let f : None ≡ Some p = at in cc)
take_one (q ∷ paths) zero p at = ap (λ (x : Path). x ∷ []) (sym (same_Some q p at))
take_one (q ∷ paths) (suc i) p at = ap (λ (ps : List Path). q ∷ ps) (take_one paths i p at)

within : (paths : List Path) (i : ℕ) (p : Path) → slice_get paths i ≡ Some p → suc i ≤ length paths
within [] i p at = absurd (let f : None ≡ Some p = at in cc)
within (q ∷ paths) zero p at = omega arith
within (q ∷ paths) (suc i) p at = let r = within paths i p at in omega arith

done_is : (old new : List Row) (i : ℕ) (p : Path) → slice_get (paths_in old) i ≡ Some p → IsLonger old new → ([] ∷ take i (paths_in old)) ++ p ∷ [] ≡ take (suc (suc i)) ([] ∷ paths_in new)
done_is old new i p at longer =
    let w = within (paths_in old) i p at in
    let all : paths_in new ≡ paths_in old ++ paths_in longer.more = ap paths_in longer.is ∙ map-append (λ (r : Row). r.0) old longer.more in
    ap (λ (ps : List Path). [] ∷ ps) (take_one (paths_in old) i p at ∙ sym (take-append-le (suc i) (paths_in old) (paths_in longer.more) w) ∙ ap (take (suc i)) (sym all))

row_closes_by : (text : ModelRecord) (old new : List Row) (i : ℕ) (path : Path) (result : Result (Unit {0}) PathsRefusal) → slice_get (paths_in old) i ≡ Some path → Closes text ([] ∷ take i (paths_in old)) path old new result → Expands text (suc i) old new result
row_closes_by text old new i path (Ok u) at closes =
    let P : List Path → Type 0 = λ ps. IsWalked text new ps in
    let Q : ℕ → Type 0 = λ n. IsWalkedTo text new n in
    (subst Q (sym (add-one (suc i))) (subst P (done_is old new i path at closes.1) closes.0), closes.1)
row_closes_by text old new i path (Err why) at closes = closes

pub row_closes : (text : ModelRecord) (old new : List Row) (place : ℕ) (id : PathId) (path : Path) (spaces : List SpaceId) (result : Result (Unit {0}) PathsRefusal) → place ≡ suc id.0 → IsBegun text old → path_at old id ≡ Some path → layers_at old id ≡ Some spaces → Closes text ([] ∷ take id.0 (paths_in old)) path old new result → Expands text place old new result
row_closes text old new place id path spaces result z begun p s closes =
    let row = a_row text old id path spaces begun p s in
    let Q : ℕ → Type 0 = λ n. Expands text n old new result in
    subst Q (sym z) (row_closes_by text old new id.0 path result row.at closes)

-- ---- the end

pub longer_than : (old new : List Row) → IsLonger old new → length old ≤ length new
longer_than old new longer = let e = ap length longer.is in let l = length-append old longer.more in omega arith

pub walked_whole : (text : ModelRecord) (rows : List Row) (place : ℕ) → length rows < place → place ≤ length rows + 1 → IsWalkedTo text rows place → IsWalked text rows ([] ∷ paths_in rows)
walked_whole text rows place l m walked =
    let same = length-map rows (λ (r : Row). r.0) in
    let n : place ≡ suc (length (paths_in rows)) = omega arith in
    let P : ℕ → Type 0 = λ k. IsWalkedTo text rows k in
    let Q : List Path → Type 0 = λ ps. IsWalked text rows ([] ∷ ps) in
    subst Q (take_all (length (paths_in rows)) (paths_in rows) (omega arith)) (subst P n walked)
