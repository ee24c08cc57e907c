-- Lists of which one begins with another.
use Rattle.std.proofs.Common.{◌≡◌, ℕ, zero, suc, ◌+◌, ◌<◌, ◌≤◌, List, [], ◌∷◌, ◌++◌, length, take, drop, Option, Some, None, option_map, slice_get, refl, sym, ◌∙◌, ap, arith}
use Rattle.std.specs.List.{cons_option, filter_map}
use Rattle.std.proofs.lemmas.List.{take-append-drop}
use Rattle.mx_value.specs.Name.{same_path}
use Rattle.mx_c3.specs.declared.space.SpaceId.{SpaceId}
use Rattle.mx_members.specs.Places.{place}
use Rattle.mx_members.proofs.ChunkLemmas.{take_one}
use Rattle.mx_members.proofs.MemberLemmas.{place_front, place_is}
use Rattle.mx_model.specs.Records.{Path}
use Rattle.mx_model.specs.Layers.{id_in}
use Rattle.mx_model.specs.Indexed.{AreAll, IsFront}

-- the item at a place
some_at : {X : Type 0} (xs : List X) (i : ℕ) → i < length xs → (x : X) × (slice_get xs i ≡ Some x)
some_at [] i w = absurd (omega arith)
some_at (x ∷ xs) zero w = (x, refl)
some_at (x ∷ xs) (suc i) w = some_at xs i (omega arith)

-- one item further
pub front_more : {X : Type 0} (xs ys : List X) (i : ℕ) → i < length xs → ((x : X) → slice_get xs i ≡ Some x → slice_get ys i ≡ Some x) → take i xs ≡ take i ys → take (i + 1) xs ≡ take (i + 1) ys
front_more {X} xs ys i w same e =
    let x = some_at xs i w in
    sym (take_one xs i x.0 x.1) ∙ ap (λ (l : List X). l ++ x.0 ∷ []) e ∙ take_one ys i x.0 (same x.0 x.1)

-- ---- the places of bases among paths that begin with others

abbrev made : ℕ → SpaceId
made n = record { 0 = n }

id_by : (b : Path) (xs ys : List Path) (s : SpaceId) (o : Option ℕ) → place (same_path b) xs ≡ o → option_map made o ≡ Some s → option_map made (place (same_path b) (xs ++ ys)) ≡ Some s
id_by b xs ys s None e is = absurd (let f : ◌≡◌ {A = Option SpaceId} None (Some s) = is in cc)
id_by b xs ys s (Some i) e is = ap (option_map made) (sym (place_front (same_path b) xs ys i (sym e))) ∙ is

id_more : (b : Path) (xs ys : List Path) (s : SpaceId) → id_in xs b ≡ Some s → id_in (xs ++ ys) b ≡ Some s
id_more b xs ys s is =
    ap (option_map made) (place_is (same_path b) (xs ++ ys)) ∙
    id_by b xs ys s (place (same_path b) xs) refl (ap (option_map made) (sym (place_is (same_path b) xs)) ∙ is)

fewer_by : {Y : Type 0} (o : Option Y) (ys : List Y) (n : ℕ) → length ys ≤ n → length (cons_option o ys) ≤ n + 1
fewer_by None ys n w = omega arith
fewer_by (Some y) ys n w = omega arith

fewer : {X Y : Type 0} (f : X → Option Y) (xs : List X) → length (filter_map f xs) ≤ length xs
fewer f [] = omega arith
fewer f (x ∷ xs) = let more = fewer_by (f x) (filter_map f xs) (length xs) (fewer f xs) in omega arith

module _ (xs ys : List Path) where
  kept_by : (b : Path) (bs : List Path) (o : Option SpaceId) → id_in xs b ≡ o → (length (filter_map (id_in xs) bs) ≡ length bs → filter_map (id_in xs) bs ≡ filter_map (id_in (xs ++ ys)) bs) → length (cons_option o (filter_map (id_in xs) bs)) ≡ length bs + 1 → cons_option o (filter_map (id_in xs) bs) ≡ cons_option (id_in (xs ++ ys) b) (filter_map (id_in (xs ++ ys)) bs)
  kept_by b bs None is rest all = let few = fewer (id_in xs) bs in absurd (omega arith)
  kept_by b bs (Some s) is rest all =
      ap (λ (l : List SpaceId). s ∷ l) (rest (omega arith)) ∙ ap (λ (o : Option SpaceId). cons_option o (filter_map (id_in (xs ++ ys)) bs)) (sym (id_more b xs ys s is))

  kept_ids : (bases : List Path) → length (filter_map (id_in xs) bases) ≡ length bases → filter_map (id_in xs) bases ≡ filter_map (id_in (xs ++ ys)) bases
  kept_ids [] all = refl
  kept_ids (b ∷ bs) all =
      ap (λ (o : Option SpaceId). cons_option o (filter_map (id_in xs) bs)) refl ∙ kept_by b bs (id_in xs b) refl (λ e. kept_ids bs e) (omega arith)

-- places that are kept are those among more paths
pub kept_stay : (before paths bases : List Path) (ids : List SpaceId) → AreAll before bases ids → IsFront before paths → ids ≡ filter_map (id_in paths) bases
kept_stay before paths bases ids kept front =
    let n = length before in
    let whole : before ++ drop n paths ≡ paths = ap (λ (l : List Path). l ++ drop n paths) front.is ∙ take-append-drop n paths in
    kept.are ∙ kept_ids before (drop n paths) bases (ap length (sym kept.are) ∙ kept.all) ∙ ap (λ (l : List Path). filter_map (id_in l) bases) whole
