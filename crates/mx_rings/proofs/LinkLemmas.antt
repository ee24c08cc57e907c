-- Where the spaces of a text lead, by place and by path.
use Rattle.std.proofs.Common.{◌≡◌, ℕ, zero, suc, ◌+◌, ◌-◌, ◌<◌, ◌≤◌, List, [], ◌∷◌, ◌++◌, length, take, get_or, slice_get, slice_set, Option, Some, None, ◌⊎◌, inl, inr, refl, sym, ◌∙◌, ap, subst, arith, length-set}
use Rattle.std.specs.Prelude.{option_and_then, IfSome}
use Rattle.std.proofs.lemmas.List.{take_more}
use Rattle.std.proofs.lemmas.Option.{get_or_from_slice_get, slice_get_within, slice_get-map, same_Some}
use Rattle.mx_c3.specs.declared.space.SpaceId.{SpaceId}
use Rattle.mx_c3.specs.Lists.{Has}
use Rattle.mx_c3.specs.Linearisation.{bases_of}
use Rattle.mx_c3.proofs.ListLemmas.{has_left, has_right, has_push_cases}
use Rattle.mx_c3.proofs.LinearLemmas.{same_place}
use Rattle.mx_model.specs.Records.{Name, Path, SpaceRecord, ModelRecord}
use Rattle.mx_model.specs.Paths.{prepended, split_last}
use Rattle.mx_model.specs.Layers.{paths_of, id_of, base_lists}
use Rattle.mx_model.specs.Readers.{path_in}
use Rattle.mx_model.specs.Indexed.{Kinds, ArePlaced}
use Rattle.mx_model.proofs.Filtered.{place_has}
use Rattle.mx_model.proofs.Places.{id_at, id_within}
use Rattle.mx_rings.specs.Links.{IsChild, LinksUpTo, parent_of, path_at, with_child}
use Rattle.mx_rings.proofs.SearchLemmas.{Same, Is, Not, same_number, below}

-- ---- the parts of a path

record Split (path names : Path) : Type 0 where
  pub last : Name
  pub is : split_last path ≡ Some (names, last)

split_rest : (first : Name) (rest : Path) → Split (first ∷ rest) (take (length rest) (first ∷ rest))
split_rest first [] = record { last = first; is = refl }
split_rest first (second ∷ rest) = let s = split_rest second rest in record { last = s.last; is = ap (prepended first) s.is }

-- the space below which a path stands is that of its names but the last
pub parent_built : (text : ModelRecord) (path names parent : Path) (found : Option SpaceId) → names ≡ path → 1 ≤ length names → parent ≡ take (length names - 1) names → found ≡ id_of text parent → found ≡ parent_of text path
parent_built text path [] parent found e some p f = absurd (omega arith)
parent_built text path (first ∷ rest) parent found e some p f =
    let s = split_rest first rest in
    let n : suc (length rest) - 1 ≡ length rest = omega arith in
    let names : parent ≡ take (length rest) (first ∷ rest) = p ∙ ap (λ (k : ℕ). take k (first ∷ rest)) n in
    f ∙ ap (id_of text) names ∙ sym (ap (option_and_then (λ (split : Path × Name). id_of text split.0)) s.is) ∙ ap (parent_of text) e

no_space : (text : ModelRecord) (tables : List Kinds) → ArePlaced tables text → (found : Option SpaceId) → id_of text [] ≡ found → found ≡ None
no_space text tables placed None e = refl
no_space text tables placed (Some s) e =
    absurd (placed.parents [] (place_has (paths_of text) s.0 [] (id_at text [] s e)))

-- no space stands where static paths begin
pub none_above : (text : ModelRecord) (tables : List Kinds) → ArePlaced tables text → id_of text [] ≡ None
none_above text tables placed = no_space text tables placed (id_of text []) refl

-- and so none above a path of one name
pub parent_none : (text : ModelRecord) (path names : Path) → names ≡ path → length names ≡ 1 → id_of text [] ≡ None → None ≡ parent_of text path
parent_none text path [] e one none = absurd (omega arith)
parent_none text path (first ∷ []) e one none = sym none ∙ ap (parent_of text) e
parent_none text path (first ∷ second ∷ rest) e one none = absurd (omega arith)

-- ---- bases

pub bases_more : (lists made : List (List SpaceId)) (place : ℕ) (bases one : List SpaceId) (after : List (List SpaceId)) → made ≡ take place lists → slice_get lists place ≡ Some bases → one ≡ bases → after ≡ made ++ one ∷ [] → after ≡ take (place + 1) lists
bases_more lists made place bases one after e at is f =
    f ∙ ap (λ (b : List SpaceId). made ++ b ∷ []) (is ∙ sym (get_or_from_slice_get lists place bases [] at)) ∙
    ap (λ (m : List (List SpaceId)). m ++ get_or lists place [] ∷ []) e ∙ sym (take_more lists place [] (slice_get_within lists place bases at))

-- ---- children

own_list : (lists : List (List SpaceId)) (i : ℕ) (xs : List SpaceId) → i < length lists → get_or (slice_set lists i xs) i [] ≡ xs
own_list [] i xs l = absurd (omega arith)
own_list (y ∷ lists) zero xs l = refl
own_list (y ∷ lists) (suc i) xs l = own_list lists i xs (omega arith)

other_list : (lists : List (List SpaceId)) (i j : ℕ) (xs : List SpaceId) → (i ≡ j → ⊥) → get_or (slice_set lists i xs) j [] ≡ get_or lists j []
other_list [] i j xs n = refl
other_list (y ∷ lists) zero zero xs n = absurd (n refl)
other_list (y ∷ lists) zero (suc j) xs n = refl
other_list (y ∷ lists) (suc i) zero xs n = refl
other_list (y ∷ lists) (suc i) (suc j) xs n = other_list lists i j xs (λ e. n (ap suc e))

abbrev at_place : ℕ → SpaceId
at_place n = record { 0 = n }

module _ (text : ModelRecord) (place : ℕ) (lists : List (List SpaceId)) (links : LinksUpTo text place lists) where
  -- a child up to the next place is one before this place, or stands at it
  child_cases : (s t : SpaceId) → IsChild text (place + 1) s t → IsChild text place s t ⊎ (t ≡ at_place place)
  child_cases s t c = by_case (same_number t.0 place)
    where
      by_case : Same t.0 place → IsChild text place s t ⊎ (t ≡ at_place place)
      by_case (Is e) = inr (same_place t (at_place place) e)
      by_case (Not n) = let l = c.before in inl (record { before = below t.0 place (let k : t.0 ≤ place = omega arith in k) n; below = c.below })

  child_on : (s t : SpaceId) → IsChild text place s t → IsChild text (place + 1) s t
  child_on s t c = let l = c.before in record { before = omega arith; below = c.below }

  none_more : parent_of text (path_at text (at_place place)) ≡ None → LinksUpTo text (place + 1) lists
  none_more none = record {
    long = links.long;
    only = λ s t h. elim (links.only s t h) [ inl b ↦ inl b | inr c ↦ inr (child_on s t c) ];
    bases = links.bases;
    children = λ s t c. elim (child_cases s t c) [
      | inl old ↦ links.children s t old
      | inr e ↦ absurd (let f : None ≡ Some s = sym none ∙ ap (λ (z : SpaceId). parent_of text (path_at text z)) (sym e) ∙ c.below in cc)
    ];
  }

  some_more : (parent : SpaceId) → parent_of text (path_at text (at_place place)) ≡ Some parent → parent.0 < length lists → LinksUpTo text (place + 1) (with_child (Some parent) (at_place place) lists)
  some_more parent is within = record {
    long = length-set lists parent.0 (bases_of lists parent ++ at_place place ∷ []) ∙ links.long;
    only = λ s t h. by_place s t h (same_number parent.0 s.0);
    bases = λ s t h. kept s t (links.bases s t h) (same_number parent.0 s.0);
    children = λ s t c. elim (child_cases s t c) [
      | inl old ↦ kept s t (links.children s t old) (same_number parent.0 s.0)
      | inr e ↦
          let p : Some parent ≡ Some s = sym is ∙ ap (λ (z : SpaceId). parent_of text (path_at text z)) (sym e) ∙ c.below in
          subst (λ (z : SpaceId). Has (bases_of with_it z) t) (same_Some parent s p)
          (subst (λ (l : List SpaceId). Has l t) (sym (own_list lists parent.0 more within)) (has_right (bases_of lists parent) (at_place place ∷ []) t (inl (sym e))))
    ];
  }
    where
      more : List SpaceId
      more = bases_of lists parent ++ at_place place ∷ []

      with_it : List (List SpaceId)
      with_it = slice_set lists parent.0 more

      old_link : (s t : SpaceId) → Has (bases_of lists s) t → Has (bases_of (base_lists text) s) t ⊎ IsChild text (place + 1) s t
      old_link s t h = elim (links.only s t h) [ inl b ↦ inl b | inr c ↦ inr (child_on s t c) ]

      by_place : (s t : SpaceId) → Has (bases_of with_it s) t → Same parent.0 s.0 → Has (bases_of (base_lists text) s) t ⊎ IsChild text (place + 1) s t
      by_place s t h (Not n) = old_link s t (subst (λ (l : List SpaceId). Has l t) (other_list lists parent.0 s.0 more n) h)
      by_place s t h (Is e) =
          let same = same_place parent s e in
          let g = subst (λ (z : SpaceId). Has (bases_of with_it z) t) (sym same) h in
          elim (has_push_cases (bases_of lists parent) (at_place place) t (subst (λ (l : List SpaceId). Has l t) (own_list lists parent.0 more within) g)) [
            | inl a ↦ old_link s t (subst (λ (z : SpaceId). Has (bases_of lists z) t) same a)
            | inr i ↦ inr (record {
              before = let j : place ≡ t.0 = ap (λ (z : SpaceId). z.0) i in omega arith;
              below = ap (λ (z : SpaceId). parent_of text (path_at text z)) (sym i) ∙ is ∙ ap (λ (z : SpaceId). Some z) same;
            })
          ]

      kept : (s t : SpaceId) → Has (bases_of lists s) t → Same parent.0 s.0 → Has (bases_of with_it s) t
      kept s t h (Not n) = subst (λ (l : List SpaceId). Has l t) (sym (other_list lists parent.0 s.0 more n)) h
      kept s t h (Is e) =
          let same = same_place parent s e in
          subst (λ (z : SpaceId). Has (bases_of with_it z) t) same
          (subst (λ (l : List SpaceId). Has l t) (sym (own_list lists parent.0 more within)) (has_left (bases_of lists parent) (at_place place ∷ []) t (subst (λ (z : SpaceId). Has (bases_of lists z) t) (sym same) h)))

pub path_is : (text : ModelRecord) (s : SpaceId) (path : Path) → path_in text s ≡ Some path → path_at text s ≡ path
path_is text s path e = get_or_from_slice_get (paths_of text) s.0 path [] (slice_get-map (λ (space : SpaceRecord). space.path) text.spaces s.0 ∙ e)

more_by : (text : ModelRecord) (place : ℕ) (lists : List (List SpaceId)) (parent : Option SpaceId) → LinksUpTo text place lists → parent_of text (path_at text (at_place place)) ≡ parent → IfSome parent (λ s. s.0 < length lists) → LinksUpTo text (place + 1) (with_child parent (at_place place) lists)
more_by text place lists None links is within = none_more text place lists links is
more_by text place lists (Some s) links is within = some_more text place lists links s is within

-- one space more is put below its parent
pub links_more : (text : ModelRecord) (place : ℕ) (path : Path) (lists after : List (List SpaceId)) (parent : Option SpaceId) → LinksUpTo text place lists → path_in text (at_place place) ≡ Some path → parent ≡ parent_of text path → IfSome parent (λ s. s.0 < length lists) → after ≡ with_child parent (at_place place) lists → LinksUpTo text (place + 1) after
links_more text place path lists after parent links at is within e =
    let p = ap (parent_of text) (path_is text (at_place place) path at) ∙ sym is in
    subst (λ (l : List (List SpaceId)). LinksUpTo text (place + 1) l) (sym e) (more_by text place lists parent links p within)

parent_by : (text : ModelRecord) (split : Option (Path × Name)) (s : SpaceId) → option_and_then (λ (split : Path × Name). id_of text split.0) split ≡ Some s → s.0 < length text.spaces
parent_by text None s e = absurd (let f : None ≡ Some s = e in cc)
parent_by text (Some split) s e = id_within text split.0 s e

within_by : (text : ModelRecord) (path : Path) (parent : Option SpaceId) (long : ℕ) → parent ≡ parent_of text path → long ≡ length text.spaces → IfSome parent (λ s. s.0 < long)
within_by text path None long is e = tt
within_by text path (Some s) long is e = let l = parent_by text (split_last path) s (sym is) in omega arith

pub parent_within : (text : ModelRecord) (path : Path) (parent : Option SpaceId) (place : ℕ) (lists : List (List SpaceId)) → LinksUpTo text place lists → parent ≡ parent_of text path → IfSome parent (λ s. s.0 < length lists)
parent_within text path parent place lists links is = within_by text path parent (length lists) is links.long
