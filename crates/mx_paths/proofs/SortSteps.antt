-- One more space is entered among the children of its parent.
use Rattle.std.proofs.Common.{◌≡◌, ℕ, zero, suc, ◌+◌, ◌<◌, ◌≤◌, Bool, true, false, List, [], ◌∷◌, ◌++◌, length, take, ◌-◌, replicate, get_or, slice_set, Option, Some, None, slice_get, refl, sym, ◌∙◌, ap, subst, arith}
use Rattle.std.specs.Prelude.{if◌then◌else◌, ◌==◌, nat_lt, is_some, IsTrue, option_map, option_and_then}
use Rattle.std.proofs.lemmas.Bool.Decides.{nat_tests}
use Rattle.std.proofs.lemmas.Option.{same_Some, slice_get-map}
use Rattle.std.proofs.lemmas.List.{get_or-set_same, get_or-set_other, length-set, get_or-replicate, length-replicate, take_more, take_all}
use Rattle.std.proofs.lemmas.Bool.{eqb-true, eq-eqb}
use Rattle.mx_value.specs.Name.{same_name}
use Rattle.mx_c3.specs.declared.space.SpaceId.{SpaceId}
use Rattle.mx_c3.specs.Lists.{Has, Distinct}
use Rattle.mx_c3.proofs.LinearLemmas.{same_place}
use Rattle.mx_model.specs.Records.{Name, Path, SpaceRecord, ModelRecord}
use Rattle.mx_model.specs.Layers.{paths_of, id_of, space_of, child_of}
use Rattle.mx_model.proofs.Filtered.{place_has, one_place}
use Rattle.mx_model.proofs.Places.{id_at, id_within, path_defined}
use Rattle.mx_model.proofs.NameLemmas.{same_is, is_same}
use Rattle.mx_paths.specs.declared.child.Child.{Child}
use Rattle.mx_paths.specs.Names.{IsNamed}
use Rattle.mx_paths.specs.Siblings.{IsRising, named}
use Rattle.mx_model.specs.Readers.{path_in}
use Rattle.mx_paths.specs.Walking.{IsTop, AreFamilies}
use Rattle.mx_paths.specs.Sorting.{IsEntered, AreSorted, among_first}
use Rattle.mx_paths.proofs.SiblingLemmas.{chosen}

-- ---- one space more

next_first : (k : ℕ) (o : Option SpaceId) → (o ≡ Some (record { 0 = k }) → ⊥) → among_first (k + 1) o ≡ among_first k o
next_first k None n = refl
next_first k (Some s) n =
    let apart : s.0 ≡ k → ⊥ = λ e. n (ap Some (same_place s (record { 0 = k }) e)) in
    ap (λ b. if b then Some s else None) (tests s.0 k apart)
  where
    tests : (a k : ℕ) → (a ≡ k → ⊥) → nat_lt a (k + 1) ≡ nat_lt a k
    tests a k n = grind (arith, nat_tests)

own_first : (k : ℕ) (o : Option SpaceId) → o ≡ Some (record { 0 = k }) → among_first (k + 1) o ≡ Some (record { 0 = k })
own_first k o e = ap (among_first (k + 1)) e ∙ ap (λ b. if b then Some (record { 0 = k }) else None) (test k)
  where
    test : (k : ℕ) → nat_lt k (k + 1) ≡ true
    test k = grind (arith, nat_tests)

own_not : (k : ℕ) (o : Option SpaceId) → o ≡ Some (record { 0 = k }) → among_first k o ≡ None
own_not k o e = ap (among_first k) e ∙ ap (λ b. if b then Some (record { 0 = k }) else None) (test k)
  where
    test : (k : ℕ) → nat_lt k k ≡ false
    test k = grind (arith, nat_tests)

-- ---- ids

some_id : (text : ModelRecord) (path : Path) (found : Option SpaceId) (k : SpaceId) → Distinct (paths_of text) → id_of text path ≡ found → IsTrue (is_some found) → slice_get (paths_of text) k.0 ≡ Some path → id_of text path ≡ Some k
some_id text path None k d e t at = absurd (let f : false ≡ true = t in cc)
some_id text path (Some s) k d e t at = e ∙ ap Some (same_place s k (one_place (paths_of text) s.0 k.0 path d (id_at text path s e) at))

-- a path at a place has that place as id
pub id_is : (text : ModelRecord) (path : Path) (k : SpaceId) → Distinct (paths_of text) → slice_get (paths_of text) k.0 ≡ Some path → id_of text path ≡ Some k
id_is text path k d at = some_id text path (id_of text path) k d refl (path_defined text path (place_has (paths_of text) k.0 path at)) at

is_path : (text : ModelRecord) (path other : Path) (k : SpaceId) → slice_get (paths_of text) k.0 ≡ Some path → id_of text other ≡ Some k → other ≡ path
is_path text path other k at e = same_Some other path (sym (id_at text other k e) ∙ at)

record ChildAt (text : ModelRecord) (name : Name) (s c : SpaceId) : Type 0 where
  pub path : Path
  pub at : slice_get (paths_of text) s.0 ≡ Some path
  pub is : id_of text (path ++ name ∷ []) ≡ Some c

child_by : (text : ModelRecord) (name : Name) (s c : SpaceId) (space : Option SpaceRecord) → space_of text s ≡ space → option_and_then (λ (space : SpaceRecord). id_of text (space.path ++ name ∷ [])) space ≡ Some c → ChildAt text name s c
child_by text name s c None e i = absurd (let f : None ≡ Some c = i in cc)
child_by text name s c (Some space) e i = record {
  path = space.path;
  at = slice_get-map (λ (s : SpaceRecord). s.path) text.spaces s.0 ∙ ap (option_map (λ (s : SpaceRecord). s.path)) e;
  is = i;
}

child_at : (text : ModelRecord) (name : Name) (s c : SpaceId) → child_of text name s ≡ Some c → ChildAt text name s c
child_at text name s c e = child_by text name s c (space_of text s) refl e

child_is_by : (text : ModelRecord) (name : Name) (s c : SpaceId) (path : Path) (space : Option SpaceRecord) → option_map (λ (s : SpaceRecord). s.path) space ≡ Some path → id_of text (path ++ name ∷ []) ≡ Some c → option_and_then (λ (space : SpaceRecord). id_of text (space.path ++ name ∷ [])) space ≡ Some c
child_is_by text name s c path None e i = absurd (let f : None ≡ Some path = e in cc)
child_is_by text name s c path (Some space) e i = let f : space.path ≡ path = same_Some space.path path e in ap (λ (p : Path). id_of text (p ++ name ∷ [])) f ∙ i

child_is : (text : ModelRecord) (name : Name) (s c : SpaceId) (path : Path) → slice_get (paths_of text) s.0 ≡ Some path → id_of text (path ++ name ∷ []) ≡ Some c → child_of text name s ≡ Some c
child_is text name s c path at i = child_is_by text name s c path (space_of text s) (sym (slice_get-map (λ (s : SpaceRecord). s.path) text.spaces s.0) ∙ at) i

pub last_parts : (p q : Path) (a b : Name) → p ++ a ∷ [] ≡ q ++ b ∷ [] → (p ≡ q) × (a ≡ b)
last_parts [] [] a b e = (refl, let f : a ≡ b = cc in f)
last_parts [] (y ∷ []) a b e = absurd (let f : [] ≡ b ∷ [] = cc in cc)
last_parts [] (y ∷ z ∷ q) a b e = absurd (let f : [] ≡ z ∷ (q ++ b ∷ []) = cc in cc)
last_parts (x ∷ []) [] a b e = absurd (let f : a ∷ [] ≡ [] = cc in cc)
last_parts (x ∷ z ∷ p) [] a b e = absurd (let f : z ∷ (p ++ a ∷ []) ≡ [] = cc in cc)
last_parts (x ∷ p) (y ∷ q) a b e =
    let f : p ++ a ∷ [] ≡ q ++ b ∷ [] = cc in
    let g : x ≡ y = cc in
    let r = last_parts p q a b f in
    (let h = r.0 in cc, r.1)

-- ---- the steps

module _ (text : ModelRecord) (named_text : IsNamed text) (once : Distinct (paths_of text)) (k : ℕ) (names : Path) (last : Name) (at : slice_get (paths_of text) k ≡ Some (names ++ last ∷ [])) (tops : List Child) (families : List (List Child)) (sorted : AreSorted text k tops families) where
  here : SpaceId
  here = record { 0 = k }

  own_id : id_of text (names ++ last ∷ []) ≡ Some (record { 0 = k })
  own_id = id_is text (names ++ last ∷ []) (record { 0 = k }) once at

  -- which space it is a child of
  its_parent : (n : Name) (s : SpaceId) → child_of text n s ≡ Some (record { 0 = k }) → (slice_get (paths_of text) s.0 ≡ Some names) × (n ≡ last)
  its_parent n s e =
      let c = child_at text n s (record { 0 = k }) e in
      let same = last_parts c.path names n last (is_path text (names ++ last ∷ []) (c.path ++ n ∷ []) (record { 0 = k }) at c.is) in
      (c.at ∙ ap Some same.0, same.1)

  at_top : (n : Name) → id_of text (n ∷ []) ≡ Some (record { 0 = k }) → (names ≡ []) × (n ≡ last)
  at_top n e = let same = last_parts [] names n last (is_path text (names ++ last ∷ []) (n ∷ []) (record { 0 = k }) at e) in (sym same.0, same.1)

  kept_top : (names ≡ [] → ⊥) → (n : Name) → named n tops ≡ among_first (k + 1) (id_of text (n ∷ []))
  kept_top some n = sorted.has_top n ∙ sym (next_first k (id_of text (n ∷ [])) (λ e. some ((at_top n e).0)))

  kept : (s : SpaceId) (n : Name) → s.0 < length text.spaces → (slice_get (paths_of text) s.0 ≡ Some names → ⊥) → named n (get_or families s.0 []) ≡ among_first (k + 1) (child_of text n s)
  kept s n h other = sorted.has s n h ∙ sym (next_first k (child_of text n s) (λ e. other ((its_parent n s e).0)))

  -- a space whose parent is not there is the child of none
  pub skipped : (names ≡ [] → ⊥) → id_of text names ≡ None → AreSorted text (k + 1) tops families
  skipped some none = record {
    long = sorted.long;
    rising = sorted.rising;
    has = λ s n h. kept s n h (λ e. let f : None ≡ Some s = sym none ∙ id_is text names s once e in cc);
    rising_top = sorted.rising_top;
    has_top = kept_top some;
  }

  -- at the top
  pub new_top : names ≡ [] → named last tops ≡ None
  new_top e = sorted.has_top last ∙ own_not k (id_of text (last ∷ [])) (ap (λ (p : Path). id_of text (p ++ last ∷ [])) (sym e) ∙ own_id)

  top_entered : (new : List Child) → names ≡ [] → IsEntered (record { name = last; space = record { 0 = k } }) tops new → (n : Name) (b : Bool) → same_name n last ≡ b → named n new ≡ among_first (k + 1) (id_of text (n ∷ []))
  top_entered new e entered n true t =
      let own : id_of text (n ∷ []) ≡ Some (record { 0 = k }) = ap (λ (m : Name). id_of text (m ∷ [])) (same_is n last t) ∙ ap (λ (p : Path). id_of text (p ++ last ∷ [])) (sym e) ∙ own_id in
      entered.has n ∙ ap (λ b. chosen b (Some (record { 0 = k })) (named n tops)) t ∙ sym (own_first k (id_of text (n ∷ [])) own)
  top_entered new e entered n false t =
      entered.has n ∙ ap (λ b. chosen b (Some (record { 0 = k })) (named n tops)) t ∙ sorted.has_top n ∙
      sym (next_first k (id_of text (n ∷ [])) (λ i. let f : true ≡ false = sym (is_same n last ((at_top n i).1)) ∙ t in cc))

  pub with_top : (new : List Child) → names ≡ [] → IsEntered (record { name = last; space = record { 0 = k } }) tops new → AreSorted text (k + 1) new families
  with_top new e entered = record {
    long = sorted.long;
    rising = sorted.rising;
    has = λ s n h. kept s n h (λ i. named_text.some (subst (λ (p : Path). Has (paths_of text) p) e (place_has (paths_of text) s.0 names i)));
    rising_top = entered.rising;
    has_top = λ n. top_entered new e entered n (same_name n last) refl;
  }

  -- below a space
  module _ (parent : SpaceId) (is : id_of text names ≡ Some parent) where
    parent_at : slice_get (paths_of text) parent.0 ≡ Some names
    parent_at = id_at text names parent is

    within : parent.0 < length text.spaces
    within = id_within text names parent is

    own_child : child_of text last parent ≡ Some (record { 0 = k })
    own_child = child_is text last parent (record { 0 = k }) names parent_at own_id

    pub new_child : named last (get_or families parent.0 []) ≡ None
    new_child = sorted.has parent last within ∙ own_not k (child_of text last parent) own_child

    module _ (new : List Child) (entered : IsEntered (record { name = last; space = record { 0 = k } }) (get_or families parent.0 []) new) where
      child_entered : (n : Name) (b : Bool) → same_name n last ≡ b → named n new ≡ among_first (k + 1) (child_of text n parent)
      child_entered n true t =
          let own : child_of text n parent ≡ Some (record { 0 = k }) = ap (λ (m : Name). child_of text m parent) (same_is n last t) ∙ own_child in
          entered.has n ∙ ap (λ b. chosen b (Some (record { 0 = k })) (named n (get_or families parent.0 []))) t ∙ sym (own_first k (child_of text n parent) own)
      child_entered n false t =
          entered.has n ∙ ap (λ b. chosen b (Some (record { 0 = k })) (named n (get_or families parent.0 []))) t ∙ sorted.has parent n within ∙
          sym (next_first k (child_of text n parent) (λ i. let f : true ≡ false = sym (is_same n last ((its_parent n parent i).1)) ∙ t in cc))

      at_place : (s : SpaceId) (n : Name) → s.0 < length text.spaces → (b : Bool) → (s.0 == parent.0) ≡ b → (IsRising (get_or (slice_set families parent.0 new) s.0 [])) × (named n (get_or (slice_set families parent.0 new) s.0 []) ≡ among_first (k + 1) (child_of text n s))
      at_place s n h true e =
          let same : s ≡ parent = same_place s parent (eqb-true s.0 parent.0 e) in
          let long = sorted.long in
          let w = within in
          let set : get_or (slice_set families parent.0 new) parent.0 [] ≡ new = get_or-set_same families parent.0 new [] (omega arith) in
          let P : SpaceId → Type 0 = λ z. (IsRising (get_or (slice_set families parent.0 new) z.0 [])) × (named n (get_or (slice_set families parent.0 new) z.0 []) ≡ among_first (k + 1) (child_of text n z)) in
          subst P (sym same) (subst IsRising (sym set) entered.rising, ap (named n) set ∙ child_entered n (same_name n last) refl)
      at_place s n h false e =
          let apart : s.0 ≡ parent.0 → ⊥ = λ i. let f : true ≡ false = sym (eq-eqb s.0 parent.0 i) ∙ e in cc in
          let set : get_or (slice_set families parent.0 new) s.0 [] ≡ get_or families s.0 [] = get_or-set_other families parent.0 s.0 new [] apart in (
            subst IsRising (sym set) (sorted.rising s h),
            ap (named n) set ∙ kept s n h (λ i. apart (one_place (paths_of text) s.0 parent.0 names once i parent_at)),
          )

      pub with_child : (names ≡ [] → ⊥) → AreSorted text (k + 1) tops (slice_set families parent.0 new)
      with_child some = record {
        long = length-set families parent.0 new ∙ sorted.long;
        rising = λ s h. (at_place s last h (s.0 == parent.0) refl).0;
        has = λ s n h. (at_place s n h (s.0 == parent.0) refl).1;
        rising_top = sorted.rising_top;
        has_top = kept_top some;
      }

-- ---- the path of the space

placed : (text : ModelRecord) (s : SpaceId) (path : Path) → path_in text s ≡ Some path → slice_get (paths_of text) s.0 ≡ Some path
placed text s path e = slice_get-map (λ (s : SpaceRecord). s.path) text.spaces s.0 ∙ e

pub no_path : (text : ModelRecord) (s : SpaceId) (path items : Path) → IsNamed text → path_in text s ≡ Some path → items ≡ path → length items < 1 → ⊥
no_path text s path [] named_text e i l = named_text.some (place_has (paths_of text) s.0 [] (placed text s path e ∙ ap Some (sym i)))
no_path text s path (x ∷ items) named_text e i l = omega arith

ends : (s : Path) (last : Name) → 1 ≤ length s → last ≡ get_or s (length s - 1) last → take (length s - 1) s ++ last ∷ [] ≡ s
ends s last some is =
    let within : length s - 1 < length s = omega arith in
    let whole : length s - 1 + 1 ≡ length s = omega arith in
    ap (λ (x : Name). take (length s - 1) s ++ x ∷ []) is ∙ sym (take_more s (length s - 1) last within) ∙ ap (λ (n : ℕ). take n s) whole ∙ take_all (length s) s (omega arith)

pub path_split : (text : ModelRecord) (s : SpaceId) (path items : Path) (last copied : Name) → path_in text s ≡ Some path → items ≡ path → 1 ≤ length items → last ≡ get_or items (length items - 1) last → copied ≡ last → slice_get (paths_of text) s.0 ≡ Some (take (length items - 1) items ++ copied ∷ [])
path_split text s path items last copied e i some is c =
    placed text s path e ∙ ap Some (sym (ap (λ (x : Name). take (length items - 1) items ++ x ∷ []) c ∙ ends items last some is ∙ i))

pub empty_names : (names : Path) → length names ≡ 0 → names ≡ []
empty_names [] e = refl
empty_names (x ∷ names) e = absurd (omega arith)

pub some_names : (names : Path) → (length names ≡ 0 → ⊥) → names ≡ [] → ⊥
some_names names n e = n (ap length e)

same_get : (xs : List (List Child)) (i : ℕ) (d e : List Child) → i < length xs → get_or xs i d ≡ get_or xs i e
same_get [] i d e l = absurd (omega arith)
same_get (x ∷ xs) zero d e l = refl
same_get (x ∷ xs) (suc i) d e l = same_get xs i d e (omega arith)

-- the family at a place that is written
pub family_at : (text : ModelRecord) (path : Path) (parent : SpaceId) (families : List (List Child)) (family : List Child) → id_of text path ≡ Some parent → length families ≡ length text.spaces → family ≡ get_or families parent.0 family → family ≡ get_or families parent.0 []
family_at text path parent families family e long is =
    let w = id_within text path parent e in
    is ∙ same_get families parent.0 family [] (omega arith)

-- ---- the beginning and the end

none_first : (o : Option SpaceId) → among_first 0 o ≡ None
none_first None = refl
none_first (Some s) = ap (λ b. if b then Some s else None) (test s.0)
  where
    test : (n : ℕ) → nat_lt n 0 ≡ false
    test n = grind (arith, nat_tests)

pub none_sorted : (text : ModelRecord) → AreSorted text 0 [] (replicate (length text.spaces) [])
none_sorted text = record {
  long = length-replicate (length text.spaces) [];
  rising = λ s h. subst IsRising (sym (get_or-replicate (length text.spaces) s.0 [] [] h)) tt;
  has = λ s n h. ap (named n) (get_or-replicate (length text.spaces) s.0 [] [] h) ∙ sym (none_first (child_of text n s));
  rising_top = tt;
  has_top = λ n. sym (none_first (id_of text (n ∷ [])));
}

all_first : (n : ℕ) (o : Option SpaceId) → ((s : SpaceId) → o ≡ Some s → s.0 < n) → among_first n o ≡ o
all_first n None within = refl
all_first n (Some s) within = ap (λ b. if b then Some s else None) (test s.0 n (within s refl))
  where
    test : (a n : ℕ) → a < n → nat_lt a n ≡ true
    test a n h = grind (arith, nat_tests)

pub all_sorted : (text : ModelRecord) (tops : List Child) (families : List (List Child)) → AreSorted text (length text.spaces) tops families → IsTop text tops × AreFamilies text families
all_sorted text tops families sorted = (
  record {
    rising = sorted.rising_top;
    has = λ n. sorted.has_top n ∙ all_first (length text.spaces) (id_of text (n ∷ [])) (λ s e. id_within text (n ∷ []) s e);
  },
  record {
    long = sorted.long;
    each = λ s h. record {
      rising = sorted.rising s h;
      has = λ n. sorted.has s n h ∙ all_first (length text.spaces) (child_of text n s) (λ c e. let m = child_at text n s c e in id_within text (m.path ++ n ∷ []) c m.is);
    };
  },
)
