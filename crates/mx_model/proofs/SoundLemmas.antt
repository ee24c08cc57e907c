-- A valid text has bases that can be linearised and distinct paths, and so its layers are distinct spaces.
use Rattle.std.proofs.Common.{◌≡◌, ◌<◌, Bool, true, false, List, [], ◌∷◌, ◌++◌, length, Option, Some, None, Result, Ok, Err, slice_get, ◌⊎◌, inl, inr, refl, sym, ◌∙◌, ap, subst, arith}
use Rattle.std.specs.Prelude.{option_map, nat_lt, if◌then◌else◌, option_and_then}
use Rattle.std.specs.List.{filter_map}
use Rattle.std.proofs.lemmas.Option.{slice_get-map}
use Rattle.std.proofs.lemmas.List.{length-map, append_cancel_right}
use Rattle.mx_value.proofs.NodeSames.{path_decides}
use Rattle.mx_c3.specs.declared.space.SpaceId.{SpaceId}
use Rattle.mx_c3.specs.Lists.{Among, Distinct, AllDistinct}
use Rattle.mx_c3.specs.InOrder.{AllBelow}
use Rattle.mx_c3.specs.Merge.{merge}
use Rattle.mx_c3.specs.Linearisation.{c3, each, before_all, Leads, AreSound}
use Rattle.mx_c3.proofs.LinearLemmas.{base_in_range, same_place}
use Rattle.mx_c3.proofs.LinearLaws.{c3_order}
use Rattle.mx_c3.proofs.NextLaws.{kept}
use Rattle.mx_model.specs.Records.{Name, Path, SpaceRecord, ModelRecord}
use Rattle.mx_model.specs.declared.layers.Layered.{Layered}
use Rattle.mx_model.specs.declared.layers.Layered.TheVariants.{Layers, NoOrder, NotStatic}
use Rattle.mx_model.specs.Layers.{paths_of, id_of, space_of, base_lists, child_of, layers, further, below, of_children, at_top, layered, merge_orders, is_there}
use Rattle.mx_model.specs.Paths.{split_last, name_below, child_names}
use Rattle.mx_model.specs.Rings.{IsDefined}
use Rattle.mx_edit.specs.declared.refusal.EditRefusal.TheVariants as refusal
use Rattle.mx_edit.specs.declared.refusal.Limit.TheVariants as limit
use Rattle.mx_model.specs.Walk.{MeetsNothing, layers_trouble}
use Rattle.mx_model.specs.Parents.{HasParent}
use Rattle.mx_model.specs.Valid.{Valid, names_of}
use Rattle.mx_model.specs.Sound.{IsSound, AreSpaces, HasSpaces, ValidIsSound, RinglessIsSound, ChildrenAreDistinct, LayersAreSpaces, ValidHasOrders}
use Rattle.mx_model.proofs.Filtered.{IsTold, distinct_map, distinct_left, distinct_filter, has_filter, one_place}
use Rattle.mx_model.proofs.Places.{bases_sound, defined_space, id_within, one_path}

-- ---- a valid text is sound

abbrev path_in : SpaceRecord → Path
path_in s = s.path

abbrev name_in : Path → SpaceRecord → Option Name
name_in parent s = name_below parent (split_last s.path)

child_names_distinct : (text : ModelRecord) → Valid text → (parent : Path) → (parent ≡ []) ⊎ IsDefined text parent → Distinct (child_names text parent)
child_names_distinct text valid parent at =
    elim at [
      | inl e ↦
          let P : Path → Type 0 = λ p. Distinct (child_names text p) in
          subst P (sym e) (distinct_left (child_names text []) (names_of text.globals) valid.names.top)
      | inr d ↦
          let s = defined_space text parent d in
          let P : Path → Type 0 = λ p. Distinct (child_names text p) in
          let cells = names_of s.space.cells in
          let both = distinct_left (child_names text s.space.path ++ cells) (names_of s.space.references) (valid.names.members s.space s.among) in
          subst P s.is (distinct_left (child_names text s.space.path) cells both)
    ]

path_told : (text : ModelRecord) → Valid text → (s : SpaceRecord) (split : Option (Path × Name)) → split_last s.path ≡ split → HasParent text split → IsTold Name path_in text.spaces s
path_told text valid s None e h = absurd h
path_told text valid s (Some (parent, name)) e h = record {
  result = name_in parent;
  told = name;
  is = ap (name_below parent) e ∙ ap (λ (b : Bool). if b then Some name else None) ((path_decides parent parent).1 refl);
  same = λ z i. ap (λ (p : Path). name_below parent (split_last p)) i;
  distinct = child_names_distinct text valid parent h;
}

pub ringless_sound : RinglessIsSound
ringless_sound text paths bases no_ring = record { bases = bases_sound text bases no_ring; paths = paths }

pub valid_sound : ValidIsSound
valid_sound text valid =
    let paths = distinct_map Name path_in text.spaces (λ s h. path_told text valid s (split_last s.path) refl (valid.names.parents s h)) in
    ringless_sound text paths (λ s h. (valid.bases s h).0) valid.no_ring

-- ---- children

record ChildAt (text : ModelRecord) (name : Name) (s c : SpaceId) : Type 0 where
  pub path : Path
  pub at : slice_get (paths_of text) s.0 ≡ Some path
  pub is : id_of text (path ++ name ∷ []) ≡ Some c

child_by : (text : ModelRecord) (name : Name) (s c : SpaceId) (space : Option SpaceRecord) → space_of text s ≡ space → option_and_then (λ (space : SpaceRecord). id_of text (space.path ++ name ∷ [])) space ≡ Some c → ChildAt text name s c
child_by text name s c None e i = absurd (let f : None ≡ Some c = i in cc)
child_by text name s c (Some space) e i = record {
  path = space.path;
  at = slice_get-map path_in text.spaces s.0 ∙ ap (option_map path_in) e;
  is = i;
}

child_at : (text : ModelRecord) (name : Name) (s c : SpaceId) → child_of text name s ≡ Some c → ChildAt text name s c
child_at text name s c e = child_by text name s c (space_of text s) refl e

one_parent : (text : ModelRecord) (name : Name) → Distinct (paths_of text) → (s z c : SpaceId) → child_of text name s ≡ Some c → child_of text name z ≡ Some c → s ≡ z
one_parent text name paths s z c e f =
    let m = child_at text name s c e in
    let n = child_at text name z c f in
    let same : m.path ≡ n.path = append_cancel_right m.path n.path (name ∷ []) (one_path text (m.path ++ name ∷ []) (n.path ++ name ∷ []) c m.is n.is) in
    same_place s z (one_place (paths_of text) s.0 z.0 m.path paths m.at (n.at ∙ ap Some (sym same)))

pub children_spaces : ChildrenAreDistinct
children_spaces text name spaces sound d = (
  distinct_filter (child_of text name) spaces (λ s z c e f. one_parent text name sound.paths s z c e f) d.0,
  λ x h.
      let m = has_filter (child_of text name) spaces x h in
      let c = child_at text name m.from x m.is in
      id_within text (c.path ++ name ∷ []) x c.is,
)

-- ---- layers

reach_in_range : (lists : List (List SpaceId)) → AreSound lists → (s : SpaceId) (via : List SpaceId) (x : SpaceId) → Leads lists s via x → x.0 < length lists
reach_in_range lists sound s [] x l = base_in_range lists s x sound l
reach_in_range lists sound s (b ∷ via) x l = reach_in_range lists sound b via x l.1

pub many : (text : ModelRecord) → length (base_lists text) ≡ length text.spaces
many text = length-map text.spaces (λ (s : SpaceRecord). filter_map (id_of text) s.bases)

-- an order is one of distinct spaces
pub order_spaces : (text : ModelRecord) → IsSound text → (s : SpaceId) (order : List SpaceId) → s.0 < length text.spaces → c3 (base_lists text) s ≡ Ok order → AreSpaces text order
order_spaces text sound s order h e =
    let long = many text in
    let is = c3_order (base_lists text) sound.bases s order (omega arith) e in (
      is.once,
      λ x i. elim ((is.reached x).0 i) [
        | inl j ↦ subst (λ (z : SpaceId). z.0 < length text.spaces) j h
        | inr r ↦ let l : x.0 < length (base_lists text) = reach_in_range (base_lists text) sound.bases s r.via x r.leads in omega arith
      ],
    )

-- lists of distinct spaces
abbrev pub AreAllSpaces : ModelRecord → List (List SpaceId) → Type 0
AreAllSpaces text lists = AllDistinct lists × ((x : SpaceId) → Among lists x → x.0 < length text.spaces)

none_spaces : (text : ModelRecord) → AreAllSpaces text []
none_spaces text = (tt, λ x h. absurd h)

first_spaces : (text : ModelRecord) (order : List SpaceId) (orders : List (List SpaceId)) → AreSpaces text order → AreAllSpaces text orders → AreAllSpaces text (order ∷ orders)
first_spaces text order orders a b = ((a.0, b.0), λ x h. elim h [ inl i ↦ a.1 x i | inr r ↦ b.1 x r ])

pub last_spaces : (text : ModelRecord) (orders : List (List SpaceId)) (order : List SpaceId) → AreAllSpaces text orders → AreSpaces text order → AreAllSpaces text (orders ++ order ∷ [])
last_spaces text [] order a b = first_spaces text order [] b (none_spaces text)
last_spaces text (o ∷ orders) order a b =
    let r = last_spaces text orders order (a.0.1, λ x h. a.1 x (inr h)) b in
    first_spaces text o (orders ++ order ∷ []) (a.0.0, λ x h. a.1 x (inl h)) r

record Split (r : Result (List SpaceId) (List SpaceId)) (rest : Result (List (List SpaceId)) (List SpaceId)) (orders : List (List SpaceId)) : Type 0 where
  pub first : List SpaceId
  pub others : List (List SpaceId)
  pub was : r ≡ Ok first
  pub were : rest ≡ Ok others
  pub is : orders ≡ first ∷ others

split : (r : Result (List SpaceId) (List SpaceId)) (rest : Result (List (List SpaceId)) (List SpaceId)) (orders : List (List SpaceId)) → before_all r rest ≡ Ok orders → Split r rest orders
split (Err b) rest orders e = absurd (let i : Err b ≡ Ok orders = e in cc)
split (Ok o) (Err b) orders e = absurd (let i : Err b ≡ Ok orders = e in cc)
split (Ok o) (Ok os) orders e = record { first = o; others = os; was = refl; were = refl; is = let i : orders ≡ o ∷ os = cc in i }

pub each_spaces : (text : ModelRecord) → IsSound text → (spaces : List SpaceId) (orders : List (List SpaceId)) → AllBelow (length text.spaces) spaces → each (c3 (base_lists text)) spaces ≡ Ok orders → AreAllSpaces text orders
each_spaces text sound [] orders below e =
    let n : [] ≡ orders = cc in
    let P : List (List SpaceId) → Type 0 = λ os. AreAllSpaces text os in
    subst P n (none_spaces text)
each_spaces text sound (s ∷ spaces) orders below e =
    let m = split (c3 (base_lists text) s) (each (c3 (base_lists text)) spaces) orders e in
    let P : List (List SpaceId) → Type 0 = λ os. AreAllSpaces text os in
    let o = order_spaces text sound s m.first (below s (inl refl)) m.was in
    let os = each_spaces text sound spaces m.others (λ x h. below x (inr h)) m.were in
    subst P (sym m.is) (first_spaces text m.first m.others o os)

layered_spaces : (text : ModelRecord) (r : Result (List SpaceId) (List SpaceId)) → ((order : List SpaceId) → r ≡ Ok order → AreSpaces text order) → HasSpaces text (layered r)
layered_spaces text (Ok order) f = f order refl
layered_spaces text (Err blocked) f = tt

merged_spaces : (text : ModelRecord) → IsSound text → (spaces : List SpaceId) → AreSpaces text spaces → (r : Result (List (List SpaceId)) (List SpaceId)) → each (c3 (base_lists text)) spaces ≡ r → HasSpaces text (layered (merge_orders spaces r))
merged_spaces text sound spaces are (Err blocked) e = tt
merged_spaces text sound spaces are (Ok orders) e =
    let all = last_spaces text orders spaces (each_spaces text sound spaces orders are.1 e) are in
    layered_spaces text (merge (orders ++ spaces ∷ [])) (λ order i.
    let k = kept (orders ++ spaces ∷ []) order i in
    (k.once, λ x h. all.1 x ((k.members x).0 h)))

of_children_spaces : (text : ModelRecord) → IsSound text → (spaces : List SpaceId) → AreSpaces text spaces → HasSpaces text (of_children text spaces)
of_children_spaces text sound [] are = tt
of_children_spaces text sound (d ∷ ds) are = merged_spaces text sound (d ∷ ds) are (each (c3 (base_lists text)) (d ∷ ds)) refl

-- one name further
pub below_spaces : (text : ModelRecord) → IsSound text → (reached : Layered) (name : Name) → HasSpaces text reached → HasSpaces text (below text reached name)
below_spaces text sound (Layers spaces) name k = of_children_spaces text sound (filter_map (child_of text name) spaces) (children_spaces text name spaces sound k)
below_spaces text sound NoOrder name k = tt
below_spaces text sound NotStatic name k = tt

further_spaces : (text : ModelRecord) → IsSound text → (reached : Layered) (names : List Name) → HasSpaces text reached → HasSpaces text (further text reached names)
further_spaces text sound reached [] k = k
further_spaces text sound reached (name ∷ names) k = further_spaces text sound (below text reached name) names (below_spaces text sound reached name k)

at_top_by : (text : ModelRecord) → IsSound text → (path : Path) (found : Option SpaceId) → id_of text path ≡ found → HasSpaces text (at_top text found)
at_top_by text sound path None e = tt
at_top_by text sound path (Some s) e = layered_spaces text (c3 (base_lists text) s) (λ order i. order_spaces text sound s order (id_within text path s e) i)

pub at_top_spaces : (text : ModelRecord) → IsSound text → (path : Path) → HasSpaces text (at_top text (id_of text path))
at_top_spaces text sound path = at_top_by text sound path (id_of text path) refl

pub layers_spaces : LayersAreSpaces
layers_spaces text [] sound = tt
layers_spaces text (name ∷ names) sound = further_spaces text sound (at_top text (id_of text (name ∷ []))) names (at_top_spaces text sound (name ∷ []))

-- ---- orders

no_order_by : (text : ModelRecord) (path : Path) → MeetsNothing text → layers text path ≡ NoOrder → (long : Bool) → nat_lt 64 (length path) ≡ long → ⊥
no_order_by text path walked e true l = walked path (refusal.TooMany limit.Depth) (ap is_there e) (inl (ap (λ (b : Bool). if b then Some (refusal.TooMany limit.Depth) else layers_trouble path (layers text path)) l))
no_order_by text path walked e false l =
    let own = ap (λ (b : Bool). if b then Some (refusal.TooMany limit.Depth) else layers_trouble path (layers text path)) l in
    walked path (refusal.NoOrder path) (ap is_there e) (inl (own ∙ ap (layers_trouble path) e))

pub valid_orders : ValidHasOrders
valid_orders text path valid e = no_order_by text path valid.walked e (nat_lt 64 (length path)) refl

-- ---- orders, one after the other

pub each_more : (f : SpaceId → Result (List SpaceId) (List SpaceId)) (xs : List SpaceId) (orders : List (List SpaceId)) (x : SpaceId) (order : List SpaceId) → each f xs ≡ Ok orders → f x ≡ Ok order → each f (xs ++ x ∷ []) ≡ Ok (orders ++ order ∷ [])
each_more f [] orders x order e o = let n : [] ≡ orders = cc in ap (λ (r : Result (List SpaceId) (List SpaceId)). before_all r (Ok [])) o ∙ ap (λ (os : List (List SpaceId)). Ok (os ++ order ∷ [])) n
each_more f (y ∷ xs) orders x order e o =
    let s = split (f y) (each f xs) orders e in
    let rest = each_more f xs s.others x order s.were o in
    let one : before_all (f y) (each f (xs ++ x ∷ [])) ≡ before_all (Ok s.first) (each f (xs ++ x ∷ [])) = ap (λ (r : Result (List SpaceId) (List SpaceId)). before_all r (each f (xs ++ x ∷ []))) s.was in
    one ∙ ap (before_all (Ok s.first)) rest ∙ ap (λ (os : List (List SpaceId)). Ok (os ++ order ∷ [])) (sym s.is)

pub each_stop : (f : SpaceId → Result (List SpaceId) (List SpaceId)) (xs ys : List SpaceId) (orders : List (List SpaceId)) (x : SpaceId) (blocked : List SpaceId) → each f xs ≡ Ok orders → f x ≡ Err blocked → each f (xs ++ x ∷ ys) ≡ Err blocked
each_stop f [] ys orders x blocked e o = ap (λ (r : Result (List SpaceId) (List SpaceId)). before_all r (each f ys)) o
each_stop f (y ∷ xs) ys orders x blocked e o =
    let s = split (f y) (each f xs) orders e in
    let rest = each_stop f xs ys s.others x blocked s.were o in
    ap (λ (r : Result (List SpaceId) (List SpaceId)). before_all r (each f (xs ++ x ∷ ys))) s.was ∙ ap (before_all (Ok s.first)) rest
