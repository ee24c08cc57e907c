-- Rings of spaces by place and by path.
use Rattle.std.proofs.Common.{◌≡◌, ℕ, zero, suc, ◌+◌, ◌<◌, false, true, List, [], ◌∷◌, ◌++◌, length, take, get_or, slice_get, map, Option, Some, None, inl, inr, refl, sym, ◌∙◌, ap, subst, arith}
use Rattle.std.specs.Prelude.{option_and_then, IsTrue, is_some}
use Rattle.std.specs.List.{filter_map}
use Rattle.std.proofs.lemmas.List.{length-map, map-append, take_more}
use Rattle.std.proofs.lemmas.Option.{get_or_from_slice_get, slice_get-get_or, slice_get-map}
use Rattle.mx_c3.specs.declared.space.SpaceId.{SpaceId}
use Rattle.mx_c3.specs.Lists.{Has, Among, Distinct}
use Rattle.mx_c3.specs.InOrder.{AllBelow}
use Rattle.mx_c3.specs.Linearisation.{bases_of, Reaches}
use Rattle.mx_c3.specs.Linearisation.{Leads as LeadsBy}
use Rattle.mx_c3.proofs.ListLemmas.{has_at}
use Rattle.mx_c3.proofs.LinearLemmas.{same_place}
use Rattle.mx_model.specs.Records.{Name, Path, SpaceRecord, ModelRecord}
use Rattle.mx_model.specs.Paths.{split_last}
use Rattle.mx_model.specs.Layers.{paths_of, id_of, base_lists}
use Rattle.mx_model.specs.Readers.{path_in}
use Rattle.mx_model.specs.Rings.{IsDefined, HasBase, HasChild, Leads, LeadsThrough, IsRing, HasNoRing}
use Rattle.mx_model.proofs.Filtered.{place_has, one_place, map_has, has_filter, filter_has}
use Rattle.mx_model.proofs.Places.{id_at, id_within, path_defined, space_defined}
use Rattle.mx_model.proofs.Defined.{split_push, split_is}
use Rattle.mx_rings.specs.Links.{AreLinks, parent_of, path_at}
use Rattle.mx_rings.specs.Graph.{IsClosed}
use Rattle.mx_rings.specs.Graph.{IsRing as IsRingOf, HasNoRing as HasNoRingIn}
use Rattle.mx_rings.proofs.LinkLemmas.{path_is}
use Rattle.mx_rings.proofs.SearchLemmas.{place_of}

-- ---- places and paths

at_id : (text : ModelRecord) (path : Path) (s : SpaceId) → id_of text path ≡ Some s → path_at text s ≡ path
at_id text path s e = get_or_from_slice_get (paths_of text) s.0 path [] (id_at text path s e)

place_defined : (text : ModelRecord) (s : SpaceId) → s.0 < length text.spaces → IsDefined text (path_at text s)
place_defined text s l =
    let m = length-map text.spaces (λ (z : SpaceRecord). z.path) in
    let k : s.0 < length (paths_of text) = omega arith in
    path_defined text (path_at text s) (place_has (paths_of text) s.0 (path_at text s) (slice_get-get_or (paths_of text) s.0 [] k))

record HasId (text : ModelRecord) (path : Path) : Type 0 where
  pub id : SpaceId
  pub is : id_of text path ≡ Some id

id_by : (text : ModelRecord) (path : Path) (found : Option SpaceId) → id_of text path ≡ found → IsTrue (is_some found) → HasId text path
id_by text path None e t = absurd (let f : false ≡ true = t in cc)
id_by text path (Some s) e t = record { id = s; is = e }

has_id : (text : ModelRecord) (path : Path) → IsDefined text path → HasId text path
has_id text path d = id_by text path (id_of text path) refl d

-- places of the same path are the same
one_space : (text : ModelRecord) → Distinct (paths_of text) → (a b : SpaceId) → a.0 < length text.spaces → b.0 < length text.spaces → path_at text a ≡ path_at text b → a ≡ b
one_space text once a b l m e =
    let n = length-map text.spaces (λ (z : SpaceRecord). z.path) in
    let k : a.0 < length (paths_of text) = omega arith in
    let j : b.0 < length (paths_of text) = omega arith in
    same_place a b (one_place (paths_of text) a.0 b.0 (path_at text b) once (slice_get-get_or (paths_of text) a.0 [] k ∙ ap (λ (p : Path). Some p) e) (slice_get-get_or (paths_of text) b.0 [] j))

-- ---- bases

abbrev own_bases : ModelRecord → SpaceRecord → List SpaceId
own_bases text s = filter_map (id_of text) s.bases

record BaseAt (text : ModelRecord) (spaces : List SpaceRecord) (n : ℕ) (b : SpaceId) : Type 0 where
  pub space : SpaceRecord
  pub has : Has spaces space
  pub at : space.path ≡ get_or (map (λ (s : SpaceRecord). s.path) spaces) n []
  pub base : Path
  pub among : Has space.bases base
  pub is : id_of text base ≡ Some b

base_found : (text : ModelRecord) (spaces : List SpaceRecord) (n : ℕ) (b : SpaceId) → Has (get_or (map (own_bases text) spaces) n []) b → BaseAt text spaces n b
base_found text [] n b h = absurd h
base_found text (s ∷ spaces) zero b h =
    let m = has_filter (id_of text) s.bases b h in
    record { space = s; has = inl refl; at = refl; base = m.from; among = m.among; is = m.is }
base_found text (s ∷ spaces) (suc n) b h =
    let m = base_found text spaces n b h in
    record { space = m.space; has = inr m.has; at = m.at; base = m.base; among = m.among; is = m.is }

base_leads : (text : ModelRecord) (a b : SpaceId) → Has (bases_of (base_lists text) a) b → Leads text (path_at text a) (path_at text b) × (b.0 < length text.spaces)
base_leads text a b h =
    let m = base_found text text.spaces a.0 b h in
    let P : Path → Type 0 = λ p. IsDefined text p in
    let Q : Path → Type 0 = λ p. Has m.space.bases p in
    let base : HasBase text (path_at text a) (path_at text b) = record { space = m.space; has = m.has; at = m.at; among = subst Q (sym (at_id text m.base b m.is)) m.among } in
    ((subst P m.at (space_defined text m.space m.has), inr base), id_within text m.base b m.is)

base_by : (text : ModelRecord) (space : SpaceRecord) (spaces : List SpaceRecord) (n : ℕ) → slice_get spaces n ≡ Some space → get_or (map (own_bases text) spaces) n [] ≡ own_bases text space
base_by text space spaces n e = get_or_from_slice_get (map (own_bases text) spaces) n (own_bases text space) [] (slice_get-map (own_bases text) spaces n ∙ ap (λ (o : Option SpaceRecord). map_option o) e)
  where
    map_option : Option SpaceRecord → Option (List SpaceId)
    map_option None = None
    map_option (Some s) = Some (own_bases text s)

-- ---- children

child_by : (text : ModelRecord) (a b : SpaceId) (split : Option (Path × Name)) → split_last (path_at text b) ≡ split → option_and_then (λ (z : Path × Name). id_of text z.0) split ≡ Some a → b.0 < length text.spaces → Leads text (path_at text a) (path_at text b)
child_by text a b None s e l = absurd (let f : None ≡ Some a = e in cc)
child_by text a b (Some (parent, name)) s e l =
    let at = at_id text parent a e in
    let is = split_is (path_at text b) parent name s in
    let P : Path → Type 0 = λ p. IsDefined text p in
    let child : HasChild text (path_at text a) (path_at text b) = record { name = name; at = is ∙ ap (λ (p : Path). p ++ name ∷ []) (sym at); defined = place_defined text b l } in
    (place_defined text a (id_within text parent a e), inl child)

record AmongPlace (lists : List (List SpaceId)) (x : SpaceId) : Type 0 where
  pub place : SpaceId
  pub has : Has (bases_of lists place) x

among_place : (lists : List (List SpaceId)) (x : SpaceId) → Among lists x → AmongPlace lists x
among_place [] x h = absurd h
among_place (xs ∷ lists) x h =
    elim h [
      | inl here ↦ record { place = record { 0 = zero }; has = here }
      | inr there ↦ let m = among_place lists x there in record { place = record { 0 = suc m.place.0 }; has = m.has }
    ]

module _ (text : ModelRecord) (links : List (List SpaceId)) (are : AreLinks text links) where
  link_leads : (a b : SpaceId) → Has (bases_of links a) b → Leads text (path_at text a) (path_at text b) × (b.0 < length text.spaces)
  link_leads a b h =
      elim (are.only a b h) [
        | inl base ↦ base_leads text a b base
        | inr child ↦ (child_by text a b (split_last (path_at text b)) refl child.below child.before, child.before)
      ]

  pub links_closed : IsClosed links
  links_closed x h = let m = among_place links x h in let l = (link_leads m.place x m.has).1 in let e = are.long in omega arith

  link_ways : (a : SpaceId) (via : List SpaceId) (b : SpaceId) → LeadsBy links a via b → LeadsThrough text (path_at text a) (map (path_at text) via) (path_at text b)
  link_ways a [] b l = (link_leads a b l).0
  link_ways a (x ∷ via) b l = ((link_leads a x l.0).0, link_ways x via b l.1)

  -- from a link one comes on from a space of the text
  link_within : (a b : SpaceId) → Has (bases_of links a) b → a.0 < length text.spaces
  link_within a b h = let l = has_bases links a.0 b h in let e = are.long in omega arith
    where
      has_bases : (lists : List (List SpaceId)) (i : ℕ) (y : SpaceId) → Has (get_or lists i []) y → i < length lists
      has_bases [] i y h = absurd h
      has_bases (l ∷ lists) zero y h = omega arith
      has_bases (l ∷ lists) (suc i) y h = let r = has_bases lists i y h in omega arith

  way_within : (a : SpaceId) (via : List SpaceId) (b : SpaceId) → LeadsBy links a via b → AllBelow (length text.spaces) (a ∷ via)
  way_within a [] b l x h = elim h [ inl e ↦ subst (λ (z : SpaceId). z.0 < length text.spaces) e (link_within a b l) | inr r ↦ absurd r ]
  way_within a (y ∷ via) b l x h = elim h [ inl e ↦ subst (λ (z : SpaceId). z.0 < length text.spaces) e (link_within a y l.0) | inr r ↦ way_within y via b l.1 x r ]

  pub ring_within : (ring : List SpaceId) → IsRingOf links ring → AllBelow (length text.spaces) ring
  ring_within [] r = absurd r
  ring_within (x ∷ xs) r = way_within x xs x r.1

  distinct_paths : Distinct (paths_of text) → (xs : List SpaceId) → AllBelow (length text.spaces) xs → Distinct xs → Distinct (map (path_at text) xs)
  distinct_paths once [] below d = tt
  distinct_paths once (x ∷ xs) below d = (
    λ h.
        let m = map_has (path_at text) xs (path_at text x) h in
        let same = one_space text once m.from x (below m.from (inr m.among)) (below x (inl refl)) m.is in
        d.0 (subst (λ (z : SpaceId). Has xs z) same m.among),
    distinct_paths once xs (λ y h. below y (inr h)) d.1,
  )

  -- a ring of places is a ring of paths
  pub ring_paths : Distinct (paths_of text) → (ring : List SpaceId) → IsRingOf links ring → IsRing text (map (path_at text) ring)
  ring_paths once [] r = r
  ring_paths once (x ∷ xs) r = (distinct_paths once (x ∷ xs) (ring_within (x ∷ xs) r) r.0, link_ways x xs x r.1)

  -- ---- and from paths to places

  child_link : (p q : Path) (a b : SpaceId) → id_of text p ≡ Some a → id_of text q ≡ Some b → HasChild text p q → Has (bases_of links a) b
  child_link p q a b e f c =
      are.children a b (record {
        before = id_within text q b f;
        below = ap (parent_of text) (at_id text q b f ∙ c.at) ∙ ap (option_and_then (λ (z : Path × Name). id_of text z.0)) (split_push p c.name) ∙ e;
      })

  base_link : Distinct (paths_of text) → (p q : Path) (a b : SpaceId) → id_of text p ≡ Some a → id_of text q ≡ Some b → HasBase text p q → Has (bases_of links a) b
  base_link once p q a b e f h =
      let at = place_of text.spaces h.space h.has in
      let path = slice_get-map (λ (z : SpaceRecord). z.path) text.spaces at.place in
      let there : slice_get (paths_of text) at.place ≡ Some p = path ∙ ap (λ (o : Option SpaceRecord). path_in_option o) at.is ∙ ap (λ (z : Path). Some z) h.at in
      let same : at.place ≡ a.0 = one_place (paths_of text) at.place a.0 p once there (id_at text p a e) in
      let is : slice_get text.spaces a.0 ≡ Some h.space = ap (slice_get text.spaces) (sym same) ∙ at.is in
      are.bases a b (subst (λ (l : List SpaceId). Has l b) (sym (base_by text h.space text.spaces a.0 is)) (filter_has (id_of text) h.space.bases q b h.among f))
    where
      path_in_option : Option SpaceRecord → Option Path
      path_in_option None = None
      path_in_option (Some s) = Some s.path

  step_link : Distinct (paths_of text) → (p q : Path) (a b : SpaceId) → id_of text p ≡ Some a → id_of text q ≡ Some b → Leads text p q → Has (bases_of links a) b
  step_link once p q a b e f l = elim l.1 [ inl c ↦ child_link p q a b e f c | inr h ↦ base_link once p q a b e f h ]

  begins_there : (p : Path) (paths : List Path) (q : Path) → LeadsThrough text p paths q → IsDefined text p
  begins_there p [] q l = l.0
  begins_there p (next ∷ paths) q l = l.0.0

  way_links : Distinct (paths_of text) → (p : Path) (paths : List Path) (q : Path) (a b : SpaceId) → id_of text p ≡ Some a → id_of text q ≡ Some b → LeadsThrough text p paths q → Reaches links a b
  way_links once p [] q a b e f l = record { via = []; leads = step_link once p q a b e f l }
  way_links once p (next ∷ paths) q a b e f l =
      let n = has_id text next (begins_there next paths q l.1) in
      let r = way_links once next paths q n.id b n.is f l.1 in
      record { via = n.id ∷ r.via; leads = (step_link once p next a n.id e n.is l.0, r.leads) }

  -- without a ring of places there is no ring of paths
  pub no_ring_paths : Distinct (paths_of text) → HasNoRingIn links → HasNoRing text
  no_ring_paths once none path paths l =
      let s = has_id text path (begins_there path paths path l) in
      none s.id (way_links once path paths path s.id s.id s.is s.is l)

-- one path more of these spaces
pub paths_more : (text : ModelRecord) (spaces items : List SpaceId) (i : ℕ) (d : SpaceId) (path copy : Path) (made after : List Path) → items ≡ spaces → i < length items → made ≡ map (path_at text) (take i spaces) → path_in text (get_or items i d) ≡ Some path → copy ≡ path → after ≡ made ++ copy ∷ [] → after ≡ map (path_at text) (take (i + 1) spaces)
paths_more text spaces items i d path copy made after same within so at is e =
    let l : i < length spaces = let k = ap length same in omega arith in
    let next : path_at text (get_or spaces i d) ≡ path = path_is text (get_or spaces i d) path (ap (λ (z : List SpaceId). path_in text (get_or z i d)) (sym same) ∙ at) in
    e ∙ ap (λ (z : List Path). z ++ copy ∷ []) so ∙ ap (λ (z : Path). map (path_at text) (take i spaces) ++ z ∷ []) (is ∙ sym next) ∙
    sym (map-append (path_at text) (take i spaces) (get_or spaces i d ∷ [])) ∙ ap (map (path_at text)) (sym (take_more spaces i d l))

pub place_below : (n : ℕ) (spaces items : List SpaceId) (i : ℕ) (d : SpaceId) → AllBelow n spaces → items ≡ spaces → i < length items → (get_or items i d).0 < n
place_below n spaces items i d below same within = below (get_or items i d) (subst (λ (z : List SpaceId). Has z (get_or items i d)) same (has_at items i d within))
