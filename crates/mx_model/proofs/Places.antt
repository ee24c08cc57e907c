-- The ids of spaces are the places of their paths, and the bases of a space are those of its record.
use Rattle.std.proofs.Common.{◌≡◌, ℕ, zero, suc, ◌<◌, true, false, List, [], ◌∷◌, map, length, get_or, Option, Some, None, slice_get, inl, inr, refl, sym, ◌∙◌, ap, subst, arith}
use Rattle.std.specs.Prelude.{IsTrue, is_some, position, option_map}
use Rattle.std.specs.List.{filter_map}
use Rattle.std.proofs.lemmas.List.Quantifiers.{position-Some}
use Rattle.std.proofs.lemmas.Option.{same_Some, slice_get-get_or, slice_get_within, get_or_from_slice_get}
use Rattle.std.proofs.lemmas.List.{length-map}
use Rattle.mx_value.specs.Name.{same_path}
use Rattle.mx_value.proofs.NodeSames.{path_decides}
use Rattle.mx_c3.specs.declared.space.SpaceId.{SpaceId}
use Rattle.mx_c3.specs.Lists.{Has, Distinct}
use Rattle.mx_c3.specs.Linearisation.{bases_of, Leads, AreSound}
use Rattle.mx_model.specs.Records.{Path, SpaceRecord, ModelRecord}
use Rattle.mx_model.specs.Layers.{paths_of, id_of, base_lists}
use Rattle.mx_model.specs.Rings.{IsDefined, HasBase, LeadsThrough, HasNoRing}
use Rattle.mx_model.proofs.Filtered.{passes_place, has_map, map_has, place_has, has_filter, among_map, all_distinct_map, distinct_filter}

abbrev made : ℕ → SpaceId
made n = record { 0 = n }

-- ---- ids

found_at : (paths : List Path) (path : Path) (place : Option ℕ) (s : SpaceId) → position (same_path path) paths ≡ place → option_map made place ≡ Some s → slice_get paths s.0 ≡ Some path
found_at paths path None s p e = absurd (let f : None ≡ Some s = e in cc)
found_at paths path (Some n) s p e =
    let f = position-Some (same_path path) paths n path p in
    let same : path ≡ get_or paths n path = (path_decides path (get_or paths n path)).0 f.1 in
    let at : made n ≡ s = same_Some (made n) s e in
    let there : slice_get paths n ≡ Some (get_or paths n path) = slice_get-get_or paths n path f.0 in
    subst (λ (z : SpaceId). slice_get paths z.0 ≡ Some path) at (there ∙ ap Some (sym same))

-- the space of an id has the path that was sought
pub id_at : (text : ModelRecord) (path : Path) (s : SpaceId) → id_of text path ≡ Some s → slice_get (paths_of text) s.0 ≡ Some path
id_at text path s e = found_at (paths_of text) path (position (same_path path) (paths_of text)) s refl e

pub id_within : (text : ModelRecord) (path : Path) (s : SpaceId) → id_of text path ≡ Some s → s.0 < length text.spaces
id_within text path s e =
    let l : s.0 < length (paths_of text) = slice_get_within (paths_of text) s.0 path (id_at text path s e) in
    omega (arith, length-map text.spaces (λ (s : SpaceRecord). s.path))

pub path_defined : (text : ModelRecord) (path : Path) → Has (paths_of text) path → IsDefined text path
path_defined text path h =
    let e = passes_place (same_path path) (paths_of text) path h ((path_decides path path).1 refl) in
    ap (λ (o : Option ℕ). is_some (option_map made o)) e

pub space_defined : (text : ModelRecord) (s : SpaceRecord) → Has text.spaces s → IsDefined text s.path
space_defined text s h = path_defined text s.path (has_map (λ (s : SpaceRecord). s.path) text.spaces s h)

-- a path that is defined is that of a space
pub record SpaceAt (text : ModelRecord) (path : Path) : Type 0 where
  pub space : SpaceRecord
  pub among : Has text.spaces space
  pub is : space.path ≡ path

space_by : (text : ModelRecord) (path : Path) (found : Option SpaceId) → id_of text path ≡ found → IsTrue (is_some found) → SpaceAt text path
space_by text path None e t = absurd (let f : false ≡ true = t in cc)
space_by text path (Some s) e t =
    let m = map_has (λ (s : SpaceRecord). s.path) text.spaces path (place_has (paths_of text) s.0 path (id_at text path s e)) in
    record { space = m.from; among = m.among; is = m.is }

pub defined_space : (text : ModelRecord) (path : Path) → IsDefined text path → SpaceAt text path
defined_space text path d = space_by text path (id_of text path) refl d

-- ---- bases

abbrev pub path_at : ModelRecord → SpaceId → Path
path_at text s = get_or (paths_of text) s.0 []

-- the space at a place has a base that leads to b
record BaseAt (text : ModelRecord) (spaces : List SpaceRecord) (n : ℕ) (b : SpaceId) : Type 0 where
  pub space : SpaceRecord
  pub has : Has spaces space
  pub at : space.path ≡ get_or (map (λ (s : SpaceRecord). s.path) spaces) n []
  pub base : Path
  pub among : Has space.bases base
  pub is : id_of text base ≡ Some b

abbrev own_bases : ModelRecord → SpaceRecord → List SpaceId
own_bases text s = filter_map (id_of text) s.bases

base_found : (text : ModelRecord) (spaces : List SpaceRecord) (n : ℕ) (b : SpaceId) → Has (get_or (map (own_bases text) spaces) n []) b → BaseAt text spaces n b
base_found text [] n b h = absurd h
base_found text (s ∷ spaces) zero b h =
    let m = has_filter (id_of text) s.bases b h in
    record { space = s; has = inl refl; at = refl; base = m.from; among = m.among; is = m.is }
base_found text (s ∷ spaces) (suc n) b h =
    let m = base_found text spaces n b h in
    record { space = m.space; has = inr m.has; at = m.at; base = m.base; among = m.among; is = m.is }

path_is : (text : ModelRecord) (path : Path) (s : SpaceId) → id_of text path ≡ Some s → path_at text s ≡ path
path_is text path s e = get_or_from_slice_get (paths_of text) s.0 path [] (id_at text path s e)

base_leads : (text : ModelRecord) (a b : SpaceId) → Has (bases_of (base_lists text) a) b → IsDefined text (path_at text a) × HasBase text (path_at text a) (path_at text b)
base_leads text a b h =
    let m = base_found text text.spaces a.0 b h in
    let P : Path → Type 0 = λ p. IsDefined text p in
    let Q : Path → Type 0 = λ p. Has m.space.bases p in (
      subst P m.at (space_defined text m.space m.has),
      record { space = m.space; has = m.has; at = m.at; among = subst Q (sym (path_is text m.base b m.is)) m.among },
    )

bases_lead : (text : ModelRecord) (a : SpaceId) (via : List SpaceId) (b : SpaceId) → Leads (base_lists text) a via b → LeadsThrough text (path_at text a) (map (path_at text) via) (path_at text b)
bases_lead text a [] b l = let h = base_leads text a b l in (h.0, inr h.1)
bases_lead text a (x ∷ via) b l = let h = base_leads text a x l.0 in ((h.0, inr h.1), bases_lead text x via b l.1)

-- ids of different paths are different
pub one_path : (text : ModelRecord) (p q : Path) (s : SpaceId) → id_of text p ≡ Some s → id_of text q ≡ Some s → p ≡ q
one_path text p q s e f = sym (path_is text p s e) ∙ path_is text q s f

-- the bases can be linearised where each space has distinct bases and there is no ring
pub bases_sound : (text : ModelRecord) → ((s : SpaceRecord) → Has text.spaces s → Distinct s.bases) → HasNoRing text → AreSound (base_lists text)
bases_sound text distinct no_ring = record {
  in_range = λ x h.
      let m = among_map (own_bases text) text.spaces x h in
      let b = has_filter (id_of text) m.from.bases x m.has in
      let l : x.0 < length text.spaces = id_within text b.from x b.is in
      omega (arith, length-map text.spaces (own_bases text));
  distinct = all_distinct_map (own_bases text) text.spaces (λ s h. distinct_filter (id_of text) s.bases (λ p q y e f. one_path text p q y e f) (distinct s h));
  no_ring = λ x r. no_ring (path_at text x) (map (path_at text) r.via) (bases_lead text x r.via x r.leads);
}
