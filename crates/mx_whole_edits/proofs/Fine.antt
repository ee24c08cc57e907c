-- What a valid text asks of each space and of what the model has itself.
use Rattle.std.proofs.Common.{◌≡◌, ℕ, Bool, true, false, List, [], ◌∷◌, ◌++◌, map, slice_get, Option, Some, None, inl, inr, refl, sym, ◌∙◌, ap, subst}
use Rattle.std.specs.Prelude.{IsTrue, is_some, option_and_then, if◌then◌else◌}
use Rattle.std.specs.List.{filter_map, cons_option}
use Rattle.std.specs.Map.{lookup}
use Rattle.std.proofs.lemmas.Option.{same_Some, slice_get-map}
use Rattle.mx_value.specs.Name.{same_name, same_path}
use Rattle.mx_value.proofs.NodeSames.{path_decides}
use Rattle.mx_edit.specs.declared.reference.RefValue.{RefValue}
use Rattle.mx_c3.specs.declared.space.SpaceId.{SpaceId}
use Rattle.mx_c3.specs.Lists.{Has, Distinct}
use Rattle.mx_c3.proofs.ListLemmas.{has_left, has_right, has_cases}
use Rattle.mx_model.specs.Records.{Name, Path, CellsRecord, SpaceRecord, ModelRecord}
use Rattle.mx_model.specs.Layers.{paths_of, id_of, space_of}
use Rattle.mx_model.specs.Paths.{split_last, space_at, name_below, child_names}
use Rattle.mx_model.specs.Parents.{HasParent}
use Rattle.mx_model.specs.Rings.{IsDefined}
use Rattle.mx_model.specs.Refused.{has_cells, has_reference}
use Rattle.mx_model.specs.Valid.{names_of, NamesAreDistinct, ReferencesFit, IsReference}
use Rattle.mx_model.proofs.Filtered.{has_map, has_filter, filter_has, one_place}
use Rattle.mx_model.proofs.Places.{id_at, space_defined, defined_space}
use Rattle.mx_model.proofs.Defined.{split_push, split_is}
use Rattle.mx_model.proofs.NameLemmas.{is_same}
use Rattle.mx_rings.proofs.SearchLemmas.{place_of}
use Rattle.mx_model.specs.Literals.{AreLiteral}
use Rattle.mx_whole_edits.specs.Ready.{IsReady}
use Rattle.mx_whole_edits.proofs.Apart.{distinct_join, first_part, last_part, parts_apart}

abbrev pub child : Path → Name → Path
child path name = path ++ name ∷ []

pub record Fine (text : ModelRecord) (s : SpaceRecord) : Type 0 where
  pub cells_once : Distinct (names_of s.cells)
  pub refs_once : Distinct (names_of s.references)
  pub no_cells : (n : Name) → IsDefined text (child s.path n) → Has (names_of s.cells) n → ⊥
  pub no_refs : (n : Name) → IsDefined text (child s.path n) → Has (names_of s.references) n → ⊥
  pub apart : (n : Name) → Has (names_of s.cells) n → Has (names_of s.references) n → ⊥
  pub bases : (base : Path) → Has s.bases base → IsDefined text base
  pub refs : (r : Name × RefValue) → Has s.references r → IsReference text r.1
  pub literal : (c : Name × CellsRecord) → Has s.cells c → AreLiteral c.1.formula.params

pub record Top (text : ModelRecord) : Type 0 where
  pub once : Distinct (names_of text.globals)
  pub no_globals : (n : Name) → IsDefined text (n ∷ []) → Has (names_of text.globals) n → ⊥
  pub refs : (r : Name × RefValue) → Has text.globals r → IsReference text r.1
  pub tables : Distinct (names_of text.tables)

-- ---- children

below_same : (path : Path) (n : Name) → name_below path (split_last (child path n)) ≡ Some n
below_same path n = ap (name_below path) (split_push path n) ∙ ap (λ (b : Bool). if b then Some n else None) ((path_decides path path).1 refl)

pub child_has : (text : ModelRecord) (path : Path) (n : Name) → IsDefined text (child path n) → Has (child_names text path) n
child_has text path n d =
    let s = defined_space text (child path n) d in
    filter_has (λ (z : SpaceRecord). name_below path (split_last z.path)) text.spaces s.space n s.among (ap (λ (p : Path). name_below path (split_last p)) s.is ∙ below_same path n)

below_by : (path : Path) (n : Name) (p : Path) (split : Option (Path × Name)) → split_last p ≡ split → name_below path split ≡ Some n → p ≡ child path n
below_by path n p None e f = absurd (let g : None ≡ Some n = f in cc)
below_by path n p (Some (parent, last)) e f = by_test (same_path parent path) refl
  where
    by_test : (b : Bool) → same_path parent path ≡ b → p ≡ child path n
    by_test true t =
        let same = (path_decides parent path).0 t in
        let g : last ≡ n = same_Some last n (sym (ap (λ (b : Bool). if b then Some last else None) t) ∙ f) in
        split_is p parent last e ∙ ap (λ (q : Path). child q last) same ∙ ap (child path) g
    by_test false t = absurd (let g : None ≡ Some n = sym (ap (λ (b : Bool). if b then Some last else None) t) ∙ f in cc)

pub has_child_path : (text : ModelRecord) (path : Path) (n : Name) → Has (child_names text path) n → IsDefined text (child path n)
has_child_path text path n h =
    let m = has_filter (λ (z : SpaceRecord). name_below path (split_last z.path)) text.spaces n h in
    let P : Path → Type 0 = λ p. IsDefined text p in
    subst P (below_by path n m.from.path (split_last m.from.path) refl m.is) (space_defined text m.from m.among)

-- the names of children are distinct where paths are
abbrev name_in : Path → Path → Option Name
name_in path p = name_below path (split_last p)

named_first : (path : Path) (s : SpaceRecord) (spaces : List SpaceRecord) (o : Option Name) → name_in path s.path ≡ o → (Has (map (λ (z : SpaceRecord). z.path) spaces) s.path → ⊥) → Distinct (filter_map (λ (z : SpaceRecord). name_below path (split_last z.path)) spaces) → Distinct (cons_option o (filter_map (λ (z : SpaceRecord). name_below path (split_last z.path)) spaces))
named_first path s spaces None e n rest = rest
named_first path s spaces (Some name) e n rest = (
  λ h.
      let m = has_filter (λ (z : SpaceRecord). name_below path (split_last z.path)) spaces name h in
      let same = below_by path name m.from.path (split_last m.from.path) refl m.is ∙ sym (below_by path name s.path (split_last s.path) refl e) in
      let P : Path → Type 0 = λ p. Has (map (λ (z : SpaceRecord). z.path) spaces) p in
      n (subst P same (has_map (λ (z : SpaceRecord). z.path) spaces m.from m.among)),
  rest,
)

named_by_paths : (path : Path) (spaces : List SpaceRecord) → Distinct (map (λ (s : SpaceRecord). s.path) spaces) → Distinct (filter_map (λ (z : SpaceRecord). name_below path (split_last z.path)) spaces)
named_by_paths path [] d = tt
named_by_paths path (s ∷ spaces) d = named_first path s spaces (name_in path s.path) refl d.0 (named_by_paths path spaces d.1)

-- ---- from a text that is ready, and back

pub fine_of : (text : ModelRecord) → IsReady text → (s : SpaceRecord) → Has text.spaces s → Fine text s
fine_of text ready s h =
    let d = ready.names.members s h in
    let children = child_names text s.path in
    let cells = names_of s.cells in
    let refs = names_of s.references in
    let two = first_part (children ++ cells) refs d in
    record {
      cells_once = last_part children cells two;
      refs_once = last_part (children ++ cells) refs d;
      no_cells = λ n c k. parts_apart children cells two n (child_has text s.path n c) k;
      no_refs = λ n c k. parts_apart (children ++ cells) refs d n (has_left children cells n (child_has text s.path n c)) k;
      apart = λ n c k. parts_apart (children ++ cells) refs d n (has_right children cells n c) k;
      bases = (ready.bases s h).1;
      refs = λ r k. ready.references.owned s r h k;
      literal = λ c k. ready.literals s c h k;
    }

pub top_of : (text : ModelRecord) → IsReady text → Top text
top_of text ready =
    let children = child_names text [] in
    let globals = names_of text.globals in
    record {
      once = last_part children globals ready.names.top;
      no_globals = λ n c k. parts_apart children globals ready.names.top n (child_has text [] n c) k;
      refs = λ r k. ready.references.globals r k;
      tables = ready.names.tables;
    }

members_of : (text : ModelRecord) → Distinct (paths_of text) → (s : SpaceRecord) → Fine text s → Distinct (child_names text s.path ++ names_of s.cells ++ names_of s.references)
members_of text once s fine =
    let children = child_names text s.path in
    let cells = names_of s.cells in
    let refs = names_of s.references in
    distinct_join (children ++ cells) refs
    (distinct_join children cells (named_by_paths s.path text.spaces once) fine.cells_once (λ n c k. fine.no_cells n (has_child_path text s.path n c) k))
    fine.refs_once
    (λ n c k. elim (has_cases children cells n c) [ inl a ↦ fine.no_refs n (has_child_path text s.path n a) k | inr b ↦ fine.apart n b k ])

pub names_from : (text : ModelRecord) → Distinct (paths_of text) → ((path : Path) → Has (paths_of text) path → HasParent text (split_last path)) → ((s : SpaceRecord) → Has text.spaces s → Fine text s) → Top text → NamesAreDistinct text
names_from text once parents fine top = record {
  parents = λ s h. parents s.path (has_map (λ (z : SpaceRecord). z.path) text.spaces s h);
  members = λ s h. members_of text once s (fine s h);
  top = distinct_join (child_names text []) (names_of text.globals) (named_by_paths [] text.spaces once) top.once (λ n c k. top.no_globals n (has_child_path text [] n c) k);
  tables = top.tables;
}

pub references_from : (text : ModelRecord) → ((s : SpaceRecord) → Has text.spaces s → Fine text s) → Top text → ReferencesFit text
references_from text fine top = record { globals = top.refs; owned = λ s r h k. (fine s h).refs r k }

-- ---- the space of a path

space_place : (text : ModelRecord) (path : Path) (s : SpaceRecord) (place : ℕ) → Distinct (paths_of text) → slice_get text.spaces place ≡ Some s → s.path ≡ path → (found : Option SpaceId) → id_of text path ≡ found → IsTrue (is_some found) → option_and_then (space_of text) found ≡ Some s
space_place text path s place once at is None e t = absurd (let f : false ≡ true = t in cc)
space_place text path s place once at is (Some id) e t =
    let there : slice_get (paths_of text) place ≡ Some path = slice_get-map (λ (z : SpaceRecord). z.path) text.spaces place ∙ ap (λ (o : Option SpaceRecord). path_or o) at ∙ ap (λ (p : Path). Some p) is in
    let same = one_place (paths_of text) id.0 place path once (id_at text path id e) there in
    ap (slice_get text.spaces) same ∙ at
  where
    path_or : Option SpaceRecord → Option Path
    path_or None = None
    path_or (Some z) = Some z.path

pub space_found : (text : ModelRecord) → Distinct (paths_of text) → (s : SpaceRecord) (path : Path) → Has text.spaces s → s.path ≡ path → space_at text path ≡ Some s
space_found text once s path h is =
    let p = place_of text.spaces s h in
    let P : Path → Type 0 = λ q. IsDefined text q in
    space_place text path s p.place once p.is is (id_of text path) refl (subst P is (space_defined text s h))

lookup_by : {X : Type 0} (n : Name) (m : Name × X) (ms : List (Name × X)) (b : Bool) → same_name n m.0 ≡ b → is_some (if b then Some m.1 else lookup (same_name n) ms) ≡ false → (is_some (lookup (same_name n) ms) ≡ false → Has (names_of ms) n → ⊥) → Has (names_of (m ∷ ms)) n → ⊥
lookup_by n m ms true e none rest h = let f : true ≡ false = none in cc
lookup_by n m ms false e none rest h = elim h [ inl i ↦ (let f : true ≡ false = sym (is_same n m.0 (sym i)) ∙ e in cc) | inr r ↦ rest none r ]

pub lookup_none : {X : Type 0} (ms : List (Name × X)) (n : Name) → is_some (lookup (same_name n) ms) ≡ false → Has (names_of ms) n → ⊥
lookup_none [] n none h = h
lookup_none (m ∷ ms) n none h = lookup_by n m ms (same_name n m.0) refl none (lookup_none ms n) h

pub no_such_cells : (text : ModelRecord) → Distinct (paths_of text) → (s : SpaceRecord) (path : Path) (n : Name) → Has text.spaces s → s.path ≡ path → has_cells n (space_at text path) ≡ false → Has (names_of s.cells) n → ⊥
no_such_cells text once s path n h is none k = lookup_none s.cells n (sym (ap (has_cells n) (space_found text once s path h is)) ∙ none) k

pub no_such_reference : (text : ModelRecord) → Distinct (paths_of text) → (s : SpaceRecord) (path : Path) (n : Name) → Has text.spaces s → s.path ≡ path → has_reference n (space_at text path) ≡ false → Has (names_of s.references) n → ⊥
no_such_reference text once s path n h is none k = lookup_none s.references n (sym (ap (has_reference n) (space_found text once s path h is)) ∙ none) k
