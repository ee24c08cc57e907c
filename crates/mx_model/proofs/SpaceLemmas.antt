-- One space in the place of another of the same path.
use Rattle.std.proofs.Common.{◌≡◌, ℕ, zero, suc, ◌<◌, ◌^◌, Bool, true, false, List, [], ◌∷◌, ◌++◌, map, length, set, get_or, Option, Some, None, slice_get, inl, inr, refl, sym, ◌∙◌, ap, subst}
use Rattle.std.specs.Prelude.{IsTrue, is_some, position, option_map, if◌then◌else◌}
use Rattle.std.specs.List.{filter_map}
use Rattle.std.specs.Map.{lookup}
use Rattle.std.proofs.lemmas.Option.{same_Some, slice_get-map, slice_get-get_or}
use Rattle.std.proofs.lemmas.List.{length-set}
use Rattle.mx_value.specs.Name.{same_name, same_path}
use Rattle.mx_value.proofs.NodeSames.{path_decides}
use Rattle.mx_c3.specs.declared.space.SpaceId.{SpaceId}
use Rattle.mx_c3.specs.Lists.{Has, Distinct}
use Rattle.mx_value.specs.declared.value.Value.{Value}
use Rattle.mx_value.specs.declared.node.Node.{Node}
use Rattle.mx_edit.specs.Rows.{TableRows}
use Rattle.mx_edit.specs.declared.reference.RefValue.{RefValue}
use Rattle.mx_model.specs.Records.{Name, Path, SpaceRecord, ModelRecord}
use Rattle.mx_model.specs.Layers.{paths_of, id_in, id_of, space_of, base_lists, lists_in}
use Rattle.mx_model.specs.Binding.{Child, or_child, or_other, own_member}
use Rattle.mx_model.specs.Change.{at_space}
use Rattle.mx_model.specs.Kept.{StaysInPlace}
use Rattle.mx_model.specs.Lookup.{kind_of}
use Rattle.mx_model.specs.Parents.{HasParent}
use Rattle.mx_model.specs.Paths.{split_last}
use Rattle.mx_model.specs.Indexed.{Kinds, Tells, TellAll, ArePlaced, IsIndexed}
use Rattle.mx_model.proofs.Filtered.{place_has, has_map}
use Rattle.mx_model.proofs.Places.{id_at}

abbrev made : ℕ → SpaceId
made n = record { 0 = n }

abbrev path_in : SpaceRecord → Path
path_in s = s.path

-- an item that gives the same in the place of another
pub put_same : {X Y : Type 0} (g : X → Y) (xs : List X) (i : ℕ) (new old : X) → slice_get xs i ≡ Some old → g new ≡ g old → map g (set xs i new) ≡ map g xs
put_same g [] i new old e s = absurd (let f : None ≡ Some old = e in cc)
put_same {X} {Y} g (x ∷ xs) zero new old e s = ap (λ (y : Y). y ∷ map g xs) (s ∙ ap g (sym (same_Some x old e)))
put_same {X} {Y} g (x ∷ xs) (suc i) new old e s = ap (λ (ys : List Y). g x ∷ ys) (put_same g xs i new old e s)

-- ---- what depends on the paths alone

pub own_same : (text text' : ModelRecord) (name : Name) (s : SpaceRecord) → paths_of text' ≡ paths_of text → own_member text' name s ≡ own_member text name s
own_same text text' name s e =
    ap (λ (paths : List Path). or_other (or_child (if is_some (option_map made (position (same_path (s.path ++ name ∷ [])) paths)) then Some Child else None) s.path (lookup (same_name name) s.references)) (lookup (same_name name) s.cells)) e

pub all_same : (text text' : ModelRecord) (spaces : List SpaceRecord) (tables : List Kinds) → paths_of text' ≡ paths_of text → TellAll text spaces tables → TellAll text' spaces tables
all_same text text' [] [] e t = tt
all_same text text' [] (k ∷ ks) e t = absurd t
all_same text text' (s ∷ ss) [] e t = absurd t
all_same text text' (s ∷ ss) (k ∷ ks) e t = (λ name. t.0 name ∙ ap (option_map kind_of) (sym (own_same text text' name s e)), all_same text text' ss ks e t.1)

pub parent_same : (text text' : ModelRecord) (split : Option (Path × Name)) → paths_of text' ≡ paths_of text → HasParent text split → HasParent text' split
parent_same text text' None e h = absurd h
parent_same text text' (Some (parent, name)) e h =
    elim h [
      | inl i ↦ inl i
      | inr d ↦ let P : List Path → Type 0 = λ paths. IsTrue (is_some (option_map made (position (same_path parent) paths))) in inr (subst P (sym e) d)
    ]

-- ---- the tables of kinds

-- a table of another space in the place of one
pub tell_put : (text : ModelRecord) (spaces : List SpaceRecord) (tables : List Kinds) (i : ℕ) (new : SpaceRecord) (kinds : Kinds) → TellAll text spaces tables → Tells text new kinds → TellAll text (set spaces i new) (set tables i kinds)
tell_put text [] [] i new kinds t n = tt
tell_put text [] (k ∷ ks) i new kinds t n = absurd t
tell_put text (s ∷ ss) [] i new kinds t n = absurd t
tell_put text (s ∷ ss) (k ∷ ks) zero new kinds t n = (n, t.1)
tell_put text (s ∷ ss) (k ∷ ks) (suc i) new kinds t n = (t.0, tell_put text ss ks i new kinds t.1 n)

-- ---- the text

abbrev pub with_put : ModelRecord → ℕ → SpaceRecord → ModelRecord
with_put text i new = record text { spaces = set text.spaces i new }

abbrev own_bases : List Path → SpaceRecord → List SpaceId
own_bases paths s = filter_map (id_in paths) s.bases

put_paths : (text : ModelRecord) (i : ℕ) (old new : SpaceRecord) → slice_get text.spaces i ≡ Some old → new.path ≡ old.path → paths_of (with_put text i new) ≡ paths_of text
put_paths text i old new at path = put_same path_in text.spaces i new old at path

pub put_placed : (tables : List Kinds) (text : ModelRecord) (i : ℕ) (old new : SpaceRecord) (kinds : Kinds) → ArePlaced tables text → slice_get text.spaces i ≡ Some old → new.path ≡ old.path → Tells text new kinds → ArePlaced (set tables i kinds) (with_put text i new)
put_placed tables text i old new kinds x at path t =
    let same = put_paths text i old new at path in
    let P : List Path → Type 0 = λ paths. Distinct paths in
    record {
      once = subst P (sym same) x.once;
      kinds = all_same text (with_put text i new) (set text.spaces i new) (set tables i kinds) same (tell_put text text.spaces tables i new kinds x.kinds t);
      parents = λ p h. let Q : List Path → Type 0 = λ paths. Has paths p in parent_same text (with_put text i new) (split_last p) same (x.parents p (subst Q same h));
      few = subst (λ (n : ℕ). n < 2 ^ 32) (sym (length-set text.spaces i new)) x.few;
    }

pub put_index : (keys : List Path) (lists : List (List SpaceId)) (tables : List Kinds) (text : ModelRecord) (i : ℕ) (old new : SpaceRecord) (kinds : Kinds) → IsIndexed keys lists tables text → slice_get text.spaces i ≡ Some old → StaysInPlace old new → Tells text new kinds → IsIndexed keys lists (set tables i kinds) (with_put text i new)
put_index keys lists tables text i old new kinds x at stays t =
    let same = put_paths text i old new at stays.path in
    let put = put_same (own_bases (paths_of text)) text.spaces i new old at (ap (filter_map (id_of text)) stays.bases) in
    record {
      paths = x.paths ∙ sym same;
      bases = x.bases ∙ sym (ap (λ (paths : List Path). lists_in paths (set text.spaces i new)) same ∙ put);
      placed = put_placed tables text i old new kinds x.placed at stays.path t;
    }

-- ---- a change at a path

abbrev changed : Path → (SpaceRecord → SpaceRecord) → SpaceRecord → SpaceRecord
changed path f s = if same_path s.path path then f s else s

other_kept : (path : Path) (f : SpaceRecord → SpaceRecord) (s : SpaceRecord) (b : Bool) → same_path s.path path ≡ b → (s.path ≡ path → ⊥) → changed path f s ≡ s
other_kept path f s true e n = absurd (n ((path_decides s.path path).0 e))
other_kept path f s false e n = ap (λ (b : Bool). if b then f s else s) e

-- spaces of other paths stay
others_kept : (path : Path) (f : SpaceRecord → SpaceRecord) (spaces : List SpaceRecord) → (Has (map path_in spaces) path → ⊥) → map (changed path f) spaces ≡ spaces
others_kept path f [] n = refl
others_kept path f (s ∷ spaces) n =
    let first = other_kept path f s (same_path s.path path) refl (λ e. n (inl e)) in
    let rest = others_kept path f spaces (λ h. n (inr h)) in
    ap (λ (z : SpaceRecord). z ∷ map (changed path f) spaces) first ∙ ap (λ (zs : List SpaceRecord). s ∷ zs) rest

changed_at : (path : Path) (f : SpaceRecord → SpaceRecord) (spaces : List SpaceRecord) (i : ℕ) (old : SpaceRecord) → Distinct (map path_in spaces) → slice_get spaces i ≡ Some old → old.path ≡ path → map (changed path f) spaces ≡ set spaces i (f old)
changed_at path f [] i old d at e = absurd (let g : None ≡ Some old = at in cc)
changed_at path f (s ∷ spaces) zero old d at e =
    let same : s ≡ old = same_Some s old at in
    let is : s.path ≡ path = ap path_in same ∙ e in
    let yes : same_path s.path path ≡ true = (path_decides s.path path).1 is in
    let P : Path → Type 0 = λ p. Has (map path_in spaces) p in
    let rest = others_kept path f spaces (λ h. d.0 (subst P (sym is) h)) in
    ap (λ (b : Bool). (if b then f s else s) ∷ map (changed path f) spaces) yes ∙ ap (λ (zs : List SpaceRecord). f s ∷ zs) rest ∙ ap (λ (z : SpaceRecord). f z ∷ spaces) same
changed_at path f (s ∷ spaces) (suc i) old d at e =
    let P : Path → Type 0 = λ p. Has (map path_in spaces) p in
    let among : Has (map path_in spaces) path = subst P e (has_map path_in spaces old (place_has spaces i old at)) in
    let first = other_kept path f s (same_path s.path path) refl (λ is. d.0 (subst P (sym is) among)) in
    ap (λ (z : SpaceRecord). z ∷ map (changed path f) spaces) first ∙ ap (λ (zs : List SpaceRecord). s ∷ zs) (changed_at path f spaces i old d.1 at e)

space_path : (spaces : List SpaceRecord) (i : ℕ) (old : SpaceRecord) (path : Path) → slice_get spaces i ≡ Some old → slice_get (map path_in spaces) i ≡ Some path → old.path ≡ path
space_path spaces i old path at is = same_Some old.path path (sym (ap (option_map path_in) at) ∙ sym (slice_get-map path_in spaces i) ∙ is)

-- the space of a path changed is another space in its place
pub at_path : (text : ModelRecord) (path : Path) (f : SpaceRecord → SpaceRecord) (s : SpaceId) (old : SpaceRecord) → Distinct (paths_of text) → id_of text path ≡ Some s → space_of text s ≡ Some old → at_space text path f ≡ with_put text s.0 (f old)
at_path text path f s old d is at =
    ap (λ (spaces : List SpaceRecord). record text { spaces = spaces }) (changed_at path f text.spaces s.0 old d at (space_path text.spaces s.0 old path at (id_at text path s is)))

-- ---- a text with the same spaces

-- the bases of each of these spaces by its place
abbrev lists_of : List SpaceRecord → List (List SpaceId)
lists_of spaces = base_lists (record { spaces = spaces; globals = []; inputs = []; tables = [] })

pub placed_same : (tables tables' : List Kinds) (text text' : ModelRecord) → tables' ≡ tables → text'.spaces ≡ text.spaces → ArePlaced tables text → ArePlaced tables' text'
placed_same tables tables' text text' t s x =
    let paths : paths_of text' ≡ paths_of text = ap (map (λ (s : SpaceRecord). s.path)) s in
    let P : List Path → Type 0 = λ ps. Distinct ps in
    let R : List Kinds → Type 0 = λ ts. TellAll text text.spaces ts in
    let S : List SpaceRecord → Type 0 = λ ss. TellAll text ss tables' in
    record {
      once = subst P (sym paths) x.once;
      kinds = all_same text text' text'.spaces tables' paths (subst S (sym s) (subst R (sym t) x.kinds));
      parents = λ p h. let Q : List Path → Type 0 = λ ps. Has ps p in parent_same text text' (split_last p) paths (x.parents p (subst Q paths h));
      few = subst (λ (spaces : List SpaceRecord). length spaces < 2 ^ 32) (sym s) x.few;
    }

pub same_index : (keys keys' : List Path) (lists lists' : List (List SpaceId)) (tables tables' : List Kinds) (text text' : ModelRecord) → keys' ≡ keys → lists' ≡ lists → tables' ≡ tables → text'.spaces ≡ text.spaces → IsIndexed keys lists tables text → IsIndexed keys' lists' tables' text'
same_index keys keys' lists lists' tables tables' text text' k l t s x = record {
  paths = k ∙ x.paths ∙ sym (ap (map (λ (s : SpaceRecord). s.path)) s);
  bases = l ∙ x.bases ∙ sym (ap lists_of s);
  placed = placed_same tables tables' text text' t s x.placed;
}

-- ---- a text that is built with another space in the place of one

pub same_text : (a b : ModelRecord) → a.spaces ≡ b.spaces → a.globals ≡ b.globals → a.inputs ≡ b.inputs → a.tables ≡ b.tables → a ≡ b
same_text a b s g i t =
    ap (λ (x : List SpaceRecord). record a { spaces = x }) s ∙
    ap (λ (x : List (Name × RefValue)). record a { spaces = b.spaces; globals = x }) g ∙
    ap (λ (x : List (Node × Value)). record a { spaces = b.spaces; globals = b.globals; inputs = x }) i ∙
    ap (λ (x : List (Name × TableRows)). record a { spaces = b.spaces; globals = b.globals; inputs = b.inputs; tables = x }) t

pub put_built : (keys keys' : List Path) (lists lists' : List (List SpaceId)) (tables tables' : List Kinds) (text text' : ModelRecord) (spaces : List SpaceRecord) (n : ℕ) (new new' : SpaceRecord) (kinds : Kinds) → IsIndexed keys lists tables text → keys' ≡ keys → lists' ≡ lists → tables' ≡ tables → spaces ≡ text.spaces → new' ≡ new → n < length text.spaces → ((old : SpaceRecord) → slice_get text.spaces n ≡ Some old → StaysInPlace old new) → Tells text new kinds → text'.spaces ≡ set spaces n new' → IsIndexed keys' lists' (set tables' n kinds) text'
put_built keys keys' lists lists' tables tables' text text' spaces n new new' kinds x k l t s same within stays tells is =
    let old = get_or text.spaces n new in
    let at : slice_get text.spaces n ≡ Some old = slice_get-get_or text.spaces n new within in
    let placed = put_index keys lists tables text n old new kinds x at (stays old at) tells in
    let spaces_is : text'.spaces ≡ set text.spaces n new = is ∙ ap (λ (z : List SpaceRecord). set z n new') s ∙ ap (set text.spaces n) same in
    same_index keys keys' lists lists' (set tables n kinds) (set tables' n kinds) (with_put text n new) text' k l (ap (λ (z : List Kinds). set z n kinds) t) spaces_is placed

pub put_changed : (text text' : ModelRecord) (path : Path) (change : SpaceRecord → SpaceRecord) (s : SpaceId) (new new' : SpaceRecord) (spaces : List SpaceRecord) → Distinct (paths_of text) → id_of text path ≡ Some s → s.0 < length text.spaces → ((old : SpaceRecord) → space_of text s ≡ Some old → new ≡ change old) → spaces ≡ text.spaces → new' ≡ new → text'.spaces ≡ set spaces s.0 new' → text'.globals ≡ text.globals → text'.inputs ≡ text.inputs → text'.tables ≡ text.tables → text' ≡ at_space text path change
put_changed text text' path change s new new' spaces d id within made same_spaces same is g i t =
    let old = get_or text.spaces s.0 new in
    let at : slice_get text.spaces s.0 ≡ Some old = slice_get-get_or text.spaces s.0 new within in
    let put = is ∙ ap (λ (z : List SpaceRecord). set z s.0 new') same_spaces ∙ ap (set text.spaces s.0) (same ∙ made old at) in
    same_text text' (with_put text s.0 (change old)) put g i t ∙ sym (at_path text path change s old d id at)
