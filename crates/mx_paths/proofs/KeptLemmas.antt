-- Texts whose spaces have the same paths and bases have the same layers.
use Rattle.std.proofs.Common.{◌≡◌, ℕ, List, [], ◌∷◌, ◌++◌, Option, Some, None, slice_get, inl, inr, refl, sym, ◌∙◌, ap}
use Rattle.std.specs.Prelude.{option_map, option_and_then, IsTrue, length, nat_lt, if◌then◌else◌}
use Rattle.mx_edit.specs.declared.refusal.EditRefusal.TheVariants as refusal
use Rattle.mx_edit.specs.declared.refusal.Limit.TheVariants as limit
use Rattle.std.specs.List.{filter_map, cons_option}
use Rattle.std.proofs.lemmas.Option.{slice_get-map}
use Rattle.mx_c3.specs.declared.space.SpaceId.{SpaceId}
use Rattle.mx_c3.specs.Linearisation.{c3, each}
use Rattle.mx_model.specs.Records.{Name, Path, SpaceRecord, ModelRecord}
use Rattle.mx_model.specs.declared.layers.Layered.{Layered}
use Rattle.mx_model.specs.declared.layers.Layered.TheVariants.{Layers, NoOrder, NotStatic}
use Rattle.mx_model.specs.Layers.{paths_of, id_in, id_of, child_of, layered, merge_orders, of_children, below, further, at_top, layers, is_there, is_static}
use Rattle.mx_model.specs.Walk.{HasBefore, own_trouble, layers_trouble}
use Rattle.mx_paths.specs.Kept.{IsBuiltAlike, LayersStay, TableStays, WalkStays}

by_path : (paths : List Path) (name : Name) (space : Option SpaceRecord) → option_and_then (λ (s : SpaceRecord). id_in paths (s.path ++ name ∷ [])) space ≡ option_and_then (λ (p : Path). id_in paths (p ++ name ∷ [])) (option_map (λ (s : SpaceRecord). s.path) space)
by_path paths name None = refl
by_path paths name (Some s) = refl

child_is : (text : ModelRecord) (name : Name) (s : SpaceId) → child_of text name s ≡ option_and_then (λ (p : Path). id_in (paths_of text) (p ++ name ∷ [])) (slice_get (paths_of text) s.0)
child_is text name s =
    by_path (paths_of text) name (slice_get text.spaces s.0) ∙
    ap (option_and_then (λ (p : Path). id_in (paths_of text) (p ++ name ∷ []))) (sym (slice_get-map (λ (s : SpaceRecord). s.path) text.spaces s.0))

module _ (before after : ModelRecord) (same : IsBuiltAlike before after) where
  child_stays : (name : Name) (s : SpaceId) → child_of after name s ≡ child_of before name s
  child_stays name s =
      child_is after name s ∙ ap (λ (paths : List Path). option_and_then (λ (p : Path). id_in paths (p ++ name ∷ [])) (slice_get paths s.0)) same.paths ∙ sym (child_is before name s)

  children_stay : (name : Name) (spaces : List SpaceId) → filter_map (child_of after name) spaces ≡ filter_map (child_of before name) spaces
  children_stay name [] = refl
  children_stay name (s ∷ spaces) =
      ap (λ o. cons_option o (filter_map (child_of after name) spaces)) (child_stays name s) ∙ ap (cons_option (child_of before name s)) (children_stay name spaces)

  made_stays : (spaces : List SpaceId) → of_children after spaces ≡ of_children before spaces
  made_stays [] = refl
  made_stays (d ∷ ds) = ap (λ (lists : List (List SpaceId)). layered (merge_orders (d ∷ ds) (each (c3 lists) (d ∷ ds)))) same.bases

  below_stays : (reached : Layered) (name : Name) → below after reached name ≡ below before reached name
  below_stays (Layers spaces) name = ap (of_children after) (children_stay name spaces) ∙ made_stays (filter_map (child_of before name) spaces)
  below_stays NoOrder name = refl
  below_stays NotStatic name = refl

  further_stays : (reached : Layered) (names : List Name) → further after reached names ≡ further before reached names
  further_stays reached [] = refl
  further_stays reached (name ∷ names) = further_stays (below after reached name) names ∙ ap (λ (r : Layered). further before r names) (below_stays reached name)

  top_stays : (found : Option SpaceId) → at_top after found ≡ at_top before found
  top_stays None = refl
  top_stays (Some s) = ap (λ (lists : List (List SpaceId)). layered (c3 lists s)) same.bases

  stays : (path : Path) → layers after path ≡ layers before path
  stays [] = refl
  stays (name ∷ names) =
      further_stays (at_top after (id_of after (name ∷ []))) names ∙
      ap (λ (r : Layered). further before r names) (ap (λ (paths : List Path). at_top after (id_in paths (name ∷ []))) same.paths ∙ top_stays (id_of before (name ∷ [])))

  static_stays : (path : Path) → IsTrue (is_static after path) → IsTrue (is_static before path)
  static_stays path t = ap is_there (sym (stays path)) ∙ t

  own_stays : (path : Path) → own_trouble after path ≡ own_trouble before path
  own_stays path =
      let trouble = λ (l : Layered). if nat_lt 64 (length path) then Some (refusal.TooMany limit.Depth) else layers_trouble path l in
      ap trouble (stays path)

  before_stays : (path : Path) (count : ℕ) → HasBefore after path count → HasBefore before path count
  before_stays path count has = record {
    paths = has.paths;
    many = has.many;
    distinct = has.distinct;
    static = λ q h. static_stays q (has.static q h);
    before = has.before;
  }

pub layers_stay : LayersStay
layers_stay before after path same = stays before after same path

pub table_stays : TableStays
table_stays before after rows same is = record {
  layered = λ row h. stays before after same row.0 ∙ is.layered row h;
  all = λ path t. is.all path (static_stays before after same path t);
  in_order = is.in_order;
}

pub walk_stays : WalkStays
walk_stays before after same nothing path why t meets =
    nothing path why (static_stays before after same path t) (elim meets [
      | inl e ↦ inl (sym (own_stays before after same path) ∙ e)
      | inr m ↦ inr (sym (own_stays before after same path) ∙ m.0, before_stays before after same path 20000 m.1, m.2)
    ])
