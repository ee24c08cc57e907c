-- The order of a space from those of its bases, and the layers of a path from those of its children.
use Rattle.std.proofs.Common.{◌≡◌, ◌<◌, ◌≤◌, inl, List, [], ◌∷◌, ◌++◌, length, get_or, Option, Some, None, Result, Ok, Err, slice_get, refl, sym, ◌∙◌, ap, subst, arith}
use Rattle.std.proofs.lemmas.Option.{same_Some, get_or_from_slice_get}
use Rattle.mx_c3.specs.declared.space.SpaceId.{SpaceId}
use Rattle.mx_c3.specs.Lists.{Has, Distinct, AllDistinct}
use Rattle.mx_c3.specs.InOrder.{AllBelow}
use Rattle.mx_c3.specs.Known.{known}
use Rattle.mx_c3.specs.Merge.{merge, put_all}
use Rattle.mx_c3.specs.Linearisation.{c3, each, bases_of, from_orders}
use Rattle.mx_c3.proofs.ListLemmas.{all_distinct_at}
use Rattle.mx_c3.proofs.LinearLemmas.{c3_step, base_in_range}
use Rattle.mx_model.specs.Records.{ModelRecord}
use Rattle.mx_model.specs.declared.layers.Layered.TheVariants.{NoOrder}
use Rattle.mx_model.specs.Layers.{base_lists, of_children, layered, merge_orders}
use Rattle.mx_model.specs.Sound.{IsSound, AreSpaces}
use Rattle.mx_model.proofs.SoundLemmas.{many, last_spaces, each_spaces}
use Rattle.mx_paths.specs.Orders.{Orders, AreOrders, told, all_known, layered_by}
use Rattle.mx_paths.proofs.OneChild.{one_child}
use Rattle.mx_paths.proofs.OrderLemmas.{known_is, all_told}

abbrev All : Type 0
All = Result (List (List SpaceId)) (List SpaceId)

told_ok : (all : All) (orders : List (List SpaceId)) → told all ≡ Some orders → all ≡ Ok orders
told_ok (Ok os) orders e = ap Ok (same_Some os orders e)
told_ok (Err b) orders e = absurd (let f : None ≡ Some orders = e in cc)

-- ---- the order of a space

from_none : (s : SpaceId) (bases : List SpaceId) (all : All) → told all ≡ None → told (from_orders s bases all) ≡ None
from_none s bases (Ok os) e = absurd (let f : Some os ≡ None = e in cc)
from_none s bases (Err b) e = refl

module _ (text : ModelRecord) (sound : IsSound text) (s : SpaceId) (within : s.0 < length text.spaces) (bases : List SpaceId) (is : slice_get (base_lists text) s.0 ≡ Some bases) (table : Orders) (are : AreOrders (base_lists text) table s.0) (below : AllBelow s.0 bases) where
  its_bases : bases_of (base_lists text) s ≡ bases
  its_bases = get_or_from_slice_get (base_lists text) s.0 bases [] is

  its_order : c3 (base_lists text) s ≡ from_orders s bases (each (c3 (base_lists text)) bases)
  its_order =
      let long = many text in
      c3_step (base_lists text) s sound.bases (omega arith) ∙ ap (λ (bs : List SpaceId). from_orders s bs (each (c3 (base_lists text)) bs)) its_bases

  base_spaces : AreSpaces text bases
  base_spaces =
      let long = many text in
      let l : s.0 < length (base_lists text) = omega arith in (
        subst Distinct its_bases (all_distinct_at (base_lists text) s.0 [] sound.bases.distinct l),
        λ x h. let b : x.0 < length (base_lists text) = base_in_range (base_lists text) s x sound.bases (subst (λ (bs : List SpaceId). Has bs x) (sym its_bases) h) in omega arith,
      )

  pub no_base_order : all_known table bases ≡ None → told (c3 (base_lists text) s) ≡ None
  no_base_order e = ap told its_order ∙ from_none s bases (each (c3 (base_lists text)) bases) (sym (all_told (base_lists text) table s.0 bases are below) ∙ e)

  base_orders : (orders : List (List SpaceId)) → all_known table bases ≡ Some orders → each (c3 (base_lists text)) bases ≡ Ok orders
  base_orders orders e = told_ok (each (c3 (base_lists text)) bases) orders (sym (all_told (base_lists text) table s.0 bases are below) ∙ e)

  pub base_distinct : (orders : List (List SpaceId)) → all_known table bases ≡ Some orders → AllDistinct (orders ++ bases ∷ [])
  base_distinct orders e = (last_spaces text orders bases (each_spaces text sound bases orders base_spaces.1 (base_orders orders e)) base_spaces).0

  pub base_merge : (orders : List (List SpaceId)) (order : Option (List SpaceId)) → all_known table bases ≡ Some orders → order ≡ told (put_all (s ∷ []) (merge (orders ++ bases ∷ []))) → order ≡ told (c3 (base_lists text) s)
  base_merge orders order e o = o ∙ sym (ap told (its_order ∙ ap (from_orders s bases) (base_orders orders e)))

-- ---- the layers of a path

by_told : (r : Result (List SpaceId) (List SpaceId)) → layered_by (told r) ≡ layered r
by_told (Ok order) = refl
by_told (Err b) = refl

no_layers_by : (spaces : List SpaceId) (all : All) → told all ≡ None → layered (merge_orders spaces all) ≡ NoOrder
no_layers_by spaces (Ok os) e = absurd (let f : Some os ≡ None = e in cc)
no_layers_by spaces (Err b) e = refl

some_children : (text : ModelRecord) (spaces : List SpaceId) → (spaces ≡ [] → ⊥) → of_children text spaces ≡ layered (merge_orders spaces (each (c3 (base_lists text)) spaces))
some_children text [] n = absurd (n refl)
some_children text (s ∷ spaces) n = refl

module _ (text : ModelRecord) (sound : IsSound text) (table : Orders) (are : AreOrders (base_lists text) table (length text.spaces)) (spaces : List SpaceId) (all : AreSpaces text spaces) (some : spaces ≡ [] → ⊥) where
  pub one_order : (s : SpaceId) (order : Option (List SpaceId)) → spaces ≡ s ∷ [] → order ≡ known table s → layered_by order ≡ of_children text spaces
  one_order s order e o =
      let P : List SpaceId → Type 0 = λ ss. AllBelow (length text.spaces) ss in
      let h : s.0 < length text.spaces = subst P e all.1 s (inl refl) in
      ap layered_by (o ∙ known_is (base_lists text) table (length text.spaces) s are h) ∙ by_told (c3 (base_lists text) s) ∙ sym (ap (of_children text) e ∙ one_child text s sound h)

  told_all : all_known table spaces ≡ told (each (c3 (base_lists text)) spaces)
  told_all = all_told (base_lists text) table (length text.spaces) spaces are all.1

  pub no_layers : all_known table spaces ≡ None → NoOrder ≡ of_children text spaces
  no_layers e = sym (some_children text spaces some ∙ no_layers_by spaces (each (c3 (base_lists text)) spaces) (sym told_all ∙ e))

  all_orders : (orders : List (List SpaceId)) → all_known table spaces ≡ Some orders → each (c3 (base_lists text)) spaces ≡ Ok orders
  all_orders orders e = told_ok (each (c3 (base_lists text)) spaces) orders (sym told_all ∙ e)

  pub children_distinct : (orders : List (List SpaceId)) → all_known table spaces ≡ Some orders → AllDistinct (orders ++ spaces ∷ [])
  children_distinct orders e = (last_spaces text orders spaces (each_spaces text sound spaces orders all.1 (all_orders orders e)) all).0

  pub children_merge : (orders : List (List SpaceId)) (order : Option (List SpaceId)) → all_known table spaces ≡ Some orders → order ≡ told (put_all [] (merge (orders ++ spaces ∷ []))) → layered_by order ≡ of_children text spaces
  children_merge orders order e o =
      ap layered_by o ∙ by_told (merge (orders ++ spaces ∷ [])) ∙ sym (some_children text spaces some ∙ ap (λ (a : All). layered (merge_orders spaces a)) (all_orders orders e))

pub single : (spaces : List SpaceId) (d : SpaceId) → 1 ≤ length spaces → length spaces < 2 → spaces ≡ get_or spaces 0 d ∷ []
single [] d l m = absurd (omega arith)
single (s ∷ []) d l m = refl
single (s ∷ t ∷ spaces) d l m = absurd (omega arith)

-- ---- the table of orders

pub no_orders : (lists : List (List SpaceId)) → AreOrders lists [] 0
no_orders lists = record { long = refl; each = λ s h. absurd (omega arith) }
