-- The names of an address, one segment after the other.
use Rattle.std.proofs.Common.{◌≡◌, ℕ, ◌+◌, ◌<◌, List, [], ◌∷◌, ◌++◌, length, take, drop, get_or, Option, Some, None, refl, sym, ◌∙◌, ap}
use Rattle.std.proofs.lemmas.Option.{same_Some}
use Rattle.std.proofs.lemmas.List.{take_more, drop_more, take-append-drop}
use Rattle.mx_value.specs.declared.value.Segment.{Segment, out-Segment}
use Rattle.mx_model.specs.Records.{Name, Path}
use Rattle.mx_model.specs.Inputs.{name_in, joined, path_of}

record Joined (first : Option Name) (rest : Option Path) (path : Path) : Type 0 where
  head : Name
  tail : Path
  is_head : first ≡ Some head
  is_tail : rest ≡ Some tail
  is : path ≡ head ∷ tail

joined_parts : (first : Option Name) (rest : Option Path) (path : Path) → joined first rest ≡ Some path → Joined first rest path
joined_parts None rest path e = absurd (let f : None ≡ Some path = e in cc)
joined_parts (Some name) None path e = absurd (let f : None ≡ Some path = e in cc)
joined_parts (Some name) (Some names) path e = record { head = name; tail = names; is_head = refl; is_tail = refl; is = sym (same_Some (name ∷ names) path e) }

joined_none : (first : Option Name) → joined first None ≡ None
joined_none None = refl
joined_none (Some name) = refl

path_push : (at : List Segment) (names : Path) (segment : Segment) (name : Name) → path_of at ≡ Some names → name_in (out-Segment segment) ≡ Some name → path_of (at ++ segment ∷ []) ≡ Some (names ++ name ∷ [])
path_push [] names segment name e s =
    ap (λ (o : Option Name). joined o (Some [])) s ∙ ap (λ (ns : Path). Some (ns ++ name ∷ [])) (same_Some [] names e)
path_push (first ∷ at) names segment name e s =
    let parts = joined_parts (name_in (out-Segment first)) (path_of at) names e in
    ap (joined (name_in (out-Segment first))) (path_push at parts.tail segment name parts.is_tail s) ∙
    ap (λ (o : Option Name). joined o (Some (parts.tail ++ name ∷ []))) parts.is_head ∙
    ap (λ (ns : Path). Some (ns ++ name ∷ [])) (sym parts.is)

path_stop : (at rest : List Segment) (segment : Segment) → name_in (out-Segment segment) ≡ None → path_of (at ++ segment ∷ rest) ≡ None
path_stop [] rest segment s = ap (λ (o : Option Name). joined o (path_of rest)) s
path_stop (first ∷ at) rest segment s = ap (joined (name_in (out-Segment first))) (path_stop at rest segment s) ∙ joined_none (name_in (out-Segment first))

-- one name more
pub path_more : (at : List Segment) (i : ℕ) (names : Path) (segment : Segment) (name : Name) → i < length at → path_of (take i at) ≡ Some names → segment ≡ get_or at i segment → name_in (out-Segment segment) ≡ Some name → path_of (take (i + 1) at) ≡ Some (names ++ name ∷ [])
path_more at i names segment name within e is s =
    ap path_of (take_more at i segment within ∙ ap (λ (x : Segment). take i at ++ x ∷ []) (sym is)) ∙ path_push (take i at) names segment name e s

-- an item has no path
pub path_ends : (at : List Segment) (i : ℕ) (segment : Segment) → i < length at → segment ≡ get_or at i segment → name_in (out-Segment segment) ≡ None → path_of at ≡ None
path_ends at i segment within is s =
    let split : take i at ++ segment ∷ drop (i + 1) at ≡ at =
    ap (λ (x : Segment). take i at ++ x ∷ drop (i + 1) at) is ∙ ap (λ (xs : List Segment). take i at ++ xs) (sym (drop_more at i segment within)) ∙ take-append-drop i at in
    ap path_of (sym split) ∙ path_stop (take i at) (drop (i + 1) at) segment s
