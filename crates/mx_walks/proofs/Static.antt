-- Where the walk of an address without an item comes to.
use Rattle.std.proofs.Common.{◌≡◌, ◌+◌, ◌≤◌, Bool, false, List, [], ◌∷◌, ◌++◌, length, Option, Some, None, refl, sym, ◌∙◌, ap, arith, append_assoc, length-append}
use Rattle.std.specs.Prelude.{nat_le, if◌then◌else◌}
use Rattle.std.proofs.lemmas.Bool.{lt-leb}
use Rattle.std.proofs.lemmas.List.{append-nil}
use Rattle.std.proofs.lemmas.Option.{same_Some}
use Rattle.mx_value.specs.declared.label.Label.{Label}
use Rattle.mx_value.specs.declared.value.Segment.{Segment, out-Segment}
use Rattle.mx_value.specs.declared.value.Segment.TheOpen.{Segment-F}
use Rattle.mx_value.specs.declared.value.Segment.TheViews.{roll-Segment, roll-out-Segment}
use Rattle.mx_value.specs.declared.value.Segment.TheVariants as segment
use Rattle.mx_value.specs.declared.namespace.Namespace.{Namespace}
use Rattle.mx_runs.specs.Runs.{NoSuch}
use Rattle.mx_model.specs.Inputs.{name_in, joined, path_of}
use Rattle.mx_meaning.specs.Namespaces.{Step, child}
use Rattle.mx_walks.specs.Ways.{Look, Came, Refused, step_way, way_of, begun_way}

-- the name in front of an address, and the names behind it
record Joined (first : Option Label) (rest : Option (List Label)) (names : List Label) : Type 0 where
  head : Label
  tail : List Label
  is_head : first ≡ Some head
  is_tail : rest ≡ Some tail
  is : names ≡ head ∷ tail

joined_parts : (first : Option Label) (rest : Option (List Label)) (names : List Label) → joined first rest ≡ Some names → Joined first rest names
joined_parts None rest names e = absurd (let f : None ≡ Some names = e in cc)
joined_parts (Some name) None names e = absurd (let f : None ≡ Some names = e in cc)
joined_parts (Some name) (Some tail) names e = record { head = name; tail = tail; is_head = refl; is_tail = refl; is = sym (same_Some (name ∷ tail) names e) }

named : (step : Step) (name : Label) → name_in step ≡ Some name → step ≡ Segment-F.Name name
named (Segment-F.Name other) name e = ap (λ (n : Label). Segment-F.Name n) (same_Some other name e)
named (Segment-F.Item items) name e = absurd (let f : None ≡ Some name = e in cc)

named_segment : (s : Segment) (name : Label) → out-Segment s ≡ Segment-F.Name name → segment.Name name ≡ s
named_segment s name e = sym (segment.rolls-Name name) ∙ ap roll-Segment (sym e) ∙ roll-out-Segment s

-- the namespace behind these segments with these names
abbrev behind : Namespace → List Segment → List Label → Namespace
behind ns at names = record { at = ns.at ++ at; source = ns.source ++ names; overlay = ns.overlay }

module _ (look : Look) where
  static_way : (at : List Segment) (names : List Label) (ns : Namespace) → path_of at ≡ Some names → length ns.at + length at ≤ 64 → way_of look at ns ≡ Came (behind ns at names)
  static_way [] names ns e few =
      ap (λ (x : List Segment). Came (record { at = x; source = ns.source; overlay = ns.overlay })) (sym (append-nil ns.at))
      ∙ ap (λ (x : List Label). Came (record { at = ns.at ++ []; source = x; overlay = ns.overlay })) (sym (append-nil ns.source) ∙ ap (λ (x : List Label). ns.source ++ x) (same_Some [] names e))
  static_way (s ∷ more) names ns e few =
      let parts = joined_parts (name_in (out-Segment s)) (path_of more) names e in
      let step = named (out-Segment s) parts.head parts.is_head in
      let short : nat_le 64 (length ns.at) ≡ false = lt-leb 64 (length ns.at) (omega arith) in
      let less : length (child parts.head ns).at + length more ≤ 64 = omega (arith, length-append ns.at (segment.Name parts.head ∷ [])) in
      ap (λ (b : Bool). if b then Refused NoSuch else step_way look more (out-Segment s) ns (way_of look more)) short
      ∙ ap (λ (x : Step). step_way look more x ns (way_of look more)) step
      ∙ static_way more parts.tail (child parts.head ns) parts.is_tail less
      ∙ ap (λ (x : List Segment). Came (record { at = x; source = (ns.source ++ parts.head ∷ []) ++ parts.tail; overlay = ns.overlay })) (append_assoc ns.at (segment.Name parts.head ∷ []) more ∙ ap (λ (x : Segment). ns.at ++ x ∷ more) (named_segment s parts.head step))
      ∙ ap (λ (x : List Label). Came (record { at = ns.at ++ s ∷ more; source = x; overlay = ns.overlay })) (append_assoc ns.source (parts.head ∷ []) parts.tail ∙ ap (λ (x : List Label). ns.source ++ x) (sym parts.is))

-- an address of names alone is its namespace's own, and its names are its source
pub static_walk : (look : Look) (at : List Segment) (names : List Label) → path_of at ≡ Some names → length at ≤ 64 → way_of look at (record { at = []; source = []; overlay = [] }) ≡ Came (record { at = at; source = names; overlay = [] })
static_walk look at names e few = static_way look at names (record { at = []; source = []; overlay = [] }) e (omega arith)

-- an address that is not empty begins at the top
pub begun_on : (look : Look) (at : List Segment) → (at ≡ [] → ⊥) → way_of look at (record { at = []; source = []; overlay = [] }) ≡ begun_way look at
begun_on look [] some = absurd (some refl)
begun_on look (s ∷ more) some = refl
