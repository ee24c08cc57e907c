-- The text of a new model is valid.
use Rattle.std.proofs.Common.{◌≡◌, ℕ, true, false, List, [], ◌∷◌, ◌++◌, length, Option, Some, None, inl, inr, refl, sym, ◌∙◌, ap, subst, arith, codes}
use Rattle.std.specs.Prelude.{IsTrue}
use Rattle.mx_value.specs.Name.{is_keyword}
use Rattle.mx_c3.specs.declared.space.SpaceId.{SpaceId}
use Rattle.mx_c3.specs.Lists.{Has, Distinct}
use Rattle.mx_c3.specs.Merge.{merge}
use Rattle.mx_c3.specs.Linearisation.{c3}
use Rattle.mx_model.specs.Records.{Name, Path, SpaceRecord, beginning}
use Rattle.mx_model.specs.declared.layers.Layered.{Layered}
use Rattle.mx_model.specs.declared.layers.Layered.TheVariants.{Layers, NotStatic}
use Rattle.mx_model.specs.Layers.{paths_of, id_of, below, further, at_top, layers, is_there, is_static}
use Rattle.mx_model.specs.Rings.{IsDefined, HasChild, Leads, HasNoRing}
use Rattle.mx_model.specs.Walk.{Before, own_trouble, layers_trouble, HasBefore, MeetsAt, MeetsNothing}
use Rattle.mx_model.specs.Valid.{Valid, names_of, IsReference}
use Rattle.mx_model.specs.Paths.{split_last, child_names}
use Rattle.mx_model.specs.Parents.{HasParent}
use Rattle.mx_model.proofs.Filtered.{place_has}
use Rattle.mx_model.proofs.Places.{id_at, SpaceAt, defined_space}
use Rattle.std.proofs.lemmas.List.{length-append}
use Rattle.mx_paths.specs.Names.{AreNames, IsNamed}
use Rattle.mx_model.specs.Literals.{AreLiteral, HasLiterals}
use Rattle.mx_paths.proofs.PathOrder.{before_not}

abbrev main : Name
main = codes "Main"

main_layers : layers beginning (main ∷ []) ≡ Layers (record { 0 = 0 } ∷ [])
unfolding c3 merge
main_layers = refl

far_not : (names : List Name) → further beginning NotStatic names ≡ NotStatic
far_not [] = refl
far_not (n ∷ ns) = far_not ns

gone : (names : List Name) → is_there (further beginning NotStatic names) ≡ true → ⊥
gone names t = let e = ap is_there (far_not names) in let f : true ≡ false = sym t ∙ e in cc

top_main : (n : Name) (ns : List Name) (found : Option SpaceId) → id_of beginning (n ∷ []) ≡ found → is_there (further beginning (at_top beginning found) ns) ≡ true → n ≡ main
top_main n ns None e t = absurd (gone ns t)
top_main n ns (Some s) e t =
    elim (place_has (paths_of beginning) s.0 (n ∷ []) (id_at beginning (n ∷ []) s e)) [
      | inl same ↦ let f : main ∷ [] ≡ n ∷ [] = same in let g : n ≡ main = cc in g
      | inr none ↦ absurd none
    ]

below_main : (m : Name) → below beginning (Layers (record { 0 = 0 } ∷ [])) m ≡ NotStatic
below_main m = refl

main_alone : (ns : List Name) → IsTrue (is_static beginning (main ∷ ns)) → ns ≡ []
main_alone [] t = refl
main_alone (m ∷ ms) t =
    let e = ap (λ (r : Layered). further beginning (below beginning r m) ms) main_layers ∙ ap (λ (r : Layered). further beginning r ms) (below_main m) in
    absurd (gone ms (sym (ap is_there e) ∙ t))

-- the one static path
only_main : (path : Path) → IsTrue (is_static beginning path) → path ≡ main ∷ []
only_main [] t = absurd (let f : false ≡ true = t in cc)
only_main (n ∷ ns) t =
    let e = top_main n ns (id_of beginning (n ∷ [])) refl t in
    let f = main_alone ns (subst (λ (m : Name). IsTrue (is_static beginning (m ∷ ns))) e t) in
    ap (λ (m : Name). m ∷ ns) e ∙ ap (λ (ms : List Name). main ∷ ms) f

main_fine : own_trouble beginning (main ∷ []) ≡ None
main_fine = ap (layers_trouble (main ∷ [])) main_layers

main_first : (count : ℕ) → HasBefore beginning (main ∷ []) count → count ≡ 0
main_first count before = sym before.many ∙ none_by before.paths before.static before.before
  where
    none_by : (paths : List Path) → ((q : Path) → Has paths q → IsTrue (is_static beginning q)) → ((q : Path) → Has paths q → Before q (main ∷ [])) → length paths ≡ 0
    none_by [] static before = refl
    none_by (q ∷ paths) static before = absurd (before_not (main ∷ []) (subst (λ (p : Path). Before p (main ∷ [])) (only_main q (static q (inl refl))) (before q (inl refl))))

walked : MeetsNothing beginning
walked path why t meets =
    let same = only_main path t in
    let m : MeetsAt beginning (main ∷ []) why = subst (λ (p : Path). MeetsAt beginning p why) same meets in
    elim m [
      | inl e ↦ let f : None ≡ Some why = sym main_fine ∙ e in cc
      | inr many ↦ let z = main_first 20000 many.1 in omega arith
    ]

-- nothing leads anywhere
no_lead : (from to : Path) → Leads beginning from to → ⊥
no_lead from to l =
    elim l.1 [
      | inl child ↦
          let here = defined_space beginning from l.0 in
          let there = defined_space beginning to child.defined in
          alone from to (one here) (one there) child
      | inr base ↦ elim base.has [ inl e ↦ subst (λ (s : SpaceRecord). Has s.bases to → ⊥) e (λ h. h) base.among | inr none ↦ none ]
    ]
  where
    one : {path : Path} → SpaceAt beginning path → path ≡ main ∷ []
    one m = elim m.among [ inl e ↦ sym m.is ∙ sym (ap (λ (s : SpaceRecord). s.path) e) | inr none ↦ absurd none ]

    alone : (from to : Path) → from ≡ main ∷ [] → to ≡ main ∷ [] → HasChild beginning from to → ⊥
    alone from to e f child =
        let long : to ≡ from ++ child.name ∷ [] = child.at in
        let a = ap length f in
        let b = ap length e in
        let c = ap length long in
        let d = length-append from (child.name ∷ []) in
        omega arith

no_ring : HasNoRing beginning
no_ring path [] l = no_lead path path l
no_ring path (next ∷ paths) l = no_lead path next l.0

pub begins_valid : Valid beginning
begins_valid = record {
  names = record {
    parents = λ s h. elim h [ inl e ↦ subst (λ (s : SpaceRecord). HasParent beginning (split_last s.path)) e (inl refl) | inr none ↦ absurd none ];
    members = λ s h. elim h [ inl e ↦ subst (λ (s : SpaceRecord). Distinct (child_names beginning s.path ++ names_of s.cells ++ names_of s.references)) e tt | inr none ↦ absurd none ];
    top = ((λ h. absurd h), tt);
    tables = tt;
  };
  bases = λ s h. elim h [ inl e ↦ subst (λ (s : SpaceRecord). Distinct s.bases × ((base : Path) → Has s.bases base → IsDefined beginning base)) e (tt, λ base i. absurd i) | inr none ↦ absurd none ];
  no_ring = no_ring;
  walked = walked;
  few = refl;
  inputs = record { each = λ input h. absurd h; once = tt };
  references = record {
    globals = λ r h. absurd h;
    owned = λ s r h i. elim h [ inl e ↦ subst (λ (s : SpaceRecord). Has s.references r → IsReference beginning r.1) e (λ k. absurd k) i | inr none ↦ absurd none ];
  };
}

pub begins_named : IsNamed beginning
unfolding is_keyword
begins_named = record {
  names = λ path h. elim h [ inl e ↦ subst AreNames e (refl, tt) | inr none ↦ absurd none ];
  some = λ h. elim h [ inl e ↦ let f : main ∷ [] ≡ [] = e in cc | inr none ↦ none ];
}

pub begins_literal : HasLiterals beginning
begins_literal = λ s c h i. elim h [ inl e ↦ subst (λ (s : SpaceRecord). Has s.cells c → AreLiteral c.1.formula.params) e (λ k. absurd k) i | inr none ↦ absurd none ]
