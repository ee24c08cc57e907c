-- Each edit to which no refusal applies leaves what a valid text asks of its spaces and of the model.
use Rattle.std.proofs.Common.{◌≡◌, ℕ, ◌≤◌, Bool, true, false, not, List, [], ◌∷◌, length, map, nat_lt, Option, Some, None, ◌||◌, ◌&&◌, ◌⊎◌, inl, inr, refl, sym, ◌∙◌, ap, subst, arith}
use Rattle.std.specs.Prelude.{IsTrue, is_some, if◌then◌else◌}
use Rattle.std.specs.List.{filter, list_any}
use Rattle.std.specs.Map.{lookup}
use Rattle.mx_value.specs.Name.{same_name}
use Rattle.mx_value.specs.Plain.{is_plain}
use Rattle.mx_value.specs.Nesting.{nesting_of}
use Rattle.mx_value.specs.declared.value.Value.{Value}
use Rattle.mx_print.specs.Values.{value_text}
use Rattle.mx_syntax.specs.declared.stmt.Formula.{Formula}
use Rattle.mx_edit.specs.Rows.{TableRows}
use Rattle.mx_edit.specs.declared.reference.RefValue.{RefValue}
use Rattle.mx_edit.specs.declared.reference.RefValue.TheVariants as ref
use Rattle.mx_edit.specs.declared.edit.Edit.{Edit}
use Rattle.mx_edit.specs.declared.edit.Edit.TheVariants as edit
use Rattle.mx_edit.specs.declared.refusal.EditRefusal.{EditRefusal}
use Rattle.mx_edit.specs.declared.refusal.EditRefusal.TheVariants as refusal
use Rattle.mx_c3.specs.Lists.{Has, Distinct}
use Rattle.mx_c3.proofs.ListLemmas.{has_push_cases, has_left}
use Rattle.mx_model.specs.Records.{Name, Path, SpaceRecord, ModelRecord, empty_space}
use Rattle.mx_model.specs.Layers.{paths_of, id_in}
use Rattle.mx_model.specs.Paths.{split_last, is_defined, space_at}
use Rattle.mx_model.specs.Parents.{HasParent}
use Rattle.mx_model.specs.Rings.{IsDefined}
use Rattle.mx_model.specs.Change.{is_within, at_space, define, without, define_cells, set_allow, change, bound_edit}
use Rattle.mx_model.specs.Refused.{is_unfit, is_long, is_target, has_cells, has_reference, has_child, holds_reference, uses, first_user}
use Rattle.mx_model.specs.Valid.{names_of, IsKept, IsReference}
use Rattle.mx_model.proofs.Filtered.{has_map}
use Rattle.mx_model.proofs.Places.{defined_space, space_defined}
use Rattle.mx_model.proofs.Defined.{same_ends}
use Rattle.mx_model.proofs.NameLemmas.{same_is, is_same, define_other, define_own}
use Rattle.mx_changes.proofs.Free.{IsFree, is_true, either}
use Rattle.mx_changes.proofs.NewSpaces.{grown}
use Rattle.mx_model.specs.Literals.{AreLiteral, IsRead}
use Rattle.mx_whole_edits.proofs.TextSizes.{text_fits}
use Rattle.mx_whole_edits.proofs.Members.{define_has, define_keys, define_once, without_has, without_keys, without_once}
use Rattle.mx_whole_edits.proofs.Fine.{child, Fine, Top, lookup_none, no_such_cells, no_such_reference}
use Rattle.mx_whole_edits.proofs.FineSpaces.{AllFine, fine_params, fine_bases, fine_defined_cells, fine_without_cells, fine_set, fine_defined_reference, fine_without_reference, carry, at_fine, at_defined, kept_paths}
use Rattle.mx_whole_edits.proofs.Free.{IsUnused}

not_defined : (b : Bool) → b ≡ false → IsTrue b → ⊥
not_defined b e t = let f : b ≡ true = t in let g : true ≡ false = sym f ∙ e in cc

-- ---- values

plain_of : (v : Value) → is_unfit v ≡ false → is_plain v ≡ true
plain_of v e = by_test (is_plain v) (nat_lt 64 (nesting_of v)) e
  where
    by_test : (b c : Bool) → (not b || c) ≡ false → b ≡ true
    by_test true c f = refl
    by_test false c f = absurd (let g : true ≡ false = f in cc)

pub not_long : (n m : ℕ) → nat_lt n m ≡ false → m ≤ n
not_long n m h = grind arith

pub kept_value : (v : Value) → is_unfit v ≡ false → is_long (length (value_text v)) ≡ false → IsKept v
kept_value v fit short =
    let l = text_fits v (plain_of v fit) in
    let m = not_long 60000 (length (value_text v)) short in
    (fit, omega arith)

reference_fits : (text : ModelRecord) (path : Path) (name : Name) (value : RefValue) → IsFree text (edit.SetRef path name value) → IsReference text value
reference_fits text path name (ref.Plain v) f = let e = either (is_unfit v) (is_long (length (value_text v))) f.values in kept_value v e.0 e.1
reference_fits text path name (ref.Table n) f = is_true (is_target text (ref.Table n)) f.members
reference_fits text path name (ref.Target p fixed) f = tt

-- ---- tables

table_by : (tables : List (Name × TableRows)) (name n : Name) (rows : TableRows) (b : Bool) → same_name name n ≡ b → IsTrue (is_some (lookup (same_name n) tables)) → IsTrue (is_some (lookup (same_name n) (define same_name tables name rows)))
table_by tables name n rows true e t =
    let P : Name → Type 0 = λ z. IsTrue (is_some (lookup (same_name z) (define same_name tables name rows))) in
    subst P (same_is name n e) (ap is_some (define_own name tables rows))
table_by tables name n rows false e t = ap is_some (define_other name n tables rows e) ∙ t

table_fits : (text : ModelRecord) (name : Name) (rows : TableRows) (value : RefValue) → IsReference text value → IsReference (record text { tables = define same_name text.tables name rows }) value
table_fits text name rows (ref.Plain v) r = r
table_fits text name rows (ref.Table n) r = table_by text.tables name n rows (same_name name n) refl r
table_fits text name rows (ref.Target p fixed) r = tt

-- ---- what an edit is made to

pub record Places (text : ModelRecord) : Type 0 where
  pub once : Distinct (paths_of text)
  pub parents : (path : Path) → Has (paths_of text) path → HasParent text (split_last path)

pub record IsWell (made : ModelRecord) : Type 0 where
  pub fine : AllFine made
  pub top : Top made

in_use_none : (o : Option Path) → (elim o as (λ (p : Option Path). Option EditRefusal) [ Some user ↦ Some (refusal.InUse user) | None ↦ None ]) ≡ None → o ≡ None
in_use_none None e = refl
in_use_none (Some user) e = absurd (let f : Some (refusal.InUse user) ≡ None = e in cc)

module _ (text : ModelRecord) (places : Places text) (all : AllFine text) (top : Top text) where
  -- other globals, inputs or tables
  same_top : (made : ModelRecord) → made.globals ≡ text.globals → made.tables ≡ text.tables → ((n : Name) → IsDefined made (n ∷ []) → Has (names_of text.globals) n → ⊥) → ((value : RefValue) → IsReference text value → IsReference made value) → Top made
  same_top made g t free refs = record {
    once = let P : List (Name × RefValue) → Type 0 = λ ms. Distinct (names_of ms) in subst P (sym g) top.once;
    no_globals = λ n d h. free n d (let P : List (Name × RefValue) → Type 0 = λ ms. Has (names_of ms) n in subst P g h);
    refs = λ r h. refs r.1 (top.refs r (let P : List (Name × RefValue) → Type 0 = λ ms. Has ms r in subst P g h));
    tables = let P : List (Name × TableRows) → Type 0 = λ ms. Distinct (names_of ms) in subst P (sym t) top.tables;
  }

  at_top : (path : Path) (f : SpaceRecord → SpaceRecord) → ((z : SpaceRecord) → (f z).path ≡ z.path) → Top (at_space text path f)
  at_top path f keeps = same_top (at_space text path f) refl refl (λ n d h. top.no_globals n (at_defined text path f keeps (n ∷ []) d) h) (λ value r. r)

  -- ---- a new space

  new_back : (new p : Path) → IsDefined (grown text new) p → IsDefined text p ⊎ (new ≡ p)
  new_back new p d =
      let s = defined_space (grown text new) p d in
      let P : Path → Type 0 = λ q. IsDefined text q in
      elim (has_push_cases text.spaces (empty_space new) s.space s.among) [
        | inl i ↦ inl (subst P s.is (space_defined text s.space i))
        | inr e ↦ inr (ap (λ (z : SpaceRecord). z.path) e ∙ s.is)
      ]

  new_on : (new p : Path) → IsDefined text p → IsDefined (grown text new) p
  new_on new p d =
      let s = defined_space text p d in
      let P : Path → Type 0 = λ q. IsDefined (grown text new) q in
      subst P s.is (space_defined (grown text new) s.space (has_left text.spaces (empty_space new ∷ []) s.space s.among))

  no_new_reference : (parent : Path) (name : Name) (s : SpaceRecord) → holds_reference text parent name ≡ false → Has text.spaces s → s.path ≡ parent → Has (names_of s.references) name → ⊥
  no_new_reference [] name s none h is k = let P : Path → Type 0 = λ p. HasParent text (split_last p) in subst P is (places.parents s.path (has_map (λ (z : SpaceRecord). z.path) text.spaces s h))
  no_new_reference (first ∷ names) name s none h is k = no_such_reference text places.once s (first ∷ names) name h is none k

  new_fine : (parent : Path) (name : Name) → has_cells name (space_at text parent) ≡ false → holds_reference text parent name ≡ false → AllFine (grown text (child parent name))
  new_fine parent name no_cells no_refs s h =
      elim (has_push_cases text.spaces (empty_space (child parent name)) s h) [
        | inl i ↦ old s i
        | inr e ↦ (let P : SpaceRecord → Type 0 = λ z. Fine made z in subst P e fresh)
      ]
    where
      made : ModelRecord
      made = grown text (child parent name)

      fresh : Fine made (empty_space (child parent name))
      fresh = record {
        cells_once = tt;
        refs_once = tt;
        no_cells = λ n d k. k;
        no_refs = λ n d k. k;
        apart = λ n k c. k;
        bases = λ base k. absurd k;
        refs = λ r k. absurd k;
        literal = λ c k. absurd k;
      }

      old : (s : SpaceRecord) → Has text.spaces s → Fine made s
      old s i = record {
        cells_once = (all s i).cells_once;
        refs_once = (all s i).refs_once;
        no_cells = λ n d k. elim (new_back (child parent name) (child s.path n) d) [
          | inl o ↦ (all s i).no_cells n o k
          | inr e ↦
              let ends = same_ends parent s.path name n e in
              no_such_cells text places.once s parent name i (sym ends.0) no_cells (let P : Name → Type 0 = λ z. Has (names_of s.cells) z in subst P (sym ends.1) k)
        ];
        no_refs = λ n d k. elim (new_back (child parent name) (child s.path n) d) [
          | inl o ↦ (all s i).no_refs n o k
          | inr e ↦
              let ends = same_ends parent s.path name n e in
              no_new_reference parent name s no_refs i (sym ends.0) (let P : Name → Type 0 = λ z. Has (names_of s.references) z in subst P (sym ends.1) k)
        ];
        apart = (all s i).apart;
        bases = λ base k. new_on (child parent name) base ((all s i).bases base k);
        refs = λ r k. (all s i).refs r k;
        literal = (all s i).literal;
      }

  new_top : (parent : Path) (name : Name) → holds_reference text parent name ≡ false → Top (grown text (child parent name))
  new_top parent name none = same_top (grown text (child parent name)) refl refl (λ n d h. free n (new_back (child parent name) (n ∷ []) d) h) (λ value r. r)
    where
      at_empty : (p : Path) → holds_reference text p name ≡ false → p ≡ [] → is_some (lookup (same_name name) text.globals) ≡ false
      at_empty [] e is = e
      at_empty (first ∷ names) e is = absurd (let f : first ∷ names ≡ [] = is in cc)

      free : (n : Name) → IsDefined text (n ∷ []) ⊎ (child parent name ≡ n ∷ []) → Has (names_of text.globals) n → ⊥
      free n (inl d) h = top.no_globals n d h
      free n (inr e) h =
          let ends = same_ends parent [] name n e in
          lookup_none text.globals name (at_empty parent none ends.0) (let P : Name → Type 0 = λ z. Has (names_of text.globals) z in subst P (sym ends.1) h)

  -- ---- a space goes

  abbrev stays : Path → SpaceRecord → Bool
  stays path s = not (is_within path s.path)

  abbrev rest : Path → ModelRecord
  rest path = record text { spaces = filter (stays path) text.spaces }

  users_by : (path : Path) (z s : SpaceRecord) (spaces : List SpaceRecord) (b : Bool) → uses path z ≡ b → (if b then Some z.path else first_user path spaces) ≡ None → (first_user path spaces ≡ None → Has spaces s → uses path s ≡ false) → Has (z ∷ spaces) s → uses path s ≡ false
  users_by path z s spaces true e none f h = absurd (let g : Some z.path ≡ None = none in cc)
  users_by path z s spaces false e none f h = elim h [ inl i ↦ ap (uses path) (sym i) ∙ e | inr r ↦ f none r ]

  no_user : (path : Path) (s : SpaceRecord) (spaces : List SpaceRecord) → first_user path spaces ≡ None → Has spaces s → uses path s ≡ false
  no_user path s [] none h = absurd h
  no_user path s (z ∷ spaces) none h = users_by path z s spaces (uses path z) refl none (no_user path s spaces) h

  any_of : (p : Path → Bool) (x : Path) (xs : List Path) → Has xs x → list_any p xs ≡ false → p x ≡ false
  any_of p x [] h e = absurd h
  any_of p x (y ∷ xs) h e = let b = either (p y) (list_any p xs) e in elim h [ inl i ↦ ap p (sym i) ∙ b.0 | inr r ↦ any_of p x xs r b.1 ]

  not_used : (a b : Bool) → (a && b) ≡ false → a ≡ true → b ≡ false
  not_used true b e t = e
  not_used false b e t = absurd (let g : false ≡ true = t in cc)

  stayed_by : (path : Path) (z s : SpaceRecord) (spaces : List SpaceRecord) (b : Bool) → stays path z ≡ b → (Has (filter (stays path) spaces) s → Has spaces s × (stays path s ≡ true)) → Has (if b then z ∷ filter (stays path) spaces else filter (stays path) spaces) s → Has (z ∷ spaces) s × (stays path s ≡ true)
  stayed_by path z s spaces true e f h = elim h [ inl i ↦ (inl i, ap (stays path) (sym i) ∙ e) | inr r ↦ (inr (f r).0, (f r).1) ]
  stayed_by path z s spaces false e f h = (inr (f h).0, (f h).1)

  stayed : (path : Path) (s : SpaceRecord) (spaces : List SpaceRecord) → Has (filter (stays path) spaces) s → Has spaces s × (stays path s ≡ true)
  stayed path s [] h = absurd h
  stayed path s (z ∷ spaces) h = stayed_by path z s spaces (stays path z) refl (stayed path s spaces) h

  keeps_by : (path : Path) (z s : SpaceRecord) (spaces : List SpaceRecord) (b : Bool) → stays path z ≡ b → stays path s ≡ true → (Has spaces s → Has (filter (stays path) spaces) s) → Has (z ∷ spaces) s → Has (if b then z ∷ filter (stays path) spaces else filter (stays path) spaces) s
  keeps_by path z s spaces true e t f h = elim h [ inl i ↦ inl i | inr r ↦ inr (f r) ]
  keeps_by path z s spaces false e t f h = elim h [ inl i ↦ absurd (let g : true ≡ false = sym t ∙ ap (stays path) (sym i) ∙ e in cc) | inr r ↦ f r ]

  keeps : (path : Path) (s : SpaceRecord) (spaces : List SpaceRecord) → stays path s ≡ true → Has spaces s → Has (filter (stays path) spaces) s
  keeps path s [] t h = absurd h
  keeps path s (z ∷ spaces) t h = keeps_by path z s spaces (stays path z) refl t (keeps path s spaces t) h

  gone_back : (path p : Path) → IsDefined (rest path) p → IsDefined text p
  gone_back path p d =
      let s = defined_space (rest path) p d in
      let P : Path → Type 0 = λ q. IsDefined text q in
      subst P s.is (space_defined text s.space (stayed path s.space text.spaces s.among).0)

  base_stays : (path base : Path) → is_within path base ≡ false → IsDefined text base → IsDefined (rest path) base
  base_stays path base out d =
      let s = defined_space text base d in
      let P : Path → Type 0 = λ q. IsDefined (rest path) q in
      let t : stays path s.space ≡ true = ap (λ (q : Path). not (is_within path q)) s.is ∙ ap not out in
      subst P s.is (space_defined (rest path) s.space (keeps path s.space text.spaces t s.among))

  gone_fine : (path : Path) → first_user path text.spaces ≡ None → AllFine (rest path)
  gone_fine path none s h = record {
    cells_once = fine.cells_once;
    refs_once = fine.refs_once;
    no_cells = λ n d k. fine.no_cells n (gone_back path (child s.path n) d) k;
    no_refs = λ n d k. fine.no_refs n (gone_back path (child s.path n) d) k;
    apart = fine.apart;
    bases = λ base k. base_stays path base (any_of (is_within path) base s.bases k unused) (fine.bases base k);
    refs = λ r k. fine.refs r k;
    literal = fine.literal;
  }
    where
      was : Has text.spaces s × (stays path s ≡ true)
      was = stayed path s text.spaces h

      fine : Fine text s
      fine = all s was.0

      unused : list_any (is_within path) s.bases ≡ false
      unused = not_used (stays path s) (list_any (is_within path) s.bases) (no_user path s text.spaces none was.0) was.1

  gone_top : (path : Path) → Top (rest path)
  gone_top path = same_top (rest path) refl refl (λ n d h. top.no_globals n (gone_back path (n ∷ []) d) h) (λ value r. r)

  -- ---- members

  no_child : (path : Path) (name : Name) (f : SpaceRecord → SpaceRecord) (s : SpaceRecord) → ((z : SpaceRecord) → (f z).path ≡ z.path) → has_child text path name ≡ false → s.path ≡ path → IsDefined (at_space text path f) (child s.path name) → ⊥
  no_child path name f s same none is d =
      let P : Path → Type 0 = λ p. IsDefined text (child p name) in
      not_defined (is_defined text (child path name)) none (subst P is (at_defined text path f same (child s.path name) d))

  bases_defined : (bases : List Path) → list_any (λ (base : Path). not (is_defined text base)) bases ≡ false → (base : Path) → Has bases base → IsDefined text base
  bases_defined bases none base h = is_true (is_defined text base) (any_of (λ (b : Path). not (is_defined text b)) base bases h none)

  at_well : (path : Path) (f : SpaceRecord → SpaceRecord) → ((z : SpaceRecord) → (f z).path ≡ z.path) → ((s : SpaceRecord) → Has text.spaces s → s.path ≡ path → Fine (at_space text path f) s → Fine (at_space text path f) (f s)) → IsWell (at_space text path f)
  at_well path f same changed = record { fine = at_fine text path f same all changed; top = at_top path f same }

  -- the spaces stay
  spaces_well : (made : ModelRecord) → made.spaces ≡ text.spaces → ((value : RefValue) → IsReference text value → IsReference made value) → AllFine made
  spaces_well made e refs s h =
      let P : List SpaceRecord → Type 0 = λ zs. Has zs s in
      carry text made s
      (λ p d. let Q : List SpaceRecord → Type 0 = λ zs. IsTrue (is_some (id_in (map (λ (z : SpaceRecord). z.path) zs) p)) in subst Q e d)
      (λ p d. let Q : List SpaceRecord → Type 0 = λ zs. IsTrue (is_some (id_in (map (λ (z : SpaceRecord). z.path) zs) p)) in subst Q (sym e) d)
      refs (all s (subst P e h))

  cells_well : (path : Path) (name : Name) (formula : Formula) → AreLiteral formula.params → IsFree text (edit.SetCells path name formula) → IsWell (change text (edit.SetCells path name formula))
  cells_well path name formula literal free =
      let f : SpaceRecord → SpaceRecord = λ s. record s { cells = define_cells s.cells name formula } in
      let taken = either (has_child text path name) (has_reference name (space_at text path)) free.names in
      at_well path f (λ z. refl) (λ s h is fine.
      fine_defined_cells (at_space text path f) s fine name formula
      (no_child path name f s (λ z. refl) taken.0 is)
      (no_such_reference text places.once s path name h is taken.1) literal)

  reference_well : (path : Path) (name : Name) (value : RefValue) → IsFree text (edit.SetRef path name value) → IsWell (change text (edit.SetRef path name value))
  reference_well [] name value free =
      let made = change text (edit.SetRef [] name value) in
      let taken = either (has_child text [] name) (has_cells name (space_at text [])) free.names in
      let fits = reference_fits text [] name value free in
      record {
        fine = spaces_well made refl (λ v r. r);
        top = record {
          once = define_once same_name same_is is_same text.globals name value top.once;
          no_globals = λ n d h. elim (define_keys same_name same_is is_same text.globals name value n h) [
            | inl o ↦ top.no_globals n d o
            | inr e ↦ not_defined (is_defined text (name ∷ [])) taken.0 (let P : Name → Type 0 = λ z. IsDefined text (z ∷ []) in subst P e d)
          ];
          refs = λ r h. elim (define_has same_name same_is is_same text.globals name value r h) [
            | inl o ↦ top.refs r o
            | inr e ↦ (let P : RefValue → Type 0 = λ z. IsReference text z in subst P (sym e.1) fits)
          ];
          tables = top.tables;
        };
      }
  reference_well (first ∷ names) name value free =
      let path : Path = first ∷ names in
      let f : SpaceRecord → SpaceRecord = λ s. record s { references = define same_name s.references name value } in
      let taken = either (has_child text path name) (has_cells name (space_at text path)) free.names in
      at_well path f (λ z. refl) (λ s h is fine.
      fine_defined_reference (at_space text path f) s fine name value
      (no_child path name f s (λ z. refl) taken.0 is)
      (no_such_cells text places.once s path name h is taken.1) (reference_fits text path name value free))

  unreferenced_well : (path : Path) (name : Name) → IsWell (change text (edit.DelRef path name))
  unreferenced_well [] name = record {
    fine = spaces_well (change text (edit.DelRef [] name)) refl (λ v r. r);
    top = record {
      once = without_once same_name same_is is_same text.globals name top.once;
      no_globals = λ n d h. top.no_globals n d (without_keys same_name same_is is_same text.globals name n h);
      refs = λ r h. top.refs r (without_has same_name same_is is_same text.globals name r h);
      tables = top.tables;
    };
  }
  unreferenced_well (first ∷ names) name =
      let f : SpaceRecord → SpaceRecord = λ s. record s { references = without same_name s.references name } in
      at_well (first ∷ names) f (λ z. refl) (λ s h is fine. fine_without_reference (at_space text (first ∷ names) f) s fine name)

  table_well : (name : Name) (rows : TableRows) → IsWell (change text (edit.SetTable name rows))
  table_well name rows =
      let made = change text (edit.SetTable name rows) in
      record {
        fine = spaces_well made refl (table_fits text name rows);
        top = record {
          once = top.once;
          no_globals = top.no_globals;
          refs = λ r h. table_fits text name rows r.1 (top.refs r h);
          tables = define_once same_name same_is is_same text.tables name rows top.tables;
        };
      }

  inputs_well : (made : ModelRecord) → made.spaces ≡ text.spaces → made.globals ≡ text.globals → made.tables ≡ text.tables → ((value : RefValue) → IsReference text value → IsReference made value) → IsWell made
  inputs_well made s g t refs = record {
    fine = spaces_well made s refs;
    top = same_top made g t (λ n d h. top.no_globals n (let Q : List SpaceRecord → Type 0 = λ zs. IsTrue (is_some (id_in (map (λ (z : SpaceRecord). z.path) zs) (n ∷ []))) in subst Q s d) h) refs;
  }

  -- ---- the edits

  pub well : (e : Edit) → IsRead e → IsFree text e → IsUnused text e → IsWell (change text (bound_edit text e))
  well (edit.NewSpace parent name) read free unused =
      let a = either (has_child text parent name) (has_cells name (space_at text parent) || holds_reference text parent name) free.names in
      let b = either (has_cells name (space_at text parent)) (holds_reference text parent name) a.1 in
      record { fine = new_fine parent name b.0 b.1; top = new_top parent name b.1 }
  well (edit.DelSpace path) read free unused = record { fine = gone_fine path (in_use_none (first_user path text.spaces) unused.users); top = gone_top path }
  well (edit.SetBases path bases) read free unused =
      let f : SpaceRecord → SpaceRecord = λ s. record s { bases = bases } in
      let a = either (not (is_defined text path)) (list_any (λ (base : Path). not (is_defined text base)) bases) free.spaces in
      let same = kept_paths path f text.spaces (λ z. refl) in
      at_well path f (λ z. refl) (λ s h is fine.
      fine_bases (at_space text path f) s fine bases (λ base k.
      let P : List Path → Type 0 = λ ps. IsTrue (is_some (id_in ps base)) in
      subst P (sym same) (bases_defined bases a.1 base k)))
  well (edit.SetCells path name formula) read free unused = cells_well path name formula read free
  well (edit.DelCells path name) read free unused =
      let f : SpaceRecord → SpaceRecord = λ s. record s { cells = without same_name s.cells name } in
      at_well path f (λ z. refl) (λ s h is fine. fine_without_cells (at_space text path f) s fine name)
  well (edit.SetAllowNone path name flag) read free unused =
      let f : SpaceRecord → SpaceRecord = λ s. record s { cells = set_allow s.cells name flag } in
      at_well path f (λ z. refl) (λ s h is fine. fine_set (at_space text path f) s fine name flag)
  well (edit.SetRef path name value) read free unused = reference_well path name value free
  well (edit.DelRef path name) read free unused = unreferenced_well path name
  well (edit.SetParams path params) read free unused =
      let f : SpaceRecord → SpaceRecord = λ s. record s { params = params } in
      at_well path f (λ z. refl) (λ s h is fine. fine_params (at_space text path f) s fine params)
  well (edit.SetInput at name arguments value) read free unused = inputs_well (change text (bound_edit text (edit.SetInput at name arguments value))) refl refl refl (λ v r. r)
  well (edit.DelInput at name arguments) read free unused = inputs_well (change text (bound_edit text (edit.DelInput at name arguments))) refl refl refl (λ v r. r)
  well (edit.SetTable name table) read free unused = table_well name table
