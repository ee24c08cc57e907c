-- The parser of displays is exact.
use Rattle.std.proofs.Common.{◌≡◌, ℕ, ◌==◌, ◌⊎◌, Bool, true, false, ◌||◌, not, List, [], ◌∷◌, ◌++◌, Some, None, codes, cond, refl, sym, ap, subst, ◌∙◌, inl, inr}
use Rattle.std.specs.Cmp.Lexicographic.{pointwise}
use Rattle.mx_value.specs.Name.{is_name}
use Rattle.mx_syntax.specs.declared.expr.Expr.{Expr}
use Rattle.mx_syntax.specs.declared.stmt.ItemEntry.{ItemEntry}
use Rattle.mx_syntax.specs.declared.stmt.ItemEntry.TheVariants as entry
use Rattle.mx_grammar.specs.declared.word.Symbol.TheVariants as symbol
use Rattle.mx_grammar.specs.declared.word.Word.{Word}
use Rattle.mx_grammar.specs.declared.word.Word.TheVariants.{Text, Symbol}
use Rattle.mx_grammar.specs.Words.{is}
use Rattle.mx_grammar.specs.Reading.{Words, Parser, sees}
use Rattle.mx_grammar.proofs.Exact.{Rel, Kinds, none, stops_none, Exists, Nothing, Then, One, Inner, chosen}
use Rattle.mx_grammar.proofs.Rules.{Knot, Rule, plain, accept_rule, then_rule, iff_rule, any_rule, map_rule, behind_rule, Behind, marked, mark, mapped, mapping, some_mapped, some_behind}
use Rattle.mx_grammar.proofs.Lists.{Closes}
use Rattle.mx_parse.specs.Following.{Following, IsNew, unless}
use Rattle.mx_parse.specs.Displays.{keys_of, NoRefs, NoBase, RefText, EntryText, Display}
use Rattle.mx_parse.specs.DisplayParsers.{has_refs, has_base, has_key, new_key, pair, reference, refs, says_refs, new_entry, refs_entry, base_entry, entry_rest, item_entry, entries, display}
use Rattle.mx_parse.proofs.FollowingRules.{ClosedBehind, all_following_rule}
use Rattle.mx_parse.proofs.ParameterRules.{same_name, neither, both_false, is_new, not_named, unless_some}
use Rattle.mx_grammar.proofs.Symbols.{unsaid}

-- ---- keys and entries before

no_refs : (before : List ItemEntry) → has_refs before ≡ false → NoRefs before
no_refs [] h = tt
no_refs (entry.Refs rs ∷ before) h = absurd cc
no_refs (entry.Base x ∷ before) h = no_refs before h

refs_none : (before : List ItemEntry) → NoRefs before → has_refs before ≡ false
refs_none [] h = refl
refs_none (entry.Refs rs ∷ before) h = absurd h
refs_none (entry.Base x ∷ before) h = refs_none before h

no_base : (before : List ItemEntry) → has_base before ≡ false → NoBase before
no_base [] h = tt
no_base (entry.Refs rs ∷ before) h = no_base before h
no_base (entry.Base x ∷ before) h = absurd cc

base_none : (before : List ItemEntry) → NoBase before → has_base before ≡ false
base_none [] h = refl
base_none (entry.Refs rs ∷ before) h = base_none before h
base_none (entry.Base x ∷ before) h = absurd h

-- ---- tokens

key_inner : (before : List (List ℕ × Expr)) → Inner (new_key before)
key_inner before = unsaid (new_key before) symbol.End refl

not_false : (b : Bool) → not b ≡ false → b ≡ true
not_false true h = refl
not_false false h = absurd cc

not_of_true : (b : Bool) → b ≡ true → not b ≡ false
not_of_true true h = refl
not_of_true false h = absurd cc

record KeyIs (before : List (List ℕ × Expr)) (t : Word) (n : List ℕ) : Type 0 where
  token : t ≡ Text n
  name : is_name n ≡ true
  new : IsNew n (keys_of before)

key_is : (before : List (List ℕ × Expr)) (t : Word) (n : List ℕ) → new_key before t ≡ Some n → KeyIs before t n
key_is before (Text m) n h =
    let q = unless_some (not (is_name m) || has_key before m) m n h in
    let r = neither (not (is_name m)) (has_key before m) q.0 in
    record { token = ap Text q.1; name = ap is_name (sym q.1) ∙ not_false (is_name m) r.0; new = is_new (λ (r : List ℕ × Expr). r.0) before n (ap (has_key before) (sym q.1) ∙ r.1) }
key_is before _ n h = absurd cc

one_key : (before : List (List ℕ × Expr)) (n : List ℕ) → is_name n ≡ true → IsNew n (keys_of before) → One (new_key before) (Text n ∷ []) n
one_key before n name new =
    record { token = Text n; is = refl; what = ap (λ (b : Bool). unless b n) (both_false (not (is_name n)) (has_key before n) (not_of_true (is_name n) name) (not_named (λ (r : List ℕ × Expr). r.0) before n new)) }

entry_inner : (before : List ItemEntry) → Inner (new_entry before)
entry_inner before = unsaid (new_entry before) symbol.End refl

-- what a text says of an entry behind these
data SaysIs (before : List ItemEntry) (t : List ℕ) : Bool → Type 0 where
  keys : t ≡ codes "refs" → NoRefs before → SaysIs before t true
  base : t ≡ codes "base" → NoBase before → SaysIs before t false
  bases : t ≡ codes "bases" → NoBase before → SaysIs before t false

either : (a b : Bool) → (a || b) ≡ true → (a ≡ true) ⊎ (b ≡ true)
either true b h = inl refl
either false b h = inr h

base_says : (before : List ItemEntry) (t : List ℕ) (b : Bool) → (t ≡ codes "base") ⊎ (t ≡ codes "bases") → unless (has_base before) false ≡ Some b → SaysIs before t b
base_says before t b w h =
    let q = unless_some (has_base before) false b h in
    subst (SaysIs before t) q.1 (elim w [ inl e ↦ SaysIs.base e (no_base before q.0) | inr e ↦ SaysIs.bases e (no_base before q.0) ])

says_is : (before : List ItemEntry) (t : List ℕ) (b : Bool) → says_refs before t ≡ Some b → SaysIs before t b
says_is before t b h =
    let is_base : Bool = pointwise ◌==◌ t (codes "base") || pointwise ◌==◌ t (codes "bases") in
    elim (chosen (pointwise ◌==◌ t (codes "refs")) (unless (has_refs before) true) (cond is_base (unless (has_base before) false) None) (Some b) h) [
      | inl c ↦
          let q = unless_some (has_refs before) true b c.1 in
          subst (SaysIs before t) q.1 (SaysIs.keys ((same_name t (codes "refs")).0 c.0) (no_refs before q.0))
      | inr c ↦ elim (chosen is_base (unless (has_base before) false) None (Some b) c.1) [
        | inl d ↦ base_says before t b (elim (either (pointwise ◌==◌ t (codes "base")) (pointwise ◌==◌ t (codes "bases")) d.0) [ inl e ↦ inl ((same_name t (codes "base")).0 e) | inr e ↦ inr ((same_name t (codes "bases")).0 e) ]) d.1
        | inr d ↦ absurd (let e = d.1 in cc)
      ]
    ]

record EntryIs (before : List ItemEntry) (t : Word) (b : Bool) : Type 0 where
  text : List ℕ
  token : t ≡ Text text
  says : SaysIs before text b

entry_is : (before : List ItemEntry) (t : Word) (b : Bool) → new_entry before t ≡ Some b → EntryIs before t b
entry_is before (Text m) b h = record { text = m; token = refl; says = says_is before m b h }
entry_is before _ b h = absurd cc

one_refs : (before : List ItemEntry) → NoRefs before → One (new_entry before) (Text (codes "refs") ∷ []) true
one_refs before h = record { token = Text (codes "refs"); is = refl; what = ap (λ (b : Bool). unless b true) (refs_none before h) }

one_base : (before : List ItemEntry) → NoBase before → One (new_entry before) (Text (codes "base") ∷ []) false
one_base before h = record { token = Text (codes "base"); is = refl; what = ap (λ (b : Bool). unless b false) (base_none before h) }

one_bases : (before : List ItemEntry) → NoBase before → One (new_entry before) (Text (codes "bases") ∷ []) false
one_bases before h = record { token = Text (codes "bases"); is = refl; what = ap (λ (b : Bool). unless b false) (base_none before h) }

module _ (E : Rel Expr) where
  -- ---- references

  abbrev RefIs : List (List ℕ × Expr) → Rel (List ℕ × Expr)
  RefIs before = Then (One (new_key before)) (λ n. Behind symbol.Colon (Then E (λ x. Nothing (pair n x))))

  to_ref : (before : List (List ℕ × Expr)) (u : Words) (r : List ℕ × Expr) → RefIs before u r → RefText E before u r
  to_ref before u r h =
      let o = h.first in
      let q = key_is before o.token h.tree o.what in
      let m = marked symbol.Colon (Then E (λ x. Nothing (pair h.tree x))) h.right r h.second in
      let k = mapped E (pair h.tree) m.0 r m.2 in
      let e : u ≡ Text h.tree ∷ Symbol symbol.Colon ∷ m.0 = h.parts ∙ ap (λ (w : Words). w ++ h.right) (o.is ∙ ap (λ (t : Word). t ∷ []) q.token) ∙ ap (λ (w : Words). Text h.tree ∷ w) m.1 in
      subst (λ (w : Words). RefText E before w r) (sym e) (subst (RefText E before (Text h.tree ∷ Symbol symbol.Colon ∷ m.0)) (sym k.2) (RefText.ref q.name q.new k.1))

  from_ref : (before : List (List ℕ × Expr)) (u : Words) (r : List ℕ × Expr) → RefText E before u r → RefIs before u r
  from_ref before _ _ (RefText.ref {n} {u} {x} name new h) = record {
    left = Text n ∷ [];
    right = Symbol symbol.Colon ∷ u;
    tree = n;
    parts = refl;
    first = one_key before n name new;
    second = mark symbol.Colon (Then E (λ y. Nothing (pair n y))) u (pair n x) (mapping E (pair n) u x h);
  }

  ref_begins : (before : List (List ℕ × Expr)) (u rest : Words) (r : List ℕ × Expr) → RefText E before u r → sees (is symbol.CloseCurly) (u ++ rest) ≡ false
  ref_begins before _ rest _ (RefText.ref name new h) = refl

  -- ---- entries

  abbrev Refs : Rel (List (List ℕ × Expr))
  Refs = ClosedBehind (RefText E) symbol.CloseCurly []

  abbrev RestIs : Bool → Rel ItemEntry
  RestIs true = Behind symbol.OpenCurly (Then Refs (λ rs. Nothing (entry.Refs rs)))
  RestIs false = Then E (λ x. Nothing (entry.Base x))

  abbrev EntryParts : List ItemEntry → Rel ItemEntry
  EntryParts before = Then (One (new_entry before)) (λ has. Behind symbol.Colon (RestIs has))

  to_entry_rest : (before : List ItemEntry) (t : List ℕ) (b : Bool) (v : Words) (y : ItemEntry) → SaysIs before t b → RestIs b v y → EntryText E before (Text t ∷ Symbol symbol.Colon ∷ v) y
  to_entry_rest before t _ v y (SaysIs.keys e few) h =
      let m = marked symbol.OpenCurly (Then Refs (λ rs. Nothing (entry.Refs rs))) v y h in
      let k = mapped Refs (λ rs. entry.Refs rs) m.0 y m.2 in
      let c = k.1 in
      let p : v ≡ Symbol symbol.OpenCurly ∷ c.items ++ Symbol symbol.CloseCurly ∷ [] = m.1 ∙ ap (λ (w : Words). Symbol symbol.OpenCurly ∷ w) c.parts in
      subst (λ (s : List ℕ). EntryText E before (Text s ∷ Symbol symbol.Colon ∷ v) y) (sym e)
      (subst (λ (w : Words). EntryText E before (Text (codes "refs") ∷ Symbol symbol.Colon ∷ w) y) (sym p)
      (subst (EntryText E before (Text (codes "refs") ∷ Symbol symbol.Colon ∷ Symbol symbol.OpenCurly ∷ c.items ++ Symbol symbol.CloseCurly ∷ [])) (sym k.2) (EntryText.refs few c.spells)))
  to_entry_rest before t _ v y (SaysIs.base e few) h =
      let k = mapped E (λ x. entry.Base x) v y h in
      subst (λ (s : List ℕ). EntryText E before (Text s ∷ Symbol symbol.Colon ∷ v) y) (sym e) (subst (EntryText E before (Text (codes "base") ∷ Symbol symbol.Colon ∷ v)) (sym k.2) (EntryText.base few k.1))
  to_entry_rest before t _ v y (SaysIs.bases e few) h =
      let k = mapped E (λ x. entry.Base x) v y h in
      subst (λ (s : List ℕ). EntryText E before (Text s ∷ Symbol symbol.Colon ∷ v) y) (sym e) (subst (EntryText E before (Text (codes "bases") ∷ Symbol symbol.Colon ∷ v)) (sym k.2) (EntryText.bases few k.1))

  to_entry : (before : List ItemEntry) (u : Words) (y : ItemEntry) → EntryParts before u y → EntryText E before u y
  to_entry before u y h =
      let o = h.first in
      let q = entry_is before o.token h.tree o.what in
      let m = marked symbol.Colon (RestIs h.tree) h.right y h.second in
      let e : u ≡ Text q.text ∷ Symbol symbol.Colon ∷ m.0 = h.parts ∙ ap (λ (w : Words). w ++ h.right) (o.is ∙ ap (λ (t : Word). t ∷ []) q.token) ∙ ap (λ (w : Words). Text q.text ∷ w) m.1 in
      subst (λ (w : Words). EntryText E before w y) (sym e) (to_entry_rest before q.text h.tree m.0 y q.says m.2)

  with_entry : (before : List ItemEntry) (t : List ℕ) (b : Bool) (v : Words) (y : ItemEntry) → One (new_entry before) (Text t ∷ []) b → RestIs b v y → EntryParts before (Text t ∷ Symbol symbol.Colon ∷ v) y
  with_entry before t b v y o h = record { left = Text t ∷ []; right = Symbol symbol.Colon ∷ v; tree = b; parts = refl; first = o; second = mark symbol.Colon (RestIs b) v y h }

  from_entry : (before : List ItemEntry) (u : Words) (y : ItemEntry) → EntryText E before u y → EntryParts before u y
  from_entry before _ _ (EntryText.refs {u} {refs = rs} few h) =
      with_entry before (codes "refs") true (Symbol symbol.OpenCurly ∷ u ++ Symbol symbol.CloseCurly ∷ []) (entry.Refs rs) (one_refs before few)
      (mark symbol.OpenCurly (Then Refs (λ r. Nothing (entry.Refs r))) (u ++ Symbol symbol.CloseCurly ∷ []) (entry.Refs rs) (mapping Refs (λ r. entry.Refs r) (u ++ Symbol symbol.CloseCurly ∷ []) rs (record { items = u; parts = refl; spells = h })))
  from_entry before _ _ (EntryText.base {u} {x} few h) = with_entry before (codes "base") false u (entry.Base x) (one_base before few) (mapping E (λ z. entry.Base z) u x h)
  from_entry before _ _ (EntryText.bases {u} {x} few h) = with_entry before (codes "bases") false u (entry.Base x) (one_bases before few) (mapping E (λ z. entry.Base z) u x h)

  entry_begins : (before : List ItemEntry) (u rest : Words) (y : ItemEntry) → EntryText E before u y → sees (is symbol.CloseCurly) (u ++ rest) ≡ false
  entry_begins before _ rest _ (EntryText.refs few h) = refl
  entry_begins before _ rest _ (EntryText.base few h) = refl
  entry_begins before _ rest _ (EntryText.bases few h) = refl

  -- ---- displays

  abbrev Entries : Rel (List ItemEntry)
  Entries = ClosedBehind (EntryText E) symbol.CloseCurly []

  to_display : (u : Words) (ys : List ItemEntry) → Behind symbol.OpenCurly Entries u ys → Display E u ys
  to_display u ys h =
      let m = marked symbol.OpenCurly Entries u ys h in
      let c = m.2 in
      subst (λ (w : Words). Display E w ys) (sym (m.1 ∙ ap (λ (w : Words). Symbol symbol.OpenCurly ∷ w) c.parts)) (Display.display c.spells)

  from_display : (u : Words) (ys : List ItemEntry) → Display E u ys → Behind symbol.OpenCurly Entries u ys
  from_display _ _ (Display.display {u} {entries = ys} h) = mark symbol.OpenCurly Entries (u ++ Symbol symbol.CloseCurly ∷ []) ys (record { items = u; parts = refl; spells = h })

  -- each display begins with its bracket
  pub display_begins : (F : Kinds) (b : Bool) → F (Symbol symbol.OpenCurly) ≡ b → (u rest : Words) (ys : List ItemEntry) → Display E u ys → sees F (u ++ rest) ≡ b
  display_begins F b is _ rest _ (Display.display h) = is

-- ---- the rules

-- what may not follow an expression is neither a comma nor a bracket that closes
module _ {X : Type 0} {K : Knot X} {k : ℕ} {F : Kinds} {E : Rel Expr} {expression : X → Parser Expr} (comma : F (Symbol symbol.Comma) ≡ false) (curly : F (Symbol symbol.CloseCurly) ≡ false)
    (some : Exists E) (e : Rule K k (plain F) E expression) where
  ref_closes : (before : List (List ℕ × Expr)) → Closes symbol.CloseCurly F (RefText E before)
  ref_closes before = record { inner = refl; no_comma = refl; stops_comma = comma; stops_close = curly; begins = ref_begins E before }

  entry_closes : (before : List ItemEntry) → Closes symbol.CloseCurly F (EntryText E before)
  entry_closes before = record { inner = refl; no_comma = refl; stops_comma = comma; stops_close = curly; begins = entry_begins E before }

  ref_rule : (before : List (List ℕ × Expr)) → Rule K k (plain F) (RefText E before) (λ i. reference (expression i) before)
  unfolding reference
  ref_rule before =
      iff_rule (to_ref E before) (from_ref E before)
      (then_rule (accept_rule (new_key before) (key_inner before)) (λ n. behind_rule symbol.Colon refl (some_mapped (pair n) some) (map_rule (pair n) e))
      (λ n v rest r h s. stops_none (v ++ rest)) (λ n. some_behind symbol.Colon (some_mapped (pair n) some)))

  refs_rule : Rule K k (plain none) (Refs E) (λ i. refs (expression i) [])
  refs_rule = all_following_rule {P = λ (i : X). reference (expression i)} symbol.CloseCurly ref_closes ref_rule

  some_refs : Exists (Refs E)
  some_refs = record { tokens = Symbol symbol.CloseCurly ∷ []; tree = []; spells = record { items = []; parts = refl; spells = Following.none } }

  some_rest : (has : Bool) → Exists (RestIs E has)
  some_rest true = some_behind symbol.OpenCurly (some_mapped (λ rs. entry.Refs rs) some_refs)
  some_rest false = some_mapped (λ x. entry.Base x) some

  entry_rest_rule : (has : Bool) → Rule K k (plain F) (RestIs E has) (λ i. entry_rest (expression i) has)
  unfolding refs_entry base_entry
  entry_rest_rule true = any_rule (behind_rule symbol.OpenCurly refl (some_mapped (λ rs. entry.Refs rs) some_refs) (map_rule (λ rs. entry.Refs rs) refs_rule))
  entry_rest_rule false = map_rule (λ x. entry.Base x) e

  entry_rule : (before : List ItemEntry) → Rule K k (plain F) (EntryText E before) (λ i. item_entry (expression i) before)
  unfolding item_entry
  entry_rule before =
      iff_rule (to_entry E before) (from_entry E before)
      (then_rule (accept_rule (new_entry before) (entry_inner before)) (λ has. behind_rule symbol.Colon refl (some_rest has) (entry_rest_rule has))
      (λ has v rest y h s. stops_none (v ++ rest)) (λ has. some_behind symbol.Colon (some_rest has)))

  pub display_rule : Rule K k (plain none) (Display E) (λ i. display (expression i))
  unfolding display
  display_rule =
      iff_rule (to_display E) (from_display E)
      (behind_rule symbol.OpenCurly refl (record { tokens = Symbol symbol.CloseCurly ∷ []; tree = []; spells = record { items = []; parts = refl; spells = Following.none } })
      (all_following_rule {P = λ (i : X). item_entry (expression i)} symbol.CloseCurly entry_closes entry_rule))
