-- Parsers of lists and chains.
use Rattle.std.proofs.Common.{◌≡◌, ℕ, ◌<◌, true, false, List, [], ◌∷◌, ◌++◌, length, refl, sym, ap, subst, ◌∙◌, append_assoc, arith, inl, inr}
use Rattle.std.proofs.lemmas.List.{append-nil, length-append}
use Rattle.mx_grammar.specs.declared.word.Symbol.{Symbol}
use Rattle.mx_grammar.specs.declared.word.Symbol.TheVariants as symbol
use Rattle.mx_grammar.specs.declared.word.Word.{Word}
use Rattle.mx_grammar.specs.declared.word.Word.TheVariants as word
use Rattle.mx_grammar.specs.Words.{is}
use Rattle.mx_grammar.specs.Grammar.{Parts, Listed}
use Rattle.mx_grammar.specs.Reading.{Words, Parser, ◌>>=◌, ◌>>◌, pure, sees, expect, choose, Turn, On, Done, turning, many_turn, many, item_turn, listed, some_listed}
use Rattle.mx_grammar.proofs.Exact.{Rel, Kinds, none, stops_none, or, Exists, Nothing, Then, Either}
use Rattle.mx_grammar.proofs.Meets.{Shorter}
use Rattle.mx_grammar.proofs.Symbols.{here}
use Rattle.mx_grammar.proofs.Loops.{Turns, last, next, Shrinks}
use Rattle.mx_grammar.proofs.Rules.{Knot, Rule, plain, then_rule, iff_rule, map_rule, unmapped_rule, choose_rule, behind_rule, loop_rule, Behind, marked, mark, marked_alone, alone, alone_rule, mapped, mapping, remapped, sees_mark}
use Rattle.mx_grammar.proofs.Gather.{gathered, gather_shrinks, gather_rule, parts_stop}
pub use Rattle.mx_grammar.proofs.Gather.{shorter, not_nothing, BeginsWith, exact_shorter, chosen_left, chosen_right, on_done, on_same, done_same}

abbrev pub Loop : Type 0 → Type 0
Loop A = Turn (List A) (List A)

-- ---- parts while the next token is of one kind

abbrev pub put : {A : Type 0} → List A → A → List A
put found a = found ++ a ∷ []

pub all_put : {A : Type 0} (found xs : List A) → gathered put found xs ≡ found ++ xs
all_put found [] = sym (append-nil found)
all_put found (x ∷ xs) = all_put (found ++ x ∷ []) xs ∙ append_assoc found (x ∷ []) xs

pub many_shrinks : {A : Type 0} (is : Kinds) (P : Parser A) → Shorter P → Shrinks (many_turn is P)
many_shrinks is P short = gather_shrinks is P put short

pub many_rule : {E A : Type 0} {K : Knot E} {k : ℕ} {F : Kinds} {R : Rel A} {P : E → Parser A} (is : Kinds) → Rule K k (plain F) R P → BeginsWith is R → ((t : Word) → is t ≡ true → F t ≡ false) → Rule K k (plain (or is F)) (Parts R) (λ i. many is (P i))
many_rule is p begins off = unmapped_rule (gathered put []) (all_put []) (gather_rule is put p begins off [])

-- behind those found before
pub found_rule : {E A : Type 0} {K : Knot E} {k : ℕ} {P : E → Parser A} (is F : Kinds) (R : Rel A) → Rule K k (plain F) R P → BeginsWith is R → ((t : Word) → is t ≡ true → F t ≡ false) → (found : List A)
    → Rule K k (plain (or is F)) (Then (Parts R) (λ xs. Nothing (found ++ xs))) (λ i. turning (many_turn is (P i)) found)
found_rule is F R p begins off found =
    iff_rule (remapped (Parts R) (gathered put found) (λ xs. found ++ xs) (all_put found)) (remapped (Parts R) (λ xs. found ++ xs) (gathered put found) (λ xs. sym (all_put found xs))) (gather_rule is put p begins off found)

-- ---- a first part, and any number of further ones

pub record Chained {A B C : Type 0} (Sub : Rel A) (Tail : Rel B) (build : A → List B → C) (u : Words) (c : C) : Type 0 where
  pub left : Words
  pub right : Words
  pub head : A
  pub others : List B
  pub parts : u ≡ left ++ right
  pub first : Sub left head
  pub rest : Parts Tail right others
  pub tree : c ≡ build head others

module _ {A B C : Type 0} (Sub : Rel A) (Tail : Rel B) (build : A → List B → C) where
  abbrev Links : A → Rel C
  Links x = Then (Parts Tail) (λ ys. Nothing (build x ys))

  chain_to : (u : Words) (c : C) → Then Sub Links u c → Chained Sub Tail build u c
  chain_to u c h = let k = mapped (Parts Tail) (build h.tree) h.right c h.second in record { left = h.left; right = h.right; head = h.tree; others = k.0; parts = h.parts; first = h.first; rest = k.1; tree = k.2 }

  chain_from : (u : Words) (c : C) → Chained Sub Tail build u c → Then Sub Links u c
  chain_from u c h = record { left = h.left; right = h.right; tree = h.head; parts = h.parts; first = h.first; second = subst (Links h.head h.right) (sym h.tree) (mapping (Parts Tail) (build h.head) h.right h.others h.rest) }

pub chain_rule : {E A B C : Type 0} {K : Knot E} {k : ℕ} {F : Kinds} {Sub : Rel A} {Tail : Rel B} {P : E → Parser A} {T : E → Parser B} (is : Kinds) (build : A → List B → C) → Rule K k (plain F) Sub P → Rule K k (plain F) Tail T → BeginsWith is Tail
    → ((t : Word) → is t ≡ true → F t ≡ false) → Rule K k (plain (or is F)) (Chained Sub Tail build) (λ i. P i >>= λ x. many is (T i) >>= λ ys. pure (build x ys))
chain_rule {F} {Sub} {Tail} is build p t begins off =
    iff_rule (chain_to Sub Tail build) (chain_from Sub Tail build)
    (then_rule p (λ x. map_rule (build x) (many_rule is t begins off))
    (λ x v rest c h s. let m = mapped (Parts Tail) (build x) v c h in parts_stop is F Tail begins off v rest m.0 m.1 s)
    (λ x. record { tokens = []; tree = build x []; spells = mapping (Parts Tail) (build x) [] [] Parts.none }))

-- a chain, where one of one part is that part
pub record Chain {A B : Type 0} (Sub : Rel A) (Tail : Rel B) (build : A → List B → A) (R : Rel A) : Type 0 where
  pub alone : (u : Words) (x : A) → Sub u x → R u (build x [])
  pub chain : (u v : Words) (x : A) (y : B) (ys : List B) → Sub u x → Parts Tail v (y ∷ ys) → R (u ++ v) (build x (y ∷ ys))
  pub from : (u : Words) (x : A) → R u x → Chained Sub Tail build u x

module _ {A B : Type 0} {Sub : Rel A} {Tail : Rel B} {build : A → List B → A} {R : Rel A} (c : Chain Sub Tail build R) where
  chain_by : (u v : Words) (x : A) (ys : List B) → Sub u x → Parts Tail v ys → R (u ++ v) (build x ys)
  chain_by u _ x _ a Parts.none = subst (λ (w : Words). R w (build x [])) (sym (append-nil u)) (c.alone u x a)
  chain_by u _ x _ a (Parts.more {u = w} {v} {x = y} {xs} h ps) = c.chain u (w ++ v) x y xs a (Parts.more h ps)

  to_chain : (u : Words) (x : A) → Chained Sub Tail build u x → R u x
  to_chain u x h = subst (λ (w : Words). R w x) (sym h.parts) (subst (R (h.left ++ h.right)) (sym h.tree) (chain_by h.left h.right h.head h.others h.first h.rest))

  pub chain_begins : (F : Kinds) → BeginsWith F Sub → BeginsWith F R
  chain_begins F begins u rest x h = let k = c.from u x h in ap (sees F) (ap (λ (w : Words). w ++ rest) k.parts ∙ append_assoc k.left k.right rest) ∙ begins k.left (k.right ++ rest) k.head k.first

  pub some_chain : Exists Sub → Exists R
  some_chain some = record { tokens = some.tokens; tree = build some.tree []; spells = c.alone some.tokens some.tree some.spells }

  pub whole_chain_rule : {E : Type 0} {K : Knot E} {k : ℕ} {F : Kinds} {P : E → Parser A} {T : E → Parser B} (is : Kinds) → Rule K k (plain F) Sub P → Rule K k (plain F) Tail T → BeginsWith is Tail → ((t : Word) → is t ≡ true → F t ≡ false)
      → Rule K k (plain (or is F)) R (λ i. P i >>= λ x. many is (T i) >>= λ ys. pure (build x ys))
  whole_chain_rule is p t begins off = iff_rule to_chain c.from (chain_rule is build p t begins off)

-- ---- items with commas between, where what may stand as one depends on those before it

pub data Items {A : Type 0} (R : List A → Rel A) : List A → Words → List A → Type 0 where
  empty : {before : List A} → Items R before [] []
  one : {before : List A} {u : Words} {x : A} → R before u x → Items R before u (x ∷ [])
  more : {before : List A} {u v : Words} {x : A} {xs : List A} → R before u x → Items R (before ++ x ∷ []) v xs → Items R before (u ++ word.Symbol symbol.Comma ∷ v) (x ∷ xs)

-- a relation says the same
pub record Same {A : Type 0} (R : List A → Rel A) (L : List A → Rel (List A)) : Type 0 where
  pub to : (before : List A) (u : Words) (xs : List A) → Items R before u xs → L before u xs
  pub from : (before : List A) (u : Words) (xs : List A) → L before u xs → Items R before u xs

-- ---- up to a symbol that closes

pub record Shut {A : Type 0} (L : Rel (List A)) (close : Symbol) (u : Words) (xs : List A) : Type 0 where
  pub items : Words
  pub parts : u ≡ items ++ word.Symbol close ∷ []
  pub spells : L items xs

-- at least one item
pub record SomeShut {A : Type 0} (L : Rel (List A)) (close : Symbol) (u : Words) (xs : List A) : Type 0 where
  pub first : A
  pub others : List A
  pub items : Words
  pub parts : u ≡ items ++ word.Symbol close ∷ []
  pub spells : L items (first ∷ others)
  pub are : xs ≡ first ∷ others

module _ {A : Type 0} (close : Symbol) (R : List A → Rel A) where
  abbrev stop : List A → Loop A
  stop all = Done all

  abbrev go : List A → Loop A
  go found = On found

  abbrev Ending : List A → Rel (Loop A)
  Ending all = Behind close (Nothing (stop all))

  abbrev Going : List A → Rel (Loop A)
  Going found = Behind symbol.Comma (Nothing (go found))

  abbrev ItemIs : List A → Rel (Loop A)
  ItemIs found = Either (Ending found) (Then (R found) (λ a. Either (Going (found ++ a ∷ [])) (Ending (found ++ a ∷ []))))

  record Rest (found : List A) (u : Words) (all : List A) : Type 0 where
    others : List A
    closed : Shut (Items R found) close u others
    whole : all ≡ found ++ others

  rest_more : (s t : List A) (a : A) (left right u v : Words) (b : List A) → R s left a → u ≡ left ++ right → right ≡ word.Symbol symbol.Comma ∷ [] → t ≡ s ++ a ∷ [] → Rest t v b → Rest s (u ++ v) b
  rest_more s t a left right u v b h parts comma e k =
      let c = k.closed in
      record {
        others = a ∷ k.others;
        closed = record {
          items = left ++ word.Symbol symbol.Comma ∷ c.items;
          parts = ap (λ (x : Words). x ++ v) (parts ∙ ap (λ (x : Words). left ++ x) comma) ∙ append_assoc left (word.Symbol symbol.Comma ∷ []) v ∙ ap (λ (x : Words). left ++ word.Symbol symbol.Comma ∷ x) c.parts ∙ sym (append_assoc left (word.Symbol symbol.Comma ∷ c.items) (word.Symbol close ∷ []));
          spells = Items.more h (subst (λ (l : List A). Items R l c.items k.others) e c.spells);
        };
        whole = k.whole ∙ ap (λ (l : List A). l ++ k.others) e ∙ append_assoc s (a ∷ []) k.others;
      }

  to_rest : (found : List A) (u : Words) (all : List A) → Turns ItemIs found u all → Rest found u all
  to_rest _ _ _ (last {s} {u} {b} (inl h)) =
      let e = marked_alone close (stop s) u (Done b) h in
      record { others = []; closed = record { items = []; parts = e.0; spells = Items.empty }; whole = done_same b s e.1 ∙ sym (append-nil s) }
  to_rest _ _ _ (last {s} {u} {b} (inr h)) = elim h.second [
    | inl w ↦ absurd (on_done (s ++ h.tree ∷ []) b (sym (marked_alone symbol.Comma (go (s ++ h.tree ∷ [])) h.right (Done b) w).1))
    | inr w ↦
        let e = marked_alone close (stop (s ++ h.tree ∷ [])) h.right (Done b) w in
        record { others = h.tree ∷ []; closed = record { items = h.left; parts = h.parts ∙ ap (λ (x : Words). h.left ++ x) e.0; spells = Items.one h.first }; whole = done_same b (s ++ h.tree ∷ []) e.1 }
  ]
  to_rest _ _ _ (next {s} {t} {u} {v} {b} (inl h) further) = absurd (on_done t s (marked_alone close (stop s) u (On t) h).1)
  to_rest _ _ _ (next {s} {t} {u} {v} {b} (inr h) further) = elim h.second [
    | inl w ↦
        let e = marked_alone symbol.Comma (go (s ++ h.tree ∷ [])) h.right (On t) w in
        rest_more s t h.tree h.left h.right u v b h.first h.parts e.0 (on_same t (s ++ h.tree ∷ []) e.1) (to_rest t v b further)
    | inr w ↦ absurd (on_done t (s ++ h.tree ∷ []) (marked_alone close (stop (s ++ h.tree ∷ [])) h.right (On t) w).1)
  ]

  from_items : (found : List A) (u : Words) (xs : List A) → Items R found u xs → Turns ItemIs found (u ++ word.Symbol close ∷ []) (found ++ xs)
  from_items _ _ _ (Items.empty {before}) = subst (Turns ItemIs before (word.Symbol close ∷ [])) (sym (append-nil before)) (last (inl (alone close (stop before))))
  from_items _ _ _ (Items.one {before} {u} {x} h) = last (inr (record { left = u; right = word.Symbol close ∷ []; tree = x; parts = refl; first = h; second = inr (alone close (stop (before ++ x ∷ []))) }))
  from_items _ _ _ (Items.more {before} {u} {v} {x} {xs} h others) =
      let e : (u ++ word.Symbol symbol.Comma ∷ v) ++ word.Symbol close ∷ [] ≡ (u ++ word.Symbol symbol.Comma ∷ []) ++ (v ++ word.Symbol close ∷ []) = append_assoc u (word.Symbol symbol.Comma ∷ v) (word.Symbol close ∷ []) ∙ sym (append_assoc u (word.Symbol symbol.Comma ∷ []) (v ++ word.Symbol close ∷ [])) in
      subst (λ (y : Words). Turns ItemIs before y (before ++ x ∷ xs)) (sym e)
      (subst (Turns ItemIs before ((u ++ word.Symbol symbol.Comma ∷ []) ++ (v ++ word.Symbol close ∷ []))) (append_assoc before (x ∷ []) xs)
      (next {t = before ++ x ∷ []} (inr (record { left = u; right = word.Symbol symbol.Comma ∷ []; tree = x; parts = refl; first = h; second = inl (alone symbol.Comma (go (before ++ x ∷ []))) })) (from_items (before ++ x ∷ []) v xs others)))

  takes : (found : List A) (u : Words) (t : List A) → ItemIs found u (On t) → 0 < length u
  takes found u t (inl h) = absurd (on_done t found (marked_alone close (stop found) u (On t) h).1)
  takes found u t (inr h) = elim h.second [
    | inl w ↦ omega (arith, ap length h.parts, length-append h.left h.right, ap length (marked_alone symbol.Comma (go (found ++ h.tree ∷ [])) h.right (On t) w).0)
    | inr w ↦ absurd (on_done t (found ++ h.tree ∷ []) (marked_alone close (stop (found ++ h.tree ∷ [])) h.right (On t) w).1)
  ]

  module _ (L : List A → Rel (List A)) (same : Same R L) where
    abbrev pub Behind_found : List A → Rel (List A)
    Behind_found found = Then (Shut (L found) close) (λ xs. Nothing (found ++ xs))

    to_behind : (found : List A) (u : Words) (all : List A) → Turns ItemIs found u all → Behind_found found u all
    to_behind found u all h =
        let k = to_rest found u all h in
        let c = k.closed in
        subst (Behind_found found u) (sym k.whole) (mapping (Shut (L found) close) (λ xs. found ++ xs) u k.others (record { items = c.items; parts = c.parts; spells = same.to found c.items k.others c.spells }))

    from_behind : (found : List A) (u : Words) (all : List A) → Behind_found found u all → Turns ItemIs found u all
    from_behind found u all h =
        let m = mapped (Shut (L found) close) (λ xs. found ++ xs) u all h in
        subst (Turns ItemIs found u) (sym m.2) (subst (λ (y : Words). Turns ItemIs found y (found ++ m.0)) (sym m.1.parts) (from_items found m.1.items m.0 (same.from found m.1.items m.0 m.1.spells)))

    some_behind_found : (found : List A) → Exists (Behind_found found)
    some_behind_found found = record { tokens = word.Symbol close ∷ []; tree = found ++ []; spells = mapping (Shut (L found) close) (λ xs. found ++ xs) (word.Symbol close ∷ []) [] (record { items = []; parts = refl; spells = same.to found [] [] Items.empty }) }

    -- ---- at least one item

    abbrev SomeIs : Rel (List A)
    SomeIs = Then (R []) (λ a. Either (Behind symbol.Comma (Behind_found (a ∷ []))) (Behind close (Nothing (a ∷ []))))

    to_some : (u : Words) (xs : List A) → SomeIs u xs → SomeShut (L []) close u xs
    to_some u xs h = elim h.second [
      | inl w ↦
          let m = marked symbol.Comma (Behind_found (h.tree ∷ [])) h.right xs w in
          let k = mapped (Shut (L (h.tree ∷ [])) close) (λ ys. (h.tree ∷ []) ++ ys) m.0 xs m.2 in
          record {
            first = h.tree;
            others = k.0;
            items = h.left ++ word.Symbol symbol.Comma ∷ k.1.items;
            parts = h.parts ∙ ap (λ (x : Words). h.left ++ x) (m.1 ∙ ap (λ (x : Words). word.Symbol symbol.Comma ∷ x) k.1.parts) ∙ sym (append_assoc h.left (word.Symbol symbol.Comma ∷ k.1.items) (word.Symbol close ∷ []));
            spells = same.to [] (h.left ++ word.Symbol symbol.Comma ∷ k.1.items) (h.tree ∷ k.0) (Items.more h.first (same.from (h.tree ∷ []) k.1.items k.0 k.1.spells));
            are = k.2;
          }
      | inr w ↦
          let m = marked_alone close (h.tree ∷ []) h.right xs w in
          record {
            first = h.tree;
            others = [];
            items = h.left;
            parts = h.parts ∙ ap (λ (x : Words). h.left ++ x) m.0;
            spells = same.to [] h.left (h.tree ∷ []) (Items.one h.first);
            are = m.1;
          }
    ]

    from_some_items : (before : List A) (items : Words) (all : List A) (first : A) (others : List A) → Items R before items all → before ≡ [] → all ≡ first ∷ others → SomeIs (items ++ word.Symbol close ∷ []) (first ∷ others)
    from_some_items _ _ _ first others Items.empty nil e = absurd cc
    from_some_items _ _ _ first others (Items.one {before} {u} {x} h) nil e =
        subst (SomeIs (u ++ word.Symbol close ∷ [])) e (record { left = u; right = word.Symbol close ∷ []; tree = x; parts = refl; first = subst (λ (l : List A). R l u x) nil h; second = inr (alone close (x ∷ [])) })
    from_some_items _ _ _ first others (Items.more {before} {u} {v} {x} {xs} h k) nil e =
        subst (SomeIs ((u ++ word.Symbol symbol.Comma ∷ v) ++ word.Symbol close ∷ [])) e
        (record {
          left = u;
          right = word.Symbol symbol.Comma ∷ v ++ word.Symbol close ∷ [];
          tree = x;
          parts = append_assoc u (word.Symbol symbol.Comma ∷ v) (word.Symbol close ∷ []);
          first = subst (λ (l : List A). R l u x) nil h;
          second = inl (mark symbol.Comma (Behind_found (x ∷ [])) (v ++ word.Symbol close ∷ []) (x ∷ xs) (mapping (Shut (L (x ∷ [])) close) (λ ys. (x ∷ []) ++ ys) (v ++ word.Symbol close ∷ []) xs (record { items = v; parts = refl; spells = same.to (x ∷ []) v xs (subst (λ (l : List A). Items R (l ++ x ∷ []) v xs) nil k) })));
        })

    from_some : (u : Words) (xs : List A) → SomeShut (L []) close u xs → SomeIs u xs
    from_some u xs h = subst (λ (y : Words). SomeIs y xs) (sym h.parts) (subst (SomeIs (h.items ++ word.Symbol close ∷ [])) (sym h.are) (from_some_items [] h.items (h.first ∷ h.others) h.first h.others (same.from [] h.items (h.first ∷ h.others) h.spells) refl refl))

-- what is asked of a symbol that closes and of what stands before it
pub record Closes {A : Type 0} (close : Symbol) (F : Kinds) (R : Rel A) : Type 0 where
  pub inner : is symbol.End (word.Symbol close) ≡ false
  pub no_comma : is symbol.Comma (word.Symbol close) ≡ false
  pub stops_comma : F (word.Symbol symbol.Comma) ≡ false
  pub stops_close : F (word.Symbol close) ≡ false
  pub begins : (u rest : Words) (a : A) → R u a → sees (is close) (u ++ rest) ≡ false

-- ---- the rules

module _ {E A : Type 0} {K : Knot E} {k : ℕ} {F : Kinds} {R : List A → Rel A} {L : List A → Rel (List A)} {P : E → List A → Parser A} (close : Symbol) (same : Same R L)
    (c : (found : List A) → Closes close F (R found)) (p : (found : List A) → Rule K k (plain F) (R found) (λ i. P i found)) where
  abbrev turn_of : E → List A → Parser (Loop A)
  turn_of i s = item_turn close (P i s) s

  item_rule : (found : List A) → Rule K k (plain none) (ItemIs close R found) (λ i. turn_of i found)
  item_rule found =
      let a_close = c found in
      choose_rule (is close) (alone_rule close (Done found) a_close.inner)
      (then_rule (p found)
      (λ a. choose_rule (is symbol.Comma) (alone_rule symbol.Comma (On (found ++ a ∷ [])) refl) (alone_rule close (Done (found ++ a ∷ [])) a_close.inner)
      (λ u rest r h s. sees_mark symbol.Comma (Nothing (On (found ++ a ∷ []))) (is symbol.Comma) true refl u rest r h)
      (λ u rest r h s. sees_mark close (Nothing (Done (found ++ a ∷ []))) (is symbol.Comma) false a_close.no_comma u rest r h))
      (λ a v rest r h s. elim h [ inl w ↦ sees_mark symbol.Comma (Nothing (On (found ++ a ∷ []))) F false a_close.stops_comma v rest r w | inr w ↦ sees_mark close (Nothing (Done (found ++ a ∷ []))) F false a_close.stops_close v rest r w ])
      (λ a. record { tokens = word.Symbol close ∷ []; tree = Done (found ++ a ∷ []); spells = inr (alone close (Done (found ++ a ∷ []))) }))
      (λ u rest r h s. sees_mark close (Nothing (Done found)) (is close) true (here close) u rest r h)
      (λ u rest r h s. ap (λ (x : Words). sees (is close) (x ++ rest)) h.parts ∙ ap (sees (is close)) (append_assoc h.left h.right rest) ∙ a_close.begins h.left (h.right ++ rest) h.tree h.first)

  pub items_rule : (found : List A) → Rule K k (plain none) (Behind_found close R L same found) (λ i. turning (turn_of i) found)
  items_rule found =
      iff_rule (to_behind close R L same found) (from_behind close R L same found)
      (loop_rule {turn = turn_of} item_rule (λ s ts rest t e. let h = (item_rule s).exact.sound ts rest (On t) e in shorter ts h.used rest h.parts (takes close R s h.used t h.spells)) (λ s u rest r h st t. stops_none (u ++ rest)) (λ rest xs st. st)
      (λ s. record { tokens = word.Symbol close ∷ []; tree = s; spells = last (inl (alone close (Done s))) }) found)

  -- a list from its first item on
  pub all_items_rule : Rule K k (plain none) (Shut (L []) close) (λ i. turning (turn_of i) [])
  all_items_rule = unmapped_rule (λ xs. [] ++ xs) (λ xs. refl) (items_rule [])

  pub some_items_rule : Rule K k (plain none) (SomeShut (L []) close) (λ i. P i [] >>= λ a. choose (is symbol.Comma) (expect symbol.Comma >> turning (turn_of i) (a ∷ [])) (expect close >> pure (a ∷ [])))
  some_items_rule =
      let first = c [] in
      iff_rule (to_some close R L same) (from_some close R L same)
      (then_rule (p [])
      (λ a. choose_rule (is symbol.Comma) (behind_rule symbol.Comma refl (some_behind_found close R L same (a ∷ [])) (items_rule (a ∷ []))) (alone_rule close (a ∷ []) first.inner)
      (λ u rest r h s. sees_mark symbol.Comma (Behind_found close R L same (a ∷ [])) (is symbol.Comma) true refl u rest r h)
      (λ u rest r h s. sees_mark close (Nothing (a ∷ [])) (is symbol.Comma) false first.no_comma u rest r h))
      (λ a v rest r h s. elim h [ inl w ↦ sees_mark symbol.Comma (Behind_found close R L same (a ∷ [])) F false first.stops_comma v rest r w | inr w ↦ sees_mark close (Nothing (a ∷ [])) F false first.stops_close v rest r w ])
      (λ a. record { tokens = word.Symbol close ∷ []; tree = a ∷ []; spells = inr (alone close (a ∷ [])) }))

-- ---- lists where each item stands for itself

module _ {A : Type 0} (R : Rel A) where
  abbrev pub Closed : Symbol → Rel (List A)
  Closed = Shut (Listed R)

  abbrev pub SomeClosed : Symbol → Rel (List A)
  SomeClosed = SomeShut (Listed R)

  to_listed : (before : List A) (u : Words) (xs : List A) → Items (λ _. R) before u xs → Listed R u xs
  to_listed _ _ _ Items.empty = Listed.none
  to_listed _ _ _ (Items.one h) = Listed.one h
  to_listed _ _ _ (Items.more {before} {v} {x} {xs} h others) = Listed.more h (to_listed (before ++ x ∷ []) v xs others)

  from_listed : (before : List A) (u : Words) (xs : List A) → Listed R u xs → Items (λ _. R) before u xs
  from_listed before _ _ Listed.none = Items.empty
  from_listed before _ _ (Listed.one h) = Items.one h
  from_listed before _ _ (Listed.more {v} {x} {xs} h others) = Items.more h (from_listed (before ++ x ∷ []) v xs others)

  same_listed : Same (λ _. R) (λ _. Listed R)
  same_listed = record { to = to_listed; from = from_listed }

module _ {E A : Type 0} {K : Knot E} {k : ℕ} {F : Kinds} {R : Rel A} {P : E → Parser A} (close : Symbol) (c : Closes close F R) (p : Rule K k (plain F) R P) where
  pub listed_rule : (found : List A) → Rule K k (plain none) (Then (Closed R close) (λ xs. Nothing (found ++ xs))) (λ i. listed close (P i) found)
  listed_rule = items_rule {P = λ (i : E) _. P i} close (same_listed R) (λ _. c) (λ _. p)

  pub all_listed_rule : Rule K k (plain none) (Closed R close) (λ i. listed close (P i) [])
  all_listed_rule = all_items_rule {P = λ (i : E) _. P i} close (same_listed R) (λ _. c) (λ _. p)

  pub some_listed_rule : Rule K k (plain none) (SomeClosed R close) (λ i. some_listed close (P i))
  some_listed_rule = some_items_rule {P = λ (i : E) _. P i} close (same_listed R) (λ _. c) (λ _. p)

-- ---- what is left of a list behind its first item

module _ {A B : Type 0} (R : Rel A) (close : Symbol) (build : List A → B) where
  -- what a symbol that closes makes of the items behind the first
  abbrev pub Others : A → Rel B
  Others x = Then (Then (Closed R close) (λ xs. Nothing ((x ∷ []) ++ xs))) (λ xs. Nothing (build xs))

  pub others : (x : A) (v : Words) (xs : List A) → Listed R v xs → Others x (v ++ word.Symbol close ∷ []) (build (x ∷ xs))
  others x v xs h =
      mapping (Then (Closed R close) (λ ys. Nothing ((x ∷ []) ++ ys))) build (v ++ word.Symbol close ∷ []) (x ∷ xs)
      (mapping (Closed R close) (λ ys. (x ∷ []) ++ ys) (v ++ word.Symbol close ∷ []) xs (record { items = v; parts = refl; spells = h }))

  pub some_others : (x : A) → Exists (Others x)
  some_others x = record { tokens = word.Symbol close ∷ []; tree = build (x ∷ []); spells = others x [] [] Listed.none }

  pub record OthersAre (x : A) (u : Words) (y : B) : Type 0 where
    pub items : Words
    pub values : List A
    pub parts : u ≡ items ++ word.Symbol close ∷ []
    pub spells : Listed R items values
    pub tree : y ≡ build (x ∷ values)

  pub others_are : (x : A) (y : B) (u : Words) → Others x u y → OthersAre x u y
  others_are x y u h =
      let a = mapped (Then (Closed R close) (λ ys. Nothing ((x ∷ []) ++ ys))) build u y h in
      let b = mapped (Closed R close) (λ ys. (x ∷ []) ++ ys) u a.0 a.1 in
      record { items = b.1.items; values = b.0; parts = b.1.parts; spells = b.1.spells; tree = a.2 ∙ ap build b.2 }

pub others_rule : {E A B : Type 0} {K : Knot E} {k : ℕ} {F : Kinds} {R : Rel A} {P : E → Parser A} (close : Symbol) (build : List A → B) → Closes close F R → Rule K k (plain F) R P → (x : A)
    → Rule K k (plain none) (Others R close build x) (λ i. listed close (P i) (x ∷ []) >>= λ xs. pure (build xs))
others_rule close build c p x = map_rule build (listed_rule close c p (x ∷ []))
