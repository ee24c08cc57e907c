-- The parsers of blocks are exact.
use Rattle.std.proofs.Common.{◌≡◌, ℕ, zero, suc, ◌≤◌, true, false, List, [], ◌∷◌, ◌++◌, refl, sym, ap, subst, ◌∙◌, append_assoc, arith, inl, inr}
use Rattle.std.proofs.lemmas.List.{append-nil}
use Rattle.mx_syntax.specs.declared.expr.Expr.{Expr}
use Rattle.mx_syntax.specs.declared.stmt.Stmt.{Stmt}
use Rattle.mx_syntax.specs.declared.stmt.Stmt.TheVariants as stmt
use Rattle.mx_syntax.specs.declared.stmt.ItemEntry.{ItemEntry}
use Rattle.mx_grammar.specs.declared.word.Symbol.TheVariants as symbol
use Rattle.mx_grammar.specs.declared.word.Word.TheVariants.{Symbol}
use Rattle.mx_grammar.specs.Words.{is}
use Rattle.mx_grammar.specs.Grammar.{Parts, Line}
use Rattle.mx_grammar.specs.Reading.{Words, Parser, ◌>>◌, pure, sees, expect, choose, Turn, On, Done, levels}
use Rattle.mx_grammar.proofs.Exact.{Rel, Kinds, Stops, none, or, or_stops, Exists, Nothing, Then, Either, refuse_exact}
use Rattle.mx_grammar.proofs.Meets.{fewer_meets, none_meets}
use Rattle.mx_grammar.proofs.Symbols.{apart}
use Rattle.mx_grammar.proofs.Loops.{Turns, last, next, Shrinks}
use Rattle.mx_grammar.proofs.Rules.{Knot, Rule, plain, pure_rule, then_rule, iff_rule, map_rule, choose_rule, behind_rule, open_rule, loop_rule, Behind, marked, mark, mapped, mapping, sees_mark, some_behind, marked_alone}
use Rattle.mx_grammar.proofs.Lists.{shorter, not_nothing, on_done, on_same, done_same}
use Rattle.mx_parse.specs.Statements.{Simple, Statement, Body, Block, Blocks, Bodies}
use Rattle.mx_parse.specs.StatementParsers.{body_by, statement_turn, statements, block_rule, block, body}
use Rattle.mx_parse.proofs.StatementRules.{starts, after_if, starts_apart, some_nothing, then_sees, Expressive, Displays, line_sees, statement_begins, simple_rule, statement_rule}

-- each block begins with a line's end
abbrev pub Broken : Rel (List Stmt) → Type 0
Broken In = (u rest : Words) (b : List Stmt) → In u b → sees (is symbol.Newline) (u ++ rest) ≡ true

pub fewer_rule : {E A : Type 0} {K : Knot E} {F : A → Kinds} {R : Rel A} {P : E → Parser A} (k m : ℕ) → k ≤ m → Rule K m F R P → Rule K k F R P
fewer_rule {K} {P} k m le r = record { exact = r.exact; meets = fewer_meets k m (P K.inner) (P K.more) le r.meets }

-- the same rule where something more is known of the parsers inside
pub with_rule : {E X A : Type 0} {K : Knot E} {k : ℕ} {F : A → Kinds} {R : Rel A} {P : E → Parser A} (a b : X) → Rule K k F R P → Rule (record { inner = (K.inner, a); more = (K.more, b) }) k F R (λ (i : E × X). P i.0)
with_rule a b r = record { exact = r.exact; meets = r.meets }

module _ (E : Rel Expr) (Item : Rel (List ItemEntry)) (In : Rel (List Stmt)) where
  -- ---- bodies

  abbrev BodyIs : Rel (List Stmt)
  BodyIs = Either In (Then (Line (Simple E Item)) (λ s. Nothing (s ∷ [])))

  to_body : (u : Words) (b : List Stmt) → BodyIs u b → Body E Item In u b
  to_body u b (inl h) = Body.block h
  to_body u b (inr h) = let m = mapped (Line (Simple E Item)) (λ s. s ∷ []) u b h in subst (Body E Item In u) (sym m.2) (Body.line m.1)

  from_body : (u : Words) (b : List Stmt) → Body E Item In u b → BodyIs u b
  from_body u _ (Body.line {s} h) = inr (mapping (Line (Simple E Item)) (λ t. t ∷ []) u s h)
  from_body u b (Body.block h) = inl h

  pub some_body : Exists (Body E Item In)
  some_body = record { tokens = Symbol symbol.Pass ∷ Symbol symbol.Newline ∷ []; tree = stmt.Pass ∷ []; spells = Body.line (Line.line Simple.pass) }

  -- ---- statements of a block, to its end

  abbrev stop : List Stmt → Turn (List Stmt) (List Stmt)
  stop all = Done all

  abbrev Ending : List Stmt → Rel (Turn (List Stmt) (List Stmt))
  Ending all = Behind symbol.Dedent (Nothing (stop all))

  abbrev TurnIs : List Stmt → Rel (Turn (List Stmt) (List Stmt))
  TurnIs found = Then (Statement E Item In) (λ s. Either (Ending (found ++ s ∷ [])) (Nothing (On (found ++ s ∷ []))))

  record IsBlock (found : List Stmt) (u : Words) (all : List Stmt) : Type 0 where
    words : Words
    first : Stmt
    others : List Stmt
    parts : u ≡ words ++ Symbol symbol.Dedent ∷ []
    spells : Parts (Statement E Item In) words (first ∷ others)
    whole : all ≡ found ++ first ∷ others

  block_is : (found : List Stmt) (u : Words) (all : List Stmt) → Turns TurnIs found u all → IsBlock found u all
  block_is _ _ _ (last {s} {u} {b} h) = elim h.second [
    | inl w ↦
        let e = marked_alone symbol.Dedent (stop (s ++ h.tree ∷ [])) h.right (Done b) w in
        record {
          words = h.left ++ [];
          first = h.tree;
          others = [];
          parts = h.parts ∙ ap (λ (v : Words). h.left ++ v) e.0 ∙ ap (λ (v : Words). v ++ Symbol symbol.Dedent ∷ []) (sym (append-nil h.left));
          spells = Parts.more h.first Parts.none;
          whole = done_same b (s ++ h.tree ∷ []) e.1;
        }
    | inr w ↦ absurd (on_done (s ++ h.tree ∷ []) b (sym w.1))
  ]
  block_is _ _ _ (next {s} {t} {u} {v} {b} h more) = elim h.second [
    | inl w ↦ absurd (on_done t (s ++ h.tree ∷ []) (marked_alone symbol.Dedent (stop (s ++ h.tree ∷ [])) h.right (On t) w).1)
    | inr w ↦
        let k = block_is t v b more in
        record {
          words = h.left ++ k.words;
          first = h.tree;
          others = k.first ∷ k.others;
          parts = ap (λ (x : Words). x ++ v) (h.parts ∙ ap (λ (x : Words). h.left ++ x) w.0 ∙ append-nil h.left) ∙ ap (λ (x : Words). h.left ++ x) k.parts ∙ sym (append_assoc h.left k.words (Symbol symbol.Dedent ∷ []));
          spells = Parts.more h.first k.spells;
          whole = k.whole ∙ ap (λ (l : List Stmt). l ++ k.first ∷ k.others) (on_same t (s ++ h.tree ∷ []) w.1) ∙ append_assoc s (h.tree ∷ []) (k.first ∷ k.others);
        }
  ]

  is_block : (found : List Stmt) (u v : Words) (first : Stmt) (others : List Stmt) → Statement E Item In u first → Parts (Statement E Item In) v others
      → Turns TurnIs found ((u ++ v) ++ Symbol symbol.Dedent ∷ []) (found ++ first ∷ others)
  is_block found u _ first _ h Parts.none =
      subst (λ (x : Words). Turns TurnIs found (x ++ Symbol symbol.Dedent ∷ []) (found ++ first ∷ [])) (sym (append-nil u))
      (last (record { left = u; right = Symbol symbol.Dedent ∷ []; tree = first; parts = refl; first = h; second = inl (mark symbol.Dedent (Nothing (Done (found ++ first ∷ []))) [] (Done (found ++ first ∷ [])) (refl, refl)) }))
  is_block found u _ first _ h (Parts.more {u = v} {v = w} {x = second} {xs = others} k after) =
      let e : (u ++ (v ++ w)) ++ Symbol symbol.Dedent ∷ [] ≡ u ++ ((v ++ w) ++ Symbol symbol.Dedent ∷ []) = append_assoc u (v ++ w) (Symbol symbol.Dedent ∷ []) in
      subst (λ (x : Words). Turns TurnIs found x (found ++ first ∷ second ∷ others)) (sym e)
      (subst (Turns TurnIs found (u ++ ((v ++ w) ++ Symbol symbol.Dedent ∷ []))) (append_assoc found (first ∷ []) (second ∷ others))
      (next {t = found ++ first ∷ []} (record { left = u; right = []; tree = first; parts = sym (append-nil u); first = h; second = inr (refl, refl) }) (is_block (found ++ first ∷ []) v w second others k after)))

  turn_begins : (found : List Stmt) (u rest : Words) (r : Turn (List Stmt) (List Stmt)) → TurnIs found u r → sees starts (u ++ rest) ≡ true
  turn_begins found u rest r h = then_sees (Statement E Item In) (λ s. Either (Ending (found ++ s ∷ [])) (Nothing (On (found ++ s ∷ [])))) starts true (statement_begins E Item In) u rest r h

  some_turns : (found : List Stmt) → Exists (Turns TurnIs found)
  some_turns found = record {
    tokens = Symbol symbol.Pass ∷ Symbol symbol.Newline ∷ Symbol symbol.Dedent ∷ [];
    tree = found ++ stmt.Pass ∷ [];
    spells = is_block found (Symbol symbol.Pass ∷ Symbol symbol.Newline ∷ []) [] stmt.Pass [] (Statement.simple (Line.line Simple.pass)) Parts.none;
  }

-- what may not follow a statement of a block
follows : Turn (List Stmt) (List Stmt) → Kinds
follows (On s) = or (is symbol.Dedent) after_if
follows (Done s) = none

module _ {X : Type 0} {K : Knot X} {k : ℕ} {F : Kinds} {E : Rel Expr} {Item : Rel (List ItemEntry)} {expression : X → Parser Expr} {display : X → Parser (List ItemEntry)}
    (x : Expressive F E) (ex : Rule K k (plain F) E expression) (displays : Displays Item) (item : Rule K k (plain none) Item display) where
  pub body_by_rule : {In : Rel (List Stmt)} {inner : X → Parser (List Stmt)} → Broken In → Rule K k (plain none) In inner → Rule K k (plain none) (Body E Item In) (λ i. body_by (expression i) (display i) (inner i))
  unfolding body_by
  body_by_rule {In} broken b =
      iff_rule (to_body E Item In) (from_body E Item In)
      (choose_rule (is symbol.Newline) b (map_rule (λ s. s ∷ []) (simple_rule x ex displays item)) (λ u rest ss h st. broken u rest ss h)
      (λ u rest ss h st. then_sees (Line (Simple E Item)) (λ s. Nothing (s ∷ [])) (is symbol.Newline) false (line_sees E Item (is symbol.Newline) false refl refl (λ n. refl)) u rest ss h))

  module _ {In : Rel (List Stmt)} {body : X → Parser (List Stmt)} (some : Exists In) (b : Rule K k (plain none) In body) where
    ending_rule : (all : List Stmt) → Rule K k follows (Either (Ending E Item In all) (Nothing (On all))) (λ _. choose (is symbol.Dedent) (expect symbol.Dedent >> pure (Done all)) (pure (On all)))
    unfolding follows
    ending_rule all =
        choose_rule (is symbol.Dedent) (behind_rule symbol.Dedent refl (some_nothing (Done all)) (pure_rule follows (Done all))) (pure_rule follows (On all))
        (λ u rest r h st. sees_mark symbol.Dedent (Nothing (Done all)) (is symbol.Dedent) true refl u rest r h)
        (λ u rest r h st. ap (λ (v : Words). sees (is symbol.Dedent) (v ++ rest)) h.0 ∙ (or_stops (is symbol.Dedent) after_if rest (subst (λ (q : Turn (List Stmt) (List Stmt)). Stops (follows q) rest) h.1 st)).0)

    ending_fits : (all : List Stmt) (v rest : Words) (r : Turn (List Stmt) (List Stmt)) → Either (Ending E Item In all) (Nothing (On all)) v r → Stops (follows r) rest → Stops after_if (v ++ rest)
    unfolding follows
    ending_fits all v rest r (inl h) st = sees_mark symbol.Dedent (Nothing (Done all)) after_if false refl v rest r h
    ending_fits all v rest r (inr h) st = ap (λ (w : Words). sees after_if (w ++ rest)) h.0 ∙ (or_stops (is symbol.Dedent) after_if rest (subst (λ (q : Turn (List Stmt) (List Stmt)). Stops (follows q) rest) h.1 st)).1

    turn_rule : (found : List Stmt) → Rule K k follows (TurnIs E Item In found) (λ i. statement_turn (expression i) (display i) (body i) found)
    unfolding statement_turn
    turn_rule found =
        then_rule (statement_rule x ex displays item some b) (λ s. ending_rule (found ++ s ∷ [])) (λ s v rest r h st. ending_fits (found ++ s ∷ []) v rest r h st)
        (λ s. record { tokens = []; tree = On (found ++ s ∷ []); spells = inr (refl, refl) })

    turn_shrinks : Shrinks (statement_turn (expression K.inner) (display K.inner) (body K.inner))
    turn_shrinks found ts rest t e = let h = (turn_rule found).exact.sound ts rest (On t) e in shorter ts h.used rest h.parts (not_nothing starts h.used (turn_begins E Item In found h.used [] (On t) h.spells))

    statements_rule : (found : List Stmt) → Rule K k (plain none) (Turns (TurnIs E Item In) found) (λ i. statements (expression i) (display i) (body i) found)
    unfolding follows
    statements_rule =
        loop_rule {F = follows} turn_rule turn_shrinks (λ s u rest r h st t. apart starts (or (is symbol.Dedent) after_if) starts_apart (u ++ rest) (turn_begins E Item In s u rest r h)) (λ rest ss st. st) (some_turns E Item In)

  module _ {In : Rel (List Stmt)} {inner : X → Parser (List Stmt)} (broken : Broken In) (b : Rule K k (plain none) In inner) where
    abbrev Whole : Rel (List Stmt)
    Whole = Behind symbol.Newline (Behind symbol.Indent (Turns (TurnIs E Item (Body E Item In)) []))

    to_block : (u : Words) (ss : List Stmt) → Whole u ss → Block E Item In u ss
    to_block u ss h =
        let m = marked symbol.Newline (Behind symbol.Indent (Turns (TurnIs E Item (Body E Item In)) [])) u ss h in
        let t = marked symbol.Indent (Turns (TurnIs E Item (Body E Item In)) []) m.0 ss m.2 in
        let k = block_is E Item (Body E Item In) [] t.0 ss t.2 in
        let e : u ≡ Symbol symbol.Newline ∷ Symbol symbol.Indent ∷ k.words ++ Symbol symbol.Dedent ∷ [] = m.1 ∙ ap (λ (v : Words). Symbol symbol.Newline ∷ v) (t.1 ∙ ap (λ (v : Words). Symbol symbol.Indent ∷ v) k.parts) in
        subst (λ (v : Words). Block E Item In v ss) (sym e) (subst (Block E Item In (Symbol symbol.Newline ∷ Symbol symbol.Indent ∷ k.words ++ Symbol symbol.Dedent ∷ [])) (sym k.whole) (Block.block k.spells))

    from_parts : (u : Words) (s : Stmt) (others ss : List Stmt) → Parts (Statement E Item (Body E Item In)) u ss → ss ≡ s ∷ others → Turns (TurnIs E Item (Body E Item In)) [] (u ++ Symbol symbol.Dedent ∷ []) (s ∷ others)
    from_parts _ s others _ Parts.none e = absurd cc
    from_parts _ s others _ (Parts.more {u} {v} {x = first} {xs = rest} h after) e = subst (Turns (TurnIs E Item (Body E Item In)) [] ((u ++ v) ++ Symbol symbol.Dedent ∷ [])) e (is_block E Item (Body E Item In) [] u v first rest h after)

    from_block : (u : Words) (ss : List Stmt) → Block E Item In u ss → Whole u ss
    from_block _ _ (Block.block {u} {s} {others} h) =
        mark symbol.Newline (Behind symbol.Indent (Turns (TurnIs E Item (Body E Item In)) [])) (Symbol symbol.Indent ∷ u ++ Symbol symbol.Dedent ∷ []) (s ∷ others)
        (mark symbol.Indent (Turns (TurnIs E Item (Body E Item In)) []) (u ++ Symbol symbol.Dedent ∷ []) (s ∷ others) (from_parts u s others (s ∷ others) h refl))

    pub the_block_rule : Rule K (suc k) (plain none) (Block E Item In) (λ i. block_rule (expression i) (display i) (inner i))
    unfolding block_rule
    the_block_rule =
        iff_rule to_block from_block
        (open_rule symbol.Newline refl (some_behind symbol.Indent (some_turns E Item (Body E Item In) []))
        (behind_rule symbol.Indent refl (some_turns E Item (Body E Item In) []) (statements_rule (some_body E Item In) (body_by_rule broken b) [])))

pub blocks_broken : (E : Rel Expr) (Item : Rel (List ItemEntry)) (d : ℕ) → Broken (Blocks E Item d)
blocks_broken E Item zero u rest b h = absurd h
blocks_broken E Item (suc d) _ rest _ (Block.block h) = refl

-- ---- all levels

module _ {X : Type 0} {K : Knot X} {n : ℕ} {F : Kinds} {E : Rel Expr} {Item : Rel (List ItemEntry)} {expression : X → Parser Expr} {display : X → Parser (List ItemEntry)}
    (x : Expressive F E) (ex : Rule K n (plain F) E expression) (displays : Displays Item) (item : Rule K n (plain none) Item display) where
  -- blocks in so many levels, beside those in more
  abbrev pub nested : ℕ → ℕ → Knot (X × Parser (List Stmt))
  nested d m = record { inner = (K.inner, block (expression K.inner) (display K.inner) d); more = (K.more, block (expression K.more) (display K.more) m) }

  pub block_level : (d m : ℕ) → d ≤ m → d ≤ n → Rule (nested d m) d (plain none) (Blocks E Item d) (λ (i : X × Parser (List Stmt)). i.1)
  unfolding levels
  block_level zero m le small = record { exact = refuse_exact (plain none); meets = none_meets (block (expression K.more) (display K.more) m) }
  block_level (suc d) zero le small = absurd (omega arith)
  block_level (suc d) (suc m) le small =
      let below = block_level d m (omega arith) (omega arith) in
      let a = block (expression K.inner) (display K.inner) d in
      let b = block (expression K.more) (display K.more) m in
      let few : d ≤ n = omega arith in
      let r = the_block_rule {K = nested d m} {k = d} {expression = λ (i : X × Parser (List Stmt)). expression i.0} {display = λ (i : X × Parser (List Stmt)). display i.0} x (fewer_rule d n few (with_rule a b ex)) displays (fewer_rule d n few (with_rule a b item)) (blocks_broken E Item d) below in
      record { exact = r.exact; meets = r.meets }

  pub body_level : (d m : ℕ) → d ≤ m → d ≤ n → Rule (nested d m) d (plain none) (Bodies E Item d) (λ (i : X × Parser (List Stmt)). body_by (expression i.0) (display i.0) i.1)
  body_level d m le small =
      let a = block (expression K.inner) (display K.inner) d in
      let b = block (expression K.more) (display K.more) m in
      body_by_rule {expression = λ (i : X × Parser (List Stmt)). expression i.0} {display = λ (i : X × Parser (List Stmt)). display i.0} x (fewer_rule d n small (with_rule a b ex)) displays (fewer_rule d n small (with_rule a b item)) (blocks_broken E Item d) (block_level d m le small)
