-- The parser of calls, subscripts and attributes is exact.
use Rattle.std.proofs.Common.{◌≡◌, ℕ, zero, suc, ◌<◌, Bool, true, false, List, [], ◌∷◌, ◌++◌, length, Option, None, Some, refl, sym, ap, subst, ◌∙◌, append_assoc, arith, inl, inr}
use Rattle.mx_syntax.specs.declared.expr.Expr.{Expr}
use Rattle.mx_syntax.specs.declared.expr.Args.{Args}
use Rattle.mx_syntax.specs.declared.expr.Args.TheVariants as args
use Rattle.mx_syntax.specs.declared.expr.Trailer.{Trailer}
use Rattle.mx_syntax.specs.declared.expr.Trailer.TheVariants as made
use Rattle.mx_grammar.specs.declared.word.Symbol.TheVariants as symbol
use Rattle.mx_grammar.specs.declared.word.Word.TheVariants.{Name, Symbol}
use Rattle.mx_grammar.specs.Words.{is}
use Rattle.mx_grammar.specs.Grammar.{Listed}
use Rattle.mx_grammar.specs.Reading.{Words, Parser, ◌>>=◌, ◌>>◌, pure, refuse, sees, accept, expect}
use Rattle.mx_grammar.specs.AddressParsers.{name_of}
use Rattle.mx_grammar.proofs.Exact.{Rel, Kinds, Stops, none, stops_none, or, or_stops, Exists, Nothing, Never, Then, Either, One, iff_exact, refuse_exact}
use Rattle.mx_grammar.proofs.Meets.{Meets}
use Rattle.mx_grammar.proofs.Rules.{Rule, plain, pure_rule, accept_rule, then_rule, iff_rule, stops_rule, map_rule, choose_rule, behind_rule, open_rule, Behind, marked, mark, mapped, mapping, some_mapped, some_then, some_behind, sees_mark, reached_rule, alone, marked_alone, alone_rule}
use Rattle.mx_grammar.proofs.Lists.{SomeClosed, some_listed_rule, Others, others, some_others, others_are, others_rule}
use Rattle.mx_grammar.proofs.AddressRules.{name_inner, one_name, named}
use Rattle.mx_expression.specs.declared.tree.Source.{Source}
use Rattle.mx_expression.specs.Operands.{Test, Arguments, Trailing}
use Rattle.mx_expression.specs.OperandParsers.{begins_trailer, test_of, source_of, source, generator_of, generator, arguments_rest, arguments, subscripts, trailer}
use Rattle.mx_expression.proofs.TokenKinds.{follows, after_or}
use Rattle.mx_expression.proofs.OperandAtoms.{between, Brackets, closes_round, closes_square, opens}

-- the arguments of a call up to the bracket that closes
pub record Called (Inside In : Rel Expr) (u : Words) (a : Args) : Type 0 where
  pub words : Words
  pub parts : u ≡ words ++ Symbol symbol.CloseRound ∷ []
  pub spells : Arguments Inside In words a

module _ (Inside In : Rel Expr) where
  -- ---- generators

  abbrev TestIs : Rel (Option Expr)
  TestIs = Either (Behind symbol.If (Then In (λ x. Nothing (Some x)))) (Nothing None)

  to_test : (u : Words) (t : Option Expr) → TestIs u t → Test In u t
  to_test u t (inl h) =
      let m = marked symbol.If (Then In (λ x. Nothing (Some x))) u t h in
      let w = mapped In Some m.0 t m.2 in
      subst (λ (v : Words). Test In v t) (sym m.1) (subst (Test In (Symbol symbol.If ∷ m.0)) (sym w.2) (Test.test w.1))
  to_test u t (inr h) = subst (λ (v : Words). Test In v t) (sym h.0) (subst (Test In []) (sym h.1) Test.none)

  from_test : (u : Words) (t : Option Expr) → Test In u t → TestIs u t
  from_test _ _ Test.none = inr (refl, refl)
  from_test _ _ (Test.test {u} {x} h) = inl (mark symbol.If (Then In (λ y. Nothing (Some y))) u (Some x) (mapping In Some u x h))

  abbrev OverIs : List ℕ → Rel Source
  OverIs n = Behind symbol.In (Then In (λ over. Then (Test In) (λ t. Nothing (source_of n over t))))

  abbrev SourceIs : Rel Source
  SourceIs = Behind symbol.For (Then (One name_of) OverIs)

  abbrev GeneratorIs : Expr → Rel Args
  GeneratorIs x = Then SourceIs (λ s. Nothing (generator_of x s))

  record Generates (x : Expr) (u : Words) (a : Args) : Type 0 where
    name : List ℕ
    over_words : Words
    test_words : Words
    over : Expr
    tested : Option Expr
    parts : u ≡ Symbol symbol.For ∷ Name name ∷ Symbol symbol.In ∷ over_words ++ test_words
    spells_over : In over_words over
    spells_test : Test In test_words tested
    tree : a ≡ args.Gen x name over tested

  to_generator : (x : Expr) (u : Words) (a : Args) → GeneratorIs x u a → Generates x u a
  to_generator x u a h =
      let s = mapped SourceIs (generator_of x) u a h in
      let m = marked symbol.For (Then (One name_of) OverIs) u s.0 s.1 in
      let t = m.2 in
      let o = marked symbol.In (Then In (λ over. Then (Test In) (λ r. Nothing (source_of t.tree over r)))) t.right s.0 t.second in
      let w = o.2 in
      let g = mapped (Test In) (source_of t.tree w.tree) w.right s.0 w.second in
      record {
        name = t.tree;
        over_words = w.left;
        test_words = w.right;
        over = w.tree;
        tested = g.0;
        parts = m.1 ∙ ap (λ (v : Words). Symbol symbol.For ∷ v) (t.parts ∙ ap (λ (v : Words). v ++ t.right) (named t.left t.tree t.first) ∙ ap (λ (v : Words). Name t.tree ∷ v) (o.1 ∙ ap (λ (v : Words). Symbol symbol.In ∷ v) w.parts));
        spells_over = w.first;
        spells_test = g.1;
        tree = s.2 ∙ ap (generator_of x) g.2;
      }

  from_generator : (x : Expr) (n : List ℕ) (v w : Words) (over : Expr) (t : Option Expr) → In v over → Test In w t → GeneratorIs x (Symbol symbol.For ∷ Name n ∷ Symbol symbol.In ∷ v ++ w) (args.Gen x n over t)
  from_generator x n v w over t h k =
      mapping SourceIs (generator_of x) (Symbol symbol.For ∷ Name n ∷ Symbol symbol.In ∷ v ++ w) (source_of n over t)
      (mark symbol.For (Then (One name_of) OverIs) (Name n ∷ Symbol symbol.In ∷ v ++ w) (source_of n over t) (record {
        left = Name n ∷ [];
        right = Symbol symbol.In ∷ v ++ w;
        tree = n;
        parts = refl;
        first = one_name n;
        second = mark symbol.In (Then In (λ o. Then (Test In) (λ s. Nothing (source_of n o s)))) (v ++ w) (source_of n over t) (record {
          left = v;
          right = w;
          tree = over;
          parts = refl;
          first = h;
          second = mapping (Test In) (source_of n over) w t k;
        });
      }))

  -- ---- the arguments of a call

  abbrev Ended : Args → Rel Args
  Ended a = Behind symbol.CloseRound (Nothing a)

  abbrev ArgumentsRest : Expr → Rel Args
  ArgumentsRest x = Either (Then (GeneratorIs x) Ended) (Either (Behind symbol.Comma (Others Inside symbol.CloseRound args.List x)) (Ended (args.List (x ∷ []))))

  abbrev ArgumentsIs : Rel Args
  ArgumentsIs = Either (Ended (args.List [])) (Then Inside ArgumentsRest)

  to_called_rest : (x : Expr) (u v : Words) (a : Args) → Inside u x → ArgumentsRest x v a → Called Inside In (u ++ v) a
  to_called_rest x u v a h (inl k) =
      let g = to_generator x k.left k.tree k.first in
      let e = marked_alone symbol.CloseRound k.tree k.right a k.second in
      record {
        words = u ++ (Symbol symbol.For ∷ Name g.name ∷ Symbol symbol.In ∷ g.over_words ++ g.test_words);
        parts =
            ap (λ (w : Words). u ++ w) (k.parts ∙ ap (λ (w : Words). w ++ k.right) g.parts ∙ ap (λ (w : Words). (Symbol symbol.For ∷ Name g.name ∷ Symbol symbol.In ∷ g.over_words ++ g.test_words) ++ w) e.0)
            ∙ sym (append_assoc u (Symbol symbol.For ∷ Name g.name ∷ Symbol symbol.In ∷ g.over_words ++ g.test_words) (Symbol symbol.CloseRound ∷ []));
        spells = subst (Arguments Inside In (u ++ (Symbol symbol.For ∷ Name g.name ∷ Symbol symbol.In ∷ g.over_words ++ g.test_words))) (sym (e.1 ∙ g.tree)) (Arguments.generator h g.spells_over g.spells_test);
      }
  to_called_rest x u v a h (inr (inl k)) =
      let m = marked symbol.Comma (Others Inside symbol.CloseRound args.List x) v a k in
      let o = others_are Inside symbol.CloseRound args.List x a m.0 m.2 in
      record {
        words = u ++ Symbol symbol.Comma ∷ o.items;
        parts = ap (λ (w : Words). u ++ w) (m.1 ∙ ap (λ (w : Words). Symbol symbol.Comma ∷ w) o.parts) ∙ sym (append_assoc u (Symbol symbol.Comma ∷ o.items) (Symbol symbol.CloseRound ∷ []));
        spells = subst (Arguments Inside In (u ++ Symbol symbol.Comma ∷ o.items)) (sym o.tree) (Arguments.list (Listed.more h o.spells));
      }
  to_called_rest x u v a h (inr (inr k)) =
      let e = marked_alone symbol.CloseRound (args.List (x ∷ [])) v a k in
      record {
        words = u;
        parts = ap (λ (w : Words). u ++ w) e.0;
        spells = subst (Arguments Inside In u) (sym e.1) (Arguments.list (Listed.one h));
      }

  to_called : (u : Words) (a : Args) → ArgumentsIs u a → Called Inside In u a
  to_called u a (inl h) =
      let e = marked_alone symbol.CloseRound (args.List []) u a h in
      record { words = []; parts = e.0; spells = subst (Arguments Inside In []) (sym e.1) (Arguments.list Listed.none) }
  to_called u a (inr h) =
      let c = to_called_rest h.tree h.left h.right a h.first h.second in
      record { words = c.words; parts = h.parts ∙ c.parts; spells = c.spells }

  from_list : (u : Words) (xs : List Expr) → Listed Inside u xs → ArgumentsIs (u ++ Symbol symbol.CloseRound ∷ []) (args.List xs)
  from_list _ _ Listed.none = inl (alone symbol.CloseRound (args.List []))
  from_list _ _ (Listed.one {u} {x} h) = inr (record { left = u; right = Symbol symbol.CloseRound ∷ []; tree = x; parts = refl; first = h; second = inr (inr (alone symbol.CloseRound (args.List (x ∷ [])))) })
  from_list _ _ (Listed.more {u} {v} {x} {xs} h k) =
      inr (record {
        left = u;
        right = Symbol symbol.Comma ∷ v ++ Symbol symbol.CloseRound ∷ [];
        tree = x;
        parts = append_assoc u (Symbol symbol.Comma ∷ v) (Symbol symbol.CloseRound ∷ []);
        first = h;
        second = inr (inl (mark symbol.Comma (Others Inside symbol.CloseRound args.List x) (v ++ Symbol symbol.CloseRound ∷ []) (args.List (x ∷ xs)) (others Inside symbol.CloseRound args.List x v xs k)));
      })

  from_arguments : (u : Words) (a : Args) → Arguments Inside In u a → ArgumentsIs (u ++ Symbol symbol.CloseRound ∷ []) a
  from_arguments _ _ (Arguments.list {u} {xs} h) = from_list u xs h
  from_arguments _ _ (Arguments.generator {u} {v} {w} {n} {element} {over} {test} h k t) =
      inr (record {
        left = u;
        right = (Symbol symbol.For ∷ Name n ∷ Symbol symbol.In ∷ v ++ w) ++ Symbol symbol.CloseRound ∷ [];
        tree = element;
        parts = append_assoc u (Symbol symbol.For ∷ Name n ∷ Symbol symbol.In ∷ v ++ w) (Symbol symbol.CloseRound ∷ []);
        first = h;
        second = inl (record {
          left = Symbol symbol.For ∷ Name n ∷ Symbol symbol.In ∷ v ++ w;
          right = Symbol symbol.CloseRound ∷ [];
          tree = args.Gen element n over test;
          parts = refl;
          first = from_generator element n v w over test k t;
          second = alone symbol.CloseRound (args.Gen element n over test);
        });
      })

  from_called : (u : Words) (a : Args) → Called Inside In u a → ArgumentsIs u a
  from_called u a c = subst (λ (v : Words). ArgumentsIs v a) (sym c.parts) (from_arguments c.words a c.spells)

  -- ---- calls, subscripts and attributes

  abbrev CallIs : Rel Trailer
  CallIs = Then (Called Inside In) (λ a. Nothing (made.Call a))

  abbrev IndexIs : Rel Trailer
  IndexIs = Then (SomeClosed Inside symbol.CloseSquare) (λ xs. Nothing (made.Index xs))

  abbrev AttributeIs : Rel Trailer
  AttributeIs = Then (One name_of) (λ n. Nothing (made.Attr n))

  abbrev TrailingIs : Rel Trailer
  TrailingIs = Either (Behind symbol.OpenRound CallIs) (Either (Behind symbol.OpenSquare IndexIs) (Behind symbol.Dot AttributeIs))

  to_trailing : (u : Words) (y : Trailer) → TrailingIs u y → Trailing Inside In u y
  to_trailing u y (inl h) =
      let m = marked symbol.OpenRound CallIs u y h in
      let c = mapped (Called Inside In) made.Call m.0 y m.2 in
      subst (λ (v : Words). Trailing Inside In v y) (sym (m.1 ∙ ap (λ (v : Words). Symbol symbol.OpenRound ∷ v) c.1.parts)) (subst (Trailing Inside In (Symbol symbol.OpenRound ∷ c.1.words ++ Symbol symbol.CloseRound ∷ [])) (sym c.2) (Trailing.call c.1.spells))
  to_trailing u y (inr (inl h)) =
      let m = marked symbol.OpenSquare IndexIs u y h in
      let c = mapped (SomeClosed Inside symbol.CloseSquare) made.Index m.0 y m.2 in
      let s = c.1 in
      subst (λ (v : Words). Trailing Inside In v y) (sym (m.1 ∙ ap (λ (v : Words). Symbol symbol.OpenSquare ∷ v) s.parts)) (subst (Trailing Inside In (Symbol symbol.OpenSquare ∷ s.items ++ Symbol symbol.CloseSquare ∷ [])) (sym (c.2 ∙ ap made.Index s.are)) (Trailing.index s.spells))
  to_trailing u y (inr (inr h)) =
      let m = marked symbol.Dot AttributeIs u y h in
      let c = mapped (One name_of) made.Attr m.0 y m.2 in
      subst (λ (v : Words). Trailing Inside In v y) (sym (m.1 ∙ ap (λ (v : Words). Symbol symbol.Dot ∷ v) (named m.0 c.0 c.1))) (subst (Trailing Inside In (Symbol symbol.Dot ∷ Name c.0 ∷ [])) (sym c.2) Trailing.attribute)

  from_trailing : (u : Words) (y : Trailer) → Trailing Inside In u y → TrailingIs u y
  from_trailing _ _ (Trailing.call {u} {a} h) =
      inl (mark symbol.OpenRound CallIs (u ++ Symbol symbol.CloseRound ∷ []) (made.Call a) (mapping (Called Inside In) made.Call (u ++ Symbol symbol.CloseRound ∷ []) a (record { words = u; parts = refl; spells = h })))
  from_trailing _ _ (Trailing.index {u} {x} {xs} h) =
      inr (inl (mark symbol.OpenSquare IndexIs (u ++ Symbol symbol.CloseSquare ∷ []) (made.Index (x ∷ xs)) (mapping (SomeClosed Inside symbol.CloseSquare) made.Index (u ++ Symbol symbol.CloseSquare ∷ []) (x ∷ xs) (record { first = x; others = xs; items = u; parts = refl; spells = h; are = refl }))))
  from_trailing _ _ (Trailing.attribute {n}) =
      inr (inr (mark symbol.Dot AttributeIs (Name n ∷ []) (made.Attr n) (mapping (One name_of) made.Attr (Name n ∷ []) n (one_name n))))

  pub trailing_begins : (u rest : Words) (y : Trailer) → Trailing Inside In u y → sees begins_trailer (u ++ rest) ≡ true
  trailing_begins _ rest _ (Trailing.call h) = refl
  trailing_begins _ rest _ (Trailing.index h) = refl
  trailing_begins _ rest _ Trailing.attribute = refl

-- ---- the rules

module _ {d m : ℕ} {Inside In : Rel Expr} {inside inner : ℕ → Parser Expr} (b : Brackets d m Inside In inside inner) where
  abbrev after_test : Kinds
  after_test = or (is symbol.If) after_or

  test_rule : Exists In → Rule (between d m) d (plain after_test) (Test In) (λ i. test_of (inner i))
  unfolding test_of
  test_rule some =
      iff_rule (to_test Inside In) (from_test Inside In)
      (choose_rule (is symbol.If) (behind_rule symbol.If refl (some_mapped Some some) (stops_rule (λ u rest t h s. (or_stops (is symbol.If) after_or rest s).1) (map_rule Some b.or))) (pure_rule (plain after_test) None)
      (λ u rest t h s. sees_mark symbol.If (Then In (λ x. Nothing (Some x))) (is symbol.If) true refl u rest t h)
      (λ u rest t h s. ap (λ (v : Words). sees (is symbol.If) (v ++ rest)) h.0 ∙ (or_stops (is symbol.If) after_or rest s).0))

  test_stops : (u rest : Words) (t : Option Expr) → Test In u t → Stops after_test rest → Stops after_or (u ++ rest)
  test_stops _ rest _ Test.none s = (or_stops (is symbol.If) after_or rest s).1
  test_stops _ rest _ (Test.test h) s = refl

  some_over : Exists In → (n : List ℕ) → Exists (Then In (λ over. Then (Test In) (λ t. Nothing (source_of n over t))))
  some_over some n = record {
    tokens = some.tokens ++ [];
    tree = source_of n some.tree None;
    spells = record { left = some.tokens; right = []; tree = some.tree; parts = refl; first = some.spells; second = mapping (Test In) (source_of n some.tree) [] None Test.none };
  }

  over_rule : Exists In → (n : List ℕ) → Rule (between d m) d (plain after_test) (OverIs Inside In n) (λ i. expect symbol.In >> (inner i >>= λ over. test_of (inner i) >>= λ t. pure (source_of n over t)))
  over_rule some n =
      behind_rule symbol.In refl (some_over some n)
      (then_rule b.or (λ over. map_rule (source_of n over) (test_rule some))
      (λ over v rest a h s. let m = mapped (Test In) (source_of n over) v a h in test_stops v rest m.0 m.1 s)
      (λ over. some_mapped (source_of n over) (record { tokens = []; tree = None; spells = Test.none })))

  source_rule : Exists In → Rule (between d m) d (plain after_test) (SourceIs Inside In) (λ i. source (inner i))
  unfolding source
  source_rule some =
      behind_rule symbol.For refl (some_then (record { tokens = Name [] ∷ []; tree = []; spells = one_name [] }) (λ n. some_behind symbol.In (some_over some n)))
      (then_rule (accept_rule name_of name_inner) (λ n. over_rule some n) (λ n v rest a h s. stops_none (v ++ rest)) (λ n. some_behind symbol.In (some_over some n)))

  generator_rule : Exists In → (x : Expr) → Rule (between d m) d (plain after_test) (GeneratorIs Inside In x) (λ i. generator (inner i) x)
  unfolding generator
  generator_rule some x = map_rule (generator_of x) (source_rule some)

  end_rule : (a : Args) → Rule (between d m) d (plain none) (Ended Inside In a) (λ _. expect symbol.CloseRound >> pure a)
  end_rule a = alone_rule symbol.CloseRound a refl

  generator_sees : (F : Kinds) (c : Bool) → F (Symbol symbol.For) ≡ c → (x : Expr) (u rest : Words) (a : Args) → Then (GeneratorIs Inside In x) (Ended Inside In) u a → sees F (u ++ rest) ≡ c
  generator_sees F c is x u rest a h =
      let s = mapped (SourceIs Inside In) (generator_of x) h.left h.tree h.first in
      ap (sees F) (ap (λ (v : Words). v ++ rest) h.parts ∙ append_assoc h.left h.right rest)
      ∙ sees_mark symbol.For (Then (One name_of) (OverIs Inside In)) F c is h.left (h.right ++ rest) s.0 s.1

  arguments_rest_rule : Exists In → (x : Expr) → Rule (between d m) d (plain none) (ArgumentsRest Inside In x) (λ i. arguments_rest (inside i) (inner i) x)
  unfolding arguments_rest
  arguments_rest_rule some x =
      choose_rule (is symbol.For)
      (then_rule (generator_rule some x) end_rule (λ g v rest a h s. sees_mark symbol.CloseRound (Nothing g) after_test false refl v rest a h) (λ g. record { tokens = Symbol symbol.CloseRound ∷ []; tree = g; spells = alone symbol.CloseRound g }))
      (choose_rule (is symbol.Comma) (behind_rule symbol.Comma refl (some_others Inside symbol.CloseRound args.List x) (others_rule symbol.CloseRound args.List (closes_round b) b.expr x)) (end_rule (args.List (x ∷ [])))
      (λ u rest a h s. sees_mark symbol.Comma (Others Inside symbol.CloseRound args.List x) (is symbol.Comma) true refl u rest a h)
      (λ u rest a h s. sees_mark symbol.CloseRound (Nothing (args.List (x ∷ []))) (is symbol.Comma) false refl u rest a h))
      (λ u rest a h s. generator_sees (is symbol.For) true refl x u rest a h)
      (λ u rest a h s. elim h [
        | inl w ↦ sees_mark symbol.Comma (Others Inside symbol.CloseRound args.List x) (is symbol.For) false refl u rest a w
        | inr w ↦ sees_mark symbol.CloseRound (Nothing (args.List (x ∷ []))) (is symbol.For) false refl u rest a w
      ])

  rest_stops : (x : Expr) (v rest : Words) (a : Args) → ArgumentsRest Inside In x v a → Stops follows (v ++ rest)
  rest_stops x v rest a (inl h) = generator_sees follows false refl x v rest a h
  rest_stops x v rest a (inr (inl h)) = sees_mark symbol.Comma (Others Inside symbol.CloseRound args.List x) follows false refl v rest a h
  rest_stops x v rest a (inr (inr h)) = sees_mark symbol.CloseRound (Nothing (args.List (x ∷ []))) follows false refl v rest a h

  arguments_rule : Rule (between d m) d (plain none) (Called Inside In) (λ i. arguments (inside i) (inner i))
  unfolding arguments
  arguments_rule =
      iff_rule (to_called Inside In) (from_called Inside In)
      (choose_rule (is symbol.CloseRound) (end_rule (args.List []))
      (reached_rule b.expr (λ u x h. arguments_rest_rule (b.has u x h) x) (λ x v rest a h s. rest_stops x v rest a h) (λ u x h. record { tokens = Symbol symbol.CloseRound ∷ []; tree = args.List (x ∷ []); spells = inr (inr (alone symbol.CloseRound (args.List (x ∷ [])))) }))
      (λ u rest a h s. sees_mark symbol.CloseRound (Nothing (args.List [])) (is symbol.CloseRound) true refl u rest a h)
      (λ u rest a h s. opens b (ArgumentsRest Inside In) u rest a h))

  some_called : Exists (Called Inside In)
  some_called = record { tokens = Symbol symbol.CloseRound ∷ []; tree = args.List []; spells = record { words = []; parts = refl; spells = Arguments.list Listed.none } }

  call_rule : Rule (between d m) (suc d) (plain none) (Behind symbol.OpenRound (CallIs Inside In)) (λ i. expect symbol.OpenRound >> (arguments (inside i) (inner i) >>= λ a. pure (made.Call a)))
  call_rule = open_rule symbol.OpenRound refl (some_mapped made.Call some_called) (map_rule made.Call arguments_rule)

  attribute_rule : {k : ℕ} → Rule (between d m) k (plain none) (Behind symbol.Dot (AttributeIs Inside In)) (λ _. expect symbol.Dot >> (accept name_of >>= λ n. pure (made.Attr n)))
  attribute_rule = behind_rule symbol.Dot refl (some_mapped made.Attr (record { tokens = Name [] ∷ []; tree = []; spells = one_name [] })) (map_rule made.Attr (accept_rule name_of name_inner))

some_index : (Inside In : Rel Expr) → Exists Inside → Exists (IndexIs Inside In)
some_index Inside In some =
    some_mapped made.Index (record { tokens = some.tokens ++ Symbol symbol.CloseSquare ∷ []; tree = some.tree ∷ []; spells = record { first = some.tree; others = []; items = some.tokens; parts = refl; spells = Listed.one some.spells; are = refl } })

none_listed : (Inside : Rel Expr) → ((u : Words) (x : Expr) → Inside u x → ⊥) → (first : Expr) (others : List Expr) (v : Words) (xs : List Expr) → Listed Inside v xs → xs ≡ first ∷ others → ⊥
none_listed Inside never first others _ _ Listed.none e = absurd cc
none_listed Inside never first others _ _ (Listed.one {u} {x} h) e = never u x h
none_listed Inside never first others _ _ (Listed.more {u} {v} {x} {xs} h k) e = never u x h

no_index : (Inside In : Rel Expr) → ((u : Words) (x : Expr) → Inside u x → ⊥) → (u : Words) (y : Trailer) → Behind symbol.OpenSquare (IndexIs Inside In) u y → ⊥
no_index Inside In never u y h =
    let m = marked symbol.OpenSquare (IndexIs Inside In) u y h in
    let c = mapped (SomeClosed Inside symbol.CloseSquare) made.Index m.0 y m.2 in
    none_listed Inside never c.1.first c.1.others c.1.items (c.1.first ∷ c.1.others) c.1.spells refl

refuse_meets : {A : Type 0} (Q : Parser A) → refuse [] ≡ Q [] → Meets 1 refuse Q
refuse_meets Q e = record {
  grows = λ ts rest a h. absurd cc;
  same = λ ts lt. refused ts lt;
  within = λ ts rest a h. absurd cc;
}
  where
    refused : (ts : Words) → length ts < 1 → refuse ts ≡ Q ts
    refused [] lt = e
    refused (t ∷ ts) lt = absurd (omega arith)

nothing_subscripted : (m : ℕ) (inside : Parser Expr) → refuse [] ≡ subscripts m inside []
unfolding subscripts
nothing_subscripted zero inside = refl
nothing_subscripted (suc m) inside = refl

subscript_rule : (d m : ℕ) {Inside In : Rel Expr} {inside inner : ℕ → Parser Expr} → Brackets d m Inside In inside inner → Rule (between d m) (suc d) (plain none) (Behind symbol.OpenSquare (IndexIs Inside In)) (λ i. subscripts i (inside i))
unfolding subscripts
subscript_rule zero m {Inside} {In} {inside} b = record {
  exact = iff_exact (plain none) Never (Behind symbol.OpenSquare (IndexIs Inside In)) refuse (λ u y h. absurd h) (λ u y h. absurd (no_index Inside In (b.never refl) u y h)) (refuse_exact (plain none));
  meets = refuse_meets (subscripts m (inside m)) (nothing_subscripted m (inside m));
}
subscript_rule (suc d) zero b = let le = b.order in absurd (omega arith)
subscript_rule (suc d) (suc m) {Inside} {In} {inside} b =
    let r = open_rule {K = between (suc d) (suc m)} symbol.OpenSquare refl (some_index Inside In (b.some (omega arith))) (map_rule made.Index (some_listed_rule symbol.CloseSquare (closes_square b) b.expr)) in
    record { exact = r.exact; meets = r.meets }

pub trailer_rule : {d m : ℕ} {Inside In : Rel Expr} {inside inner : ℕ → Parser Expr} → Brackets d m Inside In inside inner → Rule (between d m) (suc d) (plain none) (Trailing Inside In) (λ i. trailer i (inside i) (inner i))
unfolding trailer
trailer_rule {d} {m} {Inside} {In} b =
    iff_rule (to_trailing Inside In) (from_trailing Inside In)
    (choose_rule (is symbol.OpenRound) (call_rule b)
    (choose_rule (is symbol.OpenSquare) (subscript_rule d m b) (attribute_rule b)
    (λ u rest y h s. sees_mark symbol.OpenSquare (IndexIs Inside In) (is symbol.OpenSquare) true refl u rest y h)
    (λ u rest y h s. sees_mark symbol.Dot (AttributeIs Inside In) (is symbol.OpenSquare) false refl u rest y h))
    (λ u rest y h s. sees_mark symbol.OpenRound (CallIs Inside In) (is symbol.OpenRound) true refl u rest y h)
    (λ u rest y h s. elim h [ inl w ↦ sees_mark symbol.OpenSquare (IndexIs Inside In) (is symbol.OpenRound) false refl u rest y w | inr w ↦ sees_mark symbol.Dot (AttributeIs Inside In) (is symbol.OpenRound) false refl u rest y w ]))
