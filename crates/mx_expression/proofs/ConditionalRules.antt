-- The parser of conditionals is exact.
use Rattle.std.proofs.Common.{◌≡◌, ℕ, true, false, List, [], ◌∷◌, ◌++◌, refl, sym, ap, subst, ◌∙◌, append_assoc}
use Rattle.std.proofs.lemmas.List.{append-nil}
use Rattle.mx_syntax.specs.declared.expr.Expr.{Expr}
use Rattle.mx_syntax.specs.declared.expr.Arm.{Arm, roll-Arm}
use Rattle.mx_grammar.specs.declared.word.Symbol.TheVariants as symbol
use Rattle.mx_grammar.specs.declared.word.Word.TheVariants.{Symbol}
use Rattle.mx_grammar.specs.Words.{is}
use Rattle.mx_grammar.specs.Grammar.{Parts}
use Rattle.mx_grammar.specs.Reading.{Words, Parser, sees}
use Rattle.mx_grammar.proofs.Exact.{Rel, Kinds, or, Exists, Nothing, Then}
use Rattle.mx_grammar.proofs.Symbols.{at}
use Rattle.mx_grammar.proofs.Rules.{Knot, Rule, plain, then_rule, iff_rule, map_rule, behind_rule, Behind, marked, mark, mapped, mapping, sees_mark, some_mapped, some_then, some_behind, reached_rule}
use Rattle.mx_grammar.proofs.Lists.{BeginsWith}
use Rattle.mx_expression.specs.Chains.{ArmText, Conditional}
use Rattle.mx_expression.specs.ChainParsers.{Armed, with_choice, choice_of, choice, unarmed, conditional_of, conditional}
use Rattle.mx_expression.proofs.TokenKinds.{begins}
use Rattle.mx_expression.proofs.ChainRules.{Begins}
use Rattle.mx_grammar.proofs.Gather.{gathered, Gathered, some_gathered, gathered_stops, gather_rule}

abbrev pub after_conditional : Kinds → Kinds
after_conditional F = or (is symbol.If) F

abbrev arm_of : Expr → Expr → Arm
arm_of value test = roll-Arm (record { value = value; test = test })

module _ (F : Kinds) (S : Rel Expr) where
  -- ---- a test and the value behind it

  abbrev Value : Expr → Rel (Expr × Expr)
  Value test = Behind symbol.Else (Then S (λ value. Nothing (choice_of test value)))

  abbrev Choice : Rel (Expr × Expr)
  Choice = Behind symbol.If (Then S Value)

  record ChoiceIs (u : Words) (c : Expr × Expr) : Type 0 where
    tested : Words
    chosen : Words
    parts : u ≡ Symbol symbol.If ∷ tested ++ Symbol symbol.Else ∷ chosen
    test : S tested c.0
    value : S chosen c.1

  choice_is : (u : Words) (c : Expr × Expr) → Choice u c → ChoiceIs u c
  choice_is u c h =
      let m = marked symbol.If (Then S Value) u c h in
      let t = m.2 in
      let n = marked symbol.Else (Then S (λ value. Nothing (choice_of t.tree value))) t.right c t.second in
      let p = mapped S (choice_of t.tree) n.0 c n.2 in
      record {
        tested = t.left;
        chosen = n.0;
        parts = m.1 ∙ ap (λ (v : Words). Symbol symbol.If ∷ v) (t.parts ∙ ap (λ (v : Words). t.left ++ v) n.1);
        test = subst (S t.left) (sym (ap (λ (d : Expr × Expr). d.0) p.2)) t.first;
        value = subst (S n.0) (sym (ap (λ (d : Expr × Expr). d.1) p.2)) p.1;
      }

  is_choice : (u v : Words) (test value : Expr) → S u test → S v value → Choice (Symbol symbol.If ∷ u ++ Symbol symbol.Else ∷ v) (choice_of test value)
  is_choice u v test value h k =
      mark symbol.If (Then S Value) (u ++ Symbol symbol.Else ∷ v) (choice_of test value) (record {
        left = u;
        right = Symbol symbol.Else ∷ v;
        tree = test;
        parts = refl;
        first = h;
        second = mark symbol.Else (Then S (λ x. Nothing (choice_of test x))) v (choice_of test value) (mapping S (choice_of test) v value k);
      })

  choice_begins : BeginsWith (is symbol.If) Choice
  choice_begins u rest c h = sees_mark symbol.If (Then S Value) (is symbol.If) true refl u rest c h

  -- ---- from values and choices to arms, and back

  record Arms (u : Words) (s : Armed) : Type 0 where
    front : Words
    words : Words
    parts : u ≡ front ++ words
    arms : Parts (ArmText S) front s.arms
    last : S words s.last

  parts_snoc : {A : Type 0} (R : Rel A) (u v : Words) (xs : List A) (x : A) → Parts R u xs → R v x → Parts R (u ++ v) (xs ++ x ∷ [])
  parts_snoc R _ v _ x Parts.none h = subst (λ (w : Words). Parts R w (x ∷ [])) (append-nil v) (Parts.more h Parts.none)
  parts_snoc R _ v _ x (Parts.more {u} {v = w} {x = y} {xs} k ps) h =
      subst (λ (z : Words). Parts R z (y ∷ xs ++ x ∷ [])) (sym (append_assoc u w v)) (Parts.more k (parts_snoc R w v xs x ps h))

  to_arms : (u v : Words) (s : Armed) (cs : List (Expr × Expr)) → Arms u s → Parts Choice v cs → Arms (u ++ v) (gathered with_choice s cs)
  to_arms u _ s _ a Parts.none = subst (λ (w : Words). Arms w s) (sym (append-nil u)) a
  to_arms u _ s _ a (Parts.more {u = v} {v = w} {x = c} {xs = cs} h others) =
      let k = choice_is v c h in
      let arm = ArmText.arm a.last k.test in
      let grown : Words = a.words ++ Symbol symbol.If ∷ k.tested ++ Symbol symbol.Else ∷ [] in
      let next : Arms (u ++ v) (with_choice s c) = record {
        front = a.front ++ grown;
        words = k.chosen;
        parts =
            ap (λ (x : Words). x ++ v) a.parts
            ∙ append_assoc a.front a.words v
            ∙ ap (λ (x : Words). a.front ++ x)
            (ap (λ (x : Words). a.words ++ x) k.parts ∙ sym (append_assoc a.words (Symbol symbol.If ∷ k.tested) (Symbol symbol.Else ∷ k.chosen)) ∙ sym (append_assoc (a.words ++ Symbol symbol.If ∷ k.tested) (Symbol symbol.Else ∷ []) k.chosen))
            ∙ sym (append_assoc a.front grown k.chosen);
        arms = parts_snoc (ArmText S) a.front grown s.arms (arm_of s.last c.0) a.arms arm;
        last = k.value;
      } in
      subst (λ (x : Words). Arms x (gathered with_choice (with_choice s c) cs)) (append_assoc u v w) (to_arms (u ++ v) w (with_choice s c) cs next others)

  -- the first value, and the choices behind it
  record Split (u : Words) (found arms : List Arm) (last : Expr) : Type 0 where
    first : Expr
    front : Words
    words : Words
    choices : List (Expr × Expr)
    parts : u ≡ front ++ words
    value : S front first
    spells : Parts Choice words choices
    whole : gathered with_choice (record { arms = found; last = first }) choices ≡ record { arms = found ++ arms; last = last }

  split : (u v : Words) (found arms : List Arm) (last : Expr) → Parts (ArmText S) u arms → S v last → Split (u ++ v) found arms last
  split _ v found _ last Parts.none h =
      record { first = last; front = v; words = []; choices = []; parts = sym (append-nil v); value = h; spells = Parts.none; whole = ap (λ (l : List Arm). record { arms = l; last = last }) (sym (append-nil found)) }
  split _ v found _ last (Parts.more {v = w} {xs = arms} (ArmText.arm {u} {v = t} {value} {test} h k) others) l =
      let s = split w v (found ++ arm_of value test ∷ []) arms last others l in
      record {
        first = value;
        front = u;
        words = (Symbol symbol.If ∷ t ++ Symbol symbol.Else ∷ s.front) ++ s.words;
        choices = choice_of test s.first ∷ s.choices;
        parts =
            append_assoc (u ++ Symbol symbol.If ∷ t ++ Symbol symbol.Else ∷ []) w v
            ∙ append_assoc (u ++ Symbol symbol.If ∷ t) (Symbol symbol.Else ∷ []) (w ++ v)
            ∙ ap (λ (x : Words). (u ++ Symbol symbol.If ∷ t) ++ Symbol symbol.Else ∷ x) s.parts
            ∙ append_assoc u (Symbol symbol.If ∷ t) (Symbol symbol.Else ∷ (s.front ++ s.words))
            ∙ ap (λ (x : Words). u ++ x) (sym (append_assoc (Symbol symbol.If ∷ t) (Symbol symbol.Else ∷ s.front) s.words));
        value = h;
        spells = Parts.more (is_choice t s.front test s.first k s.value) s.spells;
        whole = s.whole ∙ ap (λ (x : List Arm). record { arms = x; last = last }) (append_assoc found (arm_of value test ∷ []) arms);
      }

  -- ---- the whole

  abbrev Choices : Armed → Rel Armed
  Choices s = Gathered (is symbol.If) F Choice with_choice s

  abbrev After : Expr → Rel Expr
  After x = Then (Choices (unarmed x)) (λ s. Nothing (conditional_of s.arms s.last))

  conditional_by : (u v : Words) (arms : List Arm) (last : Expr) → Parts (ArmText S) u arms → S v last → Conditional S (u ++ v) (conditional_of arms last)
  conditional_by _ v _ last Parts.none h = Conditional.alone h
  conditional_by _ v _ last (Parts.more a others) h = Conditional.chain (Parts.more a others) h

  to_conditional : (u : Words) (y : Expr) → Then S After u y → Conditional S u y
  to_conditional u y h =
      let m = mapped (Choices (unarmed h.tree)) (λ s. conditional_of s.arms s.last) h.right y h.second in
      let c = mapped (Parts Choice) (gathered with_choice (unarmed h.tree)) h.right m.0 m.1 in
      let a = to_arms h.left h.right (unarmed h.tree) c.0 (record { front = []; words = h.left; parts = refl; arms = Parts.none; last = h.first }) c.1 in
      let s : Armed = gathered with_choice (unarmed h.tree) c.0 in
      let e : y ≡ conditional_of s.arms s.last = m.2 ∙ ap (λ (r : Armed). conditional_of r.arms r.last) c.2 in
      subst (λ (w : Words). Conditional S w y) (sym (h.parts ∙ a.parts)) (subst (Conditional S (a.front ++ a.words)) (sym e) (conditional_by a.front a.words s.arms s.last a.arms a.last))

  behind_value : (u v : Words) (x : Expr) (cs : List (Expr × Expr)) (s : Armed) → S u x → Parts Choice v cs → gathered with_choice (unarmed x) cs ≡ s → Then S After (u ++ v) (conditional_of s.arms s.last)
  behind_value u v x cs s h k e = record {
    left = u;
    right = v;
    tree = x;
    parts = refl;
    first = h;
    second = mapping (Choices (unarmed x)) (λ r. conditional_of r.arms r.last) v s (subst (Choices (unarmed x) v) e (mapping (Parts Choice) (gathered with_choice (unarmed x)) v cs k));
  }

  from_conditional : (u : Words) (y : Expr) → Conditional S u y → Then S After u y
  from_conditional _ _ (Conditional.alone {u} {x} h) = subst (λ (w : Words). Then S After w x) (append-nil u) (behind_value u [] x [] (unarmed x) h Parts.none refl)
  from_conditional _ _ (Conditional.chain {u} {v} {y} {ys} {x} arms h) =
      let s = split u v [] (y ∷ ys) x arms h in
      subst (λ (w : Words). Then S After w (conditional_of (y ∷ ys) x)) (sym s.parts) (behind_value s.front s.words s.first s.choices (record { arms = y ∷ ys; last = x }) s.value s.spells s.whole)

  arms_begin : Begins S → (u rest : Words) (ys : List Arm) (z : Arm) (zs : List Arm) → Parts (ArmText S) u ys → ys ≡ z ∷ zs → sees begins (u ++ rest) ≡ true
  arms_begin start _ rest _ z zs Parts.none e = absurd cc
  arms_begin start _ rest _ z zs (Parts.more {v = w} (ArmText.arm {u} {v} {value} h k) others) e =
      ap (sees begins)
      (append_assoc (u ++ Symbol symbol.If ∷ v ++ Symbol symbol.Else ∷ []) w rest ∙ append_assoc (u ++ Symbol symbol.If ∷ v) (Symbol symbol.Else ∷ []) (w ++ rest) ∙ append_assoc u (Symbol symbol.If ∷ v) (Symbol symbol.Else ∷ (w ++ rest)))
      ∙ start u (Symbol symbol.If ∷ v ++ Symbol symbol.Else ∷ (w ++ rest)) value h

  pub conditional_begins : Begins S → Begins (Conditional S)
  conditional_begins start _ rest _ (Conditional.alone {u} {x} h) = start u rest x h
  conditional_begins start _ rest _ (Conditional.chain {u} {v} {y} {ys} arms h) = ap (sees begins) (append_assoc u v rest) ∙ arms_begin start u (v ++ rest) (y ∷ ys) y ys arms refl

  -- a conditional has a part in it
  pub part_of_arms : (u : Words) (ys : List Arm) (z : Arm) (zs : List Arm) → Parts (ArmText S) u ys → ys ≡ z ∷ zs → Exists S
  part_of_arms _ _ z zs Parts.none e = absurd cc
  part_of_arms _ _ z zs (Parts.more (ArmText.arm {u} {value} h k) others) e = record { tokens = u; tree = value; spells = h }

  pub has_part : (u : Words) (x : Expr) → Conditional S u x → Exists S
  has_part _ _ (Conditional.alone {u} {x} h) = record { tokens = u; tree = x; spells = h }
  has_part _ _ (Conditional.chain {v} {x} arms h) = record { tokens = v; tree = x; spells = h }

  pub some_conditional : Exists S → Exists (Conditional S)
  some_conditional some = record { tokens = some.tokens; tree = some.tree; spells = Conditional.alone some.spells }

module _ {E : Type 0} {K : Knot E} {k : ℕ} {F : Kinds} {S : Rel Expr} {p : E → Parser Expr} (part : Rule K k (plain F) S p) (goes_on : F (Symbol symbol.Else) ≡ false) (off : F (Symbol symbol.If) ≡ false) where
  some_value : Exists S → (test : Expr) → Exists (Value F S test)
  some_value some test = some_behind symbol.Else (some_mapped (choice_of test) some)

  pub choice_rule : Exists S → Rule K k (plain F) (Choice F S) (λ i. choice (p i))
  unfolding choice
  choice_rule some =
      behind_rule symbol.If refl (some_then some (some_value some))
      (then_rule part (λ test. behind_rule symbol.Else refl (some_mapped (choice_of test) some) (map_rule (choice_of test) part))
      (λ test v rest c h s. sees_mark symbol.Else (Then S (λ value. Nothing (choice_of test value))) F false goes_on v rest c h)
      (some_value some))

  pub conditional_rule : Rule K k (plain (after_conditional F)) (Conditional S) (λ i. conditional (p i))
  unfolding conditional
  conditional_rule =
      iff_rule (to_conditional F S) (from_conditional F S)
      (reached_rule part
      (λ u x h. map_rule (λ s. conditional_of s.arms s.last) (gather_rule (is symbol.If) with_choice (choice_rule (record { tokens = u; tree = x; spells = h })) (choice_begins F S) (at symbol.If F false off) (unarmed x)))
      (λ x v rest y h s.
      let m = mapped (Choices F S (unarmed x)) (λ r. conditional_of r.arms r.last) v y h in
      gathered_stops (is symbol.If) F (Choice F S) with_choice (choice_begins F S) (at symbol.If F false off) (unarmed x) v rest m.0 m.1 s)
      (λ u x h. some_mapped (λ s. conditional_of s.arms s.last) (some_gathered (is symbol.If) F (Choice F S) with_choice (unarmed x))))
