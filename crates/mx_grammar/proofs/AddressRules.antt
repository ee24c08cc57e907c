-- The parsers of addresses and nodes are exact.
use Rattle.std.proofs.Common.{◌≡◌, ℕ, ◌<◌, Bool, true, false, List, [], ◌∷◌, ◌++◌, length, Some, refl, sym, ap, subst, ◌∙◌, append_assoc, arith, inl, inr}
use Rattle.std.proofs.lemmas.List.{append-nil}
use Rattle.mx_value.specs.declared.value.Value.{Value}
use Rattle.mx_value.specs.declared.value.Segment.{Segment}
use Rattle.mx_value.specs.declared.value.Segment.TheVariants as segment
use Rattle.mx_value.specs.declared.node.Node.{Node}
use Rattle.mx_value.specs.declared.node.Node.TheVariants as node
use Rattle.mx_grammar.specs.declared.word.Symbol.TheVariants as symbol
use Rattle.mx_grammar.specs.declared.word.Word.{Word}
use Rattle.mx_grammar.specs.declared.word.Word.TheVariants.{Name, Symbol}
use Rattle.mx_grammar.specs.Words.{is}
use Rattle.mx_grammar.specs.Grammar.{Listed}
use Rattle.mx_grammar.specs.Reading.{Words, Parser, sees, Turn, On, Done}
use Rattle.mx_grammar.specs.Literals.{Index, Step, Leading, Addr, space_of, NodeText}
use Rattle.mx_grammar.specs.AddressParsers.{name_of, index, arguments, dotted, addr_turn, addr, node_turn, node_by}
use Rattle.mx_grammar.proofs.Exact.{Rel, Kinds, Stops, none, stops_none, or, or_stops, Exists, Nothing, Then, Either, One, Inner}
use Rattle.mx_grammar.proofs.Symbols.{unsaid}
use Rattle.mx_grammar.proofs.Loops.{Turns, last, next, Shrinks}
use Rattle.mx_grammar.proofs.Rules.{Knot, Rule, plain, pure_rule, accept_rule, then_rule, iff_rule, stops_rule, choose_rule, behind_rule, loop_rule, Behind, marked, mark, sees_mark}
use Rattle.mx_grammar.proofs.Lists.{Closed, SomeClosed, all_listed_rule, some_listed_rule, shorter, on_done, on_same, done_same}
use Rattle.mx_grammar.proofs.LiteralRules.{Begins, closes_round, closes_square}

pub name_inner : Inner name_of
name_inner = unsaid name_of symbol.End refl

pub name_is : (t : Word) (n : List ℕ) → name_of t ≡ Some n → t ≡ Name n
name_is (Name m) n h = cc
name_is _ n h = absurd cc

pub one_name : (n : List ℕ) → One name_of (Name n ∷ []) n
one_name n = record { token = Name n; is = refl; what = refl }

pub named : (u : Words) (n : List ℕ) → One name_of u n → u ≡ Name n ∷ []
named u n o = o.is ∙ ap (λ (t : Word). t ∷ []) (name_is o.token n o.what)

-- what may not follow a step
abbrev after_step : Kinds
after_step = or (is symbol.OpenSquare) (is symbol.Dot)

abbrev Dotted : {B : Type 0} → List Segment → B → Rel (Turn (List Segment) B)
Dotted found done = Either (Behind symbol.Dot (Nothing (On found))) (Nothing (Done done))

dotted_rule : {E B : Type 0} {K : Knot E} {k : ℕ} (found : List Segment) (done : B) → Rule K k (plain (is symbol.Dot)) (Dotted found done) (λ _. dotted found done)
unfolding dotted
dotted_rule found done =
    choose_rule (is symbol.Dot) (behind_rule symbol.Dot refl (record { tokens = []; tree = On found; spells = (refl, refl) }) (pure_rule (plain (is symbol.Dot)) (On found))) (pure_rule (plain (is symbol.Dot)) (Done done))
    (λ u rest r h s. sees_mark symbol.Dot (Nothing (On found)) (is symbol.Dot) true refl u rest r h)
    (λ u rest r h s. subst (λ (v : Words). Stops (is symbol.Dot) (v ++ rest)) (sym h.0) s)

some_dotted : {B : Type 0} (found : List Segment) (done : B) → Exists (Dotted found done)
some_dotted found done = record { tokens = []; tree = Done done; spells = inr (refl, refl) }

dotted_stops : {B : Type 0} (F : Kinds) → F (Symbol symbol.Dot) ≡ false → (found : List Segment) (done : B) (u rest : Words) (r : Turn (List Segment) B) → Dotted found done u r → Stops F rest → Stops F (u ++ rest)
dotted_stops F dot found done u rest r (inl h) s = sees_mark symbol.Dot (Nothing (On found)) F false dot u rest r h
dotted_stops F dot found done u rest r (inr h) s = subst (λ (v : Words). Stops F (v ++ rest)) (sym h.0) s

-- how a turn ended: a point goes on
data Dots {B : Type 0} (found : List Segment) (done : B) (u : Words) (r : Turn (List Segment) B) : Type 0 where
  goes : u ≡ Symbol symbol.Dot ∷ [] → r ≡ On found → Dots found done u r
  ends : u ≡ [] → r ≡ Done done → Dots found done u r

dots : {B : Type 0} (found : List Segment) (done : B) (u : Words) (r : Turn (List Segment) B) → Dotted found done u r → Dots found done u r
dots found done u r (inl h) = let m = marked symbol.Dot (Nothing (On found)) u r h in goes (m.1 ∙ ap (λ (v : Words). Symbol symbol.Dot ∷ v) m.2.0) m.2.1
dots found done u r (inr h) = ends h.0 h.1

dot : {B : Type 0} (found : List Segment) (done : B) → Dotted found done (Symbol symbol.Dot ∷ []) (On found)
dot found done = inl (mark symbol.Dot (Nothing (On found)) [] (On found) (refl, refl))

module _ (In : Rel Value) where
  to_index : (u : Words) (xs : List Value) → Behind symbol.OpenSquare (SomeClosed In symbol.CloseSquare) u xs → Index In u xs
  to_index u xs h =
      let m = marked symbol.OpenSquare (SomeClosed In symbol.CloseSquare) u xs h in
      let s = m.2 in
      subst (λ (v : Words). Index In v xs) (sym (m.1 ∙ ap (λ (v : Words). Symbol symbol.OpenSquare ∷ v) s.parts)) (subst (Index In (Symbol symbol.OpenSquare ∷ s.items ++ Symbol symbol.CloseSquare ∷ [])) (sym s.are) (Index.index s.spells))

  from_index : (u : Words) (xs : List Value) → Index In u xs → Behind symbol.OpenSquare (SomeClosed In symbol.CloseSquare) u xs
  from_index _ _ (Index.index {u} {x} {xs} h) = mark symbol.OpenSquare (SomeClosed In symbol.CloseSquare) (u ++ Symbol symbol.CloseSquare ∷ []) (x ∷ xs) (record { first = x; others = xs; items = u; parts = refl; spells = h; are = refl })

  index_sees : (F : Kinds) (b : Bool) → F (Symbol symbol.OpenSquare) ≡ b → (u rest : Words) (xs : List Value) → Index In u xs → sees F (u ++ rest) ≡ b
  index_sees F b is _ rest _ (Index.index h) = is

  -- ---- addresses

  abbrev Behind_index : List Segment → List ℕ → List Value → List Segment
  Behind_index found n xs = found ++ segment.Name n ∷ segment.Item xs ∷ []

  abbrev StepRest : List Segment → List ℕ → Rel (Turn (List Segment) (List Segment))
  StepRest found n = Either (Then (Index In) (λ xs. Dotted (Behind_index found n xs) (Behind_index found n xs))) (Dotted (found ++ segment.Name n ∷ []) (found ++ segment.Name n ∷ []))

  abbrev AddrIs : List Segment → Rel (Turn (List Segment) (List Segment))
  AddrIs found = Then (One name_of) (StepRest found)

  -- a turn by its step
  record Stepped {B : Type 0} (found : List Segment) (done : List Segment → B) (u : Words) (r : Turn (List Segment) B) : Type 0 where
    words : Words
    segments : List Segment
    step : Step In words segments
    rest : Words
    parts : u ≡ words ++ rest
    how : Dots (found ++ segments) (done segments) rest r

  addr_step : (found : List Segment) (u : Words) (r : Turn (List Segment) (List Segment)) → AddrIs found u r → Stepped found (λ s. found ++ s) u r
  addr_step found u r h =
      let name = named h.left h.tree h.first in
      elim h.second [
        | inl w ↦ record {
          words = Name h.tree ∷ w.left;
          segments = segment.Name h.tree ∷ segment.Item w.tree ∷ [];
          step = Step.item w.first;
          rest = w.right;
          parts = h.parts ∙ ap (λ (v : Words). v ++ h.right) name ∙ ap (λ (v : Words). Name h.tree ∷ v) w.parts;
          how = dots (Behind_index found h.tree w.tree) (Behind_index found h.tree w.tree) w.right r w.second;
        }
        | inr w ↦ record {
          words = Name h.tree ∷ [];
          segments = segment.Name h.tree ∷ [];
          step = Step.child;
          rest = h.right;
          parts = h.parts ∙ ap (λ (v : Words). v ++ h.right) name;
          how = dots (found ++ segment.Name h.tree ∷ []) (found ++ segment.Name h.tree ∷ []) h.right r w;
        }
      ]

  step_addr : (found : List Segment) (u v : Words) (s : List Segment) (r : Turn (List Segment) (List Segment)) → Step In u s → Dotted (found ++ s) (found ++ s) v r → AddrIs found (u ++ v) r
  step_addr found _ v _ r (Step.child {n}) d = record { left = Name n ∷ []; right = v; tree = n; parts = refl; first = one_name n; second = inr d }
  step_addr found _ v _ r (Step.item {n} {u} {xs} h) d = record { left = Name n ∷ []; right = u ++ v; tree = n; parts = refl; first = one_name n; second = inl (record { left = u; right = v; tree = xs; parts = refl; first = h; second = d }) }

  record AddrFrom (found : List Segment) (u : Words) (all : List Segment) : Type 0 where
    front : Words
    back : Words
    leads : List Segment
    segments : List Segment
    parts : u ≡ front ++ back
    leading : Leading In front leads
    step : Step In back segments
    whole : all ≡ found ++ (leads ++ segments)

  addr_from : (found : List Segment) (u : Words) (all : List Segment) → Turns AddrIs found u all → AddrFrom found u all
  addr_from _ _ _ (last {s} {u} {b} h) = addr_last s u b (addr_step s u (Done b) h)
    where
      addr_last : (found : List Segment) (w : Words) (all : List Segment) → Stepped found (λ t. found ++ t) w (Done all) → AddrFrom found w all
      addr_last found w all k = elim k.how [
        | goes d e ↦ absurd (on_done (found ++ k.segments) all (sym e))
        | ends d e ↦ record { front = []; back = k.words; leads = []; segments = k.segments; parts = k.parts ∙ ap (λ (v : Words). k.words ++ v) d ∙ append-nil k.words; leading = Leading.none; step = k.step; whole = done_same all (found ++ k.segments) e }
      ]
  addr_from _ _ _ (next {s} {t} {u} {v} {b} h more) =
      let k = addr_step s u (On t) h in
      let m = addr_from t v b more in
      elim k.how [
        | goes d e ↦ record {
          front = k.words ++ Symbol symbol.Dot ∷ m.front;
          back = m.back;
          leads = k.segments ++ m.leads;
          segments = m.segments;
          parts = ap (λ (w : Words). w ++ v) (k.parts ∙ ap (λ (w : Words). k.words ++ w) d) ∙ append_assoc k.words (Symbol symbol.Dot ∷ []) v ∙ ap (λ (w : Words). k.words ++ Symbol symbol.Dot ∷ w) m.parts ∙ sym (append_assoc k.words (Symbol symbol.Dot ∷ m.front) m.back);
          leading = Leading.more k.step m.leading;
          step = m.step;
          whole = m.whole ∙ ap (λ (l : List Segment). l ++ (m.leads ++ m.segments)) (on_same t (s ++ k.segments) e) ∙ append_assoc s k.segments (m.leads ++ m.segments) ∙ ap (λ (l : List Segment). s ++ l) (sym (append_assoc k.segments m.leads m.segments));
        }
        | ends d e ↦ absurd (on_done t (s ++ k.segments) e)
      ]

  to_addr : (u : Words) (all : List Segment) → Turns AddrIs [] u all → Addr In u all
  to_addr u all h = let k = addr_from [] u all h in subst (λ (v : Words). Addr In v all) (sym k.parts) (subst (Addr In (k.front ++ k.back)) (sym k.whole) (Addr.addr k.leading k.step))

  from_leading : (found : List Segment) (u v : Words) (a s : List Segment) → Leading In u a → Step In v s → Turns AddrIs found (u ++ v) (found ++ (a ++ s))
  from_leading found _ v _ s Leading.none h = last (subst (λ (w : Words). AddrIs found w (Done (found ++ s))) (append-nil v) (step_addr found v [] s (Done (found ++ s)) h (inr (refl, refl))))
  from_leading found _ w _ z (Leading.more {u} {v} {s} {a} h others) k =
      let e : (u ++ Symbol symbol.Dot ∷ v) ++ w ≡ (u ++ Symbol symbol.Dot ∷ []) ++ (v ++ w) = append_assoc u (Symbol symbol.Dot ∷ v) w ∙ sym (append_assoc u (Symbol symbol.Dot ∷ []) (v ++ w)) in
      let t : (found ++ s) ++ (a ++ z) ≡ found ++ ((s ++ a) ++ z) = append_assoc found s (a ++ z) ∙ ap (λ (l : List Segment). found ++ l) (sym (append_assoc s a z)) in
      subst (λ (x : Words). Turns AddrIs found x (found ++ ((s ++ a) ++ z))) (sym e)
      (subst (Turns AddrIs found ((u ++ Symbol symbol.Dot ∷ []) ++ (v ++ w))) t
      (next {t = found ++ s} (step_addr found u (Symbol symbol.Dot ∷ []) s (On (found ++ s)) h (dot (found ++ s) (found ++ s))) (from_leading (found ++ s) v w a z others k)))

  from_addr : (u : Words) (all : List Segment) → Addr In u all → Turns AddrIs [] u all
  from_addr _ _ (Addr.addr {u} {v} {a} {s} h k) = from_leading [] u v a s h k

  named_stops : {B : Type 0} (F : Kinds) → ((n : List ℕ) → F (Name n) ≡ false) → (Q : List ℕ → Rel B) (u rest : Words) (r : B) → Then (One name_of) Q u r → Stops F (u ++ rest)
  named_stops F off Q u rest r h = ap (λ (v : Words). sees F (v ++ rest)) (h.parts ∙ ap (λ (v : Words). v ++ h.right) (named h.left h.tree h.first)) ∙ off h.tree

  named_long : {B : Type 0} (Q : List ℕ → Rel B) (u : Words) (r : B) → Then (One name_of) Q u r → 0 < length u
  named_long Q u r h = omega (arith, ap length (h.parts ∙ ap (λ (v : Words). v ++ h.right) (named h.left h.tree h.first)))

  -- ---- nodes

  abbrev Arguments : Rel (List Value)
  Arguments = Behind symbol.OpenRound (Closed In symbol.CloseRound)

  abbrev NodeRest : List Segment → List ℕ → Rel (Turn (List Segment) Node)
  NodeRest found n =
      Either (Then Arguments (λ xs. Nothing (Done (node.Cell (space_of found) n xs))))
      (Either (Then (Index In) (λ xs. Dotted (Behind_index found n xs) (node.Item (found ++ segment.Name n ∷ []) xs))) (Behind symbol.Dot (Nothing (On (found ++ segment.Name n ∷ [])))))

  abbrev NodeIs : List Segment → Rel (Turn (List Segment) Node)
  NodeIs found = Then (One name_of) (NodeRest found)

  data NodeTurn (found : List Segment) (u : Words) (r : Turn (List Segment) Node) : Type 0 where
    goes_on : (v : Words) (s : List Segment) → Step In v s → u ≡ v ++ Symbol symbol.Dot ∷ [] → r ≡ On (found ++ s) → NodeTurn found u r
    called : (n : List ℕ) (v : Words) (xs : List Value) → Listed In v xs → u ≡ Name n ∷ Symbol symbol.OpenRound ∷ v ++ Symbol symbol.CloseRound ∷ [] → r ≡ Done (node.Cell (space_of found) n xs) → NodeTurn found u r
    ended : (n : List ℕ) (v : Words) (xs : List Value) → Index In v xs → u ≡ Name n ∷ v → r ≡ Done (node.Item (found ++ segment.Name n ∷ []) xs) → NodeTurn found u r

  node_step : (found : List Segment) (u : Words) (r : Turn (List Segment) Node) → NodeIs found u r → NodeTurn found u r
  node_step found u r h =
      let name = named h.left h.tree h.first in
      let begun : u ≡ Name h.tree ∷ h.right = h.parts ∙ ap (λ (v : Words). v ++ h.right) name in
      elim h.second [
        | inl w ↦
            let m = marked symbol.OpenRound (Closed In symbol.CloseRound) w.left w.tree w.first in
            called h.tree m.2.items w.tree m.2.spells
            (begun ∙ ap (λ (v : Words). Name h.tree ∷ v) (w.parts ∙ ap (λ (v : Words). w.left ++ v) w.second.0 ∙ append-nil w.left ∙ m.1 ∙ ap (λ (v : Words). Symbol symbol.OpenRound ∷ v) m.2.parts)) w.second.1
        | inr (inl w) ↦ elim (dots (Behind_index found h.tree w.tree) (node.Item (found ++ segment.Name h.tree ∷ []) w.tree) w.right r w.second) [
          | goes d e ↦ goes_on (Name h.tree ∷ w.left) (segment.Name h.tree ∷ segment.Item w.tree ∷ []) (Step.item w.first) (begun ∙ ap (λ (v : Words). Name h.tree ∷ v) (w.parts ∙ ap (λ (v : Words). w.left ++ v) d)) e
          | ends d e ↦ ended h.tree w.left w.tree w.first (begun ∙ ap (λ (v : Words). Name h.tree ∷ v) (w.parts ∙ ap (λ (v : Words). w.left ++ v) d ∙ append-nil w.left)) e
        ]
        | inr (inr w) ↦
            let m = marked symbol.Dot (Nothing (On (found ++ segment.Name h.tree ∷ []))) h.right r w in
            goes_on (Name h.tree ∷ []) (segment.Name h.tree ∷ []) Step.child (begun ∙ ap (λ (v : Words). Name h.tree ∷ v) (m.1 ∙ ap (λ (v : Words). Symbol symbol.Dot ∷ v) m.2.0)) m.2.1
      ]

  step_node : (found : List Segment) (u : Words) (s : List Segment) → Step In u s → NodeIs found (u ++ Symbol symbol.Dot ∷ []) (On (found ++ s))
  step_node found _ _ (Step.child {n}) = record { left = Name n ∷ []; right = Symbol symbol.Dot ∷ []; tree = n; parts = refl; first = one_name n; second = inr (inr (mark symbol.Dot (Nothing (On (found ++ segment.Name n ∷ []))) [] (On (found ++ segment.Name n ∷ [])) (refl, refl))) }
  step_node found _ _ (Step.item {n} {u} {xs} h) = record { left = Name n ∷ []; right = u ++ Symbol symbol.Dot ∷ []; tree = n; parts = refl; first = one_name n; second = inr (inl (record { left = u; right = Symbol symbol.Dot ∷ []; tree = xs; parts = refl; first = h; second = dot (Behind_index found n xs) (node.Item (found ++ segment.Name n ∷ []) xs) })) }

  call_node : (found : List Segment) (n : List ℕ) (v : Words) (xs : List Value) → Listed In v xs → NodeIs found (Name n ∷ Symbol symbol.OpenRound ∷ v ++ Symbol symbol.CloseRound ∷ []) (Done (node.Cell (space_of found) n xs))
  call_node found n v xs h = record { left = Name n ∷ []; right = Symbol symbol.OpenRound ∷ v ++ Symbol symbol.CloseRound ∷ []; tree = n; parts = refl; first = one_name n; second = inl (record { left = Symbol symbol.OpenRound ∷ v ++ Symbol symbol.CloseRound ∷ []; right = []; tree = xs; parts = sym (append-nil (Symbol symbol.OpenRound ∷ v ++ Symbol symbol.CloseRound ∷ [])); first = mark symbol.OpenRound (Closed In symbol.CloseRound) (v ++ Symbol symbol.CloseRound ∷ []) xs (record { items = v; parts = refl; spells = h }); second = (refl, refl) }) }

  item_node : (found : List Segment) (n : List ℕ) (v : Words) (xs : List Value) → Index In v xs → NodeIs found (Name n ∷ v) (Done (node.Item (found ++ segment.Name n ∷ []) xs))
  item_node found n v xs h = record { left = Name n ∷ []; right = v; tree = n; parts = refl; first = one_name n; second = inr (inl (record { left = v; right = []; tree = xs; parts = sym (append-nil v); first = h; second = inr (refl, refl) })) }

  -- what is left of a node behind the steps that were found
  data NodeFrom (found : List Segment) (u : Words) (b : Node) : Type 0 where
    cell : (n : List ℕ) (front v : Words) (a : List Segment) (xs : List Value) → Leading In front a → Listed In v xs → u ≡ front ++ (Name n ∷ Symbol symbol.OpenRound ∷ v ++ Symbol symbol.CloseRound ∷ []) → b ≡ node.Cell (space_of (found ++ a)) n xs → NodeFrom found u b
    item : (n : List ℕ) (front v : Words) (a : List Segment) (xs : List Value) → Leading In front a → Index In v xs → u ≡ front ++ Name n ∷ v → b ≡ node.Item ((found ++ a) ++ segment.Name n ∷ []) xs → NodeFrom found u b

  node_more : (s t : List Segment) (u v w : Words) (b : Node) (z : List Segment) → Step In w z → u ≡ w ++ Symbol symbol.Dot ∷ [] → t ≡ s ++ z → NodeFrom t v b → NodeFrom s (u ++ v) b
  node_more s t u v w b z h d e (cell n front x a xs lead k is tree) =
      cell n (w ++ Symbol symbol.Dot ∷ front) x (z ++ a) xs (Leading.more h lead) k
      (ap (λ (y : Words). y ++ v) d ∙ append_assoc w (Symbol symbol.Dot ∷ []) v ∙ ap (λ (y : Words). w ++ Symbol symbol.Dot ∷ y) is ∙ sym (append_assoc w (Symbol symbol.Dot ∷ front) (Name n ∷ Symbol symbol.OpenRound ∷ x ++ Symbol symbol.CloseRound ∷ [])))
      (tree ∙ ap (λ (l : List Segment). node.Cell (space_of l) n xs) (ap (λ (l : List Segment). l ++ a) e ∙ append_assoc s z a))
  node_more s t u v w b z h d e (item n front x a xs lead k is tree) =
      item n (w ++ Symbol symbol.Dot ∷ front) x (z ++ a) xs (Leading.more h lead) k
      (ap (λ (y : Words). y ++ v) d ∙ append_assoc w (Symbol symbol.Dot ∷ []) v ∙ ap (λ (y : Words). w ++ Symbol symbol.Dot ∷ y) is ∙ sym (append_assoc w (Symbol symbol.Dot ∷ front) (Name n ∷ x)))
      (tree ∙ ap (λ (l : List Segment). node.Item (l ++ segment.Name n ∷ []) xs) (ap (λ (l : List Segment). l ++ a) e ∙ append_assoc s z a))

  node_from : (found : List Segment) (u : Words) (b : Node) → Turns NodeIs found u b → NodeFrom found u b
  node_from _ _ _ (last {s} {u} {b} h) = elim (node_step s u (Done b) h) [
    | goes_on v z k is e ↦ absurd (on_done (s ++ z) b (sym e))
    | called n v xs k is e ↦ cell n [] v [] xs Leading.none k is (done_same b (node.Cell (space_of s) n xs) e ∙ ap (λ (l : List Segment). node.Cell (space_of l) n xs) (sym (append-nil s)))
    | ended n v xs k is e ↦ item n [] v [] xs Leading.none k is (done_same b (node.Item (s ++ segment.Name n ∷ []) xs) e ∙ ap (λ (l : List Segment). node.Item (l ++ segment.Name n ∷ []) xs) (sym (append-nil s)))
  ]
  node_from _ _ _ (next {s} {t} {u} {v} {b} h more) = elim (node_step s u (On t) h) [
    | goes_on w z k is e ↦ node_more s t u v w b z k is (on_same t (s ++ z) e) (node_from t v b more)
    | called n w xs k is e ↦ absurd (on_done t (node.Cell (space_of s) n xs) e)
    | ended n w xs k is e ↦ absurd (on_done t (node.Item (s ++ segment.Name n ∷ []) xs) e)
  ]

  to_node_by : (u : Words) (b : Node) → NodeFrom [] u b → NodeText In u b
  to_node_by u b (cell n front v a xs lead k is tree) = subst (λ (w : Words). NodeText In w b) (sym is) (subst (NodeText In (front ++ (Name n ∷ Symbol symbol.OpenRound ∷ v ++ Symbol symbol.CloseRound ∷ []))) (sym tree) (NodeText.cell lead k))
  to_node_by u b (item n front v a xs lead k is tree) = subst (λ (w : Words). NodeText In w b) (sym is) (subst (NodeText In (front ++ Name n ∷ v)) (sym tree) (NodeText.item n lead k))

  to_node : (u : Words) (b : Node) → Turns NodeIs [] u b → NodeText In u b
  to_node u b h = to_node_by u b (node_from [] u b h)

  lead_node : (found : List Segment) (u w : Words) (a : List Segment) (b : Node) → Leading In u a → NodeIs (found ++ a) w (Done b) → Turns NodeIs found (u ++ w) b
  lead_node found _ w _ b Leading.none k = last (subst (λ (l : List Segment). NodeIs l w (Done b)) (append-nil found) k)
  lead_node found _ w _ b (Leading.more {u} {v} {s} {a} h others) k =
      let e : (u ++ Symbol symbol.Dot ∷ v) ++ w ≡ (u ++ Symbol symbol.Dot ∷ []) ++ (v ++ w) = append_assoc u (Symbol symbol.Dot ∷ v) w ∙ sym (append_assoc u (Symbol symbol.Dot ∷ []) (v ++ w)) in
      subst (λ (x : Words). Turns NodeIs found x b) (sym e) (next {t = found ++ s} (step_node found u s h) (lead_node (found ++ s) v w a b others (subst (λ (l : List Segment). NodeIs l w (Done b)) (sym (append_assoc found s a)) k)))

  from_node : (u : Words) (b : Node) → NodeText In u b → Turns NodeIs [] u b
  from_node _ _ (NodeText.cell {n} {u} {v} {a} {xs} h k) = lead_node [] u (Name n ∷ Symbol symbol.OpenRound ∷ v ++ Symbol symbol.CloseRound ∷ []) a (node.Cell (space_of a) n xs) h (call_node a n v xs k)
  from_node _ _ (NodeText.item n {u} {v} {a} {xs} h k) = lead_node [] u (Name n ∷ v) a (node.Item (a ++ segment.Name n ∷ []) xs) h (item_node a n v xs k)

-- ---- the rules

module _ {K : Knot (Parser Value)} {k : ℕ} {In : Rel Value} (start : Begins In) (some : Exists In) (i : Rule K k (plain none) In (λ inner. inner)) where
  some_items : Exists (SomeClosed In symbol.CloseSquare)
  some_items = record { tokens = some.tokens ++ Symbol symbol.CloseSquare ∷ []; tree = some.tree ∷ []; spells = record { first = some.tree; others = []; items = some.tokens; parts = refl; spells = Listed.one some.spells; are = refl } }

  index_rule : Rule K k (plain none) (Index In) index
  unfolding index
  index_rule = iff_rule (to_index In) (from_index In) (behind_rule symbol.OpenSquare refl some_items (some_listed_rule symbol.CloseSquare (closes_square In start) i))

  arguments_rule : Rule K k (plain none) (Arguments In) arguments
  unfolding arguments
  arguments_rule = behind_rule symbol.OpenRound refl (record { tokens = Symbol symbol.CloseRound ∷ []; tree = []; spells = record { items = []; parts = refl; spells = Listed.none } }) (all_listed_rule symbol.CloseRound (closes_round In start) i)

  wider : {B : Type 0} (found : List Segment) (done : B) → Rule K k (plain after_step) (Dotted found done) (λ _. dotted found done)
  wider found done = stops_rule (λ u rest a h s. (or_stops (is symbol.OpenSquare) (is symbol.Dot) rest s).1) (dotted_rule found done)

  addr_turn_rule : (found : List Segment) → Rule K k (plain after_step) (AddrIs In found) (λ inner. addr_turn inner found)
  unfolding addr_turn
  addr_turn_rule found =
      then_rule (accept_rule name_of name_inner)
      (λ n. choose_rule (is symbol.OpenSquare) (then_rule index_rule (λ xs. wider (Behind_index In found n xs) (Behind_index In found n xs)) (λ xs v rest b h s. stops_none (v ++ rest)) (λ xs. some_dotted (Behind_index In found n xs) (Behind_index In found n xs)))
      (wider (found ++ segment.Name n ∷ []) (found ++ segment.Name n ∷ []))
      (λ u rest r h s. ap (sees (is symbol.OpenSquare)) (ap (λ (v : Words). v ++ rest) h.parts ∙ append_assoc h.left h.right rest) ∙ index_sees In (is symbol.OpenSquare) true refl h.left (h.right ++ rest) h.tree h.first)
      (λ u rest r h s. dotted_stops (is symbol.OpenSquare) refl (found ++ segment.Name n ∷ []) (found ++ segment.Name n ∷ []) u rest r h (or_stops (is symbol.OpenSquare) (is symbol.Dot) rest s).0))
      (λ n v rest b h s. stops_none (v ++ rest))
      (λ n. record { tokens = []; tree = Done (found ++ segment.Name n ∷ []); spells = inr (inr (refl, refl)) })

  pub addr_shrinks : Shrinks (addr_turn K.inner)
  addr_shrinks found ts rest t e = let h = (addr_turn_rule found).exact.sound ts rest (On t) e in shorter ts h.used rest h.parts (named_long In (StepRest In found) h.used (On t) h.spells)

  pub addr_rule : Rule K k (plain after_step) (Addr In) addr
  addr_rule =
      iff_rule (to_addr In) (from_addr In)
      (loop_rule addr_turn_rule addr_shrinks (λ found u rest r h s t. named_stops In after_step (λ n. refl) (StepRest In found) u rest r h) (λ rest b s. s)
      (λ found. record { tokens = Name [] ∷ []; tree = found ++ segment.Name [] ∷ []; spells = last (step_addr In found (Name [] ∷ []) [] (segment.Name [] ∷ []) (Done (found ++ segment.Name [] ∷ [])) Step.child (inr (refl, refl))) }) [])

  pub some_addr : Exists (Addr In)
  some_addr = record { tokens = Name [] ∷ []; tree = segment.Name [] ∷ []; spells = Addr.addr Leading.none Step.child }

  node_turn_rule : (found : List Segment) → Rule K k (plain (is symbol.Dot)) (NodeIs In found) (λ inner. node_turn inner found)
  unfolding node_turn
  node_turn_rule found =
      then_rule (accept_rule name_of name_inner)
      (λ n. choose_rule (is symbol.OpenRound) (then_rule arguments_rule (λ xs. pure_rule (plain (is symbol.Dot)) (Done (node.Cell (space_of found) n xs))) (λ xs v rest b h s. stops_none (v ++ rest)) (λ xs. record { tokens = []; tree = Done (node.Cell (space_of found) n xs); spells = (refl, refl) }))
      (choose_rule (is symbol.OpenSquare) (then_rule index_rule (λ xs. dotted_rule (Behind_index In found n xs) (node.Item (found ++ segment.Name n ∷ []) xs)) (λ xs v rest b h s. stops_none (v ++ rest)) (λ xs. some_dotted (Behind_index In found n xs) (node.Item (found ++ segment.Name n ∷ []) xs)))
      (behind_rule symbol.Dot refl (record { tokens = []; tree = On (found ++ segment.Name n ∷ []); spells = (refl, refl) }) (pure_rule (plain (is symbol.Dot)) (On (found ++ segment.Name n ∷ []))))
      (λ u rest r h s. ap (sees (is symbol.OpenSquare)) (ap (λ (v : Words). v ++ rest) h.parts ∙ append_assoc h.left h.right rest) ∙ index_sees In (is symbol.OpenSquare) true refl h.left (h.right ++ rest) h.tree h.first)
      (λ u rest r h s. sees_mark symbol.Dot (Nothing (On (found ++ segment.Name n ∷ []))) (is symbol.OpenSquare) false refl u rest r h))
      (λ u rest r h s. ap (sees (is symbol.OpenRound)) (ap (λ (v : Words). v ++ rest) h.parts ∙ append_assoc h.left h.right rest) ∙ sees_mark symbol.OpenRound (Closed In symbol.CloseRound) (is symbol.OpenRound) true refl h.left (h.right ++ rest) h.tree h.first)
      (λ u rest r h s. elim h [
        | inl w ↦ ap (sees (is symbol.OpenRound)) (ap (λ (v : Words). v ++ rest) w.parts ∙ append_assoc w.left w.right rest) ∙ index_sees In (is symbol.OpenRound) false refl w.left (w.right ++ rest) w.tree w.first
        | inr w ↦ sees_mark symbol.Dot (Nothing (On (found ++ segment.Name n ∷ []))) (is symbol.OpenRound) false refl u rest r w
      ]))
      (λ n v rest b h s. stops_none (v ++ rest))
      (λ n. record { tokens = Symbol symbol.Dot ∷ []; tree = On (found ++ segment.Name n ∷ []); spells = inr (inr (mark symbol.Dot (Nothing (On (found ++ segment.Name n ∷ []))) [] (On (found ++ segment.Name n ∷ [])) (refl, refl))) })

  pub node_shrinks : Shrinks (node_turn K.inner)
  node_shrinks found ts rest t e = let h = (node_turn_rule found).exact.sound ts rest (On t) e in shorter ts h.used rest h.parts (named_long In (NodeRest In found) h.used (On t) h.spells)

  pub node_rule : Rule K k (plain (is symbol.Dot)) (NodeText In) node_by
  node_rule =
      iff_rule (to_node In) (from_node In)
      (loop_rule node_turn_rule node_shrinks (λ found u rest r h s t. named_stops In (is symbol.Dot) (λ n. refl) (NodeRest In found) u rest r h) (λ rest b s. s)
      (λ found. record { tokens = Name [] ∷ Symbol symbol.OpenRound ∷ Symbol symbol.CloseRound ∷ []; tree = node.Cell (space_of found) [] []; spells = last (call_node In found [] [] [] Listed.none) }) [])

  pub some_node : Exists (NodeText In)
  some_node = record { tokens = Name [] ∷ Symbol symbol.OpenRound ∷ Symbol symbol.CloseRound ∷ []; tree = node.Cell (space_of []) [] []; spells = NodeText.cell Leading.none Listed.none }
