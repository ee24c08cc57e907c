-- The printed text of a node spells it again.
use Rattle.std.proofs.Common.{◌≡◌, ℕ, ◌+◌, List, [], ◌∷◌, ◌++◌, false, true, map, refl, sym, ap, ◌∙◌, subst, append_assoc, append-nil}
use Rattle.std.specs.Prelude.{codes}
use Rattle.std.proofs.lemmas.List.Sums.{AllPass-from_list_all}
use Rattle.mx_lex.specs.Bytes.{continues_name, first_passes}
use Rattle.mx_lex.specs.Spans.{is_keyword}
use Rattle.mx_lex.specs.Laws.{IsName}
use Rattle.mx_value.specs.declared.value.Value.{Value}
use Rattle.mx_value.specs.declared.value.Segment.{Segment}
use Rattle.mx_value.specs.declared.value.Segment.TheVariants as segment
use Rattle.mx_value.specs.declared.node.Node.{Node}
use Rattle.mx_value.specs.declared.node.Node.TheVariants as node
use Rattle.mx_print.specs.Texts.{Text, commas}
use Rattle.mx_print.specs.Values.{value_text, segment_text, after_dot, address_text}
use Rattle.mx_print.specs.Values as values
use Rattle.mx_grammar.specs.declared.word.Word.{Word}
use Rattle.mx_grammar.specs.declared.word.Word.TheVariants as word
use Rattle.mx_grammar.specs.declared.word.Symbol.TheVariants as symbol
use Rattle.mx_grammar.specs.Grammar.{Spelling, Listed, Within}
use Rattle.mx_grammar.specs.Literals.{Literal, Index, Step, Leading, NodeText, space_of, node_text}
use Rattle.mx_round_trip.specs.ReadBack.{ReadsBack}
use Rattle.mx_round_trip.proofs.Goes.{none}
use Rattle.mx_round_trip.proofs.Numbers.{glues}
use Rattle.mx_round_trip.proofs.Counts.{IsClosed, IsNoDeeper, closed_append, no_deeper_both, same_depth, closed_round, no_deeper_round}
use Rattle.mx_round_trip.proofs.Flat.{Flat, flat_both, flat_nothing, flat_round}
use Rattle.mx_round_trip.proofs.Names.{flat_square}
use Rattle.mx_round_trip.proofs.Printed.{Again, starts, none_closed}
use Rattle.mx_round_trip.proofs.Sources.{AreSaid, said_split}
use Rattle.mx_round_trip.proofs.Literals.{within_again}
use Rattle.mx_round_trip.proofs.Blocks.{passes_front}
use Rattle.mx_round_trip.proofs.Addresses.{name_text, dotted, dotted_both, Begun, begun_text, closed_square, no_deeper_square, SomeAgain, some_again, child_part, Led, led_all}
use Rattle.mx_round_trip.proofs.Back.{reads_back}

-- ---- addresses with a name behind them

-- an address that begins with a segment, a point and a name
address_name : (s : Segment) (a : List Segment) (n : List ℕ) (text : Text) → Begun (s ∷ (a ++ segment.Name n ∷ [])) text → address_text (s ∷ a) ++ 46 ∷ n ≡ text
address_name s a n text h =
    let is : s ∷ (a ++ segment.Name n ∷ []) ≡ segment.Name h.name ∷ h.more = h.is in
    let first : s ≡ segment.Name h.name = cc in
    let others : a ++ segment.Name n ∷ [] ≡ h.more = cc in
    let own : address_text (s ∷ a) ≡ h.name ++ dotted a = ap (λ (z : Segment). after_dot (segment_text z) ++ dotted a) first ∙ ap (λ (t : Text). after_dot t ++ dotted a) (name_text h.name) in
    let last : dotted (segment.Name n ∷ []) ≡ 46 ∷ n = ap (λ (t : Text). t ++ []) (name_text n) ∙ append-nil (46 ∷ n) in
    let all : dotted a ++ 46 ∷ n ≡ dotted h.more = ap (λ (t : Text). dotted a ++ t) (sym last) ∙ sym (dotted_both a (segment.Name n ∷ [])) ∙ ap dotted others in
    ap (λ (t : Text). t ++ 46 ∷ n) own ∙ append_assoc h.name (dotted a) (46 ∷ n) ∙ ap (λ (t : Text). h.name ++ t) all ∙ sym h.says

space_name : (a : List Segment) (n : List ℕ) (text : Text) → Begun (space_of a ++ segment.Name n ∷ []) text → address_text (space_of a) ++ 46 ∷ n ≡ text
space_name [] n text h = address_name (segment.Name (codes "Main")) [] n text h
space_name (s ∷ a) n text h = address_name s a n text h

space_twice : (a : List Segment) → space_of (space_of a) ≡ space_of a
space_twice [] = refl
space_twice (s ∷ a) = refl

main_name : IsName (codes "Main")
unfolding is_keyword
main_name = record { begins = refl; continues = AllPass-from_list_all continues_name (codes "Main") refl; free = refl }

module _ (In : Spelling Value) (inner : (u : List Word) (x : Value) → AreSaid u → In u x → Again glues In u x (value_text x)) where
  -- steps with points behind them, and a name
  record Named (n : List ℕ) (u : List Word) (a : List Segment) : Type 0 where
    lead : List Word
    led : Leading In lead a
    text : Text
    begun : Begun (a ++ segment.Name n ∷ []) text
    flat : Flat continues_name text (lead ++ word.Name n ∷ [])
    begins : first_passes starts text ≡ true
    source_closed : IsClosed (u ++ word.Name n ∷ [])
    closed : IsClosed (lead ++ word.Name n ∷ [])
    few : IsNoDeeper (u ++ word.Name n ∷ []) (lead ++ word.Name n ∷ [])

  child_is : (w : List Word) (s : List Segment) (n : List ℕ) → Step In w s → s ≡ segment.Name n ∷ [] → w ≡ word.Name n ∷ []
  child_is _ _ n (Step.child {n = m}) e = let same : m ≡ n = cc in ap (λ (k : List ℕ). word.Name k ∷ []) same
  child_is _ _ n (Step.item {n = m} {xs} h) e = absurd cc

  named : (n : List ℕ) (u : List Word) (a : List Segment) → IsName n → AreSaid u → Leading In u a → Named n u a
  named n u a name said h =
      let r : Led In inner u a (word.Name n ∷ []) (segment.Name n ∷ []) = led_all In inner u a (word.Name n ∷ []) (segment.Name n ∷ []) said (child_part In inner n name) h in
      let step : r.step ≡ word.Name n ∷ [] = child_is r.step (segment.Name n ∷ []) n r.stepped refl in
      record {
        lead = r.lead;
        led = r.led;
        text = r.text;
        begun = r.begun;
        flat = subst (λ w. Flat continues_name r.text (r.lead ++ w)) step r.flat;
        begins = r.starts;
        source_closed = r.source_closed;
        closed = subst (λ w. IsClosed (r.lead ++ w)) step r.closed;
        few = subst (λ w. IsNoDeeper (u ++ word.Name n ∷ []) (r.lead ++ w)) step r.few;
      }

  space_step : (u : List Word) (s a : List Segment) → Step In u s → s ++ a ≡ space_of (s ++ a)
  space_step _ _ a (Step.child {n}) = refl
  space_step _ _ a (Step.item {n} {xs} h) = refl

  -- the space `Main` is printed where the source names no space
  in_space : (n : List ℕ) (u : List Word) (a : List Segment) → IsName n → AreSaid u → Leading In u a → Named n u (space_of a)
  in_space n _ _ name said Leading.none =
      let main : List Word = word.Name (codes "Main") ∷ word.Symbol symbol.Dot ∷ [] in
      let r : Named n main (segment.Name (codes "Main") ∷ []) = named n main (segment.Name (codes "Main") ∷ []) name (main_name, (tt, tt)) (Leading.more Step.child Leading.none) in
      let few = r.few in
      record {
        lead = r.lead;
        led = r.led;
        text = r.text;
        begun = r.begun;
        flat = r.flat;
        begins = r.begins;
        source_closed = record { same = λ m. refl };
        closed = r.closed;
        few = record { shallow = λ d m s. few.shallow d m (s.0, (s.0, s)) };
      }
  in_space n _ _ name said (Leading.more {u} {v} {s} {a} h k) =
      subst (Named n (u ++ word.Symbol symbol.Dot ∷ v)) (space_step u s a h) (named n (u ++ word.Symbol symbol.Dot ∷ v) (s ++ a) name said (Leading.more h k))

  -- ---- what stands behind the name

  any_again : (u : List Word) (xs : List Value) → AreSaid u → Listed In u xs → SomeAgain In inner u xs
  any_again _ _ said Listed.none = record { words = []; spelled = Listed.none; flat = flat_nothing; source_closed = none_closed; closed = none_closed; few = same_depth [] }
  any_again _ _ said (Listed.one {u} {x} h) = some_again In inner u x [] said (Listed.one h)
  any_again _ _ said (Listed.more {u} {v} {x} {xs} h k) = some_again In inner (u ++ word.Symbol symbol.Comma ∷ v) x xs said (Listed.more h k)

  -- arguments in brackets of one kind
  record Behind (us ws : List Word) (tail : Text) : Type 0 where
    flat : Flat none tail ws
    leads : (rest : Text) → first_passes continues_name (tail ++ rest) ≡ false
    source_closed : IsClosed us
    closed : IsClosed ws
    few : IsNoDeeper us ws

  joined : (S : Spelling Node) (n : List ℕ) (u : List Word) (a : List Segment) (us ws : List Word) (tail : Text) (x : Node) (text : Text) (r : Named n u a) → Behind us ws tail → S (r.lead ++ (word.Name n ∷ ws)) x → text ≡ r.text ++ tail
      → Again none S (u ++ (word.Name n ∷ us)) x text
  joined S n u a us ws tail x text r b spelled e =
      let words : (r.lead ++ word.Name n ∷ []) ++ ws ≡ r.lead ++ (word.Name n ∷ ws) = append_assoc r.lead (word.Name n ∷ []) ws in
      let source : (u ++ word.Name n ∷ []) ++ us ≡ u ++ (word.Name n ∷ us) = append_assoc u (word.Name n ∷ []) us in
      let few : IsNoDeeper ((u ++ word.Name n ∷ []) ++ us) ((r.lead ++ word.Name n ∷ []) ++ ws) = no_deeper_both r.source_closed r.closed r.few b.few in
      subst (Again none S (u ++ (word.Name n ∷ us)) x) (sym e)
      (record {
        words = r.lead ++ (word.Name n ∷ ws);
        spelled = spelled;
        flat = subst (Flat none (r.text ++ tail)) words (flat_both r.flat b.flat (λ rest _. b.leads rest));
        starts = passes_front starts r.text tail r.begins;
        source_closed = subst IsClosed source (closed_append r.source_closed b.source_closed);
        closed = subst IsClosed words (closed_append r.closed b.closed);
        few = subst (λ l. IsNoDeeper l (r.lead ++ (word.Name n ∷ ws))) source (subst (IsNoDeeper ((u ++ word.Name n ∷ []) ++ us)) words few);
      })

  cell_again : (n : List ℕ) (u v : List Word) (a : List Segment) (xs : List Value) → IsName n → AreSaid u → AreSaid v → Leading In u a → Listed In v xs
      → Again none (NodeText In) (u ++ (word.Name n ∷ word.Symbol symbol.OpenRound ∷ v ++ word.Symbol symbol.CloseRound ∷ [])) (node.Cell (space_of a) n xs) (values.node_text (node.Cell (space_of a) n xs))
  cell_again n u v a xs name front behind h k =
      let r : Named n u (space_of a) = in_space n u a name front h in
      let g : SomeAgain In inner v xs = any_again v xs behind k in
      let tail : Text = 40 ∷ commas (map value_text xs) ++ 41 ∷ [] in
      let ws : List Word = word.Symbol symbol.OpenRound ∷ g.words ++ word.Symbol symbol.CloseRound ∷ [] in
      let spelled : NodeText In (r.lead ++ (word.Name n ∷ ws)) (node.Cell (space_of (space_of a)) n xs) = NodeText.cell {n = n} {u = r.lead} {v = g.words} r.led g.spelled in
      let text : values.node_text (node.Cell (space_of a) n xs) ≡ r.text ++ tail = sym (append_assoc (address_text (space_of a)) (46 ∷ n) tail) ∙ ap (λ (t : Text). t ++ tail) (space_name a n r.text r.begun) in
      joined (NodeText In) n u (space_of a) (word.Symbol symbol.OpenRound ∷ v ++ word.Symbol symbol.CloseRound ∷ []) ws tail (node.Cell (space_of a) n xs) (values.node_text (node.Cell (space_of a) n xs)) r
      (record { flat = flat_round g.flat refl; leads = λ rest. refl; source_closed = closed_round v g.source_closed; closed = closed_round g.words g.closed; few = no_deeper_round v g.words g.source_closed g.closed g.few })
      (subst (λ (at : List Segment). NodeText In (r.lead ++ (word.Name n ∷ ws)) (node.Cell at n xs)) (space_twice a) spelled) text

  item_again : (n : List ℕ) (u v : List Word) (a : List Segment) (x : Value) (xs : List Value) → IsName n → AreSaid u → AreSaid v → Leading In u a → Listed In v (x ∷ xs)
      → Again none (NodeText In) (u ++ (word.Name n ∷ word.Symbol symbol.OpenSquare ∷ v ++ word.Symbol symbol.CloseSquare ∷ [])) (node.Item (a ++ segment.Name n ∷ []) (x ∷ xs)) (values.node_text (node.Item (a ++ segment.Name n ∷ []) (x ∷ xs)))
  item_again n u v a x xs name front behind h k =
      let r : Named n u a = named n u a name front h in
      let g : SomeAgain In inner v (x ∷ xs) = some_again In inner v x xs behind k in
      let tail : Text = 91 ∷ commas (map value_text (x ∷ xs)) ++ 93 ∷ [] in
      let ws : List Word = word.Symbol symbol.OpenSquare ∷ g.words ++ word.Symbol symbol.CloseSquare ∷ [] in
      let text : values.node_text (node.Item (a ++ segment.Name n ∷ []) (x ∷ xs)) ≡ r.text ++ tail = ap (λ (t : Text). t ++ tail) (begun_text (a ++ segment.Name n ∷ []) r.text r.begun) in
      joined (NodeText In) n u a (word.Symbol symbol.OpenSquare ∷ v ++ word.Symbol symbol.CloseSquare ∷ []) ws tail (node.Item (a ++ segment.Name n ∷ []) (x ∷ xs)) (values.node_text (node.Item (a ++ segment.Name n ∷ []) (x ∷ xs))) r
      (record { flat = flat_square g.flat refl; leads = λ rest. refl; source_closed = closed_square v g.source_closed; closed = closed_square g.words g.closed; few = no_deeper_square v g.words g.source_closed g.closed g.few })
      (NodeText.item n {u = r.lead} {v = ws} r.led (Index.index g.spelled)) text

  node_again : (u : List Word) (x : Node) → AreSaid u → NodeText In u x → Again none (NodeText In) u x (values.node_text x)
  node_again _ _ said (NodeText.cell {n} {u} {v} {a} {xs} h k) =
      let parts = said_split u (word.Name n ∷ word.Symbol symbol.OpenRound ∷ v ++ word.Symbol symbol.CloseRound ∷ []) said in
      cell_again n u v a xs parts.1.0 parts.0 (said_split v (word.Symbol symbol.CloseRound ∷ []) parts.1.1.1).0 h k
  node_again _ _ said (NodeText.item n {u} {v} {a} {xs} h k) =
      let parts = said_split u (word.Name n ∷ v) said in
      at_index v xs parts.1.1 k
    where
      at_index : (w : List Word) (ys : List Value) → AreSaid w → Index In w ys → Again none (NodeText In) (u ++ (word.Name n ∷ w)) (node.Item (a ++ segment.Name n ∷ []) ys) (values.node_text (node.Item (a ++ segment.Name n ∷ []) ys))
      at_index _ _ are (Index.index {u = w} {x} {xs = ys} i) =
          let parts = said_split u (word.Name n ∷ v) said in
          item_again n u w a x ys parts.1.0 parts.0 (said_split w (word.Symbol symbol.CloseSquare ∷ []) are.1).0 h i

pub node_back : (source : List ℕ) (x : Node) → ReadsBack node_text source x (values.node_text x)
node_back = reads_back (λ levels. NodeText (Within Literal (levels + 1))) none values.node_text (λ levels. node_again (Within Literal (levels + 1)) (within_again (levels + 1)))
