-- The printed text of an address spells it again.
use Rattle.std.proofs.Common.{◌≡◌, ℕ, ◌+◌, List, [], ◌∷◌, ◌++◌, true, false, map, refl, sym, ap, ◌∙◌, subst, append_assoc, append-nil}
use Rattle.std.specs.List.{concat}
use Rattle.std.specs.Char.{is_ascii_digit}
use Rattle.std.proofs.lemmas.List.{map-append}
use Rattle.std.proofs.lemmas.List.Folds.{concat-append}
use Rattle.mx_lex.specs.Bytes.{continues_name, first_passes}
use Rattle.mx_lex.specs.Laws.{IsName}
use Rattle.mx_value.specs.declared.value.Value.{Value}
use Rattle.mx_value.specs.declared.value.Segment.{Segment, fold-roll-Segment}
use Rattle.mx_value.specs.declared.value.Segment.TheVariants as segment
use Rattle.mx_value.specs.declared.value.Segment.TheOpen.{Segment-F}
use Rattle.mx_print.specs.Texts.{Text, commas}
use Rattle.mx_print.specs.Values.{value_text, segment_text, segment_step, value_step, cells_step, after_dot, address_text}
use Rattle.mx_grammar.specs.declared.word.Word.{Word}
use Rattle.mx_grammar.specs.declared.word.Word.TheVariants as word
use Rattle.mx_grammar.specs.declared.word.Symbol.TheVariants as symbol
use Rattle.mx_grammar.specs.Grammar.{Spelling, Listed, Within}
use Rattle.mx_grammar.specs.Literals.{Literal, Index, Step, Leading, Addr, addr_text}
use Rattle.mx_round_trip.specs.ReadBack.{ReadsBack}
use Rattle.mx_round_trip.proofs.Numbers.{glues}
use Rattle.mx_grammar.specs.Spelling.{bracketed, unbracketed}
use Rattle.mx_round_trip.proofs.Counts.{closes, IsClosed, IsNoDeeper, behind_append, closed_append, no_deeper_both, no_deeper_front, same_depth}
use Rattle.mx_round_trip.proofs.Flat.{Flat, flat_both, flat_more}
use Rattle.mx_round_trip.proofs.Printed.{Again, AllAgain, starts, comma_closed}
use Rattle.mx_round_trip.proofs.Sources.{AreSaid, said_split}
use Rattle.mx_round_trip.proofs.Literals.{list_again, within_again}
use Rattle.mx_round_trip.proofs.ExpressionRules.{starts_first}
use Rattle.mx_round_trip.proofs.Names.{flat_name, name_begins, name_no_digit, flat_dot, flat_square}
use Rattle.mx_round_trip.proofs.Blocks.{passes_front}
use Rattle.mx_round_trip.proofs.Back.{reads_back}

-- ---- texts

pub name_text : (n : List ℕ) → segment_text (segment.Name n) ≡ 46 ∷ n
name_text n = ap segment_text (sym (segment.rolls-Name n)) ∙ fold-roll-Segment Text Text Text segment_step value_step cells_step (Segment-F.Name n)

item_text : (xs : List Value) → segment_text (segment.Item xs) ≡ 91 ∷ (commas (map value_text xs) ++ 93 ∷ [])
item_text xs = ap segment_text (sym (segment.rolls-Item xs)) ∙ fold-roll-Segment Text Text Text segment_step value_step cells_step (Segment-F.Item xs)

-- an address with a point before each name
abbrev pub dotted : List Segment → Text
dotted a = concat (map segment_text a)

pub dotted_both : (a b : List Segment) → dotted (a ++ b) ≡ dotted a ++ dotted b
dotted_both a b = ap concat (map-append segment_text a b) ∙ concat-append (map segment_text a) (map segment_text b)

-- an address begins with a name
pub record Begun (a : List Segment) (text : Text) : Type 0 where
  pub name : List ℕ
  pub more : List Segment
  pub named : IsName name
  pub is : a ≡ segment.Name name ∷ more
  pub says : text ≡ name ++ dotted more

begun_dotted : (a : List Segment) (text : Text) → Begun a text → dotted a ≡ 46 ∷ text
begun_dotted a text h = ap dotted h.is ∙ ap (λ (t : Text). t ++ dotted h.more) (name_text h.name) ∙ ap (λ (t : Text). 46 ∷ t) (sym h.says)

pub begun_text : (a : List Segment) (text : Text) → Begun a text → address_text a ≡ text
begun_text a text h = ap address_text h.is ∙ ap (λ (t : Text). after_dot t ++ dotted h.more) (name_text h.name) ∙ sym h.says

begun_both : (a b : List Segment) (s t : Text) → Begun a s → Begun b t → Begun (a ++ b) (s ++ 46 ∷ t)
begun_both a b s t g h = record {
  name = g.name;
  more = g.more ++ b;
  named = g.named;
  is = ap (λ (l : List Segment). l ++ b) g.is;
  says =
      ap (λ (l : Text). l ++ 46 ∷ t) g.says ∙ append_assoc g.name (dotted g.more) (46 ∷ t)
      ∙ ap (λ (l : Text). g.name ++ l) (ap (λ (l : Text). dotted g.more ++ l) (sym (begun_dotted b t h)) ∙ sym (dotted_both g.more b));
}

begun_no_digit : (a : List Segment) (text rest : Text) → Begun a text → first_passes is_ascii_digit (text ++ rest) ≡ false
begun_no_digit a text rest h =
    ap (λ (t : Text). first_passes is_ascii_digit (t ++ rest)) h.says ∙ ap (first_passes is_ascii_digit) (append_assoc h.name (dotted h.more) rest) ∙ name_no_digit h.name (dotted h.more ++ rest) h.named

-- ---- brackets

pub closed_square : (us : List Word) → IsClosed us → IsClosed (word.Symbol symbol.OpenSquare ∷ us ++ word.Symbol symbol.CloseSquare ∷ [])
closed_square us h = record { same = λ n. behind_append us (word.Symbol symbol.CloseSquare ∷ []) (bracketed n) ∙ ap unbracketed (h.same (bracketed n)) ∙ closes n }

pub no_deeper_square : (us ws : List Word) → IsClosed us → IsClosed ws → IsNoDeeper us ws → IsNoDeeper (word.Symbol symbol.OpenSquare ∷ us ++ word.Symbol symbol.CloseSquare ∷ []) (word.Symbol symbol.OpenSquare ∷ ws ++ word.Symbol symbol.CloseSquare ∷ [])
no_deeper_square us ws cu cw h = let inner = no_deeper_both cu cw h (same_depth (word.Symbol symbol.CloseSquare ∷ [])) in record { shallow = λ d n s. (s.0, inner.shallow d (bracketed n) s.1) }

-- a token that opens and closes nothing, before others
after_token : (w : Word) → IsClosed (w ∷ []) → (us ws : List Word) → IsNoDeeper us ws → IsNoDeeper (w ∷ us) (w ∷ ws)
after_token w closed us ws h = no_deeper_both closed closed (same_depth (w ∷ [])) h

module _ (In : Spelling Value) (inner : (u : List Word) (x : Value) → AreSaid u → In u x → Again glues In u x (value_text x)) where
  -- ---- arguments

  -- a list with at least one item, as it stands in brackets
  pub record SomeAgain (u : List Word) (xs : List Value) : Type 0 where
    pub words : List Word
    pub spelled : Listed In words xs
    pub flat : Flat glues (commas (map value_text xs)) words
    pub source_closed : IsClosed u
    pub closed : IsClosed words
    pub few : IsNoDeeper u words

  last_again : (u : List Word) (x : Value) (us : List Word) → IsClosed us → IsNoDeeper us u → Again glues In u x (value_text x) → SomeAgain us (x ∷ [])
  last_again u x us source less g = record {
    words = g.words;
    spelled = Listed.one g.spelled;
    flat = subst (λ t. Flat glues t g.words) (sym (append-nil (value_text x))) g.flat;
    source_closed = source;
    closed = g.closed;
    few = let few = g.few in record { shallow = λ d n s. few.shallow d n (less.shallow d n s) };
  }

  more_again : (u v : List Word) (x : Value) (xs : List Value) → Again glues In u x (value_text x) → AllAgain glues In value_text v xs → SomeAgain (u ++ word.Symbol symbol.Comma ∷ v) (x ∷ xs)
  more_again u v x [] g h = last_again u x (u ++ word.Symbol symbol.Comma ∷ v) (closed_append g.source_closed (closed_append comma_closed h.source_closed)) (no_deeper_front (word.Symbol symbol.Comma ∷ v) (same_depth u)) g
  more_again u v x (y ∷ ys) g h = record {
    words = g.words ++ word.Symbol symbol.Comma ∷ h.words;
    spelled = Listed.more g.spelled h.spelled;
    flat = flat_both g.flat h.flat (λ rest _. refl);
    source_closed = closed_append g.source_closed (closed_append comma_closed h.source_closed);
    closed = closed_append g.closed (closed_append comma_closed h.closed);
    few = no_deeper_both g.source_closed g.closed g.few (no_deeper_both comma_closed comma_closed (same_depth (word.Symbol symbol.Comma ∷ [])) h.few);
  }

  pub some_again : (u : List Word) (x : Value) (xs : List Value) → AreSaid u → Listed In u (x ∷ xs) → SomeAgain u (x ∷ xs)
  some_again _ _ _ said (Listed.one {u} {x} h) = let g = inner u x said h in last_again u x u g.source_closed (same_depth u) g
  some_again _ _ _ said (Listed.more {u} {v} {x} {xs} h k) =
      let parts = said_split u (word.Symbol symbol.Comma ∷ v) said in
      more_again u v x xs (inner u x parts.0 h) (list_again In inner v xs parts.1.1 k)

  -- ---- steps

  pub record Part (R : Spelling (List Segment)) (u : List Word) (s : List Segment) : Type 0 where
    pub text : Text
    pub begun : Begun s text
    pub again : Again continues_name R u s text

  pub child_part : (n : List ℕ) → IsName n → Part (Step In) (word.Name n ∷ []) (segment.Name n ∷ [])
  child_part n name = record {
    text = n;
    begun = record { name = n; more = []; named = name; is = refl; says = sym (append-nil n) };
    again = record {
      words = word.Name n ∷ [];
      spelled = Step.child;
      flat = flat_name n name;
      starts = starts_first n (name_begins n name);
      source_closed = record { same = λ m. refl };
      closed = record { same = λ m. refl };
      few = same_depth (word.Name n ∷ []);
    };
  }

  item_part : (n : List ℕ) (u : List Word) (x : Value) (xs : List Value) → IsName n → SomeAgain u (x ∷ xs) → Part (Step In) (word.Name n ∷ word.Symbol symbol.OpenSquare ∷ u ++ word.Symbol symbol.CloseSquare ∷ []) (segment.Name n ∷ segment.Item (x ∷ xs) ∷ [])
  item_part n u x xs name g =
      let item : Text = 91 ∷ commas (map value_text (x ∷ xs)) ++ 93 ∷ [] in
      let source : List Word = word.Symbol symbol.OpenSquare ∷ u ++ word.Symbol symbol.CloseSquare ∷ [] in
      let words : List Word = word.Symbol symbol.OpenSquare ∷ g.words ++ word.Symbol symbol.CloseSquare ∷ [] in
      let own : IsClosed (word.Name n ∷ []) = record { same = λ m. refl } in
      record {
        text = n ++ item;
        begun = record { name = n; more = segment.Item (x ∷ xs) ∷ []; named = name; is = refl; says = ap (λ (t : Text). n ++ t) (sym (item_text (x ∷ xs)) ∙ sym (append-nil (segment_text (segment.Item (x ∷ xs))))) };
        again = record {
          words = word.Name n ∷ words;
          spelled = Step.item (Index.index g.spelled);
          flat = flat_both (flat_name n name) (flat_more (flat_square g.flat refl) (λ b _. refl)) (λ rest _. refl);
          starts = passes_front starts n item (starts_first n (name_begins n name));
          source_closed = closed_append own (closed_square u g.source_closed);
          closed = closed_append own (closed_square g.words g.closed);
          few = after_token (word.Name n) own source words (no_deeper_square u g.words g.source_closed g.closed g.few);
        };
      }

  step_part : (u : List Word) (s : List Segment) → AreSaid u → Step In u s → Part (Step In) u s
  step_part _ _ said (Step.child {n}) = child_part n said.0
  step_part _ _ said (Step.item {n} {u} {xs} h) = go u xs said.1 h
    where
      go : (v : List Word) (ys : List Value) → AreSaid v → Index In v ys → Part (Step In) (word.Name n ∷ v) (segment.Name n ∷ segment.Item ys ∷ [])
      go _ _ are (Index.index {u = w} {x} {xs} k) = item_part n w x xs said.0 (some_again w x xs (said_split w (word.Symbol symbol.CloseSquare ∷ []) are.1).0 k)

  -- ---- addresses

  dot_closed : IsClosed (word.Symbol symbol.Dot ∷ [])
  dot_closed = record { same = λ n. refl }

  -- steps with points behind them, and a last one
  pub record Led (u : List Word) (a : List Segment) (v : List Word) (s : List Segment) : Type 0 where
    pub lead : List Word
    pub step : List Word
    pub led : Leading In lead a
    pub stepped : Step In step s
    pub text : Text
    pub begun : Begun (a ++ s) text
    pub flat : Flat continues_name text (lead ++ step)
    pub starts : first_passes starts text ≡ true
    pub source_closed : IsClosed (u ++ v)
    pub closed : IsClosed (lead ++ step)
    pub few : IsNoDeeper (u ++ v) (lead ++ step)

  led_last : (v : List Word) (s : List Segment) → Part (Step In) v s → Led [] [] v s
  led_last v s p =
      let g = p.again in
      record { lead = []; step = g.words; led = Leading.none; stepped = g.spelled; text = p.text; begun = p.begun; flat = g.flat; starts = g.starts; source_closed = g.source_closed; closed = g.closed; few = g.few }

  led_more : (u w : List Word) (s a : List Segment) (v : List Word) (z : List Segment) → Part (Step In) u s → Led w a v z → Led (u ++ word.Symbol symbol.Dot ∷ w) (s ++ a) v z
  led_more u w s a v z p r =
      let g = p.again in
      let dot : List Word = word.Symbol symbol.Dot ∷ [] in
      let words : (g.words ++ word.Symbol symbol.Dot ∷ r.lead) ++ r.step ≡ g.words ++ (word.Symbol symbol.Dot ∷ (r.lead ++ r.step)) = append_assoc g.words (word.Symbol symbol.Dot ∷ r.lead) r.step in
      let source : (u ++ word.Symbol symbol.Dot ∷ w) ++ v ≡ u ++ (word.Symbol symbol.Dot ∷ (w ++ v)) = append_assoc u (word.Symbol symbol.Dot ∷ w) v in
      let few : IsNoDeeper (u ++ (word.Symbol symbol.Dot ∷ (w ++ v))) (g.words ++ (word.Symbol symbol.Dot ∷ (r.lead ++ r.step))) = no_deeper_both g.source_closed g.closed g.few (no_deeper_both dot_closed dot_closed (same_depth dot) r.few) in
      record {
        lead = g.words ++ word.Symbol symbol.Dot ∷ r.lead;
        step = r.step;
        led = Leading.more g.spelled r.led;
        stepped = r.stepped;
        text = p.text ++ 46 ∷ r.text;
        begun = subst (λ (l : List Segment). Begun l (p.text ++ 46 ∷ r.text)) (sym (append_assoc s a z)) (begun_both s (a ++ z) p.text r.text p.begun r.begun);
        flat = subst (Flat continues_name (p.text ++ 46 ∷ r.text)) (sym words) (flat_both g.flat (flat_both flat_dot r.flat (λ rest _. begun_no_digit (a ++ z) r.text rest r.begun)) (λ rest _. refl));
        starts = passes_front starts p.text (46 ∷ r.text) g.starts;
        source_closed = subst IsClosed (sym source) (closed_append g.source_closed (closed_append dot_closed r.source_closed));
        closed = subst IsClosed (sym words) (closed_append g.closed (closed_append dot_closed r.closed));
        few = subst (λ l. IsNoDeeper l ((g.words ++ word.Symbol symbol.Dot ∷ r.lead) ++ r.step)) (sym source) (subst (IsNoDeeper (u ++ (word.Symbol symbol.Dot ∷ (w ++ v)))) (sym words) few);
      }

  pub led_all : (u : List Word) (a : List Segment) (v : List Word) (s : List Segment) → AreSaid u → Part (Step In) v s → Leading In u a → Led u a v s
  led_all _ _ v s said last Leading.none = led_last v s last
  led_all _ _ v s said last (Leading.more {u} {v = w} {s = t} {a} h k) =
      let parts = said_split u (word.Symbol symbol.Dot ∷ w) said in
      led_more u w t a v s (step_part u t parts.0 h) (led_all w a v s parts.1.1 last k)

  pub address_again : (u : List Word) (a : List Segment) → AreSaid u → Addr In u a → Again continues_name (Addr In) u a (address_text a)
  address_again _ _ said (Addr.addr {u} {v} {a} {s} h k) =
      let parts = said_split u v said in
      let r = led_all u a v s parts.0 (step_part v s parts.1 k) h in
      subst (Again continues_name (Addr In) (u ++ v) (a ++ s)) (sym (begun_text (a ++ s) r.text r.begun))
      (record { words = r.lead ++ r.step; spelled = Addr.addr r.led r.stepped; flat = r.flat; starts = r.starts; source_closed = r.source_closed; closed = r.closed; few = r.few })

pub address_back : (source : List ℕ) (a : List Segment) → ReadsBack addr_text source a (address_text a)
address_back = reads_back (λ levels. Addr (Within Literal (levels + 1))) continues_name address_text (λ levels. address_again (Within Literal (levels + 1)) (within_again (levels + 1)))
