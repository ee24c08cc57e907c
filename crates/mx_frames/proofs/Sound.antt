-- What is told of the memo and of the frames as runs begin, wait and end.
use Rattle.std.proofs.Common.{ℕ, ◌≤◌, Bool, true, false, ◌≡◌, ◌&&◌, if◌then◌else◌, List, [], ◌∷◌, ◌++◌, ◌⊎◌, inl, inr, refl, sym, ◌∙◌, ap, subst}
use Rattle.mx_value.specs.declared.label.Label.{Label}
use Rattle.mx_value.specs.declared.value.Value.{Value}
use Rattle.mx_value.specs.declared.value.Segment.{Segment, out-Segment}
use Rattle.mx_value.specs.declared.node.Node.{Node}
use Rattle.mx_value.specs.declared.node.Node.TheVariants.{Cell, Item}
use Rattle.mx_edit.specs.declared.key.Key.{Key}
use Rattle.mx_edit.specs.declared.key.Key.TheVariants.{Input}
use Rattle.mx_edit.specs.declared.key.KeyResult.{KeyResult}
use Rattle.mx_edit.specs.Entry.{Entry}
use Rattle.mx_vertices.specs.Inputs.{has_no_item}
use Rattle.mx_runs.specs.Lists.{Has, Distinct}
use Rattle.mx_runs.specs.Inputs as runs
use Rattle.mx_runs.specs.Runs.{Model, Run, Ends, Looks, Tests, Asks, Notes}
use Rattle.mx_meaning.specs.Nodes.{body, cells_run, input_or}
use Rattle.mx_meaning.specs.Laws.{model_of}
use Rattle.mx_suspended.specs.Recorded.{Recorded, Adds, GoesPast, Stays, PastLook, PastTest, PastNote, PastHeld, PastInput, nothing}
use Rattle.mx_code_law.specs.States.{State}
use Rattle.mx_read_set.specs.Seen.{Seen, nothing_seen}
use Rattle.mx_interpreter.specs.Runs.{recorded}
use Rattle.mx_node_runs.specs.Halts.{HaltsAs, HaltsAt}
use Rattle.mx_node_runs.specs.declared.halt.Halt.{Halt}
use Rattle.mx_node_runs.specs.declared.halt.Halt.TheVariants as halt
use Rattle.mx_memo_laws.specs.Entries.{own_keys}
use Rattle.mx_graph.specs.declared.ids.NodeId.{NodeId}
use Rattle.mx_vertices.specs.Found.{IsNew}
use Rattle.mx_vertices.specs.Kept.{Kept}
use Rattle.mx_vertices.specs.Places as places
use Rattle.mx_memo.specs.Memos.{Memory, AreHeld}
use Rattle.mx_memo.specs.Order.{StampsRise}
use Rattle.mx_memo.specs.Restoring.{AreApart, AskBefore}
use Rattle.mx_memo_laws.specs.Entries.{IsOrdered}
use Rattle.mx_memo_laws.specs.Laws.{HeldOnce}
use Rattle.mx_memo_laws.proofs.Members.{placed}
use Rattle.mx_frames.specs.declared.current.Running.{Running}
use Rattle.mx_frames.proofs.Passes.{grows}
use Rattle.mx_frames.specs.Flights.{IsSound, IsSoundWith, frame_nodes}
use Rattle.mx_frames.specs.declared.runs.Frame.{Frame}
use Rattle.mx_lookup.specs.Endings.{ending_of}
use Rattle.mx_binding.specs.Records.{HasOwnKey}
use Rattle.mx_frames.proofs.Flown.{in_front, at_end}

-- ---- the key of the node's own input is the first

-- a key was added, and then more
record KeyNext (k : Key) (so_far last : Recorded) : Type 0 where
  keys : List Key
  adds : Adds so_far.keys k keys
  more : List Key
  is : last.keys ≡ keys ++ more

-- a run that begins with a look stays there, or the key is recorded next
abbrev LooksFirst : Run → Recorded → Run → Recorded → Type 0
LooksFirst (Looks k go) so_far rest last = (rest ≡ Looks k go) ⊎ KeyNext k so_far last
LooksFirst (Ends o) so_far rest last = Unit {0}
LooksFirst (Tests k go) so_far rest last = Unit {0}
LooksFirst (Asks m go) so_far rest last = Unit {0}
LooksFirst (Notes r run) so_far rest last = Unit {0}

stays_first : (run : Run) (olds : Recorded) → LooksFirst run olds run olds
stays_first (Looks k go) olds = inl refl
stays_first (Ends o) olds = tt
stays_first (Tests k go) olds = tt
stays_first (Asks m go) olds = tt
stays_first (Notes r run) olds = tt

looks_first : (model : Model) (held : List Entry) (run rest : Run) (so_far last : Recorded) → GoesPast model held run so_far rest last → LooksFirst run so_far rest last
looks_first model held run rest so_far last (Stays at olds) = stays_first at olds
looks_first model held run rest so_far last (PastLook key go to olds news keys a more) =
    let g = grows model held (go (model.look key)) to (record olds { keys = keys }) news more in inr (record { keys = keys; adds = a; more = g.more; is = g.is })
looks_first model held run rest so_far last (PastTest key go to olds news more) = tt
looks_first model held run rest so_far last (PastNote noted next to olds news reads a more) = tt
looks_first model held run rest so_far last (PastHeld e go to olds news asks reads h a b more) = tt
looks_first model held run rest so_far last (PastInput m value go to olds news keys reads i look a b more) = tt

-- the key is the first of these
record HasFirst (k : Key) (keys : List Key) : Type 0 where
  more : List Key
  is : keys ≡ (k ∷ []) ++ more

-- an address without items is told by one recursion or the other
pub same_static : (at : List Segment) → has_no_item at ≡ runs.is_static at
same_static [] = refl
same_static (s ∷ at) = ap (λ (b : Bool). runs.is_name (out-Segment s) && b) (same_static at)

-- where a run halts it is at its end or at an ask, and at no look
no_look : (n : Node) (rest : Run) (h : Halt) (s : State) (k : Key) (go : KeyResult → Run) → HaltsAs n rest h s → rest ≡ Looks k go → ⊥
no_look n rest (halt.Ends e) s k go h q = let p : Ends (ending_of n e) ≡ Looks k go = sym h ∙ q in cc
no_look n rest (halt.Asks m w) s k go h q = let p : Asks m h.0 ≡ Looks k go = sym h.1 ∙ q in cc

module _ (look : Key → KeyResult) (n : Node) (seen : Seen) (h : Halt) (s : State) (halts : HaltsAt (model_of look) n (body n) nothing_seen seen h s) where
  first_by : (k : Key) (go : KeyResult → Run) → body n ≡ Looks k go → HasFirst k seen.keys
  first_by k go e =
      let p : GoesPast (model_of look) [] (Looks k go) nothing halts.rest (recorded seen []) = subst (λ (x : Run). GoesPast (model_of look) [] x nothing halts.rest (recorded seen [])) e (halts.past [] []) in
      elim (looks_first (model_of look) [] (Looks k go) halts.rest nothing (recorded seen []) p) [
        | inl q ↦ absurd (no_look n halts.rest h s k go halts.halts q)
        | inr a ↦ elim a.adds [ inl z ↦ absurd z.0 | inr z ↦ record { more = a.more; is = a.is ∙ ap (λ (ks : List Key). ks ++ a.more) z.1 } ]
      ]

  own_by : (at : List Segment) (name : Label) (args : List Value) → n ≡ Cell at name args → (b : Bool) → has_no_item at ≡ b → HasOwnKey n seen.keys
  own_by at name args e true q =
      let b : body n ≡ Looks (Input (Cell at name args)) (input_or (cells_run (Cell at name args) at name args)) =
      ap body e ∙ ap (λ (t : Bool). if t then Looks (Input (Cell at name args)) (input_or (cells_run (Cell at name args) at name args)) else cells_run (Cell at name args) at name args) (sym (same_static at) ∙ q) in
      let f : HasFirst (Input (Cell at name args)) seen.keys = first_by (Input (Cell at name args)) _ b in
      record { more = f.more; is = f.is ∙ ap (λ (ks : List Key). ks ++ f.more) (sym (ap own_keys e ∙ ap (λ (t : Bool). if t then Input (Cell at name args) ∷ [] else []) q)) }
  own_by at name args e false q = record { more = seen.keys; is = ap (λ (ks : List Key). ks ++ seen.keys) (sym (ap own_keys e ∙ ap (λ (t : Bool). if t then Input (Cell at name args) ∷ [] else []) q)) }

  by_node : (m : Node) → n ≡ m → HasOwnKey n seen.keys
  by_node (Cell at name args) e = own_by at name args e (has_no_item at) refl
  by_node (Item at args) e = record { more = seen.keys; is = ap (λ (ks : List Key). ks ++ seen.keys) (sym (ap own_keys e)) }

  pub own_first : HasOwnKey n seen.keys
  own_first = by_node n refl

-- ---- nodes in flight

last_or : (xs : List Node) (x y : Node) → Has (xs ++ x ∷ []) y → Has xs y ⊎ (y ≡ x)
last_or [] x y h = elim h [ inl e ↦ inr (sym e) | inr i ↦ absurd i ]
last_or (z ∷ xs) x y h = elim h [ inl e ↦ inl (inl e) | inr i ↦ elim (last_or xs x y i) [ inl j ↦ inl (inr j) | inr j ↦ inr j ] ]

pub distinct_pushed : (xs : List Node) (x : Node) → Distinct xs → (Has xs x → ⊥) → Distinct (xs ++ x ∷ [])
distinct_pushed [] x d n = ((λ h. h), tt)
distinct_pushed (y ∷ xs) x d n = ((λ h. elim (last_or xs x y h) [ inl i ↦ d.0 i | inr e ↦ n (inl e) ]), distinct_pushed xs x d.1 (λ h. n (inr h)))

pub distinct_front : (xs : List Node) (x : Node) → Distinct (xs ++ x ∷ []) → Distinct xs
distinct_front [] x d = tt
distinct_front (y ∷ xs) x d = ((λ h. d.0 (in_front xs (x ∷ []) y h)), distinct_front xs x d.1)

pub distinct_last : (xs : List Node) (x : Node) → Distinct (xs ++ x ∷ []) → Has xs x → ⊥
distinct_last [] x d h = h
distinct_last (y ∷ xs) x d h = elim h [ inl e ↦ d.0 (subst (λ (z : Node). Has (xs ++ x ∷ []) z) (sym e) (at_end xs x)) | inr i ↦ distinct_last xs x d.1 i ]

-- ---- the memo and the frames

-- order is of what is held and of the last stamp alone
pub order_same : (old new : Memory) → IsOrdered old → new.held ≡ old.held → new.last ≡ old.last → IsOrdered new
order_same old new o h l = record {
  stands = record {
    apart = subst (λ (ks : List Kept). AreApart ks) (sym h) o.stands.apart;
    rising = subst (λ (ks : List Kept). StampsRise 0 ks) (sym h) o.stands.rising;
    given = λ r i. subst (λ (n : ℕ). r.stamp ≤ n) (sym l) (o.stands.given r (subst (λ (ks : List Kept). places.Has ks r) h i));
  };
  asks = subst (λ (ks : List Kept). AskBefore [] ks) (sym h) o.asks;
}

held_same : (old new : List Kept) (ids : List NodeId) → new ≡ old → AreHeld old ids → AreHeld new ids
held_same old new ids h a = subst (λ (ks : List Kept). AreHeld ks ids) (sym h) a

-- a run begins on top of the others
pub begun_sound : (m after : Memory) (frames : List Frame) (n : Node) (r : Running) → after ≡ record m { begun = m.begun ++ n ∷ [] } → IsSound m frames (frame_nodes frames) → IsNew m.held n → (places.Has m.begun n → ⊥)
    → r.current.node ≡ n → r.current.records.asks ≡ [] → IsSoundWith after frames r
begun_sound m after frames n r e s new apart en ea =
    let h : after.held ≡ m.held = ap (λ (x : Memory). x.held) e in
    let b : after.begun ≡ frame_nodes frames ++ n ∷ [] = ap (λ (x : Memory). x.begun) e ∙ ap (λ (ns : List Node). ns ++ n ∷ []) s.begun in
    let off : Has (frame_nodes frames) n → ⊥ = λ i. apart (placed m.begun n (subst (λ (ns : List Node). Has ns n) (sym s.begun) i)) in
    let on : IsSound after frames (frame_nodes frames ++ n ∷ []) = record {
      ordered = order_same m after s.ordered h (ap (λ (x : Memory). x.last) e);
      held_once = subst (λ (ks : List Kept). HeldOnce ks) (sym h) s.held_once;
      begun = b;
      once = distinct_pushed (frame_nodes frames) n s.once off;
      new = λ x i. subst (λ (ks : List Kept). IsNew ks x) (sym h) (elim (last_or (frame_nodes frames) n x i) [ inl j ↦ s.new x j | inr q ↦ subst (λ (y : Node). IsNew m.held y) (sym q) new ]);
      asks = λ w i. held_same m.held after.held w.current.records.asks h (s.asks w i);
    } in
    record {
      sound = subst (λ (x : Node). IsSound after frames (frame_nodes frames ++ x ∷ [])) (sym en) on;
      asks = subst (λ (ids : List NodeId). AreHeld after.held ids) (sym ea) (λ id i. absurd i);
    }
