-- What a run did, and where it stood as it did so.
use Rattle.std.proofs.Common.{◌≡◌, List, [], ◌∷◌, ◌++◌, inl, inr, refl, sym, ◌∙◌, ap, subst}
use Rattle.mx_value.specs.declared.node.Node.{Node}
use Rattle.mx_edit.specs.declared.key.Key.{Key}
use Rattle.mx_edit.specs.declared.key.KeyResult.{KeyResult}
use Rattle.mx_edit.specs.declared.reply.Reply.{Reply}
use Rattle.mx_runs.specs.Lists.{Has}
use Rattle.mx_runs.specs.Runs.{Model, Run, Ends, Looks, Asks, Outcome, Gives, Event, Looked, Tested, Asked, Noted}
use Rattle.mx_runs.specs.Meaning.{Means, Leads}
use Rattle.mx_runs.specs.Chains.{asks_of, keys_of, DoesAsk, HasValue}
use Rattle.mx_runs.specs.Support.{LooksUp}
use Rattle.mx_runs.proofs.Lists.{has_right}
use Rattle.mx_runs.proofs.Levels.{leads_append, leads_split, ends_only}
use Rattle.mx_runs.proofs.Runs.{comparable}

-- the run stood where this event came next
pub record Stood (model : Model) (run : Run) (e : Event) : Type 0 where
  pub events : List Event
  pub at : Run
  pub leads : Leads model run events at
  pub next : Run
  pub by : Leads model at (e ∷ []) next

pub stood : (model : Model) (run rest : Run) (es : List Event) (e : Event) → Leads model run es rest → Has es e → Stood model run e
stood model run rest [] e l h = absurd h
stood model run rest (d ∷ es) e l h =
    let s = leads_split model run rest (d ∷ []) es l in
    elim h [
      | inl i ↦ record { events = []; at = run; leads = refl; next = s.mid; by = subst (λ z. Leads model run (z ∷ []) s.mid) i s.first }
      | inr r ↦
          let t = stood model s.mid rest es e s.second r in
          record { events = d ∷ t.events; at = t.at; leads = leads_append model run s.mid t.at (d ∷ []) t.events s.first t.leads; next = t.next; by = t.by }
    ]

looks_next : (model : Model) (run next : Run) (k : Key) → Leads model run (Looked k ∷ []) next → (go : KeyResult → Run) × (run ≡ Looks k go)
looks_next model (Looks key go) next k l = (go, ap (λ z. Looks z go) (sym l.0))
looks_next model run next k l = absurd l

asks_next : (model : Model) (run next : Run) (m : Node) (v : Reply) → Leads model run (Asked m v ∷ []) next → (go : Reply → Run) × (run ≡ Asks m go) × Means model m (Gives v)
asks_next model (Asks x go) next m v l = (go, ap (λ z. Asks z go) (sym l.0), subst (λ z. Means model z (Gives v)) (sym l.0) l.1)
asks_next model run next m v l = absurd l

pub has_looked : (es : List Event) (k : Key) → Has (keys_of es) k → Has es (Looked k)
has_looked [] k h = absurd h
has_looked (Looked x ∷ es) k h = elim h [ inl e ↦ inl (ap Looked e) | inr r ↦ inr (has_looked es k r) ]
has_looked (Tested x ∷ es) k h = inr (has_looked es k h)
has_looked (Asked m v ∷ es) k h = inr (has_looked es k h)
has_looked (Noted r ∷ es) k h = inr (has_looked es k h)

pub has_key : (es : List Event) (k : Key) → Has es (Looked k) → Has (keys_of es) k
has_key [] k h = absurd h
has_key (Looked x ∷ es) k h = elim h [ inl e ↦ inl (let i : Looked x ≡ Looked k = e in cc) | inr r ↦ inr (has_key es k r) ]
has_key (Tested x ∷ es) k h = elim h [ inl e ↦ absurd (let i : Tested x ≡ Looked k = e in cc) | inr r ↦ has_key es k r ]
has_key (Asked m v ∷ es) k h = elim h [ inl e ↦ absurd (let i : Asked m v ≡ Looked k = e in cc) | inr r ↦ has_key es k r ]
has_key (Noted x ∷ es) k h = elim h [ inl e ↦ absurd (let i : Noted x ≡ Looked k = e in cc) | inr r ↦ has_key es k r ]

-- m was asked, and gave this
pub record WasAsked (es : List Event) (m : Node) : Type 0 where
  pub reply : Reply
  pub among : Has es (Asked m reply)

pub has_asked : (es : List Event) (m : Node) → Has (asks_of es) m → WasAsked es m
has_asked [] m h = absurd h
has_asked (Looked x ∷ es) m h = let w = has_asked es m h in record { reply = w.reply; among = inr w.among }
has_asked (Tested x ∷ es) m h = let w = has_asked es m h in record { reply = w.reply; among = inr w.among }
has_asked (Asked x v ∷ es) m h =
    elim h [
      | inl e ↦ record { reply = v; among = inl (ap (λ z. Asked z v) e) }
      | inr r ↦ let w = has_asked es m r in record { reply = w.reply; among = inr w.among }
    ]
has_asked (Noted x ∷ es) m h = let w = has_asked es m h in record { reply = w.reply; among = inr w.among }

-- what a run of n looked up is a key of n, and what it asked n asks; it has a value
module _ (model : Model) (n : Node) (rest : Run) (es : List Event) (leads : Leads model (model.body n) es rest) where
  pub looked_is_look : (k : Key) → Has (keys_of es) k → LooksUp model n k
  looked_is_look k h =
      let s = stood model (model.body n) rest es (Looked k) leads (has_looked es k h) in
      let at = looks_next model s.at s.next k s.by in
      record { events = s.events; go = at.0; leads = subst (λ r. Leads model (model.body n) s.events r) at.1 s.leads }

  asked : (m : Node) → Has (asks_of es) m → DoesAsk model n m × HasValue model m
  asked m h =
      let w = has_asked es m h in
      let s = stood model (model.body n) rest es (Asked m w.reply) leads w.among in
      let at = asks_next model s.at s.next m w.reply s.by in
      (record { events = s.events; go = at.0; leads = subst (λ r. Leads model (model.body n) s.events r) at.1 s.leads }, record { reply = w.reply; means = at.2 })

  pub asked_is_ask : (m : Node) → Has (asks_of es) m → DoesAsk model n m
  asked_is_ask m h = (asked m h).0

  pub asked_has_value : (m : Node) → Has (asks_of es) m → HasValue model m
  asked_has_value m h = (asked m h).1

keys_append : (es fs : List Event) → keys_of (es ++ fs) ≡ keys_of es ++ keys_of fs
keys_append [] fs = refl
keys_append (Looked x ∷ es) fs = ap (λ xs. x ∷ xs) (keys_append es fs)
keys_append (Tested x ∷ es) fs = keys_append es fs
keys_append (Asked m v ∷ es) fs = keys_append es fs
keys_append (Noted r ∷ es) fs = keys_append es fs

next_look : (model : Model) (x : Key) (go : KeyResult → Run) (o : Outcome) (more : List Event) → Leads model (Looks x go) more (Ends o) → Has (keys_of more) x
next_look model x go o [] l = absurd (cc)
next_look model x go o (Looked y ∷ es) l = inl l.0
next_look model x go o (Tested y ∷ es) l = absurd l
next_look model x go o (Asked y v ∷ es) l = absurd l
next_look model x go o (Noted y ∷ es) l = absurd l

-- a run that ended has looked up all that it looks up
pub looked_by_end : (model : Model) (run : Run) (x : Key) (f : KeyResult → Run) (o : Outcome) (es fs : List Event) → Leads model run es (Looks x f) → Leads model run fs (Ends o) → Has (keys_of fs) x
looked_by_end model run x f o es fs a b =
    elim (comparable model run (Looks x f) (Ends o) es fs a b) [
      | inl g ↦ subst (λ xs. Has xs x) (sym (ap keys_of g.is ∙ keys_append es g.more)) (has_right (keys_of es) (keys_of g.more) x (next_look model x f o g.more g.leads))
      | inr g ↦ absurd (let e : Looks x f ≡ Ends o = (ends_only model o (Looks x f) g.more g.leads).1 in cc)
    ]
