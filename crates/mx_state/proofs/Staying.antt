-- A held node that an edit keeps stays in bound form.
use Rattle.std.proofs.Common.{◌≡◌, false, List, [], ◌∷◌, ◌++◌, inl, inr, sym, ap, subst}
use Rattle.mx_value.specs.declared.node.Node.{Node}
use Rattle.mx_edit.specs.declared.key.Key.{Key}
use Rattle.mx_edit.specs.declared.key.KeyResult.{KeyResult}
use Rattle.mx_edit.specs.declared.reply.Reply.{Reply}
use Rattle.mx_runs.specs.Lists.{Has}
use Rattle.mx_runs.specs.Runs.{Model, Run, Looks, Tests, Asks, Notes, Gives, Event, Looked, Tested, Asked, Noted}
use Rattle.mx_runs.specs.Inputs.{is_input}
use Rattle.mx_runs.specs.Meaning.{Means, Leads}
use Rattle.mx_runs.specs.Chains.{DoesAsk, Itself, Through}
use Rattle.mx_runs.specs.Support.{with_look, LooksUp, DoesTest, IsUnchanged}
use Rattle.mx_runs.proofs.Lists.{has_right, has_push_cases}
use Rattle.mx_runs.proofs.Events.{stood}
use Rattle.mx_runs.proofs.Agreement.{agree_means}
use Rattle.mx_meaning.specs.Binding.{binding}
use Rattle.mx_meaning.specs.Laws.{model_of, BindsTo}
use Rattle.mx_state.proofs.Bound.{bound_as}

module _ (model : Model) (other : Key → KeyResult) where
  -- the same events over the other look-up, where it leads to the same for each of them
  pub record AreSame (es : List Event) : Type 0 where
    pub looked : (k : Key) → Has es (Looked k) → other k ≡ model.look k
    pub tested : (k : Key) → Has es (Tested k) → other k ≡ model.look k
    pub asked : (m : Node) (r : Reply) → Has es (Asked m r) → Means (with_look model other) m (Gives r)

  later : (e : Event) (es : List Event) → AreSame (e ∷ es) → AreSame es
  later e es s = record { looked = λ k h. s.looked k (inr h); tested = λ k h. s.tested k (inr h); asked = λ m r h. s.asked m r (inr h) }

  pub same_leads : (run rest : Run) (es : List Event) → AreSame es → Leads model run es rest → Leads (with_look model other) run es rest
  same_leads run rest [] s l = l
  same_leads (Looks key go) rest (Looked x ∷ es) s l =
      let more : Leads (with_look model other) (go (model.look key)) es rest = same_leads (go (model.look key)) rest es (later (Looked x) es s) l.1 in
      (l.0, subst (λ r. Leads (with_look model other) (go r) es rest) (sym (s.looked key (inl (ap Looked l.0)))) more)
  same_leads (Tests key go) rest (Tested x ∷ es) s l =
      let more : Leads (with_look model other) (go (model.look key)) es rest = same_leads (go (model.look key)) rest es (later (Tested x) es s) l.1 in
      (l.0, subst (λ r. Leads (with_look model other) (go r) es rest) (sym (s.tested key (inl (ap Tested l.0)))) more)
  same_leads (Asks m go) rest (Asked x v ∷ es) s l = (l.0, s.asked m v (inl (ap (λ y. Asked y v) l.0)), same_leads (go v) rest es (later (Asked x v) es s) l.2)
  same_leads (Notes read run) rest (Noted x ∷ es) s l = (l.0, same_leads run rest es (later (Noted x) es s) l.1)
  same_leads run rest (e ∷ es) s l = absurd l

  tests_next : (run next : Run) (k : Key) → Leads model run (Tested k ∷ []) next → (go : KeyResult → Run) × (run ≡ Tests k go)
  tests_next (Tests key go) next k l = (go, ap (λ z. Tests z go) (sym l.0))
  tests_next run next k l = absurd l

  looks_next : (run next : Run) (k : Key) → Leads model run (Looked k ∷ []) next → (go : KeyResult → Run) × (run ≡ Looks k go)
  looks_next (Looks key go) next k l = (go, ap (λ z. Looks z go) (sym l.0))
  looks_next run next k l = absurd l

  asks_next : (run next : Run) (m : Node) (v : Reply) → Leads model run (Asked m v ∷ []) next → (go : Reply → Run) × (run ≡ Asks m go) × Means model m (Gives v)
  asks_next (Asks x go) next m v l = (go, ap (λ z. Asks z go) (sym l.0), subst (λ z. Means model z (Gives v)) (sym l.0) l.1)
  asks_next run next m v l = absurd l

  -- what a node with the same support did is the same
  pub done_same : (n : Node) (rest : Run) (es : List Event) → IsUnchanged model other n → Leads model (model.body n) es rest → AreSame es
  done_same n rest es u l = record {
    looked = λ k h.
        let s = stood model (model.body n) rest es (Looked k) l h in
        let g = looks_next s.at s.next k s.by in
        let c : LooksUp model n k = record { events = s.events; go = g.0; leads = subst (λ r. Leads model (model.body n) s.events r) g.1 s.leads } in
        u k (record { by = n; reaches = Itself; consults = inl c });
    tested = λ k h.
        let s = stood model (model.body n) rest es (Tested k) l h in
        let g = tests_next s.at s.next k s.by in
        let c : DoesTest model n k = record { events = s.events; go = g.0; leads = subst (λ r. Leads model (model.body n) s.events r) g.1 s.leads } in
        u k (record { by = n; reaches = Itself; consults = inr c });
    asked = λ m r h.
        let s = stood model (model.body n) rest es (Asked m r) l h in
        let g = asks_next s.at s.next m r s.by in
        let a : DoesAsk model n m = record { events = s.events; go = g.0; leads = subst (λ q. Leads model (model.body n) s.events q) g.1 s.leads } in
        agree_means model other m (Gives r) (λ x p. u x (record { by = p.by; reaches = Through m a p.reaches; consults = p.consults })) g.2;
  }

  pub with_test : (es : List Event) (k : Key) → AreSame es → other k ≡ model.look k → AreSame (es ++ Tested k ∷ [])
  with_test es k s e = record {
    looked = λ x h. elim (has_push_cases es (Tested k) (Looked x) h) [ inl a ↦ s.looked x a | inr a ↦ absurd (let i : Tested k ≡ Looked x = a in cc) ];
    tested = λ x h. elim (has_push_cases es (Tested k) (Tested x) h) [ inl a ↦ s.tested x a | inr a ↦ subst (λ y. other y ≡ model.look y) (let i : Tested k ≡ Tested x = a in let j : k ≡ x = cc in j) e ];
    asked = λ m r h. elim (has_push_cases es (Tested k) (Asked m r) h) [ inl a ↦ s.asked m r a | inr a ↦ absurd (let i : Tested k ≡ Asked m r = a in cc) ];
  }

  pub from_right : (es fs : List Event) → AreSame (es ++ fs) → AreSame fs
  from_right es fs s = record { looked = λ k h. s.looked k (has_right es fs (Looked k) h); tested = λ k h. s.tested k (has_right es fs (Tested k) h); asked = λ m r h. s.asked m r (has_right es fs (Asked m r) h) }

-- a node that binds, and is no input, binds to the same where what supports it leads to the same
pub binds_still : (look other : Key → KeyResult) (n b : Node) → IsUnchanged (model_of look) other n → is_input (model_of look) n ≡ false → BindsTo (model_of look) n b → BindsTo (model_of other) n b
binds_still look other n b u i t =
    let a = bound_as look n b t in
    let l = a.looks i in
    let before : AreSame (model_of look) other a.before = from_right (model_of look) other l.0 a.before (done_same (model_of look) other n (Looks a.key l.1) (l.0 ++ a.before) u l.2) in
    let last : other a.key ≡ look a.key = u a.key (record { by = n; reaches = Itself; consults = inl (record { events = l.0 ++ a.before; go = l.1; leads = l.2 }) }) in
    record {
      events = a.before ++ Tested a.key ∷ [];
      leads = λ go. same_leads (model_of look) other (binding n go) (go b) (a.before ++ Tested a.key ∷ []) (with_test (model_of look) other a.before a.key before last) (a.binds go);
    }
