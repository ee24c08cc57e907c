-- Where what supports a node leads to the same, the node means and does the same over both look-ups.
use Rattle.std.proofs.Common.{◌≡◌, ℕ, zero, suc, List, [], ◌∷◌, ◌++◌, ◌⊎◌, inl, inr, refl, sym, ◌∙◌, ap, subst}
use Rattle.std.proofs.lemmas.List.{append-nil}
use Rattle.mx_value.specs.declared.node.Node.{Node}
use Rattle.mx_edit.specs.declared.key.Key.{Key}
use Rattle.mx_edit.specs.declared.key.KeyResult.{KeyResult}
use Rattle.mx_edit.specs.declared.reply.Reply.{Reply}
use Rattle.mx_runs.specs.Runs.{Model, Outcome, Gives, Faults, NoSuch, WrongCount, NoLevel, Run, Ends, Looks, Tests, Asks, Notes, Event, Looked, Tested, Asked, Noted}
use Rattle.mx_runs.specs.Meaning.{ending, answered, level, IsReached, Means, Leads}
use Rattle.mx_runs.specs.Chains.{DoesAsk, Itself, Through}
use Rattle.mx_runs.specs.Support.{with_look, LooksUp, DoesTest, IsUnchanged, HasSameKeys, TestsAreCovered}
use Rattle.mx_runs.specs.Laws.{Agreement, KeysSupport, KeyAgreement}
use Rattle.mx_runs.proofs.Levels.{leads_append, leads_split, leads_once, ends_only}
use Rattle.mx_runs.proofs.Runs.{comparable}
use Rattle.mx_runs.proofs.Meanings.{Whole, whole_at}
use Rattle.mx_runs.proofs.Reach.{reach_on, reach_has_value}

answered_same : (o p : Outcome) (f g : Reply → Outcome) → IsReached (answered o f) → (IsReached o → p ≡ o) → ((v : Reply) → o ≡ Gives v → IsReached (f v) → g v ≡ f v) → answered p g ≡ answered o f
answered_same (Gives v) p f g r e h = ap (λ q. answered q g) (e tt) ∙ h v refl r
answered_same (Faults k n line) p f g r e h = ap (λ q. answered q g) (e tt)
answered_same NoSuch p f g r e h = ap (λ q. answered q g) (e tt)
answered_same WrongCount p f g r e h = ap (λ q. answered q g) (e tt)
answered_same NoLevel p f g r e h = absurd r

module _ (model : Model) (other : Key → KeyResult) where
  unchanged_ask : (n m : Node) → IsUnchanged model other n → DoesAsk model n m → IsUnchanged model other m
  unchanged_ask n m h a x s = h x (record { by = s.by; reaches = Through m a s.reaches; consults = s.consults })

  consulted_same : (n : Node) (key : Key) → IsUnchanged model other n → LooksUp model n key ⊎ DoesTest model n key → other key ≡ model.look key
  consulted_same n key h c = h key (record { by = n; reaches = Itself; consults = c })

  -- the run of n goes on from here
  on : (n : Node) (es : List Event) (e : Event) (run next : Run) → Leads model (model.body n) es run → Leads model run (e ∷ []) next → Leads model (model.body n) (es ++ e ∷ []) next
  on n es e run next l s = leads_append model (model.body n) run next es (e ∷ []) l s

  agree_ending : (k : ℕ) → ((m : Node) → IsUnchanged model other m → IsReached (level model k m) → level (with_look model other) k m ≡ level model k m) → (n : Node) → IsUnchanged model other n → (run : Run) (es : List Event) → Leads model (model.body n) es run → IsReached (ending model.look (level model k) run) → ending other (level (with_look model other) k) run ≡ ending model.look (level model k) run
  agree_ending k ih n h (Ends o) es l r = refl
  agree_ending k ih n h (Looks key go) es l r =
      let c : LooksUp model n key = record { events = es; go = go; leads = l } in
      ap (λ e. ending other (level (with_look model other) k) (go e)) (consulted_same n key h (inl c))
      ∙ agree_ending k ih n h (go (model.look key)) (es ++ Looked key ∷ []) (on n es (Looked key) (Looks key go) (go (model.look key)) l (refl, refl)) r
  agree_ending k ih n h (Tests key go) es l r =
      let c : DoesTest model n key = record { events = es; go = go; leads = l } in
      ap (λ e. ending other (level (with_look model other) k) (go e)) (consulted_same n key h (inr c))
      ∙ agree_ending k ih n h (go (model.look key)) (es ++ Tested key ∷ []) (on n es (Tested key) (Tests key go) (go (model.look key)) l (refl, refl)) r
  agree_ending k ih n h (Notes read run) es l r = agree_ending k ih n h run (es ++ Noted read ∷ []) (on n es (Noted read) (Notes read run) run l (refl, refl)) r
  agree_ending k ih n h (Asks m go) es l r =
      let a : DoesAsk model n m = record { events = es; go = go; leads = l } in
      answered_same (level model k m) (level (with_look model other) k m) (λ v. ending model.look (level model k) (go v)) (λ v. ending other (level (with_look model other) k) (go v)) r
      (ih m (unchanged_ask n m h a))
      (λ v e q. agree_ending k ih n h (go v) (es ++ Asked m v ∷ []) (on n es (Asked m v) (Asks m go) (go v) l (refl, record { at = k; gives = e; reached = tt }, refl)) q)

  agree_level : (k : ℕ) (n : Node) → IsUnchanged model other n → IsReached (level model k n) → level (with_look model other) k n ≡ level model k n
  agree_level zero n h r = absurd r
  agree_level (suc k) n h r = agree_ending k (agree_level k) n h (model.body n) [] refl r

  -- the same meaning
  pub agree_means : (n : Node) (o : Outcome) → IsUnchanged model other n → Means model n o → Means (with_look model other) n o
  agree_means n o h m = record { at = m.at; gives = agree_level m.at n h (subst IsReached (sym m.gives) m.reached) ∙ m.gives; reached = m.reached }

  agree_leads_on : (n : Node) → IsUnchanged model other n → (run rest : Run) (done es : List Event) → Leads model (model.body n) done run → Leads model run es rest → Leads (with_look model other) run es rest
  agree_leads_on n h run rest done [] d l = l
  agree_leads_on n h (Looks key go) rest done (Looked x ∷ es) d l =
      let c : LooksUp model n key = record { events = done; go = go; leads = d } in
      let more : Leads (with_look model other) (go (model.look key)) es rest = agree_leads_on n h (go (model.look key)) rest (done ++ Looked key ∷ []) es (on n done (Looked key) (Looks key go) (go (model.look key)) d (refl, refl)) l.1 in
      (l.0, subst (λ e. Leads (with_look model other) (go e) es rest) (sym (consulted_same n key h (inl c))) more)
  agree_leads_on n h (Tests key go) rest done (Tested x ∷ es) d l =
      let c : DoesTest model n key = record { events = done; go = go; leads = d } in
      let more : Leads (with_look model other) (go (model.look key)) es rest = agree_leads_on n h (go (model.look key)) rest (done ++ Tested key ∷ []) es (on n done (Tested key) (Tests key go) (go (model.look key)) d (refl, refl)) l.1 in
      (l.0, subst (λ e. Leads (with_look model other) (go e) es rest) (sym (consulted_same n key h (inr c))) more)
  agree_leads_on n h (Asks m go) rest done (Asked x v ∷ es) d l =
      let a : DoesAsk model n m = record { events = done; go = go; leads = d } in
      let more : Leads (with_look model other) (go v) es rest = agree_leads_on n h (go v) rest (done ++ Asked m v ∷ []) es (on n done (Asked m v) (Asks m go) (go v) d (refl, l.1, refl)) l.2 in
      (l.0, agree_means m (Gives v) (unchanged_ask n m h a) l.1, more)
  agree_leads_on n h (Notes read run) rest done (Noted x ∷ es) d l =
      (l.0, agree_leads_on n h run rest (done ++ Noted read ∷ []) es (on n done (Noted read) (Notes read run) run d (refl, refl)) l.1)
  agree_leads_on n h run rest done (e ∷ es) d l = absurd l

  -- the same events
  pub agree_leads : (n : Node) (rest : Run) (es : List Event) → IsUnchanged model other n → Leads model (model.body n) es rest → Leads (with_look model other) (model.body n) es rest
  agree_leads n rest es h l = agree_leads_on n h (model.body n) rest [] es refl l

  -- and none but these, where the run has an end
  agree_back : (n : Node) (v : Reply) → IsUnchanged model other n → Whole model (model.body n) v → (rest : Run) (es : List Event) → Leads (with_look model other) (model.body n) es rest → Leads model (model.body n) es rest
  agree_back n v h w rest es l =
      let d : Leads (with_look model other) (model.body n) w.events (Ends (Gives v)) = agree_leads n (Ends (Gives v)) w.events h w.leads in
      elim (comparable (with_look model other) (model.body n) rest (Ends (Gives v)) es w.events l d) [
        | inl g ↦
            let s = leads_split model (model.body n) (Ends (Gives v)) es g.more (subst (λ fs. Leads model (model.body n) fs (Ends (Gives v))) g.is w.leads) in
            subst (λ r. Leads model (model.body n) es r) (leads_once (with_look model other) (model.body n) s.mid rest es (agree_leads n s.mid es h s.first) l) s.first
        | inr g ↦
            let o = ends_only (with_look model other) (Gives v) rest g.more g.leads in
            let e : es ≡ w.events = let i : es ≡ w.events ++ g.more = g.is in i ∙ ap (λ z. w.events ++ z) o.0 ∙ append-nil w.events in
            subst (λ fs. Leads model (model.body n) fs rest) (sym e) (subst (λ r. Leads model (model.body n) w.events r) (sym o.1) w.leads)
      ]

pub agreement : Agreement
agreement model other n v m h = record {
  means = agree_means model other n (Gives v) h m;
  forth = λ rest es l. agree_leads model other n rest es h l;
  back = agree_back model other n v h (whole_at model n v m.at m.gives);
}

pub keys_support : KeysSupport
keys_support model n r key covered m s =
    elim s.consults [
      | inl l ↦ record { by = s.by; reaches = s.reaches; looks = l }
      | inr t ↦
          let h = reach_has_value model n s.by s.reaches (record { reply = r; means = m }) in
          let c = covered s.by h.reply key h.means t in
          record { by = c.asked; reaches = reach_on model n s.by c.asked s.reaches (Through c.asked c.asks Itself); looks = c.looks }
    ]

-- where the keys lead to the same, so does all that is consulted
pub keys_unchanged : (model : Model) (other : Key → KeyResult) (n : Node) (r : Reply) → TestsAreCovered model → Means model n (Gives r) → HasSameKeys model other n → IsUnchanged model other n
keys_unchanged model other n r covered m h key s = h key (keys_support model n r key covered m s)

pub key_agreement : KeyAgreement
key_agreement model other n r covered m h = agreement model other n r m (keys_unchanged model other n r covered m h)
