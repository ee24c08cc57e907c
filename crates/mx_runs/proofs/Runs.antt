-- Two ways into one run: one of them goes on to the other.
use Rattle.std.proofs.Common.{◌≡◌, List, [], ◌∷◌, ◌++◌, ◌⊎◌, inl, inr, refl, sym, ◌∙◌, ap, subst}
use Rattle.mx_value.specs.declared.node.Node.{Node}
use Rattle.mx_edit.specs.declared.reply.Reply.{Reply}
use Rattle.mx_runs.specs.Lists.{Has}
use Rattle.mx_runs.specs.Runs.{Model, Event, Looked, Tested, Asked, Noted, Tests, Outcome, Run, Ends, Looks, Asks, Notes}
use Rattle.mx_runs.specs.Meaning.{Leads}
use Rattle.std.proofs.lemmas.List.{append-nil}
use Rattle.mx_runs.proofs.Lists.{has_right}
use Rattle.mx_runs.proofs.Levels.{same_value, ends_only}
use Rattle.mx_runs.specs.Chains.{asks_of, HasValue}

pub record GoesOn (model : Model) (rest : Run) (es fs : List Event) (other : Run) : Type 0 where
  pub more : List Event
  pub is : fs ≡ es ++ more
  pub leads : Leads model rest more other

longer : (model : Model) (rest other : Run) (e f : Event) (es fs : List Event) → e ≡ f → GoesOn model rest es fs other → GoesOn model rest (e ∷ es) (f ∷ fs) other
longer model rest other e f es fs h g = let i : fs ≡ es ++ g.more = g.is in record { more = g.more; is = cc; leads = g.leads }

both_longer : (model : Model) (p q : Run) (e f : Event) (es fs : List Event) → e ≡ f → GoesOn model p es fs q ⊎ GoesOn model q fs es p → GoesOn model p (e ∷ es) (f ∷ fs) q ⊎ GoesOn model q (f ∷ fs) (e ∷ es) p
both_longer model p q e f es fs h c = elim c [ inl a ↦ inl (longer model p q e f es fs h a) | inr b ↦ inr (longer model q p f e fs es (sym h) b) ]

pub comparable : (model : Model) (run p q : Run) (es fs : List Event) → Leads model run es p → Leads model run fs q → GoesOn model p es fs q ⊎ GoesOn model q fs es p
comparable model run p q [] fs a b = inl (record { more = fs; is = refl; leads = subst (λ r. Leads model r fs q) a b })
comparable model run p q (e ∷ es) [] a b = inr (record { more = e ∷ es; is = refl; leads = subst (λ r. Leads model r (e ∷ es) p) b a })
comparable model (Looks key go) p q (Looked x ∷ es) (Looked y ∷ fs) a b =
    both_longer model p q (Looked x) (Looked y) es fs (ap Looked (a.0 ∙ sym b.0)) (comparable model (go (model.look key)) p q es fs a.1 b.1)
comparable model (Tests key go) p q (Tested x ∷ es) (Tested y ∷ fs) a b =
    both_longer model p q (Tested x) (Tested y) es fs (ap Tested (a.0 ∙ sym b.0)) (comparable model (go (model.look key)) p q es fs a.1 b.1)
comparable model (Asks m go) p q (Asked x v ∷ es) (Asked y w ∷ fs) a b =
    let h : v ≡ w = same_value model m v w a.1 b.1 in
    let i : x ≡ m = a.0 in
    let j : y ≡ m = b.0 in
    let k : Asked x v ≡ Asked y w = cc in
    both_longer model p q (Asked x v) (Asked y w) es fs k (comparable model (go v) p q es fs a.2 (subst (λ z. Leads model (go z) fs q) (sym h) b.2))
comparable model (Notes read run) p q (Noted x ∷ es) (Noted y ∷ fs) a b =
    both_longer model p q (Noted x) (Noted y) es fs (ap Noted (a.0 ∙ sym b.0)) (comparable model run p q es fs a.1 b.1)
comparable model (Looks key go) p q (Looked x ∷ es) (Tested y ∷ fs) a b = absurd b
comparable model (Looks key go) p q (Looked x ∷ es) (Asked y w ∷ fs) a b = absurd b
comparable model (Looks key go) p q (Looked x ∷ es) (Noted y ∷ fs) a b = absurd b
comparable model (Tests key go) p q (Tested x ∷ es) (Looked y ∷ fs) a b = absurd b
comparable model (Tests key go) p q (Tested x ∷ es) (Asked y w ∷ fs) a b = absurd b
comparable model (Tests key go) p q (Tested x ∷ es) (Noted y ∷ fs) a b = absurd b
comparable model (Asks m go) p q (Asked x v ∷ es) (Looked y ∷ fs) a b = absurd b
comparable model (Asks m go) p q (Asked x v ∷ es) (Tested y ∷ fs) a b = absurd b
comparable model (Asks m go) p q (Asked x v ∷ es) (Noted y ∷ fs) a b = absurd b
comparable model (Notes read run) p q (Noted x ∷ es) (Looked y ∷ fs) a b = absurd b
comparable model (Notes read run) p q (Noted x ∷ es) (Tested y ∷ fs) a b = absurd b
comparable model (Notes read run) p q (Noted x ∷ es) (Asked y w ∷ fs) a b = absurd b
comparable model run p q (e ∷ es) (f ∷ fs) a b = absurd a

pub asks_append : (es fs : List Event) → asks_of (es ++ fs) ≡ asks_of es ++ asks_of fs
asks_append [] fs = refl
asks_append (Looked x ∷ es) fs = asks_append es fs
asks_append (Tested x ∷ es) fs = asks_append es fs
asks_append (Noted r ∷ es) fs = asks_append es fs
asks_append (Asked m v ∷ es) fs = ap (λ ms. m ∷ ms) (asks_append es fs)

-- what a run that stands at an ask has done next
pub record Next (model : Model) (m : Node) (more : List Event) : Type 0 where
  pub asked : Has (asks_of more) m
  pub value : HasValue model m

pub next_is : (model : Model) (m : Node) (go : Reply → Run) (rest : Run) (more : List Event) → Leads model (Asks m go) more rest → ((more ≡ []) × (rest ≡ Asks m go)) ⊎ Next model m more
next_is model m go rest [] l = inl (refl, sym l)
next_is model m go rest (Looked x ∷ es) l = absurd l
next_is model m go rest (Tested x ∷ es) l = absurd l
next_is model m go rest (Noted x ∷ es) l = absurd l
next_is model m go rest (Asked x v ∷ es) l = inr (record { asked = inl l.0; value = record { reply = v; means = l.1 } })

asks_more : (es fs more : List Event) (b : Node) → fs ≡ es ++ more → Has (asks_of more) b → Has (asks_of fs) b
asks_more es fs more b e h = subst (λ ms. Has ms b) (sym (ap asks_of e ∙ asks_append es more)) (has_right (asks_of es) (asks_of more) b h)

-- of an ask of b after es, against a run that has come by fs to ask m: it was before, it is this one, or it comes after
pub data AskCase (model : Model) (b : Node) (es fs : List Event) (m : Node) : Type 0 where
  Before : Has (asks_of fs) b → AskCase model b es fs m
  Now : es ≡ fs → b ≡ m → AskCase model b es fs m
  After : Has (asks_of es) m → HasValue model m → AskCase model b es fs m

same_asks : (a b : Node) (f g : Reply → Run) → Asks a f ≡ Asks b g → a ≡ b
same_asks a b f g e = cc

pub ask_case : (model : Model) (run : Run) (b m : Node) (f g : Reply → Run) (es fs : List Event) → Leads model run es (Asks b f) → Leads model run fs (Asks m g) → AskCase model b es fs m
ask_case model run b m f g es fs x y =
    elim (comparable model run (Asks b f) (Asks m g) es fs x y) [
      | inl a ↦ elim (next_is model b f (Asks m g) a.more a.leads) [
        | inl h ↦ Now (let i : fs ≡ es ++ a.more = a.is in sym (i ∙ ap (λ z. es ++ z) h.0 ∙ append-nil es)) (sym (same_asks m b g f h.1))
        | inr h ↦ Before (asks_more es fs a.more b a.is h.asked)
      ]
      | inr a ↦ elim (next_is model m g (Asks b f) a.more a.leads) [
        | inl h ↦ Now (let i : es ≡ fs ++ a.more = a.is in i ∙ ap (λ z. fs ++ z) h.0 ∙ append-nil fs) (same_asks b m f g h.1)
        | inr h ↦ After (asks_more fs es a.more m a.is h.asked) h.value
      ]
    ]

-- a run that ended has asked all that it asks
pub asked_by_end : (model : Model) (run : Run) (b : Node) (f : Reply → Run) (o : Outcome) (es fs : List Event) → Leads model run es (Asks b f) → Leads model run fs (Ends o) → Has (asks_of fs) b
asked_by_end model run b f o es fs x y =
    elim (comparable model run (Asks b f) (Ends o) es fs x y) [
      | inl a ↦ elim (next_is model b f (Ends o) a.more a.leads) [ inl h ↦ absurd (let k : Ends o ≡ Asks b f = h.1 in cc) | inr h ↦ asks_more es fs a.more b a.is h.asked ]
      | inr a ↦ absurd (let e : Asks b f ≡ Ends o = (ends_only model o (Asks b f) a.more a.leads).1 in cc)
    ]
