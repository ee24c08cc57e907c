-- What is reached at a level stays at all higher ones.
use Rattle.std.specs.Prelude.{◌≡◌, ℕ, zero, suc, ◌+◌, List, [], ◌∷◌, ◌++◌, refl}
use Rattle.std.proofs.Common.{sym, ◌∙◌, ap, subst, arith, add-suc, add-zero}
use Rattle.mx_value.specs.declared.node.Node.{Node}
use Rattle.mx_edit.specs.declared.key.Key.{Key}
use Rattle.mx_edit.specs.declared.key.KeyResult.{KeyResult}
use Rattle.mx_edit.specs.declared.reply.Reply.{Reply}
use Rattle.mx_runs.specs.Runs.{Model, Event, Looked, Tested, Asked, Noted, Tests, Outcome, Gives, Faults, NoSuch, WrongCount, NoLevel, Run, Ends, Looks, Asks, Notes}
use Rattle.mx_runs.specs.Meaning.{ending, answered, level, IsReached, Means, Leads}

-- the second answers what the first does, wherever the first is reached
abbrev pub Extends : (Node → Outcome) → (Node → Outcome) → Type 0
Extends f g = (m : Node) → IsReached (f m) → g m ≡ f m

answered_more : (o p : Outcome) (go go' : Reply → Outcome) → (IsReached o → p ≡ o) → ((v : Reply) → IsReached (go v) → go' v ≡ go v) → IsReached (answered o go) → answered p go' ≡ answered o go
answered_more (Gives v) p go go' e h r = subst (λ q. answered q go' ≡ go v) (sym (e tt)) (h v r)
answered_more (Faults k n line) p go go' e h r = subst (λ q. answered q go' ≡ Faults k n line) (sym (e tt)) refl
answered_more NoSuch p go go' e h r = subst (λ q. answered q go' ≡ NoSuch) (sym (e tt)) refl
answered_more WrongCount p go go' e h r = subst (λ q. answered q go' ≡ WrongCount) (sym (e tt)) refl
answered_more NoLevel p go go' e h r = absurd r

-- a run that ends over some answers ends alike over more
pub ending_more : (look : Key → KeyResult) (f g : Node → Outcome) → Extends f g → (run : Run) → IsReached (ending look f run) → ending look g run ≡ ending look f run
ending_more look f g h (Ends o) r = refl
ending_more look f g h (Looks key go) r = ending_more look f g h (go (look key)) r
ending_more look f g h (Tests key go) r = ending_more look f g h (go (look key)) r
ending_more look f g h (Notes read run) r = ending_more look f g h run r
ending_more look f g h (Asks m go) r =
    answered_more (f m) (g m) (λ v. ending look f (go v)) (λ v. ending look g (go v)) (h m) (λ v. ending_more look f g h (go v)) r

pub level_suc : (model : Model) (k : ℕ) → Extends (level model k) (level model (suc k))
level_suc model zero m r = absurd r
level_suc model (suc k) m r = ending_more model.look (level model k) (level model (suc k)) (level_suc model k) (model.body m) r

-- what is reached stays at all higher levels
pub level_more : (model : Model) (k j : ℕ) → Extends (level model k) (level model (k + j))
level_more model k zero m r = ap (λ n. level model n m) (add-zero k)
level_more model k (suc j) m r =
    let h : level model (k + j) m ≡ level model k m = level_more model k j m r in
    ap (λ n. level model n m) (add-suc k j) ∙ level_suc model (k + j) m (subst IsReached (sym h) r) ∙ h

-- a node means at most one thing
pub one_meaning : (model : Model) (n : Node) (o p : Outcome) → Means model n o → Means model n p → o ≡ p
one_meaning model n o p a b =
    let x : level model (a.at + b.at) n ≡ o = level_more model a.at b.at n (subst IsReached (sym a.gives) a.reached) ∙ a.gives in
    let y : level model (b.at + a.at) n ≡ p = level_more model b.at a.at n (subst IsReached (sym b.gives) b.reached) ∙ b.gives in
    let z : a.at + b.at ≡ b.at + a.at = omega arith in
    sym x ∙ ap (λ k. level model k n) z ∙ y

pub leads_append : (model : Model) (run mid rest : Run) (es fs : List Event) → Leads model run es mid → Leads model mid fs rest → Leads model run (es ++ fs) rest
leads_append model run mid rest [] fs a b = subst (λ r. Leads model r fs rest) (sym a) b
leads_append model (Looks key go) mid rest (Looked x ∷ es) fs a b = (a.0, leads_append model (go (model.look key)) mid rest es fs a.1 b)
leads_append model (Tests key go) mid rest (Tested x ∷ es) fs a b = (a.0, leads_append model (go (model.look key)) mid rest es fs a.1 b)
leads_append model (Asks m go) mid rest (Asked x v ∷ es) fs a b = (a.0, a.1, leads_append model (go v) mid rest es fs a.2 b)
leads_append model (Notes read run) mid rest (Noted x ∷ es) fs a b = (a.0, leads_append model run mid rest es fs a.1 b)
leads_append model run mid rest (e ∷ es) fs a b = absurd a

pub same_value : (model : Model) (m : Node) (v w : Reply) → Means model m (Gives v) → Means model m (Gives w) → v ≡ w
same_value model m v w a b = let e : Gives v ≡ Gives w = one_meaning model m (Gives v) (Gives w) a b in cc

-- a run by its parts
pub record Split (model : Model) (run rest : Run) (es fs : List Event) : Type 0 where
  pub mid : Run
  pub first : Leads model run es mid
  pub second : Leads model mid fs rest

pub leads_split : (model : Model) (run rest : Run) (es fs : List Event) → Leads model run (es ++ fs) rest → Split model run rest es fs
leads_split model run rest [] fs l = record { mid = run; first = refl; second = l }
leads_split model (Looks key go) rest (Looked x ∷ es) fs l = let s = leads_split model (go (model.look key)) rest es fs l.1 in record { mid = s.mid; first = (l.0, s.first); second = s.second }
leads_split model (Tests key go) rest (Tested x ∷ es) fs l = let s = leads_split model (go (model.look key)) rest es fs l.1 in record { mid = s.mid; first = (l.0, s.first); second = s.second }
leads_split model (Asks m go) rest (Asked x v ∷ es) fs l = let s = leads_split model (go v) rest es fs l.2 in record { mid = s.mid; first = (l.0, l.1, s.first); second = s.second }
leads_split model (Notes read run) rest (Noted x ∷ es) fs l = let s = leads_split model run rest es fs l.1 in record { mid = s.mid; first = (l.0, s.first); second = s.second }
leads_split model run rest (e ∷ es) fs l = absurd l

pub leads_once : (model : Model) (run a b : Run) (es : List Event) → Leads model run es a → Leads model run es b → a ≡ b
leads_once model run a b [] x y = sym x ∙ y
leads_once model (Looks key go) a b (Looked x ∷ es) p q = leads_once model (go (model.look key)) a b es p.1 q.1
leads_once model (Tests key go) a b (Tested x ∷ es) p q = leads_once model (go (model.look key)) a b es p.1 q.1
leads_once model (Asks m go) a b (Asked x v ∷ es) p q = leads_once model (go v) a b es p.2 q.2
leads_once model (Notes read run) a b (Noted x ∷ es) p q = leads_once model run a b es p.1 q.1
leads_once model run a b (e ∷ es) p q = absurd p

pub ends_only : (model : Model) (o : Outcome) (rest : Run) (more : List Event) → Leads model (Ends o) more rest → (more ≡ []) × (rest ≡ Ends o)
ends_only model o rest [] l = (refl, sym l)
ends_only model o rest (e ∷ es) l = absurd l
