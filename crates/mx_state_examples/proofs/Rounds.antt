-- What a node reads, by its whole run; and rounds of nodes that ask one another.
use Rattle.std.proofs.Common.{◌≡◌, List, [], ◌∷◌, ◌++◌, inl, inr, refl, sym, ◌∙◌, ap, subst}
use Rattle.std.proofs.lemmas.List.{append-nil}
use Rattle.mx_value.specs.declared.node.Node.{Node}
use Rattle.mx_value.specs.declared.label.Label.{Label}
use Rattle.mx_value.specs.declared.value.Segment.{Segment}
use Rattle.mx_value.specs.declared.read.Read.{Read}
use Rattle.mx_value.specs.declared.read.Read.TheVariants as read
use Rattle.mx_edit.specs.declared.reply.Reply.{Reply}
use Rattle.mx_runs.specs.Lists.{Has, Distinct, FirstEach, First, Done}
use Rattle.mx_runs.specs.Runs.{Model, Run, Ends, Outcome, Gives, Event}
use Rattle.mx_runs.specs.Meaning.{Leads}
use Rattle.mx_runs.specs.Chains.{DoesAsk, MeansNothing, StuckChain, IsRing, first_or}
use Rattle.mx_runs.proofs.Lists.{each_is_one}
use Rattle.mx_runs.proofs.Levels.{ends_only}
use Rattle.mx_runs.proofs.Runs.{comparable}
use Rattle.mx_runs.proofs.Meanings.{finished, AsksWithin, lost}
use Rattle.mx_answers.specs.Records.{reads_of, HasReads}
use Rattle.mx_answers.proofs.Records.{value_is_recorded}

-- a run has one whole list of events
same_events : (model : Model) (run : Run) (o p : Outcome) (es fs : List Event) → Leads model run es (Ends o) → Leads model run fs (Ends p) → es ≡ fs
same_events model run o p es fs l m =
    elim (comparable model run (Ends o) (Ends p) es fs l m) [
      | inl a ↦ let e = ends_only model o (Ends p) a.more a.leads in sym (a.is ∙ ap (λ gs. es ++ gs) e.0 ∙ append-nil es)
      | inr a ↦ let e = ends_only model p (Ends o) a.more a.leads in a.is ∙ ap (λ gs. fs ++ gs) e.0 ∙ append-nil fs
    ]

pub reads_are : (model : Model) (n : Node) (es : List Event) (r : Reply) (reads : List Read) → Leads model (model.body n) es (Ends (Gives r)) → FirstEach [] (reads_of es) reads → HasReads model n reads
reads_are model n es r reads l each =
    let c = value_is_recorded model n (record { reply = r; means = finished model n es (Gives r) tt l }) in
    let m : Leads model (model.body n) c.is.events (Ends (Gives c.entry.reply)) = subst (λ x. Leads model (model.body x) c.is.events (Ends (Gives c.entry.reply))) c.of c.is.leads in
    let e : c.is.events ≡ es = same_events model (model.body n) (Gives c.entry.reply) (Gives r) c.is.events es m l in
    record { recorded = c; read = each_is_one [] (reads_of es) c.entry.reads reads (subst (λ fs. FirstEach [] (reads_of fs) c.entry.reads) e c.is.reads) each }

-- a reference and a node, each read once
not_seen : (at : List Segment) (name : Label) (n : Node) → Has (read.Ref at name ∷ []) (read.Node n) → ⊥
not_seen at name n h = elim h [ inl e ↦ let f : read.Ref at name ≡ read.Node n = e in cc | inr r ↦ r ]

pub two_reads : (at : List Segment) (name : Label) (n : Node) → FirstEach [] (read.Ref at name ∷ read.Node n ∷ []) (read.Ref at name ∷ read.Node n ∷ [])
two_reads at name n = First (read.Ref at name) (λ h. h) (First (read.Node n) (not_seen at name n) Done)

-- ---- rounds

-- each asks the next, and the last asks m
abbrev pub AskRound : Model → List Node → Node → Type 0
AskRound model [] m = Unit {0}
AskRound model (n ∷ ns) m = DoesAsk model n (first_or m ns) × AskRound model ns m

module _ (model : Model) (all : List Node) (m : Node) (last : Has all m) where
  next_in : (ns : List Node) → ((x : Node) → Has ns x → Has all x) → Has all (first_or m ns)
  next_in [] h = last
  next_in (n ∷ ns) h = h n (inl refl)

  within : (ns : List Node) → ((x : Node) → Has ns x → Has all x) → AskRound model ns m → (k : Node) → Has ns k → AsksWithin model all k
  within [] h r k i = absurd i
  within (n ∷ ns) h r k i =
      elim i [
        | inl e ↦ subst (λ z. AsksWithin model all z) e (record { next = first_or m ns; within = next_in ns (λ x j. h x (inr j)); asks = r.0 })
        | inr j ↦ within ns (λ x l. h x (inr l)) r.1 k j
      ]

  pub round_lost : AskRound model all m → (k : Node) → Has all k → MeansNothing model k
  round_lost r = lost model all (within all (λ x i. i) r)

  stuck : ((k : Node) → Has all k → MeansNothing model k) → (ns : List Node) → ((x : Node) → Has ns x → Has all x) → AskRound model ns m → StuckChain model ns m
  stuck dead [] h r = tt
  stuck dead (n ∷ ns) h r = (record { asks = r.0; lost = dead (first_or m ns) (next_in ns (λ x j. h x (inr j))) }, stuck dead ns (λ x j. h x (inr j)) r.1)

  -- nodes that ask one another in a round from the middle on: the first comes to a ring
  pub ring_from : (lead rest : List Node) → all ≡ lead ++ m ∷ rest → Distinct all → AskRound model all m → IsRing model (first_or m lead) (m ∷ rest)
  ring_from lead rest e d r =
      let s : StuckChain model all m = stuck (round_lost r) all (λ x i. i) r in
      record { lead = lead; again = m; rest = rest; is = refl; begins = refl; distinct = subst Distinct e d; stuck = subst (λ ns. StuckChain model ns m) e s }
