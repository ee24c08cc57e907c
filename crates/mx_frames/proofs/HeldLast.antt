-- A node that is held behind all others.
use Rattle.std.proofs.Common.{Bool, true, false, ◌≡◌, ℕ, ◌+◌, ◌≤◌, ◌<◌, if◌then◌else◌, List, [], ◌∷◌, ◌++◌, Result, Ok, Err, length, refl, sym, ◌∙◌, ap, subst, inl, inr}
use Rattle.std.proofs.lemmas.Bool.{cases_lt}
use Rattle.mx_value.specs.declared.node.Node.{Node}
use Rattle.mx_edit.specs.declared.key.Key.{Key}
use Rattle.mx_edit.specs.declared.key.Key.TheVariants.{Input}
use Rattle.mx_edit.specs.declared.reply.Reply.{Reply}
use Rattle.mx_graph.specs.declared.ids.NodeId.{NodeId}
use Rattle.mx_vertices.specs.Held.{entry_with}
use Rattle.mx_vertices.specs.Inputs.{is_static}
use Rattle.mx_vertices.specs.declared.slot.Body.{Body}
use Rattle.mx_memo.specs.Memos.{Memory, HoldsLast, most_held}
use Rattle.mx_memo.specs.declared.refusal.HoldRefusal.{HoldRefusal}
use Rattle.mx_memo.specs.declared.refusal.HoldRefusal.TheVariants.{Full}
use Rattle.mx_memo.specs.Order.{IsInOrder}
use Rattle.mx_memo_laws.specs.Entries.{entry_held, own_keys}
use Rattle.mx_memo_laws.specs.Laws.{HasGrown, HoldsEntry}
use Rattle.mx_memo_laws.proofs.Growing.{holding, grows_by_holding}
use Rattle.mx_binding.specs.Records.{HasOwnKey}
use Rattle.mx_frames.specs.declared.current.Current.{Current}
use Rattle.mx_frames.specs.Giving.{IsReadyToHold, IsHeldLast}
use Rattle.mx_frames.specs.declared.progress.Given.{Given}
use Rattle.mx_frames.proofs.Sound.{order_same}

-- ---- the keys behind that of the node's own input

own_if : (n : Node) → (static b : Bool) → static ≡ is_static n → static ≡ b → own_keys n ≡ (if b then Input n ∷ [] else [])
own_if n static b told is = ap (λ (x : Bool). if x then Input n ∷ [] else []) (sym told ∙ is)

pub without_own : (n k : Node) (key : Key) (keys others : List Key) (static : Bool) → keys ≡ key ∷ others → static ≡ is_static n → static ≡ true → k ≡ n → HasOwnKey k keys → keys ≡ own_keys k ++ others
without_own n k key keys others static is told holds e own =
    let one : own_keys k ≡ Input k ∷ [] = own_if k static true (told ∙ ap is_static (sym e)) holds in
    let two : key ∷ others ≡ Input k ∷ own.more = sym is ∙ own.is ∙ ap (λ (ks : List Key). ks ++ own.more) one in
    let more : others ≡ own.more = cc in
    own.is ∙ ap (λ (ks : List Key). own_keys k ++ ks) (sym more)

pub with_all : (n k : Node) (keys : List Key) (static : Bool) → static ≡ is_static n → static ≡ false → k ≡ n → keys ≡ own_keys k ++ keys
with_all n k keys static told fails e = ap (λ (ks : List Key). ks ++ keys) (sym (own_if k static false (told ∙ ap is_static (sym e)) fails))

none_before : (xs ys : List Key) → [] ≡ xs ++ ys → xs ≡ []
none_before [] ys e = refl
none_before (x ∷ xs) ys e = let i : [] ≡ x ∷ (xs ++ ys) = e in cc

pub with_none : (n : Node) (keys : List Key) → keys ≡ [] → HasOwnKey n keys → keys ≡ own_keys n ++ keys
with_none n keys none own = ap (λ (ks : List Key). ks ++ keys) (sym (none_before (own_keys n) own.more (sym none ∙ own.is)))

-- the same of what is spelled otherwise
pub keys_behind : (n m : Node) (seen keys others : List Key) → m ≡ n → keys ≡ seen → (HasOwnKey m keys → keys ≡ own_keys m ++ others) → HasOwnKey n seen → seen ≡ own_keys n ++ others
keys_behind n m seen keys others en ek from own =
    subst (λ (ks : List Key). HasOwnKey n ks → ks ≡ own_keys n ++ others) ek (subst (λ (x : Node). HasOwnKey x keys → keys ≡ own_keys x ++ others) en from) own

-- fewer than may be are held where that was not refused
pub few_held : (n : ℕ) (id : NodeId) → (result : Result NodeId HoldRefusal) → result ≡ Ok id → (most_held ≤ n → result ≡ Err Full) → n < most_held
few_held n id result is full = elim (cases_lt n most_held) [
  | inl few ↦ few
  | inr most ↦ (let i : Ok id ≡ Err Full = sym is ∙ full most in absurd (cc))
]

-- ---- the memo after that

-- what is in flight has no part in how a memo has grown
pub grown_same : (start old mid : Memory) → mid.held ≡ old.held → mid.last ≡ old.last → HasGrown start old → HasGrown start mid
grown_same start old mid h l g = record {
  more = g.more;
  is = h ∙ g.is;
  later = g.later;
  given = subst (λ (n : ℕ). start.last ≤ n) (sym l) g.given;
}

module _ (old new : Memory) (c : Current) (ready : IsReadyToHold old c) (begun : old.begun ≡ new.begun ++ c.node ∷ []) where
  abbrev pub ended : Memory
  ended = record old { begun = new.begun }

  pub held_last : (reply : Reply) (g : Given) (body : Body) (keys : List Key) → HoldsLast ended new (entry_with (old.last + 1) g.id.at body keys c.records.asks) → IsInOrder new → body.node ≡ c.node → body.reply ≡ reply → body.reads ≡ c.records.seen.reads
      → (HasOwnKey c.node c.records.seen.keys → c.records.seen.keys ≡ own_keys c.node ++ keys) → length old.held < most_held → g.node ≡ c.node → g.reply ≡ reply → IsHeldLast old new c reply g
  held_last reply g body keys h order en er erd ek few gn gr =
      let e : HoldsEntry ended new (entry_held old.held body keys c.records.asks) = holding ended new g.id.at body keys c.records.asks (order_same old ended ready.ordered refl refl) ready.asks order h in
      record {
        entry = entry_with (old.last + 1) g.id.at body keys c.records.asks;
        keys = keys;
        holds = ap (λ (m : Memory). m.held) h;
        entries = e.entries;
        id_is = refl;
        node_is = en;
        reply_is = er;
        reads_are = erd;
        keys_are = ek;
        few = few;
        ended = begun;
        ordered = e.ordered;
        node_given = gn;
        reply_given = gr;
        grown = λ start g0. grows_by_holding start ended new g.id.at body keys c.records.asks (grown_same start old ended refl refl g0) h;
      }
