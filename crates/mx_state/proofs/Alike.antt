-- Walks that are alike: where the one stands by some events, the other stands by the same.
use Rattle.std.proofs.Common.{Bool, true, false, ◌≡◌, ◌&&◌, nat_le, List, [], ◌∷◌, ◌++◌, Option, Some, if◌then◌else◌, length, refl, sym, ◌∙◌, ap, subst}
use Rattle.std.proofs.lemmas.List.{append-nil, append_assoc}
use Rattle.std.proofs.Math.Bool.{and-true, and-false}
use Rattle.mx_value.specs.declared.label.Label.{Label}
use Rattle.mx_value.specs.declared.value.Value.{Value}
use Rattle.mx_value.specs.declared.value.Segment.{Segment, out-Segment}
use Rattle.mx_value.specs.declared.value.Segment.TheOpen.{Segment-F}
use Rattle.mx_value.specs.declared.value.Segment.TheVariants as segment
use Rattle.mx_value.specs.declared.namespace.Namespace.{Namespace}
use Rattle.mx_value.specs.declared.node.Node.{Node}
use Rattle.mx_value.specs.declared.node.Node.TheVariants.{Item}
use Rattle.mx_syntax.specs.declared.stmt.Params.{Params}
use Rattle.mx_syntax.specs.Binding.{bound, is_wrong_count}
use Rattle.mx_edit.specs.declared.key.Key.{Key}
use Rattle.mx_edit.specs.declared.key.Key.TheVariants as key
use Rattle.mx_edit.specs.declared.key.KeyResult.{KeyResult}
use Rattle.mx_edit.specs.declared.key.KeyResult.TheVariants as found
use Rattle.mx_edit.specs.declared.reply.Reply.{Reply}
use Rattle.mx_runs.specs.Runs.{Run, Ends, Tests, Asks, Gives, NoSuch, WrongCount, Event, Looked, Tested, Asked, Noted}
use Rattle.mx_runs.specs.Inputs.{is_name, is_static}
use Rattle.mx_runs.specs.Meaning.{Means, Leads}
use Rattle.mx_runs.proofs.Levels.{same_value}
use Rattle.mx_meaning.specs.Namespaces.{Step, root, child, ends_with_name, item_at}
use Rattle.mx_meaning.specs.Walks.{Onward, entered, item_entered, stepped, walked_from, walked}
use Rattle.mx_meaning.specs.Laws.{model_of}
use Rattle.mx_meaning.proofs.Walking.{bound_on, out_name, out_item}

-- where a walk stands: it came to a namespace, or waits for an item node with these segments left
pub data Point : Type 0 where
  CameTo : Namespace → Point
  WaitsAt : Node → List Segment → Point

abbrev pub rest_of : Point → Onward → Run
rest_of (CameTo ns) go = go ns
rest_of (WaitsAt i more) go = Asks i (λ r. entered r.namespace (λ ns. walked_from more ns go))

-- the same namespace, or a wait for the same node
abbrev pub AreAlike : Point → Point → Type 0
AreAlike (CameTo ns) (CameTo other) = other ≡ ns
AreAlike (CameTo ns) (WaitsAt j rest) = ⊥
AreAlike (WaitsAt i more) (CameTo other) = ⊥
AreAlike (WaitsAt i more) (WaitsAt j rest) = j ≡ i

-- an end behind a walk
abbrev stop : Onward
stop ns = Ends NoSuch

same_asked : (m n : Node) (f g : Reply → Run) → Asks m f ≡ Asks n g → m ≡ n
same_asked m n f g e = cc

no_wait : {X : Type 0} (m : Node) (f : Reply → Run) → Asks m f ≡ Ends NoSuch → X
no_wait m f e = absurd (cc)

no_test : {X : Type 0} (k : Key) (f : Onward → KeyResult → Run) (p : Point) → ((g : Onward) → Tests k (f g) ≡ rest_of p g) → X
no_test k f (CameTo ns) l = let e : Tests k (f stop) ≡ Ends NoSuch = l stop in absurd (cc)
no_test k f (WaitsAt i more) l = let e : Tests k (f stop) ≡ Asks i (λ r. entered r.namespace (λ ns. walked_from more ns stop)) = l stop in absurd (cc)

-- ---- addresses without items

under : (c x y b : Bool) → (x && b) ≡ (y && b) → ((c && x) && b) ≡ ((c && y) && b)
under true x y b h = h
under false x y b h = refl

static_name : (at : List Segment) (name : Label) (b : Bool) → (is_static (at ++ segment.Name name ∷ []) && b) ≡ (is_static at && b)
static_name [] name b = ap (λ (s : Step). (is_name s && true) && b) (out_name name)
static_name (s ∷ at) name b = under (is_name (out-Segment s)) (is_static (at ++ segment.Name name ∷ [])) (is_static at) b (static_name at name b)

under_none : (c x b : Bool) → (x && b) ≡ false → ((c && x) && b) ≡ false
under_none true x b h = h
under_none false x b h = refl

static_item : (at : List Segment) (args : List Value) (b : Bool) → (is_static (at ++ segment.Item args ∷ []) && b) ≡ false
static_item [] args b = ap (λ (s : Step). (is_name s && true) && b) (out_item args)
static_item (s ∷ at) args b = under_none (is_name (out-Segment s)) (is_static (at ++ segment.Item args ∷ [])) b (static_item at args b)

-- ---- walks

walked_some : (at : List Segment) → (at ≡ [] → ⊥) → (g : Onward) → walked at g ≡ walked_from at root g
walked_some [] some g = absurd (some refl)
walked_some (s ∷ more) some g = refl

-- on through segments that are left
abbrev pub onward : List Segment → Namespace → Onward → Run
onward more ns g = walked_from more ns g

-- a step, and on through those that are left
abbrev pub stepping : Step → List Segment → Namespace → Onward → Run
stepping s more ns g = stepped s ns (λ next. walked_from more next g)

pub takes_step : (s : Segment) (step : Step) (more : List Segment) (ns : Namespace) → out-Segment s ≡ step → nat_le 64 (length ns.at) ≡ false → (g : Onward) → onward (s ∷ more) ns g ≡ stepping step more ns g
takes_step s step more ns e few g =
    ap (λ (b : Bool). if b then Ends NoSuch else stepping (out-Segment s) more ns g) few ∙ ap (λ (t : Step). stepping t more ns g) e

module _ (look : Key → KeyResult) where
  -- the walk stands by these events at a point, whatever comes then
  abbrev pub Stands : (Onward → Run) → List Event → Point → Type 0
  Stands start es p = (g : Onward) → Leads (model_of look) (start g) es (rest_of p g)

  pub record Meets (other : Onward → Run) (es : List Event) (p : Point) : Type 0 where
    pub at : Point
    pub alike : AreAlike p at
    pub stands : Stands other es at

  -- the other walk stands alike wherever the first does
  abbrev pub Follows : (Onward → Run) → (Onward → Run) → Type 0
  Follows start other = (es : List Event) (p : Point) → Stands start es p → Meets other es p

  same_point : (p : Point) → AreAlike p p
  same_point (CameTo ns) = refl
  same_point (WaitsAt i more) = refl

  follows_itself : (start : Onward → Run) → Follows start start
  follows_itself start es p l = record { at = p; alike = same_point p; stands = l }

  from_same : (start same other : Onward → Run) → ((g : Onward) → same g ≡ start g) → Follows start other → Follows same other
  from_same start same other e f es p l = f es p (λ g. subst (λ run. Leads (model_of look) run es (rest_of p g)) (e g) (l g))

  to_same : (start other same : Onward → Run) → ((g : Onward) → same g ≡ other g) → Follows start other → Follows start same
  to_same start other same e f es p l =
      let m = f es p l in
      record { at = m.at; alike = m.alike; stands = λ g. subst (λ run. Leads (model_of look) run es (rest_of m.at g)) (sym (e g)) (m.stands g) }

  -- ---- steps

  name_follows : (name : Label) (more tail : List Segment) (ns : Namespace) → nat_le 64 (length ns.at) ≡ false → Follows (onward more (child name ns)) (onward tail (child name ns)) → Follows (stepping (Segment-F.Name name) more ns) (onward (segment.Name name ∷ tail) ns)
  name_follows name more tail ns few f =
      to_same (stepping (Segment-F.Name name) more ns) (stepping (Segment-F.Name name) tail ns) (onward (segment.Name name ∷ tail) ns)
      (takes_step (segment.Name name) (Segment-F.Name name) tail ns (out_name name) few) f

  -- an item whose node gives the next namespace
  module _ (ns next : Namespace) (ps : Params) (args : List Value) (n : ends_with_name ns.at ≡ true) (e : look (key.Params ns.source) ≡ found.Params ps)
      (q : is_wrong_count ps.params (length args) ≡ false) (r : Reply) (m : Means (model_of look) (Item ns.at (bound ps.params args)) (Gives r)) (has : r.namespace ≡ Some next)
      (more tail : List Segment) (f : Follows (onward more next) (onward tail next)) where
    abbrev node : Node
    node = Item ns.at (bound ps.params args)

    abbrev k : Key
    k = key.Params ns.source

    abbrev asking : List Segment → Onward → Run
    asking left g = Asks node (λ x. entered x.namespace (λ y. walked_from left y g))

    abbrev testing : List Value → List Segment → Onward → Run
    testing vs left g = Tests k (item_entered ns vs (λ y. walked_from left y g))

    asks_follow : Follows (asking more) (asking tail)
    asks_follow [] (CameTo to) l = no_wait node (λ x. entered x.namespace (λ y. walked_from more y stop)) (l stop)
    asks_follow [] (WaitsAt i left) l =
        record { at = WaitsAt node tail; alike = same_asked node i (λ x. entered x.namespace (λ y. walked_from more y stop)) (λ x. entered x.namespace (λ y. walked_from left y stop)) (l stop); stands = λ g. refl }
    asks_follow (Looked x ∷ es) p l = absurd (l stop)
    asks_follow (Tested x ∷ es) p l = absurd (l stop)
    asks_follow (Noted x ∷ es) p l = absurd (l stop)
    asks_follow (Asked x v ∷ es) p l =
        let to : v.namespace ≡ Some next = ap (λ (y : Reply). y.namespace) (same_value (model_of look) node v r (l stop).1 m) ∙ has in
        let w = f es p (λ g. subst (λ (o : Option Namespace). Leads (model_of look) (entered o (λ y. walked_from more y g)) es (rest_of p g)) to (l g).2) in
        record {
          at = w.at;
          alike = w.alike;
          stands = λ g. ((l stop).0, (l stop).1, subst (λ (o : Option Namespace). Leads (model_of look) (entered o (λ y. walked_from tail y g)) es (rest_of w.at g)) (sym to) (w.stands g));
        }

    enters : (left : List Segment) (g : Onward) → item_entered ns args (λ y. walked_from left y g) (look k) ≡ asking left g
    enters left g = ap (item_entered ns args (λ y. walked_from left y g)) e ∙ ap (λ (b : Bool). if b then Ends WrongCount else asking left g) q

    enters_bound : (left : List Segment) (g : Onward) → item_entered ns (bound ps.params args) (λ y. walked_from left y g) (look k) ≡ asking left g
    enters_bound left g =
        ap (item_entered ns (bound ps.params args) (λ y. walked_from left y g)) e ∙ bound_on ps.params args (λ vs. Asks (Item ns.at vs) (λ x. entered x.namespace (λ y. walked_from left y g))) q

    tests_follow : Follows (testing args more) (testing (bound ps.params args) tail)
    tests_follow [] p l = no_test k (λ g. item_entered ns args (λ y. walked_from more y g)) p l
    tests_follow (Looked x ∷ es) p l = absurd (l stop)
    tests_follow (Asked x v ∷ es) p l = absurd (l stop)
    tests_follow (Noted x ∷ es) p l = absurd (l stop)
    tests_follow (Tested x ∷ es) p l =
        let w = asks_follow es p (λ g. subst (λ run. Leads (model_of look) run es (rest_of p g)) (enters more g) (l g).1) in
        record {
          at = w.at;
          alike = w.alike;
          stands = λ g. ((l stop).0, subst (λ run. Leads (model_of look) run es (rest_of w.at g)) (sym (enters_bound tail g)) (w.stands g));
        }

    named : (vs : List Value) (left : List Segment) (g : Onward) → stepping (Segment-F.Item vs) left ns g ≡ testing vs left g
    named vs left g = ap (λ (b : Bool). if b then testing vs left g else Ends NoSuch) n

    item_follows : nat_le 64 (length ns.at) ≡ false → Follows (stepping (Segment-F.Item args) more ns) (onward (segment.Item (bound ps.params args) ∷ tail) ns)
    item_follows few =
        from_same (testing args more) (stepping (Segment-F.Item args) more ns) (onward (segment.Item (bound ps.params args) ∷ tail) ns) (named args more)
        (to_same (testing args more) (testing (bound ps.params args) tail) (onward (segment.Item (bound ps.params args) ∷ tail) ns)
        (λ g. takes_step (segment.Item (bound ps.params args)) (Segment-F.Item (bound ps.params args)) tail ns (out_item (bound ps.params args)) few g ∙ named (bound ps.params args) tail g)
        tests_follow)

  -- ---- along a walk

  -- the walk of the other address stands alike, and has items where this one has some
  pub record IsAlike (at other : List Segment) : Type 0 where
    pub follows : Follows (λ g. walked at g) (λ g. walked other g)
    pub static : is_static other ≡ is_static at

  module _ (at : List Segment) where
    -- A walk of the address has come to a namespace, and goes on so: whatever follows this, behind the namespace's address it
    -- follows the whole walk. The flag says whether no item is left.
    pub record IsAlong (start : Onward → Run) (ns : Namespace) (names_left : Bool) : Type 0 where
      pub follows : (tail : List Segment) → Follows start (onward tail ns) → Follows (λ g. walked at g) (onward (ns.at ++ tail) root)
      pub static : (is_static ns.at && names_left) ≡ is_static at

    pub along_step : (s : Segment) (more : List Segment) (ns : Namespace) → nat_le 64 (length ns.at) ≡ false → IsAlong (onward (s ∷ more) ns) ns (is_static (s ∷ more)) → IsAlong (stepping (out-Segment s) more ns) ns (is_name (out-Segment s) && is_static more)
    along_step s more ns few a = record {
      follows = λ tail f. a.follows tail (from_same (stepping (out-Segment s) more ns) (onward (s ∷ more) ns) (onward tail ns) (takes_step s (out-Segment s) more ns refl few) f);
      static = a.static;
    }

    pub along_name : (name : Label) (more : List Segment) (ns : Namespace) → nat_le 64 (length ns.at) ≡ false → IsAlong (stepping (Segment-F.Name name) more ns) ns (is_static more) → IsAlong (onward more (child name ns)) (child name ns) (is_static more)
    along_name name more ns few a = record {
      follows = λ tail f. subst (λ xs. Follows (λ g. walked at g) (onward xs root)) (sym (append_assoc ns.at (segment.Name name ∷ []) tail)) (a.follows (segment.Name name ∷ tail) (name_follows name more tail ns few f));
      static = static_name ns.at name (is_static more) ∙ a.static;
    }

    pub along_item : (ns next : Namespace) (ps : Params) (args : List Value) (n : ends_with_name ns.at ≡ true) (e : look (key.Params ns.source) ≡ found.Params ps)
        (q : is_wrong_count ps.params (length args) ≡ false) (r : Reply) (m : Means (model_of look) (Item ns.at (bound ps.params args)) (Gives r)) (has : r.namespace ≡ Some next) (address : next.at ≡ item_at ns (bound ps.params args))
        (more : List Segment) → nat_le 64 (length ns.at) ≡ false → IsAlong (stepping (Segment-F.Item args) more ns) ns false → IsAlong (onward more next) next (is_static more)
    along_item ns next ps args n e q r m has address more few a = record {
      follows = λ tail f.
          subst (λ xs. Follows (λ g. walked at g) (onward xs root)) (sym (ap (λ (xs : List Segment). xs ++ tail) address ∙ append_assoc ns.at (segment.Item (bound ps.params args) ∷ []) tail))
          (a.follows (segment.Item (bound ps.params args) ∷ tail) (item_follows ns next ps args n e q r m has more tail f few));
      static = ap (λ (xs : List Segment). is_static xs && is_static more) address ∙ static_item ns.at (bound ps.params args) (is_static more) ∙ sym (and-false (is_static ns.at)) ∙ a.static;
    }

    pub along_end : (ns : Namespace) → (ns.at ≡ [] → ⊥) → IsAlong (onward [] ns) ns true → IsAlike at ns.at
    along_end ns some a = record {
      follows = to_same (λ g. walked at g) (onward ns.at root) (λ g. walked ns.at g) (walked_some ns.at some)
          (subst (λ xs. Follows (λ g. walked at g) (onward xs root)) (append-nil ns.at) (a.follows [] (follows_itself (onward [] ns))));
      static = sym (and-true (is_static ns.at)) ∙ a.static;
    }

  pub along_begins : (s : Segment) (more : List Segment) → IsAlong (s ∷ more) (onward (s ∷ more) root) root (is_static (s ∷ more))
  along_begins s more = record { follows = λ tail f. f; static = refl }
