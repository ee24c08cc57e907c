-- The nodes of inputs that differ, one after the other, and that they are all.
use Rattle.std.proofs.Common.{◌≡◌, ℕ, zero, suc, ◌+◌, ◌≤◌, Bool, true, false, cond, List, [], ◌∷◌, ◌++◌, length, take, Option, Some, None, slice_get, inl, inr, refl, sym, ◌∙◌, ap, subst, arith, append_assoc}
use Rattle.std.specs.Map.{lookup}
use Rattle.std.proofs.lemmas.List.{take_all, append-nil}
use Rattle.std.proofs.lemmas.Option.{same_Some}
use Rattle.mx_value.specs.declared.value.Value.{Value}
use Rattle.mx_value.specs.declared.node.Node.{Node}
use Rattle.mx_value.proofs.NodeSames.{node_decides}
use Rattle.mx_edit.specs.declared.key.Key.TheVariants.{Input}
use Rattle.mx_vertices.specs.Places.{Has}
use Rattle.mx_vertices.specs.Inputs.{AreChanged}
use Rattle.mx_model.specs.Records.{ModelRecord}
use Rattle.mx_model.specs.Keys.{node_eq, input_of, value_of, key_result, is_changed}
use Rattle.mx_model.specs.Laws.{ChangesAreTold}
use Rattle.mx_retain.specs.Changed.{changed_in, one_changed}

abbrev Input-of : Type 0
Input-of = Node × Value

has_first : (xs ys : List Node) (n : Node) → Has xs n → Has (xs ++ ys) n
has_first [] ys n h = absurd h
has_first (x ∷ xs) ys n h = elim h [ inl e ↦ inl e | inr r ↦ inr (has_first xs ys n r) ]

has_last : (xs ys : List Node) (n : Node) → Has ys n → Has (xs ++ ys) n
has_last [] ys n h = h
has_last (x ∷ xs) ys n h = inr (has_last xs ys n h)

has_both : (P : Type 0) (xs ys : List Node) (n : Node) → (Has xs n → P) → (Has ys n → P) → Has (xs ++ ys) n → P
has_both P [] ys n f g h = g h
has_both P (x ∷ xs) ys n f g h = elim h [ inl e ↦ f (inl e) | inr r ↦ has_both P xs ys n (λ s. f (inr s)) g r ]

module _ (before after : ModelRecord) where
  abbrev test : Node → Bool
  test n = is_changed before after (Input n)

  abbrev one : Node → List Node
  one n = one_changed before after n

  abbrev all : List Input-of → List Node
  all es = changed_in before after es

  -- ---- one after the other

  all_more : (es : List Input-of) (i : ℕ) (m : Input-of) → slice_get es i ≡ Some m → all (take (i + 1) es) ≡ all (take i es) ++ one m.0
  all_more [] i m at = absurd (let f : None ≡ Some m = at in cc)
  all_more (e ∷ es) zero m at = append-nil (one e.0) ∙ ap (λ (x : Input-of). one x.0) (same_Some e m at)
  all_more (e ∷ es) (suc i) m at =
      let next : suc i + 1 ≡ suc (i + 1) = omega arith in
      ap (λ (k : ℕ). all (take k (e ∷ es))) next ∙ ap (λ (r : List Node). one e.0 ++ r) (all_more es i m at) ∙ sym (append_assoc (one e.0) (all (take i es)) (one m.0))

  pub add_next : (es : List Input-of) (i : ℕ) (n : Node) (v : Value) (start nodes more : List Node) → nodes ≡ start ++ all (take i es) → slice_get es i ≡ Some (n, v) → more ≡ nodes ++ one n → more ≡ start ++ all (take (i + 1) es)
  add_next es i n v start nodes more e at is =
      is ∙ ap (λ (r : List Node). r ++ one n) e ∙ append_assoc start (all (take i es)) (one n) ∙ ap (λ (r : List Node). start ++ r) (sym (all_more es i (n, v) at))

  pub add_all : (es : List Input-of) (i : ℕ) (start nodes : List Node) → nodes ≡ start ++ all (take i es) → length es ≤ i → nodes ≡ start ++ all es
  add_all es i start nodes e l = e ∙ ap (λ (r : List Input-of). start ++ all r) (take_all i es l)

  -- ---- one node

  one_by : (n : Node) (b : Bool) → test n ≡ b → one n ≡ cond b (n ∷ []) []
  one_by n b e = ap (λ (t : Bool). cond t (n ∷ []) []) e

  module _ (told : ChangesAreTold) where
    unchanged_by : (n : Node) → key_result before (Input n) ≡ key_result after (Input n) → (b : Bool) → test n ≡ b → b ≡ false
    unchanged_by n same false e = refl
    unchanged_by n same true e = absurd ((told before after (Input n)).0 e same)

    unchanged : (n : Node) → key_result before (Input n) ≡ key_result after (Input n) → test n ≡ false
    unchanged n same = unchanged_by n same (test n) refl

    changed_by : (n : Node) → (key_result before (Input n) ≡ key_result after (Input n) → ⊥) → test n ≡ true
    changed_by n other = (told before after (Input n)).1 other

    -- a node whose input is the same adds nothing
    pub adds_none : (n : Node) (nodes : List Node) → key_result before (Input n) ≡ key_result after (Input n) → nodes ≡ nodes ++ one n
    adds_none n nodes same = sym (ap (λ (r : List Node). nodes ++ r) (one_by n false (unchanged n same)) ∙ append-nil nodes)

    -- one whose input differs is added
    pub adds_one : (n m : Node) (nodes more : List Node) → (key_result before (Input n) ≡ key_result after (Input n) → ⊥) → m ≡ n → more ≡ nodes ++ m ∷ [] → more ≡ nodes ++ one n
    adds_one n m nodes more other is e = e ∙ ap (λ (x : Node). nodes ++ x ∷ []) is ∙ ap (λ (r : List Node). nodes ++ r) (sym (one_by n true (changed_by n other)))

    -- ---- they are all

    pub one_is : (n m : Node) (b : Bool) → test n ≡ b → Has (cond b (n ∷ []) []) m → test m ≡ true
    one_is n m true e h = elim h [ inl is ↦ subst (λ (x : Node). test x ≡ true) is e | inr r ↦ absurd r ]
    one_is n m false e h = absurd h

    all_are : (es : List Input-of) (n : Node) → Has (all es) n → test n ≡ true
    all_are [] n h = absurd h
    all_are (e ∷ es) n h = has_both (test n ≡ true) (one e.0) (all es) n (one_is e.0 n (test e.0) refl) (all_are es n) h

    found_by : (e : Input-of) (es : List Input-of) (n : Node) (v : Value) → test n ≡ true → (lookup (node_eq n) es ≡ Some v → Has (all es) n) → (b : Bool) → node_eq n e.0 ≡ b → cond b (Some e.1) (lookup (node_eq n) es) ≡ Some v → Has (one e.0 ++ all es) n
    found_by e es n v t rest true q at =
        let same : n ≡ e.0 = (node_decides n e.0).0 q in
        let passes : test e.0 ≡ true = subst (λ (x : Node). test x ≡ true) same t in
        has_first (one e.0) (all es) n (subst (λ (xs : List Node). Has xs n) (sym (one_by e.0 true passes)) (inl (sym same)))
    found_by e es n v t rest false q at = has_last (one e.0) (all es) n (rest at)

    is_found : (es : List Input-of) (n : Node) (v : Value) → lookup (node_eq n) es ≡ Some v → test n ≡ true → Has (all es) n
    is_found [] n v at t = absurd (let f : None ≡ Some v = at in cc)
    is_found (e ∷ es) n v at t = found_by e es n v t (λ r. is_found es n v r t) (node_eq n e.0) refl at

    abbrev both : List Node
    both = all before.inputs ++ all after.inputs

    has_by : (n : Node) → test n ≡ true → (v w : Option Value) → input_of before n ≡ v → input_of after n ≡ w → Has both n
    has_by n t (Some v) w e f = has_first (all before.inputs) (all after.inputs) n (is_found before.inputs n v e t)
    has_by n t None (Some w) e f = has_last (all before.inputs) (all after.inputs) n (is_found after.inputs n w f t)
    has_by n t None None e f = absurd ((told before after (Input n)).0 t (ap value_of (e ∙ sym f)))

    -- exactly the nodes whose inputs differ are among those of both
    pub are_changed : (old new : List Input-of) (nodes : List Node) → old ≡ before.inputs → new ≡ after.inputs → nodes ≡ all old ++ all new → AreChanged (is_changed before after) nodes
    are_changed old new nodes e f is n =
        let same : nodes ≡ both = is ∙ ap (λ (es : List Input-of). all es ++ all new) e ∙ ap (λ (es : List Input-of). all before.inputs ++ all es) f in
        let forth : Has nodes n → test n ≡ true = λ h. has_both (test n ≡ true) (all before.inputs) (all after.inputs) n (all_are before.inputs n) (all_are after.inputs n) (subst (λ (xs : List Node). Has xs n) same h) in
        let back : test n ≡ true → Has nodes n = λ t. subst (λ (xs : List Node). Has xs n) (sym same) (has_by n t (input_of before n) (input_of after n) refl refl) in
        (forth, back)
