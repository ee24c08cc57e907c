-- Rules for powers, signs, `not`, `and` and `or`, tuples and `is None`.
use Rattle.std.proofs.Common.{◌≡◌, refl, Ok, Err, None, List, [], ◌∷◌, ◌++◌, ℕ, ℤ, pos, not, ap, sym, ◌∙◌, subst, Bool, true, false, if◌then◌else◌, map, rules}
use Rattle.std.proofs.lemmas.List.{append-nil, append_assoc}
use Rattle.std.specs.Bool.{beq}
use Rattle.std.specs.Ordering.{int_eq, is_lt}
use Rattle.mx_value.specs.declared.value.Value.{Value, out-Value}
use Rattle.mx_value.specs.declared.value.Value.TheVariants.{Flag, Int, Tup, rolls-Int}
use Rattle.mx_value.specs.declared.value.Segment.TheOpen.{Value-F}
use Rattle.mx_value.specs.declared.value.Segment.TheFolds.{para-roll-Value}
use Rattle.mx_value.specs.declared.fault.FaultKind.TheVariants.{TooLarge, TypeMismatch}
use Rattle.mx_syntax.specs.declared.expr.Expr.{Expr, the_lemmas}
use Rattle.mx_syntax.specs.declared.expr.Expr.TheVariants as expr
use Rattle.mx_syntax.specs.declared.expr.Comparison.{Comparison}
use Rattle.mx_syntax.specs.declared.expr.Comparison.TheVariants as comparison
use Rattle.mx_syntax.specs.declared.expr.PowerPart.{PowerPart, roll-PowerPart}
use Rattle.mx_syntax.specs.declared.expr.Sign.{Sign}
use Rattle.mx_edit.specs.declared.key.Key.{Key}
use Rattle.mx_edit.specs.declared.key.KeyResult.{KeyResult}
use Rattle.mx_syntax.specs.declared.op.Op.TheVariants as op
use Rattle.mx_ops.specs.declared.number.Number.TheVariants.{Whole}
use Rattle.mx_ops.specs.Kinds.{Content}
use Rattle.mx_ops.specs.Order.{Standing, number_order, plain_order, order, has_order}
use Rattle.mx_ops.specs.Rows.{or_else}
use Rattle.mx_ops.specs.Table.{turned, held, gives}
use Rattle.mx_ops.specs.Truth.{truth, truth_in}
use Rattle.mx_ops.specs.Answers.{is_allowed, made}
use Rattle.mx_runs.specs.Runs.{Run, Event}
use Rattle.mx_runs.specs.Meaning.{Leads}
use Rattle.mx_runs.proofs.Levels.{leads_append}
use Rattle.mx_meaning.specs.Environments.{Env, Reading, computed}
use Rattle.mx_meaning.specs.Lookup.{Called, valued}
use Rattle.mx_meaning.specs.Operations.{denied, signed, powered}
use Rattle.mx_meaning.specs.Expressions.{Comparing, IsNothing, nothing_in, values_from, values_beside, deciding, deciding_from, compared_from, powered_by, part_read, reading}
use Rattle.mx_meaning.specs.Laws.{model_of}
use Rattle.mx_meaning.proofs.Forms.{comparison_read, power_read}
use Rattle.mx_formula_examples.proofs.Equations.{out_int, out_flag, part-tuple, part-not, part-signed, part-or, part-and, part-power}
use Rattle.mx_formula_examples.proofs.Rules.{from, with_value, Comes, AllCome}
use Rattle.mx_formula_examples.proofs.FormRules.{ChainComes}

-- ---- powers

power-part : (signs : List Sign) (e : Expr) → power_read (roll-PowerPart (record { signs = signs; of = e })) ≡ (signs, reading e)
power-part signs e = search (the_lemmas, rules)

-- the further parts of a power, behind these
pub record PowersCome (look : Key → KeyResult) (env : Env) (parts : List PowerPart) (es : List Event) (ps : List (List Sign × Value)) : Type 0 where
  pub leads : (done : List (List Sign × Value)) (go : List (List Sign × Value) → Run) → Leads (model_of look) (values_beside (map power_read parts) done env go) es (go (done ++ ps))

pub powers_end : {look : Key → KeyResult} {env : Env} → PowersCome look env [] [] []
powers_end = record { leads = λ done go. ap go (sym (append-nil done)) }

pub powers_more : {look : Key → KeyResult} {env : Env} {rest : List PowerPart} {es fs : List Event} {v : Value} {ps : List (List Sign × Value)} (signs : List Sign) (e : Expr) → Comes look env e es v → PowersCome look env rest fs ps
    → PowersCome look env (roll-PowerPart (record { signs = signs; of = e }) ∷ rest) (es ++ fs) ((signs, v) ∷ ps)
powers_more {look = look} {env = env} {rest = rest} {es = es} {fs = fs} {v = v} {ps = ps} signs e p q = record {
  leads = λ done go.
      let one : Value → Run = λ u. values_beside (map power_read rest) (done ++ (signs, u) ∷ []) env go in
      from look _ (reading e env one) (go (done ++ (signs, v) ∷ ps)) (es ++ fs) (ap (λ (part : List Sign × Reading). values_beside (part ∷ map power_read rest) done env go) (power-part signs e))
      (leads_append (model_of look) (reading e env one) (one v) (go (done ++ (signs, v) ∷ ps)) es fs (with_value look env e es v p one)
      (subst (λ r. Leads (model_of look) (one v) fs r) (ap go (append_assoc done ((signs, v) ∷ []) ps)) (q.leads (done ++ (signs, v) ∷ []) go)));
}

pub power : {look : Key → KeyResult} {env : Env} {a : Expr} {rest : List PowerPart} {es fs : List Event} {x v : Value} {ps : List (List Sign × Value)} → Comes look env a es x → PowersCome look env rest fs ps → powered x ps ≡ Ok v → Comes look env (expr.Power a rest) (es ++ fs) v
power {look = look} {env = env} {a = a} {rest = rest} {es = es} {fs = fs} {x = x} {v = v} {ps = ps} p q h = record {
  leads = λ go.
      let one : Value → Run = λ w. powered_by (map power_read rest) w env (λ u. go (Called u)) in
      let last : List (List Sign × Value) → Run = λ qs. computed (powered x qs) env (λ u. go (Called u)) in
      from look _ (reading a env one) (go (Called v)) (es ++ fs) (part-power a rest env go)
      (leads_append (model_of look) (reading a env one) (one x) (go (Called v)) es fs (with_value look env a es x p one)
      (subst (λ r. Leads (model_of look) (one x) fs r) (ap (λ r. computed r env (λ u. go (Called u))) h) (q.leads [] last)));
}

-- ---- signs and `not`

pub with_signs : {look : Key → KeyResult} {env : Env} {signs : List Sign} {e : Expr} {es : List Event} {x v : Value} → Comes look env e es x → signed signs x ≡ Ok v → Comes look env (expr.Signed signs e) es v
with_signs {look = look} {env = env} {signs = signs} {e = e} {es = es} {x = x} {v = v} p h = record {
  leads = λ go.
      let one : Value → Run = λ w. computed (signed signs w) env (λ u. go (Called u)) in
      from look _ (reading e env one) (go (Called v)) es (part-signed signs e env go)
      (subst (λ r. Leads (model_of look) (reading e env one) es r) (ap (λ r. computed r env (λ u. go (Called u))) h) (with_value look env e es x p one));
}

pub denial : {look : Key → KeyResult} {env : Env} {count : ℕ} {e : Expr} {es : List Event} {x v : Value} → Comes look env e es x → denied count x ≡ Ok v → Comes look env (expr.Not count e) es v
denial {look = look} {env = env} {count = count} {e = e} {es = es} {x = x} {v = v} p h = record {
  leads = λ go.
      let one : Value → Run = λ w. computed (denied count w) env (λ u. go (Called u)) in
      from look _ (reading e env one) (go (Called v)) es (part-not count e env go)
      (subst (λ r. Leads (model_of look) (reading e env one) es r) (ap (λ r. computed r env (λ u. go (Called u))) h) (with_value look env e es x p one));
}

-- ---- `or`, where the flag is true, and `and`

-- the parts behind one of this value
pub record PartsCome (look : Key → KeyResult) (env : Env) (decides : Bool) (parts : List Expr) (x : Value) (es : List Event) (v : Value) : Type 0 where
  pub leads : (go : Value → Run) → Leads (model_of look) (deciding_from decides (map valued (map part_read parts)) x env go) es (go v)

pub last_part : {look : Key → KeyResult} {env : Env} {decides : Bool} {x : Value} → PartsCome look env decides [] x [] x
last_part = record { leads = λ go. refl }

-- the part before these decides
pub part_decides : {look : Key → KeyResult} {env : Env} {decides b : Bool} {e : Expr} {rest : List Expr} {x : Value} → truth x ≡ Ok b → beq b decides ≡ true → PartsCome look env decides (e ∷ rest) x [] x
part_decides {env = env} {decides = decides} {e = e} {rest = rest} {x = x} t h = record {
  leads = λ go.
      let other : Run = reading e env (λ w. deciding_from decides (map valued (map part_read rest)) w env go) in
      ap (λ r. computed r env (λ c. if beq c decides then go x else other)) t ∙ ap (λ (c : Bool). if c then go x else other) h;
}

-- or it does not
pub part_passed : {look : Key → KeyResult} {env : Env} {decides b : Bool} {e : Expr} {rest : List Expr} {x y v : Value} {es fs : List Event} → truth x ≡ Ok b → beq b decides ≡ false → Comes look env e es y → PartsCome look env decides rest y fs v → PartsCome look env decides (e ∷ rest) x (es ++ fs) v
part_passed {look = look} {env = env} {decides = decides} {e = e} {rest = rest} {x = x} {y = y} {v = v} {es = es} {fs = fs} t h p q = record {
  leads = λ go.
      let one : Value → Run = λ w. deciding_from decides (map valued (map part_read rest)) w env go in
      from look _ (reading e env one) (go v) (es ++ fs) (ap (λ r. computed r env (λ c. if beq c decides then go x else reading e env one)) t ∙ ap (λ (c : Bool). if c then go x else reading e env one) h)
      (leads_append (model_of look) (reading e env one) (one y) (go v) es fs (with_value look env e es y p one) (q.leads go));
}

module _ (look : Key → KeyResult) (env : Env) (decides : Bool) (e : Expr) (rest : List Expr) (es fs : List Event) (x v : Value) (p : Comes look env e es x) (q : PartsCome look env decides rest x fs v) where
  parts_lead : (go : Value → Run) → Leads (model_of look) (deciding decides (map valued (map part_read (e ∷ rest))) env go) (es ++ fs) (go v)
  parts_lead go =
      let one : Value → Run = λ w. deciding_from decides (map valued (map part_read rest)) w env go in
      leads_append (model_of look) (reading e env one) (one x) (go v) es fs (with_value look env e es x p one) (q.leads go)

pub any_part : {look : Key → KeyResult} {env : Env} {e : Expr} {rest : List Expr} {es fs : List Event} {x v : Value} → Comes look env e es x → PartsCome look env true rest x fs v → Comes look env (expr.Or (e ∷ rest)) (es ++ fs) v
any_part {look = look} {env = env} {e = e} {rest = rest} {es = es} {fs = fs} {x = x} {v = v} p q = record {
  leads = λ go. from look _ (deciding true (map valued (map part_read (e ∷ rest))) env (λ u. go (Called u))) (go (Called v)) (es ++ fs) (part-or (e ∷ rest) env go) (parts_lead look env true e rest es fs x v p q (λ u. go (Called u)));
}

pub all_parts : {look : Key → KeyResult} {env : Env} {e : Expr} {rest : List Expr} {es fs : List Event} {x v : Value} → Comes look env e es x → PartsCome look env false rest x fs v → Comes look env (expr.And (e ∷ rest)) (es ++ fs) v
all_parts {look = look} {env = env} {e = e} {rest = rest} {es = es} {fs = fs} {x = x} {v = v} p q = record {
  leads = λ go. from look _ (deciding false (map valued (map part_read (e ∷ rest))) env (λ u. go (Called u))) (go (Called v)) (es ++ fs) (part-and (e ∷ rest) env go) (parts_lead look env false e rest es fs x v p q (λ u. go (Called u)));
}

-- ---- tuples

pub tuple : {look : Key → KeyResult} {env : Env} {items : List Expr} {es : List Event} {vs : List Value} → AllCome look env items es vs → is_allowed (Tup vs) ≡ true → Comes look env (expr.Tuple items) es (Tup vs)
tuple {look = look} {env = env} {items = items} {es = es} {vs = vs} p allowed = record {
  leads = λ go.
      let last : List Value → Run = λ us. computed (made (Tup us)) env (λ u. go (Called u)) in
      from look _ (values_from (map valued (map part_read items)) [] env last) (go (Called (Tup vs))) es (part-tuple items env go)
      (subst (λ r. Leads (model_of look) (values_from (map valued (map part_read items)) [] env last) es r) (ap (λ (b : Bool). computed (if b then Ok (Tup vs) else Err TooLarge) env (λ u. go (Called u))) allowed) (p.leads [] last));
}

-- ---- `is None` and `is not None`

pub is_none : comparison_read comparison.IsNone ≡ IsNothing true
is_none = search (the_lemmas, rules)

pub is_not_none : comparison_read comparison.IsNotNone ≡ IsNothing false
is_not_none = search (the_lemmas, rules)

-- the last part of a chain that asks whether a value is None
pub none_asked : {look : Key → KeyResult} {env : Env} {x : Value} {c : Comparison} {asked holds : Bool} → comparison_read c ≡ IsNothing asked → beq (nothing_in (out-Value x)) asked ≡ holds → ChainComes look env x (c ∷ []) [] (Flag holds)
none_asked {env = env} {x = x} {c = c} {asked = asked} {holds = holds} is h = record {
  leads = λ go.
      ap (λ (b : Comparing). compared_from (b ∷ []) x env go) is ∙ ap (λ (b : Bool). if b then go (Flag true) else go (Flag false)) h ∙ chosen holds (λ b. go (Flag b));
}
  where
    chosen : (b : Bool) (go : Bool → Run) → (if b then go true else go false) ≡ go b
    chosen true go = refl
    chosen false go = refl

-- ---- what operators give for whole numbers

pub truth_int : (n : ℤ) → truth (Int n) ≡ Ok (not (int_eq n (pos 0)))
truth_int n = ap truth_in (out_int n)

pub truth_flag : (b : Bool) → truth (Flag b) ≡ Ok b
truth_flag b = ap truth_in (out_flag b)

order_int : (n : ℤ) → order (Int n) ≡ plain_order (Int n)
order_int n = ap order (sym (rolls-Int n)) ∙ para-roll-Value _ _ _ _ _ _ (Value-F.Int n)

pub less_int : (m n : ℤ) → gives op.Lt (Int m ∷ Int n ∷ []) ≡ Ok (Flag (is_lt (number_order (Whole m) (Whole n))))
less_int m n =
    ap (λ (content : Content). or_else (held is_lt (if has_order content then order (Int m) (Int n) else None)) (Err TypeMismatch)) (out_int m)
    ∙ ap (λ (f : Value → Standing). or_else (held is_lt (f (Int n))) (Err TypeMismatch)) (order_int m)

pub not_int : (n : ℤ) → gives op.Not (Int n ∷ []) ≡ Ok (Flag (not (not (int_eq n (pos 0)))))
not_int n = ap (λ r. or_else (turned r) (Err TypeMismatch)) (truth_int n)

pub not_flag : (b : Bool) → gives op.Not (Flag b ∷ []) ≡ Ok (Flag (not b))
not_flag b = ap (λ r. or_else (turned r) (Err TypeMismatch)) (truth_flag b)
