-- The parsers of statements are exact.
use Rattle.std.proofs.Common.{◌≡◌, ℕ, Bool, true, false, ◌||◌, List, [], ◌∷◌, ◌++◌, Option, Some, None, refl, sym, ap, subst, ◌∙◌, append_assoc, inl, inr}
use Rattle.mx_syntax.specs.declared.expr.Expr.{Expr}
use Rattle.mx_syntax.specs.declared.stmt.Stmt.{Stmt}
use Rattle.mx_syntax.specs.declared.stmt.Stmt.TheVariants as stmt
use Rattle.mx_syntax.specs.declared.stmt.IfArm.{IfArm}
use Rattle.mx_syntax.specs.declared.stmt.ArithOp.{ArithOp}
use Rattle.mx_syntax.specs.declared.stmt.ArithOp.TheVariants.{Add, Sub, Mul}
use Rattle.mx_syntax.specs.declared.stmt.ItemEntry.{ItemEntry}
use Rattle.mx_grammar.specs.declared.word.Symbol.{Symbol as Symbols}
use Rattle.mx_grammar.specs.declared.word.Symbol.TheVariants as symbol
use Rattle.mx_grammar.specs.declared.word.Word.{Word}
use Rattle.mx_grammar.specs.declared.word.Word.TheVariants.{Name, Symbol}
use Rattle.mx_grammar.specs.Words.{is}
use Rattle.mx_grammar.specs.Grammar.{Parts, Line}
use Rattle.mx_grammar.specs.Reading.{Words, Parser, sees}
use Rattle.mx_grammar.specs.AddressParsers.{name_of}
use Rattle.mx_grammar.proofs.Exact.{Rel, Kinds, Stops, none, stops_none, or, or_stops, Exists, Nothing, Then, Either, One}
use Rattle.mx_grammar.proofs.Symbols.{apart, unlike}
use Rattle.mx_grammar.proofs.Rules.{Knot, Rule, plain, pure_rule, accept_rule, then_rule, iff_rule, any_rule, map_rule, choose_rule, behind_rule, Behind, marked, mark, mapped, mapping, sees_mark, some_behind, some_mapped, some_then, alone, marked_alone, single, behind_is}
use Rattle.mx_grammar.proofs.Lists.{found_rule}
use Rattle.mx_grammar.proofs.AddressRules.{name_inner, one_name, named}
use Rattle.mx_parse.specs.Statements.{Simple, Elif, Else, Statement}
use Rattle.mx_parse.specs.StatementParsers.{valued, given, returning, returned, change, changed, simple, headed, arm_of, arm, elif, elifs, otherwise, branches, each, statement}

-- ---- tokens

-- a statement begins with one of these
abbrev pub starts : Kinds
starts (Name n) = true
starts (Symbol symbol.If) = true
starts (Symbol symbol.For) = true
starts (Symbol symbol.Pass) = true
starts (Symbol symbol.Return) = true
starts _ = false

abbrev pub after_if : Kinds
after_if = or (is symbol.Elif) (is symbol.Else)

pub starts_apart : (t : Word) → starts t ≡ true → or (is symbol.Dedent) after_if t ≡ false
starts_apart (Symbol symbol.If) h = cc
starts_apart _ h = cc

pub starts_no_newline : (t : Word) → starts t ≡ true → is symbol.Newline t ≡ false
starts_no_newline = unlike starts symbol.Newline refl

-- ---- what is read first

pub some_nothing : {A : Type 0} (a : A) → Exists (Nothing a)
some_nothing a = record { tokens = []; tree = a; spells = (refl, refl) }

pub then_sees : {A B : Type 0} (R : Rel A) (Q : A → Rel B) (F : Kinds) (c : Bool) → ((u rest : Words) (a : A) → R u a → sees F (u ++ rest) ≡ c) → (u rest : Words) (b : B) → Then R Q u b → sees F (u ++ rest) ≡ c
then_sees R Q F c begins u rest b h = ap (sees F) (ap (λ (v : Words). v ++ rest) h.parts ∙ append_assoc h.left h.right rest) ∙ begins h.left (h.right ++ rest) h.tree h.first

pub name_sees : (F : Kinds) (c : Bool) → ((n : List ℕ) → F (Name n) ≡ c) → (u rest : Words) (n : List ℕ) → One name_of u n → sees F (u ++ rest) ≡ c
name_sees F c h u rest n o = ap (λ (v : Words). sees F (v ++ rest)) (named u n o) ∙ h n

-- what is asked of what spells an expression, where none of F follows
pub record Expressive (F : Kinds) (E : Rel Expr) : Type 0 where
  pub colon : F (Symbol symbol.Colon) ≡ false
  pub newline : F (Symbol symbol.Newline) ≡ false
  pub some : Exists E
  pub no_newline : (u rest : Words) (x : Expr) → E u x → sees (is symbol.Newline) (u ++ rest) ≡ false
  pub no_curly : (u rest : Words) (x : Expr) → E u x → sees (is symbol.OpenCurly) (u ++ rest) ≡ false

-- each display begins with a bracket
abbrev pub Displays : Rel (List ItemEntry) → Type 0
Displays Item = (u rest : Words) (entries : List ItemEntry) → Item u entries → sees (is symbol.OpenCurly) (u ++ rest) ≡ true

curly_no_newline : (t : Word) → is symbol.OpenCurly t ≡ true → is symbol.Newline t ≡ false
curly_no_newline = unlike (is symbol.OpenCurly) symbol.Newline refl

module _ (E : Rel Expr) (Item : Rel (List ItemEntry)) where
  -- ---- an expression or a display, to the end of the line

  abbrev pub Ended : {A B : Type 0} → Rel A → (A → B) → Rel B
  Ended R build = Then R (λ a. Behind symbol.Newline (Nothing (build a)))

  pub ended_to : {A B : Type 0} (R : Rel A) (build : A → B) (S : Rel B) → ((w : Words) (a : A) → R w a → S (w ++ Symbol symbol.Newline ∷ []) (build a)) → (u : Words) (b : B) → Ended R build u b → S u b
  ended_to R build S to u b h =
      let m = marked_alone symbol.Newline (build h.tree) h.right b h.second in
      subst (λ (w : Words). S w b) (sym (h.parts ∙ ap (λ (v : Words). h.left ++ v) m.0)) (subst (S (h.left ++ Symbol symbol.Newline ∷ [])) (sym m.1) (to h.left h.tree h.first))

  pub is_ended : {A B : Type 0} (R : Rel A) (build : A → B) (u : Words) (a : A) → R u a → Ended R build (u ++ Symbol symbol.Newline ∷ []) (build a)
  is_ended R build u a h = record { left = u; right = Symbol symbol.Newline ∷ []; tree = a; parts = refl; first = h; second = mark symbol.Newline (Nothing (build a)) [] (build a) (refl, refl) }

  pub some_ended : {A B : Type 0} (R : Rel A) (build : A → B) → Exists R → Exists (Ended R build)
  some_ended R build some = record { tokens = some.tokens ++ Symbol symbol.Newline ∷ []; tree = build some.tree; spells = is_ended R build some.tokens some.tree some.spells }

  abbrev pub Given : {A : Type 0} → (List ItemEntry → A) → (Expr → A) → Rel A
  Given item value = Either (Ended Item item) (Ended E value)

  -- ---- simple statements

  abbrev Leave : Rel Stmt
  Leave = Behind symbol.Newline (Nothing (stmt.Return None))

  abbrev Returned : Rel Stmt
  Returned = Either Leave (Given (λ entries. stmt.ReturnItem entries) returning)

  abbrev Changing : Rel ArithOp
  Changing = Either (Behind symbol.PlusAssign (Nothing Add)) (Either (Behind symbol.MinusAssign (Nothing Sub)) (Behind symbol.TimesAssign (Nothing Mul)))

  abbrev Changed : List ℕ → Rel Stmt
  Changed n = Either (Behind symbol.Assign (Ended E (λ x. stmt.Assign n x))) (Then Changing (λ op. Ended E (λ x. stmt.Change n op x)))

  abbrev Passed : Rel Stmt
  Passed = Behind symbol.Newline (Nothing stmt.Pass)

  abbrev SimpleIs : Rel Stmt
  SimpleIs = Either (Behind symbol.Pass Passed) (Either (Behind symbol.Return Returned) (Then (One name_of) Changed))

  to_returned : (v : Words) (s : Stmt) → Returned v s → Line (Simple E Item) (Symbol symbol.Return ∷ v) s
  to_returned v s (inl h) = single (λ w t. Line (Simple E Item) (Symbol symbol.Return ∷ w) t) symbol.Newline (stmt.Return None) (Line.line Simple.leave) v s h
  to_returned v s (inr (inl h)) = ended_to Item (λ entries. stmt.ReturnItem entries) (λ w t. Line (Simple E Item) (Symbol symbol.Return ∷ w) t) (λ w es k. Line.line (Simple.item k)) v s h
  to_returned v s (inr (inr h)) = ended_to E returning (λ w t. Line (Simple E Item) (Symbol symbol.Return ∷ w) t) (λ w x k. Line.line (Simple.value k)) v s h

  to_change : (n : List ℕ) (u : Words) (op : ArithOp) (w : Words) (x : Expr) → Changing u op → E w x → Line (Simple E Item) (Name n ∷ (u ++ (w ++ Symbol symbol.Newline ∷ []))) (stmt.Change n op x)
  to_change n u op w x (inl h) k = single (λ v o. Line (Simple E Item) (Name n ∷ (v ++ (w ++ Symbol symbol.Newline ∷ []))) (stmt.Change n o x)) symbol.PlusAssign Add (Line.line (Simple.add k)) u op h
  to_change n u op w x (inr (inl h)) k = single (λ v o. Line (Simple E Item) (Name n ∷ (v ++ (w ++ Symbol symbol.Newline ∷ []))) (stmt.Change n o x)) symbol.MinusAssign Sub (Line.line (Simple.sub k)) u op h
  to_change n u op w x (inr (inr h)) k = single (λ v o. Line (Simple E Item) (Name n ∷ (v ++ (w ++ Symbol symbol.Newline ∷ []))) (stmt.Change n o x)) symbol.TimesAssign Mul (Line.line (Simple.mul k)) u op h

  to_changed : (n : List ℕ) (v : Words) (s : Stmt) → Changed n v s → Line (Simple E Item) (Name n ∷ v) s
  to_changed n v s (inl h) =
      behind_is symbol.Assign (Ended E (λ x. stmt.Assign n x)) (λ w t. Line (Simple E Item) (Name n ∷ w) t)
      (λ w t k. ended_to E (λ x. stmt.Assign n x) (λ z r. Line (Simple E Item) (Name n ∷ Symbol symbol.Assign ∷ z) r) (λ z x l. Line.line (Simple.assign l)) w t k) v s h
  to_changed n v s (inr h) =
      subst (λ (w : Words). Line (Simple E Item) (Name n ∷ w) s) (sym h.parts)
      (ended_to E (λ x. stmt.Change n h.tree x) (λ w t. Line (Simple E Item) (Name n ∷ (h.left ++ w)) t) (λ w x k. to_change n h.left h.tree w x h.first k) h.right s h.second)

  to_simple : (u : Words) (s : Stmt) → SimpleIs u s → Line (Simple E Item) u s
  to_simple u s (inl h) = behind_is symbol.Pass Passed (Line (Simple E Item)) (λ v t k. single (λ w r. Line (Simple E Item) (Symbol symbol.Pass ∷ w) r) symbol.Newline stmt.Pass (Line.line Simple.pass) v t k) u s h
  to_simple u s (inr (inl h)) = behind_is symbol.Return Returned (Line (Simple E Item)) to_returned u s h
  to_simple u s (inr (inr h)) = subst (λ (w : Words). Line (Simple E Item) w s) (sym (h.parts ∙ ap (λ (w : Words). w ++ h.right) (named h.left h.tree h.first))) (to_changed h.tree h.right s h.second)

  from_name : (n : List ℕ) (v : Words) (s : Stmt) → Changed n v s → SimpleIs (Name n ∷ v) s
  from_name n v s h = inr (inr (record { left = Name n ∷ []; right = v; tree = n; parts = refl; first = one_name n; second = h }))

  changes : (n : List ℕ) (sign : Symbols) (op : ArithOp) (u : Words) (x : Expr) → Changing (Symbol sign ∷ []) op → E u x → SimpleIs (Name n ∷ Symbol sign ∷ u ++ Symbol symbol.Newline ∷ []) (stmt.Change n op x)
  changes n sign op u x c h =
      from_name n (Symbol sign ∷ u ++ Symbol symbol.Newline ∷ []) (stmt.Change n op x)
      (inr (record { left = Symbol sign ∷ []; right = u ++ Symbol symbol.Newline ∷ []; tree = op; parts = refl; first = c; second = is_ended E (λ y. stmt.Change n op y) u x h }))

  from_simple : (u : Words) (s : Stmt) → Simple E Item u s → SimpleIs (u ++ Symbol symbol.Newline ∷ []) s
  from_simple _ _ Simple.pass = inl (mark symbol.Pass Passed (Symbol symbol.Newline ∷ []) stmt.Pass (mark symbol.Newline (Nothing stmt.Pass) [] stmt.Pass (refl, refl)))
  from_simple _ _ Simple.leave = inr (inl (mark symbol.Return Returned (Symbol symbol.Newline ∷ []) (stmt.Return None) (inl (mark symbol.Newline (Nothing (stmt.Return None)) [] (stmt.Return None) (refl, refl)))))
  from_simple _ _ (Simple.value {u} {x} h) = inr (inl (mark symbol.Return Returned (u ++ Symbol symbol.Newline ∷ []) (stmt.Return (Some x)) (inr (inr (is_ended E returning u x h)))))
  from_simple _ _ (Simple.item {u} {entries} h) = inr (inl (mark symbol.Return Returned (u ++ Symbol symbol.Newline ∷ []) (stmt.ReturnItem entries) (inr (inl (is_ended Item (λ es. stmt.ReturnItem es) u entries h)))))
  from_simple _ _ (Simple.assign {n} {u} {x} h) =
      from_name n (Symbol symbol.Assign ∷ u ++ Symbol symbol.Newline ∷ []) (stmt.Assign n x) (inl (mark symbol.Assign (Ended E (λ y. stmt.Assign n y)) (u ++ Symbol symbol.Newline ∷ []) (stmt.Assign n x) (is_ended E (λ y. stmt.Assign n y) u x h)))
  from_simple _ _ (Simple.add {n} {u} {x} h) = changes n symbol.PlusAssign Add u x (inl (alone symbol.PlusAssign Add)) h
  from_simple _ _ (Simple.sub {n} {u} {x} h) = changes n symbol.MinusAssign Sub u x (inr (inl (alone symbol.MinusAssign Sub))) h
  from_simple _ _ (Simple.mul {n} {u} {x} h) = changes n symbol.TimesAssign Mul u x (inr (inr (alone symbol.TimesAssign Mul))) h

  from_line : (u : Words) (s : Stmt) → Line (Simple E Item) u s → SimpleIs u s
  from_line _ _ (Line.line {u} {x} h) = from_simple u x h

  -- a simple statement begins neither a loop nor a branch
  simple_sees : (G : Kinds) (c : Bool) → G (Symbol symbol.Pass) ≡ c → G (Symbol symbol.Return) ≡ c → ((n : List ℕ) → G (Name n) ≡ c) → (u rest : Words) (s : Stmt) → Simple E Item u s → sees G (u ++ rest) ≡ c
  simple_sees G c p r n _ rest _ Simple.pass = p
  simple_sees G c p r n _ rest _ Simple.leave = r
  simple_sees G c p r n _ rest _ (Simple.value h) = r
  simple_sees G c p r n _ rest _ (Simple.item h) = r
  simple_sees G c p r n _ rest _ (Simple.assign {n = name} h) = n name
  simple_sees G c p r n _ rest _ (Simple.add {n = name} h) = n name
  simple_sees G c p r n _ rest _ (Simple.sub {n = name} h) = n name
  simple_sees G c p r n _ rest _ (Simple.mul {n = name} h) = n name

  pub line_sees : (G : Kinds) (c : Bool) → G (Symbol symbol.Pass) ≡ c → G (Symbol symbol.Return) ≡ c → ((n : List ℕ) → G (Name n) ≡ c) → (u rest : Words) (s : Stmt) → Line (Simple E Item) u s → sees G (u ++ rest) ≡ c
  line_sees G c p r n _ rest _ (Line.line {u} {x} h) = ap (sees G) (append_assoc u (Symbol symbol.Newline ∷ []) rest) ∙ simple_sees G c p r n u (Symbol symbol.Newline ∷ rest) x h

  -- ---- loops and branches

  module _ (In : Rel (List Stmt)) where
    abbrev pub Headed : {A : Type 0} → (List Stmt → A) → Rel A
    Headed build = Behind symbol.Colon (Then In (λ b. Nothing (build b)))

    abbrev ArmIs : Rel IfArm
    ArmIs = Then E (λ test. Headed (arm_of test))

    abbrev Otherwise : List IfArm → Rel Stmt
    Otherwise arms = Either (Behind symbol.Else (Headed (λ b. stmt.If arms (Some b)))) (Nothing (stmt.If arms None))

    abbrev Others : IfArm → Rel (List IfArm)
    Others first = Then (Parts (Elif E In)) (λ xs. Nothing ((first ∷ []) ++ xs))

    abbrev Branches : Rel Stmt
    Branches = Behind symbol.If (Then ArmIs (λ first. Then (Others first) Otherwise))

    abbrev Over : List ℕ → Rel Stmt
    Over n = Behind symbol.In (Then E (λ over. Headed (λ b. stmt.For n over b)))

    abbrev Each : Rel Stmt
    Each = Behind symbol.For (Then (One name_of) Over)

    abbrev StatementIs : Rel Stmt
    StatementIs = Either Branches (Either Each (Line (Simple E Item)))

    pub record IsHeaded {A : Type 0} (build : List Stmt → A) (u : Words) (a : A) : Type 0 where
      pub words : Words
      pub body : List Stmt
      pub parts : u ≡ Symbol symbol.Colon ∷ words
      pub spells : In words body
      pub built : a ≡ build body

    pub headed_is : {A : Type 0} (build : List Stmt → A) (u : Words) (a : A) → Headed build u a → IsHeaded build u a
    headed_is build u a h =
        let m = marked symbol.Colon (Then In (λ b. Nothing (build b))) u a h in
        let p = mapped In build m.0 a m.2 in
        record { words = m.0; body = p.0; parts = m.1; spells = p.1; built = p.2 }

    pub is_headed : {A : Type 0} (build : List Stmt → A) (u : Words) (b : List Stmt) → In u b → Headed build (Symbol symbol.Colon ∷ u) (build b)
    is_headed build u b h = mark symbol.Colon (Then In (λ c. Nothing (build c))) u (build b) (mapping In build u b h)

    pub some_headed : {A : Type 0} (build : List Stmt → A) → Exists In → Exists (Headed build)
    some_headed build some = record { tokens = Symbol symbol.Colon ∷ some.tokens; tree = build some.tree; spells = is_headed build some.tokens some.tree some.spells }

    record IsArm (u : Words) (a : IfArm) : Type 0 where
      front : Words
      back : Words
      test : Expr
      body : List Stmt
      parts : u ≡ front ++ Symbol symbol.Colon ∷ back
      tests : E front test
      spells : In back body
      built : a ≡ arm_of test body

    arm_is : (u : Words) (a : IfArm) → ArmIs u a → IsArm u a
    arm_is u a h =
        let k = headed_is (arm_of h.tree) h.right a h.second in
        record { front = h.left; back = k.words; test = h.tree; body = k.body; parts = h.parts ∙ ap (λ (v : Words). h.left ++ v) k.parts; tests = h.first; spells = k.spells; built = k.built }

    is_arm : (u v : Words) (test : Expr) (body : List Stmt) → E u test → In v body → ArmIs (u ++ Symbol symbol.Colon ∷ v) (arm_of test body)
    is_arm u v test body h k = record { left = u; right = Symbol symbol.Colon ∷ v; tree = test; parts = refl; first = h; second = is_headed (arm_of test) v body k }

    to_elif : (u : Words) (a : IfArm) → Behind symbol.Elif ArmIs u a → Elif E In u a
    to_elif u a h =
        let m = marked symbol.Elif ArmIs u a h in
        let k = arm_is m.0 a m.2 in
        subst (λ (v : Words). Elif E In v a) (sym (m.1 ∙ ap (λ (v : Words). Symbol symbol.Elif ∷ v) k.parts)) (subst (Elif E In (Symbol symbol.Elif ∷ k.front ++ Symbol symbol.Colon ∷ k.back)) (sym k.built) (Elif.elif k.tests k.spells))

    from_elif : (u : Words) (a : IfArm) → Elif E In u a → Behind symbol.Elif ArmIs u a
    from_elif _ _ (Elif.elif {u} {v} {test} {body} h k) = mark symbol.Elif ArmIs (u ++ Symbol symbol.Colon ∷ v) (arm_of test body) (is_arm u v test body h k)

    elif_begins : (u rest : Words) (a : IfArm) → Elif E In u a → sees (is symbol.Elif) (u ++ rest) ≡ true
    elif_begins _ rest _ (Elif.elif h k) = refl

    record IsOther (arms : List IfArm) (u : Words) (s : Stmt) : Type 0 where
      other : Option (List Stmt)
      spells : Else In u other
      built : s ≡ stmt.If arms other

    other_is : (arms : List IfArm) (u : Words) (s : Stmt) → Otherwise arms u s → IsOther arms u s
    other_is arms u s (inl h) =
        let m = marked symbol.Else (Headed (λ b. stmt.If arms (Some b))) u s h in
        let k = headed_is (λ b. stmt.If arms (Some b)) m.0 s m.2 in
        record { other = Some k.body; spells = subst (λ (v : Words). Else In v (Some k.body)) (sym (m.1 ∙ ap (λ (v : Words). Symbol symbol.Else ∷ v) k.parts)) (Else.other k.spells); built = k.built }
    other_is arms u s (inr h) = record { other = None; spells = subst (λ (v : Words). Else In v None) (sym h.0) Else.none; built = h.1 }

    is_other : (arms : List IfArm) (u : Words) (other : Option (List Stmt)) → Else In u other → Otherwise arms u (stmt.If arms other)
    is_other arms _ _ Else.none = inr (refl, refl)
    is_other arms _ _ (Else.other {u} {body} h) = inl (mark symbol.Else (Headed (λ b. stmt.If arms (Some b))) (Symbol symbol.Colon ∷ u) (stmt.If arms (Some body)) (is_headed (λ b. stmt.If arms (Some b)) u body h))

    to_branches : (u : Words) (s : Stmt) → Branches u s → Statement E Item In u s
    to_branches u s h =
        let m = marked symbol.If (Then ArmIs (λ first. Then (Others first) Otherwise)) u s h in
        let t = m.2 in
        let a = arm_is t.left t.tree t.first in
        let c = t.second in
        let p = mapped (Parts (Elif E In)) (λ xs. (t.tree ∷ []) ++ xs) c.left c.tree c.first in
        let o = other_is c.tree c.right s c.second in
        let arms : c.tree ≡ arm_of a.test a.body ∷ p.0 = p.2 ∙ ap (λ (first : IfArm). first ∷ p.0) a.built in
        let e : u ≡ Symbol symbol.If ∷ a.front ++ Symbol symbol.Colon ∷ a.back ++ (c.left ++ c.right) =
        m.1 ∙ ap (λ (v : Words). Symbol symbol.If ∷ v) (t.parts ∙ ap (λ (v : Words). v ++ t.right) a.parts ∙ ap (λ (v : Words). (a.front ++ Symbol symbol.Colon ∷ a.back) ++ v) c.parts) in
        subst (λ (v : Words). Statement E Item In v s) (sym e)
        (subst (Statement E Item In (Symbol symbol.If ∷ a.front ++ Symbol symbol.Colon ∷ a.back ++ (c.left ++ c.right))) (sym (o.built ∙ ap (λ (l : List IfArm). stmt.If l o.other) arms)) (Statement.branches a.tests a.spells p.1 o.spells))

    to_each : (u : Words) (s : Stmt) → Each u s → Statement E Item In u s
    to_each u s h =
        let m = marked symbol.For (Then (One name_of) Over) u s h in
        let t = m.2 in
        let n = named t.left t.tree t.first in
        let i = marked symbol.In (Then E (λ over. Headed (λ b. stmt.For t.tree over b))) t.right s t.second in
        let o = i.2 in
        let k = headed_is (λ b. stmt.For t.tree o.tree b) o.right s o.second in
        let e : u ≡ Symbol symbol.For ∷ Name t.tree ∷ Symbol symbol.In ∷ o.left ++ Symbol symbol.Colon ∷ k.words =
        m.1 ∙ ap (λ (v : Words). Symbol symbol.For ∷ v) (t.parts ∙ ap (λ (v : Words). v ++ t.right) n ∙ ap (λ (v : Words). Name t.tree ∷ v) (i.1 ∙ ap (λ (v : Words). Symbol symbol.In ∷ v) (o.parts ∙ ap (λ (v : Words). o.left ++ v) k.parts))) in
        subst (λ (v : Words). Statement E Item In v s) (sym e)
        (subst (Statement E Item In (Symbol symbol.For ∷ Name t.tree ∷ Symbol symbol.In ∷ o.left ++ Symbol symbol.Colon ∷ k.words)) (sym k.built) (Statement.each o.first k.spells))

    to_statement : (u : Words) (s : Stmt) → StatementIs u s → Statement E Item In u s
    to_statement u s (inl h) = to_branches u s h
    to_statement u s (inr (inl h)) = to_each u s h
    to_statement u s (inr (inr h)) = Statement.simple h

    from_statement : (u : Words) (s : Stmt) → Statement E Item In u s → StatementIs u s
    from_statement _ _ (Statement.simple h) = inr (inr h)
    from_statement _ _ (Statement.each {n} {u} {v} {over} {body} h k) =
        inr (inl (mark symbol.For (Then (One name_of) Over) (Name n ∷ Symbol symbol.In ∷ u ++ Symbol symbol.Colon ∷ v) (stmt.For n over body) (record {
          left = Name n ∷ [];
          right = Symbol symbol.In ∷ u ++ Symbol symbol.Colon ∷ v;
          tree = n;
          parts = refl;
          first = one_name n;
          second = mark symbol.In (Then E (λ o. Headed (λ b. stmt.For n o b))) (u ++ Symbol symbol.Colon ∷ v) (stmt.For n over body) (record { left = u; right = Symbol symbol.Colon ∷ v; tree = over; parts = refl; first = h; second = is_headed (λ b. stmt.For n over b) v body k });
        })))
    from_statement _ _ (Statement.branches {u} {v} {w} {z} {test} {body} {arms} {other} h k others last) =
        inl (mark symbol.If (Then ArmIs (λ first. Then (Others first) Otherwise)) (u ++ Symbol symbol.Colon ∷ v ++ (w ++ z)) (stmt.If (arm_of test body ∷ arms) other) (record {
          left = u ++ Symbol symbol.Colon ∷ v;
          right = w ++ z;
          tree = arm_of test body;
          parts = refl;
          first = is_arm u v test body h k;
          second = record { left = w; right = z; tree = arm_of test body ∷ arms; parts = refl; first = mapping (Parts (Elif E In)) (λ xs. (arm_of test body ∷ []) ++ xs) w arms others; second = is_other (arm_of test body ∷ arms) z other last };
        }))

    pub statement_begins : (u rest : Words) (s : Stmt) → Statement E Item In u s → sees starts (u ++ rest) ≡ true
    statement_begins _ rest _ (Statement.simple {u} {s} h) = line_sees starts true refl refl (λ n. refl) u rest s h
    statement_begins _ rest _ (Statement.each h k) = refl
    statement_begins _ rest _ (Statement.branches h k others last) = refl

module _ {X : Type 0} {K : Knot X} {k : ℕ} {F : Kinds} {E : Rel Expr} {Item : Rel (List ItemEntry)} {expression : X → Parser Expr} {display : X → Parser (List ItemEntry)}
    (x : Expressive F E) (ex : Rule K k (plain F) E expression) (displays : Displays Item) (item : Rule K k (plain none) Item display) where
  pub valued_rule : {A : Type 0} (build : Expr → A) → Rule K k (plain none) (Ended E Item E build) (λ i. valued build (expression i))
  unfolding valued
  valued_rule build =
      then_rule ex (λ y. behind_rule symbol.Newline refl (some_nothing (build y)) (pure_rule (plain none) (build y)))
      (λ y v rest b h s. sees_mark symbol.Newline (Nothing (build y)) F false x.newline v rest b h)
      (λ y. some_behind symbol.Newline (some_nothing (build y)))

  pub given_rule : {A : Type 0} (build : List ItemEntry → A) (value : Expr → A) → Rule K k (plain none) (Given E Item build value) (λ i. given build value (expression i) (display i))
  unfolding given
  given_rule build value =
      choose_rule (is symbol.OpenCurly)
      (then_rule item (λ es. behind_rule symbol.Newline refl (some_nothing (build es)) (pure_rule (plain none) (build es))) (λ es v rest b h s. stops_none (v ++ rest)) (λ es. some_behind symbol.Newline (some_nothing (build es))))
      (valued_rule value)
      (λ u rest b h s. then_sees Item (λ es. Behind symbol.Newline (Nothing (build es))) (is symbol.OpenCurly) true displays u rest b h)
      (λ u rest b h s. then_sees E (λ y. Behind symbol.Newline (Nothing (value y))) (is symbol.OpenCurly) false x.no_curly u rest b h)

  returned_rule : Rule K k (plain none) (Returned E Item) (λ i. returned (expression i) (display i))
  unfolding returned
  returned_rule =
      choose_rule (is symbol.Newline) (behind_rule symbol.Newline refl (some_nothing (stmt.Return None)) (pure_rule (plain none) (stmt.Return None))) (given_rule (λ entries. stmt.ReturnItem entries) returning)
      (λ u rest s h st. sees_mark symbol.Newline (Nothing (stmt.Return None)) (is symbol.Newline) true refl u rest s h)
      (λ u rest s h st. elim h [
        | inl w ↦ apart (is symbol.OpenCurly) (is symbol.Newline) curly_no_newline (u ++ rest) (then_sees Item (λ es. Behind symbol.Newline (Nothing (stmt.ReturnItem es))) (is symbol.OpenCurly) true displays u rest s w)
        | inr w ↦ then_sees E (λ y. Behind symbol.Newline (Nothing (returning y))) (is symbol.Newline) false x.no_newline u rest s w
      ])

  change_rule : Rule K k (plain none) (Changing E Item) (λ _. change)
  unfolding change
  change_rule =
      choose_rule (is symbol.PlusAssign) (behind_rule symbol.PlusAssign refl (some_nothing Add) (pure_rule (plain none) Add))
      (choose_rule (is symbol.MinusAssign) (behind_rule symbol.MinusAssign refl (some_nothing Sub) (pure_rule (plain none) Sub)) (behind_rule symbol.TimesAssign refl (some_nothing Mul) (pure_rule (plain none) Mul))
      (λ u rest op h s. sees_mark symbol.MinusAssign (Nothing Sub) (is symbol.MinusAssign) true refl u rest op h)
      (λ u rest op h s. sees_mark symbol.TimesAssign (Nothing Mul) (is symbol.MinusAssign) false refl u rest op h))
      (λ u rest op h s. sees_mark symbol.PlusAssign (Nothing Add) (is symbol.PlusAssign) true refl u rest op h)
      (λ u rest op h s. elim h [ inl w ↦ sees_mark symbol.MinusAssign (Nothing Sub) (is symbol.PlusAssign) false refl u rest op w | inr w ↦ sees_mark symbol.TimesAssign (Nothing Mul) (is symbol.PlusAssign) false refl u rest op w ])

  change_begins : (u rest : Words) (op : ArithOp) → Changing E Item u op → sees (is symbol.Assign) (u ++ rest) ≡ false
  change_begins u rest op (inl w) = sees_mark symbol.PlusAssign (Nothing Add) (is symbol.Assign) false refl u rest op w
  change_begins u rest op (inr (inl w)) = sees_mark symbol.MinusAssign (Nothing Sub) (is symbol.Assign) false refl u rest op w
  change_begins u rest op (inr (inr w)) = sees_mark symbol.TimesAssign (Nothing Mul) (is symbol.Assign) false refl u rest op w

  changed_rule : (n : List ℕ) → Rule K k (plain none) (Changed E Item n) (λ i. changed (expression i) n)
  unfolding changed
  changed_rule n =
      choose_rule (is symbol.Assign) (behind_rule symbol.Assign refl (some_ended E Item E (λ y. stmt.Assign n y) x.some) (valued_rule (λ y. stmt.Assign n y)))
      (then_rule change_rule (λ op. valued_rule (λ y. stmt.Change n op y)) (λ op v rest b h s. stops_none (v ++ rest)) (λ op. some_ended E Item E (λ y. stmt.Change n op y) x.some))
      (λ u rest s h st. sees_mark symbol.Assign (Ended E Item E (λ y. stmt.Assign n y)) (is symbol.Assign) true refl u rest s h)
      (λ u rest s h st. then_sees (Changing E Item) (λ op. Ended E Item E (λ y. stmt.Change n op y)) (is symbol.Assign) false change_begins u rest s h)

  some_changed : (n : List ℕ) → Exists (Changed E Item n)
  some_changed n = let some = some_behind symbol.Assign (some_ended E Item E (λ y. stmt.Assign n y) x.some) in record { tokens = some.tokens; tree = some.tree; spells = inl some.spells }

  some_leave : Exists (Returned E Item)
  some_leave = let some = some_behind symbol.Newline (some_nothing (stmt.Return None)) in record { tokens = some.tokens; tree = some.tree; spells = inl some.spells }

  pub simple_rule : Rule K k (plain none) (Line (Simple E Item)) (λ i. simple (expression i) (display i))
  unfolding simple
  simple_rule =
      iff_rule (to_simple E Item) (from_line E Item)
      (choose_rule (is symbol.Pass) (behind_rule symbol.Pass refl (some_behind symbol.Newline (some_nothing stmt.Pass)) (behind_rule symbol.Newline refl (some_nothing stmt.Pass) (pure_rule (plain none) stmt.Pass)))
      (choose_rule (is symbol.Return) (behind_rule symbol.Return refl some_leave returned_rule) (then_rule (accept_rule name_of name_inner) changed_rule (λ n v rest b h s. stops_none (v ++ rest)) some_changed)
      (λ u rest s h st. sees_mark symbol.Return (Returned E Item) (is symbol.Return) true refl u rest s h)
      (λ u rest s h st. then_sees (One name_of) (Changed E Item) (is symbol.Return) false (name_sees (is symbol.Return) false (λ n. refl)) u rest s h))
      (λ u rest s h st. sees_mark symbol.Pass (Passed E Item) (is symbol.Pass) true refl u rest s h)
      (λ u rest s h st. elim h [
        | inl w ↦ sees_mark symbol.Return (Returned E Item) (is symbol.Pass) false refl u rest s w
        | inr w ↦ then_sees (One name_of) (Changed E Item) (is symbol.Pass) false (name_sees (is symbol.Pass) false (λ n. refl)) u rest s w
      ]))

  pub some_simple : Exists (Line (Simple E Item))
  some_simple = record { tokens = Symbol symbol.Pass ∷ Symbol symbol.Newline ∷ []; tree = stmt.Pass; spells = Line.line Simple.pass }

  module _ {In : Rel (List Stmt)} {body : X → Parser (List Stmt)} (some_body : Exists In) (b : Rule K k (plain none) In body) where
    pub headed_rule : {A : Type 0} (build : List Stmt → A) → Rule K k (plain none) (Headed E Item In build) (λ i. headed build (body i))
    unfolding headed
    headed_rule build = behind_rule symbol.Colon refl (some_mapped build some_body) (map_rule build b)

    headed_stops : {A : Type 0} (build : List Stmt → A) (v rest : Words) (a : A) → Headed E Item In build v a → Stops F (v ++ rest)
    headed_stops build v rest a h = sees_mark symbol.Colon (Then In (λ c. Nothing (build c))) F false x.colon v rest a h

    arm_rule : Rule K k (plain none) (ArmIs E Item In) (λ i. arm (expression i) (body i))
    unfolding arm
    arm_rule = then_rule ex (λ test. headed_rule (arm_of test)) (λ test v rest a h s. headed_stops (arm_of test) v rest a h) (λ test. some_headed E Item In (arm_of test) some_body)

    some_arm : Exists (ArmIs E Item In)
    some_arm = some_then x.some (λ test. some_headed E Item In (arm_of test) some_body)

    elif_rule : Rule K k (plain none) (Elif E In) (λ i. elif (expression i) (body i))
    unfolding elif
    elif_rule = iff_rule (to_elif E Item In) (from_elif E Item In) (behind_rule symbol.Elif refl some_arm arm_rule)

    elifs_rule : (first : IfArm) → Rule K k (plain (or (is symbol.Elif) none)) (Others E Item In first) (λ i. elifs (expression i) (body i) (first ∷ []))
    elifs_rule first = found_rule (is symbol.Elif) none (Elif E In) elif_rule (elif_begins E Item In) (λ t h. refl) (first ∷ [])

    some_elifs : (first : IfArm) → Exists (Others E Item In first)
    some_elifs first = record { tokens = []; tree = first ∷ []; spells = mapping (Parts (Elif E In)) (λ xs. (first ∷ []) ++ xs) [] [] Parts.none }

    otherwise_rule : (arms : List IfArm) → Rule K k (plain after_if) (Otherwise E Item In arms) (λ i. otherwise (body i) arms)
    unfolding otherwise
    otherwise_rule arms =
        choose_rule (is symbol.Else) (any_rule (behind_rule symbol.Else refl (some_headed E Item In (λ c. stmt.If arms (Some c)) some_body) (headed_rule (λ c. stmt.If arms (Some c))))) (pure_rule (plain after_if) (stmt.If arms None))
        (λ u rest s h st. sees_mark symbol.Else (Headed E Item In (λ c. stmt.If arms (Some c))) (is symbol.Else) true refl u rest s h)
        (λ u rest s h st. ap (λ (w : Words). sees (is symbol.Else) (w ++ rest)) h.0 ∙ (or_stops (is symbol.Elif) (is symbol.Else) rest st).1)

    some_otherwise : (arms : List IfArm) → Exists (Otherwise E Item In arms)
    some_otherwise arms = record { tokens = []; tree = stmt.If arms None; spells = inr (refl, refl) }

    elif_only : (ts : Words) → Stops (is symbol.Elif) ts → Stops (or (is symbol.Elif) none) ts
    elif_only [] h = refl
    elif_only (t ∷ ts) h = ap (λ (b : Bool). b || false) h

    otherwise_fits : (arms : List IfArm) (v rest : Words) (s : Stmt) → Otherwise E Item In arms v s → Stops after_if rest → Stops (or (is symbol.Elif) none) (v ++ rest)
    otherwise_fits arms v rest s (inl h) st = sees_mark symbol.Else (Headed E Item In (λ c. stmt.If arms (Some c))) (or (is symbol.Elif) none) false refl v rest s h
    otherwise_fits arms v rest s (inr h) st = ap (λ (w : Words). sees (or (is symbol.Elif) none) (w ++ rest)) h.0 ∙ elif_only rest (or_stops (is symbol.Elif) (is symbol.Else) rest st).0

    some_others : (first : IfArm) → Exists (Then (Others E Item In first) (Otherwise E Item In))
    some_others first = some_then (some_elifs first) some_otherwise

    branches_rule : Rule K k (plain after_if) (Branches E Item In) (λ i. branches (expression i) (body i))
    unfolding branches
    branches_rule =
        behind_rule symbol.If refl (some_then some_arm some_others)
        (then_rule arm_rule (λ first. then_rule (elifs_rule first) otherwise_rule (λ arms v rest s h st. otherwise_fits arms v rest s h st) some_otherwise) (λ first v rest s h st. stops_none (v ++ rest)) some_others)

    some_over : (n : List ℕ) → Exists (Over E Item In n)
    some_over n = some_behind symbol.In (some_then x.some (λ over. some_headed E Item In (λ c. stmt.For n over c) some_body))

    each_rule : Rule K k (plain none) (Each E Item In) (λ i. each (expression i) (body i))
    unfolding each
    each_rule =
        behind_rule symbol.For refl (some_then (record { tokens = Name [] ∷ []; tree = []; spells = one_name [] }) some_over)
        (then_rule (accept_rule name_of name_inner)
        (λ n. behind_rule symbol.In refl (some_then x.some (λ over. some_headed E Item In (λ c. stmt.For n over c) some_body))
        (then_rule ex (λ over. headed_rule (λ c. stmt.For n over c)) (λ over v rest s h st. headed_stops (λ c. stmt.For n over c) v rest s h) (λ over. some_headed E Item In (λ c. stmt.For n over c) some_body)))
        (λ n v rest s h st. stops_none (v ++ rest)) some_over)

    pub statement_rule : Rule K k (plain after_if) (Statement E Item In) (λ i. statement (expression i) (display i) (body i))
    unfolding statement
    statement_rule =
        iff_rule (to_statement E Item In) (from_statement E Item In)
        (choose_rule (is symbol.If) branches_rule
        (choose_rule (is symbol.For) (any_rule each_rule) (any_rule simple_rule)
        (λ u rest s h st. sees_mark symbol.For (Then (One name_of) (Over E Item In)) (is symbol.For) true refl u rest s h)
        (λ u rest s h st. line_sees E Item (is symbol.For) false refl refl (λ n. refl) u rest s h))
        (λ u rest s h st. sees_mark symbol.If (Then (ArmIs E Item In) (λ first. Then (Others E Item In first) (Otherwise E Item In))) (is symbol.If) true refl u rest s h)
        (λ u rest s h st. elim h [ inl w ↦ sees_mark symbol.For (Then (One name_of) (Over E Item In)) (is symbol.If) false refl u rest s w | inr w ↦ line_sees E Item (is symbol.If) false refl refl (λ n. refl) u rest s w ]))
