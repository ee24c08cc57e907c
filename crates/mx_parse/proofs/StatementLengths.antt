-- The parsers of statements take at least a token.
use Rattle.std.proofs.Common.{ℕ, zero, suc, List, [], ◌∷◌, ◌++◌, length, Some, None, refl, ap, arith, inl, inr}
use Rattle.mx_syntax.specs.declared.expr.Expr.{Expr}
use Rattle.mx_syntax.specs.declared.stmt.Stmt.{Stmt}
use Rattle.mx_syntax.specs.declared.stmt.Stmt.TheVariants as stmt
use Rattle.mx_syntax.specs.declared.stmt.IfArm.{IfArm}
use Rattle.mx_syntax.specs.declared.stmt.ArithOp.TheVariants.{Add, Sub, Mul}
use Rattle.mx_syntax.specs.declared.stmt.ItemEntry.{ItemEntry}
use Rattle.mx_grammar.specs.declared.word.Symbol.{Symbol as Symbols}
use Rattle.mx_grammar.specs.declared.word.Symbol.TheVariants as symbol
use Rattle.mx_grammar.specs.Words.{is}
use Rattle.mx_grammar.specs.Reading.{Parser, ◌>>=◌, ◌>>◌, pure, sees, says, expect, choose, Turn, On, Done, turning, many_turn, levels}
use Rattle.mx_grammar.specs.AddressParsers.{name_of}
use Rattle.mx_grammar.proofs.Exact.{Kinds, read, bind_ok, ok_pair, chosen}
use Rattle.mx_grammar.proofs.Meets.{Meets, Shorter, accept_shorter, loop_meets}
use Rattle.mx_grammar.proofs.LoopCode.{Within}
use Rattle.mx_parse.specs.StatementParsers.{valued, given, returning, returned, change, changed, simple, headed, arm_of, arm, elif, otherwise, branches, each, statement, statement_turn, body_by, block_rule, block}

pub shorter_within : {A : Type 0} (P : Parser A) → Shorter P → Within P
shorter_within P p ts rest a e = let h = p ts rest a e in omega (arith, h)

pub pure_within : {A : Type 0} (a : A) → Within (pure a)
pure_within a ts rest b e = let q = ok_pair e in omega (arith, ap length q.1)

pub then_within : {A B : Type 0} (P : Parser A) (f : A → Parser B) → Within P → ((a : A) → Within (f a)) → Within (P >>= f)
then_within P f p q ts rest b e = let o = bind_ok (P ts) f b rest e in let one = p ts o.1 o.0 o.2 in let two = q o.0 o.1 rest b o.3 in omega (arith, one, two)

pub then_shorter : {A B : Type 0} (P : Parser A) (f : A → Parser B) → Shorter P → ((a : A) → Within (f a)) → Shorter (P >>= f)
then_shorter P f p q ts rest b e = let o = bind_ok (P ts) f b rest e in let one = p ts o.1 o.0 o.2 in let two = q o.0 o.1 rest b o.3 in omega (arith, one, two)

-- behind a symbol
pub behind_shorter : {B : Type 0} (s : Symbols) (Q : Parser B) → Within Q → Shorter (expect s >> Q)
behind_shorter s Q q = then_shorter (expect s) (λ _. Q) (accept_shorter (says (is s))) (λ _. q)

pub behind_within : {B : Type 0} (s : Symbols) (Q : Parser B) → Within Q → Within (expect s >> Q)
behind_within s Q q = shorter_within _ (behind_shorter s Q q)

pub marked_within : {A : Type 0} (s : Symbols) (a : A) → Within (expect s >> pure a)
marked_within s a = behind_within s _ (pure_within a)

pub choose_within : {A : Type 0} (is : Kinds) (P Q : Parser A) → Within P → Within Q → Within (choose is P Q)
choose_within is P Q p q ts rest a e = elim (chosen (sees is ts) (P ts) (Q ts) (read (a, rest)) e) [ inl c ↦ p ts rest a c.1 | inr c ↦ q ts rest a c.1 ]

pub choose_shorter : {A : Type 0} (is : Kinds) (P Q : Parser A) → Shorter P → Shorter Q → Shorter (choose is P Q)
choose_shorter is P Q p q ts rest a e = elim (chosen (sees is ts) (P ts) (Q ts) (read (a, rest)) e) [ inl c ↦ p ts rest a c.1 | inr c ↦ q ts rest a c.1 ]

itself : {A : Type 0} (P : Parser A) → Within P → Meets 0 P P
itself P p = record { grows = λ ts rest a e. e; same = λ ts lt. refl; within = p }

pub loop_within : {S B : Type 0} (turn : S → Parser (Turn S B)) → ((s : S) → Within (turn s)) → (s : S) → Within (turning turn s)
loop_within turn p s = (loop_meets 0 turn turn (λ t. itself (turn t) (p t)) s).within

module _ (expression : Parser Expr) (display : Parser (List ItemEntry)) (e : Within expression) (d : Within display) where
  valued_within : {A : Type 0} (build : Expr → A) → Within (valued build expression)
  unfolding valued
  valued_within build = then_within _ _ e (λ x. marked_within symbol.Newline (build x))

  given_within : {A : Type 0} (item : List ItemEntry → A) (value : Expr → A) → Within (given item value expression display)
  unfolding given
  given_within item value = choose_within _ _ _ (then_within _ _ d (λ es. marked_within symbol.Newline (item es))) (valued_within value)

  returned_within : Within (returned expression display)
  unfolding returned
  returned_within = choose_within _ _ _ (marked_within symbol.Newline (stmt.Return None)) (given_within (λ es. stmt.ReturnItem es) returning)

  change_within : Within change
  unfolding change
  change_within = choose_within _ _ _ (marked_within symbol.PlusAssign Add) (choose_within _ _ _ (marked_within symbol.MinusAssign Sub) (marked_within symbol.TimesAssign Mul))

  changed_within : (n : List ℕ) → Within (changed expression n)
  unfolding changed
  changed_within n =
      choose_within _ _ _ (behind_within symbol.Assign _ (valued_within (λ x. stmt.Assign n x))) (then_within _ _ change_within (λ op. valued_within (λ x. stmt.Change n op x)))

  simple_shorter : Shorter (simple expression display)
  unfolding simple
  simple_shorter =
      choose_shorter _ _ _ (behind_shorter symbol.Pass _ (marked_within symbol.Newline stmt.Pass))
      (choose_shorter _ _ _ (behind_shorter symbol.Return _ returned_within) (then_shorter _ _ (accept_shorter name_of) changed_within))

  module _ (body : Parser (List Stmt)) (b : Within body) where
    headed_within : {A : Type 0} (build : List Stmt → A) → Within (headed build body)
    unfolding headed
    headed_within build = behind_within symbol.Colon _ (then_within _ _ b (λ c. pure_within (build c)))

    arm_within : Within (arm expression body)
    unfolding arm
    arm_within = then_within _ _ e (λ test. headed_within (arm_of test))

    pub elif_shorter : Shorter (elif expression body)
    unfolding elif
    elif_shorter = behind_shorter symbol.Elif _ arm_within

    elif_turn : (found : List IfArm) → Within (many_turn (is symbol.Elif) (elif expression body) found)
    elif_turn found = choose_within _ _ _ (then_within _ _ (shorter_within _ elif_shorter) (λ a. pure_within (On (found ++ a ∷ [])))) (pure_within (Done found))

    otherwise_within : (arms : List IfArm) → Within (otherwise body arms)
    unfolding otherwise
    otherwise_within arms = choose_within _ _ _ (behind_within symbol.Else _ (headed_within (λ c. stmt.If arms (Some c)))) (pure_within (stmt.If arms None))

    branches_shorter : Shorter (branches expression body)
    unfolding branches
    branches_shorter = behind_shorter symbol.If _ (then_within _ _ arm_within (λ first. then_within _ _ (loop_within _ elif_turn (first ∷ [])) otherwise_within))

    each_shorter : Shorter (each expression body)
    unfolding each
    each_shorter =
        behind_shorter symbol.For _ (then_within _ _ (shorter_within _ (accept_shorter name_of))
        (λ n. behind_within symbol.In _ (then_within _ _ e (λ over. headed_within (λ c. stmt.For n over c)))))

    pub statement_shorter : Shorter (statement expression display body)
    unfolding statement
    statement_shorter = choose_shorter _ _ _ branches_shorter (choose_shorter _ _ _ each_shorter simple_shorter)

    pub turn_shorter : (found : List Stmt) → Shorter (statement_turn expression display body found)
    unfolding statement_turn
    turn_shorter found = then_shorter _ _ statement_shorter (λ s. choose_within _ _ _ (marked_within symbol.Dedent (Done (found ++ s ∷ []))) (pure_within (On (found ++ s ∷ []))))

  module _ (block : Parser (List Stmt)) (b : Within block) where
    pub body_by_within : Within (body_by expression display block)
    unfolding body_by
    body_by_within = choose_within _ _ _ b (then_within _ _ (shorter_within _ simple_shorter) (λ s. pure_within (s ∷ [])))

    block_rule_within : Within (block_rule expression display block)
    unfolding block_rule
    block_rule_within = behind_within symbol.Newline _ (behind_within symbol.Indent _ (loop_within _ (λ found. shorter_within _ (turn_shorter _ body_by_within found)) []))

  pub block_within : (n : ℕ) → Within (block expression display n)
  unfolding levels
  block_within zero = λ ts rest a h. absurd cc
  block_within (suc n) = block_rule_within (block expression display n) (block_within n)
